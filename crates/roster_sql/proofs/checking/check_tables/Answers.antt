use Rattle.std.proofs.Common.{◌≡◌, ◌≤◌, refl, sym, subst, rules}
use Rattle.sqlite.specs.Held.{state}
use Rattle.floor_sql.specs.Schema.{most_rows, schema_of, version_of}
use Rattle.floor_sql.specs.Stored.{HoldsSelf, HoldsVersion}
use Rattle.floor_sql.specs.Usable.{HasUsableVersion}
use Rattle.floor_sql.proofs.ReadOnlyLemmas.{fails, finds_unusable, reads}
use Rattle.floor_sql.proofs.UsableLemmas.{self_is}
use Rattle.roster_sql.proofs.checking.check_tables.Goals as goal
use Rattle.roster_sql.proofs.checking.check_tables.Goals.{then-own-node-via-then-own-node, then-own-node-via-else-own-node+then-count-tokens}

pub returns : goal.returns
returns g c = reads c.in_ok-own.ensures.reads.only (λ clean.
    let trees = (state g.S.Store c.args.conn.now).now.trees in
    let format = c.args.format in
    let schema : c.args.conn.now.schema ≡ schema_of format = search rules in
    let node : c.in_ok-own.own ≡ c.args.node = search rules in
    let tokens : c.in_ok-own.count ≡ c.args.tokens = search rules in
    let own : HoldsSelf format trees c.in_ok-own.own c.in_ok-own.count c.in_ok-own._boot =
    subst (λ v. HoldsVersion trees v c.in_ok-own.own c.in_ok-own.count c.in_ok-own._boot) c.version-number.ensures (c.in_ok-own.ensures.reads.value clean) in
    let self : HoldsSelf format trees c.args.node c.args.tokens c.in_ok-own._boot = rw (node, tokens) at own in
    record { schema = schema; boot = c.in_ok-own._boot; self = self })

pub returns-in_err-own : goal.returns-in_err-own
returns-in_err-own g c = fails c.from_residual.ensures.1 c.in_err-own.ensures.reads.only (λ clean is usable.
    c.in_err-own.ensures.reads.unusable clean is (record {
      node = c.args.node;
      of_node = usable.of_node;
      tokens = c.args.tokens;
      of_tokens = subst (λ v. c.args.tokens ≤ most_rows v) (sym c.version-number.ensures) c.requires;
      self = subst (λ v. HasUsableVersion (state g.S.Store c.args.conn.now).now.trees v c.args.node c.args.tokens) (sym c.version-number.ensures) usable.self;
    }))

pub returns-then-own-node : goal.returns-then-own-node
returns-then-own-node g c = finds_unusable c.in_ok-own.ensures.reads.only refl (λ clean usable.
    let trees = (state g.S.Store c.args.conn.now).now.trees in
    let it = self_is trees (version_of c.args.format) c.in_ok-own.own c.in_ok-own.count c.in_ok-own._boot
    c.args.node c.args.tokens (subst (λ v. HoldsVersion trees v c.in_ok-own.own c.in_ok-own.count c.in_ok-own._boot) c.version-number.ensures (c.in_ok-own.ensures.reads.value clean)) usable.self in
    let same_node = it.0 in
    let same_tokens = it.1 in
    elim c.then-own-node.branch [
      | then-own-node-via-then-own-node w ↦ search (same_node, same_tokens, rules)
      | then-own-node-via-else-own-node+then-count-tokens w ↦ search (same_node, same_tokens, rules)
    ])
