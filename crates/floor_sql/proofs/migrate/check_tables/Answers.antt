use Rattle.std.proofs.Common.{◌≡◌, refl, subst, rules, arith}
use Rattle.sqlite.specs.Effect.{Database}
use Rattle.sqlite.specs.Held.{state}
use Rattle.sqlite.specs.State.{HasCleanDisk}
use Rattle.floor_store.specs.Content.{Content}
use Rattle.floor_sql.specs.Schema.{undrifted_schema}
use Rattle.floor_sql.specs.Stored.{HoldsVersion}
use Rattle.floor_sql.specs.Shown.{HasPasses}
use Rattle.floor_sql.specs.Migrate.{HasUndrifted}
use Rattle.floor_sql.proofs.ReadLemmas.{read_then}
use Rattle.floor_sql.proofs.ReadOnlyLemmas.{fails, finds_unusable, reads, reads_then}
use Rattle.floor_sql.proofs.UsableLemmas.{self_is}
use Rattle.floor_sql.proofs.migrate.check_tables.Goals as goal
use Rattle.floor_sql.proofs.migrate.check_tables.Goals.{then-own-node-via-then-own-node, then-own-node-via-else-own-node+then-count-tokens}

pub returns : goal.returns
returns g c = reads (reads_then (reads_then c.in_ok-own.ensures.reads.only c.in_ok-check_floors.ensures.only)
    c.in_ok-_passes.ensures.reads.only) (λ clean.
    let s0 = state g.S.Store c.args.conn.now in
    let s1 = state g.S.Store c.read_self.new.conn in
    let s2 = state g.S.Store c.check_floors.new.conn in
    let trees = s0.now.trees in
    let clean2 : HasCleanDisk s2 = omega (arith, c.count_passes.ensures.reads.only.crash.clean) in
    let clean1 : HasCleanDisk s1 = omega (arith, c.check_floors.ensures.only.crash.clean) in
    let first = c.in_ok-own.ensures.reads.only.read clean1 in
    let second = read_then s0 s1 s2 first (c.in_ok-check_floors.ensures.only.read clean2) in
    let schema : c.args.conn.now.schema ≡ undrifted_schema = search rules in
    let floors : HasUndrifted trees c.args.tokens = subst (λ (d : Database). HasUndrifted d.trees c.args.tokens) first.now (c.in_ok-check_floors.ensures.value clean2) in
    let count = c.in_ok-_passes._passes.0 in
    let last = c.in_ok-_passes._passes.1 in
    let all : HasPasses trees count last = subst (λ (d : Database). HasPasses d.trees count last) second.now (c.in_ok-_passes.ensures.reads.value clean) in
    let boot = c.in_ok-own._boot in
    let node : c.in_ok-own.own ≡ c.args.node = search rules in
    let tokens : c.in_ok-own.count ≡ c.args.tokens = search rules in
    let self : HoldsVersion trees 1 c.args.node c.args.tokens boot = rw (node, tokens) at (c.in_ok-own.ensures.reads.value clean1) in
    let content : Content = record { rows = floors.rows; boot = boot; last = last } in (
      content,
      all.passes,
      record {
        schema = schema;
        floors = floors.floors;
        undrifted = floors.undrifted;
        of_tokens = floors.counted;
        self = self;
        pass = all.holds;
        last = all.is_last;
      },
    ))

pub returns-in_err-own : goal.returns-in_err-own
returns-in_err-own g c = fails c.from_residual.ensures.1 c.in_err-own.ensures.reads.only (λ clean is usable.
    c.in_err-own.ensures.reads.unusable clean is (record {
      node = c.args.node;
      of_node = usable.of_node;
      tokens = c.args.tokens;
      of_tokens = c.requires;
      self = usable.self;
    }))

pub returns-then-own-node : goal.returns-then-own-node
returns-then-own-node g c = finds_unusable c.in_ok-own.ensures.reads.only refl (λ clean usable.
    let it = self_is (state g.S.Store c.args.conn.now).now.trees 1 c.in_ok-own.own c.in_ok-own.count c.in_ok-own._boot
    c.args.node c.args.tokens (c.in_ok-own.ensures.reads.value clean) usable.self in
    let same_node = it.0 in
    let same_tokens = it.1 in
    elim c.then-own-node.branch [
      | then-own-node-via-then-own-node w ↦ search (same_node, same_tokens, rules)
      | then-own-node-via-else-own-node+then-count-tokens w ↦ search (same_node, same_tokens, rules)
    ])
