use Rattle.std.proofs.Common.{◌≡◌, [], ◌∷◌, length, inr, refl, sym, ap, ◌∙◌, arith, rules}
use Rattle.sqlite.specs.Held.{state}
use Rattle.floor_sql.proofs.ShapeLemmas.{one_item}
use Rattle.floor_sql.proofs.TextLemmas.{select_self_plain}
use Rattle.floor_sql.proofs.ReadLemmas.{node_held}
use Rattle.sqlite.specs.Order.{column}
use Rattle.floor_sql.specs.declared.schema.Format.TheVariants.{Numbered}
use Rattle.floor_sql.specs.Stored.{self_columns}
use Rattle.floor_sql.specs.Shown.{self_shown}
use Rattle.floor_sql.proofs.ReadOnlyLemmas.{fails, finds_unusable, reads}
use Rattle.floor_sql.proofs.UsableLemmas.{self_shows}
use Rattle.floor_sql.proofs.read.read_own_node.Goals as goal
use Rattle.floor_sql.proofs.read.read_own_node.Goals.{in_default-via-then-as_slice-lt1, in_default-via-else-as_slice-lt1+else-this-lt2}

pub ask-requires : goal.ask-requires
ask-requires g c clean = select_self_plain c.args.conn.now.schema (inr (Numbered, c.requires clean))

pub returns-in-Some-clause-reads : goal.returns-in-Some-clause-reads
returns-in-Some-clause-reads g c = reads c.in_ok-rows.ensures.reads (λ clean.
    let rows = c.in_ok-rows.rows.items in
    let one : rows ≡ c.shown-item.result ∷ [] =
    sym c.as_slice.ensures.value ∙ one_item c.as_slice.result.now c.shown-item.result (omega arith) (omega arith) c.shown-item.is in
    node_held (state g.S.Store c.args.conn.now) (state g.S.Store c.ask.new.conn) rows c.shown-item.result c.in-Some.node
    (c.requires (omega (arith, c.ask.ensures.reads.crash.clean))) (c.in_ok-rows.ensures.shown clean) one
    c.in-Some.ensures.finds.value.of_version c.in-Some.ensures.finds.value.of_node)

pub returns-in_default-clause-reads : goal.returns-in_default-clause-reads
returns-in_default-clause-reads g c = finds_unusable c.in_ok-rows.ensures.reads refl (λ clean has.
    let rows = c.in_ok-rows.rows.items in
    let it = self_shows (state g.S.Store c.args.conn.now) (state g.S.Store c.ask.new.conn) rows (self_columns has.found)
    (inr (Numbered, c.requires (omega (arith, c.ask.ensures.reads.crash.clean)))) (c.in_ok-rows.ensures.shown clean)
    (record { found = has.found; only = has.only; shows = refl }) in
    let one : length c.as_slice.result.now ≡ 1 = ap length (c.as_slice.ensures.value ∙ it.1) in
    elim c.in_default.branch [
      | in_default-via-then-as_slice-lt1 w ↦ search (one, rules)
      | in_default-via-else-as_slice-lt1+else-this-lt2 w ↦ search (one, rules)
    ])

pub returns-clause-reads : goal.returns-clause-reads
returns-clause-reads g c = finds_unusable c.in_ok-rows.ensures.reads refl (λ clean has.
    let rows = c.in_ok-rows.rows.items in
    let it = self_shows (state g.S.Store c.args.conn.now) (state g.S.Store c.ask.new.conn) rows (self_columns has.found)
    (inr (Numbered, c.requires (omega (arith, c.ask.ensures.reads.crash.clean)))) (c.in_ok-rows.ensures.shown clean)
    (record { found = has.found; only = has.only; shows = refl }) in
    let one : rows ≡ c.shown-item.result ∷ [] =
    sym c.as_slice.ensures.value ∙ one_item c.as_slice.result.now c.shown-item.result (omega arith) (omega arith) c.shown-item.is in
    let both = sym it.1 ∙ one in
    let same : it.0 ≡ c.shown-item.result = cc in
    let shows : self_shown c.shown-item.result ≡ self_columns has.found = ap self_shown (sym same) ∙ it.2 in
    c.node_in.ensures.finds.none c.in-None.is has.node has.range (record {
      id = ap (λ r. column r 0) shows ∙ has.keyed;
      of_version = ap (λ r. column r 1) shows ∙ has.version;
      of_node = ap (λ r. column r 2) shows ∙ has.of_node;
    }))

pub returns-in_err-rows-clause-reads : goal.returns-in_err-rows-clause-reads
returns-in_err-rows-clause-reads g c = fails c.from_residual.ensures.1 c.in_err-rows.ensures.reads
    (λ clean is. absurd (c.in_err-rows.ensures.unusable clean is))
