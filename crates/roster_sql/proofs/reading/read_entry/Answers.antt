use Rattle.std.proofs.Common.{◌≡◌, [], ◌∷◌, length, refl, sym, subst, ap, ◌∙◌, arith, rules}
use Rattle.sqlite.specs.Held.{state}
use Rattle.sqlite.specs.Given.{IsPlain}
use Rattle.sqlite.specs.Listing.{understood}
use Rattle.roster_sql.specs.Text.{select_entry}
use Rattle.floor_sql.proofs.ShapeLemmas.{one_item}
use Rattle.roster_sql.proofs.TextLemmas.{select_entry_plain}
use Rattle.roster_sql.proofs.ReadingLemmas.{entry_held, entry_shows}
use Rattle.roster_sql.specs.Roster.{entry_values}
use Rattle.roster_sql.specs.Read.{entry_shown}
use Rattle.floor_sql.proofs.ReadOnlyLemmas.{fails, finds_unusable, reads}
use Rattle.roster_sql.proofs.reading.read_entry.Goals as goal
use Rattle.roster_sql.proofs.reading.read_entry.Goals.{in_default-via-then-as_slice-lt1, in_default-via-else-as_slice-lt1+else-this-lt2}

pub ask-requires : goal.ask-requires
ask-requires g c clean = subst (λ s. IsPlain (understood s select_entry)) (sym (c.requires clean)) select_entry_plain

pub returns-in-Some : goal.returns-in-Some
returns-in-Some g c = reads c.in_ok-rows.ensures.reads (λ clean.
    let rows = c.in_ok-rows.rows.items in
    let one : rows ≡ c.shown-item.result ∷ [] =
    sym c.as_slice.ensures.value ∙ one_item c.as_slice.result.now c.shown-item.result (omega arith) (omega arith) c.shown-item.is in
    let shown = rw c.token_params-params.ensures at (c.in_ok-rows.ensures.shown clean) in
    entry_held (state g.S.Store c.args.conn.now) (state g.S.Store c.ask.new.conn) rows c.shown-item.result c.args.token c.in-Some.entry
    (c.requires (omega (arith, c.ask.ensures.reads.crash.clean))) shown one c.in-Some.ensures.value)

pub returns-in_default : goal.returns-in_default
returns-in_default g c = finds_unusable c.in_ok-rows.ensures.reads refl (λ clean has.
    let rows = c.in_ok-rows.rows.items in
    let shown = rw c.token_params-params.ensures at (c.in_ok-rows.ensures.shown clean) in
    let it = entry_shows (state g.S.Store c.args.conn.now) (state g.S.Store c.ask.new.conn) rows c.args.token
    (entry_values c.args.token has.entry) (c.requires (omega (arith, c.ask.ensures.reads.crash.clean))) shown has.only in
    let one : length c.as_slice.result.now ≡ 1 = ap length (c.as_slice.ensures.value ∙ it.1) in
    elim c.in_default.branch [
      | in_default-via-then-as_slice-lt1 w ↦ search (one, rules)
      | in_default-via-else-as_slice-lt1+else-this-lt2 w ↦ search (one, rules)
    ])

pub returns : goal.returns
returns g c = finds_unusable c.in_ok-rows.ensures.reads refl (λ clean has.
    let rows = c.in_ok-rows.rows.items in
    let shown = rw c.token_params-params.ensures at (c.in_ok-rows.ensures.shown clean) in
    let it = entry_shows (state g.S.Store c.args.conn.now) (state g.S.Store c.ask.new.conn) rows c.args.token
    (entry_values c.args.token has.entry) (c.requires (omega (arith, c.ask.ensures.reads.crash.clean))) shown has.only in
    let one : rows ≡ c.shown-item.result ∷ [] =
    sym c.as_slice.ensures.value ∙ one_item c.as_slice.result.now c.shown-item.result (omega arith) (omega arith) c.shown-item.is in
    let both = sym it.1 ∙ one in
    let same : it.0 ≡ c.shown-item.result = cc in
    c.entry_in.ensures.none c.in-None.is has.entry has.range (ap entry_shown (sym same) ∙ it.2))

pub returns-in_err-rows : goal.returns-in_err-rows
returns-in_err-rows g c = fails c.from_residual.ensures.1 c.in_err-rows.ensures.reads
    (λ clean is. absurd (c.in_err-rows.ensures.unusable clean is))
