use Rattle.std.proofs.Common.{rules, arith, refl}
use Rattle.std.specs.Prelude.{◌≡◌, Err}
use Rattle.named_floors.specs.Level.{told_by}
use Rattle.named_floors.proofs.LevelLemmas.{level_fails, level_next, told_there}
use Rattle.named_floors.proofs.level.level_named.Goals as goal

pub returns-in_err-level_row : goal.returns-in_err-level_row
returns-in_err-level_row g c =
    let gathered = c.args.gathered.now in
    let roster = c.args.roster.now in
    let told = told_there gathered roster c.in-Ok.index c.loop-token.token c.entry_at.result c.entry_at.result.name c.copied-told.result c.entry_at.ensures refl
    (search rules) c.in-Ok.ensures in
    let same : c.from_residual.result ≡ Err c.in_err-level_row.field-0.0 = search rules in
    level_fails g.S.FloorStore.held c.args.store.now c.loop-token.store c.level_row.new.store (told_by gathered roster) c.loop-token.token c.loop-token.invariant
    c.copied-told.result told (omega (arith, c.tokens-token-end.ensures.value)) c.level_row.result c.from_residual.result c.in_err-level_row.field-0.0
    c.in_err-level_row.was same c.level_row.ensures

pub loop-token-preserved : goal.loop-token-preserved
loop-token-preserved g c =
    let gathered = c.args.gathered.now in
    let roster = c.args.roster.now in
    let told = told_there gathered roster c.in-Ok.index c.loop-token.token c.entry_at.result c.entry_at.result.name c.copied-told.result c.entry_at.ensures refl
    (search rules) c.in-Ok.ensures in
    level_next g.S.FloorStore.held c.args.store.now c.loop-token.store c.level_row.new.store (told_by gathered roster) c.loop-token.token c.loop-token.invariant
    c.copied-told.result told (omega (arith, c.tokens-token-end.ensures.value)) c.level_row.result c.in_ok-level_row.field-0 c.in_ok-level_row.was
    c.level_row.ensures
