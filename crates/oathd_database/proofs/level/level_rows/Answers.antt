use Rattle.std.proofs.Common.{◌≡◌, map, rules, arith}
use Rattle.std.specs.Prelude.{Err}
use Rattle.floors_file.specs.Floors.{floors_value}
use Rattle.oathd_database.specs.Level.{told_by}
use Rattle.oathd_database.proofs.LevelLemmas.{level_fails, level_next, told_there}
use Rattle.oathd_database.proofs.level.level_rows.Goals as goal

pub returns-in_err-level_row : goal.returns-in_err-level_row
returns-in_err-level_row g c =
    let files = map floors_value c.args.files.now in
    let book = c.args.book.now in
    let told = told_there files book c.loop-token.token c.token_at.result.now c.name.result.now c.greatest-told.result c.token_at.ensures c.name.ensures.value
    c.greatest-told.ensures in
    let same : c.from_residual.result ≡ Err c.in_err-level_row.field-0.0 = search rules in
    level_fails g.S.FloorStore.held c.args.store.now c.loop-token.store c.level_row.new.store (told_by files book) c.loop-token.token c.loop-token.invariant
    c.greatest-told.result told (omega (arith, c.tokens-token-end.ensures.value)) c.level_row.result c.from_residual.result c.in_err-level_row.field-0.0
    c.in_err-level_row.was same c.level_row.ensures

pub loop-token-preserved : goal.loop-token-preserved
loop-token-preserved g c =
    let files = map floors_value c.args.files.now in
    let book = c.args.book.now in
    let told = told_there files book c.loop-token.token c.token_at.result.now c.name.result.now c.greatest-told.result c.token_at.ensures c.name.ensures.value
    c.greatest-told.ensures in
    level_next g.S.FloorStore.held c.args.store.now c.loop-token.store c.level_row.new.store (told_by files book) c.loop-token.token c.loop-token.invariant
    c.greatest-told.result told (omega (arith, c.tokens-token-end.ensures.value)) c.level_row.result c.in_ok-level_row.field-0 c.in_ok-level_row.was
    c.level_row.ensures
