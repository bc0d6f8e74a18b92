use Rattle.std.proofs.Common.{None, sym}
use Rattle.std.specs.Prelude.{slice_index_or}
use Rattle.floor_port.proofs.KeepLemmas.{place_within}
use Rattle.floor_port.proofs.RowLemmas.{row_at}
use Rattle.floor_port.proofs.claims.keep_all.Goals as goal

pub keep-requires-clause-within : goal.keep-requires-clause-within
keep-requires-clause-within c =
    let names = c.args._names.now in
    let floor = c.index-floors-place.result in
    let place = c.loop-place.place in
    place_within names c.loop-place.kept c.args.member floor.name (slice_index_or c.args.rows.now place None)
    (row_at names c.args.rows.now c.args.floors.now place floor c.requires.rows c.loop-place-test.true (sym c.index-floors-place.is))
    c.loop-place.invariant.each c.requires.member.0 c.requires.member.1
