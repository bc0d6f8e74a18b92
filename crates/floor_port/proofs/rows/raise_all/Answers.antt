use Rattle.std.proofs.Common.{None, sym}
use Rattle.std.specs.Prelude.{slice_index_or}
use Rattle.floor_port.proofs.RowLemmas.{number_within, row_at}
use Rattle.floor_port.proofs.rows.raise_all.Goals as goal

pub raise-requires : goal.raise-requires
raise-requires c =
    let names = c.args._names.now in
    let floor = c.index-floors-place.result in
    let place = c.loop-place.place in
    number_within names floor.name (slice_index_or c.args.rows.now place None) _
    (row_at names c.args.rows.now c.args.floors.now place floor c.requires.rows c.loop-place-test.true (sym c.index-floors-place.is)) c.loop-place.invariant.each
