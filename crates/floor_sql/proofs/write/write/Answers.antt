use Rattle.std.proofs.Common.{arith}
use Rattle.sqlite.specs.Held.{state}
use Rattle.sqlite.specs.State.{HasCleanDisk}
use Rattle.floor_sql.specs.Staged.{CanPut}
use Rattle.floor_sql.proofs.StagedLemmas.{has_self_in}
use Rattle.floor_sql.proofs.write.write.Goals as goal

pub update_boot-requires-clause-there : goal.update_boot-requires-clause-there
update_boot-requires-clause-there g c clean =
    let old = state g.S.Store c.args.tx.now.conn.now in
    let mid = state g.S.Store c.put_all.new.tx.conn.now in
    let before : HasCleanDisk old = omega (arith, c.put_all.ensures.changes.steps.crash.clean) in
    let can : CanPut old.now c.args.count c.args.puts.now = c.requires.there before in
    has_self_in c.args.count c.args.puts.now old.now mid.now can (c.in_ok-put_all.ensures.changes.made clean)

pub update_boot-requires-clause-inside : goal.update_boot-requires-clause-inside
update_boot-requires-clause-inside g c = c.in_ok-put_all.ensures.changes.steps.goes
