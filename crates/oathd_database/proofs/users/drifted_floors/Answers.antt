use Rattle.std.proofs.Common.{sym, ap, ◌∙◌, arith}
use Rattle.std.specs.Prelude.{slice_get}
use Rattle.oathd_database.proofs.DriftLemmas.{drifted_all, drifted_step}
use Rattle.oathd_database.proofs.users.drifted_floors.Goals as goal

pub loop-number-preserved : goal.loop-number-preserved
loop-number-preserved c =
    drifted_step c.args.drift c.args.users.now.book c.args.users.now.floors.items c.loop-number.number c.token_at.result.now c.floor_at.result
    c.kind-kind.result c.drifted_floor-floor.result c.loop-number.floors.items c.push.new.self.items c.token_at.ensures
    (ap (λ l. slice_get l c.loop-number.number) (sym c.deref.ensures.value) ∙ c.floor_at.ensures)
    c.kind-kind.ensures c.drifted_floor-floor.ensures c.in_ok-push.ensures.items c.loop-number.invariant

pub returns-clause-each : goal.returns-clause-each
returns-clause-each c =
    drifted_all c.args.drift c.args.users.now.book c.args.users.now.floors.items c.loop-number.floors.items c.loop-number.number c.loop-number.invariant
    (omega arith) c.args.users.now.each
