use Rattle.std.proofs.Common.{sym, ap, ◌∙◌, arith}
use Rattle.std.specs.Prelude.{slice_get}
use Rattle.oathd_roster.proofs.EnrolmentLemmas.{fresh_all, fresh_step}
use Rattle.oathd_roster.proofs.enrolment.fresh_floors.Goals as goal

pub loop-number-preserved : goal.loop-number-preserved
loop-number-preserved c =
    fresh_step c.args.settings c.args.moment c.args.users.now.book c.args.users.now.floors.items c.loop-number.number c.token_at.result.now c.floor_at-counter.result
    c.kind-kind.result c.fresh_floor-floor.result c.loop-number.floors.items c.push.new.self.items c.token_at.ensures
    (ap (λ l. slice_get l c.loop-number.number) (sym c.deref.ensures.value) ∙ c.floor_at-counter.ensures)
    c.kind-kind.ensures c.fresh_floor-floor.ensures c.in_ok-push.ensures.items c.loop-number.invariant

pub returns-clause-each : goal.returns-clause-each
returns-clause-each c =
    fresh_all c.args.settings c.args.moment c.args.users.now.book c.args.users.now.floors.items c.loop-number.floors.items c.loop-number.number c.loop-number.invariant
    (omega arith) c.args.users.now.each
