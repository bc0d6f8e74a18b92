use Rattle.std.proofs.Common.{subst, sym}
use Rattle.cluster_sim.specs.Run.{HasFloorsInRange, event_of}
use Rattle.cluster_sim.specs.declared.script.WorldEvent.{WorldEvent}
use Rattle.cluster_sim.proofs.Floors.{all_events, next_events, no_events, not_anew}
use Rattle.cluster_sim.proofs.run.events_are_in_range.Goals as goal
use Rattle.cluster_sim.proofs.run.events_are_in_range.Goals.{in-Anew, in_default}

pub loop-event-init : goal.loop-event-init
loop-event-init c key = no_events key c.args.events.now

pub loop-event-preserved : goal.loop-event-preserved
loop-event-preserved c key =
    let x = c.event-item.result in
    let k = c.loop-event.event-index in
    elim c.match-event.branch [
      | in-Anew w ↦ next_events key c.args.events.now k x c.loop-event-test.true c.event-item.is (subst (λ (e : WorldEvent). HasFloorsInRange (event_of key e)) (sym w.in-Anew.is) w.list_is_in_range.ensures) (c.loop-event.invariant key)
      | in_default w ↦ next_events key c.args.events.now k x c.loop-event-test.true c.event-item.is (not_anew key x w.in_default.not-Anew) (c.loop-event.invariant key)
    ]

pub returns : goal.returns
returns c key = all_events key c.args.events.now c.loop-event.event-index c.loop-event-test.false c.loop-event.auto.event-index-end (c.loop-event.invariant key)
