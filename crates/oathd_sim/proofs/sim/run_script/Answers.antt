use Rattle.std.proofs.Common.{ℕ, List, length, map, sym, ap, ◌∙◌}
use Rattle.std.specs.Prelude.{◌==◌}
use Rattle.cluster_sim.specs.Run as code
use Rattle.cluster_sim.specs.Run.{round_lines, floor_lists}
use Rattle.cluster_sim.specs.Rounds.{events_with_rounds}
use Rattle.cluster_sim.specs.World.{first_start, report_of}
use Rattle.oath_node.specs.Machine.{Config}
use Rattle.oathd_sim.proofs.RunLemmas.{empty_is, eventful_same, script_same}
use Rattle.oathd_sim.proofs.sim.run_script.Goals as goal

pub returns-then-is_empty-clause-report : goal.returns-then-is_empty-clause-report
returns-then-is_empty-clause-report c =
    let config : Config = record { book = c.args.book.now; limits = c.args.settings } in
    let floors = floor_lists c.args.floors.now in
    c.in_ok-run_world.ensures.report
    ∙ ap (λ events. report_of config (first_start floors) (map (code.event_of c.args.key.now) events)) c.as_slice-events.ensures.value
    ∙ ap (report_of config (first_start floors)) (sym (eventful_same config floors c.args.key.now c.args.script.now
    (empty_is c.args.script.now.rounds.items
    (ap (λ rounds. length rounds == 0) (sym c.as_slice-rounds.ensures.value) ∙ sym c.is_empty.ensures ∙ c.if-is_empty.true))))

pub returns-clause-report : goal.returns-clause-report
returns-clause-report c =
    let config : Config = record { book = c.args.book.now; limits = c.args.settings } in
    let floors = floor_lists c.args.floors.now in
    let script = c.args.script.now in
    let before = map (code.event_of c.args.key.now) script.events.items in
    c.in_ok-run_rounds.ensures.report
    ∙ ap (λ events. report_of config (first_start floors) (events_with_rounds config (first_start floors) (map (code.event_of c.args.key.now) events) c.deref.result.now (round_lines c.as_slice-rounds.result.now)))
    c.as_slice-events.ensures.value
    ∙ ap (λ (live : List ℕ). report_of config (first_start floors) (events_with_rounds config (first_start floors) before live (round_lines c.as_slice-rounds.result.now))) c.deref.ensures.0
    ∙ ap (λ rounds. report_of config (first_start floors) (events_with_rounds config (first_start floors) before script.live.items (round_lines rounds))) c.as_slice-rounds.ensures.value
    ∙ ap (report_of config (first_start floors)) (sym (script_same config floors c.args.key.now script))
