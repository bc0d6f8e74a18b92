use Rattle.std.proofs.Common.{◌≡◌, length, map, sym, subst}
use Rattle.std.proofs.lemmas.Result.{IfOk-weaker}
use Rattle.oath_node.specs.Machine.{Config}
use Rattle.cluster_sim.specs.Run.{event_of, floor_lists, round_lines}
use Rattle.cluster_sim.specs.Rounds.{AreServable, AreServed, events_with_rounds, rounds_events}
use Rattle.cluster_sim.specs.World.{first_start, ReportValue, report_of, world_of}
use Rattle.cluster_sim.proofs.rounds.run_rounds.Goals as goal

pub returns-clause-served : goal.returns-clause-served
returns-clause-served c servable =
    let config : Config = record { book = c.args.book.now; limits = c.args.settings } in
    let start = first_start (floor_lists c.args.floors.now) in
    let before = map (event_of c.args.key.now) c.args.before.now in
    let live = c.args.live.now in
    let lines = round_lines c.args.lines.now in
    let rounds = rounds_events config live (length before) (world_of config start before) lines in
    let served = c.rounds_are_the_reference.ensures.reported config start before rounds live lines servable (c.rounds_are_the_reference.ensures.these config start before live lines servable).0 in
    IfOk-weaker c.run_script_and_rounds.result (λ (r : ReportValue). r ≡ report_of config start (events_with_rounds config start before live lines)) (λ (r : ReportValue). AreServed config start before rounds live lines r.answers)
    (λ r is. subst (λ (x : ReportValue). AreServed config start before rounds live lines x.answers) (sym is) served) c.run_script_and_rounds.ensures

pub returns-clause-levelled : goal.returns-clause-levelled
returns-clause-levelled c end at numbers =
    let config : Config = record { book = c.args.book.now; limits = c.args.settings } in
    let start = first_start (floor_lists c.args.floors.now) in
    let before = map (event_of c.args.key.now) c.args.before.now in
    let live = c.args.live.now in
    let lines = round_lines c.args.lines.now in
    let old = world_of config start before in
    let rounds = rounds_events config live (length before) old lines in
    let servable : AreServable config live old lines = record { settled = c.sweep_levels.ensures.settles_at_end config start before live end; at_live = at; numbers = numbers } in
    let served = c.rounds_are_the_reference.ensures.reported config start before rounds live lines servable (c.rounds_are_the_reference.ensures.these config start before live lines servable).0 in
    IfOk-weaker c.run_script_and_rounds.result (λ (r : ReportValue). r ≡ report_of config start (events_with_rounds config start before live lines)) (λ (r : ReportValue). AreServed config start before rounds live lines r.answers)
    (λ r is. subst (λ (x : ReportValue). AreServed config start before rounds live lines x.answers) (sym is) served) c.run_script_and_rounds.ensures
