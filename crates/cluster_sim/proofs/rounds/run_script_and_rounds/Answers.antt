use Rattle.std.proofs.Common.{◌≡◌, ℕ, ◌≤◌, List, ◌++◌, length, map, sym, subst, ◌∙◌, arith}
use Rattle.std.specs.Global.{Vec}
use Rattle.std.proofs.lemmas.List.{length-map}
use Rattle.floor_store.specs.Content.{Content}
use Rattle.oath_node.specs.Hosted.{Hosted}
use Rattle.oath_node.specs.Machine.{Config}
use Rattle.cluster_sim.specs.Journal.{AreSpelledAlong, IsRun, JournalRecord, no_journal}
use Rattle.cluster_sim.specs.RoundRun.{AreActs}
use Rattle.cluster_sim.specs.Run.{event_of, floor_lists, round_lines}
use Rattle.cluster_sim.specs.Rounds.{events_with_rounds}
use Rattle.cluster_sim.specs.World.{first_start, WorldEvent, opening_world, world_of}
use Rattle.cluster_sim.proofs.Reporting.{recorded_report}
use Rattle.cluster_sim.proofs.RoundPlay.{all_happened, stay_spelled}
use Rattle.cluster_sim.proofs.Spelled.{acts_in_range, all_spelled, first_fine, then_spelled}
use Rattle.cluster_sim.proofs.rounds.run_script_and_rounds.Goals as goal

pub returns : goal.returns
returns c =
    let config : Config = record { book = c.args.book.now; limits = c.args.settings } in
    let key = c.args.key.now in
    let start = first_start (floor_lists c.args.floors.now) in
    let before = map (event_of key) c.args.before.now in
    let live = c.args.live.now in
    let lines = round_lines c.args.lines.now in
    let n = length c.args.before.now in
    let same : n ≡ length before = sym (length-map c.args.before.now (event_of key)) in
    let opening = opening_world config start in
    let few : length c.args.book.now ≤ 10000 = omega (arith, c.len-tokens.ensures.value, c.len-tokens.ensures.range) in
    let opened = subst (λ (j : JournalRecord). IsRun config key opening (record { nodes = c.deref_mut-cluster.result.now; journal = j })) (sym c.new-journal.ensures)
    (subst (λ (l : List (Hosted Content)). IsRun config key opening (record { nodes = l; journal = no_journal })) (sym c.deref_mut-cluster.ensures.value) c.in_ok-nodes.ensures) in
    let nine = subst (λ m. m ≤ 9) (sym (length-map c.args.floors.now (λ (v : Vec ℕ). v.items))) c.requires.last in
    let range = c.events_are_in_range.ensures key in
    let fine = first_fine config (floor_lists c.args.floors.now) few nine c.floors_are_in_range.ensures in
    let spelled = all_spelled c.rulings_have_grounds.ensures.grounds config start before fine range in
    let later : (acts : List WorldEvent) → AreActs acts → AreSpelledAlong config (before ++ acts) opening =
    λ acts are. then_spelled c.rulings_have_grounds.ensures.grounds config start before acts fine range (acts_in_range acts are) in
    let played = c.in_ok-play.ensures opening spelled opened in
    let done = c.in_ok-_next.ensures.plays config (world_of config start before) played (stay_spelled config start before n same later) in
    let ended = all_happened config key start before live lines n same (record { nodes = c.play_rounds.new.nodes; journal = c.play_rounds.new.journal }) c.in_ok-_next._next done in
    c.report_of_journal.ensures ∙ recorded_report key (world_of config start (events_with_rounds config start before live lines)) c.play_rounds.new.journal ended.recorded
