use Rattle.std.proofs.Common.{ℕ, ◌≤◌, List, length, map, sym, subst, ◌∙◌, arith}
use Rattle.std.specs.Global.{Vec}
use Rattle.std.proofs.lemmas.List.{length-map}
use Rattle.floor_store.specs.Content.{Content}
use Rattle.oath_node.specs.Hosted.{Hosted}
use Rattle.oath_node.specs.Machine.{Config}
use Rattle.cluster_sim.specs.Journal.{IsRun, JournalRecord, no_journal}
use Rattle.cluster_sim.specs.Run.{event_of, floor_lists}
use Rattle.cluster_sim.specs.World.{first_start, opening_world, world_after_events}
use Rattle.cluster_sim.proofs.Reporting.{recorded_report}
use Rattle.cluster_sim.proofs.Spelled.{all_spelled, first_fine}
use Rattle.cluster_sim.proofs.run.run_script.Goals as goal

pub returns : goal.returns
returns c =
    let config : Config = record { book = c.args.book.now; limits = c.args.settings } in
    let key = c.args.key.now in
    let start = first_start (floor_lists c.args.floors.now) in
    let events = map (event_of key) c.args.events.now in
    let opening = opening_world config start in
    let few : length c.args.book.now ≤ 10000 = omega (arith, c.len-tokens.ensures.value, c.len-tokens.ensures.range) in
    let opened = subst (λ (j : JournalRecord). IsRun config key opening (record { nodes = c.deref_mut.result.now; journal = j })) (sym c.new-journal.ensures)
    (subst (λ (l : List (Hosted Content)). IsRun config key opening (record { nodes = l; journal = no_journal })) (sym c.deref_mut.ensures.value) c.in_ok-nodes.ensures) in
    let fine = first_fine config (floor_lists c.args.floors.now) few (subst (λ n. n ≤ 9) (sym (length-map c.args.floors.now (λ (v : Vec ℕ). v.items))) c.requires.last) c.floors_are_in_range.ensures in
    let spelled = all_spelled c.rulings_have_grounds.ensures.grounds config start events fine (c.events_are_in_range.ensures key) in
    c.report_of_journal.ensures ∙ recorded_report key (world_after_events config 0 events opening) c.play.new.journal (c.in_ok-play.ensures opening spelled opened).recorded
