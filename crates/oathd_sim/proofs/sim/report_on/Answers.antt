use Rattle.std.proofs.Common.{◌≡◌, ℕ, List, length, subst, ap, map, replicate, sym, ◌∙◌}
use Rattle.std.specs.Prelude.{IfOk, Some, slice_get}
use Rattle.cluster_sim.specs.World.{ReportValue, first_start, report_of}
use Rattle.oath_node.specs.Machine.{Config}
use Rattle.oathd_sim.specs.Event.{script_value}
use Rattle.users_input.specs.Input.{lines_between, pieces_of}
use Rattle.oathd_sim.specs.Sim.{script_events, script_lines}
use Rattle.oathd_sim.proofs.RunLemmas.{copy_at, told_by}
use Rattle.oathd_sim.proofs.sim.report_on.Goals as goal

pub returns-clause-report : goal.returns-clause-report
returns-clause-report c = λ moment.
    let parts = c.args.parts.now in
    let config : Config = record { book = parts.book; limits = c.args.settings } in
    let script = script_value c.in_ok-script.script in
    told_by (record { nodes = c.args.nodes; limits = c.args.settings; moment = moment; key = c.args.key.now }) parts.book parts.floors.items
    (script_lines c.args.nodes parts.first (lines_between parts.script.is_cut (pieces_of parts.script.bytes.items))) script
    (map (λ list. list.items) c.in_ok-floors.floors.items) c.run_script.result
    (ap (λ (t : List ℕ). script_lines c.args.nodes parts.first (lines_between parts.script.is_cut (pieces_of t))) (sym c.deref.ensures.value) ∙ c.in_ok-script.ensures.script)
    (c.in_ok-floors.ensures.same ∙ ap (replicate c.args.nodes) c.deref-2.ensures.value)
    (subst (λ lists. IfOk c.run_script.result (λ (report : ReportValue). report ≡ report_of config (first_start (map (λ list. list.items) lists))
    (script_events config (map (λ list. list.items) lists) c.args.key.now script))) c.deref-3.ensures.value c.run_script.ensures.report)

pub run_script-requires-clause-each : goal.run_script-requires-clause-each
run_script-requires-clause-each c = λ k list at.
    let here = subst (λ lists. slice_get lists k ≡ Some list) c.deref-3.ensures.value at in
    let same = copy_at (λ list. list.items) c.in_ok-floors.floors.items c.args.nodes c.args.parts.now.floors.items
    (c.in_ok-floors.ensures.same ∙ ap (replicate c.args.nodes) c.deref-2.ensures.value) k list here in
    ap length same ∙ c.args.parts.now.each
