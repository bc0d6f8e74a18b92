use Rattle.std.proofs.Common.{◌≡◌, length}
use Rattle.oathd_sim.specs.Event.{empty_script, script_value}
use Rattle.oathd_sim.specs.Lines.{lines_of}
use Rattle.oathd_sim.specs.Script.{with_line}
use Rattle.oathd_sim.proofs.TurnLemmas.{HasTaken}
use Rattle.oathd_sim.proofs.script.read_script.Given as goal

-- the yielded lines are taken, and their script is `l.script`
abbrev pub invariant-loop-line : goal.invariant-loop-line
invariant-loop-line l = record {
  count : l.number ≡ length l.yielded;
  taken : HasTaken (with_line l.fn.nodes) empty_script (lines_of l.fn.text) (script_value l.script) l.number;
}
