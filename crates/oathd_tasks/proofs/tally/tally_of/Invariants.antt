use Rattle.std.proofs.Common.{◌≡◌, ◌≤◌, length}
use Rattle.token_file.specs.Fields.{lines_of}
use Rattle.oathd_tasks.specs.Tally.{tally_value}
use Rattle.oathd_tasks.proofs.TallyLemmas.{HasCounted}
use Rattle.oathd_tasks.proofs.tally.tally_of.Given as goal

-- the yielded lines are counted as `l.tally`
abbrev pub invariant-loop-line : goal.invariant-loop-line
invariant-loop-line l = record {
  count : l.number ≡ length l.yielded;
  bound : l.tally.ignored ≤ l.number;
  counted : HasCounted (lines_of l.fn.text) (tally_value l.tally) l.number;
}
