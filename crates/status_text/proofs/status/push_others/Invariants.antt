use Rattle.std.proofs.Common.{◌≡◌, ◌++◌, map, take}
use Rattle.std.specs.Prelude.{All}
use Rattle.status_text.specs.Status.{other_line}
use Rattle.status_text.specs.StatusLine.{IsStatusLine}
use Rattle.status_text.proofs.status.push_others.Given as goal

abbrev pub invariant-loop-other : goal.invariant-loop-other
invariant-loop-other l =
    (l.lines.items ≡ l.initial.lines.items ++ map other_line (take l.other-index l.others))
    × (All IsStatusLine l.initial.lines.items → All IsStatusLine l.lines.items)
