use Rattle.std.proofs.Common.{◌≡◌, drop}
use Rattle.node_log.specs.Differing.{with_others}
use Rattle.node_log.proofs.differing.mark_others.Given as goal

-- the members so far are marked
abbrev pub invariant-loop-number : goal.invariant-loop-number
invariant-loop-number l =
    with_others (drop l.number-index l.numbers) l.others l.differing
    ≡ with_others l.numbers l.others l.initial.differing
