use Rattle.std.proofs.Common.{◌≡◌, ◌≤◌, ◌++◌, length, map, drop}
use Rattle.oath_node.specs.Machine.{answers_to_decisions, kept_with_all, reply_with}
use Rattle.oath_node.proofs.settling.settle.Given as goal

-- what was decided so far, and what the rest leads to
abbrev pub invariant-loop-entry : goal.invariant-loop-entry
invariant-loop-entry g l = record {
  told : l.replies.items ++ map reply_with (answers_to_decisions l.owners (drop l.entry-index l.decisions)) ≡ map reply_with (answers_to_decisions l.owners l.decisions);
  kept : kept_with_all l.answers (answers_to_decisions l.owners (drop l.entry-index l.decisions)) ≡ kept_with_all l.initial.answers (answers_to_decisions l.owners l.decisions);
  room : length l.replies.items ≤ l.entry-index;
}
