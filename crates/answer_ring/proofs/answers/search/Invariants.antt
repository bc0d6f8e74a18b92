use Rattle.std.proofs.Common.{◌≡◌, ℕ, ◌-◌, ◌^◌, ◌<◌, ◌≤◌, length, true, false, is_gt}
use Rattle.std.specs.Option.{option_copied}
use Rattle.answer_ring.specs.AnswerIndex.{IsLastEqual, indexed_answer}
use Rattle.answer_ring.specs.Answers.{answer_order}
use Rattle.answer_ring.proofs.answers.search.Given as goal

-- below `low` all are at most the one sought, from `high` on all are above it, and each comparison halves what is between
abbrev pub invariant-loop-low : goal.invariant-loop-low
invariant-loop-low l = record {
  rising : l.low ≤ l.high;
  in_range : l.high ≤ length l.index;
  below : (i : ℕ) → i < l.low → is_gt (answer_order (indexed_answer l.ring.items l.index i) l.sought) ≡ false;
  above : (i : ℕ) → l.high ≤ i → i < length l.index → is_gt (answer_order (indexed_answer l.ring.items l.index i) l.sought) ≡ true;
  last : IsLastEqual l.ring.items l.index l.sought l.low (option_copied l.newest);
  few : l.count ≤ 11;
  halves : l.high - l.low < 2 ^ (11 - l.count);
}

abbrev pub decreases-loop-low : goal.decreases-loop-low
decreases-loop-low l = l.high - l.low
