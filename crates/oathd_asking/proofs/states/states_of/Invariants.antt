use Rattle.std.proofs.Common.{◌≡◌, length, map}
use Rattle.oathd_asking.specs.Survey.{AreStates}
use Rattle.oathd_asking.proofs.states.states_of.Given as goal

-- the states of the members so far
abbrev pub invariant-loop-first : goal.invariant-loop-first
invariant-loop-first g l = record {
  number : l.number ≡ l.first-index;
  count : length l.texts.items ≡ l.first-index;
  states : AreStates l.operator 1 (map (λ text. text.items) l.texts.items);
}
