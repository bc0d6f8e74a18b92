use Rattle.std.proofs.Common.{◌≡◌, ℕ, ◌-◌, ◌++◌, drop, map, take}
use Rattle.answer_ring.proofs.answers.lower_places.Given as goal

-- those before are one lower, the rest is as it was
abbrev pub invariant-loop-place : goal.invariant-loop-place
invariant-loop-place l =
    l.places ≡ map (λ (place : ℕ). place - 1) (take l.place-index l.initial.places) ++ drop l.place-index l.initial.places
