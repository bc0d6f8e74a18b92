use Rattle.std.proofs.Common.{◌≡◌, ◌≤◌, ◌-◌, ◌++◌, drop, length, take}
use Rattle.std.specs.Prelude.{map}
use Rattle.floor_port.proofs.pace.one_less.Given as goal

-- the numbers before the place are less by one, and the others are as they came
abbrev pub invariant-loop-place : goal.invariant-loop-place
invariant-loop-place l = record {
  within : l.place ≤ 10;
  given : length l.fn.numbers ≡ 10;
  len : length l.numbers ≡ 10;
  done : l.numbers ≡ map (λ number. number - 1) (take l.place l.fn.numbers) ++ drop l.place l.fn.numbers;
}
