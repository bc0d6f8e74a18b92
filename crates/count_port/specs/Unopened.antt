-- Sums of the numbers of datagrams that were not opened.
use Rattle.std.specs.Prelude.{ℕ, ◌+◌, ◌-◌, ◌^◌, min}
use Rattle.sealed_port.specs.declared.cause.Unopened.{Unopened}

-- a sum, at most the greatest number of 64 bits
abbrev pub sum_of : ℕ → ℕ → ℕ
sum_of one other = min (one + other) (2 ^ 64 - 1)

-- the sums of all numbers
abbrev pub sums_of : Unopened → Unopened → Unopened
sums_of one other = record {
  form = sum_of one.form other.form;
  tag = sum_of one.tag other.tag;
  early = sum_of one.early other.early;
  late = sum_of one.late other.late;
  again = sum_of one.again other.again;
  limited = sum_of one.limited other.limited;
}
