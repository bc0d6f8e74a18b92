use Rattle.std.proofs.Common.{◌≡◌, ◌++◌, take}
use Rattle.retired_rows.specs.Renewed.{row_puts}
use Rattle.retired_rows.proofs.renewing.push_rows.Given as goal

-- the puts of the rows so far are added
abbrev pub invariant-loop-place : goal.invariant-loop-place
invariant-loop-place l = l.puts.items ≡ l.fn.puts.items ++ row_puts (take l.place l.kept)
