use Rattle.std.proofs.Common.{◌≡◌, map, take}
use Rattle.retired_rows.specs.Renewed.{pass_put, renumbered}
use Rattle.retired_rows.proofs.renewing.renewing_puts.Given as goal

-- the puts of the passes so far
abbrev pub invariant-loop-pass : goal.invariant-loop-pass
invariant-loop-pass l = l.puts.items ≡ map (pass_put l.kept) (renumbered l.kept (take l.pass-index l.passes))
