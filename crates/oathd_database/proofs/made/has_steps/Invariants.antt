use Rattle.std.proofs.Common.{◌≡◌, drop}
use Rattle.std.specs.List.{list_any}
use Rattle.oathd_database.specs.Made.{has_step}
use Rattle.oathd_database.proofs.made.has_steps.Given as goal

-- the tokens so far leave the answer open
abbrev pub invariant-loop-number : goal.invariant-loop-number
invariant-loop-number l = list_any (has_step l.step) (drop l.number l.book) ≡ list_any (has_step l.step) l.book
