-- The reasons why a gate doesn't open datagrams, and their numbers.
use Rattle.std.specs.Prelude.{ℕ, ◌+◌, ◌-◌, ◌^◌, min, Option, Some, None}
use Rattle.replay_window.specs.declared.refusal.Refusal.{Refusal}
use Rattle.replay_window.specs.declared.refusal.Refusal.TheVariants.{Early as EarlyMoment, Late as LateMoment, Again as OldMoment}
use Rattle.sealed_port.specs.declared.cause.Cause.{Cause}
use Rattle.sealed_port.specs.declared.cause.Cause.TheVariants.{Form, Tag, Early, Late, Again, Limited}
use Rattle.sealed_port.specs.declared.cause.Unopened.{Unopened}

-- The cause of a line that a gate doesn't admit, by the reason of the client's window. If the window refuses nothing,
-- another line with the same nonce waits.
abbrev pub cause_by : Option Refusal → Cause
cause_by None = Again
cause_by (Some EarlyMoment) = Early
cause_by (Some LateMoment) = Late
cause_by (Some OldMoment) = Again

-- one more, but at most the greatest number of 64 bits
abbrev pub one_more : ℕ → ℕ
one_more number = min (number + 1) (2 ^ 64 - 1)

-- the numbers before any datagram
abbrev pub nothing : Unopened
nothing = record { form = 0; tag = 0; early = 0; late = 0; again = 0; limited = 0 }

-- the numbers after one more datagram; it has no cause if the gate opened it
abbrev pub counted : Unopened → Option Cause → Unopened
counted unopened None = unopened
counted unopened (Some Form) = record unopened { form = one_more unopened.form }
counted unopened (Some Tag) = record unopened { tag = one_more unopened.tag }
counted unopened (Some Early) = record unopened { early = one_more unopened.early }
counted unopened (Some Late) = record unopened { late = one_more unopened.late }
counted unopened (Some Again) = record unopened { again = one_more unopened.again }
counted unopened (Some Limited) = record unopened { limited = one_more unopened.limited }
