-- The numbers of datagrams, answers and quiet turns, by the entries of a port's record.
use Rattle.std.specs.Prelude.{ℕ, ◌+◌, ◌/◌, ◌-◌, ◌^◌, min, if◌then◌else◌, List, [], Option, Some, None, codes}
use Rattle.std.specs.Str.{bytes_eq}
use Rattle.field_text.specs.Cut.{Halves, halves_of}
use Rattle.datagram_port.specs.Port.{PortEvent, Received, Quiet, Faulted, Offered}
use Rattle.datagram_port.specs.declared.port.Sender.TheVariants.{Client, Peer}
use Rattle.gatekeeping.specs.declared.refused.Refused.{Refused}
use Rattle.sealed_port.specs.Causes.{one_more}
use Rattle.count_port.specs.declared.counts.Counts.{Counts}

-- the text behind the first space, or nothing
abbrev pub behind_of : Option Halves → List ℕ
behind_of None = []
behind_of (Some halves) = halves.behind

abbrev pub rest_of : List ℕ → List ℕ
rest_of text = behind_of (halves_of 32 text)

-- the text before the first space, or the whole text
abbrev pub before_of : List ℕ → Option Halves → List ℕ
before_of text None = text
before_of text (Some halves) = halves.before

abbrev pub field_of : List ℕ → List ℕ
field_of text = before_of text (halves_of 32 text)

-- the third of an answer's fields: the reason of a refusal
abbrev pub reason_of : List ℕ → List ℕ
reason_of answer = field_of (rest_of (rest_of answer))

-- the numbers of refusals with one more of a reason
abbrev pub with_reason : List ℕ → Refused → Refused
with_reason reason refused =
    if bytes_eq reason (codes "BADLINE") then record refused { bad_line = one_more refused.bad_line }
    else if bytes_eq reason (codes "CLOCK") then record refused { clock = one_more refused.clock }
    else if bytes_eq reason (codes "BUSY") then record refused { busy = one_more refused.busy }
    else if bytes_eq reason (codes "UNKNOWN") then record refused { unknown = one_more refused.unknown }
    else if bytes_eq reason (codes "THROTTLED") then record refused { throttled = one_more refused.throttled }
    else if bytes_eq reason (codes "PASSWORD") then record refused { password = one_more refused.password }
    else if bytes_eq reason (codes "EXHAUSTED") then record refused { exhausted = one_more refused.exhausted }
    else if bytes_eq reason (codes "INVALID") then record refused { invalid = one_more refused.invalid }
    else if bytes_eq reason (codes "SPENT") then record refused { spent = one_more refused.spent }
    else if bytes_eq reason (codes "TIMEOUT") then record refused { timeout = one_more refused.timeout }
    else refused

-- the numbers after an answer to a client
abbrev pub with_answer : List ℕ → Counts → Counts
with_answer answer counts =
    if bytes_eq (field_of answer) (codes "OK")
    then record counts { replied = one_more counts.replied; accepted = one_more counts.accepted }
    else record counts {
      replied = one_more counts.replied;
      refused = with_reason (reason_of answer) counts.refused;
    }

-- the numbers after an entry of the port's record
abbrev pub counts_after : PortEvent → Counts → Counts
counts_after (Received sender bytes) counts = record counts { received = one_more counts.received }
counts_after Quiet counts = record counts { quiets = one_more counts.quiets }
counts_after Faulted counts = counts
counts_after (Offered (Client client) bytes) counts = with_answer bytes counts
counts_after (Offered (Peer number) bytes) counts = counts

-- the number of ticks: one follows each quiet turn, and each 64th datagram
abbrev pub ticks_of : Counts → ℕ
ticks_of counts = min (counts.quiets + counts.received / 64) (2 ^ 64 - 1)
