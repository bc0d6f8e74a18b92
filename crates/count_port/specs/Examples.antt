-- Small numbers and members of a port's record. No contract cites them.
use Rattle.std.specs.Prelude.{ℕ, true, false, List, Option, None}
use Rattle.datagram_port.specs.Port.{Offered}
use Rattle.datagram_port.specs.declared.port.Sender.TheVariants.{Client}
use Rattle.gatekeeping.specs.declared.refused.Refused.{Refused}
use Rattle.count_port.specs.Counts.{counts_after, with_reason}
use Rattle.count_port.specs.declared.counts.Counts.{Counts}
use Rattle.count_port.specs.declared.members.Member.{Member}

-- no refusal
abbrev pub no_refusal : Refused
no_refusal = record {
  bad_line = 0;
  clock = 0;
  busy = 0;
  unknown = 0;
  throttled = 0;
  password = 0;
  exhausted = 0;
  invalid = 0;
  spent = 0;
  timeout = 0;
}

-- nothing was counted
abbrev pub nothing_counted : Counts
nothing_counted = record { received = 0; replied = 0; accepted = 0; refused = no_refusal; quiets = 0 }

-- the numbers after the first answer to a client
abbrev pub after_answer : List ℕ → Counts
after_answer text = counts_after (Offered (Client 7) text) nothing_counted

-- the refusals after the first one
abbrev pub refused_once : List ℕ → Refused
refused_once reason = with_reason reason no_refusal

-- member 2, which was heard some quiet turns ago
abbrev pub member_2 : Option ℕ → Member
member_2 quiets = record { number = 2; quiets = quiets; differs = false }

-- the same member, of which a datagram came since then that the node can't read
abbrev pub differing_2 : Option ℕ → Member
differing_2 quiets = record (member_2 quiets) { differs = true }

-- member 3, which was not heard
abbrev pub member_3 : Member
member_3 = record { number = 3; quiets = None; differs = false }
