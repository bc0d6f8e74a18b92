-- The datagrams of a log that goes to a syslog.
use Rattle.std.specs.Prelude.{◌≡◌, ℕ, zero, suc, ◌+◌, Bool, true, false, List, [], ◌∷◌, ◌++◌, take, Option, Some, None, codes}
use Rattle.std.specs.Fmt.{decimal}
use Rattle.log_writer.specs.Line.{with_bytes}
use Rattle.log_writer.specs.Waiting.{counted}

-- What stands before the text (RFC 5424, section 6): facility 10 and severity 6, version 1, and the name of the
-- program. There is no time, no host, no process, no kind of message and no structured data.
abbrev pub head : List ℕ
head = codes "<86>1 - - oathd - - - "

-- the datagram of a line
abbrev pub message_of : List ℕ → List ℕ
message_of line = head ++ line

-- the text of a number of lost lines
abbrev pub lost_line : ℕ → List ℕ
lost_line number = codes "dropped lines=" ++ decimal number

-- a datagram that was offered, and whether it was taken
abbrev pub Offer : Type 0
Offer = List ℕ × Bool

-- a record of offers grows by some, if there is one
abbrev pub Grows : Option (List Offer) → Option (List Offer) → List Offer → Type 0
Grows None new more = Unit {0}
Grows (Some old) None more = ⊥
Grows (Some old) (Some new) more = new ≡ old ++ more

-- the datagram of lost lines, if there are any
abbrev pub lost_offers : ℕ → Bool → List Offer
lost_offers zero is_told = []
lost_offers (suc lost) is_told = (message_of (lost_line (suc lost)), is_told) ∷ []

-- the datagram of a line, unless that of the lost lines was refused
abbrev pub line_offers : List ℕ → Bool → Bool → List Offer
line_offers line false is_sent = []
line_offers line true is_sent = (message_of line, is_sent) ∷ []

-- the datagrams that are offered for a line after a number of lost ones
abbrev pub offers_of : List ℕ → ℕ → Bool → Bool → List Offer
offers_of line lost is_told is_sent = lost_offers lost is_told ++ line_offers line is_told is_sent

-- the number of lost lines after it
abbrev pub lost_after : ℕ → Bool → Bool → ℕ
lost_after lost false is_sent = counted (lost + 1)
lost_after lost true false = 1
lost_after lost true true = 0

-- A line ends. Its datagram is offered after that of the lost lines, and it is lost if one of them is refused.
pub record IsEnded (line : List ℕ) (lost new_lost : ℕ) (old new : Option (List Offer)) : Type 0 where
  pub is_told : Bool
  pub is_sent : Bool
  pub at_once : lost ≡ 0 → is_told ≡ true
  pub offers : Grows old new (offers_of line lost is_told is_sent)
  pub lost_now : new_lost ≡ lost_after lost is_told is_sent

-- Bytes are written, with their first LF at a place or without one: the line ends there, or grows.
abbrev pub IsSaid : Option ℕ → List ℕ → List ℕ → List ℕ → ℕ → ℕ → Option (List Offer) → Option (List Offer) → Type 0
IsSaid None bytes line new_line lost new_lost old new =
    (new_line ≡ with_bytes line bytes) × (new_lost ≡ lost) × (new ≡ old)
IsSaid (Some place) bytes line new_line lost new_lost old new =
    (new_line ≡ []) × IsEnded (with_bytes line (take place bytes)) lost new_lost old new
