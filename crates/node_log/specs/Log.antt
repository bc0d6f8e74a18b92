-- The text of a log, by the record of its port.
use Rattle.std.specs.Prelude.{◌≡◌, ℕ, Bool, false, true, if◌then◌else◌, List, [], ◌∷◌, ◌++◌, map, slice_set, Option, Some}
use Rattle.std.specs.Io.KnownBytes.{Appends}
use Rattle.datagram_port.specs.Port.{PortEvent, Received, Quiet, Faulted, Offered}
use Rattle.datagram_port.specs.declared.port.Sender.{Sender}
use Rattle.datagram_port.specs.declared.port.Sender.TheVariants.{Client, Peer}
use Rattle.node_log.specs.Asked.{AskedLine, place_of, user_at, with_line, without}
use Rattle.node_log.specs.BadLines.{is_told, more_text}
use Rattle.gatekeeping.specs.Members.{nobody}
use Rattle.node_log.specs.Members.{after_datagram, after_quiet, heard_texts, silent_texts}
use Rattle.node_log.specs.Minute.{is_over}
use Rattle.gatekeeping.specs.Read.{is_read}
use Rattle.node_log.specs.Text.{answered_line}
use Rattle.node_log.specs.declared.bad_lines.BadLines.{BadLines}
use Rattle.node_log.specs.declared.members.Member.{Member}
use Rattle.node_log.specs.declared.minute.Minute.{Minute}

-- the remembered lines after an entry of a port's record
abbrev pub asked_after : PortEvent → List AskedLine → List AskedLine
asked_after (Received (Client client) bytes) asked = with_line client bytes asked
asked_after (Received (Peer number) bytes) asked = asked
asked_after Quiet asked = asked
asked_after Faulted asked = asked
asked_after (Offered (Client client) bytes) asked = without (place_of client bytes asked) asked
asked_after (Offered (Peer number) bytes) asked = asked

-- The members after an entry of a port's record. A member is heard by a datagram that it made under the key.
abbrev pub members_after : List ℕ → PortEvent → List Member → List Member
members_after key (Received (Client client) bytes) members = members
members_after key (Received (Peer number) bytes) members =
    if is_read key number bytes then map (after_datagram number) members else members
members_after key Quiet members = map after_quiet members
members_after key Faulted members = members
members_after key (Offered to bytes) members = members

-- whether each member differs, after a datagram from the address of one of them
abbrev pub with_datagram : List ℕ → ℕ → List ℕ → List Bool → List Bool
with_datagram key number [] differing = differing
with_datagram key number (byte ∷ bytes) differing =
    if is_read key number (byte ∷ bytes) then differing else slice_set differing number true

-- Whether each member differs, after an entry of a port's record. A datagram without bytes is none that anybody sent.
abbrev pub differing_after : List ℕ → PortEvent → List Bool → List Bool
differing_after key (Received (Client client) bytes) differing = differing
differing_after key (Received (Peer number) bytes) differing = with_datagram key number bytes differing
differing_after key Quiet differing = differing
differing_after key Faulted differing = differing
differing_after key (Offered to bytes) differing = differing

-- whether each member differs when a receive begins: nobody, if a minute is over
abbrev pub differing_at_receive : Minute → List Bool → List Bool
differing_at_receive minute differing = if is_over minute then nobody else differing

-- the text of an offer: a line for an answer to a client, by the remembered lines
abbrev pub offer_text : Sender → List ℕ → List AskedLine → BadLines → List ℕ
offer_text (Client client) bytes asked bad_lines =
    if is_told client bytes bad_lines
    then answered_line client (user_at (place_of client bytes asked) asked) bytes
    else []
offer_text (Peer number) bytes asked bad_lines = []

-- The text of an entry: a line for each answer offered to a client, and for each member that becomes heard or silent.
-- Of the answers `NO - BADLINE` of a second, those after the tenth have one line together.
abbrev pub told_of : List ℕ → PortEvent → List AskedLine → List Member → BadLines → List ℕ
told_of key (Received (Client client) bytes) asked members bad_lines = []
told_of key (Received (Peer number) bytes) asked members bad_lines =
    if is_read key number bytes then heard_texts number members else []
told_of key Quiet asked members bad_lines = silent_texts members ++ more_text bad_lines
told_of key Faulted asked members bad_lines = []
told_of key (Offered to bytes) asked members bad_lines = offer_text to bytes asked bad_lines

-- the remembered lines after some entries
abbrev pub asked_after_all : List PortEvent → List AskedLine → List AskedLine
asked_after_all [] asked = asked
asked_after_all (entry ∷ entries) asked = asked_after_all entries (asked_after entry asked)

-- The remembered lines follow from the port's record from its beginning, if the port keeps one.
pub record Remembers (entries : Option (List PortEvent)) (asked : List AskedLine) : Type 0 where
  pub remembered : (all : List PortEvent) → entries ≡ Some all → asked ≡ asked_after_all all []

-- The call appends `text` to the log, unless the log is over. A log that is over writes nothing more.
pub record Tells (old_over new_over : Bool) (old new : Option (List ℕ)) (text : List ℕ) : Type 0 where
  pub told : new_over ≡ false → (old_over ≡ false) × Appends old new text
  pub over : old_over ≡ true → (new_over ≡ true) × (new ≡ old)
