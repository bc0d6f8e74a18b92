-- The answers `NO - BADLINE` to plain lines: a log tells ten of a second one by one, and then only their number.
use Rattle.std.specs.Prelude.{ℕ, ◌+◌, ◌-◌, ◌^◌, ◌&&◌, ◌||◌, not, min, nat_le, nat_lt, Bool, if◌then◌else◌, List, [], ◌++◌, codes}
use Rattle.std.specs.Str.{bytes_eq}
use Rattle.datagram_port.specs.Port.{PortEvent, Received, Quiet, Faulted, Offered}
use Rattle.datagram_port.specs.declared.port.Sender.TheVariants.{Client, Peer}
use Rattle.node_log.specs.Text.{valued}
use Rattle.node_log.specs.declared.bad_lines.BadLines.{BadLines}

-- a second without any quiet turn or answer
abbrev pub new_second : BadLines
new_second = record { quiets = 0; number = 0 }

-- whether an answer says that a plain line is outside the grammar; a client of the clients file has a number of at
-- least 2^48
abbrev pub is_bad_line : ℕ → List ℕ → Bool
is_bad_line client answer = nat_lt client (2 ^ 48) && bytes_eq answer (codes "NO - BADLINE")

-- whether a log tells an answer by a line of its own: all but such answers from the eleventh of a second on
abbrev pub is_told : ℕ → List ℕ → BadLines → Bool
is_told client answer bad_lines = not (is_bad_line client answer) || nat_lt bad_lines.number 10

-- the answers of a second after a quiet turn: the fifth ends the second
abbrev pub after_quiet_turn : BadLines → BadLines
after_quiet_turn bad_lines =
    if nat_lt bad_lines.quiets 4 then record { quiets = bad_lines.quiets + 1; number = bad_lines.number }
    else new_second

-- the answers of a second after an answer to a client
abbrev pub after_answer : ℕ → List ℕ → BadLines → BadLines
after_answer client answer bad_lines =
    if is_bad_line client answer
    then record { quiets = bad_lines.quiets; number = min (bad_lines.number + 1) (2 ^ 64 - 1) }
    else bad_lines

-- the answers of a second after an entry of a port's record
abbrev pub bad_lines_after : PortEvent → BadLines → BadLines
bad_lines_after (Received sender bytes) bad_lines = bad_lines
bad_lines_after Quiet bad_lines = after_quiet_turn bad_lines
bad_lines_after Faulted bad_lines = bad_lines
bad_lines_after (Offered (Client client) bytes) bad_lines = after_answer client bytes bad_lines
bad_lines_after (Offered (Peer number) bytes) bad_lines = bad_lines

-- the line of a number of answers that had none
unfoldable pub more_line : ℕ → List ℕ
more_line more = valued (codes "badline more=") more ++ codes "\n"

-- the text of a second with a number of answers: the line of those that had none, or nothing if each had its line
abbrev pub second_text : ℕ → List ℕ
second_text number = if nat_le number 10 then [] else more_line (number - 10)

-- the text of a quiet turn: the line of a second that it ends
abbrev pub more_text : BadLines → List ℕ
more_text bad_lines = if nat_lt bad_lines.quiets 4 then [] else second_text bad_lines.number
