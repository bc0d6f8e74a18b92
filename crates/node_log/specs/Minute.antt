-- The minutes of a log: after each one it says which datagrams were not opened, which one had an older boot, whose
-- floor fell, and which members differ.
use Rattle.std.specs.Prelude.{ℕ, ◌+◌, ◌==◌, ◌&&◌, nat_lt, not, Bool, if◌then◌else◌, List, [], ◌++◌, Option, Some, None, codes}
use Rattle.std.specs.Fmt.{decimal}
use Rattle.datagram_port.specs.Port.{PortEvent, Received, Quiet, Faulted, Offered}
use Rattle.sealed_port.specs.declared.cause.Unopened.{Unopened}
use Rattle.hex.specs.Hex.{encode_lower}
use Rattle.node_log.specs.Differing.{differing_text}
use Rattle.node_log.specs.Text.{valued}
use Rattle.gatekeeping.specs.declared.gatekeeper.Fell.{Fell}
use Rattle.gatekeeping.specs.declared.gatekeeper.Older.{Older}
use Rattle.node_log.specs.declared.minute.Minute.{Minute}

-- the minute before any quiet turn
abbrev pub new_minute : Minute
new_minute = record { quiets = 0 }

-- whether a minute is over: it has 300 quiet turns, five a second
abbrev pub is_over : Minute → Bool
is_over minute = not (nat_lt minute.quiets 300)

-- the minute after an entry of a port's record
abbrev pub minute_after : PortEvent → Minute → Minute
minute_after (Received sender bytes) minute = minute
minute_after Quiet minute = if nat_lt minute.quiets 300 then record { quiets = minute.quiets + 1 } else minute
minute_after Faulted minute = minute
minute_after (Offered to bytes) minute = minute

-- the minute in which a receive begins: a new one if the last one is over
abbrev pub minute_at_receive : Minute → Minute
minute_at_receive minute = if is_over minute then new_minute else minute

-- a word with a number, or nothing if the number is 0
unfoldable pub numbered : List ℕ → ℕ → List ℕ
numbered word number = if number == 0 then [] else word ++ decimal number

-- the causes for which datagrams were not opened, each with its number
unfoldable pub causes_text : Unopened → List ℕ
causes_text unopened =
    numbered (codes " form=") unopened.form ++ numbered (codes " tag=") unopened.tag
    ++ numbered (codes " early=") unopened.early ++ numbered (codes " late=") unopened.late
    ++ numbered (codes " again=") unopened.again ++ numbered (codes " limited=") unopened.limited

-- whether all numbers are 0
abbrev pub has_none : Unopened → Bool
has_none unopened =
    unopened.form == 0 && unopened.tag == 0 && unopened.early == 0 && unopened.late == 0 && unopened.again == 0
    && unopened.limited == 0

-- the line of the datagrams that were not opened, or nothing if there are none
unfoldable pub unopened_line : Unopened → List ℕ
unopened_line unopened =
    if has_none unopened then [] else codes "unopened" ++ causes_text unopened ++ codes "\n"

-- the line of a datagram that was dropped because of its boot
unfoldable pub older_line : Older → List ℕ
older_line older = valued (codes "older member=") older.member ++ valued (codes " boot=") older.boot ++ codes "\n"

-- the line of the last such datagram, or nothing if there is none
abbrev pub older_text : Option Older → List ℕ
older_text None = []
older_text (Some older) = older_line older

-- the name of a token: two hexadecimal digits for each byte
unfoldable pub token_text : List ℕ → List ℕ
token_text name = codes " name=" ++ encode_lower name

-- the line of a member whose floor of a token fell
unfoldable pub fell_line : Fell → List ℕ
fell_line fell = valued (codes "fell member=") fell.member ++ token_text fell.name ++ codes "\n"

-- the line of such a member, or nothing if there is none
abbrev pub fell_text : Option Fell → List ℕ
fell_text None = []
fell_text (Some fell) = fell_line fell

-- the lines of the datagrams that a port passed over
abbrev pub passed_over_text : Unopened → Option Older → Option Fell → List Bool → List ℕ
passed_over_text unopened older fell differing =
    unopened_line unopened ++ older_text older ++ fell_text fell ++ differing_text differing

-- the text at the beginning of a receive: the lines of a minute that is over
abbrev pub minute_text : Minute → Unopened → Option Older → Option Fell → List Bool → List ℕ
minute_text minute unopened older fell differing =
    if is_over minute then passed_over_text unopened older fell differing else []
