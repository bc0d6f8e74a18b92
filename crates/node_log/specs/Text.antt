-- The lines of a log as text.
use Rattle.std.specs.Prelude.{ℕ, ◌-◌, ◌/◌, ◌%◌, ◌^◌, ◌==◌, ◌&&◌, nat_eq, nat_lt, not, Bool, if◌then◌else◌, List, [], ◌∷◌, ◌++◌, Option, Some, None, codes}
use Rattle.std.specs.Char.{is_ascii_graphic}
use Rattle.std.specs.Fmt.{decimal}
use Rattle.std.specs.List.{flat_map, starts_with}
use Rattle.hex.specs.Hex.{encode_lower}
use Rattle.node_log.specs.declared.text.Roster.{Roster}
use Rattle.node_log.specs.declared.text.Start.{Start}

-- a byte that the log shows unchanged: a visible ASCII character except a quotation mark and a backslash
abbrev pub is_plain : ℕ → Bool
is_plain byte = is_ascii_graphic byte && (not (byte == 34) && not (byte == 92))

-- the shown form of a byte of a name, so that no name ends its quotation or its line
unfoldable pub shown_byte : ℕ → List ℕ
shown_byte byte = if is_plain byte then byte ∷ [] else codes "\\x" ++ encode_lower (byte ∷ [])

-- a user's name in quotation marks, if it is known
unfoldable pub shown_user : Option (List ℕ) → List ℕ
shown_user None = []
shown_user (Some name) = codes " user=\"" ++ flat_map shown_byte name ++ codes "\""

-- an address by its number: an IPv4 address and a port
unfoldable pub address_text : ℕ → List ℕ
address_text address =
    (decimal (address / 1099511627776) ++ codes ".") ++ (decimal (address / 4294967296 % 256) ++ codes ".")
    ++ (decimal (address / 16777216 % 256) ++ codes ".") ++ (decimal (address / 65536 % 256) ++ codes ":")
    ++ decimal (address % 65536) ++ []

-- a client by its number: its address, or from 2^48 on the number of a client of the clients file
unfoldable pub client_text : ℕ → List ℕ
client_text client =
    if nat_lt client (2 ^ 48) then address_text client else codes "client:" ++ decimal (client - 2 ^ 48)

-- the outcome of a line, by its answer
abbrev pub event_of : List ℕ → List ℕ
event_of answer =
    if starts_with nat_eq answer (codes "OK ") then codes "accepted from=" else codes "refused from="

-- the line of an answer to a client, with the user if the user is known
unfoldable pub answered_line : ℕ → Option (List ℕ) → List ℕ → List ℕ
answered_line client user answer =
    event_of answer ++ client_text client ++ codes " " ++ answer ++ shown_user user ++ codes "\n"

-- a word and a number
abbrev pub valued : List ℕ → ℕ → List ℕ
valued word number = word ++ decimal number

-- the number of a node, and the number of members
unfoldable pub place_text : Start → List ℕ
place_text start = valued (codes " node=") start.node ++ valued (codes " of=") start.members

-- an address
unfoldable pub at_text : ℕ → List ℕ
at_text address = codes " at=" ++ address_text address

-- the number of a node's boot, and its number of tokens
unfoldable pub counts_text : Start → List ℕ
counts_text start = valued (codes " boot=") start.boot ++ valued (codes " tokens=") start.tokens

-- a fingerprint
unfoldable pub print_text : List ℕ → List ℕ
print_text fingerprint = codes " fingerprint=" ++ fingerprint

-- the line of a node that begins to serve
unfoldable pub start_line : Start → List ℕ
start_line start =
    codes "start" ++ place_text start ++ at_text start.address ++ counts_text start ++ print_text start.fingerprint
    ++ codes "\n"

-- the numbers of a store's rows: all, those that a start enrolled, and those that no token has
unfoldable pub rows_text : Roster → List ℕ
rows_text roster =
    valued (codes " rows=") roster.rows ++ valued (codes " enrolled=") roster.enrolled
    ++ valued (codes " retired=") roster.retired

-- the print of a users file's rows
unfoldable pub book_text : List ℕ → List ℕ
book_text book = codes " book=" ++ book

-- the line of a store's rows
unfoldable pub roster_line : Roster → List ℕ
roster_line roster = codes "roster" ++ rows_text roster ++ book_text roster.book ++ codes "\n"

-- the line of a node that ends serving: the number of datagrams that it received, and of replies that it offered
unfoldable pub end_line : ℕ → ℕ → List ℕ
end_line received replied =
    valued (codes "end received=") received ++ valued (codes " replied=") replied ++ codes "\n"
