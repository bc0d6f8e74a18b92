-- Worked cases: lines of a clients file, and their values.
use Rattle.std.specs.Prelude.{ℕ, ◌+◌, List, [], ◌∷◌, ◌++◌, map, replicate, codes, Some, None, Result}
use Rattle.std.specs.List.{flat_map}
use Rattle.token_file.specs.Fields.{fields_of}
use Rattle.sealed_wire.specs.declared.right.Right.{Right}
use Rattle.sealed_wire.specs.declared.right.Right.TheVariants.{Operator, Reader}
use Rattle.clients_file.specs.declared.clients.ClientEntry.{ClientEntry}
use Rattle.clients_file.specs.declared.clients.OperatorEntry.{OperatorEntry}
use Rattle.clients_file.specs.declared.fault.LineFault.{LineFault}
use Rattle.clients_file.specs.declared.fault.LineFault.TheVariants.{UnknownWord, MissingField, SurplusField, BadNumber, Twice, BadKey, SameKey, BadAddress, NotLoopback, TooMany, NoClient, TooLong, Memory}
use Rattle.clients_file.specs.ClientsFile.{ClientsRecord}
use Rattle.clients_file.specs.Said.{Said, after_fields, nothing_said}

-- `count` digits `0`
abbrev pub zeros : ℕ → List ℕ
zeros count = replicate count 0x30

-- the key of 15 bytes 0 and a last byte
abbrev pub key_at : ℕ → List ℕ
key_at last = replicate 15 0 ++ last ∷ []

-- the text of the key whose last byte has the hexadecimal digits
abbrev pub key_text : List ℕ → List ℕ
key_text digits = zeros 30 ++ digits

-- the line of a client with the key whose last byte has the hexadecimal digits
abbrev pub client_line : List ℕ → List ℕ → List ℕ
client_line number digits = codes "client " ++ number ++ codes " " ++ key_text digits

-- the client with a number, and with the key whose last byte is the number
abbrev pub client_at : ℕ → ClientEntry
client_at number = record { number = number; key = key_at number }

-- the line of an operator or reader with the key whose last byte has the hexadecimal digits
abbrev pub operator_line : List ℕ → List ℕ → List ℕ → List ℕ
operator_line word number digits = word ++ codes " " ++ number ++ codes " " ++ key_text digits

-- the operator with a number and a right, and with the key whose last byte is the number
abbrev pub operator_at : Right → ℕ → OperatorEntry
operator_at right number = record { number = number; key = key_at number; right = right }

-- the address 127.0.0.N
abbrev pub local_at : ℕ → ℕ
local_at last = 2130706432 + last

-- the values of some clients' lines alone
abbrev pub with_clients : List ℕ → Said
with_clients numbers = record nothing_said { clients = map client_at numbers }

-- the values of some clients' and operators' lines alone
abbrev pub with_operators : List ℕ → List ℕ → Said
with_operators numbers operators =
    record (with_clients numbers) { operators = map (operator_at Operator) operators }

-- the values of some plain addresses' lines alone
abbrev pub with_plain : List ℕ → Said
with_plain lasts = record nothing_said { plain = map local_at lasts }

-- the values of an `ahead` line alone
abbrev pub with_ahead : ℕ → Said
with_ahead seconds = record nothing_said { ahead = Some seconds }

-- the values of a `failures` line alone
abbrev pub with_failures : ℕ → Said
with_failures failures = record nothing_said { failures = Some failures }

-- the values after a line
abbrev pub after_text : Said → List ℕ → Result Said LineFault
after_text said line = after_fields said (fields_of line)

-- the values after each of some lines alone
abbrev pub after_each : Said → List (List ℕ) → List (Result Said LineFault)
after_each said lines = map (after_text said) lines

-- a text of lines, each with an LF
abbrev pub text_of : List (List ℕ) → List ℕ
text_of lines = flat_map (λ line. line ++ 10 ∷ []) lines

-- a whole file of one client
abbrev pub small_file : List (List ℕ)
small_file = client_line (codes "7") (codes "07") ∷ []

-- the client of the small file
abbrev pub small_clients : ClientsRecord
small_clients = record { clients = client_at 7 ∷ []; operators = []; plain = []; ahead = 2; failures = None }

-- a whole file of two clients and an address
abbrev pub whole_file : List (List ℕ)
whole_file =
    codes "# two" ∷ client_line (codes "7") (codes "07") ∷ [] ∷ client_line (codes "8") (codes "08")
    ∷ codes "  plain  127.0.0.1 " ∷ codes "ahead 5" ∷ codes "failures 20" ∷ []

-- the clients of the file of two clients
abbrev pub whole_clients : ClientsRecord
whole_clients =
    record {
      clients = client_at 7 ∷ client_at 8 ∷ [];
      operators = [];
      plain = local_at 1 ∷ [];
      ahead = 5;
      failures = Some 20;
    }

-- a whole file of a client, an operator and a reader
abbrev pub operators_file : List (List ℕ)
operators_file =
    operator_line (codes "operator") (codes "9") (codes "09") ∷ client_line (codes "7") (codes "07")
    ∷ operator_line (codes "reader") (codes "10") (codes "0a") ∷ []

-- the clients of the file with operators
abbrev pub operators_clients : ClientsRecord
operators_clients =
    record small_clients { operators = operator_at Operator 9 ∷ operator_at Reader 10 ∷ [] }

-- each fault
abbrev pub faults : List LineFault
faults =
    UnknownWord ∷ MissingField ∷ SurplusField ∷ BadNumber ∷ Twice ∷ BadKey ∷ SameKey ∷ BadAddress ∷ NotLoopback
    ∷ TooMany ∷ NoClient ∷ TooLong ∷ Memory ∷ []
