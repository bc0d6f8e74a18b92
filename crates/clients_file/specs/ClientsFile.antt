-- The content of a clients file. The first fault of the first faulty line decides; without one a missing value does.
use Rattle.std.specs.Prelude.{ℕ, ◌+◌, ◌==◌, ◌&&◌, nat_le, Bool, true, false, List, [], ◌∷◌, length, take, Option, Result, Ok, Err, unwrap_or, if◌then◌else◌}
use Rattle.token_file.specs.Fields.{fields_of, lines_of}
use Rattle.clients_file.specs.declared.clients.ClientEntry.{ClientEntry}
use Rattle.clients_file.specs.declared.clients.Clients.{Clients}
use Rattle.clients_file.specs.declared.clients.OperatorEntry.{OperatorEntry}
use Rattle.clients_file.specs.declared.fault.LineFault.{LineFault}
use Rattle.clients_file.specs.declared.fault.LineFault.TheVariants.{NoClient, TooLong, Memory}
use Rattle.clients_file.specs.Fields.{◌>>=◌}
use Rattle.clients_file.specs.Said.{Said, after_fields, nothing_said}

-- the content of a whole file
pub record ClientsRecord : Type 0 where
  pub clients : List ClientEntry
  pub operators : List OperatorEntry
  pub plain : List ℕ
  pub ahead : ℕ
  pub failures : Option ℕ

-- the value of the clients
abbrev pub clients_value : Clients → ClientsRecord
clients_value clients =
    record {
      clients = clients.clients.items;
      operators = clients.operators.items;
      plain = clients.plain.items;
      ahead = clients.ahead;
      failures = clients.failures;
    }

-- the clients of all lines, by default 2 seconds ahead and without a limit of failures, or the fault of a missing value
abbrev pub finished : Said → Result ClientsRecord LineFault
finished said =
    if length said.clients == 0 && length said.plain == 0 then Err NoClient
    else Ok (record {
      clients = said.clients;
      operators = said.operators;
      plain = said.plain;
      ahead = unwrap_or said.ahead 2;
      failures = said.failures;
    })

-- an outcome with the line number of a fault
abbrev pub at_line : {A : Type 0} → ℕ → Result A LineFault → Result A (ℕ × LineFault)
at_line number (Ok value) = Ok value
at_line number (Err fault) = Err (number, fault)

-- the values of the lines from a number on, added to earlier values
abbrev pub after_lines : ℕ → Said → List (List ℕ) → Result Said (ℕ × LineFault)
after_lines number said [] = Ok said
after_lines number said (line ∷ lines) = do
  new ← at_line number (after_fields said (fields_of line))
  after_lines (number + 1) new lines

-- The clients of a text of at most `limit` bytes, or its first fault with the line. A missing value has the number of
-- the line after the last LF. A text that is too long is not read: its fault has the line of the first byte above the
-- limit.
abbrev pub outcome_of : ℕ → List ℕ → Result ClientsRecord (ℕ × LineFault)
outcome_of limit text =
    if nat_le (length text) limit then (do
      said ← after_lines 1 nothing_said (lines_of text)
      at_line (length (lines_of text)) (finished said))
    else Err (length (lines_of (take limit text)), TooLong)

-- the clients of a file of at most 65,536 bytes
abbrev pub clients_of : List ℕ → Result ClientsRecord (ℕ × LineFault)
clients_of text = outcome_of 65536 text

-- whether a fault is a refused allocation, and not one of the text
abbrev pub is_memory : LineFault → Bool
is_memory Memory = true
is_memory fault = false
