-- The gates of a store as text.
use Rattle.std.specs.Prelude.{◌==◌, ℕ, List, [], ◌++◌, if◌then◌else◌, codes}
use Rattle.std.specs.Fmt.{decimal}
use Rattle.token_file.specs.Credential.{Credential}
use Rattle.otp_core.specs.Gate.{GateRecord}
use Rattle.floor_store.specs.Records.{RowRecord}
use Rattle.oathd_database.specs.Text.{rows_text}

-- the line of a user's gate: `gate USER FAILURES UNTIL`
unfoldable pub gate_line : List ℕ → GateRecord → List ℕ
gate_line user gate =
    codes "gate " ++ user ++ codes " " ++ decimal gate.fails ++ codes " " ++ decimal gate.until ++ codes "\n"

-- the line of a token's gate, if it has failures
abbrev pub gate_text : Credential → GateRecord → List ℕ
gate_text token gate = if gate.fails == 0 then [] else gate_line token.name gate

-- the line of a token's gate in its row, if it has failures
abbrev pub gate_row : Credential → RowRecord → List ℕ
gate_row token row = gate_text token row.gate

-- the lines of a book's tokens in order, by their rows
abbrev pub gates_text : List Credential → List RowRecord → List ℕ
gates_text = rows_text gate_row
