-- A users file of written rows.
use Rattle.std.specs.Prelude.{◌≡◌, ℕ, List, [], ◌∷◌, ◌++◌, map, None}
use Rattle.otp_core.specs.Range.{IsNext}
use Rattle.token_file.specs.Credential.{Credential, place_of}
use Rattle.token_file.specs.Row.{first_free}
use Rattle.token_file.specs.UsersFile.{Instant}
use Rattle.token_file.specs.Writing.{IsCredential, row_text, written_counter}

-- a token, and its floor, which is its first free factor
pub record WrittenRow : Type 0 where
  pub credential : Credential
  pub next : ℕ

-- the text of the rows, one after another
abbrev pub file_text : List WrittenRow → List ℕ
file_text [] = []
file_text (row ∷ rows) = row_text row.credential row.next ++ file_text rows

-- the tokens of the rows
abbrev pub credentials_of : List WrittenRow → List Credential
credentials_of rows = map (λ row. row.credential) rows

-- the floor of a row after an import
abbrev pub read_floor : Instant → WrittenRow → ℕ
read_floor at row = first_free at.skew at.moment row.credential (written_counter row.credential.kind row.next) None

-- rows of tokens with distinct names, none of them the name of a token of `before`
abbrev pub AreRows : List Credential → List WrittenRow → Type 0
AreRows before [] = Unit {0}
AreRows before (row ∷ rows) =
    IsCredential row.credential × IsNext row.next × (place_of row.credential.name before ≡ None)
    × AreRows (before ++ row.credential ∷ []) rows
