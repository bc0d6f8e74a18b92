-- The floors of a stopped node are raised to the greatest in floors files.
--
-- Floor: the first free factor of a token at a node.
use Rattle.std.specs.Prelude.{◌≡◌, ◌⊎◌, ℕ, List, [], ◌∷◌, length, map, take, Option, None, Some, Result, Ok, Err, OnErr, OnOk, false}
use Rattle.sqlite.specs.Store.{Ghosts}
use Rattle.sqlite.specs.Held as sql
use Rattle.otp_core.specs.Limits.{Limits}
use Rattle.token_file.specs.Credential.{Credential}
use Rattle.floor_store.specs.Content.{Content}
use Rattle.floor_store.specs.Held.{Held, IsSettled}
use Rattle.floor_store.specs.Records.{RowRecord}
use Rattle.floor_store.specs.declared.fault.StoreFault.{StoreFault}
use Rattle.floor_sql.specs.Held.{SqlHeld, sql_held}
use Rattle.vote_core.specs.Voting.{raise}
use Rattle.floors_file.specs.Floors.{FloorsRecord}
use Rattle.floors_file.specs.Gathered.{greater, greatest_of}
use Rattle.floors_file.specs.Reading.{is_memory}
use Rattle.oathd_database.specs.Commands.{HasImport, HasOpened, IsRefused}
use Rattle.oathd_database.specs.Gather.{files_after}
use Rattle.oathd_database.specs.declared.gather.GatherFault.{GatherFault}
use Rattle.oathd_database.specs.declared.gather.GatherFault.TheVariants.{Command, Floors, Files}

-- the greatest floor in files for each token of a book, or None if no file has its user
abbrev pub told_by : List FloorsRecord → List Credential → List (Option ℕ)
told_by files book = map (λ token. greatest_of token.name files) book

-- the content after a message with the floor of a token
abbrev pub told_at : ℕ → Option ℕ → Content → Content
told_at token None content = content
told_at token (Some floor) content = raise token floor content

-- a row with the greater of its own floor and the one in the files, if there is one; the rest stays
abbrev pub levelled_row : Option ℕ → RowRecord → RowRecord
levelled_row None row = row
levelled_row (Some floor) row = record row { next = greater row.next floor }

-- rows in order, each with its floor in the files; rows beyond the floors stay
abbrev pub levelled_rows : List (Option ℕ) → List RowRecord → List RowRecord
levelled_rows [] rows = rows
levelled_rows (told ∷ floors) [] = []
levelled_rows (told ∷ floors) (row ∷ rows) = levelled_row told row ∷ levelled_rows floors rows

-- the content of a store with raised floors; the boot and the last pass stay
abbrev pub levelled : List (Option ℕ) → Content → Content
levelled floors content = record content { rows = levelled_rows floors content.rows }

-- a prefix of the rows is raised, and the others are unchanged
pub record IsPartLevelled (floors : List (Option ℕ)) (old now : Content) : Type 0 where
  pub count : ℕ
  pub is : now ≡ levelled (take count floors) old

-- A call that raises floors. It commits in batches: after a stop during the call, or an Err, a prefix of the rows is
-- raised. Raising is harmless, and a repeated call raises the rest.
pub record Levels {S A E : Type 0} (held : S → Held) (old new : S) (floors : List (Option ℕ))
    (result : Result A E) : Type 0 where
  pub ok : (held new).is_clean → OnOk result ((held new).content ≡ levelled floors (held old).content)
  pub err : (held new).is_clean → OnErr result (IsPartLevelled floors (held old).content (held new).content)
  pub left : (held new).is_clean → (c : Content) → (held new).leaves c
      → (held old).leaves c ⊎ IsPartLevelled floors (held old).content c
  pub settled : (held new).is_clean → OnOk result (IsSettled (held new))
  pub clean : (held new).is_clean → (held old).is_clean

module _ {S : Type 0} (g : Ghosts S) (finds : sql.Held S → Type 0) where
  -- The floors of the node's store are raised by floors files. The store is in some database and has the tokens of the
  -- users file.
  pub record HasLevelled (limits : Limits) (longest node : ℕ) (texts : List (List ℕ)) (store : SqlHeld S)
      (text : List ℕ) : Type 0 where
    pub import : HasImport limits 0 longest text
    pub files : List FloorsRecord
    pub read : files_after [] texts ≡ Ok files
    pub found : SqlHeld S
    pub opened : HasOpened g finds (Some node) (length import.book) found
    pub levels : Levels {A = Unit {0}} {E = StoreFault} (sql_held g) found store (told_by files import.book) (Ok tt)

-- Not all floors are raised. The command fails as any command over a store does, or `number` is the first text that is
-- not a floors file.
abbrev pub IsNotLevelled : Limits → ℕ → List (List ℕ) → GatherFault → List ℕ → Type 0
IsNotLevelled limits longest texts (Command fault) text = IsRefused limits 0 longest fault text
IsNotLevelled limits longest texts (Floors number fault) text =
    is_memory fault.kind ≡ false → files_after [] texts ≡ Err (number, fault.line, fault.kind)
IsNotLevelled limits longest texts (Files fault) text = ⊥
