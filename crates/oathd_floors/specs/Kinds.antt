-- Whether the rows of a store are of the kinds of their tokens, as far as rows tell.
--
-- Floor: the first free factor of a token at a node.
use Rattle.std.specs.Prelude.{◌≡◌, ℕ, suc, ◌*◌, ◌^◌, nat_le, pos, Bool, if◌then◌else◌, List, [], ◌∷◌, slice_get, Option, None, Some}
use Rattle.std.specs.Option.{option_map}
use Rattle.std.specs.Ordering.{int_eq}
use Rattle.floor_store.specs.Records.{RowRecord}
use Rattle.token_file.specs.Credential.{Credential, period_of}
use Rattle.token_file.specs.declared.token.Kind.{Kind}
use Rattle.oathd_database.specs.Fault.{IsStoreFault}
use Rattle.oathd_roster.specs.declared.fault.RosterFault.TheVariants.{Command, SameName, AnotherCluster, Full}
use Rattle.oathd_floors.specs.declared.fault.NamingFault.{NamingFault}
use Rattle.oathd_floors.specs.declared.fault.NamingFault.TheVariants.{Roster, OtherKind}

-- Whether a row may be of a token with time steps of so many seconds, or with events. A token with events has no drift.
-- The floor of a token with time steps is not before 2^30 seconds since 1970, in January 2004: before RFC 4226.
abbrev pub is_of_period : Option ℕ → RowRecord → Bool
is_of_period None row = int_eq row.drift (pos 0)
is_of_period (Some period) row = nat_le (2 ^ 30) (row.next * period)

-- whether a row may be of a token of this kind
abbrev pub is_of_kind : Kind → RowRecord → Bool
is_of_kind kind row = is_of_period (period_of kind) row

-- the number, from 1, of the first row that is not of the kind of its token
abbrev pub first_other : List Credential → List RowRecord → Option ℕ
first_other [] rows = None
first_other (token ∷ book) [] = None
first_other (token ∷ book) (row ∷ rows) =
    if is_of_kind token.kind row then option_map (λ number. suc number) (first_other book rows) else Some 1

-- whether the row of the token with this number, from 0, is of its kind
pub record ComparesRow (book : List Credential) (rows : List RowRecord) (number : ℕ) (is_own : Bool) : Type 0 where
  pub token : Credential
  pub token_is : slice_get book number ≡ Some token
  pub row : RowRecord
  pub row_is : slice_get rows number ≡ Some row
  pub compared : is_own ≡ is_of_kind token.kind row

-- A row is not of the kind of its token, or the store fails.
abbrev pub IsOfOtherKind : Type 0 → List Credential → List RowRecord → NamingFault → Type 0
IsOfOtherKind is_clean book rows (Roster (Command fault)) = IsStoreFault fault
IsOfOtherKind is_clean book rows (Roster (SameName row)) = ⊥
IsOfOtherKind is_clean book rows (Roster AnotherCluster) = ⊥
IsOfOtherKind is_clean book rows (Roster Full) = ⊥
IsOfOtherKind is_clean book rows (OtherKind number) = is_clean → first_other book rows ≡ Some number
