-- What the queries show of the tables of names.
use Rattle.std.specs.Prelude.{◌≡◌, ◌≤◌, ℕ, List, [], ◌∷◌, length}
use Rattle.sqlite.specs.Order.{Row, column}
use Rattle.sqlite.specs.Tree.{Trees}
use Rattle.floor_sql.specs.Schema as tables
use Rattle.floor_sql.specs.Stored.{rows_of}
use Rattle.floor_sql.specs.Usable.{HasOnly}
use Rattle.roster_sql.specs.Roster.{BondRecord, bond_columns, bond_values, entry_columns, entry_values}
use Rattle.roster_sql.specs.declared.entry.Entry.{Entry}

-- the columns of a row of `roster`, as a query shows them
abbrev pub entry_shown : Row → Row
entry_shown r = column r 0 ∷ column r 1 ∷ column r 2 ∷ []

-- a name or a seed: 16 bytes
abbrev pub IsName : List ℕ → Type 0
IsName name = length name ≡ 16

-- the name and the seed of a token
abbrev pub IsEntry : Entry → Type 0
IsEntry entry = IsName entry.name × IsName entry.seed

-- the token has one row in `roster`, with a name and a seed
pub record HasUsableEntry (trees : Trees) (token : ℕ) : Type 0 where
  pub entry : Entry
  pub range : IsEntry entry
  pub only : HasOnly (rows_of tables.roster trees) token entry_columns (entry_values token entry)

-- the columns of the row of `bond`, as a query shows them
abbrev pub bond_shown : Row → Row
bond_shown r = column r 0 ∷ column r 1 ∷ column r 2 ∷ column r 3 ∷ []

-- a number of members that fits one byte
abbrev pub IsMembers : ℕ → Type 0
IsMembers members = members ≤ 255

-- a bond whose words have at most 64 bytes
pub record IsBond (own : BondRecord) : Type 0 where
  pub names : length own.names ≤ 64
  pub life : length own.life ≤ 64
  pub members : IsMembers own.members

-- `bond` has one row, with a bond
pub record HasUsableBond (trees : Trees) : Type 0 where
  pub own : BondRecord
  pub range : IsBond own
  pub only : HasOnly (rows_of tables.bond trees) 1 bond_columns (bond_values own)
