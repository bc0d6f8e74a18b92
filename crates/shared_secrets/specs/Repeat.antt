-- The first two rows of a book that have one seed.
use Rattle.std.specs.Prelude.{◌≡◌, ◌≢◌, ◌-◌, ◌<◌, ◌≤◌, List, take, slice_get, AllPairs, IsSomeAnd, Option, Some, None}
use Rattle.shared_secrets.specs.Seed.{Seed}
use Rattle.shared_secrets.specs.declared.shared.SharedSecret.{SharedSecret}

-- no two rows have one seed
abbrev pub AreDistinct : List Seed → Type 0
AreDistinct seeds = AllPairs (λ a b. a ≢ b) seeds

-- The second row, from 1, is the first one whose seed an earlier row has, and the first row is that earlier one. It is
-- the only one, since the rows before the second have distinct seeds.
pub record IsFirstRepeat (seeds : List Seed) (rows : SharedSecret) : Type 0 where
  pub before : AreDistinct (take (rows.second - 1) seeds)
  pub from_1 : 1 ≤ rows.first
  pub order : rows.first < rows.second
  pub same : IsSomeAnd (slice_get seeds (rows.second - 1)) (λ seed. slice_get seeds (rows.first - 1) ≡ Some seed)

-- None if no two rows have one seed, and otherwise the first repeat
abbrev pub IsSharedIn : List Seed → Option SharedSecret → Type 0
IsSharedIn seeds None = AreDistinct seeds
IsSharedIn seeds (Some rows) = IsFirstRepeat seeds rows
