-- The index of a book.
use Rattle.std.specs.Prelude.{◌≡◌, ℕ, ◌≤◌, List, length, slice_get, Some, IfSome}
use Rattle.std.specs.Ordering.{nat_cmp}
use Rattle.std.specs.Cmp.Lexicographic.{slice_cmp}
use Rattle.std.specs.List.{AllByRecursion}
use Rattle.std.specs.BTreeMap as tree
use Rattle.std.specs.BTreeMap.{BTreeMap}
use Rattle.std.specs.declared.cmp.Ordering.{Ordering}
use Rattle.arrayvec.specs.ArrayVec.{ArrayVec}
use Rattle.token_file.specs.Credential.{Credential, place_of}

-- the order of names
abbrev pub name_cmp : ArrayVec ℕ → ArrayVec ℕ → Ordering
name_cmp a b = slice_cmp nat_cmp a.items b.items

-- at most 10,000 tokens with distinct names of at most 64 bytes; the index maps each name to the token's place
pub record IsIndexed (book : List Credential) (index : BTreeMap (ArrayVec ℕ) ℕ) : Type 0 where
  pub few : length book ≤ 10000
  pub short : AllByRecursion (λ token. length token.name ≤ 64) book
  pub own : (n : ℕ) → IfSome (slice_get book n) (λ token. place_of token.name book ≡ Some n)
  pub places : (name : List ℕ) → tree.get name_cmp index (record { items = name }) ≡ place_of name book
