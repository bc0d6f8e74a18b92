-- The names of tokens.
use Rattle.std.specs.Prelude.{◌≡◌, ◌≢◌, ℕ, ◌-◌, ◌≤◌, List, length, map, take, slice_get, AllPairs, Contains, IsSomeAnd, IsTrue}
use Rattle.field_text.specs.Word.{is_word}
use Rattle.hmac_core.specs.Hash.{mac_of}
use Rattle.hmac_core.specs.declared.hash.Hash.TheVariants.{Sha256}
use Rattle.token_file.specs.Credential.{Credential}
use Rattle.token_names.specs.Identity.{identity_text}
use Rattle.token_names.specs.declared.fault.NamesFault.{NamesFault}
use Rattle.token_names.specs.declared.fault.NamesFault.TheVariants.{Memory, SameName}

-- a word of 12 to 64 bytes
abbrev pub IsSalt : List ℕ → Type 0
IsSalt word = (12 ≤ length word) × IsTrue (is_word word)

-- the first 16 bytes of HMAC-SHA-256 (RFC 2104, section 5: a truncated MAC)
unfoldable pub short_mac : List ℕ → List ℕ → List ℕ
short_mac salt text = take 16 (mac_of Sha256 salt text)

-- the name of a token: the MAC of its identity under the salt
abbrev pub name_of : List ℕ → Credential → List ℕ
name_of salt credential = short_mac salt (identity_text credential)

-- the names of a book, in the order of its rows
abbrev pub names_of : List ℕ → List Credential → List (List ℕ)
names_of salt book = map (name_of salt) book

-- no two names are the same
abbrev pub AreDistinct : List (List ℕ) → Type 0
AreDistinct names = AllPairs (λ a b. a ≢ b) names

-- the row of this number, from 1, is the first one whose name an earlier row has
pub record IsFirstRepeat (names : List (List ℕ)) (row : ℕ) : Type 0 where
  pub before : AreDistinct (take (row - 1) names)
  pub again : IsSomeAnd (slice_get names (row - 1)) (Contains (take (row - 1) names))

-- a fault that the names of a book have
abbrev pub IsFaultOf : List (List ℕ) → NamesFault → Type 0
IsFaultOf names Memory = Unit {0}
IsFaultOf names (SameName row) = IsFirstRepeat names row

-- two different texts with the same short MAC under a salt
pub record IsCollision (salt text other : List ℕ) : Type 0 where
  pub different : text ≡ other → ⊥
  pub same : short_mac salt text ≡ short_mac salt other
