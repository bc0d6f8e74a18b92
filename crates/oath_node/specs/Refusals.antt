-- The effects of a refused line.
use Rattle.std.specs.Prelude.{◌≡◌, ◌≢◌, ℕ, length}
use Rattle.floor_store.specs.Content.{Content}
use Rattle.vote_core.specs.Rows.{row}
use Rattle.oath_node.specs.declared.ruling.Ruling.{Ruling}
use Rattle.oath_node.specs.declared.ruling.Ruling.TheVariants.{Outside, Again, Waiting, Denied, Wrong, Fitting}

-- the floors (first free factors), grants, drifts, boot and last pass stay unchanged
pub record KeepsFloors (old new : Content) : Type 0 where
  pub tokens : length new.rows ≡ length old.rows
  pub next : (token : ℕ) → (row new token).next ≡ (row old token).next
  pub grant : (token : ℕ) → (row new token).grant ≡ (row old token).grant
  pub drift : (token : ℕ) → (row new token).drift ≡ (row old token).drift
  pub boot : new.boot ≡ old.boot
  pub last : new.last ≡ old.last

-- the ruling proposes no factors
abbrev pub IsRefusal : Ruling → Type 0
IsRefusal Outside = Unit {0}
IsRefusal (Again text) = Unit {0}
IsRefusal Waiting = Unit {0}
IsRefusal (Denied nonce reason) = Unit {0}
IsRefusal (Wrong nonce reason token) = Unit {0}
IsRefusal (Fitting nonce token span drift) = ⊥

-- the token doesn't fail
abbrev pub SparesToken : ℕ → Ruling → Type 0
SparesToken token Outside = Unit {0}
SparesToken token (Again text) = Unit {0}
SparesToken token Waiting = Unit {0}
SparesToken token (Denied nonce reason) = Unit {0}
SparesToken token (Wrong nonce reason failed) = token ≢ failed
SparesToken token (Fitting nonce proposed span drift) = Unit {0}
