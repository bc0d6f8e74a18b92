-- The effect of a pull on the bytes that a source has left.
use Rattle.std.specs.Prelude.{◌≡◌, ℕ, ◌≤◌, Bool, true, false, List, length, take, Option, Some, None, IfSome}
use Rattle.std.specs.Io.KnownBytes.{Consumes, IsAtEnd}
use Rattle.token_file.specs.declared.source.Pulled.{Pulled}
use Rattle.token_file.specs.declared.source.Pulled.TheVariants.{Bytes, Failed}

-- a pull moves the first bytes left to the buffer's first places, and moves none only at the end; a pull that fails may
-- lose some
abbrev pub Pulls : Option (List ℕ) → Option (List ℕ) → Pulled → List ℕ → Type 0
Pulls old new (Bytes count) buffer =
    (count ≤ length buffer) × Consumes old new (take count buffer) × (count ≡ 0 → IsAtEnd new)
Pulls old new Failed buffer = (lost : List ℕ) × Consumes old new lost

-- a known value stays
abbrev pub Stays : {A : Type 0} → Option A → Option A → Type 0
Stays old new = IfSome old (λ value. new ≡ Some value)

-- whether a pull failed
abbrev pub is_failure : Pulled → Bool
is_failure (Bytes count) = false
is_failure Failed = true

-- a fact of the bytes that a source has left, and of some bytes if the source doesn't know them
abbrev pub OfText : Option (List ℕ) → (List ℕ → Type 0) → Type 0
OfText None P = (text : List ℕ) × P text
OfText (Some text) P = P text
