-- The store below a seated store: the rows without a seat stay, and what is seen tells all else.
use Rattle.std.specs.Prelude.{◌≡◌, ℕ, List}
use Rattle.floor_store.specs.Content.{Content}
use Rattle.floor_store.specs.Held.{Held}
use Rattle.seated_store.specs.Seats.{seated_content}
use Rattle.book_law.specs.Lives.{content_under}

-- the new content is the old one with what is seen of the new one at the seats
abbrev pub IsUnder : List ℕ → Content → Content → Type 0
IsUnder seats old new = new ≡ content_under seats (seated_content seats new) old

-- while the layers below are clean, the store's content, and each that a stop may leave, are under the seats from the
-- first content on
pub record KeepsOthers {S : Type 0} (held : S → Held) (seats : List ℕ) (first : Content) (store : S) : Type 0 where
  pub content : (held store).is_clean → IsUnder seats first (held store).content
  pub leaves : (held store).is_clean → (left : Content) → (held store).leaves left → IsUnder seats first left

-- a stop may leave the first content with what is seen at the seats
pub record LeavesUnder {S : Type 0} (held : S → Held) (seats : List ℕ) (first seen : Content) (store : S)
    : Type 0 where
  pub below : Content
  pub left : (held store).leaves below
  pub is : below ≡ content_under seats seen first
