-- The index of the kept answers, which finds an answer without a walk.
use Rattle.std.specs.Prelude.{◌≡◌, ℕ, ◌-◌, ◌<◌, ◌≤◌, true, false, List, [], length, drop, slice_index, slice_index_or, Option, MatchOption}
use Rattle.std.specs.List.{AllPairs}
use Rattle.std.specs.Ordering.{is_gt, nat_cmp, ordering_then}
use Rattle.std.specs.declared.cmp.Ordering.{Ordering}
use Rattle.std.specs.declared.cmp.Ordering.TheVariants.{Less, Equal}
use Rattle.answer_ring.specs.Answers.{KeptAnswer, answer_order}

-- the answer at a place outside the list
abbrev pub no_answer : KeptAnswer
no_answer = record { client = 0; line = []; text = [] }

-- the answer at a place, which is the number of the older answers
abbrev pub answer_at : List KeptAnswer → ℕ → KeptAnswer
answer_at kept place = slice_index_or kept place no_answer

-- the answer whose place is entry i of the index
abbrev pub indexed_answer : List KeptAnswer → List ℕ → ℕ → KeptAnswer
indexed_answer kept places i = answer_at kept (slice_index places i)

-- the order of two places: by client and line, the older first of equal ones
unfoldable pub place_order : List KeptAnswer → ℕ → ℕ → Ordering
place_order kept p q = ordering_then (answer_order (answer_at kept p) (answer_at kept q)) (nat_cmp p q)

-- the place of each answer, once and in order
pub record IsIndex (kept : List KeptAnswer) (places : List ℕ) : Type 0 where
  pub as_many : length places ≡ length kept
  pub within : (i : ℕ) → i < length places → slice_index places i < length kept
  pub ordered : AllPairs (λ p q. place_order kept p q ≡ Less) places
  pub whole : (place : ℕ) → place < length kept → (i : ℕ) × (i < length places) × (slice_index places i ≡ place)

-- the number of answers of the index that are at most `sought`
pub record IsEnd (kept : List KeptAnswer) (places : List ℕ) (sought : KeptAnswer) (end : ℕ) : Type 0 where
  pub in_range : end ≤ length places
  pub below : (i : ℕ) → i < end → is_gt (answer_order (indexed_answer kept places i) sought) ≡ false
  pub above : (i : ℕ) → end ≤ i → i < length places → is_gt (answer_order (indexed_answer kept places i) sought) ≡ true

-- the newest answer to the client and line of `sought`, if it is the last before `end`, and else None
abbrev pub IsLastEqual : List KeptAnswer → List ℕ → KeptAnswer → ℕ → Option KeptAnswer → Type 0
IsLastEqual kept places sought end last =
    MatchOption last ((i : ℕ) → i < end → answer_order (indexed_answer kept places i) sought ≡ Less)
    (λ answer. (0 < end) × (answer ≡ indexed_answer kept places (end - 1)) × (answer_order answer sought ≡ Equal))

-- if the old places are the index of some answers, the new ones are the index of all except the oldest
abbrev pub IsIndexOfRest : List ℕ → List ℕ → Type 0
IsIndexOfRest old new = (kept : List KeptAnswer) → IsIndex kept old → 0 < length kept → IsIndex (drop 1 kept) new
