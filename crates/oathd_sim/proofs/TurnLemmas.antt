-- Items that are taken one after the other.
use Rattle.std.proofs.Common.{◌≡◌, ℕ, suc, add-one, ◌+◌, ◌<◌, ◌≤◌, List, [], ◌∷◌, ◌++◌, length, drop, Option, Some, None, refl, sym, ap, ◌∙◌, arith, get_or}
use Rattle.std.specs.Prelude.{Result, Ok, Err}
use Rattle.std.proofs.Math.ListN.{drop_of_length-le}
use Rattle.std.proofs.Math.Seq.{drop-cons}
use Rattle.oathd_sim.specs.Turns.{state_after, value_then}

-- the next item, followed by the others
pub next_item : {X : Type 0} (items : List X) (number : ℕ) (item : X) → number < length items → item ≡ get_or items number item
    → drop number items ≡ item ∷ drop (number + 1) items
next_item items number item within is =
    rw (add-one, drop-cons items number item within) (ap (λ x. x ∷ drop (suc number) items) (sym is))

-- the place of an item, by the number of those before it
pub at_number : {X : Type 0} (items : List X) (number place : ℕ) (item : X) → number ≡ place → place < length items → item ≡ get_or items place item
    → (number < length items) × (item ≡ get_or items number item)
at_number items number place item e within is = (omega arith, rw e is)

module _ {S X : Type 0} (turn : S → X → Option S) where
  -- ---- a loop

  -- the first `number` items are taken, and the state is `state`
  pub record HasTaken (start : S) (items : List X) (state : S) (number : ℕ) : Type 0 where
    pub so_far : state_after turn 1 start items ≡ state_after turn (number + 1) state (drop number items)

  pub taken_none : (start : S) (items : List X) → HasTaken start items start 0
  taken_none start items = record { so_far = refl }

  taken_to : (start : S) (items : List X) (state : S) (number : ℕ) (item : X) → number < length items → item ≡ get_or items number item
      → HasTaken start items state number
      → state_after turn 1 start items
      ≡ value_then (number + 1) (turn state item) (λ new. state_after turn (number + 1 + 1) new (drop (number + 1) items))
  taken_to start items state number item within is taken =
      taken.so_far ∙ ap (λ left. state_after turn (number + 1) state left) (next_item items number item within is)

  pub taken_next : (start : S) (items : List X) (state : S) (number : ℕ) (item : X) (new : S)
      → number < length items → item ≡ get_or items number item → turn state item ≡ Some new
      → HasTaken start items state number → HasTaken start items new (number + 1)
  taken_next start items state number item new within is e taken = record {
    so_far = taken_to start items state number item within is taken
        ∙ ap (λ o. value_then (number + 1) o (λ next. state_after turn (number + 1 + 1) next (drop (number + 1) items))) e;
  }

  pub taken_bad : (start : S) (items : List X) (state : S) (number : ℕ) (item : X)
      → number < length items → item ≡ get_or items number item → turn state item ≡ None
      → HasTaken start items state number → state_after turn 1 start items ≡ Err (number + 1)
  taken_bad start items state number item within is e taken =
      taken_to start items state number item within is taken
      ∙ ap (λ o. value_then (number + 1) o (λ next. state_after turn (number + 1 + 1) next (drop (number + 1) items))) e

  pub taken_all : (start : S) (items : List X) (state : S) (number : ℕ) → length items ≤ number → HasTaken start items state number
      → state_after turn 1 start items ≡ Ok state
  taken_all start items state number le taken =
      taken.so_far ∙ ap (λ left. state_after turn (number + 1) state left) (drop_of_length-le items le)

  -- ---- the first refused item

  pub record IsFirstFrom (start : ℕ) (state : S) (items : List X) (number : ℕ) : Type 0 where
    pub front : List X
    pub item : X
    pub rest : List X
    pub parts : items ≡ front ++ item ∷ rest
    pub place : number ≡ length front + start
    pub before : S
    pub is_good : state_after turn start state front ≡ Ok before
    pub is_bad : turn before item ≡ None

  first_later : (start : ℕ) (state new : S) (item : X) (items : List X) (number : ℕ) → turn state item ≡ Some new
      → IsFirstFrom (start + 1) new items number → IsFirstFrom start state (item ∷ items) number
  first_later start state new item items number e first = record {
    front = item ∷ first.front;
    item = first.item;
    rest = first.rest;
    parts = ap (λ l. item ∷ l) first.parts;
    place = omega (arith, first.place);
    before = first.before;
    is_good = ap (λ o. value_then start o (λ next. state_after turn (start + 1) next first.front)) e ∙ first.is_good;
    is_bad = first.is_bad;
  }

  first_at : (start : ℕ) (state : S) (item : X) (items : List X) (number : ℕ) (taken : Option S) → turn state item ≡ taken
      → ((new : S) → state_after turn (start + 1) new items ≡ Err number → IsFirstFrom (start + 1) new items number)
      → value_then start taken (λ next. state_after turn (start + 1) next items) ≡ Err number → IsFirstFrom start state (item ∷ items) number
  first_at start state item items number None is later e = record {
    front = [];
    item = item;
    rest = items;
    parts = refl;
    place = (let same : start ≡ number = cc in omega (arith, same));
    before = state;
    is_good = refl;
    is_bad = is;
  }
  first_at start state item items number (Some new) is later e = first_later start state new item items number is (later new e)

  pub first_refused : (start : ℕ) (state : S) (items : List X) (number : ℕ) → state_after turn start state items ≡ Err number
      → IsFirstFrom start state items number
  first_refused start state [] number e = absurd cc
  first_refused start state (item ∷ items) number e =
      first_at start state item items number (turn state item) refl (λ new h. first_refused (start + 1) new items number h) e

  -- the outcome of the rest after a prefix is taken
  behind_at : (start : ℕ) (taken : Option S) (next other : S → Result S ℕ) (before : S) (end : Result S ℕ)
      → ((new : S) → next new ≡ Ok before → other new ≡ end)
      → value_then start taken next ≡ Ok before → value_then start taken other ≡ end
  behind_at start None next other before end later e = absurd cc
  behind_at start (Some new) next other before end later e = later new e

  pub taken_behind : (start : ℕ) (state : S) (front : List X) (item : X) (before new : S) → state_after turn start state front ≡ Ok before
      → turn before item ≡ Some new → state_after turn start state (front ++ item ∷ []) ≡ Ok new
  taken_behind start state [] item before new good e =
      let same : state ≡ before = cc in
      ap (λ s. value_then start (turn s item) (λ next. Ok next)) same ∙ ap (λ o. value_then start o (λ next. Ok next)) e
  taken_behind start state (other ∷ front) item before new good e =
      behind_at start (turn state other) _ _ before (Ok new) (λ s h. taken_behind (start + 1) s front item before new h e) good

  pub refused_behind : (start : ℕ) (state : S) (front : List X) (item : X) (rest : List X) (before : S) → state_after turn start state front ≡ Ok before
      → turn before item ≡ None → state_after turn start state (front ++ item ∷ rest) ≡ Err (length front + start)
  refused_behind start state [] item rest before good e =
      let same : state ≡ before = cc in
      let number : start ≡ 0 + start = omega arith in
      ap (λ s. value_then start (turn s item) (λ next. state_after turn (start + 1) next rest)) same
      ∙ ap (λ o. value_then start o (λ next. state_after turn (start + 1) next rest)) e ∙ ap Err number
  refused_behind start state (other ∷ front) item rest before good e =
      let number : length front + (start + 1) ≡ length (other ∷ front) + start = omega arith in
      behind_at start (turn state other) _ _ before (Err (length (other ∷ front) + start))
      (λ s h. refused_behind (start + 1) s front item rest before h e ∙ ap Err number) good
