-- Steps over one store: none of them loses or replaces it.
use Rattle.std.proofs.Common.{◌≡◌, ℕ, true, cond, List, [], ◌∷◌, ◌++◌, refl, subst, eqb}
use Rattle.vote_core.specs.Schedule.{is_member}
use Rattle.book_law.specs.Lives.{Setting, Store, store_with_rows}
use Rattle.order_law.specs.Interleavings.{AreOfMembers, AreReplaced, Item, steps_at}
use Rattle.order_law.specs.Steps.{AreOfProcess, AreSteps, Closed, Commits, Does, Ends, Gets, Gone, Hears, IsStep, Loses, Open, Pauses, Place, Says, Starts, Step, place_after, place_in_end}
use Rattle.order_law.proofs.Walk.{own_steps}

-- the step neither loses nor replaces the store
abbrev KeepsStore : Step → Type 0
KeepsStore Loses = ⊥
KeepsStore (Gets boot given floor) = ⊥
KeepsStore step = Unit {0}

abbrev pub KeepStore : List Step → Type 0
KeepStore [] = Unit {0}
KeepStore (step ∷ steps) = KeepsStore step × KeepStore steps

pub keep_append : (xs ys : List Step) → KeepStore xs → KeepStore ys → KeepStore (xs ++ ys)
keep_append [] ys h k = k
keep_append (x ∷ xs) ys h k = (h.0, keep_append xs ys h.1 k)

pub first_keep : (steps later : List Step) → KeepStore (steps ++ later) → KeepStore steps
first_keep [] later h = tt
first_keep (step ∷ steps) later h = (h.0, first_keep steps later h.1)

keep_later : (xs ys : List Step) → KeepStore (xs ++ ys) → KeepStore ys
keep_later [] ys h = h
keep_later (x ∷ xs) ys h = keep_later xs ys h.1

pub process_keeps : (steps : List Step) → AreOfProcess steps → KeepStore steps
process_keeps [] h = tt
process_keeps (Hears receipt ∷ steps) h = (tt, process_keeps steps h.1)
process_keeps (Commits inputs ∷ steps) h = (tt, process_keeps steps h.1)
process_keeps (Says telling ∷ steps) h = (tt, process_keeps steps h.1)
process_keeps (Pauses cleared ∷ steps) h = (tt, process_keeps steps h.1)
process_keeps (Starts terms port ∷ steps) h = absurd h.0
process_keeps (Ends kept ∷ steps) h = absurd h.0
process_keeps (Does action ∷ steps) h = absurd h.0
process_keeps (Loses ∷ steps) h = absurd h.0
process_keeps (Gets boot given floor ∷ steps) h = absurd h.0

-- ---- a node that has a store may lose it

abbrev HasStore : Place → Type 0
HasStore (Closed store) = Unit {0}
HasStore (Open live) = Unit {0}
HasStore (Gone former) = ⊥

keeps_store : (setting : Setting) (node : ℕ) (place : Place) (step : Step) → KeepsStore step → HasStore place → HasStore (place_after setting node place step)
keeps_store setting node (Closed store) (Starts terms port) k h = tt
keeps_store setting node (Closed store) (Hears receipt) k h = tt
keeps_store setting node (Closed store) (Commits inputs) k h = tt
keeps_store setting node (Closed store) (Says telling) k h = tt
keeps_store setting node (Closed store) (Pauses cleared) k h = tt
keeps_store setting node (Closed store) (Ends kept) k h = tt
keeps_store setting node (Closed store) (Does action) k h = tt
keeps_store setting node (Closed store) Loses k h = absurd k
keeps_store setting node (Closed store) (Gets boot given floor) k h = absurd k
keeps_store setting node (Open live) (Starts terms port) k h = tt
keeps_store setting node (Open live) (Hears receipt) k h = tt
keeps_store setting node (Open live) (Commits inputs) k h = tt
keeps_store setting node (Open live) (Says telling) k h = tt
keeps_store setting node (Open live) (Pauses cleared) k h = tt
keeps_store setting node (Open live) (Ends kept) k h = tt
keeps_store setting node (Open live) (Does action) k h = tt
keeps_store setting node (Open live) Loses k h = absurd k
keeps_store setting node (Open live) (Gets boot given floor) k h = absurd k
keeps_store setting node (Gone former) step k h = absurd h

keep_to_end : (setting : Setting) (node : ℕ) (place : Place) (steps : List Step) → KeepStore steps → HasStore place → HasStore (place_in_end setting node place steps)
keep_to_end setting node place [] k h = h
keep_to_end setting node place (step ∷ steps) k h = keep_to_end setting node (place_after setting node place step) steps k.1 (keeps_store setting node place step k.0 h)

-- A node at the place may lose its store, and then get any other one.
pub record MayLose (setting : Setting) (node : ℕ) (place : Place) : Type 0 where
  pub loses : IsStep setting node place Loses
  pub gets : (boot : ℕ) (given : List ℕ) (floor : ℕ → ℕ) → IsStep setting node (place_after setting node place Loses) (Gets boot given floor)
  pub has : (boot : ℕ) (given : List ℕ) (floor : ℕ → ℕ)
      → place_after setting node (place_after setting node place Loses) (Gets boot given floor) ≡ Closed (store_with_rows boot given floor)

may_lose_there : (setting : Setting) (node : ℕ) (place : Place) → HasStore place → MayLose setting node place
may_lose_there setting node (Closed store) h = record { loses = tt; gets = λ boot given floor. tt; has = λ boot given floor. refl }
may_lose_there setting node (Open live) h = record { loses = tt; gets = λ boot given floor. tt; has = λ boot given floor. refl }
may_lose_there setting node (Gone former) h = absurd h

pub may_lose : (setting : Setting) (node : ℕ) (store : Store) (steps : List Step) → KeepStore steps → MayLose setting node (place_in_end setting node (Closed store) steps)
may_lose setting node store steps k = may_lose_there setting node (place_in_end setting node (Closed store) steps) (keep_to_end setting node (Closed store) steps k tt)

pub first_are : (setting : Setting) (node : ℕ) (place : Place) (steps later : List Step) → AreSteps setting node place (steps ++ later) → AreSteps setting node place steps
first_are setting node place [] later are = tt
first_are setting node place (step ∷ steps) later are = (are.0, first_are setting node (place_after setting node place step) steps later are.1)

-- ---- without a lost store, no rule of replacements is asked for

member_there : (setting : Setting) (before : List Item) (item : Item) (later : List Item) → AreOfMembers setting (before ++ item ∷ later) → is_member setting.n item.node ≡ true
member_there setting [] item later members = members.0
member_there setting (b ∷ before) item later members = member_there setting before item later members.1

kept_there : (node : ℕ) (before : List Item) (item : Item) (later : List Item) → node ≡ item.node → KeepStore (steps_at node (before ++ item ∷ later)) → KeepsStore item.step
kept_there node [] item later own h = (subst KeepStore (own_steps node item later own) h).0
kept_there node (b ∷ before) item later own h =
    kept_there node before item later own (keep_later (cond (eqb node b.node) (b.step ∷ []) []) (steps_at node (before ++ item ∷ later)) h)

pub never_replaced : (setting : Setting) (items : List Item) → AreOfMembers setting items → ((node : ℕ) → is_member setting.n node ≡ true → KeepStore (steps_at node items)) → AreReplaced setting items
never_replaced setting items members none before later node boot given floor is =
    let item : Item = record { node = node; step = Gets boot given floor } in
    let member = member_there setting before item later (subst (AreOfMembers setting) is members) in
    absurd (kept_there node before item later refl (subst (λ l. KeepStore (steps_at node l)) is (none node member)))
