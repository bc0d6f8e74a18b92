-- Floors in range, list by list.
use Rattle.std.proofs.Common.{◌≡◌, ℕ, zero, suc, ◌+◌, ◌-◌, ◌<◌, ◌≤◌, ⊎_elim, List, [], ◌∷◌, ◌++◌, length, get_or, map, take, Bor, refl, sym, ap, ◌∙◌, subst, arith}
use Rattle.std.specs.Global.{Vec}
use Rattle.std.proofs.lemmas.Bool.{cases_lt}
use Rattle.std.proofs.lemmas.List.{get_or-map, length-map}
use Rattle.std.proofs.lemmas.Option.{same_Some, slice_get-get_or}
use Rattle.otp_core.specs.Range.{IsNext}
use Rattle.cluster_sim.specs.Run.{HasFloorsInRange, HaveFloorsInRange, event_of, floor_lists}
use Rattle.cluster_sim.specs.declared.script.WorldEvent.{WorldEvent}
use Rattle.cluster_sim.specs.declared.script.WorldEvent.TheVariants.{Happens as HappensEvent, Cut as CutEvent, Restart as RestartEvent, Lost as LostEvent, Anew as AnewEvent}
use Rattle.vote_core.proofs.Basics.{Each, each_append, each_get}
use Rattle.std.proofs.Math.Seq.{take-suc, take-length}
use Rattle.cluster_sim.specs.World.{floor_at}

-- the item at a place of a list doesn't depend on the default
same_item : {A : Type 0} (xs : List A) (k : ℕ) (c d : A) → k < length xs → get_or xs k c ≡ get_or xs k d
same_item xs k c d h = same_Some (get_or xs k c) (get_or xs k d) (sym (slice_get-get_or xs k c h) ∙ slice_get-get_or xs k d h)

-- one place more
one_more : (P : ℕ → Type 0) (k : ℕ) → ((t : ℕ) → t < k → P t) → P k → (t : ℕ) → t < k + 1 → P t
one_more P k old new t h = ⊎_elim (λ lt. old t lt) (λ le. subst P (last k t le h) new) (cases_lt t k)
  where
    last : (k t : ℕ) → k ≤ t → t < k + 1 → k ≡ t
    last k t a b = omega (arith, a, b)

-- ---- one list

abbrev pub AreNext : List ℕ → ℕ → Type 0
AreNext list k = (t : ℕ) → t < k → IsNext (get_or list t 0)

pub no_next : (list : List ℕ) → AreNext list 0
no_next list t h = absurd (omega (arith, h))

pub next_next : (list : List ℕ) (k item value : ℕ) → k < length list → item ≡ get_or list k item → value ≡ item → IsNext value → AreNext list k → AreNext list (k + 1)
next_next list k item value h is same range old =
    one_more (λ t. IsNext (get_or list t 0)) k old (subst IsNext (same ∙ is ∙ same_item list k item 0 h) range)

pub all_next : (list : List ℕ) (k : ℕ) → length list ≤ k → AreNext list k → (t : ℕ) → IsNext (get_or list t 0)
all_next [] k h old t = omega arith
all_next (x ∷ xs) k h old zero = old zero (omega (arith, h))
all_next (x ∷ xs) k h old (suc t) = all_next xs (k - 1) (omega (arith, h)) (λ t lt. old (suc t) (omega (arith, lt))) t

-- ---- all lists

abbrev pub AreNexts : List (List ℕ) → ℕ → Type 0
AreNexts lists k = (i : ℕ) → i < k → (t : ℕ) → IsNext (get_or (get_or lists i []) t 0)

pub no_nexts : (lists : List (List ℕ)) → AreNexts lists 0
no_nexts lists i h = absurd (omega (arith, h))

pub next_nexts : (lists : List (Vec ℕ)) (k : ℕ) (item : Vec ℕ) (slice : List ℕ) → k < length lists → item ≡ get_or lists k item → slice ≡ item.items → ((t : ℕ) → IsNext (get_or slice t 0))
    → AreNexts (floor_lists lists) k → AreNexts (floor_lists lists) (k + 1)
next_nexts lists k item slice h is same range old =
    one_more (λ i. (t : ℕ) → IsNext (get_or (get_or (floor_lists lists) i []) t 0)) k old
    (subst (λ (l : List ℕ). (t : ℕ) → IsNext (get_or l t 0)) (same ∙ ap (λ (v : Vec ℕ). v.items) is ∙ sym (get_or-map (λ (v : Vec ℕ). v.items) lists k item [] h)) range)

all_lists : (lists : List (List ℕ)) (k : ℕ) → length lists ≤ k → AreNexts lists k → (i t : ℕ) → IsNext (get_or (get_or lists i []) t 0)
all_lists [] k h old i t = omega arith
all_lists (x ∷ xs) k h old zero t = old zero (omega (arith, h)) t
all_lists (x ∷ xs) k h old (suc i) t = all_lists xs (k - 1) (omega (arith, h)) (λ j lt. old (suc j) (omega (arith, lt))) i t

pub all_nexts : (lists : List (Vec ℕ)) (k : ℕ) → length lists ≤ k → AreNexts (floor_lists lists) k → (node t : ℕ) → IsNext (floor_at (floor_lists lists) node t)
all_nexts lists k h old node t = all_lists (floor_lists lists) k (subst (λ n. n ≤ k) (sym (length-map lists (λ (v : Vec ℕ). v.items))) h) old (node - 1) t

-- ---- events

abbrev pub AreEventsTo : List ℕ → List WorldEvent → ℕ → Type 0
AreEventsTo key xs k = Each HasFloorsInRange (map (event_of key) (take k xs))

pub no_events : (key : List ℕ) (xs : List WorldEvent) → AreEventsTo key xs 0
no_events key [] = tt
no_events key (x ∷ xs) = tt

pub next_events : (key : List ℕ) (xs : List WorldEvent) (k : ℕ) (x : WorldEvent) → k < length xs → x ≡ get_or xs k x → HasFloorsInRange (event_of key x) → AreEventsTo key xs k → AreEventsTo key xs (k + 1)
next_events key xs k x h is new old =
    let z : suc k ≡ k + 1 = omega arith in
    subst (AreEventsTo key xs) z
    (subst (λ l. Each HasFloorsInRange (map (event_of key) l)) (sym (take-suc xs k x h ∙ ap (λ y. take k xs ++ y ∷ []) (sym is)))
    (subst (Each HasFloorsInRange) (sym (map_snoc (event_of key) (take k xs) x)) (each_append HasFloorsInRange (map (event_of key) (take k xs)) (event_of key x ∷ []) old (new, tt))))
  where
    map_snoc : {A B : Type 0} (f : A → B) (ys : List A) (y : A) → map f (ys ++ y ∷ []) ≡ map f ys ++ f y ∷ []
    map_snoc f [] y = refl
    map_snoc f (u ∷ ys) y = ap (λ l. f u ∷ l) (map_snoc f ys y)

-- an event that creates no replacement store
pub not_anew : (key : List ℕ) (x : WorldEvent) → ((node boot : ℕ) (floors : Bor (List ℕ)) → x ≡ AnewEvent node boot floors → ⊥) → HasFloorsInRange (event_of key x)
not_anew key (HappensEvent act) h = tt
not_anew key (CutEvent kept act) h = tt
not_anew key (RestartEvent node) h = tt
not_anew key (LostEvent node) h = tt
not_anew key (AnewEvent node boot floors) h = absurd (h node boot floors refl)

pub all_events : (key : List ℕ) (xs : List WorldEvent) (k : ℕ) → length xs ≤ k → k ≤ length xs → AreEventsTo key xs k → HaveFloorsInRange (map (event_of key) xs)
all_events key xs k low high h n event at =
    let z : k ≡ length xs = omega (arith, low, high) in
    each_get HasFloorsInRange (map (event_of key) xs) n event (subst (λ l. Each HasFloorsInRange (map (event_of key) l)) (ap (λ j. take j xs) z ∙ take-length xs) h) at
