-- What a window admitted stays below its mark or among what it saw, and so is not admitted again.
use Rattle.std.proofs.Common.{◌≡◌, ℕ, ◌+◌, ◌*◌, ◌<◌, ◌≤◌, ◌^◌, Bool, true, false, cond, eqb, leb, ltb, max, List, [], ◌∷◌, ◌++◌, length, take, drop, Some, None, refl, sym, ap, subst, ◌∙◌, arith, inl, inr}
use Rattle.std.specs.Prelude.{◌⊎◌, ◌&&◌, ◌||◌, not, slice_index}
use Rattle.std.specs.List.{AllByRecursion, IsDistinct, fold, insert, list_any}
use Rattle.std.specs.Option.{unwrap_or}
use Rattle.std.proofs.lemmas.Bool.{eqb-true, eqb-false, ltb-true, le-ltb, leb-true, and_parts, ne_eqb}
use Rattle.std.proofs.Math.Nat.{le_trans}
use Rattle.std.proofs.lemmas.List.{take-append-drop}
use Rattle.std.proofs.lemmas.List.Folds.{list_any-append}
use Rattle.replay_window.specs.Window.{WindowRecord, behind, is_fresh, is_new, is_timely, last_at, latest_of, place_of, window_after, with_moment, with_seen}
use Rattle.replay_window.specs.Boots.{AreHandedOn, AreMarked, Boot, IsMarkedIn, admitted_over, window_run}
use Rattle.replay_window.specs.Lives.{AreInOrder, Arrival, Life, admitted, admitted_in, window_of}

-- ---- booleans

and_false : (a : Bool) → (a && false) ≡ false
and_false true = refl
and_false false = refl

or_true : (a : Bool) → (a || true) ≡ true
or_true true = refl
or_true false = refl

or_right : (a b : Bool) → b ≡ true → (a || b) ≡ true
or_right a true e = or_true a
or_right a false e = absurd cc

or_left : (a b : Bool) → a ≡ true → (a || b) ≡ true
or_left true b e = refl
or_left false b e = absurd cc

or_cases : (a b : Bool) → (a || b) ≡ true → (a ≡ true) ⊎ (b ≡ true)
or_cases true b e = inl refl
or_cases false b e = inr e

bool_cases : (a : Bool) → (a ≡ true) ⊎ (a ≡ false)
bool_cases true = inl refl
bool_cases false = inr refl

self_eqb : (x y : ℕ) → x ≡ y → eqb y x ≡ true
self_eqb x y e = elim (bool_cases (eqb y x)) [
  | inl t ↦ t
  | inr f ↦ absurd (eqb-false y x f (sym e))
]

-- ---- lists

has_front : (p : ℕ → Bool) (xs ys : List ℕ) → list_any p xs ≡ true → list_any p (xs ++ ys) ≡ true
has_front p xs ys h = list_any-append p xs ys ∙ or_left (list_any p xs) (list_any p ys) h

has_back : (p : ℕ → Bool) (xs ys : List ℕ) → list_any p ys ≡ true → list_any p (xs ++ ys) ≡ true
has_back p xs ys h = list_any-append p xs ys ∙ or_right (list_any p xs) (list_any p ys) h

has_parts : (p : ℕ → Bool) (xs ys : List ℕ) → list_any p (xs ++ ys) ≡ true → (list_any p xs ≡ true) ⊎ (list_any p ys ≡ true)
has_parts p xs ys h = or_cases (list_any p xs) (list_any p ys) (sym (list_any-append p xs ys) ∙ h)

has_inserted : (p : ℕ → Bool) (xs : List ℕ) (i m : ℕ) → p m ≡ true → list_any p (insert xs i m) ≡ true
has_inserted p xs i m h = has_back p (take i xs) (m ∷ drop i xs) (or_left (p m) (list_any p (drop i xs)) h)

keeps_inserted : (p : ℕ → Bool) (xs : List ℕ) (i m : ℕ) → list_any p xs ≡ true → list_any p (insert xs i m) ≡ true
keeps_inserted p xs i m h =
    let parts = has_parts p (take i xs) (drop i xs) (ap (list_any p) (take-append-drop i xs) ∙ h) in
    elim parts [
      | inl front ↦ has_front p (take i xs) (m ∷ drop i xs) front
      | inr back ↦ has_back p (take i xs) (m ∷ drop i xs) (or_right (p m) (list_any p (drop i xs)) back)
    ]

all_of : {X : Type 0} (P Q : X → Type 0) → ((x : X) → P x → Q x) → (xs : List X) → AllByRecursion P xs → AllByRecursion Q xs
all_of P Q f [] h = tt
all_of P Q f (x ∷ xs) h = (f x h.0, all_of P Q f xs h.1)

all_append : {X : Type 0} (P : X → Type 0) (xs ys : List X) → AllByRecursion P xs → AllByRecursion P ys → AllByRecursion P (xs ++ ys)
all_append P [] ys h k = k
all_append P (x ∷ xs) ys h k = (h.0, all_append P xs ys h.1 k)

distinct_append : (xs ys : List ℕ) → IsDistinct eqb xs → IsDistinct eqb ys → AllByRecursion (λ x. AllByRecursion (λ y. eqb x y ≡ false) ys) xs → IsDistinct eqb (xs ++ ys)
unfolding IsDistinct
distinct_append [] ys h k apart = k
distinct_append (x ∷ xs) ys h k apart = (all_append (λ y. eqb x y ≡ false) xs ys h.0 apart.0, distinct_append xs ys h.1 k apart.1)

-- ---- what is covered: up to the mark, or seen

abbrev pub Covers : ℕ → List ℕ → ℕ → Type 0
Covers low seen x = (x ≤ low) ⊎ (list_any (eqb x) seen ≡ true)

abbrev pub IsCovered : WindowRecord → ℕ → Type 0
IsCovered window x = Covers window.low window.seen x

-- the first one goes, and the mark rises to it
shifted : (low : ℕ) (seen : List ℕ) (x : ℕ) → Covers low seen x → Covers (max low (slice_index seen 0)) (drop 1 seen) x
shifted low [] x (inl le) = inl (omega arith)
shifted low [] x (inr has) = absurd cc
shifted low (y ∷ ys) x (inl le) = inl (omega arith)
shifted low (y ∷ ys) x (inr has) =
    elim (or_cases (eqb x y) (list_any (eqb x) ys) has) [
      | inl is ↦ let e : x ≡ y = eqb-true x y is in inl (omega arith)
      | inr later ↦ inr later
    ]

kept_covers : (b : Bool) (window : WindowRecord) (seen : List ℕ) (x : ℕ) → Covers window.low seen x
    → let a : WindowRecord = record window { seen = seen } in
    let c : WindowRecord = record window { low = max window.low (slice_index seen 0); seen = drop 1 seen } in
    IsCovered (cond b a c) x
kept_covers true window seen x h = h
kept_covers false window seen x h = shifted window.low seen x h

pub stays_covered : (window : WindowRecord) (m x : ℕ) → IsCovered window x → IsCovered (with_seen window m) x
stays_covered window m x h =
    let seen = with_moment window.seen m in
    let more : Covers window.low seen x = elim h as (λ k. Covers window.low seen x) [
      | inl le ↦ inl le
      | inr has ↦ inr (keeps_inserted (eqb x) window.seen (place_of m window.seen) m has)
    ] in
    kept_covers (leb (length seen) 64) window seen x more

pub covers_itself : (window : WindowRecord) (m : ℕ) → IsCovered (with_seen window m) m
covers_itself window m =
    let seen = with_moment window.seen m in
    kept_covers (leb (length seen) 64) window seen m (inr (has_inserted (eqb m) window.seen (place_of m window.seen) m (self_eqb m m refl)))

-- the mark never falls
kept_low : (b : Bool) (window : WindowRecord) (seen : List ℕ)
    → let a : WindowRecord = record window { seen = seen } in
    let c : WindowRecord = record window { low = max window.low (slice_index seen 0); seen = drop 1 seen } in
    window.low ≤ (cond b a c).low
kept_low true window seen = omega arith
kept_low false window seen = omega arith

-- the lead stays
kept_ahead : (b : Bool) (window : WindowRecord) (seen : List ℕ)
    → let a : WindowRecord = record window { seen = seen } in
    let c : WindowRecord = record window { low = max window.low (slice_index seen 0); seen = drop 1 seen } in
    (cond b a c).ahead ≡ window.ahead
kept_ahead true window seen = refl
kept_ahead false window seen = refl

pub ahead_stays : (window : WindowRecord) (m : ℕ) → (with_seen window m).ahead ≡ window.ahead
ahead_stays window m = kept_ahead (leb (length (with_moment window.seen m)) 64) window (with_moment window.seen m)

low_rises : (window : WindowRecord) (m : ℕ) → window.low ≤ (with_seen window m).low
low_rises window m = kept_low (leb (length (with_moment window.seen m)) 64) window (with_moment window.seen m)

-- what is covered is not new
covered_is_old : (window : WindowRecord) (x : ℕ) → IsCovered window x → is_new window x ≡ false
covered_is_old window x (inl le) = rw (le-ltb window.low x le) refl
covered_is_old window x (inr has) = rw has (and_false (ltb window.low x))

fresh_is_new : (window : WindowRecord) (now m : ℕ) → is_fresh window now m ≡ true → is_new window m ≡ true
fresh_is_new window now m h = (and_parts (is_timely window.ahead now m) (is_new window m) h).1

pub fresh_is_apart : (window : WindowRecord) (now m x : ℕ) → IsCovered window x → is_fresh window now m ≡ true → eqb x m ≡ false
fresh_is_apart window now m x covered fresh = elim (bool_cases (eqb x m)) [
  | inl is ↦
      let same : x ≡ m = eqb-true x m is in
      let old : is_new window m ≡ false = subst (λ (y : ℕ). is_new window y ≡ false) same (covered_is_old window x covered) in
      let new : is_new window m ≡ true = fresh_is_new window now m fresh in
      absurd cc
  | inr apart ↦ apart
]

-- ---- what is admitted

-- by whether the first arrival is fresh
step : (P : List ℕ → Type 0) (b : Bool) (xs ys : List ℕ) → (b ≡ true → P xs) → (b ≡ false → P ys) → P (cond b xs ys)
step P true xs ys f g = f refl
step P false xs ys f g = g refl

never_again : (window : WindowRecord) (arrivals : List Arrival) (x : ℕ) → IsCovered window x → AllByRecursion (λ y. eqb x y ≡ false) (admitted window arrivals)
never_again window [] x h = tt
never_again window (a ∷ arrivals) x h =
    step (AllByRecursion (λ y. eqb x y ≡ false)) (is_fresh window a.now a.moment)
    (a.moment ∷ admitted (with_seen window a.moment) arrivals) (admitted window arrivals)
    (λ fresh. (fresh_is_apart window a.now a.moment x h fresh, never_again (with_seen window a.moment) arrivals x (stays_covered window a.moment x h)))
    (λ stale. never_again window arrivals x h)

pub once_law : (window : WindowRecord) (arrivals : List Arrival) → IsDistinct eqb (admitted window arrivals)
unfolding IsDistinct
once_law window [] = tt
once_law window (a ∷ arrivals) =
    step (IsDistinct eqb) (is_fresh window a.now a.moment)
    (a.moment ∷ admitted (with_seen window a.moment) arrivals) (admitted window arrivals)
    (λ fresh. (never_again (with_seen window a.moment) arrivals a.moment (covers_itself window a.moment), once_law (with_seen window a.moment) arrivals))
    (λ stale. once_law window arrivals)

pub above_law : (window : WindowRecord) (arrivals : List Arrival) → AllByRecursion (λ moment. window.low < moment) (admitted window arrivals)
above_law window [] = tt
above_law window (a ∷ arrivals) =
    step (AllByRecursion (λ moment. window.low < moment)) (is_fresh window a.now a.moment)
    (a.moment ∷ admitted (with_seen window a.moment) arrivals) (admitted window arrivals)
    (λ fresh.
    let new = and_parts (ltb window.low a.moment) (not (list_any (eqb a.moment) window.seen)) (fresh_is_new window a.now a.moment fresh) in (
      ltb-true window.low a.moment new.0,
      all_of (λ moment. (with_seen window a.moment).low < moment) (λ moment. window.low < moment)
          (λ y above. let rises = low_rises window a.moment in omega arith) (admitted (with_seen window a.moment) arrivals) (above_law (with_seen window a.moment) arrivals),
    ))
    (λ stale. above_law window arrivals)

-- ---- incarnations

-- an admitted moment is at most the lead ahead of the clock
pub fresh_is_near : (window : WindowRecord) (now m : ℕ) → is_fresh window now m ≡ true → m ≤ last_at now window.ahead
fresh_is_near window now m h =
    let timely = (and_parts (is_timely window.ahead now m) (is_new window m) h).0 in
    let near = (and_parts (ltb now (2 ^ 40)) (leb m (last_at now window.ahead) && leb (now * 1000000) (m + behind)) timely).1 in
    leb-true m (last_at now window.ahead) (and_parts (leb m (last_at now window.ahead)) (leb (now * 1000000) (m + behind)) near).0

apart_later : (x : ℕ) (lives : List Life) → AllByRecursion (λ later. x ≤ (window_of later).low) lives → AllByRecursion (λ y. eqb x y ≡ false) (admitted_in lives)
apart_later x [] h = tt
apart_later x (life ∷ lives) h =
    all_append (λ y. eqb x y ≡ false) (admitted (window_of life) life.arrivals) (admitted_in lives)
    (all_of (λ y. (window_of life).low < y) (λ y. eqb x y ≡ false) (λ y above. ne_eqb x y (λ e. absurd (omega (arith, h.0)))) (admitted (window_of life) life.arrivals)
    (above_law (window_of life) life.arrivals))
    (apart_later x lives h.1)

apart_from_lives : (ahead : ℕ) (window : WindowRecord) (arrivals : List Arrival) (lives : List Life) → window.ahead ≡ ahead
    → AllByRecursion (λ later. AllByRecursion (λ arrival. last_at arrival.now ahead ≤ (window_of later).low) arrivals) lives
    → AllByRecursion (λ x. AllByRecursion (λ y. eqb x y ≡ false) (admitted_in lives)) (admitted window arrivals)
apart_from_lives ahead window [] lives is h = tt
apart_from_lives ahead window (a ∷ arrivals) lives is h =
    let P : List ℕ → Type 0 = AllByRecursion (λ x. AllByRecursion (λ y. eqb x y ≡ false) (admitted_in lives)) in
    let rest = all_of (λ later. AllByRecursion (λ arrival. last_at arrival.now ahead ≤ (window_of later).low) (a ∷ arrivals))
    (λ later. AllByRecursion (λ arrival. last_at arrival.now ahead ≤ (window_of later).low) arrivals)
    (λ later both. both.1) lives h in
    step P (is_fresh window a.now a.moment)
    (a.moment ∷ admitted (with_seen window a.moment) arrivals) (admitted window arrivals)
    (λ fresh.
    let near : a.moment ≤ last_at a.now ahead = subst (λ (n : ℕ). a.moment ≤ last_at a.now n) is (fresh_is_near window a.now a.moment fresh) in (
      apart_later a.moment lives (all_of (λ later. AllByRecursion (λ arrival. last_at arrival.now ahead ≤ (window_of later).low) (a ∷ arrivals)) (λ later. a.moment ≤ (window_of later).low)
          (λ later both. le_trans near both.0) lives h),
      apart_from_lives ahead (with_seen window a.moment) arrivals lives (ahead_stays window a.moment ∙ is) rest,
    ))
    (λ stale. apart_from_lives ahead window arrivals lives is rest)

pub lives_law : (lives : List Life) → AreInOrder lives → IsDistinct eqb (admitted_in lives)
unfolding IsDistinct
lives_law [] h = tt
lives_law (life ∷ lives) h =
    distinct_append (admitted (window_of life) life.arrivals) (admitted_in lives)
    (once_law (window_of life) life.arrivals) (lives_law lives h.1)
    (apart_from_lives life.ahead (window_of life) life.arrivals lives refl h.0)

-- ---- the latest moment

-- the mark is at most the latest moment
pub from_low : (low : ℕ) (seen : List ℕ) → low ≤ fold max low seen
from_low low [] = omega arith
from_low low (m ∷ seen) = let rest = from_low (max low m) seen in omega (arith, rest)

-- so is each kept moment
among_seen : (low x : ℕ) (seen : List ℕ) → list_any (eqb x) seen ≡ true → x ≤ fold max low seen
among_seen low x [] has = absurd cc
among_seen low x (m ∷ seen) has = elim (or_cases (eqb x m) (list_any (eqb x) seen) has) [
  | inl is ↦ let e : x ≡ m = eqb-true x m is in let rest = from_low (max low m) seen in omega (arith, rest)
  | inr later ↦ among_seen (max low m) x seen later
]

-- what is covered is at most the latest moment
pub covered_is_early : (window : WindowRecord) (x : ℕ) → IsCovered window x → x ≤ latest_of window
covered_is_early window x (inl le) = let rest = from_low window.low window.seen in omega (arith, rest)
covered_is_early window x (inr has) = among_seen window.low x window.seen has

-- what is covered stays covered over an arrival, and over all of them
covered_after : (b : Bool) (window : WindowRecord) (m x : ℕ) → IsCovered window x → IsCovered (cond b (with_seen window m) window) x
covered_after true window m x h = stays_covered window m x h
covered_after false window m x h = h

covered_run : (window : WindowRecord) (arrivals : List Arrival) (x : ℕ) → IsCovered window x → IsCovered (window_run window arrivals) x
covered_run window [] x h = h
covered_run window (a ∷ arrivals) x h =
    covered_run (window_after window a.now a.moment) arrivals x (covered_after (is_fresh window a.now a.moment) window a.moment x h)

pub mark_law : (window : WindowRecord) (arrivals : List Arrival) → window.low ≤ latest_of (window_run window arrivals)
mark_law window arrivals = covered_is_early (window_run window arrivals) window.low (covered_run window arrivals window.low (inl (omega arith)))

pub latest_law : (window : WindowRecord) (arrivals : List Arrival)
    → AllByRecursion (λ moment. moment ≤ latest_of (window_run window arrivals)) (admitted window arrivals)
latest_law window [] = tt
latest_law window (a ∷ arrivals) = go (is_fresh window a.now a.moment) (latest_law (with_seen window a.moment) arrivals) (latest_law window arrivals)
  where
    go : (b : Bool)
        → AllByRecursion (λ moment. moment ≤ latest_of (window_run (with_seen window a.moment) arrivals)) (admitted (with_seen window a.moment) arrivals)
        → AllByRecursion (λ moment. moment ≤ latest_of (window_run window arrivals)) (admitted window arrivals)
        → AllByRecursion (λ moment. moment ≤ latest_of (window_run (cond b (with_seen window a.moment) window) arrivals))
        (cond b (a.moment ∷ admitted (with_seen window a.moment) arrivals) (admitted window arrivals))
    go true fresh stale = (
      covered_is_early (window_run (with_seen window a.moment) arrivals) a.moment
          (covered_run (with_seen window a.moment) arrivals a.moment (covers_itself window a.moment)),
      fresh,
    )
    go false fresh stale = stale

-- ---- boots

apart_in_boots : (x : ℕ) (boots : List Boot) → AllByRecursion (λ later. x ≤ later.window.low) boots → AllByRecursion (λ y. eqb x y ≡ false) (admitted_over boots)
apart_in_boots x [] h = tt
apart_in_boots x (boot ∷ boots) h =
    all_append (λ y. eqb x y ≡ false) (admitted boot.window boot.arrivals) (admitted_over boots)
    (all_of (λ y. boot.window.low < y) (λ y. eqb x y ≡ false) (λ y above. ne_eqb x y (λ e. absurd (omega (arith, h.0)))) (admitted boot.window boot.arrivals)
    (above_law boot.window boot.arrivals))
    (apart_in_boots x boots h.1)

apart_from_boots : (moments : List ℕ) (boots : List Boot) → AllByRecursion (λ later. AllByRecursion (λ moment. moment ≤ later.window.low) moments) boots
    → AllByRecursion (λ x. AllByRecursion (λ y. eqb x y ≡ false) (admitted_over boots)) moments
apart_from_boots [] boots h = tt
apart_from_boots (x ∷ moments) boots h = (
  apart_in_boots x boots (all_of (λ later. AllByRecursion (λ moment. moment ≤ later.window.low) (x ∷ moments)) (λ later. x ≤ later.window.low) (λ later both. both.0) boots h),
  apart_from_boots moments boots
      (all_of (λ later. AllByRecursion (λ moment. moment ≤ later.window.low) (x ∷ moments)) (λ later. AllByRecursion (λ moment. moment ≤ later.window.low) moments)
      (λ later both. both.1) boots h),
)

pub boots_law : (boots : List Boot) → AreMarked boots → IsDistinct eqb (admitted_over boots)
unfolding IsDistinct
boots_law [] h = tt
boots_law (boot ∷ boots) h =
    distinct_append (admitted boot.window boot.arrivals) (admitted_over boots)
    (once_law boot.window boot.arrivals) (boots_law boots h.1)
    (apart_from_boots (admitted boot.window boot.arrivals) boots h.0)

-- what is at most the first mark of a boot is at most that of each later one
below_all : (x : ℕ) (boot : Boot) (boots : List Boot) → x ≤ boot.window.low → AreHandedOn (boot ∷ boots)
    → AllByRecursion (λ later. x ≤ later.window.low) (boot ∷ boots)
below_all x boot [] low h = (low, tt)
below_all x boot (next ∷ boots) low h =
    (low, below_all x next boots (le_trans low (le_trans (mark_law boot.window boot.arrivals) h.0)) h.1)

pub handed_law : (boots : List Boot) → AreHandedOn boots → AreMarked boots
handed_law [] h = tt
handed_law (boot ∷ []) h = (tt, tt)
handed_law (boot ∷ next ∷ boots) h =
    let bound : ℕ = latest_of (window_run boot.window boot.arrivals) in
    let moments : List ℕ = admitted boot.window boot.arrivals in (
      all_of (λ (later : Boot). bound ≤ later.window.low) (λ later. AllByRecursion (λ moment. moment ≤ later.window.low) moments)
          (λ later le. all_of (λ moment. moment ≤ bound) (λ moment. moment ≤ later.window.low) (λ moment most. le_trans most le) moments (latest_law boot.window boot.arrivals))
          (next ∷ boots) (below_all bound next boots h.0 h.1),
      handed_law (next ∷ boots) h.1,
    )

-- ---- places

-- the place of a moment is a place of a seen moment, or the place after them
within : (b : Bool) (p n : ℕ) → (b ≡ true → p < n) → unwrap_or (cond b (Some p) None) n ≤ n
within true p n h = let lt = h refl in omega arith
within false p n h = omega arith
