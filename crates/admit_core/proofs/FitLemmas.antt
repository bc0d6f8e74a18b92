-- The first number of a window's list that fits is the least of the window that does.
use Rattle.std.proofs.Common.{◌≡◌, ℕ, ℤ, zero, suc, ◌+◌, ◌-◌, ◌^◌, ◌<◌, ◌≤◌, ⊎_elim, ◌↔◌, Bool, true, ◌&&◌, eqb, nat_lt, List, ◌∷◌, Option, Some, None, filter, unwrap_or, refl, sym, ap, ◌∙◌, subst, arith}
use Rattle.std.specs.List.{find, list_any, range_with_len}
use Rattle.std.specs.List.{Contains}
use Rattle.std.specs.Option.{option_map}
use Rattle.std.specs.Str.{bytes_eq}
use Rattle.std.proofs.lemmas.Cmp.{nat_eq_equiv}
use Rattle.std.proofs.lemmas.Map.Views.{Contains-from_any, list_any-from_Contains}
use Rattle.std.proofs.lemmas.Slice.Eq.{bytes_eq-Decides}
use Rattle.std.proofs.lemmas.Bool.{cond_both, cases_lt, false≢true, eqb-true, eq-eqb, ltb-true, lt-ltb, and_parts, and_from, or_cases, or_left, or_right}
use Rattle.token_file.specs.Credential.{Credential, period_of}
use Rattle.token_file.specs.declared.token.Kind.{Kind}
use Rattle.otp_core.specs.Totp.{step_of}
use Rattle.otp_core.specs.Limits.{Limits}
use Rattle.admit_core.specs.Window.{InPeriodWindow, InWindow, AreEnds, factors_below, period_window_numbers, window_numbers}
use Rattle.admit_core.specs.Fit.{code_at, Fits, IsLeastBetween, NoneBetween, IsLeastIn, NoneIn, fits_from, last_used, first_fit}
use Rattle.otp_core.specs.Submission.{Submission, Check, Resync}
use Rattle.admit_core.specs.Drift.{token_step}
use Rattle.admit_core.proofs.WindowLemmas.{IsFactorBelow, IsWithinReach-below, IsWithinSkew-below}

-- ---- the numbers of a range that pass one test, the first that passes another, and membership

record Found (p q : ℕ → Bool) (a n lo : ℕ) : Type 0 where
  low : a ≤ lo
  high : lo < a + n
  passes : p lo ≡ true
  found : q lo ≡ true
  least : (m : ℕ) → a ≤ m → m < lo → p m ≡ true → q m ≡ true → ⊥

-- what holds of each number from a + 1 on, and of a, holds of each from a on
from_next : (P : ℕ → Type 0) (a m : ℕ) → a ≤ m → P a → (a + 1 ≤ m → P m) → P m
from_next P a m low here later =
    let above : a < m → P m = λ l. later (omega arith) in
    let same : m ≤ a → P m = λ l. let e : a ≡ m = omega arith in subst P e here in
    ⊎_elim above same (cases_lt a m)

Found-next : (p q : ℕ → Bool) (a n lo : ℕ) → Found p q (a + 1) n lo → (p a ≡ true → q a ≡ true → ⊥) → Found p q a (suc n) lo
Found-next p q a n lo h not_here = record {
  low = omega (arith, h.low);
  high = omega (arith, h.high);
  passes = h.passes;
  found = h.found;
  least = λ m low high. from_next (λ (k : ℕ). p k ≡ true → q k ≡ true → ⊥) a m low not_here (λ l. h.least m l high);
}

found_in_range : (p q : ℕ → Bool) (n a lo : ℕ) → find q (filter p (range_with_len a n)) ≡ Some lo → Found p q a n lo
found_in_range p q zero a lo = λ e. absurd (cc)
found_in_range p q (suc n) a lo =
    let rest = filter p (range_with_len (a + 1) n) in
    cond_both (p a) (a ∷ rest) rest (λ (xs : List ℕ). find q xs ≡ Some lo → Found p q a (suc n) lo)
    (λ pa. cond_both (q a) (Some a) (find q rest) (λ (o : Option ℕ). o ≡ Some lo → Found p q a (suc n) lo)
    (λ qa e.
    let same : a ≡ lo = ap (λ (o : Option ℕ). unwrap_or o a) e in
    record {
      low = omega arith;
      high = omega arith;
      passes = subst (λ (k : ℕ). p k ≡ true) same pa;
      found = subst (λ (k : ℕ). q k ≡ true) same qa;
      least = λ m low high _ _. omega arith;
    })
    (λ qa e. Found-next p q a n lo (found_in_range p q n (a + 1) lo e) (λ _ t. false≢true (sym qa ∙ t))))
    (λ pa e. Found-next p q a n lo (found_in_range p q n (a + 1) lo e) (λ t _. false≢true (sym pa ∙ t)))

none_in_range : (p q : ℕ → Bool) (n a : ℕ) → find q (filter p (range_with_len a n)) ≡ None → (m : ℕ) → a ≤ m → m < a + n → p m ≡ true → q m ≡ true → ⊥
none_in_range p q zero a = λ e m low high t u. omega arith
none_in_range p q (suc n) a =
    let rest = filter p (range_with_len (a + 1) n) in
    cond_both (p a) (a ∷ rest) rest (λ (xs : List ℕ). find q xs ≡ None → (m : ℕ) → a ≤ m → m < a + suc n → p m ≡ true → q m ≡ true → ⊥)
    (λ pa. cond_both (q a) (Some a) (find q rest) (λ (o : Option ℕ). o ≡ None → (m : ℕ) → a ≤ m → m < a + suc n → p m ≡ true → q m ≡ true → ⊥)
    (λ qa e m low high t u. absurd (cc))
    (λ qa e m low high. from_next (λ (k : ℕ). p k ≡ true → q k ≡ true → ⊥) a m low (λ _ u. false≢true (sym qa ∙ u)) (λ l. none_in_range p q n (a + 1) e m l (omega arith))))
    (λ pa e m low high. from_next (λ (k : ℕ). p k ≡ true → q k ≡ true → ⊥) a m low (λ t _. false≢true (sym pa ∙ t)) (λ l. none_in_range p q n (a + 1) e m l (omega arith)))

member_in_range : (p : ℕ → Bool) (k n a : ℕ) → a ≤ k → k < a + n → p k ≡ true → list_any (λ m. eqb k m) (filter p (range_with_len a n)) ≡ true
member_in_range p k zero a low high t = absurd (omega arith)
member_in_range p k (suc n) a low high t =
    let rest = filter p (range_with_len (a + 1) n) in
    cond_both (p a) (a ∷ rest) rest (λ (xs : List ℕ). list_any (λ m. eqb k m) xs ≡ true)
    (λ pa.
    let above : a < k → list_any (λ m. eqb k m) (a ∷ rest) ≡ true = λ l. or_right (eqb k a) (list_any (λ m. eqb k m) rest) (member_in_range p k n (a + 1) (omega arith) (omega arith) t) in
    let here : k ≤ a → list_any (λ m. eqb k m) (a ∷ rest) ≡ true = λ l. or_left (eqb k a) (list_any (λ m. eqb k m) rest) (eq-eqb k a (omega arith)) in
    ⊎_elim above here (cases_lt a k))
    (λ pa.
    let above : a < k → list_any (λ m. eqb k m) rest ≡ true = λ l. member_in_range p k n (a + 1) (omega arith) (omega arith) t in
    let here : k ≤ a → list_any (λ m. eqb k m) rest ≡ true = λ l. let e : k ≡ a = omega arith in absurd (false≢true (sym pa ∙ ap p (sym e) ∙ t)) in
    ⊎_elim above here (cases_lt a k))

in_range_member : (p : ℕ → Bool) (k n a : ℕ) → list_any (λ m. eqb k m) (filter p (range_with_len a n)) ≡ true → (a ≤ k) × (k < a + n) × (p k ≡ true)
in_range_member p k zero a = λ e. absurd (false≢true e)
in_range_member p k (suc n) a =
    let rest = filter p (range_with_len (a + 1) n) in
    let next : list_any (λ m. eqb k m) rest ≡ true → (a ≤ k) × (k < a + suc n) × (p k ≡ true) = λ e.
    let h = in_range_member p k n (a + 1) e in (omega (arith, h.0), omega (arith, h.1), h.2) in
    cond_both (p a) (a ∷ rest) rest (λ (xs : List ℕ). list_any (λ m. eqb k m) xs ≡ true → (a ≤ k) × (k < a + suc n) × (p k ≡ true))
    (λ pa e.
    let here : eqb k a ≡ true → (a ≤ k) × (k < a + suc n) × (p k ≡ true) = λ t. let same : a ≡ k = sym (eqb-true k a t) in (omega arith, omega arith, subst (λ (m : ℕ). p m ≡ true) same pa) in
    ⊎_elim here next (or_cases (eqb k a) (list_any (λ m. eqb k m) rest) e))
    (λ pa. next)

-- ---- factors from one number on and below another

-- a number is in the range of the list and below 2 ^ 62 exactly if it is a factor below `end`
below : (first end m : ℕ) → first ≤ m → m < first + (end - first) → nat_lt m (2 ^ 62) ≡ true → IsFactorBelow first end m
below first end m low high t = record { from = low; to = omega arith; factor = ltb-true m (2 ^ 62) t }

below_high : (first end m : ℕ) → IsFactorBelow first end m → m < first + (end - first)
below_high first end m h = omega (arith, h.from, h.to)

below_factor : (first end m : ℕ) → IsFactorBelow first end m → nat_lt m (2 ^ 62) ≡ true
below_factor first end m h = lt-ltb m (2 ^ 62) h.factor

pub factors_below-member : (first end k : ℕ) → (list_any (λ m. eqb k m) (factors_below first end) ≡ true) ↔ IsFactorBelow first end k
factors_below-member first end k = (
  (λ e. let h = in_range_member (λ m. nat_lt m (2 ^ 62)) k (end - first) first e in below first end k h.0 h.1 h.2),
  (λ h. member_in_range (λ m. nat_lt m (2 ^ 62)) k (end - first) first h.from (below_high first end k h) (below_factor first end k h)),
)

-- ---- the test of a submission

fits_from-true : (c : Credential) (first end : ℕ) (s : Submission) (m : ℕ) → IsFactorBelow first end m → fits_from c (factors_below first end) s m ≡ true
    → Fits c s m (last_used s m) × IsFactorBelow first end (last_used s m)
fits_from-true c first end (Check code) m h e = ((refl, (bytes_eq-Decides (code_at c m) code).0 e), h)
fits_from-true c first end (Resync given given_next) m h e =
    let window = factors_below first end in
    let parts = and_parts (bytes_eq (code_at c m) given) (bytes_eq (code_at c (m + 1)) given_next && list_any (λ n. eqb (m + 1) n) window) e in
    let later = and_parts (bytes_eq (code_at c (m + 1)) given_next) (list_any (λ n. eqb (m + 1) n) window) parts.1 in
    ((refl, (bytes_eq-Decides _ _).0 parts.0, (bytes_eq-Decides _ _).0 later.0), (factors_below-member first end (m + 1)).0 later.1)

fits-fits_from : (c : Credential) (first end : ℕ) (s : Submission) (m n : ℕ) → Fits c s m n → IsFactorBelow first end m → IsFactorBelow first end n
    → fits_from c (factors_below first end) s m ≡ true
fits-fits_from c first end (Check code) m n fits h k = (bytes_eq-Decides _ _).1 fits.1
fits-fits_from c first end (Resync given given_next) m n fits h k =
    let window = factors_below first end in
    and_from (bytes_eq (code_at c m) given) (bytes_eq (code_at c (m + 1)) given_next && list_any (λ n. eqb (m + 1) n) window) ((bytes_eq-Decides _ _).1 fits.1)
    (and_from (bytes_eq (code_at c (m + 1)) given_next) (list_any (λ n. eqb (m + 1) n) window) ((bytes_eq-Decides _ _).1 (ap (code_at c) (sym fits.0) ∙ fits.2))
    ((factors_below-member first end (m + 1)).1 (subst (IsFactorBelow first end) fits.0 k)))

Fits-last : (c : Credential) (s : Submission) (m n : ℕ) → Fits c s m n → n ≡ last_used s m
Fits-last c (Check code) m n fits = fits.0
Fits-last c (Resync given given_next) m n fits = fits.0

-- ---- the first that fits, over the factors from one number on and below another

found_least : (c : Credential) (s : Submission) (first end m : ℕ) → find (fits_from c (factors_below first end) s) (factors_below first end) ≡ Some m
    → IsLeastIn (IsFactorBelow first end) c s m (last_used s m)
found_least c s first end m e =
    let test = fits_from c (factors_below first end) s in
    let found = found_in_range (λ k. nat_lt k (2 ^ 62)) test (end - first) first m e in
    let here = below first end m found.low found.high found.passes in
    let fits = fits_from-true c first end s m here found.found in
    record {
      fits = fits.0;
      first = here;
      last = fits.1;
      least = λ k n fits_k in_k in_n.
          let lower : k < m → m ≤ k = λ l. absurd (found.least k in_k.from l (below_factor first end k in_k) (fits-fits_from c first end s k n fits_k in_k in_n)) in
          let not_lower : m ≤ k → m ≤ k = λ l. l in
          ⊎_elim lower not_lower (cases_lt k m);
    }

missed_none : (c : Credential) (s : Submission) (first end : ℕ) → find (fits_from c (factors_below first end) s) (factors_below first end) ≡ None
    → NoneIn (IsFactorBelow first end) c s
missed_none c s first end e m n fits in_m in_n =
    none_in_range (λ k. nat_lt k (2 ^ 62)) (fits_from c (factors_below first end) s) (end - first) first e m in_m.from
    (below_high first end m in_m) (below_factor first end m in_m) (fits-fits_from c first end s m n fits in_m in_n)

abbrev with_last : Submission → ℕ → ℕ × ℕ
with_last s lo = (lo, last_used s lo)

-- by what the search found
some_least : (c : Credential) (s : Submission) (first end lo hi : ℕ) (o : Option ℕ) → find (fits_from c (factors_below first end) s) (factors_below first end) ≡ o
    → option_map (with_last s) o ≡ Some (lo, hi) → IsLeastIn (IsFactorBelow first end) c s lo hi
some_least c s first end lo hi None f e = absurd (cc)
some_least c s first end lo hi (Some m) f e =
    let pair : with_last s m ≡ (lo, hi) = ap (λ (o : Option (ℕ × ℕ)). unwrap_or o (lo, hi)) e in
    subst (λ (w : ℕ × ℕ). IsLeastIn (IsFactorBelow first end) c s w.0 w.1) pair (found_least c s first end m f)

least_some : (c : Credential) (s : Submission) (first end lo hi : ℕ) → IsLeastIn (IsFactorBelow first end) c s lo hi
    → (o : Option ℕ) → find (fits_from c (factors_below first end) s) (factors_below first end) ≡ o → option_map (with_last s) o ≡ Some (lo, hi)
least_some c s first end lo hi h None f = absurd (missed_none c s first end f lo hi h.fits h.first h.last)
least_some c s first end lo hi h (Some m) f =
    let found = found_least c s first end m f in
    let low = found.least lo hi h.fits h.first h.last in
    let high = h.least m (last_used s m) found.fits found.first found.last in
    let same : m ≡ lo = omega arith in
    ap (λ (k : ℕ). Some (with_last s k)) same ∙ ap (λ (k : ℕ). Some (lo, k)) (sym (Fits-last c s lo hi h.fits))

none_missed : (c : Credential) (s : Submission) (first end : ℕ) → NoneIn (IsFactorBelow first end) c s
    → (o : Option ℕ) → find (fits_from c (factors_below first end) s) (factors_below first end) ≡ o → option_map (with_last s) o ≡ None
none_missed c s first end h None f = refl
none_missed c s first end h (Some m) f =
    let found = found_least c s first end m f in
    absurd (h m (last_used s m) found.fits found.first found.last)

missed : (c : Credential) (s : Submission) (first end : ℕ) (o : Option ℕ) → find (fits_from c (factors_below first end) s) (factors_below first end) ≡ o
    → option_map (with_last s) o ≡ None → NoneIn (IsFactorBelow first end) c s
missed c s first end None f e = missed_none c s first end f
missed c s first end (Some m) f e = absurd (cc)

-- ---- the same over an equal set

IsLeastIn-same : {P Q : ℕ → Type 0} → ((m : ℕ) → P m ↔ Q m) → (c : Credential) (s : Submission) (lo hi : ℕ) → IsLeastIn P c s lo hi → IsLeastIn Q c s lo hi
IsLeastIn-same same c s lo hi h = record {
  fits = h.fits;
  first = (same lo).0 h.first;
  last = (same hi).0 h.last;
  least = λ m n fits in_m in_n. h.least m n fits ((same m).1 in_m) ((same n).1 in_n);
}

flip : {P Q : ℕ → Type 0} → ((m : ℕ) → P m ↔ Q m) → (m : ℕ) → Q m ↔ P m
flip same m = ((same m).1, (same m).0)

first_fit-some : {Q : ℕ → Type 0} (first end : ℕ) → ((m : ℕ) → IsFactorBelow first end m ↔ Q m) → (c : Credential) (s : Submission) (lo hi : ℕ)
    → (first_fit c (factors_below first end) s ≡ Some (lo, hi)) ↔ IsLeastIn Q c s lo hi
first_fit-some first end same c s lo hi = (
  (λ e. IsLeastIn-same same c s lo hi (some_least c s first end lo hi _ refl e)),
  (λ h. least_some c s first end lo hi (IsLeastIn-same (flip same) c s lo hi h) _ refl),
)

first_fit-none : {Q : ℕ → Type 0} (first end : ℕ) → ((m : ℕ) → IsFactorBelow first end m ↔ Q m) → (c : Credential) (s : Submission)
    → (first_fit c (factors_below first end) s ≡ None) ↔ NoneIn Q c s
first_fit-none first end same c s = (
  (λ e m n fits in_m in_n. missed c s first end _ refl e m n fits ((same m).1 in_m) ((same n).1 in_n)),
  (λ h. none_missed c s first end (λ m n fits in_m in_n. h m n fits ((same m).0 in_m) ((same n).0 in_n)) _ refl),
)

-- ---- by the period of the token

period_window-some : (period : Option ℕ) (reach : ℕ) (limits : Limits) (next : ℕ) (drift : ℤ) (moment : ℕ) (c : Credential) (s : Submission) (lo hi : ℕ)
    → (first_fit c (period_window_numbers period reach limits next drift moment) s ≡ Some (lo, hi)) ↔ IsLeastIn (InPeriodWindow period reach limits next drift moment) c s lo hi
period_window-some None reach limits next drift moment c s lo hi = first_fit-some _ _ (λ m. IsWithinReach-below next reach m) c s lo hi
period_window-some (Some period) reach limits next drift moment c s lo hi = first_fit-some _ _ (λ m. IsWithinSkew-below next (token_step limits drift (step_of moment 0 period)) limits.skew m) c s lo hi

pub window-some : (kind : Kind) (reach : ℕ) (limits : Limits) (next : ℕ) (drift : ℤ) (moment : ℕ) (c : Credential) (s : Submission) (lo hi : ℕ)
    → (first_fit c (window_numbers kind reach limits next drift moment) s ≡ Some (lo, hi)) ↔ IsLeastIn (InWindow kind reach limits next drift moment) c s lo hi
window-some kind = period_window-some (period_of kind)

period_window-none : (period : Option ℕ) (reach : ℕ) (limits : Limits) (next : ℕ) (drift : ℤ) (moment : ℕ) (c : Credential) (s : Submission)
    → (first_fit c (period_window_numbers period reach limits next drift moment) s ≡ None) ↔ NoneIn (InPeriodWindow period reach limits next drift moment) c s
period_window-none None reach limits next drift moment c s = first_fit-none _ _ (λ m. IsWithinReach-below next reach m) c s
period_window-none (Some period) reach limits next drift moment c s = first_fit-none _ _ (λ m. IsWithinSkew-below next (token_step limits drift (step_of moment 0 period)) limits.skew m) c s

pub window-none : (kind : Kind) (reach : ℕ) (limits : Limits) (next : ℕ) (drift : ℤ) (moment : ℕ) (c : Credential) (s : Submission)
    → (first_fit c (window_numbers kind reach limits next drift moment) s ≡ None) ↔ NoneIn (InWindow kind reach limits next drift moment) c s
window-none kind = period_window-none (period_of kind)

-- ---- the list has just the numbers of the window

factors_below-contains : {Q : ℕ → Type 0} (first end : ℕ) → ((m : ℕ) → IsFactorBelow first end m ↔ Q m) → (m : ℕ) → Contains (factors_below first end) m ↔ Q m
factors_below-contains first end same m = (
  (λ h. (same m).0 ((factors_below-member first end m).0 (list_any-from_Contains nat_eq_equiv m (factors_below first end) h))),
  (λ h. Contains-from_any eqb-true m (factors_below first end) ((factors_below-member first end m).1 ((same m).1 h))),
)

period_window_numbers-contains : (period : Option ℕ) (reach : ℕ) (limits : Limits) (next : ℕ) (drift : ℤ) (moment m : ℕ)
    → Contains (period_window_numbers period reach limits next drift moment) m ↔ InPeriodWindow period reach limits next drift moment m
period_window_numbers-contains None reach limits next drift moment m = factors_below-contains _ _ (λ m. IsWithinReach-below next reach m) m
period_window_numbers-contains (Some period) reach limits next drift moment m = factors_below-contains _ _ (λ m. IsWithinSkew-below next (token_step limits drift (step_of moment 0 period)) limits.skew m) m

pub window_numbers-contains : (kind : Kind) (reach : ℕ) (limits : Limits) (next : ℕ) (drift : ℤ) (moment m : ℕ)
    → Contains (window_numbers kind reach limits next drift moment) m ↔ InWindow kind reach limits next drift moment m
window_numbers-contains kind = period_window_numbers-contains (period_of kind)

-- ---- what is least, or missing, between the ends of a set is so in the set

-- what fits ends no lower than it begins
Fits-ordered : (c : Credential) (s : Submission) (m n : ℕ) → Fits c s m n → m ≤ n
Fits-ordered c (Check code) m n fits = omega (arith, fits.0)
Fits-ordered c (Resync given given_next) m n fits = omega (arith, fits.0)

pub IsLeastIn-between : {P : ℕ → Type 0} (c : Credential) (s : Submission) (first last lo hi : ℕ) → AreEnds P first last → IsLeastBetween c first last s lo hi → IsLeastIn P c s lo hi
IsLeastIn-between c s first last lo hi ends h =
    let ordered = Fits-ordered c s lo hi h.fits in
    let from : first ≤ hi = omega (arith, h.from) in
    let to : lo ≤ last = omega (arith, h.to) in
    record {
      fits = h.fits;
      first = (ends.members lo).1 (h.from, to);
      last = (ends.members hi).1 (from, h.to);
      least = λ m n fits in_m in_n. h.least m n fits (((ends.members m).0 in_m).0) (((ends.members n).0 in_n).1);
    }

pub NoneIn-between : {P : ℕ → Type 0} (c : Credential) (s : Submission) (first last : ℕ) → AreEnds P first last → NoneBetween c first last s → NoneIn P c s
NoneIn-between c s first last ends h m n fits in_m in_n = h m n fits (((ends.members m).0 in_m).0) (((ends.members n).0 in_n).1)
