-- Puts through seats leave the rows without a seat.
use Rattle.std.proofs.Common.{◌≡◌, ◌⊎◌, ⊎_elim, inl, inr, ℕ, zero, suc, ◌<◌, ◌≤◌, true, false, List, [], ◌∷◌, length, get_or, Option, Some, None, refl, sym, ap, ◌∙◌, subst, arith, eqb}
use Rattle.std.specs.Prelude.{slice_set, Result, Ok, Err}
use Rattle.std.specs.List.{slice_get}
use Rattle.std.specs.Option.{option_and_then, option_or}
use Rattle.std.proofs.lemmas.Bool.{cases_Bool, cases_lt, eqb-true, eqb-false}
use Rattle.std.proofs.lemmas.List.{length-map}
use Rattle.std.proofs.lemmas.Option.{none-some, slice_get-get_or}
use Rattle.floor_store.specs.Content.{Content, with_next_boot, with_row}
use Rattle.floor_store.specs.Held.{Commits, Held, IsSettled, Makes, OldOrNew, Puts, RaisesBoot}
use Rattle.floor_store.specs.Records.{PassRecord, RowRecord}
use Rattle.floor_store.specs.declared.fault.StoreFault.{StoreFault}
use Rattle.seated_store.specs.Seated.{IsPassedOn, PutsBelow, SeatedRecord, seated_held}
use Rattle.seated_store.specs.Seats.{AreSeats, pass_above, pass_below, row_at, seated_rows}
use Rattle.seated_store.proofs.SeatLemmas.{pass_seen}
use Rattle.book_law.specs.Lives.{content_under, rows_under}
use Rattle.book_law.proofs.Under.{opened_under, rows_size}
use Rattle.name_law.specs.Stores.{IsUnder, KeepsOthers, LeavesUnder}

-- ---- rows

set_twice : {A : Type 0} (xs : List A) (i : ℕ) (x y : A) → slice_set (slice_set xs i y) i x ≡ slice_set xs i x
set_twice [] i x y = refl
set_twice (z ∷ xs) zero x y = refl
set_twice (z ∷ xs) (suc i) x y = ap (λ l. z ∷ l) (set_twice xs i x y)

set_apart : {A : Type 0} (xs : List A) (i j : ℕ) (x y : A) → (i ≡ j → ⊥) → slice_set (slice_set xs i y) j x ≡ slice_set (slice_set xs j x) i y
set_apart [] i j x y apart = refl
set_apart (z ∷ xs) zero zero x y apart = absurd (apart refl)
set_apart (z ∷ xs) zero (suc j) x y apart = refl
set_apart (z ∷ xs) (suc i) zero x y apart = refl
set_apart (z ∷ xs) (suc i) (suc j) x y apart = ap (λ l. z ∷ l) (set_apart xs i j x y (λ e. apart (ap suc e)))

-- a row that is set at last was set before in vain
last_row : (seats : List ℕ) (seen below : List RowRecord) (q : ℕ) (x y : RowRecord) → slice_set (rows_under seats seen (slice_set below q y)) q x ≡ slice_set (rows_under seats seen below) q x
last_row [] seen below q x y = set_twice below q x y
last_row (p ∷ seats) [] below q x y = set_twice below q x y
last_row (p ∷ seats) (z ∷ seen) below q x y =
    ⊎_elim
    (λ (s : eqb p q ≡ true).
    let same : p ≡ q = eqb-true p q s in
    subst (λ k. slice_set (slice_set (rows_under seats seen (slice_set below q y)) k z) q x ≡ slice_set (slice_set (rows_under seats seen below) k z) q x) (sym same)
    (set_twice (rows_under seats seen (slice_set below q y)) q x z ∙ last_row seats seen below q x y ∙ sym (set_twice (rows_under seats seen below) q x z)))
    (λ (s : eqb p q ≡ false).
    let apart = eqb-false p q s in
    set_apart (rows_under seats seen (slice_set below q y)) p q x z apart ∙ ap (λ l. slice_set l p z) (last_row seats seen below q x y) ∙ sym (set_apart (rows_under seats seen below) p q x z apart))
    (cases_Bool (eqb p q))

-- a row of a seat that was set before what is seen was put, was set in vain
seated_row_put : (seats : List ℕ) (seen below : List RowRecord) (m q : ℕ) (y : RowRecord) → length seen ≡ length seats → slice_get seats m ≡ Some q → rows_under seats seen (slice_set below q y) ≡ rows_under seats seen below
seated_row_put [] seen below m q y many at = absurd (none-some q at)
seated_row_put (p ∷ seats) [] below m q y many at = absurd (omega (arith, many))
seated_row_put (p ∷ seats) (z ∷ seen) below zero q y many at =
    let same : p ≡ q = some_is p q at in
    subst (λ k. slice_set (rows_under seats seen (slice_set below q y)) k z ≡ slice_set (rows_under seats seen below) k z) (sym same) (last_row seats seen below q z y)
  where
    some_is : (a b : ℕ) → slice_get (a ∷ []) 0 ≡ Some b → a ≡ b
    some_is a b e = cc
seated_row_put (p ∷ seats) (z ∷ seen) below (suc m) q y many at = ap (λ l. slice_set l p z) (seated_row_put seats seen below m q y (omega (arith, many)) at)

-- what is seen is put over what was seen before
rows_again : (seats : List ℕ) (later : List RowRecord) (below : List RowRecord) → length later ≡ length seats → (some : List ℕ) (seen : List RowRecord) → ((m q : ℕ) → slice_get some m ≡ Some q → (k : ℕ) × (slice_get seats k ≡ Some q))
    → rows_under seats later (rows_under some seen below) ≡ rows_under seats later below
rows_again seats later below many [] seen among = refl
rows_again seats later below many (p ∷ some) [] among = refl
rows_again seats later below many (p ∷ some) (x ∷ seen) among =
    let k = among 0 p refl in
    seated_row_put seats later (rows_under some seen below) k.0 p x many k.1 ∙ rows_again seats later below many some seen (λ m q at. among (suc m) q at)

-- ---- contents

same_parts : (rows : List RowRecord) (last : Option PassRecord) (boot : ℕ) (other : List RowRecord) (pass : Option PassRecord) → rows ≡ other → last ≡ pass
    → (let c : Content = record { rows = rows; boot = boot; last = last } in c) ≡ (let c : Content = record { rows = other; boot = boot; last = pass } in c)
same_parts rows last boot other pass e f = ap (λ (r : List RowRecord). let c : Content = record { rows = r; boot = boot; last = last } in c) e ∙ ap (λ (l : Option PassRecord). let c : Content = record { rows = other; boot = boot; last = l } in c) f

seen_many : (seats : List ℕ) (rows : List RowRecord) → length (seated_rows seats rows) ≡ length seats
seen_many seats rows = length-map seats (row_at rows)

-- nothing has changed
pub start_law : (seats : List ℕ) (content : Content) → IsUnder seats content content
start_law seats content =
    let raised = opened_under seats content in
    same_parts content.rows content.last content.boot _ _ (sym (ap (λ (c : Content). c.rows) raised)) (sym (ap (λ (c : Content). c.last) raised))

-- the boot was raised
boot_law : (seats : List ℕ) (content : Content) → IsUnder seats content (with_next_boot content)
boot_law seats content = sym (opened_under seats content)

-- the last pass below, again
last_again : (seats : List ℕ) (first second third : Option PassRecord) → second ≡ option_or (option_and_then (pass_below seats) (option_and_then (pass_above seats) second)) first
    → third ≡ option_or (option_and_then (pass_below seats) (option_and_then (pass_above seats) third)) second
    → third ≡ option_or (option_and_then (pass_below seats) (option_and_then (pass_above seats) third)) first
last_again seats first second third one two = go (option_and_then (pass_below seats) (option_and_then (pass_above seats) third)) refl
  where
    go : (o : Option PassRecord) → option_and_then (pass_below seats) (option_and_then (pass_above seats) third) ≡ o → third ≡ option_or (option_and_then (pass_below seats) (option_and_then (pass_above seats) third)) first
    go (Some z) is = two ∙ ap (λ o. option_or o second) is ∙ sym (ap (λ o. option_or o first) is)
    go None is =
        let same : third ≡ second = two ∙ ap (λ o. option_or o second) is in
        let none : option_and_then (pass_below seats) (option_and_then (pass_above seats) second) ≡ None = ap (λ o. option_and_then (pass_below seats) (option_and_then (pass_above seats) o)) (sym same) ∙ is in
        same ∙ one ∙ ap (λ o. option_or o first) none ∙ sym (ap (λ o. option_or o first) is)

pub later_law : (seats : List ℕ) (first second third : Content) → IsUnder seats first second → IsUnder seats second third → IsUnder seats first third
later_law seats first second third one two =
    same_parts third.rows third.last third.boot _ _
    (ap (λ (c : Content). c.rows) two
    ∙ ap (rows_under seats (seated_rows seats third.rows)) (ap (λ (c : Content). c.rows) one)
    ∙ rows_again seats (seated_rows seats third.rows) first.rows (seen_many seats third.rows) seats (seated_rows seats second.rows) (λ m q at. (m, at)))
    (last_again seats first.last second.last third.last (ap (λ (c : Content). c.last) one) (ap (λ (c : Content). c.last) two))

-- a row of a seat was put
row_put : (seats : List ℕ) (content : Content) (token : ℕ) (row : RowRecord) → token < length seats
    → slice_set content.rows (get_or seats token 0) row ≡ rows_under seats (seated_rows seats (slice_set content.rows (get_or seats token 0) row)) content.rows
row_put seats content token row low =
    let seat = get_or seats token 0 in
    let made = slice_set content.rows seat row in
    ap (λ (c : Content). c.rows) (start_law seats (record content { rows = made }))
    ∙ seated_row_put seats (seated_rows seats made) content.rows token seat row (seen_many seats made) (slice_get-get_or seats token 0 low)

-- the last pass after a put
pass_put : (rows : ℕ) (seats : List ℕ) (pass last : Option PassRecord) → AreSeats rows seats → (z : Option PassRecord) → option_and_then (pass_below seats) pass ≡ z
    → option_or z last ≡ option_or (option_and_then (pass_below seats) (option_and_then (pass_above seats) (option_or z last))) last
pass_put rows seats pass last are None is = ap (λ (c : Content). c.last) (start_law seats (record { rows = []; boot = 0; last = last }))
pass_put rows seats None last are (Some z) is = absurd (none-some z is)
pass_put rows seats (Some p) last are (Some z) is =
    sym (ap (λ o. option_or (option_and_then (pass_below seats) o) last) (pass_seen rows seats p z are is) ∙ ap (λ o. option_or o last) is)

pub put_law : (seats : List ℕ) (content : Content) (token : ℕ) (row : RowRecord) (pass : Option PassRecord) → AreSeats (length content.rows) seats → token < length seats
    → IsUnder seats content (with_row content (get_or seats token 0) row (option_and_then (pass_below seats) pass))
put_law seats content token row pass are low =
    same_parts _ _ content.boot _ _ (row_put seats content token row low)
    (pass_put (length content.rows) seats pass content.last are (option_and_then (pass_below seats) pass) refl)

-- ---- calls

under_size : (seats : List ℕ) (first content : Content) → IsUnder seats first content → length content.rows ≡ length first.rows
under_size seats first content is = ap (λ (c : Content). length c.rows) is ∙ rows_size seats (seated_rows seats content.rows) first.rows

old_or_new : {S A E : Type 0} (held : S → Held) (was now : S) (made : Content) (result : Result A E) → Makes held was now made result → (held now).is_clean → OldOrNew (held was).content made (held now).content
old_or_new held was now made (Ok x) h clean = inr (h.ok clean)
old_or_new held was now made (Err e) h clean = h.err clean

-- a call that makes a content under the seats, or leaves the old one
keeps : {S A E : Type 0} (held : S → Held) (seats : List ℕ) (first : Content) (was now : S) (made : Content) (result : Result A E) → KeepsOthers held seats first was → (IsUnder seats first (held was).content → IsUnder seats first made)
    → Makes held was now made result → ((c : Content) → (held now).leaves c → (held was).leaves c ⊎ (c ≡ made)) → KeepsOthers held seats first now
keeps held seats first was now made result k under makes left = record {
  content = λ clean.
      let before = k.content (makes.clean clean) in
      ⊎_elim (λ (e : (held now).content ≡ (held was).content). subst (λ c. IsUnder seats first c) (sym e) before)
      (λ (e : (held now).content ≡ made). subst (λ c. IsUnder seats first c) (sym e) (under before)) (old_or_new held was now made result makes clean);
  leaves = λ clean c leaves.
      let before = k.content (makes.clean clean) in
      ⊎_elim (λ (l : (held was).leaves c). k.leaves (makes.clean clean) c l) (λ (e : c ≡ made). subst (λ d. IsUnder seats first d) (sym e) (under before)) (left c leaves);
}

module _ {S : Type 0} (held : S → Held) (first : Content) (old new : SeatedRecord S) (k : KeepsOthers held old.seats first old.inner) where
  abbrev Kept : Type 0
  Kept = KeepsOthers held old.seats first new.inner

  unchanged : new.inner ≡ old.inner → Kept
  unchanged e = subst (λ s. KeepsOthers held old.seats first s) (sym e) k

  -- a call that is passed on, or changes nothing
  passed : {A : Type 0} (call : S → S → Result A StoreFault → Type 0) (result : Result A StoreFault) → IsPassedOn call old new result → (call old.inner new.inner result → Kept) → Kept
  passed call result on f =
      ⊎_elim (λ (u : old.is_unusable ≡ true). unchanged (ap (λ (s : SeatedRecord S). s.inner) (on.refused u).1)) (λ (u : old.is_unusable ≡ false). f (on.called u)) (cases_Bool old.is_unusable)

  pub puts_law : {A : Type 0} (token : ℕ) (row : RowRecord) (pass : Option PassRecord) (result : Result A StoreFault) → AreSeats (length first.rows) old.seats → token < length old.seats → PutsBelow held old new token row pass result → Kept
  puts_law token row pass result are low puts = by_pass pass puts
    where
      put : (p : Option PassRecord) → IsPassedOn (λ was now. Puts held was now (with_row (held was).content (get_or old.seats token 0) row (option_and_then (pass_below old.seats) p))) old new result → Kept
      put p on =
          passed (λ was now. Puts held was now (with_row (held was).content (get_or old.seats token 0) row (option_and_then (pass_below old.seats) p))) result on
          (λ q. keeps held old.seats first old.inner new.inner (with_row (held old.inner).content (get_or old.seats token 0) row (option_and_then (pass_below old.seats) p)) result k
          (λ before.
          let size = under_size old.seats first (held old.inner).content before in
          later_law old.seats first (held old.inner).content _ before
          (put_law old.seats (held old.inner).content token row p (subst (λ n. AreSeats n old.seats) (sym size) are) low))
          q.makes q.left)

      by_pass : (p : Option PassRecord) → PutsBelow held old new token row p result → Kept
      by_pass None puts = put None (puts.seen tt)
      by_pass (Some p) puts = known p puts (cases_lt_seats p)
        where
          cases_lt_seats : (p : PassRecord) → (p.token < length old.seats) ⊎ (p.token < length old.seats → ⊥)
          cases_lt_seats p = ⊎_elim (λ (lt : p.token < length old.seats). inl lt) (λ (le : length old.seats ≤ p.token). inr (λ lt. omega (arith, le, lt))) (cases_lt p.token (length old.seats))

          known : (p : PassRecord) → PutsBelow held old new token row (Some p) result → (p.token < length old.seats) ⊎ (p.token < length old.seats → ⊥) → Kept
          known p puts (inl lt) = put (Some p) (puts.seen lt)
          known p puts (inr past) = unchanged (puts.unseen past).1

  pub commits_law : {A : Type 0} (result : Result A StoreFault) → IsPassedOn (Commits held) old new result → Kept
  commits_law result on = passed (Commits held) result on (λ q. keeps held old.seats first old.inner new.inner (held old.inner).content result k (λ before. before) q.makes q.left)

  pub raises_law : {A : Type 0} (result : Result A StoreFault) → IsPassedOn (RaisesBoot held) old new result → Kept
  raises_law result on =
      passed (RaisesBoot held) result on
      (λ q. keeps held old.seats first old.inner new.inner (with_next_boot (held old.inner).content) result k
      (λ before. later_law old.seats first (held old.inner).content (with_next_boot (held old.inner).content) before (boot_law old.seats (held old.inner).content)) q.writes.makes q.writes.left)

pub settled_law : {S : Type 0} (held : S → Held) (seats : List ℕ) (store : S) → IsSettled (held store) → KeepsOthers held seats (held store).content store
settled_law held seats store settled = record {
  content = λ clean. start_law seats (held store).content;
  leaves = λ clean c left. subst (λ d. IsUnder seats (held store).content d) (sym (settled c left)) (start_law seats (held store).content);
}

pub leaves_law : {S : Type 0} (held : S → Held) (first seen : Content) (store : SeatedRecord S) → KeepsOthers held store.seats first store.inner → (held store.inner).is_clean → (seated_held held store).leaves seen
    → LeavesUnder held store.seats first seen store.inner
leaves_law held first seen store k clean leaves = record {
  below = leaves.0;
  left = leaves.1;
  is = k.leaves clean leaves.0 leaves.1 ∙ ap (λ c. content_under store.seats c first) (sym leaves.2);
}
