-- The times that a text gives.
use Rattle.std.proofs.Common.{◌≡◌, ℕ, ◌+◌, ◌*◌, inl, inr, ℤ, pos, ◌*ℤ◌, ◌+ℤ◌, Bool, true, false, cond, List, ◌∷◌, Option, Some, None, refl, sym, ap, subst, ◌∙◌, arith}
use Rattle.std.specs.Prelude.{◌&&◌, ◌==◌, ◌<ℤ◌, length, slice_index}
use Rattle.std.proofs.lemmas.Int.{ints}
use Rattle.jiff.specs.Types.{Date}
use Rattle.jiff.specs.Words.{epoch_day, IsDate, IsYmd}
use Rattle.field_text.specs.Number.{number_of}
use Rattle.oathtool_core.specs.Time.{IsDateText, IsEitherText, IsNamedDay, IsNoDay, IsSecondsText, IsTimeOf, fields_of, has_marks}
use Rattle.oathtool_core.specs.declared.time.Fields.{Fields}

-- ---- a day is known from its year, month and day

same_day : (year month day : ℤ) (a b : Date) → IsYmd year month day a → IsYmd year month day b → epoch_day a ≡ epoch_day b
same_day year month day a b p q = cc (p.0, p.1, p.2, q.0, q.1, q.2)

-- ---- a time is known from its numbers

pub one_time : (fields : Fields) (s t : ℕ) → IsTimeOf fields s → IsTimeOf fields t → s ≡ t
one_time fields s t a b =
    let e : epoch_day a.date ≡ epoch_day b.date =
    same_day (pos fields.year) (pos fields.month) (pos fields.day) a.date b.date a.named b.named in
    let z : pos s ≡ pos t = a.value ∙ ap (λ (d : ℤ). d *ℤ pos 86_400 +ℤ pos (fields.hour * 3_600 + fields.minute * 60 + fields.second)) e ∙ sym b.value in
    omega (arith, ints)

-- no time before 1970
pub none_before : (fields : Fields) (date : Date) → IsNamedDay fields date → epoch_day date <ℤ pos 0
    → (seconds : ℕ) → IsTimeOf fields seconds → ⊥
none_before fields date named early seconds t =
    let e : epoch_day t.date ≡ epoch_day date =
    same_day (pos fields.year) (pos fields.month) (pos fields.day) t.date date t.named named in
    let day : ℤ = epoch_day date in
    let v : pos seconds ≡ day *ℤ pos 86_400 +ℤ pos (fields.hour * 3_600 + fields.minute * 60 + fields.second) =
    t.value ∙ ap (λ (d : ℤ). d *ℤ pos 86_400 +ℤ pos (fields.hour * 3_600 + fields.minute * 60 + fields.second)) e in
    absurd (omega (arith, ints, t.hours, t.minutes, t.within_minute, v, early))

-- ---- the two forms exclude each other

none_both : (x : Option Fields) (test : Bool) → cond test x x ≡ x
none_both x true = refl
none_both x false = refl

pub no_fields_after_at : (digits : List ℕ) → fields_of (64 ∷ digits) ≡ None
no_fields_after_at digits = none_both None (has_marks (64 ∷ digits))

not_both : (text : List ℕ) (s t : ℕ) → IsSecondsText text s → IsDateText text t → ⊥
not_both text s t a b =
    let e : None ≡ Some b.fields = sym (no_fields_after_at a.digits) ∙ sym (ap fields_of a.marked) ∙ b.read in
    cc

one_seconds : (text : List ℕ) (s t : ℕ) → IsSecondsText text s → IsSecondsText text t → s ≡ t
one_seconds text s t a b =
    let e : (64 ∷ a.digits) ≡ 64 ∷ b.digits = sym a.marked ∙ b.marked in
    cc (e, a.number, b.number)

one_date : (text : List ℕ) (s t : ℕ) → IsDateText text s → IsDateText text t → s ≡ t
one_date text s t a b =
    let e : Some a.fields ≡ Some b.fields = sym a.read ∙ b.read in
    let f : a.fields ≡ b.fields = cc in
    one_time b.fields s t (subst (λ (k : Fields). IsTimeOf k s) f a.time) b.time

-- a text gives one time
pub one_either : (text : List ℕ) (s t : ℕ) → IsEitherText text s → IsEitherText text t → s ≡ t
one_either text s t (inl a) (inl b) = one_seconds text s t a b
one_either text s t (inl a) (inr b) = absurd (not_both text s t a b)
one_either text s t (inr a) (inl b) = absurd (not_both text t s b a)
one_either text s t (inr a) (inr b) = one_date text s t a b

-- ---- texts that give none

-- a day of the calendar has numbers in range
pub no_day : (fields : Fields) (year month day : ℤ) → year ≡ pos fields.year → month ≡ pos fields.month → day ≡ pos fields.day
    → (IsDate year month day → ⊥) → IsNoDay fields
no_day fields year month day ey em ed none date named =
    let is_date : IsDate date.year (pos date.month) (pos date.day) =
    (date.year_in, (omega (arith, ints, date.month_in), omega (arith, ints, date.month_in)), (omega (arith, ints, date.day_in), omega (arith, ints, date.day_in))) in
    let y : date.year ≡ year = named.0 ∙ sym ey in
    let m : pos date.month ≡ month = named.1 ∙ sym em in
    let d : pos date.day ≡ day = named.2 ∙ sym ed in
    none (subst (λ (k : ℤ). IsDate k month day) y (subst (λ (k : ℤ). IsDate date.year k day) m (subst (λ (k : ℤ). IsDate date.year (pos date.month) k) d is_date)))

pub with_clock : (start clock all : ℕ) (z : ℤ) → pos start ≡ z → all ≡ start + clock → pos all ≡ z +ℤ pos clock
with_clock start clock all z e sum = omega (arith, ints)

pub none_dated : (text : List ℕ) (fields : Fields) → Some fields ≡ fields_of text
    → ((seconds : ℕ) → IsTimeOf fields seconds → ⊥) → (seconds : ℕ) → IsDateText text seconds → ⊥
none_dated text fields e none seconds t =
    let f : Some t.fields ≡ Some fields = sym t.read ∙ sym e in
    let same : t.fields ≡ fields = cc in
    none seconds (subst (λ (k : Fields). IsTimeOf k seconds) same t.time)

pub none_without_at : (text : List ℕ) → ((rest : List ℕ) → text ≡ 64 ∷ rest → ⊥)
    → ((seconds : ℕ) → IsDateText text seconds → ⊥) → (seconds : ℕ) → IsEitherText text seconds → ⊥
none_without_at text no_at no_date seconds (inl a) = no_at a.digits a.marked
none_without_at text no_at no_date seconds (inr b) = no_date seconds b

pub none_numbered : (text digits : List ℕ) → text ≡ 64 ∷ digits → None ≡ number_of digits → (seconds : ℕ) → IsEitherText text seconds → ⊥
none_numbered text digits e none seconds (inl a) =
    let same : (64 ∷ a.digits) ≡ 64 ∷ digits = sym a.marked ∙ e in
    let d : a.digits ≡ digits = cc in
    let f : None ≡ Some seconds = none ∙ sym (ap number_of d) ∙ a.number in
    cc
none_numbered text digits e none seconds (inr b) =
    let f : None ≡ Some b.fields = sym (no_fields_after_at digits) ∙ sym (ap fields_of e) ∙ b.read in
    cc

-- ---- the marks of a date

pub marks_of_len : (text : List ℕ) → length text ≡ 23
    → ((slice_index text 4 == 45) && (slice_index text 7 == 45) && (slice_index text 10 == 32)
    && (slice_index text 13 == 58) && (slice_index text 16 == 58) && (slice_index text 19 == 32)
    && (slice_index text 20 == 85) && (slice_index text 21 == 84) && (slice_index text 22 == 67)) ≡ has_marks text
marks_of_len text e =
    let rest : Bool → Bool = λ b. b && (slice_index text 4 == 45) && (slice_index text 7 == 45) && (slice_index text 10 == 32)
    && (slice_index text 13 == 58) && (slice_index text 16 == 58) && (slice_index text 19 == 32)
    && (slice_index text 20 == 85) && (slice_index text 21 == 84) && (slice_index text 22 == 67) in
    let test : (length text == 23) ≡ true = ap (λ (n : ℕ). n == 23) e in
    sym (ap rest test)
