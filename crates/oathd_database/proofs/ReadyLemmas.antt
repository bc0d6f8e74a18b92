-- The floors of imported time tokens, and when they are reached.
use Rattle.std.proofs.Common.{◌≡◌, ◌∙◌, refl, ap, sym, subst, arith, ℕ, zero, suc, ◌+◌, ◌-◌, ◌*◌, ◌/◌, ◌^◌, ◌<◌, ◌≤◌, ◌↔◌, Bool, true, false, cond, List, [], ◌∷◌, ◌++◌, length, take, Option, Some, None}
use Rattle.std.specs.Prelude.{Result, Ok, Err, is_some, min, nat_le, nat_lt, slice_get}
use Rattle.std.proofs.lemmas.Option.{none-some, same_Some}
use Rattle.std.proofs.Math.Nat.{div-le_self, le-div_iff_mul-le}
use Rattle.otp_core.specs.Limits.{AreLimits, Limits}
use Rattle.otp_core.specs.Range.{IsMoment}
use Rattle.otp_core.specs.Totp.{step_of}
use Rattle.token_file.specs.Credential.{Credential, period_of, place_of}
use Rattle.token_file.specs.Fields.{fields_of, lines_of}
use Rattle.token_file.specs.Row.{Row, Ignored, Faulty, Holds, first_free_of, row_of, step_floor}
use Rattle.token_file.specs.UsersFile.{Import, Instant, after_last, after_line, after_lines, after_row, at_line, empty_import, import_of, instant_of, outcome_then}
use Rattle.token_file.specs.declared.fault.LineFault.{LineFault}
use Rattle.token_file.specs.declared.fault.LineFault.TheVariants.{DuplicateUser, FileTooLong, LineTooLong, TooMany}
use Rattle.oathd_database.specs.Made.{ready_at}
use Rattle.oathd_database.specs.Users.{IsImported, drifted_floor, drifted_floors}

-- ---- The floors of an import

-- the floor of a time token is the one of its step
abbrev IsOfStep : Instant → Option ℕ → ℕ → Type 0
IsOfStep at None floor = Unit {0}
IsOfStep at (Some step) floor = floor ≡ step_floor step at.skew at.moment

abbrev AreOfSteps : Instant → List Credential → List ℕ → Type 0
AreOfSteps at [] [] = Unit {0}
AreOfSteps at [] (floor ∷ floors) = ⊥
AreOfSteps at (token ∷ book) [] = ⊥
AreOfSteps at (token ∷ book) (floor ∷ floors) = IsOfStep at (period_of token.kind) floor × AreOfSteps at book floors

abbrev IsOf : Instant → Import → Type 0
IsOf at import = AreOfSteps at import.book import.floors

first_of : (at : Instant) (period : Option ℕ) (token : Credential) (counter : ℕ) (last : Option (List ℕ))
    → IsOfStep at period (first_free_of period at.skew at.moment token counter last)
first_of at None token counter last = tt
first_of at (Some step) token counter last = refl

one_more : (at : Instant) (book : List Credential) (floors : List ℕ) (token : Credential) (floor : ℕ) → AreOfSteps at book floors
    → IsOfStep at (period_of token.kind) floor → AreOfSteps at (book ++ token ∷ []) (floors ++ floor ∷ [])
one_more at [] [] token floor h is = (is, tt)
one_more at [] (x ∷ floors) token floor h is = absurd h
one_more at (x ∷ book) [] token floor h is = absurd h
one_more at (x ∷ book) (y ∷ floors) token floor h is = (h.0, one_more at book floors token floor h.1 is)

same_import : (at : Instant) (a b : Import) → ◌≡◌ {A = Result Import LineFault} (Ok a) (Ok b) → IsOf at a → IsOf at b
same_import at a b e h = let same : a ≡ b = cc in subst (IsOf at) same h

of_token : (t u : Bool) (at : Instant) (a b : Import) (token : Credential) (floor : ℕ) → IsOfStep at (period_of token.kind) floor
    → cond t (Err DuplicateUser) (cond u (Err TooMany) (Ok (record { book = a.book ++ token ∷ []; floors = a.floors ++ floor ∷ [] }))) ≡ Ok b
    → IsOf at a → IsOf at b
of_token true u at a b token floor is e h = absurd cc
of_token false true at a b token floor is e h = absurd cc
of_token false false at a b token floor is e h =
    same_import at (record { book = a.book ++ token ∷ []; floors = a.floors ++ floor ∷ [] }) b e (one_more at a.book a.floors token floor h is)

of_row : (at : Instant) (a b : Import) (row : Row) → after_row at a row ≡ Ok b → IsOf at a → IsOf at b
of_row at a b Ignored e h = same_import at a b e h
of_row at a b (Faulty fault) e h = absurd cc
of_row at a b (Holds token counter last) e h =
    of_token (is_some (place_of token.name a.book)) (nat_le 10000 (length a.book)) at a b token
    (first_free_of (period_of token.kind) at.skew at.moment token counter last) (first_of at (period_of token.kind) token counter last) e h

of_fitting : (t : Bool) (at : Instant) (a b : Import) (row : Row) → cond t (Err LineTooLong) (after_row at a row) ≡ Ok b → IsOf at a → IsOf at b
of_fitting true at a b row e h = absurd cc
of_fitting false at a b row e h = of_row at a b row e h

of_line : (at : Instant) (a b : Import) (line : List ℕ) → after_line at a line ≡ Ok b → IsOf at a → IsOf at b
of_line at a b line e h = of_fitting (nat_lt 4096 (length line)) at a b (row_of (fields_of line)) e h

no_cut : (t : Bool) (fault : LineFault) (b : Import) → ◌≡◌ {A = Result Import LineFault} (cond t (Err LineTooLong) (Err fault)) (Ok b) → ⊥
no_cut true fault b e = absurd cc
no_cut false fault b e = absurd cc

of_last : (cut : Option LineFault) (at : Instant) (a b : Import) (line : List ℕ) → after_last cut at a line ≡ Ok b → IsOf at a → IsOf at b
of_last None at a b line e h = of_line at a b line e h
of_last (Some fault) at a b line e h = absurd (no_cut (nat_lt 4096 (length line)) fault b e)

ok_line : (number : ℕ) (result : Result Import LineFault) (b : Import) → at_line number result ≡ Ok b → result ≡ Ok b
ok_line number (Ok import) b e = let same : import ≡ b = cc in ap Ok same
ok_line number (Err fault) b e = absurd cc

ok_then : (result : Result Import (ℕ × LineFault)) (next : Import → Result Import (ℕ × LineFault)) (b : Import)
    → outcome_then result next ≡ Ok b → (a : Import) × (result ≡ Ok a) × (next a ≡ Ok b)
ok_then (Ok import) next b e = (import, refl, e)
ok_then (Err fault) next b e = absurd cc

of_lines : (cut : Option LineFault) (at : Instant) (number : ℕ) (a b : Import) (lines : List (List ℕ))
    → after_lines cut at number a lines ≡ Ok b → IsOf at a → IsOf at b
of_lines cut at number a b [] e h = let same : a ≡ b = cc in subst (IsOf at) same h
of_lines cut at number a b (line ∷ []) e h = of_last cut at a b line (ok_line number (after_last cut at a line) b e) h
of_lines cut at number a b (line ∷ next ∷ lines) e h =
    let ok = ok_then (at_line number (after_line at a line)) (λ import. after_lines cut at (number + 1) import (next ∷ lines)) b e in
    of_lines cut at (number + 1) ok.0 b (next ∷ lines) ok.2 (of_line at a ok.0 line (ok_line number (after_line at a line) ok.0 ok.1) h)

of_text : (t : Bool) (at : Instant) (b : Import) (all taken : List ℕ)
    → cond t (after_lines None at 1 empty_import (lines_of all)) (after_lines (Some FileTooLong) at 1 empty_import (lines_of taken)) ≡ Ok b → IsOf at b
of_text true at b all taken e = of_lines None at 1 empty_import b (lines_of all) e tt
of_text false at b all taken e = of_lines (Some FileTooLong) at 1 empty_import b (lines_of taken) e tt

-- ---- With the drift

drifted_at : (at : Instant) (drift place step floor : ℕ) (book : List Credential) (floors : List ℕ) (token : Credential)
    → AreOfSteps at book floors → slice_get book place ≡ Some token → period_of token.kind ≡ Some step
    → slice_get (drifted_floors drift book floors) place ≡ Some floor → floor ≡ min (step_floor step at.skew at.moment + drift) (2 ^ 62)
drifted_at at drift place step floor [] floors token h is_token is_step is_floor = absurd (none-some token is_token)
drifted_at at drift place step floor (x ∷ book) [] token h is_token is_step is_floor = absurd h
drifted_at at drift zero step floor (x ∷ book) (y ∷ floors) token h is_token is_step is_floor =
    let kind : period_of x.kind ≡ Some step = ap (λ (t : Credential). period_of t.kind) (same_Some x token is_token) ∙ is_step in
    let first : y ≡ step_floor step at.skew at.moment = subst (λ (period : Option ℕ). IsOfStep at period y) kind h.0 in
    sym (same_Some _ floor is_floor) ∙ ap (λ (period : Option ℕ). drifted_floor drift period y) kind ∙ ap (λ n. min (n + drift) (2 ^ 62)) first
drifted_at at drift (suc place) step floor (x ∷ book) (y ∷ floors) token h is_token is_step is_floor =
    drifted_at at drift place step floor book floors token h.1 is_token is_step is_floor

-- a period has a second
some_period : (token : Credential) (step : ℕ) → period_of token.kind ≡ Some step → zero < step
some_period token step is = grind arith

-- a floor is reached with the first second of its step
pub reached : (limits : Limits) (moment longest place step floor now : ℕ) (users : List ℕ) (book : List Credential) (floors : List ℕ) (token : Credential)
    → AreLimits limits → IsMoment moment → IsImported limits moment longest book floors users
    → slice_get book place ≡ Some token → period_of token.kind ≡ Some step → slice_get (drifted_floors limits.drift book floors) place ≡ Some floor
    → (ready_at limits moment step ≤ now) ↔ (floor ≤ step_of now 0 step)
reached limits moment longest place step floor now users book floors token are is_moment imported is_token is_step is_floor =
    let at = instant_of limits moment in
    let of_steps : AreOfSteps at book floors = of_text (nat_le (length users) longest) at (import_of book floors) users (take longest users) imported in
    let floor_is = drifted_at at limits.drift place step floor book floors token of_steps is_token is_step is_floor in
    let some = some_period token step is_step in
    let less : moment / step ≤ moment = div-le_self moment step in
    let value : floor ≡ moment / step + limits.skew + limits.drift + 1 = omega (arith, floor_is, are.1, are.3, is_moment, less) in
    let iff = le-div_iff_mul-le {k = step} {x = floor} {y = now - 0} some in
    let times : floor * step ≡ ready_at limits moment step = ap (λ n. n * step) value in
    (λ le. iff.1 (omega (arith, times, le)), λ le. omega (arith, times, iff.0 le))
