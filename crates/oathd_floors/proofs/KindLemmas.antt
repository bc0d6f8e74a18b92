-- The first row that is not of the kind of its token.
use Rattle.std.proofs.Common.{◌≡◌, ℕ, zero, suc, ◌+◌, Bool, true, false, cond, List, [], ◌∷◌, length, take, Option, Some, None, refl, sym, ap, subst, ◌∙◌, arith}
use Rattle.std.specs.Prelude.{slice_get}
use Rattle.std.specs.Option.{option_map}
use Rattle.std.proofs.lemmas.List.{take_all}
use Rattle.std.proofs.lemmas.Option.{none-some, same_Some}
use Rattle.token_file.specs.Credential.{Credential}
use Rattle.floor_store.specs.Records.{RowRecord}
use Rattle.oathd_floors.specs.Kinds.{ComparesRow, first_other, is_of_kind}

-- one row before others
abbrev first_of : Bool → Option ℕ → Option ℕ
first_of is_own later = cond is_own (option_map (λ number. suc number) later) (Some 1)

none_before : (is_own : Bool) (x y : Option ℕ) → (x ≡ None → y ≡ None) → first_of is_own x ≡ None → first_of is_own y ≡ None
none_before true None y then h = ap (option_map (λ number. suc number)) (then refl)
none_before true (Some n) y then h = absurd cc
none_before false x y then h = absurd cc

some_before : (is_own : Bool) (x y : Option ℕ) (n : ℕ) → (x ≡ None → y ≡ Some n) → first_of is_own x ≡ None → first_of is_own y ≡ Some (suc n)
some_before true None y n then h = ap (option_map (λ number. suc number)) (then refl)
some_before true (Some m) y n then h = absurd cc
some_before false x y n then h = absurd cc

-- whether a row is of the kind of its token, by the places of both
own_at : (first token : Credential) (top row : RowRecord) (is_own : Bool) → Some first ≡ Some token → Some top ≡ Some row
    → is_own ≡ is_of_kind token.kind row → is_of_kind first.kind top ≡ is_own
own_at first token top row is_own is_token is_row is =
    ap (λ (t : Credential). is_of_kind t.kind top) (same_Some first token is_token)
    ∙ ap (is_of_kind token.kind) (same_Some top row is_row) ∙ sym is

-- one more row is of its kind
own_on : (place : ℕ) (book : List Credential) (rows : List RowRecord) (token : Credential) (row : RowRecord) → slice_get book place ≡ Some token
    → slice_get rows place ≡ Some row → true ≡ is_of_kind token.kind row → first_other (take place book) (take place rows) ≡ None
    → first_other (take (suc place) book) (take (suc place) rows) ≡ None
own_on place [] rows token row is_token is_row own none = absurd (none-some token is_token)
own_on place (first ∷ book) [] token row is_token is_row own none = absurd (none-some row is_row)
own_on zero (first ∷ book) (top ∷ rows) token row is_token is_row own none =
    ap (λ (b : Bool). first_of b None) (own_at first token top row true is_token is_row own)
own_on (suc place) (first ∷ book) (top ∷ rows) token row is_token is_row own none =
    none_before (is_of_kind first.kind top) (first_other (take place book) (take place rows)) (first_other (take (suc place) book) (take (suc place) rows))
    (λ before. own_on place book rows token row is_token is_row own before) none

-- the row at a place is the first of another kind
other_at : (place : ℕ) (book : List Credential) (rows : List RowRecord) (token : Credential) (row : RowRecord) → slice_get book place ≡ Some token
    → slice_get rows place ≡ Some row → false ≡ is_of_kind token.kind row → first_other (take place book) (take place rows) ≡ None
    → first_other book rows ≡ Some (suc place)
other_at place [] rows token row is_token is_row other none = absurd (none-some token is_token)
other_at place (first ∷ book) [] token row is_token is_row other none = absurd (none-some row is_row)
other_at zero (first ∷ book) (top ∷ rows) token row is_token is_row other none =
    ap (λ (b : Bool). first_of b (first_other book rows)) (own_at first token top row false is_token is_row other)
other_at (suc place) (first ∷ book) (top ∷ rows) token row is_token is_row other none =
    some_before (is_of_kind first.kind top) (first_other (take place book) (take place rows)) (first_other book rows) (suc place)
    (λ before. other_at place book rows token row is_token is_row other before) none

-- the same with what was compared
pub own_more : (book : List Credential) (rows : List RowRecord) (place id : ℕ) (is_own : Bool) → id ≡ place → is_own ≡ true → ComparesRow book rows id is_own
    → first_other (take place book) (take place rows) ≡ None → first_other (take (place + 1) book) (take (place + 1) rows) ≡ None
own_more book rows place id is_own same own h none =
    let on : place + 1 ≡ suc place = omega arith in
    let at = λ (l : List Credential) (k : Option Credential) (p : slice_get l id ≡ k). subst (λ (n : ℕ). slice_get l n ≡ k) same p in
    let row_at = λ (l : List RowRecord) (k : Option RowRecord) (p : slice_get l id ≡ k). subst (λ (n : ℕ). slice_get l n ≡ k) same p in
    ap (λ (n : ℕ). first_other (take n book) (take n rows)) on
    ∙ own_on place book rows h.token h.row (at book (Some h.token) h.token_is) (row_at rows (Some h.row) h.row_is) (sym own ∙ h.compared) none

pub other_found : (book : List Credential) (rows : List RowRecord) (place id : ℕ) (is_own : Bool) → id ≡ place → is_own ≡ false → ComparesRow book rows id is_own
    → first_other (take place book) (take place rows) ≡ None → Some (place + 1) ≡ first_other book rows
other_found book rows place id is_own same other h none =
    let on : place + 1 ≡ suc place = omega arith in
    let at = λ (l : List Credential) (k : Option Credential) (p : slice_get l id ≡ k). subst (λ (n : ℕ). slice_get l n ≡ k) same p in
    let row_at = λ (l : List RowRecord) (k : Option RowRecord) (p : slice_get l id ≡ k). subst (λ (n : ℕ). slice_get l n ≡ k) same p in
    ap (λ (n : ℕ). Some n) on
    ∙ sym (other_at place book rows h.token h.row (at book (Some h.token) h.token_is) (row_at rows (Some h.row) h.row_is) (sym other ∙ h.compared) none)

-- all rows are of their kinds
pub none_other : (book : List Credential) (rows : List RowRecord) (count : ℕ) → length book ≡ count → length rows ≡ count
    → first_other (take count book) (take count rows) ≡ None → None ≡ first_other book rows
none_other book rows count sized each none =
    let texts : first_other (take count book) (take count rows) ≡ first_other book rows =
    ap (λ (l : List Credential). first_other l (take count rows)) (take_all count book (omega (arith, sized)))
    ∙ ap (first_other book) (take_all count rows (omega (arith, each))) in
    sym none ∙ texts
