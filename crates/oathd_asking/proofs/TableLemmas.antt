-- The lines of texts, and the rows of a table.
use Rattle.std.proofs.Common.{◌≡◌, ℕ, zero, suc, ◌+◌, ◌<◌, ◌≤◌, ◌==◌, Bool, true, false, List, [], ◌∷◌, ◌++◌, length, map, take, get_or, Option, None, Some, refl, sym, ap, subst, ◌∙◌, arith, append_assoc, append-nil}
use Rattle.std.specs.Prelude.{◌&&◌, cond, codes, count_by, find, fold, Result, Ok, Err, OnOk}
use Rattle.std.specs.Io.KnownBytes.{Appends}
use Rattle.std.proofs.lemmas.List.{map-append, take_more, length-map, length-take-le}
use Rattle.std.specs.List.{list_all, slice_split}
use Rattle.std.specs.Option.{option_map}
use Rattle.std.proofs.lemmas.List.Splits.{length-slice_split}
use Rattle.field_text.specs.Cut.{halves_of}
use Rattle.oathd_asking.specs.Table.{are_well, is_told, is_well, note_of, text_or_none, field_in, fields_in, fields_or, first_of, heard_at, heard_in, is_heard, lines_in, lines_of, row_text, rows_text, table_text}

-- ---- Lines

abbrev is_lf : ℕ → Bool
is_lf byte = byte == 10

first_line : (line : List ℕ) (parts : List (List ℕ)) → 0 < length parts → lines_of (line ∷ parts) ≡ line ∷ lines_of parts
first_line line [] some = absurd (omega (arith, some))
first_line line (part ∷ parts) some = refl

-- the first line, and the lines behind it
pub lines_more : (text line behind : List ℕ) → slice_split is_lf text ≡ line ∷ slice_split is_lf behind → lines_in text ≡ line ∷ lines_in behind
lines_more text line behind parts =
    ap lines_of parts ∙ first_line line (slice_split is_lf behind) (omega (arith, length-slice_split is_lf behind))

-- without an LF there is no line
pub no_lines : (text : List ℕ) → slice_split is_lf text ≡ text ∷ [] → lines_in text ≡ []
no_lines text parts = ap lines_of parts

-- the fields of the first line, if it begins with the word
pub found_in : (word rest line behind fields : List ℕ) → slice_split is_lf rest ≡ line ∷ slice_split is_lf behind
    → fields_in word (halves_of 32 line) ≡ Some fields → field_in word (lines_in rest) ≡ fields
found_in word rest line behind fields parts is =
    ap (field_in word) (lines_more rest line behind parts) ∙ ap (λ f. fields_or f (field_in word (lines_in behind))) is

-- and if it doesn't
pub passed_in : (word rest line behind : List ℕ) → slice_split is_lf rest ≡ line ∷ slice_split is_lf behind
    → fields_in word (halves_of 32 line) ≡ None → field_in word (lines_in rest) ≡ field_in word (lines_in behind)
passed_in word rest line behind parts is =
    ap (field_in word) (lines_more rest line behind parts) ∙ ap (λ f. fields_or f (field_in word (lines_in behind))) is

-- the members that the first line and those behind it say to be heard
pub heard_more : (rest line behind : List ℕ) → slice_split is_lf rest ≡ line ∷ slice_split is_lf behind
    → heard_in (lines_in rest) ≡ heard_at line + heard_in (lines_in behind)
heard_more rest line behind parts = ap heard_in (lines_more rest line behind parts)

few : (b : Bool) → cond b 1 0 ≤ 1
few true = omega arith
few false = omega arith

pub heard_few : (line : List ℕ) → heard_at line ≤ 1
heard_few line = few (is_heard line)

-- ---- Elements by their values

one_more : {X Y : Type 0} (f : X → Y) (x : X) (found : Option X) (others : Option Y) (b : Bool) → others ≡ option_map f found
    → cond b (Some (f x)) others ≡ option_map f (cond b (Some x) found)
one_more f x found others true is = refl
one_more f x found others false is = is

pub find_map : {X Y : Type 0} (f : X → Y) (test : Y → Bool) (xs : List X) → find test (map f xs) ≡ option_map f (find (λ x. test (f x)) xs)
find_map f test [] = refl
find_map f test (x ∷ xs) = one_more f x (find (λ y. test (f y)) xs) (find test (map f xs)) (test (f x)) (find_map f test xs)

count_from : {X Y : Type 0} (f : X → Y) (test : Y → Bool) (n : ℕ) (xs : List X)
    → fold (λ a y. a + cond (test y) 1 0) n (map f xs) ≡ fold (λ a x. a + cond (test (f x)) 1 0) n xs
count_from f test n [] = refl
count_from f test n (x ∷ xs) = count_from f test (n + cond (test (f x)) 1 0) xs

pub count_map : {X Y : Type 0} (f : X → Y) (test : Y → Bool) (xs : List X) → count_by test (map f xs) ≡ count_by (λ x. test (f x)) xs
count_map f test xs = count_from f test 0 xs

pub all_map : {X Y : Type 0} (f : X → Y) (test : Y → Bool) (xs : List X) → list_all test (map f xs) ≡ list_all (λ x. test (f x)) xs
all_map f test [] = refl
all_map f test (x ∷ xs) = ap (λ b. test (f x) && b) (all_map f test xs)

-- ---- Rows

-- the rows of members, and the row of one more
pub rows_more : (first : List ℕ) (members number : ℕ) (front : List (List ℕ)) (text : List ℕ)
    → rows_text first members number (front ++ text ∷ []) ≡ rows_text first members number front ++ row_text first members (number + length front) text
rows_more first members number [] text =
    append-nil (row_text first members number text) ∙ ap (λ n. row_text first members n text) (omega arith)
rows_more first members number (x ∷ front) text =
    ap (λ l. row_text first members number x ++ l) (rows_more first members (number + 1) front text)
    ∙ sym (append_assoc (row_text first members number x) (rows_text first members (number + 1) front) (row_text first members (number + 1 + length front) text))
    ∙ ap (λ n. (row_text first members number x ++ rows_text first members (number + 1) front) ++ row_text first members n text) (omega arith)

-- one text, followed by another
append_more : (old middle new : Option (List ℕ)) (front back : List ℕ) → Appends old middle front → Appends middle new back → Appends old new (front ++ back)
append_more None middle new front back h k = tt
append_more (Some x) None new front back h k = absurd h
append_more (Some x) (Some y) None front back h k = absurd k
append_more (Some x) (Some y) (Some z) front back h k = k ∙ ap (λ l. l ++ back) h ∙ append_assoc x front back

-- the rows up to a place, and the row there
pub rows_at : {X : Type 0} (f : X → List ℕ) (first : List ℕ) (members : ℕ) (xs : List X) (i number : ℕ) (d : X) (old middle new : Option (List ℕ))
    → i < length xs → number ≡ i + 1 → Appends old middle (rows_text first members 1 (map f (take i xs)))
    → Appends middle new (row_text first members number (f (get_or xs i d))) → Appends old new (rows_text first members 1 (map f (take (i + 1) xs)))
rows_at f first members xs i number d old middle new within next h k =
    let front = map f (take i xs) in
    let x = get_or xs i d in
    let counted : 1 + length front ≡ number = omega (arith, length-map (take i xs) f, length-take-le i xs (omega (arith, within)), next) in
    let texts : rows_text first members 1 (map f (take (i + 1) xs)) ≡ rows_text first members 1 front ++ row_text first members number (f x) =
    ap (λ l. rows_text first members 1 (map f l)) (take_more xs i d within)
    ∙ ap (rows_text first members 1) (map-append f (take i xs) (x ∷ []))
    ∙ rows_more first members 1 front (f x)
    ∙ ap (λ n. rows_text first members 1 front ++ row_text first members n (f x)) counted in
    subst (Appends old new) (sym texts) (append_more old middle new (rows_text first members 1 front) (row_text first members number (f x)) h k)

-- the same, if the row is that of an item at the place
pub rows_with : {X : Type 0} (f : X → List ℕ) (first : List ℕ) (members : ℕ) (xs : List X) (i number : ℕ) (x : X) (row : List ℕ)
    (old middle new : Option (List ℕ)) → i < length xs → x ≡ get_or xs i x → row ≡ f x → number ≡ i + 1
    → Appends old middle (rows_text first members 1 (map f (take i xs)))
    → Appends middle new (row_text first members number row) → Appends old new (rows_text first members 1 (map f (take (i + 1) xs)))
rows_with f first members xs i number x row old middle new within at is next h k =
    rows_at f first members xs i number x old middle new within next h
    (subst (λ (t : List ℕ). Appends middle new (row_text first members number t)) (is ∙ ap f at) k)

-- the head and the rows
pub table_at : {E : Type 0} (result : Result Unit E) (texts : List (List ℕ)) (first : List ℕ) (members : ℕ) (old middle new : Option (List ℕ))
    → Appends old middle (codes "node boot heard tokens fingerprint book note\n") → first ≡ first_of texts → length texts ≡ members
    → OnOk result (Appends middle new (rows_text first members 1 texts)) → OnOk result (Appends old new (table_text texts))
table_at (Err e) texts first members old middle new head is count rows = tt
table_at (Ok done) texts first members old middle new head is count rows =
    let same : rows_text first members 1 texts ≡ rows_text (first_of texts) (length texts) 1 texts =
    ap (λ l. rows_text l members 1 texts) is ∙ ap (λ n. rows_text (first_of texts) n 1 texts) (sym count) in
    append_more old middle new (codes "node boot heard tokens fingerprint book note\n") (rows_text (first_of texts) (length texts) 1 texts) head
    (subst (Appends middle new) same rows)

-- the first text, by its element
pub first_by : {X : Type 0} (f : X → List ℕ) (xs : List X) (found : Option X) → found ≡ find (λ x. is_told (f x)) xs
    → first_of (map f xs) ≡ text_or_none (option_map f found)
first_by f xs found is = ap text_or_none (find_map f is_told xs ∙ ap (option_map f) (sym is))

-- whether all are well, by their elements
pub well_map : {X : Type 0} (f : X → List ℕ) (xs : List X) (first : List ℕ) (members : ℕ) → first ≡ first_of (map f xs) → members ≡ length xs
    → list_all (λ x. is_well (note_of first members (f x))) xs ≡ are_well (map f xs)
well_map f xs first members is count =
    sym (all_map f (λ text. is_well (note_of first members text)) xs)
    ∙ ap (λ (l : List ℕ). list_all (λ text. is_well (note_of l members text)) (map f xs)) is
    ∙ ap (λ (n : ℕ). list_all (λ text. is_well (note_of (first_of (map f xs)) n text)) (map f xs)) (count ∙ sym (length-map xs f))
