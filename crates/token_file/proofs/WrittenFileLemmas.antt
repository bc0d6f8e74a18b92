-- A users file of written rows, read back.
use Rattle.std.proofs.Common.{◌≡◌, ℕ, ◌+◌, ◌*◌, ◌≤◌, Bool, true, false, cond, List, [], ◌∷◌, ◌++◌, length, Option, None, Result, Ok, Err, refl, sym, ap, subst, ◌∙◌, arith, append_assoc, length-append}
use Rattle.std.specs.Prelude.{map, nat_le, is_some}
use Rattle.std.proofs.lemmas.List.{append-nil}
use Rattle.token_file.specs.declared.fault.LineFault.{LineFault}
use Rattle.token_file.specs.declared.fault.LineFault.TheVariants.{DuplicateUser, TooMany}
use Rattle.token_file.specs.Credential.{Credential, place_of}
use Rattle.token_file.specs.Fields.{lines_of}
use Rattle.token_file.specs.UsersFile.{Import, Instant, after_line, after_lines, after_token, at_line, book_of, empty_import, outcome_then}
use Rattle.token_file.specs.Writing.{row_line, row_text, written_counter}
use Rattle.token_file.specs.WrittenFile.{AreRows, WrittenRow, credentials_of, file_text, read_floor}
use Rattle.token_file.proofs.LinesLemmas.{HasLine, has_line}
use Rattle.token_file.proofs.WritingLemmas.{row_is_imported, row_is_line, row_is_short}

-- what is read after one row more
abbrev after_row_of : Instant → Import → WrittenRow → Import
after_row_of at so_far row = record { book = so_far.book ++ row.credential ∷ []; floors = so_far.floors ++ read_floor at row ∷ [] }

-- a new name, and room
token_at : (taken full : Bool) (next : Import) → taken ≡ false → full ≡ false → cond taken (Err DuplicateUser) (cond full (Err TooMany) (Ok next)) ≡ Ok next
token_at true full next h k = absurd cc
token_at false true next h k = absurd cc
token_at false false next h k = refl

le_false : (a b : ℕ) → b + 1 ≤ a → nat_le a b ≡ false
le_false a b h = grind arith

token_is_read : (at : Instant) (so_far : Import) (row : WrittenRow) → place_of row.credential.name so_far.book ≡ None → length so_far.book + 1 ≤ 10000
    → after_token at so_far row.credential (written_counter row.credential.kind row.next) None ≡ Ok (after_row_of at so_far row)
token_is_read at so_far row new room =
    token_at (is_some (place_of row.credential.name so_far.book)) (nat_le 10000 (length so_far.book)) (after_row_of at so_far row)
    (ap (λ (place : Option ℕ). is_some place) new) (le_false 10000 (length so_far.book) room)

-- a line that is read, and lines after it
one_line : (at : Instant) (number : ℕ) (so_far next : Import) (line : List ℕ) (lines : List (List ℕ)) → HasLine lines → after_line at so_far line ≡ Ok next
    → after_lines None at number so_far (line ∷ lines) ≡ after_lines None at (number + 1) next lines
one_line at number so_far next line lines h e =
    subst (λ (ls : List (List ℕ)). after_lines None at number so_far (line ∷ ls) ≡ after_lines None at (number + 1) next ls) (sym h.parts)
    (ap (λ (r : Result Import LineFault). outcome_then (at_line number r) (λ import. after_lines None at (number + 1) import (h.first ∷ h.others))) e)

-- the rows after what was read before
abbrev all_read : Instant → Import → List WrittenRow → Import
all_read at so_far rows = record { book = so_far.book ++ credentials_of rows; floors = so_far.floors ++ map (read_floor at) rows }

abbrev same : List Credential → List ℕ → Import
same book floors = record { book = book; floors = floors }

same_import : (b b' : List Credential) (f f' : List ℕ) → b ≡ b' → f ≡ f' → same b f ≡ same b' f'
same_import b b' f f' e k = ap (λ (book : List Credential). same book f) e ∙ ap (same b') k

more_read : (at : Instant) (so_far : Import) (row : WrittenRow) (rows : List WrittenRow) → all_read at (after_row_of at so_far row) rows ≡ all_read at so_far (row ∷ rows)
more_read at so_far row rows =
    same_import ((so_far.book ++ row.credential ∷ []) ++ credentials_of rows) (so_far.book ++ row.credential ∷ credentials_of rows)
    ((so_far.floors ++ read_floor at row ∷ []) ++ map (read_floor at) rows) (so_far.floors ++ read_floor at row ∷ map (read_floor at) rows)
    (append_assoc so_far.book (row.credential ∷ []) (credentials_of rows))
    (append_assoc so_far.floors (read_floor at row ∷ []) (map (read_floor at) rows))

rows_are_read : (at : Instant) (number : ℕ) (so_far : Import) (rows : List WrittenRow) → AreRows so_far.book rows → length so_far.book + length rows ≤ 10000
    → after_lines None at number so_far (lines_of (file_text rows)) ≡ Ok (all_read at so_far rows)
rows_are_read at number so_far [] h room =
    ap Ok (same_import so_far.book (so_far.book ++ []) so_far.floors (so_far.floors ++ []) (sym (append-nil so_far.book)) (sym (append-nil so_far.floors)))
rows_are_read at number so_far (row ∷ rows) h room =
    let token = token_is_read at so_far row h.2 (omega (arith, room)) in
    let line = row_is_imported at so_far row.credential row.next h.0 h.1 ∙ token in
    let room' : length (so_far.book ++ row.credential ∷ []) + length rows ≤ 10000 = omega (arith, length-append so_far.book (row.credential ∷ []), room) in
    ap (after_lines None at number so_far) (row_is_line row.credential row.next (file_text rows) h.0 h.1)
    ∙ one_line at number so_far (after_row_of at so_far row) (row_line row.credential row.next) (lines_of (file_text rows)) (has_line (file_text rows)) line
    ∙ rows_are_read at (number + 1) (after_row_of at so_far row) rows h.3 room'
    ∙ ap Ok (more_read at so_far row rows)

file_len : (before : List Credential) (rows : List WrittenRow) → AreRows before rows → length (file_text rows) ≤ 425 * length rows
file_len before [] h = omega arith
file_len before (row ∷ rows) h =
    let one = row_is_short row.credential row.next h.0 h.1 in
    let rest = file_len (before ++ row.credential ∷ []) rows h.3 in
    omega (arith, length-append (row_text row.credential row.next) (file_text rows), one, rest)

le_true : (a b : ℕ) → a ≤ b → nat_le a b ≡ true
le_true a b h = grind arith

pub file_is_short : (rows : List WrittenRow) → AreRows [] rows → length (file_text rows) ≤ 425 * length rows
file_is_short rows h = file_len [] rows h

pub file_is_read : (limit : ℕ) (at : Instant) (rows : List WrittenRow) → AreRows [] rows → length rows ≤ 10000 → length (file_text rows) ≤ limit
    → book_of limit at (file_text rows) ≡ Ok (record { book = credentials_of rows; floors = map (read_floor at) rows })
file_is_read limit at rows h few room = rw (le_true (length (file_text rows)) limit room) (rows_are_read at 1 empty_import rows h (omega (arith, few)))
