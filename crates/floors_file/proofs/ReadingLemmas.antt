-- Rows that are read one after the other.
use Rattle.std.proofs.Common.{◌≡◌, ℕ, ◌+◌, Bool, false, List, [], ◌∷◌, ◌++◌, length, map, refl, sym, ap, ◌∙◌, arith}
use Rattle.std.specs.Prelude.{Result, Ok, Err, IfErr, IsErrAnd, ◌||◌}
use Rattle.std.specs.List.{list_any}
use Rattle.std.proofs.lemmas.List.{map-append, length-map}
use Rattle.std.proofs.lemmas.List.Splits.{length-slice_split}
use Rattle.token_file.specs.Fields.{lines_of}
use Rattle.floors_file.specs.declared.fault.FloorsFault.{FloorsFault}
use Rattle.floors_file.specs.declared.fault.LineFault.{LineFault}
use Rattle.floors_file.specs.declared.floors.Floor.{Floor}
use Rattle.floors_file.specs.declared.reading.HeadLine.{HeadLine}
use Rattle.floors_file.specs.Fields.{◌>>=◌, fields_of}
use Rattle.floors_file.specs.Floors.{FloorRecord, floor_value}
use Rattle.floors_file.specs.Reading.{at_line, end_of, ended_head, floors_of, floors_of_lines, head_of, is_memory, next_row, rows_from}

-- an item of a mapped list passes if the image of an item does
pub any_of_map : {A B : Type 0} (p : B → Bool) (f : A → B) (xs : List A) → list_any p (map f xs) ≡ list_any (λ x. p (f x)) xs
any_of_map p f [] = refl
any_of_map p f (x ∷ xs) = ap (λ b. p (f x) || b) (any_of_map p f xs)

-- a line before others
pub row_then : (tokens : ℕ) (rows : List FloorRecord) (line : List ℕ) (lines : List (List ℕ)) (count : ℕ) → length lines ≡ count + 1
    → rows_from tokens rows (line ∷ lines)
    ≡ (at_line (length rows + 2) (next_row tokens rows line) >>= λ row. rows_from tokens (rows ++ row ∷ []) lines)
row_then tokens rows line [] count e = absurd (omega (arith, e))
row_then tokens rows line (next ∷ lines) count e = refl

-- the rows `rows` of a text are read, and `rest` is left of it
pub record HasRead (tokens : ℕ) (text : List ℕ) (rows : List FloorRecord) (rest : List ℕ) : Type 0 where
  pub so_far : rows_from tokens [] (lines_of text) ≡ rows_from tokens rows (lines_of rest)

read_to : (tokens : ℕ) (text : List ℕ) (rows : List FloorRecord) (rest line behind : List ℕ) → lines_of rest ≡ line ∷ lines_of behind
    → HasRead tokens text rows rest → rows_from tokens [] (lines_of text)
    ≡ (at_line (length rows + 2) (next_row tokens rows line) >>= λ row. rows_from tokens (rows ++ row ∷ []) (lines_of behind))
read_to tokens text rows rest line behind is has =
    has.so_far ∙ ap (rows_from tokens rows) is ∙ row_then tokens rows line (lines_of behind) _ (length-slice_split _ behind)

pub read_next : (tokens : ℕ) (text : List ℕ) (rows slice new : List Floor) (rest line behind : List ℕ) (row : Floor)
    → lines_of rest ≡ line ∷ lines_of behind → slice ≡ rows → Ok (floor_value row) ≡ next_row tokens (map floor_value slice) line
    → new ≡ rows ++ row ∷ [] → HasRead tokens text (map floor_value rows) rest → HasRead tokens text (map floor_value new) behind
read_next tokens text rows slice new rest line behind row is same e more has =
    let e = e ∙ ap (λ l. next_row tokens (map floor_value l) line) same in
    record {
      so_far = read_to tokens text (map floor_value rows) rest line behind is has
          ∙ ap (λ o. at_line (length (map floor_value rows) + 2) o >>= λ new. rows_from tokens (map floor_value rows ++ new ∷ []) (lines_of behind)) (sym e)
          ∙ ap (λ new. rows_from tokens new (lines_of behind)) (sym (map-append floor_value rows (row ∷ [])) ∙ ap (map floor_value) (sym more));
    }

pub read_bad : (tokens : ℕ) (text : List ℕ) (rows slice : List Floor) (rest line behind : List ℕ) (fault kind : LineFault) (number : ℕ)
    → lines_of rest ≡ line ∷ lines_of behind → slice ≡ rows → Err fault ≡ next_row tokens (map floor_value slice) line
    → number ≡ length rows + 2 → kind ≡ fault
    → HasRead tokens text (map floor_value rows) rest → rows_from tokens [] (lines_of text) ≡ Err (number, kind)
read_bad tokens text rows slice rest line behind fault kind number is same e at kinds has =
    let e = e ∙ ap (λ l. next_row tokens (map floor_value l) line) same in
    read_to tokens text (map floor_value rows) rest line behind is has
    ∙ ap (λ o. at_line (length (map floor_value rows) + 2) o >>= λ new. rows_from tokens (map floor_value rows ++ new ∷ []) (lines_of behind)) (sym e)
    ∙ ap (λ n. Err (n, fault)) (ap (λ n. n + 2) (length-map rows floor_value) ∙ sym at) ∙ ap (λ k. Err (number, k)) (sym kinds)

pub read_all : (tokens : ℕ) (text : List ℕ) (rows : List Floor) (rest : List ℕ) → lines_of rest ≡ rest ∷ []
    → end_of tokens (map floor_value rows) rest ≡ Ok (map floor_value rows)
    → HasRead tokens text (map floor_value rows) rest → rows_from tokens [] (lines_of text) ≡ Ok (map floor_value rows)
read_all tokens text rows rest is e has =
    has.so_far ∙ ap (rows_from tokens (map floor_value rows)) is ∙ ap (at_line (length (map floor_value rows) + 2)) e

pub read_bad_end : (tokens : ℕ) (text : List ℕ) (rows : List Floor) (rest : List ℕ) (fault : LineFault) (number : ℕ) → lines_of rest ≡ rest ∷ []
    → end_of tokens (map floor_value rows) rest ≡ Err fault → number ≡ length rows + 2
    → HasRead tokens text (map floor_value rows) rest → rows_from tokens [] (lines_of text) ≡ Err (number, fault)
read_bad_end tokens text rows rest fault number is e at has =
    has.so_far ∙ ap (rows_from tokens (map floor_value rows)) is ∙ ap (at_line (length (map floor_value rows) + 2)) e
    ∙ ap (λ n. Err (n, fault)) (ap (λ n. n + 2) (length-map rows floor_value) ∙ sym at)

-- ---- the whole text

ended : (lines : List (List ℕ)) (line : HeadLine) (count : ℕ) → length lines ≡ count + 1 → ended_head lines line ≡ Ok line
ended [] line count e = absurd (omega (arith, e))
ended (next ∷ lines) line count e = refl

-- the rows after a first line that was read
floors_then : (text first rest : List ℕ) (line : HeadLine) → lines_of text ≡ first ∷ lines_of rest → Ok line ≡ head_of (fields_of first)
    → floors_of text ≡ (rows_from line.tokens [] (lines_of rest) >>= λ rows. Ok (record { head = line.head; rows = rows }))
floors_then text first rest line is e =
    ap floors_of_lines is
    ∙ ap (λ o. at_line 1 (o >>= ended_head (lines_of rest)) >>= λ (l : HeadLine). rows_from l.tokens [] (lines_of rest) >>= λ rows. Ok (record { head = l.head; rows = rows })) (sym e)
    ∙ ap (λ o. at_line 1 o >>= λ (l : HeadLine). rows_from l.tokens [] (lines_of rest) >>= λ rows. Ok (record { head = l.head; rows = rows }))
    (ended (lines_of rest) line _ (length-slice_split _ rest))

pub floors_read : (text first rest : List ℕ) (line : HeadLine) (rows : List FloorRecord) → lines_of text ≡ first ∷ lines_of rest
    → Ok line ≡ head_of (fields_of first) → rows_from line.tokens [] (lines_of rest) ≡ Ok rows
    → floors_of text ≡ Ok (record { head = line.head; rows = rows })
floors_read text first rest line rows is e r =
    floors_then text first rest line is e ∙ ap (λ o. o >>= λ rows. Ok (record { head = line.head; rows = rows })) r

pub floors_bad : (text first rest : List ℕ) (line : HeadLine) (fault : ℕ × LineFault) → lines_of text ≡ first ∷ lines_of rest
    → Ok line ≡ head_of (fields_of first) → rows_from line.tokens [] (lines_of rest) ≡ Err fault → floors_of text ≡ Err fault
floors_bad text first rest line fault is e r =
    floors_then text first rest line is e ∙ ap (λ o. o >>= λ rows. Ok (record { head = line.head; rows = rows })) r

pub floors_bad_head : (text first rest : List ℕ) (fault : LineFault) → lines_of text ≡ first ∷ lines_of rest
    → Err fault ≡ head_of (fields_of first) → floors_of text ≡ Err (1, fault)
floors_bad_head text first rest fault is e =
    ap floors_of_lines is
    ∙ ap (λ o. at_line 1 (o >>= ended_head (lines_of rest)) >>= λ (l : HeadLine). rows_from l.tokens [] (lines_of rest) >>= λ rows. Ok (record { head = l.head; rows = rows })) (sym e)

pub floors_unended : (text : List ℕ) (fault : LineFault) → lines_of text ≡ text ∷ []
    → Err fault ≡ (head_of (fields_of text) >>= ended_head []) → floors_of text ≡ Err (1, fault)
floors_unended text fault is e =
    ap floors_of_lines is
    ∙ ap (λ o. at_line 1 o >>= λ (l : HeadLine). rows_from l.tokens [] [] >>= λ rows. Ok (record { head = l.head; rows = rows })) (sym e)

-- the fault of the rows, passed on
pub bad_rows : {A : Type 0} (text : List ℕ) (result : Result A FloorsFault) (fault : FloorsFault) → IsErrAnd result (λ x. x ≡ fault)
    → (is_memory fault.kind ≡ false → floors_of text ≡ Err (fault.line, fault.kind))
    → IfErr result (λ fault. is_memory fault.kind ≡ false → floors_of text ≡ Err (fault.line, fault.kind))
bad_rows text (Ok value) fault is e = tt
bad_rows text (Err other) fault is e = rw is e
