-- Lines of a floors file by names that are read one after the other.
use Rattle.std.proofs.Common.{◌≡◌, ℕ, suc, ◌+◌, ◌-◌, ◌<◌, ◌≤◌, Bool, true, false, cond, List, [], ◌∷◌, ◌++◌, length, refl, sym, ap, ◌∙◌, arith, length-append}
use Rattle.std.specs.Prelude.{Result, Ok, Err, IfErr, IsErrAnd}
use Rattle.std.proofs.lemmas.List.Splits.{length-slice_split}
use Rattle.token_file.specs.Fields.{is_line_end, lines_of}
use Rattle.floors_file.specs.declared.fault.FloorsFault.{FloorsFault}
use Rattle.floors_file.specs.declared.fault.LineFault.{LineFault}
use Rattle.floors_file.specs.declared.fault.LineFault.TheVariants.{NoEnd, Range}
use Rattle.floors_file.specs.declared.named.HeardBoot.{HeardBoot}
use Rattle.floors_file.specs.declared.named.NamedFloor.{NamedFloor}
use Rattle.floors_file.specs.Fields.{◌>>=◌, fields_of}
use Rattle.floors_file.specs.Named.{NamedHeadRecord}
use Rattle.floors_file.specs.NamedReading.{NamedLineRecord, ended_named, first_named, heard_end, heard_from, heard_of, named_after, named_head_of, named_of_lines, named_row_of, named_rows_from, row_fault}
use Rattle.floors_file.specs.Reading.{at_line, is_head, is_memory, ranged}
use Rattle.floors_file.specs.declared.reading.HeadLine.{HeadLine}
use Rattle.floors_file.proofs.RoundLemmas.{ranges_of}

-- ---- rows

-- a row before other lines
pub named_row_then : (number count : ℕ) (rows : List NamedFloor) (line : List ℕ) (lines : List (List ℕ)) (k : ℕ) → length lines ≡ k + 1
    → named_rows_from number (suc count) rows (line ∷ lines)
    ≡ (at_line number (named_row_of rows (fields_of line)) >>= λ row. named_rows_from (number + 1) count (rows ++ row ∷ []) lines)
named_row_then number count rows line [] k e = absurd (omega (arith, e))
named_row_then number count rows line (next ∷ lines) k e = refl

-- `number` rows of a text are read, and `rest` is left of it
pub record HasReadRows (count : ℕ) (text rest : List ℕ) (rows : List NamedFloor) (number : ℕ) : Type 0 where
  pub so_far : named_rows_from 2 count [] (lines_of text) ≡ named_rows_from (number + 2) (count - number) rows (lines_of rest)

pub none_read : (count : ℕ) (text : List ℕ) → HasReadRows count text text [] 0
none_read count text = record { so_far = ap (λ n. named_rows_from 2 n [] (lines_of text)) (omega arith) }

one_left : (count number : ℕ) → number < count → count - number ≡ suc (count - (number + 1))
one_left count number low = omega (arith, low)

rows_to : (count number : ℕ) (text rest line behind : List ℕ) (rows : List NamedFloor) → number < count → lines_of rest ≡ line ∷ lines_of behind
    → HasReadRows count text rest rows number → named_rows_from 2 count [] (lines_of text)
    ≡ (at_line (number + 2) (named_row_of rows (fields_of line)) >>= λ row. named_rows_from (number + 2 + 1) (count - (number + 1)) (rows ++ row ∷ []) (lines_of behind))
rows_to count number text rest line behind rows low is has =
    has.so_far ∙ ap (named_rows_from (number + 2) (count - number) rows) is
    ∙ ap (λ n. named_rows_from (number + 2) n rows (line ∷ lines_of behind)) (one_left count number low)
    ∙ named_row_then (number + 2) (count - (number + 1)) rows line (lines_of behind) _ (length-slice_split is_line_end behind)

pub rows_next : (count number : ℕ) (text rest line behind : List ℕ) (rows new : List NamedFloor) (row : NamedFloor) → number < count
    → lines_of rest ≡ line ∷ lines_of behind → Ok row ≡ named_row_of rows (fields_of line) → new ≡ rows ++ row ∷ []
    → HasReadRows count text rest rows number → HasReadRows count text behind new (number + 1)
rows_next count number text rest line behind rows new row low is e more has = record {
  so_far = rows_to count number text rest line behind rows low is has
      ∙ ap (λ o. at_line (number + 2) o >>= λ row. named_rows_from (number + 2 + 1) (count - (number + 1)) (rows ++ row ∷ []) (lines_of behind)) (sym e)
      ∙ ap (λ l. named_rows_from (number + 2 + 1) (count - (number + 1)) l (lines_of behind)) (sym more)
      ∙ ap (λ n. named_rows_from n (count - (number + 1)) new (lines_of behind)) (omega arith);
}

pub rows_bad : (count number at : ℕ) (text rest line behind : List ℕ) (rows : List NamedFloor) (fault : LineFault) → number < count
    → lines_of rest ≡ line ∷ lines_of behind → Err fault ≡ named_row_of rows (fields_of line) → at ≡ number + 2
    → HasReadRows count text rest rows number → named_rows_from 2 count [] (lines_of text) ≡ Err (at, fault)
rows_bad count number at text rest line behind rows fault low is e there has =
    rows_to count number text rest line behind rows low is has
    ∙ ap (λ o. at_line (number + 2) o >>= λ row. named_rows_from (number + 2 + 1) (count - (number + 1)) (rows ++ row ∷ []) (lines_of behind)) (sym e)
    ∙ ap (λ n. Err (n, fault)) (sym there)

pub rows_unended : (count number at : ℕ) (text rest : List ℕ) (rows : List NamedFloor) (fault : LineFault) → number < count → lines_of rest ≡ rest ∷ []
    → fault ≡ row_fault rest → at ≡ number + 2 → HasReadRows count text rest rows number → named_rows_from 2 count [] (lines_of text) ≡ Err (at, fault)
rows_unended count number at text rest rows fault low is e there has =
    has.so_far ∙ ap (named_rows_from (number + 2) (count - number) rows) is
    ∙ ap (λ n. named_rows_from (number + 2) n rows (rest ∷ [])) (one_left count number low)
    ∙ ap (λ f. Err (number + 2, f)) (sym e) ∙ ap (λ n. Err (n, fault)) (sym there)

pub rows_all : (count number : ℕ) (text rest : List ℕ) (rows : List NamedFloor) → count ≤ number → HasReadRows count text rest rows number
    → named_rows_from 2 count [] (lines_of text) ≡ Ok (rows, lines_of rest)
rows_all count number text rest rows all has =
    let none : count - number ≡ 0 = omega (arith, all) in
    has.so_far ∙ ap (λ n. named_rows_from (number + 2) n rows (lines_of rest)) none

-- ---- boots that were heard

pub heard_then : (number : ℕ) (head : NamedHeadRecord) (heard : List HeardBoot) (line : List ℕ) (lines : List (List ℕ)) (k : ℕ) → length lines ≡ k + 1
    → heard_from number head heard (line ∷ lines)
    ≡ (at_line number (heard_of head heard (fields_of line)) >>= λ one. heard_from (number + 1) head (heard ++ one ∷ []) lines)
heard_then number head heard line [] k e = absurd (omega (arith, e))
heard_then number head heard line (next ∷ lines) k e = refl

-- the boots `heard` of a text are read, and `rest` is left of it
pub record HasHeard (first : ℕ) (head : NamedHeadRecord) (text rest : List ℕ) (heard : List HeardBoot) : Type 0 where
  pub so_far : heard_from first head [] (lines_of text) ≡ heard_from (first + length heard) head heard (lines_of rest)

pub none_heard : (first : ℕ) (head : NamedHeadRecord) (text : List ℕ) → HasHeard first head text text []
none_heard first head text = record { so_far = ap (λ n. heard_from n head [] (lines_of text)) (omega arith) }

heard_to : (first : ℕ) (head : NamedHeadRecord) (text rest line behind : List ℕ) (heard : List HeardBoot) → lines_of rest ≡ line ∷ lines_of behind
    → HasHeard first head text rest heard → heard_from first head [] (lines_of text)
    ≡ (at_line (first + length heard) (heard_of head heard (fields_of line)) >>= λ one. heard_from (first + length heard + 1) head (heard ++ one ∷ []) (lines_of behind))
heard_to first head text rest line behind heard is has =
    has.so_far ∙ ap (heard_from (first + length heard) head heard) is
    ∙ heard_then (first + length heard) head heard line (lines_of behind) _ (length-slice_split is_line_end behind)

pub heard_next : (first : ℕ) (head : NamedHeadRecord) (text rest line behind : List ℕ) (heard slice new : List HeardBoot) (one : HeardBoot)
    → lines_of rest ≡ line ∷ lines_of behind → slice ≡ heard → Ok one ≡ heard_of head slice (fields_of line) → new ≡ heard ++ one ∷ []
    → HasHeard first head text rest heard → HasHeard first head text behind new
heard_next first head text rest line behind heard slice new one is same e more has =
    let e = e ∙ ap (λ l. heard_of head l (fields_of line)) same in
    let longer : first + length heard + 1 ≡ first + length new = omega (arith, ap length more, length-append heard (one ∷ [])) in
    record {
      so_far = heard_to first head text rest line behind heard is has
          ∙ ap (λ o. at_line (first + length heard) o >>= λ one. heard_from (first + length heard + 1) head (heard ++ one ∷ []) (lines_of behind)) (sym e)
          ∙ ap (λ l. heard_from (first + length heard + 1) head l (lines_of behind)) (sym more)
          ∙ ap (λ n. heard_from n head new (lines_of behind)) longer;
    }

pub heard_bad : (first at : ℕ) (head : NamedHeadRecord) (text rest line behind : List ℕ) (heard slice : List HeardBoot) (fault : LineFault)
    → lines_of rest ≡ line ∷ lines_of behind → slice ≡ heard → Err fault ≡ heard_of head slice (fields_of line) → at ≡ first + length heard
    → HasHeard first head text rest heard → heard_from first head [] (lines_of text) ≡ Err (at, fault)
heard_bad first at head text rest line behind heard slice fault is same e there has =
    let e = e ∙ ap (λ l. heard_of head l (fields_of line)) same in
    heard_to first head text rest line behind heard is has
    ∙ ap (λ o. at_line (first + length heard) o >>= λ one. heard_from (first + length heard + 1) head (heard ++ one ∷ []) (lines_of behind)) (sym e)
    ∙ ap (λ n. Err (n, fault)) (sym there)

pub heard_all : (first : ℕ) (head : NamedHeadRecord) (text rest : List ℕ) (heard : List HeardBoot) → lines_of rest ≡ rest ∷ [] → rest ≡ []
    → HasHeard first head text rest heard → heard_from first head [] (lines_of text) ≡ Ok heard
heard_all first head text rest heard is empty has =
    has.so_far ∙ ap (heard_from (first + length heard) head heard) is
    ∙ ap (λ l. at_line (first + length heard) (heard_end heard l)) empty

pub heard_unended : (first at : ℕ) (head : NamedHeadRecord) (text rest : List ℕ) (heard : List HeardBoot) → lines_of rest ≡ rest ∷ []
    → heard_end heard rest ≡ Err NoEnd → at ≡ first + length heard
    → HasHeard first head text rest heard → heard_from first head [] (lines_of text) ≡ Err (at, NoEnd)
heard_unended first at head text rest heard is some there has =
    has.so_far ∙ ap (heard_from (first + length heard) head heard) is
    ∙ ap (at_line (first + length heard)) some ∙ ap (λ n. Err (n, NoEnd)) (sym there)

-- ---- the whole text

ended : (lines : List (List ℕ)) (line : NamedLineRecord) (k : ℕ) → length lines ≡ k + 1 → ended_named lines line ≡ Ok line
ended [] line k e = absurd (omega (arith, e))
ended (next ∷ lines) line k e = refl

-- the lines after a first line that was read
pub named_then : (text first rest : List ℕ) (line : NamedLineRecord) → lines_of text ≡ first ∷ lines_of rest → Ok line ≡ named_head_of (fields_of first)
    → named_of_lines (lines_of text) ≡ (named_rows_from 2 line.rows [] (lines_of rest) >>= named_after line)
named_then text first rest line is e =
    ap named_of_lines is
    ∙ ap (λ o. at_line 1 (o >>= ended_named (lines_of rest)) >>= λ (l : NamedLineRecord). named_rows_from 2 l.rows [] (lines_of rest) >>= named_after l) (sym e)
    ∙ ap (λ o. at_line 1 o >>= λ (l : NamedLineRecord). named_rows_from 2 l.rows [] (lines_of rest) >>= named_after l)
    (ended (lines_of rest) line _ (length-slice_split is_line_end rest))

pub named_read : (text first rest left : List ℕ) (line : NamedLineRecord) (rows : List NamedFloor) (heard : List HeardBoot)
    → lines_of text ≡ first ∷ lines_of rest → Ok line ≡ named_head_of (fields_of first)
    → named_rows_from 2 line.rows [] (lines_of rest) ≡ Ok (rows, lines_of left)
    → heard_from (line.rows + 2) line.head [] (lines_of left) ≡ Ok heard
    → named_of_lines (lines_of text) ≡ Ok (record { head = line.head; rows = rows; heard = heard })
named_read text first rest left line rows heard is e r h =
    named_then text first rest line is e ∙ ap (λ o. o >>= named_after line) r
    ∙ ap (λ o. o >>= λ heard. Ok (record { head = line.head; rows = rows; heard = heard })) h

pub named_bad_rows : (text first rest : List ℕ) (line : NamedLineRecord) (fault : ℕ × LineFault)
    → lines_of text ≡ first ∷ lines_of rest → Ok line ≡ named_head_of (fields_of first)
    → named_rows_from 2 line.rows [] (lines_of rest) ≡ Err fault → named_of_lines (lines_of text) ≡ Err fault
named_bad_rows text first rest line fault is e r = named_then text first rest line is e ∙ ap (λ o. o >>= named_after line) r

pub named_bad_heard : (text first rest left : List ℕ) (line : NamedLineRecord) (rows : List NamedFloor) (fault : ℕ × LineFault)
    → lines_of text ≡ first ∷ lines_of rest → Ok line ≡ named_head_of (fields_of first)
    → named_rows_from 2 line.rows [] (lines_of rest) ≡ Ok (rows, lines_of left)
    → heard_from (line.rows + 2) line.head [] (lines_of left) ≡ Err fault → named_of_lines (lines_of text) ≡ Err fault
named_bad_heard text first rest left line rows fault is e r h =
    named_then text first rest line is e ∙ ap (λ o. o >>= named_after line) r
    ∙ ap (λ o. o >>= λ heard. Ok (record { head = line.head; rows = rows; heard = heard })) h

pub named_bad_head : (text first rest : List ℕ) (fault : LineFault) → lines_of text ≡ first ∷ lines_of rest
    → Err fault ≡ named_head_of (fields_of first) → named_of_lines (lines_of text) ≡ Err (1, fault)
named_bad_head text first rest fault is e =
    ap named_of_lines is
    ∙ ap (λ o. at_line 1 (o >>= ended_named (lines_of rest)) >>= λ (l : NamedLineRecord). named_rows_from 2 l.rows [] (lines_of rest) >>= named_after l) (sym e)

pub named_unended : (text : List ℕ) (fault : LineFault) → lines_of text ≡ text ∷ [] → Err fault ≡ first_named [] text
    → named_of_lines (lines_of text) ≡ Err (1, fault)
named_unended text fault is e =
    ap named_of_lines is ∙ ap (λ o. at_line 1 o >>= λ (l : NamedLineRecord). named_rows_from 2 l.rows [] [] >>= named_after l) (sym e)

-- ---- the number of rows

few_if : (most : ℕ) (line other : HeadLine) (test : Bool) → is_head most line ≡ test → Ok other ≡ cond test (Ok line) (Err Range) → other.tokens ≤ most
few_if most line other false is e = absurd cc
few_if most line other true is e = let few = (ranges_of most line is).tokens in let same : other.tokens ≡ line.tokens = cc in omega (arith, few, same)

pub tokens_few : (most : ℕ) (line other : HeadLine) → Ok other ≡ ranged most line → other.tokens ≤ most
tokens_few most line other e = few_if most line other (is_head most line) refl e

-- the fault of the boots, passed on
pub bad_heard : {A : Type 0} (text : List ℕ) (result : Result A FloorsFault) (fault : FloorsFault) → IsErrAnd result (λ x. x ≡ fault)
    → (is_memory fault.kind ≡ false → named_of_lines (lines_of text) ≡ Err (fault.line, fault.kind))
    → IfErr result (λ fault. is_memory fault.kind ≡ false → named_of_lines (lines_of text) ≡ Err (fault.line, fault.kind))
bad_heard text (Ok value) fault is e = tt
bad_heard text (Err other) fault is e = rw is e
