-- The rows of a store, written in turn.
use Rattle.std.proofs.Common.{◌≡◌, ℕ, ◌+◌, List, [], ◌∷◌, ◌++◌, zero, suc, take, Option, Some, None, sym, ap, subst, ◌∙◌, arith}
use Rattle.std.specs.Prelude.{slice_get, Result, Ok, Err, OnOk}
use Rattle.std.specs.Io.KnownBytes.{Appends}
use Rattle.std.proofs.lemmas.List.{append-nil, append_assoc}
use Rattle.std.proofs.lemmas.Option.{none-some, same_Some}
use Rattle.token_file.specs.Credential.{Credential}
use Rattle.floor_store.specs.Records.{RowRecord}
use Rattle.roster_sql.specs.declared.entry.Entry.{Entry}
use Rattle.oathd_roster.specs.Roster.{WritesRow, roster_lines, roster_text, row_line, user_of, user_text}

-- one text, followed by another
append_more : (old middle new : Option (List ℕ)) (front back : List ℕ) → Appends old middle front → Appends middle new back
    → Appends old new (front ++ back)
append_more None middle new front back h k = tt
append_more (Some x) None new front back h k = absurd h
append_more (Some x) (Some y) None front back h k = absurd k
append_more (Some x) (Some y) (Some z) front back h k = k ∙ ap (λ l. l ++ back) h ∙ append_assoc x front back

-- the same, where the second text may fail
pub append_on : {T E : Type 0} (r : Result T E) (old middle new : Option (List ℕ)) (front back : List ℕ) → Appends old middle front
    → OnOk r (Appends middle new back) → OnOk r (Appends old new (front ++ back))
append_on (Ok done) old middle new front back h k = append_more old middle new front back h k
append_on (Err fault) old middle new front back h k = tt

-- the user of a token that was found
pub user_is : (book : List Credential) (token : ℕ) (there : Credential) (found : Option ℕ) (name : List ℕ) → Some token ≡ found
    → slice_get book token ≡ Some there → name ≡ there.name → name ≡ user_text book found
user_is book token there found name is at named = named ∙ ap user_of (sym at) ∙ ap (user_text book) is

module _ (book : List Credential) (seats : List ℕ) where
  -- one row more
  lines_on : (number place : ℕ) (roster : List Entry) (rows : List RowRecord) (entry : Entry) (row : RowRecord)
      → slice_get roster place ≡ Some entry → slice_get rows place ≡ Some row
      → roster_lines book seats number (take (suc place) roster) (take (suc place) rows)
      ≡ roster_lines book seats number (take place roster) (take place rows) ++ row_line book seats (number + place) entry row
  lines_on number place [] rows entry row is_entry is_row = absurd (none-some entry is_entry)
  lines_on number place (first ∷ roster) [] entry row is_entry is_row = absurd (none-some row is_row)
  lines_on number zero (first ∷ roster) (top ∷ rows) entry row is_entry is_row =
      let here : number ≡ number + 0 = omega arith in
      append-nil (row_line book seats number first top)
      ∙ ap (λ n. row_line book seats n first top) here
      ∙ ap (λ (e : Entry). row_line book seats (number + 0) e top) (same_Some first entry is_entry)
      ∙ ap (row_line book seats (number + 0) entry) (same_Some top row is_row)
  lines_on number (suc place) (first ∷ roster) (top ∷ rows) entry row is_entry is_row =
      let on : number + 1 + place ≡ number + suc place = omega arith in
      ap (λ l. row_line book seats number first top ++ l)
      (lines_on (number + 1) place roster rows entry row is_entry is_row
      ∙ ap (λ n. roster_lines book seats (number + 1) (take place roster) (take place rows) ++ row_line book seats n entry row) on)
      ∙ sym (append_assoc (row_line book seats number first top) (roster_lines book seats (number + 1) (take place roster) (take place rows))
      (row_line book seats (number + suc place) entry row))

  -- the rows up to a place, followed by the row there
  pub append_row : (roster : List Entry) (rows : List RowRecord) (place : ℕ) (old middle new : Option (List ℕ))
      → Appends old middle (roster_text book seats (take place roster) (take place rows)) → WritesRow book seats roster rows place middle new
      → Appends old new (roster_text book seats (take (place + 1) roster) (take (place + 1) rows))
  append_row roster rows place old middle new h k =
      let on : place + 1 ≡ suc place = omega arith in
      let from : 0 + place ≡ place = omega arith in
      let texts : roster_text book seats (take (place + 1) roster) (take (place + 1) rows)
      ≡ roster_text book seats (take place roster) (take place rows) ++ row_line book seats place k.entry k.row =
      ap (λ n. roster_lines book seats 0 (take n roster) (take n rows)) on
      ∙ lines_on 0 place roster rows k.entry k.row k.entry_is k.row_is
      ∙ ap (λ n. roster_lines book seats 0 (take place roster) (take place rows) ++ row_line book seats n k.entry k.row) from in
      subst (Appends old new) (sym texts)
      (append_more old middle new (roster_text book seats (take place roster) (take place rows)) (row_line book seats place k.entry k.row) h k.written)
