-- What is written in turn.
use Rattle.std.proofs.Common.{◌≡◌, ℕ, ◌+◌, ◌<◌, List, [], ◌∷◌, ◌++◌, zero, suc, length, take, Option, Some, None, get_or, sym, ap, subst, ◌∙◌, arith}
use Rattle.std.specs.Prelude.{slice_get}
use Rattle.std.specs.Io.KnownBytes.{Appends}
use Rattle.std.proofs.lemmas.List.{append-nil, append_assoc, take_more, length-take}
use Rattle.std.proofs.lemmas.Option.{none-some, same_Some}
use Rattle.token_file.specs.Credential.{Credential}
use Rattle.floor_store.specs.Records.{PassRecord, RowRecord}
use Rattle.oathd_database.specs.Text.{WritesToken, audit_text, pass_line, pass_lines, rows_text}

-- one text, followed by another
append_more : (old middle new : Option (List ℕ)) (front back : List ℕ) → Appends old middle front → Appends middle new back
    → Appends old new (front ++ back)
append_more None middle new front back h k = tt
append_more (Some x) None new front back h k = absurd h
append_more (Some x) (Some y) None front back h k = absurd k
append_more (Some x) (Some y) (Some z) front back h k = k ∙ ap (λ l. l ++ back) h ∙ append_assoc x front back

-- ---- passes

-- one pass more
lines_more : (number : ℕ) (passes : List PassRecord) (pass : PassRecord)
    → pass_lines number (passes ++ pass ∷ []) ≡ pass_lines number passes ++ pass_line (number + length passes) pass
lines_more number [] pass = append-nil (pass_line number pass) ∙ ap (λ n. pass_line n pass) (omega arith)
lines_more number (first ∷ passes) pass =
    let same : number + 1 + length passes ≡ number + suc (length passes) = omega arith in
    ap (λ l. pass_line number first ++ l) (lines_more (number + 1) passes pass ∙ ap (λ n. pass_lines (number + 1) passes ++ pass_line n pass) same)
    ∙ sym (append_assoc (pass_line number first) (pass_lines (number + 1) passes) (pass_line (number + suc (length passes)) pass))

-- the passes up to a place, followed by the pass there
pub append_pass : (passes : List PassRecord) (place : ℕ) (pass : PassRecord) (old middle new : Option (List ℕ))
    → place < length passes → pass ≡ get_or passes place pass
    → Appends old middle (audit_text (take place passes)) → Appends middle new (pass_line (place + 1) pass)
    → Appends old new (audit_text (take (place + 1) passes))
append_pass passes place pass old middle new within is h k =
    let sized : 1 + length (take place passes) ≡ place + 1 = omega (arith, length-take place passes) in
    let texts : audit_text (take (place + 1) passes) ≡ audit_text (take place passes) ++ pass_line (place + 1) pass =
    ap (pass_lines 1) (take_more passes place pass within ∙ ap (λ p. take place passes ++ p ∷ []) (sym is))
    ∙ lines_more 1 (take place passes) pass
    ∙ ap (λ n. audit_text (take place passes) ++ pass_line n pass) sized in
    subst (Appends old new) (sym texts) (append_more old middle new (audit_text (take place passes)) (pass_line (place + 1) pass) h k)

-- ---- rows

module _ (text : Credential → RowRecord → List ℕ) where
  -- one token more
  rows_on : (place : ℕ) (book : List Credential) (rows : List RowRecord) (token : Credential) (row : RowRecord)
      → slice_get book place ≡ Some token → slice_get rows place ≡ Some row
      → rows_text text (take (suc place) book) (take (suc place) rows) ≡ rows_text text (take place book) (take place rows) ++ text token row
  rows_on place [] rows token row is_token is_row = absurd (none-some token is_token)
  rows_on place (first ∷ book) [] token row is_token is_row = absurd (none-some row is_row)
  rows_on zero (first ∷ book) (top ∷ rows) token row is_token is_row =
      append-nil (text first top)
      ∙ ap (λ (t : Credential). text t top) (same_Some first token is_token)
      ∙ ap (text token) (same_Some top row is_row)
  rows_on (suc place) (first ∷ book) (top ∷ rows) token row is_token is_row =
      ap (λ l. text first top ++ l) (rows_on place book rows token row is_token is_row)
      ∙ sym (append_assoc (text first top) (rows_text text (take place book) (take place rows)) (text token row))

  -- the tokens up to a place, followed by the token there
  pub append_token : (book : List Credential) (rows : List RowRecord) (place : ℕ) (old middle new : Option (List ℕ))
      → Appends old middle (rows_text text (take place book) (take place rows)) → WritesToken text book rows place middle new
      → Appends old new (rows_text text (take (place + 1) book) (take (place + 1) rows))
  append_token book rows place old middle new h k =
      let on : place + 1 ≡ suc place = omega arith in
      let texts : rows_text text (take (place + 1) book) (take (place + 1) rows) ≡ rows_text text (take place book) (take place rows) ++ text k.token k.row =
      ap (λ n. rows_text text (take n book) (take n rows)) on ∙ rows_on place book rows k.token k.row k.token_is k.row_is in
      subst (Appends old new) (sym texts) (append_more old middle new (rows_text text (take place book) (take place rows)) (text k.token k.row) h k.written)
