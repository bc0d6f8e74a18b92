-- The lines of a script that a limit may cut.
use Rattle.std.proofs.Common.{◌≡◌, ℕ, ◌+◌, ◌-◌, ◌<◌, ◌≤◌, Bool, true, false, List, [], ◌∷◌, length, map, Option, Some, None, refl, sym, ap, ◌∙◌, arith}
use Rattle.std.specs.Prelude.{Result, Ok, Err, ◌==◌, count_by}
use Rattle.std.proofs.lemmas.Bool.Decides.{nat_tests}
use Rattle.std.proofs.lemmas.List.Splits.{length-slice_split}
use Rattle.oathd_sim.specs.Event.{ScriptRecord, empty_script}
use Rattle.oathd_sim.specs.Reading.{IsRefused}
use Rattle.oathd_sim.specs.Script.{script_of, with_line}
use Rattle.oathd_sim.specs.Turns.{state_after, value_then}
use Rattle.oathd_sim.specs.declared.script_fault.ScriptFault.{ScriptFault}
use Rattle.oathd_sim.specs.declared.script_fault.ScriptFault.TheVariants.{Line, Memory}
use Rattle.users_input.specs.Input.{TextLine, lines_between, pieces_of}
use Rattle.users_input.specs.Users.{NumberedLine, numbered}
use Rattle.oathd_sim.specs.Sim.{script_lines, with_text_line}

-- what a script says
abbrev Said : Type 0
Said = Result ScriptRecord ℕ

abbrev failed : ℕ → Said
failed number = Err number

-- two continuations of a value are equal if they are equal for each script
then_same : (number : ℕ) (value : Option ScriptRecord) (next other : ScriptRecord → Said) → ((script : ScriptRecord) → next script ≡ other script)
    → value_then number value next ≡ value_then number value other
then_same number None next other h = refl
then_same number (Some script) next other h = h script

-- two continuations of a value, one of whose ends gives the other's
then_end : (n m : ℕ) (value : Option ScriptRecord) (next other : ScriptRecord → Said) (from to : Said)
    → (failed n ≡ from → failed m ≡ to) → ((script : ScriptRecord) → next script ≡ from → other script ≡ to)
    → value_then n value next ≡ from → value_then m value other ≡ to
then_end n m None next other from to none some e = none e
then_end n m (Some script) next other from to none some e = some script e

-- ---- numbered lines

unnumbered : (number : ℕ) (lines : List TextLine) → map (λ (line : NumberedLine). line.1) (numbered number lines) ≡ lines
unnumbered number [] = refl
unnumbered number (line ∷ more) = ap (λ (ls : List TextLine). line ∷ ls) (unnumbered (number + 1) more)

-- the number of the first line
abbrev first_number : List NumberedLine → ℕ
first_number [] = 0
first_number (line ∷ more) = line.0

-- what a script says is given by its lines and their numbers
pub numbered_script : (nodes m n : ℕ) (xs ys : List TextLine) → numbered m xs ≡ numbered n ys → script_lines nodes m xs ≡ script_lines nodes n ys
numbered_script nodes m n [] [] e = refl
numbered_script nodes m n [] (y ∷ ys) e = absurd cc
numbered_script nodes m n (x ∷ xs) [] e = absurd cc
numbered_script nodes m n (x ∷ xs) (y ∷ ys) e =
    ap (λ (k : ℕ). script_lines nodes k (x ∷ xs)) (ap first_number e)
    ∙ ap (script_lines nodes n) (sym (unnumbered m (x ∷ xs)) ∙ ap (map (λ (line : NumberedLine). line.1)) e ∙ unnumbered n (y ∷ ys))

module _ (nodes : ℕ) where
  abbrev said_from : ℕ → ScriptRecord → List (List ℕ) → Said
  said_from number script pieces = state_after (with_line nodes) number script pieces

  abbrev told_from : ℕ → ScriptRecord → List TextLine → Said
  told_from number script lines = state_after (with_text_line nodes) number script lines

  -- ---- another first number

  -- the number of a bad line, by how many lines stand before it
  abbrev IsFrom : ℕ → ℕ → ScriptRecord → List (List ℕ) → ℕ → Type 0
  IsFrom n m script pieces bad = (n ≤ bad) × (said_from m script pieces ≡ Err (m + (bad - n)))

  bad_from : (n m : ℕ) (script : ScriptRecord) (pieces : List (List ℕ)) (bad : ℕ) → said_from n script pieces ≡ Err bad → IsFrom n m script pieces bad
  bad_from n m script [] bad e = absurd cc
  bad_from n m script (line ∷ more) bad e =
      at (with_line nodes script line) (λ new h. bad_from (n + 1) (m + 1) new more bad h) e
    where
      at : (value : Option ScriptRecord) → ((new : ScriptRecord) → said_from (n + 1) new more ≡ Err bad → IsFrom (n + 1) (m + 1) new more bad)
          → value_then n value (λ new. said_from (n + 1) new more) ≡ Err bad
          → (n ≤ bad) × (value_then m value (λ new. said_from (m + 1) new more) ≡ Err (m + (bad - n)))
      at None later h =
          let same : n ≡ bad = cc in
          (omega (arith, same), ap Err (omega (arith, same)))
      at (Some new) later h =
          let from = later new h in
          (omega (arith, from.0), from.1 ∙ ap Err (omega (arith, from.0)))

  good_from : (n m : ℕ) (script : ScriptRecord) (pieces : List (List ℕ)) (end : ScriptRecord) → said_from n script pieces ≡ Ok end
      → said_from m script pieces ≡ Ok end
  good_from n m script [] end e = e
  good_from n m script (line ∷ more) end e =
      then_end n m (with_line nodes script line) _ _ (Ok end) (Ok end) (λ h. absurd cc) (λ new h. good_from (n + 1) (m + 1) new more end h) e

  -- ---- a script that isn't cut

  last_some : (b : ℕ) (rest : List ℕ) → lines_between false ((b ∷ rest) ∷ []) ≡ Some (b ∷ rest) ∷ []
  last_some b rest = grind (arith, nat_tests)

  uncut_lines : (n : ℕ) (script : ScriptRecord) (pieces : List (List ℕ)) → told_from n script (lines_between false pieces) ≡ said_from n script pieces
  uncut_lines n script [] = refl
  uncut_lines n script ([] ∷ []) = refl
  uncut_lines n script ((b ∷ line) ∷ []) = ap (told_from n script) (last_some b line)
  uncut_lines n script (line ∷ next ∷ more) =
      then_same n (with_line nodes script line) _ _ (λ new. uncut_lines (n + 1) new (next ∷ more))

  -- ---- a script that is cut, and has a bad line before or at the cut

  cut_bad : (n m : ℕ) (script : ScriptRecord) (pieces : List (List ℕ)) → 0 < length pieces → said_from n script pieces ≡ Err m
      → told_from n script (lines_between true pieces) ≡ Err m
  cut_bad n m script [] some e = absurd (omega (arith, some))
  cut_bad n m script (line ∷ []) some e = at (with_line nodes script line) e
    where
      at : (value : Option ScriptRecord) → value_then n value (λ new. Ok new) ≡ Err m → failed n ≡ Err m
      at None h = h
      at (Some new) h = absurd cc
  cut_bad n m script (line ∷ next ∷ more) some e =
      then_end n n (with_line nodes script line) _ _ (Err m) (Err m) (λ h. h) (λ new h. cut_bad (n + 1) m new (next ∷ more) (omega arith) h) e

  -- ---- a script that is cut, and is good as far as it goes

  cut_good : (n k : ℕ) (script : ScriptRecord) (pieces : List (List ℕ)) (end : ScriptRecord) → 0 < length pieces → n + length pieces ≡ k + 1
      → said_from n script pieces ≡ Ok end → told_from n script (lines_between true pieces) ≡ Err k
  cut_good n k script [] end some at e = absurd (omega (arith, some))
  cut_good n k script (line ∷ []) end some at e = let same : n ≡ k = omega (arith, at) in ap Err same
  cut_good n k script (line ∷ next ∷ more) end some at e =
      then_end n n (with_line nodes script line) _ _ (Ok end) (Err k) (λ h. absurd cc)
      (λ new h. cut_good (n + 1) k new (next ∷ more) end (omega arith) (omega (arith, at)) h) e

  -- ---- what is read

  some_piece : (text : List ℕ) → 0 < length (pieces_of text)
  some_piece text = omega (arith, length-slice_split (λ byte. byte == 10) text)

  pub uncut_is_read : (first : ℕ) (is_cut : Bool) (text : List ℕ) (script : ScriptRecord) → is_cut ≡ false → script_of nodes text ≡ Ok script
      → script_lines nodes first (lines_between is_cut (pieces_of text)) ≡ Ok script
  uncut_is_read first is_cut text script is e =
      ap (λ (b : Bool). script_lines nodes first (lines_between b (pieces_of text))) is ∙ uncut_lines first empty_script (pieces_of text)
      ∙ good_from 1 first empty_script (pieces_of text) script e

  pub cut_is_refused : (first : ℕ) (is_cut : Bool) (text : List ℕ) (script : ScriptRecord) (number : ℕ) → is_cut ≡ true → script_of nodes text ≡ Ok script
      → number ≡ count_by (λ byte. byte == 10) text + 1 → script_lines nodes first (lines_between is_cut (pieces_of text)) ≡ Err (first + (number - 1))
  cut_is_refused first is_cut text script number is e counted =
      ap (λ (b : Bool). script_lines nodes first (lines_between b (pieces_of text))) is
      ∙ cut_good first (first + (number - 1)) empty_script (pieces_of text) script (some_piece text) (omega (arith, counted, length-slice_split (λ byte. byte == 10) text))
      (good_from 1 first empty_script (pieces_of text) script e)

  pub bad_number : (text : List ℕ) (number : ℕ) → script_of nodes text ≡ Err number → 1 ≤ number
  bad_number text number e = (bad_from 1 1 empty_script (pieces_of text) number e).0

  pub bad_is_refused : (first : ℕ) (is_cut : Bool) (text : List ℕ) (number : ℕ) → script_of nodes text ≡ Err number
      → script_lines nodes first (lines_between is_cut (pieces_of text)) ≡ Err (first + (number - 1))
  bad_is_refused first false text number e =
      uncut_lines first empty_script (pieces_of text) ∙ (bad_from 1 first empty_script (pieces_of text) number e).1
  bad_is_refused first true text number e =
      cut_bad first (first + (number - 1)) empty_script (pieces_of text) (some_piece text) (bad_from 1 first empty_script (pieces_of text) number e).1

-- the fault of a bad line is one of the script
pub refused_at : (said : Said) (number : ℕ) (fault : ScriptFault) → said ≡ Err number → IsRefused (Err number) fault → IsRefused said fault
refused_at said number (Line other) e h = e ∙ h
refused_at said number Memory e h = tt
