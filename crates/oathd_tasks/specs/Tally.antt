-- The rows of a users file that hold a token, and those that are ignored.
use Rattle.std.specs.Prelude.{ℕ, ◌+◌, ◌==◌, Bool, true, false, List, [], ◌∷◌, map, Option, Some, None, is_some, if◌then◌else◌}
use Rattle.std.specs.Char.{to_ascii_uppercase}
use Rattle.std.specs.Option.{option_map}
use Rattle.token_file.specs.Fields.{fields_of, lines_of}
use Rattle.token_file.specs.TypeWord.{type_of}
use Rattle.oathd_tasks.specs.declared.tally.Form.{Form}
use Rattle.oathd_tasks.specs.declared.tally.Form.TheVariants.{Nothing, Holds, Ignored, InAnotherCase}
use Rattle.oathd_tasks.specs.declared.tally.Found as code
use Rattle.oathd_tasks.specs.declared.tally.Tally as code_tally

-- whether a word is the type of a token
abbrev pub is_type : List ℕ → Bool
is_type word = is_some (type_of word)

-- whether a word begins a comment
abbrev pub is_comment : List ℕ → Bool
is_comment [] = false
is_comment (byte ∷ bytes) = byte == 35

-- the form of a row, by its first field
abbrev pub form_of : List ℕ → Form
form_of word =
    if is_type word then Holds
    else if is_comment word then Nothing
    else if is_type (map to_ascii_uppercase word) then InAnotherCase
    else Ignored

-- the first field of a row, with the number of its line
pub record Found : Type 0 where
  pub line : ℕ
  pub word : List ℕ

-- Whether some row holds a token, the number of ignored rows, the first of them, and the first of them whose type is in
-- another case.
pub record Tally : Type 0 where
  pub has_token : Bool
  pub ignored : ℕ
  pub first : Option Found
  pub in_another_case : Option Found

-- the tally of no rows
abbrev pub no_rows : Tally
no_rows = record { has_token = false; ignored = 0; first = None; in_another_case = None }

-- what was found first
abbrev pub first_of : Option Found → Found → Option Found
first_of None found = Some found
first_of (Some earlier) found = Some earlier

-- a tally after one more row, by its form
abbrev pub after_form : Form → Found → Tally → Tally
after_form Nothing found tally = tally
after_form Holds found tally = record tally { has_token = true }
after_form Ignored found tally =
    record tally { ignored = tally.ignored + 1; first = first_of tally.first found }
after_form InAnotherCase found tally =
    record tally {
      ignored = tally.ignored + 1;
      first = first_of tally.first found;
      in_another_case = first_of tally.in_another_case found;
    }

-- a tally after the fields of one more line
abbrev pub after_fields : ℕ → List (List ℕ) → Tally → Tally
after_fields line [] tally = tally
after_fields line (word ∷ fields) tally = after_form (form_of word) (record { line = line; word = word }) tally

-- a tally after lines from a number on
abbrev pub tally_from : ℕ → Tally → List (List ℕ) → Tally
tally_from number tally [] = tally
tally_from number tally (line ∷ lines) = tally_from (number + 1) (after_fields number (fields_of line) tally) lines

-- the tally of a users file
abbrev pub tally_of : List ℕ → Tally
tally_of text = tally_from 1 no_rows (lines_of text)

-- the values of the code's records
abbrev pub found_value : code.Found → Found
found_value found = record { line = found.line; word = found.word.now }

abbrev pub tally_value : code_tally.Tally → Tally
tally_value tally =
    record {
      has_token = tally.has_token;
      ignored = tally.ignored;
      first = option_map found_value tally.first;
      in_another_case = option_map found_value tally.in_another_case;
    }
