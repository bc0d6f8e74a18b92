-- The two parts of an input.
use Rattle.std.proofs.Common.{◌≡◌, ℕ, Bool, List, take, Option, Some, None, IfSome, refl, sym, ap, subst, ◌∙◌}
use Rattle.std.specs.Prelude.{Ok}
use Rattle.std.specs.Option.{option_map}
use Rattle.std.proofs.lemmas.Option.{IfSome_then}
use Rattle.otp_core.specs.Limits.{Limits}
use Rattle.token_file.specs.Credential.{Credential}
use Rattle.token_file.specs.Source.{OfText, Stays}
use Rattle.token_file.specs.UsersFile.{Import, book_of, import_of, instant_of}
use Rattle.users_input.specs.Input.{IsReadTo, lines_between, lines_of, pieces_of}
use Rattle.users_input.specs.Users.{HasRest, NumberedLine, numbered, rest_behind, users_text}
use Rattle.users_input.specs.declared.fault.InputFault.{InputFault}
use Rattle.users_input.specs.declared.fault.InputFault.TheVariants as input
use Rattle.oathd_sim.specs.Fault.{input_fault_of}
use Rattle.oathd_sim.specs.Parts.{HasParts, IsUnread}
use Rattle.oathd_sim.specs.Sim.{import_read}

-- the users file is taken
pub imported : (limits : Limits) (moment longest room : ℕ) (a left : Option (List ℕ)) (import : Import) → left ≡ option_map (users_text room) a
    → OfText left (λ text. book_of longest (instant_of limits moment) text ≡ Ok import) → IfSome a (λ text. import_read limits moment longest room text ≡ Ok import)
imported limits moment longest room a left import is book =
    at a (subst (λ (o : Option (List ℕ)). OfText o (λ text. book_of longest (instant_of limits moment) text ≡ Ok import)) is book)
  where
    at : (o : Option (List ℕ)) → OfText (option_map (users_text room) o) (λ text. book_of longest (instant_of limits moment) text ≡ Ok import)
        → IfSome o (λ text. import_read limits moment longest room text ≡ Ok import)
    at None h = tt
    at (Some text) h = h

-- the input failed after the users file
unread_text : (limits : Limits) (moment longest room : ℕ) (text : List ℕ) (import : Import) (f : InputFault) → import_read limits moment longest room text ≡ Ok import
    → IsUnread limits moment longest room text (input_fault_of f)
unread_text limits moment longest room text import input.Memory e = tt
unread_text limits moment longest room text import input.CannotRead e = (import, e)

pub unread_behind : (limits : Limits) (moment longest room : ℕ) (a : Option (List ℕ)) (import : Import) (f : InputFault)
    → IfSome a (λ text. import_read limits moment longest room text ≡ Ok import) → IfSome a (λ text. IsUnread limits moment longest room text (input_fault_of f))
unread_behind limits moment longest room a import f h =
    IfSome_then a h (λ text e. unread_text limits moment longest room text import f e)

read_lines : (room : ℕ) (text read : List ℕ) (is_cut : Bool) → IsReadTo room text read is_cut → lines_of room text ≡ lines_between is_cut (pieces_of read)
read_lines room text read is_cut h =
    ap (λ (b : Bool). lines_between b (pieces_of (take room text))) (sym h.cut_is) ∙ ap (λ (t : List ℕ). lines_between is_cut (pieces_of t)) (sym h.read_is)

-- both parts are read
pub has_parts : (limits : Limits) (moment longest room : ℕ) (a : Option (List ℕ)) (book : List Credential) (floors : List ℕ)
    (behind after : Option (List NumberedLine)) (first room' : ℕ) (b : Option (List ℕ)) (script : List ℕ) (is_cut : Bool)
    → IfSome a (λ text. import_read limits moment longest room text ≡ Ok (import_of book floors))
    → behind ≡ option_map (λ t. rest_behind 0 (lines_of room t)) a → Stays behind after → IfSome after (λ rest. HasRest rest first room' b)
    → IfSome b (λ text. IsReadTo room' text script is_cut)
    → IfSome a (λ text. HasParts limits moment longest room text book floors first script is_cut)
has_parts limits moment longest room a book floors behind after first room' b script is_cut taken is stays has read =
    both a taken (subst (λ (o : Option (List NumberedLine)). Stays o after) is stays)
  where
    last : (text : List ℕ) → import_read limits moment longest room text ≡ Ok (import_of book floors) → (rest : List NumberedLine)
        → rest ≡ rest_behind 0 (lines_of room text) → HasRest rest first room' b → HasParts limits moment longest room text book floors first script is_cut
    last text import rest same k =
        let here = subst (λ (o : Option (List ℕ)). IfSome o (λ t. IsReadTo room' t script is_cut)) k.left_is read in
        record {
          import = import;
          rest = ap (numbered first) (sym (read_lines room' k.text script is_cut here)) ∙ k.read ∙ same;
        }

    both : (o : Option (List ℕ)) → IfSome o (λ text. import_read limits moment longest room text ≡ Ok (import_of book floors))
        → Stays (option_map (λ t. rest_behind 0 (lines_of room t)) o) after → IfSome o (λ text. HasParts limits moment longest room text book floors first script is_cut)
    both None import s = tt
    both (Some text) import s =
        last text import (rest_behind 0 (lines_of room text)) refl (subst (λ (o : Option (List NumberedLine)). IfSome o (λ rest. HasRest rest first room' b)) s has)
