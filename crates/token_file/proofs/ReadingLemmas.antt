-- A text in pieces: what was read before, and what the rest gives.
use Rattle.std.proofs.Common.{◌≡◌, ℕ, suc, ◌+◌, ◌<◌, ◌≤◌, Bool, true, false, ◌||◌, cond, List, [], ◌∷◌, ◌++◌, length, take, Option, Some, None, Result, Ok, Err, refl, sym, ap, subst, ◌∙◌, append_assoc, arith, length-append}
use Rattle.std.specs.Prelude.{nat_lt, nat_le, is_some, IfOk, IfErr, IsErrAnd, IsTrue}
use Rattle.std.specs.Io.KnownBytes.{Consumes, IsAtEnd}
use Rattle.std.proofs.lemmas.List.{append-nil}
use Rattle.std.proofs.lemmas.Bool.Decides.{nat_tests}
use Rattle.token_file.specs.declared.fault.LineFault.{LineFault}
use Rattle.token_file.specs.declared.fault.LineFault.TheVariants.{DuplicateUser, TooMany, LineTooLong, Memory, FileTooLong}
use Rattle.token_file.specs.declared.fault.FileFault.{FileFault}
use Rattle.token_file.specs.Credential.{Credential, place_of}
use Rattle.token_file.specs.Fields.{fields_of, is_line_end, lines_of}
use Rattle.token_file.specs.Row.{Row, Ignored, Faulty, Holds, row_of}
use Rattle.token_file.specs.UsersFile.{Import, Instant, IsCutOff, after_line, after_lines, after_row, at_line, book_of, empty_import, is_of_text, is_read, is_read_result, outcome_of, outcome_then}
use Rattle.token_file.specs.Reading.{CutsOff, Fails, Leads, Progress, initial_progress, onto_line, outcome_from, outcome_of_rest, outcome_of_rest_from}
use Rattle.token_file.specs.Source.{OfText}
use Rattle.token_file.proofs.LinesLemmas.{HasLine, has_line, outcome_of_rest-byte, outcome_of_rest-end, too_long}

-- there is one floor for each token, also after a line
abbrev pub IsPaired : Import → Type 0
IsPaired i = length i.floors ≡ length i.book

after_same : (a b : Import) → ◌≡◌ {A = Result Import LineFault} (Ok a) (Ok b) → IsPaired a → IsPaired b
after_same a b e h = let same : a ≡ b = cc in subst IsPaired same h

paired_token : (t u : Bool) (a b : Import) (c : Credential) (floor : ℕ)
    → cond t (Err DuplicateUser) (cond u (Err TooMany) (Ok (record { book = a.book ++ c ∷ []; floors = a.floors ++ floor ∷ [] }))) ≡ Ok b → IsPaired a → IsPaired b
paired_token true u a b c floor e h = absurd cc
paired_token false true a b c floor e h = absurd cc
paired_token false false a b c floor e h =
    after_same (record { book = a.book ++ c ∷ []; floors = a.floors ++ floor ∷ [] }) b e (omega (arith, length-append a.book (c ∷ []), length-append a.floors (floor ∷ []), h))

paired_row : (at : Instant) (a b : Import) (r : Row) → after_row at a r ≡ Ok b → IsPaired a → IsPaired b
paired_row at a b Ignored e h = after_same a b e h
paired_row at a b (Faulty fault) e h = absurd cc
paired_row at a b (Holds c counter last) e h = paired_token (is_some (place_of c.name a.book)) (nat_le 10000 (length a.book)) a b c _ e h

paired_at : (t : Bool) (at : Instant) (a b : Import) (r : Row) → cond t (Err LineTooLong) (after_row at a r) ≡ Ok b → IsPaired a → IsPaired b
paired_at true at a b r e h = absurd cc
paired_at false at a b r e h = paired_row at a b r e h

pub paired_line : (at : Instant) (a b : Import) (line : List ℕ) → after_line at a line ≡ Ok b → IsPaired a → IsPaired b
paired_line at a b line e h = paired_at (nat_lt 4096 (length line)) at a b (row_of (fields_of line)) e h

both : {A : Type 0} (t u : Bool) (x y v w : A) → t ≡ u → x ≡ v → y ≡ w → cond t x y ≡ cond u v w
both t u x y v w e f g = cc

same_both : {A : Type 0} (t : Bool) (x y z : A) → x ≡ z → y ≡ z → cond t x y ≡ z
same_both true x y z f g = f
same_both false x y z f g = g

-- a byte that is read leads from one state to another, if each text continues so
pub step : (at : Instant) (p q : Progress) (b : ℕ) → q.room + 1 ≡ p.room
    → ((cut : Option LineFault) (rest : List ℕ) → outcome_of_rest_from cut at p (b ∷ rest) ≡ outcome_of_rest_from cut at q rest) → (IsPaired p.import → IsPaired q.import) → Leads at p (b ∷ []) q
step at p q b room runs paired = record {
  outcomes = λ cut rest.
      let less : nat_le (length (b ∷ rest)) p.room ≡ nat_le (length rest) q.room = grind (arith, nat_tests) in
      let more : p.room ≡ suc q.room = omega (arith, room) in
      both (nat_le (length (b ∷ rest)) p.room) (nat_le (length rest) q.room) (outcome_of_rest_from cut at p (b ∷ rest)) (outcome_of_rest_from (Some FileTooLong) at p (take p.room (b ∷ rest)))
      (outcome_of_rest_from cut at q rest) (outcome_of_rest_from (Some FileTooLong) at q (take q.room rest)) less (runs cut rest)
      (ap (λ n. outcome_of_rest_from (Some FileTooLong) at p (take n (b ∷ rest))) more ∙ runs (Some FileTooLong) (take q.room rest));
  room = omega (arith, room);
  paired = paired;
}

-- one more byte of the line
pub step_byte : (at : Instant) (p q : Progress) (b : ℕ) → is_line_end b ≡ false → q.room + 1 ≡ p.room
    → q.number ≡ p.number → q.import ≡ p.import → q.begun ≡ p.begun ++ b ∷ [] → Leads at p (b ∷ []) q
step_byte at p q b is room number import begun = step at p q b room
    (λ cut rest. outcome_of_rest-byte cut at p.number p.import p.begun b rest is
    ∙ ap (λ n. outcome_of_rest cut at n p.import (p.begun ++ b ∷ []) rest) (sym number)
    ∙ ap (λ i. outcome_of_rest cut at q.number i (p.begun ++ b ∷ []) rest) (sym import)
    ∙ ap (λ line. outcome_of_rest cut at q.number q.import line rest) (sym begun))
    (λ h. subst IsPaired (sym import) h)

-- the end of the line
pub step_end : (at : Instant) (p q : Progress) (b : ℕ) → is_line_end b ≡ true → q.room + 1 ≡ p.room
    → after_line at p.import p.begun ≡ Ok q.import → q.number ≡ p.number + 1 → q.begun ≡ [] → Leads at p (b ∷ []) q
step_end at p q b is room line number begun = step at p q b room
    (λ cut rest. outcome_of_rest-end cut at p.number p.import p.begun b rest is
    ∙ ap (λ r. outcome_then (at_line p.number r) (λ import. outcome_of_rest cut at (p.number + 1) import [] rest)) line
    ∙ ap (λ n. outcome_of_rest cut at n q.import [] rest) (sym number)
    ∙ ap (λ begun. outcome_of_rest cut at q.number q.import begun rest) (sym begun))
    (λ h. paired_line at p.import q.import p.begun line h)

short : (line : List ℕ) → length line ≤ 4096 → nat_lt 4096 (length (line ++ [])) ≡ false
short line h = let same : length (line ++ []) ≡ length line = ap (λ (xs : List ℕ). length xs) (append-nil line) in grind (arith, nat_tests)

long : (line : List ℕ) → 4096 < length line → nat_lt 4096 (length line) ≡ true
long line h = grind (arith, nat_tests)

-- a fault cuts the text off here
pub outcome_of_rest-here : (fault : LineFault) (at : Instant) (number : ℕ) (so_far : Import) (begun : List ℕ) → length begun ≤ 4096
    → outcome_of_rest (Some fault) at number so_far begun [] ≡ Err (number, fault)
outcome_of_rest-here fault at number so_far begun h = rw (short begun h) refl

pub here : (fault : LineFault) (at : Instant) (p : Progress) → length p.begun ≤ 4096 → outcome_from (Some fault) at p [] ≡ Err (p.number, fault)
here fault at p h = let fits : nat_le (length {A = ℕ} []) p.room ≡ true = grind (arith, nat_tests) in
    ap (λ t. cond t (outcome_of_rest_from (Some fault) at p []) (outcome_of_rest_from (Some FileTooLong) at p (take p.room []))) fits ∙ outcome_of_rest-here fault at p.number p.import p.begun h

-- a fault at the next byte
at_byte : (at : Instant) (p : Progress) (b number : ℕ) (fault : LineFault) (r : ℕ) → p.room ≡ r + 1
    → ((cut : Option LineFault) (rest : List ℕ) → outcome_of_rest_from cut at p (b ∷ rest) ≡ Err (number, fault)) → (cut : Option LineFault) (rest : List ℕ) → outcome_from cut at p (b ∷ rest) ≡ Err (number, fault)
at_byte at p b number fault r room runs cut rest =
    let more : p.room ≡ suc r = omega (arith, room) in
    same_both (nat_le (length (b ∷ rest)) p.room) (outcome_of_rest_from cut at p (b ∷ rest)) (outcome_of_rest_from (Some FileTooLong) at p (take p.room (b ∷ rest))) (Err (number, fault)) (runs cut rest)
    (ap (λ n. outcome_of_rest_from (Some FileTooLong) at p (take n (b ∷ rest))) more ∙ runs (Some FileTooLong) (take r rest))

-- a fault at the end of the line
pub fails_end : (at : Instant) (p : Progress) (b : ℕ) (fault : FileFault) (r : ℕ) → is_line_end b ≡ true → p.room ≡ r + 1 → length p.begun ≤ 4096 → fault.line ≡ p.number
    → (IsTrue (is_of_text fault.kind) → after_line at p.import p.begun ≡ Err fault.kind) → is_read fault.kind ≡ false → Fails at p (b ∷ []) fault
fails_end at p b fault r is room len line found unread = record {
  text = λ t. at_byte at p b fault.line fault.kind r room (λ cut rest. outcome_of_rest-end cut at p.number p.import p.begun b rest is
      ∙ ap (λ o. outcome_then (at_line p.number o) (λ import. outcome_of_rest cut at (p.number + 1) import [] rest)) (found t)
      ∙ ap (λ n. Err (n, fault.kind)) (sym line));
  memory = λ e. record { front = []; back = b ∷ []; parts = refl; outcome = here Memory at p len ∙ ap (λ n. Err (n, Memory)) (sym line) };
  unread = unread;
}

long_run : (cut : Option LineFault) (at : Instant) (number : ℕ) (so_far : Import) (begun rest : List ℕ) → 4096 < length begun → outcome_of_rest cut at number so_far begun rest ≡ Err (number, LineTooLong)
long_run cut at number so_far begun rest h = let lines = has_line rest in
    ap (λ ls. after_lines cut at number so_far (onto_line begun ls)) lines.parts
    ∙ too_long cut at number so_far (begun ++ lines.first) lines.others (long (begun ++ lines.first) (omega (arith, length-append begun lines.first, h)))

-- the 4,097th byte of the line
pub fails_long : (at : Instant) (p : Progress) (b : ℕ) (fault : FileFault) (r : ℕ) → is_line_end b ≡ false → p.room ≡ r + 1 → length p.begun ≡ 4096 → fault ≡ record { line = p.number; kind = LineTooLong }
    → Fails at p (b ∷ []) fault
fails_long at p b fault r is room full e = subst (λ (f : FileFault). Fails at p (b ∷ []) f) (sym e) record {
  text = λ t. at_byte at p b p.number LineTooLong r room (λ cut rest. outcome_of_rest-byte cut at p.number p.import p.begun b rest is
      ∙ long_run cut at p.number p.import (p.begun ++ b ∷ []) rest (omega (arith, length-append p.begun (b ∷ []), full)));
  memory = λ e. absurd cc;
  unread = refl;
}

-- one piece, followed by another
pub leads_none : (at : Instant) (p : Progress) → Leads at p [] p
leads_none at p = record { outcomes = λ cut rest. refl; room = omega arith; paired = λ h. h }

pub leads_then : (at : Instant) (p q s : Progress) (xs ys : List ℕ) → Leads at p xs q → Leads at q ys s → Leads at p (xs ++ ys) s
leads_then at p q s xs ys a b = record {
  outcomes = λ cut rest. ap (outcome_from cut at p) (append_assoc xs ys rest) ∙ a.outcomes cut (ys ++ rest) ∙ b.outcomes cut rest;
  room = omega (arith, length-append xs ys, a.room, b.room);
  paired = λ h. b.paired (a.paired h);
}

cuts_then : (at : Instant) (p q : Progress) (xs ys : List ℕ) (number : ℕ) → Leads at p xs q → CutsOff Memory at q ys number → CutsOff Memory at p (xs ++ ys) number
cuts_then at p q xs ys number a m = record {
  front = xs ++ m.front;
  back = m.back;
  parts = ap (λ (zs : List ℕ). xs ++ zs) m.parts ∙ sym (append_assoc xs m.front m.back);
  outcome = a.outcomes (Some Memory) m.front ∙ m.outcome;
}

pub fails_then : (at : Instant) (p q : Progress) (xs ys : List ℕ) (fault : FileFault) → Leads at p xs q → Fails at q ys fault → Fails at p (xs ++ ys) fault
fails_then at p q xs ys fault a f = record {
  text = λ t cut rest. ap (outcome_from cut at p) (append_assoc xs ys rest) ∙ a.outcomes cut (ys ++ rest) ∙ f.text t cut rest;
  memory = λ e. cuts_then at p q xs ys fault.line a (f.memory e);
  unread = f.unread;
}

pub fails_more : (at : Instant) (p : Progress) (xs ys : List ℕ) (fault : FileFault) → Fails at p xs fault → Fails at p (xs ++ ys) fault
fails_more at p xs ys fault f = record {
  text = λ t cut rest. ap (outcome_from cut at p) (append_assoc xs ys rest) ∙ f.text t cut (ys ++ rest);
  memory = λ e. let m = f.memory e in record { front = m.front; back = m.back ++ ys; parts = ap (λ (zs : List ℕ). zs ++ ys) m.parts ∙ append_assoc m.front m.back ys; outcome = m.outcome };
  unread = f.unread;
}

onto_nothing : (lines : List (List ℕ)) → HasLine lines → lines ≡ onto_line [] lines
onto_nothing lines h = h.parts ∙ sym (ap (onto_line []) h.parts)

from_start : (cut : Option LineFault) (at : Instant) (text : List ℕ) → after_lines cut at 1 empty_import (lines_of text) ≡ outcome_of_rest cut at 1 empty_import [] text
from_start cut at text = ap (after_lines cut at 1 empty_import) (onto_nothing (lines_of text) (has_line text))

-- a whole text
pub whole : (cut : Option LineFault) (limit : ℕ) (at : Instant) (text : List ℕ) → outcome_of cut limit at text ≡ outcome_from cut at (initial_progress limit) text
whole cut limit at text = both (nat_le (length text) limit) (nat_le (length text) limit)
    (after_lines cut at 1 empty_import (lines_of text)) (after_lines (Some FileTooLong) at 1 empty_import (lines_of (take limit text)))
    (outcome_of_rest cut at 1 empty_import [] text) (outcome_of_rest (Some FileTooLong) at 1 empty_import [] (take limit text))
    refl (from_start cut at text) (from_start (Some FileTooLong) at (take limit text))

-- the text ends here
pub ends : (at : Instant) (p : Progress) → outcome_from None at p [] ≡ at_line p.number (after_line at p.import p.begun)
ends at p = let fits : nat_le (length {A = ℕ} []) p.room ≡ true = grind (arith, nat_tests) in
    ap (λ t. cond t (outcome_of_rest_from None at p []) (outcome_of_rest_from (Some FileTooLong) at p (take p.room []))) fits
    ∙ ap (λ line. at_line p.number (after_line at p.import line)) (append-nil p.begun)

-- the fault that a `?` hands on
pub handed_on : {A : Type 0} (r : Result A FileFault) (fault : FileFault) (P : FileFault → Type 0) → IsErrAnd r (λ f. f ≡ fault) → P fault → IfErr r P
handed_on (Ok x) fault P h p = tt
handed_on (Err f) fault P h p = subst P (sym h) p

-- a result that no failed pull gave
pub not_read : {A : Type 0} (r : Result A FileFault) → IfErr r (λ f. is_read f.kind ≡ false) → is_read_result r ≡ false
not_read (Ok x) h = refl
not_read (Err f) h = h

pub or-false : (b : Bool) → (b || false) ≡ b
or-false true = refl
or-false false = refl

pub same_failed : (a b c r : Bool) → c ≡ (b || false) → b ≡ a → r ≡ false → c ≡ (a || r)
same_failed a b c r h e f = h ∙ ap (λ x. x || false) e ∙ ap (λ x. a || x) (sym f)

pub ok_map : {A E : Type 0} (r : Result A E) (P Q : A → Type 0) → IfOk r P → ((x : A) → P x → Q x) → IfOk r Q
ok_map (Ok x) P Q h f = f x h
ok_map (Err e) P Q h f = tt

pub err_map : {A E : Type 0} (r : Result A E) (P Q : E → Type 0) → IfErr r P → ((x : E) → P x → Q x) → IfErr r Q
err_map (Ok x) P Q h f = tt
err_map (Err e) P Q h f = f e h

pub err_both : {A E : Type 0} (r : Result A E) (P Q : E → Type 0) → IfErr r P → IfErr r Q → IfErr r (λ e. P e × Q e)
err_both (Ok x) P Q h k = tt
err_both (Err e) P Q h k = (h, k)

pub text_map : (left : Option (List ℕ)) (P Q : List ℕ → Type 0) → OfText left P → ((text : List ℕ) → P text → Q text) → OfText left Q
text_map None P Q h f = (h.0, f h.0 h.1)
text_map (Some text) P Q h f = f text h

-- the bytes that are left, or none if they are unknown
abbrev Told : Option (List ℕ) → List ℕ → Type 0
Told None rest = rest ≡ []
Told (Some ys) rest = rest ≡ ys

of_taken : (before now : Option (List ℕ)) (taken : List ℕ) (P : List ℕ → Type 0) → Consumes before now taken → ((rest : List ℕ) → Told now rest → P (taken ++ rest)) → OfText before P
of_taken None None taken P h f = (taken ++ [], f [] refl)
of_taken None (Some ys) taken P h f = (taken ++ ys, f ys refl)
of_taken (Some xs) None taken P h f = absurd h
of_taken (Some xs) (Some ys) taken P h f = subst P (sym h) (f ys refl)

consumes_then : (a b c : Option (List ℕ)) (xs ys : List ℕ) → Consumes a b xs → Consumes b c ys → Consumes a c (xs ++ ys)
consumes_then None b c xs ys h k = tt
consumes_then (Some as') None c xs ys h k = absurd h
consumes_then (Some as') (Some bs) None xs ys h k = absurd k
consumes_then (Some as') (Some bs) (Some cs) xs ys h k = h ∙ ap (λ (zs : List ℕ). xs ++ zs) k ∙ sym (append_assoc xs ys cs)

nothing_left : (now new : Option (List ℕ)) (rest : List ℕ) → Told now rest → Consumes now new [] → IsAtEnd new → rest ≡ []
nothing_left None new rest t h e = t
nothing_left (Some ys) None rest t h e = absurd h
nothing_left (Some ys) (Some zs) rest t h e = t ∙ h ∙ e

-- the bytes taken of a source by `pulls` pulls, and the state after them
pub record SoFar (at : Instant) (limit pulls : ℕ) (before now : Option (List ℕ)) (p : Progress) : Type 0 where
  pub taken : List ℕ
  pub consumed : Consumes before now taken
  pub leads : Leads at (initial_progress limit) taken p
  pub enough : pulls ≤ length taken

consumes_none : (a : Option (List ℕ)) → Consumes a a []
consumes_none None = tt
consumes_none (Some xs) = refl

pub so_far_none : (at : Instant) (limit : ℕ) (before : Option (List ℕ)) (p : Progress) → p ≡ initial_progress limit → SoFar at limit 0 before before p
so_far_none at limit before p e = record {
  taken = [];
  consumed = consumes_none before;
  leads = subst (λ (q : Progress). Leads at (initial_progress limit) [] q) (sym e) (leads_none at (initial_progress limit));
  enough = omega arith;
}

pub so_far_more : (at : Instant) (limit pulls : ℕ) (before now new : Option (List ℕ)) (p q : Progress) (bytes : List ℕ)
    → SoFar at limit pulls before now p → Consumes now new bytes → Leads at p bytes q → 1 ≤ length bytes → SoFar at limit (pulls + 1) before new q
so_far_more at limit pulls before now new p q bytes s h l some = record {
  taken = s.taken ++ bytes;
  consumed = consumes_then before now new s.taken bytes s.consumed h;
  leads = leads_then at (initial_progress limit) p q s.taken bytes s.leads l;
  enough = omega (arith, s.enough, some, length-append s.taken bytes);
}

-- no more than the limit is taken
pub so_far_within : (at : Instant) (limit pulls : ℕ) (before now : Option (List ℕ)) (p : Progress) → SoFar at limit pulls before now p → pulls ≤ limit
so_far_within at limit pulls before now p s = omega (arith, s.enough, s.leads.room)

pub so_far_paired : (at : Instant) (limit pulls : ℕ) (before now : Option (List ℕ)) (p : Progress) (import : Import) → SoFar at limit pulls before now p → after_line at p.import p.begun ≡ Ok import
    → length import.floors ≡ length import.book
so_far_paired at limit pulls before now p import s e = paired_line at p.import import p.begun e (s.leads.paired refl)

-- the source is at its end
pub at_end : (at : Instant) (limit pulls : ℕ) (before now new : Option (List ℕ)) (p : Progress) → SoFar at limit pulls before now p → Consumes now new [] → IsAtEnd new
    → OfText before (λ text. book_of limit at text ≡ at_line p.number (after_line at p.import p.begun))
at_end at limit pulls before now new p s h e =
    of_taken before now s.taken (λ text. book_of limit at text ≡ at_line p.number (after_line at p.import p.begun)) s.consumed (λ rest told.
    ap (λ (r : List ℕ). book_of limit at (s.taken ++ r)) (nothing_left now new rest told h e)
    ∙ whole None limit at (s.taken ++ []) ∙ s.leads.outcomes None [] ∙ ends at p)

-- a fault cuts off what follows
pub cut_here : (cut : LineFault) (at : Instant) (limit pulls number : ℕ) (before now : Option (List ℕ)) (p : Progress) → SoFar at limit pulls before now p → length p.begun ≤ 4096 → number ≡ p.number
    → OfText before (λ text. IsCutOff cut limit at text number)
cut_here cut at limit pulls number before now p s len same =
    of_taken before now s.taken (λ text. IsCutOff cut limit at text number) s.consumed (λ rest told. record {
      taken = s.taken;
      left = rest;
      parts = refl;
      outcome = whole (Some cut) limit at s.taken ∙ ap (outcome_from (Some cut) at (initial_progress limit)) (sym (append-nil s.taken))
          ∙ s.leads.outcomes (Some cut) [] ∙ here cut at p len ∙ ap (λ n. Err (n, cut)) (sym same);
    })

-- a fault within the bytes of a pull
pub fault_within : (at : Instant) (limit pulls : ℕ) (before now new : Option (List ℕ)) (p : Progress) (bytes : List ℕ) (fault : FileFault)
    → SoFar at limit pulls before now p → Consumes now new bytes → Fails at p bytes fault → IsTrue (is_of_text fault.kind) → OfText before (λ text. book_of limit at text ≡ Err (fault.line, fault.kind))
fault_within at limit pulls before now new p bytes fault s h f t =
    let g = fails_then at (initial_progress limit) p s.taken bytes fault s.leads f in
    of_taken before new (s.taken ++ bytes) (λ text. book_of limit at text ≡ Err (fault.line, fault.kind)) (consumes_then before now new s.taken bytes s.consumed h)
    (λ rest told. whole None limit at ((s.taken ++ bytes) ++ rest) ∙ g.text t None rest)

pub memory_within : (at : Instant) (limit pulls : ℕ) (before now new : Option (List ℕ)) (p : Progress) (bytes : List ℕ) (fault : FileFault)
    → SoFar at limit pulls before now p → Consumes now new bytes → Fails at p bytes fault → fault.kind ≡ Memory → OfText before (λ text. IsCutOff Memory limit at text fault.line)
memory_within at limit pulls before now new p bytes fault s h f e =
    let m = cuts_then at (initial_progress limit) p s.taken bytes fault.line s.leads (f.memory e) in
    of_taken before new (s.taken ++ bytes) (λ text. IsCutOff Memory limit at text fault.line) (consumes_then before now new s.taken bytes s.consumed h) (λ rest told. record {
      taken = m.front;
      left = m.back ++ rest;
      parts = ap (λ (zs : List ℕ). zs ++ rest) m.parts ∙ append_assoc m.front m.back rest;
      outcome = whole (Some Memory) limit at m.front ∙ m.outcome;
    })
