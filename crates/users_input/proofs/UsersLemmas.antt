-- The users file of an input, and the lines after it, as the input is read line by line.
use Rattle.std.proofs.Common.{inl, inr, ◌≡◌, ℕ, suc, ◌+◌, ◌<◌, ◌≤◌, Bool, true, false, cond, List, [], ◌∷◌, ◌++◌, length, take, drop, min, Option, Some, None, IfSome, refl, drop_of_length-le, take-append-drop, sym, ap, subst, ◌∙◌, arith}
use Rattle.std.specs.Prelude.{not, ◌||◌, ◌⊎◌}
use Rattle.std.specs.Option.{option_map}
use Rattle.std.specs.List.{flat_map}
use Rattle.std.specs.Io.KnownBytes.{Consumes, IsAtEnd, Keeps}
use Rattle.std.proofs.lemmas.List.Sums.{take_while-cons}
use Rattle.std.proofs.lemmas.List.{append_assoc}
use Rattle.std.proofs.lemmas.List.Concat.{flat_map-cons}
use Rattle.std.proofs.lemmas.Option.{IfSome_then}
use Rattle.token_file.specs.Source.{Stays}
use Rattle.users_input.specs.Input.{IsNext, TakesLine, TextLine, rest_part, has_marker, is_mark, is_marker, line_bytes, line_text, lines_of, users_file, users_part}
use Rattle.users_input.specs.Users.{HasRest, IsFilled, NumberedLine, numbered, rest_behind, rest_left, is_failed, users_left, users_text}
use Rattle.users_input.specs.declared.fault.InputFault.{InputFault}
use Rattle.users_input.specs.declared.input.NextLine.TheVariants.{Whole, Cut, End}
use Rattle.users_input.specs.declared.users.Stage.{Stage}
use Rattle.users_input.specs.declared.users.Stage.TheVariants.{Users, Rest, Failed}
use Rattle.users_input.proofs.LineLemmas.{lines_none, lines_past}

-- no line follows
abbrev no_rest : List NumberedLine
no_rest = []

-- ---- the parts of lines

users_unmarked : (line : List ℕ) (lines : List TextLine) → is_mark line ≡ false → users_part (Some line ∷ lines) ≡ Some line ∷ users_part lines
users_unmarked line lines is =
    take_while-cons (λ l. not (is_marker l)) (Some line) lines ∙ ap (λ (b : Bool). cond (not b) (Some line ∷ users_part lines) []) is

users_marked : (line : List ℕ) (lines : List TextLine) → is_mark line ≡ true → users_part (Some line ∷ lines) ≡ []
users_marked line lines is =
    take_while-cons (λ l. not (is_marker l)) (Some line) lines ∙ ap (λ (b : Bool). cond (not b) (Some line ∷ users_part lines) []) is

rest_unmarked : (taken : ℕ) (line : List ℕ) (lines : List TextLine) → is_mark line ≡ false
    → rest_behind (taken + 1) lines ≡ rest_behind taken (Some line ∷ lines)
rest_unmarked taken line lines is =
    let n = length (users_part lines) in
    let number : taken + 1 + n + 2 ≡ taken + suc n + 2 = omega arith in
    let place : suc (n + 1) ≡ suc n + 1 = omega arith in
    sym (ap (λ (us : List TextLine). numbered (taken + length us + 2) (drop (length us + 1) (Some line ∷ lines))) (users_unmarked line lines is)
    ∙ ap (λ (k : ℕ). numbered k (drop (suc n + 1) (Some line ∷ lines))) (sym number)
    ∙ ap (λ (k : ℕ). numbered (taken + 1 + n + 2) (drop k (Some line ∷ lines))) (sym place))

rest_marked : (taken : ℕ) (line : List ℕ) (lines : List TextLine) → is_mark line ≡ true
    → numbered (taken + 1 + 1) lines ≡ rest_behind taken (Some line ∷ lines)
rest_marked taken line lines is =
    let number : taken + 1 + 1 ≡ taken + 0 + 2 = omega arith in
    ap (λ (k : ℕ). numbered k lines) number
    ∙ sym (ap (λ (us : List TextLine). numbered (taken + length us + 2) (drop (length us + 1) (Some line ∷ lines))) (users_marked line lines is))

rest_past : (taken : ℕ) (text : List ℕ) → rest_behind taken (lines_of 0 text) ≡ no_rest
rest_past taken [] = refl
rest_past taken (b ∷ text) = ap (rest_behind taken) (lines_past b text)

pub rest_of_start : (lines : List TextLine) → rest_behind 0 lines ≡ numbered (length (users_part lines) + 2) (rest_part lines)
rest_of_start lines =
    let same : 0 + length (users_part lines) + 2 ≡ length (users_part lines) + 2 = omega arith in
    ap (λ (k : ℕ). numbered k (rest_part lines)) same

-- ---- the users file

file_marked : (line : List ℕ) (lines : List TextLine) (text : List ℕ) → is_mark line ≡ true → users_file (Some line ∷ lines) text ≡ []
file_marked line lines text is =
    ap (λ (b : Bool). cond (b || has_marker lines) (flat_map line_bytes (users_part (Some line ∷ lines))) text) is
    ∙ ap (flat_map line_bytes) (users_marked line lines is)

file_unmarked : (line said rest : List ℕ) (lines : List TextLine) (marked : Bool) → has_marker lines ≡ marked → is_mark said ≡ false
    → (marked ≡ true → line ≡ said ++ 10 ∷ []) → users_file (Some said ∷ lines) (line ++ rest) ≡ line ++ users_file lines rest
file_unmarked line said rest lines true has is ended =
    ap (λ (b : Bool). cond (b || has_marker lines) (flat_map line_bytes (users_part (Some said ∷ lines))) (line ++ rest)) is
    ∙ ap (λ (b : Bool). cond b (flat_map line_bytes (users_part (Some said ∷ lines))) (line ++ rest)) has
    ∙ ap (flat_map line_bytes) (users_unmarked said lines is)
    ∙ flat_map-cons line_bytes (Some said) (users_part lines)
    ∙ ap (λ (l : List ℕ). l ++ flat_map line_bytes (users_part lines)) (sym (ended refl))
    ∙ ap (λ (b : Bool). line ++ cond b (flat_map line_bytes (users_part lines)) rest) (sym has)
file_unmarked line said rest lines false has is ended =
    ap (λ (b : Bool). cond (b || has_marker lines) (flat_map line_bytes (users_part (Some said ∷ lines))) (line ++ rest)) is
    ∙ ap (λ (b : Bool). cond b (flat_map line_bytes (users_part (Some said ∷ lines))) (line ++ rest)) has
    ∙ ap (λ (b : Bool). line ++ cond b (flat_map line_bytes (users_part lines)) rest) (sym has)

text_none : (room : ℕ) → users_text room [] ≡ []
text_none room = ap (λ (ls : List TextLine). users_file ls []) (lines_none room)

text_past : (text : List ℕ) → users_text 0 text ≡ text
text_past [] = text_none 0
text_past (b ∷ text) = ap (λ (ls : List TextLine). users_file ls (b ∷ text)) (lines_past b text)

-- ---- a line is taken off

ended_unless_none : (line rest : List ℕ) (left : ℕ) → ((line ≡ line_text line ++ 10 ∷ []) ⊎ (rest ≡ [])) → has_marker (lines_of left rest) ≡ true
    → line ≡ line_text line ++ 10 ∷ []
ended_unless_none line rest left ended has = elim ended [
  | inl e ↦ e
  | inr none ↦ absurd (unmarked (sym (ap has_marker (ap (lines_of left) none ∙ lines_none left)) ∙ has))
]
  where
    unmarked : false ≡ true → ⊥
    unmarked e = absurd (cc)

pub text_whole : (room left : ℕ) (text line rest : List ℕ) → text ≡ line ++ rest → IsNext Whole line room text left rest → is_mark (line_text line) ≡ false
    → line ++ users_text left rest ≡ users_text room text
text_whole room left text line rest parts next is =
    sym (ap (λ (ls : List TextLine). users_file ls text) next.0
    ∙ ap (users_file (Some (line_text line) ∷ lines_of left rest)) parts
    ∙ file_unmarked line (line_text line) rest (lines_of left rest) (has_marker (lines_of left rest)) refl is (ended_unless_none line rest left next.1))

pub text_marked : (room left : ℕ) (text line rest : List ℕ) → IsNext Whole line room text left rest → is_mark (line_text line) ≡ true
    → [] ≡ users_text room text
text_marked room left text line rest next is =
    sym (ap (λ (ls : List TextLine). users_file ls text) next.0 ∙ file_marked (line_text line) (lines_of left rest) text is)

pub text_cut : (room left : ℕ) (text line rest : List ℕ) → text ≡ line ++ rest → IsNext Cut line room text left rest
    → line ++ users_text left rest ≡ users_text room text
text_cut room left text line rest parts next =
    ap (λ (n : ℕ). line ++ users_text n rest) next.1 ∙ ap (λ (t : List ℕ). line ++ t) (text_past rest) ∙ sym parts
    ∙ sym (ap (λ (ls : List TextLine). users_file ls text) next.0)

pub text_end : (room : ℕ) (text : List ℕ) → text ≡ [] → [] ≡ users_text room text
text_end room text none = sym (ap (users_text room) none ∙ text_none room)

pub rest_whole : (taken room left : ℕ) (text line rest : List ℕ) → IsNext Whole line room text left rest → is_mark (line_text line) ≡ false
    → rest_behind (taken + 1) (lines_of left rest) ≡ rest_behind taken (lines_of room text)
rest_whole taken room left text line rest next is =
    rest_unmarked taken (line_text line) (lines_of left rest) is ∙ sym (ap (rest_behind taken) next.0)

pub rest_at_mark : (taken room left : ℕ) (text line rest : List ℕ) → IsNext Whole line room text left rest → is_mark (line_text line) ≡ true
    → numbered (taken + 1 + 1) (lines_of left rest) ≡ rest_behind taken (lines_of room text)
rest_at_mark taken room left text line rest next is =
    rest_marked taken (line_text line) (lines_of left rest) is ∙ sym (ap (rest_behind taken) next.0)

pub rest_cut : (taken room left : ℕ) (text line rest : List ℕ) → IsNext Cut line room text left rest
    → rest_behind taken (lines_of left rest) ≡ rest_behind taken (lines_of room text)
rest_cut taken room left text line rest next =
    ap (λ (n : ℕ). rest_behind taken (lines_of n rest)) next.1 ∙ rest_past taken rest ∙ sym (ap (rest_behind taken) next.0)

pub rest_end : (taken room left : ℕ) (text rest : List ℕ) → text ≡ [] → rest ≡ []
    → numbered (taken + 1) (lines_of left rest) ≡ rest_behind taken (lines_of room text)
rest_end taken room left text rest none behind =
    ap (numbered (taken + 1)) (ap (lines_of left) behind ∙ lines_none left)
    ∙ sym (ap (rest_behind taken) (ap (lines_of room) none ∙ lines_none room))

-- ---- what a source tells, before and after

keeps : (a b : Option (List ℕ)) (f g : List ℕ → List ℕ) → IfSome a (λ t. (r : List ℕ) × (b ≡ Some r) × (g r ≡ f t)) → Keeps (option_map f a) (option_map g b)
keeps None b f g h = tt
keeps (Some t) b f g h = subst (λ (o : Option (List ℕ)). Keeps (Some (f t)) (option_map g o)) (sym h.1) h.2

stays : (a b : Option (List ℕ)) (f g : List ℕ → List NumberedLine) → IfSome a (λ t. (r : List ℕ) × (b ≡ Some r) × (g r ≡ f t)) → Stays (option_map f a) (option_map g b)
stays None b f g h = tt
stays (Some t) b f g h = ap (option_map g) h.1 ∙ ap (λ (l : List NumberedLine). Some l) h.2

-- what was there before is the users file, of which nothing is left of a line
pub keeps_from : (s : Stage) (old : List ℕ) → s ≡ Users → old ≡ [] → (a : Option (List ℕ)) (room : ℕ) (new : Option (List ℕ))
    → Keeps (option_map (users_text room) a) new → Keeps (option_map (users_left s room old) a) new
keeps_from s old is none a room new h =
    subst (λ (x : Stage). Keeps (option_map (users_left x room old) a) new) (sym is)
    (subst (λ (l : List ℕ). Keeps (option_map (users_left Users room l) a) new) (sym none) h)

pub stays_from : (s : Stage) (old : List ℕ) → s ≡ Users → old ≡ [] → (a : Option (List ℕ)) (taken room : ℕ) (new : Option (List NumberedLine))
    → Stays (option_map (λ t. rest_behind taken (lines_of room t)) a) new → Stays (option_map (rest_left s taken room old) a) new
stays_from s old is none a taken room new h =
    subst (λ (x : Stage). Stays (option_map (rest_left x taken room old) a) new) (sym is)
    (subst (λ (l : List ℕ). Stays (option_map (rest_left Users taken room l) a) new) (sym none) h)

pub keeps_line : (a b : Option (List ℕ)) (room left : ℕ) (line : List ℕ) (s : Stage) (new : List ℕ) (marked : Bool) → is_mark (line_text line) ≡ marked
    → (marked ≡ true → (s ≡ Rest) × (new ≡ [])) → (marked ≡ false → (s ≡ Users) × (new ≡ line))
    → IfSome a (λ t. TakesLine Whole line room t left b) → Keeps (option_map (users_text room) a) (option_map (users_left s left new) b)
keeps_line a b room left line s new true is ends goes h =
    let at = ends refl in
    subst (λ (x : Stage). Keeps (option_map (users_text room) a) (option_map (users_left x left new) b)) (sym at.0)
    (subst (λ (l : List ℕ). Keeps (option_map (users_text room) a) (option_map (users_left Rest left l) b)) (sym at.1)
    (keeps a b (users_text room) (users_left Rest left [])
    (IfSome_then a h (λ t k. (k.rest, k.remaining_is, text_marked room left t line k.rest k.next is)))))
keeps_line a b room left line s new false is ends goes h =
    let at = goes refl in
    subst (λ (x : Stage). Keeps (option_map (users_text room) a) (option_map (users_left x left new) b)) (sym at.0)
    (subst (λ (l : List ℕ). Keeps (option_map (users_text room) a) (option_map (users_left Users left l) b)) (sym at.1)
    (keeps a b (users_text room) (users_left Users left line)
    (IfSome_then a h (λ t k. (k.rest, k.remaining_is, text_whole room left t line k.rest k.parts k.next is)))))

pub stays_line : (a b : Option (List ℕ)) (taken room left : ℕ) (line : List ℕ) (s : Stage) (new : List ℕ) (marked : Bool) → is_mark (line_text line) ≡ marked
    → (marked ≡ true → (s ≡ Rest) × (new ≡ [])) → (marked ≡ false → (s ≡ Users) × (new ≡ line))
    → IfSome a (λ t. TakesLine Whole line room t left b)
    → Stays (option_map (λ t. rest_behind taken (lines_of room t)) a) (option_map (rest_left s (taken + 1) left new) b)
stays_line a b taken room left line s new true is ends goes h =
    let at = ends refl in
    subst (λ (x : Stage). Stays (option_map (λ t. rest_behind taken (lines_of room t)) a) (option_map (rest_left x (taken + 1) left new) b)) (sym at.0)
    (stays a b (λ t. rest_behind taken (lines_of room t)) (rest_left Rest (taken + 1) left new)
    (IfSome_then a h (λ t k. (k.rest, k.remaining_is, rest_at_mark taken room left t line k.rest k.next is))))
stays_line a b taken room left line s new false is ends goes h =
    let at = goes refl in
    subst (λ (x : Stage). Stays (option_map (λ t. rest_behind taken (lines_of room t)) a) (option_map (rest_left x (taken + 1) left new) b)) (sym at.0)
    (stays a b (λ t. rest_behind taken (lines_of room t)) (rest_left Users (taken + 1) left new)
    (IfSome_then a h (λ t k. (k.rest, k.remaining_is, rest_whole taken room left t line k.rest k.next is))))

pub filled_line : (line : List ℕ) (s : Stage) (new : List ℕ) (marked : Bool) → 0 < length line
    → (marked ≡ true → (s ≡ Rest) × (new ≡ [])) → (marked ≡ false → (s ≡ Users) × (new ≡ line)) → IsFilled s new
filled_line line s new true some ends goes = subst (λ (x : Stage). IsFilled x new) (sym (ends refl).0) tt
filled_line line s new false some ends goes =
    subst (λ (x : Stage). IsFilled x new) (sym (goes refl).0) (subst (λ (l : List ℕ). 0 < length l) (sym (goes refl).1) some)

pub keeps_cut : (a b : Option (List ℕ)) (room left : ℕ) (line : List ℕ) → IfSome a (λ t. TakesLine Cut line room t left b)
    → Keeps (option_map (users_text room) a) (option_map (users_left Users left line) b)
keeps_cut a b room left line h =
    keeps a b (users_text room) (users_left Users left line)
    (IfSome_then a h (λ t k. (k.rest, k.remaining_is, text_cut room left t line k.rest k.parts k.next)))

pub stays_cut : (a b : Option (List ℕ)) (taken room left : ℕ) (line : List ℕ) → IfSome a (λ t. TakesLine Cut line room t left b)
    → Stays (option_map (λ t. rest_behind taken (lines_of room t)) a) (option_map (rest_left Users taken left line) b)
stays_cut a b taken room left line h =
    stays a b (λ t. rest_behind taken (lines_of room t)) (rest_left Users taken left line)
    (IfSome_then a h (λ t k. (k.rest, k.remaining_is, rest_cut taken room left t line k.rest k.next)))

pub keeps_end : (a b : Option (List ℕ)) (room left : ℕ) (line : List ℕ) → line ≡ [] → IfSome a (λ t. TakesLine End line room t left b)
    → Keeps (option_map (users_text room) a) (option_map (users_left Rest left line) b)
keeps_end a b room left line none h =
    keeps a b (users_text room) (users_left Rest left line)
    (IfSome_then a h (λ t k. (k.rest, k.remaining_is, none ∙ text_end room t k.next)))

pub stays_end : (a b : Option (List ℕ)) (taken room left : ℕ) (line : List ℕ) → line ≡ [] → IfSome a (λ t. TakesLine End line room t left b)
    → Stays (option_map (λ t. rest_behind taken (lines_of room t)) a) (option_map (rest_left Rest taken left line) b)
stays_end a b taken room left line none h =
    stays a b (λ t. rest_behind taken (lines_of room t)) (rest_left Rest taken left line)
    (IfSome_then a h (λ t k. (
      k.rest,
      k.remaining_is,
      rest_end taken room left t k.rest k.next (sym (ap (λ (l : List ℕ). l ++ k.rest) none) ∙ sym k.parts ∙ k.next),
    )))

pub keeps_failed : (a b : Option (List ℕ)) (room left : ℕ) (line : List ℕ) (fault : InputFault) → left ≡ room → Consumes a b line
    → Keeps (option_map (users_text room) a) (option_map (users_left (Failed fault) left line) b)
keeps_failed None b room left line fault same h = tt
keeps_failed (Some t) None room left line fault same h = absurd h
keeps_failed (Some t) (Some r) room left line fault same h = ap (λ (n : ℕ). users_text n (line ++ r)) same ∙ sym (ap (users_text room) h)

pub stays_failed : (a b : Option (List ℕ)) (taken room left : ℕ) (line : List ℕ) (fault : InputFault) → left ≡ room → Consumes a b line
    → Stays (option_map (λ t. rest_behind taken (lines_of room t)) a) (option_map (rest_left (Failed fault) taken left line) b)
stays_failed None b taken room left line fault same h = tt
stays_failed (Some t) None taken room left line fault same h = absurd h
stays_failed (Some t) (Some r) taken room left line fault same h =
    ap (λ (n : ℕ). Some (rest_behind taken (lines_of n (line ++ r)))) same ∙ ap (λ (l : List ℕ). Some (rest_behind taken (lines_of room l))) (sym h)

-- ---- a line is pulled

front_left : (a : Option (List ℕ)) (s : Stage) (room count : ℕ) (line front : List ℕ) → is_failed s ≡ false → front ≡ take count line
    → Consumes (option_map (users_left s room line) a) (option_map (users_left s room (drop count line)) a) front
front_left None s room count line front is same = tt
front_left (Some t) Users room count line front is same =
    let whole : line ≡ front ++ drop count line = sym (take-append-drop count line) ∙ ap (λ (l : List ℕ). l ++ drop count line) (sym same) in
    ap (λ (l : List ℕ). l ++ users_text room t) whole ∙ append_assoc front (drop count line) (users_text room t)
front_left (Some t) Rest room count line front is same =
    sym (take-append-drop count line) ∙ ap (λ (l : List ℕ). l ++ drop count line) (sym same)
front_left (Some t) (Failed fault) room count line front is same = absurd (cc)

kept_then : (a b c : Option (List ℕ)) (front : List ℕ) → Keeps a b → Consumes b c front → Consumes a c front
kept_then None b c front k h = tt
kept_then (Some x) None c front k h = absurd k
kept_then (Some x) (Some y) None front k h = absurd h
kept_then (Some x) (Some y) (Some z) front k h = sym k ∙ h

pub pulls_front : (old a : Option (List ℕ)) (s : Stage) (room count : ℕ) (line new front : List ℕ) → is_failed s ≡ false
    → Keeps old (option_map (users_left s room line) a) → front ≡ take count line → new ≡ drop count line
    → Consumes old (option_map (users_left s room new) a) front
pulls_front old a s room count line new front is kept same left =
    subst (λ (l : List ℕ). Consumes old (option_map (users_left s room l) a) front) (sym left)
    (kept_then old (option_map (users_left s room line) a) (option_map (users_left s room (drop count line)) a) front kept (front_left a s room count line front is same))

stays_then : (a b c : Option (List NumberedLine)) → Stays a b → Stays b c → Stays a c
stays_then None b c h k = tt
stays_then (Some x) b c h k = subst (λ (o : Option (List NumberedLine)). Stays o c) h k

line_apart : (a : Option (List ℕ)) (s : Stage) (taken room : ℕ) (line new : List ℕ) → is_failed s ≡ false
    → Stays (option_map (rest_left s taken room line) a) (option_map (rest_left s taken room new) a)
line_apart None s taken room line new is = tt
line_apart (Some t) Users taken room line new is = refl
line_apart (Some t) Rest taken room line new is = refl
line_apart (Some t) (Failed fault) taken room line new is = absurd (cc)

pub stays_front : (old : Option (List NumberedLine)) (a : Option (List ℕ)) (s : Stage) (taken room : ℕ) (line new : List ℕ) → is_failed s ≡ false
    → Stays old (option_map (rest_left s taken room line) a) → Stays old (option_map (rest_left s taken room new) a)
stays_front old a s taken room line new is h =
    stays_then old (option_map (rest_left s taken room line) a) (option_map (rest_left s taken room new) a) h (line_apart a s taken room line new is)

-- nothing is pulled only at the end
front_ends : (a : Option (List ℕ)) (s : Stage) (room count : ℕ) (line : List ℕ) (size : ℕ) → is_failed s ≡ false → IsFilled s line → 0 < size
    → count ≡ min (length line) size → count ≡ 0 → IsAtEnd (option_map (users_left s room (drop count line)) a)
front_ends None s room count line size is filled some counted none = tt
front_ends (Some t) Users room count line size is filled some counted none = absurd (omega (arith, filled, some, counted, none))
front_ends (Some t) Rest room count line size is filled some counted none =
    let short : length line ≤ count = omega (arith, some, counted, none) in
    drop_of_length-le line {i = count} short
front_ends (Some t) (Failed fault) room count line size is filled some counted none = absurd (cc)

pub ends_at_front : (a : Option (List ℕ)) (s : Stage) (room count : ℕ) (line new : List ℕ) (size : ℕ) → is_failed s ≡ false → IsFilled s line → 0 < size
    → count ≡ min (length line) size → new ≡ drop count line → count ≡ 0 → IsAtEnd (option_map (users_left s room new) a)
ends_at_front a s room count line new size is filled some counted left none =
    subst (λ (l : List ℕ). IsAtEnd (option_map (users_left s room l) a)) (sym left) (front_ends a s room count line size is filled some counted none)

pub not_failed : (old new : Bool) → (old ≡ true → new ≡ true) → new ≡ false → new ≡ (old || false)
not_failed true new h is = absurd (unmarked (sym is ∙ h refl))
  where
    unmarked : false ≡ true → ⊥
    unmarked e = absurd (cc)
not_failed false new h is = is

-- ---- all lines of it were taken off

pub has_rest : (behind : Option (List NumberedLine)) (a : Option (List ℕ)) (s : Stage) (taken room : ℕ) (line : List ℕ) → s ≡ Rest
    → Stays behind (option_map (rest_left s taken room line) a) → IfSome behind (λ rest. HasRest rest (taken + 1) room a)
has_rest behind a s taken room line is h =
    at behind a (subst (λ (x : Stage). Stays behind (option_map (rest_left x taken room line) a)) is h)
  where
    at : (behind : Option (List NumberedLine)) (a : Option (List ℕ)) → Stays behind (option_map (rest_left Rest taken room line) a)
        → IfSome behind (λ rest. HasRest rest (taken + 1) room a)
    at None a h = tt
    at (Some rest) None h = absurd (cc)
    at (Some rest) (Some text) h = record { text = text; left_is = refl; read = cc }
