-- What a gate opens is opened once, and what it seals is for a line that it opened.
use Rattle.std.proofs.Common.{◌≡◌, ℕ, suc, Bool, true, false, cond, eqb, leb, ltb, List, [], ◌∷◌, ◌++◌, length, map, take, drop, Option, Some, None, refl, sym, ap, subst, ◌∙◌, inl, inr, append_assoc}
use Rattle.std.specs.Prelude.{◌⊎◌, ◌&&◌, not, find, position}
use Rattle.std.specs.List.{AllByRecursion, IsDistinct, position_or_len}
use Rattle.std.specs.Option.{option_map}
use Rattle.std.specs.Str.{bytes_eq}
use Rattle.std.proofs.lemmas.Bool.{eqb-true, eqb-false, and_parts}
use Rattle.std.proofs.lemmas.List.{take-append-drop, append-nil}
use Rattle.std.proofs.lemmas.List.Folds.{find_at}
use Rattle.std.proofs.lemmas.Slice.Eq.{bytes_eq-Decides}
use Rattle.replay_window.specs.Window.{with_seen}
use Rattle.replay_window.proofs.OnceLemmas.{IsCovered, covers_itself, fresh_is_apart, stays_covered}
use Rattle.sealed_port.specs.Asked.{AskedRecord, clashes, is_of, line_at, nonce_of, place_of, remembered, without}
use Rattle.sealed_wire.specs.Sealed.{sealed_bytes}
use Rattle.sealed_port.specs.Gate.{GateRecord, Sealed, SealedLine, admits, answer_head, answer_to, answer_under, answered, answered_place, asked_of, gate_with, is_admitted, named, opened, with_moment}
use Rattle.sealed_port.specs.Runs.{IsAmong, IsAnswerOf, Step, Comes, Answers, Drains, Takes, gate_run, gate_step, is_same, opened_by, opened_in, opening_of}
use Rattle.sealed_port.specs.Requests.{gate_aside, gate_came, requested}
use Rattle.sealed_port.specs.declared.client.Client.{Client}
use Rattle.sealed_port.proofs.OpenLemmas.{opened_law}

abbrev present : {A : Type 0} → A → Option A
present x = Some x

some_is : {A : Type 0} (x y : A) → present x ≡ present y → x ≡ y
some_is x y e = cc

pub bool_cases : (a : Bool) → (a ≡ true) ⊎ (a ≡ false)
bool_cases true = inl refl
bool_cases false = inr refl

-- ---- the client with a number, after a window has seen a moment

-- the number stays
pub number_stays : (b : Bool) (client : Client) (moment : ℕ) → (cond b (record client { window = with_seen client.window moment }) client).number ≡ client.number
number_stays true client moment = refl
number_stays false client moment = refl

pub named_stays : (n k m : ℕ) (clients : List Client) → named n (map (with_moment k m) clients) ≡ option_map (with_moment k m) (named n clients)
named_stays n k m [] = refl
named_stays n k m (client ∷ clients) =
    let same : eqb (with_moment k m client).number n ≡ eqb client.number n = ap (λ (x : ℕ). eqb x n) (number_stays (eqb client.number k) client m) in
    rw same (go (eqb client.number n) (named_stays n k m clients))
  where
    go : (b : Bool) → named n (map (with_moment k m) clients) ≡ option_map (with_moment k m) (named n clients)
        → cond b (Some (with_moment k m client)) (named n (map (with_moment k m) clients)) ≡ option_map (with_moment k m) (cond b (Some client) (named n clients))
    go true rest = refl
    go false rest = rest

named_has : (n : ℕ) (clients : List Client) (client : Client) → named n clients ≡ Some client → client.number ≡ n
named_has n [] client e = absurd cc
named_has n (one ∷ rest) client e = go (eqb one.number n) refl (named_has n rest client) e
  where
    go : (b : Bool) → eqb one.number n ≡ b → (named n rest ≡ Some client → client.number ≡ n) → cond b (Some one) (named n rest) ≡ Some client → client.number ≡ n
    go true is later found = ap (λ (c : Client). c.number) (sym (some_is one client found)) ∙ eqb-true one.number n is
    go false is later found = later found

-- ---- a moment of a client that was seen

-- the client with this number has a window that admits the moment no more
abbrev pub IsSeen : GateRecord → ℕ → ℕ → Type 0
IsSeen gate number moment = (client : Client) → named number gate.clients ≡ Some client → IsCovered client.window moment

option_cases : {A : Type 0} (o : Option A) → (o ≡ None) ⊎ ((x : A) × (o ≡ Some x))
option_cases None = inl refl
option_cases (Some x) = inr (x, refl)

-- what a client's window covers stays covered
pub keeps_cover : (b : Bool) (client : Client) (moment other : ℕ) → IsCovered client.window other
    → IsCovered (cond b (record client { window = with_seen client.window moment }) client).window other
keeps_cover true client moment other h = stays_covered client.window moment other h
keeps_cover false client moment other h = h

stays_seen : (gate : GateRecord) (now : Option ℕ) (address : ℕ) (found : Option SealedLine) (n m : ℕ) → IsSeen gate n m → IsSeen (gate_with gate now address found) n m
stays_seen gate now address None n m h = h
stays_seen gate now address (Some line) n m h = λ client e.
    let stays : option_map (with_moment line.client line.moment) (named n gate.clients) ≡ Some client = sym (named_stays n line.client line.moment gate.clients) ∙ e in
    from (named n gate.clients) refl stays
  where
    from : {client : Client} (o : Option Client) → named n gate.clients ≡ o → option_map (with_moment line.client line.moment) o ≡ Some client → IsCovered client.window m
    from None is e = absurd cc
    from (Some before) is e =
        subst (λ (c : Client). IsCovered c.window m) (some_is _ _ e) (keeps_cover (eqb before.number line.client) before line.moment m (h before is))

stays_seen_step : (gate : GateRecord) (step : Step) (n m : ℕ) → IsSeen gate n m → IsSeen (gate_step gate step) n m
stays_seen_step gate (Comes now address bytes) n m h = stays_seen gate now address (opened gate now bytes) n m h
stays_seen_step gate (Answers client answer) n m h = h
stays_seen_step gate Takes n m h = h
stays_seen_step gate Drains n m h = h

pub is_itself : (n k : ℕ) → n ≡ k → eqb n k ≡ true
is_itself n k e = elim (bool_cases (eqb n k)) [
  | inl is ↦ is
  | inr apart ↦ absurd (eqb-false n k apart e)
]

pub covers_here : (b : Bool) (client : Client) (moment : ℕ) → b ≡ true → IsCovered (cond b (record client { window = with_seen client.window moment }) client).window moment
covers_here true client moment e = covers_itself client.window moment
covers_here false client moment e = absurd cc

pub seen_now : (gate : GateRecord) (now : Option ℕ) (address : ℕ) (line : SealedLine) → IsSeen (gate_with gate now address (Some line)) line.client line.moment
seen_now gate now address line = λ client e.
    let stays : option_map (with_moment line.client line.moment) (named line.client gate.clients) ≡ Some client =
    sym (named_stays line.client line.client line.moment gate.clients) ∙ e in
    from (named line.client gate.clients) refl stays
  where
    from : {client : Client} (o : Option Client) → named line.client gate.clients ≡ o → option_map (with_moment line.client line.moment) o ≡ Some client → IsCovered client.window line.moment
    from None is e = absurd cc
    from (Some before) is e =
        let own = is_itself before.number line.client (named_has line.client gate.clients before is) in
        subst (λ (c : Client). IsCovered c.window line.moment) (some_is _ _ e) (covers_here (eqb before.number line.client) before line.moment own)

-- ---- what is opened

-- a line that a gate opens was admitted
opened_is_admitted : (gate : GateRecord) (now : Option ℕ) (bytes : List ℕ) (line : SealedLine) → opened gate now bytes ≡ Some line
    → (second : ℕ) × (is_admitted gate second line ≡ true)
opened_is_admitted gate now bytes line e = let o = opened_law gate now bytes line e in (o.second, o.admitted)

admits_apart : (o : Option Client) (now m x : ℕ) → admits o now m ≡ true → ((client : Client) → o ≡ Some client → IsCovered client.window x) → eqb x m ≡ false
admits_apart None now m x h seen = absurd cc
admits_apart (Some client) now m x h seen = fresh_is_apart client.window now m x (seen client refl) h

pub and_false : (a : Bool) → (a && false) ≡ false
and_false true = refl
and_false false = refl

-- a seen request differs from an admitted line
apart_from_line : (gate : GateRecord) (one : AskedRecord) (line : SealedLine) (address second : ℕ) → IsSeen gate one.client one.moment → is_admitted gate second line ≡ true
    → is_same one (asked_of address line) ≡ false
apart_from_line gate one line address second seen admitted = elim (bool_cases (eqb one.client line.client)) [
  | inl same ↦
      let number : one.client ≡ line.client = eqb-true one.client line.client same in
      let here = subst (λ (n : ℕ). IsSeen gate n one.moment) number seen in
      let fresh = (and_parts (admits (named line.client gate.clients) second line.moment) (not (clashes line.client line.line gate.asked)) admitted).0 in
      rw (admits_apart (named line.client gate.clients) second line.moment one.moment fresh here) (and_false (eqb one.client line.client))
  | inr apart ↦ rw apart refl
]

pub all_append : {X : Type 0} (P : X → Type 0) (xs ys : List X) → AllByRecursion P xs → AllByRecursion P ys → AllByRecursion P (xs ++ ys)
all_append P [] ys h k = k
all_append P (x ∷ xs) ys h k = (h.0, all_append P xs ys h.1 k)

pub never_again_in : (gate : GateRecord) (steps : List Step) (one : AskedRecord) → IsSeen gate one.client one.moment → AllByRecursion (λ y. is_same one y ≡ false) (opened_in gate steps)
never_again_in gate [] one seen = tt
never_again_in gate (Answers client answer ∷ steps) one seen = never_again_in (gate_step gate (Answers client answer)) steps one seen
never_again_in gate (Takes ∷ steps) one seen = never_again_in (gate_step gate Takes) steps one seen
never_again_in gate (Drains ∷ steps) one seen = never_again_in (gate_step gate Drains) steps one seen
never_again_in gate (Comes now address bytes ∷ steps) one seen =
    all_append (λ y. is_same one y ≡ false) (opening_of address (opened gate now bytes)) (opened_in (gate_step gate (Comes now address bytes)) steps)
    (from (opened gate now bytes) refl)
    (never_again_in (gate_step gate (Comes now address bytes)) steps one (stays_seen gate now address (opened gate now bytes) one.client one.moment seen))
  where
    from : (o : Option SealedLine) → opened gate now bytes ≡ o → AllByRecursion (λ y. is_same one y ≡ false) (opening_of address o)
    from None is = tt
    from (Some line) is = let a = opened_is_admitted gate now bytes line is in (apart_from_line gate one line address a.0 seen a.1, tt)

pub once_law : (gate : GateRecord) (steps : List Step) → IsDistinct is_same (opened_in gate steps)
unfolding IsDistinct
once_law gate [] = tt
once_law gate (Answers client answer ∷ steps) = once_law (gate_step gate (Answers client answer)) steps
once_law gate (Takes ∷ steps) = once_law (gate_step gate Takes) steps
once_law gate (Drains ∷ steps) = once_law (gate_step gate Drains) steps
once_law gate (Comes now address bytes ∷ steps) = from (opened gate now bytes) (once_law (gate_came gate now address bytes) steps)
  where
    from : (o : Option SealedLine) → IsDistinct is_same (opened_in (gate_aside (gate_with gate now address o) (requested gate now address bytes)) steps)
        → IsDistinct is_same (opening_of address o ++ opened_in (gate_aside (gate_with gate now address o) (requested gate now address bytes)) steps)
    from None rest = rest
    from (Some line) rest =
        (never_again_in (gate_aside (gate_with gate now address (Some line)) (requested gate now address bytes)) steps (asked_of address line) (seen_now gate now address line), rest)

-- ---- what is remembered was opened

pub among_parts : (xs ys : List AskedRecord) (a : AskedRecord) → IsAmong (xs ++ ys) a → IsAmong xs a ⊎ IsAmong ys a
among_parts [] ys a h = inr h
among_parts (x ∷ xs) ys a (inl is) = inl (inl is)
among_parts (x ∷ xs) ys a (inr later) = elim (among_parts xs ys a later) [
  | inl front ↦ inl (inr front)
  | inr back ↦ inr back
]

among_front : (xs ys : List AskedRecord) (a : AskedRecord) → IsAmong xs a → IsAmong (xs ++ ys) a
among_front [] ys a h = absurd h
among_front (x ∷ xs) ys a (inl is) = inl is
among_front (x ∷ xs) ys a (inr later) = inr (among_front xs ys a later)

among_back : (xs ys : List AskedRecord) (a : AskedRecord) → IsAmong ys a → IsAmong (xs ++ ys) a
among_back [] ys a h = h
among_back (x ∷ xs) ys a h = inr (among_back xs ys a h)

among_take : (n : ℕ) (xs : List AskedRecord) (a : AskedRecord) → IsAmong (take n xs) a → IsAmong xs a
among_take n xs a h = subst (λ (l : List AskedRecord). IsAmong l a) (take-append-drop n xs) (among_front (take n xs) (drop n xs) a h)

among_drop : (n : ℕ) (xs : List AskedRecord) (a : AskedRecord) → IsAmong (drop n xs) a → IsAmong xs a
among_drop n xs a h = subst (λ (l : List AskedRecord). IsAmong l a) (take-append-drop n xs) (among_back (take n xs) (drop n xs) a h)

among_without : (place : Option ℕ) (xs : List AskedRecord) (a : AskedRecord) → IsAmong (without place xs) a → IsAmong xs a
among_without None xs a h = h
among_without (Some place) xs a h = elim (among_parts (take place xs) (drop (suc place) xs) a h) [
  | inl front ↦ among_take place xs a front
  | inr back ↦ among_drop (suc place) xs a back
]

among_with_one : (b : Bool) (xs : List AskedRecord) (one a : AskedRecord) → IsAmong (cond b (xs ++ one ∷ []) (drop 1 xs ++ one ∷ [])) a → IsAmong xs a ⊎ (one ≡ a)
among_with_one true xs one a h = elim (among_parts xs (one ∷ []) a h) as (λ k. IsAmong xs a ⊎ (one ≡ a)) [
  | inl front ↦ inl front
  | inr back ↦ last back
]
  where
    last : IsAmong (one ∷ []) a → IsAmong xs a ⊎ (one ≡ a)
    last (inl is) = inr is
    last (inr none) = absurd none
among_with_one false xs one a h = elim (among_parts (drop 1 xs) (one ∷ []) a h) as (λ k. IsAmong xs a ⊎ (one ≡ a)) [
  | inl front ↦ inl (among_drop 1 xs a front)
  | inr back ↦ last back
]
  where
    last : IsAmong (one ∷ []) a → IsAmong xs a ⊎ (one ≡ a)
    last (inl is) = inr is
    last (inr none) = absurd none

among_remembered : (xs : List AskedRecord) (one a : AskedRecord) → IsAmong (remembered xs one) a → IsAmong xs a ⊎ (one ≡ a)
among_remembered xs one a h =
    let rest = without (place_of one.client one.nonce xs) xs in
    elim (among_with_one (ltb (length rest) 96) rest one a h) as (λ k. IsAmong xs a ⊎ (one ≡ a)) [
      | inl old ↦ inl (among_without (place_of one.client one.nonce xs) xs a old)
      | inr new ↦ inr new
    ]

-- all that is remembered is among these
abbrev pub AreAmong : List AskedRecord → List AskedRecord → Type 0
AreAmong xs ys = (a : AskedRecord) → IsAmong xs a → IsAmong ys a

among_step : (gate : GateRecord) (step : Step) (before : List AskedRecord) → AreAmong gate.asked before → AreAmong (gate_step gate step).asked (before ++ opened_by gate step)
among_step gate (Answers client answer) before h = λ a is.
    subst (λ (l : List AskedRecord). IsAmong l a) (sym (append-nil before)) (h a (among_without (answered_place gate client answer) gate.asked a is))
among_step gate Takes before h = λ a is. subst (λ (l : List AskedRecord). IsAmong l a) (sym (append-nil before)) (h a is)
among_step gate Drains before h = λ a is. subst (λ (l : List AskedRecord). IsAmong l a) (sym (append-nil before)) (h a is)
among_step gate (Comes now address bytes) before h = from (opened gate now bytes)
  where
    from : (o : Option SealedLine) → AreAmong (gate_with gate now address o).asked (before ++ opening_of address o)
    from None = λ a is. subst (λ (l : List AskedRecord). IsAmong l a) (sym (append-nil before)) (h a is)
    from (Some line) = λ a is. elim (among_remembered gate.asked (asked_of address line) a is) as (λ k. IsAmong (before ++ opening_of address (Some line)) a) [
      | inl old ↦ among_front before (asked_of address line ∷ []) a (h a old)
      | inr new ↦ among_back before (asked_of address line ∷ []) a (inl new)
    ]

pub among_run : (gate : GateRecord) (steps : List Step) (before : List AskedRecord) → AreAmong gate.asked before → AreAmong (gate_run gate steps).asked (before ++ opened_in gate steps)
among_run gate [] before h = λ a is. subst (λ (l : List AskedRecord). IsAmong l a) (sym (append-nil before)) (h a is)
among_run gate (step ∷ steps) before h = λ a is.
    subst (λ (l : List AskedRecord). IsAmong l a) (append_assoc before (opened_by gate step) (opened_in (gate_step gate step) steps))
    (among_run (gate_step gate step) steps (before ++ opened_by gate step) (among_step gate step before h) a is)

-- ---- what is sealed

pub found_is : (p : AskedRecord → Bool) (xs : List AskedRecord) (a : AskedRecord) → find p xs ≡ Some a → (p a ≡ true) × IsAmong xs a
found_is p [] a e = absurd cc
found_is p (x ∷ xs) a e = go (p x) refl (found_is p xs a) e
  where
    go : (b : Bool) → p x ≡ b → (find p xs ≡ Some a → (p a ≡ true) × IsAmong xs a) → cond b (Some x) (find p xs) ≡ Some a → (p a ≡ true) × IsAmong (x ∷ xs) a
    go true is later found = let same = some_is x a found in (subst (λ (y : AskedRecord). p y ≡ true) same is, inl same)
    go false is later found = let rest = later found in (rest.0, inr rest.1)

pub place_is : (p : AskedRecord → Bool) (xs : List AskedRecord) (a : AskedRecord) → line_at (position p xs) xs ≡ Some a → find p xs ≡ Some a
place_is p xs a e = go (ltb (position_or_len p xs) (length xs)) e
  where
    go : (b : Bool) → line_at (cond b (Some (position_or_len p xs)) None) xs ≡ Some a → find p xs ≡ Some a
    go true found = find_at p xs ∙ found
    go false found = absurd cc

-- what is sealed for a remembered line
pub record IsSealedFor (gate : GateRecord) (line : AskedRecord) (answer : List ℕ) (sealed : Sealed) : Type 0 where
  pub owner : Client
  pub is_owner : named line.client gate.clients ≡ Some owner
  pub sealed_is : sealed ≡ record { address = line.address; bytes = sealed_bytes owner.key line.tag (answer_head gate.node line) answer }

pub sealed_for : (gate : GateRecord) (client : ℕ) (answer : List ℕ) (sealed : Sealed) (line : AskedRecord) → line_at (answered_place gate client answer) gate.asked ≡ Some line
    → answered gate client answer ≡ Some sealed → IsSealedFor gate line answer sealed
sealed_for gate client answer sealed line there e = fits (leb (length answer) 256) e
  where
    under : (o : Option Client) → named line.client gate.clients ≡ o → answer_under gate.node answer line o ≡ Some sealed → IsSealedFor gate line answer sealed
    under None is found = absurd cc
    under (Some owner) is found = record {
      owner = owner;
      is_owner = is;
      sealed_is = sym (some_is _ sealed found);
    }

    fits : (b : Bool) → cond b (answer_to gate answer (line_at (answered_place gate client answer) gate.asked)) None ≡ Some sealed → IsSealedFor gate line answer sealed
    fits true found = under (named line.client gate.clients) refl (ap (answer_to gate answer) (sym there) ∙ found)
    fits false found = absurd cc

-- the line that an answer answers is remembered, and has the client and the nonce
pub record IsRemembered (gate : GateRecord) (client : ℕ) (answer : List ℕ) (line : AskedRecord) : Type 0 where
  pub is_there : IsAmong gate.asked line
  pub of_client : line.client ≡ client
  pub of_nonce : line.nonce ≡ nonce_of answer

pub remembered_is : (gate : GateRecord) (client : ℕ) (answer : List ℕ) (line : AskedRecord) → line_at (answered_place gate client answer) gate.asked ≡ Some line
    → IsRemembered gate client answer line
remembered_is gate client answer line there =
    let p = is_of client (nonce_of answer) in
    let here = found_is p gate.asked line (place_is p gate.asked line there) in
    let parts = and_parts (eqb line.client client) (bytes_eq line.nonce (nonce_of answer)) here.0 in
    record {
      is_there = here.1;
      of_client = eqb-true line.client client parts.0;
      of_nonce = (bytes_eq-Decides line.nonce (nonce_of answer)).0 parts.1;
    }

-- an answer that is sealed answers a remembered line
line_there : (gate : GateRecord) (client : ℕ) (answer : List ℕ) (sealed : Sealed) → answered gate client answer ≡ Some sealed
    → (line : AskedRecord) × (line_at (answered_place gate client answer) gate.asked ≡ Some line)
line_there gate client answer sealed e = fits (leb (length answer) 256) (line_at (answered_place gate client answer) gate.asked) refl e
  where
    fits : (b : Bool) (o : Option AskedRecord) → line_at (answered_place gate client answer) gate.asked ≡ o → cond b (answer_to gate answer o) None ≡ Some sealed
        → (line : AskedRecord) × (line_at (answered_place gate client answer) gate.asked ≡ Some line)
    fits true (Some line) is found = (line, is)
    fits true None is found = absurd cc
    fits false o is found = absurd cc

answered_is : (gate : GateRecord) (client : ℕ) (answer : List ℕ) (sealed : Sealed) (openings : List AskedRecord) → AreAmong gate.asked openings
    → answered gate client answer ≡ Some sealed → IsAnswerOf gate openings client answer sealed
answered_is gate client answer sealed openings all e =
    let there = line_there gate client answer sealed e in
    let line = there.0 in
    let here = remembered_is gate client answer line there.1 in
    let for = sealed_for gate client answer sealed line there.1 e in
    record {
      line = line;
      is_opened = all line here.is_there;
      of_client = here.of_client;
      of_nonce = here.of_nonce;
      owner = for.owner;
      is_owner = for.is_owner;
      bytes_are = ap (λ (s : Sealed). s.bytes) for.sealed_is;
      address_is = ap (λ (s : Sealed). s.address) for.sealed_is;
    }

pub answer_law : (gate : GateRecord) (steps : List Step) (client : ℕ) (answer : List ℕ) (sealed : Sealed) → gate.asked ≡ []
    → answered (gate_run gate steps) client answer ≡ Some sealed → IsAnswerOf (gate_run gate steps) (opened_in gate steps) client answer sealed
answer_law gate steps client answer sealed none e =
    answered_is (gate_run gate steps) client answer sealed (opened_in gate steps)
    (among_run gate steps [] (λ a is. let h : IsAmong [] a = subst (λ (l : List AskedRecord). IsAmong l a) none is in absurd h)) e
