-- A line that a gate turns away is answered, and the answer is its own.
use Rattle.std.proofs.Common.{◌≡◌, ℕ, suc, ◌<◌, ◌≤◌, ◌+◌, Bool, true, false, cond, eqb, leb, ltb, List, [], ◌∷◌, ◌++◌, length, drop, Option, Some, None, refl, sym, ap, subst, ◌∙◌, inl, inr, arith, length-append}
use Rattle.std.specs.Prelude.{not, find, position, is_some, codes}
use Rattle.std.specs.Char.{IsAsciiAlphanumeric}
use Rattle.std.specs.List.{position_or_len, remove}
use Rattle.std.specs.Option.{option_map}
use Rattle.std.specs.Str.{bytes_eq}
use Rattle.std.proofs.Math.Seq.{take-append_seam, drop-append-add}
use Rattle.std.proofs.lemmas.Bool.{and_parts, eqb-true, le-leb, lt-ltb, ltb-false}
use Rattle.std.proofs.lemmas.List.{append-nil}
use Rattle.std.proofs.lemmas.List.Elements.{All-weaker}
use Rattle.std.proofs.lemmas.List.Folds.{find_at, position_or_len_push}
use Rattle.std.proofs.lemmas.List.Splits.{slice_split_at}
use Rattle.std.proofs.lemmas.List.Sums.{prefix_len-le-length}
use Rattle.std.proofs.lemmas.Option.{slice_get_past}
use Rattle.std.proofs.lemmas.Slice.Eq.{bytes_eq-Decides}
use Rattle.datagram_port.specs.Port.{Received}
use Rattle.datagram_port.specs.declared.port.Sender.TheVariants.{Client as FromClient}
use Rattle.client_lines.specs.Answer.{reply_bytes}
use Rattle.client_lines.specs.Field.{IsNonce}
use Rattle.client_lines.specs.Request.{IsRequest, Request, fields_of, request_at, without_lf}
use Rattle.client_lines.specs.declared.answer.Outcome.TheVariants.{Refused}
use Rattle.client_lines.specs.declared.answer.Reason.TheVariants.{Busy}
use Rattle.client_lines.proofs.RequestLemmas.{line_of_request}
use Rattle.sealed_wire.specs.Sealed.{sealed_bytes}
use Rattle.sealed_port.specs.Asked.{AskedRecord, is_of, line_at, nonce_by, nonce_in, nonce_of, place_of, remembered, second_of, waits, with_one, without}
use Rattle.sealed_port.specs.Draining.{IsTurnedAway, busied, busy_answer, busy_by, gate_busied, gate_handled, own_answer, turned_away, turns_away}
use Rattle.sealed_port.specs.Gate.{GateRecord, Sealed, SealedLine, answer_head, answer_to, answer_under, answered, answered_place, asked_of, gate_with, named, opened, with_moment}
use Rattle.sealed_port.specs.Port.{handed_line, node_number}
use Rattle.sealed_port.specs.Requests.{gate_aside, gate_came, requested}
use Rattle.sealed_port.specs.Runs.{Answers, Comes, Drains, Step, Takes, gate_run, gate_step, own_steps, steps_for}
use Rattle.sealed_port.specs.declared.client.Client.{Client}
use Rattle.sealed_port.proofs.OpenLemmas.{opened_law}
use Rattle.sealed_port.proofs.RunLemmas.{bool_cases, is_itself, named_stays}
use Rattle.sealed_port.proofs.WorldLemmas.{key_kept}

-- ---- the nonce of the gate's own answer

nonce_of_fields : (fields : List (List ℕ)) (r : Request) → IsRequest fields r → IsNonce r.nonce
nonce_of_fields [] r h = absurd h
nonce_of_fields (a ∷ []) r h = absurd h
nonce_of_fields (a ∷ b ∷ []) r h = absurd h
nonce_of_fields (a ∷ b ∷ c ∷ []) r h = absurd h
nonce_of_fields (a ∷ b ∷ c ∷ d ∷ []) r h = absurd h
nonce_of_fields (word ∷ nonce ∷ user ∷ code ∷ password ∷ []) r h = subst IsNonce (ap (λ (one : Request). one.nonce) (sym h.value)) h.is_nonce
nonce_of_fields (word ∷ nonce ∷ user ∷ first ∷ second ∷ password ∷ []) r h = subst IsNonce (ap (λ (one : Request). one.nonce) (sym h.value)) h.is_nonce
nonce_of_fields (a ∷ b ∷ c ∷ d ∷ f ∷ g ∷ k ∷ more) r h = absurd h

has_nonce : (line : List ℕ) (r : Request) → request_at line ≡ Some r → IsNonce r.nonce
has_nonce line r e = nonce_of_fields (fields_of (without_lf line)) r (line_of_request line r e).1

no_space : (byte : ℕ) → IsAsciiAlphanumeric byte → eqb byte 32 ≡ false
no_space byte h = elim (bool_cases (eqb byte 32)) [
  | inl is ↦ let same : byte ≡ 32 = eqb-true byte 32 is in absurd (too_small byte same h)
  | inr apart ↦ apart
]
  where
    too_small : (byte : ℕ) → byte ≡ 32 → IsAsciiAlphanumeric byte → ⊥
    too_small byte same (inl (inl h)) = omega (arith, same, h.0)
    too_small byte same (inl (inr h)) = omega (arith, same, h.0)
    too_small byte same (inr h) = omega (arith, same, h.0)

busy_nonce : (nonce : List ℕ) → IsNonce nonce → nonce_of (reply_bytes nonce (Refused Busy)) ≡ nonce
busy_nonce nonce h =
    ap (λ (parts : List (List ℕ)). second_of (codes "NO" ∷ parts))
    (slice_split_at (λ byte. eqb byte 32) nonce 32 (codes "BUSY") (All-weaker IsAsciiAlphanumeric (λ byte. eqb byte 32 ≡ false) no_space nonce h.2) refl)

-- the answer has the line's nonce
nonce_back : (line : List ℕ) → nonce_of (busy_answer line) ≡ nonce_in line
nonce_back line = go (request_at line) refl
  where
    go : (o : Option Request) → request_at line ≡ o → nonce_of (busy_by o) ≡ nonce_by o
    go None is = refl
    go (Some r) is = busy_nonce r.nonce (has_nonce line r is)

-- it is short enough
busy_fits : (line : List ℕ) → leb (length (busy_answer line)) 256 ≡ true
busy_fits line = go (request_at line) refl
  where
    go : (o : Option Request) → request_at line ≡ o → leb (length (busy_by o)) 256 ≡ true
    go None is = refl
    go (Some r) is =
        let most : length r.nonce ≤ 20 = (has_nonce line r is).1 in
        let long : length (r.nonce ++ codes " BUSY") ≡ length r.nonce + 5 = length-append r.nonce (codes " BUSY") in
        let whole : length (reply_bytes r.nonce (Refused Busy)) ≡ suc (suc (suc (length (r.nonce ++ codes " BUSY")))) = refl in
        le-leb (length (reply_bytes r.nonce (Refused Busy))) 256 (omega (arith, most, long, whole))

-- ---- the line that was remembered last

abbrev present : {A : Type 0} → A → Option A
present x = Some x

module _ (p : AskedRecord → Bool) where
  -- the line at the place is the one that is found
  line_found : (lines : List AskedRecord) (one : AskedRecord) → find p lines ≡ Some one → line_at (position p lines) lines ≡ Some one
  line_found lines one e = go (ltb (position_or_len p lines) (length lines)) refl
    where
      go : (b : Bool) → ltb (position_or_len p lines) (length lines) ≡ b → line_at (cond b (Some (position_or_len p lines)) None) lines ≡ Some one
      go true is = sym (find_at p lines) ∙ e
      go false is =
          let none : None ≡ present one = sym (slice_get_past lines (position_or_len p lines) (ltb-false _ _ is)) ∙ sym (find_at p lines) ∙ e in
          absurd cc

  -- without a place nothing is found
  unfound : (lines : List AskedRecord) → position p lines ≡ None → find p lines ≡ None
  unfound lines e = go (find p lines) refl
    where
      go : (o : Option AskedRecord) → find p lines ≡ o → o ≡ None
      go None is = refl
      go (Some one) is =
          let there : line_at None lines ≡ present one = ap (λ (place : Option ℕ). line_at place lines) (sym e) ∙ line_found lines one is in
          absurd cc

  found_after : (lines more : List AskedRecord) → find p lines ≡ None → find p (lines ++ more) ≡ find p more
  found_after [] more e = refl
  found_after (line ∷ lines) more e = go (p line) (found_after lines more) e
    where
      go : (b : Bool) → (find p lines ≡ None → find p (lines ++ more) ≡ find p more) → cond b (Some line) (find p lines) ≡ None
          → cond b (Some line) (find p (lines ++ more)) ≡ find p more
      go true rest some = absurd cc
      go false rest none = rest none

  unfound_later : (lines : List AskedRecord) → find p lines ≡ None → find p (drop 1 lines) ≡ None
  unfound_later [] e = refl
  unfound_later (line ∷ lines) e = go (p line) e
    where
      go : (b : Bool) → cond b (Some line) (find p lines) ≡ None → find p lines ≡ None
      go true some = absurd cc
      go false none = none

  found_alone : (one : AskedRecord) → p one ≡ true → find p (one ∷ []) ≡ Some one
  found_alone one e = rw e refl

  -- what is remembered last is found, if nothing was before
  last_found : (lines : List AskedRecord) (one : AskedRecord) → find p lines ≡ None → p one ≡ true → find p (with_one lines one) ≡ Some one
  last_found lines one none is = go (ltb (length lines) 96)
    where
      go : (b : Bool) → find p (cond b (lines ++ one ∷ []) (drop 1 lines ++ one ∷ [])) ≡ Some one
      go true = found_after lines (one ∷ []) none ∙ found_alone one is
      go false = found_after (drop 1 lines) (one ∷ []) (unfound_later lines none) ∙ found_alone one is

  -- without it the lines are those before
  last_forgotten : (lines : List AskedRecord) (one : AskedRecord) → position p lines ≡ None → p one ≡ true
      → without (position p (lines ++ one ∷ [])) (lines ++ one ∷ []) ≡ lines
  last_forgotten lines one none is = ap (λ (place : Option ℕ). without place (lines ++ one ∷ [])) at_last ∙ removed
    where
      at_end : (b : Bool) → ltb (position_or_len p lines) (length lines) ≡ b → cond b (present (position_or_len p lines)) None ≡ None
          → position_or_len p lines ≡ length lines
      at_end true it e = absurd cc
      at_end false it e =
          let past : length lines ≤ position_or_len p lines = ltb-false _ _ it in
          let within : position_or_len p lines ≤ length lines = prefix_len-le-length (λ line. not (p line)) lines in
          omega (arith, past, within)

      here : position_or_len p lines ≡ length lines
      here = at_end (ltb (position_or_len p lines) (length lines)) refl none

      last : position_or_len p (lines ++ one ∷ []) ≡ length lines
      last =
          let test : eqb (position_or_len p lines) (length lines) ≡ true = is_itself _ _ here in
          let end : length lines + 0 ≡ length lines = omega arith in
          position_or_len_push p lines one ∙ ap (λ (b : Bool). cond b (length lines + cond (p one) 0 1) (position_or_len p lines)) test
          ∙ ap (λ (b : Bool). length lines + cond b 0 1) is ∙ end

      long : length (lines ++ one ∷ []) ≡ length lines + 1
      long = length-append lines (one ∷ [])

      at_last : position p (lines ++ one ∷ []) ≡ Some (length lines)
      at_last =
          let inside : ltb (position_or_len p (lines ++ one ∷ [])) (length (lines ++ one ∷ [])) ≡ true =
          lt-ltb (position_or_len p (lines ++ one ∷ [])) (length (lines ++ one ∷ [])) (omega (arith, last, long)) in
          rw inside (ap (λ (n : ℕ). present n) last)

      removed : remove (lines ++ one ∷ []) (length lines) ≡ lines
      removed =
          let more : suc (length lines) ≡ length lines + 1 = omega arith in
          let rest : drop (suc (length lines)) (lines ++ one ∷ []) ≡ [] =
          ap (λ (n : ℕ). drop n (lines ++ one ∷ [])) more ∙ drop-append-add lines (one ∷ []) 1 in
          ap (λ (front : List AskedRecord). front ++ drop (suc (length lines)) (lines ++ one ∷ [])) (take-append_seam lines (one ∷ []))
          ∙ ap (λ (back : List AskedRecord). lines ++ back) rest ∙ append-nil lines

-- ---- a new line

unplaced : (o : Option ℕ) → not (is_some o) ≡ true → o ≡ None
unplaced None e = refl
unplaced (Some place) e = absurd cc

-- the line has the answer's client and nonce
is_its_own : (address : ℕ) (line : SealedLine) (nonce : List ℕ) → nonce ≡ nonce_in line.line → is_of line.client nonce (asked_of address line) ≡ true
is_its_own address line nonce e =
    let client : eqb line.client line.client ≡ true = is_itself line.client line.client refl in
    let same : bytes_eq (nonce_in line.line) nonce ≡ true = (bytes_eq-Decides (nonce_in line.line) nonce).1 (sym e) in
    rw (client, same) refl

module _ (gate : GateRecord) (now : Option ℕ) (address : ℕ) (line : SealedLine) (new : not (waits line.client line.line gate.asked) ≡ true) where
  -- no line with the nonce waits
  none_waits : place_of line.client (nonce_in line.line) gate.asked ≡ None
  none_waits = unplaced (place_of line.client (nonce_in line.line) gate.asked) new

  none_of_answer : place_of line.client (nonce_of (busy_answer line.line)) gate.asked ≡ None
  none_of_answer = ap (λ (nonce : List ℕ). place_of line.client nonce gate.asked) (nonce_back line.line) ∙ none_waits

  added : remembered gate.asked (asked_of address line) ≡ with_one gate.asked (asked_of address line)
  added = ap (λ (place : Option ℕ). with_one (without place gate.asked) (asked_of address line)) none_waits

  its_own : is_of line.client (nonce_of (busy_answer line.line)) (asked_of address line) ≡ true
  its_own = is_its_own address line (nonce_of (busy_answer line.line)) (nonce_back line.line)

  -- the line that the answer answers
  answers_it : line_at (answered_place (gate_with gate now address (Some line)) line.client (busy_answer line.line)) (gate_with gate now address (Some line)).asked
      ≡ Some (asked_of address line)
  answers_it =
      let p = is_of line.client (nonce_of (busy_answer line.line)) in
      line_found p (remembered gate.asked (asked_of address line)) (asked_of address line)
      (ap (find p) added ∙ last_found p gate.asked (asked_of address line) (unfound p gate.asked none_of_answer) its_own)

  -- the answer
  new_answered : (owner : Client) → named line.client gate.clients ≡ Some owner
      → answered (gate_with gate now address (Some line)) line.client (busy_answer line.line)
      ≡ Some (record { address = address; bytes = sealed_bytes owner.key line.tag (answer_head gate.node (asked_of address line)) (busy_answer line.line) })
  new_answered owner owns =
      let after = gate_with gate now address (Some line) in
      let answer = busy_answer line.line in
      let one = asked_of address line in
      let known : named line.client after.clients ≡ Some (with_moment line.client line.moment owner) =
      named_stays line.client line.client line.moment gate.clients ∙ ap (option_map (with_moment line.client line.moment)) owns in
      ap (λ (b : Bool). cond b (answer_to after answer (line_at (answered_place after line.client answer) after.asked)) None) (busy_fits line.line)
      ∙ ap (answer_to after answer) answers_it
      ∙ ap (answer_under gate.node answer one) known
      ∙ ap (λ (key : List ℕ). present (the_sealed key)) (key_kept (eqb owner.number line.client) owner line.moment)
    where
      the_sealed : List ℕ → Sealed
      the_sealed key = record { address = address; bytes = sealed_bytes key line.tag (answer_head gate.node (asked_of address line)) (busy_answer line.line) }

  -- then the lines that wait are those before
  new_forgotten : length gate.asked < 96
      → without (answered_place (gate_with gate now address (Some line)) line.client (busy_answer line.line)) (gate_with gate now address (Some line)).asked ≡ gate.asked
  new_forgotten room =
      let p = is_of line.client (nonce_of (busy_answer line.line)) in
      let one = asked_of address line in
      let fits : ltb (length gate.asked) 96 ≡ true = lt-ltb (length gate.asked) 96 room in
      let all : remembered gate.asked one ≡ gate.asked ++ one ∷ [] =
      added ∙ ap (λ (b : Bool). cond b (gate.asked ++ one ∷ []) (drop 1 gate.asked ++ one ∷ [])) fits in
      ap (λ (lines : List AskedRecord). without (position p lines) lines) all ∙ last_forgotten p gate.asked one none_of_answer its_own

-- ---- a line that a gate turns away

abbrev answered_in : GateRecord → Option ℕ → ℕ → List ℕ → Option SealedLine → Option SealedLine → Option Sealed
answered_in gate now address bytes line away = busied (gate_aside (gate_with gate now address line) (requested gate now address bytes)) away

abbrev handled_in : GateRecord → Option ℕ → ℕ → List ℕ → Option SealedLine → Option SealedLine → GateRecord
handled_in gate now address bytes line away = gate_busied (gate_aside (gate_with gate now address line) (requested gate now address bytes)) away

pub away_law : (gate : GateRecord) (now : Option ℕ) (address : ℕ) (bytes : List ℕ) (line : SealedLine) → opened gate now bytes ≡ Some line → turns_away gate line ≡ true
    → IsTurnedAway gate now address bytes line
away_law gate now address bytes line is away =
    let o = opened_law gate now bytes line is in
    let parts = and_parts gate.drains (not (waits line.client line.line gate.asked)) away in
    let chosen : turned_away gate (Some line) ≡ Some line = ap (λ (b : Bool). cond b (present line) None) away in
    record {
      owner = o.owner;
      is_owner = o.is_owner;
      answer_is = ap (λ (found : Option SealedLine). answered_in gate now address bytes found (turned_away gate found)) is
          ∙ ap (answered_in gate now address bytes (Some line)) chosen
          ∙ new_answered gate now address line parts.1 o.owner o.is_owner;
      others_wait = λ room. ap (λ (g : GateRecord). g.asked)
          (ap (λ (found : Option SealedLine). handled_in gate now address bytes found (turned_away gate found)) is
          ∙ ap (handled_in gate now address bytes (Some line)) chosen)
          ∙ new_forgotten gate now address line parts.1 room;
    }

-- ---- what a gate answers is one of a run

pub run_law : (gate : GateRecord) (now : Option ℕ) (address : ℕ) (bytes : List ℕ) → gate_handled gate now address bytes ≡ gate_run gate (steps_for gate now address bytes)
run_law gate now address bytes = from (turned_away gate (opened gate now bytes))
  where
    from : (away : Option SealedLine) → gate_busied (gate_came gate now address bytes) away ≡ gate_run gate (Comes now address bytes ∷ own_steps away)
    from None = refl
    from (Some line) = refl

pub sealed_law : (gate : GateRecord) (now : Option ℕ) (address : ℕ) (bytes : List ℕ) (sealed : Sealed) → own_answer gate now address bytes ≡ Some sealed
    → (line : SealedLine) × (opened gate now bytes ≡ Some line) × (answered (gate_run gate (Comes now address bytes ∷ [])) line.client (busy_answer line.line) ≡ Some sealed)
sealed_law gate now address bytes sealed e = from (opened gate now bytes) refl e
  where
    go : (line : SealedLine) (b : Bool) → opened gate now bytes ≡ Some line → busied (gate_came gate now address bytes) (cond b (Some line) None) ≡ Some sealed
        → (line : SealedLine) × (opened gate now bytes ≡ Some line) × (answered (gate_run gate (Comes now address bytes ∷ [])) line.client (busy_answer line.line) ≡ Some sealed)
    go line true is found = (line, is, found)
    go line false is found = absurd cc

    from : (o : Option SealedLine) → opened gate now bytes ≡ o → busied (gate_came gate now address bytes) (turned_away gate o) ≡ Some sealed
        → (line : SealedLine) × (opened gate now bytes ≡ Some line) × (answered (gate_run gate (Comes now address bytes ∷ [])) line.client (busy_answer line.line) ≡ Some sealed)
    from None is found = absurd cc
    from (Some line) is found = go line (turns_away gate line) is found

-- ---- draining lasts

drains_with : (gate : GateRecord) (now : Option ℕ) (address : ℕ) (line : Option SealedLine) → (gate_with gate now address line).drains ≡ gate.drains
drains_with gate now address None = refl
drains_with gate now address (Some line) = refl

pub lasts_law : (gate : GateRecord) (steps : List Step) → gate.drains ≡ true → (gate_run gate steps).drains ≡ true
lasts_law gate [] e = e
lasts_law gate (Answers client answer ∷ steps) e = lasts_law (gate_step gate (Answers client answer)) steps e
lasts_law gate (Takes ∷ steps) e = lasts_law (gate_step gate Takes) steps e
lasts_law gate (Drains ∷ steps) e = lasts_law (gate_step gate Drains) steps refl
lasts_law gate (Comes now address bytes ∷ steps) e = lasts_law (gate_came gate now address bytes) steps (drains_with gate now address (opened gate now bytes) ∙ e)

-- ---- a gate that doesn't drain

pub handed_law : (gate : GateRecord) (line : SealedLine) → gate.drains ≡ false
    → handed_line gate (Some line) ≡ Some (Received (FromClient (node_number line.client)) line.line)
handed_law gate line e = rw e refl

none_away : (gate : GateRecord) (line : Option SealedLine) → gate.drains ≡ false → turned_away gate line ≡ None
none_away gate None e = refl
none_away gate (Some line) e = rw e refl

pub nothing_law : (gate : GateRecord) (now : Option ℕ) (address : ℕ) (bytes : List ℕ) → gate.drains ≡ false
    → (own_answer gate now address bytes ≡ None) × (gate_handled gate now address bytes ≡ gate_came gate now address bytes)
nothing_law gate now address bytes e =
    let none = none_away gate (opened gate now bytes) e in
    (ap (busied (gate_came gate now address bytes)) none, ap (gate_busied (gate_came gate now address bytes)) none)
