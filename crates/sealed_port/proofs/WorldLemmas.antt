-- An answer that a client reads is one to its line.
use Rattle.std.proofs.Common.{◌≡◌, ℕ, Bool, true, false, cond, eqb, List, [], ◌∷◌, ◌++◌, Option, Some, None, refl, sym, ap, subst, ◌∙◌, inl, inr}
use Rattle.std.specs.Option.{option_map}
use Rattle.sealed_wire.specs.Body.{body_bytes}
use Rattle.sealed_wire.specs.Bytes.{AreBytes}
use Rattle.sealed_wire.specs.Key.{tag_of}
use Rattle.sealed_wire.specs.Making.{AreMakings, IsMade, IsUnforged, Making, making_tag}
use Rattle.sealed_wire.specs.Sealed.{body_of, sealed_at, sealed_bytes, tag_at}
use Rattle.sealed_wire.specs.declared.head.Head.{Head}
use Rattle.sealed_wire.specs.declared.head.Kind.TheVariants.{Answer}
use Rattle.sealed_wire.proofs.BodyLemmas.{AreBytes-take, spelled}
use Rattle.sealed_wire.proofs.TagLemmas.{spelled_so, takes}
use Rattle.sealed_wire.proofs.MakingLemmas.{answer_law, made_law}
use Rattle.replay_window.specs.Window.{with_seen}
use Rattle.sealed_port.specs.Asked.{AskedRecord, nonce_in}
use Rattle.sealed_port.specs.Gate.{GateRecord, Sealed, SealedLine, answer_head, answered, asked_of, gate_with, named, opened, with_moment}
use Rattle.sealed_port.specs.Runs.{Answers, Comes, Drains, Takes, IsAmong, Step, gate_run, gate_step, line_head, opened_in, opening_of}
use Rattle.sealed_port.specs.World.{ComeUnforged, GatesAnswer, HasKey, IsAnswered, WasSealed}
use Rattle.sealed_port.specs.Requests.{gate_came}
use Rattle.sealed_port.specs.declared.client.Client.{Client}
use Rattle.sealed_port.proofs.OpenLemmas.{opened_law}
use Rattle.sealed_port.proofs.RunLemmas.{among_parts, among_run, named_stays, remembered_is, sealed_for}

abbrev present : {A : Type 0} → A → Option A
present x = Some x

some_is : {A : Type 0} (x y : A) → present x ≡ present y → x ≡ y
some_is x y e = cc

-- ---- a client's key stays

pub key_kept : (b : Bool) (client : Client) (moment : ℕ) → (cond b (record client { window = with_seen client.window moment }) client).key ≡ client.key
key_kept true client moment = refl
key_kept false client moment = refl

key_with : (key : List ℕ) (client : ℕ) (gate : GateRecord) (now : Option ℕ) (address : ℕ) (found : Option SealedLine) → HasKey key client gate → HasKey key client (gate_with gate now address found)
key_with key client gate now address None h = h
key_with key client gate now address (Some line) h = λ owner e. from (named client gate.clients) refl (sym (named_stays client line.client line.moment gate.clients) ∙ e)
  where
    from : {owner : Client} (o : Option Client) → named client gate.clients ≡ o → option_map (with_moment line.client line.moment) o ≡ Some owner → owner.key ≡ key
    from None is e = absurd cc
    from (Some before) is e =
        ap (λ (c : Client). c.key) (sym (some_is _ _ e)) ∙ key_kept (eqb before.number line.client) before line.moment ∙ h before is

key_step : (key : List ℕ) (client : ℕ) (gate : GateRecord) (step : Step) → HasKey key client gate → HasKey key client (gate_step gate step)
key_step key client gate (Comes now address bytes) h = key_with key client gate now address (opened gate now bytes) h
key_step key client gate (Answers other answer) h = h
key_step key client gate Takes h = h
key_step key client gate Drains h = h

key_run : (key : List ℕ) (client : ℕ) (gate : GateRecord) (steps : List Step) → HasKey key client gate → HasKey key client (gate_run gate steps)
key_run key client gate [] h = h
key_run key client gate (step ∷ steps) h = key_run key client (gate_step gate step) steps (key_step key client gate step h)

-- ---- a gate's node stays

pub node_with : (gate : GateRecord) (now : Option ℕ) (address : ℕ) (found : Option SealedLine) → (gate_with gate now address found).node ≡ gate.node
node_with gate now address None = refl
node_with gate now address (Some line) = refl

node_run : (gate : GateRecord) (steps : List Step) → (gate_run gate steps).node ≡ gate.node
node_run gate [] = refl
node_run gate (Comes now address bytes ∷ steps) = node_run (gate_came gate now address bytes) steps ∙ node_with gate now address (opened gate now bytes)
node_run gate (Takes ∷ steps) = node_run (gate_step gate Takes) steps
node_run gate (Drains ∷ steps) = node_run (gate_step gate Drains) steps
node_run gate (Answers client answer ∷ steps) = node_run (gate_step gate (Answers client answer)) steps

-- ---- a line that was opened was made

record LineMade (key : List ℕ) (made : List Making) (node : ℕ) (line : AskedRecord) : Type 0 where
  making : Making
  is_made : IsMade made making
  tag_is : making_tag key making ≡ line.tag
  node_is : making.head.node ≡ node
  client_is : making.head.client ≡ line.client
  text_is : nonce_in making.text ≡ line.nonce
  line_is : making.text ≡ line.line
  moment_is : making.head.moment ≡ line.moment

-- the tag of what is read
pub tag_of_read : (key bytes text : List ℕ) (head : Head) → AreBytes bytes → sealed_at key [] bytes ≡ Some (head, text)
    → tag_at bytes ≡ making_tag key (record { bound = []; head = head; text = text })
tag_of_read key bytes text head fits read =
    let o = takes key [] bytes head text read in
    let body : body_of bytes ≡ body_bytes head text = spelled (body_of bytes) head (AreBytes-take _ bytes fits) o.head_is ∙ ap (body_bytes head) o.text_is in
    o.tagged ∙ ap (λ (b : List ℕ). tag_of key (b ++ [])) body

-- the same, if the line was opened from an address
opening_is_made : (key : List ℕ) (made : List Making) (client : ℕ) (gate : GateRecord) (now : Option ℕ) (address : ℕ) (bytes : List ℕ) (found : SealedLine) (line : AskedRecord)
    → AreMakings key made → HasKey key client gate → AreBytes bytes → IsUnforged key made [] bytes → opened gate now bytes ≡ Some found → asked_of address found ≡ line → line.client ≡ client
    → LineMade key made gate.node line
opening_is_made key made client gate now address bytes found line makings has fits unforged opens same of_client =
    let o = opened_law gate now bytes found opens in
    let number : found.client ≡ client = ap (λ (a : AskedRecord). a.client) same ∙ of_client in
    let own : o.owner.key ≡ key = has o.owner (ap (λ (n : ℕ). named n gate.clients) (sym number) ∙ o.is_owner) in
    let read : sealed_at key [] bytes ≡ Some (line_head gate.node found, found.line) = subst (λ (k : List ℕ). sealed_at k [] bytes ≡ Some (line_head gate.node found, found.line)) own o.reads in
    record {
      making = record { bound = []; head = line_head gate.node found; text = found.line };
      is_made = made_law key bytes [] found.line (line_head gate.node found) made fits makings refl unforged read;
      tag_is = sym (tag_of_read key bytes found.line (line_head gate.node found) fits read) ∙ sym o.tag_is ∙ ap (λ (a : AskedRecord). a.tag) same;
      node_is = refl;
      client_is = ap (λ (a : AskedRecord). a.client) same;
      text_is = ap (λ (a : AskedRecord). a.nonce) same;
      line_is = ap (λ (a : AskedRecord). a.line) same;
      moment_is = ap (λ (a : AskedRecord). a.moment) same;
    }

opened_is_made : (key : List ℕ) (made : List Making) (client : ℕ) (gate : GateRecord) (steps : List Step) (line : AskedRecord) → AreMakings key made → HasKey key client gate
    → ComeUnforged key made steps → IsAmong (opened_in gate steps) line → line.client ≡ client → LineMade key made gate.node line
opened_is_made key made client gate [] line makings has come among of_client = absurd among
opened_is_made key made client gate (Answers other answer ∷ steps) line makings has come among of_client =
    opened_is_made key made client (gate_step gate (Answers other answer)) steps line makings has come among of_client
opened_is_made key made client gate (Takes ∷ steps) line makings has come among of_client =
    opened_is_made key made client (gate_step gate Takes) steps line makings has come among of_client
opened_is_made key made client gate (Drains ∷ steps) line makings has come among of_client =
    opened_is_made key made client (gate_step gate Drains) steps line makings has come among of_client
opened_is_made key made client gate (Comes now address bytes ∷ steps) line makings has come among of_client =
    from (opened gate now bytes) refl (λ later. opened_is_made key made client (gate_came gate now address bytes) steps line makings
    (key_with key client gate now address (opened gate now bytes) has) come.2 later of_client)
    among
  where
    node_stays : (o : Option SealedLine) → LineMade key made (gate_with gate now address o).node line → LineMade key made gate.node line
    node_stays None h = h
    node_stays (Some found) h = h

    first : (found : SealedLine) → opened gate now bytes ≡ Some found → IsAmong (asked_of address found ∷ []) line → LineMade key made gate.node line
    first found is (inl same) = opening_is_made key made client gate now address bytes found line makings has come.0 come.1 is same of_client
    first found is (inr none) = absurd none

    here : (o : Option SealedLine) → opened gate now bytes ≡ o → IsAmong (opening_of address o) line → LineMade key made gate.node line
    here None is h = absurd h
    here (Some found) is h = first found is h

    from : (o : Option SealedLine) → opened gate now bytes ≡ o
        → (IsAmong (opened_in (gate_came gate now address bytes) steps) line → LineMade key made (gate_came gate now address bytes).node line)
        → IsAmong (opening_of address (opened gate now bytes) ++ opened_in (gate_came gate now address bytes) steps) line → LineMade key made gate.node line
    from o is rest all = elim (among_parts (opening_of address (opened gate now bytes)) (opened_in (gate_came gate now address bytes) steps) line all) as (λ k. LineMade key made gate.node line) [
      | inl front ↦ here o is (subst (λ (x : Option SealedLine). IsAmong (opening_of address x) line) is front)
      | inr back ↦ node_stays (opened gate now bytes) (rest back)
    ]

-- ---- the law

-- the head of an answer repeats the line's
head_repeats : (line : Making) (opening : AskedRecord) (node : ℕ) (head : Head) → head ≡ answer_head node opening → node ≡ line.head.node → opening.client ≡ line.head.client → opening.moment ≡ line.head.moment
    → head ≡ record line.head { kind = Answer }
head_repeats line opening node head is of_node of_client of_moment = is ∙ rw (of_node, of_client, of_moment) refl

-- the datagram that is read is what the gate sealed
bytes_sealed : (key own bytes answer bound tag : List ℕ) (head sealed_head : Head) → bytes ≡ sealed_bytes key bound head answer → own ≡ key → bound ≡ tag → head ≡ sealed_head
    → sealed_bytes own tag sealed_head answer ≡ bytes
bytes_sealed key own bytes answer bound tag head sealed_head is same_key same_tag same_head =
    ap (λ (k : List ℕ). sealed_bytes k tag sealed_head answer) same_key
    ∙ ap (λ (t : List ℕ). sealed_bytes key t sealed_head answer) (sym same_tag)
    ∙ ap (λ (h : Head). sealed_bytes key bound h answer) (sym same_head)
    ∙ sym is

sealed_as : (sealed : Sealed) (address : ℕ) (sealed_to bytes : List ℕ) → sealed ≡ record { address = address; bytes = sealed_to } → sealed_to ≡ bytes → sealed ≡ record { address = address; bytes = bytes }
sealed_as sealed address sealed_to bytes is same = is ∙ rw same refl

pub world_law : (key bytes answer : List ℕ) (head : Head) (made : List Making) (line : Making) (client : ℕ) → AreBytes bytes → AreMakings key made → IsMade made line
    → GatesAnswer key made client → IsUnforged key made (making_tag key line) bytes → sealed_at key (making_tag key line) bytes ≡ Some (head, answer) → head.kind ≡ Answer
    → IsAnswered line head answer bytes
world_law key bytes answer head made line client fits makings mine gates unforged read is =
    let a = answer_law key bytes answer head made line fits makings mine unforged read is in
    let w = gates (record { bound = making_tag key line; head = head; text = answer }) a.is_made is in
    from w a.only
  where
    from : WasSealed key made client (record { bound = making_tag key line; head = head; text = answer }) → ((other : Making) → IsMade made other → making_tag key other ≡ making_tag key line → other ≡ line)
        → IsAnswered line head answer bytes
    from w only =
        let after = gate_run w.gate w.steps in
        let here = remembered_is after client answer w.line w.answers in
        let among : IsAmong (opened_in w.gate w.steps) w.line =
        among_run w.gate w.steps [] (λ x none. let h : IsAmong [] x = subst (λ (l : List AskedRecord). IsAmong l x) w.fresh none in absurd h) w.line here.is_there in
        let m = opened_is_made key made client w.gate w.steps w.line makings w.has_key w.unforged among here.of_client in
        let bound_is : making_tag key line ≡ w.line.tag = ap (λ (k : Making). k.bound) w.making_is in
        let head_is : head ≡ answer_head w.gate.node w.line = ap (λ (k : Making). k.head) w.making_is in
        let same : m.making ≡ line = only m.making m.is_made (m.tag_is ∙ sym bound_is) in
        let of_client : w.line.client ≡ line.head.client = sym m.client_is ∙ ap (λ (k : Making). k.head.client) same in
        let of_node : w.gate.node ≡ line.head.node = sym m.node_is ∙ ap (λ (k : Making). k.head.node) same in
        let moment_is : w.line.moment ≡ line.head.moment = sym m.moment_is ∙ ap (λ (k : Making). k.head.moment) same in
        let for = sealed_for after client answer w.sealed w.line w.answers w.is_sealed in
        let own : for.owner.key ≡ key = key_run key client w.gate w.steps w.has_key for.owner (ap (λ (n : ℕ). named n after.clients) (sym here.of_client) ∙ for.is_owner) in
        let sealed_head : head ≡ answer_head after.node w.line = head_is ∙ ap (λ (n : ℕ). answer_head n w.line) (sym (node_run w.gate w.steps)) in
        let same_bytes = bytes_sealed key for.owner.key bytes answer (making_tag key line) w.line.tag head (answer_head after.node w.line)
        (spelled_so key (making_tag key line) bytes answer head fits read) own bound_is sealed_head in
        let client_is : line.head.client ≡ client = sym of_client ∙ here.of_client in
        record {
          gate = w.gate;
          steps = w.steps;
          opening = w.line;
          fresh = w.fresh;
          of_node = of_node;
          is_opened = among;
          of_client = of_client;
          line_is = sym m.line_is ∙ ap (λ (k : Making). k.text) same;
          moment_is = moment_is;
          of_nonce = ap (λ (k : Making). nonce_in k.text) (sym same) ∙ m.text_is ∙ here.of_nonce;
          sealed_is = ap (λ (n : ℕ). answered after n answer) client_is ∙ w.is_sealed ∙ ap (λ (s : Sealed). Some s) (sealed_as w.sealed w.line.address _ bytes for.sealed_is same_bytes);
          head_is = head_repeats line w.line w.gate.node head head_is of_node of_client moment_is;
        }
