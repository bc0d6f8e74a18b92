-- A line leads from a state of the reference server to the next one.
use Rattle.std.proofs.Common.{◌≡◌, ℕ, pos, ◌+◌, ◌^◌, List, [], ◌∷◌, length, replicate, Option, Some, None, refl, sym, ap, subst, ◌∙◌, arith, ◌<◌, ◌≤◌, true, false}
use Rattle.std.specs.Prelude.{Result, Ok, Err, IsErrAnd}
use Rattle.std.specs.Map.Iter.{TakesFirst}
use Rattle.otp_core.specs.Limits.{Limits}
use Rattle.token_file.specs.Credential.{Credential}
use Rattle.otp_core.specs.Gate.{clear_gate}
use Rattle.floor_store.specs.Content.{Content, opening_content}
use Rattle.floor_store.specs.Held.{Held}
use Rattle.vote_core.specs.NodeSet.{PlaceRecord}
use Rattle.oath_node.specs.Alone.{IsAlone, ServesAlone, alone_place, drifts_in, floors_in, gates_in, gates_of}
use Rattle.oath_node.specs.Calls.{FailsBy, IsMade}
use Rattle.oath_node.specs.Hosted.{Hosted, IsSameNode, config_of}
use Rattle.oath_node.specs.Machine.{Client, Config, Made, NodeEvent, NodeState, made_by_event, opened_node}
use Rattle.oath_node.specs.Outputs.{OutputsRecord, items_of}
use Rattle.oath_node.specs.ReferenceServer.{Line, Server, server_at, service_of}
use Rattle.oath_node.specs.Serving.{IsServing, state_in_memory}
use Rattle.oath_node.specs.declared.fault.NodeFault.{NodeFault}
use Rattle.oath_node.specs.declared.fault.NodeFault.TheVariants as node
use Rattle.oath_node.specs.declared.item.Item.{Item}
use Rattle.oath_node.specs.declared.item.Item.TheVariants.{Datagram, Reply}

-- what the law of a lone node says of each line
abbrev pub AloneLaw : Type 0
AloneLaw = (config : Config) (count : ℕ) (x : NodeState) (server : Server) (line : Line) → IsAlone count x server
    → (made_by_event config alone_place (Client line.client line.moment line.text) x).state.running ≡ true
    → ServesAlone count (made_by_event config alone_place (Client line.client line.moment line.text) x) line (service_of config.book config.limits server line)

-- the step of a node over a store in memory on a line
abbrev pub made_of_line : Hosted Content → Line → Made
made_of_line node line = made_by_event (config_of node) node.voter.place (Client line.client line.moment line.text) (state_in_memory node)

pub served : AloneLaw → (node : Hosted Content) (book : List Credential) (limits : Limits) (count : ℕ) (server : Server) (line : Line)
    → IsServing node book limits count server → (made_of_line node line).state.running ≡ true
    → ServesAlone count (made_of_line node line) line (service_of book limits server line)
served law node book limits count server line h on =
    let x = state_in_memory node in
    let event = Client line.client line.moment line.text in
    let config : Config = record { book = book; limits = limits } in
    let same : made_of_line node line ≡ made_by_event config alone_place event x =
    ap (λ (b : List Credential). made_by_event (record { book = b; limits = node.limits }) node.voter.place event x) h.book_is
    ∙ ap (λ (l : Limits). made_by_event (record { book = book; limits = l }) node.voter.place event x) h.limits_are
    ∙ ap (λ (p : PlaceRecord). made_by_event config p event x) h.place_is in
    subst (λ (m : Made). ServesAlone count m line (service_of book limits server line)) (sym same)
    (law config count x server line h.alone (subst (λ (m : Made). m.state.running ≡ true) same on))

-- what the outputs of a line are, and the node that it leaves
pub record IsGiven (new : Hosted Content) (book : List Credential) (limits : Limits) (count : ℕ) (server : Server) (line : Line) (outputs : OutputsRecord) : Type 0 where
  pub items : outputs.items ≡ Reply line.client (record { items = (service_of book limits server line).told.bytes }) ∷ []
  pub serving : IsServing new book limits (count + 1) (service_of book limits server line).server

pub given : AloneLaw → (old new : Hosted Content) (line : Line) (outputs : OutputsRecord)
    → IsMade old.key old.voter.place (made_of_line old line) outputs (state_in_memory new) → IsSameNode old new → new.running ≡ true
    → (book : List Credential) (limits : Limits) (count : ℕ) (server : Server) → IsServing old book limits count server
    → IsGiven new book limits count server line outputs
given law old new line outputs made same runs book limits count server h =
    let on : (made_of_line old line).state.running ≡ true = ap (λ (x : NodeState). x.running) (sym made.left) ∙ runs in
    let s = served law old book limits count server line h on in
    let m = made_of_line old line in
    let me = old.voter.place.me in
    record {
      items = ap (λ (o : OutputsRecord). o.items) made.told ∙ ap (λ sends. items_of old.key me sends m.replies) s.sends
          ∙ ap (λ replies. items_of old.key me [] replies) s.replies;
      serving = record {
        book_is = same.book ∙ h.book_is;
        limits_are = same.limits ∙ h.limits_are;
        place_is = same.place ∙ h.place_is;
        alone = subst (λ (x : NodeState). IsAlone (count + 1) x (service_of book limits server line).server) (sym made.left) s.state;
      };
    }

-- a store that was just made
floors_at_start : (floors : List ℕ) → floors_in (opening_content floors) ≡ floors
floors_at_start [] = refl
floors_at_start (f ∷ fs) = ap (λ xs. f ∷ xs) (floors_at_start fs)

gates_at_start : (floors : List ℕ) → gates_in (opening_content floors) ≡ gates_of (replicate (length floors) [])
gates_at_start [] = refl
gates_at_start (f ∷ fs) = ap (λ gates. clear_gate ∷ gates) (gates_at_start fs)

drifts_at_start : (floors : List ℕ) → drifts_in (opening_content floors) ≡ replicate (length floors) (pos 0)
drifts_at_start [] = refl
drifts_at_start (f ∷ fs) = ap (λ drifts. pos 0 ∷ drifts) (drifts_at_start fs)

pub alone_at_start : (floors : List ℕ) → IsAlone 0 (opened_node (opening_content floors)) (server_at floors)
alone_at_start floors = record {
  running = refl;
  pending = refl;
  owners = refl;
  answers = refl;
  floors = floors_at_start floors;
  gates = gates_at_start floors;
  drifts = drifts_at_start floors;
  begun = omega arith;
}

-- what is seen of a store in memory
abbrev pub held_in_memory : Content → Held
held_in_memory content = record { content = content; fault = None; failures = 0; is_clean = Unit {0}; leaves = λ left. left ≡ content }

-- a server over a store in memory refuses no line before 2^62 of them
pub refused_late : (old new : Hosted Content) (event : NodeEvent) (fault : NodeFault) → FailsBy held_in_memory old new event fault
    → (book : List Credential) (limits : Limits) (count : ℕ) (server : Server) → IsServing old book limits count server → 2 ^ 62 ≤ count
refused_late old new event (node.Store fault) h book limits count server s = let more : 0 < 0 = h.counted in absurd (omega (arith, more))
refused_late old new event node.Stopped h book limits count server s = absurd (let e : false ≡ true = sym h.0 ∙ s.alone.running in cc)
refused_late old new event node.Spent h book limits count server s = omega (arith, h.none_left, s.alone.begun)

-- a refusal is passed on
pub handed_on : {A B : Type 0} (r : Result A B) (fault : B) (P : Result A B → Type 0) → IsErrAnd r (λ x. x ≡ fault) → P (Err fault) → P r
handed_on (Ok value) fault P h p = absurd h
handed_on (Err x) fault P h p = subst (λ y. P (Err y)) (sym h) p

-- the first item is taken
pub first_taken : (items rest : List Item) (taken : Option Item) (item : Item) → TakesFirst (λ x. x) items taken rest → items ≡ item ∷ [] → taken ≡ Some item
first_taken items rest None item h e = let none : items ≡ [] = h.0 in absurd cc
first_taken items rest (Some x) item h e = let some : items ≡ x ∷ rest = h in let same : x ≡ item = cc in ap Some same

pub same_bytes : (client other : ℕ) (a b : _) → Some (Reply client a) ≡ Some (Reply other b) → a ≡ b
same_bytes client other a b e = cc

pub no_datagram : (to client : ℕ) (a b : _) → Some (Datagram to a) ≡ Some (Reply client b) → ⊥
no_datagram to client a b e = cc

pub no_end : (client : ℕ) (b : _) → None ≡ Some (Reply client b) → ⊥
no_end client b e = cc
