-- A node is served over a port, by the places or the names of its tokens.
use Rattle.std.proofs.Common.{inl, inr, ◌≡◌, ◌∙◌, ℕ, Bool, true, false, List, [], ◌∷◌, map, Option, Some, None, refl, sym, ap, subst}
use Rattle.std.specs.Prelude.{◌⊎◌, Result, Ok, Err, IfErr, IfOk, IsSome}
use Rattle.std.proofs.lemmas.Option.{same_Some}
use Rattle.std.specs.declared.net.socket_addr.SocketAddrV4.{SocketAddrV4}
use Rattle.sqlite.specs.Store.{Ghosts}
use Rattle.sqlite.specs.Held as sql
use Rattle.bundle_port.specs.Bundler.{BundlerRecord, new_bundler}
use Rattle.bundle_port.specs.Runs as joining
use Rattle.datagram_port.specs.Port.{PortEvent}
use Rattle.datagram_port.specs.Setup.{Keyed, Setup, behind_gate}
use Rattle.floor_sql.specs.Held.{SqlHeld, sql_held}
use Rattle.floor_store.specs.Held.{Held}
use Rattle.floor_port.specs.Packer.{PackerRecord, StartRecord, new_packer}
use Rattle.floor_port.specs.Runs as telling
use Rattle.floor_port.specs.Runs.{Call, may_make}
use Rattle.floor_port.specs.Setup.{telling_setup}
use Rattle.named_port.specs.Runs.{IsAfter, at_start, below_events, handed_events}
use Rattle.named_port.specs.Setup.{named_setup}
use Rattle.named_port.specs.Translator.{TranslatorRecord, new_translator}
use Rattle.named_store.specs.declared.opening.RowCounts.{RowCounts}
use Rattle.node_reports.specs.Responder.{ResponderAnswers}
use Rattle.oath_node.specs.Calls.{IsOpened}
use Rattle.oath_node.specs.Hosted.{Hosted}
use Rattle.oath_node.specs.declared.serve_fault.ServeFault.{ServeFault}
use Rattle.oath_node.specs.declared.turns.Served.{Served}
use Rattle.otp_core.specs.Limits.{Limits}
use Rattle.sealed_port.specs.Gate.{GateRecord}
use Rattle.sealed_port.specs.Setup.{AreHeard, gate_setup, keyed_of}
use Rattle.sealed_port.specs.declared.client.Client.{Client}
use Rattle.sealed_port.specs.declared.operator.Operator.{Operator}
use Rattle.seated_store.specs.Seated.{SeatedRecord, seated_held}
use Rattle.token_file.specs.Credential.{Credential}
use Rattle.token_names.specs.Names.{names_of}
use Rattle.udp_port.specs.Calls.{SocketCalls, events_of_calls}
use Rattle.udp_port.specs.Setup.{setup_of}
use Rattle.oathd_database.specs.Fault.{IsOpenFault, serve_end}
use Rattle.node_serving.specs.Front.{IsFrontFault, IsFrontOf}
use Rattle.node_serving.specs.Gate.{client_from, operator_from}
use Rattle.node_serving.specs.NodeKey.{tag_key}
use Rattle.vote_wire.specs.Key.{bare}
use Rattle.node_serving.specs.Setup.{keyed_from, keyed_operator, setup_behind, setup_for}
use Rattle.node_serving.specs.Stretches.{ActsOf, ServesIn, operator_acts, unasked}
use Rattle.oathd_database.specs.Users.{IsImported}
use Rattle.oathd_database.specs.declared.fault.Fault.{Fault}
use Rattle.oathd_database.specs.declared.fault.Fault.TheVariants.{Memory, CannotWrite, NoClock, Users, Store, Socket}
use Rattle.node_serving.specs.declared.gate.ClientLines.{ClientLines}
use Rattle.node_serving.specs.declared.gate.ClientLines.TheVariants as lines
use Rattle.node_serving.specs.declared.gate.Front.{Front}
use Rattle.node_serving.specs.declared.gate.Front.TheVariants.{Anybody, ThisMachine, Gate}
use Rattle.node_serving.specs.declared.serving.Serving.{Serving}
use Rattle.oathd_roster.specs.Opened.{HasOpenedNamed, IsNotOpened}
use Rattle.store_serving.specs.Ends.{IsEarlyFault, IsNotServed}
use Rattle.store_serving.specs.Served.{EndsServingNamed, HasServedNamed, IsNamingOf, IsServedOver}
use Rattle.store_serving.specs.Through.{IsServedNamed, IsServedThrough, ServesNamed, ServesSpeaking, packer_of, translator_of}
use Rattle.oathd_roster.specs.declared.cluster.NamedCluster.{NamedCluster}
use Rattle.store_serving.specs.declared.naming.Naming.{Naming}
use Rattle.store_serving.specs.declared.naming.Speech.{Speech}
use Rattle.store_serving.specs.declared.naming.Speech.TheVariants.{Places, Names}
use Rattle.oathd_roster.specs.declared.fault.RosterFault.{RosterFault}
use Rattle.oathd_roster.specs.declared.fault.RosterFault.TheVariants.{Command, SameName, AnotherCluster, Full}
use Rattle.node_serving.proofs.StretchLemmas.{stretches_so}
use Rattle.store_serving.proofs.NamedLemmas.{parts_stay}
use Rattle.store_serving.proofs.TellingLemmas.{known_above, telling_stays}

-- ---- a run over a port by names

-- The translator `t` and the packer `p` are at their start, when nothing was received and offered, and `u`, `q` and the
-- bundler `b` are those at the end.
pub served_under : {S : Type 0} (held : S → Held) (acts : ActsOf S) (old new : Hosted S) (turns : ℕ) (answers : ℕ → Bool → Bool → Type 0) (end : Result Served ServeFault) (t u start : TranslatorRecord) (p q packer : PackerRecord)
    (b : BundlerRecord) (none calls : List PortEvent) (told : List Call) (joined : List joining.Call) (was now : Option Setup) (first later : StartRecord) (below : Option (List PortEvent))
    → t ≡ start → start ≡ at_start start → none ≡ [] → p ≡ packer → packer ≡ telling.at_start packer first → IsSome was
    → ServesIn held acts old new (Some (handed_events (at_start t) none)) (Some (handed_events (at_start u) calls)) None None turns answers end
    → named_setup u (telling_setup q later now) ≡ named_setup t (telling_setup p first was)
    → IsAfter (Some (telling.handed_events (telling.at_start q later) told)) u calls
    → telling.IsAfter (Some (joining.handed_events new_bundler joined)) q (telling.at_start q later) told
    → joining.IsAfter below b joined
    → ServesNamed held acts old new start packer below turns answers end × (now ≡ was)
served_under held acts old new turns answers end t u start p q packer b none calls told joined was now first later below is begun fresh is_packer packed known serves same after under over =
    let parts = parts_stay t u (telling_setup p first was) (telling_setup q later now) (known_above p first was known) same in
    let more = telling_stays p q first later was now known parts.1 in
    let begins : at_start u ≡ start = parts.0 ∙ ap at_start is ∙ sym begun in
    let packs : telling.at_start q later ≡ packer = more.0 ∙ ap (λ (one : PackerRecord). telling.at_start one first) is_packer ∙ sym packed in (
      record {
        calls = calls;
        serves =
            subst (λ (f : List PortEvent). ServesIn held acts old new (Some f) (Some (handed_events start calls)) None None turns answers end)
            (ap (handed_events (at_start t)) fresh)
            (subst (λ (s : TranslatorRecord). ServesIn held acts old new (Some (handed_events (at_start t) none)) (Some (handed_events s calls)) None None turns answers end)
            begins serves);
        told = told;
        is_made = subst (λ (one : PackerRecord). may_make one told ≡ true) packs under.is_made;
        handed_is =
            ap (λ (s : TranslatorRecord). below_events s calls) (sym begins)
            ∙ sym (after.below_is (telling.handed_events (telling.at_start q later) told) refl)
            ∙ ap (λ (one : PackerRecord). telling.handed_events one told) packs;
        joined = joined;
        is_joined = over.is_made;
        told_is =
            ap (λ (one : PackerRecord). telling.below_events one told) (sym packs)
            ∙ sym (under.below_is (joining.handed_events new_bundler joined) refl);
        below_is = over.below_is;
      },
      more.1,
    )

module _ (Serves : Option (List PortEvent) → Result Served ServeFault → Type 0) (result : Result Served Fault) (end : Result Served ServeFault)
    (skips alone : Bool) (members : List SocketAddrV4) (calls : SocketCalls) (setup : Setup) (ends : result ≡ serve_end end) where
  -- a node was served over a socket's port
  pub served_plain : Serves (Some (events_of_calls skips alone members calls)) end → Some (setup_of skips alone members) ≡ Some setup
      → IsServedThrough Serves setup result
  served_plain serves stays =
      subst (λ (s : Setup). IsServedThrough Serves s result) (same_Some (setup_of skips alone members) setup stays) (record {
        events = events_of_calls skips alone members calls;
        calls = calls;
        of_setup = refl;
        end = end;
        serves = serves;
        ends = ends;
      })

  -- a node was served over a gate's port
  pub served_sealed : (gate : GateRecord) (events : List PortEvent) → Serves (Some events) end
      → ∥ AreHeard (gate_setup gate) (events_of_calls skips alone members calls) events ∥₁
      → Some (behind_gate (gate_setup gate) (setup_of skips alone members)) ≡ Some setup → IsServedThrough Serves setup result
  served_sealed gate events serves heard stays =
      subst (λ (s : Setup). IsServedThrough Serves s result)
      (same_Some (behind_gate (gate_setup gate) (setup_of skips alone members)) setup stays) (record {
        events = events;
        calls = calls;
        of_setup = heard;
        end = end;
        serves = serves;
        ends = ends;
      })

-- the port as it is made
pub setup_made : (skips alone is : Bool) (members all : List SocketAddrV4) → skips ≡ true → alone ≡ is → members ≡ all → setup_of skips alone members ≡ setup_of true is all
setup_made skips alone is members all h k l =
    ap (λ (s : Bool). setup_of s alone members) h ∙ ap (λ (a : Bool). setup_of true a members) k ∙ ap (setup_of true is) l

-- the gate's port as it is made
pub sealed_made : (gate given : GateRecord) (skips alone : Bool) (members all : List SocketAddrV4) → gate ≡ given → skips ≡ true → alone ≡ false → members ≡ all
    → behind_gate (gate_setup gate) (setup_of skips alone members) ≡ behind_gate (gate_setup given) (setup_of true false all)
sealed_made gate given skips alone members all e h k l =
    ap (λ (one : GateRecord). behind_gate (gate_setup one) (setup_of skips alone members)) e
    ∙ ap (behind_gate (gate_setup given)) (setup_made skips alone false members all h k l)

-- ---- the front of the lines

clients_keyed : {E : Type 0} (client : E → Client) (keyed : E → Keyed) (entries : List E) → ((entry : E) → keyed_of (client entry) ≡ keyed entry)
    → map keyed_of (map client entries) ≡ map keyed entries
clients_keyed client keyed [] same = refl
clients_keyed client keyed (entry ∷ entries) same =
    ap (λ (one : Keyed). one ∷ map keyed_of (map client entries)) (same entry)
    ∙ ap (λ (all : List Keyed). keyed entry ∷ all) (clients_keyed client keyed entries same)

abbrev keyed_in : Operator → Keyed
keyed_in operator = keyed_of operator.holder

operators_keyed : {E : Type 0} (operator : E → Operator) (keyed : E → Keyed) (entries : List E)
    → ((entry : E) → keyed_in (operator entry) ≡ keyed entry) → map keyed_in (map operator entries) ≡ map keyed entries
operators_keyed operator keyed [] same = refl
operators_keyed operator keyed (entry ∷ entries) same =
    ap (λ (one : Keyed). one ∷ map keyed_in (map operator entries)) (same entry)
    ∙ ap (λ (all : List Keyed). keyed entry ∷ all) (operators_keyed operator keyed entries same)

abbrev setup_with : ℕ → List Keyed → List Keyed → List ℕ → Option ℕ → List SocketAddrV4 → Setup
setup_with node clients operators plain most members =
    behind_gate (record { node = node; clients = clients; operators = operators; plain = plain; most = most }) (setup_of true false members)

-- the port behind the front of the lines is the port for these lines
setup_is : (node : ℕ) (opened : Option ℕ) (members : List SocketAddrV4) (given : ClientLines) (front : Front) → IsFrontOf node opened given front
    → setup_behind members front ≡ setup_for node members given
setup_is node opened members lines.Anybody Anybody is = refl
setup_is node opened members lines.Anybody ThisMachine is = absurd is
setup_is node opened members lines.Anybody (Gate gate) is = absurd is
setup_is node opened members lines.ThisMachine Anybody is = absurd is
setup_is node opened members lines.ThisMachine ThisMachine is = refl
setup_is node opened members lines.ThisMachine (Gate gate) is = absurd is
setup_is node opened members (lines.Of clients) Anybody is = absurd is
setup_is node opened members (lines.Of clients) ThisMachine is = absurd is
setup_is node opened members (lines.Of clients) (Gate gate) is =
    ap (λ (one : GateRecord). behind_gate (gate_setup one) (setup_of true false members)) is.2
    ∙ ap (λ (all : List Keyed). setup_with node all (map keyed_in (map (operator_from clients.ahead is.0) clients.operators.items))
    clients.plain.items clients.failures members)
    (clients_keyed (client_from clients.ahead is.0) (keyed_from clients.ahead) clients.clients.items (λ entry. refl))
    ∙ ap (λ (all : List Keyed). setup_with node (map (keyed_from clients.ahead) clients.clients.items) all clients.plain.items clients.failures members)
    (operators_keyed (operator_from clients.ahead is.0) (keyed_operator clients.ahead) clients.operators.items (λ entry. refl))

-- a run that is served over one setup is served over the same one
pub served_over : {Serves : Option (List PortEvent) → Result Served ServeFault → Type 0} {result : Result Served Fault} {me number : ℕ} {made members : List SocketAddrV4}
    (opened : Option ℕ) (given : ClientLines) (front : Front) → made ≡ members → IsFrontOf me opened given front → me ≡ number
    → IsServedThrough Serves (setup_behind made front) result → IsServedThrough Serves (setup_for number members given) result
served_over {Serves} {result} {me} {number} {made} {members} opened given front same is who served =
    subst (λ (s : Setup). IsServedThrough Serves s result)
    (ap (λ (all : List SocketAddrV4). setup_behind all front) same
    ∙ setup_is number opened members given front (subst (λ (n : ℕ). IsFrontOf n opened given front) who is)) served

-- a responder over something of whose answers nothing is told
desk_unasked : (answers : ℕ → Bool → Bool → Type 0) (left : ℕ) (waits ends : Bool) → ResponderAnswers answers left waits ends
    → ResponderAnswers unasked left waits ends
desk_unasked answers left waits ends h = record { told = h.told; told_is = h.told_is; own = h.own; answered = tt; own_ends = h.own_ends }

-- nothing is told of the answers below a responder
speaking_unasked : {S : Type 0} (held : S → Held) (acts : ActsOf S) (old new : Hosted S) (speech : Speech) (turns : ℕ) (answers : ℕ → Bool → Bool → Type 0)
    (below : Option (List PortEvent)) (end : Result Served ServeFault) → ServesSpeaking held acts old new speech turns (ResponderAnswers answers) below end
    → ServesSpeaking held acts old new speech turns (ResponderAnswers unasked) below end
speaking_unasked held acts old new (Places key) turns answers below end serves =
    stretches_so held acts old new (Some []) below None None turns (ResponderAnswers answers) (ResponderAnswers unasked) end (desk_unasked answers) serves
speaking_unasked held acts old new (Names naming) turns answers below end serves = record {
  calls = serves.calls;
  serves = stretches_so held acts old new (Some []) (Some (handed_events (translator_of naming.now) serves.calls)) None None turns (ResponderAnswers answers) (ResponderAnswers unasked) end
      (desk_unasked answers) serves.serves;
  told = serves.told;
  is_made = serves.is_made;
  handed_is = serves.handed_is;
  joined = serves.joined;
  is_joined = serves.is_joined;
  told_is = serves.told_is;
  below_is = serves.below_is;
}

served_unasked : {S : Type 0} (held : S → Held) (acts : ActsOf S) (old new : Hosted S) (setup : Setup) (speech : Speech) (turns : ℕ) (answers : ℕ → Bool → Bool → Type 0)
    (result : Result Served Fault) → IsServedThrough (ServesSpeaking held acts old new speech turns (ResponderAnswers answers)) setup result
    → IsServedThrough (ServesSpeaking held acts old new speech turns (ResponderAnswers unasked)) setup result
served_unasked held acts old new setup speech turns answers result h = record {
  events = h.events;
  calls = h.calls;
  of_setup = h.of_setup;
  end = h.end;
  serves = speaking_unasked held acts old new speech turns answers (Some h.events) h.end h.serves;
  ends = h.ends;
}

-- a translator of the same parts is the same
pub start_is : (key all : List ℕ) (names others : List (List ℕ)) (me number boot : ℕ) (known : List ℕ) → key ≡ all → names ≡ others → me ≡ number
    → new_translator key names me boot known ≡ new_translator all others number boot known
start_is key all names others me number boot known one two three =
    ap (λ (k : List ℕ). new_translator k names me boot known) one ∙ ap (λ (n : List (List ℕ)). new_translator all n me boot known) two
    ∙ ap (λ (m : ℕ). new_translator all others m boot known) three

-- what a packer begins with
abbrev pub start_of : List Bool → List ℕ → List ℕ → StartRecord
start_of gone_back known floors = record { gone_back = gone_back; known = known; floors = floors }

-- a packer of the same parts is the same
pub packer_is : (key all : List ℕ) (names others : List (List ℕ)) (me number boot members count : ℕ) (start : StartRecord) → key ≡ all → names ≡ others → me ≡ number → members ≡ count
    → new_packer key names me boot members start ≡ new_packer all others number boot count start
packer_is key all names others me number boot members count start one two three four =
    ap (λ (k : List ℕ). new_packer k names me boot members start) one ∙ ap (λ (n : List (List ℕ)). new_packer all n me boot members start) two
    ∙ ap (λ (m : ℕ). new_packer all others m boot members start) three ∙ ap (λ (c : ℕ). new_packer all others number boot c start) four

-- ---- want of memory before the first turn

abbrev failed : Fault → Result Served Fault
failed fault = Err fault

err_same : (fault other : Fault) → failed fault ≡ failed other → fault ≡ other
err_same fault other e = cc

-- who was served wasn't short of memory
pub not_early : {A B : Type 0} (served : Served) → ((Ok served ≡ failed Memory) × B) ⊎ A → A
not_early served (inl memory) = let clash = memory.0 in absurd cc
not_early served (inr run) = run

-- ---- a run in a boot

module _ {S : Type 0} (held : S → Held) (serving : Serving) (book : List Credential) (names : List (List ℕ)) (store : S) (naming : Naming) (is : IsNamingOf serving book names (held store) naming) where
  -- the translator and the packer at their start
  translator_is : translator_of naming ≡ new_translator (tag_key serving.key book) names serving.place.me naming.node.boot naming.node.known
  translator_is = start_is _ _ _ _ _ _ naming.node.boot naming.node.known is.of_key is.of_names is.of_node

  packing_is : packer_of naming ≡ new_packer (tag_key serving.key book) names serving.place.me naming.node.boot serving.place.n (start_of naming.node.gone_back naming.node.known naming.floors.items)
  packing_is = packer_is _ _ _ _ _ _ naming.node.boot _ _ (start_of naming.node.gone_back naming.node.known naming.floors.items) is.of_key is.of_names is.of_node is.of_members

  module _ (first last : Hosted S) (in_boot : IsOpened held store first) (of_book : first.book ≡ book)
      (of_limits : first.limits ≡ serving.settings) (of_key : first.key ≡ bare) (of_place : first.voter.place ≡ serving.place) where
    -- a node that is served over its store
    pub served_by : (answers : ℕ → Bool → Bool → Type 0) (result : Result Served Fault)
        → IsServedNamed held (operator_acts held) first last (setup_for serving.place.me serving.members.items serving.lines) (translator_of naming) (packer_of naming) serving.turns answers result
        → IsServedOver held serving book names store answers result
    served_by answers result run = record {
      first = first;
      in_boot = in_boot;
      of_book = of_book;
      of_limits = of_limits;
      of_key = of_key;
      of_place = of_place;
      last = last;
      boot = naming.node.boot;
      boot_is = is.boot_is;
      floors = naming.floors.items;
      floors_are = is.floors_are;
      gone_back = naming.node.gone_back;
      known = naming.node.known;
      served_is =
          subst (λ (t : TranslatorRecord). IsServedNamed held (operator_acts held) first last (setup_for serving.place.me serving.members.items serving.lines) t
          (new_packer (tag_key serving.key book) names serving.place.me naming.node.boot serving.place.n (start_of naming.node.gone_back naming.node.known naming.floors.items)) serving.turns answers result)
          translator_is
          (subst (λ (p : PackerRecord). IsServedNamed held (operator_acts held) first last (setup_for serving.place.me serving.members.items serving.lines) (translator_of naming) p serving.turns answers result)
          packing_is run);
    }

    -- the node's run ends with a fault before the first turn, or in a turn
    pub ends_by : (fault : Fault)
        → IsEarlyFault fault ⊎ IsServedNamed held (operator_acts held) first last (setup_for serving.place.me serving.members.items serving.lines) (translator_of naming) (packer_of naming) serving.turns (ResponderAnswers unasked) (Err fault)
        → IsEarlyFault fault ⊎ IsServedOver held serving book names store (ResponderAnswers unasked) (Err fault)
    ends_by fault (inl early) = inl early
    ends_by fault (inr run) = inr (served_by (ResponderAnswers unasked) (Err fault) run)

-- ---- results

pub then_ok : {T E : Type 0} (r : Result T E) (P Q : T → Type 0) → ((x : T) → P x → Q x) → IfOk r P → IfOk r Q
then_ok (Ok x) P Q f h = f x h
then_ok (Err e) P Q f h = tt

pub then_err : {T E : Type 0} (r : Result T E) (P Q : E → Type 0) → ((x : E) → P x → Q x) → IfErr r P → IfErr r Q
then_err (Ok x) P Q f h = tt
then_err (Err e) P Q f h = f e h

-- ---- the faults before the first turn

pub early_open : (fault : Fault) → IsOpenFault fault → IsEarlyFault fault
early_open Memory is = tt
early_open CannotWrite is = is
early_open NoClock is = tt
early_open (Users fault) is = is
early_open (Store fault) is = tt
early_open Socket is = tt

pub early_front : (fault : Fault) → IsFrontFault fault → IsEarlyFault fault
early_front Memory is = tt
early_front CannotWrite is = is
early_front NoClock is = tt
early_front (Users fault) is = is
early_front (Store fault) is = tt
early_front Socket is = tt

-- a fault of the socket, or of the allocator
pub early_is : (fault one : Fault) → IsEarlyFault one → fault ≡ one → IsEarlyFault fault
early_is fault one is same = subst IsEarlyFault (sym same) is

-- who met want of memory at the responder met it before the first turn
pub ends_with_responder : {A B C : Type 0} (fault : Fault) → (A → C) → ((fault ≡ Memory) × B) ⊎ A → IsEarlyFault fault ⊎ C
ends_with_responder fault so (inl memory) = inl (early_is fault Memory tt memory.0)
ends_with_responder fault so (inr run) = inr (so run)

-- ---- the command

module _ (limits : Limits) (moment longest : ℕ) (book : List Credential) (floors : List ℕ) where
  pub early_failed : (fault : Fault) (text : List ℕ) → IsImported limits moment longest book floors text → IsEarlyFault fault → IsNotServed limits moment longest fault text
  early_failed Memory text h is = tt
  early_failed CannotWrite text h is = absurd is
  early_failed NoClock text h is = record { book = book; floors = floors; imported = h }
  early_failed (Users fault) text h is = absurd is
  early_failed (Store fault) text h is = record { book = book; floors = floors; imported = h }
  early_failed Socket text h is = record { book = book; floors = floors; imported = h }

module _ {S : Type 0} (g : Ghosts S) (finds : sql.Held S → Type 0) (cluster : NamedCluster) (moment : ℕ) (serving : Serving) where
  refused : (fault : Fault) (text : List ℕ) → IsNotOpened g finds cluster serving.settings moment 16777216 serving.place.me (Command fault) text
      → IsNotServed serving.settings moment 16777216 fault text
  refused Memory text h = tt
  refused CannotWrite text h = h
  refused NoClock text h = absurd h
  refused (Users fault) text h = h
  refused (Store fault) text h = h
  refused Socket text h = absurd h

  -- no store is opened
  pub ends_unopened : (fault : RosterFault) (text : List ℕ)
      → IsNotOpened g finds cluster serving.settings moment 16777216 serving.place.me fault text
      → EndsServingNamed g finds cluster moment serving fault text
  ends_unopened (Command fault) text h = inl (refused fault text h)
  ends_unopened (SameName row) text h = h
  ends_unopened AnotherCluster text h = h
  ends_unopened Full text h = h

  module _ (text : List ℕ) (book : List Credential) (floors : List ℕ) (imported : IsImported serving.settings moment 16777216 book floors text)
      (found : SeatedRecord (SqlHeld S)) (counts : RowCounts) (opened : HasOpenedNamed g finds cluster serving.settings moment serving.place.me book floors found counts)
      (names : List (List ℕ)) (are : names ≡ names_of cluster.salt book) where
    -- the node is served
    pub has_served : (answers : ℕ → Bool → Bool → Type 0) (result : Result Served Fault)
        → IsServedOver (seated_held (sql_held g)) serving book names found (ResponderAnswers answers) result
        → HasServedNamed g finds cluster moment serving answers result text
    has_served answers result over = record {
      import = record { book = book; floors = floors; imported = imported };
      found = found;
      counts = counts;
      opened = opened;
      over = subst (λ (all : List (List ℕ)). IsServedOver (seated_held (sql_held g)) serving book all found (ResponderAnswers answers) result) are over;
    }

    -- a fault ends it
    pub ends_served : (fault : Fault) → IsEarlyFault fault ⊎ IsServedOver (seated_held (sql_held g)) serving book names found (ResponderAnswers unasked) (Err fault)
        → EndsServingNamed g finds cluster moment serving (Command fault) text
    ends_served fault (inl early) = inl (early_failed serving.settings moment 16777216 book floors fault text imported early)
    ends_served fault (inr over) = inr (has_served unasked (Err fault) over)

-- who was not served to the end wasn't served, for want of memory, or was served till the fault
pub ends_responding : {S B : Type 0} (held : S → Held) (acts : ActsOf S) (old new : Hosted S) (setup : Setup) (speech : Speech) (turns : ℕ)
    (answers : ℕ → Bool → Bool → Type 0) (fault : Fault)
    → ((failed fault ≡ failed Memory) × B) ⊎ IsServedThrough (ServesSpeaking held acts old new speech turns (ResponderAnswers answers)) setup (Err fault)
    → ((fault ≡ Memory) × B) ⊎ IsServedThrough (ServesSpeaking held acts old new speech turns (ResponderAnswers unasked)) setup (Err fault)
ends_responding held acts old new setup speech turns answers fault (inl memory) = inl (err_same fault Memory memory.0, memory.1)
ends_responding held acts old new setup speech turns answers fault (inr run) =
    inr (served_unasked held acts old new setup speech turns answers (Err fault) run)
