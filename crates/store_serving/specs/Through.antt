-- A node that is served over a port, by the places or the names of its tokens.
use Rattle.std.specs.Prelude.{◌≡◌, ℕ, Bool, true, List, [], map, Option, Some, None, Result}
use Rattle.bundle_port.specs.Bundler.{new_bundler}
use Rattle.bundle_port.specs.Runs as joining
use Rattle.datagram_port.specs.Port.{PortEvent}
use Rattle.datagram_port.specs.Setup.{Setup}
use Rattle.floor_port.specs.Packer.{PackerRecord, new_packer}
use Rattle.floor_port.specs.Runs as telling
use Rattle.floor_port.specs.Runs.{Call, may_make}
use Rattle.floor_store.specs.Content.{Content}
use Rattle.floor_store.specs.Held.{Held}
use Rattle.named_port.specs.Runs.{below_events, handed_events}
use Rattle.named_port.specs.Translator.{TranslatorRecord, new_translator}
use Rattle.oath_node.specs.Hosted.{Hosted}
use Rattle.oath_node.specs.declared.serve_fault.ServeFault.{ServeFault}
use Rattle.oath_node.specs.declared.turns.Served.{Served}
use Rattle.udp_port.specs.Calls.{SocketCalls}
use Rattle.oathd_database.specs.Fault.{serve_end}
use Rattle.node_serving.specs.Setup.{AreEventsOf}
use Rattle.node_serving.specs.Stretches.{ActsOf, ServesIn}
use Rattle.oathd_database.specs.declared.fault.Fault.{Fault}
use Rattle.store_serving.specs.declared.naming.Naming.{Naming}
use Rattle.store_serving.specs.declared.naming.Speech.{Speech}
use Rattle.store_serving.specs.declared.naming.Speech.TheVariants.{Places, Names}

-- ---- the ports between the node and its socket

-- the floors of the rows of a content, in order
abbrev pub floors_in : Content → List ℕ
floors_in content = map (λ row. row.next) content.rows

-- the translator at its start
abbrev pub translator_of : Naming → TranslatorRecord
translator_of naming = new_translator naming.key naming.names naming.node.me naming.node.boot naming.node.known

-- the packer at its start
abbrev pub packer_of : Naming → PackerRecord
packer_of naming =
    new_packer naming.key naming.names naming.node.me naming.node.boot naming.node.members
    (record { gone_back = naming.node.gone_back; known = naming.node.known; floors = naming.floors.items })

-- ---- the turns

-- A node was served for the turns in stretches, or until an answer ended them, through a translator, over a port that
-- tells floors, over one that joins datagrams. All were new at the start. `below` is the record at the end of the port
-- below the last one.
pub record ServesNamed {S : Type 0} (held : S → Held) (acts : ActsOf S) (old new : Hosted S) (start : TranslatorRecord)
    (packer : PackerRecord) (below : Option (List PortEvent)) (turns : ℕ) (answers : ℕ → Bool → Bool → Type 0)
    (end : Result Served ServeFault) : Type 0 where
  -- the events that the translator received, and the node's offers
  pub calls : List PortEvent
  -- the node received what the translator handed in for them
  pub serves : ServesIn held acts old new (Some []) (Some (handed_events start calls)) None None turns answers end
  -- the calls of the port that tells floors
  pub told : List Call
  pub is_made : may_make packer told ≡ true
  -- the translator received what that port handed in, and offered to it what it made of the node's offers
  pub handed_is : below_events start calls ≡ telling.handed_events packer told
  -- the calls of the port that joins datagrams
  pub joined : List joining.Call
  pub is_joined : joining.may_make new_bundler joined ≡ true
  -- the port that tells floors received what that port handed in, and offered to it these offers and the node's floors
  pub told_is : telling.below_events packer told ≡ joining.handed_events new_bundler joined
  -- the port below was offered these datagrams, alone or joined
  pub below_is : (events : List PortEvent) → below ≡ Some events → events ≡ joining.below_events new_bundler joined

-- A node was served for the turns in stretches, or until an answer ended them. It speaks by the places of its tokens
-- over the port with the record `below`, or by their names over the ports of a naming, which were new.
abbrev pub ServesSpeaking : {S : Type 0} → (S → Held) → ActsOf S → Hosted S → Hosted S → Speech → ℕ
    → (ℕ → Bool → Bool → Type 0) → Option (List PortEvent) → Result Served ServeFault → Type 0
ServesSpeaking held acts old new (Places key) turns answers =
    λ below end. ServesIn held acts old new (Some []) below None None turns answers end
ServesSpeaking held acts old new (Names naming) turns answers =
    λ below end. ServesNamed held acts old new (translator_of naming.now) (packer_of naming.now) below turns answers end

-- ---- the socket

-- A node was served over a port with the setup, as `Serves` says by the port's record and the end. The port kept a
-- record, and had received and offered nothing. The run ended with `result`.
pub record IsServedThrough (Serves : Option (List PortEvent) → Result Served ServeFault → Type 0) (setup : Setup)
    (result : Result Served Fault) : Type 0 where
  -- the port's record at the end
  pub events : List PortEvent
  -- the calls of its socket, as the port noted them
  pub calls : SocketCalls
  pub of_setup : AreEventsOf setup calls events
  pub end : Result Served ServeFault
  pub serves : Serves (Some events) end
  pub ends : result ≡ serve_end end

-- a node that speaks by places was served for the turns over a port with the setup
abbrev pub IsServed : {S : Type 0} → (S → Held) → ActsOf S → Hosted S → Hosted S → Setup → ℕ
    → (ℕ → Bool → Bool → Type 0) → Result Served Fault → Type 0
IsServed held acts old new setup turns answers result =
    IsServedThrough (λ below end. ServesIn held acts old new (Some []) below None None turns answers end) setup result

-- a node that speaks by names was served for the turns through a new translator, a new packer and a new bundler over a
-- port with the setup
abbrev pub IsServedNamed : {S : Type 0} → (S → Held) → ActsOf S → Hosted S → Hosted S → Setup → TranslatorRecord
    → PackerRecord → ℕ → (ℕ → Bool → Bool → Type 0) → Result Served Fault → Type 0
IsServedNamed held acts old new setup start packer turns answers result =
    IsServedThrough (λ below end. ServesNamed held acts old new start packer below turns answers end) setup result
