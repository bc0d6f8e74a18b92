-- The content of a script, as values.
use Rattle.std.specs.Prelude.{ℕ, Bool, List, [], map}
use Rattle.cluster_sim.specs.Run.{round_lines}
use Rattle.cluster_sim.specs.Rounds.{RoundLine}
use Rattle.cluster_sim.specs.declared.script.Act.{Act as SimAct}
use Rattle.cluster_sim.specs.declared.script.Act.TheVariants as act
use Rattle.cluster_sim.specs.declared.script.WorldEvent.{WorldEvent}
use Rattle.cluster_sim.specs.declared.script.WorldEvent.TheVariants as event
use Rattle.oathd_sim.specs.declared.script.Script.{Script}

-- An action at a node. A client's line arrives at a moment. The datagram that was sent as number k arrives. Some time
-- passes. Bytes arrive from an address.
pub data Act : Type 0 where
  Says : (node client moment : ℕ) (line : List ℕ) → Act
  Deliver : (node k : ℕ) → Act
  Ticks : (node : ℕ) → Act
  Noise : (node from : ℕ) (bytes : List ℕ) → Act

-- An event. A node acts. A node stops during an action, which keeps or loses its change. A node restarts. A node's
-- store is lost. It is replaced, at a boot and with floors (floor: the first free factor of a token).
pub data Event : Type 0 where
  Happens : (act : Act) → Event
  Cut : (kept : Bool) (act : Act) → Event
  Restart : (node : ℕ) → Event
  Lost : (node : ℕ) → Event
  Anew : (node boot : ℕ) (floors : List ℕ) → Event

-- the record of an action of the code
abbrev pub act_of : SimAct → Act
act_of (act.Client node client moment line) = Says node client moment line.now
act_of (act.Deliver node k) = Deliver node k
act_of (act.Tick node) = Ticks node
act_of (act.Noise node from bytes) = Noise node from bytes.now

-- the record of an event of the code
abbrev pub event_of : WorldEvent → Event
event_of (event.Happens act) = Happens (act_of act)
event_of (event.Cut kept act) = Cut kept (act_of act)
event_of (event.Restart node) = Restart node
event_of (event.Lost node) = Lost node
event_of (event.Anew node boot floors) = Anew node boot floors.now

-- The content of a script: events, then live members, then clients' lines at these, each in a round of its own. A
-- script without rounds may have no live members.
pub record ScriptRecord : Type 0 where
  pub events : List Event
  pub live : List ℕ
  pub rounds : List RoundLine

-- a script of events alone
abbrev pub eventful : List Event → ScriptRecord
eventful events = record { events = events; live = []; rounds = [] }

-- an empty script
abbrev pub empty_script : ScriptRecord
empty_script = eventful []

-- the record of a script of the code
abbrev pub script_value : Script → ScriptRecord
script_value script = record {
  events = map event_of script.events.items;
  live = script.live.items;
  rounds = round_lines script.rounds.items;
}
