-- The run of a caller's script and rounds.
use Rattle.std.specs.Prelude.{◌≡◌, ℕ, List, Some, map, slice_get}
use Rattle.std.specs.Global.{Vec}
use Rattle.otp_core.specs.Limits.{Limits}
use Rattle.otp_core.specs.Range.{IsNext}
use Rattle.token_file.specs.Credential.{Credential}
use Rattle.oath_node.specs.Machine.{Config}
use Rattle.oath_node.specs.Hosted.{envelope_at}
use Rattle.cluster_sim.specs.Rounds.{RoundLine}
use Rattle.cluster_sim.specs.World.{Act as WorldAct, Says, Deliver, Ticks, Noise, WorldEvent as Event, Happens, Cut, Restart, Lost, Anew, Start, first_start, floor_in}
use Rattle.cluster_sim.specs.declared.rounds.RoundLine.{RoundLine as CallerLine}
use Rattle.cluster_sim.specs.declared.script.Act.{Act}
use Rattle.cluster_sim.specs.declared.script.Act.TheVariants.{Client as ClientAct, Deliver as DeliverAct, Tick as TickAct, Noise as NoiseAct}
use Rattle.cluster_sim.specs.declared.script.WorldEvent.{WorldEvent}
use Rattle.cluster_sim.specs.declared.script.WorldEvent.TheVariants.{Happens as HappensEvent, Cut as CutEvent, Restart as RestartEvent, Lost as LostEvent, Anew as AnewEvent}

-- the act of a caller's act, its bytes read under the key
abbrev pub act_of : List ℕ → Act → WorldAct
act_of key (ClientAct node client moment line) = Says node client moment line.now
act_of key (DeliverAct node k) = Deliver node k
act_of key (TickAct node) = Ticks node
act_of key (NoiseAct node from bytes) = Noise node from (envelope_at key bytes.now)

-- the event of a caller's event, its bytes read under the key
abbrev pub event_of : List ℕ → WorldEvent → Event
event_of key (HappensEvent act) = Happens (act_of key act)
event_of key (CutEvent kept act) = Cut kept (act_of key act)
event_of key (RestartEvent node) = Restart node
event_of key (LostEvent node) = Lost node
event_of key (AnewEvent node boot floors) = Anew node boot floors.now

-- the lists of floors (first free factors), node by node
abbrev pub floor_lists : List (Vec ℕ) → List (List ℕ)
floor_lists lists = map (λ list. list.items) lists

-- a run: the configuration and the start of the nodes, and the events
pub record Run : Type 0 where
  pub config : Config
  pub start : Start
  pub events : List Event

-- the run of a caller's arguments
abbrev pub run_of : List Credential → Limits → List ℕ → List (Vec ℕ) → List WorldEvent → Run
run_of book limits key lists events = record {
  config = record { book = book; limits = limits };
  start = first_start (floor_lists lists);
  events = map (event_of key) events;
}

-- the line of a caller's line
abbrev pub round_line : CallerLine → RoundLine
round_line line = record { node = line.node; client = line.client; moment = line.moment; line = line.line.now }

-- the lines of a caller's lines
abbrev pub round_lines : List CallerLine → List RoundLine
round_lines lines = map round_line lines

-- the floors of a replacement store are in range
abbrev pub HasFloorsInRange : Event → Type 0
HasFloorsInRange (Happens act) = Unit {0}
HasFloorsInRange (Cut kept act) = Unit {0}
HasFloorsInRange (Restart node) = Unit {0}
HasFloorsInRange (Lost node) = Unit {0}
HasFloorsInRange (Anew node boot floors) = (token : ℕ) → IsNext (floor_in floors token)

-- the floors of each replacement store in the events are in range
abbrev pub HaveFloorsInRange : List Event → Type 0
HaveFloorsInRange events =
    (k : ℕ) (event : Event) → slice_get events k ≡ Some event → HasFloorsInRange event
