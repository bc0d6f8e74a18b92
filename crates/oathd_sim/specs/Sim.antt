-- The report and the end of a simulation over one input.
use Rattle.std.specs.Prelude.{◌≡◌, ℕ, ◌+◌, List, [], length, map, replicate, take, Option, Some, None, Result, Ok, Err, IsTrue}
use Rattle.std.specs.Io.KnownBytes.{Appends}
use Rattle.otp_core.specs.Limits.{Limits}
use Rattle.token_file.specs.UsersFile.{Import, IsCutOff, book_of, instant_of, is_of_text}
use Rattle.token_file.specs.declared.fault.FileFault.{FileFault}
use Rattle.token_file.specs.declared.fault.LineFault.{LineFault}
use Rattle.token_file.specs.declared.fault.LineFault.TheVariants.{Read}
use Rattle.oath_node.specs.Hosted.{envelope_at}
use Rattle.oath_node.specs.Machine.{Config}
use Rattle.cluster_sim.specs.World as world
use Rattle.cluster_sim.specs.World.{ReportValue, first_start, report_of}
use Rattle.cluster_sim.specs.Rounds.{events_with_rounds}
use Rattle.oathd_sim.specs.Event.{Act, Says, Deliver, Ticks, Noise, Event, Happens, Cut, Restart, Lost, Anew, ScriptRecord, empty_script}
use Rattle.oathd_sim.specs.ReportText.{report_text}
use Rattle.oathd_sim.specs.Script.{with_line}
use Rattle.oathd_sim.specs.Turns.{state_after}
use Rattle.users_input.specs.Input.{TextLine, lines_of, rest_part, users_file, users_part}
use Rattle.oathd_sim.specs.declared.fault.Fault.{Fault}
use Rattle.oathd_sim.specs.declared.fault.Fault.TheVariants.{Memory, CannotRead, CannotWrite, Users, ScriptLine}

-- ---- The script

-- A script with one line more, for `nodes` nodes. A line that continues past the limit is bad, whatever it begins with.
abbrev pub with_text_line : ℕ → ScriptRecord → TextLine → Option ScriptRecord
with_text_line nodes script None = None
with_text_line nodes script (Some line) = with_line nodes script line

-- the script of lines that are numbered from `first`, for `nodes` nodes, or the number of the first bad line
abbrev pub script_lines : ℕ → ℕ → List TextLine → Result ScriptRecord ℕ
script_lines nodes first lines = state_after (with_text_line nodes) first empty_script lines

-- The script in the lines of an input. Lines are numbered from 1; the script follows the users file and `%%`.
abbrev pub script_of_input : ℕ → List TextLine → Result ScriptRecord ℕ
script_of_input nodes lines = script_lines nodes (length (users_part lines) + 2) (rest_part lines)

-- an action of a script, in the world of a cluster under a key
abbrev pub act_under : List ℕ → Act → world.Act
act_under key (Says node client moment line) = world.Says node client moment line
act_under key (Deliver node k) = world.Deliver node k
act_under key (Ticks node) = world.Ticks node
act_under key (Noise node from bytes) = world.Noise node from (envelope_at key bytes)

-- an event of a script, in the world of a cluster under a key
abbrev pub event_under : List ℕ → Event → world.WorldEvent
event_under key (Happens act) = world.Happens (act_under key act)
event_under key (Cut kept act) = world.Cut kept (act_under key act)
event_under key (Restart node) = world.Restart node
event_under key (Lost node) = world.Lost node
event_under key (Anew node boot floors) = world.Anew node boot floors

-- All events of a script over nodes with a configuration and floors (floor: the first free factor). Its own events come
-- first; a round among its live members follows for each further line.
abbrev pub script_events : Config → List (List ℕ) → List ℕ → ScriptRecord → List world.WorldEvent
script_events config floors key script =
    events_with_rounds config (first_start floors) (map (event_under key) script.events) script.live script.rounds

-- ---- The simulation

-- a cluster's parameters: the number of nodes, their limits, the moment of the users' import, and the key
pub record Setup : Type 0 where
  pub nodes : ℕ
  pub limits : Limits
  pub moment : ℕ
  pub key : List ℕ

-- the result of a simulation over one input
pub data Sim : Type 0 where
  -- the users file has a fault
  Refused : FileFault → Sim
  -- the number, from 1 in the whole input, of the script's first bad line
  BadScript : ℕ → Sim
  -- the report of the run
  Reports : ReportValue → Sim

-- a script's simulation: each node opens with the floors of the import
abbrev pub sim_of_script : Setup → Import → Result ScriptRecord ℕ → Sim
sim_of_script setup import (Err number) = BadScript number
sim_of_script setup import (Ok script) =
    let config : Config = record { book = import.book; limits = setup.limits } in
    let floors : List (List ℕ) = replicate setup.nodes import.floors in
    Reports (report_of config (first_start floors) (script_events config floors setup.key script))

-- the simulation after the users file was read: an import, or its first fault
abbrev pub sim_of_users : Setup → Result Import (ℕ × LineFault) → Result ScriptRecord ℕ → Sim
sim_of_users setup (Err fault) script = Refused (record { line = fault.0; kind = fault.1 })
sim_of_users setup (Ok import) script = sim_of_script setup import script

-- the import of the users file in the bytes that were read of an input
abbrev pub import_read : Limits → ℕ → ℕ → ℕ → List ℕ → Result Import (ℕ × LineFault)
import_read limits moment longest limit read =
    book_of longest (instant_of limits moment) (users_file (lines_of limit read) read)

-- the script for `nodes` nodes in the bytes that were read of an input
abbrev pub script_read : ℕ → ℕ → List ℕ → Result ScriptRecord ℕ
script_read nodes limit read = script_of_input nodes (lines_of limit read)

-- the simulation over the bytes that were read of an input
abbrev pub sim_read : Setup → ℕ → ℕ → List ℕ → Sim
sim_read setup longest limit read =
    sim_of_users setup (import_read setup.limits setup.moment longest limit read) (script_read setup.nodes limit read)

-- The simulation over a text, with at most `longest` bytes for a users file and `limit` bytes for the input. One more
-- byte is read, to see whether the input continues.
abbrev pub sim_of : Setup → ℕ → ℕ → List ℕ → Sim
sim_of setup longest limit text = sim_read setup longest limit (take (limit + 1) text)

-- the output of a simulation
abbrev pub output_of : Sim → List ℕ
output_of (Refused fault) = []
output_of (BadScript number) = []
output_of (Reports report) = report_text report

-- the end of a simulation
abbrev pub end_of : Sim → Result Unit Fault
end_of (Refused fault) = Err (Users fault)
end_of (BadScript number) = Err (ScriptLine number)
end_of (Reports report) = Ok tt

-- the users file of a simulation is accepted
abbrev pub IsTaken : Sim → Type 0
IsTaken (Refused fault) = ⊥
IsTaken (BadScript number) = Unit {0}
IsTaken (Reports report) = Unit {0}

-- The call ends as the simulation does and has written exactly its output, except in these cases. After a refused
-- allocation or a failure of the input, nothing is written; a failure within the users file is a fault of that file.
-- After a failure of the output, the users file and the script were good, and nothing more is promised.
abbrev pub EndsSo : Sim → Result Unit Fault → Option (List ℕ) → Option (List ℕ) → Type 0
EndsSo sim (Err Memory) old new = Appends old new []
EndsSo sim (Err CannotRead) old new = IsTaken sim × Appends old new []
EndsSo sim (Err CannotWrite) old new = end_of sim ≡ Ok tt
EndsSo sim (Err (Users fault)) old new =
    (IsTrue (is_of_text fault.kind) → Err (Users fault) ≡ end_of sim) × Appends old new []
EndsSo sim result old new = (result ≡ end_of sim) × Appends old new (output_of sim)

-- If the input fails within a users file, the fault names the line that was being read, and the text before it has no
-- fault.
abbrev pub IsCutSo : Limits → ℕ → ℕ → ℕ → List ℕ → Fault → Type 0
IsCutSo limits moment longest limit read (Users fault) = fault.kind ≡ Read
    → IsCutOff Read longest (instant_of limits moment) (users_file (lines_of limit read) read) fault.line
IsCutSo limits moment longest limit read fault = Unit {0}
