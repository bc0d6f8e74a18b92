-- Worked entries of a port's record, and small nodes, each of which breaks one field of a promise. No contract cites
-- them.
use Rattle.std.specs.Prelude.{ℕ, List, [], ◌∷◌, replicate, Option, Some, Result, Ok, Err, codes}
use Rattle.std.specs.List.{flat_map}
use Rattle.floor_store.specs.Broken.{SmallStore, small_held}
use Rattle.floor_store.specs.declared.fault.StoreFault.TheVariants.{Disk}
use Rattle.vote_core.specs.declared.message.Message.TheVariants.{Floor}
use Rattle.vote_wire.specs.Datagram.{datagram_bytes}
use Rattle.oath_node.specs.Cases.{idle_node}
use Rattle.oath_node.specs.Hosted.{Hosted, state_of}
use Rattle.oath_node.specs.Machine.{Owner}
use Rattle.oath_node.specs.declared.fault.NodeFault.{NodeFault}
use Rattle.oath_node.specs.declared.fault.NodeFault.TheVariants.{Store as StoreFailed}
use Rattle.datagram_port.specs.Port.{PortEvent, Received, Offered}
use Rattle.oath_node.specs.TurnExamples.{first_of_three}
use Rattle.oath_node.specs.Turns.{Receipt, Run, run_at, run_with_batches, run_with_turns}
use Rattle.oath_node.specs.declared.serve_fault.ServeFault.{ServeFault}
use Rattle.datagram_port.specs.declared.port.Sender.TheVariants.{Client, Peer}
use Rattle.oath_node.specs.declared.turns.Served.{Served}

-- ---- Entries

-- the entries of a run of node 1 of three from the start, with the receipts
abbrev pub entries_of : List Receipt → List PortEvent
entries_of receipts = (run_with_turns first_of_three receipts (run_at (idle_node 0))).entries

-- the entries of the run with the batches
abbrev pub entries_of_batches : List (List Receipt) → List PortEvent
entries_of_batches batches = (run_with_batches first_of_three batches (run_at (idle_node 0))).entries

-- the receive of a client's datagram that is not a line
abbrev pub no_line_came : PortEvent
no_line_came = Received (Client 7) (codes "CHECK")

-- the reply to the datagram
abbrev pub bad_line_replied : PortEvent
bad_line_replied = Offered (Client 7) (codes "NO - BADLINE")

-- `count` of these receives, each followed by its reply
abbrev pub lines_replied : ℕ → List PortEvent
lines_replied count = flat_map (λ event. event ∷ bad_line_replied ∷ []) (replicate count no_line_came)

-- the datagram that tells a member the floor (first free factor) of a token
abbrev pub floor_told : ℕ → ℕ → ℕ → PortEvent
floor_told to token next = Offered (Peer to) (datagram_bytes (replicate 32 0) 1 to (Floor token next))

-- ---- Nodes

-- the run of a node over a small store, without receipts
abbrev pub run_from : Hosted SmallStore → Run
run_from node = run_at (state_of small_held node)

-- the counts of a run
abbrev pub served : ℕ → ℕ → Result Served ServeFault
served received replied = Ok (record { received = received; replied = replied })

-- the end of a run by the fault
abbrev pub ended_by : ServeFault → Result Served ServeFault
ended_by fault = Err fault

-- a failure of the node's store
abbrev pub store_failed : NodeFault
store_failed = StoreFailed Disk

-- an empty record of a port or a clock
abbrev pub nothing_yet : {A : Type 0} → Option (List A)
nothing_yet = Some []

-- the owner of a proposal for a line of client 7
abbrev pub a_line : Owner
a_line = record { seq = 0; client = 7; line = []; nonce = [] }
