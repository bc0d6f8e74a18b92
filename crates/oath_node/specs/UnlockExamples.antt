-- Nodes whose token is unlocked, and small nodes that break one field of an unlocking. No contract cites them.
use Rattle.std.specs.Prelude.{ℕ, List, [], ◌∷◌, None, Some, codes}
use Rattle.otp_core.specs.Gate.{GateRecord, clear_gate}
use Rattle.floor_store.specs.Broken.{SmallStore, holding}
use Rattle.floor_store.specs.Content.{Content}
use Rattle.floor_store.specs.Records.{RowRecord}
use Rattle.floor_store.specs.declared.fault.StoreFault.TheVariants.{Disk}
use Rattle.vote_core.specs.Cases.{free_row, proposal, shut_row}
use Rattle.oath_node.specs.Broken.{small_node}
use Rattle.oath_node.specs.Cases.{content_with, node_with_kept}
use Rattle.oath_node.specs.Hosted.{Hosted}
use Rattle.oath_node.specs.Machine.{NodeState}

-- a closed row: a grant, a drift and two failures
abbrev pub closed_row : RowRecord
closed_row = shut_row 6 (proposal 2 7 3) 5 5

-- the row after it was unlocked
abbrev pub unlocked_row : RowRecord
unlocked_row = record closed_row { gate = clear_gate }

-- a running node with a kept answer and the rows
abbrev pub node_with_rows : List RowRecord → NodeState
node_with_rows rows = record (node_with_kept (codes "NO a INVALID")) { content = content_with rows }

-- the gate after two failures
abbrev pub closed_gate : GateRecord
closed_gate = record { fails = 2; until = 130 }

-- the content of two tokens with the gates, and with the floor (first free factor) of the first one
abbrev pub two_gates : ℕ → GateRecord → GateRecord → Content
two_gates next first second = record {
  rows = record (free_row next) { gate = first } ∷ record (free_row 3) { gate = second } ∷ [];
  boot = 0;
  last = None;
}

-- the content of two closed tokens, and with the first one unlocked
abbrev pub both_closed : Content
both_closed = two_gates 5 closed_gate closed_gate

abbrev pub first_unlocked : Content
first_unlocked = two_gates 5 clear_gate closed_gate

-- the small node over a store
abbrev pub over : SmallStore → Hosted SmallStore
over store = record small_node { store = store }

-- the store with the content, after a failure of the disk broke it
abbrev pub broken_with : Content → SmallStore
broken_with content = record (holding content) { fault = Some Disk; failures = 1 }
