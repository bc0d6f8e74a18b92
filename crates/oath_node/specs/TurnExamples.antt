-- Worked runs: their views and their receipts.
use Rattle.std.specs.Prelude.{ℕ, ◌+◌, Bool, true, false, List, filter, length, map, replicate, Option, Some, None, codes}
use Rattle.oath_node.specs.Cases.{config, idle_node}
use Rattle.vote_core.specs.Cases.{place}
use Rattle.datagram_port.specs.Port.{PortEvent, Received, Quiet, Faulted, Offered}
use Rattle.oath_node.specs.Turns.{Member, Receipt, FromClient, FromPeer, Run, is_receive, run_at, run_with_batches, run_with_turns}
use Rattle.oath_node.specs.declared.serve_fault.ServeFault.{ServeFault}
use Rattle.datagram_port.specs.declared.port.Sender.TheVariants.{Client, Peer}

-- The view of a run: the counts of datagrams and replies, the recorded offers to members and to clients, and the fault
-- that ended it.
pub record RunView : Type 0 where
  pub received : ℕ
  pub replied : ℕ
  pub to_members : ℕ
  pub to_clients : ℕ
  pub end : Option ServeFault

-- the entry is an offer to a member
abbrev pub is_to_member : PortEvent → Bool
is_to_member (Received sender bytes) = false
is_to_member Quiet = false
is_to_member Faulted = false
is_to_member (Offered (Peer to) bytes) = true
is_to_member (Offered (Client to) bytes) = false

-- the entry is an offer to a client
abbrev pub is_to_client : PortEvent → Bool
is_to_client (Received sender bytes) = false
is_to_client Quiet = false
is_to_client Faulted = false
is_to_client (Offered (Peer to) bytes) = false
is_to_client (Offered (Client to) bytes) = true

-- the view of a run
abbrev pub run_view : Run → RunView
run_view run = record {
  received = run.tally.received;
  replied = run.tally.replied;
  to_members = length (filter is_to_member run.entries);
  to_clients = length (filter is_to_client run.entries);
  end = run.end;
}

-- a member of a cluster of three
abbrev pub first_of_three : Member
first_of_three = record { config = config; key = replicate 32 0; place = place 1 3 }

-- the view of the member's run from the start, with the receipts
abbrev pub run_of : List Receipt → RunView
run_of receipts = run_view (run_with_turns first_of_three receipts (run_at (idle_node 0)))

-- the view of the member's run with the batches
abbrev pub batches_of : List (List Receipt) → RunView
batches_of batches = run_view (run_with_batches first_of_three batches (run_at (idle_node 0)))

-- the entries of the member's run with the batches: true for a receive, false for an offer
abbrev pub order_of : List (List Receipt) → List Bool
order_of batches = map is_receive (run_with_batches first_of_three batches (run_at (idle_node 0))).entries

-- a client's datagram that is not a line
abbrev pub no_line : Receipt
no_line = FromClient 7 (codes "CHECK") (Some 100)

-- the same datagram with a failed clock
abbrev pub line_without_moment : Receipt
line_without_moment = FromClient 7 (codes "CHECK") None

-- a datagram from a member's address that is outside the peer format
abbrev pub noise : Receipt
noise = FromPeer 2 (codes "CHECK")

-- the view of a run without a fault: each tick tells two other members a floor (first free factor)
abbrev pub going_with : ℕ → ℕ → ℕ → RunView
going_with received replied ticks = record {
  received = received;
  replied = replied;
  to_members = ticks + ticks;
  to_clients = replied;
  end = None;
}
