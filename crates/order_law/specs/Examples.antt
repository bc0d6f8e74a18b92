-- Worked interleavings of book_law's three nodes and two users. Silver logs in at node 1, and node 2 grants it. Her
-- number is 0 at node 1, and 1 at node 2. Floor: the first free factor of a token at a node.
use Rattle.std.specs.Prelude.{ℕ, ◌+◌, List, [], ◌∷◌, ◌++◌, map, Some, codes}
use Rattle.client_lines.specs.declared.answer.Outcome.TheVariants.{Accepted}
use Rattle.cluster_sim.specs.Examples.{told_outcome}
use Rattle.floor_store.specs.Records.{span_of}
use Rattle.vote_core.specs.Schedule.{Envelope}
use Rattle.vote_core.specs.declared.message.Message.TheVariants.{Ask, Floor, Grant}
use Rattle.vote_wire.specs.Datagram.{datagram_bytes}
use Rattle.vote_wire.specs.Key.{bare}
use Rattle.oath_node.specs.Machine.{NodeEvent, Peer}
use Rattle.oath_node.specs.Turns.{FromClient, FromPeer}
use Rattle.book_law.specs.Examples.{alone, ask_for, grant_for, maple_first, proposal_of_boot, silver_alone, silver_first, silver_line, silver_ok, silver_row, silver_text}
use Rattle.book_law.specs.Lives.{Enrols, Store, Terms, store_with_rows}
use Rattle.order_law.specs.Interleavings.{Item}
use Rattle.order_law.specs.Steps.{Closed, Commits, Does, Ends, Gone, Hears, Open, Place, Replies, Says, Sends, Starts, Step, Telling, place_after, live_at}

-- a step of a node
abbrev pub at : ℕ → Step → Item
at node step = record { node = node; step = step }

-- node 1's Ask of factor 0 under a number of silver, to a member
abbrev pub ask_to : ℕ → ℕ → Envelope
ask_to to number =
    record { sender = 1; receiver = to; message = Ask (proposal_of_boot 1 1) number (span_of 0 0) }

-- node 2's Grant of it, under a number of silver
abbrev pub grant_of : ℕ → Envelope
grant_of number =
    record { sender = 2; receiver = 1; message = Grant (proposal_of_boot 1 1) number (span_of 0 0) }

-- the port hands in the bytes of an envelope from its sender's address
abbrev pub hears : Envelope → Step
hears envelope = Hears (FromPeer envelope.sender
    (datagram_bytes bare envelope.sender envelope.receiver envelope.message))

-- silver's line comes to node 1
abbrev pub hears_silver : Item
hears_silver = at 1 (Hears (FromClient 7 silver_text (Some 100)))

-- the stores of both nodes get a row for each token, and the processes start
abbrev pub both_start : List Item
both_start =
    at 1 (Does (Enrols 1 0 0)) ∷ at 1 (Does (Enrols 1 1 0)) ∷ at 2 (Does (Enrols 2 0 0)) ∷ at 2 (Does (Enrols 2 1 0))
    ∷ at 1 (Starts silver_first bare) ∷ at 2 (Starts maple_first bare) ∷ []

-- node 1 takes silver's line, and asks both others
abbrev pub asks : List Item
asks = hears_silver ∷ at 1 (Commits (silver_line ∷ [])) ∷ at 1 (Says (Sends (ask_to 2 0)))
    ∷ at 1 (Says (Sends (ask_to 3 0))) ∷ []

-- node 2 takes the Ask
abbrev pub takes_ask : List Item
takes_ask = at 2 (hears (ask_to 2 1)) ∷ at 2 (Commits (ask_for 1 ∷ [])) ∷ []

-- node 2 grants it
abbrev pub grants : Item
grants = at 2 (Says (Sends (grant_of 1)))

-- node 2 tells node 1 the floor 9 of silver
abbrev pub floor_told : Envelope
floor_told = record { sender = 2; receiver = 1; message = Floor 0 9 }

-- the Grant comes to node 1
abbrev pub hears_grant : Item
hears_grant = at 1 (hears (grant_of 0))

-- node 1 takes the Grant, and answers silver
abbrev pub accepts : List Item
accepts = at 1 (Commits (grant_for 0 ∷ []))
    ∷ at 1 (Says (Replies 7 (told_outcome 0 1 7 (codes "1") (Accepted 0)).bytes)) ∷ []

-- silver's login
abbrev pub silver_login : List Item
silver_login = both_start ++ asks ++ takes_ask ++ grants ∷ hears_grant ∷ accepts

-- the Grant comes to node 1 before node 2 said it: the same steps of each node in another order
abbrev pub granted_early : List Item
granted_early = both_start ++ asks ++ takes_ask ++ hears_grant ∷ grants ∷ accepts

-- node 1 even takes the Grant before node 2 said it
abbrev pub taken_early : List Item
taken_early = both_start ++ asks ++ takes_ask ++ (hears_grant ∷ accepts) ++ grants ∷ []

-- the Grant comes to node 1, and node 2 never said it
abbrev pub forged : List Item
forged = both_start ++ asks ++ hears_grant ∷ accepts

-- ---- Both nodes accept

-- node 2's Ask of factor 0 under its number of silver, to a member
abbrev pub other_ask : ℕ → Envelope
other_ask to = record { sender = 2; receiver = to; message = Ask (proposal_of_boot 2 1) 1 (span_of 0 0) }

-- node 1's Grant of it, under node 2's number of silver
abbrev pub other_grant : Envelope
other_grant = record { sender = 1; receiver = 2; message = Grant (proposal_of_boot 2 1) 1 (span_of 0 0) }

-- silver's line comes to node 2, which reads a Grant of node 1 and answers her
abbrev pub accepts_there : List Item
accepts_there =
    at 2 (Hears (FromClient 7 silver_text (Some 100))) ∷ at 2 (Commits (silver_line ∷ []))
    ∷ at 2 (Says (Sends (other_ask 1))) ∷ at 2 (Says (Sends (other_ask 3))) ∷ at 2 (hears other_grant)
    ∷ at 2 (Commits (Peer 1 (Some other_grant) ∷ []))
    ∷ at 2 (Says (Replies 7 (told_outcome 0 2 7 (codes "1") (Accepted 0)).bytes)) ∷ []

-- silver logs in at both nodes with one code, by two Grants that nobody said
abbrev pub accepted_twice : List Item
accepted_twice = forged ++ accepts_there

-- ---- One node

-- the steps of node 1 alone, whose store has silver's row
abbrev pub alone_with : List Step → List Item
alone_with steps = map (at 1) (Does (Enrols 1 0 0) ∷ Starts silver_alone bare ∷ steps)

-- silver's line comes
abbrev pub hears_line : Step
hears_line = Hears (FromClient 7 silver_text (Some 100))

-- the node commits it
abbrev pub commits_line : Step
commits_line = Commits (silver_line ∷ [])

-- the node answers her
abbrev pub says_ok : Step
says_ok = Says (Replies 7 silver_ok.bytes)

-- ---- One step

-- node 1 alone after its process started
abbrev pub opened : Place
opened = Open (live_at silver_alone bare silver_row)

-- the node after the process heard silver's line
abbrev pub heard : Place
heard = place_after alone 1 opened hears_line

-- the node after the process took it, before it says the answer
abbrev pub waits : Place
waits = place_after alone 1 heard commits_line

-- the node after the process said it
abbrev pub answered : Place
answered = place_after alone 1 waits says_ok

-- the inputs that a process has heard and not taken
abbrev pub heard_in : Place → List NodeEvent
heard_in (Closed store) = []
heard_in (Open live) = live.heard
heard_in (Gone former) = []

-- the outputs that it still has to say
abbrev pub waiting_in : Place → List Telling
waiting_in (Closed store) = []
waiting_in (Open live) = live.waiting
waiting_in (Gone former) = []

-- a store in which maple's floor is greater than silver's
abbrev pub maple_ahead : Store
maple_ahead = store_with_rows 1 (0 ∷ 1 ∷ []) (λ token. token + 1)

-- a process of the terms that starts and ends
abbrev pub stint : Terms → List Step
stint terms = Starts terms bare ∷ Ends [] ∷ []
