-- Worked histories of three nodes and two users, silver and maple. Silver is canonical token 0, and maple token 1. Each
-- has the secret of RFC 4226, Appendix D. Floor: the first free factor of a token at a node.
use Rattle.std.specs.Prelude.{ℕ, ◌-◌, pos, Bool, true, false, List, [], ◌∷◌, ◌++◌, Option, Some, None, codes}
use Rattle.floor_store.specs.Content.{Content, opening_row}
use Rattle.floor_store.specs.Records.{PassRecord, ProposalRecord, RowRecord, span_of}
use Rattle.token_file.specs.Credential.{Credential}
use Rattle.otp_core.specs.Acceptance.{Acceptance}
use Rattle.client_lines.specs.declared.answer.Outcome.TheVariants.{Accepted}
use Rattle.vote_core.specs.Cases.{accepted}
use Rattle.vote_core.specs.Schedule.{content_with_gate, last_boot}
use Rattle.vote_core.specs.Voting.{pass_of}
use Rattle.vote_core.specs.declared.message.Message.{Message}
use Rattle.vote_core.specs.declared.message.Message.TheVariants.{Ask, Grant, Floor}
use Rattle.oath_node.specs.Machine.{NodeEvent, NodeState, Client, Peer, opened_node}
use Rattle.datagram_port.specs.Port.{Offered, Quiet}
use Rattle.datagram_port.specs.declared.port.Sender.TheVariants.{Client as ToLine}
use Rattle.cluster_sim.specs.Examples.{config_with, told_outcome, user_named}
use Rattle.cluster_sim.specs.World.{Answer}
use Rattle.book_law.specs.Lives.{Action, Opens, FailsToOpen, Takes, Offers, Stops, StopsIn, Loses, Remakes, Enrols, Unlocks, OpensGate, Raises, Process, Sealed, Setting, Store, Terms, state_of, store_at, store_with_rows}
use Rattle.book_law.specs.Uses.{Serves as ServesStore, StoreUse, Writes}

-- a user with an event token
abbrev pub silver : Credential
silver = user_named (codes "silver")

-- another user
abbrev pub maple : Credential
maple = user_named (codes "maple")

-- the key of a cluster
abbrev pub first_key : List ℕ
first_key = 1 ∷ []

-- the key of another cluster
abbrev pub second_key : List ℕ
second_key = 2 ∷ []

-- terms with the key, for the users and their canonical tokens
abbrev pub terms_of : List ℕ → List Credential → List ℕ → Terms
terms_of key book seats = record { config = config_with book; key = key; seats = seats }

-- terms with both users, silver first
abbrev pub silver_first : Terms
silver_first = terms_of first_key (silver ∷ maple ∷ []) (0 ∷ 1 ∷ [])

-- the same users in the other order
abbrev pub maple_first : Terms
maple_first = terms_of first_key (maple ∷ silver ∷ []) (1 ∷ 0 ∷ [])

-- silver has gone from the users file
abbrev pub maple_alone : Terms
maple_alone = terms_of first_key (maple ∷ []) (1 ∷ [])

-- the terms of another cluster's key
abbrev pub other_key : Terms
other_key = terms_of second_key (maple ∷ silver ∷ []) (1 ∷ 0 ∷ [])

-- three nodes with new stores
abbrev pub three : Setting
three = record { n = 3; tokens = 2; boots = []; old = [] }

-- the stores of nodes 1 and 2 get a row for each token (actions 0 to 3)
abbrev pub enrolled : List Action
enrolled = Enrols 1 0 0 ∷ Enrols 1 1 0 ∷ Enrols 2 0 0 ∷ Enrols 2 1 0 ∷ []

-- a line of client 7
abbrev pub line : List ℕ → NodeEvent
line text = Client 7 100 text

-- silver's line with her code of factor 0
abbrev pub silver_line : NodeEvent
silver_line = line (codes "CHECK 1 silver 755224 -")

-- maple's line with her code of factor 0
abbrev pub maple_line : NodeEvent
maple_line = line (codes "CHECK 2 maple 755224 -")

-- the first proposal of a node in the boot
abbrev pub proposal_of_boot : ℕ → ℕ → ProposalRecord
proposal_of_boot node boot = record { node = node; boot = boot; seq = 0 }

-- an envelope that a node reads from its sender's own address
abbrev pub from_peer : ℕ → ℕ → Message → NodeEvent
from_peer sender receiver message =
    Peer sender (Some (record { sender = sender; receiver = receiver; message = message }))

-- node 1's Ask of factor 0 for its first proposal, under a number of node 2
abbrev pub ask_for : ℕ → NodeEvent
ask_for number = from_peer 1 2 (Ask (proposal_of_boot 1 1) number (span_of 0 0))

-- node 2's Grant of factor 0 for the first proposal of node 1, under a number of node 1
abbrev pub grant_for : ℕ → NodeEvent
grant_for number = from_peer 2 1 (Grant (proposal_of_boot 1 1) number (span_of 0 0))

-- both users are in both files, in two orders (actions 4 and 5)
abbrev pub both_open : List Action
both_open = enrolled ++ Opens 1 silver_first ∷ Opens 2 maple_first ∷ []

-- Silver's line comes to node 1, whose number for silver is 0. Node 2's number for silver is 1 (actions 6 to 12).
abbrev pub silver_accepted : List Action
silver_accepted =
    both_open ++ Takes 1 silver_line ∷ Offers 1 ∷ Takes 2 (ask_for 1) ∷ Offers 2 ∷ Takes 1 (grant_for 0) ∷ Offers 1
    ∷ Offers 1 ∷ []

-- maple's line comes to a node alone, whose number for maple is 0
abbrev pub alone : Setting
alone = record { n = 1; tokens = 2; boots = []; old = [] }

-- node 1 alone accepts maple, whose number isn't her canonical one
abbrev pub maple_accepted : List Action
maple_accepted =
    Enrols 1 0 0 ∷ Enrols 1 1 0 ∷ Opens 1 maple_first ∷ Takes 1 maple_line ∷ Offers 1 ∷ []

-- Silver goes from node 1's users file after her login, and her line comes. Then she comes back in another place, and
-- her line comes again.
abbrev pub silver_goes : List Action
silver_goes = silver_accepted ++ Stops 1 ∷ Opens 1 maple_alone ∷ Takes 1 silver_line ∷ Offers 1 ∷ []

-- silver is back in the users file, in another place, and her line comes again
abbrev pub silver_returns : List Action
silver_returns = silver_goes ++ Stops 1 ∷ Opens 1 maple_first ∷ Takes 1 silver_line ∷ Offers 1 ∷ []

-- node 2 has another key, and its process reads no envelope from node 1's bytes
abbrev pub under_another_key : List Action
under_another_key =
    enrolled ++ Opens 1 silver_first ∷ Opens 2 other_key ∷ Takes 1 silver_line ∷ Offers 1 ∷ Takes 2 (Peer 1 None) ∷ []

-- node 2 told node 1 silver's floor 4 in a former time
abbrev pub old_floor : Sealed
old_floor = record { key = first_key; envelope = record { sender = 2; receiver = 1; message = Floor 0 4 } }

-- three nodes, with a Floor of former times
abbrev pub three_with_old : Setting
three_with_old = record three { old = old_floor ∷ [] }

-- the envelope arrives at a process whose number for silver is 1
abbrev pub old_floor_comes : List Action
old_floor_comes = enrolled ++ Opens 1 maple_first ∷ Takes 1 (from_peer 2 1 (Floor 1 4)) ∷ []

-- ---- Stores

-- a row with the floor
abbrev pub row_from : ℕ → RowRecord
row_from floor = opening_row floor

-- a store of two rows, for the tokens 5 and 3, after a pass of the given row
abbrev pub two_rows : Option PassRecord → Store
two_rows last = record {
  names = 5 ∷ 3 ∷ [];
  content = record { rows = row_from 50 ∷ row_from 30 ∷ []; boot = 4; last = last };
}

-- the same store without a pass, with a failure of the token 3
abbrev pub shut_rows : Store
shut_rows = record (two_rows None) {
  content = content_with_gate 1 (record { fails = 1; until = 90 }) (two_rows None).content;
}

-- a pass of the row or number
abbrev pub pass_at : ℕ → PassRecord
pass_at token = pass_of token 0 0 4 0

-- what a process sees, with one row
abbrev pub one_row : Option PassRecord → Content
one_row last = record { rows = row_from 31 ∷ []; boot = 5; last = last }

-- ---- Parts of histories

-- the process of node 1 after a history of the node alone
abbrev pub process_of_1 : List Action → Process
process_of_1 history = (state_of alone history).processes 1

-- the store of node 1 after such a history
abbrev pub store_of_1 : List Action → Store
store_of_1 history = store_at (process_of_1 history)

-- the node's store has silver's row
abbrev pub has_silver : List Action
has_silver = Enrols 1 0 0 ∷ []

-- terms for silver alone
abbrev pub silver_alone : Terms
silver_alone = terms_of first_key (silver ∷ []) (0 ∷ [])

-- a process of the node takes silver's line
abbrev pub takes_silver : List Action
takes_silver = has_silver ++ Opens 1 silver_alone ∷ Takes 1 silver_line ∷ []

-- Node 2 tells node 1 silver's floor 4, which its store has. Node 1's number for silver is 1 (action 4).
abbrev pub tells_held : List Action
tells_held =
    Enrols 1 0 0 ∷ Enrols 1 1 0 ∷ Enrols 2 0 4 ∷ Opens 1 maple_first ∷ Takes 1 (from_peer 2 1 (Floor 1 4)) ∷ []

-- node 2 tells silver's floor 4 before its store has it
abbrev pub tells_early : List Action
tells_early =
    Enrols 1 0 0 ∷ Enrols 2 0 0 ∷ Opens 1 silver_alone ∷ Takes 1 (from_peer 2 1 (Floor 0 4)) ∷ Raises 2 0 4 ∷ []

-- a process ends inside the step of the line
abbrev pub ends_in_the_step : Bool → List Action
ends_in_the_step kept = has_silver ++ Opens 1 silver_alone ∷ StopsIn 1 kept silver_line ∷ []

-- the node alone, whose first store is at the boot before the last
abbrev pub late : Setting
late = record alone { boots = (last_boot - 1) ∷ [] }

-- node 1 is lost after silver's login
abbrev pub loses_one : List Action
loses_one = silver_accepted ++ Loses 1 ∷ []

-- its store is replaced at the boot, with rows for the tokens, each with the floor
abbrev pub remade_with : ℕ → List ℕ → ℕ → List Action
remade_with boot given floor = loses_one ++ Remakes 1 boot given (λ token. floor) ∷ []

-- a wrong code of silver's, at a moment
abbrev pub wrong_at : ℕ → NodeEvent
wrong_at moment = Client 7 moment (codes "CHECK 3 silver 000000 -")

-- a wrong code comes under one number, and another under the other number
abbrev pub fails_twice : List Action
fails_twice =
    Enrols 1 0 0 ∷ Enrols 1 1 0 ∷ Opens 1 silver_first ∷ Takes 1 (wrong_at 100) ∷ Stops 1 ∷ Opens 1 maple_first
    ∷ Takes 1 (wrong_at 105) ∷ Stops 1 ∷ []

-- A process whose number for silver is 1 takes a wrong code of hers. Her floor is 4.
abbrev pub fails_there : List Action
fails_there = Enrols 1 0 4 ∷ Enrols 1 1 0 ∷ Opens 1 maple_first ∷ Takes 1 (wrong_at 100) ∷ []

-- the same process without the wrong code
abbrev pub no_failure_there : List Action
no_failure_there = Enrols 1 0 4 ∷ Enrols 1 1 0 ∷ Opens 1 maple_first ∷ []

-- the process has a seat for silver alone, and the store has maple's row too
abbrev pub maple_aside : List Action
maple_aside = Enrols 1 1 0 ∷ takes_silver

-- a machine of one row that stopped of itself
abbrev pub stopped_machine : NodeState
stopped_machine = record (opened_node (one_row None)) { running = false }

-- ---- Answers and grounds

-- the text of silver's line
abbrev pub silver_text : List ℕ
silver_text = codes "CHECK 1 silver 755224 -"

-- silver's line comes to node 1 alone, and its answer is offered
abbrev pub answers_silver : List Action
answers_silver = takes_silver ++ Offers 1 ∷ []

-- the acceptance and the answer of this history
abbrev pub silver_pass : Acceptance
silver_pass = accepted 2 2 1 0 0 0

-- the OK of the node alone to silver
abbrev pub silver_ok : Answer
silver_ok = told_outcome 2 1 7 (codes "1") (Accepted 0)

-- silver's line comes to node 2, which is no member, and then to the node alone
abbrev pub among_strangers : List Action
among_strangers =
    has_silver ++ Opens 1 silver_alone ∷ Takes 2 silver_line ∷ Takes 1 silver_line ∷ Stops 2 ∷ []

-- a wrong code arrives, and the right one 4 seconds later
abbrev pub hurries : List Action
hurries =
    has_silver ++ Opens 1 silver_alone ∷ Takes 1 (wrong_at 100)
    ∷ Takes 1 (Client 7 104 (codes "CHECK 4 silver 755224 -")) ∷ []

-- the same, and an operator unlocks silver between the two codes
abbrev pub hurries_unlocked : List Action
hurries_unlocked =
    has_silver ++ Opens 1 silver_alone ∷ Takes 1 (wrong_at 100) ∷ OpensGate 1 0
    ∷ Takes 1 (Client 7 104 (codes "CHECK 4 silver 755224 -")) ∷ []

-- a store whose first row has a drift
abbrev pub drifted : Store
drifted = record {
  names = 3 ∷ 5 ∷ [];
  content = record { rows = record (row_from 30) { drift = pos 2 } ∷ row_from 50 ∷ []; boot = 4; last = None };
}

-- ---- Uses

-- the store of node 1 with silver's row
abbrev pub silver_row : Store
silver_row = store_with_rows 0 (0 ∷ []) (λ token. 0)

-- two commands at node 1, and a process that left one row
abbrev pub three_uses : List StoreUse
three_uses =
    Writes (Enrols 1 0 4) ∷ Writes (Raises 1 0 9) ∷ ServesStore silver_alone [] [] [] (one_row None) ∷ []

-- two commands at node 1, among actions of node 2
abbrev pub two_writes : List StoreUse
two_writes = Writes (Enrols 1 0 0) ∷ Writes (FailsToOpen 1 true) ∷ []

-- node 1's actions among those of node 2, which opens nothing
abbrev pub among_another : List Action
among_another = Enrols 2 0 0 ∷ Enrols 1 0 0 ∷ Unlocks 2 0 ∷ FailsToOpen 1 true ∷ Offers 2 ∷ []

-- a process of node 1 that took nothing
abbrev pub idle_use : List StoreUse
idle_use = ServesStore silver_alone [] [] [] (record { rows = row_from 0 ∷ []; boot = 1; last = None }) ∷ []

-- actions of node 2 before, between and after those of node 1
abbrev pub idle_among_another : List Action
idle_among_another = Offers 2 ∷ Opens 1 silver_alone ∷ Enrols 2 0 0 ∷ Offers 1 ∷ Stops 1 ∷ Stops 2 ∷ []

-- two processes that recorded a reply each, and a command between them
abbrev pub two_replies : List StoreUse
two_replies =
    ServesStore silver_alone [] [] (Quiet ∷ Offered (ToLine 7) silver_ok.bytes ∷ []) silver_row.content
    ∷ Writes (Unlocks 1 0) ∷ ServesStore silver_alone [] [] (Offered (ToLine 8) [] ∷ []) silver_row.content ∷ []

-- an answer without bytes to another client
abbrev pub second_reply : Answer
second_reply = record silver_ok { client = 8; bytes = [] }
