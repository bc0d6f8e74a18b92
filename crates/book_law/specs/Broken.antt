-- Histories and states, each of which breaks one condition. No contract cites them.
use Rattle.std.specs.Prelude.{ℕ, true, List, [], ◌∷◌, ◌++◌, Some, codes}
use Rattle.floor_store.specs.Records.{span_of}
use Rattle.otp_core.specs.Acceptance.{Acceptance}
use Rattle.vote_core.specs.declared.message.Message.{Message}
use Rattle.vote_core.specs.declared.message.Message.TheVariants.{Deny, Floor, Grant}
use Rattle.oath_node.specs.Machine.{NodeEvent, Peer, opened_node}
use Rattle.cluster_sim.specs.World.{passes_in}
use Rattle.book_law.specs.Examples.{alone, ask_for, both_open, enrolled, first_key, from_peer, grant_for, line, maple, maple_line, proposal_of_boot, silver, silver_accepted, silver_alone, silver_first, silver_line, terms_of, three}
use Rattle.book_law.specs.Lives.{Action, Opens, Takes, Offers, Stops, StopsIn, Enrols, Process, Setting, State, Store, Terms, Down, Up, first_state, seen_in, state_after, store_with_row, store_with_rows}

-- ---- Envelopes

-- node 1's Ask arrives at node 2 after it was offered
abbrev pub ask_comes : Terms → NodeEvent → List Action
ask_comes terms input =
    enrolled ++ Opens 1 silver_first ∷ Opens 2 terms ∷ Takes 1 silver_line ∷ Offers 1 ∷ Takes 2 input ∷ []

-- the same before it was offered
abbrev pub ask_comes_early : List Action
ask_comes_early = both_open ++ Takes 1 silver_line ∷ Takes 2 (ask_for 1) ∷ Offers 1 ∷ []

-- a Grant that node 2 never made arrives at node 1
abbrev pub forged : List Action
forged = both_open ++ Takes 1 (grant_for 0) ∷ []

-- the same inside a stop
abbrev pub forged_in_a_stop : List Action
forged_in_a_stop = both_open ++ StopsIn 1 true (grant_for 0) ∷ []

-- a Deny that node 2 never made arrives at node 1
abbrev pub forged_denial : List Action
forged_denial = both_open ++ Takes 1 (from_peer 2 1 (Deny (proposal_of_boot 1 1) 0 4)) ∷ []

-- node 2 tells node 1 the floor of a number of node 1, which no turn of node 2 offered
abbrev pub tells : ℕ → ℕ → List Action
tells number floor = both_open ++ Takes 1 (from_peer 2 1 (Floor number floor)) ∷ []

-- the same inside a stop
abbrev pub tells_in_a_stop : List Action
tells_in_a_stop = both_open ++ StopsIn 1 true (from_peer 2 1 (Floor 0 9)) ∷ []

-- node 1 is told silver's floor 9, which no store has, and silver's line comes
abbrev pub locks_out : List Action
locks_out = tells 0 9 ++ Takes 1 silver_line ∷ Offers 1 ∷ []

-- node 1 is told silver's floor 0 after her login
abbrev pub tells_less : List Action
tells_less = silver_accepted ++ Takes 1 (from_peer 2 1 (Floor 0 0)) ∷ []

-- node 2's Grant of factor 0 for the first proposal of node 1
abbrev pub first_grant : Message
first_grant = Grant (proposal_of_boot 1 1) 0 (span_of 0 0)

-- an envelope of node 2 comes from node 3's address
abbrev pub from_another : List Action
from_another = both_open ++ Takes 1 (Peer 3 (Some (record { sender = 2; receiver = 1; message = first_grant }))) ∷ []

-- the Grant is under a number that node 1 doesn't have
abbrev pub unknown_number : List Action
unknown_number = both_open ++ Takes 1 (grant_for 2) ∷ []

-- the Grant comes to a node without a process
abbrev pub to_nobody : List Action
to_nobody = enrolled ++ Takes 1 (grant_for 0) ∷ []

-- a Grant of a former time, for a proposal of the boot of the first store
abbrev pub old_grant : ℕ → Setting
old_grant boot = record three {
  boots = boot ∷ [];
  old = record {
    key = first_key;
    envelope = record { sender = 2; receiver = 1; message = Grant (proposal_of_boot 1 1) 0 (span_of 0 0) };
  } ∷ [];
}

-- ---- States that no history has

-- a node alone, with a process of the terms over the store, which opened it unasked
abbrev pub opened_unasked : Terms → Store → State
opened_unasked terms store = record (first_state alone) {
  processes = λ node. Up terms store (opened_node (seen_in store terms.seats)) [];
}

-- the acceptances of further actions of the node
abbrev pub taken_from : State → List Action → List Acceptance
taken_from state actions = passes_in (state_after alone 0 actions state).notes

-- silver's line under one nonce and another
abbrev pub again : NodeEvent
again = line (codes "CHECK 4 silver 755224 -")

-- both numbers have silver's token
abbrev pub equal_seats : State
equal_seats =
    opened_unasked (terms_of first_key (silver ∷ maple ∷ []) (0 ∷ 0 ∷ [])) (store_with_rows 0 (0 ∷ []) (λ token. 0))

-- both lines come
abbrev pub takes_both : List Action
takes_both = Takes 1 silver_line ∷ Takes 1 maple_line ∷ []

-- the store has no row for silver
abbrev pub no_row : State
no_row = opened_unasked silver_alone (store_with_rows 0 [] (λ token. 0))

-- the factor is taken, the store keeps nothing, gets a row, and the factor is taken again
abbrev pub takes_and_enrols : List Action
takes_and_enrols = Takes 1 silver_line ∷ Stops 1 ∷ Enrols 1 0 0 ∷ Opens 1 silver_alone ∷ Takes 1 again ∷ []

-- the store of a node after silver's login
abbrev pub taken : State
taken =
    state_after alone 0 (Enrols 1 0 0 ∷ Opens 1 silver_alone ∷ Takes 1 silver_line ∷ Stops 1 ∷ []) (first_state alone)

-- the store gets another row for silver
abbrev pub enrolled_again : Process → Process
enrolled_again (Down store) = Down (store_with_row 0 0 store)
enrolled_again (Up terms below state waiting) = Up terms below state waiting

-- the store of each node has a second row for silver
abbrev pub two_rows_of_silver : State
two_rows_of_silver = record taken { processes = λ node. enrolled_again (taken.processes node) }

-- a process opens, and the line comes again
abbrev pub takes_again : List Action
takes_again = Opens 1 silver_alone ∷ Takes 1 again ∷ []

-- the acceptances of later actions, the first of which has the number 4
abbrev pub taken_later : State → List Action → List Acceptance
taken_later state actions = passes_in (state_after alone 4 actions state).notes
