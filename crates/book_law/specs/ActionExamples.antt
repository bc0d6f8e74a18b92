-- Single actions and losses, for literal stores. Silver is canonical token 0, and maple token 1.
use Rattle.std.specs.Prelude.{ℕ, List, [], ◌∷◌, ◌++◌, Some, codes}
use Rattle.vote_core.specs.declared.message.Message.TheVariants.{Floor}
use Rattle.oath_node.specs.Machine.{Made, NodeEvent, NodeState, Peer, opened_node, quiet_made}
use Rattle.book_law.specs.Examples.{first_key, silver_alone, silver_row}
use Rattle.book_law.specs.Lives.{Action, Enrols, Loses, Output, Process, Remakes, ToClient, ToPeer, Up, seen_in}

-- the machine of a process that has opened silver's row
abbrev pub open_machine : NodeState
open_machine = opened_node (seen_in silver_row (0 ∷ []))

-- this process, with outputs that still wait
abbrev pub open_with : List Output → Process
open_with waiting = Up silver_alone silver_row open_machine waiting

-- a step that sends a Floor of row 0 to node 2 and replies to client 7
abbrev pub tells_both : Made
tells_both = record (quiet_made open_machine) {
  sends = (2, Floor 0 4) ∷ [];
  replies = record { client = 7; bytes = codes "NO" } ∷ [];
}

-- the Floor of the step, as an output of node 1 of a process whose row 0 is maple's
abbrev pub floor_out : Output
floor_out = ToPeer (record { key = first_key; envelope = record { sender = 1; receiver = 2; message = Floor 1 4 } })

-- the answer of the step, as an output of node 1 in action 5
abbrev pub answer_out : Output
answer_out = ToClient (record { event = 5; node = 1; client = 7; bytes = codes "NO" })

-- node 2 tells the floor 9 of row 0
abbrev pub floor_comes : NodeEvent
floor_comes = Peer 2 (Some (record { sender = 2; receiver = 1; message = Floor 0 9 }))

-- silver's rows at three nodes, each with another floor
abbrev pub uneven_rows : List Action
uneven_rows = Enrols 1 0 2 ∷ Enrols 2 0 1 ∷ Enrols 3 0 0 ∷ []

-- node 1 loses its store, and gets another one with silver's row
abbrev pub made_anew : ℕ → ℕ → List Action
made_anew boot floor = uneven_rows ++ Loses 1 ∷ Remakes 1 boot (0 ∷ []) (λ token. floor) ∷ []

-- node 1 is lost, and node 2 after it
abbrev pub loses_two : List Action
loses_two = uneven_rows ++ Loses 1 ∷ Loses 2 ∷ []

-- the two nodes are lost one after the other, each after the former one has a store again
abbrev pub makes_two : List Action
makes_two = made_anew 1 2 ++ Loses 2 ∷ Remakes 2 1 (0 ∷ []) (λ token. 2) ∷ []
