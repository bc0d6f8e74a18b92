-- Worked parts of processes, and stretches of small nodes. No contract cites them.
use Rattle.std.specs.Prelude.{ℕ, pos, List, [], ◌∷◌, Option, Some, None, codes}
use Rattle.floor_store.specs.Broken.{SmallStore}
use Rattle.floor_store.specs.Content.{Content, accepted_row, with_row}
use Rattle.client_lines.specs.declared.answer.Outcome.{Outcome}
use Rattle.client_lines.specs.declared.answer.Outcome.TheVariants.{Accepted, Refused}
use Rattle.client_lines.specs.declared.answer.Reason.TheVariants.{Invalid}
use Rattle.vote_core.specs.Rows.{granted_row}
use Rattle.vote_core.specs.Voting.{pass_of}
use Rattle.oath_node.specs.Broken.{small_node}
use Rattle.oath_node.specs.Machine.{Client}
use Rattle.datagram_port.specs.Port.{Faulted, Offered, PortEvent, Quiet, Received}
use Rattle.datagram_port.specs.declared.port.Sender.TheVariants.{Client as ToLine}
use Rattle.cluster_sim.specs.Examples.{told_outcome}
use Rattle.book_law.specs.Examples.{proposal_of_boot, row_from, silver_alone}
use Rattle.book_law.specs.Lives.{Action, Enrols, Offers, Opens, OpensGate, Stops}
use Rattle.book_law.specs.Stretches.{Stretch}
use Rattle.book_law.specs.Uses.{Part, ServesInParts, StoreUse}

-- ---- Parts

-- the reply to client 7
abbrev pub replied : List ℕ → Outcome → PortEvent
replied nonce outcome = Offered (ToLine 7) (told_outcome 0 1 7 nonce outcome).bytes

-- a part in which a line of client 7 comes at the moment and is answered so, and the token that is cleared after it
abbrev pub part_with : ℕ → List ℕ → List ℕ → Outcome → Option ℕ → Part
part_with moment text nonce outcome cleared = record {
  taken = Client 7 moment text ∷ [];
  entries = Received (ToLine 7) text ∷ replied nonce outcome ∷ [];
  cleared = cleared;
}

-- a wrong code of silver's
abbrev pub wrong_part : Option ℕ → Part
wrong_part cleared = part_with 100 (codes "CHECK 3 silver 000000 -") (codes "3") (Refused Invalid) cleared

-- her right code 4 seconds later, with an answer, and the token that is cleared after it
abbrev pub right_part : Outcome → Option ℕ → Part
right_part outcome cleared = part_with 104 (codes "CHECK 4 silver 755224 -") (codes "4") outcome cleared

-- her right code at the first moment
abbrev pub login_part : Part
login_part = part_with 100 (codes "CHECK 1 silver 755224 -") (codes "1") (Accepted 0) None

-- a part without inputs
abbrev pub idle_part : Option ℕ → Part
idle_part cleared = record { taken = []; entries = []; cleared = cleared }

-- a part that ended before the tick of its quiet turn
abbrev pub cut_part : Part
cut_part = record (idle_part None) { entries = Quiet ∷ [] }

-- a part that ended before its answer was offered
abbrev pub silent_part : Part
silent_part = record login_part { entries = Received (ToLine 7) (codes "CHECK 1 silver 755224 -") ∷ [] }

-- what a stop leaves of silver's row in boot 1, before a login and after it
abbrev pub silver_opened : Content
silver_opened = record { rows = row_from 0 ∷ []; boot = 1; last = None }

abbrev pub silver_taken : Content
silver_taken =
    with_row silver_opened 0 (accepted_row (pos 0) (granted_row (proposal_of_boot 1 1) 0 0 (row_from 0)))
    (Some (pass_of 0 0 0 1 0))

-- a process that took nothing, and cleared silver's gate between its parts
abbrev pub idle_in_parts : List StoreUse
idle_in_parts = ServesInParts silver_alone [] (idle_part (Some 0) ∷ idle_part None ∷ []) silver_opened ∷ []

-- its actions, among actions of node 2
abbrev pub parts_among_another : List Action
parts_among_another =
    Offers 2 ∷ Opens 1 silver_alone ∷ Enrols 2 0 0 ∷ OpensGate 1 0 ∷ Offers 1 ∷ Stops 1 ∷ Stops 2 ∷ []

-- a process in two parts with one answer in each
abbrev pub answers_in_parts : List StoreUse
answers_in_parts =
    ServesInParts silver_alone [] (wrong_part (Some 0) ∷ right_part (Accepted 0) None ∷ []) silver_taken ∷ []

-- ---- Stretches

-- a stretch of one turn of a small node, in which a receive failed; then an act unlocked the number, if there is one
abbrev pub faulted : Option ℕ → Stretch SmallStore
faulted unlocked = record {
  from = small_node;
  stood = small_node;
  first = Some [];
  asked = Some [];
  told = Some [];
  turns = 1;
  served = record { received = 0; replied = 0 };
  unlocked = unlocked;
}

-- the port's record after it
abbrev pub fault_came : Option (List PortEvent)
fault_came = Some (Faulted ∷ [])

-- the port's record before it
abbrev pub nothing_came : Option (List PortEvent)
nothing_came = Some []
