-- Scripts of the laws `losses_are_worked` and `starts_are_worked`: lost and replaced stores, and nodes with earlier
-- boots.
use Rattle.std.specs.Prelude.{ℕ, true, List, [], ◌∷◌, codes}
use Rattle.floor_store.specs.Records.{span_of}
use Rattle.vote_core.specs.Schedule.{Envelope}
use Rattle.vote_core.specs.declared.message.Message.{Message}
use Rattle.vote_core.specs.declared.message.Message.TheVariants.{Grant, Floor}
use Rattle.client_lines.specs.declared.answer.Outcome.TheVariants.{Accepted}
use Rattle.cluster_sim.specs.Examples.{acceptance, delivery, first_at_1, line_at, one_behind, report_with, told_outcome}
use Rattle.cluster_sim.specs.World.{Cut, Lost, Anew, ReportValue, Restart, Start, Ticks, WorldEvent}

-- Node 1 accepts factor 0, which node 2 granted. Node 2 is lost, and the event happens. Node 3 asks node 2 for factor
-- 1.
abbrev pub after_loss : WorldEvent → List WorldEvent
after_loss event =
    first_at_1 ∷ delivery 2 0 ∷ delivery 1 2 ∷ Lost 2 ∷ event ∷ line_at 3 8 1010 (codes "CHECK b silver 287082 -")
    ∷ delivery 2 4 ∷ delivery 3 5 ∷ []

-- node 2 grants the factor on its replacement store
abbrev pub both_accepted : ReportValue
both_accepted =
    report_with (acceptance 0 2 1 0 0 ∷ acceptance 5 7 3 1 1 ∷ [])
    (told_outcome 2 1 7 (codes "a") (Accepted 0) ∷ told_outcome 7 3 8 (codes "b") (Accepted 1) ∷ []) 6

-- node 2 has no store
abbrev pub first_accepted : ReportValue
first_accepted =
    report_with (acceptance 0 2 1 0 0 ∷ []) (told_outcome 2 1 7 (codes "a") (Accepted 0) ∷ []) 5

-- nodes 2 and 3 are lost, which are a majority
abbrev pub two_lost : List WorldEvent
two_lost =
    first_at_1 ∷ delivery 2 0 ∷ delivery 1 2 ∷ Lost 2 ∷ Lost 3 ∷ Anew 2 2 (1 ∷ [])
    ∷ line_at 1 8 1010 (codes "CHECK b silver 287082 -") ∷ delivery 2 3 ∷ []

-- one of two nodes gets a replacement store, and grants
abbrev pub one_of_two : List WorldEvent
one_of_two = Lost 2 ∷ Anew 2 2 (0 ∷ []) ∷ first_at_1 ∷ delivery 2 0 ∷ delivery 1 1 ∷ []

-- a lost node does nothing, and is lost only once
abbrev pub without_a_store : List WorldEvent
without_a_store = Lost 1 ∷ first_at_1 ∷ Restart 1 ∷ Cut true (Ticks 1) ∷ Lost 1 ∷ Lost 9 ∷ []

-- a single node loses its store and gets no replacement
abbrev pub alone_lost : List WorldEvent
alone_lost = first_at_1 ∷ Lost 1 ∷ Anew 1 2 (1 ∷ []) ∷ line_at 1 7 1010 (codes "CHECK b silver 287082 -") ∷ []

-- node 1 gets a replacement store after it answered a line, which arrives again
abbrev pub answered_before : List WorldEvent
answered_before =
    first_at_1 ∷ delivery 2 0 ∷ delivery 1 2 ∷ Lost 1 ∷ Anew 1 2 (1 ∷ []) ∷ first_at_1 ∷ []

-- node 1 gets a replacement store after a failure, and a line arrives in the same second
abbrev pub failed_before : List WorldEvent
failed_before =
    line_at 1 7 1000 (codes "CHECK a silver 000000 -") ∷ Lost 1 ∷ Anew 1 2 (0 ∷ [])
    ∷ line_at 1 7 1000 (codes "CHECK b silver 755224 -") ∷ []

-- a replacement for node 1 is tried, which has its store, after a failure; a line arrives in the same second
abbrev pub failed_and_there : List WorldEvent
failed_and_there =
    line_at 1 7 1000 (codes "CHECK a silver 000000 -") ∷ Anew 1 2 (0 ∷ [])
    ∷ line_at 1 7 1000 (codes "CHECK b silver 755224 -") ∷ []

-- a node gets a replacement store after node 1 kept a drift
abbrev pub drifted_before : ℕ → List WorldEvent
drifted_before node = one_behind ∷ delivery 2 0 ∷ delivery 1 2 ∷ Lost node ∷ Anew node 2 (4 ∷ []) ∷ []

-- ---- Nodes with earlier boots

-- a message of node 2 to node 1 at boot 1: its Grant for the first factor, or a floor (first free factor)
abbrev pub from_before : Message → Envelope
from_before message = record { sender = 2; receiver = 1; message = message }

abbrev pub old_grant : Envelope
old_grant = from_before (Grant (record { node = 1; boot = 1; seq = 0 }) 0 (span_of 0 0))

abbrev pub old_floor : Envelope
old_floor = from_before (Floor 0 1)

-- three nodes that open at the given boot with the floor 0, after the envelope was sent
abbrev pub three_after : ℕ → Envelope → Start
three_after boot envelope = record {
  n = 3;
  opening = record { boot = λ node. boot; floor = λ node token. 0; old = envelope ∷ [] };
}

-- node 1 asks for the first factor, and the message from before arrives
abbrev pub old_comes : List WorldEvent
old_comes = first_at_1 ∷ delivery 1 0 ∷ []

-- the message from before arrives first
abbrev pub old_comes_first : List WorldEvent
old_comes_first = delivery 1 0 ∷ first_at_1 ∷ []
