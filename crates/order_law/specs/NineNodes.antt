-- A worked interleaving of nine nodes and room for 10,000 tokens. Silver logs in at node 1, and four others grant it.
use Rattle.std.specs.Prelude.{ℕ, List, [], ◌∷◌, ◌++◌, map, Some, codes}
use Rattle.client_lines.specs.declared.answer.Outcome.TheVariants.{Accepted}
use Rattle.cluster_sim.specs.Examples.{told_outcome}
use Rattle.floor_store.specs.Records.{span_of}
use Rattle.vote_core.specs.Schedule.{Envelope}
use Rattle.vote_core.specs.declared.message.Message.TheVariants.{Grant}
use Rattle.vote_wire.specs.Key.{bare}
use Rattle.oath_node.specs.Machine.{NodeEvent, Peer}
use Rattle.book_law.specs.Examples.{proposal_of_boot, silver_alone, silver_line}
use Rattle.book_law.specs.Lives.{Enrols, Setting}
use Rattle.order_law.specs.Examples.{ask_to, at, hears, hears_silver}
use Rattle.order_law.specs.Interleavings.{Item}
use Rattle.order_law.specs.Steps.{Commits, Does, Replies, Says, Sends, Starts}

-- as many nodes and tokens as a cluster may have
abbrev pub nine : Setting
nine = record { n = 9; tokens = 10000; boots = []; old = [] }

-- the node's store gets silver's row, and its process starts
abbrev pub joins : ℕ → List Item
joins node = at node (Does (Enrols node 0 0)) ∷ at node (Starts silver_alone bare) ∷ []

-- the node's Grant of node 1's Ask
abbrev pub grant_by : ℕ → Envelope
grant_by node = record { sender = node; receiver = 1; message = Grant (proposal_of_boot 1 1) 0 (span_of 0 0) }

-- node 1's Ask as the node reads it
abbrev pub asked_of : ℕ → NodeEvent
asked_of node = Peer 1 (Some (ask_to node 0))

-- the Grant as node 1 reads it
abbrev pub granted_by : ℕ → NodeEvent
granted_by node = Peer node (Some (grant_by node))

-- the node hears node 1's Ask and grants it, and node 1 hears that
abbrev pub votes : ℕ → List Item
votes node =
    at node (hears (ask_to node 0)) ∷ at node (Commits (asked_of node ∷ [])) ∷ at node (Says (Sends (grant_by node)))
    ∷ at 1 (hears (grant_by node)) ∷ at 1 (Commits (granted_by node ∷ [])) ∷ []

-- node 1 takes silver's line, and asks all others
abbrev pub asks_all : List Item
asks_all =
    hears_silver ∷ at 1 (Commits (silver_line ∷ []))
    ∷ map (λ (node : ℕ). at 1 (Says (Sends (ask_to node 0)))) (2 ∷ 3 ∷ 4 ∷ 5 ∷ 6 ∷ 7 ∷ 8 ∷ 9 ∷ [])

-- five nodes start, and three of them grant silver's code to node 1: four of nine
abbrev pub four_of_nine : List Item
four_of_nine = joins 1 ++ joins 2 ++ joins 3 ++ joins 4 ++ joins 5 ++ asks_all ++ votes 2 ++ votes 3 ++ votes 4

-- node 1 answers silver
abbrev pub says_so : Item
says_so = at 1 (Says (Replies 7 (told_outcome 0 1 7 (codes "1") (Accepted 0)).bytes))

-- silver's login, by five of nine
abbrev pub five_of_nine : List Item
five_of_nine = four_of_nine ++ votes 5 ++ says_so ∷ []
