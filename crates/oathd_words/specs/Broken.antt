-- Minimal examples and counterexamples of the command line's ranges and promises. No contract cites them.
use Rattle.std.specs.Prelude.{ℕ, ◌+◌, false, true, List, [], ◌∷◌, ◌++◌, Option, None, Some, codes}
use Rattle.std.specs.Borrow.{Bor}
use Rattle.std.specs.Global.{Vec}
use Rattle.std.specs.declared.net.socket_addr.SocketAddrV4.{SocketAddrV4}
use Rattle.otp_core.specs.Limits.{default_limits}
use Rattle.vote_core.specs.Cases.{place}
use Rattle.oathd_words.specs.declared.former_words.CountWords.TheVariants as counts
use Rattle.oathd_words.specs.declared.former_words.FormerWords.{FormerWords}
use Rattle.oathd_words.specs.declared.nodes_words.NodesWords.{NodesWords}
use Rattle.oathd_words.specs.declared.nodes_words.NodesWords.TheVariants as nodes
use Rattle.oathd_words.specs.declared.store_words.Action.{Action}
use Rattle.oathd_words.specs.declared.store_words.ClientWords.TheVariants.{Anybody, ThisMachine}
use Rattle.oathd_words.specs.declared.store_words.Action.TheVariants.{Init, Begin, Remake, Serve, Look as Looks, Roster, Migrate, Floors, Level}
use Rattle.oathd_words.specs.declared.store_words.ClusterWords.{ClusterWords}
use Rattle.oathd_words.specs.declared.store_words.ClusterWords.TheVariants as clusters
use Rattle.oathd_words.specs.declared.store_words.ImportWords.TheVariants as imports
use Rattle.oathd_words.specs.declared.store_words.LogWords.TheVariants.{Nowhere}
use Rattle.oathd_words.specs.declared.store_words.Look.{Look}
use Rattle.oathd_words.specs.declared.store_words.Owner.{Owner}
use Rattle.oathd_words.specs.declared.store_words.Owner.TheVariants as owners
use Rattle.oathd_words.specs.declared.words.Task.{Task}
use Rattle.oathd_words.specs.declared.words.Task.TheVariants as tasks

-- a word of the command line
abbrev pub word : List ℕ → Bor (List ℕ)
word text = record { ref_ptr = (0, 0); now = text }

-- the path of a cluster file
abbrev pub file : Bor (List ℕ)
file = word (codes "c")

-- ---- Members

-- the text of 127.0.0.1 with a port of one digit
abbrev pub local_text : ℕ → List ℕ
local_text port = codes "127.0.0.1:" ++ (48 + port) ∷ []

-- such texts, separated by commas
abbrev pub local_texts : ℕ → List ℕ → List ℕ
local_texts first [] = local_text first
local_texts first (port ∷ ports) = local_text first ++ 44 ∷ local_texts port ports

-- ---- Nodes

-- `count` nodes, given by options
abbrev pub given_nodes : ℕ → NodesWords
given_nodes count = nodes.Given count default_limits None

-- the nodes of the cluster file
abbrev pub named_nodes : NodesWords
named_nodes = nodes.Named file

-- a cluster of `count` members, given by options, whose first member is the node
abbrev pub given_cluster : ℕ → Vec SocketAddrV4 → ClusterWords
given_cluster count members = clusters.Given default_limits (place 1 count) members (word [])

-- the cluster of the cluster file, with the node `node`
abbrev pub named_cluster : ℕ → ClusterWords
named_cluster node = clusters.Named node file

-- ---- Actions on a store

-- a creation at `moment`, or at the current time, by the cluster file
abbrev pub init_at : Option ℕ → ℕ → Action
init_at moment node = Init node (imports.Named file) moment

-- a creation with the default settings
abbrev pub usual_init : Action
usual_init = Init 1 (imports.Given default_limits) None

-- a creation by names with the cluster file, for a cluster that never served
abbrev pub begin_at : ℕ → Action
begin_at node = Begin node file

-- a replacement by the cluster file
abbrev pub remake_at : Option ℕ → FormerWords → ℕ → Action
remake_at moment former node = Remake node (imports.Named file) moment former

-- a replacement with the default settings
abbrev pub usual_remake : FormerWords → Action
usual_remake former = Remake 1 (imports.Given default_limits) None former

-- a run of `turns` receives for a node of the cluster file
abbrev pub serve_for : ℕ → ℕ → Action
serve_for turns node = Serve (named_cluster node) turns Nowhere ThisMachine false

-- a run for the first of `members`
abbrev pub usual_serve : Vec SocketAddrV4 → Action
usual_serve members = Serve (given_cluster 1 members) 0 Nowhere Anybody false

-- a floors file for nine members, or for the members of the cluster file
abbrev pub floors_of : ℕ → Action
floors_of node = Floors node (counts.Given 9)

abbrev pub floors_by_file : Action
floors_by_file = Floors 1 (counts.Named file)

-- the store of a node
abbrev pub at_node : ℕ → Owner
at_node node = owners.Node node

-- the store of a member of the cluster file
abbrev pub at_member : ℕ → Owner
at_member node = owners.Member node file

-- floors (first free factors) raised by floors files
abbrev pub level_by : Vec (Bor (List ℕ)) → Owner → Action
level_by floors owner = Level owner floors

-- an upgrade
abbrev pub migrate_at : Owner → Action
migrate_at owner = Migrate owner None

-- an upgrade in a cluster that had `members` members
abbrev pub migrate_among : ℕ → Owner → Action
migrate_among members owner = Migrate owner (Some members)

-- the rows by names, printed with the cluster file
abbrev pub roster_at : ℕ → Action
roster_at node = Roster node file false

-- rows by names, dropped with the cluster file
abbrev pub drop_at : ℕ → Action
drop_at node = Roster node file true

-- a look at the store of a node, of any, or of a member of the cluster file
abbrev pub look_at : Look → ℕ → Action
look_at look node = Looks (at_node node) look

abbrev pub look_at_any : Look → Action
look_at_any look = Looks owners.Any look

abbrev pub look_at_member : Look → ℕ → Action
look_at_member look node = Looks (at_member node) look

-- ---- Tasks

-- tasks over `nodes`, with the users imported at `moment`: lines, a script, sockets
abbrev pub lines_at : ℕ → NodesWords → Task
lines_at moment nodes = tasks.Lines nodes moment

abbrev pub sim_at : ℕ → NodesWords → Task
sim_at moment nodes = tasks.Sim nodes moment

abbrev pub cluster_at : ℕ → NodesWords → Task
cluster_at moment nodes = tasks.Cluster (word []) nodes moment

-- a task over a store
abbrev pub store_of : Action → Task
store_of action = tasks.Store (word []) (word []) action
