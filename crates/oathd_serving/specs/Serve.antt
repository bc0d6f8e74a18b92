-- The ends of the command `serve`: which node is served, and over which database.
use Rattle.std.specs.Prelude.{◌≡◌, ℕ, Bool, List, length, Result, Ok, Err}
use Rattle.std.specs.Borrow.{Bor}
use Rattle.std.specs.declared.net.socket_addr.SocketAddrV4.{SocketAddrV4}
use Rattle.sqlite.specs.Store.{Ghosts}
use Rattle.sqlite.specs.Held as sql
use Rattle.otp_core.specs.Limits.{Limits}
use Rattle.vote_core.specs.NodeSet.{PlaceRecord}
use Rattle.oath_node.specs.declared.turns.Served.{Served}
use Rattle.clients_file.specs.declared.clients.Clients.{Clients}
use Rattle.cluster_file.specs.ClusterFile.{cluster_of, cluster_value}
use Rattle.cluster_file.specs.Said.{key_place}
use Rattle.cluster_file.specs.declared.cluster.Cluster.{Cluster}
use Rattle.oathd_words.specs.declared.store_words.ClientWords.{ClientWords}
use Rattle.oathd_words.specs.declared.store_words.ClientWords.TheVariants as words
use Rattle.oathd_words.specs.declared.store_words.ClusterWords.{ClusterWords}
use Rattle.oathd_words.specs.declared.store_words.ClusterWords.TheVariants.{Given, Named}
use Rattle.oathd_tasks.specs.Check.{IsKeyIn}
use Rattle.oathd_tasks.specs.Clients.{HasClients}
use Rattle.store_serving.specs.Placed.{EndsServing, HasServed, never}
use Rattle.node_serving.specs.Serving.{IsOfMember}
use Rattle.oathd_database.specs.declared.fault.Fault as database
use Rattle.oathd_database.specs.declared.fault.Fault.TheVariants.{Memory, CannotWrite, NoClock, Users, Store, Socket}
use Rattle.node_serving.specs.declared.gate.ClientLines.{ClientLines}
use Rattle.node_serving.specs.declared.gate.ClientLines.TheVariants.{Anybody, ThisMachine, Of}
use Rattle.node_serving.specs.declared.node_key.NodeKey.TheVariants.{Own}
use Rattle.node_serving.specs.declared.serving.Serving.{Serving}
use Rattle.oathd_site.specs.declared.fault.Fault.{Fault}
use Rattle.oathd_site.specs.declared.fault.Fault.TheVariants.{Database, Floors, Task, Roster, Seats, Names}

-- ---- The parameters of the node

-- the lines of clients that the words name; a clients file may say any
abbrev pub AreLinesOf : ClientWords → ClientLines → Type 0
AreLinesOf words.Anybody lines = lines ≡ Anybody
AreLinesOf words.ThisMachine lines = lines ≡ ThisMachine
AreLinesOf (words.Named path) lines = (clients : Clients) × HasClients clients × (lines ≡ Of clients)

-- The node is served for the turns, with or without a log, and takes the lines of clients that the words name.
pub record IsRunOf (turns : ℕ) (is_logged : Bool) (clients : ClientWords) (serving : Serving) : Type 0 where
  pub for_turns : serving.turns ≡ turns
  pub with_log : serving.is_logged ≡ is_logged
  pub of_lines : AreLinesOf clients serving.lines

-- The node has the settings, the place and the members. It tags under the own key of its cluster, which its key file
-- has.
pub record IsNodeOf (settings : Limits) (place : PlaceRecord) (members : List SocketAddrV4) (serving : Serving)
    : Type 0 where
  pub of_settings : serving.settings ≡ settings
  pub of_place : serving.place ≡ place
  pub of_members : serving.members.items ≡ members
  pub own : List ℕ
  pub of_key : serving.key ≡ Own own

-- The node is the member `node` of the cluster that the text of a cluster file describes. It tags under the shared key,
-- which is derived from the key of that cluster.
pub record IsMemberOf (node : ℕ) (text : List ℕ) (serving : Serving) : Type 0 where
  pub cluster : Bor Cluster
  pub of_text : cluster_of text ≡ Ok (cluster_value cluster.now)
  pub own : List ℕ
  pub of_key : IsKeyIn (key_place cluster.now.key) own
  pub of_member : IsOfMember cluster own (record { me = node; n = length cluster.now.members.items }) serving

-- the node that the words, or the text of their cluster file, describe
abbrev pub IsDescribed : ClusterWords → List ℕ → Serving → Type 0
IsDescribed (Given settings place members key) text serving = IsNodeOf settings place members.items serving
IsDescribed (Named node path) text serving = IsMemberOf node text serving

-- The words ask for these parameters, with the text of their cluster file.
abbrev pub IsAskedFor : ClusterWords → ℕ → Bool → ClientWords → List ℕ → Serving → Type 0
IsAskedFor cluster turns is_logged clients text serving =
    IsDescribed cluster text serving × IsRunOf turns is_logged clients serving

-- ---- The ends

-- Databases are opened by a connection that shows what `finds` says. `IsAsked` holds for the parameters that were asked
-- for.
module _ {S : Type 0} (g : Ghosts S) (finds : sql.Held S → Type 0) (IsAsked : Serving → Type 0) where
  -- A node was served with such parameters to the end of its turns, or until an operator ended them, for the tokens of
  -- some users file.
  pub record IsServedAsAsked : Type 0 where
    pub serving : Serving
    pub asked : IsAsked serving
    pub users : List ℕ
    pub counts : Served
    pub served : HasServed g finds serving never (Ok counts) users

  -- A node with such parameters ended with a fault: before its first turn, or with all that was served until then.
  pub record EndsAsAsked (fault : database.Fault) : Type 0 where
    pub serving : Serving
    pub asked : IsAsked serving
    pub users : List ℕ
    pub ends : EndsServing g finds serving fault users

  -- The end of a command that serves. A fault of a task is one of the files that give the parameters.
  abbrev pub ServeEndsSo : Result Unit Fault → Type 0
  ServeEndsSo (Ok done) = IsServedAsAsked
  ServeEndsSo (Err (Task fault)) = Unit {0}
  ServeEndsSo (Err (Database Memory)) = Unit {0}
  ServeEndsSo (Err (Database CannotWrite)) = EndsAsAsked CannotWrite
  ServeEndsSo (Err (Database NoClock)) = EndsAsAsked NoClock
  ServeEndsSo (Err (Database (Users fault))) = EndsAsAsked (Users fault)
  ServeEndsSo (Err (Database (Store fault))) = EndsAsAsked (Store fault)
  ServeEndsSo (Err (Database Socket)) = EndsAsAsked Socket
  ServeEndsSo (Err (Floors fault)) = ⊥
  ServeEndsSo (Err (Roster fault)) = ⊥
  ServeEndsSo (Err (Seats fault)) = ⊥
  ServeEndsSo (Err (Names fault)) = ⊥
