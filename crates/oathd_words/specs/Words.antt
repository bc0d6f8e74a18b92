-- The command line, as values that clap found.
use Rattle.std.specs.Prelude.{◌≡◌, ℕ, true, List, Option, None, Some, codes}
use Rattle.clap.specs.Matches.{first_value}
use Rattle.clap.specs.declared.parser.matches.Found.{Found}
use Rattle.otp_core.specs.Range.{IsMoment}
use Rattle.oathd_words.specs.Given.{GivesMember, is_flag}
use Rattle.oathd_words.specs.InquiryWords.{AsksMembers, AsksNode}
use Rattle.oathd_words.specs.NodesWords.{AreNodesInRange, AsksForNodes, nodes_path}
use Rattle.oathd_words.specs.StoreWords.{AsksForStore, GivesMoment, IsActionInRange}
use Rattle.oathd_words.specs.declared.former_words.CountWords.{CountWords}
use Rattle.oathd_words.specs.declared.former_words.CountWords.TheVariants as counts
use Rattle.oathd_words.specs.declared.store_words.Action.{Action}
use Rattle.oathd_words.specs.declared.store_words.Action.TheVariants.{Init, Begin, Remake, Serve, Look as Looks, Roster, Migrate, Floors, Level}
use Rattle.oathd_words.specs.declared.store_words.ClusterWords.{ClusterWords}
use Rattle.oathd_words.specs.declared.store_words.ClusterWords.TheVariants.{Given, Named}
use Rattle.oathd_words.specs.declared.store_words.ImportWords.{ImportWords}
use Rattle.oathd_words.specs.declared.store_words.ImportWords.TheVariants as imports
use Rattle.oathd_words.specs.declared.store_words.Owner.{Owner}
use Rattle.oathd_words.specs.declared.store_words.Owner.TheVariants as owners
use Rattle.oathd_words.specs.declared.words.Task.{Task}
use Rattle.oathd_words.specs.declared.words.Task.TheVariants.{Lines, Sim, Cluster, Store, Ask, Survey, Check, NewKey, NewCluster, Secret, SecretOfInput}

-- the paths of a users file and of a cluster file
abbrev pub AsksToCheck : Found → List ℕ → List ℕ → Type 0
AsksToCheck found users cluster =
    (first_value found (codes "USERS") ≡ Some users) × (first_value found (codes "cluster") ≡ Some cluster)

-- the task that the command `name` asks for with the values found
abbrev pub AsksFor : List ℕ → Found → Task → Type 0
AsksFor name found (Lines nodes moment) =
    (name ≡ codes "lines") × AsksForNodes (λ n. n ≡ 1) found nodes × GivesMoment found (Some moment)
AsksFor name found (Sim nodes moment) =
    (name ≡ codes "sim") × AsksForNodes (GivesMember found (codes "N")) found nodes × GivesMoment found (Some moment)
AsksFor name found (Cluster users nodes moment) =
    (name ≡ codes "cluster") × (first_value found (codes "USERS") ≡ Some users.now)
    × AsksForNodes (GivesMember found (codes "N")) found nodes × GivesMoment found (Some moment)
AsksFor name found (Store database users action) = AsksForStore name found database.now users.now action
AsksFor name found (Ask address node operator inquiry) = AsksNode name found address node operator.now inquiry
AsksFor name found (Survey cluster operator) = AsksMembers name found cluster.now operator.now
AsksFor name found (Check users cluster) =
    (name ≡ codes "check") × AsksToCheck found users.now cluster.now
AsksFor name found NewKey = name ≡ codes "new-key"
AsksFor name found NewCluster = name ≡ codes "new-cluster"
AsksFor name found SecretOfInput =
    (name ≡ codes "secret") × (is_flag (first_value found (codes "stdin")) ≡ true)
AsksFor name found (Secret hex) = (name ≡ codes "secret") × (first_value found (codes "HEX") ≡ Some hex.now)

-- the command `name` asks for nothing with the values found
abbrev pub AsksForNothing : List ℕ → Found → Type 0
AsksForNothing name found = (task : Task) → AsksFor name found task → ⊥

-- the numbers of a task are in their ranges
abbrev pub IsInRange : Task → Type 0
IsInRange (Lines nodes moment) = AreNodesInRange nodes × IsMoment moment
IsInRange (Sim nodes moment) = AreNodesInRange nodes × IsMoment moment
IsInRange (Cluster users nodes moment) = AreNodesInRange nodes × IsMoment moment
IsInRange (Store database users action) = IsActionInRange action
IsInRange (Ask address node operator inquiry) = Unit {0}
IsInRange (Survey cluster operator) = Unit {0}
IsInRange (Check users cluster) = Unit {0}
IsInRange NewKey = Unit {0}
IsInRange NewCluster = Unit {0}
IsInRange SecretOfInput = Unit {0}
IsInRange (Secret hex) = Unit {0}

-- the path of the cluster file, if a node is served by one
abbrev pub named_path : ClusterWords → Option (List ℕ)
named_path (Given settings place members key) = None
named_path (Named node path) = Some path.now

-- the path of the cluster file, if users are imported by one
abbrev pub import_path : ImportWords → Option (List ℕ)
import_path (imports.Given settings) = None
import_path (imports.Named path) = Some path.now

-- the path of the cluster file, if the number of members comes from one
abbrev pub count_path : CountWords → Option (List ℕ)
count_path (counts.Given count) = None
count_path (counts.Named path) = Some path.now

-- the path of the cluster file, if a command works on a member's store
abbrev pub owner_path : Owner → Option (List ℕ)
owner_path owners.Any = None
owner_path (owners.Node node) = None
owner_path (owners.Member node path) = Some path.now

-- the number of the node whose store a command works on, if the words have one
abbrev pub owner_node : Owner → Option ℕ
owner_node owners.Any = None
owner_node (owners.Node node) = Some node
owner_node (owners.Member node path) = Some node

-- the path of the cluster file that an action names, if it names one
abbrev pub path_of_action : Action → Option (List ℕ)
path_of_action (Init node import moment) = import_path import
path_of_action (Begin node path) = Some path.now
path_of_action (Remake node import moment former) = import_path import
path_of_action (Serve cluster turns log clients reloads) = named_path cluster
path_of_action (Looks owner look) = owner_path owner
path_of_action (Roster node path drops) = Some path.now
path_of_action (Migrate owner members) = owner_path owner
path_of_action (Floors node count) = count_path count
path_of_action (Level owner floors) = owner_path owner

-- the path of the cluster file that a task names, if it names one
abbrev pub cluster_path_of : Task → Option (List ℕ)
cluster_path_of (Lines nodes moment) = nodes_path nodes
cluster_path_of (Sim nodes moment) = nodes_path nodes
cluster_path_of (Cluster users nodes moment) = nodes_path nodes
cluster_path_of (Store database users action) = path_of_action action
cluster_path_of (Ask address node operator inquiry) = None
cluster_path_of (Survey cluster operator) = Some cluster.now
cluster_path_of (Check users cluster) = Some cluster.now
cluster_path_of NewKey = None
cluster_path_of NewCluster = None
cluster_path_of SecretOfInput = None
cluster_path_of (Secret hex) = None
