-- The command line of the commands over a database, as values that clap found.
use Rattle.std.specs.Prelude.{◌≡◌, ◌<◌, ◌≤◌, ◌^◌, ◌-◌, ◌||◌, ℕ, Bool, is_none, nat_lt, false, true, if◌then◌else◌, List, length, map, Option, Some, None, codes}
use Rattle.clap.specs.Matches.{first_value}
use Rattle.clap.specs.declared.parser.matches.Found.{Found}
use Rattle.command_line.specs.Number.{number_at}
use Rattle.otp_core.specs.Limits.{Limits, AreLimits, limits_of}
use Rattle.otp_core.specs.Range.{IsMoment}
use Rattle.std.specs.Net.Grammar.{IsSocketV4Text}
use Rattle.std.specs.declared.net.socket_addr.SocketAddrV4.{SocketAddrV4}
use Rattle.vote_core.specs.NodeSet.{PlaceRecord}
use Rattle.vote_core.specs.State.{IsPlace}
use Rattle.oathd_words.specs.FormerWords.{AsksForCount, former_given, former_value, is_of_former, values_given}
use Rattle.oathd_words.specs.Given.{GivesLimits, GivesMember, is_flag}
use Rattle.oathd_words.specs.Members.{AreMembers}
use Rattle.oathd_words.specs.declared.store_words.Action.{Action}
use Rattle.oathd_words.specs.declared.store_words.ClientWords.{ClientWords}
use Rattle.oathd_words.specs.declared.store_words.ClientWords.TheVariants as clients
use Rattle.oathd_words.specs.declared.store_words.ClientWords.TheVariants.{Anybody, ThisMachine}
use Rattle.oathd_words.specs.declared.store_words.ClusterWords.{ClusterWords}
use Rattle.oathd_words.specs.declared.store_words.ClusterWords.TheVariants.{Given, Named}
use Rattle.oathd_words.specs.declared.store_words.ImportWords.{ImportWords}
use Rattle.oathd_words.specs.declared.store_words.ImportWords.TheVariants as imports
use Rattle.oathd_words.specs.declared.store_words.LogWords.{LogWords}
use Rattle.oathd_words.specs.declared.store_words.LogWords.TheVariants.{Nowhere, Output, Syslog}
use Rattle.oathd_words.specs.declared.store_words.Action.TheVariants.{Init, Begin, Remake, Serve, Look as Looks, Roster, Migrate, Floors, Level}
use Rattle.oathd_words.specs.declared.store_words.Look.{Look}
use Rattle.oathd_words.specs.declared.store_words.Look.TheVariants.{Export, Audit, Gates, Unlock}
use Rattle.oathd_words.specs.declared.store_words.Owner.{Owner}
use Rattle.oathd_words.specs.declared.store_words.Owner.TheVariants as owners

-- a given moment in its range, or None without the option
abbrev pub GivesMoment : Found → Option ℕ → Type 0
GivesMoment found None = first_value found (codes "moment") ≡ None
GivesMoment found (Some moment) = (number_at found (codes "moment") ≡ Some moment) × IsMoment moment

-- The options give the skew and the drift of an import, in their ranges. The other limits, which no import uses, have
-- their default values.
pub record GivesImport (found : Found) (limits : Limits) : Type 0 where
  pub skew_given : number_at found (codes "skew") ≡ Some limits.skew
  pub drift_given : number_at found (codes "drift") ≡ Some limits.drift
  pub usual : limits ≡ record (limits_of 10 limits.skew 100) { drift = limits.drift }
  pub in_range : AreLimits limits

-- the source of an import's settings: the options, or the cluster file at a path
abbrev pub AsksForImport : Found → ImportWords → Type 0
AsksForImport found (imports.Given settings) =
    (first_value found (codes "cluster") ≡ None) × GivesImport found settings
AsksForImport found (imports.Named path) = first_value found (codes "cluster") ≡ Some path.now

-- a number of turns below 2^32
abbrev pub few_turns : Option ℕ → Option ℕ
few_turns None = None
few_turns (Some turns) = if nat_lt turns (2 ^ 32) then Some turns else None

-- the given number of turns, or 2^54 - 1 for a node that runs until it is stopped
abbrev pub turns_given : Found → Option ℕ
turns_given found =
    if is_flag (first_value found (codes "forever")) then Some (2 ^ 54 - 1)
    else few_turns (number_at found (codes "turns"))

-- The options give the number of the node, which is one of the members.
pub record GivesPlace (found : Found) (place : PlaceRecord) : Type 0 where
  pub node_given : GivesMember found (codes "node") place.me
  pub within : IsPlace place

-- The options give a node to serve: its place, the members' addresses, the limits and the path of the key.
pub record AsksForMembers (found : Found) (limits : Limits) (place : PlaceRecord) (members : List SocketAddrV4)
    (key : List ℕ) : Type 0 where
  pub place_given : GivesPlace found place
  pub text : List ℕ
  pub text_given : first_value found (codes "members") ≡ Some text
  pub members_given : AreMembers text members
  pub each : place.n ≡ length members
  pub limits_given : GivesLimits found limits
  pub key_given : first_value found (codes "key") ≡ Some key

-- the source of a cluster: the options, or the cluster file at a path with the number of the node
abbrev pub AsksForCluster : Found → ClusterWords → Type 0
AsksForCluster found (Given settings place members key) =
    (first_value found (codes "cluster") ≡ None) × AsksForMembers found settings place members.items key.now
AsksForCluster found (Named node path) =
    (first_value found (codes "cluster") ≡ Some path.now) × GivesMember found (codes "node") node

-- Whether a node takes plain lines from any address, if there is no clients file. A node without a cluster file does,
-- and one with the option.
abbrev pub takes_anybody : Found → Bool
takes_anybody found =
    is_flag (first_value found (codes "plain-lines")) || is_none (first_value found (codes "cluster"))

-- the lines that a node takes: those that a clients file at a path says, or plain ones
abbrev pub AsksForClients : Found → ClientWords → Type 0
AsksForClients found Anybody =
    (first_value found (codes "clients") ≡ None) × (takes_anybody found ≡ true)
AsksForClients found ThisMachine =
    (first_value found (codes "clients") ≡ None) × (takes_anybody found ≡ false)
AsksForClients found (clients.Named path) = first_value found (codes "clients") ≡ Some path.now

-- The address of a syslog is given.
pub record GivesSyslog (found : Found) (address : SocketAddrV4) : Type 0 where
  pub text : List ℕ
  pub given : first_value found (codes "log-to") ≡ Some text
  pub says : IsSocketV4Text text address

-- where a node writes its log: nowhere, to standard output, or to a syslog
abbrev pub AsksForLog : Found → LogWords → Type 0
AsksForLog found Nowhere =
    (first_value found (codes "log-to") ≡ None) × (is_flag (first_value found (codes "log")) ≡ false)
AsksForLog found Output =
    (first_value found (codes "log-to") ≡ None) × (is_flag (first_value found (codes "log")) ≡ true)
AsksForLog found (Syslog address) = GivesSyslog found address

-- whether a node writes a log
abbrev pub has_log : LogWords → Bool
has_log Nowhere = false
has_log Output = true
has_log (Syslog address) = true

-- whether a cluster begins that never served
abbrev pub begins : Found → Bool
begins found = is_flag (first_value found (codes "begins"))

-- whether rows of retired tokens are dropped
abbrev pub drops : Found → Bool
drops found = is_flag (first_value found (codes "drop-retired"))

-- the number of members that a cluster had until now, or None without the option
abbrev pub GivesFormerCount : Found → Option ℕ → Type 0
GivesFormerCount found None = first_value found (codes "members-were") ≡ None
GivesFormerCount found (Some members) = GivesMember found (codes "members-were") members

-- the same as `migrate` takes it: only a member's cluster file comes with the option
abbrev pub GivesFormerMembers : Found → Owner → Option ℕ → Type 0
GivesFormerMembers found owners.Any members = (members ≡ None) × (first_value found (codes "members-were") ≡ None)
GivesFormerMembers found (owners.Node node) members =
    (members ≡ None) × (first_value found (codes "members-were") ≡ None)
GivesFormerMembers found (owners.Member node path) members = GivesFormerCount found members

-- whether the words of a command have to say whose store it is, without a cluster file too
abbrev pub is_of_node : Look → Bool
is_of_node Export = false
is_of_node Audit = true
is_of_node Gates = true
is_of_node (Unlock user) = true

-- Whose store a command works on: a member's if there is a cluster file, else that of the node with the given number.
-- Without a cluster file a command that isn't one of a node works on the store of any.
abbrev pub GivesOwner : Found → Bool → Owner → Type 0
GivesOwner found of_node owners.Any = (of_node ≡ false) × (first_value found (codes "cluster") ≡ None)
GivesOwner found of_node (owners.Node node) =
    (of_node ≡ true) × GivesMember found (codes "node") node × (first_value found (codes "cluster") ≡ None)
GivesOwner found of_node (owners.Member node path) =
    GivesMember found (codes "node") node × (first_value found (codes "cluster") ≡ Some path.now)

-- what the command `name` does with a store that it looks at
abbrev pub AsksForLook : List ℕ → Found → Look → Type 0
AsksForLook name found Export = name ≡ codes "export"
AsksForLook name found Audit = name ≡ codes "audit"
AsksForLook name found Gates = name ≡ codes "gates"
AsksForLook name found (Unlock user) =
    (name ≡ codes "unlock") × (first_value found (codes "USER") ≡ Some user.now)

-- the action that the command `name` asks for with the values found
abbrev pub AsksForAction : List ℕ → Found → Action → Type 0
AsksForAction name found (Init node import moment) =
    (name ≡ codes "init") × (begins found ≡ false) × (is_of_former found ≡ false)
    × GivesMember found (codes "node") node × AsksForImport found import × GivesMoment found moment
AsksForAction name found (Begin node path) =
    (name ≡ codes "init") × (begins found ≡ true) × (is_of_former found ≡ false)
    × (first_value found (codes "moment") ≡ None) × GivesMember found (codes "node") node
    × (first_value found (codes "cluster") ≡ Some path.now)
AsksForAction name found (Remake node import moment former) =
    (name ≡ codes "init") × (begins found ≡ false) × (is_of_former found ≡ true)
    × GivesMember found (codes "node") node × AsksForImport found import × GivesMoment found moment
    × (former_given found ≡ Some (former_value former))
AsksForAction name found (Serve cluster turns log clients reloads) =
    (name ≡ codes "serve") × AsksForCluster found cluster × (turns_given found ≡ Some turns)
    × AsksForLog found log × AsksForClients found clients
    × (reloads ≡ is_flag (first_value found (codes "reload")))
AsksForAction name found (Looks owner look) =
    AsksForLook name found look × GivesOwner found (is_of_node look) owner
AsksForAction name found (Roster node path dropping) =
    (name ≡ codes "roster") × (dropping ≡ drops found) × GivesMember found (codes "node") node
    × (first_value found (codes "cluster") ≡ Some path.now)
AsksForAction name found (Migrate owner members) =
    (name ≡ codes "migrate") × GivesOwner found true owner × GivesFormerMembers found owner members
AsksForAction name found (Floors node count) =
    (name ≡ codes "floors") × GivesMember found (codes "node") node × AsksForCount found node count
AsksForAction name found (Level owner floors) =
    (name ≡ codes "level") × GivesOwner found true owner
    × (values_given found (codes "floors") ≡ Some (map (λ path. path.now) floors.items))

-- an action with the paths of its database and its users file
abbrev pub AsksForStore : List ℕ → Found → List ℕ → List ℕ → Action → Type 0
AsksForStore name found database users action =
    (first_value found (codes "DB") ≡ Some database) × (first_value found (codes "USERS") ≡ Some users)
    × AsksForAction name found action

-- the numbers of a cluster are in their ranges
abbrev pub IsClusterInRange : ClusterWords → Type 0
IsClusterInRange (Given settings place members key) = length members.items ≡ place.n
IsClusterInRange (Named node path) = (1 ≤ node) × (node ≤ 9)

-- the number of a node whose store a command works on is in its range
abbrev pub IsOwnerInRange : Owner → Type 0
IsOwnerInRange owners.Any = Unit {0}
IsOwnerInRange (owners.Node node) = (1 ≤ node) × (node ≤ 9)
IsOwnerInRange (owners.Member node path) = (1 ≤ node) × (node ≤ 9)

-- the words name a node, and its number is in its range
abbrev pub IsNodeInRange : Owner → Type 0
IsNodeInRange owners.Any = ⊥
IsNodeInRange (owners.Node node) = (1 ≤ node) × (node ≤ 9)
IsNodeInRange (owners.Member node path) = (1 ≤ node) × (node ≤ 9)

-- the numbers of an action are in their ranges
abbrev pub IsActionInRange : Action → Type 0
IsActionInRange (Init node import None) = (1 ≤ node) × (node ≤ 9)
IsActionInRange (Init node import (Some moment)) = (1 ≤ node) × (node ≤ 9) × IsMoment moment
IsActionInRange (Begin node path) = (1 ≤ node) × (node ≤ 9)
IsActionInRange (Remake node import None former) = (1 ≤ node) × (node ≤ 9)
IsActionInRange (Remake node import (Some moment) former) = (1 ≤ node) × (node ≤ 9) × IsMoment moment
IsActionInRange (Serve cluster turns log clients reloads) = IsClusterInRange cluster × (turns < 2 ^ 54)
IsActionInRange (Looks owner look) = IsOwnerInRange owner
IsActionInRange (Roster node path drops) = (1 ≤ node) × (node ≤ 9)
IsActionInRange (Migrate owner members) = IsNodeInRange owner
IsActionInRange (Floors node count) = (1 ≤ node) × (node ≤ 9)
IsActionInRange (Level owner floors) = IsNodeInRange owner
