-- The parameters of a served member of a cluster file.
use Rattle.std.specs.Prelude.{◌≡◌, ℕ, List}
use Rattle.std.specs.Borrow.{Bor}
use Rattle.cluster_file.specs.declared.cluster.Cluster.{Cluster}
use Rattle.vote_core.specs.NodeSet.{PlaceRecord}
use Rattle.node_serving.specs.declared.gate.ClientLines.{ClientLines}
use Rattle.node_serving.specs.declared.gate.ClientLines.TheVariants.{Anybody, ThisMachine, Of}
use Rattle.node_serving.specs.declared.node_key.NodeKey.TheVariants.{Shared}
use Rattle.node_serving.specs.declared.serving.Serving.{Serving}

-- The member at `place` has the settings and the members of the cluster file. It tags under the shared key, which is
-- derived from the cluster's own key and the file.
pub record IsOfMember (cluster : Bor Cluster) (key : List ℕ) (place : PlaceRecord) (serving : Serving) : Type 0 where
  pub of_settings : serving.settings ≡ cluster.now.settings
  pub of_place : serving.place ≡ place
  pub of_members : serving.members.items ≡ cluster.now.members.items
  pub of_key : serving.key ≡ Shared key cluster

-- the same lines of clients
abbrev pub AreAgain : ClientLines → ClientLines → Type 0
AreAgain Anybody other = other ≡ Anybody
AreAgain ThisMachine other = other ≡ ThisMachine
AreAgain (Of clients) Anybody = ⊥
AreAgain (Of clients) ThisMachine = ⊥
AreAgain (Of clients) (Of others) =
    (others.clients.items ≡ clients.clients.items) × (others.operators.items ≡ clients.operators.items)
    × (others.plain.items ≡ clients.plain.items) × (others.ahead ≡ clients.ahead)
    × (others.failures ≡ clients.failures)

-- The same parameters, but for the number of turns.
pub record IsAgain (serving other : Serving) : Type 0 where
  pub of_settings : other.settings ≡ serving.settings
  pub of_place : other.place ≡ serving.place
  pub of_members : other.members.items ≡ serving.members.items
  pub of_key : other.key ≡ serving.key
  pub with_log : other.is_logged ≡ serving.is_logged
  pub of_lines : AreAgain serving.lines other.lines
