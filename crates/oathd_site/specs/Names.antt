-- The members of a cluster, and the names under which its stores keep tokens.
use Rattle.std.specs.Prelude.{◌≡◌, ℕ, List, length, Option, Some, None, Result, Ok, Err}
use Rattle.otp_core.specs.Limits.{Limits}
use Rattle.vote_core.specs.NodeSet.{PlaceRecord}
use Rattle.cluster_file.specs.ClusterFile.{ClusterRecord, cluster_of}
use Rattle.cluster_file.specs.declared.fault.LineFault.{LineFault}
use Rattle.oathd_roster.specs.declared.cluster.NamedCluster.{NamedCluster}
use Rattle.oathd_tasks.specs.Check.{IsKeyIn}

-- the place of a node among the members of a cluster
abbrev pub place_in : ClusterRecord → ℕ → PlaceRecord
place_in cluster node = record { me = node; n = length cluster.members }

-- the word under which a cluster file gives the tokens names, if it gives one
abbrev pub names_in : Result ClusterRecord (ℕ × LineFault) → Option (List ℕ)
names_in (Ok cluster) = cluster.names
names_in (Err fault) = None

-- The cluster has the names, the life and the number of members of a cluster file, and enrols new tokens as it says.
pub record IsNamedIn (cluster : ClusterRecord) (named : NamedCluster) : Type 0 where
  pub of_names : cluster.names ≡ Some named.salt
  pub of_bond : named.bond
      ≡ record { names = named.salt; life = cluster.life; members = length cluster.members }
  pub of_fresh : named.is_fresh ≡ cluster.fresh

-- the cluster of a cluster file, if it gives names
abbrev pub AreNamesIn : ClusterRecord → Option NamedCluster → Type 0
AreNamesIn cluster None = cluster.names ≡ None
AreNamesIn cluster (Some named) = IsNamedIn cluster named

-- the own key of the cluster that the text of a cluster file describes
pub record IsKeyOf (text key : List ℕ) : Type 0 where
  pub cluster : ClusterRecord
  pub of_text : cluster_of text ≡ Ok cluster
  pub is_in : IsKeyIn cluster.key key

-- the cluster of the text of a cluster file
pub record IsNamedOf (text : List ℕ) (named : NamedCluster) : Type 0 where
  pub cluster : ClusterRecord
  pub of_text : cluster_of text ≡ Ok cluster
  pub is_in : IsNamedIn cluster named

-- The settings, the place and the names of the member `node` of the cluster that the text of a cluster file describes.
pub record IsMemberByNames (node : ℕ) (text : List ℕ) (settings : Limits) (place : PlaceRecord)
    (named : NamedCluster) : Type 0 where
  pub cluster : ClusterRecord
  pub of_text : cluster_of text ≡ Ok cluster
  pub of_settings : settings ≡ cluster.settings
  pub of_place : place ≡ place_in cluster node
  pub is_in : IsNamedIn cluster named
