-- The names of a cluster, and its members.
use Rattle.std.proofs.Common.{◌≡◌, ◌∙◌, ℕ, List, Option, Some, length, ap, refl, subst, sym}
use Rattle.std.specs.Prelude.{Ok}
use Rattle.std.proofs.lemmas.List.{length-map}
use Rattle.vote_core.specs.NodeSet.{PlaceRecord}
use Rattle.cluster_file.specs.Address.{address_value}
use Rattle.cluster_file.specs.ClusterFile.{cluster_of, cluster_value}
use Rattle.cluster_file.specs.declared.cluster.Cluster.{Cluster}
use Rattle.oathd_roster.specs.declared.cluster.NamedCluster.{NamedCluster}
use Rattle.oathd_site.specs.Names.{AreNamesIn, IsMemberByNames}
use Rattle.oathd_site.specs.Names.{place_in}

-- the place of a node among the members of a cluster file
pub member_at : (cluster : Cluster) (node : ℕ) (place : PlaceRecord) → place ≡ record { me = node; n = length cluster.members.items }
    → place ≡ place_in (cluster_value cluster) node
member_at cluster node place at =
    let of_count : ℕ → PlaceRecord = λ n. record { me = node; n = n } in
    at ∙ ap of_count (sym (length-map cluster.members.items address_value))

-- the member of the cluster that the text of a cluster file describes
pub member_by_names : (node : ℕ) (text : List ℕ) (cluster : Cluster) (given : Option NamedCluster) (named : NamedCluster) (place : PlaceRecord)
    → cluster_of text ≡ Ok (cluster_value cluster) → AreNamesIn (cluster_value cluster) given → given ≡ Some named
    → place ≡ record { me = node; n = length cluster.members.items } → IsMemberByNames node text cluster.settings place named
member_by_names node text cluster given named place said are is at = record {
  cluster = cluster_value cluster;
  of_text = said;
  of_settings = refl;
  of_place = member_at cluster node place at;
  is_in = subst (AreNamesIn (cluster_value cluster)) is are;
}
