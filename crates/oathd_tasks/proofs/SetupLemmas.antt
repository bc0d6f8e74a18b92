-- What nodes are run with.
use Rattle.std.proofs.Common.{◌≡◌, ℕ, List, length, Ok, sym, ap, ◌∙◌}
use Rattle.std.proofs.lemmas.List.{length-map}
use Rattle.std.specs.Borrow.{Bor}
use Rattle.otp_core.specs.Limits.{Limits}
use Rattle.cluster_file.specs.Address.{address_value}
use Rattle.cluster_file.specs.ClusterFile.{cluster_of, cluster_value}
use Rattle.cluster_file.specs.Said.{key_place}
use Rattle.cluster_file.specs.declared.cluster.Cluster.{Cluster}
use Rattle.oathd_sim.specs.Sim.{Setup}
use Rattle.oathd_words.specs.declared.nodes_words.NodesWords.{NodesWords}
use Rattle.oathd_words.specs.declared.nodes_words.NodesWords.TheVariants.{Given, Named}
use Rattle.oathd_tasks.specs.Check.{IsKeyIn}
use Rattle.oathd_tasks.specs.Nodes.{IsSetup}

-- the setup of `nodes` nodes
abbrev setup_with : Limits → ℕ → List ℕ → ℕ → Setup
setup_with limits moment key nodes = record { nodes = nodes; limits = limits; moment = moment; key = key }

-- if a cluster file is named, its content is the setup of the nodes
pub named_setup : (nodes : NodesWords) (path : Bor (List ℕ)) (moment : ℕ) (text : List ℕ) (cluster : Cluster) (key : List ℕ) (count : ℕ)
    → nodes ≡ Named path → cluster_of text ≡ Ok (cluster_value cluster) → IsKeyIn (key_place cluster.key) key → count ≡ length cluster.members.items
    → IsSetup nodes moment text (record { nodes = count; limits = cluster.settings; moment = moment; key = key })
named_setup (Given number settings file) path moment text cluster key count named said is each = absurd cc
named_setup (Named other) path moment text cluster key count named said is each =
    (cluster_value cluster, said, key, is, ap (setup_with cluster.settings moment key) (each ∙ sym (length-map cluster.members.items address_value)))
