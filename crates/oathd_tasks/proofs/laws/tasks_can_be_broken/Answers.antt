-- A setup is the one that the words give, with which the run is computed.
use Rattle.std.proofs.Common.{◌≡◌, inl, inr, ℕ, List, [], replicate, Some, refl, ap, subst, arith}
use Rattle.std.specs.Fmt.{digits}
use Rattle.std.specs.Prelude.{codes, slice_index}
use Rattle.hex.specs.Hex.{decode_pairs}
use Rattle.otp_core.specs.Limits.{default_limits}
use Rattle.secret_text.specs.Bits.{bits_of}
use Rattle.cluster_file.specs.declared.fault.LineFault.TheVariants.{NoMember as NoMembers}
use Rattle.oath_node.specs.Report.{report_from}
use Rattle.oathd_sim.specs.Sim.{Setup}
use Rattle.oathd_words.specs.declared.words.Task.TheVariants as tasks
use Rattle.oathd_tasks.specs.Broken.{done, file_fault, given_nodes, setup_of, usual_setup, word}
use Rattle.oathd_tasks.specs.Nodes.{ClusterEndsSo, EndsAsAsked, LinesEndSo, SimEndsSo}
use Rattle.oathd_tasks.proofs.LawLemmas.{nothing_says}
use Rattle.oathd_tasks.proofs.laws.tasks_can_be_broken.Goals as goal

pub returns-clause-lines : goal.returns-clause-lines
unfolding decode_pairs digits report_from
returns-clause-lines c = inl (setup_of 1 default_limits 150, (replicate 32 0, refl, refl), (refl, refl))

pub returns-clause-lines_end_as_lines : goal.returns-clause-lines_end_as_lines
returns-clause-lines_end_as_lines c h = by h
  where
    by : EndsAsAsked (tasks.Lines (given_nodes 1) 5) [] (Some (codes "%%\n\n")) done (Some []) (Some []) → ⊥
    by (inl w) =
        let ends = subst (λ (setup : Setup). LinesEndSo setup (Some (codes "%%\n\n")) done (Some []) (Some [])) w.1.2 w.2 in
        let e = ends.0 in
        absurd cc
    by (inr w) = let e = w.1 in absurd cc

pub returns-clause-lines_of_a_bad_file : goal.returns-clause-lines_of_a_bad_file
returns-clause-lines_of_a_bad_file c = inr (file_fault 1 NoMembers, refl, inr refl, refl)

pub returns-clause-sim : goal.returns-clause-sim
returns-clause-sim c = inl (usual_setup, (replicate 32 0, refl, refl), (refl, refl))

pub returns-clause-sim_ends_as_sims : goal.returns-clause-sim_ends_as_sims
returns-clause-sim_ends_as_sims c h = by h
  where
    by : EndsAsAsked (tasks.Sim (given_nodes 2) 5) [] (Some (codes "%%\nlive 1 2 3")) done (Some []) (Some (codes "sent 0\n")) → ⊥
    by (inl w) =
        let ends = subst (λ (setup : Setup). SimEndsSo setup (Some (codes "%%\nlive 1 2 3")) done (Some []) (Some (codes "sent 0\n"))) w.1.2 w.2 in
        let e = ends.0 in
        absurd cc
    by (inr w) = let e = w.1 in absurd cc

pub returns-clause-cluster : goal.returns-clause-cluster
returns-clause-cluster c =
    inl (setup_of 1 default_limits 5, (replicate 32 0, refl, refl), (refl, record { replies = []; each = refl; written = refl }))

pub returns-clause-cluster_ends_as_clusters : goal.returns-clause-cluster_ends_as_clusters
returns-clause-cluster_ends_as_clusters c h = by h
  where
    by : EndsAsAsked (tasks.Cluster (word []) (given_nodes 1) 5) [] (Some (codes "2 1 x")) done (Some []) (Some (codes "2 -\n")) → ⊥
    by (inl w) =
        let ends = subst (λ (setup : Setup). ClusterEndsSo setup.nodes (Some (codes "2 1 x")) done (Some []) (Some (codes "2 -\n"))) w.1.2 w.2 in
        let e = ends.0 in
        absurd cc
    by (inr w) = let e = w.1 in absurd cc

pub returns-clause-check_of_no_file : goal.returns-clause-check_of_no_file
returns-clause-check_of_no_file c h = nothing_says h.0 h.1

pub returns-clause-secret : goal.returns-clause-secret
unfolding bits_of decode_pairs
returns-clause-secret c = (refl, refl)

pub returns-clause-secret_of_another : goal.returns-clause-secret_of_another
unfolding bits_of decode_pairs
returns-clause-secret_of_another c h = let seconds : 65 ≡ 69 = ap (λ (text : List ℕ). slice_index text 1) h.1 in omega (arith, seconds)
