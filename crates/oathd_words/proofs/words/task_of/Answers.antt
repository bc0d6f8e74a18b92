use Rattle.clap.specs.Matches.{found_of}
use Rattle.oathd_words.proofs.MembersLemmas.{none_at}
use Rattle.oathd_words.proofs.WordsLemmas.{none_of_both, none_then, not_for_check, not_for_cluster, not_for_lines, not_for_secret, not_for_sim, not_for_store}
use Rattle.oathd_words.proofs.words.task_of.Goals as goal

pub returns-in-lines-clause-none : goal.returns-in-lines-clause-none
returns-in-lines-clause-none c =
    none_then c.lines_task.result _ _ c.lines_task.ensures.none (not_for_lines c.args.name.now (found_of c.args.matches.now) c.in-lines.is)

pub returns-in-sim-clause-none : goal.returns-in-sim-clause-none
returns-in-sim-clause-none c = none_then c.sim_task.result _ _ c.sim_task.ensures.none (not_for_sim c.args.name.now (found_of c.args.matches.now) c.in-sim.is)

pub returns-in-cluster-clause-none : goal.returns-in-cluster-clause-none
returns-in-cluster-clause-none c =
    none_then c.cluster_task.result _ _ c.cluster_task.ensures.none (not_for_cluster c.args.name.now (found_of c.args.matches.now) c.in-cluster.is)

pub returns-in-secret-clause-none : goal.returns-in-secret-clause-none
returns-in-secret-clause-none c =
    none_then c.secret_task.result _ _ c.secret_task.ensures.none (not_for_secret c.args.name.now (found_of c.args.matches.now) c.in-secret.is)

pub returns-in-check-clause-none : goal.returns-in-check-clause-none
returns-in-check-clause-none c = none_then c.check_task.result _ _ c.check_task.ensures.none (not_for_check c.args.name.now (found_of c.args.matches.now) c.in-check.is)

pub returns-in-None-clause-none : goal.returns-in-None-clause-none
returns-in-None-clause-none c =
    let no_store = none_at c.in_ok-task-in_default.field-0 _ c.in-None.is c.in_ok-task-in_default.ensures.none in
    none_of_both c.ask_task.result _ _ _ c.ask_task.ensures.node c.ask_task.ensures.members
    (not_for_store c.args.name.now (found_of c.args.matches.now) c.in_default.not-lines c.in_default.not-sim c.in_default.not-cluster
    c.in_default.not-check c.in_default.not-text c.in_default.not-text-2 c.in_default.not-secret no_store)
