-- Each setup is compared with what is said, and each end with both of its reasons.
use Rattle.std.proofs.Common.{◌≡◌, inl, inr, ℕ, [], length, replicate, Result, IfErr, refl, sym, ap, subst, ◌∙◌, arith}
use Rattle.std.specs.Prelude.{codes}
use Rattle.otp_core.specs.Limits.{default_limits}
use Rattle.cluster_file.specs.ClusterFile.{ClusterRecord}
use Rattle.cluster_file.specs.Examples.{small_cluster}
use Rattle.cluster_file.specs.declared.fault.LineFault.TheVariants.{NoMember as NoMembers}
use Rattle.oathd_sim.specs.Sim.{Setup}
use Rattle.oathd_tasks.specs.Broken.{EndsGiven, EndsNamed, done, ended_by, file_fault, keyed_cluster, keyed_text, named_nodes, setup_of, small_text, usual_setup}
use Rattle.oathd_tasks.specs.Check.{IsKeyIn}
use Rattle.oathd_tasks.specs.Nodes.{IsOfKey, IsOfSetup}
use Rattle.oathd_tasks.specs.declared.fault.Fault.{Fault}
use Rattle.oathd_tasks.specs.declared.fault.Fault.TheVariants.{KeyPath, NoDatabases}
use Rattle.oathd_tasks.proofs.LawLemmas.{keyed_says, nothing_says, says_one, small_says, told_first}
use Rattle.oathd_tasks.proofs.laws.setups_can_be_broken.Goals as goal

pub returns-clause-given : goal.returns-clause-given
returns-clause-given c = ((replicate 32 0, refl, refl), ([], tt, refl))

pub returns-clause-given_nodes : goal.returns-clause-given_nodes
returns-clause-given_nodes c h = let e : 3 ≡ 2 = ap (λ (setup : Setup). setup.nodes) h.2 in omega (arith, e)

pub returns-clause-given_limits : goal.returns-clause-given_limits
returns-clause-given_limits c h = let e : 0 ≡ 1 = ap (λ (setup : Setup). setup.limits.skew) h.2 in omega (arith, e)

pub returns-clause-given_moment : goal.returns-clause-given_moment
returns-clause-given_moment c h = let e : 6 ≡ 5 = ap (λ (setup : Setup). setup.moment) h.2 in omega (arith, e)

pub returns-clause-given_key : goal.returns-clause-given_key
returns-clause-given_key c h =
    let key : [] ≡ replicate 32 0 = ap (λ (setup : Setup). setup.key) h.2 ∙ h.1 in
    let lengths : 0 ≡ 32 = ap (length {A = ℕ}) key in
    omega (arith, lengths)

pub returns-clause-named : goal.returns-clause-named
returns-clause-named c = ((small_cluster, small_says, [], tt, refl), (keyed_cluster, keyed_says, replicate 16 0, refl, refl))

pub returns-clause-named_text : goal.returns-clause-named_text
returns-clause-named_text c h = nothing_says h.0 h.1

pub returns-clause-named_nodes : goal.returns-clause-named_nodes
returns-clause-named_nodes c h =
    let said : 1 ≡ length h.0.members = ap (λ (cluster : ClusterRecord). length cluster.members) (says_one small_text _ _ small_says h.1) in
    let e : 2 ≡ length h.0.members = ap (λ (setup : Setup). setup.nodes) h.4 in
    omega (arith, said, e)

pub returns-clause-named_limits : goal.returns-clause-named_limits
returns-clause-named_limits c h =
    let said : 1 ≡ h.0.settings.skew = ap (λ (cluster : ClusterRecord). cluster.settings.skew) (says_one small_text _ _ small_says h.1) in
    let e : 0 ≡ h.0.settings.skew = ap (λ (setup : Setup). setup.limits.skew) h.4 in
    omega (arith, said, e)

pub returns-clause-named_moment : goal.returns-clause-named_moment
returns-clause-named_moment c h = let e : 6 ≡ 5 = ap (λ (setup : Setup). setup.moment) h.4 in omega (arith, e)

pub returns-clause-named_key : goal.returns-clause-named_key
returns-clause-named_key c h =
    let said : h.2 ≡ replicate 16 0 = subst (λ (cluster : ClusterRecord). IsKeyIn cluster.key h.2) (sym (says_one keyed_text _ _ keyed_says h.1)) h.3 in
    let key : replicate 32 0 ≡ h.2 = ap (λ (setup : Setup). setup.key) h.4 in
    let lengths : 32 ≡ 16 = ap (length {A = ℕ}) (key ∙ said) in
    omega (arith, lengths)

pub returns-clause-ends : goal.returns-clause-ends
returns-clause-ends c = inl (usual_setup, (replicate 32 0, refl, refl), refl)

pub returns-clause-ends_with_another : goal.returns-clause-ends_with_another
returns-clause-ends_with_another c h = by h
  where
    by : EndsGiven (λ setup. setup ≡ setup_of 3 default_limits 5) done [] → ⊥
    by (inl w) = let e : 2 ≡ 3 = ap (λ (setup : Setup). setup.nodes) (sym w.1.2 ∙ w.2) in omega (arith, e)
    by (inr w) = let e = w.1 in absurd cc

pub returns-clause-ends_with_none : goal.returns-clause-ends_with_none
returns-clause-ends_with_none c h = by h
  where
    by : EndsGiven (λ setup. ⊥) done [] → ⊥
    by (inl w) = w.2
    by (inr w) = let e = w.1 in absurd cc

pub returns-clause-ends_by_a_fault : goal.returns-clause-ends_by_a_fault
returns-clause-ends_by_a_fault c = inr (KeyPath, refl, tt, refl)

pub returns-clause-ends_by_another : goal.returns-clause-ends_by_another
returns-clause-ends_by_another c h = by h
  where
    by : EndsGiven (λ setup. ⊥) (ended_by NoDatabases) [] → ⊥
    by (inl w) = w.2
    by (inr w) = subst (λ (result : Result Unit Fault). IfErr result IsOfKey) (sym w.1) w.2

pub returns-clause-ends_by_a_fault_and_writes : goal.returns-clause-ends_by_a_fault_and_writes
returns-clause-ends_by_a_fault_and_writes c h = by h
  where
    by : EndsGiven (λ setup. ⊥) (ended_by KeyPath) (codes "x") → ⊥
    by (inl w) = w.2
    by (inr w) = let e = w.3 in absurd cc

pub returns-clause-ends_named : goal.returns-clause-ends_named
returns-clause-ends_named c = inr (file_fault 1 NoMembers, refl, inr refl, refl)

pub returns-clause-ends_named_at_another_line : goal.returns-clause-ends_named_at_another_line
returns-clause-ends_named_at_another_line c h = by h
  where
    of_another : IsOfSetup named_nodes [] (file_fault 2 NoMembers) → ⊥
    of_another (inl w) = w
    of_another (inr w) = let line : 1 ≡ 2 = told_first 2 NoMembers w in omega (arith, line)

    by : EndsNamed [] (λ setup. ⊥) (ended_by (file_fault 2 NoMembers)) [] → ⊥
    by (inl w) = w.2
    by (inr w) = of_another (subst (λ (result : Result Unit Fault). IfErr result (IsOfSetup named_nodes [])) (sym w.1) w.2)
