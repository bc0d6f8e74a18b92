-- Each is a lemma.
use Rattle.node_serving.specs.Stretches.{unasked}
use Rattle.served_law.proofs.Orders.{all_named_steps, kept_stores, named_has_steps, named_run_in_order}
use Rattle.served_law.proofs.laws.served_names_have_steps.Goals as goal

pub returns-clause-served : goal.returns-clause-served
returns-clause-served g c = λ cluster moment serving until result text names rows setting left run sound leaves.
    named_run_in_order g.S.Store g.D.Database.finds cluster moment serving (g.U.Stop.answers until) result text names rows setting left run sound leaves

pub returns-clause-failed : goal.returns-clause-failed
returns-clause-failed g c = λ cluster moment serving result text names rows setting left run sound leaves.
    named_run_in_order g.S.Store g.D.Database.finds cluster moment serving unasked result text names rows setting left run sound leaves

pub returns-clause-uses : goal.returns-clause-uses
returns-clause-uses g c = λ setting node names store named are sized. named_has_steps g.S.Store g.D.Database.finds g.U.Stop.answers setting names sized node store named are

pub returns-clause-members : goal.returns-clause-members
returns-clause-members g c = λ setting names stores are sized. all_named_steps g.S.Store g.D.Database.finds g.U.Stop.answers setting names stores are sized

pub returns-clause-kept : goal.returns-clause-kept
returns-clause-kept g c = λ setting names named are has items members same. kept_stores g.S.Store g.D.Database.finds g.U.Stop.answers setting names named are has items members same
