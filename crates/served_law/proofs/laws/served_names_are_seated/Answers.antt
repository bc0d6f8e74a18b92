-- Both are one lemma.
use Rattle.node_serving.specs.Stretches.{unasked}
use Rattle.served_law.proofs.Seated.{seated_member}
use Rattle.served_law.proofs.laws.served_names_are_seated.Goals as goal

pub returns-clause-served : goal.returns-clause-served
returns-clause-served g c = λ cluster moment serving until result text names rows setting run its members. seated_member g.S.Store g.D.Database.finds cluster moment serving (g.U.Stop.answers until) result text names rows setting run its members

pub returns-clause-failed : goal.returns-clause-failed
returns-clause-failed g c = λ cluster moment serving result text names rows setting run its members. seated_member g.S.Store g.D.Database.finds cluster moment serving unasked result text names rows setting run its members
