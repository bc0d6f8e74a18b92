-- Each condition is a field.
use Rattle.std.proofs.Common.{arith}
use Rattle.served_law.proofs.run_laws.commands_can_be_broken.Goals as goal

pub returns-clause-unknown : goal.returns-clause-unknown
returns-clause-unknown g c = λ cluster moment serving result text names rows setting run none h. none h.known

pub returns-clause-of_fewer_members : goal.returns-clause-of_fewer_members
returns-clause-of_fewer_members g c = λ cluster moment serving result text names rows setting run three five h. let e = h.members in omega (arith, three, five, e)

pub returns-clause-unclean : goal.returns-clause-unclean
returns-clause-unclean g c = λ cluster moment serving result text names rows setting run none h. none h.stays

pub returns-clause-past_the_last_boot : goal.returns-clause-past_the_last_boot
returns-clause-past_the_last_boot g c = λ cluster moment serving result text names rows setting run none h. none h.boot
