-- Each clause is a lemma.
use Rattle.name_law.proofs.Stores.{commits_law, leaves_law, puts_law, raises_law, settled_law}
use Rattle.name_law.proofs.laws.seated_stores_keep_other_rows.Goals as goal

pub returns-clause-start : goal.returns-clause-start
returns-clause-start g c = λ seats store. settled_law g.S.FloorStore.held seats store

pub returns-clause-puts : goal.returns-clause-puts
returns-clause-puts g c = λ first old new token row pass result k are low puts. puts_law g.S.FloorStore.held first old new k token row pass result are low puts

pub returns-clause-commits : goal.returns-clause-commits
returns-clause-commits g c = λ first old new result k on. commits_law g.S.FloorStore.held first old new k result on

pub returns-clause-raises : goal.returns-clause-raises
returns-clause-raises g c = λ first old new result k on. raises_law g.S.FloorStore.held first old new k result on

pub returns-clause-leaves : goal.returns-clause-leaves
returns-clause-leaves g c = λ first seen store k clean leaves. leaves_law g.S.FloorStore.held first seen store k clean leaves
