-- Each clause is a lemma.
use Rattle.oathd_database.proofs.AnewLemmas.{above, may_open, no_lower}
use Rattle.oathd_database.proofs.laws.files_reach_anew.Goals as goal

pub returns-clause-may_open : goal.returns-clause-may_open
returns-clause-may_open c = may_open

pub returns-clause-above : goal.returns-clause-above
returns-clause-above c = above

pub returns-clause-no_lower : goal.returns-clause-no_lower
returns-clause-no_lower c = no_lower
