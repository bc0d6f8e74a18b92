use Rattle.oathd_asking.proofs.PageLemmas.{whole}
use Rattle.oathd_asking.proofs.laws.reports_are_whole.Goals as goal

pub returns : goal.returns
returns c operator node report lines text are tells of = whole operator node report lines text are tells of
