use Rattle.oathd_asking.proofs.PageLemmas.{after_last, cut_short, twice}
use Rattle.oathd_asking.proofs.laws.pages_can_be_broken.Goals as goal

pub returns-clause-twice : goal.returns-clause-twice
returns-clause-twice c operator node report page pages are = twice operator node report page pages are

pub returns-clause-cut_short : goal.returns-clause-cut_short
returns-clause-cut_short c operator node report page read are = cut_short operator node report page _ _ read are

pub returns-clause-after_the_last : goal.returns-clause-after_the_last
returns-clause-after_the_last c operator node report first second read are = after_last operator node report first second _ read are
