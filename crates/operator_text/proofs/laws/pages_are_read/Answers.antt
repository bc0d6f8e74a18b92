use Rattle.operator_text.proofs.PageLemmas.{page_is_short, pushes_make_the_page}
use Rattle.operator_text.proofs.ReadingLemmas.{page_is_read}
use Rattle.operator_text.proofs.SpellingLemmas.{spelled_so}
use Rattle.operator_text.proofs.laws.pages_are_read.Goals as goal

pub returns-clause-pushed : goal.returns-clause-pushed
returns-clause-pushed c from lines = pushes_make_the_page from lines

pub returns-clause-len : goal.returns-clause-len
returns-clause-len c from lines low = page_is_short from lines low

pub returns-clause-read : goal.returns-clause-read
returns-clause-read c from lines low are = page_is_read from lines low are.each

pub returns-clause-spelled : goal.returns-clause-spelled
returns-clause-spelled c bytes page e = spelled_so bytes page e
