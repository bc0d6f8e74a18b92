use Rattle.operator_text.proofs.ReplyLemmas.{no_page, spelling}
use Rattle.operator_text.proofs.laws.replies_are_no_pages.Goals as goal

pub returns-clause-reading : goal.returns-clause-reading
returns-clause-reading c text reply = spelling text reply

pub returns-clause-pages : goal.returns-clause-pages
returns-clause-pages c reply = no_page reply
