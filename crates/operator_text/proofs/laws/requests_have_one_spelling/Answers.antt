use Rattle.operator_text.proofs.RequestLemmas.{short, spelling}
use Rattle.operator_text.proofs.laws.requests_have_one_spelling.Goals as goal

pub returns-clause-reading : goal.returns-clause-reading
returns-clause-reading c text wish = spelling text wish

pub returns-clause-len : goal.returns-clause-len
returns-clause-len c wish is = short wish is
