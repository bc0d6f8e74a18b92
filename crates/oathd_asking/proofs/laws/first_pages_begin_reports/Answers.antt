use Rattle.std.proofs.Common.{◌&&◌, is_some, ap, arith}
use Rattle.operator_text.specs.Pages.{next_in}
use Rattle.operator_text.specs.Reading.{page_at}
use Rattle.operator_text.specs.Request.{Lines}
use Rattle.operator_text.proofs.RequestLemmas.{back}
use Rattle.oathd_asking.specs.Sent.{asks_first}
use Rattle.oathd_asking.proofs.laws.first_pages_begin_reports.Goals as goal

pub returns : goal.returns
returns c report page =
    ap (λ wish. asks_first wish && is_some (next_in (page_at page))) (back (Lines report 0) (omega arith))
