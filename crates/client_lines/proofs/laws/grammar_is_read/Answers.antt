-- The grammar decides what the reader reads.
use Rattle.client_lines.proofs.RequestLemmas.{line_of_request, request_of_line}
use Rattle.client_lines.proofs.laws.grammar_is_read.Goals as goal

pub returns : goal.returns
returns c bytes request = (request_of_line bytes request, line_of_request bytes request)
