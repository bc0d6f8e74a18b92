-- Each run is computed.
use Rattle.std.proofs.Common.{refl}
use Rattle.hex.specs.Hex.{decode_pairs}
use Rattle.std.specs.Fmt.{digits}
use Rattle.oath_node.specs.Report.{report_from}
use Rattle.oathd_lines.proofs.laws.runs_are_worked.Goals as goal

pub returns-clause-answered : goal.returns-clause-answered
unfolding report_from
returns-clause-answered c = refl

pub returns-clause-again : goal.returns-clause-again
unfolding decode_pairs digits report_from
returns-clause-again c = refl

pub returns-clause-longest : goal.returns-clause-longest
unfolding report_from
returns-clause-longest c = refl

pub returns-clause-to_the_limit : goal.returns-clause-to_the_limit
unfolding report_from
returns-clause-to_the_limit c = refl

pub returns-clause-two_past_the_limit : goal.returns-clause-two_past_the_limit
unfolding report_from
returns-clause-two_past_the_limit c = refl

pub returns-clause-moment : goal.returns-clause-moment
unfolding decode_pairs digits report_from
returns-clause-moment c = refl

pub returns-clause-skew_of_the_node : goal.returns-clause-skew_of_the_node
unfolding decode_pairs digits report_from
returns-clause-skew_of_the_node c = refl

pub returns-clause-skew_of_the_import : goal.returns-clause-skew_of_the_import
unfolding decode_pairs digits report_from
returns-clause-skew_of_the_import c = refl
