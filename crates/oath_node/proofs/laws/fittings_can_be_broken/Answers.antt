-- What the rules make of the line is computed, the code with it.
use Rattle.admit_core.specs.Fit.{code_at}
use Rattle.hmac_core.specs.Unfolded.sha1_steps
use Rattle.oath_node.specs.Cases.{first_line}
use Rattle.oath_node.specs.Examples.{narrow_limits, standing_with, three_tokens}
use Rattle.oath_node.proofs.GroundLemmas.{ruling_grounds}
use Rattle.oath_node.proofs.laws.fittings_can_be_broken.Goals as goal

pub returns-clause-fitting : goal.returns-clause-fitting
unfolding code_at sha1_steps.first_words sha1_steps.schedule sha1_steps.rounds sha1_steps.compress sha1_steps.hash_after sha1_steps.digest_bytes sha1_steps.sha1
returns-clause-fitting c =
    ruling_grounds c.least_fit_is_least.ensures.some three_tokens narrow_limits (standing_with 0 0) 100 first_line
