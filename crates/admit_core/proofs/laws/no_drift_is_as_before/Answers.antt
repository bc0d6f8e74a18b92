use Rattle.token_file.specs.Credential.{period_of}
use Rattle.admit_core.proofs.WindowLemmas.{window-none_drifts, numbers-none_drifts, kept-none_drifts}
use Rattle.admit_core.proofs.laws.no_drift_is_as_before.Goals as goal

pub returns-clause-window : goal.returns-clause-window
returns-clause-window c = λ kind. window-none_drifts (period_of kind)

pub returns-clause-numbers : goal.returns-clause-numbers
returns-clause-numbers c = λ kind. numbers-none_drifts (period_of kind)

pub returns-clause-kept : goal.returns-clause-kept
returns-clause-kept c = λ kind. kept-none_drifts (period_of kind)
