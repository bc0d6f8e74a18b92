use Rattle.std.proofs.Common.{sym, ◌∙◌}
use Rattle.clap.specs.Matches.{found_of}
use Rattle.oathd_words.proofs.ServeLemmas.{no_log, no_turns}
use Rattle.oathd_words.proofs.store_words.serve_action.Goals as goal

pub returns-in_default-turns_of-clause-none : goal.returns-in_default-turns_of-clause-none
returns-in_default-turns_of-clause-none c = no_turns (found_of c.args.matches.now) (sym c.turns_of.ensures ∙ c.in_default-turns_of.is)

pub returns-in_default-log_words-clause-none : goal.returns-in_default-log_words-clause-none
returns-in_default-log_words-clause-none c = no_log (found_of c.args.matches.now) c.in_default-log_words.ensures.none
