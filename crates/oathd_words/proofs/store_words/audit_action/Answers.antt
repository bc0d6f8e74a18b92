use Rattle.clap.specs.Matches.{found_of}
use Rattle.oathd_words.specs.declared.store_words.Look.TheVariants.{Audit}
use Rattle.oathd_words.proofs.WordsLemmas.{no_owner, where_none}
use Rattle.oathd_words.proofs.store_words.audit_action.Goals as goal

pub returns-in_err-owner-clause-none : goal.returns-in_err-owner-clause-none
returns-in_err-owner-clause-none c =
    where_none c.from_residual.result _ (no_owner (found_of c.args.matches.now) Audit c.in_err-owner.ensures.none)
