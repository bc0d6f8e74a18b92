use Rattle.std.proofs.Common.{sym}
use Rattle.clap.specs.Matches.{found_of}
use Rattle.oathd_words.proofs.WordsLemmas.{no_syslog}
use Rattle.oathd_words.proofs.store_words.log_words.Goals as goal

pub returns-in_err-address-in-Some-clause-none : goal.returns-in_err-address-in-Some-clause-none
returns-in_err-address-in-Some-clause-none c =
    rw c.from_residual.ensures
    (no_syslog (found_of c.args.matches.now) c.in-Some.text.now (sym c.in-Some.ensures) c.in_err-address-in-Some.ensures.none)
