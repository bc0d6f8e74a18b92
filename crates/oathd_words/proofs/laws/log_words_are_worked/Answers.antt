use Rattle.std.proofs.Common.{sym, ◌∙◌}
use Rattle.oathd_words.specs.Broken.{local_text}
use Rattle.oathd_words.proofs.MembersLemmas.{five}
use Rattle.oathd_words.proofs.laws.log_words_are_worked.Goals as goal

pub returns-clause-syslog : goal.returns-clause-syslog
returns-clause-syslog c = λ found given. (
  record { text = local_text 5; given = given; says = five },
  λ asks. let clash = sym given ∙ asks.0 in absurd cc,
  λ asks. let clash = sym given ∙ asks.0 in absurd cc,
)
