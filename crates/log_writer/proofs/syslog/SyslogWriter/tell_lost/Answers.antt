use Rattle.std.proofs.Common.{◌∙◌}
use Rattle.log_writer.proofs.SyslogLemmas.{some_told}
use Rattle.log_writer.proofs.syslog.SyslogWriter.tell_lost.Goals as goal

pub returns-then-self-gt0-clause-offers : goal.returns-then-self-gt0-clause-offers
returns-then-self-gt0-clause-offers g c =
    some_told c.args.self.now.lost c.send.result _ _ _ c.if-self-gt0.true (c.deref.ensures.0 ∙ c.lost_message.ensures) c.send.ensures
