use Rattle.std.proofs.Common.{◌+◌, true, false, refl, ap, ◌∙◌}
use Rattle.log_writer.specs.Syslog.{message_of}
use Rattle.log_writer.specs.Waiting.{counted}
use Rattle.log_writer.proofs.SyslogLemmas.{ended_told, ended_untold}
use Rattle.log_writer.proofs.syslog.SyslogWriter.offer_line.Goals as goal

pub returns-then-not-tell_lost : goal.returns-then-not-tell_lost
returns-then-not-tell_lost g c =
    ended_untold c.args.self.now.line c.args.self.now.lost _ c.tell_lost.result _ _ c.if-not-tell_lost.true
    c.tell_lost.ensures.at_once c.tell_lost.ensures.offers
    (c.saturating_add.ensures ∙ ap (λ number. counted (number + 1)) c.tell_lost.ensures.lost)

pub returns-then-send : goal.returns-then-send
returns-then-send g c =
    ended_told c.args.self.now.line _ c.args.self.now.lost _ c.tell_lost.result true c.send.result _ _ _
    c.if-not-tell_lost.false c.if-send.true
    (c.deref.ensures.0 ∙ c.message_of.ensures ∙ ap message_of (c.as_slice.ensures.bytes ∙ c.tell_lost.ensures.line))
    c.tell_lost.ensures.offers c.send.ensures refl

pub returns : goal.returns
returns g c =
    ended_told c.args.self.now.line _ c.args.self.now.lost _ c.tell_lost.result false c.send.result _ _ _
    c.if-not-tell_lost.false c.if-send.false
    (c.deref.ensures.0 ∙ c.message_of.ensures ∙ ap message_of (c.as_slice.ensures.bytes ∙ c.tell_lost.ensures.line))
    c.tell_lost.ensures.offers c.send.ensures refl
