use Rattle.std.proofs.Common.{sym}
use Rattle.named_port.proofs.MemberLemmas.{from_below}
use Rattle.named_port.proofs.translator.Translator.sent_by.Goals as goal

pub returns-then-head-self-clause-member : goal.returns-then-head-self-clause-member
returns-then-head-self-clause-member c =
    from_below c.self.inside.key.now c.args.bytes.now c.in_ok-head.head c.in_ok-head.body.now (sym c.in_ok-head.ensures.exact)
