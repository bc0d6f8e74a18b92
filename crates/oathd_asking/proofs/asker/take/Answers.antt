use Rattle.std.proofs.Common.{◌<◌, length, get_or, ◌∙◌, arith}
use Rattle.oathd_asking.specs.Asked.{asked_of}
use Rattle.oathd_asking.specs.declared.sent.Sent.{Sent}
use Rattle.oathd_asking.proofs.RequestLemmas.{asked_same, set_same}
use Rattle.oathd_asking.proofs.asker.take.Goals as goal

pub loop-sent-preserved : goal.loop-sent-preserved
loop-sent-preserved c =
    let ys = c.loop-sent.all in
    let i = c.loop-sent.sent-index in
    let blank : Sent = c.sent-item.result in
    let within : i < length ys = omega arith in
    let e = c.take.ensures.same in
    set_same asked_of ys i c.take.new.self blank within (asked_same c.take.new.self (get_or ys i blank) e.0 e.1 e.2) ∙ c.loop-sent.invariant
