use Rattle.std.proofs.Common.{◌<◌, length, ◌∙◌, arith}
use Rattle.oathd_asking.specs.Asked.{asked_of}
use Rattle.oathd_asking.specs.declared.sent.Sent.{Sent}
use Rattle.oathd_asking.proofs.RequestLemmas.{set_same}
use Rattle.oathd_asking.proofs.asker.Asker.send_all.Goals as goal

pub returns-in_err-send-clause-same : goal.returns-in_err-send-clause-same
returns-in_err-send-clause-same g c =
    let ys = c.loop-sent.all in
    let i = c.loop-sent.sent-index in
    let blank : Sent = c.sent-item.result in
    let within : i < length ys = omega arith in
    set_same asked_of ys i c.send.new.sent blank within c.send.ensures.same ∙ c.loop-sent.invariant

pub loop-sent-preserved : goal.loop-sent-preserved
loop-sent-preserved g c =
    let ys = c.loop-sent.all in
    let i = c.loop-sent.sent-index in
    let blank : Sent = c.sent-item.result in
    let within : i < length ys = omega arith in
    set_same asked_of ys i c.send.new.sent blank within c.send.ensures.same ∙ c.loop-sent.invariant
