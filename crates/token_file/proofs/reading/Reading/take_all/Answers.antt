use Rattle.std.proofs.Common.{◌+◌, ◌∷◌, [], take, drop, get_or, sym, subst}
use Rattle.std.proofs.lemmas.List.{take_all, take_more, take-append-drop}
use Rattle.token_file.specs.Reading.{Fails, Leads}
use Rattle.token_file.specs.UsersFile.{Instant}
use Rattle.token_file.proofs.ReadingLemmas.{fails_more, fails_then, handed_on, leads_none, leads_then}
use Rattle.token_file.proofs.reading.Reading.take_all.Goals as goal

pub loop-byte-init : goal.loop-byte-init
loop-byte-init c = leads_none (record { skew = c.args.settings.skew; moment = c.args.moment }) c.args.self.now

pub loop-byte-preserved : goal.loop-byte-preserved
loop-byte-preserved c =
    let at : Instant = record { skew = c.args.settings.skew; moment = c.args.moment } in
    let bytes = c.args.bytes.now in
    let i = c.loop-byte.byte-index in
    subst (λ bs. Leads at c.args.self.now bs c.take.new.self) (sym (take_more bytes i 0 c.loop-byte-test.true))
    (leads_then at c.args.self.now c.loop-byte.self c.take.new.self (take i bytes) (get_or bytes i 0 ∷ []) c.loop-byte.invariant c.in_ok-take.ensures.ok)

pub returns-in_err-take-clause-fault : goal.returns-in_err-take-clause-fault
returns-in_err-take-clause-fault c =
    let at : Instant = record { skew = c.args.settings.skew; moment = c.args.moment } in
    let bytes = c.args.bytes.now in
    let i = c.loop-byte.byte-index in
    let fault = c.in_err-take.field-0.0 in
    let here = fails_then at c.args.self.now c.loop-byte.self (take i bytes) (get_or bytes i 0 ∷ []) fault c.loop-byte.invariant c.in_err-take.ensures.fault in
    let here' = subst (λ bs. Fails at c.args.self.now bs fault) (sym (take_more bytes i 0 c.loop-byte-test.true)) here in
    handed_on c.from_residual.result fault (Fails at c.args.self.now bytes) c.from_residual.ensures.1
    (subst (λ bs. Fails at c.args.self.now bs fault) (take-append-drop (i + 1) bytes) (fails_more at c.args.self.now (take (i + 1) bytes) (drop (i + 1) bytes) fault here'))

pub returns-clause-ok : goal.returns-clause-ok
returns-clause-ok c =
    let at : Instant = record { skew = c.args.settings.skew; moment = c.args.moment } in
    subst (λ bs. Leads at c.args.self.now bs c.loop-byte.self) (take_all c.loop-byte.byte-index c.args.bytes.now c.loop-byte-test.false) c.loop-byte.invariant
