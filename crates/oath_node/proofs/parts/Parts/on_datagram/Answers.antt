use Rattle.std.proofs.Common.{◌≡◌, length, None, Some, refl, sym, ◌∙◌}
use Rattle.vote_wire.specs.Datagram.{datagram_at}
use Rattle.oath_node.specs.Heard.{IsHeardAs}
use Rattle.oath_node.specs.Hosted.{envelope_at}
use Rattle.oath_node.specs.Machine.{made_by_datagram, made_by_message, quiet_made}
use Rattle.oath_node.specs.Parts.{state_in}
use Rattle.oath_node.proofs.PeerLemmas.{config_of, heard, unheard, datagram_unread, datagram_dropped, datagram_heard}
use Rattle.oath_node.proofs.StepLemmas.{steps_told, steps_same}
use Rattle.oath_node.proofs.parts.Parts.on_datagram.Goals as goal

pub returns-in_default : goal.returns-in_default
returns-in_default g c book limits rows =
    let held = g.S.FloorStore.held in
    let old = c.args.self.now in
    let config = config_of book limits in
    let bytes = c.args.bytes.now in
    let unread : datagram_at c.args.key.now bytes ≡ None = sym c.read_message.ensures.exact ∙ c.in_default.is in
    steps_told held c.args.key.now old (made_by_datagram config old.voter.place c.args.from (envelope_at c.args.key.now bytes)) c.nothing.result (quiet_made (state_in held old))
    (datagram_unread c.args.key.now config old.voter.place c.args.from bytes (state_in held old) unread) refl c.nothing.ensures

pub returns-then-not-is_heard : goal.returns-then-not-is_heard
returns-then-not-is_heard g c book limits rows =
    let held = g.S.FloorStore.held in
    let old = c.args.self.now in
    let config = config_of book limits in
    let bytes = c.args.bytes.now in
    let sender = c.in-Some.sender in
    let to = c.in-Some.to in
    let m = c.in-Some.message in
    let read : datagram_at c.args.key.now bytes ≡ Some (sender, to, m) = sym c.read_message.ensures.exact ∙ c.in-Some.is in
    let size : old.voter.tokens ≡ length book = sym c.requires.store.tokens ∙ rows in
    let never : IsHeardAs old.voter.place old.voter.tokens c.args.from sender to m → ⊥ = λ h. (let t = c.is_heard.ensures.1 h in cc) in
    let dropped = unheard book limits old.voter.place old.voter.tokens c.args.from sender to m size c.in-Some.ensures.some.1.0 never in
    steps_told held c.args.key.now old (made_by_datagram config old.voter.place c.args.from (envelope_at c.args.key.now bytes)) c.nothing-then-not-is_heard.result (quiet_made (state_in held old))
    (datagram_dropped c.args.key.now config old.voter.place c.args.from sender to m bytes (state_in held old) read dropped) refl c.nothing-then-not-is_heard.ensures

pub returns : goal.returns
returns g c book limits rows =
    let held = g.S.FloorStore.held in
    let old = c.args.self.now in
    let config = config_of book limits in
    let bytes = c.args.bytes.now in
    let sender = c.in-Some.sender in
    let to = c.in-Some.to in
    let m = c.in-Some.message in
    let read : datagram_at c.args.key.now bytes ≡ Some (sender, to, m) = sym c.read_message.ensures.exact ∙ c.in-Some.is in
    let size : old.voter.tokens ≡ length book = sym c.requires.store.tokens ∙ rows in
    let is = heard book limits old.voter.place old.voter.tokens c.args.from sender to m size (c.is_heard.ensures.0 c.if-not-is_heard.false) in
    steps_same held c.args.key.now old c.on_message.new.self (made_by_message old.voter.place c.args.from m)
    (made_by_datagram config old.voter.place c.args.from (envelope_at c.args.key.now bytes)) c.on_message.result
    (λ _. sym (datagram_heard c.args.key.now config old.voter.place c.args.from sender to m bytes (state_in held old) read is))
    c.on_message.ensures
