-- The datagram is written in its parts.
use Rattle.std.proofs.Common.{length, refl, sym, ◌∙◌, ap, arith}
use Rattle.std.proofs.lemmas.List.{length-take}
use Rattle.vote_wire.specs.Bytes.{byte_at}
use Rattle.named_port.specs.Wire.{last_factor}
use Rattle.named_port.proofs.WireLemmas.{vote_written}
use Rattle.named_port.proofs.wire.numbered_vote.Goals as goal

pub push_all-requires-3 : goal.push_all-requires-3
push_all-requires-3 c =
    omega (arith, c.push_all-2.ensures.len, c.push_all.ensures.len, c.numbered_head-out.ensures.len, ap length c.to_be_bytes.ensures, length-take 24 c.args.fields.now)

pub push_all-requires-4 : goal.push_all-requires-4
push_all-requires-4 c =
    omega (arith, c.push_all-3.ensures.len, c.push_all-2.ensures.len, c.push_all.ensures.len, c.numbered_head-out.ensures.len, ap length c.to_be_bytes.ensures, length-take 24 c.args.fields.now)

pub returns : goal.returns
returns c =
    vote_written c.args.head c.args.node c.args.number c.in_ok-last.last c.args.fields.now c.push_all-4.new.out.items
    (omega arith)
    (ap (λ n. last_factor n (byte_at c.args.fields.now 24)) (sym c.number_at.ensures) ∙ sym c.last_factor.ensures ∙ c.in_ok-last.was)
    (rw (c.push_all-4.ensures.items, c.push_all-3.ensures.items, c.to_be_bytes.ensures, c.push_all-2.ensures.items, c.push_all.ensures.items, c.numbered_head-out.ensures.items) refl)
