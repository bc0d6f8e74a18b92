use Rattle.std.proofs.Common.{◌∙◌, arith}
use Rattle.floor_port.proofs.OfferLemmas.{one_offer}
use Rattle.floor_port.proofs.port.tell_members.Goals as goal

pub loop-place-preserved : goal.loop-place-preserved
loop-place-preserved g c = record {
  within = omega (arith, c.loop-place-test.true, c.members-place-end.ensures);
  offers = one_offer (g.P.Port.events c.args.port.now) (g.P.Port.events c.loop-place.port) (g.P.Port.events c.tell_member.new.port) c.args.packer.now c.args.body.now
      c.loop-place.place c.loop-place.invariant.offers c.tell_member.ensures.offers;
  stays = c.tell_member.ensures.stays ∙ c.loop-place.invariant.stays;
}
