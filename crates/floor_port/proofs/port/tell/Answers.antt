use Rattle.std.proofs.Common.{◌∙◌, ap}
use Rattle.floor_port.specs.Packer.{PackerRecord}
use Rattle.floor_port.specs.Rows.{after_turn}
use Rattle.floor_port.proofs.OfferLemmas.{one_turn, turn_after, with_rows}
use Rattle.floor_port.proofs.port.tell.Goals as goal

pub loop-preserved : goal.loop-preserved
loop-preserved g c =
    let packer = c.args.packer.now in
    let turns = c.loop.counter in
    record {
      offers = one_turn (g.P.Port.events c.args.port.now) (g.P.Port.events c.loop.port) (g.P.Port.events c.tell_turn.new.port) packer c.loop.packer
          turns c.loop.invariant.offers c.loop.invariant.packer c.tell_turn.ensures.offers;
      packer = c.tell_turn.ensures.after ∙ ap (λ (p : PackerRecord). with_rows p (after_turn p.rows)) c.loop.invariant.packer
          ∙ ap (with_rows packer) (turn_after packer.rows turns);
      stays = c.tell_turn.ensures.stays ∙ c.loop.invariant.stays;
    }
