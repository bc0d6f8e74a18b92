use Rattle.std.proofs.Common.{◌∙◌, sym, ap, subst, get_or, length, map, List, arith}
use Rattle.std.proofs.lemmas.List.{get_or_read}
use Rattle.datagram_port.specs.Port.{Grows}
use Rattle.bundle_port.specs.Bundler.{BundlerRecord, LaneRecord, LeftRecord, after_flush, after_wait, flush_offers, new_lane}
use Rattle.bundle_port.proofs.OfferLemmas.{all_offers, length_waited, one_offer, waited_all, waited_more}
use Rattle.bundle_port.proofs.port.flush_lanes.Goals as goal

abbrev bundler_of : List LaneRecord → LeftRecord → BundlerRecord
bundler_of lanes left = record { lanes = lanes; left = left }

pub loop-place-preserved : goal.loop-place-preserved
loop-place-preserved g c =
    let lanes = c.bundler.inside.lanes in
    let now = c.loop-place.bundler-inside.lanes in
    let place = c.loop-place.place in
    let kept = c.loop-place.invariant in
    let count = kept.count in
    let lane = get_or now place c.index-bundler-place.result in
    let long = ap length kept.lanes ∙ length_waited place lanes in
    let lane_is = sym c.index-bundler-place.is ∙ get_or_read now place c.index-bundler-place.result (omega arith) c.index-bundler-place.is new_lane in
    record {
      count = count;
      within = omega arith;
      offers = one_offer (g.P.Port.events c.args.port.now) (g.P.Port.events c.loop-place.port) (g.P.Port.events c.flush_lane.new.port) lanes now lane place
          (omega arith) kept.lanes lane_is kept.offers c.flush_lane.ensures.offers;
      lanes = waited_more place now lanes lane c.flush_lane.new.lane kept.lanes lane_is c.flush_lane.ensures.after;
      left = kept.left;
      stays = c.flush_lane.ensures.stays ∙ kept.stays;
    }

pub returns-clause-after : goal.returns-clause-after
returns-clause-after g c =
    let lanes = c.bundler.inside.lanes in
    let kept = c.loop-place.invariant in
    let count = kept.count in
    ap (λ (l : List LaneRecord). bundler_of l c.loop-place.bundler-inside.left) (kept.lanes ∙ waited_all c.loop-place.place lanes (omega arith))
    ∙ ap (bundler_of (map after_wait lanes)) kept.left
    ∙ ap after_flush c.bundler.view_is

pub returns-clause-offers : goal.returns-clause-offers
returns-clause-offers g c =
    let lanes = c.bundler.inside.lanes in
    let kept = c.loop-place.invariant in
    let count = kept.count in
    subst (λ (b : BundlerRecord). Grows (g.P.Port.events c.args.port.now) (g.P.Port.events c.loop-place.port) (flush_offers b)) c.bundler.view_is
    (all_offers (g.P.Port.events c.args.port.now) (g.P.Port.events c.loop-place.port) lanes c.loop-place.place (omega arith) kept.offers)
