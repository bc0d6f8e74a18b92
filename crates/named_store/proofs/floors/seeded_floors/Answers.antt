use Rattle.std.proofs.Common.{◌<◌, ap, length, get_or, slice_index_or, ◌∙◌, arith}
use Rattle.std.proofs.lemmas.List.{get_or_read}
use Rattle.std.specs.Ordering.{nat_cmp}
use Rattle.std.specs.Cmp.Lexicographic.{slice_cmp}
use Rattle.std.specs.BTreeMap as tree
use Rattle.named_store.specs.Floors.{lifted_by, no_entry}
use Rattle.named_store.proofs.SeedLemmas.{floors_lifted}
use Rattle.named_store.proofs.floors.seeded_floors.Goals as goal

pub loop-place-preserved : goal.loop-place-preserved
loop-place-preserved c =
    let floors = c.args.floors.now in
    let n = c.loop-place.place-index in
    let within : get_or c.args.places.now n 0 < length c.args.names.now = c.requires.places n 0 c.loop-place-test.true in
    let floor = get_or_read floors (get_or c.args.places.now n 0) c.index-floors-at.result (omega (arith, within, c.requires.tokens)) c.index-floors-at.is 0 in
    let got = tree.get (slice_cmp nat_cmp) c.in_ok-greatest.greatest (slice_index_or c.args.names.now (get_or c.args.places.now n 0) no_entry).seed in
    c.in_ok-push.ensures.items ∙ floors_lifted c.args.roster.now c.args.held.now c.args.names.now floors c.args.places.now c.loop-place.all.items n
    c.lifted.result c.in_ok-greatest.greatest c.loop-place-test.true c.in_ok-greatest.ensures.floors (c.lifted.ensures ∙ ap (λ f. lifted_by got f) floor) c.loop-place.invariant
