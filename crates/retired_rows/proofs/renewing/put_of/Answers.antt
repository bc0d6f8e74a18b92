use Rattle.std.proofs.Common.{arith, rules}
use Rattle.retired_rows.proofs.RenewLemmas.{found_at, place_within, put_found}
use Rattle.retired_rows.proofs.renewing.put_of.Goals as goal

pub bounds-kept-place : goal.bounds-kept-place
bounds-kept-place c =
    place_within c.args.kept.now c.args.pass.token c.in-Some.place
    (found_at c.args.kept.now c.args.places.now c.args.pass.token c.token.result c.in-Some.place c.copied.result
    c.requires.places c.token.ensures.value
    (search rules) c.in-Some.is)

pub bounds-kept-place-in-Some : goal.bounds-kept-place-in-Some
bounds-kept-place-in-Some c =
    place_within c.args.kept.now c.args.pass.token c.in-Some.place
    (found_at c.args.kept.now c.args.places.now c.args.pass.token c.token.result c.in-Some.place c.copied.result
    c.requires.places c.token.ensures.value
    (search rules) c.in-Some.is)

pub renumber-requires : goal.renumber-requires
renumber-requires c =
    let low =
    place_within c.args.kept.now c.args.pass.token c.in-Some.place
    (found_at c.args.kept.now c.args.places.now c.args.pass.token c.token.result c.in-Some.place c.copied.result
    c.requires.places c.token.ensures.value
    (search rules) c.in-Some.is) in
    omega (arith, low, c.requires.rows)

pub returns : goal.returns
returns c =
    put_found c.args.kept.now c.args.pass c.renumber.result c.in-Some.place c.index-kept-place.result
    (found_at c.args.kept.now c.args.places.now c.args.pass.token c.token.result c.in-Some.place c.copied.result
    c.requires.places c.token.ensures.value
    (search rules) c.in-Some.is) c.renumber.ensures
