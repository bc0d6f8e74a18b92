use Rattle.std.proofs.Common.{[], arith}
use Rattle.oathd_words.specs.Members.{parts_of}
use Rattle.oathd_words.proofs.MembersLemmas.{front_full, front_last, front_next, front_refused, none_at, none_so, one_longer, some_at, some_then}
use Rattle.oathd_words.proofs.members.read_addresses.Goals as goal

pub returns-in_default-clause-some : goal.returns-in_default-clause-some
returns-in_default-clause-some c =
    some_then c.with_address.result _ _
    (λ more h. (
      front_last c.args.text.now c.loop.rest.now c.loop.addresses.items more.items h.0 c.loop.invariant.0 c.in_default.ensures.none h.1 h.2,
      omega (arith, one_longer c.loop.addresses.items more.items h.0 h.2, c.loop.invariant.1, c.loop-test.true),
    ))
    c.with_address.ensures.some

pub returns-in_default-clause-none : goal.returns-in_default-clause-none
returns-in_default-clause-none c =
    none_so c.with_address.result _ _
    (λ none members says few. front_refused c.args.text.now c.loop.rest.now c.loop.rest.now [] c.loop.addresses.items c.loop.invariant.0
    c.in_default.ensures.none none members says)
    c.with_address.ensures.none

pub returns-in_default-2-clause-none : goal.returns-in_default-2-clause-none
returns-in_default-2-clause-none c members says few =
    front_refused c.args.text.now c.loop.rest.now c.in-Some.first.now (parts_of c.in-Some.behind.now) c.loop.addresses.items c.loop.invariant.0
    c.in-Some.ensures.some (none_at c.in_ok-more.field-0 _ c.in_default-2.is c.in_ok-more.ensures.none) members says

pub loop-preserved : goal.loop-preserved
loop-preserved c =
    let h = some_at c.in_ok-more.field-0 c.in-Some-2.more _ c.in-Some-2.is c.in_ok-more.ensures.some in (
      front_next c.args.text.now c.loop.rest.now c.in-Some.first.now c.in-Some.behind.now c.loop.addresses.items c.in-Some-2.more.items h.0
          c.loop.invariant.0 c.in-Some.ensures.some h.1 h.2,
      omega (arith, one_longer c.loop.addresses.items c.in-Some-2.more.items h.0 h.2, c.loop.invariant.1),
    )

pub returns-clause-none : goal.returns-clause-none
returns-clause-none c members says few =
    front_full c.args.text.now c.loop.rest.now c.loop.addresses.items c.loop.invariant.0
    (omega (arith, c.loop.invariant.1, c.loop-test.false, c.loop.auto.counter-end)) members says few
