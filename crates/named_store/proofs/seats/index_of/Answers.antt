use Rattle.std.proofs.Common.{◌≡◌, true, false, is_some, sym, subst, ◌∙◌, arith, rules}
use Rattle.std.proofs.lemmas.List.{take_all}
use Rattle.named_store.specs.Seating.{AreDistinct}
use Rattle.named_store.proofs.IndexLemmas.{distinct_at, repeats_at, rows_at}
use Rattle.named_store.proofs.seats.index_of.Goals as goal

pub returns-then-is_some-clause-unusable : goal.returns-then-is_some-clause-unusable
returns-then-is_some-clause-unusable c = λ same distinct.
    let some : is_some c.in_ok-former.former ≡ true = sym c.is_some.ensures ∙ c.if-is_some.true in
    repeats_at c.args.roster.now c.loop-row.row c.loop-row.index c.add_name.new.index c.in_ok-former.former c.in_ok-former.ensures.adds c.loop-row-test.true
    (search rules) c.loop-row.invariant.rows some distinct

pub loop-row-preserved : goal.loop-row-preserved
loop-row-preserved c =
    let roster = c.args.roster.now in
    let n = c.loop-row.row in
    let kept = c.loop-row.invariant in
    let former = c.in_ok-former.former in
    let adds = c.in_ok-former.ensures.adds in
    let none : is_some former ≡ false = sym c.is_some.ensures ∙ c.if-is_some.false in
    record {
      rows = rows_at roster n c.loop-row.index c.add_name.new.index former adds c.loop-row-test.true (search rules) kept.rows;
      distinct = distinct_at roster n c.loop-row.index c.add_name.new.index former adds c.loop-row-test.true (search rules) kept.rows none kept.distinct;
    }

pub returns-clause-distinct : goal.returns-clause-distinct
returns-clause-distinct c = subst AreDistinct (take_all c.loop-row.row c.args.roster.now (omega arith)) c.loop-row.invariant.distinct
