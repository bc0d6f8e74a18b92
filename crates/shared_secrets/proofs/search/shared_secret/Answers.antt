-- One more row: the map has its seed, or it is new.
use Rattle.std.proofs.Common.{◌≡◌, Some, None, slice_get, sym, subst, ◌∙◌, arith, rules}
use Rattle.std.specs.BTreeMap as tree
use Rattle.shared_secrets.proofs.RowsLemmas.{distinct_of, first_below, first_repeat, has_one_more, key_cmp}
use Rattle.shared_secrets.proofs.search.shared_secret.Goals as goal

pub overflow_add-result : goal.overflow_add-result
overflow_add-result c =
    let found : tree.get key_cmp c.loop-row.rows c.key_of.result ≡ Some c.in-Ok-Some.first = sym c.in-Ok-Some.ensures.old ∙ c.in-Ok-Some.field-0-is in
    let low = first_below c.loop-row.rows c.args.book.now c.loop-row.row c.in-Ok-Some.first c.token-token.result.now c.key_of.result c.loop-row.invariant c.key_of.ensures found in
    omega (arith, low, c.len-row-end.ensures.range)

pub returns-in-Ok-Some : goal.returns-in-Ok-Some
returns-in-Ok-Some c =
    let token = c.token-token.result.now in
    let id : c.unwrap.result ≡ c.loop-row.row = search rules in
    let at = subst (λ n. slice_get c.args.book.now n ≡ Some token) id c.token-token.ensures.value in
    let found : tree.get key_cmp c.loop-row.rows c.key_of.result ≡ Some c.in-Ok-Some.first = sym c.in-Ok-Some.ensures.old ∙ c.in-Ok-Some.field-0-is in
    first_repeat c.loop-row.rows c.args.book.now c.loop-row.row c.in-Ok-Some.first token c.key_of.result c.loop-row.invariant at c.key_of.ensures found

pub loop-row-preserved : goal.loop-row-preserved
loop-row-preserved c =
    let token = c.token-token.result.now in
    let id : c.unwrap.result ≡ c.loop-row.row = search rules in
    let at = subst (λ n. slice_get c.args.book.now n ≡ Some token) id c.token-token.ensures.value in
    let none : tree.get key_cmp c.loop-row.rows c.key_of.result ≡ None = sym c.in-Ok-None.ensures.old ∙ c.in-Ok-None.field-0-is in
    has_one_more c.loop-row.rows c.insert.new.self c.args.book.now c.loop-row.row token c.key_of.result c.loop-row.invariant at c.key_of.ensures none c.in-Ok-None.ensures.updates

pub returns : goal.returns
returns c = distinct_of c.loop-row.rows c.args.book.now c.loop-row.row c.loop-row.invariant (omega (arith, c.len-row-end.ensures.value, c.loop-row-test.false))
