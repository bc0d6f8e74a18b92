-- One more row: its name is new, or the set has it.
use Rattle.std.proofs.Common.{◌≡◌, ◌++◌, ◌∷◌, [], ◌∙◌, Some, slice_get, subst, rules}
use Rattle.token_names.proofs.NamesLemmas.{distinct_one_more, first_repeat, has_one_more, listed_more, not_false, not_true}
use Rattle.token_names.proofs.names.names_of.Goals as goal

pub returns-in-Ok-false-clause-fault : goal.returns-in-Ok-false-clause-fault
returns-in-Ok-false-clause-fault c =
    let salt = c.args.salt.now in
    let book = c.args.book.now in
    let row = c.loop-row.row in
    let token = c.token-token.result.now in
    let id : c.unwrap.result ≡ row = search rules in
    let at = subst (λ n. slice_get book n ≡ Some token) id c.token-token.ensures.value in
    let is = c.bytes.ensures ∙ c.name_of-name.ensures in
    let there = not_false _ _ c.in-Ok-false.ensures.added c.in-Ok-false.field-0-test in
    first_repeat salt book row token c.bytes.result at is c.loop-row.invariant.distinct ((c.loop-row.invariant.has c.bytes.result).0 there)

pub loop-row-preserved : goal.loop-row-preserved
loop-row-preserved c =
    let salt = c.args.salt.now in
    let book = c.args.book.now in
    let row = c.loop-row.row in
    let token = c.token-token.result.now in
    let id : c.unwrap.result ≡ row = search rules in
    let at = subst (λ n. slice_get book n ≡ Some token) id c.token-token.ensures.value in
    let is = c.bytes.ensures ∙ c.name_of-name.ensures in
    let pushed : c.push.new.self.items ≡ c.loop-row.names.items ++ c.name_of-name.result ∷ [] = search rules in
    let before = c.loop-row.invariant in
    let none = not_true _ _ c.in-Ok-true.ensures.added c.in-Ok-true.field-0-test in
    record {
      listed = listed_more salt book row token c.name_of-name.result c.loop-row.names.items c.push.new.self.items at c.name_of-name.ensures before.listed pushed;
      has = has_one_more salt book row token c.bytes.result c.loop-row.seen c.insert.new.self at is before.has c.in-Ok-true.ensures.updates;
      distinct = distinct_one_more salt book row token c.bytes.result c.loop-row.seen at is before.has none before.distinct;
    }
