-- One more row, and the end of the rows.
use Rattle.std.proofs.Common.{◌≡◌, ◌++◌, ◌∷◌, [], ◌∙◌, Some, slice_get, get_or, length, sym, ap, subst, arith, rules}
use Rattle.std.proofs.lemmas.List.{take_all}
use Rattle.named_store.specs.Entries.{entries_of}
use Rattle.named_store.specs.Seating.{AreDistinct}
use Rattle.named_store.proofs.EntryLemmas.{distinct_entries, one_more}
use Rattle.named_store.proofs.entries.entries_of.Goals as goal

pub loop-row-preserved : goal.loop-row-preserved
loop-row-preserved c =
    let salt = c.args.salt.now in
    let book = c.args.book.now in
    let row = c.loop-row.row in
    let token = c.token-token.result.now in
    let names = c.in_ok-names.names.items in
    let id : c.unwrap.result ≡ row = search rules in
    let at = subst (λ n. slice_get book n ≡ Some token) id c.token-token.ensures.value in
    let bytes : c.index.result.now ≡ c.bytes-name.result = sym c.bytes-name.ensures in
    let here = subst (λ name. name ≡ get_or names row name) bytes c.index.ensures in
    let pushed : c.push.new.self.items ≡ c.loop-row.entries.items ++ record { name = c.bytes-name.result; seed = c.seed_of-seed.result } ∷ [] = search rules in
    one_more salt book row token names c.bytes-name.result c.seed_of-seed.result c.loop-row.entries.items c.push.new.self.items at
    c.in_ok-names.ensures.names here c.seed_of-seed.ensures c.loop-row.invariant pushed

pub returns-clause-distinct : goal.returns-clause-distinct
returns-clause-distinct c =
    let salt = c.args.salt.now in
    let book = c.args.book.now in
    let many : length book ≡ c.len-row-end.result = search rules in
    let done = take_all c.loop-row.row book (omega (arith, many)) in
    let listed = c.loop-row.invariant ∙ ap (entries_of salt) done in
    subst AreDistinct (sym listed) (distinct_entries salt book c.in_ok-names.ensures.distinct)
