use Rattle.std.proofs.Common.{◌≡◌, ◌<◌, ◌≤◌, ◌∷◌, [], ◌++◌, length, None, sym, subst, ◌∙◌, arith}
use Rattle.token_file.specs.Credential.{place_of}
use Rattle.token_file.specs.Book.{IsIndexed}
use Rattle.token_file.proofs.BookLemmas.{is_indexed-append, word_fits}
use Rattle.token_file.proofs.book.Book.push.Goals as goal

pub invariant_of-self-in-Ok : goal.invariant_of-self-in-Ok
invariant_of-self-in-Ok c =
    let old = c.self.inside.tokens.items in
    let items : c.push.new.self.items ≡ old ++ c.args.token ∷ [] = c.in_ok-push.ensures.items in
    let room : length old < 10000 = subst (λ book. length book < 10000) (sym c.self.view_is) c.requires.room in
    let fits : length c.args.token.name ≤ 64 = subst (λ name. length name ≤ 64) c.name.ensures.value (word_fits c.name.result.now c.name.ensures.word) in
    let free : place_of c.args.token.name old ≡ None = subst (λ book. place_of c.args.token.name book ≡ None) (sym c.self.view_is) c.requires.new in
    let is = c.array_of-name.ensures ∙ c.name.ensures.value in
    subst (λ ts. IsIndexed ts c.insert.new.self) (sym items)
    (is_indexed-append old c.args.token c.self.inside.index c.insert.new.self c.array_of-name.result c.len-number.result c.self.invariant is (omega (arith, c.len-number.ensures, c.self.inside.tokens.ok.0)) room fits free c.in-Ok.ensures.updates)
