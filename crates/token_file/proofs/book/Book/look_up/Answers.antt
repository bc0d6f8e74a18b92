use Rattle.std.proofs.Common.{◌≡◌, None, Some, sym, ap, subst, ◌∙◌, arith}
use Rattle.std.specs.BTreeMap as tree
use Rattle.std.specs.Option.{option_copied}
use Rattle.token_file.specs.Credential.{place_of}
use Rattle.token_file.specs.Book.{name_cmp}
use Rattle.token_file.proofs.BookLemmas.{place_from_long, place_from_below}
use Rattle.token_file.proofs.book.Book.look_up.Goals as goal

pub returns-then-name-gt-MAX_NAME_LEN : goal.returns-then-name-gt-MAX_NAME_LEN
returns-then-name-gt-MAX_NAME_LEN c =
    subst (λ book. None ≡ place_of c.args.name.now book) c.self.view_is
    (sym (place_from_long 0 c.args.name.now c.self.inside.tokens.items c.self.invariant.short c.if-name-gt-MAX_NAME_LEN.true))

pub invariant_of-result : goal.invariant_of-result
invariant_of-result c =
    let found : Some c.in_ok-number.number.now ≡ place_of c.args.name.now c.self.inside.tokens.items =
    sym (ap option_copied c.in_ok-number.was) ∙ c.get.ensures.value
    ∙ ap (λ key. tree.get name_cmp c.self.inside.index (record { items = key })) c.array_of.ensures ∙ c.self.invariant.places c.args.name.now in
    let below = place_from_below 0 c.args.name.now c.self.inside.tokens.items c.in_ok-number.number.now (sym found) in
    omega (arith, below, c.self.invariant.few)
