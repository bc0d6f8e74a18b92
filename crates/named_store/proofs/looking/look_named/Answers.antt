use Rattle.std.proofs.Common.{◌≡◌, ◌∙◌, ℕ, List, Some, None, length, slice_get, option_copied, ap, sym, subst, arith}
use Rattle.floor_sql.specs.Calls.{IsOpenedAs, KeepsTables}
use Rattle.floor_sql.specs.declared.schema.Format.TheVariants.{Named}
use Rattle.named_store.specs.Looked.{HasLooked}
use Rattle.named_store.proofs.LookLemmas.{all_seated, first_within, has_looked, lacks_token, no_places, seats_within}
use Rattle.named_store.proofs.looking.look_named.Goals as goal

pub returns-in-Some-clause-fault : goal.returns-in-Some-clause-fault
returns-in-Some-clause-fault g c =
    let mid = c.find_tokens.new.conn in
    let found = c.in-Ok.found in
    let seen = c.in-Ok.ensures in
    let token = c.in-Some.token.now in
    let kept : KeepsTables g.S.Store c.args.conn mid = record { idle = seen.looks.idle c.requires.idle; read = seen.looks.read; survives = seen.looks.crash } in
    let at : slice_get found.1.places.items 0 ≡ Some token =
    ap (λ (l : List ℕ). slice_get l 0) (sym c.deref.ensures.value) ∙ sym c.in-Some.ensures.value in
    lacks_token g.S.Store c.args.conn mid c.args.node c.args.names.now c.args.own.now found.0.items kept seen.looks.value found.1.places.items
    found.1.entries.items token seen.fresh at

pub returns-in-Some-clause-known : goal.returns-in-Some-clause-known
returns-in-Some-clause-known g c =
    let found = c.in-Ok.found in
    let token = c.in-Some.token.now in
    let at : slice_get found.1.places.items 0 ≡ Some token =
    ap (λ (l : List ℕ). slice_get l 0) (sym c.deref.ensures.value) ∙ sym c.in-Some.ensures.value in
    first_within found.0.items c.args.names.now found.1.places.items token c.in-Ok.ensures.fresh.all_places at

pub seated_at-store-requires : goal.seated_at-store-requires
seated_at-store-requires g c =
    let found = c.in-Ok.found in
    let seen = c.in-Ok.ensures in
    let names = c.args.names.now in
    let none : slice_get found.1.places.items 0 ≡ None =
    ap (λ (l : List ℕ). slice_get l 0) (sym c.deref.ensures.value) ∙ sym c.first.ensures.value ∙ ap option_copied c.in_default.is in
    let counted : length c.in-Ok-open_counted.store.mirror.rows ≡ length found.0.items =
    omega (arith, c.in-Ok-open_counted.ensures.rows, c.len-rows.ensures, found.0.ok.0) in
    seats_within found.0.items names found.1.seats.items (length c.in-Ok-open_counted.store.mirror.rows) counted
    (all_seated found.0.items names found.1.seats.items found.1.places.items found.1.entries.items seen.distinct seen.seats seen.fresh
    (no_places found.1.places.items none))

pub returns-in-Ok-open_counted-clause-looked : goal.returns-in-Ok-open_counted-clause-looked
returns-in-Ok-open_counted-clause-looked g c =
    let mid = c.find_tokens.new.conn in
    let found = c.in-Ok.found in
    let seen = c.in-Ok.ensures in
    let names = c.args.names.now in
    let store = c.in-Ok-open_counted.store in
    let kept : KeepsTables g.S.Store c.args.conn mid = record { idle = seen.looks.idle c.requires.idle; read = seen.looks.read; survives = seen.looks.crash } in
    let none : slice_get found.1.places.items 0 ≡ None =
    ap (λ (l : List ℕ). slice_get l 0) (sym c.deref.ensures.value) ∙ sym c.first.ensures.value ∙ ap option_copied c.in_default.is in
    let tokens : c.len-rows.result ≡ length found.0.items = omega (arith, c.len-rows.ensures, found.0.ok.0) in
    let counted : length store.mirror.rows ≡ length found.0.items = omega (arith, c.in-Ok-open_counted.ensures.rows, c.len-rows.ensures, found.0.ok.0) in
    let all = all_seated found.0.items names found.1.seats.items found.1.places.items found.1.entries.items seen.distinct seen.seats seen.fresh
    (no_places found.1.places.items none) in
    let opened : IsOpenedAs g.S.Store Named mid c.args.node (length found.0.items) store =
    subst (λ n. IsOpenedAs g.S.Store Named mid c.args.node n store) tokens c.in-Ok-open_counted.ensures.content in
    subst (HasLooked g.S.Store c.args.conn c.args.node names c.args.own.now found.0.items) (sym c.seated_at-store.ensures)
    (has_looked g.S.Store c.args.conn mid c.args.node names c.args.own.now found.0.items kept seen.looks.value store found.1.seats.items all opened counted)
