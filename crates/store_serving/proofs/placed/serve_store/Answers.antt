use Rattle.std.proofs.Common.{◌≡◌, ◌∙◌, ℕ, length, sym, subst}
use Rattle.std.specs.Prelude.{Ok, Some}
use Rattle.std.proofs.lemmas.List.FromFn.{length-map-range_with_len}
use Rattle.floor_sql.specs.Held.{sql_held}
use Rattle.oathd_database.specs.Commands.{HasOpened}
use Rattle.seated_store.specs.Places.{own_seats}
use Rattle.seated_store.specs.Seated.{seated_held}
use Rattle.seated_store.specs.Seats.{AreSeats, row_at}
use Rattle.seated_store.proofs.PlaceLemmas.{own_seats_are}
use Rattle.store_serving.specs.Placed.{never}
use Rattle.store_serving.proofs.PlacedLemmas.{ends_served, has_served, placed_is}
use Rattle.store_serving.proofs.ServedLemmas.{then_err, then_ok}
use Rattle.store_serving.proofs.placed.serve_store.Goals as goal

pub new-store-requires : goal.new-store-requires
new-store-requires g c =
    subst (AreSeats (length c.in_ok-users.store.mirror.rows)) (sym c.in-Ok.ensures)
    (subst (λ (n : ℕ). AreSeats (length c.in_ok-users.store.mirror.rows) (own_seats n)) (sym c.tokens.ensures.value)
    (own_seats_are (length c.in_ok-users.store.mirror.rows)))

pub serve_placed-requires : goal.serve_placed-requires
serve_placed-requires g c =
    let book = c.in_ok-users.users.book in
    let found = c.in_ok-users.store in
    let is = c.new-store.ensures ∙ placed_is found c.in-Ok.seats.items c.tokens.result (length book) c.in-Ok.ensures (c.tokens.ensures.value ∙ c.in_ok-users.ensures.tokens) in
    subst (λ s. length (seated_held (sql_held g.S.Store) s).content.rows ≡ length book) (sym is)
    (length-map-range_with_len (row_at found.mirror.rows) 0 (length book))

pub returns-clause-served : goal.returns-clause-served
returns-clause-served g c =
    let serving = c.args.serving in
    let book = c.in_ok-users.users.book in
    let found = c.in_ok-users.store in
    let opened = subst (λ n. HasOpened g.S.Store g.D.Database.finds (Some n) (length book) found) c.me.ensures.value c.in_ok-users.ensures.opened in
    let is = c.new-store.ensures ∙ placed_is found c.in-Ok.seats.items c.tokens.result (length book) c.in-Ok.ensures (c.tokens.ensures.value ∙ c.in_ok-users.ensures.tokens) in
    then_ok c.serve_placed.result _ _
    (λ served. has_served g.S.Store g.D.Database.finds serving (g.R.Read.remaining c.args.users) book c.in_ok-users.users.floors.items found
    c.in_ok-users.ensures.users opened c.in_ok-users.ensures.tokens c.new-store.result is never (Ok served)) c.serve_placed.ensures.served

pub returns-clause-fault : goal.returns-clause-fault
returns-clause-fault g c =
    let serving = c.args.serving in
    let book = c.in_ok-users.users.book in
    let found = c.in_ok-users.store in
    let opened = subst (λ n. HasOpened g.S.Store g.D.Database.finds (Some n) (length book) found) c.me.ensures.value c.in_ok-users.ensures.opened in
    let is = c.new-store.ensures ∙ placed_is found c.in-Ok.seats.items c.tokens.result (length book) c.in-Ok.ensures (c.tokens.ensures.value ∙ c.in_ok-users.ensures.tokens) in
    then_err c.serve_placed.result _ _
    (λ fault. ends_served g.S.Store g.D.Database.finds serving (g.R.Read.remaining c.args.users) book c.in_ok-users.users.floors.items found
    c.in_ok-users.ensures.users opened c.in_ok-users.ensures.tokens c.new-store.result is fault) c.serve_placed.ensures.fault
