use Rattle.std.proofs.Common.{ℕ, IfSome, length, sym, subst}
use Rattle.seated_store.specs.Seats.{AreSeats}
use Rattle.seated_store.specs.Places.{own_seats}
use Rattle.seated_store.proofs.PlaceLemmas.{own_seats_are}
use Rattle.oathd_database.specs.declared.fault.Fault.TheVariants.{Memory}
use Rattle.oathd_roster.specs.declared.fault.RosterFault.TheVariants.{Command}
use Rattle.oathd_seats.specs.Seen.{IsNotPlaced}
use Rattle.oathd_seats.specs.declared.fault.SeatsFault.{SeatsFault}
use Rattle.oathd_seats.specs.declared.fault.SeatsFault.TheVariants.{Roster}
use Rattle.oathd_seats.proofs.FaultLemmas.{err_is}
use Rattle.oathd_seats.proofs.SeenLemmas.{has_placed, placed_each, unplaced, unplaced_memory}
use Rattle.oathd_seats.proofs.seeing.see_placed.Goals as goal

pub returns-in_err-users-clause-fault : goal.returns-in_err-users-clause-fault
returns-in_err-users-clause-fault g c =
    let a = g.R.Read.remaining c.args.users in
    let fault = c.in_err-users.field-0.0 in
    err_is c.from_residual.result (Roster (Command fault)) (λ (x : SeatsFault). IfSome a (IsNotPlaced c.args.settings 16777216 x))
    c.from_residual.ensures.1 (unplaced c.args.settings 16777216 a fault c.in_err-users.ensures.fault)

pub returns-in_err-seats-clause-fault : goal.returns-in_err-seats-clause-fault
returns-in_err-seats-clause-fault g c =
    let a = g.R.Read.remaining c.args.users in
    err_is c.from_residual-in_err-seats.result (Roster (Command Memory)) (λ (x : SeatsFault). IfSome a (IsNotPlaced c.args.settings 16777216 x))
    c.from_residual-in_err-seats.ensures.1 (unplaced_memory c.args.settings 16777216 a)

pub new-requires : goal.new-requires
new-requires g c =
    subst (AreSeats (length c.in_ok-users.store.mirror.rows)) (sym c.in_ok-seats.ensures)
    (subst (λ (n : ℕ). AreSeats (length c.in_ok-users.store.mirror.rows) (own_seats n)) (sym c.tokens.ensures.value)
    (own_seats_are (length c.in_ok-users.store.mirror.rows)))

pub returns-clause-seen : goal.returns-clause-seen
returns-clause-seen g c =
    has_placed g.S.Store g.D.Database.finds c.args.node c.in_ok-users.users.book c.in_ok-users.store c.in_ok-seats.seats.items c.tokens.result
    c.new.result c.in_ok-users.ensures.opened c.in_ok-users.ensures.tokens c.tokens.ensures.value c.in_ok-seats.ensures c.new.ensures

pub returns-clause-each : goal.returns-clause-each
returns-clause-each g c =
    placed_each g.S.Store g.D.Database.finds c.args.node c.in_ok-users.users.book c.new.result
    (has_placed g.S.Store g.D.Database.finds c.args.node c.in_ok-users.users.book c.in_ok-users.store c.in_ok-seats.seats.items c.tokens.result
    c.new.result c.in_ok-users.ensures.opened c.in_ok-users.ensures.tokens c.tokens.ensures.value c.in_ok-seats.ensures c.new.ensures)
