use Rattle.std.proofs.Common.{ap}
use Rattle.seated_store.specs.Seats.{token_of}
use Rattle.oathd_roster.specs.Roster.{user_text}
use Rattle.oathd_roster.proofs.RosterLemmas.{user_is}
use Rattle.oathd_roster.proofs.roster.user_at.Goals as goal

pub returns-in-Some : goal.returns-in-Some
returns-in-Some c =
    user_is c.args.book.now c.in-Some.token c.token_in.result.now (token_of c.args.seats.now c.args.row) c.name.result.now c.in-Some.ensures.token
    c.token_in.ensures c.name.ensures.value

pub returns-in-None : goal.returns-in-None
returns-in-None c = ap (user_text c.args.book.now) c.in-None.ensures.token
