-- A fault is passed on.
use Rattle.std.proofs.Common.{◌≡◌, ℕ, List, sym, subst}
use Rattle.std.specs.Prelude.{Result, Ok, Err, IfErr, IsErrAnd}
use Rattle.otp_core.specs.Limits.{Limits}
use Rattle.oathd_database.specs.Commands.{IsRefused}
use Rattle.oathd_database.specs.Users.{IsUnread}
use Rattle.oathd_database.specs.declared.fault.Fault.{Fault}
use Rattle.oathd_database.specs.declared.fault.Fault.TheVariants.{Memory, CannotWrite, NoClock, Users, Store, Socket}

pub err_is : {T E : Type 0} (r : Result T E) (x : E) (Q : E → Type 0) → IsErrAnd r (λ y. y ≡ x) → Q x → IfErr r Q
err_is (Ok one) x Q h q = absurd h
err_is (Err y) x Q h q = subst Q (sym h) q

-- a users file that is not imported refuses a command
pub refused_text : (limits : Limits) (moment longest : ℕ) (fault : Fault) (text : List ℕ)
    → IsUnread limits moment longest fault text → IsRefused limits moment longest fault text
refused_text limits moment longest Memory text h = tt
refused_text limits moment longest CannotWrite text h = h
refused_text limits moment longest NoClock text h = h
refused_text limits moment longest (Users fault) text h = h
refused_text limits moment longest (Store fault) text h = absurd h
refused_text limits moment longest Socket text h = h
