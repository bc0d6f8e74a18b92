-- A fault is passed on.
use Rattle.std.proofs.Common.{◌≡◌, Ok, Err, sym, subst}
use Rattle.std.specs.Prelude.{Result, IfErr, IsErrAnd}

pub err_is : {T E : Type 0} (r : Result T E) (x : E) (Q : E → Type 0) → IsErrAnd r (λ y. y ≡ x) → Q x → IfErr r Q
err_is (Ok one) x Q h q = absurd h
err_is (Err y) x Q h q = subst Q (sym h) q
