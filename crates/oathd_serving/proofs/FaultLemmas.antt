-- A fault is passed on.
use Rattle.std.proofs.Common.{◌≡◌, sym, subst}
use Rattle.std.specs.Prelude.{Result, Ok, Err, IsErrAnd}

-- what holds for a fault holds for a result with this fault
pub failed_so : {T E : Type 0} (r : Result T E) (x : E) (Q : Result T E → Type 0) → IsErrAnd r (λ y. y ≡ x) → Q (Err x) → Q r
failed_so (Ok one) x Q h q = absurd h
failed_so (Err y) x Q h q = subst (λ z. Q (Err z)) (sym h) q
