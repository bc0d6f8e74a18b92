-- A fault is passed on.
use Rattle.std.proofs.Common.{◌≡◌, sym, subst}
use Rattle.std.specs.Prelude.{Result, Ok, Err, IfErr, IsErrAnd}

pub err_is : {T E : Type 0} (r : Result T E) (x : E) (Q : E → Type 0) → IsErrAnd r (λ y. y ≡ x) → Q x → IfErr r Q
err_is (Ok one) x Q h q = absurd h
err_is (Err y) x Q h q = subst Q (sym h) q

pub err_then : {T E : Type 0} (r : Result T E) (P Q : E → Type 0) → IfErr r P → ((x : E) → P x → Q x) → IfErr r Q
err_then (Ok one) P Q h k = tt
err_then (Err x) P Q h k = k x h

-- what is so of an end with a fault, of which something is known
pub end_by : {T E : Type 0} (r : Result T E) (x : E) (P : Result T E → Type 0) → IsErrAnd r (λ y. y ≡ x) → P (Err x) → P r
end_by (Ok one) x P h p = absurd h
end_by (Err y) x P h p = subst (λ z. P (Err z)) (sym h) p
