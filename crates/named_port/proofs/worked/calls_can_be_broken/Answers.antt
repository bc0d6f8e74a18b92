-- A record that is short, and a boot that nothing told.
use Rattle.std.proofs.Common.{◌≡◌, ℕ, List, [], ◌∷◌, refl, ap, arith, inl, inr}
use Rattle.std.specs.Prelude.{slice_index, Some}
use Rattle.datagram_port.specs.Port.{Faulted, PortEvent, Quiet}
use Rattle.named_port.proofs.worked.calls_can_be_broken.Goals as goal

some_is : (x y : List PortEvent) → Some x ≡ Some y → x ≡ y
some_is x y e = cc

pub returns-clause-after : goal.returns-clause-after
returns-clause-after c = record { heard_is = refl; below_is = λ events e. let same : Quiet ∷ Faulted ∷ [] ≡ events = some_is (Quiet ∷ Faulted ∷ []) events e in cc }

pub returns-clause-no_record : goal.returns-clause-no_record
returns-clause-no_record c = record { heard_is = refl; below_is = λ events e. absurd cc }

pub returns-clause-unrecorded : goal.returns-clause-unrecorded
returns-clause-unrecorded c = λ h. (let e = h.below_is [] refl in absurd cc)

pub returns-clause-second_unrecorded : goal.returns-clause-second_unrecorded
returns-clause-second_unrecorded c = λ h. (let e = h.below_is (Quiet ∷ []) refl in absurd cc)

pub returns-clause-unheard : goal.returns-clause-unheard
returns-clause-unheard c = λ h. (let e = ap (λ (l : List ℕ). slice_index l 3) h.heard_is in absurd (omega (arith, e)))

pub returns-clause-known : goal.returns-clause-known
returns-clause-known c = record { heard_is = refl; below_is = λ events e. absurd cc }

pub returns-clause-has : goal.returns-clause-has
returns-clause-has c = inr (inl refl)
