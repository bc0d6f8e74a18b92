-- A record that is short, another bundler, a wait that is not counted, a quiet poll, and a flush that offers nothing.
use Rattle.std.proofs.Common.{◌≡◌, ℕ, List, [], ◌∷◌, get_or, length, refl, ap, true≢false, sym, arith}
use Rattle.std.specs.Prelude.{Some}
use Rattle.datagram_port.specs.Port.{Faulted, Offered, PortEvent}
use Rattle.datagram_port.specs.declared.port.Sender.TheVariants.{Peer}
use Rattle.bundle_port.specs.Bundler.{BundlerRecord, new_lane, waiting_for}
use Rattle.bundle_port.specs.Examples.{first, from_1}
use Rattle.bundle_port.proofs.worked.calls_can_be_broken.Goals as goal

some_is : (x y : List PortEvent) → Some x ≡ Some y → x ≡ y
some_is x y e = cc

pub returns-clause-after : goal.returns-clause-after
returns-clause-after c = record {
  is_made = refl;
  bundler_is = refl;
  below_is = λ events e. sym (some_is (Faulted ∷ from_1 first ∷ []) events e);
}

pub returns-clause-no_record : goal.returns-clause-no_record
returns-clause-no_record c = record { is_made = refl; bundler_is = refl; below_is = λ events e. absurd cc }

pub returns-clause-unrecorded : goal.returns-clause-unrecorded
returns-clause-unrecorded c = λ h. (let e = h.below_is [] refl in absurd cc)

pub returns-clause-second_unrecorded : goal.returns-clause-second_unrecorded
returns-clause-second_unrecorded c = λ h. (let e = h.below_is (Faulted ∷ []) refl in absurd cc)

pub returns-clause-another_bundler : goal.returns-clause-another_bundler
returns-clause-another_bundler c = λ h. (let e = ap (λ (b : BundlerRecord). length (waiting_for b 2)) h.bundler_is in absurd (omega (arith, e)))

-- the number of calm waits of member 1
abbrev calm_of : BundlerRecord → ℕ
calm_of b = (get_or b.lanes 0 new_lane).calm

pub returns-clause-uncounted_wait : goal.returns-clause-uncounted_wait
returns-clause-uncounted_wait c = λ h. (let e : 0 ≡ 1 = ap calm_of h.bundler_is in absurd (omega (arith, e)))

pub returns-clause-quiet_poll : goal.returns-clause-quiet_poll
returns-clause-quiet_poll c = λ h. true≢false (sym h.is_made)

pub returns-clause-flushed : goal.returns-clause-flushed
returns-clause-flushed c = record {
  is_made = refl;
  bundler_is = refl;
  below_is = λ events e. sym (some_is (Offered (Peer 2) first ∷ []) events e);
}

pub returns-clause-kept_at_flush : goal.returns-clause-kept_at_flush
returns-clause-kept_at_flush c = λ h. (let e = h.below_is [] refl in absurd cc)

pub returns-clause-waits_after_flush : goal.returns-clause-waits_after_flush
returns-clause-waits_after_flush c = λ h. (let e = ap (λ (b : BundlerRecord). length (waiting_for b 2)) h.bundler_is in absurd (omega (arith, e)))
