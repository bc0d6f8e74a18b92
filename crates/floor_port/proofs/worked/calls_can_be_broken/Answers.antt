-- A record that is short, another packer, and calls that the port doesn't make.
use Rattle.std.proofs.Common.{◌≡◌, ℕ, List, [], ◌∷◌, refl, ap, arith}
use Rattle.std.specs.Prelude.{Some, slice_index}
use Rattle.hmac_core.specs.Unfolded.sha256_steps
use Rattle.datagram_port.specs.Port.{Faulted, PortEvent}
use Rattle.named_wire.specs.Datagram.{datagram_at, datagram_bytes}
use Rattle.named_wire.specs.Head.{head_at}
use Rattle.vote_wire.specs.Key.{tag_of}
use Rattle.gatekeeping.specs.declared.gatekeeper.Fell.{Fell}
use Rattle.floor_port.specs.Examples.{from_1}
use Rattle.floor_port.specs.Packer.{PackerRecord}
use Rattle.floor_port.proofs.worked.calls_can_be_broken.Goals as goal

some_is : (x y : List PortEvent) → Some x ≡ Some y → x ≡ y
some_is x y e = cc

pub returns-clause-after : goal.returns-clause-after
unfolding tag_of datagram_bytes datagram_at head_at sha256_steps.first_words sha256_steps.schedule sha256_steps.rounds sha256_steps.compress sha256_steps.hash_after sha256_steps.digest_bytes sha256_steps.sha256
returns-clause-after c = record {
  is_made = refl;
  packer_is = refl;
  below_is = λ events e. let same : Faulted ∷ from_1 [] ∷ [] ≡ events = some_is (Faulted ∷ from_1 [] ∷ []) events e in cc;
}

pub returns-clause-no_record : goal.returns-clause-no_record
returns-clause-no_record c = record { is_made = refl; packer_is = refl; below_is = λ events e. absurd cc }

pub returns-clause-unrecorded : goal.returns-clause-unrecorded
returns-clause-unrecorded c = λ h. (let e = h.below_is [] refl in absurd cc)

pub returns-clause-second_unrecorded : goal.returns-clause-second_unrecorded
returns-clause-second_unrecorded c = λ h. (let e = h.below_is (Faulted ∷ []) refl in absurd cc)

pub returns-clause-another_packer : goal.returns-clause-another_packer
returns-clause-another_packer c = λ h. (let e = ap (λ (p : PackerRecord). p.me) h.packer_is in absurd (omega (arith, e)))

pub returns-clause-left : goal.returns-clause-left
returns-clause-left c = refl

pub returns-clause-nothing_left : goal.returns-clause-nothing_left
returns-clause-nothing_left c = refl

pub returns-clause-second_not_left : goal.returns-clause-second_not_left
returns-clause-second_not_left c = refl

pub returns-clause-asked_too_early : goal.returns-clause-asked_too_early
returns-clause-asked_too_early c = refl

pub returns-clause-offer_came : goal.returns-clause-offer_came
returns-clause-offer_came c = refl

-- the first byte of the name of the first of some falls
abbrev first_byte : List Fell → ℕ
first_byte (fell ∷ fells) = slice_index fell.name 0
first_byte [] = 0

pub returns-clause-untold : goal.returns-clause-untold
returns-clause-untold c = record { few = omega arith; last = refl }

pub returns-clause-first_untold : goal.returns-clause-first_untold
returns-clause-first_untold c = λ h. (let e = ap (λ (l : List Fell). first_byte l) h.last in absurd (omega (arith, e)))

pub returns-clause-never_fell : goal.returns-clause-never_fell
returns-clause-never_fell c = λ h. (let few = h.few in absurd (omega (arith, few)))
