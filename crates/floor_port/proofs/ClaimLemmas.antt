-- What is kept of a member was told by it, and a member that falls went back.
use Rattle.std.proofs.Common.{◌≡◌, ℕ, zero, suc, ◌<◌, ◌≤◌, max, Bool, true, false, cond, eqb, leb, ltb, List, [], ◌∷◌, length, Option, Some, None, refl, sym, ap, subst, ◌∙◌, arith, inl, inr}
use Rattle.std.specs.Prelude.{◌⊎◌, ◌&&◌, not, slice_index, slice_index_or, slice_set}
use Rattle.std.proofs.Math.Nat.{max-eq_left, max-eq_right}
use Rattle.std.proofs.lemmas.Bool.{and_parts, cases_lt, leb-true, ltb-true, ltb-false}
use Rattle.std.proofs.lemmas.List.{get_or-set_same, length-set}
use Rattle.named_port.proofs.NamesLemmas.{name_of_number}
use Rattle.named_port.specs.Names.{number_of}
use Rattle.named_wire.specs.Datagram.{datagram_at, front_of}
use Rattle.named_wire.specs.declared.head.Head.{Head}
use Rattle.named_wire.proofs.HeadLemmas.{head_takes}
use Rattle.named_wire.proofs.TagLemmas.{takes}
use Rattle.floor_port.specs.Claims.{ClaimsRecord, claim_of, claims_after, falls, first_fall, is_below, is_fall, is_fallen, is_older, kept_after, kept_with, no_claim, place_of, with_fallen}
use Rattle.floor_port.specs.Promises.{Among, HasGoneBack, IsTold, WentBack}
use Rattle.floor_port.specs.Runs.{Call}
use Rattle.floor_port.specs.declared.claims.Claim.{Claim}
use Rattle.floor_port.specs.declared.floor.NamedFloor.{NamedFloor}

abbrev present : {A : Type 0} → A → Option A
present x = Some x

some_is : {A : Type 0} (x y : A) → present x ≡ present y → x ≡ y
some_is x y e = cc

some_floor : (x y : NamedFloor) → present x ≡ present y → x ≡ y
some_floor x y e = cc

-- a sender is a member from 1 to 9
pub sender_bounds : (key bytes : List ℕ) (head : Head) (body : List ℕ) → datagram_at key bytes ≡ Some (head, body) → (1 ≤ head.from) × (head.from ≤ 9)
sender_bounds key bytes head body e =
    let o = takes key bytes head body e in
    let h = head_takes (front_of bytes) head o.head_is in
    let a = and_parts (leb 1 head.from) (leb head.from 9 && (leb 1 head.to && (leb head.to 9 && not (eqb head.from head.to)))) h.ends in
    let b = and_parts (leb head.from 9) (leb 1 head.to && (leb head.to 9 && not (eqb head.from head.to))) a.1 in
    (leb-true 1 head.from a.0, leb-true head.from 9 b.0)

-- an element of a list after one is set
pub at_set : {A : Type 0} (xs : List A) (q p : ℕ) (y d : A)
    → (slice_index_or (slice_set xs q y) p d ≡ slice_index_or xs p d) ⊎ ((q ≡ p) × (slice_index_or (slice_set xs q y) p d ≡ y))
at_set [] q p y d = inl refl
at_set (x ∷ xs) zero zero y d = inr (refl, refl)
at_set (x ∷ xs) zero (suc p) y d = inl refl
at_set (x ∷ xs) (suc q) zero y d = inl refl
at_set (x ∷ xs) (suc q) (suc p) y d = elim (at_set xs q p y d) [
  | inl same ↦ inl same
  | inr new ↦ inr (ap (λ (n : ℕ). suc n) new.0, new.1)
]

-- ---- what is kept was told

-- the member told the floor of a claim about a row, in the boot of the claim or an earlier one
pub record IsClaimed (key : List ℕ) (names : List (List ℕ)) (me : ℕ) (all : List Call) (row member : ℕ) (claim : Claim) : Type 0 where
  pub head : Head
  pub floor : NamedFloor
  pub is_told : IsTold key me all head floor
  pub from_is : head.from ≡ member
  pub row_is : number_of names floor.name ≡ Some row
  pub boot_is : head.boot ≤ claim.boot
  pub next_is : floor.next ≡ claim.next

-- the claim is of no later boot than the given one, and was told
pub record IsBacked (key : List ℕ) (names : List (List ℕ)) (me : ℕ) (all : List Call) (row member boot : ℕ) (claim : Claim) : Type 0 where
  pub boot_is : claim.boot ≤ boot
  pub told : (claim.next ≡ 0) ⊎ IsClaimed key names me all row member claim

abbrev pub AreBacked : List ℕ → List (List ℕ) → ℕ → List Call → List ℕ → List Claim → Type 0
AreBacked key names me all boots kept = (row member : ℕ) → 1 ≤ member → member ≤ 9 → IsBacked key names me all row member (slice_index boots member) (claim_of kept row member)

-- a floor that a member tells
record Tells (member boot : ℕ) (head : Head) : Type 0 where
  from_is : head.from ≡ member
  boot_is : head.boot ≡ boot
  low : 1 ≤ member
  high : member ≤ 9

abbrev claim_with : ℕ → ℕ → Claim
claim_with boot next = record { boot = boot; next = next }

-- the claim after a floor that doesn't fall
new_backed : (key : List ℕ) (names : List (List ℕ)) (me : ℕ) (all : List Call) (row member boot : ℕ) (old : Claim) (head : Head) (floor : NamedFloor) → Tells member boot head
    → IsTold key me all head floor → number_of names floor.name ≡ Some row → IsBacked key names me all row member boot old
    → IsBacked key names me all row member boot (claim_with boot (max floor.next old.next))
new_backed key names me all row member boot old head floor tells told at b = elim (cases_lt floor.next old.next) [
  | inl less ↦
      let is : max floor.next old.next ≡ old.next = max-eq_right (omega (arith, less)) in
      subst (λ (n : ℕ). IsBacked key names me all row member boot (claim_with boot n)) (sym is) (by_old less b.told)
  | inr least ↦
      let is : max floor.next old.next ≡ floor.next = max-eq_left least in
      subst (λ (n : ℕ). IsBacked key names me all row member boot (claim_with boot n)) (sym is) (record {
        boot_is = omega arith;
        told = inr (record { head = head; floor = floor; is_told = told; from_is = tells.from_is; row_is = at; boot_is = (let same = tells.boot_is in omega (arith, same)); next_is = refl });
      })
]
  where
    by_old : floor.next < old.next → (old.next ≡ 0) ⊎ IsClaimed key names me all row member old → IsBacked key names me all row member boot (claim_with boot old.next)
    by_old less (inl none) = absurd (omega (arith, less, none))
    by_old less (inr c) = record {
      boot_is = omega arith;
      told = inr (record { head = c.head; floor = c.floor; is_told = c.is_told; from_is = c.from_is; row_is = c.row_is; boot_is = (let one = c.boot_is in let two = b.boot_is in omega (arith, one, two)); next_is = c.next_is });
    }

-- all claims after it
kept_backed : (key : List ℕ) (names : List (List ℕ)) (me : ℕ) (all : List Call) (boots : List ℕ) (kept : List Claim) (row member boot : ℕ) (head : Head) (floor : NamedFloor)
    → Tells member boot head → slice_index boots member ≡ boot → IsTold key me all head floor → number_of names floor.name ≡ Some row → AreBacked key names me all boots kept
    → AreBacked key names me all boots (kept_with kept member boot (Some row) floor.next)
kept_backed key names me all boots kept row member boot head floor tells greatest told at backed = λ r m one nine.
    elim (at_set kept (place_of row member) (place_of r m) (claim_with boot (max floor.next (claim_of kept row member).next)) no_claim) [
      | inl same ↦ subst (IsBacked key names me all r m (slice_index boots m)) (sym same) (backed r m one nine)
      | inr hit ↦
          let place = hit.0 in
          let low = tells.low in
          let high = tells.high in
          let row_same : row ≡ r = omega (arith, place, low, high, one, nine) in
          let member_same : member ≡ m = omega (arith, place, low, high, one, nine) in
          let old : IsBacked key names me all row member boot (claim_of kept row member) =
          subst (λ (n : ℕ). IsBacked key names me all row member n (claim_of kept row member)) greatest (backed row member low high) in
          let new = new_backed key names me all row member boot (claim_of kept row member) head floor tells told at old in
          subst (IsBacked key names me all r m (slice_index boots m)) (sym hit.1)
          (subst (λ (n : ℕ). IsBacked key names me all n m (slice_index boots m) (claim_with boot (max floor.next (claim_of kept row member).next))) row_same
          (subst (λ (n : ℕ). IsBacked key names me all row n (slice_index boots n) (claim_with boot (max floor.next (claim_of kept row member).next))) member_same
          (subst (λ (n : ℕ). IsBacked key names me all row member n (claim_with boot (max floor.next (claim_of kept row member).next))) (sym greatest) new)))
    ]

-- ---- a fall

abbrev floor_with_name : List ℕ → ℕ → NamedFloor
floor_with_name name next = record { name = name; next = next }

-- a member that tells a lower floor than its claim in a later boot went back
fall_back : (key : List ℕ) (names : List (List ℕ)) (me : ℕ) (all : List Call) (row member boot bound : ℕ) (claim : Claim) (head : Head) (floor : NamedFloor) → Tells member boot head
    → IsTold key me all head floor → number_of names floor.name ≡ Some row → IsBacked key names me all row member bound claim → is_below claim boot floor.next ≡ true → WentBack key me all member floor.name
fall_back key names me all row member boot bound claim head floor tells told at b below = by_told b.told
  where
    later : claim.boot < boot
    later = ltb-true claim.boot boot (and_parts (ltb claim.boot boot) (ltb floor.next claim.next) below).0

    lower : floor.next < claim.next
    lower = ltb-true floor.next claim.next (and_parts (ltb claim.boot boot) (ltb floor.next claim.next) below).1

    by_told : (claim.next ≡ 0) ⊎ IsClaimed key names me all row member claim → WentBack key me all member floor.name
    by_told (inl none) = absurd (omega (arith, lower, none))
    by_told (inr c) =
        let name_same : c.floor.name ≡ floor.name =
        some_is c.floor.name floor.name (sym (name_of_number names row c.floor.name c.row_is) ∙ name_of_number names row floor.name at) in
        record {
          earlier = c.head;
          later = head;
          greater = claim.next;
          lower = floor.next;
          told_earlier = subst (λ (n : List ℕ). IsTold key me all c.head (floor_with_name n claim.next)) name_same
              (subst (λ (n : ℕ). IsTold key me all c.head (floor_with_name c.floor.name n)) c.next_is c.is_told);
          told_later = told;
          from_earlier = c.from_is;
          from_later = tells.from_is;
          is_later = (let one = c.boot_is in let two = tells.boot_is in omega (arith, one, two, later));
          is_lower = lower;
        }

-- ---- the floors of a datagram

-- the claims after floors are backed, and a fall is one
record Took (key : List ℕ) (names : List (List ℕ)) (me : ℕ) (all : List Call) (boots : List ℕ) (member : ℕ) (kept : List Claim) (fall : Option NamedFloor) : Type 0 where
  backed : AreBacked key names me all boots kept
  fell : (floor : NamedFloor) → fall ≡ Some floor → WentBack key me all member floor.name

took : (key : List ℕ) (names : List (List ℕ)) (me : ℕ) (all : List Call) (boots : List ℕ) (member boot : ℕ) (head : Head) → Tells member boot head → slice_index boots member ≡ boot
    → (kept : List Claim) (floors : List NamedFloor) → ((floor : NamedFloor) → Among floors floor → IsTold key me all head floor) → AreBacked key names me all boots kept
    → Took key names me all boots member (kept_after names member boot kept floors) (first_fall names member boot kept floors)
took key names me all boots member boot head tells greatest kept [] told backed = record { backed = backed; fell = λ floor e. absurd cc }
took key names me all boots member boot head tells greatest kept (floor ∷ floors) told backed =
    by_row (number_of names floor.name) refl
    (λ next b. took key names me all boots member boot head tells greatest next floors (λ one h. told one (inr h)) b)
  where
    by_row : (row : Option ℕ) → number_of names floor.name ≡ row
        → ((next : List Claim) → AreBacked key names me all boots next → Took key names me all boots member (kept_after names member boot next floors) (first_fall names member boot next floors))
        → Took key names me all boots member
        (cond (is_fall kept member boot row floor.next) kept (kept_after names member boot (kept_with kept member boot row floor.next) floors))
        (cond (is_fall kept member boot row floor.next) (Some floor) (first_fall names member boot (kept_with kept member boot row floor.next) floors))
    by_row None at rest = rest kept backed
    by_row (Some row) at rest = by_fall (is_below (claim_of kept row member) boot floor.next) refl
      where
        by_fall : (below : Bool) → is_below (claim_of kept row member) boot floor.next ≡ below → Took key names me all boots member
            (cond below kept (kept_after names member boot (kept_with kept member boot (Some row) floor.next) floors))
            (cond below (Some floor) (first_fall names member boot (kept_with kept member boot (Some row) floor.next) floors))
        by_fall false is = rest (kept_with kept member boot (Some row) floor.next)
            (kept_backed key names me all boots kept row member boot head floor tells greatest (told floor (inl refl)) at backed)
        by_fall true is = record {
          backed = backed;
          fell = λ one e. subst (λ (f : NamedFloor). WentBack key me all member f.name) (some_floor floor one e)
              (fall_back key names me all row member boot (slice_index boots member) (claim_of kept row member) head floor tells (told floor (inl refl)) at
              (backed row member tells.low tells.high) is);
        }

-- ---- the claims of a packer

-- the claims are backed, and the members whose floors fell went back
pub record AreSound (key : List ℕ) (known : List Bool) (names : List (List ℕ)) (me : ℕ) (all : List Call) (claims : ClaimsRecord) : Type 0 where
  pub places : length claims.boots ≡ 10
  pub backed : AreBacked key names me all claims.boots claims.kept
  pub fallen : (member : ℕ) → is_fallen claims member ≡ true → HasGoneBack key known me all member

-- the claims after floors, and the fall of the member
pub record AreTaken (key : List ℕ) (known : List Bool) (names : List (List ℕ)) (me : ℕ) (all : List Call) (member : ℕ) (claims : ClaimsRecord) (fall : Option NamedFloor) : Type 0 where
  pub sound : AreSound key known names me all claims
  pub fell : (floor : NamedFloor) → fall ≡ Some floor → WentBack key me all member floor.name

-- the greatest boot rises
boots_backed : (key : List ℕ) (names : List (List ℕ)) (me : ℕ) (all : List Call) (boots : List ℕ) (kept : List Claim) (member boot : ℕ) → slice_index boots member ≤ boot
    → AreBacked key names me all boots kept → AreBacked key names me all (slice_set boots member boot) kept
boots_backed key names me all boots kept member boot rises backed = λ r m one nine.
    let b = backed r m one nine in
    record {
      boot_is = elim (at_set boots member m boot 0) [
        | inl same ↦ (let old = b.boot_is in omega (arith, old, same))
        | inr hit ↦
            let old = b.boot_is in
            let there : slice_index boots member ≡ slice_index boots m = ap (slice_index boots) hit.0 in
            let new = hit.1 in
            omega (arith, old, there, rises, new)
      ];
      told = b.told;
    }

fallen_sound : (key : List ℕ) (known : List Bool) (me : ℕ) (all : List Call) (fallen : List Bool) (member : ℕ) (fall : Option NamedFloor)
    → ((m : ℕ) → slice_index_or fallen m false ≡ true → HasGoneBack key known me all m) → ((floor : NamedFloor) → fall ≡ Some floor → WentBack key me all member floor.name)
    → (m : ℕ) → slice_index_or (with_fallen fallen member fall) m false ≡ true → HasGoneBack key known me all m
fallen_sound key known me all fallen member None old fell = old
fallen_sound key known me all fallen member (Some floor) old fell = λ m is. elim (at_set fallen member m true false) [
  | inl same ↦ old m (sym same ∙ is)
  | inr hit ↦ subst (HasGoneBack key known me all) hit.0 (inr (floor.name, fell floor refl))
]

pub taken : (key : List ℕ) (known : List Bool) (names : List (List ℕ)) (me : ℕ) (all : List Call) (claims : ClaimsRecord) (member : ℕ) (head : Head) (floors : List NamedFloor) → head.from ≡ member → 1 ≤ member → member ≤ 9
    → ((floor : NamedFloor) → Among floors floor → IsTold key me all head floor) → AreSound key known names me all claims
    → AreTaken key known names me all member (claims_after claims names member head.boot floors) (falls claims names member head.boot floors)
taken key known names me all claims member head floors from low high told s = by_boot (is_older claims member head.boot) refl
  where
    boots : List ℕ
    boots = slice_set claims.boots member head.boot

    by_boot : (older : Bool) → is_older claims member head.boot ≡ older → AreTaken key known names me all member
        (cond older claims (record {
          boots = boots;
          fallen = with_fallen claims.fallen member (first_fall names member head.boot claims.kept floors);
          kept = kept_after names member head.boot claims.kept floors;
        }))
        (cond older None (first_fall names member head.boot claims.kept floors))
    by_boot true is = record { sound = s; fell = λ floor e. absurd cc }
    by_boot false is =
        let rises : slice_index claims.boots member ≤ head.boot = ltb-false head.boot (slice_index claims.boots member) is in
        let places = s.places in
        let within : member < length claims.boots = omega (arith, high, places) in
        let greatest : slice_index boots member ≡ head.boot = get_or-set_same claims.boots member head.boot 0 within in
        let t = took key names me all boots member head.boot head (record { from_is = from; boot_is = refl; low = low; high = high }) greatest claims.kept floors told
        (boots_backed key names me all claims.boots claims.kept member head.boot rises s.backed) in
        record {
          sound = record {
            places = length-set claims.boots member head.boot ∙ s.places;
            backed = t.backed;
            fallen = fallen_sound key known me all claims.fallen member (first_fall names member head.boot claims.kept floors) s.fallen t.fell;
          };
          fell = t.fell;
        }
