-- Floors are read field by field.
use Rattle.std.proofs.Common.{◌≡◌, ℕ, ◌+◌, ◌<◌, ◌≤◌, List, [], ◌∷◌, ◌++◌, length, drop, Option, Some, None, ap, ◌∙◌, get_or}
use Rattle.std.proofs.lemmas.List.{append-nil}
use Rattle.std.proofs.Math.ListN.{drop_of_length-le}
use Rattle.oathd_sim.specs.Script.{◌>>=◌, next_of, nexts_of}
use Rattle.oathd_sim.proofs.RoundLemmas.{before_nothing, before_one, members_before}
use Rattle.oathd_sim.proofs.TurnLemmas.{next_item}

-- the first `number` fields are read as the given floors
pub record HasFloors (fields : List (List ℕ)) (floors : List ℕ) (number : ℕ) : Type 0 where
  pub so_far : nexts_of fields ≡ members_before floors (nexts_of (drop number fields))

pub floors_none : (fields : List (List ℕ)) → HasFloors fields [] 0
floors_none fields = record { so_far = before_nothing (nexts_of fields) }

floors_to : (fields : List (List ℕ)) (floors : List ℕ) (number : ℕ) (field : List ℕ) (said : Option ℕ)
    → number < length fields → field ≡ get_or fields number field → next_of field ≡ said → HasFloors fields floors number
    → nexts_of fields ≡ members_before floors (said >>= (λ next. nexts_of (drop (number + 1) fields) >>= (λ more. Some (next ∷ more))))
floors_to fields floors number field said within is e has =
    has.so_far ∙ ap (λ left. members_before floors (nexts_of left)) (next_item fields number field within is)
    ∙ ap (λ o. members_before floors (o >>= (λ next. nexts_of (drop (number + 1) fields) >>= (λ more. Some (next ∷ more))))) e

pub floors_next : (fields : List (List ℕ)) (floors : List ℕ) (number : ℕ) (field : List ℕ) (next : ℕ)
    → number < length fields → field ≡ get_or fields number field → next_of field ≡ Some next → HasFloors fields floors number
    → HasFloors fields (floors ++ next ∷ []) (number + 1)
floors_next fields floors number field next within is e has = record {
  so_far = floors_to fields floors number field (Some next) within is e has ∙ before_one floors next (nexts_of (drop (number + 1) fields));
}

pub floors_bad : (fields : List (List ℕ)) (floors : List ℕ) (number : ℕ) (field : List ℕ)
    → number < length fields → field ≡ get_or fields number field → next_of field ≡ None → HasFloors fields floors number → nexts_of fields ≡ None
floors_bad fields floors number field within is e has = floors_to fields floors number field None within is e has

pub floors_all : (fields : List (List ℕ)) (floors : List ℕ) (number : ℕ) → length fields ≤ number → HasFloors fields floors number → nexts_of fields ≡ Some floors
floors_all fields floors number le has =
    has.so_far ∙ ap (λ left. members_before floors (nexts_of left)) (drop_of_length-le fields le) ∙ ap Some (append-nil floors)
