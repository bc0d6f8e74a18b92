-- Live members are read field by field.
use Rattle.std.proofs.Common.{◌≡◌, ℕ, ◌+◌, ◌<◌, ◌≤◌, List, [], ◌∷◌, ◌++◌, length, drop, Option, Some, None, refl, sym, ap, ◌∙◌, get_or}
use Rattle.std.specs.Option.{option_map}
use Rattle.std.proofs.lemmas.List.{append-nil, append_assoc}
use Rattle.std.proofs.Math.ListN.{drop_of_length-le}
use Rattle.oathd_sim.specs.Script.{◌>>=◌, member_above, members_above}
use Rattle.oathd_sim.proofs.TurnLemmas.{next_item}

-- members before others
abbrev pub members_before : List ℕ → Option (List ℕ) → Option (List ℕ)
members_before live more = option_map (λ others. live ++ others) more

-- the first `number` fields are read as the given members
pub record HasMembers (nodes : ℕ) (fields : List (List ℕ)) (live : List ℕ) (last number : ℕ) : Type 0 where
  pub so_far : members_above nodes 0 fields ≡ members_before live (members_above nodes last (drop number fields))

pub before_nothing : (more : Option (List ℕ)) → more ≡ members_before [] more
before_nothing None = refl
before_nothing (Some live) = refl

pub before_one : (live : List ℕ) (node : ℕ) (more : Option (List ℕ))
    → members_before live (more >>= (λ others. Some (node ∷ others))) ≡ members_before (live ++ node ∷ []) more
before_one live node None = refl
before_one live node (Some others) = ap Some (sym (append_assoc live (node ∷ []) others))

pub members_none : (nodes : ℕ) (fields : List (List ℕ)) → HasMembers nodes fields [] 0 0
members_none nodes fields = record { so_far = before_nothing (members_above nodes 0 fields) }

members_to : (nodes : ℕ) (fields : List (List ℕ)) (live : List ℕ) (last number : ℕ) (field : List ℕ) (said : Option ℕ)
    → number < length fields → field ≡ get_or fields number field → member_above nodes last field ≡ said → HasMembers nodes fields live last number
    → members_above nodes 0 fields
    ≡ members_before live (said >>= (λ node. members_above nodes node (drop (number + 1) fields) >>= (λ more. Some (node ∷ more))))
members_to nodes fields live last number field said within is e has =
    has.so_far ∙ ap (λ left. members_before live (members_above nodes last left)) (next_item fields number field within is)
    ∙ ap (λ o. members_before live (o >>= (λ node. members_above nodes node (drop (number + 1) fields) >>= (λ more. Some (node ∷ more))))) e

pub members_next : (nodes : ℕ) (fields : List (List ℕ)) (live : List ℕ) (last number : ℕ) (field : List ℕ) (node : ℕ)
    → number < length fields → field ≡ get_or fields number field → member_above nodes last field ≡ Some node → HasMembers nodes fields live last number
    → HasMembers nodes fields (live ++ node ∷ []) node (number + 1)
members_next nodes fields live last number field node within is e has = record {
  so_far = members_to nodes fields live last number field (Some node) within is e has
      ∙ before_one live node (members_above nodes node (drop (number + 1) fields));
}

pub members_bad : (nodes : ℕ) (fields : List (List ℕ)) (live : List ℕ) (last number : ℕ) (field : List ℕ)
    → number < length fields → field ≡ get_or fields number field → member_above nodes last field ≡ None → HasMembers nodes fields live last number
    → members_above nodes 0 fields ≡ None
members_bad nodes fields live last number field within is e has = members_to nodes fields live last number field None within is e has

pub members_all : (nodes : ℕ) (fields : List (List ℕ)) (live : List ℕ) (last number : ℕ) → length fields ≤ number → HasMembers nodes fields live last number
    → members_above nodes 0 fields ≡ Some live
members_all nodes fields live last number le has =
    has.so_far ∙ ap (λ left. members_before live (members_above nodes last left)) (drop_of_length-le fields le) ∙ ap Some (append-nil live)
