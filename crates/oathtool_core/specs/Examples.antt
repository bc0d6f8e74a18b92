-- Texts and faults of the worked cases.
use Rattle.std.specs.Prelude.{◌≡◌, ℕ, ◌&&◌, ◌⊎◌, not, Bool, List, [], ◌∷◌, codes, Option, is_some}
use Rattle.std.specs.List.{list_all}
use Rattle.oathtool_core.specs.Time.{IsTimeText, fields_of, has_marks}
use Rattle.oathtool_core.specs.declared.fault.Fault.{Fault}
use Rattle.oathtool_core.specs.declared.fault.Fault.TheVariants.{Memory}
use Rattle.oathtool_core.specs.declared.plan.Times.{Times}

-- The text gives this time and no other.
pub record GivesOnly (text : List ℕ) (seconds : ℕ) : Type 0 where
  pub gives : IsTimeText text seconds
  pub only : (other : ℕ) → IsTimeText text other → other ≡ seconds

-- dates with one wrong separator, at each place, in another case, a byte too short and a byte too long
abbrev pub badly_marked : List (List ℕ)
badly_marked =
    codes "2005/03-18 01:58:29 UTC" ∷ codes "2005-03/18 01:58:29 UTC" ∷ codes "2005-03-18T01:58:29 UTC"
    ∷ codes "2005-03-18 01.58:29 UTC" ∷ codes "2005-03-18 01:58.29 UTC" ∷ codes "2005-03-18 01:58:29+UTC"
    ∷ codes "2005-03-18 01:58:29 uTC" ∷ codes "2005-03-18 01:58:29 UtC" ∷ codes "2005-03-18 01:58:29 UTc"
    ∷ codes "2005-03-18 01:58:29 UT" ∷ codes "2005-03-18 01:58:29 UTCC" ∷ []

-- whether each text lacks a separator
abbrev pub all_lack_marks : List (List ℕ) → Bool
all_lack_marks texts = list_all (λ text. not (has_marks text)) texts

-- dates with one wrong number, at each place
abbrev pub badly_numbered : List (List ℕ)
badly_numbered =
    codes "+005-03-18 01:58:29 UTC" ∷ codes "2005- 3-18 01:58:29 UTC" ∷ codes "2005-03-1  01:58:29 UTC"
    ∷ codes "2005-03-18 x1:58:29 UTC" ∷ codes "2005-03-18 01:-8:29 UTC" ∷ codes "2005-03-18 01:58:2/ UTC" ∷ []

-- whether each text lacks a number
abbrev pub all_lack_numbers : List (List ℕ) → Bool
all_lack_numbers texts = list_all (λ text. has_marks text && not (is_some (fields_of text))) texts

-- times with the start 100 and steps of 30 seconds
abbrev pub times_from_100 : Option ℕ → Times
times_from_100 time = record { start = 100; time = time; step_size = 30 }

-- the fault is `wanted`, or the allocator refused the memory
abbrev pub IsOr : Fault → Fault → Type 0
IsOr wanted fault = (fault ≡ wanted) ⊎ (fault ≡ Memory)
