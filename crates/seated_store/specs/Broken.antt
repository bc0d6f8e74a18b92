-- Small stores that are seen with their two rows swapped. No contract cites them.
use Rattle.std.specs.Prelude.{ℕ, true, false, [], ◌∷◌, Option, Some, Result, Err}
use Rattle.floor_store.specs.Broken.{SmallStore, holding, small_held}
use Rattle.floor_store.specs.Examples.{free_row, pass, two_rows}
use Rattle.floor_store.specs.Held.{Commits, Held}
use Rattle.floor_store.specs.Records.{PassRecord}
use Rattle.floor_store.specs.declared.fault.StoreFault.{StoreFault}
use Rattle.floor_store.specs.declared.fault.StoreFault.TheVariants.{Unusable}
use Rattle.seated_store.specs.Seated.{IsPassedOn, PutsBelow, SeatedRecord, seated_held}

-- a clean store of two rows with these floors
abbrev pub floors : ℕ → ℕ → Option PassRecord → SmallStore
floors first second last = holding (two_rows (free_row first) (free_row second) last)

-- the store with its rows swapped
abbrev pub swapped : SmallStore → SeatedRecord SmallStore
swapped inner = record { inner = inner; seats = 1 ∷ 0 ∷ []; is_unusable = false }

-- the same after a put of a pass of a token without a seat
abbrev pub unusable : SmallStore → SeatedRecord SmallStore
unusable inner = record (swapped inner) { is_unusable = true }

-- the store with its rows in their order
abbrev pub unswapped : SmallStore → SeatedRecord SmallStore
unswapped inner = record (swapped inner) { seats = 0 ∷ 1 ∷ [] }

-- the contract's view of a seated store
abbrev pub seen : SeatedRecord SmallStore → Held
seen = seated_held small_held

-- a call that returned the seated store's own fault
abbrev pub refused : Result ℕ StoreFault
refused = Err Unusable

-- a pass of a token, and the last pass of none
abbrev pub pass_of : ℕ → Option PassRecord
pass_of token = Some (pass token 5 5 4 8)

-- a commit that is passed on
abbrev pub CommitsBelow : SeatedRecord SmallStore → SeatedRecord SmallStore → Result ℕ StoreFault → Type 0
CommitsBelow = IsPassedOn (Commits small_held)

-- a put of the floor 7, by a token's seat
abbrev pub Puts7 :
    SeatedRecord SmallStore → SeatedRecord SmallStore → ℕ → Option PassRecord → Result ℕ StoreFault → Type 0
Puts7 old new token last result = PutsBelow small_held old new token (free_row 7) last result
