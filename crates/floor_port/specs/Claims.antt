-- What the members told last of the floors of a node's rows, and the members whose floors fell. A member that tells a
-- lower floor of a token in a later boot went back to an old store.
use Rattle.std.specs.Prelude.{ℕ, ◌+◌, ◌-◌, ◌*◌, ◌&&◌, Bool, false, true, max, nat_le, nat_lt, if◌then◌else◌, List, [], ◌∷◌, ◌++◌, length, replicate, slice_index, slice_index_or, slice_set, Option, Some, None}
use Rattle.std.specs.Option.{option_map}
use Rattle.gatekeeping.specs.declared.gatekeeper.Fell.{Fell}
use Rattle.named_port.specs.Names.{number_of}
use Rattle.floor_port.specs.declared.claims.Claim.{Claim}
use Rattle.floor_port.specs.declared.floor.NamedFloor.{NamedFloor}

-- The claims of the members: the greatest boot in which each told floors, and whether a floor of each fell, from member
-- 0 to 9. For each row and each member from 1 to 9 they have the boot and the floor that the member told last.
pub record ClaimsRecord : Type 0 where
  pub boots : List ℕ
  pub fallen : List Bool
  pub kept : List Claim

-- a member told nothing of a row
abbrev pub no_claim : Claim
no_claim = record { boot = 0; next = 0 }

-- the claims of members that told nothing, of whom some are known to have gone back, over a number of rows
abbrev pub new_claims : List Bool → ℕ → ClaimsRecord
new_claims gone_back rows =
    record { boots = replicate 10 0; fallen = gone_back; kept = replicate (9 * rows) no_claim }

-- whether a floor of the member fell, or it is known to have gone back
abbrev pub is_fallen : ClaimsRecord → ℕ → Bool
is_fallen claims member = slice_index_or claims.fallen member false

-- ---- one floor

-- the place of what a member told of a row: the nine members of a row stand together
abbrev pub place_of : ℕ → ℕ → ℕ
place_of row member = 9 * row + (member - 1)

-- what a member told last of a row
abbrev pub claim_of : List Claim → ℕ → ℕ → Claim
claim_of kept row member = slice_index_or kept (place_of row member) no_claim

-- whether a floor in a boot is a fall after a claim: it is lower, and the boot is later
abbrev pub is_below : Claim → ℕ → ℕ → Bool
is_below claim boot next = nat_lt claim.boot boot && nat_lt next claim.next

-- whether a member falls by a floor that it tells of a row in a boot, if there is the row
abbrev pub is_fall : List Claim → ℕ → ℕ → Option ℕ → ℕ → Bool
is_fall kept member boot None next = false
is_fall kept member boot (Some row) next = is_below (claim_of kept row member) boot next

-- the claims after a floor that doesn't fall: the boot, with the greater floor
abbrev pub kept_with : List Claim → ℕ → ℕ → Option ℕ → ℕ → List Claim
kept_with kept member boot None next = kept
kept_with kept member boot (Some row) next =
    slice_set kept (place_of row member)
    (record { boot = boot; next = max next (claim_of kept row member).next })

-- ---- the floors of a datagram

-- the first floor by which a member falls, among those that it tells in a boot, each held against those before it
abbrev pub first_fall : List (List ℕ) → ℕ → ℕ → List Claim → List NamedFloor → Option NamedFloor
first_fall names member boot kept [] = None
first_fall names member boot kept (floor ∷ floors) =
    if is_fall kept member boot (number_of names floor.name) floor.next then Some floor
    else first_fall names member boot (kept_with kept member boot (number_of names floor.name) floor.next) floors

-- the claims after the floors before the first by which the member falls
abbrev pub kept_after : List (List ℕ) → ℕ → ℕ → List Claim → List NamedFloor → List Claim
kept_after names member boot kept [] = kept
kept_after names member boot kept (floor ∷ floors) =
    if is_fall kept member boot (number_of names floor.name) floor.next then kept
    else kept_after names member boot (kept_with kept member boot (number_of names floor.name) floor.next) floors

-- whether a member told floors in a later boot
abbrev pub is_older : ClaimsRecord → ℕ → ℕ → Bool
is_older claims member boot = nat_lt boot (slice_index claims.boots member)

-- the floor by which a member falls, if it does by those that it tells in a boot
abbrev pub falls : ClaimsRecord → List (List ℕ) → ℕ → ℕ → List NamedFloor → Option NamedFloor
falls claims names member boot floors =
    if is_older claims member boot then None else first_fall names member boot claims.kept floors

-- the members whose floors fell, with one more if it fell
abbrev pub with_fallen : List Bool → ℕ → Option NamedFloor → List Bool
with_fallen fallen member None = fallen
with_fallen fallen member (Some floor) = slice_set fallen member true

-- the claims after floors that a member told in a boot: those of an older boot change nothing
abbrev pub claims_after : ClaimsRecord → List (List ℕ) → ℕ → ℕ → List NamedFloor → ClaimsRecord
claims_after claims names member boot floors =
    if is_older claims member boot then claims
    else record {
      boots = slice_set claims.boots member boot;
      fallen = with_fallen claims.fallen member (first_fall names member boot claims.kept floors);
      kept = kept_after names member boot claims.kept floors;
    }

-- ---- falls

-- the fall of a member, if it fell by a floor
abbrev pub fell_of : ℕ → Option NamedFloor → Option Fell
fell_of member floor = option_map (λ one. record { member = member; name = one.name }) floor

-- The falls that a log wasn't told of, with one more if there was one. There is room for ten, since no member falls
-- twice.
abbrev pub with_fell : List Fell → Option Fell → List Fell
with_fell fells None = fells
with_fell fells (Some fell) = if nat_le 10 (length fells) then fells else fells ++ fell ∷ []
