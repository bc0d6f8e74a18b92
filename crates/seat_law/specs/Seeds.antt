-- Acceptances by device. The seed of a token is the number of its device. A device has a token for each name, type and
-- number of digits that it ever had in a users file. Floor: the first free factor of a token at a node.
use Rattle.std.specs.Prelude.{◌≡◌, ◌≢◌, ℕ, suc, ◌<◌, ◌≤◌, Bool, true, List, Some, slice_get}
use Rattle.otp_core.specs.Acceptance.{Acceptance, LetsGo, Uses, majority_of, size}

-- Single use by seed: acceptances at two places of the list share no factor of one device.
abbrev pub HaveSingleUseOfSeeds : (ℕ → ℕ) → List Acceptance → Type 0
HaveSingleUseOfSeeds seed accepted = (i j : ℕ) (a b : Acceptance) → i ≢ j
    → slice_get accepted i ≡ Some a → slice_get accepted j ≡ Some b
    → seed a.token ≡ seed b.token → (factor : ℕ) → Uses a factor → Uses b factor → ⊥

-- Real-time order by seed: a submission that begins after an acceptance of its device uses only greater factors.
abbrev pub KeepOrderOfSeeds : (ℕ → ℕ) → List Acceptance → Type 0
KeepOrderOfSeeds seed accepted = (i j : ℕ) (a b : Acceptance)
    → slice_get accepted i ≡ Some a → slice_get accepted j ≡ Some b
    → seed a.token ≡ seed b.token → a.ended < b.began → a.hi < b.lo

-- The node gives up the factors of the acceptance in the event, for good. The row has the greatest floor of its seed
-- there, and no other row of the seed rises in the event.
pub record IsGivenUp (floor : ℕ → ℕ → ℕ → ℕ) (seed : ℕ → ℕ) (a : Acceptance) (node event : ℕ) : Type 0 where
  pub lets : LetsGo floor a node event
  pub greatest : (other : ℕ) → seed other ≡ seed a.token → floor node other event ≤ floor node a.token event
  pub alone : (other : ℕ) → seed other ≡ seed a.token → other ≢ a.token
      → floor node other (suc event) ≤ floor node other event

-- a majority of the nodes 1 to n gave up the factors
pub record HasMajorityOfSeed (n : ℕ) (floor : ℕ → ℕ → ℕ → ℕ) (seed : ℕ → ℕ) (a : Acceptance) : Type 0 where
  pub nodes : ℕ → Bool
  pub many : majority_of n ≤ size n nodes
  pub each : (node : ℕ) → nodes node ≡ true → (event : ℕ) × IsGivenUp floor seed a node event

-- Majority by seed: a majority gave up the factors of each acceptance.
abbrev pub AreGivenUp : ℕ → (ℕ → ℕ → ℕ → ℕ) → (ℕ → ℕ) → List Acceptance → Type 0
AreGivenUp n floor seed accepted =
    (i : ℕ) (a : Acceptance) → slice_get accepted i ≡ Some a → HasMajorityOfSeed n floor seed a
