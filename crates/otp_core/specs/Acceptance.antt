-- Accepted submissions, and what must hold of them (RFC 4226, section 7.2; RFC 6238, section 5.2).
-- The definitions don't say how a submission is accepted. Floor: the first free factor of a token at a node.
use Rattle.std.specs.Prelude.{◌≡◌, ◌≢◌, ℕ, zero, suc, ◌+◌, ◌/◌, ◌<◌, ◌≤◌, Bool, true, List, Some, slice_get, if◌then◌else◌}

-- An accepted submission. It has the events in which it began and was accepted, the node, the token, and the factors lo
-- to hi that it uses up. An event is its place in the list of all events.
pub record Acceptance : Type 0 where
  pub began : ℕ
  pub ended : ℕ
  pub node : ℕ
  pub token : ℕ
  pub lo : ℕ
  pub hi : ℕ

-- a factor that an acceptance uses up
abbrev pub Uses : Acceptance → ℕ → Type 0
Uses a factor = (a.lo ≤ factor) × (factor ≤ a.hi)

-- two acceptances that share no factor of one token
abbrev pub ShareNoFactor : Acceptance → Acceptance → Type 0
ShareNoFactor a b = a.token ≡ b.token → (factor : ℕ) → Uses a factor → Uses b factor → ⊥

-- Single use: acceptances at two places of the list began in different events, and share no factor of
-- one token.
pub record HaveSingleUse (accepted : List Acceptance) : Type 0 where
  pub began : (i j : ℕ) (a b : Acceptance) → i ≢ j → slice_get accepted i ≡ Some a → slice_get accepted j ≡ Some b
      → a.began ≢ b.began
  pub factors : (i j : ℕ) (a b : Acceptance) → i ≢ j → slice_get accepted i ≡ Some a → slice_get accepted j ≡ Some b
      → ShareNoFactor a b

-- Real-time order: a submission that begins after an acceptance for its token uses only greater factors.
abbrev pub KeepRealTimeOrder : List Acceptance → Type 0
KeepRealTimeOrder accepted = (i j : ℕ) (a b : Acceptance)
    → slice_get accepted i ≡ Some a → slice_get accepted j ≡ Some b
    → a.token ≡ b.token → a.ended < b.began → a.hi < b.lo

-- more than half of the given number of nodes
abbrev pub majority_of : ℕ → ℕ
majority_of nodes = nodes / 2 + 1

-- the number of nodes from 1 to n in a set, which is given by its test
abbrev pub size : ℕ → (ℕ → Bool) → ℕ
size zero set = 0
size (suc n) set = (if set (suc n) then 1 else 0) + size n set

-- The node gives up the factors of the acceptance in the event, for good. `floor node token event` is the node's floor
-- of the token before the event.
pub record LetsGo (floor : ℕ → ℕ → ℕ → ℕ) (a : Acceptance) (node event : ℕ) : Type 0 where
  pub after_it_began : a.began ≤ event
  pub before_it_ended : event ≤ a.ended
  pub free : floor node a.token event ≤ a.lo
  pub used : (later : ℕ) → event < later → a.hi < floor node a.token later

-- Witnesses: a majority of the nodes 1 to n, each of which gave up the factors.
pub record HasMajority (n : ℕ) (floor : ℕ → ℕ → ℕ → ℕ) (a : Acceptance) : Type 0 where
  pub nodes : ℕ → Bool
  pub many : majority_of n ≤ size n nodes
  pub each : (node : ℕ) → nodes node ≡ true → (event : ℕ) × LetsGo floor a node event
