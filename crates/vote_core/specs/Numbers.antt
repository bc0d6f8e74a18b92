-- The numbers that a store gives to its own rows: each has a canonical name, and no two share one. The names turn the
-- steps of a voter over its own numbers into steps over canonical numbers.
use Rattle.std.specs.Prelude.{◌≡◌, ℕ, ◌<◌, ◌++◌, [], ◌∷◌, List, length, map, nat_lt, if◌then◌else◌, Some, slice_get, option_map}
use Rattle.floor_store.specs.Content.{Content, opening_row}
use Rattle.floor_store.specs.Records.{PassRecord}
use Rattle.vote_core.specs.Rows.{row}
use Rattle.vote_core.specs.Voting.{Ballot, VoterState, Voted}
use Rattle.vote_core.specs.declared.message.Message.{Message}
use Rattle.vote_core.specs.declared.message.Message.TheVariants.{Ask, Grant, Deny, Floor}
use Rattle.vote_core.specs.declared.step.Decision.{Decision}
use Rattle.vote_core.specs.declared.step.Decision.TheVariants.{Accepted, Spent, Timeout}

-- a message with its token's name
abbrev pub named_message : (ℕ → ℕ) → Message → Message
named_message name (Ask proposal token span) = Ask proposal (name token) span
named_message name (Grant proposal token span) = Grant proposal (name token) span
named_message name (Deny proposal token next) = Deny proposal (name token) next
named_message name (Floor token next) = Floor (name token) next

-- a message with its receiver, under its token's name
abbrev pub named_send : (ℕ → ℕ) → ℕ × Message → ℕ × Message
named_send name send = (send.0, named_message name send.1)

-- a ballot under its token's name
abbrev pub named_ballot : (ℕ → ℕ) → Ballot → Ballot
named_ballot name ballot = record ballot { token = name ballot.token }

-- a pass under its token's name
abbrev pub named_pass : (ℕ → ℕ) → PassRecord → PassRecord
named_pass name pass = record pass { token = name pass.token }

-- a decision with its pass under the token's name
abbrev pub named_decision : (ℕ → ℕ) → Decision → Decision
named_decision name (Accepted pass) = Accepted (named_pass name pass)
named_decision name Spent = Spent
named_decision name Timeout = Timeout

-- the same of a decision and its proposal number
abbrev pub named_made : (ℕ → ℕ) → ℕ × Decision → ℕ × Decision
named_made name made = (made.0, named_decision name made.1)

-- the store's own rows are rows of the canonical content, under their names
pub record IsNamed (name : ℕ → ℕ) (own canonical : Content) : Type 0 where
  pub one : (j k : ℕ) → j < length own.rows → k < length own.rows → name j ≡ name k → j ≡ k
  pub there : (k : ℕ) → k < length own.rows → name k < length canonical.rows
  pub rows : (k : ℕ) → k < length own.rows → row canonical (name k) ≡ row own k
  pub boot : canonical.boot ≡ own.boot
  pub last : canonical.last ≡ option_map (named_pass name) own.last
  pub last_known : (pass : PassRecord) → own.last ≡ Some pass → pass.token < length own.rows

-- a voter over `tokens` rows and its canonical counterpart, which may differ in the token of the next Floor
pub record IsNamedVoter (name : ℕ → ℕ) (tokens : ℕ) (own canonical : VoterState) : Type 0 where
  pub known : (i : ℕ) (ballot : Ballot) → slice_get own.pending i ≡ Some ballot → ballot.token < tokens
  pub pending : canonical.pending ≡ map (named_ballot name) own.pending
  pub seq : canonical.seq ≡ own.seq

-- a step of a voter over `tokens` rows and its canonical counterpart
pub record IsNamedStep (name : ℕ → ℕ) (tokens : ℕ) (own canonical : Voted) : Type 0 where
  pub size : length own.content.rows ≡ tokens
  pub content : IsNamed name own.content canonical.content
  pub voter : IsNamedVoter name tokens own.voter canonical.voter
  pub sends : canonical.sends ≡ map (named_send name) own.sends
  pub begun : canonical.begun ≡ own.begun
  pub decisions : canonical.decisions ≡ map (named_made name) own.decisions

-- the name of the turn's token, if it has a row
abbrev pub named_turn : (ℕ → ℕ) → Content → VoterState → List ℕ
named_turn name content voter =
    if nat_lt voter.turn (length content.rows) then name voter.turn ∷ [] else []

-- the store with another row
abbrev pub with_new_row : ℕ → Content → Content
with_new_row floor content = record content { rows = content.rows ++ opening_row floor ∷ [] }

-- the canonical content with the new row, and otherwise unchanged
pub record HasNewRow (name : ℕ → ℕ) (floor : ℕ) (own old new : Content) : Type 0 where
  pub apart : (k : ℕ) → k < length own.rows → name k ≡ name (length own.rows) → ⊥
  pub there : name (length own.rows) < length new.rows
  pub size : length new.rows ≡ length old.rows
  pub row_is : row new (name (length own.rows)) ≡ opening_row floor
  pub rest : (k : ℕ) → k < length own.rows → row new (name k) ≡ row old (name k)
  pub boot : new.boot ≡ old.boot
  pub last : new.last ≡ old.last
