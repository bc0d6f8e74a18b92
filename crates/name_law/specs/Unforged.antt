-- The assumption about the network, byte for byte: no datagram of a vote by names is forged under a key.
use Rattle.std.specs.Prelude.{◌≡◌, ℕ, suc, ◌^◌, ◌<◌, ◌≤◌, List, [], ◌∷◌, length, map, Option, Some, slice_get}
use Rattle.vote_core.specs.Books.{blank_opening}
use Rattle.vote_core.specs.Safety.{MayOpen}
use Rattle.vote_core.specs.Schedule.{Envelope}
use Rattle.vote_wire.specs.Key.{bare}
use Rattle.oath_node.specs.Hosted.{envelope_at}
use Rattle.oath_node.specs.Machine.{NodeEvent, Client, Peer, Tick}
use Rattle.named_port.specs.Translator.{TranslatorRecord}
use Rattle.named_wire.specs.Datagram.{datagram_at}
use Rattle.named_wire.specs.declared.head.Head.{Head}
use Rattle.named_wire.specs.declared.head.Kind.{Kind}
use Rattle.named_wire.specs.declared.head.Kind.TheVariants.{Ask, Grant, Deny, Floor, Floors}
use Rattle.book_law.specs.Lives.{Action, Opens, FailsToOpen, Takes, Offers, Stops, StopsIn, Loses, Remakes, Enrols, Unlocks, OpensGate, Raises, IsOfVote, Output, Process, Sealed, Setting, State, Terms, ToPeer, Down, Up, first_state, made_boot, state_after_action}
use Rattle.name_law.specs.Datagrams.{AreNames, IsSpelled, IsTranslatorOf, handed_bytes, named_datagram}

-- The ranges of a history: the names of its canonical tokens, the number of nodes, and spellings for the envelopes of
-- former times.
pub record IsSized (names : List (List ℕ)) (setting : Setting) : Type 0 where
  pub are_names : AreNames names
  pub tokens : length names ≡ setting.tokens
  pub nodes : setting.n ≤ 9
  pub old : (i : ℕ) (sealed : Sealed) → slice_get setting.old i ≡ Some sealed → IsSpelled sealed.envelope

-- the bytes are a datagram that was offered before under the key, byte for byte
pub record WereOffered (names : List (List ℕ)) (key : List ℕ) (offered : List Output) (bytes : List ℕ)
    : Type 0 where
  pub place : ℕ
  pub sealed : Sealed
  pub is_there : slice_get offered place ≡ Some (ToPeer sealed)
  pub key_is : sealed.key ≡ key
  pub boot : ℕ
  pub boot_below : boot < 2 ^ 64
  pub bytes_are : bytes ≡ named_datagram names boot sealed

-- A process reads what its translator handed in for bytes from a member's address. If it reads an envelope of a vote,
-- the bytes were offered before under its key. Nobody need have offered bytes that only tell a floor.
pub record ReadsOffered (names : List (List ℕ)) (node : ℕ) (terms : Terms) (offered : List Output) (from : ℕ)
    (read : Option Envelope) : Type 0 where
  pub translator : TranslatorRecord
  pub is_of : IsTranslatorOf names node terms translator
  pub bytes : List ℕ
  pub reads : read ≡ envelope_at bare (handed_bytes translator from bytes)
  pub unforged : (envelope : Envelope) → read ≡ Some envelope → IsOfVote envelope.message
      → WereOffered names terms.key offered bytes

-- A process can read an envelope of a vote in bytes from a member's address. Its translator hands them in, in some
-- state.
pub record TellsVote (names : List (List ℕ)) (node : ℕ) (terms : Terms) (from : ℕ) (bytes : List ℕ) : Type 0 where
  pub translator : TranslatorRecord
  pub is_of : IsTranslatorOf names node terms translator
  pub envelope : Envelope
  pub reads : envelope_at bare (handed_bytes translator from bytes) ≡ Some envelope
  pub vote : IsOfVote envelope.message

-- the kind is that of a message of a vote
abbrev pub IsKindOfVote : Kind → Type 0
IsKindOfVote Ask = Unit {0}
IsKindOfVote Grant = Unit {0}
IsKindOfVote Deny = Unit {0}
IsKindOfVote Floor = ⊥
IsKindOfVote Floors = ⊥

-- the bytes are a datagram of a vote under the key, from a member to another
pub record IsVoteFor (key : List ℕ) (from to : ℕ) (bytes : List ℕ) : Type 0 where
  pub read : Head × List ℕ
  pub reads : datagram_at key bytes ≡ Some read
  pub from_is : read.0.from ≡ from
  pub to_is : read.0.to ≡ to
  pub kind : IsKindOfVote read.0.kind

-- an input of a node's process is unforged; lines and the passage of time are free
abbrev pub IsUnforged : List (List ℕ) → ℕ → Terms → List Output → NodeEvent → Type 0
IsUnforged names node terms offered (Client client moment line) = Unit {0}
IsUnforged names node terms offered (Peer from read) = ReadsOffered names node terms offered from read
IsUnforged names node terms offered Tick = Unit {0}

-- an input at a process is unforged; without a process it is lost
abbrev pub IsUnforgedAt : List (List ℕ) → ℕ → Process → List Output → NodeEvent → Type 0
IsUnforgedAt names node (Down store) offered input = Unit {0}
IsUnforgedAt names node (Up terms below state waiting) offered input = IsUnforged names node terms offered input

-- The action's input, if any, is unforged, also inside a stop. A book has at most 10,000 tokens. The floors (first free
-- factors) of new rows and of commands are in range.
abbrev pub IsUnforgedAction : List (List ℕ) → State → Action → Type 0
IsUnforgedAction names state (Opens node terms) = length terms.config.book ≤ 10000
IsUnforgedAction names state (FailsToOpen node raised) = Unit {0}
IsUnforgedAction names state (Takes node input) =
    IsUnforgedAt names node (state.processes node) state.offered input
IsUnforgedAction names state (Offers node) = Unit {0}
IsUnforgedAction names state (Stops node) = Unit {0}
IsUnforgedAction names state (StopsIn node kept input) =
    IsUnforgedAt names node (state.processes node) state.offered input
IsUnforgedAction names state (Loses node) = Unit {0}
IsUnforgedAction names state (Remakes node boot given floor) = (token : ℕ) → floor token ≤ 2 ^ 62
IsUnforgedAction names state (Enrols node token floor) = floor ≤ 2 ^ 62
IsUnforgedAction names state (Unlocks node token) = Unit {0}
IsUnforgedAction names state (OpensGate node token) = Unit {0}
IsUnforgedAction names state (Raises node token floor) = floor ≤ 2 ^ 62

-- each of the actions is unforged; the first of them has the given number
unfoldable pub AreUnforged : List (List ℕ) → Setting → ℕ → List Action → State → Type 0
AreUnforged names setting first [] state = Unit {0}
AreUnforged names setting first (action ∷ actions) state =
    IsUnforgedAction names state action
    × AreUnforged names setting (suc first) actions (state_after_action setting first action state)

-- A history of nodes in which no datagram of a vote is forged under a key. Envelopes from before fit, and are of boots
-- before those of the first stores.
pub record IsUnforgedHistory (names : List (List ℕ)) (setting : Setting) (history : List Action) : Type 0 where
  pub starts : MayOpen setting.n setting.tokens
      (blank_opening (made_boot setting) (map (λ (sealed : Sealed). sealed.envelope) setting.old))
  pub unforged : AreUnforged names setting 0 history (first_state setting)
