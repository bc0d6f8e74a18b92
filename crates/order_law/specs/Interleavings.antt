-- The steps of all nodes in one order, as they happened in time, and the history that they are.
use Rattle.std.specs.Prelude.{◌≡◌, ℕ, ◌<◌, ◌==◌, true, if◌then◌else◌, List, [], ◌∷◌, ◌++◌, length, map, Some, slice_get}
use Rattle.vote_core.specs.Books.{blank_opening}
use Rattle.vote_core.specs.Safety.{MayOpen}
use Rattle.vote_core.specs.Schedule.{Envelope, is_member}
use Rattle.oath_node.specs.Hosted.{envelope_at}
use Rattle.oath_node.specs.Machine.{token_of}
use Rattle.oath_node.specs.Turns.{FromPeer}
use Rattle.book_law.specs.Lives.{Action, IsOfVote, Output, Process, Sealed, Setting, Terms, ToClient, ToPeer, Down, Up, made_boot, may_be_remade, named_envelope, state_of}
use Rattle.book_law.specs.Uses.{first_store}
use Rattle.order_law.specs.Steps.{AreSteps, Place, Closed, Gets, Gone, Open, Replies, Says, Sends, Hears, Step, Telling, actions_of, place_after}

-- ---- Interleavings

-- a step and its node
pub record Item : Type 0 where
  pub node : ℕ
  pub step : Step

-- the steps of a node among the items, in order
abbrev pub steps_at : ℕ → List Item → List Step
steps_at node [] = []
steps_at node (item ∷ items) =
    (if node == item.node then item.step ∷ [] else []) ++ steps_at node items

-- each of the items is of a member
abbrev pub AreOfMembers : Setting → List Item → Type 0
AreOfMembers setting [] = Unit {0}
AreOfMembers setting (item ∷ items) = (is_member setting.n item.node ≡ true) × AreOfMembers setting items

-- the node before its first step
abbrev pub first_place : Setting → ℕ → Place
first_place setting node = Closed (first_store setting node)

-- the actions of the items, in order
abbrev pub history_of : List Item → List Action
history_of [] = []
history_of (item ∷ items) = actions_of item.node item.step ++ history_of items

-- Each replacement of a store among the items is allowed by the rule of the votes, after the items before it.
abbrev pub AreReplaced : Setting → List Item → Type 0
AreReplaced setting items = (before later : List Item) (node boot : ℕ) (given : List ℕ) (floor : ℕ → ℕ)
    → items ≡ before ++ (record { node = node; step = Gets boot given floor }) ∷ later
    → may_be_remade setting (state_of setting (history_of before)) node boot given floor ≡ true

-- An interleaving: the items of each member are its steps in order, from its first store on. The order between the
-- members is free. A lost store is replaced if the rule of the votes allows it after the items before.
pub record IsInterleaving (setting : Setting) (items : List Item) : Type 0 where
  pub members : AreOfMembers setting items
  pub steps : (node : ℕ) → is_member setting.n node ≡ true
      → AreSteps setting node (first_place setting node) (steps_at node items)
  pub replaced : AreReplaced setting items

-- ---- What was said

-- an output in the words of a history: an envelope under its canonical token and a key, or a node's answer to a client
pub data Said : Type 0 where
  ToMemberSaid : (sealed : Sealed) → Said
  ToClientSaid : (node client : ℕ) (bytes : List ℕ) → Said

-- the output of a process of the node under the terms
abbrev pub said_of : Terms → ℕ → Telling → Said
said_of terms node (Sends envelope) =
    ToMemberSaid (record { key = terms.key; envelope = named_envelope terms.seats envelope })
said_of terms node (Replies client bytes) = ToClientSaid node client bytes

-- an output of a history, without the number of its action
abbrev pub said_by_output : Output → Said
said_by_output (ToPeer sealed) = ToMemberSaid sealed
said_by_output (ToClient answer) = ToClientSaid answer.node answer.client answer.bytes

-- what a node says in a step
abbrev pub said_by : ℕ → Place → Step → List Said
said_by node (Open live) (Says telling) = said_of live.terms node telling ∷ []
said_by node place step = []

-- the nodes with one of them changed
abbrev pub with_place : ℕ → Place → (ℕ → Place) → ℕ → Place
with_place changed place places node = if node == changed then place else places node

-- the nodes after an item
abbrev pub places_after : Setting → (ℕ → Place) → Item → ℕ → Place
places_after setting places item =
    with_place item.node (place_after setting item.node (places item.node) item.step) places

-- what the nodes say in the items, in order
abbrev pub said_in : Setting → (ℕ → Place) → List Item → List Said
said_in setting places [] = []
said_in setting places (item ∷ items) =
    said_by item.node (places item.node) item.step ++ said_in setting (places_after setting places item) items

-- what was said in former times
abbrev pub said_before : Setting → List Said
said_before setting = map (λ (sealed : Sealed). ToMemberSaid sealed) setting.old

-- ---- Causes

-- the envelope is among what was said
pub record WasSaid (said : List Said) (sealed : Sealed) : Type 0 where
  pub place : ℕ
  pub is_there : slice_get said place ≡ Some (ToMemberSaid sealed)

-- A process under the terms hears bytes from a member's address. If it reads an envelope of a vote in them, about one
-- of its numbers, some process said this envelope before, under the same key.
abbrev pub HearsSaid : Terms → List ℕ → List Said → ℕ → List ℕ → Type 0
HearsSaid terms port said from bytes = (envelope : Envelope) → envelope_at port bytes ≡ Some envelope
    → envelope.sender ≡ from → IsOfVote envelope.message → token_of envelope.message < length terms.seats
    → WasSaid said (record { key = terms.key; envelope = named_envelope terms.seats envelope })

-- a step has its cause in what was said before; only what is heard from a member needs one
abbrev pub IsCaused : Place → List Said → Step → Type 0
IsCaused (Open live) said (Hears (FromPeer from bytes)) = HearsSaid live.terms live.port said from bytes
IsCaused place said step = Unit {0}

-- each of the items has its cause before it
abbrev pub AreCaused : Setting → (ℕ → Place) → List Said → List Item → Type 0
AreCaused setting places said [] = Unit {0}
AreCaused setting places said (item ∷ items) =
    IsCaused (places item.node) said item.step
    × AreCaused setting (places_after setting places item)
    (said ++ said_by item.node (places item.node) item.step) items

-- An interleaving in which nobody forges a vote, and time goes forward: each vote that is heard was said before.
-- Envelopes of former times fit, and are of boots before those of the first stores.
pub record IsCausal (setting : Setting) (items : List Item) : Type 0 where
  pub is : IsInterleaving setting items
  pub starts : MayOpen setting.n setting.tokens
      (blank_opening (made_boot setting) (map (λ (sealed : Sealed). sealed.envelope) setting.old))
  pub caused : AreCaused setting (first_place setting) (said_before setting) items

-- ---- A node in a history

-- the process of a history is the node's
abbrev pub Stands : ℕ → Process → Place → Type 0
Stands node process (Closed store) = process ≡ Down store
Stands node process (Gone former) = process ≡ Down former
Stands node process (Open live) =
    (waiting : List Output) × (process ≡ Up live.terms live.found live.state waiting)
    × (map said_by_output waiting ≡ map (said_of live.terms node) live.waiting)
