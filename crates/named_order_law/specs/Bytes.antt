-- Interleavings of nodes that speak by names: no datagram of a vote is forged, byte for byte, and time goes forward.
use Rattle.std.specs.Prelude.{◌≡◌, ℕ, ◌^◌, ◌<◌, ◌≤◌, List, [], ◌∷◌, ◌++◌, length, map, Some}
use Rattle.vote_core.specs.Books.{blank_opening}
use Rattle.vote_core.specs.Safety.{MayOpen}
use Rattle.vote_core.specs.Schedule.{Envelope}
use Rattle.vote_wire.specs.Key.{bare}
use Rattle.named_port.specs.Translator.{TranslatorRecord}
use Rattle.oath_node.specs.Hosted.{envelope_at}
use Rattle.oath_node.specs.Turns.{FromPeer}
use Rattle.book_law.specs.Lives.{Action, Enrols, IsOfVote, Raises, Sealed, Setting, made_boot}
use Rattle.name_law.specs.Datagrams.{IsTranslatorOf, handed_bytes, named_datagram}
use Rattle.order_law.specs.Interleavings.{IsInterleaving, Item, Said, WasSaid, first_place, places_after, said_before, said_by}
use Rattle.order_law.specs.Steps.{Does, Gets, Hears, Open, Place, Live, Starts, Step}

-- the bytes are the datagram of an envelope that was said before under the key
pub record WereSaid (names : List (List ℕ)) (key : List ℕ) (said : List Said) (bytes : List ℕ) : Type 0 where
  pub sealed : Sealed
  pub was : WasSaid said sealed
  pub key_is : sealed.key ≡ key
  pub boot : ℕ
  pub boot_below : boot < 2 ^ 64
  pub bytes_are : bytes ≡ named_datagram names boot sealed

-- A process hears what its translator handed in for bytes from a member's address. If it reads an envelope of a vote in
-- them, the bytes were said before under its key. Nobody need have said bytes that only tell a floor.
pub record HearsUnforged (names : List (List ℕ)) (node : ℕ) (live : Live) (said : List Said) (from : ℕ)
    (handed : List ℕ) : Type 0 where
  pub port_is : live.port ≡ bare
  pub translator : TranslatorRecord
  pub is_of : IsTranslatorOf names node live.terms translator
  pub bytes : List ℕ
  pub handed_is : handed ≡ handed_bytes translator from bytes
  pub unforged : (envelope : Envelope) → envelope_at bare handed ≡ Some envelope → IsOfVote envelope.message
      → WereSaid names live.terms.key said bytes

-- a step of a node is unforged: what it hears from a member is
abbrev pub IsUnforgedStep : List (List ℕ) → ℕ → Place → List Said → Step → Type 0
IsUnforgedStep names node (Open live) said (Hears (FromPeer from bytes)) =
    HearsUnforged names node live said from bytes
IsUnforgedStep names node place said step = Unit {0}

-- the floor (first free factor) that a command writes is in range
abbrev pub IsWriteInRange : Action → Type 0
IsWriteInRange (Enrols node token floor) = floor ≤ 2 ^ 62
IsWriteInRange (Raises node token floor) = floor ≤ 2 ^ 62
IsWriteInRange action = Unit {0}

-- a book has at most 10,000 tokens, and the floors of new rows and of commands are in range
abbrev pub IsInRange : Step → Type 0
IsInRange (Starts terms port) = length terms.config.book ≤ 10000
IsInRange (Does action) = IsWriteInRange action
IsInRange (Gets boot given floor) = (token : ℕ) → floor token ≤ 2 ^ 62
IsInRange step = Unit {0}

-- each of the items is unforged and in range
abbrev pub AreUnforgedItems : List (List ℕ) → Setting → (ℕ → Place) → List Said → List Item → Type 0
AreUnforgedItems names setting places said [] = Unit {0}
AreUnforgedItems names setting places said (item ∷ items) =
    IsUnforgedStep names item.node (places item.node) said item.step × IsInRange item.step
    × AreUnforgedItems names setting (places_after setting places item)
    (said ++ said_by item.node (places item.node) item.step) items

-- An interleaving in which no datagram of a vote is forged, byte for byte: each that is heard was said before.
pub record IsUnforgedInterleaving (names : List (List ℕ)) (setting : Setting) (items : List Item) : Type 0 where
  pub is : IsInterleaving setting items
  pub starts : MayOpen setting.n setting.tokens
      (blank_opening (made_boot setting) (map (λ (sealed : Sealed). sealed.envelope) setting.old))
  pub unforged : AreUnforgedItems names setting (first_place setting) (said_before setting) items
