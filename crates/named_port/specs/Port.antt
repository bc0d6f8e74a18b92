-- The calls of a port that translates.
use Rattle.std.specs.Prelude.{◌≡◌, List, [], ◌∷◌, Option, Some, None}
use Rattle.datagram_port.specs.Port.{Grows, PortEvent}
use Rattle.named_port.specs.Translator.{TranslatorRecord, after_event, handed_in}

-- A receive: the port below received one event, the translator handed in what `handed_in` says, and is then the
-- translator of `after_event`.
pub record Receives (old_port new_port : Option (List PortEvent)) (old new : TranslatorRecord) (handed : PortEvent)
    : Type 0 where
  pub received : PortEvent
  pub port : Grows old_port new_port (received ∷ [])
  pub handed_is : handed ≡ handed_in old received
  pub translator_is : new ≡ after_event old received

-- a poll: nothing was queued and nothing changes, or it is as a receive
abbrev pub Polls : Option (List PortEvent) → Option (List PortEvent) → TranslatorRecord → TranslatorRecord
    → Option PortEvent → Type 0
Polls old_port new_port old new None = Grows old_port new_port [] × (new ≡ old)
Polls old_port new_port old new (Some handed) = Receives old_port new_port old new handed
