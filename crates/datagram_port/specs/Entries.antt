-- The records of a port and a clock in memory.
use Rattle.std.specs.Prelude.{ℕ, Bool, true, false, List, map, Option, Some, None}
use Rattle.datagram_port.specs.Port.{PortEvent, Received, Quiet, Faulted, Offered}
use Rattle.datagram_port.specs.declared.list_port.PortEntry.{PortEntry}
use Rattle.datagram_port.specs.declared.list_port.PortEntry.TheVariants.{Received as ReceivedEntry, Quiet as QuietEntry, Faulted as FaultedEntry, Offered as OfferedEntry}

-- the event of an entry
abbrev pub event_of_entry : PortEntry → PortEvent
event_of_entry (ReceivedEntry sender bytes) = Received sender bytes.items
event_of_entry QuietEntry = Quiet
event_of_entry FaultedEntry = Faulted
event_of_entry (OfferedEntry to bytes) = Offered to bytes.items

-- the events of the entries, if no entry was lost
abbrev pub events_kept : Bool → List PortEntry → Option (List PortEvent)
events_kept true entries = Some (map event_of_entry entries)
events_kept false entries = None

-- the moments that a clock told, if none was lost
abbrev pub moments_kept : Bool → List (Option ℕ) → Option (List (Option ℕ))
moments_kept true told = Some told
moments_kept false told = None
