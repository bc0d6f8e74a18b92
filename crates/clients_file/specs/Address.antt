-- The IPv4 address from which lines are taken plainly.
use Rattle.std.specs.Prelude.{ℕ, ◌==◌, Bool, List, slice_index, Option, Some, None, Result, Ok, Err, if◌then◌else◌}
use Rattle.std.specs.Int.{w32, from_be_bytes}
use Rattle.std.specs.Net.Reader.{read_ipv4, whole_value}
use Rattle.clients_file.specs.declared.fault.LineFault.{LineFault}
use Rattle.clients_file.specs.declared.fault.LineFault.TheVariants.{BadAddress, NotLoopback}

-- The octets of a whole text, or None. The text is four decimal numbers below 256 without leading zeros, divided by
-- dots.
abbrev pub octets_of : List ℕ → Option (List ℕ)
octets_of text = whole_value (read_ipv4 text)

-- whether an address is in 127.0.0.0/8
abbrev pub is_loopback : List ℕ → Bool
is_loopback octets = slice_index octets 0 == 127

-- the number of an address: its octets as a number of 32 bits, the first octet highest
abbrev pub number_of_octets : List ℕ → ℕ
number_of_octets octets = from_be_bytes w32 octets

-- the number of an address, if it was read and is in 127.0.0.0/8
abbrev pub loopback_of : Option (List ℕ) → Result ℕ LineFault
loopback_of None = Err BadAddress
loopback_of (Some octets) = if is_loopback octets then Ok (number_of_octets octets) else Err NotLoopback
