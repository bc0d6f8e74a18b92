-- The address of a member: an IPv4 address and a port, as a value and as a text.
use Rattle.std.specs.Prelude.{◌≡◌, ℕ, ◌^◌, ◌<◌, ◌==◌, ◌&&◌, Bool, List, ◌++◌, length, slice_index, codes, Option, option_map}
use Rattle.std.specs.Fmt.{decimal}
use Rattle.std.specs.List.{list_any}
use Rattle.std.specs.Str.{bytes_eq}
use Rattle.std.specs.Net.Addr.{ipv4_octets}
use Rattle.std.specs.Net.Reader.{read_socket_v4, whole_value}
use Rattle.std.specs.Net.Socket.{v4_ip, v4_port}
use Rattle.std.specs.Net.Text.{ipv4_text}
use Rattle.std.specs.declared.net.socket_addr.SocketAddrV4.{SocketAddrV4}

-- four octets, and a port
pub record Address : Type 0 where
  pub octets : List ℕ
  pub port : ℕ

-- the value of a socket address
abbrev pub address_value : SocketAddrV4 → Address
address_value address = record { octets = ipv4_octets (v4_ip address); port = v4_port address }

-- four octets of 8 bits, and a port of 16 bits
pub record IsAddress (address : Address) : Type 0 where
  pub four : length address.octets ≡ 4
  pub octets : (k : ℕ) → slice_index address.octets k < 2 ^ 8
  pub port : address.port < 2 ^ 16

-- the address of four octets and a port
abbrev pub address_with : List ℕ × ℕ → Address
address_with parts = record { octets = parts.0; port = parts.1 }

-- The address of a whole text, or None. The text is four decimal numbers below 256 without leading zeros, divided by
-- dots, a colon, and a decimal number below 65,536.
abbrev pub address_of : List ℕ → Option Address
address_of text = option_map address_with (whole_value (read_socket_v4 text))

-- the text of an address
unfoldable pub address_text : Address → List ℕ
address_text address = ipv4_text address.octets ++ codes ":" ++ decimal address.port

-- whether two addresses are equal
unfoldable pub is_same : Address → Address → Bool
is_same address other = bytes_eq other.octets address.octets && other.port == address.port

-- whether an address is in a list
abbrev pub is_among : Address → List Address → Bool
is_among address others = list_any (is_same address) others
