-- The senders of socket addresses, and the addresses of senders.
use Rattle.std.specs.Prelude.{◌≡◌, ◌≤◌, ◌<◌, ℕ, ◌+◌, ◌-◌, ◌*◌, ◌^◌, nat_eq, if◌then◌else◌, List, [], ◌∷◌, length, Some}
use Rattle.std.specs.List.{slice_get}
use Rattle.std.specs.declared.net.socket_addr.SocketAddrV4.{SocketAddrV4}
use Rattle.std.specs.Net.Addr.{ipv4_bits}
use Rattle.std.specs.Net.Socket.{v4_ip, v4_port}
use Rattle.datagram_port.specs.declared.port.Sender.{Sender}
use Rattle.datagram_port.specs.declared.port.Sender.TheVariants.{Client, Peer}

-- the number of the client at an address: the IPv4 address as a number of 32 bits, times 65,536, and the port
abbrev pub number_of : SocketAddrV4 → ℕ
number_of address = ipv4_bits (v4_ip address) * 65536 + v4_port address

-- the sender of a datagram from the address with a number; `member` is the number of the first member in the list
abbrev pub sender_from : ℕ → List SocketAddrV4 → ℕ → Sender
sender_from member [] number = Client number
sender_from member (address ∷ members) number =
    if nat_eq (number_of address) number then Peer member else sender_from (member + 1) members number

-- The sender of a datagram from an address: the first member with the address, or else the client with its number. The
-- first member of the list is member 1.
abbrev pub sender_of : List SocketAddrV4 → SocketAddrV4 → Sender
sender_of members address = sender_from 1 members (number_of address)

-- a datagram for a member or a client goes to the address
abbrev pub IsAddressOf : List SocketAddrV4 → Sender → SocketAddrV4 → Type 0
IsAddressOf members (Peer number) address = (1 ≤ number) × (slice_get members (number - 1) ≡ Some address)
IsAddressOf members (Client number) address = number_of address ≡ number

-- no address exists for the member or the client
abbrev pub HasNoAddress : List SocketAddrV4 → Sender → Type 0
HasNoAddress members (Peer number) = 1 ≤ number → length members < number
HasNoAddress members (Client number) = 2 ^ 48 ≤ number
