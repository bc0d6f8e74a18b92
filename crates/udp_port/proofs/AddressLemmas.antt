-- An address from its number.
use Rattle.std.proofs.Common.{◌≡◌, ℕ, ◌+◌, ◌*◌, ◌^◌, ◌<◌, ◌∙◌, ap, arith}
use Rattle.std.proofs.lemmas.Nat.{from_be_bytes-to_be_bytes_4}
use Rattle.std.specs.Int.{from_be_bytes, w32}
use Rattle.std.specs.Net.Addr.{IsIpv4OfBits, ipv4_bits}
use Rattle.std.specs.Net.Socket.{v4_ip, v4_port}
use Rattle.std.specs.declared.net.Ipv4Addr.{Ipv4Addr}
use Rattle.std.specs.declared.net.socket_addr.SocketAddrV4.{SocketAddrV4}
use Rattle.udp_port.specs.Address.{number_of}

bits_back : (ip : Ipv4Addr) (bits : ℕ) → IsIpv4OfBits ip bits → bits < 2 ^ 32 → ipv4_bits ip ≡ bits
unfolding ipv4_bits IsIpv4OfBits
bits_back ip bits is fits = ap (from_be_bytes w32) is ∙ from_be_bytes-to_be_bytes_4 bits fits

-- the address of these bits and this port has their number
pub number_back : (address : SocketAddrV4) (ip : Ipv4Addr) (bits port number : ℕ) → v4_ip address ≡ ip → v4_port address ≡ port
    → IsIpv4OfBits ip bits → bits < 2 ^ 32 → number ≡ bits * 65536 + port → number_of address ≡ number
number_back address ip bits port number ip_is port_is of fits is =
    let value : ipv4_bits (v4_ip address) ≡ bits = ap ipv4_bits ip_is ∙ bits_back ip bits of fits in
    omega (arith, value, port_is, is)
