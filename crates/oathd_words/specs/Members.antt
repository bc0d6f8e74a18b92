-- The addresses of a cluster's members, as a text.
use Rattle.std.specs.Prelude.{◌≡◌, ◌≤◌, ◌==◌, ◌&&◌, ℕ, Bool, true, not, List, [], ◌∷◌, length}
use Rattle.std.specs.List.{list_any, slice_split}
use Rattle.std.specs.Net.Grammar.{IsSocketV4Text}
use Rattle.std.specs.declared.net.socket_addr.SocketAddrV4.{SocketAddrV4}
use Rattle.udp_port.specs.Address.{number_of}

-- the address of each text: four numbers with dots between, a colon and a port
abbrev pub SayAddresses : List (List ℕ) → List SocketAddrV4 → Type 0
SayAddresses [] [] = Unit {0}
SayAddresses [] (address ∷ addresses) = ⊥
SayAddresses (text ∷ texts) [] = ⊥
SayAddresses (text ∷ texts) (address ∷ addresses) = IsSocketV4Text text address × SayAddresses texts addresses

-- the parts of a text between its commas
abbrev pub parts_of : List ℕ → List (List ℕ)
parts_of text = slice_split (λ byte. byte == 44) text

-- whether an address is one of `others`, by host and port
abbrev pub is_among : SocketAddrV4 → List SocketAddrV4 → Bool
is_among address others = list_any (λ other. number_of other == number_of address) others

-- whether no address occurs twice
abbrev pub are_different : List SocketAddrV4 → Bool
are_different [] = true
are_different (address ∷ addresses) = not (is_among address addresses) && are_different addresses

-- A text has the members' addresses: 1 to 9 different ones, separated by commas.
pub record AreMembers (text : List ℕ) (members : List SocketAddrV4) : Type 0 where
  pub said : SayAddresses (parts_of text) members
  pub few : length members ≤ 9
  pub different : are_different members ≡ true
