-- Addresses that are read.
use Rattle.std.proofs.Common.{◌≡◌, ℕ, true, List, [], ◌∷◌, length, Option, Some, None, Result, Ok, Err, refl, sym, ap, ◌∙◌, subst, append-nil, ne_eqb, arith, lit≤}
use Rattle.std.specs.Prelude.{option_map}
use Rattle.std.specs.Result.{result_ok}
use Rattle.std.specs.Net.Addr.{ipv4_octets}
use Rattle.std.specs.Net.Grammar.{IsIpv4Text, Parses}
use Rattle.std.specs.Net.Reader.{Read, read_ipv4, whole_value}
use Rattle.std.specs.declared.net.ipv4_addr.Ipv4Addr.{Ipv4Addr}
use Rattle.std.proofs.NetLemmas.Ipv4.{read_ipv4_complete, read_ipv4_sound}
use Rattle.clients_file.specs.Address.{is_loopback, loopback_of, number_of_octets, octets_of}

pub left_over : (octets : List ℕ) (x : ℕ) (rest : List ℕ) → None ≡ whole_value (Some (octets, x ∷ rest))
left_over octets x rest = rw (ne_eqb (length (x ∷ rest)) 0 (omega arith)) refl

none_read : (text : List ℕ) → ((a : Ipv4Addr) → IsIpv4Text text a → ⊥) → (read : Read (List ℕ)) → read_ipv4 text ≡ read → None ≡ whole_value read
none_read text never None is = refl
none_read text never (Some (octets, [])) is =
    let found = read_ipv4_sound text octets [] is in
    let address : Ipv4Addr = record { octets = octets } in
    absurd (never address (subst (λ t. IsIpv4Text t address) (sym (found.1 ∙ append-nil found.0)) found.2))
none_read text never (Some (octets, x ∷ rest)) is = left_over octets x rest

whole_read : (text : List ℕ) (a : Ipv4Addr) → IsIpv4Text text a → read_ipv4 text ≡ Some (ipv4_octets a, [])
whole_read text a spells =
    subst (λ t. read_ipv4 t ≡ Some (ipv4_octets a, [])) (append-nil text) (read_ipv4_complete text (ipv4_octets a) [] spells (lit≤ tt))

pub parsed : {E : Type 0} (text : List ℕ) (r : Result Ipv4Addr E) → Parses IsIpv4Text text r → option_map ipv4_octets (result_ok r) ≡ octets_of text
parsed text (Ok a) spells = sym (ap whole_value (whole_read text a spells))
parsed text (Err e) none = none_read text none (read_ipv4 text) refl

pub is_taken : (octets : List ℕ) (found : Option (List ℕ)) → Some octets ≡ found → is_loopback octets ≡ true → Ok (number_of_octets octets) ≡ loopback_of found
is_taken octets found e is = rw (sym e, is) refl
