-- Addresses that are read, and that were written.
use Rattle.std.proofs.Common.{◌≡◌, ℕ, Bool, List, [], ◌∷◌, length, map, Option, Some, None, Result, Ok, Err, refl, sym, ap, ◌∙◌, subst, append-nil, ne_eqb, arith}
use Rattle.std.specs.Prelude.{option_map, ◌||◌}
use Rattle.std.specs.Result.{result_ok}
use Rattle.std.specs.List.{list_any}
use Rattle.std.specs.Net.Grammar.{IsSocketV4Text, Parses}
use Rattle.std.specs.Net.Reader.{Read, read_socket_v4, whole_value}
use Rattle.std.specs.declared.net.socket_addr.SocketAddrV4.{SocketAddrV4}
use Rattle.std.proofs.lemmas.Option.{none-some, same_Some}
use Rattle.std.proofs.NetLemmas.Options.{same_parts}
use Rattle.std.proofs.NetLemmas.Sockets.{read_socket_v4_complete, read_socket_v4_sound}
use Rattle.std.proofs.NetLemmas.Theorems.{parse-socket_v4_text}
use Rattle.cluster_file.specs.Address.{Address, IsAddress, address_of, address_text, address_value, address_with}

-- an item of a mapped list passes if the image of an item does
pub any_of_map : {A B : Type 0} (p : B → Bool) (f : A → B) (xs : List A) → list_any p (map f xs) ≡ list_any (λ x. p (f x)) xs
any_of_map p f [] = refl
any_of_map p f (x ∷ xs) = ap (λ b. p (f x) || b) (any_of_map p f xs)

-- the address of the code with these octets and this port
abbrev pub socket_of : Address → SocketAddrV4
socket_of address = record { ip = record { octets = address.octets }; port = address.port }

-- what a text reads as, whole or not
abbrev address_after : Read (List ℕ × ℕ) → Option Address
address_after read = option_map address_with (whole_value read)

pub left_over : (parts : List ℕ × ℕ) (x : ℕ) (rest : List ℕ) → None ≡ address_after (Some (parts, x ∷ rest))
left_over parts x rest = rw (ne_eqb (length (x ∷ rest)) 0 (omega arith)) refl

none_read : (text : List ℕ) → ((a : SocketAddrV4) → IsSocketV4Text text a → ⊥) → (read : Read (List ℕ × ℕ)) → read_socket_v4 text ≡ read
    → None ≡ address_after read
unfolding read_socket_v4
none_read text never None is = refl
none_read text never (Some (parts, [])) is =
    let found = read_socket_v4_sound text [] (socket_of (address_with parts)) is in
    absurd (never (socket_of (address_with parts)) (subst (λ t. IsSocketV4Text t (socket_of (address_with parts))) (sym (found.1 ∙ append-nil found.0)) found.2))
none_read text never (Some (parts, x ∷ rest)) is = left_over parts x rest

pub parsed : {E : Type 0} (text : List ℕ) (r : Result SocketAddrV4 E) → Parses IsSocketV4Text text r
    → option_map address_value (result_ok r) ≡ address_of text
parsed text (Ok a) spells = sym (ap address_after (read_socket_v4_complete text a spells))
parsed text (Err e) none = none_read text none (read_socket_v4 text) refl

-- ---- an address that was written

-- what a text reads as in code
record HasParse (text : List ℕ) : Type 0 where
  result : Result SocketAddrV4 ℕ
  parses : Parses IsSocketV4Text text result

parse_of : (text : List ℕ) (read : Read (List ℕ × ℕ)) → read_socket_v4 text ≡ read → HasParse text
unfolding read_socket_v4
parse_of text None is = record { result = Err 0; parses = λ other spells. none-some _ (sym is ∙ read_socket_v4_complete text other spells) }
parse_of text (Some (parts, [])) is =
    let found = read_socket_v4_sound text [] (socket_of (address_with parts)) is in
    record {
      result = Ok (socket_of (address_with parts));
      parses = subst (λ t. IsSocketV4Text t (socket_of (address_with parts))) (sym (found.1 ∙ append-nil found.0)) found.2;
    }
parse_of text (Some (parts, x ∷ rest)) is = record {
  result = Err 0;
  parses = λ other spells. let left = (same_parts _ _ _ _ (sym is ∙ read_socket_v4_complete text other spells)).1 in cc;
}

-- the text of an address says the address
pub address_again : (address : Address) → IsAddress address → address_of (address_text address) ≡ Some address
unfolding address_text
address_again address fits =
    let text = address_text address in
    let parse = parse_of text (read_socket_v4 text) refl in
    let same : parse.result ≡ Ok (socket_of address) = parse-socket_v4_text (socket_of address) parse.result ((fits.four, fits.octets), fits.port) parse.parses in
    sym (parsed text parse.result parse.parses) ∙ ap (λ r. option_map address_value (result_ok r)) same

-- an address is written in one way, and no other so
pub address_same : (a b : Address) → IsAddress a → IsAddress b → address_text a ≡ address_text b → a ≡ b
address_same a b h k e = same_Some _ _ (sym (address_again a h) ∙ ap address_of e ∙ address_again b k)

-- ---- the grammar of std

-- a text that is read as an address spells it
pub spelled : (text : List ℕ) (a : SocketAddrV4) → address_of text ≡ Some (address_value a) → IsSocketV4Text text a
unfolding read_socket_v4
spelled text a e = by (read_socket_v4 text) refl e
  where
    by : (read : Read (List ℕ × ℕ)) → read_socket_v4 text ≡ read → address_after read ≡ Some (address_value a) → IsSocketV4Text text a
    by None is e = absurd (none-some _ e)
    by (Some (parts, [])) is e =
        let found = read_socket_v4_sound text [] (socket_of (address_with parts)) is in
        let same : address_with parts ≡ address_value a = cc in
        subst (IsSocketV4Text text) (ap socket_of same) (subst (λ t. IsSocketV4Text t (socket_of (address_with parts))) (sym (found.1 ∙ append-nil found.0)) found.2)
    by (Some (parts, x ∷ rest)) is e = absurd (none-some _ (left_over parts x rest ∙ e))
