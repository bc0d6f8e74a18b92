-- Node 1 hears node 2's Grant through its translator.
use Rattle.std.proofs.Common.{◌≡◌, ℕ, zero, suc, List, [], ◌∷◌, get_or, Some, refl, sym, ap, ◌∙◌, subst, arith}
use Rattle.std.specs.List.{slice_get}
use Rattle.std.proofs.lemmas.Option.{none-some, same_Some}
use Rattle.vote_wire.specs.Datagram.{datagram_bytes}
use Rattle.vote_wire.specs.Key.{bare}
use Rattle.book_law.specs.Examples.{first_key, second_key, silver_first}
use Rattle.book_law.specs.Lives.{Sealed, Terms}
use Rattle.name_law.specs.Datagrams.{IsReadable, IsTranslatorOf}
use Rattle.name_law.specs.Examples.{user_names}
use Rattle.name_law.proofs.Datagrams.{handed_is}
use Rattle.name_law.proofs.Examples.{are_user_names}
use Rattle.order_law.specs.Examples.{grant_of}
use Rattle.order_law.specs.Interleavings.{Said, ToClientSaid, ToMemberSaid, WasSaid}
use Rattle.order_law.specs.Steps.{Live}
use Rattle.order_law.proofs.Examples.{grant_spelled}
use Rattle.named_order_law.specs.Bytes.{HearsUnforged, WereSaid}
use Rattle.named_order_law.specs.Examples.{grant_bytes, grant_under, granted_under, translator_under}

pub is_of_1 : IsTranslatorOf user_names 1 silver_first (translator_under first_key)
is_of_1 = record { key = refl; names_are = refl; me = refl }

pub can_grant : IsReadable user_names silver_first 1 (grant_under first_key)
can_grant = record { are_names = are_user_names; seats = refl; key = refl; token = omega arith; spelled = grant_spelled; boot_below = omega arith }

pub hears_grant : (s : Live) (said : List Said) → s.port ≡ bare → s.terms ≡ silver_first → WasSaid said (grant_under first_key) → HearsUnforged user_names 1 s said 2 (datagram_bytes bare 2 1 (grant_of 0).message)
hears_grant s said port terms was = record {
  port_is = port;
  translator = translator_under first_key;
  is_of = subst (λ t. IsTranslatorOf user_names 1 t (translator_under first_key)) (sym terms) is_of_1;
  bytes = grant_bytes 1;
  handed_is = sym (handed_is user_names 1 silver_first (translator_under first_key) 1 2 (grant_under first_key) is_of_1 can_grant);
  unforged = λ envelope is vote. record { sealed = grant_under first_key; was = was; key_is = ap (λ (t : Terms). t.key) (sym terms); boot = 1; boot_below = omega arith; bytes_are = refl };
}

-- ---- what was said

abbrev key_said : Said → List ℕ
key_said (ToMemberSaid sealed) = sealed.key
key_said (ToClientSaid node client bytes) = []

-- the Grant alone was said, under its key
only_key : (key : List ℕ) (sealed : Sealed) (place : ℕ) → slice_get (granted_under key) place ≡ Some (ToMemberSaid sealed) → key ≡ sealed.key
only_key key sealed zero at = ap key_said (same_Some (ToMemberSaid (grant_under key)) (ToMemberSaid sealed) at)
only_key key sealed (suc place) at = absurd (none-some (ToMemberSaid sealed) at)

pub said_under : (key other bytes : List ℕ) → WereSaid user_names other (granted_under key) bytes → key ≡ other
said_under key other bytes were = only_key key were.sealed were.was.place were.was.is_there ∙ were.key_is

pub none_said : (key bytes : List ℕ) → WereSaid user_names key [] bytes → ⊥
none_said key bytes were = none-some (ToMemberSaid were.sealed) were.was.is_there

abbrev is_to_member : Said → ℕ
is_to_member (ToMemberSaid sealed) = 1
is_to_member (ToClientSaid node client bytes) = 0

pub client_said : (node client : ℕ) (key text bytes : List ℕ) → WereSaid user_names key (ToClientSaid node client text ∷ []) bytes → ⊥
client_said node client key text bytes were = there were.was.place were.was.is_there
  where
    there : (place : ℕ) → slice_get (ToClientSaid node client text ∷ []) place ≡ Some (ToMemberSaid were.sealed) → ⊥
    there zero at = let e : 0 ≡ 1 = ap is_to_member (same_Some (ToClientSaid node client text) (ToMemberSaid were.sealed) at) in omega (arith, e)
    there (suc place) at = none-some (ToMemberSaid were.sealed) at

pub other_keys : first_key ≡ second_key → ⊥
other_keys same = let e : 1 ≡ 2 = ap (λ l. get_or l 0 0) same in omega (arith, e)
