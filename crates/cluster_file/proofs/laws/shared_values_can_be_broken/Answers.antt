-- Each part is computed. Of two MACs the first bytes differ.
use Rattle.std.proofs.Common.{◌≡◌, ℕ, zero, suc, ◌^◌, ◌<◌, ◌≤◌, false, true, List, [], ◌∷◌, ◌∙◌, codes, lit<, lit≤, refl, sym, ap, arith}
use Rattle.std.specs.Prelude.{slice_index, Contains}
use Rattle.std.specs.Fmt.{digits}
use Rattle.hex.specs.Hex.{IsBytes, encode_with}
use Rattle.hmac_core.specs.Unfolded.sha256_steps
use Rattle.token_file.specs.Examples.{event_token, time_token}
use Rattle.token_file.specs.Writing.{IsCredential}
use Rattle.token_file.specs.declared.token.Kind.TheVariants.{Time60}
use Rattle.cluster_file.specs.Address.{IsAddress}
use Rattle.vote_wire.specs.Key.{tag_of}
use Rattle.cluster_file.specs.Examples.{address_at, named_key}
use Rattle.cluster_file.specs.Rows.{row_mac}
use Rattle.cluster_file.specs.Shared.{untaken_row}
use Rattle.cluster_file.proofs.laws.shared_values_can_be_broken.Goals as goal

are_octets : (last : ℕ) → last < 2 ^ 8 → (k : ℕ) → slice_index (192 ∷ 0 ∷ 2 ∷ last ∷ []) k < 2 ^ 8
are_octets last small zero = lit< tt
are_octets last small (suc zero) = lit< tt
are_octets last small (suc (suc zero)) = lit< tt
are_octets last small (suc (suc (suc zero))) = small
are_octets last small (suc (suc (suc (suc k)))) = lit< tt

address_is : (last : ℕ) → last < 2 ^ 8 → IsAddress (address_at last)
address_is last small = record { four = refl; octets = are_octets last small; port = lit< tt }

is_byte : IsBytes (0x31 ∷ [])
is_byte zero = lit< tt
is_byte (suc i) = lit< tt

event_token_is : IsCredential (event_token (codes "a"))
event_token_is = record { parts = refl; secret = (lit≤ tt, lit≤ tt); bytes = is_byte }

time_token_is : IsCredential (time_token Time60)
time_token_is = record { parts = refl; secret = (lit≤ tt, lit≤ tt); bytes = is_byte }

pub returns-clause-address : goal.returns-clause-address
returns-clause-address c = address_is 255 (lit< tt)

pub returns-clause-no_octets : goal.returns-clause-no_octets
returns-clause-no_octets c = λ address. let e : 0 ≡ 4 = address.four in absurd (omega (arith, e))

pub returns-clause-octet_of_256 : goal.returns-clause-octet_of_256
returns-clause-octet_of_256 c = λ address. let below : 256 < 256 = address.octets 0 in absurd (omega (arith, below))

pub returns-clause-port_of_65536 : goal.returns-clause-port_of_65536
returns-clause-port_of_65536 c = λ last small address. let below : 65536 < 65536 = address.port in absurd (omega (arith, below))

pub returns-clause-shared : goal.returns-clause-shared
returns-clause-shared c = (
  record { names = tt; life = refl; members = tt; settings = (lit≤ tt, lit≤ tt, lit≤ tt, lit≤ tt); book = tt },
  record {
    names = tt;
    life = refl;
    members = (address_is 1 (lit< tt), (address_is 2 (lit< tt), (address_is 3 (lit< tt), tt)));
    settings = (lit≤ tt, lit≤ tt, lit≤ tt, lit≤ tt);
    book = (event_token_is, (time_token_is, tt));
  },
  record {
    names = (lit≤ tt, refl);
    life = refl;
    members = (address_is 1 (lit< tt), (address_is 2 (lit< tt), (address_is 3 (lit< tt), tt)));
    settings = (lit≤ tt, lit≤ tt, lit≤ tt, lit≤ tt);
    book = tt;
  },
)

pub returns-clause-salt_of_a_byte : goal.returns-clause-salt_of_a_byte
returns-clause-salt_of_a_byte c = λ shared. let long : 12 ≤ 1 = shared.names.0 in absurd (omega (arith, long))

pub returns-clause-life_of_two_words : goal.returns-clause-life_of_two_words
returns-clause-life_of_two_words c = λ shared. let e : false ≡ true = shared.life in absurd (cc e)

pub returns-clause-member_of_no_octets : goal.returns-clause-member_of_no_octets
returns-clause-member_of_no_octets c =
    λ shared. let e : 0 ≡ 4 = shared.members.0.four in absurd (omega (arith, e))

pub returns-clause-look_ahead_of_101 : goal.returns-clause-look_ahead_of_101
returns-clause-look_ahead_of_101 c = λ shared. absurd (omega (arith, shared.settings.0))

pub returns-clause-user_of_two_words : goal.returns-clause-user_of_two_words
returns-clause-user_of_two_words c = λ shared. let e : false ≡ true = shared.book.0.parts in absurd (cc e)

pub returns-clause-one_text : goal.returns-clause-one_text
returns-clause-one_text c = λ collision. collision.different refl

pub returns-clause-two_macs : goal.returns-clause-two_macs
unfolding sha256_steps.first_words sha256_steps.schedule sha256_steps.rounds sha256_steps.compress sha256_steps.hash_after sha256_steps.digest_bytes sha256_steps.sha256
returns-clause-two_macs c = λ collision.
    let e : 182 ≡ 102 = ap (λ (mac : List ℕ). slice_index mac 0) collision.same in
    absurd (omega (arith, e))

-- the one element of a list
only : {X : Type 0} (x y : X) → Contains (x ∷ []) y → x ≡ y
only x y (zero, within, is) = is
only x y (suc k, within, is) = absurd (omega (arith, within))

none_in : {X : Type 0} (x : X) → Contains [] x → ⊥
none_in x (k, within, is) = omega (arith, within)

pub returns-clause-one_row : goal.returns-clause-one_row
returns-clause-one_row c = λ collision.
    let token = event_token (codes "a") in
    collision.different (ap untaken_row (sym (only token collision.row collision.in_book) ∙ only token collision.other_row collision.in_other))

pub returns-clause-other_rows : goal.returns-clause-other_rows
unfolding digits encode_with tag_of sha256_steps.first_words sha256_steps.schedule sha256_steps.rounds sha256_steps.compress sha256_steps.hash_after sha256_steps.digest_bytes sha256_steps.sha256
returns-clause-other_rows c = λ collision.
    let first = only (event_token (codes "a")) collision.row collision.in_book in
    let second = only (time_token Time60) collision.other_row collision.in_other in
    let same : row_mac named_key (event_token (codes "a")) ≡ row_mac named_key (time_token Time60) =
    ap (row_mac named_key) first ∙ collision.same ∙ ap (row_mac named_key) (sym second) in
    let e : 0x54 ≡ 0x80 = ap (λ (mac : List ℕ). slice_index mac 0) same in
    absurd (omega (arith, e))

pub returns-clause-row_of_no_book : goal.returns-clause-row_of_no_book
returns-clause-row_of_no_book c = λ collision. none_in collision.row collision.in_book

pub returns-clause-row_of_no_other_book : goal.returns-clause-row_of_no_other_book
returns-clause-row_of_no_other_book c = λ collision. none_in collision.other_row collision.in_other

pub returns-clause-one_printed_text : goal.returns-clause-one_printed_text
returns-clause-one_printed_text c = λ collision. collision.different refl

pub returns-clause-two_prints : goal.returns-clause-two_prints
unfolding encode_with sha256_steps.first_words sha256_steps.schedule sha256_steps.rounds sha256_steps.compress sha256_steps.hash_after sha256_steps.digest_bytes sha256_steps.sha256
returns-clause-two_prints c = λ collision.
    let e : 98 ≡ 54 = ap (λ (print : List ℕ). slice_index print 0) collision.same in
    absurd (omega (arith, e))
