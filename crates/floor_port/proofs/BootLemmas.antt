-- The boots of members: what a datagram tells of them, and what its first bytes tell.
use Rattle.std.proofs.Common.{◌≡◌, ◌∙◌, ℕ, ◌+◌, ◌-◌, ◌*◌, ◌/◌, ◌%◌, ◌<◌, ◌≤◌, Bool, true, false, cond, eqb, leb, ltb, List, [], ◌∷◌, ◌++◌, length, take, drop, Option, Some, None, refl, sym, ap, subst, arith, inl, inr, length-append}
use Rattle.std.specs.Prelude.{◌⊎◌, ◌&&◌, slice_index, slice_index_or, slice_set}
use Rattle.std.specs.Int.{w64, to_be_bytes, from_be_bytes}
use Rattle.std.proofs.lemmas.Bool.{and_parts, cases_lt, eqb-true, le-ltb, ltb-true, ltb-false}
use Rattle.std.proofs.lemmas.List.{get_or-drop, get_or-set_same, get_or-take, length-set, length-take, take-append-le, take_all}
use native.Mathlib.Nat.{div-div-eq-div-mul}
use Rattle.named_port.specs.Runs.{boot_of}
use Rattle.named_port.specs.Translator.{between}
use Rattle.named_wire.specs.Bytes.{number_at}
use Rattle.named_wire.specs.Datagram.{datagram_at, datagram_bytes, front_of}
use Rattle.named_wire.specs.Head.{front_bytes, head_at}
use Rattle.named_wire.specs.declared.head.Head.{Head}
use Rattle.named_wire.proofs.HeadLemmas.{HeadAt, head_takes}
use Rattle.named_wire.proofs.TagLemmas.{takes}
use Rattle.vote_wire.specs.Key.{tag_of}
use Rattle.vote_wire.proofs.TagLemmas.{length-tag_of}
use Rattle.floor_port.specs.Claims.{is_fallen}
use Rattle.floor_port.specs.Packer.{PackerRecord, hearing, sent_by, with_boot}
use Rattle.floor_port.proofs.ClaimLemmas.{at_set}

abbrev present : {A : Type 0} → A → Option A
present x = Some x

some_is : {A : Type 0} (x y : A) → present x ≡ present y → x ≡ y
some_is x y e = cc

-- ---- what a member sent

-- the head and the body of a datagram from the member to the node
pub record IsRead (key : List ℕ) (member me : ℕ) (bytes : List ℕ) (read : Head × List ℕ) : Type 0 where
  pub reads : datagram_at key bytes ≡ Some read
  pub from_is : read.0.from ≡ member

pub read_parts : (key : List ℕ) (member me : ℕ) (bytes : List ℕ) (read : Head × List ℕ) → between member me (datagram_at key bytes) ≡ Some read → IsRead key member me bytes read
read_parts key member me bytes read e = by_read (datagram_at key bytes) refl e
  where
    go : (one : Head × List ℕ) → datagram_at key bytes ≡ Some one → (b : Bool) → (eqb one.0.from member && eqb one.0.to me) ≡ b
        → cond b (Some one) None ≡ Some read → IsRead key member me bytes read
    go one at false is found = absurd cc
    go one at true is found =
        let parts = and_parts (eqb one.0.from member) (eqb one.0.to me) is in
        let same : one ≡ read = some_is one read found in
        subst (IsRead key member me bytes) same (record { reads = at; from_is = eqb-true one.0.from member parts.0 })

    by_read : (o : Option (Head × List ℕ)) → datagram_at key bytes ≡ o → between member me o ≡ Some read → IsRead key member me bytes read
    by_read None at found = absurd cc
    by_read (Some one) at found = go one at (eqb one.0.from member && eqb one.0.to me) refl found

-- ---- the first bytes of a datagram

-- the boot stands before the tag
boot_before : (bytes : List ℕ) (few : ℕ) → 14 ≤ few → number_at (take few bytes) 6 ≡ number_at bytes 6
boot_before bytes few least =
    λ i. from_be_bytes w64 (at 0 (omega arith) i ∷ at 1 (omega arith) i ∷ at 2 (omega arith) i ∷ at 3 (omega arith) i ∷ at 4 (omega arith) i ∷ at 5 (omega arith) i ∷ at 6 (omega arith) i ∷ at 7 (omega arith) i ∷ [])
  where
    at : (place : ℕ) → place < 8 → slice_index_or (drop 6 (take few bytes)) place 0 ≡ slice_index_or (drop 6 bytes) place 0
    at place low =
        get_or-drop 6 (take few bytes) place 0 ∙ get_or-take few bytes (6 + place) 0 (omega (arith, least, low)) ∙ sym (get_or-drop 6 bytes place 0)

-- a datagram that was read has the boot that its bytes have at the place of a boot
pub boot_there : (key bytes : List ℕ) (read : Head × List ℕ) → datagram_at key bytes ≡ Some read → (14 ≤ length bytes) × (read.0.boot ≡ number_at bytes 6)
boot_there key bytes read e =
    let o = takes key bytes read.0 read.1 e in
    let h = head_takes (front_of bytes) read.0 o.head_is in
    let least = h.least in
    let len = length-take (length bytes - 16) bytes in
    (omega (arith, least, len), sym h.boot ∙ boot_before bytes (length bytes - 16) (omega (arith, least, len)))

-- no member sent a greater boot than the one at this place
pub boot_most : (p : PackerRecord) (member : ℕ) (bytes : List ℕ) (boot : ℕ) → (14 ≤ length bytes → boot ≡ number_at bytes 6) → boot_of (sent_by p member bytes) ≤ boot
boot_most p member bytes boot is = go (sent_by p member bytes) refl
  where
    go : (o : Option (Head × List ℕ)) → sent_by p member bytes ≡ o → boot_of o ≤ boot
    go None e = omega arith
    go (Some read) e =
        let there = boot_there p.key bytes read (read_parts p.key member p.me bytes read e).reads in
        let same = is there.0 in
        let boot_is = there.1 in
        omega (arith, same, boot_is)

-- ---- the greatest boots

-- a boot that is not greater changes nothing
boot_stays : (heard : List ℕ) (member boot : ℕ) → boot ≤ slice_index heard member → with_boot heard member boot ≡ heard
boot_stays heard member boot most = ap (λ (b : Bool). cond b (slice_set heard member boot) heard) (le-ltb (slice_index heard member) boot most)

-- neither does a datagram whose first bytes tell none
pub nothing_heard : (p : PackerRecord) (member : ℕ) (bytes : List ℕ) (boot : ℕ) → (14 ≤ length bytes → boot ≡ number_at bytes 6) → boot ≤ slice_index p.heard member → p ≡ hearing p member bytes
nothing_heard p member bytes boot is most =
    let less = boot_most p member bytes boot is in
    sym (ap (λ (heard : List ℕ). record p { heard = heard }) (go (is_fallen p.claims member) (omega (arith, less, most))))
  where
    go : (fallen : Bool) → boot_of (sent_by p member bytes) ≤ slice_index p.heard member
        → cond fallen p.heard (with_boot p.heard member (boot_of (sent_by p member bytes))) ≡ p.heard
    go true least = refl
    go false least = boot_stays p.heard member (boot_of (sent_by p member bytes)) least

-- bytes that the member didn't send change nothing
pub unsent_heard : (p : PackerRecord) (member : ℕ) (bytes : List ℕ) → sent_by p member bytes ≡ None → p ≡ hearing p member bytes
unsent_heard p member bytes none = sym (ap (λ (heard : List ℕ). record p { heard = heard }) (go (is_fallen p.claims member)))
  where
    go : (fallen : Bool) → cond fallen p.heard (with_boot p.heard member (boot_of (sent_by p member bytes))) ≡ p.heard
    go true = refl
    go false = ap (λ (o : Option (Head × List ℕ)). with_boot p.heard member (boot_of o)) none ∙ boot_stays p.heard member 0 (omega arith)

-- a datagram of a member that hasn't fallen is heard
pub sent_heard : (p : PackerRecord) (member : ℕ) (bytes : List ℕ) (read : Head × List ℕ) → is_fallen p.claims member ≡ false → sent_by p member bytes ≡ Some read
    → record p { heard = with_boot p.heard member read.0.boot } ≡ hearing p member bytes
sent_heard p member bytes read is some =
    ap (λ (o : Option (Head × List ℕ)). record p { heard = with_boot p.heard member (boot_of o) }) (sym some)
    ∙ ap (λ (b : Bool). record p { heard = cond b p.heard (with_boot p.heard member (boot_of (sent_by p member bytes))) }) (sym is)

-- a member that fell isn't heard
pub fallen_unheard : (p : PackerRecord) (member : ℕ) (bytes : List ℕ) → is_fallen p.claims member ≡ true → hearing p member bytes ≡ p
fallen_unheard p member bytes is = ap (λ (b : Bool). record p { heard = cond b p.heard (with_boot p.heard member (boot_of (sent_by p member bytes))) }) is

-- boots rise
pub boots_rise : (heard : List ℕ) (member boot m : ℕ) → slice_index heard m ≤ slice_index (with_boot heard member boot) m
boots_rise heard member boot m = go (ltb (slice_index heard member) boot) refl
  where
    go : (news : Bool) → ltb (slice_index heard member) boot ≡ news → slice_index heard m ≤ slice_index (cond news (slice_set heard member boot) heard) m
    go false is = omega arith
    go true is = elim (at_set heard member m boot 0) [
      | inl same ↦ omega (arith, same)
      | inr hit ↦
          let less = ltb-true (slice_index heard member) boot is in
          let there : slice_index heard member ≡ slice_index heard m = ap (slice_index heard) hit.0 in
          let new = hit.1 in
          omega (arith, less, there, new)
    ]

-- the boot that a member was heard in is reached
pub boot_reached : (heard : List ℕ) (member boot : ℕ) → member < length heard → boot ≤ slice_index (with_boot heard member boot) member
boot_reached heard member boot within = go (ltb (slice_index heard member) boot) refl
  where
    go : (news : Bool) → ltb (slice_index heard member) boot ≡ news → boot ≤ slice_index (cond news (slice_set heard member boot) heard) member
    go false is = ltb-false (slice_index heard member) boot is
    go true is = let same = get_or-set_same heard member boot 0 within in omega (arith, same)

pub boots_len : (heard : List ℕ) (member boot : ℕ) → length (with_boot heard member boot) ≡ length heard
boots_len heard member boot = go (ltb (slice_index heard member) boot)
  where
    go : (news : Bool) → length (cond news (slice_set heard member boot) heard) ≡ length heard
    go false = refl
    go true = length-set heard member boot

-- ---- a datagram that was written

byte_and_rest : (n p : ℕ) → n / p ≡ n / p % 256 + n / (p * 256) * 256
byte_and_rest n p = omega (arith, div-div-eq-div-mul n p 256)

most_8 : (a b c d e f g h n p q r s t u v w : ℕ) → n ≡ a + p * 256 → p ≡ b + q * 256 → q ≡ c + r * 256 → r ≡ d + s * 256
    → s ≡ e + t * 256 → t ≡ f + u * 256 → u ≡ g + v * 256 → v ≡ h + w * 256
    → h * 72057594037927936 + g * 281474976710656 + f * 1099511627776 + e * 4294967296 + d * 16777216 + c * 65536 + b * 256 + a ≤ n
most_8 a b c d e f g h n p q r s t u v w at_0 at_1 at_2 at_3 at_4 at_5 at_6 at_7 = omega arith

-- eight bytes of a number tell no greater one
number_most : (n : ℕ) → from_be_bytes w64 (to_be_bytes w64 n) ≤ n
number_most n =
    let low : n ≡ n % 256 + n / 256 * 256 = omega arith in
    most_8 _ _ _ _ _ _ _ _ n _ _ _ _ _ _ _ _ low (byte_and_rest n 256) (byte_and_rest n 65536) (byte_and_rest n 16777216) (byte_and_rest n 4294967296) (byte_and_rest n 1099511627776) (byte_and_rest n 281474976710656) (byte_and_rest n 72057594037927936)

front_again : (front tag : List ℕ) → length tag ≡ 16 → front_of (front ++ tag) ≡ front
front_again front tag len =
    let most : length (front ++ tag) - 16 ≡ length front = omega (arith, length-append front tag, len) in
    rw most (take-append-le (length front) front tag (omega arith) ∙ take_all (length front) front (omega arith))

-- the datagram of a head is read in no greater boot
pub written_boot : (key body : List ℕ) (head : Head) (read : Head × List ℕ) → datagram_at key (datagram_bytes key head body) ≡ Some read → read.0.boot ≤ head.boot
unfolding datagram_bytes
written_boot key body head read e =
    let front = front_bytes head body in
    let o = takes key (datagram_bytes key head body) read.0 read.1 e in
    let same : front_of (front ++ tag_of key front) ≡ front = front_again front (tag_of key front) (length-tag_of key front) in
    let h = head_takes front read.0 (ap head_at (sym same) ∙ o.head_is) in
    let boot : number_at front 6 ≡ read.0.boot = h.boot in
    let most : number_at front 6 ≤ head.boot = number_most head.boot in
    omega (arith, boot, most)

-- nothing is read of no bytes
pub nothing_read : (key : List ℕ) (read : Head × List ℕ) → datagram_at key [] ≡ Some read → ⊥
nothing_read key read e = let long = (boot_there key [] read e).0 in omega (arith, long)
