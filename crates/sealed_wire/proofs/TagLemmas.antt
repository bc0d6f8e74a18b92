-- A datagram, its body and its tag.
use Rattle.std.proofs.Common.{◌≡◌, ℕ, ◌-◌, ◌+◌, ◌≤◌, ◌<◌, Bool, true, false, cond, List, ◌++◌, length, take, drop, get_or, Option, Some, None, refl, sym, ap, subst, ◌∙◌, arith, length-append, inl, inr}
use Rattle.std.specs.Prelude.{◌↔◌}
use Rattle.std.specs.Option.{option_map}
use Rattle.std.specs.Str.{bytes_eq}
use Rattle.std.proofs.lemmas.Bool.{cases_lt, le-ltb}
use Rattle.std.proofs.lemmas.List.{get_or-drop, get_or-take, length-take, length-drop, take-append-drop, take-append-le, drop-append-le, take_all, drop_all}
use Rattle.std.proofs.lemmas.Slice.Eq.{bytes_eq-Decides}
use Rattle.hmac_core.specs.Hash.{mac_of}
use Rattle.hmac_core.specs.Hmac.{block_key, ipad, opad, xor_each}
use Rattle.hmac_core.specs.declared.hash.Hash.TheVariants.{Sha256}
use Rattle.sha2.proofs.Facts256.{length-sha256}
use Rattle.sha2.specs.Sha256.{sha256}
use Rattle.sealed_wire.specs.Body.{IsHead, body_bytes, head_at, text_of}
use Rattle.sealed_wire.specs.Bytes.{AreBytes, half_at}
use Rattle.sealed_wire.specs.Key.{tag_of}
use Rattle.sealed_wire.specs.Sealed.{IsSealedOf, IsTagged, body_of, client_of, sealed_at, sealed_bytes, tag_at}
use Rattle.sealed_wire.specs.declared.head.Head.{Head}
use Rattle.sealed_wire.proofs.BodyLemmas.{AreBytes-take, head_again, head_takes, spelled}

pub length-mac_of : (key bytes : List ℕ) → length (mac_of Sha256 key bytes) ≡ 32
length-mac_of key bytes =
    let block = block_key sha256 64 key in
    length-sha256 (xor_each opad block ++ sha256 (xor_each ipad block ++ bytes))

-- a tag has 32 bytes
pub length-tag_of : (key bytes : List ℕ) → length (tag_of key bytes) ≡ 32
unfolding tag_of
length-tag_of key bytes = length-mac_of key bytes

-- fewer bytes than a tag has are not tagged
pub short_is_untagged : (key bound bytes : List ℕ) → (32 ≤ length bytes → ⊥) → IsTagged key bound bytes → ⊥
short_is_untagged key bound bytes short tagged =
    short (omega (arith, ap length tagged, length-tag_of key (body_of bytes ++ bound), length-drop (length bytes - 32) bytes))

-- ---- a body followed by its tag

pub body_of-tagged : (body tag : List ℕ) → length tag ≡ 32 → body_of (body ++ tag) ≡ body
body_of-tagged body tag len =
    let front : length (body ++ tag) - 32 ≡ length body = omega (arith, length-append body tag, len) in
    rw front (take-append-le (length body) body tag (omega arith) ∙ take_all (length body) body (omega arith))

pub tag_at-tagged : (body tag : List ℕ) → length tag ≡ 32 → tag_at (body ++ tag) ≡ tag
tag_at-tagged body tag len =
    let front : length (body ++ tag) - 32 ≡ length body = omega (arith, length-append body tag, len) in
    rw front (drop-append-le (length body) body tag (omega arith) ∙ ap (λ (rest : List ℕ). rest ++ tag) (drop_all (length body) body (omega arith)))

-- ---- the reader

abbrev read : List ℕ → Option (Head × List ℕ)
read body = option_map (λ head. (head, text_of body)) (head_at body)

chosen : (test : Bool) (r : Option (Head × List ℕ)) (x : Head × List ℕ) → cond test r None ≡ Some x → (test ≡ true) × (r ≡ Some x)
chosen true r x e = (refl, e)
chosen false r x e = absurd cc

abbrev present : {A : Type 0} → A → Option A
present x = Some x

some_is : {A : Type 0} (x y : A) → present x ≡ present y → x ≡ y
some_is x y e = cc

read_parts : (text : List ℕ) (r : Option Head) (x : Head × List ℕ) → option_map (λ head. (head, text)) r ≡ Some x → (r ≡ Some x.0) × (text ≡ x.1)
read_parts text (Some head) x e =
    let is : (head, text) ≡ x = some_is _ x e in
    (ap (λ (y : Head × List ℕ). present y.0) is, ap (λ (y : Head × List ℕ). y.1) is)
read_parts text None x e = absurd cc

-- what was read has a right tag, a head and this text
pub record Opened (key bound bytes : List ℕ) (head : Head) (text : List ℕ) : Type 0 where
  pub tagged : IsTagged key bound bytes
  pub head_is : head_at (body_of bytes) ≡ Some head
  pub text_is : text_of (body_of bytes) ≡ text

pub takes : (key bound bytes : List ℕ) (head : Head) (text : List ℕ) → sealed_at key bound bytes ≡ Some (head, text) → Opened key bound bytes head text
unfolding sealed_at
takes key bound bytes head text e =
    let a = chosen (bytes_eq (tag_at bytes) (tag_of key (body_of bytes ++ bound))) (read (body_of bytes)) (head, text) e in
    let b = read_parts (text_of (body_of bytes)) (head_at (body_of bytes)) (head, text) a.1 in
    record {
      tagged = (bytes_eq-Decides (tag_at bytes) (tag_of key (body_of bytes ++ bound))).0 a.0;
      head_is = b.0;
      text_is = b.1;
    }

-- a datagram with a right tag is read as its body
pub tagged_is_read : (key bound bytes : List ℕ) → IsTagged key bound bytes → sealed_at key bound bytes ≡ read (body_of bytes)
unfolding sealed_at
tagged_is_read key bound bytes tagged =
    rw ((bytes_eq-Decides (tag_at bytes) (tag_of key (body_of bytes ++ bound))).1 tagged) refl

-- a body without a head is not read
pub headless_is_none : (key bound bytes body : List ℕ) → IsTagged key bound bytes → body ≡ body_of bytes → head_at body ≡ None → sealed_at key bound bytes ≡ None
headless_is_none key bound bytes body tagged is none = tagged_is_read key bound bytes tagged ∙ ap read (sym is) ∙ rw none refl

-- a body with a head is read as the head and the text
pub read_of : (key bound bytes body : List ℕ) (head : Head) → IsTagged key bound bytes → body ≡ body_of bytes → head_at body ≡ Some head
    → sealed_at key bound bytes ≡ Some (head, text_of body)
read_of key bound bytes body head tagged is some = tagged_is_read key bound bytes tagged ∙ ap read (sym is) ∙ rw some refl

-- one with a wrong tag is not read
pub untagged_is_none : (key bound bytes : List ℕ) → (IsTagged key bound bytes → ⊥) → sealed_at key bound bytes ≡ None
unfolding sealed_at
untagged_is_none key bound bytes wrong = none (bytes_eq (tag_at bytes) (tag_of key (body_of bytes ++ bound))) refl
  where
    none : (test : Bool) → bytes_eq (tag_at bytes) (tag_of key (body_of bytes ++ bound)) ≡ test → cond test (read (body_of bytes)) None ≡ None
    none false e = refl
    none true e = absurd (wrong ((bytes_eq-Decides (tag_at bytes) (tag_of key (body_of bytes ++ bound))).0 e))

-- one that is too long is not read
long_has_no_head : (body : List ℕ) (r : Option Head) → head_at body ≡ r → 271 < length body → r ≡ None
long_has_no_head body None e long = refl
long_has_no_head body (Some head) e long = let h = head_takes body head e in absurd (omega (arith, h.most))

pub long_is_none : (key bound bytes : List ℕ) → 303 < length bytes → sealed_at key bound bytes ≡ None
unfolding sealed_at
long_is_none key bound bytes long = none (bytes_eq (tag_at bytes) (tag_of key (body_of bytes ++ bound)))
  where
    headless : head_at (body_of bytes) ≡ None
    headless = long_has_no_head (body_of bytes) (head_at (body_of bytes)) refl (omega (arith, length-take (length bytes - 32) bytes))

    none : (test : Bool) → cond test (read (body_of bytes)) None ≡ None
    none false = refl
    none true = rw headless refl

-- neither is what is too long or has a wrong tag
pub unopened_is_none : (key bound bytes : List ℕ) → (length bytes ≤ 303 → IsTagged key bound bytes → ⊥) → sealed_at key bound bytes ≡ None
unopened_is_none key bound bytes wrong =
    elim (cases_lt 303 (length bytes)) [
      | inl long ↦ long_is_none key bound bytes long
      | inr short ↦ untagged_is_none key bound bytes (wrong short)
    ]

-- ---- the laws

-- what is written is read
pub again : (key bound text : List ℕ) (head : Head) → IsHead head → length text ≤ 256 → sealed_at key bound (sealed_bytes key bound head text) ≡ Some (head, text)
unfolding sealed_bytes
again key bound text head h le =
    let body = body_bytes head text in
    let tag = tag_of key (body ++ bound) in
    let front = body_of-tagged body tag (length-tag_of key (body ++ bound)) in
    let tagged : IsTagged key bound (body ++ tag) =
    tag_at-tagged body tag (length-tag_of key (body ++ bound)) ∙ ap (λ (b : List ℕ). tag_of key (b ++ bound)) (sym front) in
    tagged_is_read key bound (body ++ tag) tagged ∙ ap read front ∙ rw (head_again head text h le) refl

-- what is read is written so
pub spelled_so : (key bound bytes text : List ℕ) (head : Head) → AreBytes bytes → sealed_at key bound bytes ≡ Some (head, text) → bytes ≡ sealed_bytes key bound head text
unfolding sealed_bytes
spelled_so key bound bytes text head fits e =
    let o = takes key bound bytes head text e in
    let body : body_of bytes ≡ body_bytes head text =
    spelled (body_of bytes) head (AreBytes-take (length bytes - 32) bytes fits) o.head_is ∙ ap (body_bytes head) o.text_is in
    sym (take-append-drop (length bytes - 32) bytes)
    ∙ ap (λ (tag : List ℕ). body_of bytes ++ tag) o.tagged
    ∙ ap (λ (b : List ℕ). b ++ tag_of key (b ++ bound)) body

text_is_short : (key bound bytes text : List ℕ) (head : Head) → sealed_at key bound bytes ≡ Some (head, text) → length text ≤ 256
text_is_short key bound bytes text head e =
    let o = takes key bound bytes head text e in
    let h = head_takes (body_of bytes) head o.head_is in
    omega (arith, h.least, h.most, ap length o.text_is, length-drop 15 (body_of bytes))

pub reading_law : (key bound bytes text : List ℕ) (head : Head) → AreBytes bytes → IsHead head
    → IsSealedOf key bound head text bytes ↔ (sealed_at key bound bytes ≡ Some (head, text))
reading_law key bound bytes text head fits h = (
  λ s. subst (λ (b : List ℕ). sealed_at key bound b ≡ Some (head, text)) (sym s.1) (again key bound text head h s.0),
  λ e. (text_is_short key bound bytes text head e, spelled_so key bound bytes text head fits e),
)

same_byte : (k : ℕ) (bytes : List ℕ) (i : ℕ) → 4 + i < k → get_or (drop 4 (take k bytes)) i 0 ≡ get_or (drop 4 bytes) i 0
same_byte k bytes i le = rw (get_or-drop, get_or-drop) (get_or-take k bytes (4 + i) 0 le)

same_field : (k : ℕ) (bytes : List ℕ) → 6 ≤ k → half_at (take k bytes) 4 ≡ half_at bytes 4
same_field k bytes le = rw (same_byte k bytes 0 (omega arith), same_byte k bytes 1 (omega arith)) refl

pub client_law : (key bound bytes text : List ℕ) (head : Head) → sealed_at key bound bytes ≡ Some (head, text) → client_of bytes ≡ Some head.client
client_law key bound bytes text head e =
    let o = takes key bound bytes head text e in
    let h = head_takes (body_of bytes) head o.head_is in
    let long : 47 ≤ length bytes = omega (arith, h.least, length-take (length bytes - 32) bytes) in
    rw (le-ltb (length bytes) 47 long) (ap (λ (n : ℕ). present n) (sym (same_field (length bytes - 32) bytes (omega arith)) ∙ h.client))
