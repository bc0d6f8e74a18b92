-- A datagram, its body and its tag.
use Rattle.std.proofs.Common.{◌≡◌, ℕ, ◌-◌, ◌≤◌, Bool, true, false, cond, List, [], ◌∷◌, ◌++◌, length, Option, Some, None, refl, sym, ap, subst, ◌∙◌, arith, length-append}
use Rattle.std.specs.Prelude.{◌↔◌, IfNone, IfSome}
use Rattle.std.specs.Str.{bytes_eq}
use Rattle.std.proofs.lemmas.List.{length-take-le, length-drop, take-append-drop, take-append-le, drop-append-le, take_all, drop_all}
use Rattle.std.proofs.lemmas.Slice.Eq.{bytes_eq-Decides}
use Rattle.hmac_core.specs.Hash.{mac_of}
use Rattle.hmac_core.specs.Hmac.{block_key, ipad, opad, xor_each}
use Rattle.hmac_core.specs.declared.hash.Hash.TheVariants.{Sha256}
use Rattle.sha2.proofs.Facts256.{length-sha256}
use Rattle.sha2.specs.Sha256.{sha256}
use Rattle.vote_core.specs.declared.message.Message.{Message}
use Rattle.vote_wire.specs.Body.{HasSpelling, SaysMessage, body_at, body_bytes}
use Rattle.vote_wire.specs.Bytes.{AreBytes}
use Rattle.vote_wire.specs.Datagram.{IsDatagramOf, IsTagged, body_of, datagram_at, datagram_bytes, tag_at}
use Rattle.vote_wire.specs.Key.{tag_of}
use Rattle.vote_wire.proofs.FormatLemmas.{body_again, body_takes}
use Rattle.vote_wire.proofs.SpellingLemmas.{IsBytes-take, says_again, spelled}

length-mac_of : (key bytes : List ℕ) → length (mac_of Sha256 key bytes) ≡ 32
length-mac_of key bytes =
    let block = block_key sha256 64 key in
    length-sha256 (xor_each opad block ++ sha256 (xor_each ipad block ++ bytes))

-- a tag has 16 bytes
pub length-tag_of : (key bytes : List ℕ) → length (tag_of key bytes) ≡ 16
unfolding tag_of
length-tag_of [] bytes = refl
length-tag_of (byte ∷ key) bytes =
    length-take-le 16 (mac_of Sha256 (byte ∷ key) bytes) (omega (arith, length-mac_of (byte ∷ key) bytes))

-- fewer bytes than a tag has are not tagged
pub short_is_untagged : (key bytes : List ℕ) → (16 ≤ length bytes → ⊥) → IsTagged key bytes → ⊥
short_is_untagged key bytes short tagged =
    short (omega (arith, ap length tagged, length-tag_of key (body_of bytes), length-drop (length bytes - 16) bytes))

-- ---- a body followed by its tag

body_of-tagged : (body tag : List ℕ) → length tag ≡ 16 → body_of (body ++ tag) ≡ body
body_of-tagged body tag len =
    let front : length (body ++ tag) - 16 ≡ length body = omega (arith, length-append body tag, len) in
    rw front (take-append-le (length body) body tag (omega arith) ∙ take_all (length body) body (omega arith))

tag_at-tagged : (body tag : List ℕ) → length tag ≡ 16 → tag_at (body ++ tag) ≡ tag
tag_at-tagged body tag len =
    let front : length (body ++ tag) - 16 ≡ length body = omega (arith, length-append body tag, len) in
    rw front (drop-append-le (length body) body tag (omega arith) ∙ ap (λ (rest : List ℕ). rest ++ tag) (drop_all (length body) body (omega arith)))

-- ---- the reader, and the format

chosen : (test : Bool) (read : Option (ℕ × ℕ × Message)) (x : ℕ × ℕ × Message) → cond test read None ≡ Some x → (test ≡ true) × (read ≡ Some x)
chosen true read x e = (refl, e)
chosen false read x e = absurd cc

-- what is read is in the format
pub datagram_takes : (key bytes : List ℕ) (x : ℕ × ℕ × Message) → datagram_at key bytes ≡ Some x → IsDatagramOf key bytes x.0 x.1 x.2
unfolding datagram_at
datagram_takes key bytes x e =
    let parts = chosen (bytes_eq (tag_at bytes) (tag_of key (body_of bytes))) (body_at (body_of bytes)) x e in
    ((bytes_eq-Decides (tag_at bytes) (tag_of key (body_of bytes))).0 parts.0, body_takes (body_of bytes) x parts.1)

-- a datagram with a right tag is read as its body
pub tagged_is_read : (key bytes : List ℕ) → IsTagged key bytes → datagram_at key bytes ≡ body_at (body_of bytes)
unfolding datagram_at
tagged_is_read key bytes tagged =
    rw ((bytes_eq-Decides (tag_at bytes) (tag_of key (body_of bytes))).1 tagged) refl

-- one with a wrong tag is not read
pub untagged_is_none : (key bytes : List ℕ) → (IsTagged key bytes → ⊥) → datagram_at key bytes ≡ None
unfolding datagram_at
untagged_is_none key bytes wrong = none (bytes_eq (tag_at bytes) (tag_of key (body_of bytes))) refl
  where
    none : (test : Bool) → bytes_eq (tag_at bytes) (tag_of key (body_of bytes)) ≡ test → cond test (body_at (body_of bytes)) None ≡ None
    none false e = refl
    none true e = absurd (wrong ((bytes_eq-Decides (tag_at bytes) (tag_of key (body_of bytes))).0 e))

-- what is in the format is read
pub datagram_again : (key bytes : List ℕ) (from to : ℕ) (message : Message) → IsDatagramOf key bytes from to message
    → datagram_at key bytes ≡ Some (from, to, message)
datagram_again key bytes from to message h = tagged_is_read key bytes h.0 ∙ body_again (body_of bytes) from to message h.1

pub is_some : (key bytes : List ℕ) (read : Option (ℕ × ℕ × Message)) → read ≡ datagram_at key bytes
    → IfSome read (λ x. IsDatagramOf key bytes x.0 x.1 x.2)
is_some key bytes (Some x) e = datagram_takes key bytes x (sym e)
is_some key bytes None e = tt

pub is_none : (key bytes : List ℕ) (read : Option (ℕ × ℕ × Message)) → read ≡ datagram_at key bytes
    → IfNone read ((from to : ℕ) (message : Message) → IsDatagramOf key bytes from to message → ⊥)
is_none key bytes (Some x) e = tt
is_none key bytes None e = λ from to message h. (let read = datagram_again key bytes from to message h in absurd cc)

-- ---- the one spelling

-- what is written is in the format
pub written : (key : List ℕ) (from to : ℕ) (message : Message) → HasSpelling from to message
    → IsDatagramOf key (datagram_bytes key from to message) from to message
unfolding datagram_bytes
written key from to message h =
    let body = body_bytes from to message in
    let tag = tag_of key body in
    let front = body_of-tagged body tag (length-tag_of key body) in (
      tag_at-tagged body tag (length-tag_of key body) ∙ ap (tag_of key) (sym front),
      (h, subst (λ (text : List ℕ). SaysMessage text from to message) (sym front) (says_again from to message h)),
    )

-- what is in the format is written so
pub spelled_so : (key bytes : List ℕ) (from to : ℕ) (message : Message) → AreBytes bytes → IsDatagramOf key bytes from to message
    → bytes ≡ datagram_bytes key from to message
unfolding datagram_bytes
spelled_so key bytes from to message fits h =
    let body : body_of bytes ≡ body_bytes from to message =
    spelled (body_of bytes) from to message (IsBytes-take (length bytes - 16) bytes fits) h.1.1 in
    sym (take-append-drop (length bytes - 16) bytes)
    ∙ ap (λ (tag : List ℕ). body_of bytes ++ tag) h.0
    ∙ ap (λ (text : List ℕ). text ++ tag_of key text) body

pub spelling_law : (key bytes : List ℕ) (from to : ℕ) (message : Message) → AreBytes bytes
    → IsDatagramOf key bytes from to message ↔ (HasSpelling from to message × (bytes ≡ datagram_bytes key from to message))
spelling_law key bytes from to message fits = (
  λ h. (h.1.0, spelled_so key bytes from to message fits h),
  λ h. subst (λ (text : List ℕ). IsDatagramOf key text from to message) (sym h.1) (written key from to message h.0),
)

pub reading_law : (key bytes : List ℕ) (from to : ℕ) (message : Message)
    → IsDatagramOf key bytes from to message ↔ (datagram_at key bytes ≡ Some (from, to, message))
reading_law key bytes from to message = (datagram_again key bytes from to message, datagram_takes key bytes (from, to, message))

pub again_law : (key : List ℕ) (from to : ℕ) (message : Message) → HasSpelling from to message
    → datagram_at key (datagram_bytes key from to message) ≡ Some (from, to, message)
again_law key from to message h = datagram_again key (datagram_bytes key from to message) from to message (written key from to message h)
