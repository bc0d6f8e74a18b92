-- A datagram, the bytes before its tag, and the tag.
use Rattle.std.proofs.Common.{◌≡◌, ℕ, ◌-◌, ◌^◌, ◌≤◌, ◌<◌, Bool, true, false, cond, List, ◌++◌, length, Option, Some, None, refl, sym, ap, subst, ◌∙◌, arith, length-append, inl, inr}
use Rattle.std.specs.Prelude.{◌↔◌}
use Rattle.std.specs.Option.{option_map}
use Rattle.std.specs.Str.{bytes_eq}
use Rattle.std.proofs.lemmas.Bool.{cases_lt}
use Rattle.std.proofs.lemmas.List.{length-take, length-drop, take-append-drop, take-append-le, drop-append-le, take_all, drop_all}
use Rattle.std.proofs.lemmas.Slice.Eq.{bytes_eq-Decides}
use Rattle.vote_wire.specs.Key.{tag_of}
use Rattle.vote_wire.proofs.TagLemmas.{length-tag_of}
use Rattle.named_wire.specs.Bytes.{AreBytes}
use Rattle.named_wire.specs.Datagram.{IsDatagramOf, IsTagged, datagram_at, datagram_bytes, front_of, tag_at}
use Rattle.named_wire.specs.Head.{IsHead, body_of, front_bytes, head_at}
use Rattle.named_wire.specs.declared.head.Head.{Head}
use Rattle.named_wire.proofs.HeadLemmas.{AreBytes-take, head_again, head_takes, spelled}

-- fewer bytes than a tag has are not tagged
pub short_is_untagged : (key bytes : List ℕ) → (16 ≤ length bytes → ⊥) → IsTagged key bytes → ⊥
short_is_untagged key bytes short tagged =
    short (omega (arith, ap length tagged, length-tag_of key (front_of bytes), length-drop (length bytes - 16) bytes))

-- ---- bytes followed by their tag

front_of-tagged : (front tag : List ℕ) → length tag ≡ 16 → front_of (front ++ tag) ≡ front
front_of-tagged front tag len =
    let most : length (front ++ tag) - 16 ≡ length front = omega (arith, length-append front tag, len) in
    rw most (take-append-le (length front) front tag (omega arith) ∙ take_all (length front) front (omega arith))

tag_at-tagged : (front tag : List ℕ) → length tag ≡ 16 → tag_at (front ++ tag) ≡ tag
tag_at-tagged front tag len =
    let most : length (front ++ tag) - 16 ≡ length front = omega (arith, length-append front tag, len) in
    rw most (drop-append-le (length front) front tag (omega arith) ∙ ap (λ (rest : List ℕ). rest ++ tag) (drop_all (length front) front (omega arith)))

-- ---- the reader

abbrev read : List ℕ → Option (Head × List ℕ)
read front = option_map (λ head. (head, body_of front)) (head_at front)

chosen : (test : Bool) (r : Option (Head × List ℕ)) (x : Head × List ℕ) → cond test r None ≡ Some x → (test ≡ true) × (r ≡ Some x)
chosen true r x e = (refl, e)
chosen false r x e = absurd cc

abbrev present : {A : Type 0} → A → Option A
present x = Some x

some_is : {A : Type 0} (x y : A) → present x ≡ present y → x ≡ y
some_is x y e = cc

read_parts : (body : List ℕ) (r : Option Head) (x : Head × List ℕ) → option_map (λ head. (head, body)) r ≡ Some x → (r ≡ Some x.0) × (body ≡ x.1)
read_parts body (Some head) x e =
    let is : (head, body) ≡ x = some_is _ x e in
    (ap (λ (y : Head × List ℕ). present y.0) is, ap (λ (y : Head × List ℕ). y.1) is)
read_parts body None x e = absurd cc

-- what was read has a right tag, a head and this body
pub record Opened (key bytes : List ℕ) (head : Head) (body : List ℕ) : Type 0 where
  pub tagged : IsTagged key bytes
  pub head_is : head_at (front_of bytes) ≡ Some head
  pub body_is : body_of (front_of bytes) ≡ body

pub takes : (key bytes : List ℕ) (head : Head) (body : List ℕ) → datagram_at key bytes ≡ Some (head, body) → Opened key bytes head body
unfolding datagram_at
takes key bytes head body e =
    let a = chosen (bytes_eq (tag_at bytes) (tag_of key (front_of bytes))) (read (front_of bytes)) (head, body) e in
    let b = read_parts (body_of (front_of bytes)) (head_at (front_of bytes)) (head, body) a.1 in
    record {
      tagged = (bytes_eq-Decides (tag_at bytes) (tag_of key (front_of bytes))).0 a.0;
      head_is = b.0;
      body_is = b.1;
    }

-- a datagram with a right tag is read as the bytes before it
pub tagged_is_read : (key bytes : List ℕ) → IsTagged key bytes → datagram_at key bytes ≡ read (front_of bytes)
unfolding datagram_at
tagged_is_read key bytes tagged =
    rw ((bytes_eq-Decides (tag_at bytes) (tag_of key (front_of bytes))).1 tagged) refl

-- bytes without a head are not read
pub headless_is_none : (key bytes front : List ℕ) → IsTagged key bytes → front ≡ front_of bytes → head_at front ≡ None → datagram_at key bytes ≡ None
headless_is_none key bytes front tagged is none = tagged_is_read key bytes tagged ∙ ap read (sym is) ∙ rw none refl

-- bytes with a head are read as the head and the body
pub read_of : (key bytes front : List ℕ) (head : Head) → IsTagged key bytes → front ≡ front_of bytes → head_at front ≡ Some head
    → datagram_at key bytes ≡ Some (head, body_of front)
read_of key bytes front head tagged is some = tagged_is_read key bytes tagged ∙ ap read (sym is) ∙ rw some refl

-- one with a wrong tag is not read
pub untagged_is_none : (key bytes : List ℕ) → (IsTagged key bytes → ⊥) → datagram_at key bytes ≡ None
unfolding datagram_at
untagged_is_none key bytes wrong = none (bytes_eq (tag_at bytes) (tag_of key (front_of bytes))) refl
  where
    none : (test : Bool) → bytes_eq (tag_at bytes) (tag_of key (front_of bytes)) ≡ test → cond test (read (front_of bytes)) None ≡ None
    none false e = refl
    none true e = absurd (wrong ((bytes_eq-Decides (tag_at bytes) (tag_of key (front_of bytes))).0 e))

-- one that is too long is not read
long_has_no_head : (front : List ℕ) (r : Option Head) → head_at front ≡ r → 495 < length front → r ≡ None
long_has_no_head front None e long = refl
long_has_no_head front (Some head) e long = let h = head_takes front head e in absurd (omega (arith, h.most))

pub long_is_none : (key bytes : List ℕ) → 511 < length bytes → datagram_at key bytes ≡ None
unfolding datagram_at
long_is_none key bytes long = none (bytes_eq (tag_at bytes) (tag_of key (front_of bytes)))
  where
    headless : head_at (front_of bytes) ≡ None
    headless = long_has_no_head (front_of bytes) (head_at (front_of bytes)) refl (omega (arith, length-take (length bytes - 16) bytes))

    none : (test : Bool) → cond test (read (front_of bytes)) None ≡ None
    none false = refl
    none true = rw headless refl

-- neither is what is too long or has a wrong tag
pub unopened_is_none : (key bytes : List ℕ) → (length bytes ≤ 511 → IsTagged key bytes → ⊥) → datagram_at key bytes ≡ None
unopened_is_none key bytes wrong =
    elim (cases_lt 511 (length bytes)) [
      | inl long ↦ long_is_none key bytes long
      | inr short ↦ untagged_is_none key bytes (wrong short)
    ]

-- ---- the laws

-- what is written is read
pub again : (key body : List ℕ) (head : Head) → IsHead head → length body ≤ 481 → datagram_at key (datagram_bytes key head body) ≡ Some (head, body)
unfolding datagram_bytes
again key body head h le =
    let front = front_bytes head body in
    let tag = tag_of key front in
    let first = front_of-tagged front tag (length-tag_of key front) in
    let tagged : IsTagged key (front ++ tag) =
    tag_at-tagged front tag (length-tag_of key front) ∙ ap (λ (b : List ℕ). tag_of key b) (sym first) in
    tagged_is_read key (front ++ tag) tagged ∙ ap read first ∙ rw (head_again head body h le) refl

-- what is read is written so
pub spelled_so : (key bytes body : List ℕ) (head : Head) → AreBytes bytes → datagram_at key bytes ≡ Some (head, body) → bytes ≡ datagram_bytes key head body
unfolding datagram_bytes
spelled_so key bytes body head fits e =
    let o = takes key bytes head body e in
    let front : front_of bytes ≡ front_bytes head body =
    spelled (front_of bytes) head (AreBytes-take (length bytes - 16) bytes fits) o.head_is ∙ ap (front_bytes head) o.body_is in
    sym (take-append-drop (length bytes - 16) bytes)
    ∙ ap (λ (tag : List ℕ). front_of bytes ++ tag) o.tagged
    ∙ ap (λ (b : List ℕ). b ++ tag_of key b) front

pub reading_law : (key bytes body : List ℕ) (head : Head) → AreBytes bytes → head.boot < 2 ^ 64
    → IsDatagramOf key head body bytes ↔ (datagram_at key bytes ≡ Some (head, body))
reading_law key bytes body head fits boot = (
  λ s. subst (λ (b : List ℕ). datagram_at key b ≡ Some (head, body)) (sym s.spelling) (again key body head s.head_fits s.body_fits),
  λ e.
      let o = takes key bytes head body e in
      let h = head_takes (front_of bytes) head o.head_is in
      record {
        head_fits = record { ends = h.ends; boot_below = boot };
        body_fits = omega (arith, h.least, h.most, ap length o.body_is, length-drop 14 (front_of bytes));
        spelling = spelled_so key bytes body head fits e;
      },
)
