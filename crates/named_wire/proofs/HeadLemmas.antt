-- A head, a body, and their one spelling.
use Rattle.std.proofs.Common.{◌≡◌, ℕ, suc, ◌+◌, ◌≤◌, Bool, true, false, cond, eqb, ltb, List, [], ◌∷◌, ◌++◌, length, take, drop, Option, Some, None, refl, sym, ap, subst, ◌∙◌, arith, inl, inr, length-append}
use Rattle.std.specs.Prelude.{◌⊎◌, ◌&&◌, ◌||◌, not}
use Rattle.std.specs.Option.{option_map}
use Rattle.std.specs.Int.{w64, to_be_bytes, from_be_bytes}
use Rattle.std.proofs.lemmas.Bool.{cases_lt, eqb-true, ltb-false, le-ltb, and_parts}
use Rattle.std.proofs.Math.Seq.{drop-cons}
use Rattle.std.proofs.lemmas.List.{get_or-drop, get_or-take, get_or_past, length-take, length-drop, drop-drop}
use Rattle.std.proofs.lemmas.Nat.{be_bytes_8, from_be_bytes-to_be_bytes_8}
use Rattle.named_wire.specs.Head.{IsHead, are_ends, body_of, front_bytes, has_mark, head_at, head_bytes, head_of, kind_byte, kind_of}
use Rattle.named_wire.specs.Bytes.{AreBytes, byte_at, number_at}
use Rattle.named_wire.specs.declared.head.Head.{Head}
use Rattle.named_wire.specs.declared.head.Kind.{Kind}
use Rattle.named_wire.specs.declared.head.Kind.TheVariants.{Ask, Grant, Deny, Floor, Floors}

abbrev present : {A : Type 0} → A → Option A
present x = Some x

some_is : {A : Type 0} (x y : A) → present x ≡ present y → x ≡ y
some_is x y e = cc

-- ---- kinds

pub kind_again : (kind : Kind) → kind_of (kind_byte kind) ≡ Some kind
kind_again Ask = refl
kind_again Grant = refl
kind_again Deny = refl
kind_again Floor = refl
kind_again Floors = refl

chosen : {A : Type 0} (b : Bool) (x y z : Option A) → cond b x y ≡ z → ((b ≡ true) × (x ≡ z)) ⊎ ((b ≡ false) × (y ≡ z))
chosen true x y z e = inl (refl, e)
chosen false x y z e = inr (refl, e)

pub kind_takes : (byte : ℕ) (kind : Kind) → kind_of byte ≡ Some kind → byte ≡ kind_byte kind
kind_takes byte kind e =
    let r5 = cond (eqb byte 5) (present Floors) None in
    let r4 = cond (eqb byte 4) (present Floor) r5 in
    let r3 = cond (eqb byte 3) (present Deny) r4 in
    let r2 = cond (eqb byte 2) (present Grant) r3 in
    elim (chosen (eqb byte 1) (present Ask) r2 (Some kind) e) [
      | inl w ↦ eqb-true byte 1 w.0 ∙ ap kind_byte (some_is Ask kind w.1)
      | inr w ↦ elim (chosen (eqb byte 2) (present Grant) r3 (Some kind) w.1) [
        | inl w ↦ eqb-true byte 2 w.0 ∙ ap kind_byte (some_is Grant kind w.1)
        | inr w ↦ elim (chosen (eqb byte 3) (present Deny) r4 (Some kind) w.1) [
          | inl w ↦ eqb-true byte 3 w.0 ∙ ap kind_byte (some_is Deny kind w.1)
          | inr w ↦ elim (chosen (eqb byte 4) (present Floor) r5 (Some kind) w.1) [
            | inl w ↦ eqb-true byte 4 w.0 ∙ ap kind_byte (some_is Floor kind w.1)
            | inr w ↦ elim (chosen (eqb byte 5) (present Floors) None (Some kind) w.1) [
              | inl w ↦ eqb-true byte 5 w.0 ∙ ap kind_byte (some_is Floors kind w.1)
              | inr w ↦ let clash = w.1 in absurd cc
            ]
          ]
        ]
      ]
    ]

-- ---- the bytes at a place

AreBytes-drop : (n : ℕ) (bytes : List ℕ) → AreBytes bytes → AreBytes (drop n bytes)
AreBytes-drop n bytes h i = rw get_or-drop (h (n + i))

pub AreBytes-take : (n : ℕ) (bytes : List ℕ) → AreBytes bytes → AreBytes (take n bytes)
AreBytes-take n bytes h i =
    elim (cases_lt i n) [
      | inl lt ↦ rw (get_or-take n bytes i 0 lt) (h i)
      | inr le ↦ rw (get_or_past (take n bytes) i 0 (omega (arith, length-take n bytes))) (omega arith)
    ]

eight : (l : List ℕ) → AreBytes l → 8 ≤ length l → l ≡ to_be_bytes w64 (from_be_bytes w64 l) ++ drop 8 l
eight (a ∷ b ∷ c ∷ d ∷ e ∷ f ∷ g ∷ h ∷ rest) fits le =
    ap (λ (x : List ℕ). x ++ rest) (sym (be_bytes_8 (a ∷ b ∷ c ∷ d ∷ e ∷ f ∷ g ∷ h ∷ []) _ refl (AreBytes-take 8 (a ∷ b ∷ c ∷ d ∷ e ∷ f ∷ g ∷ h ∷ rest) fits) refl))
eight [] fits le = absurd (omega arith)
eight (a ∷ []) fits le = absurd (omega arith)
eight (a ∷ b ∷ []) fits le = absurd (omega arith)
eight (a ∷ b ∷ c ∷ []) fits le = absurd (omega arith)
eight (a ∷ b ∷ c ∷ d ∷ []) fits le = absurd (omega arith)
eight (a ∷ b ∷ c ∷ d ∷ e ∷ []) fits le = absurd (omega arith)
eight (a ∷ b ∷ c ∷ d ∷ e ∷ f ∷ []) fits le = absurd (omega arith)
eight (a ∷ b ∷ c ∷ d ∷ e ∷ f ∷ g ∷ []) fits le = absurd (omega arith)

number_there : (bytes : List ℕ) (place next n : ℕ) → AreBytes bytes → next ≡ place + 8 → next ≤ length bytes → number_at bytes place ≡ n → drop place bytes ≡ to_be_bytes w64 n ++ drop next bytes
number_there bytes place next n fits sum le at =
    let long : 8 ≤ length (drop place bytes) = omega (arith, length-drop place bytes) in
    let rest : drop 8 (drop place bytes) ≡ drop next bytes = drop-drop 8 place bytes ∙ ap (λ (k : ℕ). drop k bytes) (omega arith) in
    eight (drop place bytes) (AreBytes-drop place bytes fits) long ∙ rw (at, rest) refl

byte_there : (bytes : List ℕ) (place next n : ℕ) → next ≡ suc place → next ≤ length bytes → byte_at bytes place ≡ n → drop place bytes ≡ n ∷ drop next bytes
byte_there bytes place next n sum le at = drop-cons bytes place 0 (omega arith) ∙ rw (at, ← sum) refl

-- the bytes begin with the head that they have
head_there : (front : List ℕ) (head : Head) → AreBytes front → 14 ≤ length front → byte_at front 0 ≡ 0x4f → byte_at front 1 ≡ 0x56 → byte_at front 2 ≡ 3
    → byte_at front 3 ≡ kind_byte head.kind → byte_at front 4 ≡ head.from → byte_at front 5 ≡ head.to → number_at front 6 ≡ head.boot
    → front ≡ front_bytes head (body_of front)
head_there front head fits l at_0 at_1 at_2 at_3 at_4 at_5 at_6 =
    byte_there front 0 1 0x4f refl (omega arith) at_0
    ∙ ap (λ (r : List ℕ). 0x4f ∷ r) (byte_there front 1 2 0x56 refl (omega arith) at_1
    ∙ ap (λ (r : List ℕ). 0x56 ∷ r) (byte_there front 2 3 3 refl (omega arith) at_2
    ∙ ap (λ (r : List ℕ). 3 ∷ r) (byte_there front 3 4 (kind_byte head.kind) refl (omega arith) at_3
    ∙ ap (λ (r : List ℕ). kind_byte head.kind ∷ r) (byte_there front 4 5 head.from refl (omega arith) at_4
    ∙ ap (λ (r : List ℕ). head.from ∷ r) (byte_there front 5 6 head.to refl (omega arith) at_5
    ∙ ap (λ (r : List ℕ). head.to ∷ r) (number_there front 6 14 head.boot fits refl (omega arith) at_6))))))

-- ---- the reader

or_false : (a b : Bool) → (a || b) ≡ false → (a ≡ false) × (b ≡ false)
or_false false false e = (refl, refl)
or_false false true e = absurd cc
or_false true b e = absurd cc

not_refused : {A : Type 0} (b : Bool) (r : Option A) (y : A) → cond b None r ≡ Some y → (b ≡ false) × (r ≡ Some y)
not_refused false r y e = (refl, e)
not_refused true r y e = absurd cc

passed : {A : Type 0} (b : Bool) (r : Option A) (y : A) → cond (not b) None r ≡ Some y → (b ≡ true) × (r ≡ Some y)
passed true r y e = (refl, e)
passed false r y e = absurd cc

mapped : {A B : Type 0} (f : A → B) (r : Option A) (y : B) → option_map f r ≡ Some y → (x : A) × (r ≡ Some x) × (f x ≡ y)
mapped f (Some x) y e = (x, refl, some_is (f x) y e)
mapped f None y e = absurd cc

-- what a head was read of
pub record HeadAt (front : List ℕ) (head : Head) : Type 0 where
  pub least : 14 ≤ length front
  pub most : length front ≤ 495
  pub mark_0 : byte_at front 0 ≡ 0x4f
  pub mark_1 : byte_at front 1 ≡ 0x56
  pub version : byte_at front 2 ≡ 3
  pub kind : byte_at front 3 ≡ kind_byte head.kind
  pub from : byte_at front 4 ≡ head.from
  pub to : byte_at front 5 ≡ head.to
  pub boot : number_at front 6 ≡ head.boot
  pub ends : are_ends head.from head.to ≡ true

pub head_takes : (front : List ℕ) (head : Head) → head_at front ≡ Some head → HeadAt front head
unfolding head_at
head_takes front head e =
    let rest = option_map (head_of front) (kind_of (byte_at front 3)) in
    let ends = are_ends (byte_at front 4) (byte_at front 5) in
    let a = not_refused (ltb (length front) 14 || ltb 495 (length front)) (cond (not (has_mark front)) None (cond (not ends) None rest)) head e in
    let s = or_false (ltb (length front) 14) (ltb 495 (length front)) a.0 in
    let b = passed (has_mark front) (cond (not ends) None rest) head a.1 in
    let m = and_parts (eqb (byte_at front 0) 0x4f) (eqb (byte_at front 1) 0x56 && eqb (byte_at front 2) 3) b.0 in
    let n = and_parts (eqb (byte_at front 1) 0x56) (eqb (byte_at front 2) 3) m.1 in
    let d = passed ends rest head b.1 in
    let k = mapped (head_of front) (kind_of (byte_at front 3)) head d.1 in
    subst (λ (h : Head). HeadAt front h) k.2 (record {
      least = ltb-false _ _ s.0;
      most = ltb-false _ _ s.1;
      mark_0 = eqb-true _ _ m.0;
      mark_1 = eqb-true _ _ n.0;
      version = eqb-true _ _ n.1;
      kind = kind_takes (byte_at front 3) k.0 k.1;
      from = refl;
      to = refl;
      boot = refl;
      ends = d.0;
    })

-- what the bytes are spelled like
pub spelled : (front : List ℕ) (head : Head) → AreBytes front → head_at front ≡ Some head → front ≡ front_bytes head (body_of front)
spelled front head fits e =
    let h = head_takes front head e in
    head_there front head fits h.least h.mark_0 h.mark_1 h.version h.kind h.from h.to h.boot

-- what is spelled is read
pub head_again : (head : Head) (body : List ℕ) → IsHead head → length body ≤ 481 → head_at (front_bytes head body) ≡ Some head
unfolding head_at
head_again head body h le =
    let front = front_bytes head body in
    let len : length front ≡ 14 + length body = length-append (head_bytes head) body in
    let short : ltb (length front) 14 ≡ false = le-ltb (length front) 14 (omega arith) in
    let long : ltb 495 (length front) ≡ false = le-ltb 495 (length front) (omega arith) in
    let boot : number_at front 6 ≡ head.boot = from_be_bytes-to_be_bytes_8 head.boot (omega (arith, h.boot_below)) in
    rw (short, long, h.ends, kind_again head.kind, boot) refl
