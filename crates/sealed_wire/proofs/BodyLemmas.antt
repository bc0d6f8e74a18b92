-- A body and its one spelling.
use Rattle.std.proofs.Common.{◌≡◌, ℕ, suc, ◌+◌, ◌≤◌, Bool, true, false, cond, eqb, ltb, List, [], ◌∷◌, ◌++◌, length, take, drop, Option, Some, None, refl, sym, ap, subst, ◌∙◌, arith, inl, inr, length-append}
use Rattle.std.specs.Prelude.{◌⊎◌, ◌&&◌, ◌||◌, not}
use Rattle.std.specs.Option.{option_map}
use Rattle.std.specs.Int.{w16, w64, to_be_bytes, from_be_bytes}
use Rattle.std.proofs.lemmas.Bool.{cases_lt, eqb-true, ltb-false, le-ltb, and_parts}
use Rattle.std.proofs.Math.Seq.{drop-cons}
use Rattle.std.proofs.lemmas.List.{get_or-drop, get_or-take, get_or_past, length-take, length-drop, drop-drop}
use Rattle.std.proofs.lemmas.Nat.{be_bytes_2, be_bytes_8, from_be_bytes-to_be_bytes_2, from_be_bytes-to_be_bytes_8}
use Rattle.sealed_wire.specs.Body.{IsHead, body_bytes, has_mark, head_at, head_bytes, head_of, head_within, kind_byte, kind_of, text_of}
use Rattle.sealed_wire.specs.Bytes.{AreBytes, byte_at, half_at, number_at}
use Rattle.sealed_wire.specs.declared.head.Head.{Head}
use Rattle.sealed_wire.specs.declared.head.Kind.{Kind}
use Rattle.sealed_wire.specs.declared.head.Kind.TheVariants.{Line, Answer, Request, Report}

abbrev present : {A : Type 0} → A → Option A
present x = Some x

some_is : {A : Type 0} (x y : A) → present x ≡ present y → x ≡ y
some_is x y e = cc

-- ---- kinds

pub kind_again : (kind : Kind) → kind_of (kind_byte kind) ≡ Some kind
kind_again Line = refl
kind_again Answer = refl
kind_again Request = refl
kind_again Report = refl

chosen : {A : Type 0} (b : Bool) (x y z : Option A) → cond b x y ≡ z → ((b ≡ true) × (x ≡ z)) ⊎ ((b ≡ false) × (y ≡ z))
chosen true x y z e = inl (refl, e)
chosen false x y z e = inr (refl, e)

pub kind_takes : (byte : ℕ) (kind : Kind) → kind_of byte ≡ Some kind → byte ≡ kind_byte kind
kind_takes byte kind e =
    let r4 = cond (eqb byte 4) (present Report) None in
    let r3 = cond (eqb byte 3) (present Request) r4 in
    let r2 = cond (eqb byte 2) (present Answer) r3 in
    elim (chosen (eqb byte 1) (present Line) r2 (Some kind) e) [
      | inl w ↦ eqb-true byte 1 w.0 ∙ ap kind_byte (some_is Line kind w.1)
      | inr w ↦ elim (chosen (eqb byte 2) (present Answer) r3 (Some kind) w.1) [
        | inl w ↦ eqb-true byte 2 w.0 ∙ ap kind_byte (some_is Answer kind w.1)
        | inr w ↦ elim (chosen (eqb byte 3) (present Request) r4 (Some kind) w.1) [
          | inl w ↦ eqb-true byte 3 w.0 ∙ ap kind_byte (some_is Request kind w.1)
          | inr w ↦ elim (chosen (eqb byte 4) (present Report) None (Some kind) w.1) [
            | inl w ↦ eqb-true byte 4 w.0 ∙ ap kind_byte (some_is Report kind w.1)
            | inr w ↦ let clash = w.1 in absurd cc
          ]
        ]
      ]
    ]

-- ---- the bytes at a place

AreBytes-drop : (n : ℕ) (bytes : List ℕ) → AreBytes bytes → AreBytes (drop n bytes)
AreBytes-drop n bytes h i = rw get_or-drop (h (n + i))

pub AreBytes-take : (n : ℕ) (bytes : List ℕ) → AreBytes bytes → AreBytes (take n bytes)
AreBytes-take n bytes h i =
    elim (cases_lt i n) [
      | inl lt ↦ rw (get_or-take n bytes i 0 lt) (h i)
      | inr le ↦ rw (get_or_past (take n bytes) i 0 (omega (arith, length-take n bytes))) (omega arith)
    ]

two : (l : List ℕ) → AreBytes l → 2 ≤ length l → l ≡ to_be_bytes w16 (from_be_bytes w16 l) ++ drop 2 l
two (a ∷ b ∷ rest) fits le = ap (λ (x : List ℕ). x ++ rest) (sym (be_bytes_2 (a ∷ b ∷ []) _ refl (AreBytes-take 2 (a ∷ b ∷ rest) fits) refl))
two [] fits le = absurd (omega arith)
two (a ∷ []) fits le = absurd (omega arith)

eight : (l : List ℕ) → AreBytes l → 8 ≤ length l → l ≡ to_be_bytes w64 (from_be_bytes w64 l) ++ drop 8 l
eight (a ∷ b ∷ c ∷ d ∷ e ∷ f ∷ g ∷ h ∷ rest) fits le =
    ap (λ (x : List ℕ). x ++ rest) (sym (be_bytes_8 (a ∷ b ∷ c ∷ d ∷ e ∷ f ∷ g ∷ h ∷ []) _ refl (AreBytes-take 8 (a ∷ b ∷ c ∷ d ∷ e ∷ f ∷ g ∷ h ∷ rest) fits) refl))
eight [] fits le = absurd (omega arith)
eight (a ∷ []) fits le = absurd (omega arith)
eight (a ∷ b ∷ []) fits le = absurd (omega arith)
eight (a ∷ b ∷ c ∷ []) fits le = absurd (omega arith)
eight (a ∷ b ∷ c ∷ d ∷ []) fits le = absurd (omega arith)
eight (a ∷ b ∷ c ∷ d ∷ e ∷ []) fits le = absurd (omega arith)
eight (a ∷ b ∷ c ∷ d ∷ e ∷ f ∷ []) fits le = absurd (omega arith)
eight (a ∷ b ∷ c ∷ d ∷ e ∷ f ∷ g ∷ []) fits le = absurd (omega arith)

half_there : (bytes : List ℕ) (place next n : ℕ) → AreBytes bytes → next ≡ place + 2 → next ≤ length bytes → half_at bytes place ≡ n → drop place bytes ≡ to_be_bytes w16 n ++ drop next bytes
half_there bytes place next n fits sum le at =
    let long : 2 ≤ length (drop place bytes) = omega (arith, length-drop place bytes) in
    let rest : drop 2 (drop place bytes) ≡ drop next bytes = drop-drop 2 place bytes ∙ ap (λ (k : ℕ). drop k bytes) (omega arith) in
    two (drop place bytes) (AreBytes-drop place bytes fits) long ∙ rw (at, rest) refl

number_there : (bytes : List ℕ) (place next n : ℕ) → AreBytes bytes → next ≡ place + 8 → next ≤ length bytes → number_at bytes place ≡ n → drop place bytes ≡ to_be_bytes w64 n ++ drop next bytes
number_there bytes place next n fits sum le at =
    let long : 8 ≤ length (drop place bytes) = omega (arith, length-drop place bytes) in
    let rest : drop 8 (drop place bytes) ≡ drop next bytes = drop-drop 8 place bytes ∙ ap (λ (k : ℕ). drop k bytes) (omega arith) in
    eight (drop place bytes) (AreBytes-drop place bytes fits) long ∙ rw (at, rest) refl

byte_there : (bytes : List ℕ) (place next n : ℕ) → next ≡ suc place → next ≤ length bytes → byte_at bytes place ≡ n → drop place bytes ≡ n ∷ drop next bytes
byte_there bytes place next n sum le at = drop-cons bytes place 0 (omega arith) ∙ rw (at, ← sum) refl

-- the bytes begin with the head that they have
head_there : (body : List ℕ) (head : Head) → AreBytes body → 15 ≤ length body → byte_at body 0 ≡ 0x4f → byte_at body 1 ≡ 0x53 → byte_at body 2 ≡ 1
    → byte_at body 3 ≡ kind_byte head.kind → half_at body 4 ≡ head.client → byte_at body 6 ≡ head.node → number_at body 7 ≡ head.moment
    → body ≡ body_bytes head (text_of body)
head_there body head fits l at_0 at_1 at_2 at_3 at_4 at_6 at_7 =
    byte_there body 0 1 0x4f refl (omega arith) at_0
    ∙ ap (λ (r : List ℕ). 0x4f ∷ r) (byte_there body 1 2 0x53 refl (omega arith) at_1
    ∙ ap (λ (r : List ℕ). 0x53 ∷ r) (byte_there body 2 3 1 refl (omega arith) at_2
    ∙ ap (λ (r : List ℕ). 1 ∷ r) (byte_there body 3 4 (kind_byte head.kind) refl (omega arith) at_3
    ∙ ap (λ (r : List ℕ). kind_byte head.kind ∷ r) (half_there body 4 6 head.client fits refl (omega arith) at_4
    ∙ ap (λ (r : List ℕ). to_be_bytes w16 head.client ++ r) (byte_there body 6 7 head.node refl (omega arith) at_6
    ∙ ap (λ (r : List ℕ). head.node ∷ r) (number_there body 7 15 head.moment fits refl (omega arith) at_7))))))

-- ---- the reader

or_false : (a b : Bool) → (a || b) ≡ false → (a ≡ false) × (b ≡ false)
or_false false false e = (refl, refl)
or_false false true e = absurd cc
or_false true b e = absurd cc

not_refused : {A : Type 0} (b : Bool) (r : Option A) (y : A) → cond b None r ≡ Some y → (b ≡ false) × (r ≡ Some y)
not_refused false r y e = (refl, e)
not_refused true r y e = absurd cc

passed : {A : Type 0} (b : Bool) (r : Option A) (y : A) → cond (not b) None r ≡ Some y → (b ≡ true) × (r ≡ Some y)
passed true r y e = (refl, e)
passed false r y e = absurd cc

mapped : {A B : Type 0} (f : A → B) (r : Option A) (y : B) → option_map f r ≡ Some y → (x : A) × (r ≡ Some x) × (f x ≡ y)
mapped f (Some x) y e = (x, refl, some_is (f x) y e)
mapped f None y e = absurd cc

-- what a head was read of
pub record HeadAt (limit : ℕ) (body : List ℕ) (head : Head) : Type 0 where
  pub least : 15 ≤ length body
  pub most : length body ≤ limit
  pub mark_0 : byte_at body 0 ≡ 0x4f
  pub mark_1 : byte_at body 1 ≡ 0x53
  pub version : byte_at body 2 ≡ 1
  pub kind : byte_at body 3 ≡ kind_byte head.kind
  pub client : half_at body 4 ≡ head.client
  pub node : byte_at body 6 ≡ head.node
  pub moment : number_at body 7 ≡ head.moment

pub within_takes : (limit : ℕ) (body : List ℕ) (head : Head) → head_within limit body ≡ Some head → HeadAt limit body head
within_takes limit body head e =
    let rest = option_map (head_of body) (kind_of (byte_at body 3)) in
    let a = not_refused (ltb (length body) 15 || ltb limit (length body)) (cond (not (has_mark body)) None rest) head e in
    let s = or_false (ltb (length body) 15) (ltb limit (length body)) a.0 in
    let b = passed (has_mark body) rest head a.1 in
    let m = and_parts (eqb (byte_at body 0) 0x4f) (eqb (byte_at body 1) 0x53 && eqb (byte_at body 2) 1) b.0 in
    let n = and_parts (eqb (byte_at body 1) 0x53) (eqb (byte_at body 2) 1) m.1 in
    let k = mapped (head_of body) (kind_of (byte_at body 3)) head b.1 in
    subst (λ (h : Head). HeadAt limit body h) k.2 (record {
      least = ltb-false _ _ s.0;
      most = ltb-false _ _ s.1;
      mark_0 = eqb-true _ _ m.0;
      mark_1 = eqb-true _ _ n.0;
      version = eqb-true _ _ n.1;
      kind = kind_takes (byte_at body 3) k.0 k.1;
      client = refl;
      node = refl;
      moment = refl;
    })

pub head_takes : (body : List ℕ) (head : Head) → head_at body ≡ Some head → HeadAt 271 body head
unfolding head_at
head_takes body head e = within_takes 271 body head e

-- what a body is spelled like
pub within_spelled : (limit : ℕ) (body : List ℕ) (head : Head) → AreBytes body → HeadAt limit body head → body ≡ body_bytes head (text_of body)
within_spelled limit body head fits h = head_there body head fits h.least h.mark_0 h.mark_1 h.version h.kind h.client h.node h.moment

pub spelled : (body : List ℕ) (head : Head) → AreBytes body → head_at body ≡ Some head → body ≡ body_bytes head (text_of body)
spelled body head fits e = within_spelled 271 body head fits (head_takes body head e)

-- what is spelled is read
pub within_again : (limit : ℕ) (head : Head) (text : List ℕ) → IsHead head → 15 + length text ≤ limit → head_within limit (body_bytes head text) ≡ Some head
within_again limit head text h le =
    let body = body_bytes head text in
    let len : length body ≡ 15 + length text = length-append (head_bytes head) text in
    let short : ltb (length body) 15 ≡ false = le-ltb (length body) 15 (omega arith) in
    let long : ltb limit (length body) ≡ false = le-ltb limit (length body) (omega arith) in
    let client : half_at body 4 ≡ head.client = from_be_bytes-to_be_bytes_2 head.client (omega (arith, h.client_below)) in
    let moment : number_at body 7 ≡ head.moment = from_be_bytes-to_be_bytes_8 head.moment (omega (arith, h.moment_below)) in
    rw (short, long, kind_again head.kind, client, moment) refl

pub head_again : (head : Head) (text : List ℕ) → IsHead head → length text ≤ 256 → head_at (body_bytes head text) ≡ Some head
unfolding head_at
head_again head text h le = within_again 271 head text h (omega arith)

pub text_again : (head : Head) (text : List ℕ) → text_of (body_bytes head text) ≡ text
text_again head text = refl

-- a head of a body is its head with a higher limit
pub within_more : (body : List ℕ) (head : Head) → head_at body ≡ Some head → head_within 1039 body ≡ Some head
unfolding head_at
within_more body head e =
    let rest = cond (not (has_mark body)) None (option_map (head_of body) (kind_of (byte_at body 3))) in
    let a = not_refused (ltb (length body) 15 || ltb 271 (length body)) rest head e in
    let s = or_false (ltb (length body) 15) (ltb 271 (length body)) a.0 in
    let long : ltb 1039 (length body) ≡ false = le-ltb 1039 (length body) (omega (arith, ltb-false 271 (length body) s.1)) in
    rw (s.0, long) a.1
