-- A body of floors has one spelling.
use Rattle.std.proofs.Common.{◌≡◌, ℕ, zero, suc, ◌+◌, ◌*◌, ◌^◌, ◌≤◌, Bool, true, false, cond, eqb, leb, ltb, List, [], ◌∷◌, ◌++◌, length, take, drop, Option, Some, None, refl, sym, ap, subst, ◌∙◌, arith, append_assoc, length-append, eq-eqb}
use Rattle.std.specs.Prelude.{◌&&◌, slice_get}
use Rattle.std.specs.Int.{w64, to_be_bytes, from_be_bytes}
use Rattle.std.proofs.lemmas.Bool.{and_parts, eqb-true, le-leb, le-ltb, leb-true, ltb-false}
use Rattle.std.proofs.lemmas.List.{drop-drop, drop_at, get_or-drop, length-drop, length-take, take-append-drop, take-append-le, take_all}
use Rattle.std.proofs.lemmas.Nat.{be_bytes_8, from_be_bytes-to_be_bytes_8}
use Rattle.named_wire.specs.Bytes.{AreBytes, byte_at, number_at}
use Rattle.named_wire.proofs.HeadLemmas.{AreBytes-take}
use Rattle.floor_port.specs.Floors.{IsBodyOf, IsNamedFloor, all_bytes, floor_at, floor_bytes, floor_with, floors_at, floors_body, floors_from, is_body, with_first}
use Rattle.floor_port.specs.declared.floor.NamedFloor.{NamedFloor}

abbrev present : {A : Type 0} → A → Option A
present x = Some x

some_is : {A : Type 0} (x y : A) → present x ≡ present y → x ≡ y
some_is x y e = cc

-- ---- what is written is read

floor_len : (floor : NamedFloor) → length floor.name ≡ 16 → length (floor_bytes floor) ≡ 24
floor_len floor len = omega (arith, length-append floor.name (to_be_bytes w64 floor.next), len)

floor_again : (floor : NamedFloor) (rest : List ℕ) → IsNamedFloor floor → floor_at (floor_bytes floor ++ rest) ≡ Some floor
floor_again floor rest fits =
    let bytes = floor_bytes floor ++ rest in
    let tail = to_be_bytes w64 floor.next ++ rest in
    let parts : bytes ≡ floor.name ++ tail = append_assoc floor.name (to_be_bytes w64 floor.next) rest in
    let name : take 16 bytes ≡ floor.name =
    ap (take 16) parts ∙ take-append-le 16 floor.name tail (omega (arith, fits.name_fits)) ∙ take_all 16 floor.name (omega (arith, fits.name_fits)) in
    let after : drop 16 bytes ≡ tail = ap (drop 16) parts ∙ drop_at floor.name tail 16 fits.name_fits in
    let next : number_at bytes 16 ≡ floor.next = ap (from_be_bytes w64) after ∙ from_be_bytes-to_be_bytes_8 floor.next (omega (arith, fits.next_fits)) in
    let low : ltb (2 ^ 62) floor.next ≡ false = le-ltb (2 ^ 62) floor.next fits.next_fits in
    ap (λ (n : List ℕ). floor_with n (number_at bytes 16)) name
    ∙ ap (floor_with floor.name) next
    ∙ ap (λ (t : Bool). cond t None (Some floor)) low

floors_again : (floors : List NamedFloor) → ((place : ℕ) (floor : NamedFloor) → slice_get floors place ≡ Some floor → IsNamedFloor floor) → floors_from (length floors) (all_bytes floors) ≡ Some floors
floors_again [] each = refl
floors_again (floor ∷ floors) each =
    let fits = each 0 floor refl in
    let bytes = floor_bytes floor ++ all_bytes floors in
    ap (λ (o : Option NamedFloor). with_first o (floors_from (length floors) (drop 24 bytes))) (floor_again floor (all_bytes floors) fits)
    ∙ ap (λ (l : List ℕ). with_first (Some floor) (floors_from (length floors) l)) (drop_at (floor_bytes floor) (all_bytes floors) 24 (floor_len floor fits.name_fits))
    ∙ ap (with_first (Some floor)) (floors_again floors (λ place one at. each (suc place) one at))

all_len : (floors : List NamedFloor) → ((place : ℕ) (floor : NamedFloor) → slice_get floors place ≡ Some floor → IsNamedFloor floor) → length (all_bytes floors) ≡ 24 * length floors
all_len [] each = refl
all_len (floor ∷ floors) each =
    let fits = each 0 floor refl in
    let rest = all_len floors (λ place one at. each (suc place) one at) in
    omega (arith, length-append (floor_bytes floor) (all_bytes floors), floor_len floor fits.name_fits, rest)

pub body_again : (floors : List NamedFloor) (body : List ℕ) → IsBodyOf floors body → floors_at body ≡ Some floors
body_again floors body is =
    let first : leb 1 (length floors) ≡ true = le-leb 1 (length floors) is.some in
    let last : leb (length floors) 20 ≡ true = le-leb (length floors) 20 is.most in
    let long : length (floors_body floors) ≡ 1 + 24 * length floors = (let all = all_len floors is.each in omega (arith, all)) in
    let whole : eqb (length (floors_body floors)) (1 + 24 * length floors) ≡ true = eq-eqb (length (floors_body floors)) (1 + 24 * length floors) long in
    let all : is_body (floors_body floors) ≡ true =
    ap (λ (t : Bool). t && (leb (length floors) 20 && eqb (length (floors_body floors)) (1 + 24 * length floors))) first
    ∙ ap (λ (t : Bool). t && eqb (length (floors_body floors)) (1 + 24 * length floors)) last ∙ whole in
    ap floors_at is.spelling
    ∙ ap (λ (t : Bool). cond t (floors_from (length floors) (all_bytes floors)) None) all
    ∙ floors_again floors is.each

-- ---- what is read was written

eight : (l : List ℕ) → AreBytes l → 8 ≤ length l → l ≡ to_be_bytes w64 (from_be_bytes w64 l) ++ drop 8 l
eight (a ∷ b ∷ c ∷ d ∷ e ∷ f ∷ g ∷ h ∷ rest) fits le =
    ap (λ (x : List ℕ). x ++ rest) (sym (be_bytes_8 (a ∷ b ∷ c ∷ d ∷ e ∷ f ∷ g ∷ h ∷ []) _ refl (AreBytes-take 8 (a ∷ b ∷ c ∷ d ∷ e ∷ f ∷ g ∷ h ∷ rest) fits) refl))
eight [] fits le = absurd (omega arith)
eight (a ∷ []) fits le = absurd (omega arith)
eight (a ∷ b ∷ []) fits le = absurd (omega arith)
eight (a ∷ b ∷ c ∷ []) fits le = absurd (omega arith)
eight (a ∷ b ∷ c ∷ d ∷ []) fits le = absurd (omega arith)
eight (a ∷ b ∷ c ∷ d ∷ e ∷ []) fits le = absurd (omega arith)
eight (a ∷ b ∷ c ∷ d ∷ e ∷ f ∷ []) fits le = absurd (omega arith)
eight (a ∷ b ∷ c ∷ d ∷ e ∷ f ∷ g ∷ []) fits le = absurd (omega arith)

AreBytes-drop : (n : ℕ) (bytes : List ℕ) → AreBytes bytes → AreBytes (drop n bytes)
AreBytes-drop n bytes h i = rw get_or-drop (h (n + i))

-- a floor and the bytes after it
record IsFloorAt (bytes : List ℕ) (floor : NamedFloor) : Type 0 where
  fits : IsNamedFloor floor
  spelling : bytes ≡ floor_bytes floor ++ drop 24 bytes

floor_back : (bytes : List ℕ) (floor : NamedFloor) → AreBytes bytes → 24 ≤ length bytes → floor_at bytes ≡ Some floor → IsFloorAt bytes floor
floor_back bytes floor are long e = go (ltb (2 ^ 62) (number_at bytes 16)) refl e
  where
    read : NamedFloor
    read = record { name = take 16 bytes; next = number_at bytes 16 }

    name_len : length (take 16 bytes) ≡ 16
    name_len = omega (arith, length-take 16 bytes, long)

    after : drop 16 bytes ≡ to_be_bytes w64 (number_at bytes 16) ++ drop 24 bytes
    after = eight (drop 16 bytes) (AreBytes-drop 16 bytes are) (omega (arith, length-drop 16 bytes, long))
        ∙ ap (λ (l : List ℕ). to_be_bytes w64 (number_at bytes 16) ++ l) (drop-drop 8 16 bytes)

    spelled : bytes ≡ floor_bytes read ++ drop 24 bytes
    spelled = sym (take-append-drop 16 bytes) ∙ ap (λ (l : List ℕ). take 16 bytes ++ l) after
        ∙ sym (append_assoc (take 16 bytes) (to_be_bytes w64 (number_at bytes 16)) (drop 24 bytes))

    go : (above : Bool) → ltb (2 ^ 62) (number_at bytes 16) ≡ above → cond above None (Some read) ≡ Some floor → IsFloorAt bytes floor
    go true is same = absurd cc
    go false is same = subst (IsFloorAt bytes) (some_is read floor same) (record {
      fits = record { name_fits = name_len; next_fits = ltb-false (2 ^ 62) (number_at bytes 16) is };
      spelling = spelled;
    })

-- floors of the bytes
record AreFloorsOf (count : ℕ) (bytes : List ℕ) (floors : List NamedFloor) : Type 0 where
  len : length floors ≡ count
  each : (place : ℕ) (floor : NamedFloor) → slice_get floors place ≡ Some floor → IsNamedFloor floor
  spelling : bytes ≡ all_bytes floors

no_bytes : (bytes : List ℕ) → length bytes ≡ 0 → bytes ≡ []
no_bytes [] none = refl
no_bytes (byte ∷ bytes) none = absurd (omega (arith, none))

no_place : (place : ℕ) (floor : NamedFloor) → slice_get {X = NamedFloor} [] place ≡ Some floor → IsNamedFloor floor
no_place place floor at = absurd cc

each_more : (first : NamedFloor) (floors : List NamedFloor) → IsNamedFloor first → ((place : ℕ) (floor : NamedFloor) → slice_get floors place ≡ Some floor → IsNamedFloor floor)
    → (place : ℕ) (floor : NamedFloor) → slice_get (first ∷ floors) place ≡ Some floor → IsNamedFloor floor
each_more first floors fits each zero floor at = subst IsNamedFloor (some_is first floor at) fits
each_more first floors fits each (suc place) floor at = each place floor at

floors_back : (count : ℕ) (bytes : List ℕ) (floors : List NamedFloor) → AreBytes bytes → length bytes ≡ 24 * count → floors_from count bytes ≡ Some floors → AreFloorsOf count bytes floors
floors_back zero bytes floors are len e =
    subst (AreFloorsOf zero bytes) (some_is [] floors e) (record { len = refl; each = no_place; spelling = no_bytes bytes (omega (arith, len)) })
floors_back (suc count) bytes floors are len e =
    go (λ others. floors_back count (drop 24 bytes) others (AreBytes-drop 24 bytes are) (omega (arith, length-drop 24 bytes, len))) (floor_at bytes) refl (floors_from count (drop 24 bytes)) refl e
  where
    go : ((others : List NamedFloor) → floors_from count (drop 24 bytes) ≡ Some others → AreFloorsOf count (drop 24 bytes) others) → (first : Option NamedFloor) → floor_at bytes ≡ first → (others : Option (List NamedFloor)) → floors_from count (drop 24 bytes) ≡ others → with_first first others ≡ Some floors
        → AreFloorsOf (suc count) bytes floors
    go after None at others rest same = absurd cc
    go after (Some first) at None rest same = absurd cc
    go after (Some first) at (Some others) rest same =
        let f = floor_back bytes first are (omega (arith, len)) at in
        let o = after others rest in
        subst (AreFloorsOf (suc count) bytes) (some_is (first ∷ others) floors same) (record {
          len = ap (λ (n : ℕ). suc n) o.len;
          each = each_more first others f.fits o.each;
          spelling = f.spelling ∙ ap (λ (l : List ℕ). floor_bytes first ++ l) o.spelling;
        })

first_byte : (body : List ℕ) → 1 ≤ length body → body ≡ byte_at body 0 ∷ drop 1 body
first_byte [] some = absurd (omega (arith, some))
first_byte (byte ∷ rest) some = refl

pub body_back : (floors : List NamedFloor) (body : List ℕ) → AreBytes body → floors_at body ≡ Some floors → IsBodyOf floors body
body_back floors body are e = go (is_body body) refl e
  where
    go : (is : Bool) → is_body body ≡ is → cond is (floors_from (byte_at body 0) (drop 1 body)) None ≡ Some floors → IsBodyOf floors body
    go false fits same = absurd cc
    go true fits same =
        let a = and_parts (leb 1 (byte_at body 0)) (leb (byte_at body 0) 20 && eqb (length body) (1 + 24 * byte_at body 0)) fits in
        let b = and_parts (leb (byte_at body 0) 20) (eqb (length body) (1 + 24 * byte_at body 0)) a.1 in
        let first = leb-true 1 (byte_at body 0) a.0 in
        let last = leb-true (byte_at body 0) 20 b.0 in
        let long = eqb-true (length body) (1 + 24 * byte_at body 0) b.1 in
        let o = floors_back (byte_at body 0) (drop 1 body) floors (AreBytes-drop 1 body are) (omega (arith, length-drop 1 body, long)) same in
        record {
          some = omega (arith, o.len, first);
          most = omega (arith, o.len, last);
          each = o.each;
          spelling = first_byte body (omega (arith, long)) ∙ ap (λ (l : List ℕ). byte_at body 0 ∷ l) o.spelling ∙ ap (λ (n : ℕ). n ∷ all_bytes floors) (sym o.len);
        }
