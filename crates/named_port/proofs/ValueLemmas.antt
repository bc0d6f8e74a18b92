-- Names of the same value are the same.
use Rattle.std.proofs.Common.{◌≡◌, ℕ, suc, ◌+◌, ◌*◌, ◌<◌, Bool, true, false, List, [], ◌∷◌, length, refl, sym, subst, ◌∙◌, arith}
use Rattle.std.specs.Ordering.{is_eq, nat_cmp}
use Rattle.std.specs.Str.{bytes_eq}
use Rattle.std.proofs.lemmas.Slice.Eq.{bytes_eq-Decides}
use Rattle.named_wire.specs.Bytes.{AreBytes}
use Rattle.named_port.specs.Names.{IsName, value_of}

-- the number that bytes write after the number `high`
abbrev written : ℕ → List ℕ → ℕ
written high [] = high
written high (x ∷ xs) = written (high * 256 + x) xs

value_is : (name : List ℕ) → length name ≡ 16 → value_of name ≡ written 0 name
value_is [] l = absurd (omega arith)
value_is (a ∷ []) l = absurd (omega arith)
value_is (a ∷ b ∷ []) l = absurd (omega arith)
value_is (a ∷ b ∷ c ∷ []) l = absurd (omega arith)
value_is (a ∷ b ∷ c ∷ d ∷ []) l = absurd (omega arith)
value_is (a ∷ b ∷ c ∷ d ∷ e ∷ []) l = absurd (omega arith)
value_is (a ∷ b ∷ c ∷ d ∷ e ∷ f ∷ []) l = absurd (omega arith)
value_is (a ∷ b ∷ c ∷ d ∷ e ∷ f ∷ g ∷ []) l = absurd (omega arith)
value_is (a ∷ b ∷ c ∷ d ∷ e ∷ f ∷ g ∷ h ∷ []) l = absurd (omega arith)
value_is (a ∷ b ∷ c ∷ d ∷ e ∷ f ∷ g ∷ h ∷ i ∷ []) l = absurd (omega arith)
value_is (a ∷ b ∷ c ∷ d ∷ e ∷ f ∷ g ∷ h ∷ i ∷ j ∷ []) l = absurd (omega arith)
value_is (a ∷ b ∷ c ∷ d ∷ e ∷ f ∷ g ∷ h ∷ i ∷ j ∷ k ∷ []) l = absurd (omega arith)
value_is (a ∷ b ∷ c ∷ d ∷ e ∷ f ∷ g ∷ h ∷ i ∷ j ∷ k ∷ m ∷ []) l = absurd (omega arith)
value_is (a ∷ b ∷ c ∷ d ∷ e ∷ f ∷ g ∷ h ∷ i ∷ j ∷ k ∷ m ∷ n ∷ []) l = absurd (omega arith)
value_is (a ∷ b ∷ c ∷ d ∷ e ∷ f ∷ g ∷ h ∷ i ∷ j ∷ k ∷ m ∷ n ∷ o ∷ []) l = absurd (omega arith)
value_is (a ∷ b ∷ c ∷ d ∷ e ∷ f ∷ g ∷ h ∷ i ∷ j ∷ k ∷ m ∷ n ∷ o ∷ p ∷ []) l = absurd (omega arith)
value_is (a ∷ b ∷ c ∷ d ∷ e ∷ f ∷ g ∷ h ∷ i ∷ j ∷ k ∷ m ∷ n ∷ o ∷ p ∷ q ∷ []) l = omega arith
value_is (a ∷ b ∷ c ∷ d ∷ e ∷ f ∷ g ∷ h ∷ i ∷ j ∷ k ∷ m ∷ n ∷ o ∷ p ∷ q ∷ r ∷ rest) l = absurd (omega arith)

same_written : (xs ys : List ℕ) (m n : ℕ) → length xs ≡ length ys → AreBytes xs → AreBytes ys → written m xs ≡ written n ys → (m ≡ n) × (xs ≡ ys)
same_written [] [] m n l low other e = (e, refl)
same_written [] (y ∷ ys) m n l low other e = absurd (omega (arith, l))
same_written (x ∷ xs) [] m n l low other e = absurd (omega (arith, l))
same_written (x ∷ xs) (y ∷ ys) m n l low other e =
    let rest = same_written xs ys (m * 256 + x) (n * 256 + y) (omega (arith, l)) (λ i. low (suc i)) (λ i. other (suc i)) e in
    let both : m * 256 + x ≡ n * 256 + y = rest.0 in
    let x_low : x < 256 = low 0 in
    let y_low : y < 256 = other 0 in
    let high : m ≡ n = omega (arith, both, x_low, y_low) in
    let first : x ≡ y = omega (arith, both, high) in
    (high, λ i. first i ∷ rest.1 i)

-- two names of the same value are the same
pub same_value : (name other : List ℕ) → IsName name → IsName other → value_of name ≡ value_of other → name ≡ other
same_value name other is is_other e =
    (same_written name other 0 0 (is.len ∙ sym is_other.len) is.bytes is_other.bytes (sym (value_is name is.len) ∙ e ∙ value_is other is_other.len)).1

compared : (x y : ℕ) → is_eq (nat_cmp x y) ≡ true → x ≡ y
compared x y e = grind arith

itself : (x : ℕ) → is_eq (nat_cmp x x) ≡ true
itself x = grind arith

both_or_none : (s t : Bool) → (s ≡ true → t ≡ true) → (t ≡ true → s ≡ true) → s ≡ t
both_or_none true t to back = sym (to refl)
both_or_none false false to back = refl
both_or_none false true to back = back refl

-- values are compared as names are
pub is_eq-values : (name other : List ℕ) → IsName name → IsName other → is_eq (nat_cmp (value_of name) (value_of other)) ≡ bytes_eq name other
is_eq-values name other is is_other =
    both_or_none (is_eq (nat_cmp (value_of name) (value_of other))) (bytes_eq name other)
    (λ e. (bytes_eq-Decides name other).1 (same_value name other is is_other (compared (value_of name) (value_of other) e)))
    (λ e. subst (λ (x : List ℕ). is_eq (nat_cmp (value_of name) (value_of x)) ≡ true) ((bytes_eq-Decides name other).0 e) (itself (value_of name)))
