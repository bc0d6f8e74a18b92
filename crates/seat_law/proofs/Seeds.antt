-- Two acceptances of one device share no factor.
use Rattle.std.proofs.Common.{◌≡◌, ◌≢◌, ℕ, suc, ◌<◌, ◌≤◌, List, inl, inr, sym, subst, arith}
use Rattle.std.proofs.lemmas.Bool.{cases_order}
use Rattle.otp_core.specs.Acceptance.{Acceptance, HaveSingleUse, Uses}
use Rattle.vote_core.proofs.Basics.{quorum}
use Rattle.seat_law.specs.Seeds.{AreGivenUp, HaveSingleUseOfSeeds, IsGivenUp, KeepOrderOfSeeds}

module _ (floor : ℕ → ℕ → ℕ → ℕ) (seed : ℕ → ℕ) (a b : Acceptance) (same : seed a.token ≡ seed b.token) (factor : ℕ) (one : Uses a factor) (two : Uses b factor) (node : ℕ) where
  -- one row gave the factors up before the other
  before : (x y : ℕ) → IsGivenUp floor seed a node x → IsGivenUp floor seed b node y → x < y → ⊥
  before x y p q low =
      let gone = p.lets.used y low in
      let lower = q.greatest a.token same in
      omega (arith, gone, lower, q.lets.free, one.1, two.0)

module _ (floor : ℕ → ℕ → ℕ → ℕ) (seed : ℕ → ℕ) (a b : Acceptance) (same : seed a.token ≡ seed b.token) (factor : ℕ) (one : Uses a factor) (two : Uses b factor) (node : ℕ) where
  -- two rows gave the factors up in one event
  at_once : (x y : ℕ) → IsGivenUp floor seed a node x → IsGivenUp floor seed b node y → x ≡ y → a.token ≢ b.token → ⊥
  at_once x y p q is differ =
      let rises = p.lets.used (suc x) (omega arith) in
      let stays : floor node a.token (suc x) ≤ floor node a.token x = subst (λ (e : ℕ). floor node a.token (suc e) ≤ floor node a.token e) (sym is) (q.alone a.token same differ) in
      omega (arith, rises, stays, p.lets.free, one.0, one.1)

less_apart : (x y : ℕ) → x < y → x ≢ y
less_apart x y low e = omega (arith, low, e)

more_apart : (x y : ℕ) → y < x → x ≢ y
more_apart x y low e = omega (arith, low, e)

pub by_seed : (n : ℕ) (floor : ℕ → ℕ → ℕ → ℕ) (seed : ℕ → ℕ) (accepted : List Acceptance) → HaveSingleUse accepted → AreGivenUp n floor seed accepted
    → HaveSingleUseOfSeeds seed accepted
by_seed n floor seed accepted single given i j a b apart at_a at_b same factor one two =
    let first = given i a at_a in
    let last = given j b at_b in
    let meet = quorum n first.nodes last.nodes first.many last.many in
    let node = meet.0 in
    let p = first.each node meet.1 in
    let q = last.each node meet.2 in
    elim (cases_order p.0 q.0) [
      | inl together ↦
          elim (cases_order a.token b.token) [
            | inl token ↦ single.factors i j a b apart at_a at_b token factor one two
            | inr (inl low) ↦ at_once floor seed a b same factor one two node p.0 q.0 p.1 q.1 together (less_apart a.token b.token low)
            | inr (inr low) ↦ at_once floor seed a b same factor one two node p.0 q.0 p.1 q.1 together (more_apart a.token b.token low)
          ]
      | inr (inl low) ↦ before floor seed a b same factor one two node p.0 q.0 p.1 q.1 low
      | inr (inr low) ↦ before floor seed b a (sym same) factor two one node q.0 p.0 q.1 p.1 low
    ]

pub order_by_seed : (n : ℕ) (floor : ℕ → ℕ → ℕ → ℕ) (seed : ℕ → ℕ) (accepted : List Acceptance) → AreGivenUp n floor seed accepted → KeepOrderOfSeeds seed accepted
order_by_seed n floor seed accepted given i j a b at_a at_b same after =
    let first = given i a at_a in
    let last = given j b at_b in
    let meet = quorum n first.nodes last.nodes first.many last.many in
    let p = first.each meet.0 meet.1 in
    let q = last.each meet.0 meet.2 in
    let gone = p.1.lets.used q.0 (omega (arith, p.1.lets.before_it_ended, q.1.lets.after_it_began, after)) in
    omega (arith, gone, q.1.greatest a.token same, q.1.lets.free)

pub by_token : (accepted : List Acceptance) → HaveSingleUse accepted → HaveSingleUseOfSeeds (λ token. token) accepted
by_token accepted single i j a b apart at_a at_b same = single.factors i j a b apart at_a at_b same
