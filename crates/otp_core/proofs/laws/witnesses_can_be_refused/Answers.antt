-- The floors are computed. The floors of all later events are above the factors.
use Rattle.std.proofs.Common.{◌≡◌, ℕ, ◌+◌, ◌<◌, ◌≤◌, true, nat_le, arith}
use Rattle.std.proofs.lemmas.Bool.Decides.{nat_tests}
use Rattle.otp_core.specs.Acceptance.{HasMajority, LetsGo, majority_of}
use Rattle.otp_core.specs.Examples.{floor_of_first, floor_until, witnessed}
use Rattle.otp_core.proofs.ExampleLemmas.{size-le-last}
use Rattle.otp_core.proofs.laws.witnesses_can_be_refused.Goals as goal

above : (last later : ℕ) → last < later → 5 < floor_until last 1 2 later
above last later h = grind (arith, nat_tests)

pub returns-clause-ends : goal.returns-clause-ends
returns-clause-ends c = (
  record { after_it_began = omega arith; before_it_ended = omega arith; free = omega arith; used = above 1 },
  record { after_it_began = omega arith; before_it_ended = omega arith; free = omega arith; used = above 3 },
)

pub returns-clause-early : goal.returns-clause-early
returns-clause-early c h = let e : 1 ≤ 0 = h.after_it_began in omega (arith, e)

pub returns-clause-late : goal.returns-clause-late
returns-clause-late c h = let e : 4 ≤ 3 = h.before_it_ended in omega (arith, e)

pub returns-clause-let_go_before : goal.returns-clause-let_go_before
returns-clause-let_go_before c h = let e : 6 ≤ 4 = h.free in omega (arith, e)

pub returns-clause-one_not_free : goal.returns-clause-one_not_free
returns-clause-one_not_free c h = let e : 5 ≤ 4 = h.free in omega (arith, e)

pub returns-clause-one_too_few : goal.returns-clause-one_too_few
returns-clause-one_too_few c h = let e : 5 < 5 = h.used 3 (omega arith) in omega (arith, e)

pub returns-clause-back : goal.returns-clause-back
returns-clause-back c later after h = let e = h.used later after in grind (arith, nat_tests, e)

-- the first k nodes let the factors go, and no other
lets_go : (k node : ℕ) → nat_le node k ≡ true → LetsGo (floor_of_first k) witnessed node 2
lets_go k node e = record {
  after_it_began = omega arith;
  before_it_ended = omega arith;
  free = grind (arith, nat_tests);
  used = λ later after. grind (arith, nat_tests, e, after);
}

is_first : (k node event : ℕ) → LetsGo (floor_of_first k) witnessed node event → node ≤ k
is_first k node event h = let u : 5 < floor_of_first k node 2 (event + 1) = h.used (event + 1) (omega arith) in grind (arith, nat_tests, u)

few : (n k : ℕ) → HasMajority n (floor_of_first k) witnessed → majority_of n ≤ k
few n k h =
    let within = size-le-last n k h.nodes (λ node e. let lets = h.each node e in is_first k node lets.0 lets.1) in
    let many = h.many in omega arith

pub returns-clause-enough : goal.returns-clause-enough
returns-clause-enough c = (
  record { nodes = λ node. nat_le node 1; many = omega arith; each = λ node e. (2, lets_go 1 node e) },
  record { nodes = λ node. nat_le node 2; many = omega arith; each = λ node e. (2, lets_go 2 node e) },
  record { nodes = λ node. nat_le node 2; many = omega arith; each = λ node e. (2, lets_go 2 node e) },
  record { nodes = λ node. nat_le node 3; many = omega arith; each = λ node e. (2, lets_go 3 node e) },
)

pub returns-clause-too_few : goal.returns-clause-too_few
returns-clause-too_few c = (
  λ h. let e : 1 ≤ 0 = few 1 0 h in omega (arith, e),
  λ h. let e : 2 ≤ 1 = few 2 1 h in omega (arith, e),
  λ h. let e : 2 ≤ 1 = few 3 1 h in omega (arith, e),
  λ h. let e : 3 ≤ 2 = few 4 2 h in omega (arith, e),
)
