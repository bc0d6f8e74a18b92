-- Quiet turns keep their pace.
use Rattle.std.proofs.Common.{◌≡◌, ℕ, List, [], ◌∷◌, ◌+◌, ◌*◌, ◌<◌, ◌≤◌, ◌&&◌, nat_lt, arith}
use Rattle.std.specs.Prelude.{nat_le}
use Rattle.std.proofs.lemmas.Bool.{cond_both, leb-true}
use Rattle.std.proofs.lemmas.Bool.Decides.{nat_tests}
use Rattle.udp_port.specs.Pace.{AreClose, AreUpTo, Paced, due_after, last_of, paced_of, with_quiet}

-- a quiet turn that was due is due again an interval later at least, and within an interval
after : (moment due : ℕ) → due ≤ moment → (due + 200 ≤ due_after moment due) × (due_after moment due ≤ moment + 200)
after moment due h =
    cond_both (nat_le due moment && nat_lt moment (due + 200)) (due + 200) (moment + 200)
    (λ (next : ℕ). (due + 200 ≤ next) × (next ≤ moment + 200))
    (λ e. (omega (arith, h), omega (arith, h))) (λ e. (omega (arith, h), omega arith))

-- one that came less than an interval late is due again an interval after it was due
on_time : (moment due : ℕ) → due ≤ moment → moment < due + 200 → due_after moment due ≡ due + 200
on_time moment due h late = grind (arith, nat_tests)

pub most_quiets : (due last : ℕ) (moments : List ℕ) → due ≤ last + 200 → AreUpTo last moments
    → due + 200 * (paced_of due moments).quiets ≤ last + 200
most_quiets due last [] d h = omega (arith, d)
most_quiets due last (moment ∷ rest) d h =
    cond_both (nat_le due moment) (with_quiet (paced_of (due_after moment due) rest)) (paced_of due rest)
    (λ (p : Paced). due + 200 * p.quiets ≤ last + 200)
    (λ e.
    let next = after moment due (leb-true due moment e) in
    let rest_is = most_quiets (due_after moment due) last rest (omega (arith, next.1, h.0)) h.1 in
    omega (arith, rest_is, next.0))
    (λ e. most_quiets due last rest d h.1)

pub all_quiets : (before due : ℕ) (moments : List ℕ) → before < due → due ≤ before + 200 → AreClose before moments
    → last_of before moments < due + 200 * (paced_of due moments).quiets
all_quiets before due [] b d h = omega (arith, b)
all_quiets before due (moment ∷ rest) b d h =
    cond_both (nat_le due moment) (with_quiet (paced_of (due_after moment due) rest)) (paced_of due rest)
    (λ (p : Paced). last_of moment rest < due + 200 * p.quiets)
    (λ e.
    let is = on_time moment due (leb-true due moment e) (omega (arith, b, h.1)) in
    let rest_is = all_quiets moment (due_after moment due) rest (omega (arith, b, h.1, is)) (omega (arith, is, leb-true due moment e)) h.2 in
    omega (arith, rest_is, is))
    (λ e. all_quiets moment due rest (grind (arith, nat_tests)) (omega (arith, d, h.0)) h.2)
