use Rattle.std.proofs.Common.{◌≡◌, ℕ, ◌-◌, ◌<◌, ◌≤◌, arith, ℤ, pos, neg_ℤ, refl, subst, sym, to_z, w64}
use Rattle.std.proofs.lemmas.Int.{ints}
use Rattle.oathtool_core.specs.Codes.{Matches}
use Rattle.oathtool_core.specs.Offset.{IsNearestOffset}
use Rattle.oathtool_core.proofs.OffsetLemmas.{nearest_after, nearest_before, none_more}
use Rattle.oathtool_core.proofs.offset.find_offset_totp.Goals as goal
use Rattle.oathtool_core.proofs.offset.find_offset_totp.Goals.{in-Some+else-matches, in_default}

pub returns-then-matches-clause-some : goal.returns-then-matches-clause-some
returns-then-matches-clause-some c =
    let d : ℕ = c.loop-distance.distance in
    let found : IsNearestOffset c.args.generator c.args.otp.now c.args.step c.args.window (neg_ℤ (pos c.loop-distance.distance)) =
    nearest_before c.args.generator c.args.otp.now c.args.step c.args.window c.loop-distance.distance c.in-Some.before
    (omega arith) c.in-Some.ensures.value (c.matches.ensures.0 c.if-matches.true) c.loop-distance.invariant in
    subst (λ (z : ℤ). IsNearestOffset c.args.generator c.args.otp.now c.args.step c.args.window z) (omega (arith, ints)) found

pub returns-then-matches-2-clause-some : goal.returns-then-matches-2-clause-some
returns-then-matches-2-clause-some c =
    let before : c.loop-distance.distance ≤ c.args.step
    → Matches c.args.generator c.args.otp.now (c.args.step - c.loop-distance.distance) → ⊥ =
    elim c.match-factor_before.branch [
      | in-Some+else-matches w ↦ λ le m.
          let here : Matches c.args.generator c.args.otp.now w.in-Some.before =
          subst (λ (k : ℕ). Matches c.args.generator c.args.otp.now k) (omega (arith, w.in-Some.ensures.value)) m in
          let found = w.matches.ensures.1 here in
          cc (found, w.if-matches.false)
      | in_default w ↦ λ le m. let below : c.args.step < c.loop-distance.distance = w.in_default.ensures.none.0 refl in absurd (omega arith)
    ] in
    let found : IsNearestOffset c.args.generator c.args.otp.now c.args.step c.args.window (pos c.loop-distance.distance) =
    nearest_after c.args.generator c.args.otp.now c.args.step c.args.window c.loop-distance.distance
    (omega arith)
    (subst (λ (k : ℕ). Matches c.args.generator c.args.otp.now k) c.factor_after.ensures (c.matches-in-loop-distance.ensures.0 c.if-matches-2.true))
    c.loop-distance.invariant (λ positive le m. before le m) in
    let e : pos c.loop-distance.distance ≡ to_z w64 c.loop-distance.distance = omega (arith, ints) in
    subst (λ (z : ℤ). IsNearestOffset c.args.generator c.args.otp.now c.args.step c.args.window z) e found

pub loop-distance-preserved : goal.loop-distance-preserved
loop-distance-preserved c =
    let before : c.loop-distance.distance ≤ c.args.step
    → Matches c.args.generator c.args.otp.now (c.args.step - c.loop-distance.distance) → ⊥ =
    elim c.match-factor_before.branch [
      | in-Some+else-matches w ↦ λ le m.
          let here : Matches c.args.generator c.args.otp.now w.in-Some.before =
          subst (λ (k : ℕ). Matches c.args.generator c.args.otp.now k) (omega (arith, w.in-Some.ensures.value)) m in
          let found = w.matches.ensures.1 here in
          cc (found, w.if-matches.false)
      | in_default w ↦ λ le m. let below : c.args.step < c.loop-distance.distance = w.in_default.ensures.none.0 refl in absurd (omega arith)
    ] in
    none_more c.args.generator c.args.otp.now c.args.step c.loop-distance.distance c.loop-distance.invariant
    (λ m. let here : Matches c.args.generator c.args.otp.now c.factor_after.result =
    subst (λ (k : ℕ). Matches c.args.generator c.args.otp.now k) (sym c.factor_after.ensures) m in
    let found = c.matches-in-loop-distance.ensures.1 here in
    cc (found, c.if-matches-2.false))
    before
