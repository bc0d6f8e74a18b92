-- Each case meets all premises but one, which is refuted.
use Rattle.std.proofs.Common.{◌≡◌, ◌<◌, ◌≤◌, ⊎_elim, inl, inr, lit<, lit≤, refl, sym, ap, [], ◌∷◌, None, slice_index, arith}
use Rattle.std.proofs.lemmas.Option.{none-some, same_Some}
use Rattle.hmac_core.specs.Unfolded.sha1_steps
use Rattle.admit_core.specs.Examples.{right, wrong}
use Rattle.admit_core.specs.Fit.{code_at}
use Rattle.admit_core.specs.Throttle.{Failed, Accepted, IsOpenAfter}
use Rattle.admit_core.proofs.ThrottleLemmas.{spaces_failures}
use Rattle.admit_core.proofs.laws.entitlements_can_be_broken.Goals as goal

some-none : right ≡ None → ⊥
some-none e = none-some _ (sym e)

others : wrong ≡ right → ⊥
others e = let same : 87 ≡ 119 = ap (λ bytes. slice_index bytes 1) (same_Some _ _ e) in omega (arith, same)

closed_at_104 : IsOpenAfter (Failed 100 ∷ []) 104 → ⊥
closed_at_104 = ⊎_elim (λ (e : 1 ≡ 0). omega (arith, e)) (λ (l : 105 ≤ 104). omega (arith, l))

pub returns-clause-passwords : goal.returns-clause-passwords
returns-clause-passwords c = (refl, tt, tt, refl)

pub returns-clause-password_where_none_is : goal.returns-clause-password_where_none_is
returns-clause-password_where_none_is c h = some-none h

pub returns-clause-no_password : goal.returns-clause-no_password
returns-clause-no_password c h = none-some _ h

pub returns-clause-wrong_password : goal.returns-clause-wrong_password
returns-clause-wrong_password c h = others h

pub returns-clause-with_a_password : goal.returns-clause-with_a_password
returns-clause-with_a_password c h = some-none h.password

pub returns-clause-without_a_password : goal.returns-clause-without_a_password
returns-clause-without_a_password c h = none-some _ h.password

pub returns-clause-with_another_password : goal.returns-clause-with_another_password
returns-clause-with_another_password c h = others h.password

pub returns-clause-a_second_early : goal.returns-clause-a_second_early
returns-clause-a_second_early c h = closed_at_104 h.is_open

pub returns-clause-past_all_moments : goal.returns-clause-past_all_moments
returns-clause-past_all_moments c h = let e : 1099511627776 < 1099511627776 = h.in_range in omega (arith, e)

pub returns-clause-entitled : goal.returns-clause-entitled
unfolding code_at sha1_steps.first_words sha1_steps.schedule sha1_steps.rounds sha1_steps.compress sha1_steps.hash_after sha1_steps.digest_bytes sha1_steps.sha1
returns-clause-entitled c = record {
  in_range = lit< tt;
  password = refl;
  is_open = inr (lit≤ tt);
  fit = record {
    fits = (refl, refl);
    first = record { free = lit≤ tt; near = lit≤ tt; factor = lit< tt };
    last = record { free = lit≤ tt; near = lit≤ tt; factor = lit< tt };
    least = λ other_lo other_hi fits in_lo in_hi. omega arith;
  };
}

pub returns-clause-not_the_least : goal.returns-clause-not_the_least
unfolding code_at sha1_steps.first_words sha1_steps.schedule sha1_steps.rounds sha1_steps.compress sha1_steps.hash_after sha1_steps.digest_bytes sha1_steps.sha1
returns-clause-not_the_least c h = let e : 1 ≤ 0 = h.fit.least 0 0 (refl, refl) (record { free = lit≤ tt; near = lit≤ tt; factor = lit< tt }) (record { free = lit≤ tt; near = lit≤ tt; factor = lit< tt }) in omega (arith, e)

pub returns-clause-below_the_window : goal.returns-clause-below_the_window
returns-clause-below_the_window c h = let e : 1 ≤ 0 = h.fit.first.free in omega (arith, e)

pub returns-clause-beyond_the_window : goal.returns-clause-beyond_the_window
returns-clause-beyond_the_window c h = let e : 4 ≤ 3 = h.fit.last.near in omega (arith, e)

pub returns-clause-spaced : goal.returns-clause-spaced
returns-clause-spaced c = (
  spaces_failures (Failed 115 ∷ Failed 105 ∷ Failed 100 ∷ []) (inr (lit≤ tt), (inr (lit≤ tt), (inl refl, tt))),
  spaces_failures (Failed 100 ∷ Accepted ∷ Failed 100 ∷ []) (inl refl, (inl refl, tt)),
)

pub returns-clause-two_too_near : goal.returns-clause-two_too_near
returns-clause-two_too_near c h = let e : 210 ≤ 208 = h [] [] 100 104 [] 2 refl (lit≤ tt) (lit≤ tt) in omega (arith, e)

pub returns-clause-three_too_near : goal.returns-clause-three_too_near
returns-clause-three_too_near c h = let e : 230 ≤ 228 = h [] [] 100 114 (105 ∷ []) 3 refl (lit≤ tt) (lit≤ tt) in omega (arith, e)

pub returns-clause-older_too_near : goal.returns-clause-older_too_near
returns-clause-older_too_near c h = let e : 210 ≤ 208 = h (Failed 200 ∷ []) (Accepted ∷ []) 100 104 [] 2 refl (lit≤ tt) (lit≤ tt) in omega (arith, e)

pub returns-clause-ten_thousand : goal.returns-clause-ten_thousand
returns-clause-ten_thousand c newer older first last between h len = h newer older first last between 10000 refl (omega arith) (lit≤ tt)
