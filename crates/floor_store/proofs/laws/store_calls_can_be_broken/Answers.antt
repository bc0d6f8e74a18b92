-- A promise of every content that a stop may leave is asked about the one that breaks it.
use Rattle.std.proofs.Common.{◌≡◌, ◌⊎◌, inl, inr, ℕ, refl, ap, arith}
use Rattle.floor_store.specs.Broken.{booted}
use Rattle.floor_store.specs.Content.{Content}
use Rattle.floor_store.proofs.laws.store_calls_can_be_broken.Goals as goal

-- the boots of contents without tokens distinguish them
same_boot : (a b : ℕ) → booted a ≡ booted b → a ≡ b
same_boot a b e = ap (λ (content : Content). content.boot) e

-- boot 2 is neither boot 0 nor boot 1
neither : ((booted 2 ≡ booted 0) ⊎ (booted 2 ≡ booted 0)) ⊎ (booted 2 ≡ booted 1) → ⊥
neither (inl (inl e)) = let x = same_boot 2 0 e in omega (arith, x)
neither (inl (inr e)) = let x = same_boot 2 0 e in omega (arith, x)
neither (inr e) = let x = same_boot 2 1 e in omega (arith, x)

-- boot 0 is not boot 1
not_next : booted 0 ≡ booted 1 → ⊥
not_next e = let x = same_boot 0 1 e in omega (arith, x)

pub returns-clause-not_settled : goal.returns-clause-not_settled
returns-clause-not_settled c h = not_next (h (booted 0) (inr refl))

pub returns-clause-puts_left : goal.returns-clause-puts_left
returns-clause-puts_left c h = neither (h.left (booted 2) (inr refl))

pub returns-clause-writes_left : goal.returns-clause-writes_left
returns-clause-writes_left c h = neither (h.left (booted 2) (inr refl))

pub returns-clause-writes_settled : goal.returns-clause-writes_settled
returns-clause-writes_settled c h = not_next (h.settled refl (booted 0) (inr refl))

pub returns-clause-commits_all : goal.returns-clause-commits_all
returns-clause-commits_all c h = not_next (h.settled refl (booted 0) (inr refl))

pub returns-clause-may_put_left : goal.returns-clause-may_put_left
returns-clause-may_put_left c h = neither (h.left refl (booted 2) (inr refl))

pub returns-clause-may_write_left : goal.returns-clause-may_write_left
returns-clause-may_write_left c h = neither (h.left refl (booted 2) (inr refl))

pub returns-clause-may_write_settled : goal.returns-clause-may_write_settled
returns-clause-may_write_settled c h = not_next (h.settled refl (λ content l. elim l [ inl e ↦ e | inr e ↦ e ]) (booted 0) (inr refl))

-- a stop may have left boot 1 before, so it may leave boot 0 now
pub returns-clause-may_write_unsettled : goal.returns-clause-may_write_unsettled
returns-clause-may_write_unsettled c = record {
  makes = record {
    ok = λ clean. refl;
    err = search;
    stays = λ broken. absurd cc;
    count = omega arith;
    clean = λ clean. clean;
    tokens = refl;
  };
  left = λ clean content l. elim l [ inl e ↦ inr e | inr e ↦ inl (inl e) ];
  settled = λ clean settled. let e = same_boot 1 0 (settled (booted 1) (inr refl)) in absurd (omega (arith, e));
  intact = λ works. refl;
}
