-- A put and its commit are one write.
use Rattle.std.proofs.Common.{◌≡◌, ◌⊎◌, inl, inr, ⊎_elim, ℕ, Some, None, IsSome, refl, sym, ap, subst, ◌∙◌, arith}
use Rattle.std.specs.Prelude.{Result, Ok, Err, slice_get}
use Rattle.sqlite.specs.Held as sql
use Rattle.otp_core.specs.Gate.{GateRecord, clear_gate}
use Rattle.floor_store.specs.Content.{Content, with_row}
use Rattle.floor_store.specs.Held.{Commits, Held, MayWrite, OldOrNew, Puts}
use Rattle.floor_store.specs.Records.{RowRecord}
use Rattle.oathd_database.specs.Unlock.{unlocked_content, with_unlocked}

-- the row that was read, with another gate, is the one that is unlocked
pub unlocked_is : (content : Content) (token : ℕ) (row new : RowRecord) (gate : GateRecord) → new ≡ record row { gate = gate } → gate ≡ clear_gate
    → slice_get content.rows token ≡ Some row → with_row content token new None ≡ unlocked_content content token
unlocked_is content token row new gate changed cleared is =
    ap (λ r. with_row content token r None) (changed ∙ ap (λ (g : GateRecord). record row { gate = g }) cleared) ∙ ap (with_unlocked content token) (sym is)

module _ {S : Type 0} (held : S → Held) where
  -- a call that ends before its first write
  pub unwritten : {A E : Type 0} (store : S) (made : Content) (fault : E) → MayWrite {A = A} held store store made (Err fault)
  unwritten store made fault = record {
    makes = record {
      ok = λ clean. tt;
      err = λ clean. inl refl;
      stays = λ broken. refl;
      count = omega arith;
      clean = λ clean. clean;
      tokens = refl;
    };
    left = λ clean c left. inl left;
    settled = λ clean settled. tt;
    intact = λ works. tt;
  }

  module _ (old mid new : S) (put made : Content) (same : (held old).is_clean → put ≡ made) where
    -- the put fails
    pub put_fails : {A B E : Type 0} (fault : E) → Puts {A = A} held old mid put (Err fault) → MayWrite {A = B} held old mid made (Err fault)
    put_fails fault p = record {
      makes = record {
        ok = λ clean. tt;
        err = λ clean. subst (λ c. OldOrNew (held old).content c (held mid).content) (same (p.makes.clean clean)) (p.makes.err clean);
        stays = p.makes.stays;
        count = p.makes.count;
        clean = p.makes.clean;
        tokens = p.makes.tokens;
      };
      left = λ clean c left. subst (λ x. (held old).leaves c ⊎ (c ≡ x)) (same (p.makes.clean clean)) (p.left c left);
      settled = λ clean settled. tt;
      intact = λ works. tt;
    }

    -- what the put left before the commit, or all of it
    left_by : (c : Content) → (held old).is_clean → (held mid).is_clean → (held mid).content ≡ put → ((c : Content) → (held mid).leaves c → (held old).leaves c ⊎ (c ≡ put))
        → (held mid).leaves c ⊎ (c ≡ (held mid).content) → (held old).leaves c ⊎ (c ≡ made)
    left_by c clean mid_clean is left =
        ⊎_elim (λ before. subst (λ x. (held old).leaves c ⊎ (c ≡ x)) (same clean) (left c before)) (λ e. inr (e ∙ is ∙ same clean))

    -- the put is committed
    pub put_commits : {A B E F : Type 0} (done : A) (result : Result B F) → Puts {A = A} {E = E} held old mid put (Ok done)
        → Commits held mid new result → MayWrite held old new made result
    put_commits done (Ok x) p w = record {
      makes = record {
        ok = λ clean. w.makes.ok clean ∙ p.makes.ok (w.makes.clean clean) ∙ same (p.makes.clean (w.makes.clean clean));
        err = λ clean. tt;
        stays = λ broken. let some = subst IsSome p.intact.0 broken in absurd (cc);
        count = omega (arith, p.makes.count, w.makes.count);
        clean = λ clean. p.makes.clean (w.makes.clean clean);
        tokens = w.makes.tokens ∙ p.makes.tokens;
      };
      left = λ clean c left. left_by c (p.makes.clean (w.makes.clean clean)) (w.makes.clean clean) (p.makes.ok (w.makes.clean clean)) p.left (w.left c left);
      settled = λ clean settled. w.settled clean;
      intact = λ works. w.intact.1;
    }
    put_commits done (Err fault) p w = record {
      makes = record {
        ok = λ clean. tt;
        err = λ clean.
            let is = p.makes.ok (w.makes.clean clean) ∙ same (p.makes.clean (w.makes.clean clean)) in
            inr (⊎_elim (λ e. e ∙ is) (λ e. e ∙ is) (w.makes.err clean));
        stays = λ broken. let some = subst IsSome p.intact.0 broken in absurd (cc);
        count = omega (arith, p.makes.count, w.makes.count);
        clean = λ clean. p.makes.clean (w.makes.clean clean);
        tokens = w.makes.tokens ∙ p.makes.tokens;
      };
      left = λ clean c left. left_by c (p.makes.clean (w.makes.clean clean)) (w.makes.clean clean) (p.makes.ok (w.makes.clean clean)) p.left (w.left c left);
      settled = λ clean settled. tt;
      intact = λ works. tt;
    }
