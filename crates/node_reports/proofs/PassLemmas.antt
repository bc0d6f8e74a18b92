-- The reading of the audit list keeps a store's content.
use Rattle.std.proofs.Common.{◌≡◌, inl, inr, ◌≤◌, Option, Some, None, Result, Ok, Err, OnOk, OnErr, refl, ap, length, arith}
use Rattle.std.specs.Prelude.{is_some}
use Rattle.sqlite.specs.Store.{Ghosts}
use Rattle.sqlite.specs.State.{HasCleanDisk, Survives}
use Rattle.sqlite.specs.Held as sql
use Rattle.floor_store.specs.Content.{Content}
use Rattle.floor_store.specs.Held.{Puts}
use Rattle.floor_store.specs.declared.fault.StoreFault.{StoreFault}
use Rattle.floor_sql.specs.Calls.{ReadsAudit}
use Rattle.floor_sql.specs.Held.{Leaves, SqlHeld, failures_of, sql_held}

on_ok : {A E P : Type 0} (r : Result A E) → P → OnOk r P
on_ok (Ok x) p = p
on_ok (Err e) p = tt

on_err : {A E P : Type 0} (r : Result A E) → P → OnErr r P
on_err (Ok x) p = tt
on_err (Err e) p = p

fewer : (old new : Option StoreFault) → (let some : StoreFault → Option StoreFault = Some in (f : StoreFault) → old ≡ some f → new ≡ old)
    → failures_of old ≤ failures_of new
fewer None new stays = omega arith
fewer (Some f) None stays = absurd (let e = stays f refl in cc)
fewer (Some f) (Some e) stays = omega arith

module _ {S : Type 0} (g : Ghosts S) (old new : SqlHeld S) where
  left_so : Survives (sql.state g old.conn) (sql.state g new.conn) (λ _. ⊥) → (c : Content) → Leaves g new.conn c → Leaves g old.conn c
  left_so s c it =
      let before : HasCleanDisk (sql.state g old.conn) = let clean = s.clean in let now = it.clean in omega arith in
      elim (s.crash it.clean it.trees it.left) [
        | inl earlier ↦ record { clean = before; trees = it.trees; left = earlier; format = it.format; passes = it.passes; holds = it.holds }
        | inr none ↦ absurd none
      ]

  pub audit_keeps : {A : Type 0} (r : Result A StoreFault) → ReadsAudit g old new r → Puts (sql_held g) old new old.mirror r
  audit_keeps r h = record {
    makes = record {
      ok = λ clean. on_ok r h.content.0;
      err = λ clean. on_err r (inl h.content.0);
      stays = h.stays;
      count = fewer old.fault new.fault (λ f is. ap (λ (s : SqlHeld S). s.fault) (h.stays (ap is_some is)));
      clean = λ now. let clean = h.survives.clean in omega arith;
      tokens = ap (λ (c : Content). length c.rows) h.content.0;
    };
    left = λ c l. inl (left_so h.survives c l);
    intact = h.intact;
  }
