-- The body does nothing. The list is opened, and closed with the call at its end.
use Rattle.std.proofs.Common.{◌<◌, ◌^◌, ◌++◌, ℕ, List, [], ◌∷◌, length, refl, MutBor}
use seplogic.Ra.Ura.{Ura}
use mir.Syntax.{named}
use mir.Val.{Val, vunit, vptr}
use base.Fml.{Fml, GName, Lft, Share, ftrue, flft, fobs, fbor}
use base.Logic.{SProp, ent, sep, emp, via, fst∗, id⊢}
use prog.Memory.{Memory}
use prog.Routine.{Routine}
use prog.Wp.{Calls as CallTable, Loops, WpFn, Tables}
use types.Logic.{Logic, sem}
use types.Kit.{‵, ◌⊛◌, ◌$◌, ◌∵◌, !, qed, by, move, keep, drop, use1, split, join, fsplit, fsplit3, fjoin, fjoin3, feq_i, suffices, frame, done}
use types.Run.{unit_lit, of_opd, returns, enter}
use types.SemTy.{Body}
use types.ByLocal.{alloc_all, pass_all, free_all, look_at, sets}
use contract.Monad.{Fun}
use contract.Running.{tables, tables_of}
use sound.WpLaws.{WpFn-mono}
use denote.Builtin.{u8}
use denote.Exit.{yes}
use denote.Memory.{mem}
use denote.RattleType.{owns}
use denote.Ref.{Bor, MutRef, ShrRef, mut_vals, mut_Tells, shr_vals, shr_Tells}
use denote.Signature.{plain}
use denote.Slice.{ShrSlice, slice_val, shr_slice_vals, shr_slice_Tells}
use denote.Steps.{opens, closes}
use denote.Triple.Entry.{on_entry}
use denote.Triple.Spec.{Meets, triple_of}
use denote.Triple.Table.{entered}
use denote.Triple.Walked.{says, Stays, stay_ref, stay_none_ref, stay_none_slice, walk_of, AllGo, Goes-ref, Goes-none_ref, Goes-none_slice, Walks, ends_at, walked, walk_Meets}
use Rattle.udp_port.specs.declared.calls.Call.{Call}
use Rattle.udp_port.specs.declared.calls.Calls.{Calls}
use Rattle.udp_port.specs.contracts.calls.Call as call_row
use Rattle.udp_port.specs.contracts.calls.Calls as row
use Rattle.udp_port.specs.contracts.calls.Calls.note.Key.{name as #note}
use Rattle.udp_port.specs.contracts.calls.Calls.note as its
use Rattle.udp_port.proofs.calls.Calls.note.Statement as stated
use Rattle.udp_port.proofs.calls.Calls.note.Code as code

-- the values of the parameters: the list, a call and bytes
abbrev Passed : Type 0
Passed = MutBor Calls × (Bor Call × (Bor (List ℕ) × Unit {0}))

-- each parameter is owned to the end
abbrev kept : Stays (its.ended).signature.params (its.ended).kept
kept = (
  stay_ref (0 ∷ []) tt (plain (λ _. row.the_row)),
  (stay_none_ref (1 ∷ []) tt (plain (λ _. call_row.the_row)) yes, (stay_none_slice (2 ∷ []) tt (plain (λ _. u8)) yes, tt)),
)

module _ {M : Type 1} {𝓤 : Ura M} (𝓛 : Logic 𝓤) (at_mem : Memory → SProp 𝓤) (run : Routine → Fun 𝓤)
    (κ κ' κ'' : Lft) (q q' q'' : Share) (b o : ℕ) (γ : GName) (old : Calls) (call : Bor Call) (bytes : Bor (List ℕ)) where
  open 𝓛 use {H, A}

  abbrev passed : Passed
  passed = (record { ref_ptr = (b, o); ghost_name = γ; now = old }, (call, (bytes, tt)))

  abbrev new : Calls
  new = record { marker = old.marker; made = old.made ++ (call.now, bytes.now) ∷ [] }

  abbrev values : List Val × (List Val × (List Val × Unit {0}))
  values = (vptr b o ∷ [], (shr_vals call, (slice_val bytes.ref_ptr (length bytes.now) ∷ [], tt)))

  -- what is owned of the call and the bytes
  abbrev others : Fml
  others = owns (ShrRef (named 1) κ' call_row.the_row ∷ ShrSlice (named 2) κ'' u8 ∷ []) passed.1 values.1

  abbrev End : Val → SProp 𝓤
  End = (walk_of 𝓛 its.ended kept (its.clauses 𝓛 at_mem run)).post
      (((κ, (κ', (κ'', tt))), (q, (q', (q'', tt))), tt, passed, values), tt)

  ends : ent 𝓤 (sep 𝓤 (A.obs γ ((row.the_row).coded.code new)) (sep 𝓤 (A.bor κ (Body (mem row.the_row) b o γ)) (sep 𝓤 (A.lft κ q)
      (sep 𝓤 (sem 𝓛 others) (sep 𝓤 (A.lft κ' q') (sep 𝓤 (A.lft κ'' q'') (emp 𝓤))))))) (End vunit)
  ends =
      qed 𝓛 (‵ (fobs γ ((row.the_row).coded.code new)) ∷ ‵ (fbor κ (Body (mem row.the_row) b o γ)) ∷ ‵ (flft κ q) ∷ ‵ others
      ∷ (‵ (flft κ' q') ⊛ (‵ (flft κ'' q'') ⊛ ‵ ftrue)) ∷ []) ∵
      suffices ! _ (ends_at 𝓛 its.ended kept (its.clauses 𝓛 at_mem run)
      (((κ, (κ', (κ'', tt))), (q, (q', (q'', tt))), tt, passed, values), tt) vunit tt (new, (tt, (tt, tt))) (tt, (tt, (tt, tt)))) $
      says ! refl $
      move ! (2 ∷ 4 ∷ []) $
      join ! $
      frame ! $
      feq_i ! (List Val) (vptr b o ∷ []) (vptr b o ∷ []) refl $
      fjoin3 ! $
      fjoin ! $
      feq_i ! (List Val) (vunit ∷ []) (vunit ∷ []) refl $
      move ! (1 ∷ 0 ∷ []) $
      done !

  module _ (C : CallTable 𝓤 H) (Λ : Loops 𝓤 H) where
    walk : length bytes.now < 2 ^ 64
        → ent 𝓤 (on_entry 𝓛 its.signature (κ, (κ', (κ'', tt))) (q, (q', (q'', tt))) passed values)
        (WpFn 𝓤 H C Λ code.function (vptr b o ∷ vptr call.ref_ptr.0 call.ref_ptr.1 ∷ slice_val bytes.ref_ptr (length bytes.now) ∷ []) End)
    walk fits =
        qed 𝓛 ((‵ (flft κ q) ⊛ (‵ (flft κ' q') ⊛ (‵ (flft κ'' q'') ⊛ ‵ ftrue)))
        ∷ ‵ (owns (MutRef (named 0) κ row.the_row ∷ ShrRef (named 1) κ' call_row.the_row ∷ ShrSlice (named 2) κ'' u8 ∷ []) passed values)
        ∷ []) ∵
        split ! $
        move ! (2 ∷ []) $
        fsplit ! $
        fsplit3 ! $
        drop ! $
        move ! (0 ∷ 1 ∷ 3 ∷ []) $
        enter ! C Λ code.function (vptr b o ∷ vptr call.ref_ptr.0 call.ref_ptr.1 ∷ slice_val bytes.ref_ptr (length bytes.now) ∷ []) _ $
        alloc_all ! (λ l.
        pass_all ! refl ((tt, tt), ((tt, tt), ((tt, (tt, (record { fits = fits }, tt))), tt))) $
        move ! (0 ∷ 1 ∷ 2 ∷ []) $
        opens ! tt row.the_row {h = old} b o (λ vs.
        sets ! (of_opd ! (unit_lit !)) refl (tt, tt) $
        move ! (1 ∷ []) $
        use1 𝓛 (‵ ((row.the_row).own_val new vs)) (id⊢ 𝓤 _) $
        move ! (1 ∷ 0 ∷ []) $
        closes ! tt row.the_row new vs b o $
        returns ! (look_at ! 0 refl) $
        free_all ! refl $
        keep ! (0 ∷ 1 ∷ 2 ∷ 3 ∷ 4 ∷ []) $
        by ! ends))

module _ {M : Type 1} {𝓤 : Ura M} (𝓛 : Logic 𝓤) (at_mem : Memory → SProp 𝓤) (run : Routine → Fun 𝓤) where
  open 𝓛 use {H}

  walks : (C : CallTable 𝓤 H) (Λ : Loops 𝓤 H)
      → Walks 𝓛 its.ended kept (WpFn 𝓤 H C Λ code.function) (its.clauses 𝓛 at_mem run)
  walks C Λ =
      walked 𝓛 its.ended kept (its.clauses 𝓛 at_mem run) (WpFn 𝓤 H C Λ code.function)
      (λ κs. (mut_vals, (shr_vals, (shr_slice_vals, tt))))
      (λ κs. (mut_Tells (named 0) κs.0 row.the_row, (shr_Tells (named 1) κs.1.0 call_row.the_row, (shr_slice_Tells (named 2) κs.1.1.0 u8, tt))))
      (λ κs qs bounds a _ are. via 𝓤 _ (fst∗ 𝓤 _ (emp 𝓤)) (walk 𝓛 at_mem run κs.0 κs.1.0 κs.1.1.0 qs.0 qs.1.0 qs.1.1.0
      a.0.ref_ptr.0 a.0.ref_ptr.1 a.0.ghost_name a.0.now a.1.0 a.1.1.0 C Λ are.1.1.0.0.1.0))

  goes : AllGo 𝓛 3 (its.signature).params (its.ended).kept kept
  goes = (
    Goes-ref 𝓛 3 0 tt (plain (λ _. row.the_row)),
    (Goes-none_ref 𝓛 3 (1 ∷ []) tt (plain (λ _. call_row.the_row)) yes, (Goes-none_slice 𝓛 3 (2 ∷ []) tt (plain (λ _. u8)) yes, tt)),
  )

meets : {M : Type 1} {𝓤 : Ura M} (𝓛 : Logic 𝓤) → (at_mem : Memory → SProp 𝓤) (run : Routine → Fun 𝓤) (𝓣 : Tables 𝓤 𝓛.H)
    → Meets 𝓛 its.signature (WpFn 𝓤 𝓛.H 𝓣.C 𝓣.Λ code.function) (its.spec 𝓛 at_mem run)
meets {𝓤 = 𝓤} 𝓛 at_mem run 𝓣 =
    walk_Meets 𝓛 its.ended kept (goes 𝓛 at_mem run) (its.clauses 𝓛 at_mem run) (WpFn 𝓤 𝓛.H 𝓣.C 𝓣.Λ code.function)
    (WpFn-mono 𝓤 𝓛.H 𝓛.laws 𝓣 code.function) (walks 𝓛 at_mem run 𝓣.C 𝓣.Λ)

pub note_spec : {M : Type 1} → stated.statement M
unfolding tables_of
note_spec 𝓤 𝓛 𝓜 𝓡 wired =
    let at = tables 𝓤 𝓛.H 𝓜 𝓡 𝓡.env in
    entered 𝓤 𝓛.H (triple_of 𝓛 its.signature (its.spec 𝓛 𝓜.mem 𝓡.returns)) at.C at.Λ #note code.function
    (code.unfolded 𝓤 𝓛.H 𝓜 𝓡 wired) (meets 𝓛 𝓜.mem 𝓡.returns (tables_of 𝓤 𝓛.H 𝓜 at))
