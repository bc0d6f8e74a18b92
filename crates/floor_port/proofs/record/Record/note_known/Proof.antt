-- The body is empty. The borrow is closed at other boots.
use Rattle.std.proofs.Common.{[], ◌∷◌, refl}
use Rattle.std.proofs.raw_atomic.Walks.{proved}
use base.Fml.{ftrue, flft}
use base.Logic.{id⊢}
use mir.Syntax.{named}
use mir.Val.{vunit}
use types.Kit.{‵, ◌⊛◌, ◌$◌, ◌∵◌, !, qed, done, move, keep, use1, split, join, fsplit3, feq_i, suffices, frame, group}
use types.Run.{of_opd, unit_lit, returns, enter}
use types.ByLocal.{alloc_all, pass_all, free_all, look_at, sets}
use denote.Builtin.{u64}
use denote.Exit.{yes}
use denote.Ref.{MutRef, mut_vals, mut_Tells}
use denote.Slice.{ShrSlice, shr_slice_vals, shr_slice_Tells}
use denote.Signature.{plain}
use denote.Steps.{opens, closes}
use denote.Triple.Walked.{Stays, walk_of, says, stay_ref, Goes-ref, stay_none_slice, Goes-none_slice, ends_at}
use Rattle.floor_port.specs.declared.record.Record.{Record}
use Rattle.floor_port.specs.contracts.record.Record.note_known as f
use Rattle.floor_port.specs.contracts.record.Record.{the_row as R}
use Rattle.floor_port.proofs.record.Record.note_known.Statement.{statement}
use Rattle.floor_port.proofs.record.Record.note_known.Code as code

abbrev stayed : Stays f.ended.signature.params f.ended.kept
stayed = (stay_ref (0 ∷ []) tt (plain (λ _. R)), (stay_none_slice (1 ∷ []) tt (plain (λ _. u64)) yes, tt))

pub note_known_spec : {M : Type 1} → statement M
note_known_spec 𝓤 𝓛 𝓜 𝓡 wired =
    let c = f.clauses 𝓛 𝓜.mem 𝓡.returns in let W = walk_of 𝓛 f.ended stayed c in
    proved 𝓛 f.ended stayed c 𝓜 𝓡
    (Goes-ref 𝓛 2 0 tt (plain (λ _. R)), (Goes-none_slice 𝓛 2 (1 ∷ []) tt (plain (λ _. u64)) yes, tt))
    f.Key.name code.function (code.unfolded 𝓤 𝓛.H 𝓜 𝓡 wired)
    (λ κs. (mut_vals, (shr_slice_vals, tt)))
    (λ κs. (mut_Tells (named 0) κs.0 R, (shr_slice_Tells (named 1) κs.1.0 u64, tt))) (λ κs qs bounds a _ are.
    let b = a.0.ref_ptr.0 in let o = a.0.ref_ptr.1 in let h = a.0.now in let boots = a.1.0 in
    let y : W.Ghost = ((κs, qs, bounds, a, (mut_vals a.0, (shr_slice_vals boots, tt))), tt) in
    let after : Record = record h { start = record h.start { known = boots.now } } in
    qed 𝓛 (((‵ (flft κs.0 qs.0) ⊛ ‵ (flft κs.1.0 qs.1.0) ⊛ ‵ ftrue)
    ⊛ ‵ ((MutRef (named 0) κs.0 R).own_val a.0 (mut_vals a.0))
    ⊛ ‵ ((ShrSlice (named 1) κs.1.0 u64).own_val boots (shr_slice_vals boots)) ⊛ ‵ ftrue) ∷ ‵ ftrue ∷ []) ∵
    split ! $ split ! $ move ! (2 ∷ []) $ split ! $
    -- [self; the other parameters; self's token; the other tokens]
    keep ! (0 ∷ 2 ∷ 1 ∷ 3 ∷ []) $
    enter ! _ _ _ _ _ $
    alloc_all ! (λ l. pass_all ! refl ((tt, tt), ((tt, (tt, (record { fits = are.1.0.0.1.0 }, tt))), tt)) $
    fsplit3 ! $ move ! (1 ∷ 2 ∷ 3 ∷ []) $ opens ! tt R b o (λ us.
    sets ! (of_opd ! (unit_lit !)) refl (tt, tt) $
    move ! (1 ∷ []) $ use1 𝓛 (‵ (R.own_val after us)) (id⊢ 𝓤 _) $ move ! (1 ∷ 0 ∷ []) $ closes ! tt R after us b o $
    returns ! (look_at ! 0 refl) $ free_all ! refl $
    -- [two parts of self; its token; the first part of self; the other parameters; the other tokens]
    move ! (3 ∷ []) $
    suffices ! _ (ends_at 𝓛 f.ended stayed c y vunit tt (after, (tt, tt)) (tt, (tt, tt))) $ says ! refl $
    group ! 3 $ move ! (0 ∷ 2 ∷ []) $ join ! $ move ! (1 ∷ 2 ∷ []) $ join ! $ frame ! $ frame ! $
    feq_i ! _ (vunit ∷ []) _ refl $ done !)))
