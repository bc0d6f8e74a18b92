-- A content is told by a floor, its length or its pass.
use Rattle.std.proofs.Common.{◌≡◌, ℕ, [], ◌∷◌, length, Option, None, refl, sym, ap, ◌∙◌, arith, ⊎_elim, inl, inr, subst}
use Rattle.std.proofs.lemmas.Bool.{false≢true}
use Rattle.std.proofs.lemmas.Option.{none-some}
use Rattle.floor_store.specs.Content.{Content}
use Rattle.floor_store.specs.Records.{PassRecord}
use Rattle.vote_core.specs.Rows.{row}
use Rattle.name_law.specs.Examples.{floors, pass_of}
use Rattle.name_law.specs.Stores.{IsUnder}
use Rattle.name_law.proofs.worked.stores_below_can_be_broken.Goals as goal

abbrev floor_at : ℕ → Content → ℕ
floor_at place content = (row content place).next

abbrev last_of : Content → Option PassRecord
last_of content = content.last

pub returns-clause-same : goal.returns-clause-same
returns-clause-same c = refl

pub returns-clause-put : goal.returns-clause-put
returns-clause-put c = refl

pub returns-clause-put_with_a_pass : goal.returns-clause-put_with_a_pass
returns-clause-put_with_a_pass c = refl

pub returns-clause-put_in_two_rows : goal.returns-clause-put_in_two_rows
returns-clause-put_in_two_rows c = refl

pub returns-clause-raised_boot : goal.returns-clause-raised_boot
returns-clause-raised_boot c = refl

pub returns-clause-put_in_another_row : goal.returns-clause-put_in_another_row
returns-clause-put_in_another_row c h = let floor : 6 ≡ 5 = ap (floor_at 0) h in omega (arith, floor)

pub returns-clause-put_in_another_row_as_well : goal.returns-clause-put_in_another_row_as_well
returns-clause-put_in_another_row_as_well c h = let floor : 6 ≡ 5 = ap (floor_at 0) h in omega (arith, floor)

pub returns-clause-lost_row : goal.returns-clause-lost_row
returns-clause-lost_row c h = let many : 1 ≡ 2 = ap (λ (x : Content). length x.rows) h in omega (arith, many)

pub returns-clause-pass_of_another_row : goal.returns-clause-pass_of_another_row
returns-clause-pass_of_another_row c h = let none : pass_of 0 ≡ None = ap last_of h in none-some _ (sym none)

pub returns-clause-lost_pass : goal.returns-clause-lost_pass
returns-clause-lost_pass c h = let none : None ≡ pass_of 0 = ap last_of h in none-some _ none

pub returns-clause-keeps : goal.returns-clause-keeps
returns-clause-keeps c = record {
  content = λ clean. refl;
  leaves = λ clean left leaves. ⊎_elim (λ e. under left e) (λ e. under left e) leaves;
}
  where
    under : (left : Content) → left ≡ floors 5 7 None → IsUnder (1 ∷ []) (floors 5 9 None) left
    under left e = subst (λ d. IsUnder (1 ∷ []) (floors 5 9 None) d) (sym e) refl

pub returns-clause-keeps_not : goal.returns-clause-keeps_not
returns-clause-keeps_not c h = let floor : 6 ≡ 5 = ap (floor_at 0) (h.content refl) in omega (arith, floor)

pub returns-clause-keeps_not_by_a_stop : goal.returns-clause-keeps_not_by_a_stop
returns-clause-keeps_not_by_a_stop c h = let floor : 6 ≡ 5 = ap (floor_at 0) (h.leaves refl (floors 6 9 None) (inr refl)) in omega (arith, floor)

pub returns-clause-fallen : goal.returns-clause-fallen
returns-clause-fallen c = record { content = λ clean. absurd (false≢true clean); leaves = λ clean left leaves. absurd (false≢true clean) }

pub returns-clause-leaves : goal.returns-clause-leaves
returns-clause-leaves c = record { below = floors 5 7 None; left = inl refl; is = refl }

pub returns-clause-leaves_another_row : goal.returns-clause-leaves_another_row
returns-clause-leaves_another_row c h =
    let kept : h.below ≡ floors 6 7 None = ⊎_elim (λ e. e) (λ e. e) h.left in
    let floor : 6 ≡ 5 = ap (floor_at 0) (sym kept ∙ h.is) in
    omega (arith, floor)

pub returns-clause-leaves_another_floor : goal.returns-clause-leaves_another_floor
returns-clause-leaves_another_floor c h =
    let kept : h.below ≡ floors 5 7 None = ⊎_elim (λ e. e) (λ e. e) h.left in
    let floor : 7 ≡ 8 = ap (floor_at 1) (sym kept ∙ h.is) in
    omega (arith, floor)
