-- The fault of the users file and the ends of some first bytes of it are computed.
use Rattle.std.proofs.Common.{◌≡◌, ℕ, zero, suc, List, [], ◌++◌, length, take, Some, Result, Ok, Err, refl, sym, ap, subst, ◌∙◌, arith}
use Rattle.std.proofs.Math.Seq.{take-append_seam}
use Rattle.std.specs.Prelude.{codes}
use Rattle.otp_core.specs.Limits.{default_limits}
use Rattle.token_file.specs.UsersFile.{Import, IsCutOff, empty_import, instant_of, outcome_of}
use Rattle.token_file.specs.declared.fault.LineFault.{LineFault}
use Rattle.token_file.specs.declared.fault.LineFault.TheVariants.{Read}
use Rattle.oathd_sim.proofs.laws.simulations_can_be_broken.Goals as goal

pub returns-clause-unread : goal.returns-clause-unread
returns-clause-unread c = (λ of_text. refl, λ read. absurd cc)

pub returns-clause-unread_by_the_input : goal.returns-clause-unread_by_the_input
returns-clause-unread_by_the_input c = (empty_import, refl)

pub returns-clause-unread_past_the_longest : goal.returns-clause-unread_past_the_longest
returns-clause-unread_past_the_longest c = (λ of_text. refl, λ read. absurd cc)

-- the line of a fault
abbrev line_told : Result Import (ℕ × LineFault) → ℕ
line_told (Ok import) = 0
line_told (Err fault) = fault.0

-- the outcome of the first `n` bytes of a users file, if the text is cut off after them
abbrev outcome_after : ℕ → ℕ → List ℕ → ℕ → Result Import (ℕ × LineFault)
outcome_after moment longest text n = outcome_of (Some Read) longest (instant_of default_limits moment) (take n text)

taken_first : (text taken left : List ℕ) → text ≡ taken ++ left → taken ≡ take (length taken) text
taken_first text taken left parts = sym (take-append_seam taken left) ∙ ap (take (length taken)) (sym parts)

-- a text whose fault is at line 1 after any cut has no fault at line 2
not_cut : (moment longest : ℕ) (text : List ℕ) → ((n : ℕ) → line_told (outcome_after moment longest text n) ≡ 1)
    → IsCutOff Read longest (instant_of default_limits moment) text 2 → ⊥
not_cut moment longest text first h =
    let told : line_told (outcome_of (Some Read) longest (instant_of default_limits moment) h.taken) ≡ 2 = ap line_told h.outcome in
    let same = subst (λ t. line_told (outcome_of (Some Read) longest (instant_of default_limits moment) t) ≡ 2)
    (taken_first text h.taken h.left h.parts) told in
    let lines : 1 ≡ 2 = sym (first (length h.taken)) ∙ same in
    omega (arith, lines)

of_a_remark : (moment n : ℕ) → line_told (outcome_after moment 99 (codes "#") n) ≡ 1
of_a_remark moment zero = refl
of_a_remark moment (suc zero) = refl
of_a_remark moment (suc (suc n)) = refl

of_a_fault : (moment n : ℕ) → line_told (outcome_after moment 99 (codes "HOTP\n") n) ≡ 1
of_a_fault moment zero = refl
of_a_fault moment (suc zero) = refl
of_a_fault moment (suc (suc zero)) = refl
of_a_fault moment (suc (suc (suc zero))) = refl
of_a_fault moment (suc (suc (suc (suc zero)))) = refl
of_a_fault moment (suc (suc (suc (suc (suc zero))))) = refl
of_a_fault moment (suc (suc (suc (suc (suc (suc n)))))) = refl

of_two_bytes : (moment n : ℕ) → line_told (outcome_after moment 1 (codes "#\n") n) ≡ 1
of_two_bytes moment zero = refl
of_two_bytes moment (suc zero) = refl
of_two_bytes moment (suc (suc zero)) = refl
of_two_bytes moment (suc (suc (suc n))) = refl

of_nothing : (moment n : ℕ) → line_told (outcome_after moment 99 [] n) ≡ 1
of_nothing moment zero = refl
of_nothing moment (suc n) = refl

pub returns-clause-cut : goal.returns-clause-cut
returns-clause-cut c moment read = record { taken = codes "#\n#"; left = []; parts = refl; outcome = refl }

pub returns-clause-cut_at_another_line : goal.returns-clause-cut_at_another_line
returns-clause-cut_at_another_line c moment h = not_cut moment 99 (codes "#") (of_a_remark moment) (h refl)

pub returns-clause-cut_behind_a_fault : goal.returns-clause-cut_behind_a_fault
returns-clause-cut_behind_a_fault c moment h = not_cut moment 99 (codes "HOTP\n") (of_a_fault moment) (h refl)

pub returns-clause-cut_past_the_longest : goal.returns-clause-cut_past_the_longest
returns-clause-cut_past_the_longest c moment h = not_cut moment 1 (codes "#\n") (of_two_bytes moment) (h refl)

pub returns-clause-cut_behind_the_users : goal.returns-clause-cut_behind_the_users
returns-clause-cut_behind_the_users c moment h = not_cut moment 99 [] (of_nothing moment) (h refl)

pub returns-clause-cut_marker : goal.returns-clause-cut_marker
returns-clause-cut_marker c moment read = record { taken = codes "%%\n"; left = []; parts = refl; outcome = refl }

pub returns-clause-unread_cut : goal.returns-clause-unread_cut
returns-clause-unread_cut c = (λ of_text. absurd cc, λ read. record { taken = []; left = []; parts = refl; outcome = refl })

pub returns-clause-unread_cut_at_another_line : goal.returns-clause-unread_cut_at_another_line
returns-clause-unread_cut_at_another_line c h = not_cut 0 99 [] (of_nothing 0) (h.1 refl)
