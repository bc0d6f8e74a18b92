-- The secret's text, the output of some first answers and the ends of some first bytes of a users file are computed.
use Rattle.std.proofs.Common.{◌≡◌, ℕ, zero, suc, List, [], ◌∷◌, ◌++◌, length, take, Some, Result, Ok, Err, refl, sym, ap, subst, ◌∙◌, arith, take_all}
use Rattle.std.proofs.Math.Seq.{take-append_seam}
use Rattle.std.specs.Prelude.{codes, slice_index}
use Rattle.hex.specs.Hex.{decode_pairs}
use Rattle.otp_core.specs.Limits.{default_limits}
use Rattle.secret_text.specs.Bits.{bits_of}
use Rattle.token_file.specs.UsersFile.{Import, IsCutOff, instant_of, outcome_of}
use Rattle.token_file.specs.declared.fault.LineFault.{LineFault}
use Rattle.token_file.specs.declared.fault.LineFault.TheVariants.{Read}
use Rattle.oathd_lines.specs.Run.{printed_lines}
use Rattle.oathd_lines.proofs.laws.runs_can_be_broken.Goals as goal

-- the answers of the run that is broken
abbrev two_answers : List (List ℕ)
two_answers = codes "OK 1 0" ∷ codes "NO 2 INVALID" ∷ []

-- the first answer comes first
not_second : (count : ℕ) → codes "NO 2 INVALID\n" ≡ printed_lines (take count two_answers) → ⊥
not_second zero e = let lengths : 13 ≡ 0 = ap (length {A = ℕ}) e in omega (arith, lengths)
not_second (suc n) e = let heads : 78 ≡ 79 = ap (λ (l : List ℕ). slice_index l 0) e in omega (arith, heads)

-- there are no more than two
not_more : (count : ℕ) → codes "OK 1 0\nNO 2 INVALID\n\n" ≡ printed_lines (take count two_answers) → ⊥
not_more zero e = let lengths : 21 ≡ 0 = ap (length {A = ℕ}) e in omega (arith, lengths)
not_more (suc zero) e = let lengths : 21 ≡ 7 = ap (length {A = ℕ}) e in omega (arith, lengths)
not_more (suc (suc n)) e =
    let all = e ∙ ap (λ (l : List (List ℕ)). printed_lines (codes "OK 1 0" ∷ codes "NO 2 INVALID" ∷ l)) (take_all n [] (omega arith)) in
    let lengths : 21 ≡ 20 = ap (length {A = ℕ}) all in
    omega (arith, lengths)

pub returns-clause-first_answers : goal.returns-clause-first_answers
returns-clause-first_answers c = (record { count = 1; written = refl }, (tt, record { count = 1; written = refl }))

pub returns-clause-memory : goal.returns-clause-memory
returns-clause-memory c h = not_second h.count h.written

pub returns-clause-memory_more : goal.returns-clause-memory_more
returns-clause-memory_more c h = not_more h.count h.written

-- the first answer is written whole
not_in_part : (count : ℕ) → codes "OK 1 0" ≡ printed_lines (take count two_answers) → ⊥
not_in_part zero e = let lengths : 6 ≡ 0 = ap (length {A = ℕ}) e in omega (arith, lengths)
not_in_part (suc zero) e = let lengths : 6 ≡ 7 = ap (length {A = ℕ}) e in omega (arith, lengths)
not_in_part (suc (suc n)) e =
    let all = e ∙ ap (λ (l : List (List ℕ)). printed_lines (codes "OK 1 0" ∷ codes "NO 2 INVALID" ∷ l)) (take_all n [] (omega arith)) in
    let lengths : 6 ≡ 20 = ap (length {A = ℕ}) all in
    omega (arith, lengths)

pub returns-clause-first : goal.returns-clause-first
returns-clause-first c = record { count = 1; written = refl }

pub returns-clause-first_in_part : goal.returns-clause-first_in_part
returns-clause-first_in_part c h = not_in_part h.count h.written

pub returns-clause-memory_users : goal.returns-clause-memory_users
returns-clause-memory_users c h = let lengths : 1 ≡ 0 = ap (length {A = ℕ}) h.written in omega (arith, lengths)

pub returns-clause-read : goal.returns-clause-read
returns-clause-read c h = not_second h.1.count h.1.written

pub returns-clause-read_more : goal.returns-clause-read_more
returns-clause-read_more c h = not_more h.1.count h.1.written

-- the line of a fault
abbrev line_told : Result Import (ℕ × LineFault) → ℕ
line_told (Ok import) = 0
line_told (Err fault) = fault.0

-- the outcome of the first `n` bytes of a users file, if the text is cut off after them
abbrev outcome_after : ℕ → ℕ → List ℕ → ℕ → Result Import (ℕ × LineFault)
outcome_after moment longest text n = outcome_of (Some Read) longest (instant_of default_limits moment) (take n text)

taken_first : (text taken left : List ℕ) → text ≡ taken ++ left → taken ≡ take (length taken) text
taken_first text taken left parts = sym (take-append_seam taken left) ∙ ap (take (length taken)) (sym parts)

-- a text whose fault is at line 1 after any cut has no fault at line 2
not_cut : (moment longest : ℕ) (text : List ℕ) → ((n : ℕ) → line_told (outcome_after moment longest text n) ≡ 1)
    → IsCutOff Read longest (instant_of default_limits moment) text 2 → ⊥
not_cut moment longest text first h =
    let told : line_told (outcome_of (Some Read) longest (instant_of default_limits moment) h.taken) ≡ 2 = ap line_told h.outcome in
    let same = subst (λ t. line_told (outcome_of (Some Read) longest (instant_of default_limits moment) t) ≡ 2)
    (taken_first text h.taken h.left h.parts) told in
    let lines : 1 ≡ 2 = sym (first (length h.taken)) ∙ same in
    omega (arith, lines)

of_a_remark : (moment n : ℕ) → line_told (outcome_after moment 99 (codes "#") n) ≡ 1
of_a_remark moment zero = refl
of_a_remark moment (suc zero) = refl
of_a_remark moment (suc (suc n)) = refl

of_a_fault : (moment n : ℕ) → line_told (outcome_after moment 99 (codes "HOTP\n") n) ≡ 1
of_a_fault moment zero = refl
of_a_fault moment (suc zero) = refl
of_a_fault moment (suc (suc zero)) = refl
of_a_fault moment (suc (suc (suc zero))) = refl
of_a_fault moment (suc (suc (suc (suc zero)))) = refl
of_a_fault moment (suc (suc (suc (suc (suc zero))))) = refl
of_a_fault moment (suc (suc (suc (suc (suc (suc n)))))) = refl

of_two_bytes : (moment n : ℕ) → line_told (outcome_after moment 1 (codes "#\n") n) ≡ 1
of_two_bytes moment zero = refl
of_two_bytes moment (suc zero) = refl
of_two_bytes moment (suc (suc zero)) = refl
of_two_bytes moment (suc (suc (suc n))) = refl

of_nothing : (moment n : ℕ) → line_told (outcome_after moment 99 [] n) ≡ 1
of_nothing moment zero = refl
of_nothing moment (suc n) = refl

pub returns-clause-cut : goal.returns-clause-cut
returns-clause-cut c moment read = record { taken = codes "#\n#"; left = []; parts = refl; outcome = refl }

pub returns-clause-cut_at_another_line : goal.returns-clause-cut_at_another_line
returns-clause-cut_at_another_line c moment h = not_cut moment 99 (codes "#") (of_a_remark moment) (h refl)

pub returns-clause-cut_behind_a_fault : goal.returns-clause-cut_behind_a_fault
returns-clause-cut_behind_a_fault c moment h = not_cut moment 99 (codes "HOTP\n") (of_a_fault moment) (h refl)

pub returns-clause-cut_past_the_longest : goal.returns-clause-cut_past_the_longest
returns-clause-cut_past_the_longest c moment h = not_cut moment 1 (codes "#\n") (of_two_bytes moment) (h refl)

pub returns-clause-cut_behind_the_users : goal.returns-clause-cut_behind_the_users
returns-clause-cut_behind_the_users c moment h = not_cut moment 99 [] (of_nothing moment) (h refl)

pub returns-clause-cut_marker : goal.returns-clause-cut_marker
returns-clause-cut_marker c moment read = record { taken = codes "%%\n"; left = []; parts = refl; outcome = refl }

pub returns-clause-secret : goal.returns-clause-secret
unfolding bits_of decode_pairs
returns-clause-secret c = (refl, refl)

pub returns-clause-secret_lf : goal.returns-clause-secret_lf
unfolding bits_of decode_pairs
returns-clause-secret_lf c h = let lengths : 16 ≡ 17 = ap (length {A = ℕ}) h.1 in omega (arith, lengths)
