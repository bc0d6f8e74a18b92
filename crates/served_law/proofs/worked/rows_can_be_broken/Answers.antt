-- An unknown name is told by its first byte, and another boot by the enrolments, which leave it.
use Rattle.std.proofs.Common.{◌≡◌, ℕ, zero, suc, ◌<◌, get_or, refl, sym, ap, ◌∙◌, arith}
use Rattle.std.specs.Prelude.{Contains}
use Rattle.roster_sql.specs.Examples.{entry_of}
use Rattle.named_port.specs.Examples.{name_with}
use Rattle.book_law.specs.Lives.{Store}
use Rattle.served_law.specs.Examples.{rows_of, three_names, three_tokens}
use Rattle.served_law.specs.Seated.{AreKnown, store_by_names}
use Rattle.served_law.proofs.Enrolled.{boot_kept}
use Rattle.served_law.proofs.worked.rows_can_be_broken.Goals as goal

not_at : (k : ℕ) → k < 3 → get_or three_names k (name_with 0xdd) ≡ name_with 0xdd → ⊥
not_at zero low e = let byte : 0xaa ≡ 0xdd = ap (λ l. get_or l 0 0) e in omega (arith, byte)
not_at (suc zero) low e = let byte : 0xbb ≡ 0xdd = ap (λ l. get_or l 0 0) e in omega (arith, byte)
not_at (suc (suc zero)) low e = let byte : 0xcc ≡ 0xdd = ap (λ l. get_or l 0 0) e in omega (arith, byte)
not_at (suc (suc (suc k))) low e = omega (arith, low)

not_known : AreKnown three_names (rows_of 0xbb 0xaa 0xdd) → ⊥
not_known known = let at : Contains three_names (name_with 0xdd) = known 2 (entry_of 0xdd 3) refl in not_at at.0 at.1 at.2

pub returns-clause-unknown_row : goal.returns-clause-unknown_row
returns-clause-unknown_row g c = not_known

pub returns-clause-rows_unknown : goal.returns-clause-rows_unknown
returns-clause-rows_unknown g c = λ own store h. not_known h.known

pub returns-clause-enrolled_elsewhere : goal.returns-clause-enrolled_elsewhere
returns-clause-enrolled_elsewhere g c = λ node own conn store rows none h. none h.content h.passes h.former h.was h.of_node

pub returns-clause-enrolled_in_another_boot : goal.returns-clause-enrolled_in_another_boot
returns-clause-enrolled_in_another_boot g c = λ node own conn store rows first later h.
    let boot : h.content.boot ≡ store.mirror.boot =
    sym (boot_kept three_tokens node three_names h.former h.puts h.new h.floors (store_by_names three_names h.former h.content)) ∙ ap (λ (s : Store). s.content.boot) h.after in
    let old : h.content.boot ≡ 4 = first h.content h.passes h.former h.was in
    omega (arith, boot, old, later)
