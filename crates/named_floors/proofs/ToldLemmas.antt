-- The rows and the boots that a node tells, one after the other.
use Rattle.std.proofs.Common.{◌≡◌, ℕ, zero, suc, ◌+◌, ◌<◌, ◌≤◌, List, [], ◌∷◌, ◌++◌, length, take, drop, get_or, Some, slice_get, sym, ap, ◌∙◌, append-nil, append_assoc, arith}
use Rattle.std.specs.Prelude.{IfSome}
use Rattle.std.proofs.Math.Seq.{drop-cons}
use Rattle.std.proofs.Math.ListN.{drop_of_length-le}
use Rattle.std.proofs.lemmas.Option.{none-some, same_Some}
use Rattle.floor_store.specs.Records.{RowRecord}
use Rattle.floors_file.specs.declared.named.HeardBoot.{HeardBoot}
use Rattle.floors_file.specs.declared.named.NamedFloor.{NamedFloor}
use Rattle.roster_sql.specs.declared.entry.Entry.{Entry}
use Rattle.named_floors.specs.Told.{told_boot, told_from, told_row, told_rows}

-- ---- rows

told_on : (place : ℕ) (roster : List Entry) (rows : List RowRecord) (entry : Entry) (next : ℕ) → slice_get roster place ≡ Some entry
    → IfSome (slice_get rows place) (λ row. row.next ≡ next) → place < length rows
    → told_rows (take (suc place) roster) (take (suc place) rows)
    ≡ told_rows (take place roster) (take place rows) ++ told_row entry next ∷ []
told_on place [] rows entry next at is within = absurd (none-some entry at)
told_on place (first ∷ roster) [] entry next at is within = absurd (omega (arith, within))
told_on zero (first ∷ roster) (row ∷ rows) entry next at is within =
    ap (λ (e : Entry). told_row e row.next ∷ []) (same_Some first entry at) ∙ ap (λ (n : ℕ). told_row entry n ∷ []) is
told_on (suc place) (first ∷ roster) (row ∷ rows) entry next at is within =
    ap (λ (l : List NamedFloor). told_row first row.next ∷ l) (told_on place roster rows entry next at is (omega (arith, within)))

-- one row more
pub told_next : (place : ℕ) (roster : List Entry) (rows : List RowRecord) (entry : Entry) (before after : List NamedFloor) (told : NamedFloor) (next : ℕ)
    → slice_get roster place ≡ Some entry → place < length rows → IfSome (slice_get rows place) (λ row. row.next ≡ next)
    → told ≡ told_row entry next → after ≡ before ++ told ∷ []
    → before ≡ told_rows (take place roster) (take place rows) → after ≡ told_rows (take (place + 1) roster) (take (place + 1) rows)
told_next place roster rows entry before after told next at within is same more so_far =
    let on : place + 1 ≡ suc place = omega arith in
    more ∙ ap (λ (l : List NamedFloor). l ++ told ∷ []) so_far
    ∙ ap (λ (row : NamedFloor). told_rows (take place roster) (take place rows) ++ row ∷ []) same
    ∙ sym (told_on place roster rows entry next at is within)
    ∙ sym (ap (λ (n : ℕ). told_rows (take n roster) (take n rows)) on)

-- ---- boots

-- one member more
pub heard_next : (node members member boot : ℕ) (heard : List ℕ) (all new whole : List HeardBoot) → member < length heard
    → boot ≡ get_or heard member boot → new ≡ all ++ told_boot node members member boot
    → all ++ told_from node members member (drop member heard) ≡ whole
    → new ++ told_from node members (member + 1) (drop (member + 1) heard) ≡ whole
heard_next node members member boot heard all new whole low is more so_far =
    let next : member + 1 ≡ suc member = omega arith in
    let parts : drop member heard ≡ boot ∷ drop (member + 1) heard =
    drop-cons heard member boot low ∙ (λ i. sym is i ∷ drop (sym next i) heard) in
    ap (λ (l : List HeardBoot). l ++ told_from node members (member + 1) (drop (member + 1) heard)) more
    ∙ append_assoc all (told_boot node members member boot) (told_from node members (member + 1) (drop (member + 1) heard))
    ∙ sym (ap (λ (l : List ℕ). all ++ told_from node members member l) parts) ∙ so_far

-- no member is left
pub heard_end : (node members member : ℕ) (heard : List ℕ) (all whole : List HeardBoot) → length heard ≤ member
    → all ++ told_from node members member (drop member heard) ≡ whole → all ≡ whole
heard_end node members member heard all whole past so_far =
    let none : drop member heard ≡ [] = drop_of_length-le heard past in
    sym (append-nil all) ∙ sym (ap (λ (l : List ℕ). all ++ told_from node members member l) none) ∙ so_far
