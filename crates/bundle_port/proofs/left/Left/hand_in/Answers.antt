use Rattle.std.proofs.Common.{◌≡◌, ◌+◌, ◌∙◌, ℕ, true, leb, List, [], Option, length, drop, get_or, is_some, unwrap_or, sym, ap, arith}
use Rattle.std.proofs.lemmas.Bool.{leb-true}
use Rattle.bundle_port.specs.Bundle.{parts_behind, parts_from}
use Rattle.bundle_port.specs.Bundler.{LeftRecord, after_first}
use Rattle.bundle_port.proofs.WaitingLemmas.{HasFirst, first_left}
use Rattle.bundle_port.proofs.left.Left.hand_in.Goals as goal

abbrev left_of : ℕ → List (List ℕ) → LeftRecord
left_of from parts = record { from = from; parts = parts }

-- the first part that is left
first : (bytes : List ℕ) (from start : ℕ) (left : LeftRecord) → is_some (parts_from (drop start bytes) 0) ≡ true → left_of from (parts_behind start bytes) ≡ left → leb 1 (length left.parts) ≡ true
    → HasFirst bytes start (parts_behind start bytes)
first bytes from start left some is more =
    let same = ap (λ (l : LeftRecord). length l.parts) is in
    let one = leb-true 1 (length left.parts) more in
    first_left bytes start some (omega arith)

pub slice_bounds-copy_from_slice-end-3 : goal.slice_bounds-copy_from_slice-end-3
slice_bounds-copy_from_slice-end-3 c =
    let inside = c.self.inside in
    let f = first inside.bytes.items inside.from inside.start c.args.self.now c.self.invariant c.self.view_is c.requires in
    let len = ap (λ (l : List ℕ). get_or l inside.start 0) c.deref.ensures.0 ∙ f.len_is in
    let whole = ap length c.deref-2.ensures.0 in
    let last = f.end_within in
    omega (arith, len, whole, last)

pub invariant_of-self : goal.invariant_of-self
invariant_of-self c =
    let inside = c.self.inside in
    let bytes = inside.bytes.items in
    let f = first bytes inside.from inside.start c.args.self.now c.self.invariant c.self.view_is c.requires in
    let len = ap (λ (l : List ℕ). get_or l inside.start 0) c.deref.ensures.0 ∙ f.len_is in
    ap (λ (n : ℕ). is_some (parts_from (drop (inside.start + 1 + n) bytes) 0)) len ∙ ap is_some f.rest_is

pub returns-clause-after : goal.returns-clause-after
returns-clause-after c =
    let inside = c.self.inside in
    let bytes = inside.bytes.items in
    let f = first bytes inside.from inside.start c.args.self.now c.self.invariant c.self.view_is c.requires in
    let len = ap (λ (l : List ℕ). get_or l inside.start 0) c.deref.ensures.0 ∙ f.len_is in
    let rest = ap (λ (n : ℕ). parts_behind (inside.start + 1 + n) bytes) len ∙ ap (λ (o : Option (List (List ℕ))). unwrap_or o []) f.rest_is in
    ap (left_of inside.from) (rest ∙ sym (ap (drop 1) f.parts_are)) ∙ ap after_first c.self.view_is
