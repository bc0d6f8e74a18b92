use Rattle.std.proofs.Common.{◌≡◌, ◌+◌, ℕ, List, [], length, None, Some, slice_get, ◌<◌, ap, subst, sym}
use Rattle.std.specs.Option.{ForSome}
use Rattle.sqlite.specs.Held.{state}
use Rattle.sqlite.specs.State.{HasCleanDisk, Survives}
use Rattle.floor_store.specs.declared.fault.StoreFault.TheVariants.{Unusable}
use Rattle.floor_sql.specs.Held.{HasAudit, IsKept, IsStaged}
use Rattle.floor_sql.specs.Staged.{LacksRow, MakesAll, passes_in, with_boot}
use Rattle.floor_sql.specs.Stored.{Commits, MayCommit}
use Rattle.floor_sql.specs.declared.put.Put.{Put}
use Rattle.floor_sql.proofs.KeepLemmas.{done_audit, done_staged, done_writes, failed_writes, rows_with_boot, stored}
use Rattle.floor_sql.proofs.store.SqlStore.write_staged.Goals as goal

pub write_all-requires-clause-there : goal.write_all-requires-clause-there
write_all-requires-clause-there g c clean =
    let was = c.self.inside in
    let it = c.self.invariant.0 in
    let none : was.fault ≡ None = rw (← c.self.view_is) at c.requires.works in
    let mirrors = it.kept.tables clean (it.kept.is_open none clean) in
    record {
      format = mirrors.format;
      content = it.base;
      passes = mirrors.passes;
      schema = mirrors.schema;
      holds = mirrors.holds;
      counted = mirrors.counted;
      tokens = subst (λ (l : List Put). (i : ℕ) (p : Put) → slice_get l i ≡ Some p → p.token < length it.base.rows) (sym c.as_slice.ensures.value) it.known;
    }

pub returns-in-Err-clause-writes : goal.returns-in-Err-clause-writes
returns-in-Err-clause-writes g c =
    let was = c.self.inside in
    let store = g.S.Store in
    let it = c.self.invariant.0 in
    let none : was.fault ≡ None = rw (← c.self.view_is) at c.requires.works in
    let next : ForSome c.args.boot (λ b. b ≡ was.mirror.boot + 1) = λ b is. (let both = c.requires.next b is in rw (← c.self.view_is) at both.0) in
    let slice : c.as_slice.result.now ≡ was.staged.items = c.as_slice.ensures.value in
    let kept : IsKept store was.conn it.base was.passes None = subst (IsKept store was.conn it.base was.passes) none it.kept in
    let new = c.write_all.new.conn in
    let crash = subst (λ (l : List Put). Survives (state store was.conn) (state store new) (MayCommit (MakesAll was.passes l c.args.boot) (state store was.conn))) slice c.write_all.ensures.crash in
    rw (← c.self.view_is) (failed_writes store was.conn new it.base was.mirror was.staged.items was.passes c.args.boot kept it.replayed next crash was.fault c.in-Err.fault none)

pub invariant_of-self-2 : goal.invariant_of-self-2
invariant_of-self-2 g c =
    let was = c.self.inside in
    let store = g.S.Store in
    let it = c.self.invariant.0 in
    let none : was.fault ≡ None = rw (← c.self.view_is) at c.requires.works in
    let next : ForSome c.args.boot (λ b. b ≡ was.mirror.boot + 1) = λ b is. (let both = c.requires.next b is in rw (← c.self.view_is) at both.0) in
    let slice : c.as_slice.result.now ≡ was.staged.items = c.as_slice.ensures.value in
    let kept : IsKept store was.conn it.base was.passes None = subst (IsKept store was.conn it.base was.passes) none it.kept in
    let new = c.write_all.new.conn in
    let crash = subst (λ (l : List Put). Survives (state store was.conn) (state store new) (MayCommit (MakesAll was.passes l c.args.boot) (state store was.conn))) slice c.write_all.ensures.crash in
    let done = subst (λ (l : List Put). HasCleanDisk (state store new) → Commits (MakesAll was.passes l c.args.boot) (state store was.conn) (state store new)) slice c.in_default.ensures.ok in
    let total : was.passes + was.staged_passes ≡ was.passes + length (passes_in was.staged.items) = ap (λ (n : ℕ). was.passes + n) c.self.invariant.1 in
    let now : c.set_boot.new.self ≡ with_boot c.args.boot was.mirror = c.set_boot.ensures in
    let empty : c.clear.new.self.items ≡ [] = c.clear.ensures in
    let after = done_staged store was.conn new it.base was.mirror was.staged.items was.passes c.args.boot kept it.replayed next crash it.room c.write_all.ensures.idle done c.set_boot.new.self c.clear.new.self.items (was.passes + was.staged_passes) now empty total in (
      subst (IsStaged store new c.set_boot.new.self c.clear.new.self.items (was.passes + was.staged_passes)) (sym none) after,
      sym (ap (λ (l : List Put). length (passes_in l)) empty),
    )

pub returns-clause-writes : goal.returns-clause-writes
returns-clause-writes g c =
    let was = c.self.inside in
    let store = g.S.Store in
    let it = c.self.invariant.0 in
    let none : was.fault ≡ None = rw (← c.self.view_is) at c.requires.works in
    let next : ForSome c.args.boot (λ b. b ≡ was.mirror.boot + 1) = λ b is. (let both = c.requires.next b is in rw (← c.self.view_is) at both.0) in
    let slice : c.as_slice.result.now ≡ was.staged.items = c.as_slice.ensures.value in
    let kept : IsKept store was.conn it.base was.passes None = subst (IsKept store was.conn it.base was.passes) none it.kept in
    let new = c.write_all.new.conn in
    let crash = subst (λ (l : List Put). Survives (state store was.conn) (state store new) (MayCommit (MakesAll was.passes l c.args.boot) (state store was.conn))) slice c.write_all.ensures.crash in
    let done = subst (λ (l : List Put). HasCleanDisk (state store new) → Commits (MakesAll was.passes l c.args.boot) (state store was.conn) (state store new)) slice c.in_default.ensures.ok in
    let total : was.passes + was.staged_passes ≡ was.passes + length (passes_in was.staged.items) = ap (λ (n : ℕ). was.passes + n) c.self.invariant.1 in
    let now : c.set_boot.new.self ≡ with_boot c.args.boot was.mirror = c.set_boot.ensures in
    rw (← c.self.view_is) (done_writes store was.conn new it.base was.mirror was.staged.items was.passes c.args.boot kept it.replayed next crash it.room c.write_all.ensures.idle done c.clear.new.self.items was.fault (tt {0})
    c.set_boot.new.self (was.passes + was.staged_passes) none now (rows_with_boot c.args.boot was.mirror) (λ trees is_open may. g.met.S.Store.settled new.store trees is_open may))

pub returns-clause-audit : goal.returns-clause-audit
returns-clause-audit g c clean all had =
    let was = c.self.inside in
    let store = g.S.Store in
    let it = c.self.invariant.0 in
    let none : was.fault ≡ None = rw (← c.self.view_is) at c.requires.works in
    let next : ForSome c.args.boot (λ b. b ≡ was.mirror.boot + 1) = λ b is. (let both = c.requires.next b is in rw (← c.self.view_is) at both.0) in
    let slice : c.as_slice.result.now ≡ was.staged.items = c.as_slice.ensures.value in
    let kept : IsKept store was.conn it.base was.passes None = subst (IsKept store was.conn it.base was.passes) none it.kept in
    let new = c.write_all.new.conn in
    let crash = subst (λ (l : List Put). Survives (state store was.conn) (state store new) (MayCommit (MakesAll was.passes l c.args.boot) (state store was.conn))) slice c.write_all.ensures.crash in
    let done = subst (λ (l : List Put). HasCleanDisk (state store new) → Commits (MakesAll was.passes l c.args.boot) (state store was.conn) (state store new)) slice c.in_default.ensures.ok in
    let total : was.passes + was.staged_passes ≡ was.passes + length (passes_in was.staged.items) = ap (λ (n : ℕ). was.passes + n) c.self.invariant.1 in
    let now : c.set_boot.new.self ≡ with_boot c.args.boot was.mirror = c.set_boot.ensures in
    let empty : c.clear.new.self.items ≡ [] = c.clear.ensures in
    let held : HasAudit store (stored was.conn was.mirror was.staged.items was.passes was.fault) all = rw (← c.self.view_is) at had in
    done_audit store was.conn new it.base was.mirror was.staged.items was.passes c.args.boot kept it.replayed next crash it.room c.write_all.ensures.idle done c.set_boot.new.self c.clear.new.self.items (was.passes + was.staged_passes) was.fault now empty clean all held

pub returns-in-Err-clause-unusable : goal.returns-in-Err-clause-unusable
returns-in-Err-clause-unusable g c clean is =
    let was = c.self.inside in
    let store = g.S.Store in
    let slice : c.as_slice.result.now ≡ was.staged.items = c.as_slice.ensures.value in
    let fault : c.in-Err.fault ≡ Unusable = cc in
    rw (← c.self.view_is) (subst (λ (l : List Put). LacksRow (state store was.conn).now.trees l c.args.boot) slice (c.in-Err.ensures.unusable clean fault))
