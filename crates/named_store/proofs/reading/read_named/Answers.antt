use Rattle.std.proofs.Common.{refl, sym, subst, rules, arith}
use Rattle.sqlite.specs.Effect.{Database}
use Rattle.sqlite.specs.Held.{state}
use Rattle.sqlite.specs.State.{HasCleanDisk}
use Rattle.floor_sql.proofs.ReadLemmas.{read_then}
use Rattle.floor_sql.proofs.ReadOnlyLemmas.{fails, finds_unusable, reads_then}
use Rattle.floor_sql.proofs.UsableLemmas.{self_is}
use Rattle.roster_sql.specs.Read.{HasUsableEntry}
use Rattle.named_store.proofs.reading.read_named.Goals as goal

pub returns-then-own-node-clause-reads : goal.returns-then-own-node-clause-reads
returns-then-own-node-clause-reads g c = finds_unusable c.in_ok-own.ensures.reads.only refl (λ clean usable.
    let store = c.in_ok-own.ensures.reads.value clean in
    let it = self_is (state g.S.Store c.args.conn.now).now.trees 3 c.in_ok-own.own c.in_ok-own.tokens store.boot c.args.node usable.tokens store.self usable.self in
    let same = it.0 in search (same, rules))

pub returns-in_err-roster-clause-reads : goal.returns-in_err-roster-clause-reads
returns-in_err-roster-clause-reads g c =
    let s0 = state g.S.Store c.args.conn.now in
    let s1 = state g.S.Store c.node_of_named.new.conn in
    let s2 = state g.S.Store c.read_bond.new.conn in
    fails c.from_residual-in_err-roster.ensures.1 (reads_then (reads_then c.in_ok-own.ensures.reads.only c.in_ok-bond.ensures.only) c.in_err-roster.ensures.reads.only) (λ clean is usable.
    let clean2 : HasCleanDisk s2 = omega (arith, c.read_roster.ensures.reads.only.crash.clean) in
    let clean1 : HasCleanDisk s1 = omega (arith, c.read_bond.ensures.only.crash.clean) in
    let store = c.in_ok-own.ensures.reads.value clean1 in
    let it = self_is s0.now.trees 3 c.in_ok-own.own c.in_ok-own.tokens store.boot c.args.node usable.tokens store.self usable.self in
    let many = it.1 in
    let second = read_then s0 s1 s2 (c.in_ok-own.ensures.reads.only.read clean1) (c.in_ok-bond.ensures.only.read clean2) in
    c.in_err-roster.ensures.reads.unusable clean is
    (λ token low. subst (λ (d : Database). HasUsableEntry d.trees token) (sym second.now) (usable.entries token (omega (arith, low, many)))))
