use Rattle.std.proofs.Common.{◌≡◌, [], None, refl, rules}
use Rattle.floor_sql.specs.Held.{IsKept}
use Rattle.floor_sql.proofs.KeepLemmas.{idle_invariant, leaves_mirror}
use Rattle.floor_sql.proofs.store.SqlStore.open_as.Goals as goal

pub returns-clause-content : goal.returns-clause-content
returns-clause-content g c =
    let conn = c.read_tables.new.conn in
    let kept : IsKept g.S.Store conn c.in-Ok.read.0 c.in-Ok.read.1 None = search rules in
    record {
      content = search rules;
      sound = record {
        idle = search rules;
        works = refl;
        settled = leaves_mirror g.S.Store conn c.in-Ok.read.0 c.in-Ok.read.1 kept
            (λ trees is_open may. g.met.S.Store.settled conn.store trees is_open may);
      };
      kept = record { idle = search rules; read = search rules; survives = search rules };
    }

pub invariant_of-result : goal.invariant_of-result
invariant_of-result g c =
    let conn = c.read_tables.new.conn in
    let read = c.in-Ok.read in
    let kept : IsKept g.S.Store conn read.0 read.1 None = search rules in
    let nothing : c.new.result.items ≡ [] = search rules in
    idle_invariant g.S.Store conn read.0 c.new.result.items read.1 None 0 kept nothing refl
