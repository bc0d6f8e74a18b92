use Rattle.std.proofs.Common.{replicate}
use Rattle.floors_file.specs.Named.{named_value}
use Rattle.oathd_floors.specs.Told.{telling_of}
use Rattle.oathd_floors.proofs.ToldLemmas.{telling_is, told_text}
use Rattle.oathd_floors.proofs.telling.tell_named_floors.Goals as goal

pub returns-clause-told : goal.returns-clause-told
returns-clause-told g c =
    let own = c.args.cluster.now.bond in
    let roster = c.in_ok-roster.roster.items in
    let store = c.in_ok-roster.store in
    record {
      roster = roster;
      store = store;
      opened = c.in_ok-roster.ensures.opened;
      written = λ clean. told_text c.args.key.now (telling_of c.args.node c.args.moment own) _ roster c.deref.result.now (replicate 10 0) store.mirror
          (named_value c.in_ok-floors.floors) (g.W.Write.contents c.args.writer.now) (g.W.Write.contents c.write_flushed.new.writer)
          (telling_is c.args.node c.args.moment c.members.result c.names.result.now c.life.result.now own c.members.ensures c.names.ensures c.life.ensures)
          c.deref.ensures.value (c.in_ok-floors.ensures.told clean) c.in_ok-write_flushed.ensures.written;
    }
