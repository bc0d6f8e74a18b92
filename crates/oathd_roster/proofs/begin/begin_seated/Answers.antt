use Rattle.std.proofs.Common.{◌≡◌}
use Rattle.floor_sql.specs.declared.read.Refusal.{Refusal}
use Rattle.floor_store.specs.declared.fault.StoreFault.TheVariants.{AlreadyThere}
use Rattle.oathd_roster.proofs.BegunLemmas.{begun_if}
use Rattle.oathd_roster.proofs.begin.begin_seated.Goals as goal

pub returns : goal.returns
returns g c = record {
  begun = begun_if g.S.Store c.args.node c.args.boot c.args.entries.now c.args.floors.now c.args.own.now c.args.conn c.make_named.new.conn c.open_created.result
      _ c.in_default.field-0 _ (λ (e : Refusal). e.0 ≡ AlreadyThere) c.in_default.ensures.made c.in_default.ensures.found c.open_created.ensures.seated
      c.open_created.ensures.each;
}
