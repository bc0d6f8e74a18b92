use Rattle.oathd_acts.proofs.PlainLemmas.{replaced_so}
use Rattle.oathd_acts.proofs.plain.remake_numbered.Goals as goal

pub returns : goal.returns
returns g c =
    replaced_so _ _ c.args.settings c.args.place c.args.moment c.args.former _ _ c.me.result c.in_ok-store.store c.me.ensures.value c.in_ok-store.ensures
    c.in_ok-write_store.ensures.written
