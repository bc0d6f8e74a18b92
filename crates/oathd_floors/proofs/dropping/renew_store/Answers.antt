use Rattle.std.proofs.Common.{◌∙◌, List, ap}
use Rattle.floor_store.specs.Records.{PassRecord}
use Rattle.retired_rows.specs.Renewed.{puts_of}
use Rattle.oathd_floors.proofs.DroppedLemmas.{are_of, is_renewed, read_list}
use Rattle.oathd_floors.proofs.dropping.renew_store.Goals as goal

pub renew-requires-clause-puts : goal.renew-requires-clause-puts
renew-requires-clause-puts g c =
    are_of c.args.kept.now c.deref-2.result.now c.in-Ok.made.floors.items c.in-Ok.made.puts.items c.deref-4.result.now c.deref-2.ensures.value
    c.in-Ok.ensures.floors c.deref-4.ensures.value c.in-Ok.ensures.within

pub returns-in-Ok-renew-clause-renewed : goal.returns-in-Ok-renew-clause-renewed
returns-in-Ok-renew-clause-renewed g c clean =
    let kept = c.args.kept.now in
    is_renewed g.S.Store c.args.node c.args.own.now kept c.args.store c.passes.new.self c.in_ok-passes.passes.items c.in_ok-boot.boot c.deref-2.result.now
    c.deref-3.result.now c.deref-4.result.now c.close-conn.result c.renew.new.conn c.renew.result _
    (read_list g.S.Store c.args.node c.args.own.now c.args.store c.passes.new.self c.in_ok-passes.passes c.in_ok-passes.passes.items c.in_ok-passes.ensures.reads)
    c.in_ok-passes.ensures.list
    (c.in_ok-boot.ensures.reads.ok clean) (c.deref-2.ensures.value ∙ c.in-Ok.ensures.floors) (c.deref-3.ensures.value ∙ c.in-Ok.ensures.entries)
    (c.deref-4.ensures.value ∙ c.in-Ok.ensures.puts ∙ ap (λ (passes : List PassRecord). puts_of kept passes) c.deref.ensures.value) c.close-conn.ensures.same
    c.in-Ok-renew.is c.renew.ensures
