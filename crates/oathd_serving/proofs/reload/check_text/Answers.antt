use Rattle.std.proofs.Common.{◌∙◌, ◌<◌, sym, length, arith}
use Rattle.oathd_serving.proofs.ReloadLemmas.{refused_by, refused_empty, taken_text}
use Rattle.oathd_serving.proofs.reload.check_text.Goals as goal

pub returns-in-Ok-clause-refused : goal.returns-in-Ok-clause-refused
returns-in-Ok-clause-refused c =
    refused_empty _ _ _ c.in-Ok.named.users.book _ c.in-Ok.ensures.imported (sym c.len.ensures.value ∙ c.if-len-eq0.true)

pub returns-in-Ok-2-clause-taken : goal.returns-in-Ok-2-clause-taken
returns-in-Ok-2-clause-taken c =
    let some : 0 < length c.in-Ok.named.users.book = omega (arith, c.if-len-eq0.false, c.len.ensures.value) in
    taken_text _ _ _ c.in-Ok.named.users.book _ c.in-Ok.named.entries.items c.in-Ok.ensures.imported some c.in-Ok.named.distinct c.in-Ok.ensures.entries

pub returns-in-Err-clause-refused : goal.returns-in-Err-clause-refused
returns-in-Err-clause-refused c = refused_by _ _ _ c.in-Err.fault c.from.result c.in-Err.ensures.fault c.from.ensures
