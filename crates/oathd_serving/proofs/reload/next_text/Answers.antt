use Rattle.std.proofs.Common.{◌∙◌, Some, ap}
use Rattle.oathd_serving.specs.declared.watch.Found.{Found}
use Rattle.oathd_serving.proofs.ReloadLemmas.{refused_stays}
use Rattle.oathd_serving.proofs.reload.next_text.Goals as goal

pub returns-in-Err-clause-next : goal.returns-in-Err-clause-next
returns-in-Err-clause-next g c =
    refused_stays _ _ _ c.deref.result.now c.args.found c.in-Some-Text.other c.in-Err.refusal
    (c.in-Some-Text.is ∙ ap (λ (found : Found). Some found) c.in-Some-Text.field-0-is) c.deref.ensures.value c.in-Err.ensures.refused
