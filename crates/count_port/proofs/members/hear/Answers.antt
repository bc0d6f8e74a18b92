use Rattle.std.proofs.Common.{◌<◌, false, length, set, get_or, None, ap, ◌∙◌, arith}
use Rattle.std.proofs.lemmas.List.{get_or_default}
use Rattle.std.proofs.lemmas.List.Edits.{map_over_more}
use Rattle.count_port.specs.Members.{heard}
use Rattle.count_port.specs.declared.members.Member.{Member}
use Rattle.count_port.proofs.members.hear.Goals as goal

pub loop-member-preserved : goal.loop-member-preserved
loop-member-preserved c =
    let xs = c.args.members.now in
    let ys = c.loop-member.members in
    let i = c.loop-member.member-index in
    let blank : Member = record { number = 0; quiets = None; differs = false } in
    let within : i < length ys = omega arith in
    ap (λ (y : Member). set ys i y) c.heard.ensures
    ∙ map_over_more (heard c.args.number) xs ys i (get_or ys i blank) (omega arith) c.loop-member.invariant (get_or_default ys i blank _ within)
