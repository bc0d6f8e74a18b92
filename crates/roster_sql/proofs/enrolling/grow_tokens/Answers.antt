use Rattle.std.proofs.Common.{length, sym, ◌∙◌, arith}
use Rattle.std.proofs.lemmas.Bool.{eqb-false, eqb-true}
use Rattle.roster_sql.proofs.EnrolLemmas.{only_grows}
use Rattle.roster_sql.proofs.enrolling.grow_tokens.Goals as goal

pub returns-then-is_empty : goal.returns-then-is_empty
returns-then-is_empty g c =
    only_grows g.S.Store c.args.tokens c.args.count c.args.puts.now c.args.floors.now c.args.entries.now
    (eqb-true (length c.args.puts.now) 0 (sym c.is_empty.ensures ∙ c.if-is_empty.true)) c.append_tokens.ensures

pub put_and_append-requires-clause-can : goal.put_and_append-requires-clause-can
put_and_append-requires-clause-can g c clean =
    let some = eqb-false (length c.args.puts.now) 0 (sym c.is_empty.ensures ∙ c.if-is_empty.false) in
    (c.requires.can clean).can (omega (arith, some))
