use Rattle.std.proofs.Common.{◌≡◌, ◌+◌, ◌<◌, ◌≤◌, ◌++◌, List, ap, length, map, subst, sym, ◌∙◌, arith}
use Rattle.std.specs.Prelude.{All}
use Rattle.std.proofs.lemmas.List.{take_all}
use Rattle.floor_store.specs.Records.{PassRecord}
use Rattle.floor_sql.specs.declared.put.Put.{Put}
use Rattle.retired_rows.specs.Renewed.{pass_put, puts_of, renumbered, row_puts}
use Rattle.retired_rows.proofs.RenewLemmas.{few_puts, passes_more, puts_within}
use Rattle.retired_rows.proofs.renewing.renewing_puts.Goals as goal

pub loop-pass-preserved : goal.loop-pass-preserved
loop-pass-preserved c =
    c.in_ok-push_some.ensures
    ∙ passes_more c.args.kept.now c.loop-pass.puts.items c.args.passes.now c.loop-pass.pass-index c.pass-item.result
    c.put_of-put.result
    c.loop-pass-test.true c.pass-item.is c.put_of-put.ensures c.loop-pass.invariant

pub returns-clause-within : goal.returns-clause-within
returns-clause-within c =
    let kept = c.args.kept.now in
    let passes = c.args.passes.now in
    let done = take_all c.loop-pass.pass-index passes (omega arith) in
    let whole : c.push_rows.new.puts.items ≡ puts_of kept passes =
    c.in_ok-push_rows.ensures
    ∙ ap (λ (l : List Put). l ++ row_puts kept)
    (c.loop-pass.invariant ∙ ap (λ (l : List PassRecord). map (pass_put kept) (renumbered kept l)) done) in
    subst (λ (l : List Put). All (λ (put : Put). put.token < length kept) l) (sym whole) (puts_within kept passes)

pub returns-clause-count : goal.returns-clause-count
returns-clause-count c =
    let kept = c.args.kept.now in
    let passes = c.args.passes.now in
    let done = take_all c.loop-pass.pass-index passes (omega arith) in
    let whole : c.push_rows.new.puts.items ≡ puts_of kept passes =
    c.in_ok-push_rows.ensures
    ∙ ap (λ (l : List Put). l ++ row_puts kept)
    (c.loop-pass.invariant ∙ ap (λ (l : List PassRecord). map (pass_put kept) (renumbered kept l)) done) in
    subst (λ (l : List Put). length l ≤ length passes + length kept) (sym whole) (few_puts kept passes)
