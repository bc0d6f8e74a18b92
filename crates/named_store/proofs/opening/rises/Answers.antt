use Rattle.std.proofs.Common.{◌≡◌, ◌<◌, ◌≤◌, ◌++◌, ℕ, List, length, take, get_or, ap, sym, subst, ◌∙◌, arith, rules}
use Rattle.std.specs.Option.{option_to_list}
use Rattle.std.proofs.lemmas.List.{length-append, take_all}
use Rattle.sqlite.specs.Held.{state}
use Rattle.sqlite.specs.State.{HasCleanDisk}
use Rattle.floor_sql.specs.declared.put.Put.{Put}
use Rattle.named_store.specs.Opened.{AreWithin, rises, seat_rise}
use Rattle.named_store.proofs.RiseLemmas.{few_more, puts_more, within_more}
use Rattle.named_store.proofs.opening.rises.Goals as goal

pub loop-seat-preserved : goal.loop-seat-preserved
loop-seat-preserved g c =
    let kept = c.loop-seat.invariant in
    let all = c.loop-seat.all.items in
    let put = c.in_ok-put.put in
    let pushed : c.push_some.new.all.items ≡ all ++ option_to_list put = c.in_ok-push_some.ensures.items in
    let n = c.loop-seat.seat-index in
    let seats = c.args.seats.now in
    let low : n < length seats = omega arith in
    record {
      items = λ clean. pushed ∙ puts_more (seat_rise c.args.roster.now c.args.store.now.mirror) all seats n _ put low (search rules)
          (c.in_ok-put.ensures.put clean) (kept.items clean);
      tokens = subst (AreWithin (length c.args.store.now.mirror.rows)) (sym pushed) (within_more (length c.args.store.now.mirror.rows) all put kept.tokens c.in_ok-put.ensures.token);
      count = few_more all put n _ pushed kept.count;
    }

pub returns-clause-puts : goal.returns-clause-puts
returns-clause-puts g c = λ clean.
    c.loop-seat.invariant.items clean ∙ ap (λ (l : List ℕ). rises c.args.roster.now l c.args.store.now.mirror) (take_all c.loop-seat.seat-index c.args.seats.now (omega arith))
