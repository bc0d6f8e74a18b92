use Rattle.std.proofs.Common.{◌+◌, ◌-◌, ◌∷◌, [], Ok, refl, sym, ap, ◌∙◌, arith}
use Rattle.token_file.specs.Reading.{Fails, Progress}
use Rattle.token_file.specs.UsersFile.{Instant}
use Rattle.token_file.proofs.ReadingLemmas.{fails_end, handed_on, step_end}
use Rattle.token_file.proofs.reading.Reading.take_end.Goals as goal

pub returns-in_err-end_line-clause-fault : goal.returns-in_err-end_line-clause-fault
returns-in_err-end_line-clause-fault c =
    let at : Instant = record { skew = c.args.settings.skew; moment = c.args.moment } in
    let e = c.in_err-end_line.ensures in
    handed_on c.from_residual.result c.in_err-end_line.field-0.0 (Fails at c.args.self.now (10 ∷ [])) c.from_residual.ensures.1
    (fails_end at c.args.self.now 10 c.in_err-end_line.field-0.0 (c.args.self.now.room - 1) refl (omega (arith, c.requires.room)) e.len e.line e.fault e.unread)

pub returns-clause-ok : goal.returns-clause-ok
returns-clause-ok c =
    let at : Instant = record { skew = c.args.settings.skew; moment = c.args.moment } in
    let i = c.self.inside in
    let e = c.in_ok-end_line.ensures in
    let room = ap (λ (p : Progress). p.room) c.self.view_is ∙ e.room in
    let import = ap (λ (p : Progress). p.import) c.self.view_is in
    let number = ap (λ (p : Progress). p.number) c.self.view_is ∙ e.number in
    step_end at c.args.self.now (record {
      number = i.number + 1;
      import = record { book = i.book; floors = i.floors.items };
      begun = c.clear.new.self.items;
      room = i.room - 1;
    }) 10 refl (omega (arith, c.requires.room, room)) (e.ok ∙ ap Ok (sym import)) (ap (λ n. n + 1) number) c.clear.ensures
