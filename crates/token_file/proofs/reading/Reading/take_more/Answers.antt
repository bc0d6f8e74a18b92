use Rattle.std.proofs.Common.{◌≡◌, ◌-◌, ◌∷◌, [], length, refl, ap, subst, arith}
use Rattle.std.proofs.lemmas.Bool.Decides.{nat_tests}
use Rattle.token_file.specs.Reading.{Leads, Progress}
use Rattle.token_file.proofs.ReadingLemmas.{fails_long, step_byte}
use Rattle.token_file.proofs.reading.Reading.take_more.Goals as goal

pub returns-then-is_full-clause-fault : goal.returns-then-is_full-clause-fault
returns-then-is_full-clause-fault c = λ at.
    let begun = ap (λ (p : Progress). length p.begun) c.self.view_is in
    let full : length c.self.inside.line.items ≡ 4096 = grind (arith, nat_tests) in
    fails_long at c.args.self.now c.args.byte c.fault.result (c.args.self.now.room - 1) (grind (arith, nat_tests, c.requires.byte)) (omega (arith, c.requires.room)) (omega (arith, begun, full)) c.fault.ensures.fault

pub returns-clause-ok : goal.returns-clause-ok
returns-clause-ok c = λ at.
    let i = c.self.inside in
    let same = ap (λ (p : Progress). p.room) c.self.view_is in
    subst (λ (p : Progress). Leads at p (c.args.byte ∷ []) (record {
      number = i.number;
      import = record { book = i.book; floors = i.floors.items };
      begun = c.push.new.self.items;
      room = i.room - 1;
    })) c.self.view_is
    (step_byte at (record {
      number = i.number;
      import = record { book = i.book; floors = i.floors.items };
      begun = i.line.items;
      room = i.room;
    }) (record {
      number = i.number;
      import = record { book = i.book; floors = i.floors.items };
      begun = c.push.new.self.items;
      room = i.room - 1;
    }) c.args.byte (grind (arith, nat_tests, c.requires.byte)) (omega (arith, c.requires.room, same)) refl refl c.push.ensures.items)
