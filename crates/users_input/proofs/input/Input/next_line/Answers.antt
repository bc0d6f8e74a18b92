use Rattle.std.proofs.Common.{◌≡◌, [], arith, rules}
use Rattle.std.proofs.lemmas.Grind.{common_steps}
use Rattle.users_input.proofs.LineLemmas.{takes_cut, takes_end, takes_whole}
use Rattle.users_input.proofs.input.Input.next_line.Goals as goal

pub returns-then-is_empty-clause-taken : goal.returns-then-is_empty-clause-taken
returns-then-is_empty-clause-taken g c =
    let none : c.take_line.new.line.items ≡ [] = grind (arith, common_steps) in
    takes_end (g.B.Read.remaining c.args.self.now.reader) (g.B.Read.remaining c.take_line.new.self.reader) c.args.self.now.room c.take_line.new.self.room
    c.take_line.new.line.items c.in_ok-is_within.ensures.line c.in_ok-is_within.ensures.rest none

pub returns-then-is_within-clause-taken : goal.returns-then-is_within-clause-taken
returns-then-is_within-clause-taken g c =
    takes_whole (g.B.Read.remaining c.args.self.now.reader) (g.B.Read.remaining c.take_line.new.self.reader) c.args.self.now.room c.take_line.new.self.room
    c.take_line.new.line.items c.in_ok-is_within.ensures.line c.in_ok-is_within.ensures.rest (search rules) (search rules) c.in_ok-is_within.ensures.room

pub returns-else-is_within-clause-taken : goal.returns-else-is_within-clause-taken
returns-else-is_within-clause-taken g c =
    takes_cut (g.B.Read.remaining c.args.self.now.reader) (g.B.Read.remaining c.take_line.new.self.reader) c.args.self.now.room c.take_line.new.self.room
    c.take_line.new.line.items c.in_ok-is_within.ensures.line c.in_ok-is_within.ensures.rest (search rules) c.in_ok-is_within.ensures.room
