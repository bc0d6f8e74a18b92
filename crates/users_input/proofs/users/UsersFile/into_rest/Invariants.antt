use Rattle.std.specs.Option.{option_map}
use Rattle.token_file.specs.Source.{Stays}
use Rattle.users_input.specs.Users.{rest_left}
use Rattle.users_input.proofs.users.UsersFile.into_rest.Given as goal

-- the lines after the users file are unchanged
abbrev pub invariant-loop : goal.invariant-loop
invariant-loop g l =
    Stays (option_map (rest_left l.fn.self.stage l.fn.self.taken l.fn.self.input.room l.fn.self.line.items) (g.B.Read.remaining l.fn.self.input.reader))
    (option_map (rest_left l.self.stage l.self.taken l.self.input.room l.self.line.items) (g.B.Read.remaining l.self.input.reader))
