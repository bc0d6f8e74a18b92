use Rattle.std.proofs.Common.{◌≡◌, take}
use Rattle.oathd_database.specs.Users.{drifted_floors}
use Rattle.oathd_database.proofs.users.drifted_floors.Given as goal

-- the first tokens have their factors
abbrev pub invariant-loop-number : goal.invariant-loop-number
invariant-loop-number l =
    l.floors.items ≡ drifted_floors l.drift (take l.number l.fn.users.book) (take l.number l.fn.users.floors.items)
