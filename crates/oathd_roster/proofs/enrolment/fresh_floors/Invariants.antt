use Rattle.std.proofs.Common.{◌≡◌, take}
use Rattle.oathd_roster.specs.Enrolment.{fresh_floors}
use Rattle.oathd_roster.proofs.enrolment.fresh_floors.Given as goal

-- the first tokens have their floors
abbrev pub invariant-loop-number : goal.invariant-loop-number
invariant-loop-number l =
    l.floors.items ≡ fresh_floors l.settings l.moment (take l.number l.fn.users.book) (take l.number l.fn.users.floors.items)
