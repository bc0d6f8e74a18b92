-- The faults that end the rounds of a cluster. Private contracts alone cite this file.
use Rattle.oathd_cluster.specs.declared.fault.Fault.{Fault}
use Rattle.oathd_cluster.specs.declared.fault.Fault.TheVariants.{Memory, CannotRead, CannotWrite, Users, InputLine, Socket, Node}

-- a socket or a node failed
abbrev pub IsOfRounds : Fault → Type 0
IsOfRounds Memory = ⊥
IsOfRounds CannotRead = ⊥
IsOfRounds CannotWrite = ⊥
IsOfRounds (Users fault) = ⊥
IsOfRounds (InputLine number) = ⊥
IsOfRounds Socket = Unit {0}
IsOfRounds (Node fault) = Unit {0}

-- the allocator refused the memory, or a socket could not be opened
abbrev pub IsOfOpening : Fault → Type 0
IsOfOpening Memory = Unit {0}
IsOfOpening CannotRead = ⊥
IsOfOpening CannotWrite = ⊥
IsOfOpening (Users fault) = ⊥
IsOfOpening (InputLine number) = ⊥
IsOfOpening Socket = Unit {0}
IsOfOpening (Node fault) = ⊥
