-- What to do about a cluster file that gives names or none, and about the files of a store that gets names.
use Rattle.oathd_causes.specs.declared.roster.NamesAdvice.{NamesAdvice}
use Rattle.oathd_causes.specs.declared.roster.NamesAdvice.TheVariants.{Begin, GiveNames, GiveSince, GiveNamesToReload, GiveMembersWere, KeepMembers, KeepRows}
use Rattle.oathd_site.specs.declared.names.NamesFault.{NamesFault}
use Rattle.oathd_site.specs.declared.names.NamesFault.TheVariants.{PlainInit, NoNames, NoSince, PlainReload, NoMembersWere, OtherMembers, OtherKind}

-- what to do about a fault of names
abbrev pub names_advice : NamesFault → NamesAdvice
names_advice PlainInit = Begin
names_advice NoNames = GiveNames
names_advice NoSince = GiveSince
names_advice PlainReload = GiveNamesToReload
names_advice NoMembersWere = GiveMembersWere
names_advice (OtherMembers were members) = KeepMembers were members
names_advice (OtherKind row) = KeepRows row
