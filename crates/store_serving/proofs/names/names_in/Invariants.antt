use Rattle.std.proofs.Common.{◌≡◌, map, take}
use Rattle.roster_sql.specs.declared.entry.Entry.{Entry}
use Rattle.store_serving.proofs.names.names_in.Given as goal

-- the entries so far have their names in the list
abbrev pub invariant-loop-entry : goal.invariant-loop-entry
invariant-loop-entry l = l.names.items ≡ map (λ (entry : Entry). entry.name) (take l.entry-index l.entries)
