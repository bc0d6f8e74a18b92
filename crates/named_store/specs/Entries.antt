-- The entries of the tokens of a book.
use Rattle.std.specs.Prelude.{ℕ, List, map}
use Rattle.roster_sql.specs.declared.entry.Entry.{Entry}
use Rattle.token_file.specs.Credential.{Credential}
use Rattle.token_names.specs.Names.{name_of}
use Rattle.token_names.specs.Seed.{seed_of}

-- the entry of a token under a salt: its name and its seed
abbrev pub entry_under : List ℕ → Credential → Entry
entry_under salt credential = record { name = name_of salt credential; seed = seed_of salt credential }

-- the entries of a book, in the order of its rows
abbrev pub entries_of : List ℕ → List Credential → List Entry
entries_of salt book = map (entry_under salt) book
