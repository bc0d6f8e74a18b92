-- What the texts mean.
use Rattle.std.proofs.Common.{◌≡◌, List, [], ◌∷◌, Ok, refl, pos, false, codes}
use Rattle.sqlite.specs.declared.types.Value.TheVariants.{Null, Int}
use Rattle.sqlite.specs.Compile.{table_defined_by}
use Rattle.sqlite.specs.Command.TheVariants.{Update, Insert, Select, CreateTable}
use Rattle.sqlite.specs.Source.TheVariants.{Values}
use Rattle.sqlite.specs.Term.{Term, lit, col}
use Rattle.sqlite.specs.Query.{Query}
use Rattle.sqlite_tied.specs.Compute.{everything}
use Rattle.sqlite.specs.Listing.{understood, reads_listing}
use Rattle.sqlite.proofs.Callers.{command_of, statement_of, IsPlain}
use Rattle.floor_sql.specs.Schema.{roster, bond, floor_schema, schema_of}
use Rattle.floor_sql.specs.declared.schema.Format.TheVariants.{Named}
use Rattle.floor_sql.proofs.TextLemmas.{by_one, changed_query, plain_program, query_over}
use Rattle.roster_sql.specs.Made.{roster_schema}
use Rattle.roster_sql.specs.Text.{create_roster, create_bond, insert_entry, insert_bond, update_tokens, update_version, select_entry, select_bond}

-- ---- the tables are made

pub create_roster_is : (command_of (understood floor_schema create_roster) ≡ CreateTable) ×
    (statement_of create_roster (understood floor_schema create_roster) ≡ create_roster) × (table_defined_by create_roster ≡ Ok (record roster { tree = 0 }))
unfolding understood everything
create_roster_is = (refl, refl, refl)

pub create_roster_plain : IsPlain (understood floor_schema create_roster)
unfolding understood everything
create_roster_plain = (refl, refl)

pub create_bond_is : (command_of (understood roster_schema create_bond) ≡ CreateTable) ×
    (statement_of create_bond (understood roster_schema create_bond) ≡ create_bond) × (table_defined_by create_bond ≡ Ok (record bond { tree = 0 }))
unfolding understood everything
create_bond_is = (refl, refl, refl)

pub create_bond_plain : IsPlain (understood roster_schema create_bond)
unfolding understood everything
create_bond_plain = (refl, refl)

-- ---- their rows

abbrev pub entry_terms : List Term
entry_terms = col 0 0 ∷ lit Null ∷ col 0 1 ∷ col 0 2 ∷ []

pub insert_entry_is : command_of (understood (schema_of Named) insert_entry) ≡ Insert 4 (Values entry_terms 4)
unfolding understood everything
insert_entry_is = refl

pub insert_entry_plain : IsPlain (understood (schema_of Named) insert_entry)
unfolding understood everything
insert_entry_plain = (refl, refl)

abbrev pub bond_terms : List Term
bond_terms = lit (Int (pos 1)) ∷ lit Null ∷ col 0 0 ∷ col 0 1 ∷ col 0 2 ∷ []

pub insert_bond_is : command_of (understood (schema_of Named) insert_bond) ≡ Insert 5 (Values bond_terms 5)
unfolding understood everything
insert_bond_is = refl

pub insert_bond_plain : IsPlain (understood (schema_of Named) insert_bond)
unfolding understood everything
insert_bond_plain = (refl, refl)

-- ---- the row of the table `self`, of version 3

abbrev pub version_terms : List Term
version_terms = col 1 0 ∷ col 1 0 ∷ lit Null ∷ lit (Int (pos 3)) ∷ col 1 3 ∷ col 1 4 ∷ col 1 5 ∷ []

abbrev pub version_query : Query
version_query = query_over 0 by_one version_terms

pub update_version_is : command_of (understood (schema_of Named) update_version) ≡ Update 0 (plain_program version_query)
unfolding understood everything
update_version_is = refl

pub update_version_plain : IsPlain (understood (schema_of Named) update_version)
unfolding understood everything
update_version_plain = (refl, refl)

abbrev pub tokens_terms : List Term
tokens_terms = col 1 0 ∷ col 1 0 ∷ lit Null ∷ col 1 2 ∷ col 1 3 ∷ col 0 0 ∷ col 1 5 ∷ []

abbrev pub tokens_query : Query
tokens_query = query_over 0 by_one tokens_terms

pub update_tokens_is : command_of (understood (schema_of Named) update_tokens) ≡ Update 0 (plain_program tokens_query)
unfolding understood everything
update_tokens_is = refl

pub update_tokens_plain : IsPlain (understood (schema_of Named) update_tokens)
unfolding understood everything
update_tokens_plain = (refl, refl)

-- ---- the queries

abbrev pub entry_read : List Term
entry_read = col 1 0 ∷ col 1 2 ∷ col 1 3 ∷ []

abbrev pub entry_query : Query
entry_query = changed_query 4 entry_read

pub select_entry_is : (command_of (understood (schema_of Named) select_entry) ≡ Select (plain_program entry_query) (codes "token" ∷ codes "name" ∷ codes "seed" ∷ []))
    × (reads_listing (schema_of Named) select_entry ≡ false)
unfolding understood everything
select_entry_is = (refl, refl)

pub select_entry_plain : IsPlain (understood (schema_of Named) select_entry)
unfolding understood everything
select_entry_plain = (refl, refl)

abbrev pub bond_read : List Term
bond_read = col 1 0 ∷ col 1 2 ∷ col 1 3 ∷ col 1 4 ∷ []

abbrev pub bond_query : Query
bond_query = query_over 5 by_one bond_read

pub select_bond_is : (command_of (understood (schema_of Named) select_bond)
    ≡ Select (plain_program bond_query) (codes "id" ∷ codes "names" ∷ codes "life" ∷ codes "members" ∷ []))
    × (reads_listing (schema_of Named) select_bond ≡ false)
unfolding understood everything
select_bond_is = (refl, refl)

pub select_bond_plain : IsPlain (understood (schema_of Named) select_bond)
unfolding understood everything
select_bond_plain = (refl, refl)
