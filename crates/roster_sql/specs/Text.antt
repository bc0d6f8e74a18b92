-- The texts of the statements about the tables of names and of the cluster.
use Rattle.std.specs.Prelude.{ℕ, List, ◌++◌, codes}

-- ---- statements that make the tables, and insert into them

-- the table with the name and the seed of each token
abbrev pub create_roster : List ℕ
create_roster = codes "CREATE TABLE roster (token INTEGER PRIMARY KEY, name BLOB NOT NULL, seed BLOB NOT NULL) STRICT"

-- the table of the one row about the cluster
abbrev pub create_bond : List ℕ
create_bond =
    codes "CREATE TABLE bond (id INTEGER PRIMARY KEY CHECK (id = 1), names BLOB NOT NULL, "
    ++ codes "life BLOB NOT NULL, members INTEGER NOT NULL) STRICT"

-- the row of a token
abbrev pub insert_entry : List ℕ
insert_entry = codes "INSERT INTO roster (token, name, seed) VALUES (?1, ?2, ?3)"

-- the row about the cluster
abbrev pub insert_bond : List ℕ
insert_bond = codes "INSERT INTO bond (id, names, life, members) VALUES (1, ?1, ?2, ?3)"

-- ---- statements about the row of `self`

-- the store gets version 3
abbrev pub update_version : List ℕ
update_version = codes "UPDATE self SET version = 3 WHERE id = 1"

-- the number of tokens is changed
abbrev pub update_tokens : List ℕ
update_tokens = codes "UPDATE self SET tokens = ?1 WHERE id = 1"

-- ---- statements that read the tables

-- the row of a token
abbrev pub select_entry : List ℕ
select_entry = codes "SELECT token, name, seed FROM roster WHERE token = ?1"

-- the row about the cluster
abbrev pub select_bond : List ℕ
select_bond = codes "SELECT id, names, life, members FROM bond WHERE id = 1"
