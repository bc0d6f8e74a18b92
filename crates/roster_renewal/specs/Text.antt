-- The texts of the statements that drop the tables. The table that was created last is dropped first.
use Rattle.std.specs.Prelude.{ℕ, List, codes}

-- the table of the one row about the cluster
abbrev pub drop_bond : List ℕ
drop_bond = codes "DROP TABLE bond"

-- the table with the name and the seed of each token
abbrev pub drop_roster : List ℕ
drop_roster = codes "DROP TABLE roster"

-- the table with the drift of each token
abbrev pub drop_drift : List ℕ
drop_drift = codes "DROP TABLE drift"

-- the table of the audit list
abbrev pub drop_pass : List ℕ
drop_pass = codes "DROP TABLE pass"

-- the table with a row for each token
abbrev pub drop_floor : List ℕ
drop_floor = codes "DROP TABLE floor"

-- the table of the one row about the node
abbrev pub drop_self : List ℕ
drop_self = codes "DROP TABLE self"
