-- The store of a member is made on a disk about which nothing is claimed, and its text begins with another byte.
use Rattle.std.proofs.Common.{◌≡◌, ◌∷◌, [], ap, arith, get_or}
use Rattle.token_file.specs.Examples.{time_token}
use Rattle.token_file.specs.declared.token.Kind.TheVariants.{Time30}
use Rattle.floor_sql.specs.Broken.{tables_at}
use Rattle.oathd_database.specs.Broken.{new_store, small_conn}
use Rattle.oathd_database.specs.Made.{member_line}
use Rattle.oathd_database.proofs.BrokenLemmas.{clean_is, fallen_is, fallen_made}
use Rattle.oathd_database.proofs.made.members_can_be_broken.Goals as goal

pub returns-clause-member : goal.returns-clause-member
returns-clause-member c users is = record {
  made = record {
    import = record { book = time_token Time30 ∷ []; floors = 3 ∷ []; imported = is };
    conn = small_conn;
    found = λ clean. tt;
    made = fallen_made 1 0 (5 ∷ []);
  };
  written = λ clean. absurd (fallen_is small_conn clean);
}

pub returns-clause-member_written : goal.returns-clause-member_written
unfolding member_line
returns-clause-member_written c h =
    let first : 120 ≡ 109 = ap (λ text. get_or text 0 0) (h.written (clean_is (λ disk. tables_at 0 []) (new_store 0 []).conn)) in
    omega (arith, first)

pub returns-clause-output : goal.returns-clause-output
returns-clause-output c users is = (
  new_store 0 (5 ∷ []),
  record {
    import = record { book = time_token Time30 ∷ []; floors = 3 ∷ []; imported = is };
    conn = small_conn;
    found = λ clean. tt;
    made = fallen_made 1 0 (5 ∷ []);
  },
)

pub returns-clause-at_found : goal.returns-clause-at_found
returns-clause-at_found c h = h.found (clean_is (λ disk. tables_at 0 []) h.conn)
