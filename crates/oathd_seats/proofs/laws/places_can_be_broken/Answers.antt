-- Each promise is asked about the one that breaks it.
use Rattle.std.proofs.Common.{◌≡◌, ℕ, zero, suc, List, [], ◌∷◌, length, Some, None, get_or, refl, ap, sym, subst, ◌∙◌, arith}
use Rattle.std.specs.Prelude.{codes}
use Rattle.sqlite.specs.Effect.{Database}
use Rattle.sqlite.specs.Tree.{Trees}
use Rattle.otp_core.specs.Limits.{default_limits}
use Rattle.token_file.specs.Credential.{place_of}
use Rattle.floor_store.specs.Content.{Content}
use Rattle.floor_store.specs.Records.{PassRecord}
use Rattle.floor_sql.specs.Broken.{tables_at}
use Rattle.floor_sql.specs.Schema.{version_of}
use Rattle.floor_sql.specs.Stored.{Holds}
use Rattle.floor_sql.specs.declared.schema.Format.{Format}
use Rattle.floor_sql.proofs.BrokenLemmas.{own_row_is}
use Rattle.oathd_database.specs.Broken.{IsOfOne, fallen, one_book, shows_any, small_conn, two_tables}
use Rattle.oathd_database.specs.Commands.{HasImport}
use Rattle.oathd_database.proofs.BrokenLemmas.{clean_is, fallen_is, fallen_opened, imported_is, none_held, nothing_written, one_token, opened_over}
use Rattle.oathd_seats.specs.Examples.{nothing_seen, one_seen}
use Rattle.oathd_seats.specs.Seen.{HasPlaced}
use Rattle.oathd_seats.proofs.laws.places_can_be_broken.Goals as goal

-- a users file of one token, of user `a`
abbrev of_one : (users : List ℕ) → IsOfOne 0 11 users → HasImport default_limits 0 11 users
of_one users is = record { book = one_book; floors = 0 ∷ []; imported = is }

-- so it has the place that a user has in its book
one_place : (users user : List ℕ) → IsOfOne 0 11 users → (import : HasImport default_limits 0 11 users)
    → place_of user import.book ≡ place_of user one_book
one_place users user is import = ap (place_of user) (imported_is default_limits 0 11 one_book (0 ∷ []) users is import).0

-- no place is a place
not_found : (place : ℕ) → Some place ≡ None → ⊥
not_found place e = absurd cc

-- the store of one token is seen
placed_one : HasPlaced fallen shows_any (Some 1) one_book one_seen
placed_one = record {
  opened = record { conn = small_conn; found = λ clean. tt; node = 1; is_given = refl; opened = fallen_opened 1 1 one_seen.inner.mirror };
  seats = refl;
  rows = refl;
  works = refl;
}

placed_any : HasPlaced fallen shows_any None one_book one_seen
placed_any = record {
  opened = record { conn = small_conn; found = λ clean. tt; node = 1; is_given = tt; opened = fallen_opened 1 1 one_seen.inner.mirror };
  seats = refl;
  rows = refl;
  works = refl;
}

pub returns-clause-placed : goal.returns-clause-placed
returns-clause-placed c = record {
  opened = record { conn = small_conn; found = λ clean. tt; node = 1; is_given = refl; opened = fallen_opened 1 0 nothing_seen.inner.mirror };
  seats = refl;
  rows = refl;
  works = refl;
}

pub returns-clause-placed_of_any : goal.returns-clause-placed_of_any
returns-clause-placed_of_any c = placed_any

pub returns-clause-placed_given : goal.returns-clause-placed_given
returns-clause-placed_given c h =
    let is : h.opened.node ≡ 1 = (opened_over (λ disk. 4) h.opened.conn h.opened.node 0 nothing_seen.inner h.opened.opened).0 in
    let given : h.opened.node ≡ 2 = h.opened.is_given in
    omega (arith, is, given)

pub returns-clause-placed_found : goal.returns-clause-placed_found
returns-clause-placed_found c h = h.opened.found (clean_is (λ disk. tables_at 4 []) h.opened.conn)

pub returns-clause-placed_tokens : goal.returns-clause-placed_tokens
returns-clause-placed_tokens c h =
    let is : 1 ≡ 0 = (opened_over (λ disk. 4) h.opened.conn h.opened.node 1 one_seen.inner h.opened.opened).1 in omega (arith, is)

pub returns-clause-placed_seats : goal.returns-clause-placed_seats
returns-clause-placed_seats c h = let e : 1 ≡ 0 = ap (λ (l : List ℕ). get_or l 0 0) h.seats in absurd (omega (arith, e))

pub returns-clause-placed_rows : goal.returns-clause-placed_rows
returns-clause-placed_rows c h = let e : 2 ≡ 1 = h.rows in absurd (omega (arith, e))

pub returns-clause-exported : goal.returns-clause-exported
returns-clause-exported c users is = record {
  import = of_one users is;
  store = one_seen;
  seen = placed_any;
  written = λ clean. absurd (fallen_is small_conn clean);
}

pub returns-clause-exported_tokens : goal.returns-clause-exported_tokens
returns-clause-exported_tokens c users is h =
    let opened = h.seen.opened in
    let none : length h.import.book ≡ 0 = (opened_over (λ disk. 4) opened.conn opened.node (length h.import.book) h.store.inner opened.opened).1 in
    let one : length h.import.book ≡ 1 = one_token 0 11 users is h.import in
    omega (arith, none, one)

pub returns-clause-told_node : goal.returns-clause-told_node
returns-clause-told_node c h =
    let opened = h.seen.opened in
    let is : opened.node ≡ 1 = (opened_over (λ disk. 4) opened.conn opened.node (length h.import.book) h.store.inner opened.opened).0 in
    let given : opened.node ≡ 2 = opened.is_given in
    omega (arith, is, given)

-- of the two disks the one of node 1 has no pass
first_disk : {format : Format} (disk : ℕ) (content : Content) (passes : List PassRecord) (h : Holds format (two_tables disk) content passes) → h.node ≡ 1
    → two_tables disk ≡ tables_at 4 []
first_disk {format} zero content passes h is = refl
first_disk {format} (suc disk) content passes h is =
    let other : 2 ≡ h.node = (own_row_is 2 2 0 4 (version_of format) h.node (length content.rows) content.boot h.self).1 in
    absurd (omega (arith, other, is))

pub returns-clause-audited_kept : goal.returns-clause-audited_kept
returns-clause-audited_kept c h =
    let opened = h.seen.opened in
    let found = opened.opened.content (clean_is two_tables h.found.inner.conn) in
    let first : two_tables opened.conn.store ≡ tables_at 4 [] =
    first_disk opened.conn.store _ found.passes found.holds (found.of_node ∙ opened.is_given) in
    let read = (opened.opened.kept.read (clean_is two_tables h.found.inner.conn)).committed in
    let same = (h.kept.tables (clean_is two_tables h.store.conn)).committed refl in
    let trees : two_tables h.store.conn.store ≡ tables_at 4 [] = ap (λ (db : Database). db.trees) (same ∙ read) ∙ first in
    let writes = h.written (clean_is two_tables h.store.conn) in
    let holds = subst (λ (t : Trees). Holds writes.committed.format t writes.committed.base writes.passes) trees writes.committed.holds in
    let none = (none_held 4 _ writes.passes holds).3 in
    let e = nothing_written (λ disk. 4) (record h.store { mirror = writes.committed.base; staged = [] }) _
    (record { passes = writes.passes; committed = record { base = writes.committed.base; replayed = refl; format = writes.committed.format; holds = holds }; written = writes.written }) in
    absurd cc

pub returns-clause-audited_written : goal.returns-clause-audited_written
returns-clause-audited_written c h =
    let e = nothing_written (λ disk. 4) h.store (codes "x") (h.written (clean_is (λ disk. tables_at 4 []) h.store.conn)) in absurd cc

pub returns-clause-unlocks : goal.returns-clause-unlocks
returns-clause-unlocks c users is = record {
  known = record { import = of_one users is; token = 0; of_user = refl };
  old = one_seen;
  seen = placed_one;
  row = 0;
  row_is = refl;
  writes = record {
    makes = record {
      ok = λ clean. absurd (fallen_is small_conn clean);
      err = λ clean. tt;
      stays = λ broken. refl;
      count = omega arith;
      clean = λ clean. clean;
      tokens = refl;
    };
    left = λ clean. absurd (fallen_is small_conn clean);
    settled = λ clean. absurd (fallen_is small_conn clean);
    intact = λ works. refl;
  };
}

pub returns-clause-unlocks_known : goal.returns-clause-unlocks_known
returns-clause-unlocks_known c users is h =
    not_found h.known.token (sym h.known.of_user ∙ one_place users (codes "b") is h.known.import)

pub returns-clause-unlocks_writes : goal.returns-clause-unlocks_writes
returns-clause-unlocks_writes c users is h = let e = h.writes.intact h.seen.opened.opened.sound.works in absurd cc

pub returns-clause-nobody_known : goal.returns-clause-nobody_known
returns-clause-nobody_known c users is h =
    not_found 0 (sym (one_place users (codes "a") is h.1.import) ∙ h.1.of_nobody)

pub returns-clause-output : goal.returns-clause-output
returns-clause-output c = record { book = []; floors = []; imported = refl }
