-- What the small stores hold, by which promises are broken.
use Rattle.std.proofs.Common.{◌≡◌, inl, ℕ, length, List, [], ◌∷◌, Option, Some, None, true, false, refl, ap, sym, ◌∙◌, subst, arith}
use Rattle.std.specs.Prelude.{Result, Ok, Err, codes}
use Rattle.sqlite.specs.Held.{Held as Conn, state}
use Rattle.sqlite.specs.Schema.{Schema}
use Rattle.sqlite.specs.Tree.{Trees}
use Rattle.floor_sql.specs.Broken.{tables_at}
use Rattle.floor_sql.specs.Calls.{IsSound}
use Rattle.floor_sql.specs.Held.{SqlHeld, sql_held}
use Rattle.floor_sql.specs.Stored.{Holds}
use Rattle.floor_sql.specs.declared.schema.Format.TheVariants.{Named}
use Rattle.floor_sql.proofs.BrokenLemmas.{own_row_is}
use Rattle.floor_sql.proofs.ContentLemmas.{one_content}
use Rattle.floor_store.specs.Content.{Content, opening_content_at}
use Rattle.floor_store.specs.Records.{PassRecord}
use Rattle.floor_store.specs.declared.fault.StoreFault.{StoreFault}
use Rattle.floors_file.specs.Fields.{◌>>=◌}
use Rattle.floors_file.specs.Named.{NamedFloorsRecord}
use Rattle.floors_file.specs.NamedGathered.{gathered_rows}
use Rattle.floors_file.specs.declared.gathered.FilesFault.{FilesFault}
use Rattle.floors_file.specs.declared.gathered.FilesFault.TheVariants.{NotLost, TooManyLost}
use Rattle.named_floors.specs.Level.{Levels, levelled}
use Rattle.named_floors.specs.Remade.{remade_entries, remade_floors}
use Rattle.roster_sql.specs.Examples.{first_content, one_token, other_bond, small_bond}
use Rattle.roster_sql.specs.Roster.{BondRecord, HoldsNamed}
use Rattle.roster_sql.specs.declared.entry.Entry.{Entry}
use Rattle.roster_sql.proofs.ExampleLemmas.{bond_at, bond_is, one_bond, one_held, one_holds, one_self, self_is}
use Rattle.seated_store.specs.Seated.{SeatedRecord}
use Rattle.oathd_database.specs.Broken.{fallen, shows_any}
use Rattle.oathd_database.specs.Lost.{boot_at}
use Rattle.oathd_database.proofs.BrokenLemmas.{clean_is, fallen_is, stays}
use Rattle.oathd_floors.specs.Examples.{former_of, named_conn, named_store, no_tokens, none_named, none_seen, one_entry, one_named, taking_at}
use Rattle.oathd_floors.specs.Files.{TakingRecord, file_of, files_after}
use Rattle.oathd_floors.specs.Remade.{HasFault, IsGathered, IsMadeAgain, asked_of, gather_fault}
use Rattle.oathd_floors.specs.Rows.{HasRows, IsUnbound}
use Rattle.oathd_floors.specs.declared.fault.NamedFloorsFault.{NamedFloorsFault}

-- ---- the files of one text

pub one_taken : (taking : TakingRecord) (text : List ℕ) (file : NamedFloorsRecord) → file_of taking 1 text ≡ Ok file
    → files_after taking [] (text ∷ []) ≡ Ok (file ∷ [])
one_taken taking text file reads =
    ap (λ (o : Result NamedFloorsRecord NamedFloorsFault). o >>= λ new. files_after taking (new ∷ []) []) reads

pub one_untaken : (taking : TakingRecord) (text : List ℕ) (fault : NamedFloorsFault) (files : List NamedFloorsRecord) → file_of taking 1 text ≡ Err fault
    → files_after taking [] (text ∷ []) ≡ Ok files → ⊥
one_untaken taking text fault files reads taken =
    let refused : files_after taking [] (text ∷ []) ≡ Err fault =
    ap (λ (o : Result NamedFloorsRecord NamedFloorsFault). o >>= λ new. files_after taking (new ∷ []) []) reads in
    let both : Err fault ≡ Ok files = sym refused ∙ taken in
    absurd cc

-- texts have one content
pub files_are : (taking : TakingRecord) (texts : List (List ℕ)) (files other : List NamedFloorsRecord) → files_after taking [] texts ≡ Ok files
    → files_after taking [] texts ≡ Ok other → files ≡ other
files_are taking texts files other one two = let both : Ok files ≡ Ok other = sym one ∙ two in cc

-- without a text no files are sufficient
pub none_gathered : (files : List NamedFloorsRecord) → IsGathered (codes "key") small_bond 1 (former_of 8 None []) files → ⊥
none_gathered files h =
    let none : [] ≡ files = files_are (taking_at true) [] [] files refl h.taken in
    let few : Some TooManyLost ≡ None =
    subst (λ (l : List NamedFloorsRecord). gather_fault (asked_of (former_of 8 None [])) 1 None l ≡ None) (sym none) h.enough in
    absurd cc

-- and they have one fault
pub none_fault : (fault : FilesFault) → HasFault (codes "key") small_bond 1 (former_of 8 None []) fault → TooManyLost ≡ fault
none_fault fault h =
    let none : [] ≡ h.files = files_are (taking_at true) [] [] h.files refl h.taken in
    let few : Some TooManyLost ≡ Some fault =
    subst (λ (l : List NamedFloorsRecord). gather_fault (asked_of (former_of 8 None [])) 1 None l ≡ Some fault) (sym none) h.told in
    cc

pub none_strange : HasFault (codes "key") small_bond 1 (former_of 8 None []) NotLost → ⊥
none_strange h = let same : TooManyLost ≡ NotLost = none_fault NotLost h in absurd cc

-- ---- the store of one token

pub one_sound : IsSound one_named (named_store first_content)
one_sound = record {
  works = refl;
  idle = refl;
  settled = λ other left. sym (one_content Named left.format one_token.trees first_content other [] left.passes one_holds.holds
      (subst (λ (trees : Trees). Holds left.format trees other left.passes) left.left left.holds));
}

pub one_rows : HasRows one_named shows_any small_bond 1 one_entry (named_store first_content)
unfolding one_holds
one_rows = record {
  conn = named_conn;
  found = λ clean. tt;
  tables = λ clean. record { passes = []; holds = one_holds; of_node = refl; counted = refl };
  kept = record {
    idle = refl;
    read = λ clean. record { is_open = refl; now = refl; committed = refl };
    survives = stays true (λ disk. one_token.trees) named_conn (λ left. ⊥);
  };
  distinct = λ i j d before low. absurd (omega (arith, before, low));
  sound = one_sound;
}

-- nothing else is read in its tables
pub one_read : (schema : Schema) (content : Content) (passes : List PassRecord) (roster : List Entry) (own : BondRecord)
    → HoldsNamed (record { schema = schema; trees = one_token.trees }) content passes roster own
    → (first_content ≡ content) × ([] ≡ passes) × (one_entry ≡ roster) × (small_bond ≡ own)
one_read schema content passes roster own h =
    one_held content passes roster own (record { schema = refl; holds = h.holds; roster = h.roster; counted = h.counted; bond = h.bond })

pub rows_read : (finds : Conn ℕ → Type 0) (own : BondRecord) (node : ℕ) (roster : List Entry) (store : SqlHeld ℕ) → HasRows one_named finds own node roster store
    → (first_content ≡ store.mirror) × (one_entry ≡ roster) × (small_bond ≡ own) × (node ≡ 1)
rows_read finds own node roster store h =
    let held = h.tables (clean_is (λ disk. one_token.trees) store.conn) in
    let is = one_read h.conn.schema store.mirror held.passes roster own held.holds in
    let self = self_is (one_token.trees 0) 3 1 1 4 3 held.holds.holds.node (length store.mirror.rows) store.mirror.boot one_self held.holds.holds.self in
    (is.0, is.2, is.3, sym held.of_node ∙ sym self.1)

-- it is bound to one cluster
pub not_other : small_bond ≡ other_bond → ⊥
not_other same = let members : ◌≡◌ {A = ℕ} 3 5 = ap (λ (bond : BondRecord). bond.members) same in omega (arith, members)

pub one_unbound : IsUnbound one_named shows_any other_bond
one_unbound = record {
  conn = named_conn;
  found = λ clean. tt;
  left = named_conn;
  unbound = λ clean bond. not_other (bond_is (one_token.trees 5) small_bond other_bond one_bond bond);
  kept = record {
    idle = refl;
    tables = λ clean. record { now = λ is_open. refl; committed = λ is_open. refl };
    survives = stays true (λ disk. one_token.trees) named_conn (λ left. ⊥);
  };
}

pub one_bound : (finds : Conn ℕ → Type 0) → IsUnbound one_named finds small_bond → ⊥
one_bound finds h = h.unbound (clean_is (λ disk. one_token.trees) h.left) one_bond

-- its floors are raised, if that changes nothing
pub one_levels : (floors : List (Option ℕ)) → levelled floors first_content ≡ first_content
    → Levels {A = Unit {0}} {E = StoreFault} (sql_held one_named) (named_store first_content) (named_store first_content) floors (Ok tt)
one_levels floors same = record {
  ok = λ clean. sym same;
  err = λ clean. tt;
  left = λ clean content leaves. inl leaves;
  settled = λ clean. one_sound.settled;
  clean = λ clean. clean;
  intact = refl;
  stays = λ broken. absurd cc;
  count = omega arith;
  tokens = refl;
}

-- ---- the store without a token

-- the contract claims nothing of it on a dishonest disk
pub fallen_again : (files : List NamedFloorsRecord) → IsMadeAgain fallen shows_any 1 (boot_at 10) files [] [] small_bond none_seen
fallen_again files = record {
  first = named_conn;
  found = λ clean. tt;
  made = named_conn;
  creates = λ clean. absurd (fallen_is named_conn clean);
  survives = stays false (λ disk. tables_at 0 []) named_conn _;
  seated = record {
    tables = λ clean. absurd (fallen_is named_conn clean);
    sound = record { works = refl; idle = refl; settled = λ other left. absurd (fallen_is named_conn left.clean) };
    works = refl;
    survives = stays false (λ disk. tables_at 0 []) named_conn _;
  };
  each = refl;
}

-- what is read in its tables
pub none_read : (schema : Schema) (content : Content) (passes : List PassRecord) (roster : List Entry) (own : BondRecord)
    → (h : HoldsNamed (record { schema = schema; trees = no_tokens.trees }) content passes roster own)
    → (h.holds.node ≡ 1) × (content.boot ≡ boot_at 10) × (small_bond ≡ own)
none_read schema content passes roster own h =
    let self = own_row_is 3 1 0 (boot_at 10) 3 h.holds.node (length content.rows) content.boot h.holds.self in
    (sym self.1, sym self.3, bond_is (no_tokens.trees 5) small_bond own (bond_at small_bond) h.bond)

-- so it is made again as no other
pub again_is : (finds : Conn ℕ → Type 0) (node boot : ℕ) (files : List NamedFloorsRecord) (entries : List Entry) (floors : List ℕ) (own : BondRecord)
    (store : SeatedRecord (SqlHeld ℕ)) → IsMadeAgain none_named finds node boot files entries floors own store
    → (node ≡ 1) × (boot ≡ boot_at 10) × (small_bond ≡ own)
again_is finds node boot files entries floors own store h =
    let opens = (h.creates (clean_is (λ disk. no_tokens.trees) h.made)).committed in
    let is = none_read (state none_named h.made).committed.schema (opening_content_at boot (remade_floors (gathered_rows files) entries floors)) []
    (remade_entries (gathered_rows files) entries) own opens.whole in
    (sym opens.of_node ∙ is.0, is.1, is.2)
