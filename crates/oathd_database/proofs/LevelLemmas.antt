-- Rows that are levelled one after the other.
use Rattle.std.proofs.Common.{◌≡◌, ℕ, zero, suc, ◌+◌, ◌<◌, ◌⊎◌, inl, inr, true, false, List, [], ◌∷◌, length, take, set, get_or, Option, Some, None, refl, sym, ap, subst, ◌∙◌, arith, add-one, leb}
use Rattle.std.specs.Prelude.{Result, Ok, Err, OnErr, OnOk, IfSome, nat_lt, map, option_map, slice_get}
use Rattle.std.proofs.lemmas.Bool.{cond_both, ltb-true, ltb-false, leb-true, leb-false}
use Rattle.std.proofs.lemmas.Option.{IfSome_then, none-some, same_Some, slice_get-map}
use Rattle.sqlite.specs.Store.{Ghosts}
use Rattle.sqlite.specs.Held as sql
use Rattle.otp_core.specs.Limits.{Limits}
use Rattle.token_file.specs.Credential.{Credential}
use Rattle.floor_store.specs.Content.{Content}
use Rattle.floor_store.specs.Held.{Commits, Held, MayPut, OldOrNew}
use Rattle.floor_store.specs.Records.{RowRecord}
use Rattle.vote_core.specs.Rows.{no_row, row, row_with_next}
use Rattle.vote_core.specs.Voting.{raise}
use Rattle.floor_store.specs.declared.fault.StoreFault.{StoreFault}
use Rattle.floor_sql.specs.Held.{SqlHeld, sql_held}
use Rattle.floors_file.specs.declared.floors.Floors.{Floors}
use Rattle.floors_file.specs.Floors.{FloorsRecord, floors_value}
use Rattle.floors_file.specs.Gathered.{greater, greatest_of}
use Rattle.oathd_database.specs.Commands.{HasOpened}
use Rattle.oathd_database.specs.Gather.{files_after}
use Rattle.oathd_database.specs.Level.{HasLevelled, IsPartLevelled, Levels, levelled, levelled_row, levelled_rows, told_at, told_by}
use Rattle.oathd_database.specs.Users.{IsImported}

-- ---- one row more

greater_first : (one other : ℕ) → nat_lt one other ≡ false → greater one other ≡ one
greater_first one other least =
    cond_both (leb one other) other one (λ n. n ≡ one)
    (λ q. omega (arith, leb-true one other q, ltb-false one other least)) (λ _. refl)

greater_other : (one other : ℕ) → nat_lt one other ≡ true → greater one other ≡ other
greater_other one other less =
    cond_both (leb one other) other one (λ n. n ≡ other)
    (λ _. refl) (λ q. absurd (omega (arith, leb-false one other q, ltb-true one other less)))

-- the files have no floor for the row
row_untold : (k : ℕ) (floors : List (Option ℕ)) (rows : List RowRecord) → slice_get floors k ≡ Some None
    → levelled_rows (take k floors) rows ≡ levelled_rows (take (suc k) floors) rows
row_untold k [] rows is = absurd (none-some None is)
row_untold zero (told ∷ floors) [] is = refl
row_untold zero (told ∷ floors) (top ∷ rows) is = ap (λ t. levelled_row t top ∷ rows) (sym (same_Some told None is))
row_untold (suc k) (told ∷ floors) [] is = refl
row_untold (suc k) (told ∷ floors) (top ∷ rows) is = ap (λ l. levelled_row told top ∷ l) (row_untold k floors rows is)

-- the files have a greater floor
row_raised : (k floor : ℕ) (floors : List (Option ℕ)) (rows : List RowRecord) → slice_get floors k ≡ Some (Some floor) → k < length rows
    → nat_lt (get_or (levelled_rows (take k floors) rows) k no_row).next floor ≡ true
    → set (levelled_rows (take k floors) rows) k (row_with_next floor (get_or (levelled_rows (take k floors) rows) k no_row))
    ≡ levelled_rows (take (suc k) floors) rows
row_raised k floor [] rows is within less = absurd (none-some (Some floor) is)
row_raised k floor (told ∷ floors) [] is within less = absurd (omega (arith, within))
row_raised zero floor (told ∷ floors) (top ∷ rows) is within less =
    ap (λ n. record top { next = n } ∷ rows) (sym (greater_other top.next floor less))
    ∙ ap (λ t. levelled_row t top ∷ rows) (sym (same_Some told (Some floor) is))
row_raised (suc k) floor (told ∷ floors) (top ∷ rows) is within less =
    ap (λ l. levelled_row told top ∷ l) (row_raised k floor floors rows is (omega (arith, within)) less)

-- the floor of the files is no greater
row_kept : (k floor : ℕ) (floors : List (Option ℕ)) (rows : List RowRecord) → slice_get floors k ≡ Some (Some floor) → k < length rows
    → nat_lt (get_or (levelled_rows (take k floors) rows) k no_row).next floor ≡ false
    → levelled_rows (take k floors) rows ≡ levelled_rows (take (suc k) floors) rows
row_kept k floor [] rows is within least = absurd (none-some (Some floor) is)
row_kept k floor (told ∷ floors) [] is within least = absurd (omega (arith, within))
row_kept zero floor (told ∷ floors) (top ∷ rows) is within least =
    ap (λ n. record top { next = n } ∷ rows) (sym (greater_first top.next floor least))
    ∙ ap (λ t. levelled_row t top ∷ rows) (sym (same_Some told (Some floor) is))
row_kept (suc k) floor (told ∷ floors) (top ∷ rows) is within least =
    ap (λ l. levelled_row told top ∷ l) (row_kept k floor floors rows is (omega (arith, within)) least)

level_on : (k : ℕ) (told : Option ℕ) (floors : List (Option ℕ)) (c : Content) → slice_get floors k ≡ Some told → k < length c.rows
    → told_at k told (levelled (take k floors) c) ≡ levelled (take (suc k) floors) c
unfolding raise
level_on k None floors c is within = ap (λ rows. record c { rows = rows }) (row_untold k floors c.rows is)
level_on k (Some floor) floors c is within =
    let now = levelled (take k floors) c in
    cond_both (nat_lt (row now k).next floor) _ now (λ x. x ≡ levelled (take (suc k) floors) c)
    (λ less. ap (λ rows. record c { rows = rows }) (row_raised k floor floors c.rows is within less))
    (λ least. ap (λ rows. record c { rows = rows }) (row_kept k floor floors c.rows is within least))

-- ---- a store whose first rows are levelled

pub record LevelledSoFar {S : Type 0} (held : S → Held) (old now : S) (floors : List (Option ℕ)) (count : ℕ) : Type 0 where
  pub content : (held now).is_clean → (held now).content ≡ levelled (take count floors) (held old).content
  pub left : (held now).is_clean → (c : Content) → (held now).leaves c → (held old).leaves c ⊎ IsPartLevelled floors (held old).content c
  pub clean : (held now).is_clean → (held old).is_clean
  pub tokens : length (held now).content.rows ≡ length (held old).content.rows

module _ {S : Type 0} (held : S → Held) (old now new : S) (floors : List (Option ℕ)) (count : ℕ) (so_far : LevelledSoFar held old now floors count) where
  -- one token more
  made_next : (told : Option ℕ) → slice_get floors count ≡ Some told → count < length (held old).content.rows → (held now).is_clean
      → told_at count told (held now).content ≡ levelled (take (suc count) floors) (held old).content
  made_next told is within clean =
      ap (told_at count told) (so_far.content clean) ∙ level_on count told floors (held old).content is within

  left_next : (told : Option ℕ) → slice_get floors count ≡ Some told → count < length (held old).content.rows
      → {A E : Type 0} (result : Result A E) → MayPut held now new (told_at count told (held now).content) result
      → (held new).is_clean → (c : Content) → (held new).leaves c → (held old).leaves c ⊎ IsPartLevelled floors (held old).content c
  left_next told is within result put clean c leaves =
      let was = put.makes.clean clean in
      elim (put.left was c leaves) [
        | inl before ↦ so_far.left was c before
        | inr made ↦ inr (record { count = suc count; is = made ∙ made_next told is within was })
      ]

  pub level_next : (told : Option ℕ) → slice_get floors count ≡ Some told → count < length (held old).content.rows
      → {A E : Type 0} (result : Result A E) (done : A) → result ≡ Ok done → MayPut held now new (told_at count told (held now).content) result
      → LevelledSoFar held old new floors (count + 1)
  level_next told is within (Err fault) done ok put = absurd cc
  level_next told is within (Ok value) done ok put =
      rw add-one record {
        content = λ clean. put.makes.ok clean ∙ made_next told is within (put.makes.clean clean);
        left = left_next told is within (Ok value) put;
        clean = λ clean. so_far.clean (put.makes.clean clean);
        tokens = put.makes.tokens ∙ so_far.tokens;
      }

  -- a row is not put
  part_made : (made : Content) → made ≡ levelled (take (suc count) floors) (held old).content → (c : Content) → (held now).is_clean
      → OldOrNew (held now).content made c → IsPartLevelled floors (held old).content c
  part_made made is c clean (inl same) = record { count = count; is = same ∙ so_far.content clean }
  part_made made is c clean (inr same) = record { count = suc count; is = same ∙ is }

  pub level_fails : (told : Option ℕ) → slice_get floors count ≡ Some told → count < length (held old).content.rows
      → {A B E : Type 0} (result : Result A E) (end : Result B E) (fault : E) → result ≡ Err fault → end ≡ Err fault
      → MayPut held now new (told_at count told (held now).content) result → Levels held old new floors end
  level_fails told is within (Ok value) end fault err same put = absurd cc
  level_fails told is within (Err value) (Ok done) fault err same put = absurd cc
  level_fails told is within (Err value) (Err other) fault err same put = record {
    ok = λ _. tt;
    err = λ clean. part_made _ (made_next told is within (put.makes.clean clean)) _ (put.makes.clean clean) (put.makes.err clean);
    left = left_next told is within (Err value) put;
    settled = λ _. tt;
    clean = λ clean. so_far.clean (put.makes.clean clean);
  }

  -- all of them are committed
  level_ok : take count floors ≡ floors → {A E : Type 0} (result : Result A E) → Commits held now new result → (held new).is_clean
      → OnOk result ((held new).content ≡ levelled floors (held old).content)
  level_ok all (Err fault) commits clean = tt
  level_ok all (Ok done) commits clean =
      commits.makes.ok clean ∙ so_far.content (commits.makes.clean clean) ∙ ap (λ l. levelled l (held old).content) all

  level_err : {A E : Type 0} (result : Result A E) → Commits held now new result → (held new).is_clean
      → OnErr result (IsPartLevelled floors (held old).content (held new).content)
  level_err (Ok done) commits clean = tt
  level_err (Err fault) commits clean =
      elim (commits.makes.err clean) [
        | inl same ↦ record { count = count; is = same ∙ so_far.content (commits.makes.clean clean) }
        | inr same ↦ record { count = count; is = same ∙ so_far.content (commits.makes.clean clean) }
      ]

  pub level_ends : take count floors ≡ floors → {A E : Type 0} (result : Result A E) → Commits held now new result → Levels held old new floors result
  level_ends all result commits =
      let part = λ (clean : (held new).is_clean) (c : Content) (same : c ≡ (held now).content).
      let is : IsPartLevelled floors (held old).content c = record { count = count; is = same ∙ so_far.content (commits.makes.clean clean) } in is in
      record {
        ok = level_ok all result commits;
        err = level_err result commits;
        left = λ clean c leaves. elim (commits.left c leaves) [
          | inl before ↦ so_far.left (commits.makes.clean clean) c before
          | inr same ↦ inr (part clean c same)
        ];
        settled = commits.settled;
        clean = λ clean. so_far.clean (commits.makes.clean clean);
      }

-- the floor of the files for a token of a book
pub told_there : (files : List FloorsRecord) (book : List Credential) (k : ℕ) (token : Credential) (name : List ℕ) (told : Option ℕ)
    → slice_get book k ≡ Some token → name ≡ token.name → told ≡ greatest_of name files → slice_get (told_by files book) k ≡ Some told
told_there files book k token name told is named most =
    slice_get-map (λ (t : Credential). greatest_of t.name files) book k ∙ ap (option_map (λ (t : Credential). greatest_of t.name files)) is
    ∙ ap Some (sym (most ∙ ap (λ n. greatest_of n files) named))

-- the command is done
pub has_levelled : (limits : Limits) (longest node : ℕ) {S : Type 0} (g : Ghosts S) (finds : sql.Held S → Type 0) (a : Option (List ℕ)) (texts : List (List ℕ))
    (files given : List Floors) (found store : SqlHeld S) (book : List Credential) (floors : List ℕ) {A : Type 0} (done : A)
    → IfSome a (IsImported limits 0 longest book floors) → files_after [] texts ≡ Ok (map floors_value files)
    → HasOpened g finds (Some node) (length book) found → given ≡ files
    → Levels {A = A} {E = StoreFault} (sql_held g) found store (told_by (map floors_value given) book) (Ok done)
    → IfSome a (HasLevelled g finds limits longest node texts store)
has_levelled limits longest node g finds a texts files given found store book floors done h read opened same levels =
    let told = ap (λ (fs : List Floors). told_by (map floors_value fs) book) same in
    IfSome_then a h (λ text i. record {
      import = record { book = book; floors = floors; imported = i };
      files = map floors_value files;
      read = read;
      found = found;
      opened = opened;
      levels = record {
        ok = λ clean. subst (λ l. store.mirror ≡ levelled l found.mirror) told (levels.ok clean);
        err = λ clean. tt;
        left = λ clean c leaves. subst (λ l. (sql_held g found).leaves c ⊎ IsPartLevelled l found.mirror c) told (levels.left clean c leaves);
        settled = λ clean. levels.settled clean;
        clean = λ clean. levels.clean clean;
      };
    })
