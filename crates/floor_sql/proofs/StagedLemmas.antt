-- Puts that wait for their commit, one by one.
use Rattle.std.proofs.Common.{◌≡◌, ◌≤◌, ◌<◌, ℕ, zero, suc, ◌+◌, List, [], ◌∷◌, ◌++◌, length, take, slice_get, ◌^◌, Option, None, Some, Result, Ok, Err, OnOk, OnErr, IsTrue, IsSome, inl, inr, refl, sym, ap, ◌∙◌, subst, arith, append-nil, append_assoc, length-append}
use Rattle.std.specs.Option.{option_to_list}
use Rattle.std.proofs.lemmas.Option.{slice_get-get_or}
use Rattle.sqlite.specs.Effect.{Database}
use Rattle.sqlite.specs.Tree.{Trees}
use Rattle.floor_store.specs.Content.{Content, opening_row, with_row}
use Rattle.floor_store.specs.Records.{PassRecord}
use Rattle.floor_sql.specs.Schema.{schema_of}
use Rattle.floor_sql.specs.declared.schema.Format.{Format}
use Rattle.floor_sql.specs.Staged.{CanPut, HasRows, LacksRow, MakesPuts, passes_in, with_puts}
use Rattle.floor_sql.specs.Stored.{Holds, HasFloor, HasSelf, Puts, floor_columns, drift_columns}
use Rattle.floor_sql.specs.declared.put.Put.{Put}
use Rattle.floor_sql.proofs.ContentLemmas.{length_set, puts}
use Rattle.floor_store.specs.declared.fault.StoreFault.{StoreFault}
use Rattle.sqlite.specs.Held.{Held, state}
use Rattle.sqlite.specs.State.{HasCleanDisk}
use Rattle.floor_store.specs.Fault.{is_failure}
use Rattle.floor_store.specs.Held.{Breaks, OldOrNew, Puts as PutsContent, Writes}
use Rattle.sqlite.specs.Store.{Ghosts}
use Rattle.floor_sql.specs.Held.{SqlHeld, HasAudit, IsStaged, Leaves, failures_of, sql_held}
use Rattle.floor_sql.proofs.KeepLemmas.{has_key, stored}

pub with_puts-append : (c : Content) (xs : List Put) (x : Put) → with_puts c (xs ++ x ∷ []) ≡ with_row (with_puts c xs) x.token x.row x.pass
with_puts-append c [] x = refl
with_puts-append c (y ∷ xs) x = with_puts-append (with_row c y.token y.row y.pass) xs x

pub passes_in-append : (xs : List Put) (x : Put) → passes_in (xs ++ x ∷ []) ≡ passes_in xs ++ option_to_list x.pass
passes_in-append [] x = append-nil (option_to_list x.pass)
passes_in-append (y ∷ xs) x = ap (λ (l : List PassRecord). option_to_list y.pass ++ l) (passes_in-append xs x) ∙ sym (append_assoc (option_to_list y.pass) (passes_in xs) (option_to_list x.pass))

-- no token comes or goes
pub length_with_puts : (c : Content) (xs : List Put) → length (with_puts c xs).rows ≡ length c.rows
length_with_puts c [] = refl
length_with_puts c (x ∷ xs) = length_with_puts (with_row c x.token x.row x.pass) xs ∙ length_set c.rows x.token x.row

-- the first ones and the next
take_suc : (xs : List Put) (i : ℕ) (x : Put) → slice_get xs i ≡ Some x → take (suc i) xs ≡ take i xs ++ x ∷ []
take_suc [] i x is = absurd (cc)
take_suc (y ∷ xs) zero x is = let same : y ≡ x = cc in ap (λ (z : Put). z ∷ []) same
take_suc (y ∷ xs) (suc i) x is = ap (λ (l : List Put). y ∷ l) (take_suc xs i x is)

take_next : (xs : List Put) (i : ℕ) (x : Put) → slice_get xs i ≡ Some x → take (i + 1) xs ≡ take i xs ++ x ∷ []
take_next xs i x is = let next : i + 1 ≡ suc i = omega arith in ap (λ (n : ℕ). take n xs) next ∙ take_suc xs i x is

-- tables that hold a content have a row of each of its tokens
pub has_floor_in : (format : Format) (db : Database) (c : Content) (passes : List PassRecord) (token : ℕ) → token < length c.rows → db.schema ≡ schema_of format → Holds format db.trees c passes → HasFloor db token
has_floor_in format db c passes token low schema holds =
    let d = opening_row 0 in
    let row = holds.rows token _ (slice_get-get_or c.rows token d low) in
    record { schema = (format, schema); floor = has_key (db.trees 1) token floor_columns _ row.floor (λ shows. cc); drift = has_key (db.trees 3) token drift_columns _ row.drift (λ shows. cc) }

-- the next put
pub next_put : (count : ℕ) (xs : List Put) (i : ℕ) (x : Put) (number : ℕ) (old mid new : Database)
    → slice_get xs i ≡ Some x → number ≡ count + length (passes_in (take i xs))
    → MakesPuts count (take i xs) old mid → Puts x.token x.row (number + 1) x.pass mid new → MakesPuts count (take (i + 1) xs) old new
next_put count xs i x number old mid new is numbered made change format c passes schema holds counted =
    let before = made format c passes schema holds counted in
    let long : length (passes ++ passes_in (take i xs)) ≡ number = length-append passes (passes_in (take i xs)) ∙ ap (λ (n : ℕ). n + length (passes_in (take i xs))) counted ∙ sym numbered in
    let after = puts x.token x.row number x.pass (with_puts c (take i xs)) format mid new (passes ++ passes_in (take i xs)) before.0 before.1 long change in
    let next = take_next xs i x is in
    let content : with_row (with_puts c (take i xs)) x.token x.row x.pass ≡ with_puts c (take (i + 1) xs) = sym (with_puts-append c (take i xs) x) ∙ ap (with_puts c) (sym next) in
    let all : (passes ++ passes_in (take i xs)) ++ option_to_list x.pass ≡ passes ++ passes_in (take (i + 1) xs) =
    append_assoc passes (passes_in (take i xs)) (option_to_list x.pass)
    ∙ ap (λ (l : List PassRecord). passes ++ l) (sym (passes_in-append (take i xs) x) ∙ ap passes_in (sym next)) in (
      after.0,
      subst (λ (l : List PassRecord). Holds format new.trees (with_puts c (take (i + 1) xs)) l) all
          (subst (λ (d : Content). Holds format new.trees d ((passes ++ passes_in (take i xs)) ++ option_to_list x.pass)) content after.1),
    )

known_put : (xs : List Put) (x : Put) (n : ℕ) → ((i : ℕ) (p : Put) → slice_get xs i ≡ Some p → p.token < n) → x.token < n
    → (i : ℕ) (p : Put) → slice_get (xs ++ x ∷ []) i ≡ Some p → p.token < n
known_put [] x n h low zero p is = let same : x ≡ p = cc in subst (λ (q : Put). q.token < n) same low
known_put [] x n h low (suc i) p is = absurd (cc)
known_put (y ∷ xs) x n h low zero p is = h zero p is
known_put (y ∷ xs) x n h low (suc i) p is = known_put xs x n (λ j q at. h (suc j) q at) low i p is

-- a put that waits with the others
pub staged_put : {S : Type 0} (g : Ghosts S) (conn : Held S) (mirror after : Content) (staged more_staged : List Put) (count : ℕ) (fault : Option StoreFault) (more n : ℕ) (put : Put)
    → IsStaged g conn mirror staged count fault → more ≡ length (passes_in staged) → put.token < length mirror.rows
    → more_staged ≡ staged ++ put ∷ [] → after ≡ with_row mirror put.token put.row put.pass → n ≡ length (option_to_list put.pass) → count + (more + n) ≤ 2 ^ 62
    → IsStaged g conn after more_staged count fault × (more + n ≡ length (passes_in more_staged))
staged_put g conn mirror after staged more_staged count fault more n put it counted low pushed made one room =
    let passes : length (passes_in more_staged) ≡ length (passes_in staged) + length (option_to_list put.pass) =
    ap (λ (l : List Put). length (passes_in l)) pushed ∙ ap length (passes_in-append staged put) ∙ length-append (passes_in staged) (option_to_list put.pass) in
    let rows : length mirror.rows ≡ length it.base.rows = ap (λ (c : Content). length c.rows) it.replayed ∙ length_with_puts it.base staged in
    let known : (i : ℕ) (p : Put) → slice_get (staged ++ put ∷ []) i ≡ Some p → p.token < length it.base.rows = known_put staged put (length it.base.rows) it.known (omega (arith, rows, low)) in (
      record {
        base = it.base;
        kept = it.kept;
        replayed = made ∙ ap (λ (c : Content). with_row c put.token put.row put.pass) it.replayed ∙ sym (with_puts-append it.base staged put) ∙ ap (with_puts it.base) (sym pushed);
        known = subst (λ (l : List Put). (i : ℕ) (p : Put) → slice_get l i ≡ Some p → p.token < length it.base.rows) (sym pushed) known;
        room = omega (arith, passes, counted, one, room);
      },
      omega (arith, passes, counted, one),
    )

-- the put's pass waits after the others
pub audit_put : {S : Type 0} (g : Ghosts S) (conn : Held S) (mirror after : Content) (staged more_staged : List Put) (count : ℕ) (fault : Option StoreFault) (put : Put) (all : List PassRecord)
    → more_staged ≡ staged ++ put ∷ [] → after ≡ with_row mirror put.token put.row put.pass → HasAudit g (stored conn mirror staged count fault) all
    → HasAudit g (stored conn after more_staged count fault) (all ++ option_to_list put.pass)
audit_put g conn mirror after staged more_staged count fault put all pushed made had =
    let it = had.committed in
    record {
      passes = had.passes;
      committed = record {
        base = it.base;
        replayed = made ∙ ap (λ (c : Content). with_row c put.token put.row put.pass) it.replayed ∙ sym (with_puts-append it.base staged put) ∙ ap (with_puts it.base) (sym pushed);
        format = it.format;
        holds = it.holds;
      };
      waiting = ap (λ (l : List PassRecord). l ++ option_to_list put.pass) had.waiting ∙ append_assoc had.passes (passes_in staged) (option_to_list put.pass)
          ∙ ap (λ (l : List PassRecord). had.passes ++ l) (sym (passes_in-append staged put) ∙ ap passes_in (sym pushed));
    }

-- how many passes they have
pub passes_in-next : (xs : List Put) (i : ℕ) (x : Put) → slice_get xs i ≡ Some x → length (passes_in (take (i + 1) xs)) ≡ length (passes_in (take i xs)) + length (option_to_list x.pass)
passes_in-next xs i x is =
    ap (λ (l : List Put). length (passes_in l)) (take_next xs i x is) ∙ ap length (passes_in-append (take i xs) x)
    ∙ length-append (passes_in (take i xs)) (option_to_list x.pass)

-- tables of which puts are made have the row of `self`
pub has_self_in : (count : ℕ) (puts : List Put) (old new : Database) → CanPut old count puts → MakesPuts count puts old new → HasSelf new
has_self_in count puts old new can made =
    let now = made can.format can.content can.passes can.schema can.holds can.counted in
    let c = with_puts can.content puts in
    (can.format, record { schema = now.0; node = now.1.node; tokens = length c.rows; boot = c.boot; held = now.1.self })

-- if a row of a put is missing or doubled, a row that the write changes is
pub lacks_row : (trees : Trees) (puts : List Put) (boot : Option ℕ) → ¬ HasRows trees puts → LacksRow trees puts boot
lacks_row trees puts None lacks = lacks
lacks_row trees puts (Some boot) lacks = λ rows one. lacks rows

module _ {S A : Type 0} (g : Ghosts S) (old mid new : SqlHeld S) (made : Content) (works : old.fault ≡ None) (still : mid.fault ≡ None)
    (conn : mid.conn ≡ old.conn) (put : mid.mirror ≡ made) (tokens : length made.rows ≡ length old.mirror.rows) where
  -- the put that fills the list changes the mirror, and is written with the others
  pub puts_through : (r : Result A StoreFault) → Writes (sql_held g) mid new mid.mirror r → PutsContent (sql_held g) old new made r
  puts_through r w = record {
    makes = record {
      ok = λ clean. ok r (w.makes.ok clean);
      err = λ clean. err r (w.makes.err clean);
      stays = λ broken. let some = subst IsSome works broken in absurd (cc);
      count = let count = w.makes.count in let same : failures_of mid.fault ≡ failures_of old.fault = ap failures_of (still ∙ sym works) in omega arith;
      clean = λ clean. subst (λ (h : Held S). HasCleanDisk (state g h)) conn (w.makes.clean clean);
      tokens = w.makes.tokens ∙ ap (λ (c : Content). length c.rows) put ∙ tokens;
    };
    left = λ c it. elim (w.left c it) [
      | inl was ↦ inl (subst (λ (h : Held S). Leaves g h c) conn was)
      | inr is ↦ inr (is ∙ put)
    ];
    intact = intact r w.intact;
  }
    where
      ok : (r : Result A StoreFault) → OnOk r (new.mirror ≡ mid.mirror) → OnOk r (new.mirror ≡ made)
      ok (Ok a) is = is ∙ put
      ok (Err e) is = tt

      err : (r : Result A StoreFault) → OnErr r (OldOrNew mid.mirror mid.mirror new.mirror) → OnErr r (OldOrNew old.mirror made new.mirror)
      err (Ok a) is = tt
      err (Err e) (inl is) = inr (is ∙ put)
      err (Err e) (inr is) = inr (is ∙ put)

      intact : (r : Result A StoreFault) → OnOk r ((mid.fault ≡ None) × (new.fault ≡ None)) → OnOk r ((old.fault ≡ None) × (new.fault ≡ None))
      intact (Ok a) both = (works, both.1)
      intact (Err e) both = tt

-- a call of a store that works has broken it
pub breaks_now : {S : Type 0} (g : Ghosts S) (old new : SqlHeld S) (e : StoreFault) → old.fault ≡ None → new.fault ≡ Some e → IsTrue (is_failure e) → Breaks (sql_held g) old new e
breaks_now g old new e works is failure = record {
  broken = record { is = is; failure = failure };
  counted = inr (works, rw (works, is) (omega arith));
}

pub ok_then : {A E P Q : Type 0} (r : Result A E) → (P → Q) → OnOk r P → OnOk r Q
ok_then (Ok a) next p = next p
ok_then (Err e) next p = tt
