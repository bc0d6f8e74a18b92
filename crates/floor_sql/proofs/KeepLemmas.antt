-- The rule of a store over SQLite, before and after a write.
use Rattle.std.proofs.Common.{◌≡◌, ◌⊎◌, inl, inr, ℕ, ◌+◌, ◌^◌, ◌<◌, ◌≤◌, pos, false, List, ◌++◌, length, Option, Some, None, Result, Ok, Err, OnOk, IsTrue, IsSome, sym, ap, ◌∙◌, subst, arith, length-append, append-nil, subst₂, refl, [], ◌∷◌, slice_get}
use Rattle.std.specs.Option.{ForSome}
use Rattle.std.proofs.lemmas.Option.{slice_get-get_or}
use Rattle.sqlite.specs.Store.{Ghosts}
use Rattle.sqlite.specs.Held.{Held, state}
use Rattle.sqlite.specs.State.{State, HasCleanDisk, Survives}
use Rattle.sqlite.specs.View.{doubt}
use Rattle.sqlite.specs.Effect.{Database}
use Rattle.sqlite.specs.declared.types.Value.TheVariants.{Int}
use Rattle.sqlite.specs.Order.{Row}
use Rattle.sqlite.specs.Tree.{Trees, rowid, has_rowid}
use Rattle.sqlite_rules.proofs.ListLemmas.{has_found}
use Rattle.floor_store.specs.declared.fault.StoreFault.{StoreFault}
use Rattle.floor_store.specs.declared.fault.StoreFault.TheVariants.{Spent}
use Rattle.floor_store.specs.Content.{Content, opening_row, with_next_boot, with_row}
use Rattle.floor_store.specs.Fault.{is_failure}
use Rattle.floor_store.specs.Records.{PassRecord}
use Rattle.floor_sql.specs.Stored.{HasRow, HasKey, floor_columns, drift_columns, HasFloor, HasSelf, Holds, Raises, Commits, MayCommit, KeepsCommit}
use Rattle.floor_store.specs.Held.{RaisesBoot, Writes, Commits as CommitsAll}
use Rattle.floor_sql.specs.Held.{SqlHeld, Mirrors, IsKept, IsStaged, HasAudit, Leaves, sql_held}
use Rattle.floor_sql.specs.Staged.{MakesAll, MakesPuts, passes_in, with_boot, with_puts}
use Rattle.floor_sql.specs.declared.put.Put.{Put}
use Rattle.floor_sql.specs.declared.schema.Format.{Format}
use Rattle.floor_sql.proofs.ContentLemmas.{Alters, one_content, raises}
use Rattle.floor_sql.proofs.PassLemmas.{same_passes}

-- a row that is found under a key has that key
pub has_key : (rows : List Row) (key : ℕ) (columns : Row → Row) (values : Row) (it : HasRow rows key columns values) → (columns it.found ≡ values → rowid it.found ≡ Int (pos key)) → HasKey rows key
has_key rows key columns values it keyed = record { was = it.found; there = (has_found (has_rowid (pos key)) rows it.found it.place).0; keyed = keyed it.shows }

pub has_floor : (s : State) (c : Content) (count token : ℕ) → token < length c.rows → Mirrors s c count → HasFloor s.now token
has_floor s c count token low it =
    let d = opening_row 0 in
    let row = it.holds.rows token _ (slice_get-get_or c.rows token d low) in
    record { schema = (it.format, it.schema); floor = has_key (s.now.trees 1) token floor_columns _ row.floor (λ shows. cc); drift = has_key (s.now.trees 3) token drift_columns _ row.drift (λ shows. cc) }

pub has_self : (s : State) (c : Content) (count : ℕ) → Mirrors s c count → HasSelf s.now
has_self s c count it = (it.format, record { schema = it.schema; node = it.holds.node; tokens = length c.rows; boot = c.boot; held = it.holds.self })

-- that the boots are spent is no failure
never : {P : Type 0} (e : StoreFault) → IsTrue (is_failure e) → e ≡ Spent → P
never e failure spent =
    let fails : IsTrue (is_failure Spent) = subst (λ f. IsTrue (is_failure f)) spent failure in
    absurd (cc)

-- while the connection is open, a stop leaves its last commit alone
abbrev pub IsSettledWhileOpen : {S : Type 0} → Ghosts S → Held S → Type 0
IsSettledWhileOpen g conn = (trees : Trees) → IsTrue (state g conn).is_open → (state g conn).may_leave trees
    → trees ≡ (state g conn).committed.trees

-- while the store is not broken, a stop leaves its content alone
pub leaves_mirror : {S : Type 0} (g : Ghosts S) (conn : Held S) (mirror : Content) (count : ℕ) → IsKept g conn mirror count None
    → IsSettledWhileOpen g conn → (c : Content) → Leaves g conn c → c ≡ mirror
leaves_mirror g conn mirror count kept law c it =
    let is_open = kept.is_open refl it.clean in
    let was = kept.tables it.clean is_open in
    let trees : (state g conn).now.trees ≡ it.trees = ap (λ (d : Database). d.trees) was.settled ∙ sym (law it.trees is_open it.left) in
    one_content it.format was.format it.trees c mirror it.passes was.passes it.holds (subst (λ (t : Trees). Holds was.format t mirror was.passes) trees was.holds)

abbrev pub stored : {S : Type 0} → Held S → Content → List Put → ℕ → Option StoreFault → SqlHeld S
stored conn mirror staged count fault = record { conn = conn; mirror = mirror; staged = staged; passes = count; fault = fault }

-- without waiting puts the tables hold the mirror
pub idle_kept : {S : Type 0} (g : Ghosts S) (conn : Held S) (mirror : Content) (staged : List Put) (count : ℕ) (fault : Option StoreFault)
    → IsStaged g conn mirror staged count fault → staged ≡ [] → IsKept g conn mirror count fault
idle_kept g conn mirror staged count fault it none =
    subst (λ (c : Content). IsKept g conn c count fault) (sym (it.replayed ∙ ap (with_puts it.base) none)) it.kept

pub idle_staged : {S : Type 0} (g : Ghosts S) (conn : Held S) (mirror : Content) (staged : List Put) (count : ℕ) (fault : Option StoreFault)
    → IsKept g conn mirror count fault → staged ≡ [] → IsStaged g conn mirror staged count fault
idle_staged g conn mirror staged count fault kept none = record {
  base = mirror;
  kept = kept;
  replayed = sym (ap (with_puts mirror) none);
  known = λ i put is. (let got : slice_get {X = Put} [] i ≡ Some put = subst (λ (l : List Put). slice_get l i ≡ Some put) none is in absurd (cc));
  room = let few : length (passes_in staged) ≡ 0 = ap (λ (l : List Put). length (passes_in l)) none in let numbers = kept.numbers in omega arith;
}

pub idle_invariant : {S : Type 0} (g : Ghosts S) (conn : Held S) (mirror : Content) (staged : List Put) (count : ℕ) (fault : Option StoreFault) (more : ℕ)
    → IsKept g conn mirror count fault → staged ≡ [] → more ≡ 0 → IsStaged g conn mirror staged count fault × (more ≡ length (passes_in staged))
idle_invariant g conn mirror staged count fault more kept none few =
    (idle_staged g conn mirror staged count fault kept none, few ∙ sym (ap (λ (l : List Put). length (passes_in l)) none))

module _ {S : Type 0} (g : Ghosts S) (old new : Held S) (mirror : Content) (count : ℕ) (kept : IsKept g old mirror count None) where
  mirrored : doubt (state g old).is_clean ≤ doubt (state g new).is_clean → HasCleanDisk (state g new) → Mirrors (state g old) mirror count
  mirrored clean now = let before : HasCleanDisk (state g old) = omega arith in kept.tables before (kept.is_open refl before)

  -- a write that failed has broken the store, and left the tables as they were
  pub kept_broken : (e : StoreFault) → IsTrue (is_failure e) → new.in_transaction ≡ false
      → doubt (state g old).is_clean ≤ doubt (state g new).is_clean → (HasCleanDisk (state g new) → KeepsCommit (state g old) (state g new))
      → IsKept g new mirror count (Some e)
  kept_broken e failure idle clean back = record {
    idle = idle;
    is_open = λ none now. absurd (cc);
    tables = λ now open_now.
        let was = mirrored clean now in
        let same : (state g new).now ≡ (state g old).now = (back now).now open_now ∙ sym was.settled in
        record {
          format = was.format;
          schema = ap (λ (d : Database). d.schema) same ∙ was.schema;
          passes = was.passes;
          holds = subst (λ (d : Database). Holds was.format d.trees mirror was.passes) (sym same) was.holds;
          counted = was.counted;
          settled = (back now).now open_now ∙ sym ((back now).committed open_now);
        };
    numbers = kept.numbers;
    failing = λ x is. subst (λ f. IsTrue (is_failure f)) (cc) failure;
  }

  module _ (IsChange : Database → Database → Type 0) (after : Content) (more : List PassRecord) (alters : Alters IsChange mirror count after more) where
    -- a write that is done has changed the mirror as the tables
    pub kept_changed : new.in_transaction ≡ false → doubt (state g old).is_clean ≤ doubt (state g new).is_clean → count + length more ≤ 2 ^ 62
        → (HasCleanDisk (state g new) → Commits IsChange (state g old) (state g new)) → IsKept g new after (count + length more) None
    kept_changed idle clean room done = record {
      idle = idle;
      is_open = λ none now. (done now).is_open;
      tables = λ now open_now.
          let it = done now in
          let was = mirrored clean now in
          let made = alters was.format (state g old).now (state g new).now was.passes was.schema was.holds was.counted (subst (IsChange (state g old).now) (sym it.now) it.committed) in
          record {
            format = was.format;
            schema = made.0;
            passes = was.passes ++ more;
            holds = made.1;
            counted = length-append was.passes more ∙ ap (λ n. n + length more) was.counted;
            settled = it.now;
          };
      numbers = room;
      failing = λ x none. absurd (cc);
    }

    -- a write that is done has made the audit list longer
    pub audit_changed : doubt (state g old).is_clean ≤ doubt (state g new).is_clean → HasCleanDisk (state g new)
        → Commits IsChange (state g old) (state g new) → (format : Format) (passes : List PassRecord) → Holds format (state g old).committed.trees mirror passes
        → (after_format : Format) × Holds after_format (state g new).committed.trees after (passes ++ more)
    audit_changed clean now it format passes had =
        let was = mirrored clean now in
        let held : Holds format (state g old).now.trees mirror passes = subst (λ (d : Database). Holds format d.trees mirror passes) (sym was.settled) had in
        let same : was.passes ≡ passes = same_passes (state g old).now.trees was.passes passes was.holds.pass held.pass in
        let made = alters was.format (state g old).now (state g new).committed was.passes was.schema was.holds was.counted it.committed in
        (was.format, subst (λ (l : List PassRecord). Holds was.format (state g new).committed.trees after (l ++ more)) same made.1)

    -- what a stop may leave could be left before, or is the new content
    pub left_changed : Survives (state g old) (state g new) (MayCommit IsChange (state g old)) → (c : Content) → Leaves g new c → Leaves g old c ⊎ (c ≡ after)
    left_changed s c it =
        let was = mirrored s.clean it.clean in
        let before : HasCleanDisk (state g old) = let clean = s.clean in let now = it.clean in omega arith in
        elim (s.crash it.clean it.trees it.left) [
          | inl earlier ↦ inl (record { clean = before; trees = it.trees; left = earlier; format = it.format; passes = it.passes; holds = it.holds })
          | inr done ↦ inr (
              let made = alters was.format (state g old).now done.0 was.passes was.schema was.holds was.counted done.1 in
              one_content it.format was.format it.trees c after it.passes (was.passes ++ more) it.holds (subst (λ (t : Trees). Holds was.format t after (was.passes ++ more)) (sym done.2) made.1))
        ]

-- a change of tables that makes the puts
makes_puts : (base : Content) (count : ℕ) (staged : List Put) → Alters (MakesPuts count staged) base count (with_puts base staged) (passes_in staged)
makes_puts base count staged format old new passes schema holds counted change = change format base passes schema holds counted

boot_with_puts : (c : Content) (puts : List Put) → (with_puts c puts).boot ≡ c.boot
boot_with_puts c [] = refl
boot_with_puts c (put ∷ puts) = boot_with_puts (with_row c put.token put.row put.pass) puts

-- one that makes the puts and raises the boot
pub makes_all : (base : Content) (count : ℕ) (staged : List Put) (boot : Option ℕ) → ForSome boot (λ b. b ≡ base.boot + 1)
    → Alters (MakesAll count staged boot) base count (with_boot boot (with_puts base staged)) (passes_in staged)
makes_all base count staged None next format old new passes schema holds counted change = change format base passes schema holds counted
makes_all base count staged (Some boot) next format old new passes schema holds counted change =
    let c = with_puts base staged in
    let number : boot ≡ c.boot + 1 = next boot refl ∙ ap (λ (n : ℕ). n + 1) (sym (boot_with_puts base staged)) in
    let first = makes_puts base count staged format old change.0 passes schema holds counted change.1 in
    let all = passes ++ passes_in staged in
    let raised : Raises (c.boot + 1) change.0 new = subst (λ (n : ℕ). Raises n change.0 new) number change.2 in
    let made = raises (length all) c format change.0 new all first.0 first.1 refl raised in
    let content : with_next_boot c ≡ with_boot (Some boot) c = ap (λ (n : ℕ). with_boot (Some n) c) (sym number) in
    (made.0, subst₂ (λ (d : Content) (l : List PassRecord). Holds format new.trees d l) content (append-nil all) made.1)

-- A write of all waiting puts, with the boot if it is Some.
module _ {S : Type 0} (g : Ghosts S) (old new : Held S) (base mirror : Content) (staged : List Put) (count : ℕ) (boot : Option ℕ) (kept : IsKept g old base count None)
    (replayed : mirror ≡ with_puts base staged) (next : ForSome boot (λ b. b ≡ mirror.boot + 1))
    (s : Survives (state g old) (state g new) (MayCommit (MakesAll count staged boot) (state g old))) where
  same_boot : mirror.boot ≡ base.boot
  same_boot = ap (λ (c : Content). c.boot) replayed ∙ boot_with_puts base staged

  alters : Alters (MakesAll count staged boot) base count (with_boot boot (with_puts base staged)) (passes_in staged)
  alters = makes_all base count staged boot (λ b is. next b is ∙ ap (λ (n : ℕ). n + 1) same_boot)

  after_is : with_boot boot (with_puts base staged) ≡ with_boot boot mirror
  after_is = sym (ap (with_boot boot) replayed)

  all_left : (c : Content) → Leaves g new c → Leaves g old c ⊎ (c ≡ with_boot boot mirror)
  all_left c it = elim (left_changed g old new base count kept (MakesAll count staged boot) (with_boot boot (with_puts base staged)) (passes_in staged) alters s c it) [
    | inl was ↦ inl was
    | inr is ↦ inr (is ∙ after_is)
  ]

  -- one that failed may be found done after a stop all the same
  pub failed_writes : {A : Type 0} (was : Option StoreFault) (e : StoreFault) → was ≡ None
      → Writes {A = A} {E = StoreFault} (sql_held g) (stored old mirror staged count was) (stored new mirror staged count (Some e)) (with_boot boot mirror) (Err e)
  failed_writes was e none = record {
    makes = record {
      ok = λ _. tt;
      err = λ _. inl refl;
      stays = λ broken. let some = subst IsSome none broken in absurd (cc);
      count = rw none (omega arith);
      clean = λ now. let clean = s.clean in omega arith;
      tokens = refl;
    };
    left = all_left;
    settled = λ _. tt;
    intact = tt;
  }

  module _ (room : count + length (passes_in staged) ≤ 2 ^ 62) (idle : new.in_transaction ≡ false)
      (done : HasCleanDisk (state g new) → Commits (MakesAll count staged boot) (state g old) (state g new)) where
    kept_after : IsKept g new (with_boot boot (with_puts base staged)) (count + length (passes_in staged)) None
    kept_after = kept_changed g old new base count kept (MakesAll count staged boot) (with_boot boot (with_puts base staged)) (passes_in staged) alters idle s.clean room done

    -- one that is done
    pub done_writes : {A : Type 0} (left_staged : List Put) (was : Option StoreFault) (a : A) (now : Content) (total : ℕ) → was ≡ None → now ≡ with_boot boot mirror
        → length (with_boot boot mirror).rows ≡ length mirror.rows → IsSettledWhileOpen g new
        → Writes {A = A} {E = StoreFault} (sql_held g) (stored old mirror staged count was) (stored new now left_staged total was) (with_boot boot mirror) (Ok a)
    done_writes left_staged was a now total none made tokens law = record {
      makes = record {
        ok = λ _. made;
        err = λ _. tt;
        stays = λ broken. let some = subst IsSome none broken in absurd (cc);
        count = omega arith;
        clean = λ now. let clean = s.clean in omega arith;
        tokens = ap (λ (c : Content). length c.rows) made ∙ tokens;
      };
      left = all_left;
      settled = λ _ c left. leaves_mirror g new (with_boot boot (with_puts base staged)) (count + length (passes_in staged)) kept_after law c left ∙ after_is ∙ sym made;
      intact = (none, none);
    }

    -- the tables hold the mirror after it
    pub done_staged : (now : Content) (left_staged : List Put) (total : ℕ) → now ≡ with_boot boot mirror → left_staged ≡ [] → total ≡ count + length (passes_in staged)
        → IsStaged g new now left_staged total None
    done_staged now left_staged total made none counted =
        let plain = subst (λ (c : Content). IsKept g new c (count + length (passes_in staged)) None) (after_is ∙ sym made) kept_after in
        idle_staged g new now left_staged total None (subst (λ (n : ℕ). IsKept g new now n None) (sym counted) plain) none

    -- the passes that waited follow the others
    pub done_audit : (now : Content) (left_staged : List Put) (total : ℕ) (was : Option StoreFault) → now ≡ with_boot boot mirror → left_staged ≡ [] → HasCleanDisk (state g new)
        → (all : List PassRecord) → HasAudit g (stored old mirror staged count was) all → HasAudit g (stored new now left_staged total was) all
    done_audit now left_staged total was made none clean all had =
        let it = had.committed in
        let mirrored : Mirrors (state g old) base count = (let worse = s.clean in let before : HasCleanDisk (state g old) = omega arith in kept.tables before (kept.is_open refl before)) in
        let trees : (state g old).committed.trees ≡ (state g old).now.trees = ap (λ (d : Database). d.trees) (sym mirrored.settled) in
        let same : it.base ≡ base = one_content it.format mirrored.format (state g old).now.trees it.base base had.passes mirrored.passes (subst (λ (t : Trees). Holds it.format t it.base had.passes) trees it.holds) mirrored.holds in
        let held : Holds it.format (state g old).committed.trees base had.passes = subst (λ (c : Content). Holds it.format (state g old).committed.trees c had.passes) same it.holds in
        let holds = audit_changed g old new base count kept (MakesAll count staged boot) (with_boot boot (with_puts base staged))
        (passes_in staged) alters s.clean clean (done clean) it.format had.passes held in
        record {
          passes = had.passes ++ passes_in staged;
          committed = record {
            base = now;
            replayed = sym (ap (with_puts now) none);
            format = holds.0;
            holds = subst (λ (c : Content). Holds holds.0 (state g new).committed.trees c (had.passes ++ passes_in staged)) (after_is ∙ sym made) holds.1;
          };
          waiting = had.waiting ∙ sym (ap (λ (l : List Put). (had.passes ++ passes_in staged) ++ passes_in l) none ∙ append-nil (had.passes ++ passes_in staged));
        }

-- the boot changes no row
pub rows_with_boot : (boot : Option ℕ) (c : Content) → length (with_boot boot c).rows ≡ length c.rows
rows_with_boot None c = refl
rows_with_boot (Some boot) c = refl

-- without waiting puts a commit does nothing
pub idle_commits : {S A : Type 0} (g : Ghosts S) (conn : Held S) (mirror : Content) (staged : List Put) (count : ℕ) (was : Option StoreFault) (a : A) → was ≡ None
    → IsKept g conn mirror count None → IsSettledWhileOpen g conn
    → CommitsAll {A = A} {E = StoreFault} (sql_held g) (stored conn mirror staged count was) (stored conn mirror staged count was) (Ok a)
idle_commits g conn mirror staged count was a none kept law = record {
  makes = record { ok = λ _. refl; err = λ _. tt; stays = λ _. refl; count = omega arith; clean = λ clean. clean; tokens = refl };
  left = λ c left. inl left;
  settled = λ _ c left. leaves_mirror g conn mirror count kept law c left;
  intact = (none, none);
}

module _ {S : Type 0} (g : Ghosts S) where
  -- a store that is broken raises no boot
  pub broken_raises : (store : SqlHeld S) (e : StoreFault) → store.fault ≡ Some e → IsTrue (is_failure e)
      → RaisesBoot {A = ℕ} (sql_held g) store store (Err e)
  broken_raises store e is failure =
      let some : IsSome store.fault = subst IsSome (sym is) refl in
      record {
        writes = record {
          makes = record {
            ok = λ _. tt;
            err = λ _. inl refl;
            stays = λ _. refl;
            count = omega arith;
            clean = λ now. now;
            tokens = refl;
          };
          left = λ c left. inl left;
          settled = λ _. tt;
          intact = tt;
        };
        breaks = λ _. record { broken = record { is = is; failure = failure }; counted = inl is };
        spent = λ spent. never e failure (cc);
        last = λ spent. never e failure (cc);
      }

  -- the write of the boot failed
  pub failed_raises : (old new : SqlHeld S) (e : StoreFault) → IsTrue (is_failure e) → old.fault ≡ None → new.fault ≡ Some e
      → Writes {A = ℕ} {E = StoreFault} (sql_held g) old new (with_next_boot old.mirror) (Err e)
      → RaisesBoot {A = ℕ} (sql_held g) old new (Err e)
  failed_raises old new e failure was is writes = record {
    writes = writes;
    breaks = λ _. record { broken = record { is = is; failure = failure }; counted = inr (was, rw (was, is) (omega arith)) };
    spent = λ spent. never e failure (cc);
    last = λ spent. never e failure (cc);
  }

  -- the boot is raised
  pub done_raises : (old new : SqlHeld S) (boot : ℕ)
      → Writes {A = ℕ} {E = StoreFault} (sql_held g) old new (with_next_boot old.mirror) (Ok boot)
      → RaisesBoot (sql_held g) old new (Ok boot)
  done_raises old new boot writes = record {
    writes = writes;
    breaks = tt;
    spent = λ spent. absurd (cc);
    last = λ spent. absurd (cc);
  }

pub on_ok : {A E : Type 0} (r : Result A E) (P : Type 0) → P → OnOk r P
on_ok (Ok x) P p = p
on_ok (Err e) P p = tt
