-- A store that is opened with its new tokens.
use Rattle.std.proofs.Common.{◌≡◌, ℕ, ◌+◌, false, List, [], length, refl, ap, sym, subst, ◌∙◌, arith}
use Rattle.std.proofs.lemmas.List.{length-append}
use Rattle.sqlite.specs.Store.{Ghosts}
use Rattle.sqlite.specs.Effect.{Database}
use Rattle.sqlite.specs.Held.{Held, state}
use Rattle.sqlite.specs.State.{HasCleanDisk}
use Rattle.floor_sql.specs.Calls.{IsOpenedAs, KeepsTables}
use Rattle.floor_sql.specs.Held.{SqlHeld}
use Rattle.floor_sql.specs.Staged.{CanPut}
use Rattle.floor_sql.specs.declared.put.Put.{Put}
use Rattle.floor_sql.specs.declared.schema.Format.TheVariants.{Named}
use Rattle.roster_sql.specs.Enrolled.{Enrols}
use Rattle.roster_sql.specs.Roster.{BondRecord}
use Rattle.roster_sql.specs.declared.entry.Entry.{Entry}
use Rattle.roster_sql.proofs.CommitLemmas.{survives_after}
use Rattle.named_store.specs.Opened.{AreGreatest, AreWithin, EnrolsNames, EnrolsNew, HasGrown, HasNames, HasSeated, IsEnrolled, IsGrown, IsRefused, new_floors, rises}
use Rattle.named_store.specs.Seating.{AreDistinct, AreSeatsOf, new_entries}
use Rattle.named_store.proofs.GreatestLemmas.{are_greatest}
use Rattle.named_store.proofs.GrownLemmas.{enrols_new, grown_enrolled, grown_none}
use Rattle.named_store.proofs.RefusedLemmas.{refused_after, survives_any}

-- the puts fit the tables of an opened store
pub can_put : {S : Type 0} (g : Ghosts S) (old : Held S) (node tokens : ℕ) (first : SqlHeld S) → IsOpenedAs g Named old node tokens first
    → (count : ℕ) → count ≡ first.passes → (puts : List Put) → AreWithin (length first.mirror.rows) puts → HasCleanDisk (state g first.conn)
    → CanPut (state g first.conn).now count puts
can_put g old node tokens first opened count is puts within clean =
    let tables = opened.content clean in
    subst (λ (db : Database). CanPut db count puts) (sym (opened.kept.read clean).now)
    (record {
      format = Named;
      content = first.mirror;
      passes = tables.passes;
      schema = tables.schema;
      holds = tables.holds;
      counted = tables.counted ∙ sym is;
      tokens = within;
    })

module _ {S : Type 0} (g : Ghosts S) (old : Held S) (node : ℕ) (roster names : List Entry) (floors seats : List ℕ) (first : SqlHeld S)
    (opened : IsOpenedAs g Named old node (length roster) first) where
  -- nothing is new
  pub opened_none : length first.mirror.rows ≡ length roster → new_entries roster names ≡ [] → (HasCleanDisk (state g first.conn) → rises roster seats first.mirror ≡ [])
      → IsGrown g old node roster names floors seats first
  opened_none counted none low =
      let all = length-append roster (new_entries roster names) in
      let zero_is = ap (λ (es : List Entry). length es) none in
      record {
        grown = λ clean own has.
            grown_none node roster names floors seats own (state g old).now (state g first.conn).now first.mirror first.passes (opened.kept.read clean).now none (low clean) has (opened.content clean);
        rows = omega (arith, counted, all, zero_is);
        sound = opened.sound;
        survives = survives_any (state g old) (state g first.conn) (EnrolsNew node roster names floors seats) opened.kept.survives;
      }

  module _ (puts : List Put) (fresh : List ℕ) (entries : List Entry) (entries_are : entries ≡ new_entries roster names)
      (puts_are : HasCleanDisk (state g first.conn) → puts ≡ rises roster seats first.mirror)
      (floors_are : HasCleanDisk (state g first.conn) → fresh ≡ new_floors roster names floors first.mirror) where
    -- the enrolment is one of the new tokens
    whole : HasCleanDisk (state g first.conn) → (db : Database) → Enrols node (length roster) first.passes puts fresh entries (state g old).now db
        → EnrolsNew node roster names floors seats (state g old).now db
    whole early db change =
        enrols_new node roster names floors seats (state g old).now db first.mirror first.passes puts fresh entries (puts_are early) (floors_are early) entries_are (opened.content early) change

    -- tokens are enrolled
    pub opened_enrolled : (second : SqlHeld S) → length fresh ≡ length entries → IsEnrolled g first.conn node (length roster) first.passes puts fresh entries second
        → IsGrown g old node roster names floors seats second
    opened_enrolled second counted it =
        let all = length-append roster (new_entries roster names) in
        let many = ap (λ (es : List Entry). length es) entries_are in
        let rows = it.rows in
        record {
          grown = λ clean own has.
              let early : HasCleanDisk (state g first.conn) = omega (arith, it.survives.clean) in
              grown_enrolled node roster names floors seats own (state g old).now (state g first.conn).now (state g second.conn).now first.mirror second.mirror
              first.passes second.passes (length roster + length fresh) puts fresh entries (opened.kept.read early).now (puts_are early) (floors_are early) entries_are has
              (opened.content early) (it.enrols clean) (it.content clean);
          rows = omega (arith, rows, counted, all, many);
          sound = it.sound;
          survives = survives_after (Enrols node (length roster) first.passes puts fresh entries) (EnrolsNew node roster names floors seats) (state g old) (state g first.conn) (state g second.conn)
              (λ early. (opened.kept.read early).now) whole opened.kept.survives it.survives;
        }

    -- the enrolment is refused
    pub opened_refused : (new : Held S) → IsRefused g (Enrols node (length roster) first.passes puts fresh entries) first.conn new
        → IsRefused g (EnrolsNew node roster names floors seats) old new
    opened_refused new it =
        refused_after g old first.conn new (Enrols node (length roster) first.passes puts fresh entries) (EnrolsNew node roster names floors seats) opened.kept whole it

module _ {S : Type 0} (g : Ghosts S) (old mid : Held S) (node : ℕ) (names : List Entry) (floors : List ℕ) (own : BondRecord) (roster : List Entry)
    (seats : List ℕ) (seated : AreSeatsOf roster names seats) (kept : KeepsTables g old mid) (has : HasCleanDisk (state g mid) → HasNames (state g old).now node roster own) where
  named : HasCleanDisk (state g mid) → (db : Database) → EnrolsNew node roster names floors seats (state g old).now db → EnrolsNames node names floors own (state g old).now db
  named early db change = record { roster = roster; seats = seats; seated = seated; has = has early; enrols = change }

  -- the store that is seen
  pub has_seated : (store : SqlHeld S) → AreDistinct roster → IsGrown g mid node roster names floors seats store
      → HasSeated g old node names floors own (record { inner = store; seats = seats; is_unusable = false })
  has_seated store distinct it = record {
    tables = λ clean.
        let early : HasCleanDisk (state g mid) = omega (arith, it.survives.clean) in
        let same = (kept.read early).now in
        let there : HasNames (state g mid).now node roster own = subst (λ (d : Database). HasNames d node roster own) (sym same) (has early) in
        record {
          roster = roster;
          distinct = distinct;
          grown = subst (λ (d : Database). HasGrown node roster names floors seats own d (state g store.conn).now store.mirror) same (it.grown clean own there);
          seated = seated;
          greatest = subst (AreGreatest roster seats) (sym (it.grown clean own there).seen)
              (are_greatest roster (it.grown clean own there).content (sym (it.grown clean own there).was.counted) seats (new_floors roster names floors (it.grown clean own there).content));
        };
    sound = it.sound;
    works = refl;
    survives = survives_after (EnrolsNew node roster names floors seats) (EnrolsNames node names floors own) (state g old) (state g mid) (state g store.conn)
        (λ early. (kept.read early).now) named kept.survives it.survives;
  }

  -- the opening is refused after the seats were found
  pub seated_refused : (new : Held S) → IsRefused g (EnrolsNew node roster names floors seats) mid new → IsRefused g (EnrolsNames node names floors own) old new
  seated_refused new it = refused_after g old mid new (EnrolsNew node roster names floors seats) (EnrolsNames node names floors own) kept named it
