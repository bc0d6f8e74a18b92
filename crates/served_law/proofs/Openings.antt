-- Runs by names keep the rule of openings: each process finds the greatest floors of its devices.
use Rattle.std.proofs.Common.{◌≡◌, ℕ, Bool, List, [], ◌∷◌, ◌++◌, length, sym, ap, subst, ◌∙◌}
use Rattle.sqlite.specs.Store.{Ghosts}
use Rattle.sqlite.specs.Held as sql
use Rattle.otp_core.specs.Limits.{Limits}
use Rattle.token_file.specs.Credential.{Credential}
use Rattle.token_names.specs.Names.{names_of}
use Rattle.floor_store.specs.Content.{Content}
use Rattle.floor_sql.specs.Held.{SqlHeld}
use Rattle.roster_sql.specs.declared.entry.Entry.{Entry}
use Rattle.seated_store.specs.Seated.{SeatedRecord}
use Rattle.named_store.specs.Entries.{entries_of}
use Rattle.named_store.specs.Opened as named
use Rattle.named_store.specs.Seating.{rows_after}
use Rattle.named_store.specs.declared.opening.RowCounts.{RowCounts}
use Rattle.oathd_roster.specs.Enrolment.{enrolment_floors}
use Rattle.oathd_roster.specs.Opened.{HasOpenedNamed}
use Rattle.oathd_roster.specs.declared.cluster.NamedCluster.{NamedCluster}
use Rattle.vote_wire.specs.Key.{bare}
use Rattle.book_law.specs.Lives.{Setting, Store}
use Rattle.book_law.specs.Seeds.{AreGreatest, HaveSeedsOnce, UsesGreatest}
use Rattle.book_law.specs.Uses.{ServesInParts, StoreUse, store_after, written_store}
use Rattle.served_law.specs.Devices.{HaveDevices, HaveOneSeed}
use Rattle.served_law.specs.Enrolled.{opening_uses}
use Rattle.served_law.specs.Runs.{AreNamedUses, AreOf, AreOfRun, IsRunOver, NamedRun, NamedUse, store_found, store_left, terms_in}
use Rattle.served_law.specs.Seated.{AreKnown, HasKnownRows, row_names, store_by_names, tokens_of}
use Rattle.served_law.specs.Uses.{RunsBy, WritesBy}
use Rattle.served_law.proofs.Devices.{greatest_append, opened_greatest, opening_greatest}
use Rattle.served_law.proofs.Rows.{after_apart, one_roster}
use Rattle.served_law.proofs.Seated.{book_names}
use Rattle.served_law.proofs.Uses.{after_append}

module _ {S : Type 0} (g : Ghosts S) (finds : sql.Held S → Type 0) (cluster : NamedCluster) where
  pub greatest_opened : (limits : Limits) (moment node : ℕ) (book : List Credential) (floors : List ℕ) (store : SeatedRecord (SqlHeld S)) (counts : RowCounts)
      (names : List (List ℕ)) (rows : List Entry) (seed : ℕ → ℕ) (opened : HasOpenedNamed g finds cluster limits moment node book floors store counts)
      → HasKnownRows g cluster.bond names store.inner rows → HaveOneSeed seed names rows → HaveSeedsOnce seed (tokens_of names (names_of cluster.salt book))
      → AreGreatest seed (tokens_of names (names_of cluster.salt book)) (store_by_names names rows store.inner.mirror)
  greatest_opened limits moment node book floors store counts names rows seed opened its seeds once =
      let entries : List Entry = entries_of cluster.salt book in
      let has = opened.seated.tables its.clean in
      let grown = has.grown in
      let enrolled : List ℕ = enrolment_floors cluster limits moment book floors in
      let held = grown.now in
      let long : length (rows_after has.roster entries) ≡ length rows = held.counted ∙ ap (λ (c : Content). length c.rows) (sym grown.seen) ∙ sym its.has.holds.counted in
      let same : rows_after has.roster entries ≡ rows = one_roster (sql.state g store.inner.conn).now.trees (rows_after has.roster entries) rows held.roster its.has.holds.roster long in
      let own : row_names entries ≡ names_of cluster.salt book = book_names cluster.salt book in
      let found : store_by_names names (rows_after has.roster entries) (named.with_new has.roster entries enrolled store.seats grown.content) ≡ store_by_names names rows store.inner.mirror =
      (λ i. store_by_names names (same i) (sym grown.seen i)) in
      let it = opened_greatest seed names has.roster entries grown.content store.seats enrolled its.are_names (subst (AreKnown names) (sym same) its.known)
      (after_apart has.roster entries has.distinct opened.names_apart) (sym grown.was.counted) has.seated
      (subst (named.AreGreatest has.roster store.seats) grown.seen has.greatest) (subst (HaveOneSeed seed names) (sym same) seeds)
      (subst (λ (l : List (List ℕ)). HaveSeedsOnce seed (tokens_of names l)) (sym own) once) in
      subst (λ (l : List (List ℕ)). AreGreatest seed (tokens_of names l) (store_by_names names rows store.inner.mirror)) own
      (subst (AreGreatest seed (tokens_of names (row_names entries))) found it)

module _ {S U : Type 0} (g : Ghosts S) (finds : sql.Held S → Type 0) (answers : U → ℕ → Bool → Bool → Type 0) (setting : Setting) (node : ℕ) (names : List (List ℕ)) (seed : ℕ → ℕ) where
  -- what is left for the uses after a run
  run_greatest : (store : Store) (run : NamedRun U) (is : IsRunOver g finds answers setting node names store run) (first rest : List StoreUse)
      → AreOfRun g finds answers setting node names store run is first → HaveOneSeed seed names run.rows → HaveSeedsOnce seed (terms_in is.served names).seats
      → UsesGreatest seed setting (store_left g finds answers setting node names store run is) rest → UsesGreatest seed setting store (first ++ rest)
  run_greatest store run is first rest of seeds once more =
      let served = is.served in
      let me = run.serving.place.me in
      let terms = terms_in served names in
      let found = store_found served names run.rows in
      let opening : List StoreUse = opening_uses me names of.former of.puts of.new of.floors in
      let process : List StoreUse = ServesInParts terms bare of.parts run.left ∷ [] in
      let greatest : AreGreatest seed terms.seats found =
      greatest_opened g finds run.cluster run.serving.settings run.moment me served.import.book served.import.floors served.found served.counts names run.rows seed served.opened is.sound.known seeds once in
      let at_process : UsesGreatest seed setting (store_after setting opening store) process =
      subst (λ (s : Store). UsesGreatest seed setting s process) (sym of.found) (once, greatest, tt) in
      let whole : UsesGreatest seed setting store (opening ++ process) =
      greatest_append seed setting opening process store (opening_greatest seed setting me names of.former of.puts of.new of.floors store) at_process in
      let after : store_after setting (opening ++ process) store ≡ store_left g finds answers setting node names store run is =
      after_append setting opening process store ∙ ap (store_after setting process) of.found in
      subst (λ (l : List StoreUse). UsesGreatest seed setting store (l ++ rest)) (sym of.are)
      (greatest_append seed setting (opening ++ process) rest store whole (subst (λ (s : Store). UsesGreatest seed setting s rest) (sym after) more))

  pub named_greatest : (store : Store) (named : List (NamedUse U)) (are : AreNamedUses g finds answers setting node names store named)
      → HaveDevices g finds answers setting node names seed store named are → (uses : List StoreUse) → AreOf g finds answers setting node names store named are uses
      → UsesGreatest seed setting store uses
  named_greatest store [] are devices uses of = subst (UsesGreatest seed setting store) (sym of) tt
  named_greatest store (RunsBy run ∷ later) are devices uses of =
      let more = named_greatest (store_left g finds answers setting node names store run are.0) later are.1 devices.2 of.1 of.4 in
      subst (UsesGreatest seed setting store) (sym of.2) (run_greatest store run are.0 of.0 of.1 of.3 devices.0 devices.1 more)
  named_greatest store (WritesBy action ∷ later) are devices uses of =
      subst (UsesGreatest seed setting store) (sym of.1) (named_greatest (written_store setting action store) later are.1 devices of.0 of.2)
