-- Runs of commands by names are uses of their stores.
use Rattle.std.proofs.Common.{◌≡◌, ℕ, Bool, List, [], ◌∷◌, ◌++◌, refl, sym, ap, ◌∙◌, subst}
use Rattle.std.specs.Prelude.{Result, length}
use Rattle.sqlite.specs.Store.{Ghosts}
use Rattle.sqlite.specs.Held as sql
use Rattle.floor_store.specs.Content.{Content, with_next_boot}
use Rattle.floor_store.specs.Range.{IsCount}
use Rattle.floor_sql.specs.Held.{sql_held}
use Rattle.roster_sql.specs.declared.entry.Entry.{Entry}
use Rattle.named_port.specs.Runs.{handed_events}
use Rattle.named_port.specs.Translator.{TranslatorRecord}
use Rattle.oath_node.specs.declared.turns.Served.{Served}
use Rattle.vote_wire.specs.Key.{bare}
use Rattle.oathd_database.specs.declared.fault.Fault.{Fault}
use Rattle.node_serving.specs.declared.serving.Serving.{Serving}
use Rattle.store_serving.specs.Served.{HasServedNamed}
use Rattle.oathd_roster.specs.declared.cluster.NamedCluster.{NamedCluster}
use Rattle.book_law.specs.Lives.{Setting, Store}
use Rattle.book_law.specs.Uses.{AreUses, ServesInParts, StoreUse, Writes, store_after, written_store}
use Rattle.served_law.specs.Enrolled.{opening_uses}
use Rattle.served_law.specs.Processes.{IsUse}
use Rattle.served_law.specs.Runs.{AreNamedUses, AreOfRun, HasUsesOf, IsOneUse, IsRunOver, IsSound, NamedRun, NamedUse, answers_of, store_found, store_left, terms_in, view_of}
use Rattle.served_law.specs.Seated.{store_by_names}
use Rattle.served_law.specs.Uses.{RunsBy, WritesBy}
use Rattle.served_law.proofs.Enrolled.{enrolled_opened}
use Rattle.served_law.proofs.Processes.{run_is_use, run_starts_clean}
use Rattle.served_law.proofs.Seated.{seated_member, translator_of_opened}
use Rattle.served_law.proofs.Uses.{after_append, uses_append}

-- ---- one run

pub run_is_one_use : {S : Type 0} (g : Ghosts S) (finds : sql.Held S → Type 0) (cluster : NamedCluster) (moment : ℕ) (serving : Serving) (answers : ℕ → Bool → Bool → Type 0) (result : Result Served Fault) (text : List ℕ)
    (names : List (List ℕ)) (rows : List Entry) (setting : Setting) (left : Content) (run : HasServedNamed g finds cluster moment serving answers result text)
    → IsSound run setting names rows → (view_of g run.over.last.store).leaves left → IsOneUse run setting names rows left
run_is_one_use g finds cluster moment serving answers result text names rows setting left run sound leaves =
    let me = serving.place.me in
    let terms = terms_in run names in
    let found = store_found run names rows in
    let serves = run.over.served_is.serves.serves in
    let made : (view_of g run.over.first.store).content ≡ with_next_boot (view_of g run.found).content = run.over.in_boot.raises.writes.makes.ok (run_starts_clean (view_of g) serves sound.stays) in
    let boot : (view_of g run.over.first.store).content.boot ≡ run.over.boot = ap (λ (c : Content). c.boot) made ∙ sym (run.over.boot_is sound.known.clean) in
    let member = seated_member g finds cluster moment serving answers result text names rows setting run sound.known sound.members in
    subst (λ (t : TranslatorRecord). IsUse (view_of g) serves setting me terms bare found (handed_events t run.over.served_is.serves.calls) left)
    (translator_of_opened g finds cluster moment me serving run.import.book run.import.floors run.found run.counts names rows run.over.boot run.over.known run.opened sound.known)
    (run_is_use (sql_held g) setting me terms bare found run.found run.over.first run.over.last member run.over.in_boot (subst IsCount (sym boot) sound.boot) serves sound.stays left leaves)

-- ---- the runs over one store

module _ {S U : Type 0} (g : Ghosts S) (finds : sql.Held S → Type 0) (answers : U → ℕ → Bool → Bool → Type 0) (setting : Setting) (names : List (List ℕ)) (sized : setting.tokens ≡ length names) where
  -- a run as uses of a history
  record RunUses (node : ℕ) (store : Store) (run : NamedRun U) (is : IsRunOver g finds answers setting node names store run) : Type 0 where
    uses : List StoreUse
    are_of : AreOfRun g finds answers setting node names store run is uses
    are_uses : AreUses setting node store uses
    after : store_after setting uses store ≡ store_left g finds answers setting node names store run is

  run_uses : (node : ℕ) (store : Store) (run : NamedRun U) (is : IsRunOver g finds answers setting node names store run) → RunUses node store run is
  run_uses node store run is =
      let served = is.served in
      let me = run.serving.place.me in
      let terms = terms_in served names in
      let found = store_found served names run.rows in
      let e = enrolled_opened g finds run.cluster run.serving.settings run.moment me served.import.book served.import.floors served.found served.counts names run.rows setting served.opened is.sound.known sized in
      let one = run_is_one_use g finds run.cluster run.moment run.serving (answers_of answers run.until) run.result run.text names run.rows setting run.left served is.sound is.leaves in
      let begun : store_by_names names e.former e.content ≡ store = is.holds e.content e.passes e.former e.was in
      let enrolled : List StoreUse = opening_uses me names e.former e.puts e.new e.floors in
      let process : List StoreUse = ServesInParts terms bare one.was.parts run.left ∷ [] in
      let after : store_after setting enrolled store ≡ found = ap (store_after setting enrolled) (sym begun) ∙ e.after in
      let first : AreUses setting me store enrolled = subst (λ (s : Store). AreUses setting me s enrolled) begun e.uses in
      let rest : AreUses setting me (store_after setting enrolled store) process = subst (λ (s : Store). AreUses setting me s process) (sym after) (one.was.is, tt) in
      record {
        uses = enrolled ++ process;
        are_of = record { former = e.former; puts = e.puts; new = e.new; floors = e.floors; found = after; parts = one.was.parts; recorded = one.was.recorded; are = refl };
        are_uses = subst (λ (n : ℕ). AreUses setting n store (enrolled ++ process)) is.of_node (uses_append setting me enrolled process store first rest);
        after = after_append setting enrolled process store ∙ ap (store_after setting process) after;
      }

  pub named_uses : (node : ℕ) (store : Store) (named : List (NamedUse U)) (are : AreNamedUses g finds answers setting node names store named) → HasUsesOf g finds answers setting node names store named are
  named_uses node store [] are = record { uses = []; are_of = refl; are_uses = tt }
  named_uses node store (RunsBy run ∷ later) are =
      let first = run_uses node store run are.0 in
      let rest = named_uses node (store_left g finds answers setting node names store run are.0) later are.1 in
      record {
        uses = first.uses ++ rest.uses;
        are_of = (first.uses, rest.uses, refl, first.are_of, rest.are_of);
        are_uses = uses_append setting node first.uses rest.uses store first.are_uses (subst (λ (s : Store). AreUses setting node s rest.uses) (sym first.after) rest.are_uses);
      }
  named_uses node store (WritesBy action ∷ later) are =
      let rest = named_uses node (written_store setting action store) later are.1 in
      record { uses = Writes action ∷ rest.uses; are_of = (rest.uses, refl, rest.are_of); are_uses = (are.0, rest.are_uses) }
