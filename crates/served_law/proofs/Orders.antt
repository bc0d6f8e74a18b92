-- Runs of commands by names have made steps, and each order of all members' steps is an interleaving.
use Rattle.std.proofs.Common.{◌≡◌, ℕ, Bool, true, List, [], ◌∷◌, ◌++◌, Option, Some, None, refl, sym, ap, ◌∙◌, subst, inl, inr}
use Rattle.std.specs.Prelude.{◌⊎◌, Result, Err, length}
use Rattle.sqlite.specs.Store.{Ghosts}
use Rattle.sqlite.specs.Held as sql
use Rattle.datagram_port.specs.Port.{PortEvent}
use Rattle.floor_store.specs.Content.{Content, with_next_boot}
use Rattle.floor_store.specs.Held.{Held}
use Rattle.floor_store.specs.Range.{IsCount}
use Rattle.floor_sql.specs.Held.{sql_held}
use Rattle.floor_sql.specs.declared.put.Put.{Put}
use Rattle.roster_sql.specs.declared.entry.Entry.{Entry}
use Rattle.named_port.specs.Runs.{handed_events}
use Rattle.named_port.specs.Translator.{TranslatorRecord}
use Rattle.oath_node.specs.Calls.{IsOpened}
use Rattle.oath_node.specs.Hosted.{Hosted}
use Rattle.oath_node.specs.TurnServing.{ServesUntil}
use Rattle.oath_node.specs.declared.serve_fault.ServeFault.{ServeFault}
use Rattle.oath_node.specs.declared.turns.Served.{Served}
use Rattle.seated_store.specs.Seated.{SeatedRecord, seated_held}
use Rattle.vote_core.specs.Schedule.{is_member}
use Rattle.vote_wire.specs.Key.{bare}
use Rattle.node_serving.specs.Stretches.{FailsToAct, operator_acts}
use Rattle.oathd_database.specs.declared.fault.Fault.{Fault}
use Rattle.node_serving.specs.declared.serving.Serving.{Serving}
use Rattle.store_serving.specs.Served.{HasServedNamed}
use Rattle.oathd_roster.specs.declared.cluster.NamedCluster.{NamedCluster}
use Rattle.book_law.specs.Lives.{Setting, Store, Terms}
use Rattle.book_law.specs.Stretches.{AreServed as AreServedOf, Stretch as StretchOf, token_cleared, tokens_cleared}
use Rattle.book_law.specs.Uses.{AreUses, IsSeatedMember, StoreUse, first_store, store_after}
use Rattle.named_order_law.specs.Bytes.{IsUnforgedInterleaving}
use Rattle.order_law.specs.Interleavings.{AreOfMembers, AreReplaced, Item, steps_at}
use Rattle.order_law.specs.Steps.{AreSteps, Closed, Ends, HasSteps, Starts, Step, place_in_end}
use Rattle.order_law.proofs.Batches.{end_append, steps_append}
use Rattle.order_law.proofs.Stretches.{act_fails, turns_end}
use Rattle.order_law.proofs.Stores.{KeepStore, keep_append, process_keeps}
use Rattle.served_law.specs.Enrolled.{enrolments, opening_uses}
use Rattle.served_law.specs.Orders.{HasNamedSteps, HasStepsOf, HaveStepsOf, IsInOrder, IsOrderOf, IsRunInOrder, MayClear}
use Rattle.served_law.specs.Processes.{RunsIn, StaysClean, number_unlocked, stretches_of}
use Rattle.served_law.specs.Runs.{AreAllNamedStores, AreNamedUses, AreStepsOfRun, IsRunOver, IsSound, NamedRun, NamedStores, NamedUse, answers_of, enrolling, named_runs, opening_steps, store_found, store_left, terms_in, view_of}
use Rattle.served_law.specs.Seated.{store_by_names}
use Rattle.served_law.specs.Uses.{AreFirstOf, Keeps}
use Rattle.served_law.proofs.Stores.{HasRunSteps, all_steps, first_keep_of, none_replaced, steps_in_order, use_steps}
use Rattle.served_law.proofs.Enrolled.{enrolled_opened}
use Rattle.served_law.proofs.Processes.{acts_as, are_served, run_starts_clean}
use Rattle.served_law.proofs.Seated.{seated_member, translator_of_opened}

-- ---- a run over a seated store

module _ {S : Type 0} (held : S → Held) (setting : Setting) (node : ℕ) (terms : Terms) (port : List ℕ) (found : Store) (store : SeatedRecord S) (old new : Hosted (SeatedRecord S))
    (member : IsSeatedMember held setting node terms port found store old) (opened : IsOpened (seated_held held) store old) (count : IsCount (seated_held held old.store).content.boot) where
  abbrev view : SeatedRecord S → Held
  view = seated_held held

  record EndsInOrder (entries : List PortEvent) (answers : ℕ → Bool → Bool → Type 0) (stretches : List (StretchOf (SeatedRecord S))) (from : Hosted (SeatedRecord S)) (first : Option (List PortEvent)) (asked : Option (List (Option ℕ))) (left_turns : ℕ) (end : Result Served ServeFault)
      (left : Content) (ends : ServesUntil view from new first (Some entries) asked None left_turns answers end ⊎ FailsToAct view (operator_acts view) from new first (Some entries) asked None left_turns end) : Type 0 where
    tokens : List (Option ℕ)
    tokens_are : MayClear view terms stretches from new first (Some entries) asked None left_turns answers end ends tokens
    has : HasSteps setting node terms port found tokens entries left

  ends_in_order : (entries : List PortEvent) (answers : ℕ → Bool → Bool → Type 0) (stretches : List (StretchOf (SeatedRecord S))) (from : Hosted (SeatedRecord S)) (first : Option (List PortEvent)) (asked : Option (List (Option ℕ))) (left_turns : ℕ) (end : Result Served ServeFault) (left : Content)
      → (view old.store).is_clean → AreServedOf view old (Some []) stretches from first → (view new.store).is_clean → (view new.store).leaves left
      → (ends : ServesUntil view from new first (Some entries) asked None left_turns answers end ⊎ FailsToAct view (operator_acts view) from new first (Some entries) asked None left_turns end)
      → EndsInOrder entries answers stretches from first asked left_turns end left ends
  ends_in_order entries answers stretches from first asked left_turns end left begins are clean leaves (inl until) = record {
    tokens = tokens_cleared terms stretches [];
    tokens_are = refl;
    has = turns_end held setting node terms port found store old member opened begins count stretches from new first entries asked None until.most end left are until.serves clean leaves;
  }
  ends_in_order entries answers stretches from first asked left_turns end left begins are clean leaves (inr fails) =
      let number : Option ℕ = number_unlocked view fails.stood new (Err fails.fault) fails.fails in
      elim (act_fails held setting node terms port found store old member opened begins count stretches from fails.stood new first entries asked None fails.count fails.served number fails.fault left
      are fails.serves (acts_as view fails.stood new (Err fails.fault) fails.fails) clean leaves) [
        | inl has ↦ record { tokens = tokens_cleared terms stretches []; tokens_are = inl refl; has = has }
        | inr has ↦ record { tokens = tokens_cleared terms stretches (token_cleared terms number ∷ []); tokens_are = inr refl; has = has }
      ]

  pub run_in_order : {entries : List PortEvent} {turns : ℕ} {answers : ℕ → Bool → Bool → Type 0} {result : Result Served ServeFault} (run : RunsIn view old new entries turns answers result) → StaysClean view run → (left : Content) → (view new.store).leaves left
      → IsInOrder view run setting node terms port found entries left
  run_in_order {entries} {turns} {answers} run stays left leaves =
      let begins = run_starts_clean view run stays in
      let are = are_served view old (Some []) None turns run.stretches run.from run.from_first run.from_asked run.left run.before stays.at_starts in
      let it = ends_in_order entries answers (stretches_of view run) run.from run.from_first run.from_asked run.left run.end left begins are stays.at_end leaves run.last in
      record { tokens = it.tokens; tokens_are = it.tokens_are; has = it.has }

pub named_run_in_order : {S : Type 0} (g : Ghosts S) (finds : sql.Held S → Type 0) (cluster : NamedCluster) (moment : ℕ) (serving : Serving) (answers : ℕ → Bool → Bool → Type 0) (result : Result Served Fault) (text : List ℕ)
    (names : List (List ℕ)) (rows : List Entry) (setting : Setting) (left : Content) (run : HasServedNamed g finds cluster moment serving answers result text)
    → IsSound run setting names rows → (view_of g run.over.last.store).leaves left → IsRunInOrder run setting names rows left
named_run_in_order g finds cluster moment serving answers result text names rows setting left run sound leaves =
    let me = serving.place.me in
    let terms = terms_in run names in
    let found = store_found run names rows in
    let serves = run.over.served_is.serves.serves in
    let made : (view_of g run.over.first.store).content ≡ with_next_boot (view_of g run.found).content = run.over.in_boot.raises.writes.makes.ok (run_starts_clean (view_of g) serves sound.stays) in
    let boot : (view_of g run.over.first.store).content.boot ≡ run.over.boot = ap (λ (c : Content). c.boot) made ∙ sym (run.over.boot_is sound.known.clean) in
    let member = seated_member g finds cluster moment serving answers result text names rows setting run sound.known sound.members in
    subst (λ (t : TranslatorRecord). IsInOrder (view_of g) serves setting me terms bare found (handed_events t run.over.served_is.serves.calls) left)
    (translator_of_opened g finds cluster moment me serving run.import.book run.import.floors run.found run.counts names rows run.over.boot run.over.known run.opened sound.known)
    (run_in_order (sql_held g) setting me terms bare found run.found run.over.first run.over.last member run.over.in_boot (subst IsCount (sym boot) sound.boot) serves sound.stays left leaves)

-- ---- an opening as steps

enrols_steps : (setting : Setting) (node : ℕ) (names : List (List ℕ)) (new : List Entry) (floors : List ℕ) (store : Store) → AreUses setting node store (enrolments node names new floors)
    → AreSteps setting node (Closed store) (enrolling node names new floors)
enrols_steps setting node names [] floors store are = tt
enrols_steps setting node names (entry ∷ new) [] store are = tt
enrols_steps setting node names (entry ∷ new) (floor ∷ floors) store are = (are.0, enrols_steps setting node names new floors _ are.1)

enrols_end : (setting : Setting) (node : ℕ) (names : List (List ℕ)) (new : List Entry) (floors : List ℕ) (store : Store)
    → place_in_end setting node (Closed store) (enrolling node names new floors) ≡ Closed (store_after setting (enrolments node names new floors) store)
enrols_end setting node names [] floors store = refl
enrols_end setting node names (entry ∷ new) [] store = refl
enrols_end setting node names (entry ∷ new) (floor ∷ floors) store = enrols_end setting node names new floors _

opens_steps : (setting : Setting) (node : ℕ) (names : List (List ℕ)) (former : List Entry) (puts : List Put) (new : List Entry) (floors : List ℕ) (store : Store)
    → AreUses setting node store (opening_uses node names former puts new floors) → AreSteps setting node (Closed store) (opening_steps node names former puts new floors)
opens_steps setting node names former [] new floors store are = enrols_steps setting node names new floors store are
opens_steps setting node names former (put ∷ puts) new floors store are = (are.0, opens_steps setting node names former puts new floors _ are.1)

opens_end : (setting : Setting) (node : ℕ) (names : List (List ℕ)) (former : List Entry) (puts : List Put) (new : List Entry) (floors : List ℕ) (store : Store)
    → place_in_end setting node (Closed store) (opening_steps node names former puts new floors) ≡ Closed (store_after setting (opening_uses node names former puts new floors) store)
opens_end setting node names former [] new floors store = enrols_end setting node names new floors store
opens_end setting node names former (put ∷ puts) new floors store = opens_end setting node names former puts new floors _

-- ---- no step of a command loses or replaces a store

enrols_keep : (node : ℕ) (names : List (List ℕ)) (new : List Entry) (floors : List ℕ) → KeepStore (enrolling node names new floors)
enrols_keep node names [] floors = tt
enrols_keep node names (entry ∷ new) [] = tt
enrols_keep node names (entry ∷ new) (floor ∷ floors) = (tt, enrols_keep node names new floors)

opens_keep : (node : ℕ) (names : List (List ℕ)) (former : List Entry) (puts : List Put) (new : List Entry) (floors : List ℕ) → KeepStore (opening_steps node names former puts new floors)
opens_keep node names former [] new floors = enrols_keep node names new floors
opens_keep node names former (put ∷ puts) new floors = (tt, opens_keep node names former puts new floors)

-- ---- the runs over one store

module _ {S U : Type 0} (g : Ghosts S) (finds : sql.Held S → Type 0) (answers : U → ℕ → Bool → Bool → Type 0) (setting : Setting) (names : List (List ℕ)) (sized : setting.tokens ≡ length names) where
  run_steps : (node : ℕ) (store : Store) (run : NamedRun U) (is : IsRunOver g finds answers setting node names store run) → HasRunSteps (named_runs g finds answers setting names) node store run is
  run_steps node store run is =
      let served = is.served in
      let me = run.serving.place.me in
      let terms = terms_in served names in
      let found = store_found served names run.rows in
      let e = enrolled_opened g finds run.cluster run.serving.settings run.moment me served.import.book served.import.floors served.found served.counts names run.rows setting served.opened is.sound.known sized in
      let one = named_run_in_order g finds run.cluster run.moment run.serving (answers_of answers run.until) run.result run.text names run.rows setting run.left served is.sound is.leaves in
      let begun : store_by_names names e.former e.content ≡ store = is.holds e.content e.passes e.former e.was in
      let mine : me ≡ node = is.of_node in
      let opening : ℕ → List StoreUse = λ n. opening_uses n names e.former e.puts e.new e.floors in
      let uses : AreUses setting node store (opening node) =
      subst (λ (n : ℕ). AreUses setting n store (opening n)) mine (subst (λ (s : Store). AreUses setting me s (opening me)) begun e.uses) in
      let after : store_after setting (opening node) store ≡ found =
      ap (λ n. store_after setting (opening n) store) (sym mine) ∙ ap (store_after setting (opening me)) (sym begun) ∙ e.after in
      let first = opening_steps node names e.former e.puts e.new e.floors in
      let body = one.has.steps in
      let kept = one.has.kept in
      let last = Starts terms bare ∷ body ++ Ends kept ∷ [] in
      let at : place_in_end setting node (Closed store) first ≡ Closed found = opens_end setting node names e.former e.puts e.new e.floors store ∙ ap (λ s. Closed s) after in
      let are : AreSteps setting node (Closed found) last = subst (λ (n : ℕ). AreSteps setting n (Closed found) last) mine one.has.are in
      let ends : place_in_end setting node (Closed found) last ≡ Closed (store_left g finds answers setting node names store run is) =
      ap (λ n. place_in_end setting n (Closed found) last) (sym mine) ∙ one.has.ends in
      let whole : place_in_end setting node (Closed store) (first ++ last) ≡ Closed (store_left g finds answers setting node names store run is) =
      end_append setting node (Closed store) first last ∙ ap (λ p. place_in_end setting node p last) at ∙ ends in
      record {
        steps = first ++ last;
        are_of = record { former = e.former; puts = e.puts; new = e.new; floors = e.floors; body = body; kept = kept; of_one = one.has.of_one; recorded = one.has.recorded; found = at; are = refl; after = whole };
        are_steps = steps_append setting node (Closed store) first last (opens_steps setting node names e.former e.puts e.new e.floors store uses) (subst (λ p. AreSteps setting node p last) (sym at) are);
        after = whole;
      }

  pub named_has_steps : (node : ℕ) (store : Store) (named : List (NamedUse U)) (are : AreNamedUses g finds answers setting node names store named) → HasStepsOf g finds answers setting node names store named are
  named_has_steps node store named are = use_steps (named_runs g finds answers setting names) (λ node store run is. run_steps node store run is) node store named are

-- ---- the steps that have happened

module _ {S U : Type 0} (g : Ghosts S) (finds : sql.Held S → Type 0) (answers : U → ℕ → Bool → Bool → Type 0) (setting : Setting) (names : List (List ℕ)) where
  pub run_keeps : (node : ℕ) (store : Store) (run : NamedRun U) (is : IsRunOver g finds answers setting node names store run) (steps : List Step) → AreStepsOfRun g finds answers setting node names store run is steps → KeepStore steps
  run_keeps node store run is steps of =
      subst KeepStore (sym of.are) (keep_append (opening_steps node names of.former of.puts of.new of.floors) (Starts (terms_in is.served names) bare ∷ of.body ++ Ends of.kept ∷ []) (opens_keep node names of.former of.puts of.new of.floors)
      (tt, keep_append of.body (Ends of.kept ∷ []) (process_keeps of.body of.of_one) (tt, tt)))

  pub first_keep_store : (node : ℕ) (store : Store) (named : List (NamedUse U)) (are : AreNamedUses g finds answers setting node names store named) (has : HasStepsOf g finds answers setting node names store named are) (steps : List Step)
      → AreFirstOf steps has.steps → KeepStore steps
  first_keep_store node store named are has steps f = first_keep_of (named_runs g finds answers setting names) run_keeps node store named are has steps f

  abbrev pub steps_have_orders : (stores : ℕ → NamedStores U) (are : AreAllNamedStores g finds answers setting names stores) → ((node : ℕ) → HaveStepsOf g finds answers setting node names (first_store setting node) (stores node) (are node))
      → HasNamedSteps g finds answers setting names stores are
  steps_have_orders stores are have = steps_in_order (named_runs g finds answers setting names) run_keeps stores are have

  pub all_named_steps : (stores : ℕ → NamedStores U) (are : AreAllNamedStores g finds answers setting names stores) → setting.tokens ≡ length names → HasNamedSteps g finds answers setting names stores are
  all_named_steps stores are sized = all_steps (named_runs g finds answers setting names) run_keeps (λ node store run is. run_steps g finds answers setting names sized node store run is) stores are

  -- without a lost store, no rule of replacements is asked for
  pub kept_stores : (named : ℕ → List (NamedUse U)) (are : AreAllNamedStores g finds answers setting names (λ node. Keeps (named node))) (has : HasNamedSteps g finds answers setting names (λ node. Keeps (named node)) are) (items : List Item)
      → AreOfMembers setting items → ((node : ℕ) → is_member setting.n node ≡ true → AreFirstOf (steps_at node items) (has.steps node).steps) → AreReplaced setting items
  kept_stores named are has items members same = none_replaced (named_runs g finds answers setting names) run_keeps named are has items members same

-- ---- bytes

pub unforged : {S U : Type 0} (g : Ghosts S) (finds : sql.Held S → Type 0) (answers : U → ℕ → Bool → Bool → Type 0) (setting : Setting) (names : List (List ℕ)) (stores : ℕ → NamedStores U) (are : AreAllNamedStores g finds answers setting names stores)
    (items : List Item) → IsOrderOf g finds answers setting names stores are items → IsUnforgedInterleaving names setting items
unforged g finds answers setting names stores are items h = record { is = h.has.interleavings items h.members h.steps h.replaced; starts = h.starts; unforged = h.caused }
