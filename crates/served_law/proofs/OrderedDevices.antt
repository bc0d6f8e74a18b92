-- Runs by names keep the rule of openings in the order in which they happened.
use Rattle.std.proofs.Common.{ℕ, Bool, List, [], ◌∷◌, ◌++◌, inl, inr, sym, subst}
use Rattle.sqlite.specs.Store.{Ghosts}
use Rattle.sqlite.specs.Held as sql
use Rattle.floor_sql.specs.declared.put.Put.{Put}
use Rattle.roster_sql.specs.declared.entry.Entry.{Entry}
use Rattle.vote_wire.specs.Key.{bare}
use Rattle.book_law.specs.Lives.{Setting, Store, store_with_rows}
use Rattle.book_law.specs.Seeds.{AreGreatest, HaveSeedsOnce}
use Rattle.book_law.specs.Uses.{first_store, written_store}
use Rattle.order_law.specs.Devices.{AreGreatestSteps, StartsAreGreatest}
use Rattle.order_law.specs.Interleavings.{Item, steps_at}
use Rattle.order_law.specs.Steps.{Closed, Does, Ends, Gets, Loses, Place, Starts, Step, place_after, place_in_end}
use Rattle.order_law.proofs.Devices.{first_greatest_steps, greatest_steps_append, no_start, process_greatest}
use Rattle.order_law.proofs.Stores.{may_lose}
use Rattle.served_law.specs.Devices.{HaveDevices, HaveDevicesInStores, HaveOneSeed}
use Rattle.served_law.specs.Orders.{AreStepsOf, HasStepsOf, HaveHappened, HaveStepsOf, IsOrderOf}
use Rattle.served_law.specs.Runs.{AreAllNamedStores, AreNamedStores, AreNamedUses, AreStepsOfRun, IsRunOver, NamedRun, NamedStores, NamedUse, enrolling, opening_steps, store_found, store_left, terms_in}
use Rattle.served_law.specs.Uses.{AreFirstOf, Keeps, Replaces, RunsBy, WritesBy}
use Rattle.served_law.proofs.Openings.{greatest_opened}
use Rattle.served_law.proofs.Orders.{first_keep_store}

-- ---- an opening starts no process

enrols_greatest : (seed : ℕ → ℕ) (setting : Setting) (node : ℕ) (names : List (List ℕ)) (new : List Entry) (floors : List ℕ) (at : Place) → AreGreatestSteps seed setting node at (enrolling node names new floors)
enrols_greatest seed setting node names [] floors at = tt
enrols_greatest seed setting node names (entry ∷ new) [] at = tt
enrols_greatest seed setting node names (entry ∷ new) (floor ∷ floors) at = (no_start seed at _ tt, enrols_greatest seed setting node names new floors _)

opens_greatest : (seed : ℕ → ℕ) (setting : Setting) (node : ℕ) (names : List (List ℕ)) (former : List Entry) (puts : List Put) (new : List Entry) (floors : List ℕ) (at : Place)
    → AreGreatestSteps seed setting node at (opening_steps node names former puts new floors)
opens_greatest seed setting node names former [] new floors at = enrols_greatest seed setting node names new floors at
opens_greatest seed setting node names former (put ∷ puts) new floors at = (no_start seed at _ tt, opens_greatest seed setting node names former puts new floors _)

module _ {S U : Type 0} (g : Ghosts S) (finds : sql.Held S → Type 0) (answers : U → ℕ → Bool → Bool → Type 0) (setting : Setting) (names : List (List ℕ)) (seed : ℕ → ℕ) where
  -- ---- the steps of one store

  run_greatest_steps : (node : ℕ) (store : Store) (run : NamedRun U) (is : IsRunOver g finds answers setting node names store run) (first rest : List Step) → AreStepsOfRun g finds answers setting node names store run is first
      → HaveOneSeed seed names run.rows → HaveSeedsOnce seed (terms_in is.served names).seats → AreGreatestSteps seed setting node (Closed (store_left g finds answers setting node names store run is)) rest
      → AreGreatestSteps seed setting node (Closed store) (first ++ rest)
  run_greatest_steps node store run is first rest of seeds once more =
      let served = is.served in
      let me = run.serving.place.me in
      let terms = terms_in served names in
      let found = store_found served names run.rows in
      let opening = opening_steps node names of.former of.puts of.new of.floors in
      let last = of.body ++ Ends of.kept ∷ [] in
      let greatest : AreGreatest seed terms.seats found =
      greatest_opened g finds run.cluster run.serving.settings run.moment me served.import.book served.import.floors served.found served.counts names run.rows seed served.opened is.sound.known seeds once in
      let begun : Place = place_after setting node (Closed found) (Starts terms bare) in
      let body : AreGreatestSteps seed setting node begun last =
      greatest_steps_append seed setting node begun of.body (Ends of.kept ∷ []) (process_greatest seed setting node begun of.body of.of_one) (no_start seed (place_in_end setting node begun of.body) (Ends of.kept) tt, tt) in
      let process : AreGreatestSteps seed setting node (Closed found) (Starts terms bare ∷ last) = ((once, greatest), body) in
      let at_process : AreGreatestSteps seed setting node (place_in_end setting node (Closed store) opening) (Starts terms bare ∷ last) =
      subst (λ p. AreGreatestSteps seed setting node p (Starts terms bare ∷ last)) (sym of.found) process in
      let whole : AreGreatestSteps seed setting node (Closed store) (opening ++ Starts terms bare ∷ last) =
      greatest_steps_append seed setting node (Closed store) opening (Starts terms bare ∷ last) (opens_greatest seed setting node names of.former of.puts of.new of.floors (Closed store)) at_process in
      greatest_steps_append seed setting node (Closed store) first rest (subst (AreGreatestSteps seed setting node (Closed store)) (sym of.are) whole)
      (subst (λ p. AreGreatestSteps seed setting node p rest) (sym of.after) more)

  named_greatest_steps : (node : ℕ) (store : Store) (named : List (NamedUse U)) (are : AreNamedUses g finds answers setting node names store named) → HaveDevices g finds answers setting node names seed store named are
      → (steps : List Step) → AreStepsOf g finds answers setting node names store named are steps → AreGreatestSteps seed setting node (Closed store) steps
  named_greatest_steps node store [] are devices steps of = subst (AreGreatestSteps seed setting node (Closed store)) (sym of) tt
  named_greatest_steps node store (RunsBy run ∷ later) are devices steps of =
      let more = named_greatest_steps node (store_left g finds answers setting node names store run are.0) later are.1 devices.2 of.1 of.4 in
      subst (AreGreatestSteps seed setting node (Closed store)) (sym of.2) (run_greatest_steps node store run are.0 of.0 of.1 of.3 devices.0 devices.1 more)
  named_greatest_steps node store (WritesBy action ∷ later) are devices steps of =
      subst (AreGreatestSteps seed setting node (Closed store)) (sym of.1)
      (no_start seed (Closed store) (Does action) tt, named_greatest_steps node (written_store setting action store) later are.1 devices of.0 of.2)

  -- ---- all stores of a member

  first_greatest : (node : ℕ) (store : Store) (named : List (NamedUse U)) (are : AreNamedUses g finds answers setting node names store named) → HaveDevices g finds answers setting node names seed store named are
      → (has : HasStepsOf g finds answers setting node names store named are) (steps : List Step) → AreFirstOf steps has.steps → AreGreatestSteps seed setting node (Closed store) steps
  first_greatest node store named are devices has steps f =
      let all = named_greatest_steps node store named are devices has.steps has.are_of in
      first_greatest_steps seed setting node (Closed store) steps f.later (subst (AreGreatestSteps seed setting node (Closed store)) f.all_are all)

  happened_greatest : (node : ℕ) (store : Store) (stores : NamedStores U) (are : AreNamedStores g finds answers setting node names store stores) → HaveDevicesInStores g finds answers setting node names seed store stores are
      → (have : HaveStepsOf g finds answers setting node names store stores are) (steps : List Step) → HaveHappened g finds answers setting node names store stores are have steps → AreGreatestSteps seed setting node (Closed store) steps
  happened_greatest node store (Keeps named) are devices have steps f = first_greatest node store named are devices have steps f
  happened_greatest node store (Replaces named boot given floor later) are devices have steps (inl f) = first_greatest node store named are.0 devices.0 have.0 steps f
  happened_greatest node store (Replaces named boot given floor later) are devices have steps (inr lost) =
      let first = lost.0 in
      let may = may_lose setting node store first (first_keep_store g finds answers setting names node store named are.0 have.0 first lost.3) in
      let at : Place = place_in_end setting node (Closed store) first in
      let gone : Place = place_after setting node at Loses in
      let new : Store = store_with_rows boot given floor in
      let rest : AreGreatestSteps seed setting node gone lost.1 = elim lost.4 [
        | inl none ↦ subst (AreGreatestSteps seed setting node gone) (sym none) tt
        | inr got ↦ subst (AreGreatestSteps seed setting node gone) (sym got.1)
            (no_start seed gone (Gets boot given floor) tt, subst (λ p. AreGreatestSteps seed setting node p got.0) (sym (may.has boot given floor)) (happened_greatest node new later are.1 devices.1 have.1 got.0 got.2))
      ] in
      subst (AreGreatestSteps seed setting node (Closed store)) (sym lost.2)
      (greatest_steps_append seed setting node (Closed store) first (Loses ∷ lost.1) (first_greatest node store named are.0 devices.0 have.0 first lost.3) (no_start seed at Loses tt, rest))

  -- ---- all members

  pub order_greatest : (stores : ℕ → NamedStores U) (are : AreAllNamedStores g finds answers setting names stores) (items : List Item) → IsOrderOf g finds answers setting names stores are items
      → ((node : ℕ) → HaveDevicesInStores g finds answers setting node names seed (first_store setting node) (stores node) (are node)) → StartsAreGreatest seed setting items
  order_greatest stores are items is devices = λ node member.
      happened_greatest node (first_store setting node) (stores node) (are node) (devices node) (is.has.steps node) (steps_at node items) (is.steps node member)
