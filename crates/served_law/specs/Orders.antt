-- The runs of commands that serve nodes by names, as steps in the order in which they happened.
use Rattle.std.specs.Prelude.{◌≡◌, ◌⊎◌, ℕ, Bool, List, [], ◌∷◌, Option, Some, None, Result, Err}
use Rattle.std.proofs.Common.{inl, inr}
use Rattle.sqlite.specs.Store.{Ghosts}
use Rattle.sqlite.specs.Held as sql
use Rattle.datagram_port.specs.Port.{PortEvent}
use Rattle.floor_store.specs.Content.{Content}
use Rattle.floor_store.specs.Held.{Held}
use Rattle.roster_sql.specs.declared.entry.Entry.{Entry}
use Rattle.oath_node.specs.Hosted.{Hosted}
use Rattle.oath_node.specs.TurnServing.{ServesUntil}
use Rattle.oath_node.specs.declared.serve_fault.ServeFault.{ServeFault}
use Rattle.oath_node.specs.declared.turns.Served.{Served}
use Rattle.vote_wire.specs.Key.{bare}
use Rattle.node_serving.specs.Stretches.{FailsToAct, operator_acts}
use Rattle.oathd_database.specs.declared.fault.Fault.{Fault}
use Rattle.node_serving.specs.declared.serving.Serving.{Serving}
use Rattle.store_serving.specs.Served.{HasServedNamed}
use Rattle.oathd_roster.specs.declared.cluster.NamedCluster.{NamedCluster}
use Rattle.book_law.specs.Lives.{Setting, Store, Terms}
use Rattle.book_law.specs.Stretches.{Stretch as StretchOf, token_cleared, tokens_cleared}
use Rattle.order_law.specs.Interleavings.{Item, first_place, said_before}
use Rattle.named_order_law.specs.Bytes.{AreUnforgedItems}
use Rattle.order_law.specs.Steps.{HasSteps, Step}
use Rattle.served_law.specs.Processes.{RunsIn, number_unlocked, stretches_of}
use Rattle.served_law.specs.Runs.{AreAllNamedStores, AreNamedStores, AreNamedUses, NamedStores, NamedUse, entries_of, named_runs, store_found, terms_in, view_of}
use Rattle.served_law.specs.Uses.{AreUseSteps, HasAllSteps, HasUseSteps, HaveMadeSteps, HaveStoreSteps, IsStepOrder}

-- ---- One run

module _ {S : Type 0} (held : S → Held) where
  -- The tokens whose gates a run cleared: those of the acts after its stretches. An act that failed at the end cleared
  -- its own as well, or none.
  abbrev pub MayClear : (terms : Terms) (stretches : List (StretchOf S)) (from new : Hosted S)
      (first entries : Option (List PortEvent)) (asked told : Option (List (Option ℕ))) (turns : ℕ)
      (answers : ℕ → Bool → Bool → Type 0) (end : Result Served ServeFault)
      → ServesUntil held from new first entries asked told turns answers end
      ⊎ FailsToAct held (operator_acts held) from new first entries asked told turns end → List (Option ℕ) → Type 0
  MayClear terms stretches from new first entries asked told turns answers end (inl serves) tokens =
      tokens ≡ tokens_cleared terms stretches []
  MayClear terms stretches from new first entries asked told turns answers end (inr fails) tokens =
      (tokens ≡ tokens_cleared terms stretches [])
      ⊎ (tokens ≡ tokens_cleared terms stretches
      (token_cleared terms (number_unlocked held fails.stood new (Err fails.fault) fails.fails) ∷ []))

  module _ {old new : Hosted S} {entries : List PortEvent} {turns : ℕ} {answers : ℕ → Bool → Bool → Type 0}
      {result : Result Served ServeFault} (run : RunsIn held old new entries turns answers result) where
    -- The run has made steps over the store `found`, and its port recorded the entries in their order.
    pub record IsInOrder (setting : Setting) (node : ℕ) (terms : Terms) (port : List ℕ) (found : Store)
        (recorded : List PortEvent) (left : Content) : Type 0 where
      pub tokens : List (Option ℕ)
      pub tokens_are : MayClear terms (stretches_of held run) run.from new run.from_first (Some entries) run.from_asked
          None run.left answers run.end run.last tokens
      pub has : HasSteps setting node terms port found tokens recorded left

module _ {S : Type 0} {g : Ghosts S} {finds : sql.Held S → Type 0} {cluster : NamedCluster} {moment : ℕ}
    {serving : Serving} {answers : ℕ → Bool → Bool → Type 0} {result : Result Served Fault} {text : List ℕ}
    (run : HasServedNamed g finds cluster moment serving answers result text) where
  -- the run has made steps over the store that it found, and its port recorded all that it received and offered
  abbrev pub IsRunInOrder : Setting → List (List ℕ) → List Entry → Content → Type 0
  IsRunInOrder setting names rows left =
      IsInOrder (view_of g) run.over.served_is.serves.serves setting serving.place.me (terms_in run names) bare
      (store_found run names rows) (entries_of run names) left

-- ---- All runs over one store

module _ {S U : Type 0} (g : Ghosts S) (finds : sql.Held S → Type 0) (answers : U → ℕ → Bool → Bool → Type 0)
    (setting : Setting) (node : ℕ) (names : List (List ℕ)) where
  -- the steps are those of the uses, one after the other
  abbrev pub AreStepsOf : (store : Store) (named : List (NamedUse U))
      → AreNamedUses g finds answers setting node names store named → List Step → Type 0
  AreStepsOf store named are steps =
      AreUseSteps (named_runs g finds answers setting names) node store named are steps

  -- the steps of the uses of the store
  abbrev pub HasStepsOf : (store : Store) (named : List (NamedUse U))
      → AreNamedUses g finds answers setting node names store named → Type 0
  HasStepsOf store named are = HasUseSteps (named_runs g finds answers setting names) node store named are

  -- the steps of the uses of each store
  abbrev pub HaveStepsOf : (store : Store) (stores : NamedStores U)
      → AreNamedStores g finds answers setting node names store stores → Type 0
  HaveStepsOf store stores are = HaveStoreSteps (named_runs g finds answers setting names) node store stores are

  -- The stores have made these steps up to some moment. A store that is replaced was lost at any moment of its uses.
  abbrev pub HaveHappened : (store : Store) (stores : NamedStores U)
      (are : AreNamedStores g finds answers setting node names store stores) → HaveStepsOf store stores are
      → List Step → Type 0
  HaveHappened store stores are have steps =
      HaveMadeSteps (named_runs g finds answers setting names) node store stores are have steps

-- ---- All members

module _ {S U : Type 0} (g : Ghosts S) (finds : sql.Held S → Type 0) (answers : U → ℕ → Bool → Bool → Type 0)
    (setting : Setting) (names : List (List ℕ)) where
  -- the steps of all members, each order of which is an interleaving
  abbrev pub HasNamedSteps : (stores : ℕ → NamedStores U) → AreAllNamedStores g finds answers setting names stores
      → Type 0
  HasNamedSteps stores are = HasAllSteps (named_runs g finds answers setting names) stores are

  -- The items are an order of the members' steps up to some moment, in which lost stores are replaced by the rule of
  -- the votes. No datagram of a vote is forged, byte for byte.
  abbrev pub IsOrderOf : (stores : ℕ → NamedStores U) → AreAllNamedStores g finds answers setting names stores
      → List Item → Type 0
  IsOrderOf stores are items = IsStepOrder (named_runs g finds answers setting names)
      (AreUnforgedItems names setting (first_place setting) (said_before setting)) stores are items
