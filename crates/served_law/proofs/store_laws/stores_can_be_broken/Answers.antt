-- The steps of the two stores are known, and their first ones are none, one or both.
use Rattle.std.proofs.Common.{◌≡◌, ◌⊎◌, ℕ, Bool, List, [], ◌∷◌, ◌++◌, inl, inr, refl, sym, ap, ◌∙◌, arith}
use Rattle.sqlite.specs.Store.{Ghosts}
use Rattle.sqlite.specs.Held as sql
use Rattle.book_law.specs.Lives.{Enrols, Raises, Unlocks, store_with_rows}
use Rattle.order_law.specs.Steps.{Does, Gets, Loses, Step}
use Rattle.served_law.specs.Examples.{no_rows, three_names, three_tokens}
use Rattle.served_law.specs.Orders.{HasStepsOf, HaveHappened, HaveStepsOf}
use Rattle.served_law.specs.RunExamples.{gets_at, lost_then, raises_next, two_commands, two_steps, two_stores}
use Rattle.served_law.specs.Runs.{AreNamedStores, AreNamedUses}
use Rattle.served_law.specs.Uses.{AreFirstOf, WritesBy}
use Rattle.served_law.proofs.store_laws.stores_can_be_broken.Goals as goal

pub returns-clause-stores : goal.returns-clause-stores
returns-clause-stores g c = ((refl, (refl, tt)), (refl, tt))

pub returns-clause-stores_elsewhere : goal.returns-clause-stores_elsewhere
returns-clause-stores_elsewhere g c h = let e : 1 ≡ 2 = h.0.0 in omega (arith, e)

pub returns-clause-later_elsewhere : goal.returns-clause-later_elsewhere
returns-clause-later_elsewhere g c h = let e : 2 ≡ 1 = h.1.0 in omega (arith, e)

pub returns-clause-before_a_loss : goal.returns-clause-before_a_loss
returns-clause-before_a_loss g c = λ setting node boot names store named given floor later are. are.0

pub returns-clause-after_a_loss : goal.returns-clause-after_a_loss
returns-clause-after_a_loss g c = λ setting node boot names store named given floor later are. are.1

pub returns-clause-all_members : goal.returns-clause-all_members
returns-clause-all_members g c = λ setting node names stores are. are node

pub returns-clause-devices_before_a_loss : goal.returns-clause-devices_before_a_loss
returns-clause-devices_before_a_loss g c = λ setting node boot names seed store named given floor later are devices. devices.0

pub returns-clause-devices_after_a_loss : goal.returns-clause-devices_after_a_loss
returns-clause-devices_after_a_loss g c = λ setting node boot names seed store named given floor later are devices. devices.1

pub returns-clause-devices_of_a_kept_store : goal.returns-clause-devices_of_a_kept_store
returns-clause-devices_of_a_kept_store g c = λ setting node names seed store named are devices. devices

-- ---- the steps of both stores

abbrev enrols : Step
enrols = Does (Enrols 1 0 5)

abbrev unlocks : Step
unlocks = Does (Unlocks 1 0)

module _ {S U : Type 0} (g : Ghosts S) (finds : sql.Held S → Type 0) (answers : U → ℕ → Bool → Bool → Type 0) where
  both : (are : AreNamedUses g finds answers three_tokens 1 three_names no_rows (two_commands U)) (has : HasStepsOf g finds answers three_tokens 1 three_names no_rows (two_commands U) are) → has.steps ≡ enrols ∷ unlocks ∷ []
  both are has = has.are_of.1 ∙ ap (λ l. enrols ∷ l) (has.are_of.2.1 ∙ ap (λ l. unlocks ∷ l) has.are_of.2.2)

  one : (are : AreNamedUses g finds answers three_tokens 1 three_names (store_with_rows 5 (0 ∷ []) (λ token. 6)) (WritesBy (Raises 1 0 7) ∷ []))
      (has : HasStepsOf g finds answers three_tokens 1 three_names (store_with_rows 5 (0 ∷ []) (λ token. 6)) (WritesBy (Raises 1 0 7) ∷ []) are) → has.steps ≡ raises_next ∷ []
  one are has = has.are_of.1 ∙ ap (λ l. raises_next ∷ l) has.are_of.2

-- the first of the steps of both commands
first_of_two : (first later : List Step) → enrols ∷ unlocks ∷ [] ≡ first ++ later → (first ≡ []) ⊎ ((first ≡ enrols ∷ []) ⊎ (first ≡ enrols ∷ unlocks ∷ []))
first_of_two [] later e = inl refl
first_of_two (x ∷ []) later e = let same : x ≡ enrols = cc in inr (inl (ap (λ s. s ∷ []) same))
first_of_two (x ∷ y ∷ []) later e =
    let same : x ≡ enrols = cc in
    let next : y ≡ unlocks = cc in
    inr (inr (ap (λ s. s ∷ y ∷ []) same ∙ ap (λ s. enrols ∷ s ∷ []) next))
first_of_two (x ∷ y ∷ z ∷ first) later e = absurd cc

-- what follows the loss of the first store, if both commands were before it
after_both : (first rest more : List Step) → (first ≡ []) ⊎ ((first ≡ enrols ∷ []) ⊎ (first ≡ enrols ∷ unlocks ∷ [])) → enrols ∷ unlocks ∷ Loses ∷ more ≡ first ++ Loses ∷ rest → rest ≡ more
after_both first rest more (inl none) e = let f : enrols ∷ unlocks ∷ Loses ∷ more ≡ Loses ∷ rest = e ∙ ap (λ l. l ++ Loses ∷ rest) none in absurd cc
after_both first rest more (inr (inl one)) e = let f : enrols ∷ unlocks ∷ Loses ∷ more ≡ enrols ∷ Loses ∷ rest = e ∙ ap (λ l. l ++ Loses ∷ rest) one in absurd cc
after_both first rest more (inr (inr all)) e = let f : enrols ∷ unlocks ∷ Loses ∷ more ≡ enrols ∷ unlocks ∷ Loses ∷ rest = e ∙ ap (λ l. l ++ Loses ∷ rest) all in cc

module _ {S U : Type 0} (g : Ghosts S) (finds : sql.Held S → Type 0) (answers : U → ℕ → Bool → Bool → Type 0) (are : AreNamedStores g finds answers three_tokens 1 three_names no_rows (two_stores U)) (have : HaveStepsOf g finds answers three_tokens 1 three_names no_rows (two_stores U) are) where
  happened_before : HaveHappened g finds answers three_tokens 1 three_names no_rows (two_stores U) are have two_steps
  happened_before = inl (record { later = []; all_are = both g finds answers are.0 have.0 })

  happened_lost : HaveHappened g finds answers three_tokens 1 three_names no_rows (two_stores U) are have (lost_then [])
  happened_lost = inr (two_steps, [], refl, record { later = []; all_are = both g finds answers are.0 have.0 }, inl refl)

  happened_early : HaveHappened g finds answers three_tokens 1 three_names no_rows (two_stores U) are have (enrols ∷ Loses ∷ [])
  happened_early = inr (enrols ∷ [], [], refl, record { later = unlocks ∷ []; all_are = both g finds answers are.0 have.0 }, inl refl)

  happened_replaced : HaveHappened g finds answers three_tokens 1 three_names no_rows (two_stores U) are have (lost_then (gets_at 5 ∷ raises_next ∷ []))
  happened_replaced = inr (
    two_steps,
    gets_at 5 ∷ raises_next ∷ [],
    refl,
    record { later = []; all_are = both g finds answers are.0 have.0 },
    inr (raises_next ∷ [], refl, record { later = []; all_are = one g finds answers are.1 have.1 }),
  )

  -- after the loss there is nothing, or the replacement with the first of its steps
  lost_with : (more : List Step) → HaveHappened g finds answers three_tokens 1 three_names no_rows (two_stores U) are have (lost_then more)
      → (more ≡ []) ⊎ ((others : List Step) × (more ≡ gets_at 5 ∷ others) × AreFirstOf others (raises_next ∷ []))
  lost_with more (inl f) = let e : enrols ∷ unlocks ∷ [] ≡ (enrols ∷ unlocks ∷ Loses ∷ more) ++ f.later = sym (both g finds answers are.0 have.0) ∙ f.all_are in absurd cc
  lost_with more (inr lost) =
      let all : enrols ∷ unlocks ∷ [] ≡ lost.0 ++ lost.3.later = sym (both g finds answers are.0 have.0) ∙ lost.3.all_are in
      let rest : lost.1 ≡ more = after_both lost.0 lost.1 more (first_of_two lost.0 lost.3.later all) lost.2 in
      elim lost.4 [
        | inl none ↦ inl (sym rest ∙ none)
        | inr got ↦ inr (got.0, sym rest ∙ got.1, record { later = got.2.later; all_are = sym (one g finds answers are.1 have.1) ∙ got.2.all_are })
      ]

  never_replaced_first : HaveHappened g finds answers three_tokens 1 three_names no_rows (two_stores U) are have (two_steps ++ gets_at 5 ∷ []) → ⊥
  never_replaced_first (inl f) = let e : enrols ∷ unlocks ∷ [] ≡ (enrols ∷ unlocks ∷ gets_at 5 ∷ []) ++ f.later = sym (both g finds answers are.0 have.0) ∙ f.all_are in absurd cc
  never_replaced_first (inr lost) =
      let all : enrols ∷ unlocks ∷ [] ≡ lost.0 ++ lost.3.later = sym (both g finds answers are.0 have.0) ∙ lost.3.all_are in
      go lost.0 lost.1 (first_of_two lost.0 lost.3.later all) lost.2
    where
      go : (first rest : List Step) → (first ≡ []) ⊎ ((first ≡ enrols ∷ []) ⊎ (first ≡ enrols ∷ unlocks ∷ [])) → enrols ∷ unlocks ∷ gets_at 5 ∷ [] ≡ first ++ Loses ∷ rest → ⊥
      go first rest (inl none) e = let f : enrols ∷ unlocks ∷ gets_at 5 ∷ [] ≡ Loses ∷ rest = e ∙ ap (λ l. l ++ Loses ∷ rest) none in absurd cc
      go first rest (inr (inl one)) e = let f : enrols ∷ unlocks ∷ gets_at 5 ∷ [] ≡ enrols ∷ Loses ∷ rest = e ∙ ap (λ l. l ++ Loses ∷ rest) one in absurd cc
      go first rest (inr (inr all)) e = let f : enrols ∷ unlocks ∷ gets_at 5 ∷ [] ≡ enrols ∷ unlocks ∷ Loses ∷ rest = e ∙ ap (λ l. l ++ Loses ∷ rest) all in absurd cc

pub returns-clause-before : goal.returns-clause-before
returns-clause-before g c = λ are have. happened_before g.S.Store g.D.Database.finds g.U.Stop.answers are have

pub returns-clause-lost : goal.returns-clause-lost
returns-clause-lost g c = λ are have. happened_lost g.S.Store g.D.Database.finds g.U.Stop.answers are have

pub returns-clause-lost_early : goal.returns-clause-lost_early
returns-clause-lost_early g c = λ are have. happened_early g.S.Store g.D.Database.finds g.U.Stop.answers are have

pub returns-clause-replaced : goal.returns-clause-replaced
returns-clause-replaced g c = λ are have. happened_replaced g.S.Store g.D.Database.finds g.U.Stop.answers are have

abbrev boot_of : Step → ℕ
boot_of (Gets boot given floor) = boot
boot_of step = 0

abbrev first_boot : List Step → ℕ
first_boot [] = 0
first_boot (step ∷ steps) = boot_of step

pub returns-clause-lost_twice : goal.returns-clause-lost_twice
returns-clause-lost_twice g c = λ are have h.
    elim (lost_with g.S.Store g.D.Database.finds g.U.Stop.answers are have (Loses ∷ []) h) [
      | inl none ↦ absurd cc
      | inr got ↦ let e = got.1 in absurd cc
    ]

pub returns-clause-replaced_at_another_boot : goal.returns-clause-replaced_at_another_boot
returns-clause-replaced_at_another_boot g c = λ are have h.
    elim (lost_with g.S.Store g.D.Database.finds g.U.Stop.answers are have (gets_at 6 ∷ []) h) [
      | inl none ↦ absurd cc
      | inr got ↦ let e : 6 ≡ 5 = ap first_boot got.1 in omega (arith, e)
    ]

pub returns-clause-used_while_lost : goal.returns-clause-used_while_lost
returns-clause-used_while_lost g c = λ are have h.
    elim (lost_with g.S.Store g.D.Database.finds g.U.Stop.answers are have (raises_next ∷ []) h) [
      | inl none ↦ absurd cc
      | inr got ↦ let e = got.1 in absurd cc
    ]

abbrev floor_written : List Step → ℕ
floor_written (Does (Raises node token floor) ∷ steps) = floor
floor_written steps = 0

abbrev others_of : List Step → List Step
others_of [] = []
others_of (step ∷ steps) = steps

first_written : (others later : List Step) → others ≡ Does (Raises 1 0 8) ∷ [] → raises_next ∷ [] ≡ others ++ later → ⊥
first_written others later is all =
    let e : 7 ≡ 8 = ap floor_written (all ∙ ap (λ l. l ++ later) is) in
    omega (arith, e)

pub returns-clause-used_otherwise : goal.returns-clause-used_otherwise
returns-clause-used_otherwise g c = λ are have h.
    elim (lost_with g.S.Store g.D.Database.finds g.U.Stop.answers are have (gets_at 5 ∷ Does (Raises 1 0 8) ∷ []) h) [
      | inl none ↦ absurd cc
      | inr got ↦ first_written got.0 got.2.later (sym (ap others_of got.1)) got.2.all_are
    ]

pub returns-clause-replaced_unlost : goal.returns-clause-replaced_unlost
returns-clause-replaced_unlost g c = λ are have h. never_replaced_first g.S.Store g.D.Database.finds g.U.Stop.answers are have h

pub returns-clause-lost_though_kept : goal.returns-clause-lost_though_kept
returns-clause-lost_though_kept g c = λ are have h.
    let e : enrols ∷ unlocks ∷ [] ≡ (enrols ∷ unlocks ∷ Loses ∷ []) ++ h.later = sym (both g.S.Store g.D.Database.finds g.U.Stop.answers are have) ∙ h.all_are in
    absurd cc
