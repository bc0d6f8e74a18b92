-- Histories of one device at a node alone.
use Rattle.std.proofs.Common.{◌≡◌, ℕ, zero, suc, true, ◌+◌, ◌<◌, ◌≤◌, List, [], ◌∷◌, Some, None, take, refl, sym, ap, subst, arith, eqb}
use Rattle.std.specs.List.{slice_get}
use Rattle.std.proofs.lemmas.Bool.{cond_both}
use Rattle.std.proofs.lemmas.Option.{none-some, same_Some}
use Rattle.admit_core.specs.Fit.{code_at}
use Rattle.floor_store.specs.Content.{Content}
use Rattle.sha1.specs.Sha1.{first_words, schedule, rounds, compress, hash_after, digest_bytes, sha1}
use Rattle.vote_core.specs.Books.{number_of}
use Rattle.vote_core.specs.Cases.{accepted}
use Rattle.vote_core.specs.Rows.{row}
use Rattle.vote_core.specs.Voting.{propose, propose_alone, propose_among, on_ask, accept, count_grant, on_grant, raise, count_deny, on_deny, on_floor, on_message, tick}
use Rattle.oath_node.specs.Machine.{made_by_proposal, made_by_ruling, made_by_datagram, made_while_running, made_by_event}
use Rattle.seat_law.specs.Seeds.{HaveSingleUseOfSeeds, KeepOrderOfSeeds}
use Rattle.seat_law.specs.Seats.{seat_name}
use Rattle.book_law.specs.Examples.{alone, maple_alone, silver_alone, silver_first, store_of_1}
use Rattle.book_law.specs.Lives.{Action, Down, Enrols, FailsToOpen, Loses, Offers, Opens, OpensGate, Raises, Remakes, Stops, StopsIn, Store, Takes, Terms, Unlocks, accepted_in, do_fit, floor_in_row, floor_of, has_store, state_after, state_after_action, state_of, store_at}
use Rattle.book_law.specs.SeedExamples.{both_names, comes_back_lower, one_device, renamed, renamed_back}
use Rattle.book_law.specs.Seeds.{AreGreatest, HaveSeedsOnce, IsOpenedIn}
use Rattle.book_law.proofs.seed_laws.devices_can_be_broken.Goals as goal

-- ---- acceptances

lower_is : accepted_in alone comes_back_lower ≡ accepted 2 2 1 0 0 0 ∷ accepted 6 6 1 1 1 1 ∷ accepted 9 9 1 0 1 1 ∷ []
unfolding code_at first_words schedule rounds compress hash_after digest_bytes sha1 state_after state_after_action made_by_event made_while_running made_by_datagram made_by_ruling made_by_proposal propose propose_alone propose_among on_ask accept count_grant on_grant raise count_deny on_deny on_floor on_message tick
lower_is = refl

both_is : accepted_in alone both_names ≡ accepted 3 3 1 0 0 0 ∷ accepted 4 4 1 1 0 0 ∷ []
unfolding code_at first_words schedule rounds compress hash_after digest_bytes sha1 state_after state_after_action made_by_event made_while_running made_by_datagram made_by_ruling made_by_proposal propose propose_alone propose_among on_ask accept count_grant on_grant raise count_deny on_deny on_floor on_message tick
both_is = refl

pub returns-clause-renamed : goal.returns-clause-renamed
unfolding code_at first_words schedule rounds compress hash_after digest_bytes sha1 state_after state_after_action made_by_event made_while_running made_by_datagram made_by_ruling made_by_proposal propose propose_alone propose_among on_ask accept count_grant on_grant raise count_deny on_deny on_floor on_message tick
returns-clause-renamed c = refl

pub returns-clause-refused : goal.returns-clause-refused
unfolding code_at first_words schedule rounds compress hash_after digest_bytes sha1 state_after state_after_action made_by_event made_while_running made_by_datagram made_by_ruling made_by_proposal propose propose_alone propose_among on_ask accept count_grant on_grant raise count_deny on_deny on_floor on_message tick
returns-clause-refused c = refl

pub returns-clause-lower : goal.returns-clause-lower
returns-clause-lower c = lower_is

pub returns-clause-both : goal.returns-clause-both
returns-clause-both c = both_is

apart : (i j : ℕ) → i < j → i ≡ j → ⊥
apart i j low same = omega (arith, low, same)

pub returns-clause-lower_twice : goal.returns-clause-lower_twice
returns-clause-lower_twice c h =
    let taken : HaveSingleUseOfSeeds one_device (accepted 2 2 1 0 0 0 ∷ accepted 6 6 1 1 1 1 ∷ accepted 9 9 1 0 1 1 ∷ []) = subst (HaveSingleUseOfSeeds one_device) lower_is h in
    taken 1 2 (accepted 6 6 1 1 1 1) (accepted 9 9 1 0 1 1) (apart 1 2 (omega arith)) refl refl refl 1 (omega arith, omega arith) (omega arith, omega arith)

pub returns-clause-lower_out_of_order : goal.returns-clause-lower_out_of_order
returns-clause-lower_out_of_order c h =
    let taken : KeepOrderOfSeeds one_device (accepted 2 2 1 0 0 0 ∷ accepted 6 6 1 1 1 1 ∷ accepted 9 9 1 0 1 1 ∷ []) = subst (KeepOrderOfSeeds one_device) lower_is h in
    let low : 1 < 1 = taken 1 2 (accepted 6 6 1 1 1 1) (accepted 9 9 1 0 1 1) refl refl refl (omega arith) in
    omega (arith, low)

pub returns-clause-both_twice : goal.returns-clause-both_twice
returns-clause-both_twice c h =
    let taken : HaveSingleUseOfSeeds one_device (accepted 3 3 1 0 0 0 ∷ accepted 4 4 1 1 0 0 ∷ []) = subst (HaveSingleUseOfSeeds one_device) both_is h in
    taken 0 1 (accepted 3 3 1 0 0 0) (accepted 4 4 1 1 0 0) (apart 0 1 (omega arith)) refl refl refl 0 (omega arith, omega arith) (omega arith, omega arith)

-- ---- stores

-- silver's floor is 1, and maple's is 2
lower_floors : AreGreatest one_device (0 ∷ []) (store_of_1 renamed) → ⊥
unfolding code_at first_words schedule rounds compress hash_after digest_bytes sha1 state_after state_after_action made_by_event made_while_running made_by_datagram made_by_ruling made_by_proposal propose propose_alone propose_among on_ask accept count_grant on_grant raise count_deny on_deny on_floor on_message tick
lower_floors h = let low : 2 ≤ 1 = h 0 0 1 refl refl in omega (arith, low)

lower_store : (state_of alone (take 8 comes_back_lower)).processes 1 ≡ Down (store_of_1 renamed)
unfolding code_at first_words schedule rounds compress hash_after digest_bytes sha1 state_after state_after_action made_by_event made_while_running made_by_datagram made_by_ruling made_by_proposal propose propose_alone propose_among on_ask accept count_grant on_grant raise count_deny on_deny on_floor on_message tick
lower_store = refl

lower_has : has_store alone (state_of alone (take 8 comes_back_lower)) 1 ≡ true
unfolding code_at first_words schedule rounds compress hash_after digest_bytes sha1 state_after state_after_action made_by_event made_while_running made_by_datagram made_by_ruling made_by_proposal propose propose_alone propose_among on_ask accept count_grant on_grant raise count_deny on_deny on_floor on_message tick
lower_has = refl

lower_fits : do_fit silver_alone (store_of_1 renamed) ≡ true
unfolding code_at first_words schedule rounds compress hash_after digest_bytes sha1 state_after state_after_action made_by_event made_while_running made_by_datagram made_by_ruling made_by_proposal propose propose_alone propose_among on_ask accept count_grant on_grant raise count_deny on_deny on_floor on_message tick
lower_fits = refl

pub returns-clause-lower_row : goal.returns-clause-lower_row
returns-clause-lower_row c = lower_floors

pub returns-clause-lower_opening : goal.returns-clause-lower_opening
returns-clause-lower_opening c h = lower_floors (h.greatest 8 1 silver_alone (store_of_1 renamed) (record { opens = refl; has = lower_has; down = lower_store; fits = lower_fits }))

pub returns-clause-lower_than_another_device : goal.returns-clause-lower_than_another_device
returns-clause-lower_than_another_device c i token other at same =
    let store = store_of_1 renamed in
    subst (λ u. floor_of store u ≤ floor_of store token) (sym same) (omega arith)

-- ---- users files

one_seat : (seed : ℕ → ℕ) (t : ℕ) → HaveSeedsOnce seed (t ∷ [])
one_seat seed t zero zero one other at also same = refl
one_seat seed t zero (suc j) one other at also same = absurd (none-some other also)
one_seat seed t (suc i) j one other at also same = absurd (none-some one at)

pub returns-clause-once : goal.returns-clause-once
returns-clause-once c = one_seat one_device 0

pub returns-clause-not_once : goal.returns-clause-not_once
returns-clause-not_once c h = apart 0 1 (omega arith) (h 0 1 0 1 refl refl refl)

both_opened : IsOpenedIn alone both_names 2 1 silver_first (store_of_1 (take 2 both_names))
unfolding code_at first_words schedule rounds compress hash_after digest_bytes sha1 state_after state_after_action made_by_event made_while_running made_by_datagram made_by_ruling made_by_proposal propose propose_alone propose_among on_ask accept count_grant on_grant raise count_deny on_deny on_floor on_message tick
both_opened = record { opens = refl; has = refl; down = refl; fits = refl }

pub returns-clause-both_opening : goal.returns-clause-both_opening
returns-clause-both_opening c h = apart 0 1 (omega arith) (h.once 2 1 silver_first (store_of_1 (take 2 both_names)) both_opened 0 1 0 1 refl refl refl)

two_seats : (i j one other : ℕ) → slice_get (0 ∷ 1 ∷ []) i ≡ Some one → slice_get (0 ∷ 1 ∷ []) j ≡ Some other → one ≡ other → i ≡ j
two_seats zero zero one other at also same = refl
two_seats zero (suc zero) one other at also same = let first : 0 ≡ one = same_Some 0 one at in let last : 1 ≡ other = same_Some 1 other also in absurd (omega (arith, first, last, same))
two_seats zero (suc (suc j)) one other at also same = absurd (none-some other also)
two_seats (suc zero) zero one other at also same = let first : 1 ≡ one = same_Some 1 one at in let last : 0 ≡ other = same_Some 0 other also in absurd (omega (arith, first, last, same))
two_seats (suc zero) (suc zero) one other at also same = refl
two_seats (suc zero) (suc (suc j)) one other at also same = absurd (none-some other also)
two_seats (suc (suc i)) j one other at also same = absurd (none-some one at)

pub returns-clause-once_each : goal.returns-clause-once_each
returns-clause-once_each c = two_seats

-- ---- each opening of a history

abbrev AtOpening : (ℕ → ℕ → Terms → Type 0) → ℕ → Action → Type 0
AtOpening P e (Opens node terms) = P e node terms
AtOpening P e (FailsToOpen node raised) = Unit {0}
AtOpening P e (Takes node input) = Unit {0}
AtOpening P e (Offers node) = Unit {0}
AtOpening P e (Stops node) = Unit {0}
AtOpening P e (StopsIn node kept input) = Unit {0}
AtOpening P e (Loses node) = Unit {0}
AtOpening P e (Remakes node boot given floor) = Unit {0}
AtOpening P e (Enrols node token floor) = Unit {0}
AtOpening P e (Unlocks node token) = Unit {0}
AtOpening P e (OpensGate node token) = Unit {0}
AtOpening P e (Raises node token floor) = Unit {0}

abbrev AllOpenings : (ℕ → ℕ → Terms → Type 0) → ℕ → List Action → Type 0
AllOpenings P e [] = Unit {0}
AllOpenings P e (d ∷ history) = AtOpening P e d × AllOpenings P (suc e) history

each_opening : (P : ℕ → ℕ → Terms → Type 0) (history : List Action) (e k y node : ℕ) (terms : Terms) → y ≡ e + k → AllOpenings P e history → slice_get history k ≡ Some (Opens node terms) → P y node terms
each_opening P [] e k y node terms at h is = absurd (none-some (Opens node terms) is)
each_opening P (d ∷ history) e zero y node terms at h is =
    let here : e ≡ y = omega (arith, at) in
    subst (λ m. P m node terms) here (subst (AtOpening P e) (same_Some d (Opens node terms) is) h.0)
each_opening P (d ∷ history) e (suc k) y node terms at h is = each_opening P history (suc e) k y node terms (omega (arith, at)) h.1 is

one_greatest : (store : Store) (t : ℕ) → ((other : ℕ) → floor_of store other ≤ floor_of store t) → AreGreatest one_device (t ∷ []) store
one_greatest store t most zero token other at same = subst (λ u. floor_of store other ≤ floor_of store u) (same_Some t token at) (most other)
one_greatest store t most (suc i) token other at same = absurd (none-some token at)

-- the rows of a store of one row, or of two
within_one : (c : Content) (name : ℕ → ℕ) (bound : ℕ) → (row c 0).next ≤ bound → (t : ℕ) → floor_in_row c (number_of 1 name t) ≤ bound
within_one c name bound first t = cond_both (eqb (name 0) t) (Some 0) None (λ o. floor_in_row c o ≤ bound) (λ _. first) (λ _. omega arith)

within_two : (c : Content) (name : ℕ → ℕ) (bound : ℕ) → (row c 0).next ≤ bound → (row c 1).next ≤ bound → (t : ℕ) → floor_in_row c (number_of 2 name t) ≤ bound
within_two c name bound first last t =
    cond_both (eqb (name 1) t) (Some 1) (number_of 1 name t) (λ o. floor_in_row c o ≤ bound) (λ _. last) (λ _. within_one c name bound first t)

abbrev IsGreatestAt : List Action → ℕ → ℕ → Terms → Type 0
IsGreatestAt history e node terms = (store : Store) → (state_of alone (take e history)).processes node ≡ Down store → do_fit terms store ≡ true → AreGreatest one_device terms.seats store

at_store : (store other : Store) (seats : List ℕ) → Down store ≡ Down other → AreGreatest one_device seats store → AreGreatest one_device seats other
at_store store other seats is h = subst (AreGreatest one_device seats) (ap store_at is) h

first_greatest : IsGreatestAt renamed_back 1 1 silver_alone
unfolding code_at first_words schedule rounds compress hash_after digest_bytes sha1 state_after state_after_action made_by_event made_while_running made_by_datagram made_by_ruling made_by_proposal propose propose_alone propose_among on_ask accept count_grant on_grant raise count_deny on_deny on_floor on_message tick
first_greatest store is fits =
    let old = store_of_1 (take 1 renamed_back) in
    at_store old store (0 ∷ []) is (one_greatest old 0 (within_one old.content (λ k. 0) 0 (omega arith)))

second_greatest : IsGreatestAt renamed_back 5 1 maple_alone
unfolding code_at first_words schedule rounds compress hash_after digest_bytes sha1 state_after state_after_action made_by_event made_while_running made_by_datagram made_by_ruling made_by_proposal propose propose_alone propose_among on_ask accept count_grant on_grant raise count_deny on_deny on_floor on_message tick
second_greatest store is fits =
    let old = store_of_1 (take 5 renamed_back) in
    at_store old store (1 ∷ []) is (one_greatest old 1 (within_two old.content (seat_name (0 ∷ 1 ∷ [])) 1 (omega arith) (omega arith)))

third_greatest : IsGreatestAt renamed_back 9 1 silver_alone
unfolding code_at first_words schedule rounds compress hash_after digest_bytes sha1 state_after state_after_action made_by_event made_while_running made_by_datagram made_by_ruling made_by_proposal propose propose_alone propose_among on_ask accept count_grant on_grant raise count_deny on_deny on_floor on_message tick
third_greatest store is fits =
    let old = store_of_1 (take 9 renamed_back) in
    at_store old store (0 ∷ []) is (one_greatest old 0 (within_two old.content (seat_name (0 ∷ 1 ∷ [])) 2 (omega arith) (omega arith)))

pub returns-clause-opens : goal.returns-clause-opens
returns-clause-opens c = record {
  once = λ event node terms store is.
      each_opening (λ e n t. HaveSeedsOnce one_device t.seats) renamed_back 0 event event node terms (omega arith)
      (tt, (one_seat one_device 0, (tt, (tt, (tt, (one_seat one_device 1, (tt, (tt, (tt, (one_seat one_device 0, (tt, tt))))))))))) is.opens;
  greatest = λ event node terms store is.
      each_opening (IsGreatestAt renamed_back) renamed_back 0 event event node terms (omega arith)
      (tt, (first_greatest, (tt, (tt, (tt, (second_greatest, (tt, (tt, (tt, (third_greatest, (tt, tt))))))))))) is.opens store is.down is.fits;
}

pub returns-clause-row : goal.returns-clause-row
returns-clause-row c = refl

pub returns-clause-no_row : goal.returns-clause-no_row
returns-clause-no_row c = refl

pub returns-clause-row_before : goal.returns-clause-row_before
unfolding code_at first_words schedule rounds compress hash_after digest_bytes sha1 state_after state_after_action made_by_event made_while_running made_by_datagram made_by_ruling made_by_proposal propose propose_alone propose_among on_ask accept count_grant on_grant raise count_deny on_deny on_floor on_message tick
returns-clause-row_before c = refl

pub returns-clause-row_after : goal.returns-clause-row_after
unfolding code_at first_words schedule rounds compress hash_after digest_bytes sha1 state_after state_after_action made_by_event made_while_running made_by_datagram made_by_ruling made_by_proposal propose propose_alone propose_among on_ask accept count_grant on_grant raise count_deny on_deny on_floor on_message tick
returns-clause-row_after c = refl

pub returns-clause-row_of_another : goal.returns-clause-row_of_another
unfolding code_at first_words schedule rounds compress hash_after digest_bytes sha1 state_after state_after_action made_by_event made_while_running made_by_datagram made_by_ruling made_by_proposal propose propose_alone propose_among on_ask accept count_grant on_grant raise count_deny on_deny on_floor on_message tick
returns-clause-row_of_another c = refl
