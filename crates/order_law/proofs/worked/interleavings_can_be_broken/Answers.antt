-- Each is asked for the step that isn't the node's next one, or for the cause.
use Rattle.std.proofs.Common.{◌≡◌, ℕ, ◌<◌, List, [], ◌∷◌, ◌++◌, Some, refl, sym, ap, ◌∙◌, subst, arith}
use Rattle.std.specs.List.{slice_get}
use Rattle.std.proofs.lemmas.Bool.{false≢true}
use Rattle.std.proofs.lemmas.Option.{none-some}
use Rattle.admit_core.specs.Fit.{code_at}
use Rattle.sha1.specs.Sha1.{first_words, schedule, rounds, compress, hash_after, digest_bytes, sha1}
use Rattle.otp_core.specs.Acceptance.{HaveSingleUse}
use Rattle.vote_core.specs.Cases.{accepted}
use Rattle.vote_core.specs.Schedule.{Envelope}
use Rattle.vote_core.specs.Voting.{propose, propose_alone, propose_among, on_ask, accept, count_grant, on_grant, raise, count_deny, on_deny, on_floor, on_message, tick}
use Rattle.oath_node.specs.Machine.{made_by_proposal, made_by_ruling, made_by_datagram, made_while_running, made_by_event, Peer}
use Rattle.book_law.specs.Examples.{alone, silver_line, three}
use Rattle.book_law.specs.Lives.{state_after, state_after_action}
use Rattle.order_law.specs.Examples.{accepted_twice, ask_to, at, forged, grant_of, granted_early, other_ask, silver_login}
use Rattle.order_law.specs.Interleavings.{first_place, steps_at}
use Rattle.datagram_port.specs.Port.{Offered, PortEvent}
use Rattle.datagram_port.specs.declared.port.Sender.{Sender}
use Rattle.oath_node.specs.Turns.{Receipt, FromPeer, FromClient, Nothing, Failure, entry_of}
use Rattle.vote_wire.specs.Key.{bare}
use Rattle.book_law.specs.Examples.{silver_alone, silver_row, silver_text}
use Rattle.book_law.specs.Lives.{Setting}
use Rattle.book_law.specs.Uses.{state_cleared}
use Rattle.order_law.specs.Steps.{AreOfProcess, AreSteps, Commits, Does, Ends, Gets, Hears, Loses, Open, Pauses, Says, Sends, Live, Starts, Step, entries_of_steps, live_at, live_done}
use Rattle.order_law.proofs.Examples.{each_member, nobody_said, reads_ask, reads_grant, reads_other}
use Rattle.order_law.proofs.Walk.{all_replaced}
use Rattle.order_law.proofs.worked.interleavings_can_be_broken.Goals as goal

no_old : (i : ℕ) (envelope : Envelope) → slice_get [] i ≡ Some envelope → ⊥
no_old i envelope at = none-some envelope at

no_cons : {A : Type 0} (x : A) (xs : List A) → [] ≡ x ∷ xs → ⊥
no_cons x xs e = cc

cons_no : {A : Type 0} (x : A) (xs : List A) → x ∷ xs ≡ [] → ⊥
cons_no x xs e = cc

-- ---- Grants

one_early : AreSteps three 1 (first_place three 1) (steps_at 1 granted_early)
unfolding code_at first_words schedule rounds compress hash_after digest_bytes sha1 made_by_event made_while_running made_by_datagram made_by_ruling made_by_proposal propose propose_alone propose_among on_ask accept count_grant on_grant raise count_deny on_deny on_floor on_message tick
one_early = (refl, (refl, ((refl, refl), (refl, (refl, ((Sends (ask_to 3 0) ∷ [], refl), (([], refl), (refl, (ap (λ o. Peer 2 o ∷ []) (sym reads_grant), (([], refl), tt))))))))))

two_early : AreSteps three 2 (first_place three 2) (steps_at 2 granted_early)
unfolding code_at first_words schedule rounds compress hash_after digest_bytes sha1 made_by_event made_while_running made_by_datagram made_by_ruling made_by_proposal propose propose_alone propose_among on_ask accept count_grant on_grant raise count_deny on_deny on_floor on_message tick
two_early = (refl, (refl, ((refl, refl), (refl, (ap (λ o. Peer 1 o ∷ []) (sym reads_ask), (([], refl), tt))))))

two_forged : AreSteps three 2 (first_place three 2) (steps_at 2 forged)
two_forged = (refl, (refl, ((refl, refl), tt)))

two_accept : AreSteps three 2 (first_place three 2) (steps_at 2 accepted_twice)
unfolding code_at first_words schedule rounds compress hash_after digest_bytes sha1 made_by_event made_while_running made_by_datagram made_by_ruling made_by_proposal propose propose_alone propose_among on_ask accept count_grant on_grant raise count_deny on_deny on_floor on_message tick
two_accept = (refl, (refl, ((refl, refl), (refl, (refl, ((Sends (other_ask 3) ∷ [], refl), (([], refl), (refl, (ap (λ o. Peer 1 o ∷ []) (sym reads_other), (([], refl), tt))))))))))

pub returns-clause-early : goal.returns-clause-early
returns-clause-early c = record {
  members = (refl, (refl, (refl, (refl, (refl, (refl, (refl, (refl, (refl, (refl, (refl, (refl, (refl, (refl, (refl, (refl, tt))))))))))))))));
  steps = each_member (λ node. AreSteps three node (first_place three node) (steps_at node granted_early)) one_early two_early tt;
  replaced = all_replaced three granted_early (tt, (tt, (tt, (tt, (tt, (tt, (tt, (tt, (tt, (tt, (tt, (tt, (tt, (tt, (tt, (tt, tt))))))))))))))));
}

pub returns-clause-early_actions : goal.returns-clause-early_actions
returns-clause-early_actions c = refl

pub returns-clause-early_cause : goal.returns-clause-early_cause
unfolding code_at first_words schedule rounds compress hash_after digest_bytes sha1 made_by_event made_while_running made_by_datagram made_by_ruling made_by_proposal propose propose_alone propose_among on_ask accept count_grant on_grant raise count_deny on_deny on_floor on_message tick
returns-clause-early_cause c h = nobody_said _ _ ((λ (e : 1 ≡ 2). omega (arith, e)), ((λ (e : 1 ≡ 2). omega (arith, e)), tt)) (h.caused.1.1.1.1.1.1.1.1.1.1.1.1.0 (grant_of 0) reads_grant refl tt (omega arith))

pub returns-clause-forged : goal.returns-clause-forged
returns-clause-forged c = record {
  members = (refl, (refl, (refl, (refl, (refl, (refl, (refl, (refl, (refl, (refl, (refl, (refl, (refl, tt)))))))))))));
  steps = each_member (λ node. AreSteps three node (first_place three node) (steps_at node forged)) one_early two_forged tt;
  replaced = all_replaced three forged (tt, (tt, (tt, (tt, (tt, (tt, (tt, (tt, (tt, (tt, (tt, (tt, (tt, tt)))))))))))));
}

pub returns-clause-forged_cause : goal.returns-clause-forged_cause
unfolding code_at first_words schedule rounds compress hash_after digest_bytes sha1 made_by_event made_while_running made_by_datagram made_by_ruling made_by_proposal propose propose_alone propose_among on_ask accept count_grant on_grant raise count_deny on_deny on_floor on_message tick
returns-clause-forged_cause c h = nobody_said _ _ ((λ (e : 1 ≡ 2). omega (arith, e)), ((λ (e : 1 ≡ 2). omega (arith, e)), tt)) (h.caused.1.1.1.1.1.1.1.1.1.1.0 (grant_of 0) reads_grant refl tt (omega arith))

pub returns-clause-former_of_the_boot : goal.returns-clause-former_of_the_boot
returns-clause-former_of_the_boot c h =
    let low : 1 < 1 = (h.starts 0 _ refl).1 in
    omega (arith, low)

pub returns-clause-twice : goal.returns-clause-twice
returns-clause-twice c = record {
  members = (refl, (refl, (refl, (refl, (refl, (refl, (refl, (refl, (refl, (refl, (refl, (refl, (refl, (refl, (refl, (refl, (refl, (refl, (refl, (refl, tt))))))))))))))))))));
  steps = each_member (λ node. AreSteps three node (first_place three node) (steps_at node accepted_twice)) one_early two_accept tt;
  replaced = all_replaced three accepted_twice (tt, (tt, (tt, (tt, (tt, (tt, (tt, (tt, (tt, (tt, (tt, (tt, (tt, (tt, (tt, (tt, (tt, (tt, (tt, (tt, tt))))))))))))))))))));
}

twice : Rattle.book_law.specs.Lives.accepted_in three (Rattle.order_law.specs.Interleavings.history_of accepted_twice) ≡ accepted 6 9 1 0 0 0 ∷ accepted 11 14 2 0 0 0 ∷ []
unfolding code_at first_words schedule rounds compress hash_after digest_bytes sha1 state_after state_after_action made_by_event made_while_running made_by_datagram made_by_ruling made_by_proposal propose propose_alone propose_among on_ask accept count_grant on_grant raise count_deny on_deny on_floor on_message tick
twice = refl

pub returns-clause-accepted_twice : goal.returns-clause-accepted_twice
returns-clause-accepted_twice c = twice

pub returns-clause-not_single_use : goal.returns-clause-not_single_use
returns-clause-not_single_use c h = taken (subst HaveSingleUse twice h)
  where
    taken : HaveSingleUse (accepted 6 9 1 0 0 0 ∷ accepted 11 14 2 0 0 0 ∷ []) → ⊥
    taken h =
        h.factors 0 1 (accepted 6 9 1 0 0 0) (accepted 11 14 2 0 0 0) (λ e. let same : 0 ≡ 1 = e in omega (arith, same))
        refl refl refl 0 (omega arith, omega arith) (omega arith, omega arith)

-- ---- a node's steps

pub returns-clause-says_before_it_commits : goal.returns-clause-says_before_it_commits
returns-clause-says_before_it_commits c h = no_cons _ _ ((h.steps 1 refl).1.1.1.0.1)

pub returns-clause-without_the_commit : goal.returns-clause-without_the_commit
returns-clause-without_the_commit c h = no_cons _ _ ((h.steps 1 refl).1.1.1.0.1)

pub returns-clause-without_the_receive : goal.returns-clause-without_the_receive
returns-clause-without_the_receive c h = cons_no _ _ ((h.steps 1 refl).1.1.0)

pub returns-clause-of_no_member : goal.returns-clause-of_no_member
returns-clause-of_no_member c h = false≢true h.members.0

-- ---- records

pub returns-clause-reversed_record : goal.returns-clause-reversed_record
unfolding code_at first_words schedule rounds compress hash_after digest_bytes sha1 made_by_event made_while_running made_by_datagram made_by_ruling made_by_proposal propose propose_alone propose_among on_ask accept count_grant on_grant raise count_deny on_deny on_floor on_message tick
returns-clause-reversed_record c = record {
  taken = silver_line ∷ [];
  is = record { fits = refl; boot = refl; receipts = FromClient 7 silver_text (Some 100) ∷ []; received = refl; later = []; events = refl; rest = []; offers = refl; leaves = refl };
}

not_received : (receipt : Receipt) (to : Sender) (bytes : List ℕ) (xs ys : List PortEvent) → entry_of receipt ∷ xs ≡ Offered to bytes ∷ ys → ⊥
not_received (FromPeer from by) to bytes xs ys e = cc
not_received (FromClient client by moment) to bytes xs ys e = cc
not_received Nothing to bytes xs ys e = cc
not_received Failure to bytes xs ys e = cc

-- a process that heard nothing says nothing
never_first : (setting : Setting) (node : ℕ) (port : List ℕ) (to : Sender) (bytes : List ℕ) (ys : List PortEvent) (end : List Step) (steps : List Step) (s : Live) → AreOfProcess steps → s.heard ≡ [] → s.waiting ≡ []
    → AreSteps setting node (Open s) (steps ++ end) → entries_of_steps port steps ≡ Offered to bytes ∷ ys → ⊥
never_first setting node port to bytes ys end [] s of_one none quiet are e = no_cons (Offered to bytes) ys e
never_first setting node port to bytes ys end (Hears receipt ∷ steps) s of_one none quiet are e = not_received receipt to bytes (entries_of_steps port steps) ys e
never_first setting node port to bytes ys end (Commits [] ∷ steps) s of_one none quiet are e = never_first setting node port to bytes ys end steps (live_done s) of_one.1 refl quiet are.1 e
never_first setting node port to bytes ys end (Commits (x ∷ xs) ∷ steps) s of_one none quiet are e = cons_no x xs (are.0 ∙ none)
never_first setting node port to bytes ys end (Says telling ∷ steps) s of_one none quiet are e = no_cons telling are.0.0 (sym quiet ∙ are.0.1)
never_first setting node port to bytes ys end (Pauses cleared ∷ steps) s of_one none quiet are e =
    never_first setting node port to bytes ys end steps (record s { state = state_cleared s.terms cleared s.state; received = 0 }) of_one.1 none quiet are.1 e
never_first setting node port to bytes ys end (Starts terms key ∷ steps) s of_one none quiet are e = of_one.0
never_first setting node port to bytes ys end (Ends kept ∷ steps) s of_one none quiet are e = of_one.0
never_first setting node port to bytes ys end (Does action ∷ steps) s of_one none quiet are e = of_one.0
never_first setting node port to bytes ys end (Loses ∷ steps) s of_one none quiet are e = of_one.0
never_first setting node port to bytes ys end (Gets boot given floor ∷ steps) s of_one none quiet are e = of_one.0

pub returns-clause-reversed : goal.returns-clause-reversed
returns-clause-reversed c = λ tokens left h. never_first alone 1 bare _ _ _ (Ends h.kept ∷ []) h.steps (live_at silver_alone bare silver_row) h.of_one refl refl h.are.1 h.recorded

-- ---- a lost store

pub returns-clause-replaced_too_low : goal.returns-clause-replaced_too_low
unfolding code_at first_words schedule rounds compress hash_after digest_bytes sha1 state_after state_after_action made_by_event made_while_running made_by_datagram made_by_ruling made_by_proposal propose propose_alone propose_among on_ask accept count_grant on_grant raise count_deny on_deny on_floor on_message tick
returns-clause-replaced_too_low c h = false≢true (h.replaced (silver_login ++ at 1 Loses ∷ []) [] 1 2 (0 ∷ []) (λ token. 0) refl)

pub returns-clause-replaced_at_a_used_boot : goal.returns-clause-replaced_at_a_used_boot
unfolding code_at first_words schedule rounds compress hash_after digest_bytes sha1 state_after state_after_action made_by_event made_while_running made_by_datagram made_by_ruling made_by_proposal propose propose_alone propose_among on_ask accept count_grant on_grant raise count_deny on_deny on_floor on_message tick
returns-clause-replaced_at_a_used_boot c h = false≢true (h.replaced (silver_login ++ at 1 Loses ∷ []) [] 1 1 (0 ∷ []) (λ token. 1) refl)

-- ---- the rule of replacements

pub returns-clause-rule_of_no_replacement : goal.returns-clause-rule_of_no_replacement
returns-clause-rule_of_no_replacement c = all_replaced three [] tt

pub returns-clause-rule_of_floors : goal.returns-clause-rule_of_floors
unfolding code_at first_words schedule rounds compress hash_after digest_bytes sha1 made_by_event made_while_running made_by_datagram made_by_ruling made_by_proposal propose propose_alone propose_among on_ask accept count_grant on_grant raise count_deny on_deny on_floor on_message tick state_after state_after_action
returns-clause-rule_of_floors c h = false≢true (h (silver_login ++ at 1 Loses ∷ []) [] 1 2 (0 ∷ []) (λ token. 0) refl)

pub returns-clause-rule_of_boots : goal.returns-clause-rule_of_boots
unfolding code_at first_words schedule rounds compress hash_after digest_bytes sha1 made_by_event made_while_running made_by_datagram made_by_ruling made_by_proposal propose propose_alone propose_among on_ask accept count_grant on_grant raise count_deny on_deny on_floor on_message tick state_after state_after_action
returns-clause-rule_of_boots c h = false≢true (h (silver_login ++ at 1 Loses ∷ []) [] 1 1 (0 ∷ []) (λ token. 1) refl)

pub returns-clause-rule_of_losses : goal.returns-clause-rule_of_losses
unfolding state_after
returns-clause-rule_of_losses c h = false≢true (h [] [] 1 2 (0 ∷ []) (λ token. 1) refl)
