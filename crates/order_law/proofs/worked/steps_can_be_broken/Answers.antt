-- Each is asked for the step that isn't the node's next one.
use Rattle.std.proofs.Common.{◌≡◌, ℕ, List, [], ◌∷◌, refl, arith}
use Rattle.std.proofs.lemmas.Bool.{false≢true}
use Rattle.admit_core.specs.Fit.{code_at}
use Rattle.sha1.specs.Sha1.{first_words, schedule, rounds, compress, hash_after, digest_bytes, sha1}
use Rattle.vote_core.specs.Voting.{propose, propose_alone, propose_among, on_ask, accept, count_grant, on_grant, raise, count_deny, on_deny, on_floor, on_message, tick}
use Rattle.oath_node.specs.Machine.{NodeEvent, Client, Tick, made_by_proposal, made_by_ruling, made_by_datagram, made_while_running, made_by_event}
use Rattle.book_law.specs.Examples.{silver_line}
use Rattle.order_law.specs.Steps.{Replies, Telling}
use Rattle.order_law.proofs.worked.steps_can_be_broken.Goals as goal

no_cons : {A : Type 0} (x : A) (xs : List A) → [] ≡ x ∷ xs → ⊥
no_cons x xs e = cc

cons_no : {A : Type 0} (x : A) (xs : List A) → x ∷ xs ≡ [] → ⊥
cons_no x xs e = cc

same_bytes : (xs ys : List ℕ) (rest : List Telling) → Replies 7 xs ∷ [] ≡ Replies 7 ys ∷ rest → xs ≡ ys
same_bytes xs ys rest e = cc

no_tick : (client moment : ℕ) (line : List ℕ) (xs ys : List NodeEvent) → Client client moment line ∷ xs ≡ Tick ∷ ys → ⊥
no_tick client moment line xs ys e = cc

pub returns-clause-hears : goal.returns-clause-hears
returns-clause-hears c = refl

pub returns-clause-commits : goal.returns-clause-commits
returns-clause-commits c = refl

pub returns-clause-says : goal.returns-clause-says
unfolding code_at first_words schedule rounds compress hash_after digest_bytes sha1 made_by_event made_while_running made_by_datagram made_by_ruling made_by_proposal propose propose_alone propose_among on_ask accept count_grant on_grant raise count_deny on_deny on_floor on_message tick
returns-clause-says c = ([], refl)

pub returns-clause-hears_more : goal.returns-clause-hears_more
returns-clause-hears_more c = refl

pub returns-clause-hears_again : goal.returns-clause-hears_again
unfolding code_at first_words schedule rounds compress hash_after digest_bytes sha1 made_by_event made_while_running made_by_datagram made_by_ruling made_by_proposal propose propose_alone propose_among on_ask accept count_grant on_grant raise count_deny on_deny on_floor on_message tick
returns-clause-hears_again c = refl

pub returns-clause-hears_before_it_says : goal.returns-clause-hears_before_it_says
unfolding code_at first_words schedule rounds compress hash_after digest_bytes sha1 made_by_event made_while_running made_by_datagram made_by_ruling made_by_proposal propose propose_alone propose_among on_ask accept count_grant on_grant raise count_deny on_deny on_floor on_message tick
returns-clause-hears_before_it_says c h = cons_no _ _ h

pub returns-clause-commits_before_it_hears : goal.returns-clause-commits_before_it_hears
returns-clause-commits_before_it_hears c h = cons_no _ _ h

pub returns-clause-commits_less : goal.returns-clause-commits_less
returns-clause-commits_less c h = no_cons _ _ h

pub returns-clause-commits_twice : goal.returns-clause-commits_twice
unfolding code_at first_words schedule rounds compress hash_after digest_bytes sha1 made_by_event made_while_running made_by_datagram made_by_ruling made_by_proposal propose propose_alone propose_among on_ask accept count_grant on_grant raise count_deny on_deny on_floor on_message tick
returns-clause-commits_twice c h = cons_no _ _ h

pub returns-clause-says_before_it_commits : goal.returns-clause-says_before_it_commits
returns-clause-says_before_it_commits c h = no_cons _ _ h.1

pub returns-clause-says_another : goal.returns-clause-says_another
unfolding code_at first_words schedule rounds compress hash_after digest_bytes sha1 made_by_event made_while_running made_by_datagram made_by_ruling made_by_proposal propose propose_alone propose_among on_ask accept count_grant on_grant raise count_deny on_deny on_floor on_message tick
returns-clause-says_another c h = cons_no _ _ (same_bytes _ [] h.0 h.1)

pub returns-clause-says_twice : goal.returns-clause-says_twice
unfolding code_at first_words schedule rounds compress hash_after digest_bytes sha1 made_by_event made_while_running made_by_datagram made_by_ruling made_by_proposal propose propose_alone propose_among on_ask accept count_grant on_grant raise count_deny on_deny on_floor on_message tick
returns-clause-says_twice c h = no_cons _ _ h.1

pub returns-clause-pauses_in_a_batch : goal.returns-clause-pauses_in_a_batch
returns-clause-pauses_in_a_batch c h = cons_no _ _ h.0

pub returns-clause-pauses_before_it_says : goal.returns-clause-pauses_before_it_says
unfolding code_at first_words schedule rounds compress hash_after digest_bytes sha1 made_by_event made_while_running made_by_datagram made_by_ruling made_by_proposal propose propose_alone propose_among on_ask accept count_grant on_grant raise count_deny on_deny on_floor on_message tick
returns-clause-pauses_before_it_says c h = cons_no _ _ h.1

pub returns-clause-ends_with_more : goal.returns-clause-ends_with_more
returns-clause-ends_with_more c h = no_cons silver_line h.0 h.1

pub returns-clause-ends_with_another : goal.returns-clause-ends_with_another
returns-clause-ends_with_another c h = no_tick _ _ _ _ _ h.1

pub returns-clause-starts_twice : goal.returns-clause-starts_twice
returns-clause-starts_twice c h = h

pub returns-clause-starts_without_a_row : goal.returns-clause-starts_without_a_row
returns-clause-starts_without_a_row c h = false≢true h.0

pub returns-clause-starts_at_the_last_boot : goal.returns-clause-starts_at_the_last_boot
returns-clause-starts_at_the_last_boot c h = false≢true h.1

pub returns-clause-command_beside_a_process : goal.returns-clause-command_beside_a_process
returns-clause-command_beside_a_process c h = h

pub returns-clause-command_of_another : goal.returns-clause-command_of_another
returns-clause-command_of_another c h = omega (arith, h)

pub returns-clause-hears_without_a_process : goal.returns-clause-hears_without_a_process
returns-clause-hears_without_a_process c h = h

pub returns-clause-replaced_unlost : goal.returns-clause-replaced_unlost
returns-clause-replaced_unlost c h = h

pub returns-clause-starts_without_a_store : goal.returns-clause-starts_without_a_store
returns-clause-starts_without_a_store c h = h

pub returns-clause-loses_twice : goal.returns-clause-loses_twice
returns-clause-loses_twice c h = h

pub returns-clause-of_one_process : goal.returns-clause-of_one_process
returns-clause-of_one_process c = (tt, (tt, (tt, (tt, tt))))

pub returns-clause-ends_a_process : goal.returns-clause-ends_a_process
returns-clause-ends_a_process c h = h

pub returns-clause-starts_a_process : goal.returns-clause-starts_a_process
returns-clause-starts_a_process c h = h

pub returns-clause-cleared : goal.returns-clause-cleared
returns-clause-cleared c = refl
