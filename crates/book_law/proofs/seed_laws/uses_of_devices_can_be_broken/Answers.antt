-- Uses of a store with two rows of one device.
use Rattle.std.proofs.Common.{◌≤◌, [], ◌∷◌, refl, arith}
use Rattle.admit_core.specs.Fit.{code_at}
use Rattle.sha1.specs.Sha1.{first_words, schedule, rounds, compress, hash_after, digest_bytes, sha1}
use Rattle.vote_core.specs.Voting.{propose, propose_alone, propose_among, on_ask, accept, count_grant, on_grant, raise, count_deny, on_deny, on_floor, on_message, tick}
use Rattle.oath_node.specs.Machine.{made_by_proposal, made_by_ruling, made_by_datagram, made_while_running, made_by_event}
use Rattle.seat_law.specs.Seats.{seat_name}
use Rattle.book_law.specs.Examples.{alone, store_of_1}
use Rattle.book_law.specs.Lives.{Raises, state_after, state_after_action, store_under, seen_in}
use Rattle.book_law.specs.SeedExamples.{one_device, renamed}
use Rattle.book_law.specs.Seeds.{AreGreatest}
use Rattle.book_law.specs.Uses.{written_store}
use Rattle.book_law.proofs.OneDevice.{apart, one_greatest, one_seat, within_two}
use Rattle.book_law.proofs.seed_laws.uses_of_devices_can_be_broken.Goals as goal

maple_greatest : AreGreatest one_device (1 ∷ []) (store_of_1 renamed)
unfolding code_at first_words schedule rounds compress hash_after digest_bytes sha1 state_after state_after_action made_by_event made_while_running made_by_datagram made_by_ruling made_by_proposal propose propose_alone propose_among on_ask accept count_grant on_grant raise count_deny on_deny on_floor on_message tick
maple_greatest = let store = store_of_1 renamed in one_greatest store 1 (within_two store.content (seat_name (0 ∷ 1 ∷ [])) 2 (omega arith) (omega arith))

silver_lower : AreGreatest one_device (0 ∷ []) (store_of_1 renamed) → ⊥
unfolding code_at first_words schedule rounds compress hash_after digest_bytes sha1 state_after state_after_action made_by_event made_while_running made_by_datagram made_by_ruling made_by_proposal propose propose_alone propose_among on_ask accept count_grant on_grant raise count_deny on_deny on_floor on_message tick
silver_lower h = let low : 2 ≤ 1 = h 0 0 1 refl refl in omega (arith, low)

silver_lower_later : AreGreatest one_device (0 ∷ []) (store_under (1 ∷ []) (seen_in (store_of_1 renamed) (1 ∷ [])) (store_of_1 renamed)) → ⊥
unfolding code_at first_words schedule rounds compress hash_after digest_bytes sha1 state_after state_after_action made_by_event made_while_running made_by_datagram made_by_ruling made_by_proposal propose propose_alone propose_among on_ask accept count_grant on_grant raise count_deny on_deny on_floor on_message tick
silver_lower_later h = let low : 2 ≤ 1 = h 0 0 1 refl refl in omega (arith, low)

silver_raised : AreGreatest one_device (0 ∷ []) (written_store alone (Raises 1 0 2) (store_of_1 renamed))
unfolding code_at first_words schedule rounds compress hash_after digest_bytes sha1 state_after state_after_action made_by_event made_while_running made_by_datagram made_by_ruling made_by_proposal propose propose_alone propose_among on_ask accept count_grant on_grant raise count_deny on_deny on_floor on_message tick
silver_raised =
    let store = written_store alone (Raises 1 0 2) (store_of_1 renamed) in
    one_greatest store 0 (within_two store.content (seat_name (0 ∷ 1 ∷ [])) 2 (omega arith) (omega arith))

silver_not_raised : AreGreatest one_device (0 ∷ []) (written_store alone (Raises 1 1 2) (store_of_1 renamed)) → ⊥
unfolding code_at first_words schedule rounds compress hash_after digest_bytes sha1 state_after state_after_action made_by_event made_while_running made_by_datagram made_by_ruling made_by_proposal propose propose_alone propose_among on_ask accept count_grant on_grant raise count_deny on_deny on_floor on_message tick
silver_not_raised h = let low : 2 ≤ 1 = h 0 0 1 refl refl in omega (arith, low)

pub returns-clause-served : goal.returns-clause-served
returns-clause-served c = (one_seat one_device 1, maple_greatest, tt)

pub returns-clause-served_in_parts : goal.returns-clause-served_in_parts
returns-clause-served_in_parts c = (one_seat one_device 1, maple_greatest, tt)

pub returns-clause-served_lower : goal.returns-clause-served_lower
returns-clause-served_lower c h = silver_lower h.1

pub returns-clause-served_lower_in_parts : goal.returns-clause-served_lower_in_parts
returns-clause-served_lower_in_parts c h = silver_lower h.1

pub returns-clause-served_both : goal.returns-clause-served_both
returns-clause-served_both c h = apart 0 1 (omega arith) (h.0 0 1 0 1 refl refl refl)

pub returns-clause-served_both_in_parts : goal.returns-clause-served_both_in_parts
returns-clause-served_both_in_parts c h = apart 0 1 (omega arith) (h.0 0 1 0 1 refl refl refl)

pub returns-clause-served_then_lower : goal.returns-clause-served_then_lower
returns-clause-served_then_lower c h = silver_lower_later h.2.1

pub returns-clause-served_in_parts_then_lower : goal.returns-clause-served_in_parts_then_lower
returns-clause-served_in_parts_then_lower c h = silver_lower_later h.2.1

pub returns-clause-raised_then_served : goal.returns-clause-raised_then_served
returns-clause-raised_then_served c = (one_seat one_device 0, silver_raised, tt)

pub returns-clause-raised_another_then_served : goal.returns-clause-raised_another_then_served
returns-clause-raised_another_then_served c h = silver_not_raised h.1
