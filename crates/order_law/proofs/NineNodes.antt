-- The login at one of nine nodes is an interleaving, and each vote in it was said before it was heard.
use Rattle.std.proofs.Common.{◌≡◌, ℕ, zero, suc, ◌≤◌, true, leb, [], ◌∷◌, Some, refl, sym, ap, arith}
use Rattle.std.proofs.lemmas.Bool.{and_parts, false≢true, leb-true}
use Rattle.admit_core.specs.Fit.{code_at}
use Rattle.sha1.specs.Sha1.{first_words, schedule, rounds, compress, hash_after, digest_bytes, sha1}
use Rattle.floor_store.specs.Records.{span_of}
use Rattle.vote_core.specs.Schedule.{is_member}
use Rattle.vote_core.specs.Voting.{propose, propose_alone, propose_among, on_ask, accept, count_grant, on_grant, raise, count_deny, on_deny, on_floor, on_message, tick}
use Rattle.vote_core.specs.declared.message.Message.TheVariants.{Ask, Grant}
use Rattle.vote_wire.specs.Body.{HasSpelling}
use Rattle.vote_wire.specs.Datagram.{datagram_bytes}
use Rattle.vote_wire.specs.Key.{bare}
use Rattle.oath_node.specs.Hosted.{envelope_at}
use Rattle.oath_node.specs.Machine.{made_by_proposal, made_by_ruling, made_by_datagram, made_while_running, made_by_event, Peer}
use Rattle.book_law.specs.Examples.{proposal_of_boot, silver_alone}
use Rattle.order_law.specs.Examples.{ask_to}
use Rattle.order_law.specs.Interleavings.{AreCaused, AreOfMembers, IsInterleaving, first_place, said_before, steps_at}
use Rattle.order_law.specs.NineNodes.{five_of_nine, grant_by, nine}
use Rattle.order_law.specs.Steps.{AreSteps, Sends}
use Rattle.order_law.proofs.Examples.{heard_once, reads}
use Rattle.order_law.proofs.Walk.{all_replaced}

-- ---- the datagrams are read

ask_spelled : (node : ℕ) → 2 ≤ node → node ≤ 9 → HasSpelling 1 node (Ask (proposal_of_boot 1 1) 0 (span_of 0 0))
ask_spelled node low high = (
  record { from_first = omega arith; from_last = omega arith; to_first = omega (arith, low); to_last = omega (arith, high); apart = λ e. let same : 1 ≡ node = e in omega (arith, low, same); token_below = omega arith },
  record {
    in_range = record { first = omega arith; last = omega arith; boot = omega arith; seq = omega arith };
    of_node = refl;
    lo_below = omega arith;
    hi_below = omega arith;
    spanned = record { ordered = omega arith; short = omega arith };
  },
)

grant_spelled : (node : ℕ) → 2 ≤ node → node ≤ 9 → HasSpelling node 1 (Grant (proposal_of_boot 1 1) 0 (span_of 0 0))
grant_spelled node low high = (
  record { from_first = omega (arith, low); from_last = omega (arith, high); to_first = omega arith; to_last = omega arith; apart = λ e. let same : node ≡ 1 = e in omega (arith, low, same); token_below = omega arith },
  record {
    in_range = record { first = omega arith; last = omega arith; boot = omega arith; seq = omega arith };
    of_node = refl;
    lo_below = omega arith;
    hi_below = omega arith;
    spanned = record { ordered = omega arith; short = omega arith };
  },
)

reads_ask : (node : ℕ) → 2 ≤ node → node ≤ 9 → envelope_at bare (datagram_bytes bare 1 node (ask_to node 0).message) ≡ Some (ask_to node 0)
reads_ask node low high = reads (ask_to node 0) (ask_spelled node low high)

reads_grant : (node : ℕ) → 2 ≤ node → node ≤ 9 → envelope_at bare (datagram_bytes bare node 1 (grant_by node).message) ≡ Some (grant_by node)
reads_grant node low high = reads (grant_by node) (grant_spelled node low high)

-- ---- the steps of each node

one_steps : AreSteps nine 1 (first_place nine 1) (steps_at 1 five_of_nine)
unfolding code_at first_words schedule rounds compress hash_after digest_bytes sha1 made_by_event made_while_running made_by_datagram made_by_ruling made_by_proposal propose propose_alone propose_among on_ask accept count_grant on_grant raise count_deny on_deny on_floor on_message tick
one_steps = (refl, ((refl, refl), (refl, (refl, ((Sends (ask_to 3 0) ∷ Sends (ask_to 4 0) ∷ Sends (ask_to 5 0) ∷ Sends (ask_to 6 0) ∷ Sends (ask_to 7 0) ∷ Sends (ask_to 8 0) ∷ Sends (ask_to 9 0) ∷ [], refl), ((Sends (ask_to 4 0) ∷ Sends (ask_to 5 0) ∷ Sends (ask_to 6 0) ∷ Sends (ask_to 7 0) ∷ Sends (ask_to 8 0) ∷ Sends (ask_to 9 0) ∷ [], refl), ((Sends (ask_to 5 0) ∷ Sends (ask_to 6 0) ∷ Sends (ask_to 7 0) ∷ Sends (ask_to 8 0) ∷ Sends (ask_to 9 0) ∷ [], refl), ((Sends (ask_to 6 0) ∷ Sends (ask_to 7 0) ∷ Sends (ask_to 8 0) ∷ Sends (ask_to 9 0) ∷ [], refl), ((Sends (ask_to 7 0) ∷ Sends (ask_to 8 0) ∷ Sends (ask_to 9 0) ∷ [], refl), ((Sends (ask_to 8 0) ∷ Sends (ask_to 9 0) ∷ [], refl), ((Sends (ask_to 9 0) ∷ [], refl), (([], refl), (refl, (ap (λ o. Peer 2 o ∷ []) (sym (reads_grant 2 (omega arith) (omega arith))), (refl, (ap (λ o. Peer 3 o ∷ []) (sym (reads_grant 3 (omega arith) (omega arith))), (refl, (ap (λ o. Peer 4 o ∷ []) (sym (reads_grant 4 (omega arith) (omega arith))), (refl, (ap (λ o. Peer 5 o ∷ []) (sym (reads_grant 5 (omega arith) (omega arith))), (([], refl), tt)))))))))))))))))))))

two_steps : AreSteps nine 2 (first_place nine 2) (steps_at 2 five_of_nine)
unfolding code_at first_words schedule rounds compress hash_after digest_bytes sha1 made_by_event made_while_running made_by_datagram made_by_ruling made_by_proposal propose propose_alone propose_among on_ask accept count_grant on_grant raise count_deny on_deny on_floor on_message tick
two_steps = (refl, ((refl, refl), (refl, (ap (λ o. Peer 1 o ∷ []) (sym (reads_ask 2 (omega arith) (omega arith))), (([], refl), tt)))))

three_steps : AreSteps nine 3 (first_place nine 3) (steps_at 3 five_of_nine)
unfolding code_at first_words schedule rounds compress hash_after digest_bytes sha1 made_by_event made_while_running made_by_datagram made_by_ruling made_by_proposal propose propose_alone propose_among on_ask accept count_grant on_grant raise count_deny on_deny on_floor on_message tick
three_steps = (refl, ((refl, refl), (refl, (ap (λ o. Peer 1 o ∷ []) (sym (reads_ask 3 (omega arith) (omega arith))), (([], refl), tt)))))

four_steps : AreSteps nine 4 (first_place nine 4) (steps_at 4 five_of_nine)
unfolding code_at first_words schedule rounds compress hash_after digest_bytes sha1 made_by_event made_while_running made_by_datagram made_by_ruling made_by_proposal propose propose_alone propose_among on_ask accept count_grant on_grant raise count_deny on_deny on_floor on_message tick
four_steps = (refl, ((refl, refl), (refl, (ap (λ o. Peer 1 o ∷ []) (sym (reads_ask 4 (omega arith) (omega arith))), (([], refl), tt)))))

five_steps : AreSteps nine 5 (first_place nine 5) (steps_at 5 five_of_nine)
unfolding code_at first_words schedule rounds compress hash_after digest_bytes sha1 made_by_event made_while_running made_by_datagram made_by_ruling made_by_proposal propose propose_alone propose_among on_ask accept count_grant on_grant raise count_deny on_deny on_floor on_message tick
five_steps = (refl, ((refl, refl), (refl, (ap (λ o. Peer 1 o ∷ []) (sym (reads_ask 5 (omega arith) (omega arith))), (([], refl), tt)))))

-- nine members
each_of_nine : (P : ℕ → Type 0) → P 1 → P 2 → P 3 → P 4 → P 5 → P 6 → P 7 → P 8 → P 9 → (node : ℕ) → is_member 9 node ≡ true → P node
each_of_nine P one two three four five six seven eight nine zero member = absurd (false≢true member)
each_of_nine P one two three four five six seven eight nine (suc zero) member = one
each_of_nine P one two three four five six seven eight nine (suc (suc zero)) member = two
each_of_nine P one two three four five six seven eight nine (suc (suc (suc zero))) member = three
each_of_nine P one two three four five six seven eight nine (suc (suc (suc (suc zero)))) member = four
each_of_nine P one two three four five six seven eight nine (suc (suc (suc (suc (suc zero))))) member = five
each_of_nine P one two three four five six seven eight nine (suc (suc (suc (suc (suc (suc zero)))))) member = six
each_of_nine P one two three four five six seven eight nine (suc (suc (suc (suc (suc (suc (suc zero))))))) member = seven
each_of_nine P one two three four five six seven eight nine (suc (suc (suc (suc (suc (suc (suc (suc zero)))))))) member = eight
each_of_nine P one two three four five six seven eight nine (suc (suc (suc (suc (suc (suc (suc (suc (suc zero))))))))) member = nine
each_of_nine P one two three four five six seven eight nine (suc (suc (suc (suc (suc (suc (suc (suc (suc (suc node)))))))))) member =
    let n = suc (suc (suc (suc (suc (suc (suc (suc (suc (suc node))))))))) in
    let low = leb-true n 9 (and_parts (leb 1 n) (leb n 9) member).1 in
    absurd (omega (arith, low))

members : AreOfMembers nine five_of_nine
members = (refl, (refl, (refl, (refl, (refl, (refl, (refl, (refl, (refl, (refl, (refl, (refl, (refl, (refl, (refl, (refl, (refl, (refl, (refl, (refl, (refl, (refl, (refl, (refl, (refl, (refl, (refl, (refl, (refl, (refl, (refl, (refl, (refl, (refl, (refl, (refl, (refl, (refl, (refl, (refl, (refl, tt)))))))))))))))))))))))))))))))))))))))))

pub login_of_nine : IsInterleaving nine five_of_nine
login_of_nine = record {
  members = members;
  steps = each_of_nine (λ node. AreSteps nine node (first_place nine node) (steps_at node five_of_nine)) one_steps two_steps three_steps four_steps five_steps tt tt tt tt;
  replaced = all_replaced nine five_of_nine (tt, (tt, (tt, (tt, (tt, (tt, (tt, (tt, (tt, (tt, (tt, (tt, (tt, (tt, (tt, (tt, (tt, (tt, (tt, (tt, (tt, (tt, (tt, (tt, (tt, (tt, (tt, (tt, (tt, (tt, (tt, (tt, (tt, (tt, (tt, (tt, (tt, (tt, (tt, (tt, (tt, tt)))))))))))))))))))))))))))))))))))))))));
}

-- ---- each vote was said before

pub caused_of_nine : AreCaused nine (first_place nine) (said_before nine) five_of_nine
unfolding code_at first_words schedule rounds compress hash_after digest_bytes sha1 made_by_event made_while_running made_by_datagram made_by_ruling made_by_proposal propose propose_alone propose_among on_ask accept count_grant on_grant raise count_deny on_deny on_floor on_message tick
caused_of_nine = (tt, (tt, (tt, (tt, (tt, (tt, (tt, (tt, (tt, (tt, (tt, (tt, (tt, (tt, (tt, (tt, (tt, (tt, (tt, (tt, (heard_once silver_alone bare _ 1 _ (ask_to 2 0) (reads_ask 2 (omega arith) (omega arith)) (record { place = 0; is_there = refl }), (tt, (tt, (heard_once silver_alone bare _ 2 _ (grant_by 2) (reads_grant 2 (omega arith) (omega arith)) (record { place = 8; is_there = refl }), (tt, (heard_once silver_alone bare _ 1 _ (ask_to 3 0) (reads_ask 3 (omega arith) (omega arith)) (record { place = 1; is_there = refl }), (tt, (tt, (heard_once silver_alone bare _ 3 _ (grant_by 3) (reads_grant 3 (omega arith) (omega arith)) (record { place = 9; is_there = refl }), (tt, (heard_once silver_alone bare _ 1 _ (ask_to 4 0) (reads_ask 4 (omega arith) (omega arith)) (record { place = 2; is_there = refl }), (tt, (tt, (heard_once silver_alone bare _ 4 _ (grant_by 4) (reads_grant 4 (omega arith) (omega arith)) (record { place = 10; is_there = refl }), (tt, (heard_once silver_alone bare _ 1 _ (ask_to 5 0) (reads_ask 5 (omega arith) (omega arith)) (record { place = 3; is_there = refl }), (tt, (tt, (heard_once silver_alone bare _ 5 _ (grant_by 5) (reads_grant 5 (omega arith) (omega arith)) (record { place = 11; is_there = refl }), (tt, (tt, tt)))))))))))))))))))))))))))))))))))))))))
