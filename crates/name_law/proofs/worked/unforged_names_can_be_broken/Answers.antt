-- What was not offered is told by its place, its key or a byte of it.
use Rattle.std.proofs.Common.{◌≡◌, ℕ, ◌≤◌, List, [], ◌++◌, Some, refl, ap, sym, subst, ◌∙◌, arith, get_or}
use Rattle.std.proofs.lemmas.Option.{none-some, same_Some}
use Rattle.hmac_core.specs.Unfolded.sha256_steps
use Rattle.named_wire.specs.Datagram.{datagram_at, datagram_bytes}
use Rattle.named_wire.specs.Head.{head_at}
use Rattle.named_wire.specs.declared.head.Head.{Head}
use Rattle.vote_wire.specs.Datagram as old
use Rattle.vote_wire.specs.Key.{bare, tag_of}
use Rattle.named_port.specs.Examples.{named_ask, node_2, zeros}
use Rattle.named_port.specs.Wire.{named_of, numbered_of, packed_of}
use Rattle.oath_node.specs.Hosted.{envelope_at}
use Rattle.vote_core.specs.Roster.{token_of}
use Rattle.vote_core.specs.Schedule.{Envelope}
use Rattle.vote_core.specs.declared.message.Message.{Message}
use Rattle.vote_core.specs.declared.message.Message.TheVariants.{Ask}
use Rattle.book_law.specs.Lives.{IsOfVote, Sealed, WasOffered}
use Rattle.name_law.specs.Datagrams.{IsReadable, IsSpelled, IsTranslatorOf, handed_bytes, name_at, named_datagram}
use Rattle.name_law.specs.Examples.{all_names, ask_of, asked, denial_of, floor_of, grant_of, sealed_ask, sealed_floor, terms_2, three_of}
use Rattle.name_law.specs.Unforged.{IsKindOfVote, IsSized, IsVoteFor}
use Rattle.name_law.proofs.Datagrams.{handed_is, head_of, is_vote, no_bytes, reads_named, reads_own}
use Rattle.name_law.proofs.Examples.{are_names, ask_spelled, asked_bytes, knows_asked, never, not_two, only_asked, reads_ask, reads_asked, sized_three, terms_2_are, was_asked}
use Rattle.name_law.proofs.Names.{spelled_with}
use Rattle.name_law.proofs.Unforged.{read_known}
use Rattle.name_law.proofs.worked.unforged_names_can_be_broken.Goals as goal

pub returns-clause-sized : goal.returns-clause-sized
returns-clause-sized c = sized_three

pub returns-clause-sized_names : goal.returns-clause-sized_names
returns-clause-sized_names c h = h.are_names.distinct 0 1 [] (omega arith) (omega arith) refl

pub returns-clause-sized_tokens : goal.returns-clause-sized_tokens
returns-clause-sized_tokens c h = let many : 3 ≡ 4 = h.tokens in omega (arith, many)

pub returns-clause-sized_nodes : goal.returns-clause-sized_nodes
returns-clause-sized_nodes c h = let few : 10 ≤ 9 = h.nodes in omega (arith, few)

pub returns-clause-sized_old : goal.returns-clause-sized_old
returns-clause-sized_old c h = (h.old 1 _ refl).0.apart refl

pub returns-clause-offered : goal.returns-clause-offered
returns-clause-offered c = was_asked

pub returns-clause-offered_later : goal.returns-clause-offered_later
returns-clause-offered_later c = record { place = 1; sealed = sealed_ask; is_there = refl; key_is = refl; boot = 2; boot_below = omega arith; bytes_are = asked_bytes }

pub returns-clause-never_offered : goal.returns-clause-never_offered
returns-clause-never_offered c h = never _ _ _ h

pub returns-clause-offered_under_another_key : goal.returns-clause-offered_under_another_key
returns-clause-offered_under_another_key c h =
    let key : 0 ≡ 1 = ap (λ (s : Sealed). get_or s.key 0 0) (only_asked h.place h.sealed h.is_there) ∙ ap (λ l. get_or l 0 0) h.key_is in
    omega (arith, key)

-- the byte 20 of the Ask's datagram in a boot
byte_20 : (boot : ℕ) → get_or (named_datagram all_names boot sealed_ask) 20 0 ≡ 0xaa
unfolding datagram_bytes
byte_20 boot = refl

pub returns-clause-offered_with_another_byte : goal.returns-clause-offered_with_another_byte
returns-clause-offered_with_another_byte c h =
    let byte : 0 ≡ 0xaa = ap (λ l. get_or l 20 0) h.bytes_are ∙ ap (λ (s : Sealed). get_or (named_datagram all_names h.boot s) 20 0) (sym (only_asked h.place h.sealed h.is_there)) ∙ byte_20 h.boot in
    omega (arith, byte)

pub returns-clause-read : goal.returns-clause-read
returns-clause-read c = reads_ask

handed_none : handed_bytes node_2 1 [] ≡ []
unfolding named_of numbered_of tag_of datagram_bytes datagram_at head_at old.datagram_bytes sha256_steps.first_words sha256_steps.schedule sha256_steps.rounds sha256_steps.compress sha256_steps.hash_after sha256_steps.digest_bytes sha256_steps.sha256
handed_none = refl

pub returns-clause-read_nothing : goal.returns-clause-read_nothing
returns-clause-read_nothing c = record {
  translator = node_2;
  is_of = record { key = refl; names_are = refl; me = refl };
  bytes = [];
  reads = sym (ap (envelope_at bare) handed_none ∙ no_bytes);
  unforged = λ envelope is vote. absurd (none-some envelope is);
}

pub returns-clause-forged : goal.returns-clause-forged
returns-clause-forged c h = never _ _ _ (h.unforged (ask_of 1) refl tt)

small_sized : IsSized all_names (three_of 3 [])
small_sized = record { are_names = are_names; tokens = refl; nodes = omega arith; old = λ i sealed at. absurd (none-some sealed at) }

pub returns-clause-forged_token : goal.returns-clause-forged_token
returns-clause-forged_token c h =
    let was : WasOffered asked (record { key = zeros; envelope = ask_of 1 }) = read_known all_names (three_of 3 []) small_sized 2 terms_2 terms_2_are asked knows_asked 1 (ask_of 0) h tt in
    let token : 2 ≡ 1 = ap (λ (s : Sealed). token_of s.envelope.message) (only_asked was.place (record { key = zeros; envelope = ask_of 1 }) was.is_there) in
    omega (arith, token)

-- a Grant under canonical tokens isn't the Ask
pub returns-clause-forged_grant : goal.returns-clause-forged_grant
returns-clause-forged_grant c h =
    let was : WasOffered asked (record { key = zeros; envelope = grant_of 2 }) = read_known all_names (three_of 3 []) small_sized 2 terms_2 terms_2_are asked knows_asked 1 (grant_of 1) h tt in
    not_asked (only_asked was.place (record { key = zeros; envelope = grant_of 2 }) was.is_there)
  where
    is_ask : Message → ℕ
    is_ask (Ask proposal token span) = 1
    is_ask message = 0

    not_asked : sealed_ask ≡ record { key = zeros; envelope = grant_of 2 } → ⊥
    not_asked e = let same : 1 ≡ 0 = ap (λ (s : Sealed). is_ask s.envelope.message) e in omega (arith, same)

pub returns-clause-forged_denial : goal.returns-clause-forged_denial
returns-clause-forged_denial c h = never _ _ _ (h.unforged (denial_of 1) refl tt)

floor_spelled : IsSpelled (floor_of 2)
floor_spelled = (
  record { from_first = omega arith; from_last = omega arith; to_first = omega arith; to_last = omega arith; apart = not_two; token_below = omega arith },
  omega arith,
)

is_node_2 : IsTranslatorOf all_names 2 terms_2 node_2
is_node_2 = record { key = refl; names_are = refl; me = refl }

can_floor : IsReadable all_names terms_2 2 sealed_floor
can_floor = record { are_names = are_names; seats = refl; key = refl; token = omega arith; spelled = floor_spelled; boot_below = omega arith }

reads_floor : envelope_at bare (handed_bytes node_2 1 (named_datagram all_names 2 sealed_floor)) ≡ Some (floor_of 1)
reads_floor =
    ap (envelope_at bare) (handed_is all_names 2 terms_2 node_2 2 1 sealed_floor is_node_2 can_floor)
    ∙ reads_own (floor_of 1) (spelled_with 1 2 0 1 (floor_of 2).message (omega arith) floor_spelled)

pub returns-clause-free_floor : goal.returns-clause-free_floor
returns-clause-free_floor c = record {
  translator = node_2;
  is_of = is_node_2;
  bytes = named_datagram all_names 2 sealed_floor;
  reads = sym reads_floor;
  unforged = λ envelope is vote. absurd (subst (λ (l : Envelope). IsOfVote l.message) (sym (same_Some (floor_of 1) envelope is)) vote);
}

pub returns-clause-tells_a_vote : goal.returns-clause-tells_a_vote
returns-clause-tells_a_vote c = record { translator = node_2; is_of = is_node_2; envelope = ask_of 1; reads = sym reads_asked; vote = tt }

-- the heads of the Ask and of the floor are read
head_is : {bytes : List ℕ} {one : Head × List ℕ} (from to : ℕ) → datagram_at zeros bytes ≡ Some one → (h : IsVoteFor zeros from to bytes) → one ≡ h.read
head_is {bytes} {one} from to is h = same_Some one h.read (sym is ∙ h.reads)

reads_head : datagram_at zeros named_ask ≡ Some (head_of 2 sealed_ask.envelope, name_at all_names 2 ++ packed_of sealed_ask.envelope.message)
reads_head = ap (datagram_at zeros) asked_bytes ∙ reads_named all_names 2 sealed_ask are_names (omega arith) (ask_spelled 2) (omega arith)

pub returns-clause-vote : goal.returns-clause-vote
returns-clause-vote c = record { read = _; reads = reads_head; from_is = refl; to_is = refl; kind = tt }

pub returns-clause-vote_from_another : goal.returns-clause-vote_from_another
returns-clause-vote_from_another c h =
    let from : 1 ≡ 3 = ap (λ (r : Head × List ℕ). r.0.from) (head_is 3 2 reads_head h) ∙ h.from_is in
    omega (arith, from)

pub returns-clause-vote_for_another : goal.returns-clause-vote_for_another
returns-clause-vote_for_another c h =
    let to : 2 ≡ 3 = ap (λ (r : Head × List ℕ). r.0.to) (head_is 1 3 reads_head h) ∙ h.to_is in
    omega (arith, to)

no_floor : IsVoteFor zeros 1 2 (named_datagram all_names 2 sealed_floor) → ⊥
no_floor h =
    let reads = reads_named all_names 2 sealed_floor are_names (omega arith) floor_spelled (omega arith) in
    subst (λ (r : Head × List ℕ). IsKindOfVote r.0.kind) (sym (head_is 1 2 reads h)) h.kind

pub returns-clause-floor_is_no_vote : goal.returns-clause-floor_is_no_vote
returns-clause-floor_is_no_vote c h = no_floor h

pub returns-clause-tells_a_floor : goal.returns-clause-tells_a_floor
returns-clause-tells_a_floor c h = no_floor (is_vote all_names 2 1 terms_2 (named_datagram all_names 2 sealed_floor) h)

can_ask : IsReadable all_names terms_2 2 sealed_ask
can_ask = record { are_names = are_names; seats = refl; key = refl; token = omega arith; spelled = ask_spelled 2; boot_below = omega arith }

pub returns-clause-tells_from_another : goal.returns-clause-tells_from_another
returns-clause-tells_from_another c h =
    none-some h.envelope (sym no_bytes ∙ sym (ap (envelope_at bare) (handed_is all_names 2 terms_2 h.translator 2 3 sealed_ask h.is_of can_ask)) ∙ h.reads)

pub returns-clause-forged_to_a_process : goal.returns-clause-forged_to_a_process
returns-clause-forged_to_a_process c h = never _ _ _ (h.unforged (ask_of 1) refl tt)
