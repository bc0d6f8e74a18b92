-- What a port hands in over its calls.
use Rattle.std.proofs.Common.{◌≡◌, ℕ, ◌≤◌, Bool, true, false, cond, leb, List, [], ◌∷◌, ◌++◌, length, drop, Option, Some, None, refl, sym, ap, subst, ◌∙◌, arith, inl, inr}
use Rattle.std.proofs.lemmas.Bool.{and_parts, leb-true}
use Rattle.std.specs.Prelude.{◌⊎◌, unwrap_or}
use Rattle.datagram_port.specs.Port.{PortEvent, Received, Quiet, Faulted, Offered}
use Rattle.datagram_port.specs.declared.port.Sender.{Sender}
use Rattle.datagram_port.specs.declared.port.Sender.TheVariants.{Client, Peer}
use Rattle.bundle_port.specs.Bundle.{parts_at}
use Rattle.bundle_port.specs.Bundler.{BundlerRecord, LeftRecord, after_datagram, after_flush, after_offer, first_or_itself, first_part, handed_in, is_member, lanes_after, new_bundler}
use Rattle.bundle_port.specs.Promises.{Among, Came, HandsIn, IsPartHanded}
use Rattle.bundle_port.specs.Runs.{Call, Flush, Left, Offer, Polls, Waits, after, handed, handed_events, may_call, may_make}
use Rattle.bundle_port.proofs.WaitingLemmas.{have_parts}

-- ---- parts of a bundle

-- the parts of a bundle are at least one
pub have_one : (bytes : List ℕ) (parts : List (List ℕ)) → parts_at bytes ≡ Some parts → 1 ≤ length parts
have_one bytes parts e =
    leb-true 1 (length parts) (sym (ap (λ (o : Option (List (List ℕ))). leb 1 (length (unwrap_or o (bytes ∷ [])))) e) ∙ have_parts bytes)

pub among_first : (parts : List (List ℕ)) → 1 ≤ length parts → Among parts (first_part parts)
among_first [] h = absurd (omega arith)
among_first (part ∷ parts) h = inl refl

pub among_rest : (parts : List (List ℕ)) (part : List ℕ) → Among (drop 1 parts) part → Among parts part
among_rest [] part h = absurd h
among_rest (first ∷ parts) part h = inr h

-- an element of two lists is in one of them
pub among_either : {A : Type 0} (first second : List A) (one : A) → Among (first ++ second) one → Among first one ⊎ Among second one
among_either [] second one h = inr h
among_either (x ∷ first) second one (inl is) = inl (inl is)
among_either (x ∷ first) second one (inr h) = go (among_either first second one h)
  where
    go : Among first one ⊎ Among second one → Among (x ∷ first) one ⊎ Among second one
    go (inl a) = inl (inr a)
    go (inr a) = inr a

-- ---- parts that are left

-- each part that is left is one of a bundle that came from the member
abbrev pub AreLeft : List Call → LeftRecord → Type 0
AreLeft all left = (part : List ℕ) → Among left.parts part → IsPartHanded all (Received (Peer left.from) part)

part_handed : (all : List Call) (member : ℕ) (bundle : List ℕ) (parts : List (List ℕ)) → Came all (Received (Peer member) bundle) → parts_at bundle ≡ Some parts
    → (part : List ℕ) → Among parts part → IsPartHanded all (Received (Peer member) part)
part_handed all member bundle parts came e part h =
    record { member = member; bundle = bundle; parts = parts; part = part; came = came; parts_are = e; is_among = h; event_is = refl }

-- ---- one call

hands_datagram : (all : List Call) (member : ℕ) (bytes : List ℕ) (o : Option (List (List ℕ))) → parts_at bytes ≡ o → Came all (Received (Peer member) bytes)
    → HandsIn all (Received (Peer member) (first_or_itself o bytes))
hands_datagram all member bytes None e came = inl came
hands_datagram all member bytes (Some parts) e came =
    inr (inr (part_handed all member bytes parts came e (first_part parts) (among_first parts (have_one bytes parts e))))

hands_event : (all : List Call) (event : PortEvent) → Came all event → HandsIn all (handed_in event)
hands_event all (Received (Peer member) bytes) came = hands_datagram all member bytes (parts_at bytes) refl came
hands_event all (Received (Client number) bytes) came = inl came
hands_event all Quiet came = inl came
hands_event all Faulted came = inl came
hands_event all (Offered to bytes) came = inl came

-- what holds of an event holds of the only one of a list
only : (all : List Call) (one event : PortEvent) → HandsIn all one → Among (one ∷ []) event → HandsIn all event
only all one event hands (inl is) = subst (HandsIn all) is hands
only all one event hands (inr none) = absurd none

hands_one : (b : BundlerRecord) (all : List Call) (call : Call) → may_call b call ≡ true → Among all call → AreLeft all b.left
    → (event : PortEvent) → Among (handed b call) event → HandsIn all event
hands_one b all (Waits came) may made left event h = only all (handed_in came) event (hands_event all came (inl made)) h
hands_one b all (Polls came) may made left event h = only all (handed_in came) event (hands_event all came (inr made)) h
hands_one b all Left may made left event h =
    only all (Received (Peer b.left.from) (first_part b.left.parts)) event
    (inr (inr (left (first_part b.left.parts) (among_first b.left.parts (leb-true 1 (length b.left.parts) may))))) h
hands_one b all (Offer to bytes) may made left event h =
    only all (Offered to bytes) event (inr (inl (record { to = to; bytes = bytes; event_is = refl; is_offered = made }))) h
hands_one b all Flush may made left event h = absurd h

-- ---- what is left after one call

left_datagram : (b : BundlerRecord) (all : List Call) (member : ℕ) (bytes : List ℕ) (o : Option (List (List ℕ))) → parts_at bytes ≡ o → Came all (Received (Peer member) bytes)
    → AreLeft all b.left → AreLeft all (after_datagram b member o).left
left_datagram b all member bytes None e came left = left
left_datagram b all member bytes (Some parts) e came left = λ part h. part_handed all member bytes parts came e part (among_rest parts part h)

left_polls : (b : BundlerRecord) (all : List Call) (event : PortEvent) → Came all event → AreLeft all b.left → AreLeft all (after b (Polls event)).left
left_polls b all (Received (Peer member) bytes) came left = left_datagram b all member bytes (parts_at bytes) refl came left
left_polls b all (Received (Client number) bytes) came left = left
left_polls b all Quiet came left = left
left_polls b all Faulted came left = left
left_polls b all (Offered to bytes) came left = left

-- an offer of the node leaves what is left
pub left_offer : (b : BundlerRecord) (to : Sender) (bytes : List ℕ) → (after_offer b to bytes).left ≡ b.left
left_offer b (Peer member) bytes = go (is_member member)
  where
    go : (is : Bool) → (cond is (record b { lanes = lanes_after b.lanes member bytes }) b).left ≡ b.left
    go true = refl
    go false = refl
left_offer b (Client number) bytes = refl

left_one : (b : BundlerRecord) (all : List Call) (call : Call) → Among all call → AreLeft all b.left → AreLeft all (after b call).left
left_one b all (Waits event) made left = left_polls (after_flush b) all event (inl made) left
left_one b all (Polls event) made left = left_polls b all event (inr made) left
left_one b all Left made left = λ part h. left part (among_rest b.left.parts part h)
left_one b all (Offer to bytes) made left = subst (AreLeft all) (sym (left_offer b to bytes)) left
left_one b all Flush made left = left

-- ---- all calls

hands_over : (b : BundlerRecord) (all calls : List Call) → ((call : Call) → Among calls call → Among all call) → may_make b calls ≡ true → AreLeft all b.left
    → (event : PortEvent) → Among (handed_events b calls) event → HandsIn all event
hands_over b all [] made may left event h = absurd h
hands_over b all (call ∷ calls) made may left event h =
    let both = and_parts (may_call b call) (may_make (after b call) calls) may in
    let here = made call (inl refl) in
    go (among_either (handed b call) (handed_events (after b call) calls) event h) (hands_one b all call both.0 here left event)
    (hands_over (after b call) all calls (λ one a. made one (inr a)) both.1 (left_one b all call here left) event)
  where
    go : Among (handed b call) event ⊎ Among (handed_events (after b call) calls) event → (Among (handed b call) event → HandsIn all event)
        → (Among (handed_events (after b call) calls) event → HandsIn all event) → HandsIn all event
    go (inl a) now later = now a
    go (inr a) now later = later a

pub hands_law : (calls : List Call) (event : PortEvent) → may_make new_bundler calls ≡ true → Among (handed_events new_bundler calls) event → HandsIn calls event
hands_law calls event may h = hands_over new_bundler calls calls (λ call a. a) may (λ part a. absurd a) event h
