-- The datagrams of the worked login are read, and its members are three.
use Rattle.std.proofs.Common.{◌≡◌, ℕ, zero, suc, true, leb, List, Some, refl, sym, ap, ◌∙◌, subst, arith}
use Rattle.std.specs.Option.{option_map}
use Rattle.std.proofs.lemmas.Bool.{and_parts, false≢true, leb-true}
use Rattle.std.proofs.lemmas.Option.{same_Some}
use Rattle.floor_store.specs.Records.{span_of}
use Rattle.vote_core.specs.Schedule.{Envelope, is_member}
use Rattle.vote_core.specs.declared.message.Message.{Message}
use Rattle.vote_core.specs.declared.message.Message.TheVariants.{Ask, Grant}
use Rattle.vote_wire.specs.Body.{HasSpelling}
use Rattle.vote_wire.specs.Datagram.{datagram_bytes}
use Rattle.vote_wire.specs.Key.{bare}
use Rattle.vote_wire.proofs.TagLemmas.{again_law}
use Rattle.oath_node.specs.Hosted.{envelope_at}
use Rattle.vote_core.proofs.Basics.{Each, each_get}
use Rattle.book_law.specs.Examples.{proposal_of_boot}
use Rattle.book_law.specs.Lives.{Sealed, Terms, named_envelope}
use Rattle.order_law.specs.Interleavings.{HearsSaid, Said, ToClientSaid, ToMemberSaid, WasSaid}
use Rattle.order_law.specs.Examples.{ask_to, floor_told, grant_of, other_grant}

pub reads : (envelope : Envelope) → HasSpelling envelope.sender envelope.receiver envelope.message → envelope_at bare (datagram_bytes bare envelope.sender envelope.receiver envelope.message) ≡ Some envelope
reads envelope spelling =
    ap (option_map (λ (read : ℕ × ℕ × Message). let e : Envelope = record { sender = read.0; receiver = read.1; message = read.2 } in e)) (again_law bare envelope.sender envelope.receiver envelope.message spelling)

not_two : ◌≡◌ {A = ℕ} 1 2 → ⊥
not_two e = omega (arith, e)

pub ask_spelled : HasSpelling 1 2 (Ask (proposal_of_boot 1 1) 1 (span_of 0 0))
ask_spelled = (
  record { from_first = omega arith; from_last = omega arith; to_first = omega arith; to_last = omega arith; apart = not_two; token_below = omega arith },
  record {
    in_range = record { first = omega arith; last = omega arith; boot = omega arith; seq = omega arith };
    of_node = refl;
    lo_below = omega arith;
    hi_below = omega arith;
    spanned = record { ordered = omega arith; short = omega arith };
  },
)

pub grant_spelled : HasSpelling 2 1 (Grant (proposal_of_boot 1 1) 0 (span_of 0 0))
grant_spelled = (
  record { from_first = omega arith; from_last = omega arith; to_first = omega arith; to_last = omega arith; apart = λ e. not_two (sym e); token_below = omega arith },
  record {
    in_range = record { first = omega arith; last = omega arith; boot = omega arith; seq = omega arith };
    of_node = refl;
    lo_below = omega arith;
    hi_below = omega arith;
    spanned = record { ordered = omega arith; short = omega arith };
  },
)

spelled_7 : HasSpelling 2 1 (Grant (proposal_of_boot 1 1) 7 (span_of 0 0))
spelled_7 = (
  record { from_first = omega arith; from_last = omega arith; to_first = omega arith; to_last = omega arith; apart = λ e. not_two (sym e); token_below = omega arith },
  record {
    in_range = record { first = omega arith; last = omega arith; boot = omega arith; seq = omega arith };
    of_node = refl;
    lo_below = omega arith;
    hi_below = omega arith;
    spanned = record { ordered = omega arith; short = omega arith };
  },
)

pub reads_grant_of_7 : envelope_at bare (datagram_bytes bare 2 1 (grant_of 7).message) ≡ Some (grant_of 7)
reads_grant_of_7 = reads (grant_of 7) spelled_7

floor_spelled : HasSpelling 2 1 floor_told.message
floor_spelled = (
  record { from_first = omega arith; from_last = omega arith; to_first = omega arith; to_last = omega arith; apart = λ e. not_two (sym e); token_below = omega arith },
  omega arith,
)

pub reads_floor : envelope_at bare (datagram_bytes bare 2 1 floor_told.message) ≡ Some floor_told
reads_floor = reads floor_told floor_spelled

pub reads_ask : envelope_at bare (datagram_bytes bare 1 2 (ask_to 2 1).message) ≡ Some (ask_to 2 1)
reads_ask = reads (ask_to 2 1) ask_spelled

pub reads_grant : envelope_at bare (datagram_bytes bare 2 1 (grant_of 0).message) ≡ Some (grant_of 0)
reads_grant = reads (grant_of 0) grant_spelled

other_spelled : HasSpelling 1 2 other_grant.message
other_spelled = (
  record { from_first = omega arith; from_last = omega arith; to_first = omega arith; to_last = omega arith; apart = not_two; token_below = omega arith },
  record {
    in_range = record { first = omega arith; last = omega arith; boot = omega arith; seq = omega arith };
    of_node = refl;
    lo_below = omega arith;
    hi_below = omega arith;
    spanned = record { ordered = omega arith; short = omega arith };
  },
)

pub reads_other : envelope_at bare (datagram_bytes bare 1 2 other_grant.message) ≡ Some other_grant
reads_other = reads other_grant other_spelled

-- three members
pub each_member : (P : ℕ → Type 0) → P 1 → P 2 → P 3 → (node : ℕ) → is_member 3 node ≡ true → P node
each_member P one two three zero member = absurd (false≢true member)
each_member P one two three (suc zero) member = one
each_member P one two three (suc (suc zero)) member = two
each_member P one two three (suc (suc (suc zero))) member = three
each_member P one two three (suc (suc (suc (suc node)))) member =
    let low = leb-true (suc (suc (suc (suc node)))) 3 (and_parts (leb 1 (suc (suc (suc (suc node))))) (leb (suc (suc (suc (suc node)))) 3) member).1 in
    absurd (omega (arith, low))

-- one member
pub only_member : (P : ℕ → Type 0) → P 1 → (node : ℕ) → is_member 1 node ≡ true → P node
only_member P one zero member = absurd (false≢true member)
only_member P one (suc zero) member = one
only_member P one (suc (suc node)) member =
    let low = leb-true (suc (suc node)) 1 (and_parts (leb 1 (suc (suc node))) (leb (suc (suc node)) 1) member).1 in
    absurd (omega (arith, low))

-- bytes that are read as an envelope that was said
pub heard_once : (terms : Terms) (port : List ℕ) (said : List Said) (from : ℕ) (bytes : List ℕ) (one : Envelope) → envelope_at port bytes ≡ Some one
    → WasSaid said (record { key = terms.key; envelope = named_envelope terms.seats one }) → HearsSaid terms port said from bytes
heard_once terms port said from bytes one is was =
    λ envelope read own vote low. subst (λ (x : Envelope). WasSaid said (record { key = terms.key; envelope = named_envelope terms.seats x })) (same_Some one envelope (sym is ∙ read)) was

-- nobody sent something
abbrev sender_of : Said → ℕ
sender_of (ToMemberSaid sealed) = sealed.envelope.sender
sender_of (ToClientSaid node client bytes) = 0

pub nobody_said : (said : List Said) (sealed : Sealed) → Each (λ (x : Said). sender_of x ≡ sealed.envelope.sender → ⊥) said → WasSaid said sealed → ⊥
nobody_said said sealed none was =
    each_get (λ (x : Said). sender_of x ≡ sealed.envelope.sender → ⊥) said was.place (ToMemberSaid sealed) none was.is_there refl
