-- Which datagrams of members are heard.
use Rattle.std.proofs.Common.{◌≡◌, ℕ, ◌<◌, ◌≤◌, Bool, true, false, List, length, Some, None, refl, sym, ◌∙◌, arith}
use Rattle.std.specs.Prelude.{◌&&◌, ◌==◌, nat_le, nat_lt, not}
use Rattle.std.proofs.lemmas.Bool.{and_from, and_parts, eq-eqb, eqb-false, eqb-true, le-leb, leb-true, lt-ltb, ltb-true, ne_eqb, not-true, not_from_false}
use Rattle.otp_core.specs.Limits.{Limits}
use Rattle.token_file.specs.Credential.{Credential}
use Rattle.vote_core.specs.Calls.{FitsVoter}
use Rattle.vote_core.specs.NodeSet.{PlaceRecord}
use Rattle.vote_core.specs.Schedule.{Envelope}
use Rattle.vote_core.specs.declared.message.Message.{Message}
use Rattle.vote_core.specs.declared.message.Message.TheVariants.{Ask, Grant, Deny, Floor}
use Rattle.vote_wire.specs.Body.{HasSpelling}
use Rattle.vote_wire.specs.Datagram.{datagram_at}
use Rattle.oath_node.specs.Heard.{IsHeardAs}
use Rattle.oath_node.specs.Hosted.{envelope_at}
use Rattle.oath_node.specs.Machine.{Config, NodeState, is_heard, made_by_datagram, made_by_message, quiet_made, token_of}

abbrev pub config_of : List Credential → Limits → Config
config_of book limits = record { book = book; limits = limits }

abbrev pub envelope : ℕ → ℕ → Message → Envelope
envelope sender to m = record { sender = sender; receiver = to; message = m }

token_below : (place : PlaceRecord) (tokens from : ℕ) (m : Message) → FitsVoter place tokens from m → token_of m < tokens
token_below place tokens from (Ask p t span) h = h.0
token_below place tokens from (Grant p t span) h = h.0
token_below place tokens from (Deny p t next) h = h.0
token_below place tokens from (Floor t next) h = h

spelled_fits : (place : PlaceRecord) (tokens from sender to : ℕ) (m : Message) → HasSpelling sender to m → sender ≡ from → to ≡ place.me
    → token_of m < tokens → FitsVoter place tokens from m
spelled_fits place tokens from sender to (Ask p t span) h s r lt = (lt, h.1.spanned, h.1.of_node ∙ s)
spelled_fits place tokens from sender to (Grant p t span) h s r lt = (lt, h.1.spanned, h.1.of_node ∙ r)
spelled_fits place tokens from sender to (Deny p t next) h s r lt = (lt, h.1.of_node ∙ r)
spelled_fits place tokens from sender to (Floor t next) h s r lt = lt

-- the node hears a message that a caller may pass
pub heard : (book : List Credential) (limits : Limits) (place : PlaceRecord) (tokens from sender to : ℕ) (m : Message) → tokens ≡ length book
    → IsHeardAs place tokens from sender to m → is_heard (config_of book limits) place from (envelope sender to m) ≡ true
heard book limits place tokens from sender to m size h =
    let below = token_below place tokens from m h.fits in
    let other : sender ≡ place.me → ⊥ = λ e. h.other.other (sym h.is_sender ∙ e) in
    let first : 1 ≤ sender = omega (arith, h.is_sender, h.other.first) in
    let last : sender ≤ place.n = omega (arith, h.is_sender, h.other.last) in
    and_from _ _ (eq-eqb sender from h.is_sender) (and_from _ _ (eq-eqb to place.me h.is_receiver)
    (and_from _ _ (not_from_false (sender == place.me) (ne_eqb sender place.me other))
    (and_from _ _ (and_from _ _ (le-leb 1 sender first) (le-leb sender place.n last)) (lt-ltb (token_of m) (length book) (omega arith)))))

-- a caller may pass a message that the node hears
heard_back : (book : List Credential) (limits : Limits) (place : PlaceRecord) (tokens from sender to : ℕ) (m : Message) → tokens ≡ length book
    → HasSpelling sender to m → is_heard (config_of book limits) place from (envelope sender to m) ≡ true → IsHeardAs place tokens from sender to m
heard_back book limits place tokens from sender to m size spelled e =
    let a = and_parts (sender == from) ((to == place.me) && (not (sender == place.me) && ((nat_le 1 sender && nat_le sender place.n) && nat_lt (token_of m) (length book)))) e in
    let b = and_parts (to == place.me) (not (sender == place.me) && ((nat_le 1 sender && nat_le sender place.n) && nat_lt (token_of m) (length book))) a.1 in
    let c = and_parts (not (sender == place.me)) ((nat_le 1 sender && nat_le sender place.n) && nat_lt (token_of m) (length book)) b.1 in
    let d = and_parts (nat_le 1 sender && nat_le sender place.n) (nat_lt (token_of m) (length book)) c.1 in
    let f = and_parts (nat_le 1 sender) (nat_le sender place.n) d.0 in
    let s = eqb-true sender from a.0 in
    let r = eqb-true to place.me b.0 in
    let below : token_of m < tokens = omega (arith, ltb-true (token_of m) (length book) d.1) in
    let ne : from ≡ place.me → ⊥ = λ e. eqb-false sender place.me (not-true (sender == place.me) c.0) (s ∙ e) in
    record {
      is_sender = s;
      is_receiver = r;
      other = record { first = omega (arith, leb-true 1 sender f.0); last = omega (arith, leb-true sender place.n f.1); other = ne };
      fits = spelled_fits place tokens from sender to m spelled s r below;
    }

not_true_false : (b : Bool) → (b ≡ true → ⊥) → b ≡ false
not_true_false true h = absurd (h refl)
not_true_false false h = refl

pub unheard : (book : List Credential) (limits : Limits) (place : PlaceRecord) (tokens from sender to : ℕ) (m : Message) → tokens ≡ length book
    → HasSpelling sender to m → (IsHeardAs place tokens from sender to m → ⊥) → is_heard (config_of book limits) place from (envelope sender to m) ≡ false
unheard book limits place tokens from sender to m size spelled never =
    not_true_false _ (λ e. never (heard_back book limits place tokens from sender to m size spelled e))

pub datagram_unread : (key : List ℕ) (config : Config) (place : PlaceRecord) (from : ℕ) (bytes : List ℕ) (x : NodeState) → datagram_at key bytes ≡ None
    → made_by_datagram config place from (envelope_at key bytes) x ≡ quiet_made x
unfolding made_by_datagram
datagram_unread key config place from bytes x e = rw e refl

pub datagram_dropped : (key : List ℕ) (config : Config) (place : PlaceRecord) (from sender to : ℕ) (m : Message) (bytes : List ℕ) (x : NodeState)
    → datagram_at key bytes ≡ Some (sender, to, m) → is_heard config place from (envelope sender to m) ≡ false
    → made_by_datagram config place from (envelope_at key bytes) x ≡ quiet_made x
unfolding made_by_datagram
datagram_dropped key config place from sender to m bytes x e f = rw (e, f) refl

pub datagram_heard : (key : List ℕ) (config : Config) (place : PlaceRecord) (from sender to : ℕ) (m : Message) (bytes : List ℕ) (x : NodeState)
    → datagram_at key bytes ≡ Some (sender, to, m) → is_heard config place from (envelope sender to m) ≡ true
    → made_by_datagram config place from (envelope_at key bytes) x ≡ made_by_message place from m x
unfolding made_by_datagram
datagram_heard key config place from sender to m bytes x e t = rw (e, t) refl
