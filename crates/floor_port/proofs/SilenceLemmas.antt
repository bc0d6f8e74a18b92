-- A member whose floor fell is silent from then on.
use Rattle.std.proofs.Common.{◌≡◌, ℕ, Bool, true, false, cond, List, [], ◌∷◌, length, drop, Option, Some, None, refl, sym, ap, ◌∙◌, true≢false, inl, inr}
use Rattle.std.specs.Prelude.{◌⊎◌, slice_index_or, slice_set}
use Rattle.datagram_port.specs.Port.{PortEvent, Received, Quiet, Faulted, Offered}
use Rattle.datagram_port.specs.declared.port.Sender.{Sender}
use Rattle.datagram_port.specs.declared.port.Sender.TheVariants.{Client, Peer}
use Rattle.named_port.specs.Runs.{boot_of}
use Rattle.named_wire.specs.declared.head.Head.{Head}
use Rattle.floor_port.specs.Claims.{ClaimsRecord, claims_after, falls, first_fall, is_fallen, is_older, kept_after, with_fallen}
use Rattle.floor_port.specs.Pace.{after_heard}
use Rattle.floor_port.specs.Packer.{PackerRecord, StartRecord, after_datagram, after_event, after_held, bytes_of, bytes_or, fall_by, first_bytes, floor_head, handed_in, hearing, member_bytes, new_packer, sent_by, told_by, with_boot, with_claims, with_others}
use Rattle.floor_port.specs.Promises.{Among}
use Rattle.floor_port.specs.Rows.{after_news, news}
use Rattle.floor_port.specs.Runs.{Call, Came, Left, Offer, after, after_calls, handed, handed_events}
use Rattle.floor_port.specs.declared.floor.NamedFloor.{NamedFloor}
use Rattle.floor_port.proofs.ClaimLemmas.{at_set}
use Rattle.floor_port.proofs.HandLemmas.{floors_claims, sent_parts}

-- ---- one datagram of a fallen member

no_bytes : (p : PackerRecord) (member : ℕ) (bytes : List ℕ) → is_fallen p.claims member ≡ true → member_bytes p member bytes ≡ []
no_bytes p member bytes is = ap (λ (b : Bool). bytes_or (cond b (Some []) (bytes_of p (told_by p member bytes) (fall_by p member (told_by p member bytes)))) bytes) is

pub silent_bytes : (p : PackerRecord) (member : ℕ) (bytes : List ℕ) → is_fallen p.claims member ≡ true → handed_in p (Received (Peer member) bytes) ≡ Received (Peer member) []
silent_bytes p member bytes is = ap (λ (b : List ℕ). Received (Peer member) b) (no_bytes (hearing p member bytes) member bytes is)

pub silent_same : (p : PackerRecord) (member : ℕ) (bytes : List ℕ) → is_fallen p.claims member ≡ true → after_event p (Received (Peer member) bytes) ≡ p
silent_same p member bytes is =
    let heard = hearing p member bytes in
    let told = told_by heard member bytes in
    ap (λ (b : Bool). cond b heard (after_held (with_claims heard member told) member told (fall_by heard member told))) is
    ∙ ap (λ (b : Bool). record p { heard = cond b p.heard (with_boot p.heard member (boot_of (sent_by p member bytes))) }) is

-- ---- a fallen member stays fallen

stays_set : (fallen : List Bool) (member : ℕ) (fall : Option NamedFloor) (m : ℕ) → slice_index_or fallen m false ≡ true → slice_index_or (with_fallen fallen member fall) m false ≡ true
stays_set fallen member None m is = is
stays_set fallen member (Some floor) m is = elim (at_set fallen member m true false) [
  | inl same ↦ same ∙ is
  | inr hit ↦ hit.1
]

abbrev taken : ClaimsRecord → List (List ℕ) → ℕ → ℕ → List NamedFloor → ClaimsRecord
taken claims names member boot floors = record {
  boots = slice_set claims.boots member boot;
  fallen = with_fallen claims.fallen member (first_fall names member boot claims.kept floors);
  kept = kept_after names member boot claims.kept floors;
}

stays_claims : (claims : ClaimsRecord) (names : List (List ℕ)) (member boot : ℕ) (floors : List NamedFloor) (m : ℕ) → is_fallen claims m ≡ true → is_fallen (claims_after claims names member boot floors) m ≡ true
stays_claims claims names member boot floors m is = go (is_older claims member boot)
  where
    go : (older : Bool) → is_fallen (cond older claims (taken claims names member boot floors)) m ≡ true
    go true = is
    go false = stays_set claims.fallen member (first_fall names member boot claims.kept floors) m is

-- if nobody falls, nobody is fallen who wasn't
same_claims : (claims : ClaimsRecord) (names : List (List ℕ)) (member boot : ℕ) (floors : List NamedFloor) (m : ℕ) → falls claims names member boot floors ≡ None
    → is_fallen (claims_after claims names member boot floors) m ≡ true → is_fallen claims m ≡ true
same_claims claims names member boot floors m none is = go (is_older claims member boot) none is
  where
    go : (older : Bool) → cond older None (first_fall names member boot claims.kept floors) ≡ None → is_fallen (cond older claims (taken claims names member boot floors)) m ≡ true → is_fallen claims m ≡ true
    go true none_is now = now
    go false none_is now = sym (ap (λ (fall : Option NamedFloor). slice_index_or (with_fallen claims.fallen member fall) m false) none_is) ∙ now

with_claims_stays : (p : PackerRecord) (member : ℕ) (told : Option (Head × List NamedFloor)) (m : ℕ) → is_fallen p.claims m ≡ true → is_fallen (with_claims p member told).claims m ≡ true
with_claims_stays p member None m is = is
with_claims_stays p member (Some told) m is = stays_claims p.claims p.rows.names member told.0.boot told.1 m is

stays_datagram : (p : PackerRecord) (member : ℕ) (told : Option (Head × List NamedFloor)) (m : ℕ) → is_fallen p.claims m ≡ true → is_fallen (after_datagram p member told).claims m ≡ true
stays_datagram p member told m is = go (is_fallen p.claims member)
  where
    go : (fallen : Bool) → is_fallen (cond fallen p (after_held (with_claims p member told) member told (fall_by p member told))).claims m ≡ true
    go true = is
    go false = ap (λ (c : ClaimsRecord). is_fallen c m) (floors_claims (with_claims p member told) member told (fall_by p member told)) ∙ with_claims_stays p member told m is

stays_one : (p : PackerRecord) (call : Call) (m : ℕ) → is_fallen p.claims m ≡ true → is_fallen (after p call).claims m ≡ true
stays_one p (Came (Received (Peer member) bytes)) m is = let heard = hearing p member bytes in stays_datagram heard member (told_by heard member bytes) m is
stays_one p (Came (Received (Client number) bytes)) m is = is
stays_one p (Came Quiet) m is = is
stays_one p (Came Faulted) m is = is
stays_one p (Came (Offered to bytes)) m is = is
stays_one p Left m is = is
stays_one p (Offer (Peer member) bytes) m is = is
stays_one p (Offer (Client number) bytes) m is = is

pub stays_fallen : (p : PackerRecord) (calls : List Call) (m : ℕ) → is_fallen p.claims m ≡ true → is_fallen (after_calls p calls).claims m ≡ true
stays_fallen p [] m is = is
stays_fallen p (call ∷ calls) m is = stays_fallen (after p call) calls m (stays_one p call m is)

-- ---- no floor of a fallen member is left

abbrev HasNoneOf : PackerRecord → ℕ → Type 0
HasNoneOf p m = (p.pending.floors ≡ []) ⊎ (p.pending.head.from ≡ m → ⊥)

abbrev IsSilent : PackerRecord → Type 0
IsSilent p = (m : ℕ) → is_fallen p.claims m ≡ true → HasNoneOf p m

others_silent : (p : PackerRecord) (head : Head) (floors : List NamedFloor) (m : ℕ) → HasNoneOf p m → (head.from ≡ m → ⊥) → HasNoneOf (with_others p head floors) m
others_silent p head [] m old new = old
others_silent p head (floor ∷ floors) m old new = inr new

silent_told : (p : PackerRecord) (member : ℕ) (bytes : List ℕ) (told : Option (Head × List NamedFloor)) (fall : Option NamedFloor) → told_by p member bytes ≡ told → fall_by p member told ≡ fall → is_fallen p.claims member ≡ false
    → IsSilent p → (m : ℕ) → is_fallen (with_claims p member told).claims m ≡ true → HasNoneOf (after_held (with_claims p member told) member told fall) m
silent_told p member bytes told (Some floor) e falls not_yet silent m is = inl refl
silent_told p member bytes None None e falls not_yet silent m is = silent m is
silent_told p member bytes (Some told) None e none not_yet silent m is =
    let before : is_fallen p.claims m ≡ true = same_claims p.claims p.rows.names member told.0.boot told.1 m none is in
    let from : told.0.from ≡ member = (sent_parts p.key p.heard member p.me bytes told e).from_is in
    others_silent (record p {
      claims = claims_after p.claims p.rows.names member told.0.boot told.1;
      pace = after_heard p.pace member (length p.rows.told);
      rows = after_news p.rows told.1;
    }) (floor_head told.0) (news p.rows.names p.rows.known told.1) m (silent m before)
    (λ same. true≢false (sym before ∙ ap (is_fallen p.claims) (sym same ∙ from) ∙ not_yet))

silent_datagram : (p : PackerRecord) (member : ℕ) (bytes : List ℕ) → IsSilent p → IsSilent (after_datagram p member (told_by p member bytes))
silent_datagram p member bytes silent = go (is_fallen p.claims member) refl
  where
    told : Option (Head × List NamedFloor)
    told = told_by p member bytes

    go : (fallen : Bool) → is_fallen p.claims member ≡ fallen → IsSilent (cond fallen p (after_held (with_claims p member told) member told (fall_by p member told)))
    go true is = silent
    go false is = λ m now. silent_told p member bytes told (fall_by p member told) refl refl is silent m
        (sym (ap (λ (c : ClaimsRecord). is_fallen c m) (floors_claims (with_claims p member told) member told (fall_by p member told))) ∙ now)

silent_one : (p : PackerRecord) (call : Call) → IsSilent p → IsSilent (after p call)
silent_one p (Came (Received (Peer member) bytes)) silent = silent_datagram (hearing p member bytes) member bytes silent
silent_one p (Came (Received (Client number) bytes)) silent = silent
silent_one p (Came Quiet) silent = silent
silent_one p (Came Faulted) silent = silent
silent_one p (Came (Offered to bytes)) silent = silent
silent_one p Left silent = λ m is. elim (silent m is) [
  | inl none ↦ inl (ap (drop 1) none)
  | inr other ↦ inr other
]
silent_one p (Offer (Peer member) bytes) silent = silent
silent_one p (Offer (Client number) bytes) silent = silent

silent_after : (p : PackerRecord) (calls : List Call) → IsSilent p → IsSilent (after_calls p calls)
silent_after p [] silent = silent
silent_after p (call ∷ calls) silent = silent_after (after p call) calls (silent_one p call silent)

-- ---- what is handed in of it

abbrev sender_of : PortEvent → Sender
sender_of (Received sender bytes) = sender
sender_of Quiet = Client 0
sender_of Faulted = Client 0
sender_of (Offered to bytes) = Client 0

abbrev bytes_in : PortEvent → List ℕ
bytes_in (Received sender bytes) = bytes
bytes_in Quiet = []
bytes_in Faulted = []
bytes_in (Offered to bytes) = []

abbrev peer_or : Sender → ℕ → ℕ
peer_or (Peer member) other = member
peer_or (Client number) other = other

-- a datagram of no member
no_peer : (number m : ℕ) → Client number ≡ Peer m → ⊥
no_peer number m e = absurd cc

same_member : (one two : ℕ) → Peer one ≡ Peer two → one ≡ two
same_member one two e = ap (λ (s : Sender). peer_or s 0) e

silent_event : (p : PackerRecord) (call : Call) (m : ℕ) (bytes : List ℕ) → is_fallen p.claims m ≡ true → IsSilent p → handed p call ≡ Received (Peer m) bytes → bytes ≡ []
silent_event p (Came (Received (Peer member) came)) m bytes is silent e =
    let same : member ≡ m = same_member member m (ap sender_of e) in
    sym (ap bytes_in e) ∙ no_bytes (hearing p member came) member came (ap (is_fallen p.claims) same ∙ is)
silent_event p (Came (Received (Client number) came)) m bytes is silent e = absurd (no_peer number m (ap sender_of e))
silent_event p (Came Quiet) m bytes is silent e = absurd (no_peer 0 m (ap sender_of e))
silent_event p (Came Faulted) m bytes is silent e = absurd (no_peer 0 m (ap sender_of e))
silent_event p (Came (Offered to came)) m bytes is silent e = absurd (no_peer 0 m (ap sender_of e))
silent_event p Left m bytes is silent e = elim (silent m is) [
  | inl none ↦ sym (ap bytes_in e) ∙ ap (first_bytes p.key p.pending.head) none
  | inr other ↦ absurd (other (same_member p.pending.head.from m (ap sender_of e)))
]
silent_event p (Offer to offered) m bytes is silent e = absurd (no_peer 0 m (ap sender_of e))

silent_events : (p : PackerRecord) (calls : List Call) (m : ℕ) (bytes : List ℕ) → is_fallen p.claims m ≡ true → IsSilent p → Among (handed_events p calls) (Received (Peer m) bytes) → bytes ≡ []
silent_events p [] m bytes is silent h = absurd h
silent_events p (call ∷ calls) m bytes is silent (inl e) = silent_event p call m bytes is silent e
silent_events p (call ∷ calls) m bytes is silent (inr later) = silent_events (after p call) calls m bytes (stays_one p call m is) (silent_one p call silent) later

pub silent_law : (key : List ℕ) (names : List (List ℕ)) (me boot members : ℕ) (begun : StartRecord) (before calls : List Call) (m : ℕ) (bytes : List ℕ)
    → is_fallen (after_calls (new_packer key names me boot members begun) before).claims m ≡ true
    → Among (handed_events (after_calls (new_packer key names me boot members begun) before) calls) (Received (Peer m) bytes) → bytes ≡ []
silent_law key names me boot members begun before calls m bytes is h =
    let start = new_packer key names me boot members begun in
    silent_events (after_calls start before) calls m bytes is (silent_after start before (λ one now. inl refl)) h
