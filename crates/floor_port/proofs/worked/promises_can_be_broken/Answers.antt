use Rattle.std.proofs.Common.{◌≡◌, ℕ, [], ◌∷◌, ◌++◌, List, length, Option, None, refl, inl, inr, true≢false, sym, ap, arith, ◌∙◌, subst}
use Rattle.std.specs.Prelude.{◌⊎◌, Some, slice_index}
use Rattle.hmac_core.specs.Unfolded.sha256_steps
use Rattle.datagram_port.specs.Port.{PortEvent, Received}
use Rattle.datagram_port.specs.declared.port.Sender.{Sender}
use Rattle.datagram_port.specs.declared.port.Sender.TheVariants.{Client, Peer}
use Rattle.named_wire.specs.Bytes.{byte_at}
use Rattle.named_wire.specs.Datagram.{datagram_at, datagram_bytes}
use Rattle.named_wire.specs.Head.{head_at}
use Rattle.named_wire.specs.declared.head.Head.{Head}
use Rattle.named_wire.specs.declared.head.Kind.TheVariants.{Floor, Floors}
use Rattle.vote_wire.specs.Examples.{eight_bytes}
use Rattle.vote_wire.specs.Key.{tag_of}
use Rattle.floor_port.specs.Examples.{body_of_two, deny_of_9, equal_floor, floor_of, from_1, head_with, lower_floor, name_with, one_floor, two_floors, zeros}
use Rattle.floor_port.specs.Floors.{floor_bytes, told_in}
use Rattle.floor_port.specs.Promises.{Among, IsTold, WentBack}
use Rattle.floor_port.specs.Runs.{Call, Came}
use Rattle.floor_port.specs.declared.floor.NamedFloor.{NamedFloor}
use Rattle.floor_port.proofs.HandLemmas.{none_known}
use Rattle.floor_port.proofs.worked.promises_can_be_broken.Goals as goal

pub returns-clause-told : goal.returns-clause-told
unfolding tag_of datagram_bytes datagram_at head_at sha256_steps.first_words sha256_steps.schedule sha256_steps.rounds sha256_steps.compress sha256_steps.hash_after sha256_steps.digest_bytes sha256_steps.sha256
returns-clause-told c =
    inr (inr (inl (record {
      head = head_with Floor;
      floor = floor_of 0xaa 6;
      is_told = record {
        datagram = two_floors;
        came = inl refl;
        sent = head_with Floors;
        body = body_of_two;
        reads = refl;
        to_is = refl;
        head_is = refl;
        floors = floor_of 0xaa 6 ∷ floor_of 0xcc 9 ∷ [];
        tells = refl;
        floor_is = inl refl;
      };
      event_is = refl;
    })))

-- the bytes of a datagram that came
abbrev bytes_in : Call → List ℕ
bytes_in (Came (Received sender bytes)) = bytes
bytes_in other = []

same_bytes : (sender : Sender) (bytes : List ℕ) → Among (Came (from_1 deny_of_9) ∷ []) (Came (Received sender bytes)) → deny_of_9 ≡ bytes
same_bytes sender bytes (inl is) = ap bytes_in is
same_bytes sender bytes (inr none) = absurd none

-- the bytes of an event
abbrev event_bytes : PortEvent → List ℕ
event_bytes (Received sender bytes) = bytes
event_bytes other = []

abbrev read_in : List ℕ → Option (Head × List ℕ)
read_in bytes = datagram_at zeros bytes

-- its tag is wrong
unread : read_in deny_of_9 ≡ None
unfolding tag_of datagram_bytes datagram_at head_at sha256_steps.first_words sha256_steps.schedule sha256_steps.rounds sha256_steps.compress sha256_steps.hash_after sha256_steps.digest_bytes sha256_steps.sha256
unread = refl

some_none : (read : Head × List ℕ) → Some read ≡ None → ⊥
some_none read e = absurd cc

untold : (head : Head) (floor : NamedFloor) → IsTold zeros 2 (Came (from_1 deny_of_9) ∷ []) head floor → ⊥
untold head floor t = some_none (t.sent, t.body) (sym t.reads ∙ ap read_in (sym (same_bytes _ t.datagram t.came)) ∙ unread)

pub returns-clause-not_told : goal.returns-clause-not_told
returns-clause-not_told c = λ h. elim h [
  | inl came ↦
      let e : 3 ≡ 4 = ap (λ (bytes : List ℕ). byte_at bytes 3) (same_bytes _ one_floor came) in absurd (omega (arith, e))
  | inr others ↦ elim others [
    | inl own ↦ let e = own.event_is in absurd cc
    | inr told ↦ elim told [
      | inl floor ↦ untold floor.head floor.floor floor.is_told
      | inr silent ↦ elim silent.went_back [
        | inl known ↦ absurd (true≢false (sym known ∙ none_known silent.member))
        | inr back ↦ untold back.1.later _ back.1.told_later
      ]
    ]
  ]
]

-- ---- a member that went back

-- the head of the lower floor, of the later boot
abbrev later : Head
later = record (head_with Floor) { boot = 5 }

abbrev both : List Call
both = Came (from_1 one_floor) ∷ Came (from_1 lower_floor) ∷ []

told_greater : IsTold zeros 2 both (head_with Floor) (floor_of 0xaa 6)
unfolding tag_of datagram_bytes datagram_at head_at sha256_steps.first_words sha256_steps.schedule sha256_steps.rounds sha256_steps.compress sha256_steps.hash_after sha256_steps.digest_bytes sha256_steps.sha256
told_greater = record {
  datagram = one_floor;
  came = inl refl;
  sent = head_with Floor;
  body = name_with 0xaa ++ eight_bytes 6;
  reads = refl;
  to_is = refl;
  head_is = refl;
  floors = floor_of 0xaa 6 ∷ [];
  tells = refl;
  floor_is = inl refl;
}

told_lower : IsTold zeros 2 both later (floor_of 0xaa 5)
unfolding tag_of datagram_bytes datagram_at head_at sha256_steps.first_words sha256_steps.schedule sha256_steps.rounds sha256_steps.compress sha256_steps.hash_after sha256_steps.digest_bytes sha256_steps.sha256
told_lower = record {
  datagram = lower_floor;
  came = inr (inl refl);
  sent = later;
  body = name_with 0xaa ++ eight_bytes 5;
  reads = refl;
  to_is = refl;
  head_is = refl;
  floors = floor_of 0xaa 5 ∷ [];
  tells = refl;
  floor_is = inl refl;
}

went_back : WentBack zeros 2 both 1 (name_with 0xaa)
went_back = record {
  earlier = head_with Floor;
  later = later;
  greater = 6;
  lower = 5;
  told_earlier = told_greater;
  told_later = told_lower;
  from_earlier = refl;
  from_later = refl;
  is_later = omega arith;
  is_lower = omega arith;
}

pub returns-clause-silenced : goal.returns-clause-silenced
returns-clause-silenced c =
    inr (inr (inr (record { member = 1; datagram = one_floor; came = inl refl; went_back = inr (name_with 0xaa, went_back); event_is = refl })))

pub returns-clause-known : goal.returns-clause-known
returns-clause-known c = inr (inr (inr (record { member = 1; datagram = one_floor; came = inl refl; went_back = inl refl; event_is = refl })))

pub returns-clause-went_back : goal.returns-clause-went_back
returns-clause-went_back c = went_back

-- the bytes of the one datagram that came
one_came : (sender : Sender) (bytes : List ℕ) → Among (Came (from_1 one_floor) ∷ []) (Came (Received sender bytes)) → one_floor ≡ bytes
one_came sender bytes (inl is) = ap bytes_in is
one_came sender bytes (inr none) = absurd none

-- it is of boot 4
read_one : read_in one_floor ≡ Some (head_with Floor, name_with 0xaa ++ eight_bytes 6)
unfolding tag_of datagram_bytes datagram_at head_at sha256_steps.first_words sha256_steps.schedule sha256_steps.rounds sha256_steps.compress sha256_steps.hash_after sha256_steps.digest_bytes sha256_steps.sha256
read_one = refl

same_read : (one two : Head × List ℕ) → Some one ≡ Some two → one ≡ two
same_read one two e = cc

boot_4 : (head : Head) (floor : NamedFloor) → IsTold zeros 2 (Came (from_1 one_floor) ∷ []) head floor → head.boot ≡ 4
boot_4 head floor t =
    let read : (t.sent, t.body) ≡ (head_with Floor, name_with 0xaa ++ eight_bytes 6) =
    same_read (t.sent, t.body) (head_with Floor, name_with 0xaa ++ eight_bytes 6) (sym t.reads ∙ ap read_in (sym (one_came _ t.datagram t.came)) ∙ read_one) in
    ap (λ (h : Head). h.boot) t.head_is ∙ ap (λ (r : Head × List ℕ). r.0.boot) read

-- the sender of a datagram that came
abbrev sender_in : Call → Sender
sender_in (Came (Received sender bytes)) = sender
sender_in other = Client 0

abbrev member_in : Sender → ℕ
member_in (Peer member) = member
member_in (Client number) = 0

-- what one of two datagrams of member 1 tells
record IsOneOf (one two : List ℕ) (from : ℕ) (datagram : List ℕ) : Type 0 where
  from_is : from ≡ 1
  datagram_is : (one ≡ datagram) ⊎ (two ≡ datagram)

one_of : (one two datagram : List ℕ) (from : ℕ) → Among (Came (from_1 one) ∷ Came (from_1 two) ∷ []) (Came (Received (Peer from) datagram)) → IsOneOf one two from datagram
one_of one two datagram from (inl is) = record { from_is = sym (ap (λ (c : Call). member_in (sender_in c)) is); datagram_is = inl (ap bytes_in is) }
one_of one two datagram from (inr (inl is)) = record { from_is = sym (ap (λ (c : Call). member_in (sender_in c)) is); datagram_is = inr (ap bytes_in is) }
one_of one two datagram from (inr (inr none)) = absurd none

-- a floor of the first token
abbrev body_with : ℕ → List ℕ
body_with next = name_with 0xaa ++ eight_bytes next

read_equal : read_in equal_floor ≡ Some (head_with Floor, body_with 5)
unfolding tag_of datagram_bytes datagram_at head_at sha256_steps.first_words sha256_steps.schedule sha256_steps.rounds sha256_steps.compress sha256_steps.hash_after sha256_steps.digest_bytes sha256_steps.sha256
read_equal = refl

read_lower : read_in lower_floor ≡ Some (later, body_with 5)
unfolding tag_of datagram_bytes datagram_at head_at sha256_steps.first_words sha256_steps.schedule sha256_steps.rounds sha256_steps.compress sha256_steps.hash_after sha256_steps.digest_bytes sha256_steps.sha256
read_lower = refl

some_floors : (xs ys : List NamedFloor) → Some xs ≡ Some ys → xs ≡ ys
some_floors xs ys e = cc

only_floor : (one floor : NamedFloor) → Among (one ∷ []) floor → one ≡ floor
only_floor one floor (inl is) = is
only_floor one floor (inr none) = absurd none

-- the floor of a datagram that tells one
told_one : (calls : List Call) (head : Head) (floor one : NamedFloor) (t : IsTold zeros 2 calls head floor) (bytes : List ℕ) (sent : Head) (body : List ℕ) → bytes ≡ t.datagram
    → read_in bytes ≡ Some (sent, body) → told_in sent.kind body ≡ Some (one ∷ []) → one ≡ floor
told_one calls head floor one t bytes sent body same read tells =
    let whole : (t.sent, t.body) ≡ (sent, body) = same_read (t.sent, t.body) (sent, body) (sym t.reads ∙ ap read_in (sym same) ∙ read) in
    let floors : t.floors ≡ one ∷ [] =
    some_floors t.floors (one ∷ []) (sym t.tells ∙ ap (λ (r : Head × List ℕ). told_in r.0.kind r.1) whole ∙ tells) in
    only_floor one floor (subst (λ (l : List NamedFloor). Among l floor) floors t.floor_is)

-- of two datagrams, whose floors are of the first token, and at most the given one
equal_told : (head : Head) (floor : NamedFloor) → IsTold zeros 2 (Came (from_1 equal_floor) ∷ Came (from_1 lower_floor) ∷ []) head floor → floor_of 0xaa 5 ≡ floor
equal_told head floor t = elim (one_of equal_floor lower_floor t.datagram head.from t.came).datagram_is [
  | inl is ↦ told_one _ head floor (floor_of 0xaa 5) t equal_floor (head_with Floor) (body_with 5) is read_equal refl
  | inr is ↦ told_one _ head floor (floor_of 0xaa 5) t lower_floor later (body_with 5) is read_lower refl
]

both_told : (head : Head) (floor : NamedFloor) → IsTold zeros 2 both head floor → floor.name ≡ name_with 0xaa
both_told head floor t = elim (one_of one_floor lower_floor t.datagram head.from t.came).datagram_is [
  | inl is ↦ sym (ap (λ (f : NamedFloor). f.name) (told_one _ head floor (floor_of 0xaa 6) t one_floor (head_with Floor) (body_with 6) is read_one refl))
  | inr is ↦ sym (ap (λ (f : NamedFloor). f.name) (told_one _ head floor (floor_of 0xaa 5) t lower_floor later (body_with 5) is read_lower refl))
]

pub returns-clause-equal_floors : goal.returns-clause-equal_floors
returns-clause-equal_floors c = λ back. (
    let one = ap (λ (f : NamedFloor). f.next) (equal_told back.earlier _ back.told_earlier) in
    let two = ap (λ (f : NamedFloor). f.next) (equal_told back.later _ back.told_later) in
    let less = back.is_lower in
    absurd (omega (arith, one, two, less)))

pub returns-clause-another_member : goal.returns-clause-another_member
returns-clause-another_member c = λ back. (
    let t = back.told_later in
    let one = (one_of one_floor lower_floor t.datagram back.later.from t.came).from_is in
    let three = back.from_later in
    absurd (omega (arith, one, three)))

pub returns-clause-another_token : goal.returns-clause-another_token
returns-clause-another_token c = λ back. (
    let e = ap (λ (name : List ℕ). slice_index name 0) (both_told back.later _ back.told_later) in
    absurd (omega (arith, e)))

-- no datagram is without bytes
some_bytes : (head : Head) (body : List ℕ) → [] ≡ datagram_bytes zeros head body → ⊥
unfolding datagram_bytes
some_bytes head body e = absurd cc

pub returns-clause-not_lower : goal.returns-clause-not_lower
returns-clause-not_lower c = λ h. elim h [
  | inl came ↦ let e = ap (λ (bytes : List ℕ). length bytes) (one_came _ [] came) in absurd (omega (arith, e))
  | inr others ↦ elim others [
    | inl own ↦ let e = own.event_is in absurd cc
    | inr told ↦ elim told [
      | inl floor ↦ some_bytes floor.head (floor_bytes floor.floor) (ap event_bytes floor.event_is)
      | inr silent ↦
          elim silent.went_back [
            | inl known ↦ absurd (true≢false (sym known ∙ none_known silent.member))
            | inr went ↦
                let back = went.1 in
                let one = boot_4 back.earlier _ back.told_earlier in
                let two = boot_4 back.later _ back.told_later in
                let less = back.is_later in
                absurd (omega (arith, one, two, less))
          ]
    ]
  ]
]

pub returns-clause-not_fresh : goal.returns-clause-not_fresh
returns-clause-not_fresh c = record { row = 2; name_is = refl; next_is = refl; is_other = refl }
