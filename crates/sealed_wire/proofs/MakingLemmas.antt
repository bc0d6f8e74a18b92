-- What is read under a key is what a holder of the key made.
use Rattle.std.proofs.Common.{◌≡◌, ℕ, ◌≤◌, List, ◌++◌, length, take, drop, Option, Some, refl, sym, ap, subst, ◌∙◌, arith, length-append}
use Rattle.std.proofs.Math.Seq.{drop-append_seam, take-append_seam}
use Rattle.sealed_wire.specs.Body.{body_bytes, head_within, kind_byte, kind_of, text_of}
use Rattle.sealed_wire.specs.Bytes.{AreBytes, byte_at}
use Rattle.sealed_wire.specs.Making.{AreMakings, IsAnswerTo, IsApart, IsMade, IsMaking, IsUnforged, Making, bound_len, making_tag, tagged_text, text_len}
use Rattle.sealed_wire.specs.Report.{report_at}
use Rattle.sealed_wire.specs.Sealed.{IsTagged, body_of, sealed_at}
use Rattle.sealed_wire.specs.declared.head.Head.{Head}
use Rattle.sealed_wire.specs.declared.head.Kind.{Kind}
use Rattle.sealed_wire.specs.declared.head.Kind.TheVariants.{Line, Answer, Request, Report}
use Rattle.sealed_wire.proofs.BodyLemmas.{AreBytes-take, kind_again, within_again, within_more, within_spelled, within_takes}
use Rattle.sealed_wire.proofs.ReportLemmas.{report_takes}
use Rattle.sealed_wire.proofs.TagLemmas.{length-tag_of, takes}

abbrev present : {A : Type 0} → A → Option A
present x = Some x

some_is : {A : Type 0} (x y : A) → present x ≡ present y → x ≡ y
some_is x y e = cc

-- two lists with backs of one length
pub fronts : (xs ys a b : List ℕ) → length a ≡ length b → xs ++ a ≡ ys ++ b → xs ≡ ys
fronts xs ys a b len e =
    let n : length xs ≡ length ys = omega (arith, ap length e, length-append xs a, length-append ys b, len) in
    sym (take-append_seam xs a) ∙ ap (λ (l : List ℕ). take (length xs) l) e ∙ ap (λ (k : ℕ). take k (ys ++ b)) n ∙ take-append_seam ys b

pub backs : (xs ys a b : List ℕ) → length a ≡ length b → xs ++ a ≡ ys ++ b → a ≡ b
backs xs ys a b len e =
    let n : length xs ≡ length ys = omega (arith, ap length e, length-append xs a, length-append ys b, len) in
    sym (drop-append_seam xs a) ∙ ap (λ (l : List ℕ). drop (length xs) l) e ∙ ap (λ (k : ℕ). drop k (ys ++ b)) n ∙ drop-append_seam ys b

-- a body determines its kind, with any bytes after it
same_kind : (one other : Head) (text words back rest : List ℕ) → body_bytes one text ++ back ≡ body_bytes other words ++ rest → one.kind ≡ other.kind
same_kind one other text words back rest e =
    let at : kind_byte one.kind ≡ kind_byte other.kind = ap (λ (l : List ℕ). byte_at l 3) e in
    some_is one.kind other.kind (sym (kind_again one.kind) ∙ ap kind_of at ∙ kind_again other.kind)

-- a body says its text
same_text : (one other : Head) (text words : List ℕ) → body_bytes one text ≡ body_bytes other words → text ≡ words
same_text one other text words e = ap text_of e

-- a making is what its parts are
making_is : (making : Making) (bound text : List ℕ) (head : Head) → making.bound ≡ bound → making.head ≡ head → making.text ≡ text
    → making ≡ record { bound = bound; head = head; text = text }
making_is making bound text head b h t = rw (sym b, sym h, sym t) refl

-- no text of a kind is longer than a report's
text_short : (kind : Kind) → text_len kind ≤ 1024
text_short Line = omega arith
text_short Answer = omega arith
text_short Request = omega arith
text_short Report = omega arith

-- the body of a making has its head
making_head : (making : Making) → IsMaking making → head_within 1039 (body_bytes making.head making.text) ≡ Some making.head
making_head making m = within_again 1039 making.head making.text m.head_in_range (omega (arith, m.text_fits, text_short making.head.kind))

-- makings of one tagged text are one
pub same_making : (making other : Making) → IsMaking making → IsMaking other → tagged_text making ≡ tagged_text other → making ≡ other
same_making making other m o e =
    let kind = same_kind making.head other.head making.text other.text making.bound other.bound e in
    let len : length making.bound ≡ length other.bound = m.bound_fits ∙ ap bound_len kind ∙ sym o.bound_fits in
    let body = fronts (body_bytes making.head making.text) (body_bytes other.head other.text) making.bound other.bound len e in
    let back = backs (body_bytes making.head making.text) (body_bytes other.head other.text) making.bound other.bound len e in
    let head : making.head ≡ other.head = some_is making.head other.head
    (sym (making_head making m) ∙ ap (head_within 1039) body ∙ making_head other o) in
    making_is making other.bound other.text other.head back head (same_text making.head other.head making.text other.text body)

-- what is read was made so
pub read_is_made : (key bytes bound text : List ℕ) (head : Head) (made : List Making) → AreBytes bytes → length bound ≡ bound_len head.kind
    → ((making : Making) → IsMade made making → IsMaking making) → IsUnforged key made bound bytes
    → IsTagged key bound bytes → head_within 1039 (body_of bytes) ≡ Some head → text_of (body_of bytes) ≡ text → IsMade made (record { bound = bound; head = head; text = text })
read_is_made key bytes bound text head made fits len formed unforged tagged head_is text_is =
    let w = unforged tagged in
    let m = formed w.making w.is_made in
    let body : body_of bytes ≡ body_bytes head text =
    within_spelled 1039 (body_of bytes) head (AreBytes-take _ bytes fits) (within_takes 1039 (body_of bytes) head head_is) ∙ ap (body_bytes head) text_is in
    let e : tagged_text w.making ≡ body_bytes head text ++ bound = w.text_is ∙ ap (λ (b : List ℕ). b ++ bound) body in
    let kind : w.making.head.kind ≡ head.kind = same_kind w.making.head head w.making.text text w.making.bound bound e in
    let same_len : length w.making.bound ≡ length bound = m.bound_fits ∙ ap bound_len kind ∙ sym len in
    let front = fronts (body_bytes w.making.head w.making.text) (body_bytes head text) w.making.bound bound same_len e in
    let back = backs (body_bytes w.making.head w.making.text) (body_bytes head text) w.making.bound bound same_len e in
    let same_head : w.making.head ≡ head = some_is w.making.head head
    (sym (making_head w.making m) ∙ ap (head_within 1039) (front ∙ sym body) ∙ head_is) in
    subst (IsMade made) (making_is w.making bound text head back same_head (same_text w.making.head head w.making.text text front)) w.is_made

pub made_law : (key bytes bound text : List ℕ) (head : Head) (made : List Making) → AreBytes bytes → AreMakings key made → length bound ≡ bound_len head.kind
    → IsUnforged key made bound bytes → sealed_at key bound bytes ≡ Some (head, text) → IsMade made (record { bound = bound; head = head; text = text })
made_law key bytes bound text head made fits makings len unforged read =
    let o = takes key bound bytes head text read in
    read_is_made key bytes bound text head made fits len makings.formed unforged o.tagged (within_more (body_of bytes) head o.head_is) o.text_is

-- what is read with the tag of a making is for exactly the making
for_making : (key bytes text : List ℕ) (head : Head) (made : List Making) (asked : Making) → AreMakings key made → IsMade made asked
    → IsMade made (record { bound = making_tag key asked; head = head; text = text }) → IsAnswerTo key made asked head text
for_making key bytes text head made asked makings mine is_made = record {
  is_made = is_made;
  only = λ other there same. same_making other asked (makings.formed other there) (makings.formed asked mine) (makings.apart other asked there mine same);
}

pub answer_law : (key bytes answer : List ℕ) (head : Head) (made : List Making) (line : Making) → AreBytes bytes → AreMakings key made → IsMade made line
    → IsUnforged key made (making_tag key line) bytes → sealed_at key (making_tag key line) bytes ≡ Some (head, answer) → head.kind ≡ Answer
    → IsAnswerTo key made line head answer
answer_law key bytes answer head made line fits makings mine unforged read is =
    for_making key bytes answer head made line makings mine
    (made_law key bytes (making_tag key line) answer head made fits makings (length-tag_of key (tagged_text line) ∙ sym (ap bound_len is)) unforged read)

pub report_law : (key bytes text : List ℕ) (head : Head) (made : List Making) (request : Making) → AreBytes bytes → AreMakings key made → IsMade made request
    → IsUnforged key made (making_tag key request) bytes → report_at key (making_tag key request) bytes ≡ Some (head, text) → IsAnswerTo key made request head text
report_law key bytes text head made request fits makings mine unforged read =
    let o = report_takes key (making_tag key request) bytes head text read in
    for_making key bytes text head made request makings mine
    (read_is_made key bytes (making_tag key request) text head made fits (length-tag_of key (tagged_text request) ∙ sym (ap bound_len o.of_kind)) makings.formed unforged
    o.tagged o.head_is o.text_is)

-- a report is read with one tag alone
pub one_tag_law : (key bytes tag other : List ℕ) (read again : Head × List ℕ) → report_at key tag bytes ≡ Some read → report_at key other bytes ≡ Some again
    → IsApart key (body_of bytes ++ tag) (body_of bytes ++ other) → tag ≡ other
one_tag_law key bytes tag other read again r a apart =
    let one = report_takes key tag bytes read.0 read.1 r in
    let two = report_takes key other bytes again.0 again.1 a in
    let same : body_of bytes ++ tag ≡ body_of bytes ++ other = apart (sym one.tagged ∙ two.tagged) in
    sym (drop-append_seam (body_of bytes) tag) ∙ ap (drop (length (body_of bytes))) same ∙ drop-append_seam (body_of bytes) other
