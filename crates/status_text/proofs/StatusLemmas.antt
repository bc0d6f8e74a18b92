-- The texts of a STATUS report are lines.
use Rattle.std.proofs.Common.{◌≡◌, ℕ, ◌+◌, ◌^◌, ◌<◌, ◌≤◌, true, false, List, [], ◌∷◌, ◌++◌, length, map, refl, arith, length-append}
use Rattle.std.specs.Prelude.{All, codes, not}
use Rattle.std.specs.Char.{is_ascii_hexdigit}
use Rattle.std.specs.Fmt.{decimal}
use Rattle.std.specs.List.{list_all}
use Rattle.std.proofs.lemmas.Bool.{and_parts, not-true}
use Rattle.std.proofs.lemmas.Fmt.{length-decimal-le}
use Rattle.std.proofs.lemmas.List.{length-map}
use Rattle.std.proofs.lemmas.List.Elements.{All-append, All-cons, All-map, All-nil, All-weaker}
use Rattle.sealed_port.specs.declared.cause.Cause.{Cause}
use Rattle.sealed_port.specs.declared.cause.Cause.TheVariants.{Form, Tag, Early, Late, Again, Limited}
use Rattle.operator_text.specs.Page.{AreLines, IsLine}
use Rattle.status_text.specs.StatusLine.{IsPrint, IsSeen, IsStatusLine, bucket_words, cause_words, digits_line, line_text, number_line, quantity_word, refusal_words, seen_text}
use Rattle.gatekeeping.specs.declared.commits.Bucket.{Bucket}
use Rattle.gatekeeping.specs.declared.commits.Bucket.TheVariants as Buckets
use Rattle.status_text.specs.declared.status_line.Quantity.{Quantity}
use Rattle.status_text.specs.declared.status_line.Quantity.TheVariants as Quantities
use Rattle.status_text.specs.declared.status_line.Refusal.{Refusal}
use Rattle.status_text.specs.declared.status_line.Refusal.TheVariants as Refusals
use Rattle.gatekeeping.specs.declared.others.Seen.{Seen}
use Rattle.gatekeeping.specs.declared.others.Seen.TheVariants.{Heard, Silent, Differs}
use Rattle.status_text.specs.declared.status_line.StatusLine.{StatusLine}
use Rattle.status_text.specs.declared.status_line.StatusLine.TheVariants.{Node, Version, Fingerprint, Book, Rows, Number, Refused, Commits, Unopened, Member}
use Rattle.operator_text.proofs.ReadingLemmas.{HasNoLf, is_lf, no_lf_in_digits}

-- ---- parts of a line

-- a part without LF, of at most some bytes
record IsPart (most : ℕ) (text : List ℕ) : Type 0 where
  plain : HasNoLf text
  short : length text ≤ most

plain_from : (text : List ℕ) → list_all (λ b. not (is_lf b)) text ≡ true → HasNoLf text
plain_from [] e = All-nil (λ b. is_lf b ≡ false)
plain_from (b ∷ text) e =
    let parts = and_parts (not (is_lf b)) (list_all (λ b. not (is_lf b)) text) e in
    All-cons (λ b. is_lf b ≡ false) b text (not-true (is_lf b) parts.0) (plain_from text parts.1)

word : (text : List ℕ) → list_all (λ b. not (is_lf b)) text ≡ true → length text ≤ 20 → IsPart 20 text
word text e le = record { plain = plain_from text e; short = le }

digits_part : (n : ℕ) → n < 2 ^ 64 → IsPart 20 (decimal n)
digits_part n fits = record { plain = no_lf_in_digits n fits; short = length-decimal-le 20 n (omega arith) (omega arith) fits }

both : (a b : ℕ) (x y : List ℕ) → IsPart a x → IsPart b y → IsPart (a + b) (x ++ y)
both a b x y h k = record {
  plain = All-append (λ b. is_lf b ≡ false) x y h.plain k.plain;
  short = omega (arith, h.short, k.short, length-append x y);
}

line_from : (most : ℕ) (text : List ℕ) → IsPart most text → most ≤ 500 → IsLine (text ++ 10 ∷ [])
line_from most text h le = record { text = text; is = refl; has_one_lf = h.plain; most = omega (arith, h.short, length-append text (10 ∷ [])) }

no_lf_hex : (b : ℕ) → is_ascii_hexdigit b ≡ true → is_lf b ≡ false
no_lf_hex b h = grind arith

hex_plain : (text : List ℕ) → list_all is_ascii_hexdigit text ≡ true → HasNoLf text
hex_plain [] e = All-nil (λ b. is_lf b ≡ false)
hex_plain (b ∷ text) e =
    let parts = and_parts (is_ascii_hexdigit b) (list_all is_ascii_hexdigit text) e in
    All-cons (λ b. is_lf b ≡ false) b text (no_lf_hex b parts.0) (hex_plain text parts.1)

-- ---- the words

quantity_part : (quantity : Quantity) → IsPart 20 (quantity_word quantity)
quantity_part Quantities.Boot = word (codes "boot") refl (omega arith)
quantity_part Quantities.Clock = word (codes "clock") refl (omega arith)
quantity_part Quantities.Started = word (codes "started") refl (omega arith)
quantity_part Quantities.Tokens = word (codes "tokens") refl (omega arith)
quantity_part Quantities.Pending = word (codes "pending") refl (omega arith)
quantity_part Quantities.Closed = word (codes "closed") refl (omega arith)
quantity_part Quantities.Received = word (codes "received") refl (omega arith)
quantity_part Quantities.Replied = word (codes "replied") refl (omega arith)
quantity_part Quantities.Accepted = word (codes "accepted") refl (omega arith)
quantity_part Quantities.Ticks = word (codes "ticks") refl (omega arith)
quantity_part Quantities.LargestBatch = word (codes "largest-batch") refl (omega arith)
quantity_part Quantities.Commits = word (codes "commits") refl (omega arith)

refusal_part : (refusal : Refusal) → IsPart 20 (refusal_words refusal)
refusal_part Refusals.BadLine = word (codes "refused BADLINE") refl (omega arith)
refusal_part Refusals.Clock = word (codes "refused CLOCK") refl (omega arith)
refusal_part Refusals.Busy = word (codes "refused BUSY") refl (omega arith)
refusal_part Refusals.Unknown = word (codes "refused UNKNOWN") refl (omega arith)
refusal_part Refusals.Throttled = word (codes "refused THROTTLED") refl (omega arith)
refusal_part Refusals.Password = word (codes "refused PASSWORD") refl (omega arith)
refusal_part Refusals.Exhausted = word (codes "refused EXHAUSTED") refl (omega arith)
refusal_part Refusals.Invalid = word (codes "refused INVALID") refl (omega arith)
refusal_part Refusals.Spent = word (codes "refused SPENT") refl (omega arith)
refusal_part Refusals.Timeout = word (codes "refused TIMEOUT") refl (omega arith)

bucket_part : (bucket : Bucket) → IsPart 20 (bucket_words bucket)
bucket_part Buckets.One = word (codes "commit-millis 1") refl (omega arith)
bucket_part Buckets.Two = word (codes "commit-millis 2") refl (omega arith)
bucket_part Buckets.Five = word (codes "commit-millis 5") refl (omega arith)
bucket_part Buckets.Ten = word (codes "commit-millis 10") refl (omega arith)
bucket_part Buckets.Twenty = word (codes "commit-millis 20") refl (omega arith)
bucket_part Buckets.Fifty = word (codes "commit-millis 50") refl (omega arith)
bucket_part Buckets.Hundred = word (codes "commit-millis 100") refl (omega arith)
bucket_part Buckets.More = word (codes "commit-millis more") refl (omega arith)

cause_part : (cause : Cause) → IsPart 20 (cause_words cause)
cause_part Form = word (codes "unopened form") refl (omega arith)
cause_part Tag = word (codes "unopened tag") refl (omega arith)
cause_part Early = word (codes "unopened early") refl (omega arith)
cause_part Late = word (codes "unopened late") refl (omega arith)
cause_part Again = word (codes "unopened again") refl (omega arith)
cause_part Limited = word (codes "unopened limited") refl (omega arith)

space : IsPart 20 (codes " ")
space = word (codes " ") refl (omega arith)

-- ---- lines

numbered : (words : List ℕ) (number : ℕ) → IsPart 20 words → number < 2 ^ 64 → IsLine (number_line words number)
numbered words number is fits =
    line_from 60 (words ++ codes " " ++ decimal number)
    (both 40 20 (words ++ codes " ") (decimal number) (both 20 20 words (codes " ") is space) (digits_part number fits)) (omega arith)

printed : (words digits : List ℕ) → IsPart 20 words → IsPrint digits → IsLine (digits_line words digits)
printed words digits is print =
    line_from 60 (words ++ codes " " ++ digits)
    (both 40 20 (words ++ codes " ") digits (both 20 20 words (codes " ") is space) (record { plain = hex_plain digits print.1; short = omega (arith, print.0) })) (omega arith)

seen_part : (seen : Seen) → IsSeen seen → IsPart 40 (seen_text seen)
seen_part (Heard seconds) fits = both 20 20 (codes " heard ") (decimal seconds) (word (codes " heard ") refl (omega arith)) (digits_part seconds fits)
seen_part Silent is = both 20 20 (codes " silent") [] (word (codes " silent") refl (omega arith)) (word [] refl (omega arith))
seen_part Differs is = both 20 20 (codes " differs") [] (word (codes " differs") refl (omega arith)) (word [] refl (omega arith))

-- a number of another one
of_line : (words : List ℕ) (number whole : ℕ) → IsPart 20 words → number < 2 ^ 64 → whole < 2 ^ 64
    → IsLine (words ++ decimal number ++ codes " of " ++ decimal whole ++ codes "\n")
of_line words number whole is low fits =
    line_from 80 (words ++ decimal number ++ codes " of " ++ decimal whole)
    (both 60 20 (words ++ decimal number ++ codes " of ") (decimal whole)
    (both 40 20 (words ++ decimal number) (codes " of ") (both 20 20 words (decimal number) is (digits_part number low))
    (word (codes " of ") refl (omega arith))) (digits_part whole fits)) (omega arith)

pub is_line : (line : StatusLine) → IsStatusLine line → IsLine (line_text line)
is_line (Node node members) is = of_line (codes "node ") node members (word (codes "node ") refl (omega arith)) is.0 is.1
is_line (Version major minor patch) is =
    let dot = word (codes ".") refl (omega arith) in
    line_from 120 (codes "version " ++ decimal major ++ codes "." ++ decimal minor ++ codes "." ++ decimal patch)
    (both 100 20 (codes "version " ++ decimal major ++ codes "." ++ decimal minor ++ codes ".") (decimal patch)
    (both 80 20 (codes "version " ++ decimal major ++ codes "." ++ decimal minor) (codes ".")
    (both 60 20 (codes "version " ++ decimal major ++ codes ".") (decimal minor)
    (both 40 20 (codes "version " ++ decimal major) (codes ".")
    (both 20 20 (codes "version ") (decimal major) (word (codes "version ") refl (omega arith)) (digits_part major is.0)) dot)
    (digits_part minor is.1)) dot) (digits_part patch is.2)) (omega arith)
is_line (Fingerprint digits) is = printed (codes "fingerprint") digits (word (codes "fingerprint") refl (omega arith)) is
is_line (Book digits) is = printed (codes "book") digits (word (codes "book") refl (omega arith)) is
is_line (Rows rows limit) is = of_line (codes "rows ") rows limit (word (codes "rows ") refl (omega arith)) is.0 is.1
is_line (Number quantity number) is = numbered (quantity_word quantity) number (quantity_part quantity) is
is_line (Refused refusal number) is = numbered (refusal_words refusal) number (refusal_part refusal) is
is_line (Commits bucket number) is = numbered (bucket_words bucket) number (bucket_part bucket) is
is_line (Unopened cause number) is = numbered (cause_words cause) number (cause_part cause) is
is_line (Member number seen) is =
    line_from 80 (codes "member " ++ decimal number ++ seen_text seen)
    (both 40 40 (codes "member " ++ decimal number) (seen_text seen)
    (both 20 20 (codes "member ") (decimal number) (word (codes "member ") refl (omega arith)) (digits_part number is.0)) (seen_part seen is.1)) (omega arith)

pub are_lines : (lines : List StatusLine) → All IsStatusLine lines → length lines < 2 ^ 32 → AreLines (map line_text lines)
are_lines lines each few = record {
  each = All-map IsLine line_text lines (All-weaker IsStatusLine (λ line. IsLine (line_text line)) is_line lines each);
  most = omega (arith, length-map lines line_text);
}
