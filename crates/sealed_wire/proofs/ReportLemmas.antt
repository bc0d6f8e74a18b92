-- A report, its head and its tag.
use Rattle.std.proofs.Common.{◌≡◌, ℕ, ◌-◌, ◌≤◌, ◌<◌, Bool, true, false, cond, List, ◌++◌, length, Option, Some, None, refl, sym, ap, subst, ◌∙◌, arith, inl, inr}
use Rattle.std.specs.Prelude.{◌↔◌}
use Rattle.std.specs.Option.{option_map}
use Rattle.std.specs.Str.{bytes_eq}
use Rattle.std.proofs.lemmas.Bool.{cases_lt}
use Rattle.std.proofs.lemmas.List.{length-take, length-drop, take-append-drop}
use Rattle.std.proofs.lemmas.Slice.Eq.{bytes_eq-Decides}
use Rattle.sealed_wire.specs.Body.{IsHead, body_bytes, head_within, text_of}
use Rattle.sealed_wire.specs.Bytes.{AreBytes}
use Rattle.sealed_wire.specs.Key.{tag_of}
use Rattle.sealed_wire.specs.Report.{IsReportOf, is_report, of_report, report_at, report_head, report_head_at}
use Rattle.sealed_wire.specs.Sealed.{IsTagged, body_of, sealed_bytes, tag_at}
use Rattle.sealed_wire.specs.declared.head.Head.{Head}
use Rattle.sealed_wire.specs.declared.head.Kind.{Kind}
use Rattle.sealed_wire.specs.declared.head.Kind.TheVariants.{Line, Answer, Request, Report}
use Rattle.sealed_wire.proofs.BodyLemmas.{AreBytes-take, within_again, within_spelled, within_takes}
use Rattle.sealed_wire.proofs.TagLemmas.{body_of-tagged, length-tag_of, tag_at-tagged}

abbrev present : {A : Type 0} → A → Option A
present x = Some x

some_is : {A : Type 0} (x y : A) → present x ≡ present y → x ≡ y
some_is x y e = cc

-- ---- heads of reports

kind_is_report : (kind : Kind) → is_report kind ≡ true → kind ≡ Report
kind_is_report Report e = refl
kind_is_report Line e = absurd cc
kind_is_report Answer e = absurd cc
kind_is_report Request e = absurd cc

-- the head of a report is a head of its kind
of_report_is : (o : Option Head) (head : Head) → of_report o ≡ Some head → (o ≡ Some head) × (head.kind ≡ Report)
of_report_is None head e = absurd cc
of_report_is (Some one) head e = go (is_report one.kind) refl e
  where
    go : (b : Bool) → is_report one.kind ≡ b → cond b (Some one) None ≡ Some head → (present one ≡ Some head) × (head.kind ≡ Report)
    go true is found = (found, ap (λ (h : Head). h.kind) (sym (some_is one head found)) ∙ kind_is_report one.kind is)
    go false is found = absurd cc

-- ---- the reader

abbrev read : List ℕ → Option (Head × List ℕ)
read body = option_map (λ head. (head, text_of body)) (report_head_at body)

chosen : (test : Bool) (r : Option (Head × List ℕ)) (x : Head × List ℕ) → cond test r None ≡ Some x → (test ≡ true) × (r ≡ Some x)
chosen true r x e = (refl, e)
chosen false r x e = absurd cc

read_parts : (text : List ℕ) (r : Option Head) (x : Head × List ℕ) → option_map (λ head. (head, text)) r ≡ Some x → (r ≡ Some x.0) × (text ≡ x.1)
read_parts text (Some head) x e =
    let is : (head, text) ≡ x = some_is _ x e in
    (ap (λ (y : Head × List ℕ). present y.0) is, ap (λ (y : Head × List ℕ). y.1) is)
read_parts text None x e = absurd cc

-- a report that was read has a right tag, a head of its kind and this text
pub record Reported (key bound bytes : List ℕ) (head : Head) (text : List ℕ) : Type 0 where
  pub tagged : IsTagged key bound bytes
  pub head_is : head_within 1039 (body_of bytes) ≡ Some head
  pub of_kind : head.kind ≡ Report
  pub text_is : text_of (body_of bytes) ≡ text

pub report_takes : (key bound bytes : List ℕ) (head : Head) (text : List ℕ) → report_at key bound bytes ≡ Some (head, text) → Reported key bound bytes head text
unfolding report_at report_head_at
report_takes key bound bytes head text e =
    let a = chosen (bytes_eq (tag_at bytes) (tag_of key (body_of bytes ++ bound))) (read (body_of bytes)) (head, text) e in
    let b = read_parts (text_of (body_of bytes)) (report_head_at (body_of bytes)) (head, text) a.1 in
    let c = of_report_is (head_within 1039 (body_of bytes)) head b.0 in
    record {
      tagged = (bytes_eq-Decides (tag_at bytes) (tag_of key (body_of bytes ++ bound))).0 a.0;
      head_is = c.0;
      of_kind = c.1;
      text_is = b.1;
    }

-- a datagram with a right tag is read as its body
pub tagged_is_read : (key bound bytes : List ℕ) → IsTagged key bound bytes → report_at key bound bytes ≡ read (body_of bytes)
unfolding report_at
tagged_is_read key bound bytes tagged =
    rw ((bytes_eq-Decides (tag_at bytes) (tag_of key (body_of bytes ++ bound))).1 tagged) refl

-- a body without a report's head is not read
pub headless_is_none : (key bound bytes body : List ℕ) → IsTagged key bound bytes → body ≡ body_of bytes → report_head_at body ≡ None → report_at key bound bytes ≡ None
headless_is_none key bound bytes body tagged is none = tagged_is_read key bound bytes tagged ∙ ap read (sym is) ∙ rw none refl

-- a body with a report's head is read as the head and the text
pub read_of : (key bound bytes body : List ℕ) (head : Head) → IsTagged key bound bytes → body ≡ body_of bytes → report_head_at body ≡ Some head
    → report_at key bound bytes ≡ Some (head, text_of body)
read_of key bound bytes body head tagged is some = tagged_is_read key bound bytes tagged ∙ ap read (sym is) ∙ rw some refl

-- one with a wrong tag is not read
untagged_is_none : (key bound bytes : List ℕ) → (IsTagged key bound bytes → ⊥) → report_at key bound bytes ≡ None
unfolding report_at
untagged_is_none key bound bytes wrong = none (bytes_eq (tag_at bytes) (tag_of key (body_of bytes ++ bound))) refl
  where
    none : (test : Bool) → bytes_eq (tag_at bytes) (tag_of key (body_of bytes ++ bound)) ≡ test → cond test (read (body_of bytes)) None ≡ None
    none false e = refl
    none true e = absurd (wrong ((bytes_eq-Decides (tag_at bytes) (tag_of key (body_of bytes ++ bound))).0 e))

-- nor is one that is too long
long_is_none : (key bound bytes : List ℕ) (r : Option (Head × List ℕ)) → report_at key bound bytes ≡ r → 1071 < length bytes → r ≡ None
long_is_none key bound bytes None e long = refl
long_is_none key bound bytes (Some (head, text)) e long =
    let o = report_takes key bound bytes head text e in
    let h = within_takes 1039 (body_of bytes) head o.head_is in
    absurd (omega (arith, h.most, length-take (length bytes - 32) bytes))

pub unopened_is_none : (key bound bytes : List ℕ) → (length bytes ≤ 1071 → IsTagged key bound bytes → ⊥) → report_at key bound bytes ≡ None
unopened_is_none key bound bytes wrong =
    elim (cases_lt 1071 (length bytes)) [
      | inl long ↦ long_is_none key bound bytes (report_at key bound bytes) refl long
      | inr short ↦ untagged_is_none key bound bytes (wrong short)
    ]

-- ---- the law

-- what is written is read
again : (key bound text : List ℕ) (head : Head) → IsHead head → head.kind ≡ Report → length text ≤ 1024
    → report_at key bound (sealed_bytes key bound head text) ≡ Some (head, text)
unfolding sealed_bytes report_head_at
again key bound text head h kind le =
    let body = body_bytes head text in
    let tag = tag_of key (body ++ bound) in
    let front = body_of-tagged body tag (length-tag_of key (body ++ bound)) in
    let tagged : IsTagged key bound (body ++ tag) =
    tag_at-tagged body tag (length-tag_of key (body ++ bound)) ∙ ap (λ (b : List ℕ). tag_of key (b ++ bound)) (sym front) in
    let is : report_head_at body ≡ Some head = ap of_report (within_again 1039 head text h (omega arith)) ∙ ap (λ (k : Kind). cond (is_report k) (present head) None) kind in
    tagged_is_read key bound (body ++ tag) tagged ∙ ap read front ∙ rw is refl

-- the head of a report on a request
pub report_again : (key bound text : List ℕ) (request : Head) → IsHead request → length text ≤ 1024
    → report_at key bound (sealed_bytes key bound (report_head request) text) ≡ Some (report_head request, text)
report_again key bound text request h le =
    again key bound text (report_head request) (record { client_below = h.client_below; node_below = h.node_below; moment_below = h.moment_below }) refl le

-- what is read is written so
spelled_so : (key bound bytes text : List ℕ) (head : Head) → AreBytes bytes → report_at key bound bytes ≡ Some (head, text) → bytes ≡ sealed_bytes key bound head text
unfolding sealed_bytes
spelled_so key bound bytes text head fits e =
    let o = report_takes key bound bytes head text e in
    let h = within_takes 1039 (body_of bytes) head o.head_is in
    let body : body_of bytes ≡ body_bytes head text =
    within_spelled 1039 (body_of bytes) head (AreBytes-take (length bytes - 32) bytes fits) h ∙ ap (body_bytes head) o.text_is in
    sym (take-append-drop (length bytes - 32) bytes)
    ∙ ap (λ (tag : List ℕ). body_of bytes ++ tag) o.tagged
    ∙ ap (λ (b : List ℕ). b ++ tag_of key (b ++ bound)) body

text_is_short : (key bound bytes text : List ℕ) (head : Head) → report_at key bound bytes ≡ Some (head, text) → length text ≤ 1024
text_is_short key bound bytes text head e =
    let o = report_takes key bound bytes head text e in
    let h = within_takes 1039 (body_of bytes) head o.head_is in
    omega (arith, h.least, h.most, ap length o.text_is, length-drop 15 (body_of bytes))

pub reading_law : (key bound bytes text : List ℕ) (head : Head) → AreBytes bytes → IsHead head
    → IsReportOf key bound head text bytes ↔ (report_at key bound bytes ≡ Some (head, text))
reading_law key bound bytes text head fits h = (
  λ s. subst (λ (b : List ℕ). report_at key bound b ≡ Some (head, text)) (sym s.bytes_are) (again key bound text head h s.of_kind s.text_fits),
  λ e. record {
    of_kind = (report_takes key bound bytes head text e).of_kind;
    text_fits = text_is_short key bound bytes text head e;
    bytes_are = spelled_so key bound bytes text head fits e;
  },
)
