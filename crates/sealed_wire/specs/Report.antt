-- Reports: the datagrams of a node on the requests of operators. A report's text has at most 1,024 bytes. Its tag
-- covers the tag of its request.
use Rattle.std.specs.Prelude.{◌≡◌, ◌≤◌, ℕ, Bool, true, false, if◌then◌else◌, List, ◌++◌, length, Option, Some, None}
use Rattle.std.specs.Option.{option_map}
use Rattle.std.specs.Str.{bytes_eq}
use Rattle.sealed_wire.specs.Body.{head_within, text_of}
use Rattle.sealed_wire.specs.Key.{tag_of}
use Rattle.sealed_wire.specs.Sealed.{body_of, sealed_bytes, tag_at}
use Rattle.sealed_wire.specs.declared.head.Head.{Head}
use Rattle.sealed_wire.specs.declared.head.Kind.{Kind}
use Rattle.sealed_wire.specs.declared.head.Kind.TheVariants.{Line, Answer, Request, Report}

-- the head of a report on a request with the given head
abbrev pub report_head : Head → Head
report_head request = record request { kind = Report }

-- whether a datagram is a report
abbrev pub is_report : Kind → Bool
is_report Line = false
is_report Answer = false
is_report Request = false
is_report Report = true

-- the head, if it is a report's
abbrev pub of_report : Option Head → Option Head
of_report None = None
of_report (Some head) = if is_report head.kind then Some head else None

-- the head of a report's body, if a text of at most 1,024 bytes follows it
unfoldable pub report_head_at : List ℕ → Option Head
report_head_at body = of_report (head_within 1039 body)

-- the format of a report
pub record IsReportOf (key bound : List ℕ) (head : Head) (text bytes : List ℕ) : Type 0 where
  pub of_kind : head.kind ≡ Report
  pub text_fits : length text ≤ 1024
  pub bytes_are : bytes ≡ sealed_bytes key bound head text

-- the head and the text of a report, if the tag is right
unfoldable pub report_at : List ℕ → List ℕ → List ℕ → Option (Head × List ℕ)
report_at key bound bytes =
    if bytes_eq (tag_at bytes) (tag_of key (body_of bytes ++ bound))
    then option_map (λ head. (head, text_of (body_of bytes))) (report_head_at (body_of bytes))
    else None
