-- A users file is refused, or a cluster isn't opened.
use Rattle.std.proofs.Common.{◌≡◌, ℕ, List, Option, Some, None, IfSome, subst}
use Rattle.std.specs.Prelude.{Err, IsTrue}
use Rattle.std.proofs.KnownBytes.{Appends-nil}
use Rattle.otp_core.specs.Limits.{Limits}
use Rattle.token_file.specs.Source.{OfText}
use Rattle.token_file.specs.UsersFile.{book_of, instant_of, is_of_text}
use Rattle.token_file.specs.declared.fault.FileFault.{FileFault}
use Rattle.oathd_cluster.specs.Line.{LinesRead}
use Rattle.oathd_cluster.specs.Rounds.{IsOfOpening}
use Rattle.oathd_cluster.specs.Run.{EndsSo, IsOfUsers, RefusesUsers, WritesFirst}
use Rattle.oathd_cluster.specs.declared.fault.Fault.{Fault}
use Rattle.oathd_cluster.specs.declared.fault.Fault.TheVariants as fault
use Rattle.oathd_cluster.proofs.AnswerLemmas.{nothing_written}

-- what a source tells of its text is so of the reader's
pub refuses : (limits : Limits) (moment longest : ℕ) (a left : Option (List ℕ)) (f : FileFault) → left ≡ a
    → (IsTrue (is_of_text f.kind) → OfText left (λ text. book_of longest (instant_of limits moment) text ≡ Err (f.line, f.kind)))
    → IfSome a (λ text. RefusesUsers limits moment longest text (fault.Users f))
refuses limits moment longest None left f is h = tt
refuses limits moment longest (Some text) left f is h =
    λ t. subst (λ (o : Option (List ℕ)). OfText o (λ text. book_of longest (instant_of limits moment) text ≡ Err (f.line, f.kind))) is (h t)

-- no line has its reply
none_first : (lines : LinesRead) (out : Option (List ℕ)) → WritesFirst lines.good out out
none_first lines out = record { count = 0; writes = nothing_written out }

-- a cluster that isn't opened ends with the fault, for any lines
pub unopened : (known : Option (List ℕ)) (lines : List ℕ → LinesRead) (f : Fault) (out : Option (List ℕ)) → IsOfOpening f
    → IfSome known (λ text. EndsSo (lines text) (Err f) out out)
unopened None lines f out h = tt
unopened (Some text) lines fault.Memory out h = none_first (lines text) out
unopened (Some text) lines fault.CannotRead out h = absurd h
unopened (Some text) lines fault.CannotWrite out h = absurd h
unopened (Some text) lines (fault.Users f) out h = absurd h
unopened (Some text) lines (fault.InputLine n) out h = absurd h
unopened (Some text) lines fault.Socket out h = none_first (lines text) out
unopened (Some text) lines (fault.Node f) out h = absurd h

-- a refused users file writes nothing
pub unread : (known : Option (List ℕ)) (lines : List ℕ → LinesRead) (f : Fault) (out : Option (List ℕ)) → IsOfUsers f
    → IfSome known (λ text. EndsSo (lines text) (Err f) out out)
unread None lines f out h = tt
unread (Some text) lines fault.Memory out h = absurd h
unread (Some text) lines fault.CannotRead out h = absurd h
unread (Some text) lines fault.CannotWrite out h = absurd h
unread (Some text) lines (fault.Users f) out h = Appends-nil out
unread (Some text) lines (fault.InputLine n) out h = absurd h
unread (Some text) lines fault.Socket out h = absurd h
unread (Some text) lines (fault.Node f) out h = absurd h
