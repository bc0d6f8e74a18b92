-- What is printed is computed up to the fingerprint, which two texts here share.
use Rattle.std.proofs.Common.{◌≡◌, ℕ, List, [], ◌∷◌, length, None, Result, Ok, Err, refl, sym, ap, subst, subst₂, ◌∙◌, arith}
use Rattle.std.specs.Fmt.{digits}
use Rattle.std.specs.Prelude.{slice_index}
use Rattle.hex.specs.Hex.{decode_pairs}
use Rattle.token_file.specs.Credential.{Credential}
use Rattle.token_file.specs.UsersFile.{Import}
use Rattle.token_file.specs.declared.fault.LineFault.{LineFault}
use Rattle.cluster_file.specs.Address.{address_text}
use Rattle.cluster_file.specs.Check.{count_line, counts_text}
use Rattle.cluster_file.specs.ClusterFile.{ClusterRecord}
use Rattle.cluster_file.specs.Examples.{small_cluster}
use Rattle.cluster_file.specs.Shared.{member_line, settings_text, word_line}
use Rattle.oathd_tasks.specs.Broken.{checked, keyed_text, one_token}
use Rattle.oathd_tasks.specs.Check.{HasChecked, IsKeyIn}
use Rattle.oathd_tasks.proofs.LawLemmas.{keyed_says, nothing_says, says_one, small_says}
use Rattle.oathd_tasks.proofs.laws.checks_can_be_broken.Goals as goal

-- the book that is read
abbrev book_in : Result Import (ℕ × LineFault) → List Credential
book_in (Ok import) = import.book
book_in (Err fault) = []

pub returns-clause-tokens : goal.returns-clause-tokens
unfolding decode_pairs
returns-clause-tokens c = (record { floors = []; read = refl }, record { floors = 0 ∷ []; read = refl })

pub returns-clause-tokens_of_nothing : goal.returns-clause-tokens_of_nothing
returns-clause-tokens_of_nothing c h =
    let lengths : 0 ≡ 1 = ap (λ r. length (book_in r)) h.read in omega (arith, lengths)

pub returns-clause-tokens_left_out : goal.returns-clause-tokens_left_out
unfolding decode_pairs
returns-clause-tokens_left_out c h =
    let lengths : 1 ≡ 0 = ap (λ r. length (book_in r)) h.read in omega (arith, lengths)

pub returns-clause-has_checked : goal.returns-clause-has_checked
returns-clause-has_checked c = record { book = []; unmarked = refl; has_tokens = record { floors = []; read = refl }; written = refl }

-- the number of event tokens is in the text
told_apart : checked one_token ≡ checked [] → ⊥
unfolding word_line member_line settings_text count_line counts_text address_text digits
told_apart e = let counts : 49 ≡ 48 = ap (λ (text : List ℕ). slice_index text 84) e in omega (arith, counts)

pub returns-clause-has_checked_tokens : goal.returns-clause-has_checked_tokens
returns-clause-has_checked_tokens c h =
    let book : [] ≡ h.book = ap book_in h.has_tokens.read in
    told_apart (h.written ∙ ap checked (sym book))

pub returns-clause-has_checked_written : goal.returns-clause-has_checked_written
unfolding word_line
returns-clause-has_checked_written c h = let e = h.written in absurd cc

pub returns-clause-checks : goal.returns-clause-checks
returns-clause-checks c = (small_cluster, small_says, [], tt, record { book = one_token; unmarked = tt; has_tokens = tt; written = refl })

pub returns-clause-checks_no_file : goal.returns-clause-checks_no_file
returns-clause-checks_no_file c h = nothing_says h.0 h.1

pub returns-clause-checks_under_the_key : goal.returns-clause-checks_under_the_key
returns-clause-checks_under_the_key c old new h =
    let same = says_one keyed_text _ _ keyed_says h.1 in
    let key = subst (λ (cluster : ClusterRecord). IsKeyIn cluster.key h.2) (sym same) h.3 in
    subst₂ (λ key cluster. HasChecked key cluster None old new) key (sym same) h.4

pub returns-clause-checks_past_a_mark : goal.returns-clause-checks_past_a_mark
returns-clause-checks_past_a_mark c old new h = let e = h.4.unmarked in absurd cc
