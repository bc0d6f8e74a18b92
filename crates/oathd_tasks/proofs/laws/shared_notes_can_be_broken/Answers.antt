-- The book of three rows is computed.
use Rattle.std.proofs.Common.{◌≡◌, ℕ, List, [], ◌∷◌, codes, Option, Some, None, Result, Ok, Err, refl, sym, ap, subst, ◌∙◌, arith, rules}
use Rattle.std.specs.Io.KnownBytes.{Appends}
use Rattle.hex.specs.Hex.{decode_pairs}
use Rattle.otp_core.specs.Limits.{default_limits}
use Rattle.token_file.specs.Credential.{Credential}
use Rattle.token_file.specs.UsersFile.{Import, book_of, instant_of}
use Rattle.token_file.specs.declared.fault.LineFault.{LineFault}
use Rattle.token_file.specs.declared.token.Kind.TheVariants.{Time30}
use Rattle.shared_secrets.specs.Examples.{event_seed, seed, shared_by}
use Rattle.shared_secrets.specs.Repeat.{AreDistinct, IsFirstRepeat, IsSharedIn}
use Rattle.shared_secrets.specs.Seed.{Seed, kind_byte, seeds_of}
use Rattle.shared_secrets.specs.declared.shared.SharedSecret.{SharedSecret}
use Rattle.oathd_tasks.specs.Broken.{one_token, shared_rows}
use Rattle.oathd_tasks.specs.Notes.{IsSharedOf, head, notes_text, shared_text}
use Rattle.oathd_tasks.proofs.laws.shared_notes_can_be_broken.Goals as goal

-- what is read of a users file
abbrev read_in : List ℕ → Result Import (ℕ × LineFault)
read_in rows = book_of 16777216 (instant_of default_limits 0) rows

abbrev book_in : Result Import (ℕ × LineFault) → List Credential
book_in (Ok import) = import.book
book_in (Err fault) = []

abbrev floors_in : Result Import (ℕ × LineFault) → List ℕ
floors_in (Ok import) = import.floors
floors_in (Err fault) = []

-- the seeds of the three rows
abbrev three : List Seed
three = event_seed 49 ∷ seed Time30 49 ∷ event_seed 49 ∷ []

three_are : seeds_of (book_in (read_in shared_rows)) ≡ three
unfolding decode_pairs
three_are = refl

three_repeat : IsFirstRepeat three (shared_by 1 3)
three_repeat = search rules

three_are_not_distinct : AreDistinct three → ⊥
three_are_not_distinct h = h 0 2 (event_seed 49) (omega arith) (omega arith) refl

-- the byte of the kind of a row
abbrev byte_of : Option Seed → ℕ
byte_of None = 0
byte_of (Some seed) = kind_byte seed.kind

second_is_new : IsFirstRepeat three (shared_by 1 2) → ⊥
second_is_new h = let bytes : 0 ≡ 30 = ap byte_of h.same in omega (arith, bytes)

-- what the three rows share
in_three : (shared : Option SharedSecret) → IsSharedOf default_limits shared_rows shared → IsSharedIn three shared
in_three shared h =
    let book : book_in (read_in shared_rows) ≡ h.book = ap book_in h.has_tokens.read in
    subst (λ seeds. IsSharedIn seeds shared) (sym (ap seeds_of book) ∙ three_are) h.is

is_missed : (shared : Option SharedSecret) → IsSharedIn three shared
    → Appends (Some []) (Some []) (notes_text (codes "u") shared_rows shared (codes "c") 3) → ⊥
unfolding shared_text head
is_missed None is written = three_are_not_distinct is
is_missed (Some rows) is written = absurd cc

pub returns-clause-rows : goal.returns-clause-rows
unfolding decode_pairs
returns-clause-rows c =
    record {
      book = book_in (read_in shared_rows);
      has_tokens = record { floors = floors_in (read_in shared_rows); read = refl };
      is = three_repeat;
    }

pub returns-clause-other_rows : goal.returns-clause-other_rows
returns-clause-other_rows c h = second_is_new (in_three (Some (shared_by 1 2)) h)

pub returns-clause-rows_are_missed : goal.returns-clause-rows_are_missed
returns-clause-rows_are_missed c h = three_are_not_distinct (in_three None h)

pub returns-clause-no_rows : goal.returns-clause-no_rows
returns-clause-no_rows c =
    record {
      book = [];
      has_tokens = record { floors = []; read = refl };
      is = λ i j d before within same. absurd (omega (arith, before, within));
    }

pub returns-clause-rows_of_none : goal.returns-clause-rows_of_none
returns-clause-rows_of_none c h =
    let book : [] ≡ h.book = ap book_in h.has_tokens.read in
    let is : IsFirstRepeat (seeds_of []) (shared_by 1 3) = subst (λ seeds. IsSharedIn seeds (Some (shared_by 1 3))) (sym (ap seeds_of book)) h.is in
    is.same

pub returns-clause-no_note : goal.returns-clause-no_note
unfolding decode_pairs
returns-clause-no_note c =
    record {
      shared = None;
      is = record {
        book = one_token;
        has_tokens = record { floors = 0 ∷ []; read = refl };
        is = λ i j d before within same. absurd (omega (arith, before, within));
      };
      written = refl;
    }

pub returns-clause-note_is_missed : goal.returns-clause-note_is_missed
returns-clause-note_is_missed c h = is_missed h.shared (in_three h.shared h.is) h.written
