-- Each promise is asked about the one that breaks it.
use Rattle.std.proofs.Common.{◌≡◌, ℕ, List, [], ◌∷◌, Some, None, refl, ap, sym, ◌∙◌, arith}
use Rattle.std.specs.Prelude.{codes, slice_index_or}
use Rattle.std.specs.Fmt.{digits}
use Rattle.otp_core.specs.Limits.{default_limits}
use Rattle.token_file.specs.Credential.{Credential, place_of}
use Rattle.oathd_database.specs.Broken.{IsOfOne, one_book}
use Rattle.oathd_database.specs.Commands.{HasImport}
use Rattle.oathd_database.proofs.BrokenLemmas.{imported_is}
use Rattle.token_file.specs.Examples.{event_token}
use Rattle.otp_core.specs.Gate.{GateRecord, clear_gate}
use Rattle.floor_store.specs.Records.{RowRecord}
use Rattle.oathd_database.specs.Examples.{gate_with, row_with}
use Rattle.oathd_database.specs.Gates.{gate_line, gate_row, gate_text}
use Rattle.oathd_database.specs.Text.{WritesToken}
use Rattle.oathd_database.proofs.laws.gates_can_be_broken.Goals as goal

-- a users file of one token, of user `a`
abbrev of_one : (users : List ℕ) → IsOfOne 0 11 users → HasImport default_limits 0 11 users
of_one users is = record { book = one_book; floors = 0 ∷ []; imported = is }

-- so it has the place that a user has in its book
one_place : (users user : List ℕ) → IsOfOne 0 11 users → (import : HasImport default_limits 0 11 users)
    → place_of user import.book ≡ place_of user one_book
one_place users user is import = ap (place_of user) (imported_is default_limits 0 11 one_book (0 ∷ []) users is import).0

-- no place is a place
not_found : (place : ℕ) → Some place ≡ None → ⊥
not_found place e = absurd cc

pub returns-clause-user : goal.returns-clause-user
returns-clause-user c users is = record { import = of_one users is; token = 0; of_user = refl }

pub returns-clause-user_of_nobody : goal.returns-clause-user_of_nobody
returns-clause-user_of_nobody c users is h =
    not_found h.token (sym h.of_user ∙ one_place users (codes "b") is h.import)

pub returns-clause-lacks : goal.returns-clause-lacks
returns-clause-lacks c = record { import = record { book = []; floors = []; imported = refl }; of_nobody = refl }

pub returns-clause-lacks_known : goal.returns-clause-lacks_known
returns-clause-lacks_known c users is h =
    not_found 0 (sym (one_place users (codes "a") is h.import) ∙ h.of_nobody)

pub returns-clause-gate : goal.returns-clause-gate
unfolding digits gate_line
returns-clause-gate c = record {
  token = event_token (codes "a");
  token_is = refl;
  row = row_with (gate_with 2 10);
  row_is = refl;
  written = refl;
}

-- what is written of the only token of a book
only_gate : (gate : GateRecord) (new : List ℕ) → WritesToken gate_row one_book (row_with gate ∷ []) 0 (Some []) (Some new)
    → new ≡ gate_text (event_token (codes "a")) gate
only_gate gate new h =
    let token : event_token (codes "a") ≡ h.token = cc in
    let row : row_with gate ≡ h.row = cc in
    h.written ∙ sym (ap (λ (t : Credential). gate_text t h.row.gate) token)
    ∙ sym (ap (λ (r : RowRecord). gate_text (event_token (codes "a")) r.gate) row)

pub returns-clause-gate_token : goal.returns-clause-gate_token
unfolding digits gate_line
returns-clause-gate_token c h =
    let letter : 98 ≡ 97 = ap (λ (text : List ℕ). slice_index_or text 5 0) (only_gate (gate_with 2 10) (codes "gate b 2 10\n") h) in
    omega (arith, letter)

pub returns-clause-gate_row : goal.returns-clause-gate_row
unfolding digits gate_line
returns-clause-gate_row c h =
    let digit : 51 ≡ 50 = ap (λ (text : List ℕ). slice_index_or text 7 0) (only_gate (gate_with 2 10) (codes "gate a 3 10\n") h) in
    omega (arith, digit)

pub returns-clause-gate_written : goal.returns-clause-gate_written
returns-clause-gate_written c h = let e = only_gate clear_gate (codes "x") h in absurd cc
