-- Each case is computed; rows of one user, and a cut in a line that isn't there, are refuted.
use Rattle.std.proofs.Common.{◌≡◌, ℕ, zero, suc, ◌≤◌, List, [], ◌∷◌, ◌++◌, length, Some, Result, Ok, Err, codes, lit<, lit≤, refl, sym, ap, arith}
use Rattle.std.proofs.lemmas.Option.{none-some}
use Rattle.hex.specs.Hex.{IsBytes}
use Rattle.token_file.specs.Examples.{at_59, event_token, time_token}
use Rattle.token_file.specs.UsersFile.{Import, outcome_of}
use Rattle.token_file.specs.Writing.{IsCredential}
use Rattle.token_file.specs.declared.fault.LineFault.{LineFault}
use Rattle.token_file.specs.declared.fault.LineFault.TheVariants.{Read}
use Rattle.token_file.specs.declared.token.Kind.TheVariants.{Time60}
use Rattle.hex.specs.Hex.{decode_pairs, encode_with}
use Rattle.std.specs.Fmt.{digits}
use Rattle.hmac_core.specs.Unfolded.sha1_steps
use Rattle.token_file.proofs.laws.files_are_worked.Goals as goal

pub returns-clause-event_floors : goal.returns-clause-event_floors
unfolding sha1_steps.first_words sha1_steps.schedule sha1_steps.rounds sha1_steps.compress sha1_steps.hash_after sha1_steps.digest_bytes sha1_steps.sha1
returns-clause-event_floors c = refl

pub returns-clause-time_floors : goal.returns-clause-time_floors
returns-clause-time_floors c = refl

pub returns-clause-empty : goal.returns-clause-empty
returns-clause-empty c = refl

pub returns-clause-comments : goal.returns-clause-comments
returns-clause-comments c = refl

pub returns-clause-no_last_end : goal.returns-clause-no_last_end
unfolding decode_pairs
returns-clause-no_last_end c = refl

pub returns-clause-whole : goal.returns-clause-whole
unfolding decode_pairs
returns-clause-whole c = refl

pub returns-clause-too_long : goal.returns-clause-too_long
unfolding decode_pairs
returns-clause-too_long c = refl

pub returns-clause-first_faulty_line : goal.returns-clause-first_faulty_line
unfolding decode_pairs
returns-clause-first_faulty_line c = refl

pub returns-clause-cut : goal.returns-clause-cut
unfolding decode_pairs
returns-clause-cut c = refl

pub returns-clause-same_user : goal.returns-clause-same_user
unfolding decode_pairs
returns-clause-same_user c = refl

pub returns-clause-same_user_with_a_fault : goal.returns-clause-same_user_with_a_fault
unfolding decode_pairs
returns-clause-same_user_with_a_fault c = refl

pub returns-clause-longest_line : goal.returns-clause-longest_line
returns-clause-longest_line c = refl

pub returns-clause-long_line : goal.returns-clause-long_line
returns-clause-long_line c = refl

pub returns-clause-cut_lines : goal.returns-clause-cut_lines
returns-clause-cut_lines c = refl

pub returns-clause-room : goal.returns-clause-room
returns-clause-room c = refl

pub returns-clause-no_room : goal.returns-clause-no_room
returns-clause-no_room c = refl

pub returns-clause-same_user_and_no_room : goal.returns-clause-same_user_and_no_room
returns-clause-same_user_and_no_room c = refl

pub returns-clause-places : goal.returns-clause-places
returns-clause-places c = refl

pub returns-clause-faults_of_text : goal.returns-clause-faults_of_text
returns-clause-faults_of_text c = refl

pub returns-clause-faults_of_pulls : goal.returns-clause-faults_of_pulls
returns-clause-faults_of_pulls c = refl

pub returns-clause-failed_pulls : goal.returns-clause-failed_pulls
returns-clause-failed_pulls c = refl

pub returns-clause-results_of_pulls : goal.returns-clause-results_of_pulls
returns-clause-results_of_pulls c = refl

pub returns-clause-written_event : goal.returns-clause-written_event
unfolding digits encode_with
returns-clause-written_event c = refl

pub returns-clause-written_time : goal.returns-clause-written_time
unfolding encode_with
returns-clause-written_time c = refl

pub returns-clause-written_others : goal.returns-clause-written_others
unfolding encode_with
returns-clause-written_others c = refl

pub returns-clause-written_counters : goal.returns-clause-written_counters
returns-clause-written_counters c = refl

is_byte : IsBytes (0x31 ∷ [])
is_byte zero = lit< tt
is_byte (suc i) = lit< tt

event_token_is : IsCredential (event_token (codes "a"))
event_token_is = record { parts = refl; secret = (lit≤ tt, lit≤ tt); bytes = is_byte }

time_token_is : IsCredential (time_token Time60)
time_token_is = record { parts = refl; secret = (lit≤ tt, lit≤ tt); bytes = is_byte }

pub returns-clause-rows : goal.returns-clause-rows
returns-clause-rows c = (event_token_is, lit≤ tt, refl, (time_token_is, lit≤ tt, refl, tt))

pub returns-clause-same_user_twice : goal.returns-clause-same_user_twice
returns-clause-same_user_twice c h = none-some _ (sym h.3.2)

pub returns-clause-nexts_of_rows : goal.returns-clause-nexts_of_rows
returns-clause-nexts_of_rows c h = let e : 4611686018427387905 ≤ 4611686018427387904 = h.1 in omega (arith, e)

pub returns-clause-text_of_rows : goal.returns-clause-text_of_rows
unfolding digits encode_with
returns-clause-text_of_rows c = refl

pub returns-clause-tokens_of_rows : goal.returns-clause-tokens_of_rows
returns-clause-tokens_of_rows c = refl

pub returns-clause-floors_of_rows : goal.returns-clause-floors_of_rows
returns-clause-floors_of_rows c = refl

pub returns-clause-cut_off : goal.returns-clause-cut_off
unfolding decode_pairs
returns-clause-cut_off c = record { taken = codes "HOTP a - 31" ++ 10 ∷ codes "HO"; left = codes "TP b - 31" ++ 10 ∷ []; parts = refl; outcome = refl }

abbrev line_of : Result Import (ℕ × LineFault) → ℕ
line_of (Ok import) = 0
line_of (Err fault) = fault.0

no_second_line : (taken left : List ℕ) → [] ≡ taken ++ left → outcome_of (Some Read) 24 at_59 taken ≡ Err (2, Read) → ⊥
no_second_line [] left e o = let line : 1 ≡ 2 = ap line_of o in omega (arith, line)
no_second_line (byte ∷ taken) left e o = let len = ap length e in omega (arith, len)

pub returns-clause-not_cut_off : goal.returns-clause-not_cut_off
returns-clause-not_cut_off c h = no_second_line h.taken h.left h.parts h.outcome
