-- The conditions for carrying out a ruling. Only private contracts cite it: no public contract depends on it.
use Rattle.std.specs.Prelude.{ℕ, ◌-◌, ◌<◌, Bool, false, None}
use Rattle.floor_store.specs.Content.{Content}
use Rattle.floor_store.specs.Records.{SpanRecord}
use Rattle.otp_core.specs.Range.{IsMoment}
use Rattle.vote_core.specs.Rows.{row}
use Rattle.oath_node.specs.Rules.{Standing}
use Rattle.oath_node.specs.declared.ruling.Ruling.{Ruling}
use Rattle.oath_node.specs.declared.ruling.Ruling.TheVariants.{Outside, Again, Waiting, Denied, Wrong, Fitting}

-- the ruling names one of `tokens` tokens, and a failure is at a moment in range
abbrev pub IsRecordable : ℕ → ℕ → Ruling → Type 0
IsRecordable tokens moment Outside = Unit {0}
IsRecordable tokens moment (Again text) = Unit {0}
IsRecordable tokens moment Waiting = Unit {0}
IsRecordable tokens moment (Denied nonce reason) = Unit {0}
IsRecordable tokens moment (Wrong nonce reason token) = (token < tokens) × IsMoment moment
IsRecordable tokens moment (Fitting nonce token span drift) = token < tokens

-- `holds`, of the token and the factors that the ruling proposes
abbrev pub IfProposes : Ruling → (ℕ → SpanRecord → Type 0) → Type 0
IfProposes Outside holds = Unit {0}
IfProposes (Again text) holds = Unit {0}
IfProposes Waiting holds = Unit {0}
IfProposes (Denied nonce reason) holds = Unit {0}
IfProposes (Wrong nonce reason token) holds = Unit {0}
IfProposes (Fitting nonce token span drift) holds = holds token span

-- `holds`, if the answer to the line is kept
abbrev pub IfKept : Ruling → Type 0 → Type 0
IfKept Outside holds = Unit {0}
IfKept (Again text) holds = Unit {0}
IfKept Waiting holds = Unit {0}
IfKept (Denied nonce reason) holds = holds
IfKept (Wrong nonce reason token) holds = holds
IfKept (Fitting nonce token span drift) holds = holds

-- the standing of a line that has no kept answer and doesn't wait, by the rows of a store
abbrev pub standing_in : Content → Bool → ℕ → Standing
standing_in content is_full moment = record {
  kept = None;
  is_waiting = false;
  is_full = is_full;
  next = λ token. (row content token).next;
  drift = λ token. (row content token).drift;
  wait = λ token. (row content token).gate.until - moment;
}
