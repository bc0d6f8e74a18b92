-- What a journal tells of a world is the world's report.
use Rattle.std.proofs.Common.{◌≡◌, ℕ, List, length, ap, ◌∙◌}
use Rattle.std.proofs.lemmas.List.{length-map}
use Rattle.otp_core.specs.Acceptance.{Acceptance}
use Rattle.cluster_sim.specs.Journal.{IsRecorded, JournalRecord, Letter, letter_of}
use Rattle.cluster_sim.specs.World.{ReportValue, Answer, World, passes_in}

pub recorded_report : (key : List ℕ) (w : World) (j : JournalRecord) → IsRecorded key w j
    → ◌≡◌ {A = ReportValue} (record { passes = j.passes; answers = j.answers; sent = length j.sent }) (record { passes = passes_in w.history; answers = w.told; sent = length w.sent })
recorded_report key w j h =
    ap (λ (p : List Acceptance). record { passes = p; answers = j.answers; sent = length j.sent }) h.passes
    ∙ ap (λ (a : List Answer). record { passes = passes_in w.history; answers = a; sent = length j.sent }) h.answers
    ∙ ap (λ (n : ℕ). record { passes = passes_in w.history; answers = w.told; sent = n }) (ap (λ (l : List Letter). length l) h.sent ∙ length-map w.sent (letter_of key))
