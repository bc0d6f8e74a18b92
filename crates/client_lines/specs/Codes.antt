-- The codes of a line, as the program represents them.
use Rattle.otp_core.specs.Submission.{Submission, Check, Resync}
use Rattle.client_lines.specs.declared.line.Codes.{Codes}
use Rattle.client_lines.specs.declared.line.Codes.TheVariants.{One, Two}

-- the submission of one code by a CHECK, and of two by a RESYNC
abbrev pub submission_of : Codes → Submission
submission_of (One code) = Check code
submission_of (Two first second) = Resync first second
