use Rattle.std.proofs.Common.{take}
use Rattle.token_file.specs.Reading.{Leads}
use Rattle.token_file.proofs.reading.Reading.take_all.Given as goal

-- the bytes so far lead here
abbrev pub invariant-loop-byte : goal.invariant-loop-byte
invariant-loop-byte l = Leads (record { skew = l.fn.settings.skew; moment = l.fn.moment }) l.fn.self (take l.byte-index l.bytes) l.self
