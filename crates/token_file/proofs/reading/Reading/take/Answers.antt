use Rattle.std.proofs.Common.{◌∷◌, [], Result, Ok, Err}
use Rattle.std.specs.Prelude.{OnOk, IfErr}
use Rattle.token_file.specs.declared.fault.FileFault.{FileFault}
use Rattle.token_file.specs.UsersFile.{Instant}
use Rattle.token_file.specs.Reading.{Fails, Leads}
use Rattle.token_file.proofs.reading.Reading.take.Goals as goal

ok_at : {A : Type 0} (r : Result A FileFault) (at : Instant) (P : Instant → Type 0) → OnOk r ((at : Instant) → P at) → OnOk r (P at)
ok_at (Ok x) at P h = h at
ok_at (Err f) at P h = tt

err_at : {A : Type 0} (r : Result A FileFault) (at : Instant) (P : Instant → FileFault → Type 0) → IfErr r (λ f. (at : Instant) → P at f) → IfErr r (P at)
err_at (Ok x) at P h = tt
err_at (Err f) at P h = h at

pub returns-else-byte-eq10-clause-ok : goal.returns-else-byte-eq10-clause-ok
returns-else-byte-eq10-clause-ok c =
    ok_at c.take_more.result (record { skew = c.args.settings.skew; moment = c.args.moment }) (λ at. Leads at c.args.self.now (c.args.byte ∷ []) c.take_more.new.self) c.take_more.ensures.ok

pub returns-else-byte-eq10-clause-fault : goal.returns-else-byte-eq10-clause-fault
returns-else-byte-eq10-clause-fault c =
    err_at c.take_more.result (record { skew = c.args.settings.skew; moment = c.args.moment }) (λ at. Fails at c.args.self.now (c.args.byte ∷ [])) c.take_more.ensures.fault
