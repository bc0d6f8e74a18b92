-- Known bytes that stay, and are then taken.
use Rattle.std.proofs.Common.{ℕ, List, Option, Some, None, refl, subst, ◌∙◌}
use Rattle.std.specs.Io.KnownBytes.{Keeps}
use Rattle.token_file.specs.Source.{Stays}

pub keeps_then : (a b c : Option (List ℕ)) → Keeps a b → Keeps b c → Keeps a c
keeps_then None b c h k = tt
keeps_then (Some xs) None c h k = absurd h
keeps_then (Some xs) (Some ys) None h k = absurd k
keeps_then (Some xs) (Some ys) (Some zs) h k = k ∙ h

pub keeps_start : (a : Option (List ℕ)) → Keeps a a
keeps_start None = tt
keeps_start (Some xs) = refl

pub stays_then : {A : Type 0} (a b c : Option A) → Stays a b → Stays b c → Stays a c
stays_then None b c h k = tt
stays_then {A} (Some x) b c h k = subst (λ (o : Option A). Stays o c) h k

pub stays_start : {A : Type 0} (a : Option A) → Stays a a
stays_start None = tt
stays_start (Some x) = refl
