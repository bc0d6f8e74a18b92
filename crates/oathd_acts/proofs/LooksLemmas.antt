-- What the commands that look at a store have done.
use Rattle.std.proofs.Common.{◌≡◌, ℕ, List, Option, subst, sym}
use Rattle.std.specs.Prelude.{Result, Ok, Err, IfOk}
use Rattle.std.specs.Borrow.{Bor}
use Rattle.sqlite.specs.Store.{Ghosts}
use Rattle.sqlite.specs.Held as sql
use Rattle.otp_core.specs.Limits.{Limits}
use Rattle.vote_core.specs.NodeSet.{PlaceRecord}
use Rattle.oathd_words.specs.declared.store_words.Look.{Look}
use Rattle.oathd_words.specs.declared.store_words.Owner.{Owner}
use Rattle.oathd_roster.specs.declared.cluster.NamedCluster.{NamedCluster}
use Rattle.oathd_seats.specs.declared.naming.Naming.{Naming}
use Rattle.oathd_seats.specs.declared.naming.Naming.TheVariants.{ByName}
use Rattle.oathd_acts.specs.Looks.{IsLookDone, LooksByName, LooksFor}
use Rattle.oathd_site.specs.Names.{IsMemberByNames}
use Rattle.oathd_site.specs.declared.fault.Fault.{Fault}

module _ {S : Type 0} (g : Ghosts S) (finds : sql.Held S → Type 0) (old new : Option (List ℕ)) (result : Result Unit Fault) where
  -- a look with a name is the look
  pub look_so : (look other : Look) (limits : Limits) (naming : Naming) → look ≡ other → IfOk result (λ _. LooksFor g finds other limits naming old new)
      → IfOk result (λ _. LooksFor g finds look limits naming old new)
  look_so look other limits naming is h = subst (λ (it : Look). IfOk result (λ _. LooksFor g finds it limits naming old new)) (sym is) h

  -- an owner with a name is the owner
  pub owner_so : (owner other : Owner) (look : Look) (text : List ℕ) → owner ≡ other → IfOk result (λ _. IsLookDone g finds other look text old new)
      → IfOk result (λ _. IsLookDone g finds owner look text old new)
  owner_so owner other look text is h = subst (λ (it : Owner). IfOk result (λ _. IsLookDone g finds it look text old new)) (sym is) h

  -- the usual settings are those of a command without a cluster file
  pub usual : (look : Look) (limits usual_limits : Limits) (naming : Naming) → limits ≡ usual_limits
      → IfOk result (λ _. LooksFor g finds look limits naming old new) → IfOk result (λ _. LooksFor g finds look usual_limits naming old new)
  usual look limits usual_limits naming same h = subst (λ (it : Limits). IfOk result (λ _. LooksFor g finds look it naming old new)) same h

-- the store of a member is looked at by names
pub looked_by_name : {S : Type 0} (g : Ghosts S) (finds : sql.Held S → Type 0) (old new : Option (List ℕ)) (result : Result Unit Fault) (node : ℕ) (look : Look)
    (text : List ℕ) (limits : Limits) (place : PlaceRecord) (named : Bor NamedCluster) (me : ℕ) → me ≡ place.me
    → IsMemberByNames node text limits place named.now → IfOk result (λ _. LooksFor g finds look limits (ByName me named) old new)
    → IfOk result (λ _. LooksByName g finds node look text old new)
looked_by_name g finds old new (Err fault) node look text limits place named me same is h = tt
looked_by_name g finds old new (Ok done) node look text limits place named me same is h = record {
  limits = limits;
  place = place;
  named = named;
  member = is;
  looks = subst (λ (n : ℕ). LooksFor g finds look limits (ByName n named) old new) same h;
}
