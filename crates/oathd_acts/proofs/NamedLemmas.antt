-- What the commands over a store by names have done.
use Rattle.std.proofs.Common.{◌≡◌, ℕ, Bool, true, List, Option, Some, length, subst, sym}
use Rattle.std.specs.Prelude.{false}
use Rattle.std.specs.Option.{unwrap_or}
use Rattle.sqlite.specs.Store.{Ghosts}
use Rattle.sqlite.specs.Held as sql
use Rattle.otp_core.specs.Limits.{Limits, default_limits}
use Rattle.otp_core.specs.Range.{IsMoment}
use Rattle.floor_sql.specs.Held.{SqlHeld}
use Rattle.seated_store.specs.Seated.{SeatedRecord}
use Rattle.vote_core.specs.NodeSet.{PlaceRecord}
use Rattle.oathd_seats.specs.Commands.{HasToldRoster}
use Rattle.oathd_roster.specs.Begun.{HasBegun}
use Rattle.oathd_roster.specs.declared.cluster.NamedCluster.{NamedCluster}
use Rattle.oathd_acts.specs.Named.{AreNamedFloorsTold, IsBegun, IsFormerOf, IsMemberLevelled, IsMigratedByNames, IsRemadeByNames, IsRosterTold}
use Rattle.oathd_site.specs.Names.{IsKeyOf, IsMemberByNames}
use Rattle.oathd_floors.specs.Dropped.{HasDropped}
use Rattle.oathd_floors.specs.Levelled.{HasLevelled}
use Rattle.oathd_floors.specs.Named.{HasNamed}
use Rattle.oathd_floors.specs.Remade.{HasRemade}
use Rattle.oathd_floors.specs.Told.{HasTold}
use Rattle.oathd_floors.specs.declared.remaking.Former.{Former}
use Rattle.oathd_words.specs.declared.former_words.FormerWords.{FormerWords}

module _ {S : Type 0} (g : Ghosts S) (finds : sql.Held S → Type 0) where
  module _ (node : ℕ) (text : List ℕ) (settings : Limits) (place : PlaceRecord) (named : NamedCluster) (member : IsMemberByNames node text settings place named) where
    -- the store of the member begins
    pub begun : (old new : Option (List ℕ)) (users : List ℕ) (moment : ℕ) (store : SeatedRecord (SqlHeld S)) → IsMoment moment
        → HasBegun g finds named settings moment 16777216 place store old new users → IsBegun g finds node text old new
    begun old new users moment store at h = record {
      settings = settings;
      place = place;
      named = named;
      member = member;
      done = (users, record { moment = moment; is_moment = at; store = store; begun = h });
    }

    module _ (me : ℕ) (same : me ≡ place.me) (users : List ℕ) where
      -- what is printed of the store of the member
      pub told_roster : (drops : Bool) (old new : Option (List ℕ)) → drops ≡ false → HasToldRoster g finds named settings 16777216 me old new users
          → IsRosterTold g finds node drops text old new
      told_roster drops old new is h = subst (λ (b : Bool). IsRosterTold g finds node b text old new) (sym is) (record {
        settings = settings;
        place = place;
        named = named;
        member = member;
        done = (users, subst (λ (n : ℕ). HasToldRoster g finds named settings 16777216 n old new users) same h);
      })

      pub dropped : (drops : Bool) (old new : Option (List ℕ)) (conn : sql.Held S) → drops ≡ true
          → HasDropped g finds named settings 16777216 me old new conn users → IsRosterTold g finds node drops text old new
      dropped drops old new conn is h = subst (λ (b : Bool). IsRosterTold g finds node b text old new) (sym is) (record {
        settings = settings;
        place = place;
        named = named;
        member = member;
        done = (users, (conn, subst (λ (n : ℕ). HasDropped g finds named settings 16777216 n old new conn users) same h));
      })

      -- the tokens of the store of the member get names
      pub migrated : (members : Option ℕ) (conn : sql.Held S) → members ≡ Some place.n → HasNamed g finds named default_limits 16777216 me conn users
          → IsMigratedByNames g finds node members text
      migrated members conn said h = record {
        settings = settings;
        place = place;
        named = named;
        member = member;
        done = record {
          were = said;
          users = users;
          conn = conn;
          of_names = subst (λ (n : ℕ). HasNamed g finds named default_limits 16777216 n conn users) same h;
        };
      }

    -- floors are raised by names
    pub levelled_named : (count : ℕ) (key given : List ℕ) (me now : ℕ) (texts : List (List ℕ)) (store : SqlHeld S) → IsKeyOf text key → given ≡ key
        → me ≡ place.me → IsMoment now → length texts ≡ count
        → HasLevelled g finds (record { key = given; own = named.bond; is_anew = false; now = now }) me texts store → IsMemberLevelled g finds node count text
    levelled_named count key given me now texts store of_key same at is_now each h = record {
      settings = settings;
      place = place;
      named = named;
      member = member;
      done = record {
        key = key;
        of_key = of_key;
        now = now;
        is_now = is_now;
        texts = texts;
        each = each;
        store = store;
        levelled = subst (λ (n : ℕ). HasLevelled g finds (record { key = key; own = named.bond; is_anew = false; now = now }) n texts store) at
            (subst (λ (k : List ℕ). HasLevelled g finds (record { key = k; own = named.bond; is_anew = false; now = now }) me texts store) same h);
      };
    }

  -- a floors file by names is written
  pub named_floors_told : (named : NamedCluster) (key given : List ℕ) (node moment : ℕ) (old new : Option (List ℕ)) → given ≡ key → IsMoment moment
      → HasTold g finds named.bond given node moment old new → AreNamedFloorsTold g finds named key node old new
  named_floors_told named key given node moment old new same at h = record {
    moment = moment;
    is_moment = at;
    told = subst (λ (k : List ℕ). HasTold g finds named.bond k node moment old new) same h;
  }

  -- a store is replaced by names
  pub remade_by_names : (settings : Limits) (place : PlaceRecord) (given : Option ℕ) (named : NamedCluster) (key k : List ℕ) (words : FormerWords)
      (old new : Option (List ℕ)) (users : List ℕ) (former : Former) (store : SeatedRecord (SqlHeld S)) (moment : ℕ) → IsFormerOf words former → k ≡ key
      → moment ≡ unwrap_or given former.now → HasRemade g finds named k settings moment 16777216 place former store old new users
      → IsRemadeByNames g finds settings place given named key words old new
  remade_by_names settings place given named key k words old new users former store moment of_former same at h = record {
    users = users;
    former = former;
    of_former = of_former;
    store = store;
    made = subst (λ (m : ℕ). HasRemade g finds named key settings m 16777216 place former store old new users) at
        (subst (λ (l : List ℕ). HasRemade g finds named l settings moment 16777216 place former store old new users) same h);
  }
