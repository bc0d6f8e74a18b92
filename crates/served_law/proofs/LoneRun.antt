-- The run of the node alone: each field of its record is computed.
use Rattle.std.proofs.Common.{◌≡◌, inl, inr, ℕ, zero, suc, ◌+◌, true, List, [], ◌∷◌, length, Some, None, refl, sym, ap, ◌∙◌, subst, arith}
use Rattle.std.specs.Prelude.{Err}
use Rattle.std.proofs.lemmas.List.Sorted.{IsPermutation-refl}
use Rattle.std.specs.Net.Addr.{ipv4_bits}
use Rattle.sqlite.specs.Held.{state}
use Rattle.sqlite.specs.State.{HasCleanDisk}
use Rattle.sqlite.specs.Tree.{Trees}
use Rattle.sqlite.specs.Store.{Ghosts}
use Rattle.otp_core.specs.Limits.{default_limits}
use Rattle.floor_store.specs.Content.{Content}
use Rattle.floor_store.specs.Held.{IsSettled}
use Rattle.floor_store.specs.Records.{PassRecord}
use Rattle.floor_sql.specs.Broken.{small_content}
use Rattle.floor_sql.specs.Calls.{IsSound as IsSoundStore}
use Rattle.floor_sql.specs.Held.{sql_held}
use Rattle.floor_sql.specs.Stored.{Holds}
use Rattle.floor_sql.specs.declared.schema.Format.TheVariants.{Named}
use Rattle.floor_sql.proofs.BrokenLemmas.{own_row_has}
use Rattle.floor_sql.proofs.ContentLemmas.{one_content}
use Rattle.floor_sql.specs.declared.schema.Format.{Format}
use Rattle.roster_sql.specs.Roster.{HoldsNamed}
use Rattle.roster_sql.specs.declared.entry.Entry.{Entry}
use Rattle.roster_sql.proofs.ExampleLemmas.{bond_at}
use Rattle.seated_store.specs.Seats.{seated_content}
use Rattle.named_store.specs.declared.opening.RowCounts.{RowCounts}
use Rattle.oath_node.specs.Calls.{IsOpened}
use Rattle.oath_node.specs.TurnServing.{Serves}
use Rattle.oath_node.specs.Turns.{FromClient}
use Rattle.oath_node.specs.declared.serve_fault.ServeFault.TheVariants.{Clock}
use Rattle.datagram_port.specs.Port.{Received}
use Rattle.datagram_port.specs.declared.port.Sender.TheVariants.{Client as ToLine}
use Rattle.udp_port.specs.Examples.{at_local, heard_from}
use Rattle.bundle_port.specs.Runs.{Waits}
use Rattle.floor_port.specs.Runs.{Came}
use Rattle.node_serving.specs.Stretches.{ServesIn, operator_acts, unasked}
use Rattle.node_reports.specs.Responder.{ResponderAnswers}
use Rattle.oathd_database.specs.Broken.{shows_any, disk_of}
use Rattle.oathd_database.specs.declared.fault.Fault.TheVariants.{NoClock}
use Rattle.oathd_database.proofs.BrokenLemmas.{clean_is, stays}
use Rattle.oathd_roster.specs.Opened.{HasOpenedNamed}
use Rattle.store_serving.specs.Served.{HasServedNamed, IsServedOver}
use Rattle.book_law.specs.Uses.{first_store}
use Rattle.order_law.specs.Interleavings.{AreOfMembers, steps_at}
use Rattle.order_law.specs.Steps.{AreSteps, Closed}
use Rattle.order_law.proofs.Examples.{only_member}
use Rattle.order_law.proofs.Stores.{KeepStore, never_replaced}
use Rattle.served_law.specs.LoneRun.{lone, lone_body, lone_bond, lone_client, lone_cluster, lone_disk, lone_events, lone_items, lone_node, lone_run, lone_serving, lone_steps, lone_store, lone_stores, lone_tables, lone_text, node_over, store_over}
use Rattle.served_law.specs.Orders.{HaveHappened, HaveStepsOf, IsOrderOf}
use Rattle.served_law.specs.Runs.{AreAllNamedStores, AreStepsOfRun, IsRunOver, IsSound, view_of}
use Rattle.served_law.specs.Seated.{store_by_names}
use Rattle.served_law.proofs.Orders.{steps_have_orders}

-- ---- a disk that can be written once, with tables of a format

module _ (format : Format) (trees : ℕ → Trees) (holds : (disk : ℕ) → Holds format (trees disk) (small_content (4 + disk)) []) where
  abbrev pub disk_with : Ghosts ℕ
  disk_with = disk_of true trees

  pub clean_with : (disk : ℕ) → HasCleanDisk (state disk_with (store_over format disk).inner.conn)
  clean_with disk = clean_is trees (store_over format disk).inner.conn

  settled_with : (disk : ℕ) → IsSettled (sql_held disk_with (store_over format disk).inner)
  settled_with disk other left = sym (one_content format left.format (trees disk) (small_content (4 + disk)) other [] left.passes (holds disk)
      (subst (λ (t : Trees). Holds left.format t other left.passes) left.left left.holds))

  pub sound_with : (disk : ℕ) → IsSoundStore disk_with (store_over format disk).inner
  sound_with disk = record { works = refl; idle = refl; settled = settled_with disk }

  seated_settled : (disk : ℕ) → IsSettled (view_of disk_with (store_over format disk))
  seated_settled disk other left = left.2 ∙ ap (seated_content []) (settled_with disk left.0 left.1)

  pub in_boot_with : IsOpened (view_of disk_with) (store_over format 0) (node_over format)
  in_boot_with = record {
    state = λ is_clean. refl;
    runs = refl;
    raises = record {
      writes = record {
        makes = record {
          ok = λ is_clean. refl;
          err = λ is_clean. tt;
          stays = λ broken. absurd cc;
          count = omega arith;
          clean = λ is_clean. clean_with 0;
          tokens = refl;
        };
        left = λ other left. inr (seated_settled 1 other left);
        settled = λ is_clean. seated_settled 1;
        intact = (refl, refl);
      };
      breaks = tt;
      spent = λ e. absurd cc;
      last = λ e. absurd cc;
    };
  }

  pub serves_with : Serves (view_of disk_with) (node_over format) (node_over format) (Some []) (Some lone_events) None None 1 (Err Clock)
  serves_with = record {
    batches = (FromClient lone_client lone_text None ∷ []) ∷ [];
    formed = (record { before = []; last = FromClient lone_client lone_text None; is = refl; goes_on = tt }, tt);
    moments = tt;
    receives = refl;
    most = omega arith;
    all = tt;
    exact = λ is_clean. (record { state = refl; entries = refl }, refl);
    settled = λ is_clean was. was;
    same = record { book = refl; limits = refl; key = refl; place = refl };
  }

  unfoldable pub serves_in_with : ServesIn (view_of disk_with) (operator_acts (view_of disk_with)) (node_over format) (node_over format) (Some []) (Some lone_events) None None 1 (ResponderAnswers unasked) (Err Clock)
  serves_in_with = record {
    stretches = [];
    from = node_over format;
    from_first = Some [];
    from_asked = None;
    left = 1;
    before = (refl, refl, refl, refl);
    end = Err Clock;
    last = inl (record { most = 1; within = omega arith; ends = tt; serves = serves_with });
    counts = refl;
  }

-- ---- the database of a store by names

holds : (disk : ℕ) → HoldsNamed (lone_tables (4 + disk)) (small_content (4 + disk)) [] [] lone_bond
holds disk = record {
  schema = refl;
  holds = record { rows = λ token row e. absurd cc; node = 1; self = own_row_has 3 1 0 (4 + disk); pass = IsPermutation-refl []; last = refl };
  roster = λ token entry e. absurd cc;
  counted = refl;
  bond = bond_at lone_bond;
}

no_entries : (former : List Entry) → length former ≡ 0 → former ≡ []
no_entries [] e = refl
no_entries (entry ∷ former) e = absurd (omega (arith, e))

-- the tables hold nothing else
only_content : (disk : ℕ) (content : Content) (passes : List PassRecord) (former : List Entry) → HoldsNamed (lone_tables (4 + disk)) content passes former lone_bond
    → (small_content (4 + disk) ≡ content) × (former ≡ [])
only_content disk content passes former held =
    let same : small_content (4 + disk) ≡ content = one_content Named Named (lone_tables (4 + disk)).trees (small_content (4 + disk)) content [] passes (holds disk).holds held.holds in
    (same, no_entries former (held.counted ∙ ap (λ (c : Content). length c.rows) (sym same)))

abbrev named_trees : ℕ → Trees
named_trees disk = (lone_tables (4 + disk)).trees

abbrev named_holds : (disk : ℕ) → Holds Named (named_trees disk) (small_content (4 + disk)) []
named_holds disk = (holds disk).holds

clean : (disk : ℕ) → HasCleanDisk (state lone_disk (lone_store disk).inner.conn)
clean disk = clean_with Named named_trees named_holds disk

sound : (disk : ℕ) → IsSoundStore lone_disk (lone_store disk).inner
sound disk = sound_with Named named_trees named_holds disk

in_boot : IsOpened (view_of lone_disk) (lone_store 0) lone_node
in_boot = in_boot_with Named named_trees named_holds

serves_in : ServesIn (view_of lone_disk) (operator_acts (view_of lone_disk)) lone_node lone_node (Some []) (Some lone_events) None None 1 (ResponderAnswers unasked) (Err Clock)
unfolding serves_in_with
serves_in = serves_in_with Named named_trees named_holds

-- ---- the opening

abbrev counts : RowCounts
counts = record { all = 0; enrolled = 0 }

opened : HasOpenedNamed lone_disk shows_any lone_cluster default_limits 0 1 [] [] (lone_store 0) counts
unfolding holds
opened = record {
  conn = (lone_store 0).inner.conn;
  found = λ is_clean. tt;
  seated = record {
    tables = λ is_clean. record {
      roster = [];
      distinct = λ i j d before low. absurd (omega (arith, before, low));
      grown = record { content = small_content 4; passes = []; was = holds 0; now = holds 0; of_node = refl; same_node = refl; seen = refl };
      seated = record { named = refl; apart = record { within = λ i seat e. absurd cc; apart = λ i j seat e f. absurd cc } };
      greatest = λ i seat row own other e f h k. absurd cc;
    };
    sound = sound 0;
    works = refl;
    survives = stays true (λ (d : ℕ). (lone_tables (4 + d)).trees) (lone_store 0).inner.conn _;
  };
  counted = λ is_clean. record {
    roster = [];
    has = record { store = record { schema = refl; boot = 4; self = own_row_has 3 1 0 4 }; entries = λ token entry e. absurd cc; bond = bond_at lone_bond };
    all_rows = refl;
    new_rows = refl;
  };
  each = refl;
  names_apart = λ i j d before low. absurd (omega (arith, before, low));
}

over : IsServedOver (view_of lone_disk) lone_serving [] [] (lone_store 0) (ResponderAnswers unasked) (Err NoClock)
unfolding ipv4_bits
over = record {
  first = lone_node;
  in_boot = in_boot;
  of_book = refl;
  of_limits = refl;
  of_key = refl;
  of_place = refl;
  last = lone_node;
  boot = 5;
  boot_is = λ is_clean. refl;
  floors = [];
  floors_are = λ is_clean. refl;
  gone_back = [];
  known = [];
  served_is = record {
    events = lone_events;
    calls = heard_from (at_local 2);
    of_setup = refl;
    end = Err Clock;
    serves = record {
      calls = lone_events;
      serves = serves_in;
      told = Came (Received (ToLine lone_client) lone_text) ∷ [];
      is_made = refl;
      handed_is = refl;
      joined = Waits (Received (ToLine lone_client) lone_text) ∷ [];
      is_joined = refl;
      told_is = refl;
      below_is = λ events e. let same : lone_events ≡ events = cc in sym same;
    };
    ends = refl;
  };
}

pub served : HasServedNamed lone_disk shows_any lone_cluster 0 lone_serving unasked (Err NoClock) []
served = record { import = record { book = []; floors = []; imported = refl }; found = lone_store 0; counts = counts; opened = opened; over = over }

is_sound : IsSound served lone [] []
unfolding served over serves_in
is_sound = record {
  known = record {
    clean = clean 0;
    has = record { passes = []; holds = holds 0 };
    are_names = record { distinct = λ i j d before low. absurd (omega (arith, before, low)); whole = λ token name e. absurd cc };
    known = λ row entry e. absurd cc;
  };
  members = refl;
  stays = record { at_starts = clean 1; at_end = clean 1 };
  boot = omega arith;
}

pub run_over : IsRunOver lone_disk shows_any (λ (until : ℕ). unasked) lone 1 [] (first_store lone 1) lone_run
unfolding served over opened
run_over = record {
  served = served;
  of_node = refl;
  sound = is_sound;
  holds = λ content passes former held.
      let is = only_content 0 content passes former held in
      λ i. store_by_names [] (is.1 i) (sym is.0 i);
  leaves = (small_content 5, record { clean = clean 1; trees = (lone_tables 5).trees; left = refl; format = Named; passes = []; holds = (holds 1).holds }, refl);
}

-- ---- the order of its steps

pub all_stores : AreAllNamedStores lone_disk shows_any (λ (until : ℕ). unasked) lone [] lone_stores
all_stores zero = tt
all_stores (suc zero) = (run_over, tt)
all_stores (suc (suc node)) = tt

steps_of_run : AreStepsOfRun lone_disk shows_any (λ (until : ℕ). unasked) lone 1 [] (first_store lone 1) lone_run run_over lone_steps
unfolding run_over served over
steps_of_run = record {
  former = [];
  puts = [];
  new = [];
  floors = [];
  body = lone_body;
  kept = [];
  of_one = (tt, tt);
  recorded = refl;
  found = refl;
  are = refl;
  after = refl;
}

are_steps : AreSteps lone 1 (Closed (first_store lone 1)) lone_steps
are_steps = ((refl, refl), (refl, (([], refl), tt)))

all_steps : (node : ℕ) → HaveStepsOf lone_disk shows_any (λ (until : ℕ). unasked) lone node [] (first_store lone node) (lone_stores node) (all_stores node)
unfolding all_stores
all_steps zero = record { steps = []; are_of = refl; are_steps = tt }
all_steps (suc zero) = record { steps = lone_steps; are_of = (lone_steps, [], refl, steps_of_run, refl); are_steps = are_steps }
all_steps (suc (suc node)) = record { steps = []; are_of = refl; are_steps = tt }

pub order : IsOrderOf lone_disk shows_any (λ (until : ℕ). unasked) lone [] lone_stores all_stores lone_items
unfolding all_stores all_steps
order = record {
  has = steps_have_orders lone_disk shows_any (λ (until : ℕ). unasked) lone [] lone_stores all_stores all_steps;
  members = of_members;
  steps = only_member (λ node. HaveHappened lone_disk shows_any (λ (until : ℕ). unasked) lone node [] (first_store lone node) (lone_stores node) (all_stores node) (all_steps node) (steps_at node lone_items)) (record { later = []; all_are = refl });
  replaced = never_replaced lone lone_items of_members (only_member (λ node. KeepStore (steps_at node lone_items)) (tt, (tt, (tt, tt))));
  starts = λ i envelope at. absurd cc;
  caused = (tt, omega arith, (tt, tt, (tt, tt, tt)));
}
  where
    of_members : AreOfMembers lone lone_items
    of_members = (refl, (refl, (refl, tt)))
