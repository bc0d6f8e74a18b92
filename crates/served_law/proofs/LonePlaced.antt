-- The run of the node alone by place.
use Rattle.std.proofs.Common.{ℕ, zero, suc, ◌+◌, true, [], Some, refl, arith}
use Rattle.std.specs.Prelude.{Err}
use Rattle.std.proofs.lemmas.List.Sorted.{IsPermutation-refl}
use Rattle.std.specs.Net.Addr.{ipv4_bits}
use Rattle.sqlite.specs.Tree.{Trees}
use Rattle.floor_sql.specs.Broken.{small_content, tables_at}
use Rattle.floor_sql.specs.Stored.{Holds}
use Rattle.floor_sql.specs.declared.schema.Format.TheVariants.{Numbered}
use Rattle.floor_sql.proofs.BrokenLemmas.{own_row_has}
use Rattle.oath_node.specs.declared.serve_fault.ServeFault.TheVariants.{Clock}
use Rattle.udp_port.specs.Examples.{at_local, heard_from}
use Rattle.node_serving.specs.Stretches.{unasked}
use Rattle.node_reports.specs.Responder.{ResponderAnswers}
use Rattle.oathd_database.specs.Broken.{shows_any}
use Rattle.oathd_database.specs.Commands.{HasOpened}
use Rattle.oathd_database.specs.declared.fault.Fault.TheVariants.{NoClock}
use Rattle.oathd_database.proofs.BrokenLemmas.{stays}
use Rattle.store_serving.specs.Broken.{booting}
use Rattle.store_serving.specs.Placed.{HasServed, IsServedPlaced}
use Rattle.book_law.specs.Uses.{first_store}
use Rattle.order_law.specs.Interleavings.{AreOfMembers, steps_at}
use Rattle.order_law.specs.Steps.{AreSteps, Closed}
use Rattle.order_law.proofs.Examples.{only_member}
use Rattle.order_law.proofs.Stores.{KeepStore, never_replaced}
use Rattle.served_law.specs.LoneRun.{lone, lone_body, lone_events, lone_items, lone_placed_run, lone_placed_stores, lone_serving, lone_steps, node_over, store_over}
use Rattle.served_law.specs.Placed.{AreStepsOfPlaced, IsPlacedOrder, IsPlacedRunOver, IsSoundPlaced, placed_runs}
use Rattle.served_law.specs.Runs.{view_of}
use Rattle.served_law.specs.Uses.{AreAllStores, HaveMadeSteps, HaveStoreSteps}
use Rattle.served_law.proofs.LoneRun.{clean_with, in_boot_with, serves_in_with, sound_with}
use Rattle.served_law.proofs.PlacedRuns.{placed_in_order}

abbrev trees : ℕ → Trees
trees disk = tables_at (4 + disk) []

holds : (disk : ℕ) → Holds Numbered (trees disk) (small_content (4 + disk)) []
holds disk = record { rows = λ token row e. absurd cc; node = 1; self = own_row_has 2 1 0 (4 + disk); pass = IsPermutation-refl []; last = refl }

opened : HasOpened booting shows_any (Some 1) 0 (store_over Numbered 0).inner
unfolding holds
opened = record {
  conn = (store_over Numbered 0).inner.conn;
  found = λ is_clean. tt;
  node = 1;
  is_given = refl;
  opened = record {
    content = λ is_clean. record { schema = refl; passes = []; holds = holds 0; of_node = refl; of_tokens = refl; counted = refl };
    sound = sound_with Numbered trees holds 0;
    kept = record {
      idle = refl;
      read = λ is_clean. record { is_open = refl; now = refl; committed = refl };
      survives = stays true trees (store_over Numbered 0).inner.conn (λ left. ⊥);
    };
  };
}

over : IsServedPlaced (view_of booting) lone_serving [] (store_over Numbered 0) (ResponderAnswers unasked) (Err NoClock)
unfolding ipv4_bits
over = record {
  first = node_over Numbered;
  in_boot = in_boot_with Numbered trees holds;
  of_book = refl;
  of_limits = refl;
  of_key = refl;
  of_place = refl;
  last = node_over Numbered;
  served_is = record {
    events = lone_events;
    calls = heard_from (at_local 2);
    of_setup = refl;
    end = Err Clock;
    serves = serves_in_with Numbered trees holds;
    ends = refl;
  };
}

pub served : HasServed booting shows_any lone_serving unasked (Err NoClock) []
served = record { import = record { book = []; floors = []; imported = refl }; found = (store_over Numbered 0).inner; opened = opened; rows = refl; over = over }

is_sound : IsSoundPlaced served lone
unfolding served over serves_in_with
is_sound = record {
  members = refl;
  stays = record { at_starts = clean_with Numbered trees holds 1; at_end = clean_with Numbered trees holds 1 };
  boot = omega arith;
}

pub run_over : IsPlacedRunOver booting shows_any lone 1 (first_store lone 1) lone_placed_run
unfolding served over
run_over = record {
  served = served;
  of_node = refl;
  sound = is_sound;
  holds = refl;
  leaves = (small_content 5, record { clean = clean_with Numbered trees holds 1; trees = tables_at 5 []; left = refl; format = Numbered; passes = []; holds = holds 1 }, refl);
}

-- ---- the order of its steps

pub all_stores : AreAllStores (placed_runs booting shows_any lone) lone_placed_stores
all_stores zero = tt
all_stores (suc zero) = (run_over, tt)
all_stores (suc (suc node)) = tt

are_steps : AreSteps lone 1 (Closed (first_store lone 1)) lone_steps
are_steps = ((refl, refl), (refl, (([], refl), tt)))

steps_of_run : AreStepsOfPlaced booting shows_any lone 1 (first_store lone 1) lone_placed_run run_over lone_steps
unfolding run_over served over serves_in_with
steps_of_run = record {
  in_order = record {
    tokens = [];
    tokens_are = refl;
    has = record { steps = lone_body; kept = []; of_one = (tt, tt); are = are_steps; ends = refl; recorded = refl; cleared = refl };
  };
  are = refl;
}

all_steps : (node : ℕ) → HaveStoreSteps (placed_runs booting shows_any lone) node (first_store lone node) (lone_placed_stores node) (all_stores node)
unfolding all_stores
all_steps zero = record { steps = []; are_of = refl; are_steps = tt }
all_steps (suc zero) = record { steps = lone_steps; are_of = (lone_steps, [], refl, steps_of_run, refl); are_steps = are_steps }
all_steps (suc (suc node)) = record { steps = []; are_of = refl; are_steps = tt }

pub order : IsPlacedOrder booting shows_any lone lone_placed_stores all_stores lone_items
unfolding all_stores all_steps
order = record {
  has = placed_in_order booting shows_any lone lone_placed_stores all_stores all_steps;
  members = of_members;
  steps = only_member (λ node. HaveMadeSteps (placed_runs booting shows_any lone) node (first_store lone node) (lone_placed_stores node) (all_stores node) (all_steps node) (steps_at node lone_items)) (record { later = []; all_are = refl });
  replaced = never_replaced lone lone_items of_members (only_member (λ node. KeepStore (steps_at node lone_items)) (tt, (tt, (tt, tt))));
  starts = λ i envelope at. absurd cc;
  caused = (tt, (tt, (tt, tt)));
}
  where
    of_members : AreOfMembers lone lone_items
    of_members = (refl, (refl, (refl, tt)))
