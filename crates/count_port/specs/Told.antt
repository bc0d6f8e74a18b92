-- What a port tells of what it counted.
use Rattle.std.specs.Prelude.{◌≡◌, List, map}
use Rattle.gatekeeping.specs.declared.counters.Counters.{Counters}
use Rattle.sealed_port.specs.declared.cause.Unopened.{Unopened}
use Rattle.count_port.specs.Counts.{ticks_of}
use Rattle.count_port.specs.Members.{seen_of}
use Rattle.count_port.specs.declared.batches.Batches.{Batches}
use Rattle.count_port.specs.declared.counts.Counts.{Counts}
use Rattle.count_port.specs.declared.members.Member.{Member}

-- the counters are those of the datagrams, of the batches, of what was not opened, and of the members
pub record Tells (counts : Counts) (batches : Batches) (sums : Unopened) (members : List Member)
    (told : Counters) : Type 0 where
  pub received : told.received ≡ counts.received
  pub replied : told.replied ≡ counts.replied
  pub accepted : told.accepted ≡ counts.accepted
  pub refused : told.refused ≡ counts.refused
  pub ticks : told.ticks ≡ ticks_of counts
  pub largest_batch : told.largest_batch ≡ batches.largest
  pub commit_times : told.commit_times ≡ batches.times
  pub unopened : told.unopened ≡ sums
  pub others : told.others.items ≡ map seen_of members
