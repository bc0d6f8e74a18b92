use Rattle.std.proofs.Common.{length}
use Rattle.oathd_words.proofs.members.+are_different.Given as goal

abbrev pub decreases-are_different : goal.decreases-are_different
decreases-are_different l = length l.addresses.now
