use Rattle.std.proofs.Common.{◌-◌, length}
use Rattle.lister.proofs.listing.ListingDisplay.fmt.Given as goal

abbrev pub decreases-loop-placed : goal.decreases-loop-placed
decreases-loop-placed g l = length l.reader.bytes.now - l.reader.at
