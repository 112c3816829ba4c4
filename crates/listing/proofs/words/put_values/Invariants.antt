use lib.ListN.{take}
use Rattle.listing.specs.Put.{Puts}
use Rattle.listing.proofs.Values.{texts}
use Rattle.listing.proofs.words.put_values.Given as goal

abbrev pub invariant-loop-value : goal.invariant-loop-value
invariant-loop-value l = Puts (texts (take l.value-index l.row)) l.fn.out l.at l.out l.place
