-- Four maps are their list, and a map joined with that of no place is itself.
use lib.Bits.{or_zero_r}
use Rattle.place_map.proofs.Bits.{four}

pub ruleset joined = (or_zero_r, four)
