-- Hand-written answers for `places_are_names`.
use Rattle.lapd_count.proofs.Places.{places_are_names}
use Rattle.lapd_count.proofs.laws.places_are_names.Goals as goal

pub returns : goal.returns
returns c = places_are_names
