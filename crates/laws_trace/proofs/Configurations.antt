-- Which configurations are in range, and which field the check of another names: the law.
use Rattle.laws_trace.proofs.Vocabulary.{◌≡◌, None, refl, arith, le-leb, Config, first_fault, IsInRange, ranges_of}
use Rattle.model_line.specs.Config.{sapi_fault}
use Rattle.laws_trace.specs.Configurations.{FirstFaultsAreNamed, HasRanges, RangesAreServed}

no-fault : (c : Config) → HasRanges c → first_fault c ≡ None
unfolding sapi_fault
no-fault c h = grind (arith, le-leb)

has-ranges : (c : Config) → IsInRange c → HasRanges c
has-ranges c ranged = grind (arith, ranges_of)

pub ranges-are-served : RangesAreServed
ranges-are-served c = (no-fault c, has-ranges c)

pub first-faults-are-named : FirstFaultsAreNamed
unfolding sapi_fault
first-faults-are-named c = refl
