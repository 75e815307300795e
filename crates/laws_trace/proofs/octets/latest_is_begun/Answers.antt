-- The law is that of LatestIsBegun.
use Rattle.laws_trace.proofs.OfOctets.LatestIsBegun.{latest-is-begun}
use Rattle.laws_trace.proofs.octets.latest_is_begun.Goals as goal

pub returns : goal.returns
returns c = latest-is-begun
