-- TEI management tells of an event one note and one order at most.
use Rattle.model_teis.proofs.OfNetwork.Vocabulary.{Event, told, Management}
use Rattle.model_teis.proofs.OfNetwork.Counted.{counts}
pub use Rattle.model_teis.proofs.OfNetwork.Counted.{IsBrief}

pub told_brief : (e : Event) (m : Management) → IsBrief (told e m)
told_brief e m = (counts e m).brief
