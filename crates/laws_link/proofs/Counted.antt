-- What a link keeps, and the contents that were accepted since its numbers began.
use Rattle.laws_link.proofs.Vocabulary.{Terms, Link, Event, after, IsSound, share, IsKept}
use Rattle.laws_link.proofs.Keeping.{event-done}

pub kept-after : (t : Terms) (e : Event) (l : Link) → IsSound t l → IsKept (share t e l) l (after t e l)
kept-after t e l s = (event-done t l s e).comes.kept
