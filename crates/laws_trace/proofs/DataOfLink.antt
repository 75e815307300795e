-- What an event of a link is to the contents that it keeps: what is acknowledged of them, and what is accepted.
use Rattle.laws_trace.proofs.Vocabulary.{◌≡◌, ◌+◌, ◌≤◌, Bool, false, [], arith, is_some, Terms, requested, Link, is_multiple_frame, named-within, accepted, LinkEvent as Event, LinkRequest as Request, acknowledged}
use Rattle.laws_trace.proofs.Facts.{either-none}

-- What is acknowledged had gone.
pub acknowledged-went : (t : Terms) (e : Event) (l : Link) → l.a ≤ l.s → l.a + acknowledged t e l ≤ l.s
acknowledged-went t e l ordered = grind (arith, named-within)

-- No data is accepted but in states 7 and 8.
none-asked : (t : Terms) (request : Request) (full : Bool) (l : Link) → is_multiple_frame l.state ≡ false → accepted t (requested request full) l ≡ []
none-asked t request full l down = grind (arith, is_some, either-none)

pub none-accepted : (t : Terms) (e : Event) (l : Link) → is_multiple_frame l.state ≡ false → accepted t e l ≡ []
none-accepted t e l down = grind (arith, none-asked)
