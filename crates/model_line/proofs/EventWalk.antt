-- An event is a call for the next frame, or what it is to the parts of a line.
use Rattle.model_line.proofs.Vocabulary.{Config, Event, hears, expiry, request, next, Line, after, of_aim, taken, line_of, option_map_or, aim_of}

pub by_part : (c : Config) (l : Line) (P : Event → Line → Type 0) → ((e : Event) → P e (of_aim c (aim_of c e l) l).line) → P next (option_map_or line_of (taken c l) l)
    → (e : Event) → P e (after c e l)
unfolding after
by_part c l P parts calls (hears e) = parts (hears e)
by_part c l P parts calls (expiry timer) = parts (expiry timer)
by_part c l P parts calls (request r) = parts (request r)
by_part c l P parts calls next = calls
