-- What a card's machine answers fits a report.
use Rattle.std.specs.Prelude.{ℕ, ◌≤◌, List, length, Option, None}
use Rattle.model_line.specs.Event.{Answer, told, refused, gave}
use Rattle.model_card.specs.Card.{Card}
use Rattle.model_card.specs.Event.{Event}
use Rattle.model_card.specs.Machine.{answer}
use Rattle.lapd_c.specs.Reports.{contents_or_none}

-- The contents that an answer delivers.
abbrev pub contents_in : Answer → Option (List ℕ)
contents_in (told t) = t.contents
contents_in (refused why) = None
contents_in (gave next) = None

-- They have at most N201 octets: from any card on, whatever happens.
abbrev pub ContentsFit : Type 0
ContentsFit = (card : Card) (e : Event) → length (contents_or_none (contents_in (answer e card))) ≤ card.config.n201
