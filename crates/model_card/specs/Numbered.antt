-- Numbered deliveries (Q.921 clause 5.6.2): what a link delivers since its establishment.
use Rattle.std.specs.Prelude.{◌≡◌, ℕ, ◌+◌, ◌%◌, ◌==◌, ◌&&◌, Bool, List, length, Option, Some, None, option_to_list, if◌then◌else◌}
use Rattle.model_link.specs.Deliveries.{Arrived}
use Rattle.model_line.specs.Deliveries as line
use Rattle.model_line.specs.Line.{link_at}
use Rattle.model_card.specs.Card.{Card, line_at}
use Rattle.model_card.specs.Run.{Moment}

-- A link of a card: the line, and its number there.
pub record LinkName : Type 0 where
  pub line : ℕ
  pub number : ℕ

-- What a moment at its line is to a link: the eligible I-frame that it brings,
abbrev pub is_at : LinkName → Moment → Bool
is_at name m = m.event.line == name.line

abbrev pub arrived : LinkName → Moment → Option Arrived
arrived name m = if is_at name m then line.arrived m.card.config name.number m.event.what (line_at name.line m.card) else None

-- the contents that its answer delivers,
abbrev pub delivered : LinkName → Moment → Option (List ℕ)
delivered name m = if is_at name m then line.delivered name.number (line_at name.line m.card) m.answer else None

-- and whether it is an establishment of the link, or its end: its numbers become 0.
abbrev pub restarts : LinkName → Moment → Bool
restarts name m = is_at name m && line.restarts m.card.config name.number m.event.what (line_at name.line m.card)

-- V(R): how many were delivered since then.
abbrev pub received_by : LinkName → Card → ℕ
received_by name card = (link_at name.number (line_at name.line card)).r

-- The contents of an eligible I-frame, where its N(S) is that of delivery i.
abbrev pub contents_numbered : ℕ → Option Arrived → Option (List ℕ)
contents_numbered i None = None
contents_numbered i (Some frame) = if frame.ns.value == i % 128 then Some frame.contents else None

-- Deliveries are counted from 0 on since an establishment. Delivery i is the contents of the first eligible frame after that of
-- delivery i - 1 whose N(S) is i modulo 128, in that frame's moment; a moment that brings no such frame delivers nothing.
abbrev pub IsNext : LinkName → Moment → Type 0
IsNext name m = delivered name m ≡ (if restarts name m then None else contents_numbered (received_by name m.card) (arrived name m))

abbrev pub one_more : LinkName → ℕ → Moment → ℕ
one_more name i m = if restarts name m then 0 else i + length (option_to_list (delivered name m))
