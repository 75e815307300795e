-- The memory in which a card or a clock lies.
use Rattle.std.specs.Prelude.{Option, None, Some}
use base.Fml.{Fml, ftrue}
use denote.RattleType.{RattleType}
use denote.RawPtr.{Ptr}
use Rattle.std.specs.declared.alloc.Global.{Global}
use Rattle.std.specs.contracts.impls.GlobalAllocator.TheImpl.{ghosts}
use Rattle.std_alloc.specs.Box.Ownership.{box_owns}
use Rattle.lapd_clock.specs.Timers.{Timers}
use Rattle.lapd_clock.specs.contracts.clock.Clock as clock
use Rattle.lapd_c.specs.declared.kept.KeptCard.{KeptCard}
use Rattle.lapd_c.specs.contracts.kept.KeptCard as card

abbrev pub heap : Global
heap = record { memory = record { seal = tt } }

-- What stands at a place: the value that is held, if one is, with the right to free it.
abbrev pub slot_owns : (R : RattleType) → Ptr → Option R.Denot → Fml
slot_owns R at None = ftrue
slot_owns R at (Some x) = box_owns (ghosts.dealloc_token heap) R at x

-- A card of either kind, or none; and a clock, or none.
abbrev pub card_row : RattleType
card_row = card.the_row

abbrev pub HeldCard : Type 0
HeldCard = Option KeptCard

abbrev pub clock_row : RattleType
clock_row = clock.the_row

abbrev pub HeldClock : Type 0
HeldClock = Option Timers
