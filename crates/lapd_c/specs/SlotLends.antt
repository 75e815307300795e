-- What holds a card or a clock ends with what it lent in its place.
use Rattle.std.specs.Prelude.{Option, Some}
use Rattle.std.specs.Borrow.{Fml, RattleType, MutBor, Lends, LendsIf}
use Rattle.lapd_clock.specs.Timers.{Timers}
use Rattle.lapd_c.specs.declared.card.CardHandle.{CardHandle}
use Rattle.lapd_c.specs.declared.clock.ClockHandle.{ClockHandle}
use Rattle.lapd_c.specs.declared.kept.KeptCard.{KeptCard}
use Rattle.lapd_c.specs.declared.slot.CardSlot.{CardSlot}
use Rattle.lapd_c.specs.declared.slot.ClockSlot.{ClockSlot}
use Rattle.lapd_c.specs.declared.slot.BoxSlot.{BoxSlot}
use Rattle.lapd_c.specs.contracts.card.CardHandle as cards
use Rattle.lapd_c.specs.contracts.clock.ClockHandle as clocks
use Rattle.lapd_c.specs.contracts.slot.CardSlot as of_card
use Rattle.lapd_c.specs.contracts.slot.ClockSlot as of_clock
use Rattle.lapd_c.specs.contracts.slot.BoxSlot as slot
use Rattle.lapd_c.specs.Slots.{card_row, clock_row}

abbrev pub with_held : {X : Type 0} → BoxSlot X → X → BoxSlot X
with_held s x = record s { held = Some x }

abbrev pub LendsHeld : (R : RattleType) → MutBor (BoxSlot R.Denot) → MutBor R.Denot → Fml
LendsHeld R s r = Lends (slot.the_row R) R s r (with_held s.now)

-- The place in C holds what the place of any value holds.
abbrev pub LendsCardSlot : MutBor CardSlot → MutBor (BoxSlot KeptCard) → Fml
LendsCardSlot s r = Lends of_card.the_row (slot.the_row card_row) s r (λ w. record { at = w.at; card = w.held })

abbrev pub LendsClockSlot : MutBor ClockSlot → MutBor (BoxSlot Timers) → Fml
LendsClockSlot s r = Lends of_clock.the_row (slot.the_row clock_row) s r (λ w. record { at = w.at; clock = w.held })

abbrev pub LendsCardIf : MutBor CardHandle → Option (MutBor KeptCard) → Fml
LendsCardIf h r = LendsIf cards.the_row card_row h r (λ c. record h.now { slot = record h.now.slot { card = Some c } }) h.now

abbrev pub LendsClockIf : MutBor ClockHandle → Option (MutBor Timers) → Fml
LendsClockIf h r = LendsIf clocks.the_row clock_row h r (λ c. record h.now { slot = record h.now.slot { clock = Some c } }) h.now
