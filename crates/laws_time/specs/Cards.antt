-- A card that keeps its own timers is a card at which the same happens, and whose timers expire as they fall due.
use Rattle.std.specs.Prelude.{◌≡◌, ◌≤◌, ◌<◌, ℕ, ◌+◌, Bool, true, false, List, [], ◌∷◌, ◌++◌, All, fold, option_map, option_to_list}
use Rattle.lapd_clock.specs.Timer.{Timer, Order, Lengths, standard, first_out_of_range}
use Rattle.lapd_clock.specs.Timers.{Expiry}
use Rattle.lapd_clock.specs.declared.fault.LengthFault.TheVariants as fault
use Rattle.model_line.specs.Event as line
use Rattle.model_line.specs.Event.{LineTold}
use Rattle.model_line.specs.Laws.{orders_in as line_orders_in}
use Rattle.model_card.specs.Card.{Card}
use Rattle.model_card.specs.Event as frame
use Rattle.model_card.specs.Machine as machine
use Rattle.model_card.specs.ports.Card as ports
use Rattle.model_card.specs.ports.Card.{OctetCard}
use Rattle.model_card.specs.ports.Event as octet
use Rattle.model_card.specs.ports.Port as port
use Rattle.model_timed.specs.Clock.{Clock, due, with_lengths}
use Rattle.model_timed.specs.Frames.{frames}
use Rattle.model_timed.specs.Octets.{octets, orders_in}
use Rattle.model_timed.specs.Timed.{Kind, Timed, Step, happens, time, falls_due, after, after_all, ArePrompt}
use Rattle.laws_trace.specs.Configurations.{is_out, first_of}

-- What happens at the card by some steps: the events, and of each timer that falls due the event that it expires.
unfoldable pub happened : {Card Event : Type 0} → Kind Card Event → (ℕ → Timer → Event) → List (Step Event) → Timed Card → List Event
happened k expires [] t = []
happened k expires (happens e ∷ steps) t = e ∷ happened k expires steps (after k (happens e) t)
happened k expires (time moment ∷ steps) t = happened k expires steps (after k (time moment) t)
happened k expires (falls_due ∷ steps) t =
    option_to_list (option_map (λ (x : Expiry). expires x.line x.timer) (due t.clock)) ++ happened k expires steps (after k falls_due t)

-- The card is where these events lead a card without timers of its own.
abbrev pub led_by : {Card Event : Type 0} → (Event → Card → Card) → Card → Event → Card
led_by leads card e = leads e card

abbrev pub IsACard : {Card Event : Type 0} → Kind Card Event → (Event → Card → Card) → (ℕ → Timer → Event) → Type 0
IsACard {Card} {Event} k leads expires =
    (steps : List (Step Event)) (t : Timed Card) → (after_all k steps t).card ≡ fold (led_by leads) t.card (happened k expires steps t)

-- Laws of steps that are prompt speak of all steps at which events may happen, time does not go back, nor over the moment of a timer
-- that runs and so many milliseconds more.
unfoldable pub MayGoOn : {Card Event : Type 0} → Kind Card Event → (Event → Card → Type 0) → ℕ → List (Step Event) → Timed Card → Type 0
MayGoOn k May late [] t = Unit {0}
MayGoOn k May late (happens e ∷ steps) t = May e t.card × MayGoOn k May late steps (after k (happens e) t)
MayGoOn k May late (time moment ∷ steps) t =
    (t.clock.now ≤ moment) × All (λ (x : Expiry). moment ≤ x.moment + late) t.clock.running × MayGoOn k May late steps (after k (time moment) t)
MayGoOn k May late (falls_due ∷ steps) t = MayGoOn k May late steps (after k falls_due t)

abbrev pub ServesAll : {Card Event : Type 0} → Kind Card Event → (Event → Card → Type 0) → Type 0
ServesAll {Card} {Event} k May = (late : ℕ) (steps : List (Step Event)) (t : Timed Card) → MayGoOn k May late steps t → ArePrompt k late steps t

-- Any event may happen at a line that the card has, except an expiry, as expiries are the clock's.
abbrev pub is_expiry : line.Event → Bool
is_expiry (line.expiry timer) = true
is_expiry other = false

abbrev pub is_octets_expiry : port.Event → Bool
is_octets_expiry (port.expiry timer) = true
is_octets_expiry other = false

abbrev pub MayHappen : frame.Event → Card → Type 0
MayHappen e card = (e.line < card.config.lines) × (is_expiry e.what ≡ false)

abbrev pub MayHappenToOctets : octet.Event → OctetCard → Type 0
MayHappenToOctets e m = (e.line < m.card.config.lines) × (is_octets_expiry e.what ≡ false)

pub record TimedCardsAreCards : Type 0 where
  pub of_frames : IsACard frames machine.after (λ number timer. frame.at number (line.expiry timer))
  pub of_octets : IsACard octets ports.after (λ number timer. octet.at number (port.expiry timer))
  pub frames_go_on : ServesAll frames MayHappen
  pub octets_go_on : ServesAll octets MayHappenToOctets
  -- Of either kind the orders are carried out that stand in an answer, of a card of octets these.
  pub orders_of_frames : (e : frame.Event) (card : Card) → frames.orders e card ≡ line_orders_in (machine.answer e card)
  pub orders_of_octets : (e : octet.Event) (m : OctetCard) → octets.orders e m ≡ orders_in (ports.answer e m)
  pub orders : (t : LineTold) → orders_in (port.told t) ≡ t.orders
  pub orders_pulled : (value : ℕ) (begun : Bool) (its : List Order) → orders_in (port.pulled value begun its) ≡ its
  -- New lengths are those of a clock from then on, and all else stays. The usual ones are those of Q.921 (clauses 5.9.1 and 5.9.6 to
  -- 5.9.8).
  pub lengths : (new : Lengths) (c : Clock) → with_lengths new c ≡ record c { lengths = new }
  pub usual : standard ≡ record { t200 = 1000; t203 = 10000; t201 = 1000; t202 = 2000 }
  -- Each runs a millisecond at least, and an hour at most; of those that are out of this range the first is named (profile).
  pub ranges : (l : Lengths) → first_out_of_range l
      ≡ first_of ((is_out 1 3600000 l.t200, fault.T200) ∷ (is_out 1 3600000 l.t203, fault.T203) ∷ (is_out 1 3600000 l.t201, fault.T201) ∷ (is_out 1 3600000 l.t202, fault.T202) ∷ [])
