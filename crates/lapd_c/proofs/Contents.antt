-- Contents that an answer delivers have at most N201 octets.
use Rattle.lapd_c.proofs.Vocabulary.{◌≡◌, ℕ, ◌≤◌, Answer, Card, OctetCard, option_map, Bool, true, false, cond, List, length, Option, None, nat_lt, refl, sym, subst, arith, leb-true, ltb-false, and_parts, option_or, option_map_or, Control, Ui, State, Terms, Refusal, Arrived, eligible_of, information_in, Link, Course, begun, by_bit, leave_unserved, deliver_unit, delivered-at_once, Fits, FitsEvent}
use Rattle.lapd_c.proofs.Vocabulary.{Kept, frame_row, event_row, Change, Config, hears, expiry, request, next, nothing, told_of_management, of_link, of_change, of_management, of_aim, without_units, event_aims, Effect, Line, unless_refused_told, refusal, Service, contents_or_none, contents_in, ContentsFit}
use Rattle.std.proofs.Common.{Some}
use Rattle.model_link.specs.Events as link
use Rattle.model_link.specs.Machine as links
use Rattle.model_teis.specs.network.Events as teis
use Rattle.model_teis.specs.declared.changes.Change.TheVariants.{Gained, Left}
use Rattle.model_teis.specs.terminal.Events as terminals
use Rattle.model_line.specs.Effect.{at_a_terminal, of_network, of_terminal, of_terminal_if}
use Rattle.model_line.specs.Event.{Event, LineTold}
use Rattle.model_line.specs.Line.{is_terminal, terminal_in, with_terminal}
use Rattle.model_line.specs.Machine.{aim_of, answer}
use Rattle.model_card.specs.Event as frames
use Rattle.model_card.specs.Machine.{answer as frames_answer}
use Rattle.model_card.specs.ports.Card.{answer_to}
unfoldable use Rattle.model_card.specs.ports.Card.{answer as octets_answer}
use Rattle.model_card.specs.ports.Event as octets
use Rattle.model_card.specs.ports.Port as port

abbrev IsSmall : ℕ → Option (List ℕ) → Type 0
IsSmall most o = length (contents_or_none o) ≤ most

-- every word of a link's tables tells no unit data, but that which tells them
pub record NoUnit (unit : Option (List ℕ)) : Type 0 where
  pub none : unit ≡ None

abbrev No : Course → Type 0
No c = NoUnit c.unit

none-told : {unit : Option (List ℕ)} → ⊥ → NoUnit unit
none-told may = absurd may

words : (t : Terms) → Kept t ⊥ (Unit {0}) (Unit {0}) No (λ p q c. No c) No
words t = search none-told depth 12 fits 4000

few : (most : ℕ) (o : Option (List ℕ)) → NoUnit o → IsSmall most o
few most o h = subst (IsSmall most) (sym h.none) (omega arith)

-- what an event of a link tells
module _ (t : Terms) where
  eligible-small : (l : Link) (o : Option Arrived) (i : Arrived) → eligible_of t l o ≡ Some i → length i.contents ≤ t.n201
  eligible-small l o i e = grind (arith, leb-true, and_parts)

  delivered-small : (e : link.Event) (l : Link) → IsSmall t.n201 (links.told t e l).delivered
  delivered-small e l = go (links.told t e l).delivered refl
    where
      go : (o : Option (List ℕ)) → (links.told t e l).delivered ≡ o → IsSmall t.n201 o
      go None is = omega arith
      go (Some contents) is =
          let arrived = delivered-at_once t e l contents is in
          subst (λ (c : List ℕ). length c ≤ t.n201) arrived.2 (eligible-small l (information_in e) arrived.0 arrived.1)

  -- a UI frame that is longer is not served
  units : (b : Bool) (octets : List ℕ) (l : Link) → nat_lt t.n201 (length octets) ≡ b → IsSmall t.n201 (by_bit b leave_unserved (deliver_unit t octets) (begun l)).unit
  units true octets l is = omega arith
  units false octets l is = ltb-false t.n201 (length octets) is

  unit-small : (here : State) (b p : Bool) (octets : List ℕ) (l : Link) → IsSmall t.n201 (links.frame_in here t b octets (Ui p) (begun l)).unit
  unit-small here b p octets l = grind (arith, units)

  begins : (l : Link) → No (begun l)
  begins l = record { none = refl }

  row-small : (b : Bool) (octets : List ℕ) (control : Control) → Fits ⊥ (Unit {0}) (Unit {0}) control → (l : Link) → IsSmall t.n201 (links.frame_step t b octets control (begun l)).unit
  row-small b octets control may l = few t.n201 _ ((frame_row (words t) l.state b octets control may).leads (begun l) (begins l))

  frame-small : (b : Bool) (octets : List ℕ) (control : Control) (l : Link) → IsSmall t.n201 (links.frame_step t b octets control (begun l)).unit
  frame-small b octets control l = grind (arith, unit-small, row-small)

  other-small : (e : link.Event) → FitsEvent ⊥ (Unit {0}) (Unit {0}) e → (l : Link) → IsSmall t.n201 (links.told t e l).unit
  other-small e may l = few t.n201 _ ((event_row (words t) e may).leads (begun l) (begins l))

  units-small : (e : link.Event) (l : Link) → IsSmall t.n201 (links.told t e l).unit
  units-small e l = grind (arith, frame-small, other-small)

either_small : (most : ℕ) (d u : Option (List ℕ)) → IsSmall most d → IsSmall most u → IsSmall most (option_or d u)
either_small most None u x y = y
either_small most (Some contents) u x y = x

-- and an event of a line
module _ (c : Config) (l : Line) where
  link-small : (service : Service) (tei place : ℕ) (e : link.Event) → IsSmall c.n201 (of_link c service tei place e l).told.contents
  link-small service tei place e = grind (arith, either_small, delivered-small, units-small)

-- TEI management tells no contents, whatever the side
module _ (c : Config) where
  change-small : (o : Option Change) (t : LineTold) (l : Line) → IsSmall c.n201 t.contents → IsSmall c.n201 (of_change c o t l).told.contents
  change-small None t l h = h
  change-small (Some (Gained tei place)) t l h = h
  change-small (Some (Left tei place)) t l h = h

  network-small : (e : teis.Event) (l : Line) → IsSmall c.n201 (of_network c e l).told.contents
  network-small e l = let t = teis.told e l.management in change-small t.change (told_of_management t) (record l { management = teis.after e l.management }) (omega arith)

  terminal-small : (e : terminals.Event) (l : Line) → IsSmall c.n201 (of_terminal c e l).told.contents
  terminal-small e l =
      let t = terminals.told e (terminal_in l) in
      change-small t.change (told_of_management t) (with_terminal (terminals.after e (terminal_in l)) l) (omega arith)

  terminal_if-small : (o : Option terminals.Event) (l : Line) → IsSmall c.n201 (of_terminal_if c o l).told.contents
  terminal_if-small None l = omega arith
  terminal_if-small (Some e) l = terminal-small e l

  side-small : (b : Bool) (e : teis.Event) (l : Line) → IsSmall c.n201 (cond b (of_terminal_if c (at_a_terminal e) l) (of_network c e l)).told.contents
  side-small true e l = terminal_if-small (at_a_terminal e) l
  side-small false e l = network-small e l

  management-small : (e : teis.Event) (l : Line) → IsSmall c.n201 (of_management c e l).told.contents
  management-small e l = side-small (is_terminal c) e l

  aim-small : (l : Line) (e : Event) → IsSmall c.n201 (of_aim c (aim_of c e l) l).told.contents
  aim-small l e =
      event_aims c l (λ takes aim. IsSmall c.n201 (of_aim c aim l).told.contents) (λ takes. omega arith) (λ cause. omega arith)
      (λ parts service to. to.size) (λ service tei place e at. link-small c l service tei place e) (λ e range. management-small e l)
      (λ e proper. terminal-small e l) (λ unit is few. omega arith) (management-small teis.down (without_units l)) e

  answered-small : (o : Option Refusal) (x : Effect) → IsSmall c.n201 x.told.contents → IsSmall c.n201 (contents_in (unless_refused_told o x))
  answered-small None x h = h
  answered-small (Some why) x h = omega arith

  line-small : (e : Event) (l : Line) → IsSmall c.n201 (contents_in (answer c e l))
  unfolding answer
  line-small (hears e) l = aim-small l (hears e)
  line-small (expiry timer) l = aim-small l (expiry timer)
  line-small (request r) l = answered-small (refusal c false r l) _ (aim-small l (request r))
  line-small next l = omega arith

-- and of a card
pub contents_fit : ContentsFit
contents_fit card e = grind (arith, line-small)

-- and so do those of a card of octets, which are what its card of frames says
abbrev pub contents_told : port.Answer → Option (List ℕ)
contents_told (port.told t) = t.contents
contents_told (port.refused why) = None
contents_told (port.pulled value begun orders) = None

passed-on : (most : ℕ) (a : Answer) → IsSmall most (contents_in a) → IsSmall most (contents_told (port.answer_of a))
passed-on most a h = grind arith

said-small : (card : Card) (o : Option frames.Event) → IsSmall card.config.n201 (contents_told (option_map_or port.answer_of (option_map (answer_to card) o) (port.told nothing)))
said-small card None = omega arith
said-small card (Some e) = passed-on card.config.n201 (frames_answer e card) (contents_fit card e)

pub replies_fit : (m : OctetCard) (e : octets.Event) → length (contents_or_none (contents_told (octets_answer e m))) ≤ m.card.config.n201
unfolding octets_answer
replies_fit m e = grind (arith, said-small)
