-- What an event of a line is to the link of a service with a TEI, at whatever place the TEI is: one event of this link,
-- its deactivation, or none.
use Rattle.laws_trace.proofs.Vocabulary.{spelling, cond, with_unit, with_message, taken, information_of, Ui, own_side}
use Rattle.model_teis.specs.network.Events as teis
use Rattle.model_teis.specs.terminal.Events as terminals
use Rattle.model_teis.specs.declared.terminal.messages.Message.{Message as OwnMessage}
use Rattle.model_teis.specs.terminal.Messages.{frame_of as own_frame_of, information_of as own_information_of}
use Rattle.model_line.specs.Line.{is_terminal, terminal_in}
use Rattle.model_line.specs.Taken.{message_taken, unit_taken, with_own_message}
use Rattle.laws_trace.proofs.ReadAgain.{message-text, own-text}
use Rattle.model_line.specs.Effect.{at_terminal}
use Rattle.laws_trace.proofs.Vocabulary.{arith, ◌≡◌, ℕ, ◌==◌, ◌&&◌, Bool, true, false, List, [], ◌∷◌, map, slice_get, Option, Some, None, IfSome, option_map, refl, sym, ap, ◌∙◌, subst, ◌⊎◌, inl, inr, All, option_to_list, option_or, option_map_or, All-nil, All-cons, none-some, Refusal, Service, Order, same_service, IsAt, Message, Terms, Link, Given, Config, hears, expiry, request, next, Answer}
use Rattle.laws_trace.proofs.Vocabulary.{gave, Aim, at_none, at_link, at_management, at_units, of_aim, aim_of_expiry, orders_in, Line, UnitData, link_number, service_at, place_at, place_in, has_tei, link_at, link_in, link_of, terms, with_link, aim_of, unless_refused, unless_refused_told, aim_of_heard, Taken, unit_frame, with_given_frame, next_of, line_of, aim_of_request, IsProper, heard_proper}
use Rattle.laws_trace.proofs.Vocabulary.{expiry_proper, request_proper, round_below, lost_in, notes_of, contents_in, IsBy, IsDeactivated, IsOf, by-or-down, OfLink, of-links, services-equal, both-true, has-place, Ties, heard-ties, expiry-ties, request-ties, number-is, at_no_link, orders_for, eqb-true, message_frame, fresh_link as fresh, Event, told, line_after as after, answer}
use Rattle.laws_trace.proofs.Vocabulary.{line_frame_of as frame_of, refusal, IsSound, trace_frame_in as frame_in, by-down, Timer, heard_aims, Request, given, StreamEvent, link_told, link_after, none-ordered}
use Rattle.model_link.specs.Events as link
use Rattle.laws_line.proofs.Readings as read
use Rattle.laws_trace.proofs.ClearedTells.{none-delivered, none-lost}
use Rattle.laws_trace.proofs.ManagedLink.{alike, Remains, managed, management-ordered, management-gives-up, own-managed, own-ordered, own-gives-up}
use Rattle.laws_trace.proofs.Vocabulary.{NextFrame, given_up_in, given_up_of, is_on, true≢false}
use Rattle.laws_trace.proofs.OfferTells.{offer-gives_up, offer-tells_nothing}
use Rattle.laws_trace.proofs.OrdersOfLink.{its_orders, down-orders-none, other-ordered}
use Rattle.laws_trace.proofs.ToldGivenUp.{none-gave, of-its}
use Rattle.model_line.proofs.Downs.{given_up}

-- Which events of a line give a frame: of a link, only an offer.
-- The frame that an offer of a link gives; no other event gives one.
abbrev pub frames_given : Config → Terms → link.Event → Link → List (List ℕ)
frames_given c t link.offer x = map (frame_of c t) (option_to_list (given t x))
frames_given c t other x = []

-- No other event gives a frame; and what concerns no part orders nothing.
module _ (c : Config) (l : Line) where
  abbrev pub Silent : Aim → Type 0
  Silent (at_link its by place event) = frames_given c (terms c its by) event (link_of its by l) ≡ []
  Silent (at_none what) = what.orders ≡ []
  Silent other = Unit {0}

  pub heard-silent : (what : StreamEvent) → Silent (aim_of_heard c l what)
  heard-silent what = heard_aims c l Silent (λ cause. refl) (λ its by place what at. refl) (λ info. tt) (λ parts service to. refl) what

  pub expiry-silent : (timer : Timer) → Silent (aim_of_expiry timer l)
  expiry-silent timer = grind arith

  pub request-silent : (r : Request) → Silent (aim_of_request r l)
  request-silent r = grind arith

-- Whether an event of the line is one at this link.
abbrev pub is_at_link : Service → ℕ → Aim → Bool
is_at_link service tei (at_link its by place event) = same_service its service && by == tei
is_at_link service tei other = false

-- One event of the link: the answer tells what the link tells, and the frame that begins is what the link gives.
pub record HasOne (c : Config) (service : Service) (tei : ℕ) (e : Event) (before after : Line) (a : Answer) : Type 0 where
  pub place : ℕ
  pub placed : place_in before tei ≡ Some place
  pub event : link.Event
  pub by : IsBy c e a service tei event
  pub aimed : (e ≡ next) ⊎ (aim_of c e before ≡ at_link service tei place event)
  pub is : link_of service tei after ≡ link_after (terms c service tei) event (link_of service tei before)
  pub notes : notes_of a ≡ (link_told (terms c service tei) event (link_of service tei before)).notes
  pub contents : contents_in a ≡ option_or (link_told (terms c service tei) event (link_of service tei before)).delivered
      (link_told (terms c service tei) event (link_of service tei before)).unit
  pub lost : lost_in a ≡ (link_told (terms c service tei) event (link_of service tei before)).lost
  pub given_up : given_up_in service a ≡ given_up_of service (link_told (terms c service tei) event (link_of service tei before))
  pub orders : orders_in a ≡ (link_told (terms c service tei) event (link_of service tei before)).orders
  pub begins : frame_in a ≡ frames_given c (terms c service tei) event (link_of service tei before)

-- A frame of TEI management, unit data, or a frame of another link.
-- The text of a message of TEI management, of whatever side.
abbrev pub message_text : Config → List ℕ → List ℕ
message_text c info = spelling (own_side c) (record { address = record { sapi = 63; command = true; tei = 127 }; control = Ui false; info = info })

abbrev pub IsForeign : Config → Service → ℕ → List ℕ → Type 0
IsForeign c service tei frame =
    ((info : List ℕ) × (frame ≡ message_text c info)) ⊎ ((unit : UnitData) × (frame ≡ unit_frame c unit))
    ⊎ ((t : Terms) × (g : Given) × (frame ≡ frame_of c t g) × ((same_service t.service service && t.tei == tei) ≡ false))

-- No event of the link: it stays as it is, or its TEI comes or leaves, and it is as one that begins; its timer is stopped where
-- it runs no more, and where its TEI leaves it gives up what it keeps.
pub record HasNone (c : Config) (service : Service) (tei : ℕ) (e : Event) (before after : Line) (a : Answer) : Type 0 where
  pub is : (link_of service tei after ≡ link_of service tei before) ⊎ (link_of service tei after ≡ fresh)
  pub stays : has_tei tei before ≡ true → has_tei tei after ≡ true → link_of service tei after ≡ link_of service tei before
  pub aims : is_at_link service tei (aim_of c e before) ≡ false
  pub orders : its_orders service tei (orders_in a) ≡ orders_for (terms c service tei) (link_of service tei before).running None (link_of service tei after).running
  pub begins : All (IsForeign c service tei) (frame_in a)
  pub gone : has_tei tei before ≡ true → has_tei tei after ≡ false
      → given_up_in service a ≡ given_up_of service (link_told (terms c service tei) link.cleared (link_of service tei before))

-- The link is deactivated: it is as one that begins, and tells what one tells whose TEI leaves the line.
pub record IsGivenUp (c : Config) (service : Service) (tei : ℕ) (e : Event) (before after : Line) (a : Answer) : Type 0 where
  pub place : ℕ
  pub placed : place_in before tei ≡ Some place
  pub by : IsDeactivated e a service tei
  pub is : link_of service tei after ≡ fresh
  pub notes : notes_of a ≡ (link_told (terms c service tei) link.cleared (link_of service tei before)).notes
  pub contents : contents_in a ≡ None
  pub lost : lost_in a ≡ 0
  pub given_up : given_up_in service a ≡ given_up_of service (link_told (terms c service tei) link.cleared (link_of service tei before))
  pub orders : orders_in a ≡ (link_told (terms c service tei) link.cleared (link_of service tei before)).orders
  pub begins : frame_in a ≡ []

abbrev pub Goes : Config → Service → ℕ → Event → Line → Line → Answer → Type 0
Goes c service tei e before after a =
    HasNone c service tei e before after a ⊎ HasOne c service tei e before after a ⊎ IsGivenUp c service tei e before after a

abbrev pub itself : Link → Link
itself x = x

module _ (c : Config) (l : Line) (s : IsSound c l) (service : Service) (tei : ℕ) where
  -- An event of one link, by whether it is this one.
  module _ (its : Service) (by place : ℕ) (event : link.Event) (at : IsAt l.management.places place by) where
    abbrev x : Link
    x = link_in l its place

    abbrev y : Link
    y = link_after (terms c its by) event x

    other-stays : (same_service its service && by == tei) ≡ false → link_of service tei (with_link (link_number place its) y l) ≡ link_of service tei l
    other-stays other = read.other-read fresh itself c l s its by place at y service tei other

    own-before : link_of its by l ≡ x
    own-before = read.own-before fresh itself c l s its by place at y

    own-after : link_of its by (with_link (link_number place its) y l) ≡ link_after (terms c its by) event (link_of its by l)
    own-after = read.own-after fresh itself c l s its by place at y ∙ ap (link_after (terms c its by) event) (sym own-before)

  -- Nothing is ordered of a link that stays as it is.
  quiet : (new : Line) → link_of service tei new ≡ link_of service tei l → (orders : List Order) → its_orders service tei orders ≡ []
      → its_orders service tei orders ≡ orders_for (terms c service tei) (link_of service tei l).running None (link_of service tei new).running
  quiet new same orders none = grind (arith, none-ordered)

  -- What an aim comes to.
  module _ (e : Event) (a : Answer) (none_begins : frame_in a ≡ []) where
    no-frame : All (IsForeign c service tei) (frame_in a)
    no-frame = subst (All (IsForeign c service tei)) (sym none_begins) (All-nil (IsForeign c service tei))

    abbrev Gone : Line → Type 0
    Gone new =
        has_tei tei l ≡ true → has_tei tei new ≡ false
        → given_up_in service a ≡ given_up_of service (link_told (terms c service tei) link.cleared (link_of service tei l))

    stays : (aim : Aim) → aim_of c e l ≡ aim → is_at_link service tei aim ≡ false → (new : Line)
        → its_orders service tei (orders_in a) ≡ orders_for (terms c service tei) (link_of service tei l).running None (link_of service tei new).running → Remains c l s service tei new
        → Gone new → Goes c service tei e l new a
    stays aim is none new ordered (inl same) gone =
        inl (record { is = inl same; stays = λ was there. same; aims = ap (is_at_link service tei) is ∙ none; orders = ordered; begins = no-frame; gone = gone })
    stays aim is none new ordered (inr anew) gone =
        inl (record {
          is = inr anew.0;
          stays = λ was there. absurd (anew.1 was there);
          aims = ap (is_at_link service tei) is ∙ none;
          orders = ordered;
          begins = no-frame;
          gone = gone;
        })

    abbrev Tells : Aim → Type 0
    Tells aim =
        (notes_of a ≡ (of_aim c aim l).told.notes) × (contents_in a ≡ (of_aim c aim l).told.contents) × (lost_in a ≡ (of_aim c aim l).told.lost)
        × (orders_in a ≡ (of_aim c aim l).told.orders) × ((z : Service) → given_up_in z a ≡ given_up_in z (told (of_aim c aim l).told))

    kept : (aim : Aim) → aim_of c e l ≡ aim → is_at_link service tei aim ≡ false → Tells aim → its_orders service tei (of_aim c aim l).told.orders ≡ [] → (new : Line)
        → link_of service tei new ≡ link_of service tei l → has_tei tei new ≡ has_tei tei l → Goes c service tei e l new a
    kept aim is none tells silent new same on =
        stays aim is none new (quiet new same (orders_in a) (ap (its_orders service tei) tells.3 ∙ silent)) (inl same)
        (λ was off. absurd (true≢false (sym was ∙ sym on ∙ off)))

    at-one : (its : Service) (by place : ℕ) (event : link.Event) → aim_of c e l ≡ at_link its by place event → IsAt l.management.places place by
        → IsOf c e a its by event → Tells (at_link its by place event) → frames_given c (terms c its by) event (link_of its by l) ≡ []
        → (b : Bool) → (same_service its service && by == tei) ≡ b → Goes c service tei e l (of_aim c (at_link its by place event) l).line a
    at-one its by place event is at ties tells silent false other =
        kept (at_link its by place event) is other tells (other-ordered (terms c its by) event (x its by place event at) service tei other) (of_aim c (at_link its by place event) l).line
        (alike c l s service tei (with_link (link_number place its) (y its by place event at) l) (of_aim c (at_link its by place event) l).line refl refl
        ∙ other-stays its by place event at other) refl
    at-one its by place event is at ties tells silent true same = grind (arith, both-true, services-equal, eqb-true, one, ended, by-or-down)
      where
        tells-gone : given_up_in its a ≡ given_up_of its (link_told (terms c its by) event (link_of its by l))
        tells-gone =
            tells.4 its ∙ of-its its (link_told (terms c its by) event (x its by place event at))
            ∙ ap (λ x. given_up_of its (link_told (terms c its by) event x)) (sym (own-before its by place event at))

        ended-gone : event ≡ link.cleared → given_up_in its a ≡ given_up_of its (link_told (terms c its by) link.cleared (link_of its by l))
        ended-gone cleared = tells-gone ∙ ap (λ what. given_up_of its (link_told (terms c its by) what (link_of its by l))) cleared

        ended : event ≡ link.cleared → IsDeactivated e a its by → IsGivenUp c its by e l (of_aim c (at_link its by place event) l).line a
        ended cleared down = grind (arith, own-before, has-place, read.same-read, own-after, none-delivered, none-lost, ended-gone)

        one : IsBy c e a its by event → HasOne c its by e l (of_aim c (at_link its by place event) l).line a
        one own =
            let before = sym (own-before its by place event at) in
            record {
              place = place;
              placed = has-place l.management.places by place s.management.table at;
              event = event;
              by = own;
              aimed = inr is;
              is = grind (arith, read.same-read, own-after);
              notes = tells.0 ∙ ap (λ x. (link_told (terms c its by) event x).notes) before;
              contents = tells.1 ∙ ap (λ x. option_or (link_told (terms c its by) event x).delivered (link_told (terms c its by) event x).unit) before;
              lost = tells.2 ∙ ap (λ x. (link_told (terms c its by) event x).lost) before;
              given_up = tells-gone;
              orders = tells.3 ∙ ap (λ x. (link_told (terms c its by) event x).orders) before;
              begins = none_begins ∙ sym silent;
            }

  -- Any aim.
  module _ (e : Event) (a : Answer) (none_begins : frame_in a ≡ []) where
    abbrev to-be : Aim → Line
    to-be aim = (of_aim c aim l).line

    aim-goes : (aim : Aim) → aim_of c e l ≡ aim → IsProper c l aim → Ties c e a aim → Tells e a none_begins aim → Silent c l aim
        → Goes c service tei e l (to-be aim) a
    aim-goes (at_none what) is proper ties tells silent = kept e a none_begins (at_none what) is refl tells (ap (its_orders service tei) silent) l refl refl
    aim-goes (at_units unit) is proper ties tells silent =
        kept e a none_begins (at_units unit) is refl tells refl (to-be (at_units unit)) (alike c l s service tei l (to-be (at_units unit)) refl refl) refl
    aim-goes at_no_link is proper ties tells silent =
        kept e a none_begins at_no_link is refl tells (by-down c l s (λ f. its_orders service tei f.told.orders ≡ []) (down-orders-none service tei l.management.check l.own.procedure)) (to-be at_no_link)
        (by-down c l s (λ f. link_of service tei f.line ≡ link_of service tei l) (alike c l s service tei l (given_up l).line refl refl))
        (by-down c l s (λ f. has_tei tei f.line ≡ has_tei tei l) refl)
    aim-goes (at_management me) is proper ties tells silent =
        stays e a none_begins (at_management me) is refl (to-be (at_management me)) (ap (its_orders service tei) tells.3 ∙ management-ordered c l s service tei me proper)
        (managed c l s service tei me proper) (λ on off. tells.4 service ∙ management-gives-up c l s service tei me proper on off)
    aim-goes (at_terminal te) is proper ties tells silent =
        stays e a none_begins (at_terminal te) is refl (to-be (at_terminal te)) (ap (its_orders service tei) tells.3 ∙ own-ordered c l s service tei te proper)
        (own-managed c l s service tei te proper) (λ on off. tells.4 service ∙ own-gives-up c l s service tei te proper on off)
    aim-goes (at_link its by place event) is proper ties tells silent = grind (arith, at-one)

  -- What a call takes: a frame of this link, or of another part.
  abbrev Own : Terms
  Own = terms c service tei

  record Takes (t : Taken) : Type 0 where
    place : ℕ
    placed : place_in l tei ≡ Some place
    is : link_of service tei t.line ≡ link_after Own link.offer (link_of service tei l)
    orders : t.orders ≡ (link_told Own link.offer (link_of service tei l)).orders
    begins : t.frame ∷ [] ≡ frames_given c Own link.offer (link_of service tei l)

  abbrev Took : Taken → Type 0
  Took t =
      ((link_of service tei t.line ≡ link_of service tei l) × IsForeign c service tei t.frame × (its_orders service tei t.orders ≡ []) × (has_tei tei t.line ≡ has_tei tei l))
      ⊎ Takes t

  -- what a link gives, it orders as well
  pub given-orders : (t : Terms) (x : Link) (g : Given) → given t x ≡ Some g → g.orders ≡ (link_told t link.offer x).orders
  given-orders t x g = grind (arith, none-some)

  took-link : (its : Service) (by place : ℕ) (g : Given) → (at : IsAt l.management.places place by) → given (terms c its by) (link_in l its place) ≡ Some g
      → (b : Bool) → (same_service its service && by == tei) ≡ b → Took (with_given_frame c l (link_number place its) (terms c its by) g)
  took-link its by place g at gives false other =
      let t = with_given_frame c l (link_number place its) (terms c its by) g in
      inl (
        alike c l s service tei (with_link (link_number place its) (y its by place link.offer at) l) t.line refl refl ∙ other-stays its by place link.offer at other,
        inr (inr (terms c its by, g, refl, other)),
        ap (its_orders service tei) (given-orders (terms c its by) (link_in l its place) g gives)
            ∙ other-ordered (terms c its by) link.offer (link_in l its place) service tei other,
        refl,
      )
  took-link its by place g at gives true same =
      let parts = both-true (same_service its service) (by == tei) same in
      let its-is = services-equal its service parts.0 in
      let by-is = eqb-true by tei parts.1 in
      let t = with_given_frame c l (link_number place its) (terms c its by) g in
      let own = ap (λ z. link_of z tei t.line) (sym its-is) ∙ ap (λ n. link_of its n t.line) (sym by-is) in
      let own-l = ap (λ z. link_of z tei l) (sym its-is) ∙ ap (λ n. link_of its n l) (sym by-is) in
      let own-terms = ap (λ z. terms c z tei) (sym its-is) ∙ ap (λ n. terms c its n) (sym by-is) in
      inr (record {
        place = place;
        placed = subst (λ n. place_in l n ≡ Some place) by-is (has-place l.management.places by place s.management.table at);
        is = own ∙ read.same-read fresh itself its by (with_link (link_number place its) (y its by place link.offer at) l) t.line refl refl
            ∙ own-after its by place link.offer at ∙ ap (λ x. link_after (terms c its by) link.offer x) (sym own-l) ∙ ap (λ u. link_after u link.offer (link_of service tei l)) (sym own-terms);
        orders = given-orders (terms c its by) (link_in l its place) g gives
            ∙ ap (λ x. (link_told (terms c its by) link.offer x).orders) (sym (own-before its by place link.offer at) ∙ sym own-l)
            ∙ ap (λ u. (link_told u link.offer (link_of service tei l)).orders) (sym own-terms);
        begins = ap (λ o. map (frame_of c (terms c its by)) (option_to_list o)) (sym (ap (given (terms c its by)) (own-before its by place link.offer at) ∙ gives))
            ∙ ap (λ x. frames_given c (terms c its by) link.offer x) (sym own-l) ∙ ap (λ u. frames_given c u link.offer (link_of service tei l)) (sym own-terms);
      })

  took-one : (t : Taken) → OfLink c l t → Took t
  took-one t x =
      subst Took (sym x.is)
      (subst (λ n. Took (with_given_frame c l n (terms c (service_at x.number) x.tei) x.what)) (number-is x.number)
      (took-link (service_at x.number) x.tei (place_at x.number) x.what x.on_line
      (subst (λ n. given (terms c (service_at x.number) x.tei) (link_at n l) ≡ Some x.what) (sym (number-is x.number)) x.given)
      (same_service (service_at x.number) service && x.tei == tei) refl))

  took-first : (o : Option Taken) → IfSome o (OfLink c l) → IfSome o Took
  took-first o x = grind (arith, took-one)

  -- a message, and unit data
  other-part : (t : Taken) → t.line.management.places ≡ l.management.places → t.line.links ≡ l.links → t.orders ≡ [] → IsForeign c service tei t.frame → Took t
  other-part t places links none foreign = inl (alike c l s service tei l t.line places links, foreign, ap (its_orders service tei) none, ap (is_on tei) places)

  took-message : (b : Bool) → is_terminal c ≡ b → IfSome (cond b (option_map (with_own_message l) (terminals.offered (terminal_in l))) (option_map (with_message l) (teis.offered c.side l.management))) Took
  took-message true is = go (slice_get l.own.waiting 0)
    where
      go : (o : Option OwnMessage) → IfSome (option_map (with_own_message l) (option_map own_frame_of o)) Took
      go None = tt
      go (Some m) = other-part (with_own_message l (own_frame_of m)) refl refl refl (inl (own_information_of m, own-text c m is))
  took-message false net = go (slice_get l.management.waiting 0)
    where
      go : (o : Option Message) → IfSome (option_map (with_message l) (option_map (message_frame c.side) o)) Took
      go None = tt
      go (Some m) = other-part (with_message l (message_frame c.side m)) refl refl refl (inl (information_of m, message-text c m))

  took-unit : (us : List UnitData) → IfSome (option_map (with_unit c l) (slice_get us 0)) Took
  took-unit us = grind (arith, other-part, with_unit)

  either : (m rest : Option Taken) → IfSome m Took → IfSome rest Took → IfSome (option_or m rest) Took
  either m rest x y = grind arith

  took-any : IfSome (taken c l) Took
  took-any = grind (arith, either, message_taken, unit_taken, took-message, took-unit, took-first, of-links, round_below)

  -- A call for the next frame.
  abbrev Gave : Line → List (List ℕ) → List Order → Type 0
  Gave new frames orders =
      ((link_of service tei new ≡ link_of service tei l) × All (IsForeign c service tei) frames × (its_orders service tei orders ≡ []) × (has_tei tei new ≡ has_tei tei l))
      ⊎ ((place : ℕ) × (place_in l tei ≡ Some place) × (link_of service tei new ≡ link_after Own link.offer (link_of service tei l))
      × (frames ≡ frames_given c Own link.offer (link_of service tei l)) × (orders ≡ (link_told Own link.offer (link_of service tei l)).orders))

  gave-it : (o : Option Taken) → IfSome o Took → let a = gave (option_map next_of o) in Gave (option_map_or line_of o l) (frame_in a) (orders_in a)
  gave-it o h = grind (arith, All-nil, All-cons)

  from-gave : (new : Line) (o : Option NextFrame) → let a = gave o in Gave new (frame_in a) (orders_in a) → Goes c service tei next l new a
  from-gave new o h = grind (arith, stays, quiet, gave, true≢false, offer-tells_nothing, link.offer, link_told, given_up, none-gave, offer-gives_up)

  next-goes : Goes c service tei next l (after c next l) (answer c next l)
  unfolding after answer
  next-goes = from-gave (option_map_or line_of (taken c l) l) (option_map next_of (taken c l)) (gave-it (taken c l) took-any)

pub event-goes : (c : Config) (e : Event) (l : Line) (service : Service) (tei : ℕ) → IsSound c l → Goes c service tei e l (after c e l) (answer c e l)
unfolding after answer
event-goes c (hears what) l service tei s =
    let aim = aim_of_heard c l what in
    let a = told (of_aim c aim l).told in
    aim-goes c l s service tei (hears what) a refl aim refl (heard_proper c l what) (heard-ties c l what a) (refl, refl, refl, refl, λ z. refl) (heard-silent c l what)
event-goes c (expiry timer) l service tei s =
    let aim = aim_of_expiry timer l in
    aim-goes c l s service tei (expiry timer) (told (of_aim c aim l).told) refl aim refl (expiry_proper c l timer)
    (expiry-ties c l timer (told (of_aim c aim l).told)) (refl, refl, refl, refl, λ z. refl) (expiry-silent c l timer)
event-goes c (request r) l service tei s = go (refusal c false r l) refl
  where
    go : (o : Option Refusal) → refusal c false r l ≡ o
        → Goes c service tei (request r) l (of_aim c (unless_refused o (aim_of_request r l)) l).line (unless_refused_told o (of_aim c (unless_refused o (aim_of_request r l)) l))
    go None none =
        let a = told (of_aim c (aim_of_request r l) l).told in
        aim-goes c l s service tei (request r) a refl (aim_of_request r l) (ap (λ o. unless_refused o (aim_of_request r l)) none)
        (subst (λ o. IsProper c l (unless_refused o (aim_of_request r l))) none (request_proper c l r)) (request-ties c l a refl r) (refl, refl, refl, refl, λ z. refl)
        (request-silent c l r)
    go (Some why) some = grind (arith, stays, none-ordered, All-nil, true≢false)
event-goes c next l service tei s = next-goes c l s service tei
