-- What is due of TEI management by one event of a line of the network's side, or of a trunk's end, is what its answer shows, and
-- the observer follows it.
use Rattle.laws_trace.proofs.Vocabulary.{◌≡◌, ℕ, true, false, cond, List, [], ◌∷◌, map, take, drop, Option, Some, None, IfSome, refl, sym, ap, ◌∙◌, subst, append-nil, true≢false, inl, inr, option_map_or, filter-append, Timer, Places, Management, Message, Config, Aim, at_management, of_aim, hears, expiry, next, Line}
use Rattle.laws_trace.proofs.Vocabulary.{aim_of_heard, Taken, taken, line_of, heard_aims, IsOwed, IsIdle, contents_of_link, served, TimerT200 as T200, TimerT203 as T203, T201, message_frame as frame_of, information_of, Event, told, line_after as after, answer, IsSound, Managed, managing_by_event as by_event, received, StreamEvent, tei_message, TeiEvent}
use Rattle.laws_trace.proofs.Vocabulary.{tei_refusal, tei_course}
use Rattle.lapd_frame.specs.declared.timers.Timer.TheVariants.{T202}
use Rattle.model_teis.specs.terminal.Events as terminals
use Rattle.model_line.specs.Effect.{at_a_terminal, of_network, of_terminal, of_terminal_if}
use Rattle.model_link.specs.declared.timers.LinkTimer.TheVariants as link_timer
use Rattle.laws_trace.proofs.Vocabulary.{aim_of}
use Rattle.model_teis.specs.network.Events.{expiry as tei_expiry}
use Rattle.model_line.specs.Line.{is_terminal, Own}
use Rattle.model_line.proofs.Managed.{idle_course}
use Rattle.laws_trace.specs.Managing.{octets_of}
use Rattle.laws_trace.specs.TeisAreManaged.{message_text}
use Rattle.laws_trace.proofs.CheckEnds.{Follows, Leads, InOrder, as_seen}
use Rattle.laws_trace.proofs.Follows.{serve-leads, expire-leads}
use Rattle.laws_trace.proofs.ManagingPlaces.{ArePlaced}
use Rattle.laws_trace.proofs.ManagingTables.{AreOn}
use Rattle.laws_trace.proofs.ManagingNotes.{by_message, none-of-teis, Cases, is_management, message_in, message-is-read, heard-cases, behind}
use Rattle.laws_trace.proofs.ReadAgain.{message-text}
use Rattle.laws_trace.proofs.Tracked.{OfSide, Tracks, Shows, IsQuiet, IsUnmanaged, none-granted, none-aims, link-aims, unmanaged-shows, timer-shows, is_managed, managed_of, one-or-none, first-goes, message-is, unit-is, link-is, next-shows}
use Rattle.laws_trace.proofs.Vocabulary.{arith}

-- A message goes in the octets that are due.
same-octets : (m : Message) → information_of m ≡ octets_of m
same-octets m = grind arith

same-text : (c : Config) (m : Message) → frame_of c.side m ≡ message_text c (octets_of m)
same-text c m = message-text c m ∙ ap (message_text c) (same-octets m)

module _ (c : Config) (l : Line) (s : IsSound c l) (net : is_terminal c ≡ false) (on : List ℕ) (seen : Places) (dues : List ℕ) (h : AreOn on l.management.places) (p : ArePlaced seen dues l.management.places l.management.to_check) (order : IfSome l.management.check InOrder) where
  abbrev m : Management
  m = l.management

  abbrev w : Managed
  w = as_seen on seen dues m

  pub tracked : (d : Managed) (m : Management) (own : Own) → Follows d m → Tracks c d m own
  tracked d m own f = record { on = f.on; side = subst (λ b. OfSide c b d m own) (sym net) f }

  pub here : Tracks c w m l.own
  here = tracked w m l.own (record { is = refl; on = h; placed = p; order = order })

  pub none-due : IsQuiet w
  none-due = record { notes = refl; orders = refl; lost = refl; begins = refl; granted = refl }

  -- An event of TEI management.
  network-shows : (e : Event) (d : Managed) (me : TeiEvent) → Leads d (tei_course me m) → let y = of_network c me l in Shows c l e d (told y.told) y.line
  network-shows e d me leads = grind (arith, of_network, behind, filter-append, none-of-teis, append-nil, none-granted, tracked)

  pub managed-shows : (e : Event) (d : Managed) (me : TeiEvent) → Leads d (tei_course me m) → let y = of_aim c (at_management me) l in Shows c l e d (told y.told) y.line
  managed-shows e d me leads =
      subst (λ b. let y = cond b (of_terminal_if c (at_a_terminal me) l) (of_network c me l) in Shows c l e d (told y.told) y.line) (sym net) (network-shows e d me leads)

  others-show : (e : Event) (aim : Aim) → is_management (aim_of c e l) ≡ false → IsUnmanaged c l aim → let y = of_aim c aim l in Shows c l e w (told y.told) y.line
  others-show e aim none x = unmanaged-shows c l e w aim none-due here none x

  -- What is heard.
  abbrev Heard : StreamEvent → Aim → Option (List ℕ) → Type 0
  Heard e aim message = let y = of_aim c aim l in Shows c l (hears e) (option_map_or (by_message c w) message w) (told y.told) y.line

  plain-aim : (e : StreamEvent) → is_management (aim_of_heard c l e) ≡ false → IsUnmanaged c l (aim_of_heard c l e)
  plain-aim e none =
      heard_aims c l (λ aim. is_management aim ≡ false → IsUnmanaged c l aim) (λ cause none. none-aims c l _ refl refl)
      (λ service tei place what at none. link-aims c l service tei place (received what)) (λ info none. absurd (true≢false none)) (λ parts service to none. none-aims c l _ refl refl) e none

  by-cases : (e : StreamEvent) → Cases (aim_of_heard c l e) (message_in c e) → Heard e (aim_of_heard c l e) (message_in c e)
  unfolding tei_course tei_refusal
  by-cases e (inl x) =
      subst (λ aim. Heard e aim (message_in c e)) (sym x.aim_is)
      (subst (Heard e (at_management (tei_message x.info))) (sym x.said_is)
      (managed-shows (hears e) (by_message c w x.info) (tei_message x.info) (serve-leads on seen dues m h p order s.management c s.places s.reading x.info)))
  by-cases e (inr x) = subst (Heard e (aim_of_heard c l e)) (sym x.said_is) (others-show (hears e) (aim_of_heard c l e) x.aim_is (plain-aim e x.aim_is))

  pub hears-shows : (e : StreamEvent) → Shows c l (hears e) (by_event c (hears e) w) (answer c (hears e) l) (after c (hears e) l)
  unfolding after answer
  hears-shows e = grind (arith, hears, told, message-is-read, by-cases, heard-cases)

  t202-shows : let y = of_terminal c terminals.expiry l in Shows c l (expiry T202) w (told y.told) y.line
  t202-shows = grind (arith, told, idle_course, none-granted, here)

  pub expiry-shows : (timer : Timer) → Shows c l (expiry timer) (by_event c (expiry timer) w) (answer c (expiry timer) l) (after c (expiry timer) l)
  unfolding after answer tei_course tei_refusal
  expiry-shows (T200 service tei) = timer-shows c l w none-due here (T200 service tei) service tei link_timer.T200 refl
  expiry-shows (T203 service tei) = timer-shows c l w none-due here (T203 service tei) service tei link_timer.T203 refl
  expiry-shows T201 = managed-shows (expiry T201) (by_event c (expiry T201) w) tei_expiry (expire-leads on seen dues m h p order s.management c s.reading)
  expiry-shows T202 = t202-shows

  -- A call for the next frame.
  abbrev later : Managed
  later = record w { owed = drop 1 m.waiting; begins = map octets_of (take 1 m.waiting) }

  abbrev due_texts : List (List ℕ)
  due_texts = map (message_text c) (map octets_of (take 1 m.waiting))

  abbrev Goes : Line → Option Taken → Type 0
  Goes new o = (managed_of c o ≡ due_texts) × Tracks c later new.management new.own

  stays : (new : Line) → new.management ≡ m → m.waiting ≡ [] → Tracks c later new.management new.own
  stays new is none = grind (arith, tracked)

  none-goes : m.waiting ≡ [] → [] ≡ due_texts
  none-goes none = sym (ap (λ ms. map (message_text c) (map octets_of (take 1 ms))) none)

  goes : (new : Line) (o : Option Taken) → elim o as (λ o. Type 0) [ None ↦ IsIdle c l new | Some t ↦ IsOwed c (contents_of_link l) l new t.frame ] → Goes new o
  goes new None x = (none-goes x.nothing.messages.management, stays new (ap (λ (l : Line). l.management) x.line) x.nothing.messages.management)
  goes new (Some t) (inl x) = (
    one-or-none c t true (ap (is_managed c) x.spelled ∙ ap (is_managed c) (same-text c x.message) ∙ message-is c (octets_of x.message))
        ∙ ap (λ f. f ∷ []) (x.spelled ∙ same-text c x.message) ∙ sym (ap (λ ms. map (message_text c) (map octets_of ms)) (first-goes m.waiting x.message x.oldest)),
    subst (λ (l : Line). Tracks c later l.management l.own) (sym x.line) (tracked later (record m { waiting = drop 1 m.waiting }) l.own (record { is = refl; on = h; placed = p; order = order })),
  )
  goes new (Some t) (inr (inl x)) = absurd (true≢false (sym x.terminal ∙ net))
  goes new (Some t) (inr (inr (inl x))) = (
    one-or-none c t false (unit-is c l new t x) ∙ none-goes x.no_message.management,
    stays new (ap (λ (l : Line). l.management) x.line) x.no_message.management,
  )
  goes new (Some t) (inr (inr (inr x))) = (
    one-or-none c t false (link-is c l new t (contents_of_link l) x) ∙ none-goes x.its_turn.no_message.management,
    stays new (ap (λ (l : Line). l.management) x.line) x.its_turn.no_message.management,
  )

  pub next-shown : Shows c l next (by_event c next w) (answer c next l) (after c next l)
  unfolding after
  next-shown =
      let new = option_map_or line_of (taken c l) l in
      let g = goes new (taken c l) (served c l s) in
      next-shows c l s later refl refl refl refl g.0 g.1
