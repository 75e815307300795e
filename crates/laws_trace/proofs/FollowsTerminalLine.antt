-- What is due of TEI management by one event of a terminal's line is what its answer shows, and the observer follows it.
use Rattle.laws_trace.proofs.Vocabulary.{◌≡◌, ℕ, Bool, true, false, cond, List, [], ◌++◌, map, take, drop, slice_get, filter, Option, Some, None, is_some, refl, sym, ap, ◌∙◌, subst, append-nil, true≢false, inl, inr, option_map_or, none-some, filter-append, Timer, Management, Config, Aim, at_management, of_aim, hears, expiry, next, Line}
use Rattle.laws_trace.proofs.Vocabulary.{aim_of_heard, Taken, taken, line_of, heard_aims, IsOwed, IsIdle, contents_of_link, served, TimerT200 as T200, TimerT203 as T203, T201, Event, told, line_after as after, answer, IsSound, Managed, is_of_teis, is_of_line, received, StreamEvent, tei_message}
use Rattle.std.specs.Option.{option_and_then}
use Rattle.lapd_frame.specs.declared.notes.Note.{Note}
use Rattle.lapd_frame.specs.declared.timers.Order.{Order}
use Rattle.lapd_frame.specs.declared.timers.Timer.TheVariants.{T202}
use Rattle.model_teis.specs.network.Events as teis
use Rattle.model_teis.specs.declared.terminal.messages.Message.{Message}
use Rattle.model_teis.specs.terminal.Events as terminals
use Rattle.model_teis.specs.terminal.Events.{Event as TerminalEvent}
use Rattle.model_teis.specs.terminal.Laws as terminal_laws
use Rattle.model_teis.specs.terminal.Machine.{Terminal}
use Rattle.model_teis.specs.terminal.Messages as messages
use Rattle.model_teis.specs.terminal.Sound as terminal
use Rattle.model_teis.specs.terminal.Words.{Course}
use Rattle.model_teis.proofs.OfTerminal.Brief.{AreOfTeis, noted, none_lost}
use Rattle.model_teis.proofs.OfTerminal.Served.{leads}
use Rattle.model_teis.proofs.OfTerminal.Told.{t202_follows, unserved_changes_nothing}
use Rattle.model_line.specs.Effect.{Effect, at_a_terminal, of_network, of_terminal, told_of_management}
use Rattle.model_line.specs.Line.{is_terminal, Own, terminal_in, with_terminal}
use Rattle.model_line.specs.Sound.{IsOfSide, IsUnused}
use Rattle.model_link.specs.declared.timers.LinkTimer.TheVariants as link_timer
use Rattle.laws_trace.specs.Managing.{of_terminal as seen_there}
use Rattle.laws_trace.specs.ManagingTerminal as seen
use Rattle.laws_trace.specs.ManagingTerminal.{OfTerminal, octets_of}
use Rattle.laws_trace.specs.TeisAreManaged.{message_text}
use Rattle.laws_trace.proofs.FollowsTerminal.{known, shown, message-is, expiry-is}
use Rattle.laws_trace.proofs.ManagingNotes.{none-of-teis, Cases, is_management, message_in, message-is-read-there, heard-cases, Behind, behind}
use Rattle.laws_trace.proofs.ReadAgain.{own-text}
use Rattle.laws_trace.proofs.TerminalTables.{IsOnce, teis-are-on}
use Rattle.laws_trace.proofs.ManagingTables.{AreOn}
use Rattle.laws_trace.proofs.Vocabulary.{IsSoundTable}
use Rattle.laws_trace.proofs.Tracked.{IsKnown, OfSide, Tracks, Shows, IsQuiet, IsUnmanaged, none-granted, none-aims, link-aims, unmanaged-shows, timer-shows, managed_of, one-or-none, first-goes, message-is as text-is, unit-is, link-is, next-shows}
use Rattle.laws_trace.proofs.Vocabulary.{arith}

-- Its notes are of TEIs, and its orders of the line's own timers.
all-of-teis : (ns : List Note) → AreOfTeis ns → filter is_of_teis ns ≡ ns
all-of-teis ns are = grind arith

all-of-line : (before after : Bool) (orders : List Order) → terminal_laws.Follows before orders after → filter is_of_line orders ≡ orders
all-of-line before after orders follows = grind arith

-- A message goes in the octets that are due.
same-octets : (m : Message) → messages.information_of m ≡ octets_of m
same-octets m = grind arith

own-texts : (c : Config) (m : Message) → is_terminal c ≡ true → messages.frame_of m ≡ message_text c (octets_of m)
own-texts c m is = own-text c m is ∙ ap (message_text c) (same-octets m)

module _ (c : Config) (l : Line) (s : IsSound c l) (is : is_terminal c ≡ true) (v : Managed) (quiet : IsQuiet v) (known-so : IsKnown c v l.management l.own) where
  abbrev t : Terminal
  t = terminal_in l

  abbrev k : OfTerminal
  k = known t

  pub both : terminal.IsSound t × IsUnused l.management
  both = subst (λ b. IsOfSide b l.management l.own) is s.own

  pub once : (tei : ℕ) → IsOnce tei t.places
  once tei i j at there = s.management.table.once i j tei at there

  pub tracked : (d : Managed) (m : Management) (own : Own) → IsSoundTable m.places → IsKnown c d m own → Tracks c d m own
  tracked d m own table f =
      record { on = subst (λ on. AreOn on m.places) (sym f.on_is) (teis-are-on m.places table); side = subst (λ b. OfSide c b d m own) (sym is) f }

  pub here : Tracks c v l.management l.own
  here = tracked v l.management l.own s.management.table known-so

  -- What an event that is known leaves and tells is so.
  module _ (te : TerminalEvent) (range : terminal_laws.IsInRange te) where
    abbrev x : Course
    x = terminals.course te t

    abbrev y : Effect
    y = of_terminal c te l

    pub terminal-shows : (e : Event) (granted : Option Bool) → ((so : Bool) → granted ≡ Some so → true ≡ so)
        → Shows c l e (seen_there v (record (shown x) { granted = granted })) (told y.told) y.line
    terminal-shows e granted so =
        let told = told_of_management x.told in
        let then = with_terminal x.now l in
        let after : Behind c told then x.told.change = behind c told then x.told.change in
        let d = seen_there v (record (shown x) { granted = granted }) in
        record {
          as_due = record {
            notes =
                ap (filter is_of_teis) after.notes ∙ filter-append is_of_teis told.notes after.others
                ∙ ap (λ ns. filter is_of_teis told.notes ++ ns) (none-of-teis after.others after.are) ∙ append-nil (filter is_of_teis told.notes) ∙ all-of-teis x.told.notes (noted te t);
            orders = after.orders ∙ all-of-line (is_some t.procedure) (is_some x.now.procedure) x.told.orders (t202_follows te t);
            begins = refl;
            granted = so;
          };
          lost = inl (after.lost ∙ none_lost te t ∙ sym quiet.lost);
          follows =
              subst (λ m. Tracks c d m y.line.own) (sym after.stays)
              (subst (Tracks c d then.management) (sym after.own)
              (tracked d then.management then.own (leads te t range both.0).sound.table (record { own_is = refl; on_is = refl; owed = known-so.owed })));
        }

  -- An event that is not served leaves all as it was, and nothing is due.
  unserved-shows : (e : Event) (te : TerminalEvent) → (terminals.told te t).unserved ≡ true → let y = of_terminal c te l in Shows c l e v (told y.told) y.line
  unserved-shows e te un = grind (arith, unserved_changes_nothing, terminals.told, none-granted, here)

  message-shows : (e : Event) (info : List ℕ) → let y = of_terminal c (terminals.message info) l in
      Shows c l e (option_map_or (seen_there v) (seen.by_message c info k) v) (told y.told) y.line
  unfolding terminals.course
  message-shows e info =
      subst (λ o. let y = of_terminal c (terminals.message info) l in Shows c l e (option_map_or (seen_there v) o v) (told y.told) y.line) (sym (message-is t once c s.reading info))
      (go (terminals.told (terminals.message info) t).unserved refl)
    where
      go : (b : Bool) → (terminals.told (terminals.message info) t).unserved ≡ b
          → let y = of_terminal c (terminals.message info) l in
          Shows c l e (option_map_or (seen_there v) (cond b None (Some (shown (terminals.course (terminals.message info) t)))) v) (told y.told) y.line
      go true un = unserved-shows e (terminals.message info) un
      go false un = terminal-shows (terminals.message info) tt e None (λ so none. absurd (none-some so none))

  -- What is heard.
  abbrev Heard : StreamEvent → Aim → Option (List ℕ) → Type 0
  Heard e aim message = let y = of_aim c aim l in Shows c l (hears e) (option_map_or (seen_there v) (option_and_then (λ info. seen.by_message c info k) message) v) (told y.told) y.line

  at-terminal-shows : (e : Event) (d : Managed) (me : teis.Event) (te : TerminalEvent) → at_a_terminal me ≡ Some te → let y = of_terminal c te l in Shows c l e d (told y.told) y.line
      → let y = of_aim c (at_management me) l in Shows c l e d (told y.told) y.line
  at-terminal-shows e d me te own h = grind (arith, of_network, told)

  plain-aim : (e : StreamEvent) → is_management (aim_of_heard c l e) ≡ false → IsUnmanaged c l (aim_of_heard c l e)
  plain-aim e none =
      heard_aims c l (λ aim. is_management aim ≡ false → IsUnmanaged c l aim) (λ cause none. none-aims c l _ refl refl)
      (λ service tei place what at none. link-aims c l service tei place (received what)) (λ info none. absurd (true≢false none)) (λ parts service to none. none-aims c l _ refl refl) e none

  by-cases : (e : StreamEvent) → Cases (aim_of_heard c l e) (message_in c e) → Heard e (aim_of_heard c l e) (message_in c e)
  by-cases e (inl x) =
      subst (λ aim. Heard e aim (message_in c e)) (sym x.aim_is)
      (subst (Heard e (at_management (tei_message x.info))) (sym x.said_is)
      (at-terminal-shows (hears e) _ (tei_message x.info) (terminals.message x.info) refl (message-shows (hears e) x.info)))
  by-cases e (inr x) =
      subst (Heard e (aim_of_heard c l e)) (sym x.said_is) (unmanaged-shows c l (hears e) v (aim_of_heard c l e) quiet here x.aim_is (plain-aim e x.aim_is))

  abbrev pub due_by : Event → Managed
  due_by e = option_map_or (seen_there v) (seen.by_event c e k) v

  pub hears-shows : (e : StreamEvent) → Shows c l (hears e) (due_by (hears e)) (answer c (hears e) l) (after c (hears e) l)
  unfolding after answer
  hears-shows e = grind (arith, hears, seen_there, told, message-is-read-there, by-cases, heard-cases)

  -- An expiry. T201 does not run.
  t202-shows : let y = of_terminal c terminals.expiry l in Shows c l (expiry T202) (seen_there v (seen.ran_out t.procedure k)) (told y.told) y.line
  unfolding terminals.course
  t202-shows =
      subst (λ d. let y = of_terminal c terminals.expiry l in Shows c l (expiry T202) (seen_there v d) (told y.told) y.line) (sym (expiry-is t once t.procedure))
      (terminal-shows terminals.expiry tt (expiry T202) None (λ so none. absurd (none-some so none)))

  t201-shows : let y = of_aim c (at_management teis.expiry) l in Shows c l (expiry T201) v (told y.told) y.line
  t201-shows = grind (arith, of_network, T201, told, none-granted, here)

  pub expiry-shows : (timer : Timer) → Shows c l (expiry timer) (due_by (expiry timer)) (answer c (expiry timer) l) (after c (expiry timer) l)
  unfolding after answer
  expiry-shows (T200 service tei) = timer-shows c l v quiet here (T200 service tei) service tei link_timer.T200 refl
  expiry-shows (T203 service tei) = timer-shows c l v quiet here (T203 service tei) service tei link_timer.T203 refl
  expiry-shows T201 = t201-shows
  expiry-shows T202 = t202-shows

  -- A call for the next frame.
  abbrev waiting : List Message
  waiting = l.own.waiting

  abbrev later : Managed
  later = seen_there v (record k { owed = drop 1 waiting; begins = take 1 waiting })

  abbrev due_texts : List (List ℕ)
  due_texts = map (message_text c) (map octets_of (take 1 waiting))

  abbrev Goes : Line → Option Taken → Type 0
  Goes new o = (managed_of c o ≡ due_texts) × Tracks c later new.management new.own

  went : Tracks c later l.management (record l.own { waiting = drop 1 waiting })
  went = tracked later l.management (record l.own { waiting = drop 1 waiting }) s.management.table (record { own_is = refl; on_is = refl; owed = known-so.owed })

  stays : (new : Line) → new.management ≡ l.management → new.own ≡ l.own → waiting ≡ [] → Tracks c later new.management new.own
  stays new same own none = grind (arith, went)

  none-goes : waiting ≡ [] → [] ≡ due_texts
  none-goes none = sym (ap (λ ms. map (message_text c) (map octets_of (take 1 ms))) none)

  no-message : {M : Type 0} (ms : List M) (m : M) → ms ≡ [] → slice_get ms 0 ≡ Some m → ⊥
  no-message ms m none first = none-some m (sym (ap (λ ms. slice_get ms 0) none) ∙ first)

  goes : (new : Line) (o : Option Taken) → elim o as (λ o. Type 0) [ None ↦ IsIdle c l new | Some t ↦ IsOwed c (contents_of_link l) l new t.frame ] → Goes new o
  goes new o x = grind (arith, none-goes, stays, no-message, both, one-or-none, own-texts, text-is, first-goes, went, unit-is, link-is)

  pub next-shown : Shows c l next (due_by next) (answer c next l) (after c next l)
  unfolding after
  next-shown =
      let new = option_map_or line_of (taken c l) l in
      let g = goes new (taken c l) (served c l s) in
      next-shows c l s later refl refl quiet.lost refl g.0 g.1
