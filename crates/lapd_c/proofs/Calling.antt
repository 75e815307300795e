-- A call comes to what `Called` says, by what is known of it.
use Rattle.lapd_c.proofs.Vocabulary.{◌≡◌, ◌<◌, ◌≤◌, ◌+◌, ℕ, Bool, true, false, cond, List, option_map, Option, None, none-some, Some, IfSome, Result, Ok, IfOk, refl, sym, ap, ◌∙◌, subst, arith, false≢true, KeptCard, Store}
use Rattle.std.proofs.Common.{Err, is_none, is_some}
use Rattle.std.specs.Option.{unwrap_or}
use Rattle.std.specs.Prelude.{◌≢◌}
use Rattle.std.proofs.lemmas.Bool.{le-ltb, lt-ltb}
use Rattle.std.specs.Result.{IfErr}
use Rattle.lapd_card.specs.Kinds.{AnyStands, Machine, alone, card_in, with_ports, counters_of, kind_of}
use Rattle.lapd_card.specs.declared.kinds.AnyCard.{AnyCard}
use Rattle.lapd_card.specs.declared.kinds.AnyCard.TheVariants.{Octets, Frames}
use Rattle.model_card.specs.declared.kinds.CardKind.TheVariants as kinds
use Rattle.lapd_frame.specs.declared.refusals.Refusal.{Refusal}
use Rattle.model_card.specs.Card.{Card}
use Rattle.model_card.specs.Event.{at}
use Rattle.model_card.specs.ports.Card.{OctetCard}
use Rattle.model_line.specs.Event as line_event
use Rattle.model_line.specs.Event.{NextFrame, gave, hears, expiry, next, request}
use Rattle.model_line.specs.Effect.{Effect}
use Rattle.model_line.specs.Machine as lines
use Rattle.model_line.specs.Machine.{unless_refused_told}
use Rattle.model_line.specs.Request.{Request}
use Rattle.model_card.specs.Machine.{answer}
use Rattle.model_card.proofs.Refusals.{answer_is}
use Rattle.model_bits.specs.Stream as stream
use Rattle.lapd_frame.specs.declared.timers.Timer.{Timer}
use Rattle.lapd_frame.specs.declared.timers.Order.{Order}
use Rattle.lapd_timed.specs.declared.card_timers.CardTimers.{CardTimers}
use Rattle.lapd_c.specs.declared.card.CardHandle.{CardHandle}
use Rattle.lapd_c.specs.declared.plain.reports.PlainReport.{PlainReport}
use Rattle.lapd_c.specs.Answers.{ShowsAnswer}
use Rattle.lapd_c.specs.Asked.{next_with_room}
use Rattle.lapd_c.specs.Slots.{HeldCard}
use Rattle.lapd_c.specs.Frames.{goes, next_at}
use Rattle.lapd_c.specs.Reports.{ShowsPull}
use Rattle.lapd_c.specs.CalledBy.{Asked, Called, Happening, inside, IsCallOf, Served, ShowsGiven, Unchanged, why_in, why_refused}
use Rattle.lapd_c.specs.Calls.{refusal_at}
use Rattle.lapd_c.specs.Cards.{FramesStand, StandsIn, HandleStands, card_of, marks_at, marks_held, served_card, without_marks}
use Rattle.lapd_c.specs.Counted.{counters_at, counters_held}
use Rattle.lapd_c.specs.Kept.{CarryOut, TimersStandIn, orders_by, seen_by, timers_held, timers_of}
use Rattle.lapd_c.specs.Reopened.{refused_place, WaitsFor}
use Rattle.lapd_c.specs.declared.link_marks.LinkMarks.{LinkMarks}
use Rattle.lapd_c.proofs.Served.{there}
use Rattle.lapd_card.specs.FrameCard as frames
use Rattle.lapd_c.specs.Statuses as status
use Rattle.lapd_c.specs.Statuses.{refusal_status}
use Rattle.lapd_c.specs.Wanted.{Wanted, of_any, of_octets, of_frames, of_untimed, WithLine}

-- of which kind the card is
pub octets_held : (held : HeldCard) (m : OctetCard) → StandsIn held (with_ports m) → option_map kind_of (option_map without_marks held) ≡ Some kinds.Octets
octets_held None m s = absurd s
octets_held (Some kept) m s = of_card kept.timed.card s
  where
    of_card : (card : AnyCard) → AnyStands card (with_ports m) → Some (kind_of card) ≡ Some kinds.Octets
    of_card (Octets c) s = refl
    of_card (Frames c) s = absurd s

-- what a report shows
pub shown_given : (timed : Bool) (r : PlainReport) (more : Bool) (a : line_event.Answer) → ShowsAnswer r (seen_by timed a) → ShowsGiven timed r more a
shown_given timed r more (line_event.told t) s = s
shown_given timed r more (line_event.refused why) s = s
shown_given true r more (line_event.gave sent) s = absurd s
shown_given false r more (line_event.gave sent) s = absurd s

pub shown_untimed : (timed : Bool) → timed ≡ false → (r : PlainReport) (more : Bool) (a : line_event.Answer) → ShowsAnswer r a → ShowsGiven timed r more a
shown_untimed timed is r more a s = shown_given timed r more a (subst (λ t. ShowsAnswer r (seen_by t a)) (sym is) s)

-- No frame, fault, call for the next frame or expiry is refused, and a request is by the table of refusals.
pub never_refused_heard : (line : ℕ) (e : stream.Event) (m : Card) → why_in (answer (at line (hears e)) m) ≡ None
unfolding lines.answer lines.takes_slot
never_refused_heard line e m = refl

pub never_refused_expiry : (line : ℕ) (timer : Timer) (m : Card) → why_in (answer (at line (expiry timer)) m) ≡ None
unfolding lines.answer lines.takes_slot
never_refused_expiry line timer m = refl

pub never_refused_next : (line : ℕ) (m : Card) → why_in (answer (at line next) m) ≡ None
unfolding lines.answer lines.takes_slot
never_refused_next line m = refl

why_told : (o : Option Refusal) (outcome : Effect) → why_in (unless_refused_told o outcome) ≡ o
why_told None outcome = refl
why_told (Some why) outcome = refl

pub refused_request : (line : ℕ) (asked : Request) (m : Card) → why_in (answer (at line (request asked)) m) ≡ refusal_at line asked m
refused_request line asked m = ap why_in (answer_is m line asked) ∙ why_told (refusal_at line asked m) _

-- What a card stands for, and what it has counted, is of that card alone.
pub same_held : (a b : HeldCard) → option_map without_marks b ≡ option_map without_marks a → ((m : Machine) → StandsIn a m → StandsIn b m) × (counters_held b ≡ counters_held a)
same_held None None is = (λ m s. s, refl)
same_held None (Some b) is = absurd (none-some b.timed.card (sym is))
same_held (Some a) None is = absurd (none-some a.timed.card is)
same_held (Some a) (Some b) is = let same : b.timed.card ≡ a.timed.card = ap (λ o. unwrap_or o a.timed.card) is in (λ m s. subst (λ card. AnyStands card m) (sym same) s, ap counters_of same)

-- Nothing changes where this is the same, with the timers and the links that wait; so where all is as it was, or where a card of frames
-- stands for the same machine.
pub same_card : (line : ℕ) (waits : Option ℕ) (old new : CardHandle) → served_card new ≡ served_card old → timers_of new ≡ timers_of old → WaitsFor waits line (marks_at old) (marks_at new)
    → Unchanged line waits old new
same_card line waits old new is timers marks = let same = same_held (card_of old) (card_of new) is in record { stands = same.0; counters = λ m s. same.1; timers = timers; marks = marks }

pub as_it_was : (line : ℕ) (old new : CardHandle) → card_of new ≡ card_of old → Unchanged line None old new
as_it_was line old new is = same_card line None old new (ap (option_map without_marks) is) (ap timers_held is) (ap marks_held is)

pub same_frames : (line : ℕ) (old new : CardHandle) {kept : KeptCard} {c : frames.Held Store} → card_of old ≡ Some kept → kept.timed.card ≡ Frames c
    → ((m : Card) → AnyStands kept.timed.card (alone m) → FramesStand new m × (counters_at new ≡ counters_of kept.timed.card)) → timers_of new ≡ timers_of old → marks_at new ≡ marks_at old → Unchanged line None old new
same_frames line old new {kept} is kind stays timers marks =
    record { stands = λ m s. (all m (there is m s)).0; counters = λ m s. (all m (there is m s)).1 ∙ sym (ap counters_held is); timers = timers; marks = marks }
  where
    all : (m : Machine) → AnyStands kept.timed.card m → HandleStands new m × (counters_at new ≡ counters_of kept.timed.card)
    all (alone m) on = stays m on
    all (with_ports m) on = absurd (subst (λ card. AnyStands card (with_ports m)) kind on)

-- What holds of each machine with a line, by what else does.
each : (cards : Wanted) (line : ℕ) (h : CardHandle) (P Q : Machine → Type 0) → ((m : Machine) → P m → Q m) → WithLine cards line h P → WithLine cards line h Q
each of_any line h P Q so p = λ m s w. so m (p m s w)
each of_octets line h P Q so p = λ m s w. so (with_ports m) (p m s w)
each of_frames line h P Q so p = λ m s w. so (alone m) (p m s w)
each of_untimed line h P Q so p = λ m s w. so m (p m s w)

-- A call is one event, by what is asked of each machine: something is wrong, the machine refuses it, or it happens.
module _ (asked : Asked) (old new : CardHandle) (result : ℕ) (r : PlainReport) where
  abbrev pub Fits : Machine → Result Happening ℕ → Type 0
  Fits m o = IfErr o (λ wrong. result ≡ wrong) × IfErr o (λ wrong. wrong ≢ status.ok) × IfOk o (λ e. IfSome (why_refused e m) (λ why. result ≡ refusal_status why))
      × IfOk o (λ e. why_refused e m ≡ None → Served e m old new result r)

  abbrev pub FitsAt : Machine → Type 0
  FitsAt m = Fits m (asked.event (card_in m))

  pub is_called : (before : PlainReport) → IsCallOf asked.cards asked.line asked.names old new result before r → WithLine asked.cards asked.line old FitsAt → (result ≢ status.ok → Unchanged asked.line (asked.waits result) old new)
      → Called asked old new result before r
  is_called before call fits unchanged = let of = each asked.cards asked.line old FitsAt in record {
    call = call;
    wrong = of _ (λ m f. f.0) fits;
    not_ok = of _ (λ m f. f.1) fits;
    refused = of _ (λ m f. f.2) fits;
    unchanged = unchanged;
    served = of _ (λ m f. f.3) fits;
  }

  pub wrong_at : (m : Machine) → asked.event (card_in m) ≡ Err result → result ≢ status.ok → FitsAt m
  wrong_at m is not_ok = subst (Fits m) (sym is) (refl, not_ok, tt, tt)

  pub refused_at : (m : Machine) (e : Happening) (why : Refusal) → asked.event (card_in m) ≡ Ok e → why_refused e m ≡ Some why → result ≡ refusal_status why → FitsAt m
  refused_at m e why is refuses says =
      subst (Fits m) (sym is) (tt, tt, subst (λ o. IfSome o (λ why. result ≡ refusal_status why)) (sym refuses) says, λ none. absurd (none-some why (sym none ∙ refuses)))

  pub served_at : (m : Machine) (e : Happening) → asked.event (card_in m) ≡ Ok e → why_refused e m ≡ None → Served e m old new result r → FitsAt m
  served_at m e is granted served =
      subst (Fits m) (sym is) (tt, tt, subst (λ o. IfSome o (λ why. result ≡ refusal_status why)) (sym granted) tt, λ _. served)

-- What is wrong with a request itself has no link wait.
none_marked : (status number service tei : ℕ) → 10 < status → refused_place status number service tei ≡ None
none_marked status number service tei far = grind arith

pub none_waits : (status number service tei line : ℕ) {old new : List LinkMarks} → 10 < status → new ≡ old → WaitsFor (refused_place status number service tei) line old new
none_waits status number service tei line {old = old} {new = new} far is = subst (λ o. WaitsFor o line old new) (sym (none_marked status number service tei far)) is

-- A card whose timers are the caller's has none after the call either.
pub none_there : {A : Type 0} (o : Option A) → is_some o ≡ false → o ≡ None
none_there None is = refl
none_there (Some a) is = absurd (false≢true (sym is))

pub carried_untimed : (line : ℕ) (orders : List Order) (m m' : Card) (old new : Option CardTimers) → old ≡ None → new ≡ None → CarryOut line orders m m' old new
carried_untimed line orders m m' old new none is = record {
  there = ap is_some is ∙ sym (ap is_some none);
  timers = λ c stood. absurd (subst (λ o. TimersStandIn o m c) none stood);
  noted = λ c marks stood. absurd (subst (λ o. TimersStandIn o m c) none stood);
}

-- The next frame: there is no room for the longest, none waits, or it is given.
module _ (line room : ℕ) (m : Card) where
  pub next_short : room < m.config.n201 + 4 → next_with_room line room m ≡ Err status.wrong_length
  next_short few = ap (λ b. cond b (Err status.wrong_length) (cond (is_none (next_at line m)) (Err status.no_frame) (Ok (inside (goes line))))) (lt-ltb _ _ few)

  next_fits : m.config.n201 + 4 ≤ room → next_with_room line room m ≡ cond (is_none (next_at line m)) (Err status.no_frame) (Ok (inside (goes line)))
  next_fits fits = ap (λ b. cond b (Err status.wrong_length) (cond (is_none (next_at line m)) (Err status.no_frame) (Ok (inside (goes line))))) (le-ltb _ _ fits)

  pub next_none : m.config.n201 + 4 ≤ room → next_at line m ≡ None → next_with_room line room m ≡ Err status.no_frame
  next_none fits none = next_fits fits ∙ ap (λ (o : Option NextFrame). cond (is_none o) (Err status.no_frame) (Ok (inside (goes line)))) none

  pub next_given : m.config.n201 + 4 ≤ room → (given : NextFrame) → next_at line m ≡ Some given → next_with_room line room m ≡ Ok (inside (goes line))
  next_given fits given some = next_fits fits ∙ ap (λ (o : Option NextFrame). cond (is_none o) (Err status.no_frame) (Ok (inside (goes line)))) some

is_given : (line : ℕ) (m : Card) → answer (goes line) m ≡ gave (next_at line m)
unfolding lines.answer lines.takes_slot
is_given line m = refl

pub shown_next : (timed : Bool) (r : PlainReport) (more : Bool) (line : ℕ) (m : Card) (given : NextFrame) → next_at line m ≡ Some given
    → ShowsPull r true more (orders_by timed given.orders) → ShowsGiven timed r more (answer (goes line) m)
shown_next timed r more line m given is s = subst (λ a. ShowsGiven timed r more a) (sym (is_given line m ∙ ap gave is)) s
