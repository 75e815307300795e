-- What each line of a script brings: its events lead the card as the line does, and what it says is what the answers to them say.
use Rattle.lapd_sim.proofs.OfMachine.Vocabulary.{[], ◌≡◌, ℕ, zero, suc, ◌+◌, ◌<◌, Bool, true, false, cond, List, ◌∷◌, ◌++◌, replicate, Option, Some, None, Result, Ok, Err, refl, sym, ap, ◌∙◌, nat_lt, nat_le, arith, ltb-true, nat_tests, All-nil, All-cons, recursion_from_All, none-some, LengthFault, Lengths, AreInRange, is_length, first_out_of_range, pull, expiry, request, hears, next, Event, at}
use Rattle.lapd_sim.proofs.OfMachine.Vocabulary.{Board, after_all, IsAtLine, AreAtLines, CardKind, Octets, Frames, FaultKind, BadNumber, BadLine, BadFrame, TimeOver, Setup, terminal_at, octets_sent, after_sending, with_terminal, Scene, with_event, with_events, octets_at, Pulls, one_pull, pulls, is_heard_as, expiries, after_rx, after_in, after_pull, after_coming, can_come, for_octets, for_frames}
use Rattle.lapd_sim.proofs.OfMachine.Vocabulary.{due_by, time_until, after_wait, after_timers, with_timers, with_card, last_moment, request_for, expiry_events, events_until, coming_events, meant_events, downs, teis_on, get_or, append_assoc, append-nil, after, reply, moments, reply_text, octet_in, pulled_text, replies_text, octet_given, meant_moments, at_line, taken_at, dropped, came}
use Rattle.lapd_sim.proofs.OfMachine.Vocabulary.{cause_of, said, AskTei, lengths_of}
use Rattle.std.specs.Prelude.{map}
use Rattle.lapd_script.specs.Meaning as line
use Rattle.lapd_sim.proofs.OfMachine.Expiries.{drained}
use Rattle.lapd_sim.proofs.OfMachine.Kinds.{IsEventOf, EachIsOf, none_of_kind, one_of_kind, request_is, downs_are, expiries_are, octets_are, pulls_are, heard_is, next_is}
use Rattle.lapd_sim.proofs.OfMachine.Runs.{one_event, no_event, event_before}
use Rattle.lapd_sim.proofs.OfMachine.Kept.{IsKept, by_expiry, events_kept, pulls_kept, octets_within, downs_within, pulls_within, wait_ticks, none_later}

-- ---- where events lead

events_lead : (events : List Event) (s : Scene) → (with_events events s).setup.board ≡ after_all s.setup.board events
unfolding after_all
events_lead [] s = refl
events_lead (e ∷ events) s = events_lead events (with_event s e)

pulls_lead : (count number : ℕ) (p : Pulls) → (pulls count number p).setup.board ≡ after_all p.setup.board (replicate count (at number pull))
unfolding after_all
pulls_lead zero number p = refl
pulls_lead (suc count) number p = pulls_lead count number (one_pull number p)

expiries_lead : (most end : ℕ) (s : Scene) → (expiries most end s).setup.board ≡ after_all s.setup.board (expiry_events most end s)
expiries_lead most end s =
    by_expiry end (λ s t es. t.setup.board ≡ after_all s.setup.board es) (λ s. no_event s.setup.board)
    (λ s due t es is h. h ∙ event_before s.setup.board (at due.0 (expiry due.1)) es) most s

-- Events lead one setup to another, and are of the kind of its card; and where what each line keeps holds of the first, it
-- holds of the other, and the events are at lines of the card.
pub record Led (before : Setup) (events : List Event) (after : Setup) : Type 0 where
  pub board : after.board ≡ after_all before.board events
  pub of_kind : EachIsOf before.board.kind events
  pub kept : IsKept before → IsKept after × AreAtLines before.board events

pub nothing_led : (b : Setup) → Led b [] b
nothing_led b = record { board = no_event b.board; of_kind = none_of_kind b.board.kind; kept = λ k. (k, All-nil (IsAtLine b.board)) }

events_led : (events : List Event) (s : Scene) → EachIsOf s.setup.board.kind events → AreAtLines s.setup.board events
    → Led s.setup events (with_events events s).setup
events_led events s of_kind at_lines = record { board = events_lead events s; of_kind = of_kind; kept = λ k. (events_kept events s at_lines k, at_lines) }

octets_led : (number : ℕ) (octets : List ℕ) (s : Scene) → s.setup.board.kind ≡ Octets → number < s.setup.board.config.lines
    → Led s.setup (octets_at number octets) (after_rx number octets s).setup
octets_led number octets s is within =
    events_led (octets_at number octets) s (octets_are s.setup.board.kind number octets is) (octets_within s.setup.board number octets within)

in_led : (number : ℕ) (octets : List ℕ) (s : Scene) → s.setup.board.kind ≡ Octets → number < s.setup.board.config.lines
    → Led s.setup (octets_at number (octets_sent octets (terminal_at number s.setup))) (after_in number octets s).setup
in_led number octets s is within =
    let terminal = terminal_at number s.setup in
    let led = octets_led number (octets_sent octets terminal) (record s { setup = with_terminal number (after_sending octets terminal) s.setup }) is within in
    record { board = led.board; of_kind = led.of_kind; kept = led.kept }

event_led : (e : Event) (s : Scene) → IsEventOf s.setup.board.kind e → IsAtLine s.setup.board e → Led s.setup (e ∷ []) (with_event s e).setup
event_led e s is within =
    let at_lines = All-cons (IsAtLine s.setup.board) e [] within (All-nil (IsAtLine s.setup.board)) in
    record { board = one_event s.setup.board e; of_kind = one_of_kind s.setup.board.kind e is; kept = λ k. (events_kept (e ∷ []) s at_lines k, at_lines) }

pulls_led : (number count : ℕ) (s : Scene) → s.setup.board.kind ≡ Octets → number < s.setup.board.config.lines
    → Led s.setup (replicate count (at number pull)) (after_pull number count s).setup
pulls_led number count s is within =
    let start : Pulls = record { setup = s.setup; octets = [] } in
    record {
      board = pulls_lead count number start;
      of_kind = pulls_are s.setup.board.kind number count is;
      kept = λ k. (pulls_kept count number start within k, pulls_within s.setup.board number count within);
    }

wait_led : (milliseconds : ℕ) (s : Scene) → Led s.setup (events_until (s.setup.clock.now + milliseconds) s) (after_wait milliseconds s).setup
wait_led milliseconds s =
    let end = s.setup.clock.now + milliseconds in
    let most = time_until end s.setup.clock in
    let last = expiries most end s in
    record {
      board = expiries_lead most end s;
      of_kind = expiries_are most end s;
      kept = λ k.
          let waited = wait_ticks most end s k.ticks in
          let none = drained most end s (due_by end s.setup.clock) k.ticks.lengths refl (omega arith) in
          let later = recursion_from_All (λ x. end < x.moment) last.setup.clock.running (none_later last.setup.clock.running end waited.ticks.in_order none) in
          (record { ticks = record { in_order = waited.ticks.in_order; on_lines = waited.ticks.on_lines; lengths = waited.ticks.lengths }; later = later }, waited.within);
    }

-- timers run a millisecond at least
pub in_range : (lengths : Lengths) → first_out_of_range lengths ≡ None → AreInRange lengths
in_range lengths none = grind (arith, is_length, nat_tests, AreInRange, none-some)

-- ---- what is said of them

pub moments-append : (card : Board) (xs ys : List Event) → moments card (xs ++ ys) ≡ moments card xs ++ moments (after_all card xs) ys
unfolding moments after_all
moments-append card [] ys = refl
moments-append card (x ∷ xs) ys = ap (λ ms. record { board = card; event = x; reply = reply x card } ∷ ms) (moments-append (after x card) xs ys)

pub no_moment : (card : Board) → moments card [] ≡ []
unfolding moments
no_moment card = refl

first_moment : (losses : Bool) (card : Board) (e : Event) (events : List Event)
    → replies_text losses (moments card (e ∷ events)) ≡ reply_text losses e (reply e card) ++ replies_text losses (moments (after e card) events)
unfolding moments
first_moment losses card e events = refl

events_say : (events : List Event) (s : Scene) → (with_events events s).text ≡ s.text ++ replies_text s.setup.losses (moments s.setup.board events)
unfolding moments
events_say [] s = sym (append-nil s.text)
events_say (e ∷ events) s =
    events_say events (with_event s e)
    ∙ append_assoc s.text (reply_text s.setup.losses e (reply e s.setup.board)) (replies_text s.setup.losses (moments (after e s.setup.board) events))

pulls_give : (count number : ℕ) (p : Pulls) → (pulls count number p).octets ≡ p.octets ++ map octet_given (moments p.setup.board (replicate count (at number pull)))
unfolding moments
pulls_give zero number p = sym (append-nil p.octets)
pulls_give (suc count) number p =
    pulls_give count number (one_pull number p)
    ∙ append_assoc p.octets (octet_in (reply (at number pull) p.setup.board) ∷ []) (map octet_given (moments (after (at number pull) p.setup.board) (replicate count (at number pull))))

pulls_keep : (count number : ℕ) (p : Pulls) → (pulls count number p).setup.taken ≡ p.setup.taken
pulls_keep zero number p = refl
pulls_keep (suc count) number p = pulls_keep count number (one_pull number p)

expiries_say : (most end : ℕ) (s : Scene) → (expiries most end s).text ≡ s.text ++ replies_text s.setup.losses (moments s.setup.board (expiry_events most end s))
expiries_say most end s =
    by_expiry end (λ s t es. t.text ≡ s.text ++ replies_text s.setup.losses (moments s.setup.board es)) (λ s. sym (ap (λ ms. s.text ++ replies_text s.setup.losses ms) (no_moment s.setup.board) ∙ append-nil s.text))
    (λ s due t es is h.
    let e : Event = at due.0 (expiry due.1) in
    h ∙ append_assoc s.text (reply_text s.setup.losses e (reply e s.setup.board)) (replies_text s.setup.losses (moments (after e s.setup.board) es)) ∙ ap (λ x. s.text ++ x) (sym (first_moment s.setup.losses s.setup.board e es)))
    most s

-- ---- a line, where there is a card

abbrev pub scene_of : Setup → Scene
scene_of b = record { setup = b; text = [] }

pub record Brings (b : Setup) (events : List Event) (text : List ℕ) (s : Scene) : Type 0 where
  pub led : Led b events s.setup
  pub says : s.text ≡ text

-- unless it is faulty
abbrev pub May : Setup → List Event → List ℕ → Result Scene FaultKind → Type 0
May b events text (Err kind) = Unit {0}
May b events text (Ok s) = Brings b events text s

module _ (b : Setup) (events : List Event) (text : List ℕ) where
  if_good : (good : Bool) (r : Result Scene FaultKind) (kind : FaultKind) → (good ≡ true → May b events text r) → May b events text (cond good r (Err kind))
  if_good true r kind h = h refl
  if_good false r kind h = tt

  octets_only : (kind : CardKind) (r : Result Scene FaultKind) → (kind ≡ Octets → May b events text r) → May b events text (for_octets kind r)
  octets_only Octets r h = h refl
  octets_only Frames r h = tt

  frames_only : (kind : CardKind) (r : Result Scene FaultKind) → (kind ≡ Frames → May b events text r) → May b events text (for_frames kind r)
  frames_only Octets r h = tt
  frames_only Frames r h = h refl

-- at a line of the card
at_it : {events : List Event} {text : List ℕ} (number : ℕ) (b : Setup) (s : Scene) → (number < b.board.config.lines → Brings b events text s) → May b events text (at_line number (scene_of b) s)
at_it number b s h = if_good _ _ _ (nat_lt number b.board.config.lines) (Ok s) BadLine (λ good. h (ltb-true _ _ good))

event_brought : (e : Event) (b : Setup) → IsEventOf b.board.kind e → IsAtLine b.board e
    → Brings b (e ∷ []) (replies_text b.losses (moments b.board (e ∷ []))) (with_event (scene_of b) e)
event_brought e b is within = record { led = event_led e (scene_of b) is within; says = events_say (e ∷ []) (scene_of b) }

coming_brought : (kind : CardKind) (number : ℕ) (octets : List ℕ) (b : Setup) → b.board.kind ≡ kind → number < b.board.config.lines
    → let events = coming_events kind number octets (scene_of b) in Brings b events (replies_text b.losses (moments b.board events)) (after_coming kind number octets (scene_of b))
coming_brought Octets number octets b is within = record { led = in_led number octets (scene_of b) is within; says = events_say (octets_at number (octets_sent octets (terminal_at number b))) _ }
coming_brought Frames number octets b is within =
    event_brought (at number (is_heard_as (scene_of b) octets)) b (heard_is b.board.kind number (came b.board.config.n201 octets) is) within

pulls_brought : (number count : ℕ) (b : Setup) → b.board.kind ≡ Octets → number < b.board.config.lines
    → let events = replicate count (at number pull) in Brings b events (said (line.pull number count) b (moments b.board events)) (after_pull number count (scene_of b))
pulls_brought number count b is within =
    let start : Pulls = record { setup = b; octets = [] } in
    record {
      led = pulls_led number count (scene_of b) is within;
      says = ap (λ t. pulled_text number (get_or t number []) (pulls count number start).octets) (pulls_keep count number start)
          ∙ ap (pulled_text number (taken_at number b)) (pulls_give count number start);
    }

-- `timers` brings no event, and keeps what is kept
timers_brought : (lengths : Lengths) (b : Setup) → May b [] [] (with_timers lengths (scene_of b))
timers_brought lengths b = go (first_out_of_range lengths) refl
  where
    go : (o : Option LengthFault) → first_out_of_range lengths ≡ o → May b [] [] (elim o as (λ o. Result Scene FaultKind) [ None ↦ Ok (after_timers lengths (scene_of b)) | Some timer ↦ Err BadNumber ])
    go (Some timer) e = tt
    go None e = record {
      led = record {
        board = no_event b.board;
        of_kind = none_of_kind b.board.kind;
        kept = λ k. (record { ticks = record { in_order = k.ticks.in_order; on_lines = k.ticks.on_lines; lengths = in_range lengths e }; later = k.later }, All-nil (IsAtLine b.board));
      };
      says = refl;
    }

pub meaning_brings : (m : line.Meaning) (b : Setup) → May b (meant_events m (scene_of b)) (said m b (meant_moments m b)) (with_card m (scene_of b))
meaning_brings line.skip b = record { led = nothing_led b; says = refl }
meaning_brings (line.card kind config) b = tt
meaning_brings (line.rx number octets) b =
    octets_only _ _ _ b.board.kind _
    (λ is. at_it number b _ (λ within. record { led = octets_led number octets (scene_of b) is within; says = events_say (octets_at number octets) (scene_of b) }))
meaning_brings (line.into number octets) b =
    if_good _ _ _ (nat_lt number b.board.config.lines) _ BadLine
    (λ good. if_good _ _ _ (can_come b.board.kind octets) _ BadFrame (λ _. coming_brought b.board.kind number octets b refl (ltb-true _ _ good)))
meaning_brings (line.failed number fault) b =
    frames_only _ _ _ b.board.kind _
    (λ is. at_it number b _ (event_brought (at number (hears (dropped (cause_of fault)))) b (heard_is b.board.kind number (dropped (cause_of fault)) is)))
meaning_brings (line.next number) b = frames_only _ _ _ b.board.kind _ (λ is. at_it number b _ (event_brought (at number next) b (next_is b.board.kind number is)))
meaning_brings (line.down number) b =
    let events = downs number (teis_on number b.board) in
    at_it number b _ (λ within. record { led = events_led events (scene_of b) (downs_are b.board.kind number (teis_on number b.board)) (downs_within b.board number (teis_on number b.board) within); says = events_say events (scene_of b) })
meaning_brings (line.ask_tei number) b = at_it number b _ (event_brought (at number (request AskTei)) b (request_is b.board.kind number AskTei))
meaning_brings (line.pull number count) b = octets_only _ _ _ b.board.kind _ (λ is. at_it number b _ (pulls_brought number count b is))
meaning_brings (line.wait milliseconds) b =
    let end = b.clock.now + milliseconds in
    if_good _ _ _ (nat_le end last_moment) _ TimeOver (λ _. record { led = wait_led milliseconds (scene_of b); says = expiries_say (time_until end b.clock) end (scene_of b) })
meaning_brings (line.timers durations) b = timers_brought (lengths_of durations) b
meaning_brings line.losses b = record {
  led = record { board = no_event b.board; of_kind = none_of_kind b.board.kind; kept = λ k. (k, All-nil (IsAtLine b.board)) };
  says = refl;
}
meaning_brings line.save b = record { led = nothing_led b; says = refl }
meaning_brings line.restore b = frames_only _ _ _ b.board.kind _ (λ is. record { led = nothing_led b; says = refl })
meaning_brings line.stored b = record { led = nothing_led b; says = refl }
meaning_brings (line.counters number group) b = at_it number b _ (λ within. record { led = nothing_led b; says = refl })
meaning_brings (line.ask number tei what octets) b =
    at_it number b _ (event_brought (at number (request (request_for what tei octets))) b (request_is b.board.kind number (request_for what tei octets)))
