-- A link owes an acknowledgement where an observer has it so.
use Rattle.laws_trace.proofs.Vocabulary.{◌≡◌, ℕ, ◌<◌, ◌==◌, ◌&&◌, ◌||◌, not, Bool, true, false, cond, List, [], get_or, Some, None, refl, sym, ap, ◌∙◌, subst, arith, eq-eqb, fold, and_parts, list_any, option_map_or, get_or-set_same, PoolFull, Service, ControlFrame, Link, is_multiple_frame, state_number, Config, Answer, refused, Line, fresh_line, has_tei, link_of, place_in, state_of, IsInRange}
use Rattle.laws_trace.proofs.Vocabulary.{notes_of, is_data_of, Card, line_at, is_full, at, moments, has_lines, by_room, line_sound, AllHaveTheirTimers, fresh, CardEvent as Event, Moment, after_all, IsAtLine, AreAtLines, put_in, is_frame_of, managing_is_on as is_on, Observed, View, views, view_of, moment_of, view_behind, Outgoing, outgoing_of, is_empty, still_owes, trace_frame_in as frame_in}
use Rattle.laws_trace.proofs.Vocabulary.{is_up, Seen, seen, trace_of, and-false, line_after as after, answer, takes_slot, CardIsSound as IsSound, outgoing_waits}
use Rattle.model_line.specs.Event as line_event
use Rattle.model_card.specs.Machine as cards
use Rattle.laws_trace.proofs.ControlsAtLine.{waits, put_here}
use Rattle.laws_trace.proofs.ControlsDue.{controls}
use Rattle.laws_trace.proofs.ControlsWatched.{command_of}
use Rattle.laws_trace.proofs.DeliveriesKept.{run-stands}
use Rattle.laws_trace.proofs.DeliveriesRun.{IsCount}
use Rattle.laws_trace.proofs.DeliveriesWatched.{Standing, at_first as watched_first, stand}
use Rattle.laws_trace.proofs.LinkLed.{on-line}
use Rattle.laws_trace.proofs.LinksMove.{differ-self, none-expires}
use Rattle.laws_trace.proofs.MovesWatched.{repeated}
use Rattle.laws_trace.proofs.NewsWatched.{none_wanted, none_owed, owing, asked}
use Rattle.laws_trace.proofs.ObservedAcknowledged.{agrees-now}
use Rattle.laws_trace.proofs.ObservedControlsMoment.{puts-by}
use Rattle.laws_trace.proofs.ObservedControlsSeen.{none-mapped}
use Rattle.laws_trace.proofs.ObservedRun.{holds-here, known-is}
use Rattle.laws_trace.proofs.Outgoing.{comes, its, behind_of, here-at, has-now}
use Rattle.laws_trace.proofs.OwedAtLine.{Owed, event-pends}
use Rattle.laws_trace.proofs.Plain.{all-wait}
use Rattle.laws_trace.proofs.Runs.{nothing-seen}
use Rattle.laws_trace.proofs.SeenAs.{seen-before, seen-behind}
use Rattle.laws_trace.proofs.Standing.{standing, stand-is}
use Rattle.laws_trace.proofs.StandingOfLink.{calm, IsStanding}
use Rattle.laws_trace.proofs.States.{expired_of, one_more, differ}
use Rattle.laws_trace.proofs.TimersAreTimely.{config-now, sound-now, timely-now}
use Rattle.laws_trace.proofs.TimersWatched.{nothing_yet as known_first, watch}
use Rattle.laws_trace.proofs.WaitingNow.{waits-stay}
use Rattle.laws_trace.proofs.Facts.{not-one, number-up}

-- An event of a line of a card.
module _ (service : Service) (tei n : ℕ) (busy rejected : Bool) where
  abbrev was : Standing
  was = calm n busy rejected

  abbrev up : Line → Bool
  up l = is_multiple_frame (link_of service tei l).state

  abbrev time_of : Line → line_event.Event → Line → Bool
  time_of l what x = differ (state_of service tei l) (state_of service tei x) || (true && option_map_or one_more (expired_of service tei what) 0 == 1)

  abbrev pub Put : Config → Standing → Line → line_event.Event → List Seen → Line → List ControlFrame
  Put c now l what t x = put_here service tei c was now (time_of l what x) l t x

  abbrev Pends : Config → Standing → Line → line_event.Event → List Seen → Answer → Line → Type 0
  Pends c now l what t a x =
      has_tei tei l ≡ true → has_tei tei x ≡ true → let own = link_of service tei l in
      (link_of service tei x).pending ≡ Owed (up l) (up x) (Put c now l what t x) (is_empty own.waiting && list_any (is_frame_of c service tei) (frame_in a)) (own.pending || list_any (is_data_of service tei) (notes_of a))

  pub no-put : (c : Config) (l : Line) (what : line_event.Event) → option_map_or one_more (expired_of service tei what) 0 ≡ 0 → Put c was l what [] l ≡ []
  no-put c l what no-time = grind (arith, command_of, none-mapped, differ, differ-self)

  idle : (c : Config) (l : Line) (what : line_event.Event) (why : Answer) → frame_in why ≡ [] → notes_of why ≡ [] → IsStanding (link_of service tei l) busy rejected
      → option_map_or one_more (expired_of service tei what) 0 ≡ 0 → Pends c was l what [] why l
  idle c l what why none silent stands no-time was-on is-on = grind (arith, Owed, and-false, no-put)

  pub own-pends : (m : Card) (e : Event) → IsSound m → AllHaveTheirTimers m → IsAtLine m e → let l = line_at e.line m in
      IsCount (link_of service tei l) n → IsStanding (link_of service tei l) busy rejected → let a = cards.answer e m in
      Pends m.config (standing service tei m.config was (seen e.what a)) l e.what (seen e.what a) a (line_at e.line (cards.after e m))
  own-pends m e s timely here count stands =
      let c = m.config in
      let l = line_at e.line m in
      by_room (λ ls a. Pends c (standing service tei c was (seen e.what a)) l e.what (seen e.what a) a (get_or ls e.line (fresh_line c))) e m
      (λ full.
      let takes = (and_parts (takes_slot c e.what l) (is_full m) full).0 in
      subst (λ t. Pends c (standing service tei c was t) l e.what t (refused PoolFull) l) (sym (nothing-seen c e.what l takes))
      (idle c l e.what (refused PoolFull) refl refl stands (ap (λ o. option_map_or one_more o 0) (none-expires c service tei e.what l takes))))
      (λ room.
      let t = seen e.what (answer c e.what l) in
      let next = after c e.what l in
      subst (λ (x : Line). Pends c (standing service tei c was t) l e.what t (answer c e.what l) x)
      (sym (get_or-set_same m.lines e.line next (fresh_line c) (omega (arith, s.count, here))))
      (subst (λ w. Pends c w l e.what t (answer c e.what l) next) (sym (stand-is service tei c e.what l n busy rejected))
      (event-pends service tei c s.config e.what l (line_sound m e.line (has_lines m s) here) (timely.lines e.line here) n busy rejected count stands)))

-- What waits, and is owed.
abbrev pub Pending : Type 0
Pending = List ControlFrame × Bool

either-pair : (stays here : Bool) (xs ys : List ControlFrame) (b d : Bool)
    → (cond stays (cond here xs ys) [], stays && cond here b d) ≡ cond {A = Pending} stays (cond here (xs, b) (ys, d)) ([], false)
either-pair stays here xs ys b d = grind arith

module _ (c : Config) (number : ℕ) (ranged : IsInRange c) (within : number < c.lines) (service : Service) (tei : ℕ) where
  abbrev line_of : List Event → Line
  line_of events = its c number ranged within service tei events

  abbrev later_of : List Event → line_event.Event → Line
  later_of before what = behind_of c number ranged within service tei before what

  abbrev pending_of : Line → Pending
  pending_of l = (waits service tei l, (link_of service tei l).pending)

  module _ (before : List Event) (all : AreAtLines (fresh c) before) (what : line_event.Event) (p q : ℕ) (on : place_in (line_of before) tei ≡ Some p) (there : place_in (later_of before what) tei ≡ Some q) where
    abbrev m : Card
    m = after_all (fresh c) before

    abbrev l : Line
    l = line_of before

    abbrev x : Line
    x = later_of before what

    abbrev w : Standing
    w = fold (stand c service tei) watched_first (trace_of c before number)

    abbrev its-moment : Moment
    its-moment = moment_of c before number what

    abbrev v : View
    v = view_of c service tei number before

    abbrev o : Observed
    o = v.link

    abbrev then : View
    then = view_behind c service tei number before what

    same-config : m.config ≡ c
    same-config = config-now c before number ranged all within service tei

    stands : (w.told.frame ≡ None) × IsCount (link_of service tei l) w.told.count × IsStanding (link_of service tei l) w.busy w.rejected
    stands = run-stands c before number ranged all within service tei

    pub was-state : o.state ≡ state_number (link_of service tei l).state
    was-state = (seen-before c before number ranged all within service tei p on).state_is

    pub now-state : then.link.state ≡ state_number (link_of service tei x).state
    now-state = (seen-behind c before number ranged all within service tei what q there).state_is

    abbrev Puts : Config → List ControlFrame
    Puts d = Put service tei w.told.count w.busy w.rejected d (standing service tei d (calm w.told.count w.busy w.rejected) (seen what its-moment.answer)) l what (seen what its-moment.answer) x

    pub puts-so : Puts c ≡ put_in c service tei o then.link its-moment
    puts-so =
        let ms = moments (fresh c) before in
        subst (λ (d : Config). Puts d ≡ put_in d service tei o (views d service tei number v its-moment).link its-moment) same-config
        (puts-by service tei number m (sound-now c before number ranged all within service tei) (timely-now c before number ranged all within service tei) (at number what) (here-at c number ranged within service tei before all)
        (fold (watch c service tei number) known_first ms) (fold (asked service tei number) none_wanted ms) (fold (owing c service tei number) none_owed ms)
        (known-is c before number ranged all within service tei ms known_first none_owed refl) (fold (repeated service tei number) 0 ms) v (holds-here c before number ranged all within service tei)
        w.told.count w.busy w.rejected (stands.1, stands.2) (agrees-now c before number ranged all within service tei) true (eq-eqb number number refl)
        ∙ ap (λ b. cond (not b) (put_in m.config service tei o (views m.config service tei number v its-moment).link its-moment) []) (ap (λ s. s == 1) was-state ∙ not-one (link_of service tei l).state))

    pends-so : still_owes c service tei o then.link its-moment (waits service tei l) (link_of service tei l).pending ≡ (link_of service tei x).pending
    pends-so =
        let own = link_of service tei l in
        let frames = list_any (is_frame_of c service tei) (frame_in its-moment.answer) in
        let owes = own.pending || list_any (is_data_of service tei) (notes_of its-moment.answer) in
        let pends = subst (λ (d : Config). Pends service tei w.told.count w.busy w.rejected d (standing service tei d (calm w.told.count w.busy w.rejected) (seen what its-moment.answer)) l what (seen what its-moment.answer) its-moment.answer x) same-config
        (own-pends service tei w.told.count w.busy w.rejected m (at number what) (sound-now c before number ranged all within service tei) (timely-now c before number ranged all within service tei)
        (here-at c number ranged within service tei before all) stands.1 stands.2) in
        ap (λ ws. still_owes c service tei o then.link its-moment ws own.pending) (all-wait c before number ranged all within service tei p on)
        ∙ ap (λ b. Owed b (is_up then.link.state) (put_in c service tei o then.link its-moment) (is_empty own.waiting && frames) owes) (ap is_up was-state ∙ number-up own.state)
        ∙ ap (λ b. Owed (is_multiple_frame own.state) b (put_in c service tei o then.link its-moment) (is_empty own.waiting && frames) owes) (ap is_up now-state ∙ number-up (link_of service tei x).state)
        ∙ ap (λ ps. Owed (is_multiple_frame own.state) (is_multiple_frame (link_of service tei x).state) ps (is_empty own.waiting && frames) owes) (sym puts-so)
        ∙ sym (pends (on-line l tei p on) (on-line x tei q there))

  abbrev pending_by : View → View → Moment → Pending → Pending
  pending_by was now m y = (outgoing_waits c service tei was.link now.link m y.0, still_owes c service tei was.link now.link m y.0 y.1)

  pub owed-now : (events : List Event) → AreAtLines (fresh c) events → (place : ℕ) → place_in (line_of events) tei ≡ Some place
      → (outgoing_of c service tei number events).owes ≡ (link_of service tei (line_of events)).pending
  owed-now events all place on =
      ap (λ (y : Pending). y.1)
      (has-now c number ranged within service tei ([], false) (λ (o : Outgoing). (o.waiting, o.owes)) pending_by
      (λ o m. let now = views c service tei number o.view m in
      either-pair (is_on tei now.teis && is_on tei o.view.teis) (m.event.line == number) (outgoing_waits c service tei o.view.link now.link m o.waiting) o.waiting
      (still_owes c service tei o.view.link now.link m o.waiting o.owes) o.owes)
      pending_of
      (λ before all what off.
      ap (λ (k : Link). (controls k.waiting, k.pending)) (comes (after_all (fresh c) before) number what (sound-now c before number ranged all within service tei) (here-at c number ranged within service tei before all) service tei off))
      (λ before all what p q on there.
      ap (λ xs. (xs, still_owes c service tei (view_of c service tei number before).link (view_behind c service tei number before what).link (moment_of c before number what) (waits service tei (line_of before)) (link_of service tei (line_of before)).pending))
      (waits-stay c number ranged within service tei before all what p q on there)
      ∙ ap (λ b. (waits service tei (later_of before what), b)) (pends-so before all what p q on there))
      events all place on)
