-- The control frames of a link that wait are those that an observer has.
use Rattle.laws_trace.proofs.Vocabulary.{arith, ◌≡◌, ℕ, ◌<◌, ◌-◌, ◌==◌, ◌&&◌, false, cond, not, List, [], ◌++◌, drop, take, length, Some, refl, sym, ap, ◌∙◌, subst, eq-eqb, fold, Service, ControlFrame, Link, Config, Line, link_of, place_in, lost_in, IsInRange, at, moments, deactivates, fresh, CardEvent as Event, Moment, after_all, AreAtLines, Observed, View, views, view_of, moment_of}
use Rattle.laws_trace.proofs.Vocabulary.{view_behind}
use Rattle.laws_trace.proofs.Vocabulary.{put_in, outgoing_of, seen, seen_in, trace_of, true, Bool, All, ◌∷◌, map, flat_map, filter, Option, None, option_to_list, inl, inr, append-nil, place_of-is, given-in-order, IsInOrder, All-head, Refusal, Terms, Given, IsGiven, given_is_frame, Effect, next, Answer, unless_refused_told, is_information, terms, terms_in_range, PoolFull, and_parts, line_at}
use Rattle.laws_trace.proofs.Vocabulary.{is_full, by_room, Control, IsSound, line_frame_of as frame_of, Card, card_answer as answer, is_frame_of, trace_frame_in as frame_in, is_ui, drop-nil, offer, link_after as after, given, outgoing_waits}
use Rattle.model_line.specs.Event as line_event
use Rattle.laws_trace.proofs.ControlFrames.{moment}
use Rattle.laws_trace.proofs.ControlsAtLine.{waits}
use Rattle.laws_trace.proofs.ControlsDue.{controls}
use Rattle.laws_trace.proofs.ControlsSeen.{controls_begun, begun_of, begun-is, given-read}
use Rattle.laws_trace.proofs.ControlsWatched as old
use Rattle.laws_trace.proofs.DeliveriesKept.{run-stands}
use Rattle.laws_trace.proofs.DeliveriesWatched.{at_first as watched_first, stand}
use Rattle.laws_trace.proofs.MovesWatched.{repeated}
use Rattle.laws_trace.proofs.NewsWatched.{none_wanted, none_owed, owing, asked}
use Rattle.laws_trace.proofs.ObservedAcknowledged.{agrees-now}
use Rattle.laws_trace.proofs.ObservedControlsMoment.{due-same}
use Rattle.laws_trace.proofs.SeenAs.{seen-before}
use Rattle.laws_trace.proofs.Standing.{standing}
use Rattle.laws_trace.proofs.StandingOfLink.{calm}
use Rattle.laws_trace.proofs.TimersWatched.{nothing_yet as known_first, watch}
use Rattle.laws_trace.proofs.Outgoing.{comes, its, behind_of, here-at, has-now}
use Rattle.laws_trace.proofs.LinkLed.{on-line}
use Rattle.laws_trace.proofs.ObservedRun.{holds-here, known-is}
use Rattle.laws_trace.proofs.TimersAreTimely.{config-now, sound-now, timely-now}
use Rattle.laws_trace.proofs.Facts.{not-one, some-of}
use Rattle.model_link.specs.Sound as link_sound
use Rattle.model_line.specs.Machine as lines
use Rattle.laws_trace.proofs.ControlsSeen as seen_of
use Rattle.laws_trace.proofs.ControlsWatched.{control_in}
use Rattle.laws_trace.proofs.DataAsked.{only-offered}
use Rattle.laws_trace.proofs.FramesOfLink.{all-foreign, own-frame}
use Rattle.laws_trace.proofs.LineAtEnd.{line-at-end, link-at-end}
use Rattle.laws_trace.proofs.NoUi.{IsPlain}
use Rattle.laws_trace.proofs.OneLink.{frames_given, Goes, event-goes}
use Rattle.laws_trace.proofs.Plain.{own-plain}

-- Where control frames of a link wait, each frame of it that begins is one of them.
-- What is neither an I-frame nor a UI is a control frame.
single : (command : Bool) (control : Control) → is_information control ≡ false → is_ui control ≡ false → length (control_in command control) ≡ 1
single command control bare plain = grind arith

module _ (c : Config) (events : List Event) (number : ℕ) (ranged : IsInRange c) (all : AreAtLines (fresh c) events) (within : number < c.lines) (service : Service) (tei : ℕ) where
  abbrev card : Card
  card = after_all (fresh c) events

  abbrev line : Line
  line = line_at number (after_all (fresh c) events)

  abbrev t : Terms
  t = terms c service tei

  abbrev own : Link
  own = link_of service tei line

  abbrev Leaves : List (List ℕ) → Type 0
  Leaves frames =
      drop (length (filter (is_frame_of c service tei) frames)) (waits service tei line) ≡ drop (length (flat_map (begun_of c service tei) frames)) (waits service tei line)

  sound : IsSound c line
  sound = line-at-end c events number ranged all within

  empty : own.waiting ≡ [] → (n m : ℕ) → drop n (waits service tei line) ≡ drop m (waits service tei line)
  empty none n m = grind (arith, controls, drop-nil)

  module _ (place : ℕ) (on : place_in line tei ≡ Some place) where
    safe : link_sound.IsSound t own
    safe = link-at-end c line ranged sound service tei place on

    range : link_sound.IsInRange t
    range = terms_in_range c ranged service tei (sound.management.table.range place tei (place_of-is line.management.places tei place on).1)

    own-leaves : (g : Option Given) → given t own ≡ g → Leaves (map (frame_of c t) (option_to_list g))
    own-leaves None none = refl
    own-leaves (Some g) some = go (some-of (λ g. IsInOrder t own (after t offer own) g.frame) (given t own) g some (given-in-order t own safe))
      where
        go : IsInOrder t own (after t offer own) g.frame → Leaves (frame_of c t g ∷ [])
        go (inr (inl information)) = empty information.none _ _
        go (inr (inr acknowledgement)) = empty acknowledgement.none _ _
        go (inl oldest) =
            let is : IsGiven t g.frame g.contents = some-of (λ g. IsGiven t g.frame g.contents) (given t own) g some (given_is_frame t range own safe) in
            let plain : is_ui g.frame.control ≡ false =
            All-head IsPlain g.frame (after t offer own).waiting (subst (All IsPlain) oldest.waited (own-plain c events number ranged all within service tei place on)) in
            ap (λ b. drop (length (cond b (frame_of c t g ∷ []) [])) (waits service tei line)) (own-frame c service tei g is plain)
            ∙ sym (ap (λ xs. drop (length xs) (waits service tei line)) (append-nil (begun_of c service tei (frame_of c t g)) ∙ given-read c service tei g is)
            ∙ ap (λ n. drop n (waits service tei line)) (single g.frame.command g.frame.control oldest.bare plain))

  line-leaves : Leaves (frame_in (lines.answer c next line))
  line-leaves = go (event-goes c next line service tei sound)
    where
      go : Goes c service tei next line (lines.after c next line) (lines.answer c next line) → Leaves (frame_in (lines.answer c next line))
      go (inl x) = grind (arith, waits, all-foreign, seen_of.all-foreign)
      go (inr (inl x)) =
          subst Leaves (sym (x.begins ∙ ap (λ e. frames_given c t e own) (only-offered c (lines.answer c next line) service tei x.event x.by)))
          (own-leaves x.place x.placed (given t own) refl)
      go (inr (inr x)) = absurd (cc x.by.0)

  -- An event that is no call begins none.
  none-given : (o : Option Refusal) (x : Effect) → frame_in (unless_refused_told o x) ≡ []
  none-given o x = grind arith

  abbrev Begun : line_event.Event → Answer → Type 0
  Begun what a =
      drop (length (filter (is_frame_of c service tei) (frame_in a))) (waits service tei line) ≡ drop (length (controls_begun c service tei (seen what a))) (waits service tei line)

  any-leaves : (what : line_event.Event) → Leaves (frame_in (lines.answer c what line))
  unfolding lines.answer
  any-leaves what = grind (arith, none-given, line-leaves)

  line-begun : (what : line_event.Event) → Begun what (lines.answer c what line)
  line-begun what = any-leaves what ∙ ap (λ xs. drop (length xs) (waits service tei line)) (sym (begun-is c service tei what line))

  full-begun : (what : line_event.Event) → lines.takes_slot c what line ≡ true → Begun what (line_event.refused PoolFull)
  unfolding lines.takes_slot
  full-begun what takes = grind arith

  pub begun-leaves : (what : line_event.Event) → Begun what (answer (at number what) card)
  begun-leaves what =
      by_room (λ ls a. Begun what a) (at number what) card
      (λ full. full-begun what (subst (λ (d : Config). lines.takes_slot d what line ≡ true) (config-now c events number ranged all within service tei) (and_parts (lines.takes_slot card.config what line) (is_full card) full).0))
      (λ room. subst (λ (d : Config). Begun what (lines.answer d what line)) (sym (config-now c events number ranged all within service tei)) (line-begun what))

module _ (c : Config) (number : ℕ) (ranged : IsInRange c) (within : number < c.lines) (service : Service) (tei : ℕ) where
  abbrev line_of : List Event → Line
  line_of events = its c number ranged within service tei events

  abbrev later_of : List Event → line_event.Event → Line
  later_of before what = behind_of c number ranged within service tei before what

  abbrev due_by : Config → Observed → Observed → Moment → List ControlFrame
  due_by d was now m = cond (m.event.line == number && not (was.state == 1)) (put_in d service tei was now m) []

  abbrev last_of : List ControlFrame → Moment → List ControlFrame
  last_of frames m = take (length frames - lost_in m.answer) frames

  due-here : (before : List Event) (all : AreAtLines (fresh c) before) (what : line_event.Event) →
      let w = fold (stand c service tei) watched_first (trace_of c before number) in
      let m = moment_of c before number what in
      let card = after_all (fresh c) before in
      old.due_in c service tei number (calm w.told.count w.busy w.rejected) (standing service tei c (calm w.told.count w.busy w.rejected) (seen_in number m)) m
      ≡ last_of (due_by c (view_of c service tei number before).link (view_behind c service tei number before what).link m) m
  due-here before all what =
      let card = after_all (fresh c) before in
      let ms = moments (fresh c) before in
      let m = moment_of c before number what in
      let w = fold (stand c service tei) watched_first (trace_of c before number) in
      let v = view_of c service tei number before in
      let x = run-stands c before number ranged all within service tei in
      subst (λ (d : Config). old.due_in d service tei number (calm w.told.count w.busy w.rejected) (standing service tei d (calm w.told.count w.busy w.rejected) (seen_in number m)) m
      ≡ last_of (due_by d v.link (views d service tei number v m).link m) m) (config-now c before number ranged all within service tei)
      (due-same service tei number card (sound-now c before number ranged all within service tei) (timely-now c before number ranged all within service tei) (at number what) (here-at c number ranged within service tei before all)
      (fold (watch c service tei number) known_first ms) (fold (asked service tei number) none_wanted ms) (fold (owing c service tei number) none_owed ms)
      (known-is c before number ranged all within service tei ms known_first none_owed refl) (fold (repeated service tei number) 0 ms) v (holds-here c before number ranged all within service tei)
      w.told.count w.busy w.rejected (x.1, x.2) (agrees-now c before number ranged all within service tei))

  -- as it is by what is seen,
  waits-exact : (before : List Event) → AreAtLines (fresh c) before → (what : line_event.Event) (p q : ℕ) → place_in (line_of before) tei ≡ Some p → place_in (later_of before what) tei ≡ Some q
      → let m = moment_of c before number what in
      cond (deactivates service tei what) [] (drop (length (controls_begun c service tei (seen what m.answer))) (waits service tei (line_of before))
      ++ last_of (due_by c (view_of c service tei number before).link (view_behind c service tei number before what).link m) m)
      ≡ waits service tei (later_of before what)
  waits-exact before all what p q on there =
      let l = line_of before in
      let m = moment_of c before number what in
      let w = fold (stand c service tei) watched_first (trace_of c before number) in
      let x = run-stands c before number ranged all within service tei in
      let same = config-now c before number ranged all within service tei in
      let passes = (moment service tei w.told.count w.busy w.rejected (after_all (fresh c) before) (at number what) number (sound-now c before number ranged all within service tei)
      (timely-now c before number ranged all within service tei) (here-at c number ranged within service tei before all) (x.1, x.2) (number == number) refl).passes in
      let down = deactivates service tei what in
      let last : (d : Config) → List ControlFrame =
      λ d. old.due_in d service tei number (calm w.told.count w.busy w.rejected) (standing service tei d (calm w.told.count w.busy w.rejected) (seen_in number m)) m in
      let exact : waits service tei (later_of before what) ≡ cond ((number == number) && down) [] (drop (length (controls_begun c service tei (seen_in number m))) (waits service tei l) ++ last c) =
      subst (λ (d : Config). waits service tei (later_of before what) ≡ cond ((number == number) && down) [] (drop (length (controls_begun d service tei (seen_in number m))) (waits service tei l) ++ last d)) same
      (passes (on-line l tei p on) (on-line (later_of before what) tei q there)) in
      sym (exact ∙ ap (λ b. cond (b && down) [] (drop (length (controls_begun c service tei (cond b (seen what m.answer) []))) (waits service tei l) ++ last c)) (eq-eqb number number refl)
      ∙ ap (λ xs. cond down [] (drop (length (controls_begun c service tei (seen what m.answer))) (waits service tei l) ++ xs)) (due-here before all what))

  -- and so by the frames that begin
  pub waits-stay : (before : List Event) → AreAtLines (fresh c) before → (what : line_event.Event) (p q : ℕ) → place_in (line_of before) tei ≡ Some p → place_in (later_of before what) tei ≡ Some q
      → outgoing_waits c service tei (view_of c service tei number before).link (view_behind c service tei number before what).link (moment_of c before number what) (waits service tei (line_of before))
      ≡ waits service tei (later_of before what)
  waits-stay before all what p q on there =
      let m = moment_of c before number what in
      let was = (view_of c service tei number before).link in
      let puts = put_in c service tei was (view_behind c service tei number before what).link m in
      let own = seen-before c before number ranged all within service tei p on in
      let down = deactivates service tei what in
      ap (λ ws. cond down [] (ws ++ last_of puts m)) (begun-leaves c before number ranged all within service tei what)
      ∙ ap (λ b. cond down [] ((drop (length (controls_begun c service tei (seen what m.answer))) (waits service tei (line_of before))) ++ last_of (cond b puts []) m))
      (sym (ap (λ b. b && not (was.state == 1)) (eq-eqb number number refl) ∙ ap not (ap (λ s. s == 1) own.state_is ∙ not-one (link_of service tei (line_of before)).state)))
      ∙ waits-exact before all what p q on there

  abbrev waits_by : View → View → Moment → List ControlFrame → List ControlFrame
  waits_by was now m xs = outgoing_waits c service tei was.link now.link m xs

  pub waiting-now : (events : List Event) → AreAtLines (fresh c) events → (place : ℕ) → place_in (line_of events) tei ≡ Some place
      → (outgoing_of c service tei number events).waiting ≡ waits service tei (line_of events)
  waiting-now =
      has-now c number ranged within service tei [] (λ o. o.waiting) waits_by (λ o m. refl) (waits service tei)
      (λ before all what off.
      ap (λ (k : Link). controls k.waiting) (comes (after_all (fresh c) before) number what (sound-now c before number ranged all within service tei) (here-at c number ranged within service tei before all) service tei off))
      waits-stay
