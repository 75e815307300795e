-- The control frames of a link that wait and go: one event of a line.
use Rattle.laws_trace.proofs.Vocabulary.{arith, ◌≡◌, ℕ, ◌+◌, ◌-◌, ◌≤◌, ◌==◌, ◌&&◌, ◌||◌, Bool, true, false, cond, List, [], ◌++◌, drop, length, map, take, Some, None, refl, sym, ap, ◌∙◌, subst, inl, inr, append-nil, true≢false, flat_map, not, option_to_list, is_some, list_any, option_map_or, le-ltb, BadTei, NoLink, Service, same_service, place_of-is, takes_contents, as_heard, moves, as_response}
use Rattle.laws_trace.proofs.Vocabulary.{event-follows, HasItsTimer, ControlFrame, Terms, restarts, Link, is_multiple_frame, state_number, event-delivers, Config, next, Answer, Deactivate, at_deactivated, Line, link_in, link_number, link_of, place_in, has_tei, state_of, terms, aim_of, unless_refused, IsInRange, terms_in_range, lost_in, notes_of, is_data_of, deactivates, is_deactivation}
use Rattle.laws_trace.proofs.Vocabulary.{both-true}
use Rattle.laws_trace.proofs.Vocabulary.{IsBy, HaveTheirTimers, eqb-true, fresh_link as fresh, Event, refusal, Request, line_after as after, answer, line_frame_of as frame_of, IsSound, trace_frame_in as frame_in, Seen, seen, request}
use Rattle.model_link.specs.Events as link
use Rattle.model_link.specs.Machine as links
use Rattle.model_link.specs.Sound as link_sound
use Rattle.laws_trace.proofs.ControlsWatched.{receipt, changed, command_of}
use Rattle.laws_trace.proofs.DeliveriesWatched.{Standing}
use Rattle.laws_trace.proofs.States.{expired_of, one_more, differ}
use Rattle.laws_trace.proofs.TimersWatched.{nothing_yet}
use Rattle.laws_trace.proofs.Addressed.{at-some-place}
use Rattle.laws_trace.proofs.CommandsCaused.{IsNoOther}
use Rattle.laws_trace.proofs.ControlsDue.{controls, answers_of, put_by}
use Rattle.laws_trace.proofs.ControlsOfLink.{IsNumbered, puts, both-up}
use Rattle.laws_trace.proofs.ControlsSeen.{begun_of, controls_begun, answers_seen, begun-is, all-foreign, offer-leaves, event-answers, none-answered}
use Rattle.laws_trace.proofs.Deliveries.{heard-by}
use Rattle.laws_trace.proofs.DeliveriesRun.{IsCount, data-noted}
use Rattle.laws_trace.proofs.LinkLed.{none-ticks, one-ticks, own-is}
use Rattle.laws_trace.proofs.LinksMove.{differs}
use Rattle.laws_trace.proofs.MovesOfLink.{ticks}
use Rattle.laws_trace.proofs.OneLink.{frames_given, is_at_link, HasOne, HasNone, Goes, event-goes, IsGivenUp}
use Rattle.laws_trace.proofs.ReceiptsNumbered.{taken-is}
use Rattle.laws_trace.proofs.Standing.{behind, one-restarts, busy-is, rejected-is, event-stands}
use Rattle.laws_trace.proofs.StandingOfLink.{calm, IsStanding, busy_behind, rejected_behind}
use Rattle.laws_trace.proofs.TimersOfEvent.{state-on}
use Rattle.laws_trace.proofs.Facts.{as-busy, same-state}
use Rattle.laws_trace.proofs.LineAtEnd.{link-at-end}

pub none-taken : (n : ℕ) → take {A = ControlFrame} n [] ≡ []
none-taken n = grind arith

module _ (service : Service) (tei : ℕ) where
  abbrev pub waits : Line → List ControlFrame
  waits l = controls (link_of service tei l).waiting

  abbrev pub time_at : Line → Event → Line → Bool
  time_at l e new = differ (state_of service tei l) (state_of service tei new) || option_map_or one_more (expired_of service tei e) 0 == 1

  -- What is due, and what may go by itself, by how the link stands before an event of its line and behind it.
  abbrev pub put_here : Config → Standing → Standing → Bool → Line → List Seen → Line → List ControlFrame
  put_here c was now time l t new =
      option_map_or (λ state. answers_seen c service tei was now state t) (state_of service tei l) [] ++ cond time (command_of now (state_of service tei new)) []

  abbrev pub due_here : Config → Standing → Standing → Bool → Line → List Seen → ℕ → Line → List ControlFrame
  due_here c was now time l t lost new = let frames = put_here c was now time l t new in take (length frames - lost) frames

  -- What that leaves of those that wait, while the TEI stays on the line: none, where the link is deactivated.
  abbrev pub Passes : Config → Standing → Standing → Bool → Bool → Line → List Seen → ℕ → Line → Type 0
  Passes c was now time up l t lost new =
      has_tei tei l ≡ true → has_tei tei new ≡ true
      → waits new ≡ cond up [] (drop (length (controls_begun c service tei t)) (waits l) ++ due_here c was now time l t lost new)

  -- One event of a line.
  module _ (c : Config) (ranged : IsInRange c) (e : Event) (l : Line) (s : IsSound c l) (timed : HaveTheirTimers l) (m : ℕ) (busy rejected : Bool)
      (count : IsCount (link_of service tei l) m) (stands : IsStanding (link_of service tei l) busy rejected) where
    abbrev a : Answer
    a = answer c e l

    abbrev new : Line
    new = after c e l

    abbrev shown : List Seen
    shown = seen e a

    abbrev own : Link
    own = link_of service tei l

    abbrev was : Standing
    was = calm m busy rejected

    abbrev now : Standing
    now = behind service tei c e l a m busy rejected

    abbrev Put : List ControlFrame
    Put = put_here c was now (time_at l e new) l shown new

    abbrev Due : List ControlFrame
    Due = due_here c was now (time_at l e new) l shown (lost_in a) new

    abbrev begins : List ControlFrame
    begins = controls_begun c service tei shown

    abbrev Here : Type 0
    Here = Passes c was now (time_at l e new) (deactivates service tei e) l shown (lost_in a) new

    time-is : (there here : ℕ) (n : ℕ) → place_in l tei ≡ Some here → place_in new tei ≡ Some there → option_map_or one_more (expired_of service tei e) 0 ≡ n
        → time_at l e new ≡ (moves own.state (link_of service tei new).state || n == 1)
    time-is there here n on on-next ticks-are = grind (arith, state-on, differ, one_more, expired_of, differs)

    none-put : Put ≡ [] → Due ≡ []
    none-put none = ap (λ xs. take (length xs - lost_in a) xs) none ∙ none-taken (0 - lost_in a)

    -- Another event.
    module _ (x : HasNone c service tei e l new a) where
      none-begins : begins ≡ []
      none-begins = begun-is c service tei e l ∙ all-foreign c service tei (frame_in a) x.begins

      pub none-puts : has_tei tei l ≡ true → has_tei tei new ≡ true → Put ≡ []
      none-puts was-on is-on = none
        where
          here : (place : ℕ) × (place_in l tei ≡ Some place)
          here = at-some-place l tei was-on

          there : (place : ℕ) × (place_in new tei ≡ Some place)
          there = at-some-place new tei is-on

          same : link_of service tei new ≡ own
          same = x.stays was-on is-on

          unchanged : (b : Bool) → is_multiple_frame own.state ≡ b → cond b (changed was now) [] ≡ []
          unchanged false down = refl
          unchanged true up =
              let later = (event-stands service tei c ranged l s e m count busy rejected stands).0 in
              let as-before : now.busy ≡ busy = sym (later.busy_is (ap (λ (k : Link). is_multiple_frame k.state) same ∙ up)) ∙ ap (λ (k : Link). k.own_busy) same ∙ stands.busy_is up in
              ap (λ b. cond (cond busy (not b) b) (as_response (receipt now false)) []) as-before ∙ as-busy busy (as_response (receipt now false))

          time : time_at l e new ≡ false
          time =
              time-is there.0 here.0 0 here.1 there.1 (ap (λ o. option_map_or one_more o 0) (none-ticks c service tei nothing_yet l here.0 here.1 e x.aims))
              ∙ ap (λ (k : Link). moves own.state k.state || false) same ∙ ap (λ b. b || false) (same-state own.state)

          none : Put ≡ []
          none =
              ap (λ o. option_map_or (λ state. answers_seen c service tei was now state shown) o [] ++ cond (time_at l e new) (command_of now (state_of service tei new)) []) (state-on service tei l here.0 here.1)
              ∙ ap (λ xs. xs ++ cond (time_at l e new) (command_of now (state_of service tei new)) [])
              (none-answered c service tei was now (state_number own.state) l here.0 here.1 e a
              (sym (both-up own.state (changed was now) (changed was now) (λ up. refl)) ∙ unchanged (is_multiple_frame own.state) refl) x.aims)
              ∙ ap (λ b. cond b (command_of now (state_of service tei new)) []) time

      -- it is not deactivated
      not-down : has_tei tei l ≡ true → deactivates service tei e ≡ false
      not-down was-on = go e refl
        where
          here : (place : ℕ) × (place_in l tei ≡ Some place)
          here = at-some-place l tei was-on

          low : tei ≤ 126
          low = s.management.table.range here.0 tei (place_of-is l.management.places tei here.0 here.1).1

          go : (e' : Event) → e ≡ e' → deactivates service tei e' ≡ false
          go (request r) is = by-request r is
            where
              by-request : (r : Request) → e ≡ request r → is_deactivation service tei r ≡ false
              by-request (Deactivate its by) is = other (same_service its service && by == tei) refl
                where
                  other : (b : Bool) → (same_service its service && by == tei) ≡ b → b ≡ false
                  other false o = refl
                  other true own =
                      let same : by ≡ tei = eqb-true by tei (both-true (same_service its service) (by == tei) own).1 in
                      let none : refusal c false (Deactivate its by) l ≡ None =
                      ap (λ n. refusal c false (Deactivate its n) l) same ∙ ap (λ b. cond b (Some BadTei) (cond (not (has_tei tei l)) (Some NoLink) None)) (le-ltb 126 tei low)
                      ∙ ap (λ b. cond (not b) (Some NoLink) None) was-on in
                      let aimed : is_at_link service tei (aim_of c e l) ≡ true =
                      ap (λ e. is_at_link service tei (aim_of c e l)) is ∙ ap (λ o. is_at_link service tei (unless_refused o (at_deactivated its by (place_in l by)))) none
                      ∙ ap (λ o. is_at_link service tei (at_deactivated its by o)) (ap (place_in l) same ∙ here.1) ∙ own in
                      absurd (true≢false (sym aimed ∙ x.aims))
              by-request other is = refl
          go other is = refl

      none-exact : has_tei tei l ≡ true → has_tei tei new ≡ true → waits new ≡ cond (deactivates service tei e) [] (drop (length begins) (waits l) ++ Due)
      none-exact was-on is-on = grind (arith, controls, not-down, none-begins, none-put, none-puts, append-nil)

    -- An event of the link.
    module _ (x : HasOne c service tei e l new a) where
      not-ended : (event : link.Event) → IsBy c e a service tei event → deactivates service tei e ≡ false
      not-ended event by = grind (arith, heard-by)

      abbrev t : Terms
      t = terms c service tei

      abbrev later : Link
      later = links.after (terms c service tei) x.event (link_of service tei l)

      pub sound : link_sound.IsSound t own
      sound = link-at-end c l ranged s service tei x.place x.placed

      pub own-timed : HasItsTimer own
      own-timed = subst HasItsTimer (sym (ap (λ o. option_map_or (link_in l service) o fresh) x.placed)) (timed.links (link_number x.place service))

      abbrev delivers : Bool
      delivers = is_some (links.told t x.event own).delivered

      count-is : now.told.count ≡ cond (restarts t x.event own) 0 (cond delivers (m + 1) m)
      count-is =
          ap (λ b. cond b 0 (cond (list_any (is_data_of service tei) (notes_of a)) (m + 1) m)) (one-restarts service tei c ranged l s e m count busy rejected stands x)
          ∙ ap (λ d. cond (restarts t x.event own) 0 (cond d (m + 1) m)) (data-noted c ranged l s e service tei m count x)

      takes : is_multiple_frame own.state ≡ true → restarts t x.event own ≡ false → delivers ≡ takes_contents (as_heard t x.event) own
      takes up on = grind (arith, taken-is, is_some, event-delivers)

      pub numbered : IsNumbered t x.event own m busy rejected now.told.count now.busy now.rejected
      numbered = record {
        number_is = count;
        busy_is = stands.busy_is;
        rejected_is = stands.rejected_is;
        number_on = grind (arith, takes, count-is);
        busy_on = λ up on. sym (busy-is service tei c ranged l s e m count busy rejected stands x ∙ ap (λ b. busy_behind b x.event busy) on);
        rejected_on = λ up on.
            ap (λ d. rejected_behind false d x.event busy rejected) (sym (takes up on))
            ∙ sym (rejected-is service tei c ranged l s e m count busy rejected stands x ∙ ap (λ b. rejected_behind b delivers x.event busy rejected) on);
      }

      -- what is due is what the link puts
      pub put-is : (there : ℕ) → place_in new tei ≡ Some there → Put ≡ put_by c.n201 was now x.event own.state later.state
      put-is there on =
          ap (λ o. option_map_or (λ state. answers_seen c service tei was now state shown) o [] ++ cond (time_at l e new) (command_of now (state_of service tei new)) [])
          (state-on service tei l x.place x.placed)
          ∙ ap (λ xs. xs ++ cond (time_at l e new) (command_of now (state_of service tei new)) []) (event-answers c service tei was now (state_number own.state) e a x.event x.by)
          ∙ ap (λ b. answers_of c.n201 was now (state_number own.state) x.event ++ cond b (command_of now (state_of service tei new)) [])
          (time-is there x.place (ticks x.event) x.placed on (one-ticks c service tei nothing_yet a e x.event x.by))
          ∙ ap (λ o. answers_of c.n201 was now (state_number own.state) x.event ++ cond (moves own.state (link_of service tei new).state || ticks x.event == 1) (command_of now o) []) (state-on service tei new there on)
          ∙ ap (λ (k : Link). put_by c.n201 was now x.event own.state k.state) x.is

      pub none-due : x.event ≡ link.offer → (there : ℕ) → place_in new tei ≡ Some there → Put ≡ []
      none-due offer there on = grind (arith, put-is, put_by, command_of, event-follows, same-state)

      quiet : IsNoOther x.event → frames_given c t x.event own ≡ [] → Here
      quiet other none was-on is-on =
          let there = at-some-place new tei is-on in
          waits-is there.0 there.1
          ∙ sym (ap (λ b. cond b [] (drop (length begins) (waits l) ++ Due)) (not-ended x.event x.by) ∙ ap (λ xs. drop (length xs) (waits l) ++ Due) none-begins)
        where
          none-begins : begins ≡ []
          none-begins = (begun-is c service tei e l ∙ ap (flat_map (begun_of c service tei)) x.begins) ∙ ap (flat_map (begun_of c service tei)) none

          waits-is : (there : ℕ) → place_in new tei ≡ Some there → waits new ≡ waits l ++ Due
          waits-is there on =
              ap (λ (k : Link). controls k.waiting) x.is
              ∙ puts t x.event own m busy rejected now.told.count now.busy now.rejected other own-timed numbered
              ∙ ap (λ xs. waits l ++ take (length xs - (links.told t x.event own).lost) xs) (sym (put-is there on))
              ∙ ap (λ n. waits l ++ take (length Put - n) Put) (sym x.lost)

      given-here : x.event ≡ link.offer → e ≡ next → Here
      given-here offer is was-on is-on =
          let there = at-some-place new tei is-on in
          ap (λ (k : Link). controls k.waiting) (x.is ∙ ap (λ e. links.after t e own) offer) ∙ offer-leaves c service tei own range sound
          ∙ sym (ap (λ b. cond b [] (drop (length begins) (waits l) ++ Due)) (not-ended x.event x.by)
          ∙ ap (λ xs. drop (length begins) (waits l) ++ xs) (none-put (none-due offer there.0 there.1)) ∙ append-nil (drop (length begins) (waits l))
          ∙ ap (λ xs. drop (length xs) (waits l)) (begun-is c service tei e l ∙ ap (flat_map (begun_of c service tei)) frames))
        where
          given : List (List ℕ)
          given = map (frame_of c t) (option_to_list (links.given t own))

          frames : frame_in a ≡ given
          frames = x.begins ∙ ap (λ e. frames_given c t e own) offer

          range : link_sound.IsInRange t
          range = terms_in_range c ranged service tei (s.management.table.range x.place tei (place_of-is l.management.places tei x.place x.placed).1)

      by-event : (event : link.Event) → x.event ≡ event → IsBy c e a service tei event → Here
      by-event event is by = grind (arith, given-here, quiet)

    -- Its deactivation.
    module _ (x : IsGivenUp c service tei e l new a) where
      ended-asked : deactivates service tei e ≡ true
      ended-asked = ap (deactivates service tei) x.by.0 ∙ own-is service tei

    pub event-passes : Here
    event-passes = go (event-goes c e l service tei s)
      where
        go : Goes c service tei e l new a → Here
        go (inl x) = none-exact x
        go (inr (inl x)) = by-event x x.event refl x.by
        go (inr (inr x)) = λ was-on is-on. ap (λ (k : Link). controls k.waiting) x.is ∙ sym (ap (λ b. cond b [] (drop (length begins) (waits l) ++ Due)) (ended-asked x))
