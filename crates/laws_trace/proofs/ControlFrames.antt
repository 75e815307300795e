-- The control frames of a link that wait are those that were due, and have not begun: a moment of a card.
use Rattle.laws_trace.proofs.Vocabulary.{◌≡◌, ℕ, ◌==◌, ◌&&◌, ◌||◌, Bool, true, false, cond, List, [], get_or, None, refl, sym, ap, ◌∙◌, subst, arith, eq-eqb, true≢false, append-nil, option_map_or, and_parts, get_or-set_same, Service, Config, Line, fresh_line, link_of, state_of, lost_in, deactivates, Card, line_at, is_full, has_lines, by_room, line_sound, AllHaveTheirTimers, eqb-true, IsAtLine}
use Rattle.laws_trace.proofs.Vocabulary.{Seen, seen, Event, after, card_answer as answer, CardIsSound as IsSound, CardEvent}
use Rattle.model_line.specs.Machine as lines
use Rattle.laws_trace.proofs.ControlsWatched.{command_of}
use Rattle.laws_trace.proofs.DeliveriesWatched.{Standing}
use Rattle.laws_trace.proofs.States.{expired_of, one_more, differ}
use Rattle.laws_trace.proofs.ControlsAtLine.{waits, due_here, Passes, none-taken, event-passes}
use Rattle.laws_trace.proofs.DeliveriesRun.{IsCount, event-told}
use Rattle.laws_trace.proofs.LinksMove.{differ-self, none-expires}
use Rattle.laws_trace.proofs.Runs.{nothing-seen, apart}
use Rattle.laws_trace.proofs.Standing.{standing, stand-is, event-stands}
use Rattle.laws_trace.proofs.StandingOfLink.{calm, IsStanding}
use Rattle.laws_trace.proofs.ObservedControlsSeen.{none-mapped}

-- a request that takes a slot deactivates nothing
none-ended : (service : Service) (tei : ℕ) (c : Config) (e : Event) (l : Line) → lines.takes_slot c e l ≡ true → deactivates service tei e ≡ false
unfolding lines.takes_slot
none-ended service tei c e l takes = grind arith

module _ (service : Service) (tei : ℕ) where
  -- What a moment is to the control frames of a link, and how the link stands behind it.
  pub record Moves (c : Config) (was : Standing) (time up : Bool) (l : Line) (t : List Seen) (lost : ℕ) (next : Line) : Type 0 where
    pub passes : Passes service tei c was (standing service tei c was t) time up l t lost next
    pub quiet_is : (standing service tei c was t).told.frame ≡ None
    pub count : IsCount (link_of service tei next) (standing service tei c was t).told.count
    pub stands : IsStanding (link_of service tei next) (standing service tei c was t).busy (standing service tei c was t).rejected

  module _ (n : ℕ) (busy rejected : Bool) where
    abbrev was : Standing
    was = calm n busy rejected

    abbrev StandsCalm : Line → Type 0
    StandsCalm l = IsCount (link_of service tei l) n × IsStanding (link_of service tei l) busy rejected

    idle : (c : Config) (time up : Bool) (l : Line) (lost : ℕ) → time ≡ false → up ≡ false → StandsCalm l → Moves c was time up l [] lost l
    idle c time up l lost none still stands = grind (arith, waits, due_here, append-nil, command_of, none-mapped, none-taken)

    no-time : (l : Line) (n : ℕ) → n ≡ 0 → (differ (state_of service tei l) (state_of service tei l) || n == 1) ≡ false
    no-time l n none = ap (λ n. differ (state_of service tei l) (state_of service tei l) || n == 1) none ∙ ap (λ b. b || false) (differ-self (state_of service tei l))

    abbrev time_of : Line → CardEvent → Bool → Line → Bool
    time_of l e b next = differ (state_of service tei l) (state_of service tei next) || (b && option_map_or one_more (expired_of service tei e.what) 0 == 1)

    own-line : (m : Card) (e : CardEvent) → IsSound m → AllHaveTheirTimers m → IsAtLine m e → let l = line_at e.line m in StandsCalm l
        → let x = line_at e.line (after e m) in Moves m.config was (time_of l e true x) (deactivates service tei e.what) l (seen e.what (answer e m)) (lost_in (answer e m)) x
    own-line m e s timely here stands =
        let c = m.config in
        let l = line_at e.line m in
        by_room (λ ls a. let x = get_or ls e.line (fresh_line c) in Moves c was (time_of l e true x) (deactivates service tei e.what) l (seen e.what a) (lost_in a) x) e m
        (λ full.
        let takes = (and_parts (lines.takes_slot c e.what l) (is_full m) full).0 in
        subst (λ t. Moves c was (time_of l e true l) (deactivates service tei e.what) l t 0 l) (sym (nothing-seen c e.what l takes))
        (idle c (time_of l e true l) (deactivates service tei e.what) l 0
        (no-time l (option_map_or one_more (expired_of service tei e.what) 0) (ap (λ o. option_map_or one_more o 0) (none-expires c service tei e.what l takes))) (none-ended service tei c e.what l takes) stands))
        (λ room.
        let sound = line_sound m e.line (has_lines m s) here in
        let is = stand-is service tei c e.what l n busy rejected in
        let t = seen e.what (lines.answer c e.what l) in
        let next = lines.after c e.what l in
        subst (λ (x : Line). Moves c was (time_of l e true x) (deactivates service tei e.what) l t (lost_in (lines.answer c e.what l)) x)
        (sym (get_or-set_same m.lines e.line next (fresh_line c) (omega (arith, s.count, here))))
        (record {
          passes = subst (λ w. Passes service tei c was w (time_of l e true next) (deactivates service tei e.what) l t (lost_in (lines.answer c e.what l)) next) (sym is)
              (event-passes service tei c s.config e.what l sound (timely.lines e.line here) n busy rejected stands.0 stands.1);
          quiet_is = ap (λ (w : Standing). w.told.frame) is;
          count = subst (λ (w : Standing). IsCount (link_of service tei next) w.told.count) (sym is) ((event-told c s.config l sound e.what service tei n stands.0).1);
          stands = subst (λ (w : Standing). IsStanding (link_of service tei next) w.busy w.rejected) (sym is) (event-stands service tei c s.config l sound e.what n stands.0 busy rejected stands.1).0;
        }))

    abbrev Moment-moves : Card → CardEvent → ℕ → Bool → Type 0
    Moment-moves m e number b =
        let l = line_at number m in
        let x = line_at number (after e m) in
        Moves m.config was (time_of l e b x) (b && deactivates service tei e.what) l (cond b (seen e.what (answer e m)) []) (lost_in (answer e m)) x

    pub moment : (m : Card) (e : CardEvent) (number : ℕ) → IsSound m → AllHaveTheirTimers m → IsAtLine m e → StandsCalm (line_at number m)
        → (b : Bool) → (e.line == number) ≡ b → Moment-moves m e number b
    moment m e number s timely at-line stands false other =
        let l = line_at number m in
        let lost = lost_in (answer e m) in
        subst (λ (x : Line). Moves m.config was (time_of l e false x) false l [] lost x) (sym (apart m e number (λ same. true≢false (sym (eq-eqb e.line number (sym same)) ∙ other))))
        (idle m.config (time_of l e false l) false l lost (no-time l 0 refl) refl stands)
    moment m e number s timely at-line stands true is =
        let same = eqb-true e.line number is in
        subst (λ i. Moment-moves m e i true) same (own-line m e s timely at-line (subst (λ i. StandsCalm (line_at i m)) (sym same) stands))
