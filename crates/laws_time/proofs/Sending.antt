-- T200 runs on where a frame goes.
use Rattle.laws_time.proofs.Vocabulary.{AreAtLines, Card, Config, Event, IsBy, IsInRange, IsSound, List, Service, T200, [], after_all-append, ap, arith, at, by_line, callers-run, config-now, frames_after_all as after_all, has_lines, has_tei, inl, inr, is_on, is_some, line_at, line_sound, link_after as after, link_of, link_runs as runs, next, by-option}
use Rattle.laws_time.proofs.Vocabulary.{on-line-now, option_map, place_in, sound-now, state_of, subst, sym, terms, timely-now, timers-run-so, true, true≢false, view_of, ℕ, ◌++◌, ◌<◌, ◌∙◌, ◌∷◌, ◌≡◌, ◌⊎◌}
use Rattle.model_line.specs.Event as line_event
use Rattle.model_line.specs.Line.{Line}
use Rattle.model_line.specs.Machine as lines
use Rattle.model_bits.specs.Stream as stream
use Rattle.model_link.specs.Events as link
use Rattle.model_card.specs.Card.{fresh}
use Rattle.model_card.specs.Machine as machine
use Rattle.laws_trace.specs.TimersAreTimely as timely
use Rattle.laws_trace.proofs.LinkLed.{on-line}
use Rattle.laws_trace.proofs.OneLink.{event-goes, Goes}
use Rattle.laws_trace.proofs.TimersOfEvent.{needed-is}

has : (service : Service) (tei : ℕ) (l : Line) → is_some (state_of service tei l) ≡ true → has_tei tei l ≡ true
has service tei l some = by-option (place_in l tei) (λ e. absurd (true≢false (sym some ∙ ap (λ o. is_some (option_map (Rattle.model_line.specs.Line.state_in l service) o)) e))) (λ place e. on-line l tei place e)

no-next : {A B : Type 0} (o p : stream.Event) → ((next ≡ line_event.hears o) × A) ⊎ ((next ≡ line_event.hears p) × B) → ⊥
no-next o p h1z = grind arith

-- One call at a line.
module _ (c : Config) (l : Line) (service : Service) (tei : ℕ) where
  one : (event : link.Event) → IsBy c next (lines.answer c next l) service tei event → link_of service tei (lines.after c next l) ≡ after (terms c service tei) event (link_of service tei l)
      → runs T200 (link_of service tei l).running ≡ true → runs T200 (link_of service tei (lines.after c next l)).running ≡ true
  one event h1z h2z h3z = grind (arith, no-next)

  by-line : IsSound c l → has_tei tei l ≡ true → has_tei tei (lines.after c next l) ≡ true
      → runs T200 (link_of service tei l).running ≡ true → runs T200 (link_of service tei (lines.after c next l)).running ≡ true
  by-line s was there run = go (event-goes c next l service tei s)
    where
      go : Goes c service tei next l (lines.after c next l) (lines.answer c next l) → runs T200 (link_of service tei (lines.after c next l)).running ≡ true
      go (inl none) = subst (λ x. runs T200 x.running ≡ true) (sym (none.stays was there)) run
      go (inr (inl h)) = one h.event h.by h.is run
      go (inr (inr over)) = cc over.by.0

-- And after a run of the card.
module _ (c : Config) (events : List Event) (number : ℕ) (ranged : IsInRange c) (all : AreAtLines (fresh c) events) (within : number < c.lines) (service : Service) (tei : ℕ) where
  abbrev card : Card
  card = after_all (fresh c) events

  abbrev line : Line
  line = line_at number (after_all (fresh c) events)

  here-now : number < (after_all (fresh c) events).config.lines
  here-now = subst (λ (c : Config). number < c.lines) (sym (config-now c events number ranged all within service tei)) within

  -- T200 runs where an observer has it.
  pub t200-is : timely.runs T200 (view_of c service tei number events).link ≡ runs T200 (link_of service tei line).running
  t200-is =
      sym ((timers-run-so c events number ranged all within service tei).0) ∙ callers-run c events number ranged all within service tei T200
      ∙ needed-is service tei line ((timely-now c events number ranged all within service tei).lines number here-now) T200

  pub state-some : is_some (state_of service tei line) ≡ is_on tei (view_of c service tei number events).teis
  state-some = sym (on-line-now c events number ranged all within service tei)

  then-runs : has_tei tei line ≡ true → has_tei tei (line_at number (machine.after (at number next) card)) ≡ true → runs T200 (link_of service tei line).running ≡ true
      → runs T200 (link_of service tei (line_at number (machine.after (at number next) card))).running ≡ true
  then-runs was there run =
      by_line card (at number next) number (has_lines card (sound-now c events number ranged all within service tei)) here-now
      (λ b l a. has_tei tei l ≡ true → runs T200 (link_of service tei l).running ≡ true) (λ a t. run) (λ full t. run)
      (λ same room t. by-line card.config line service tei (line_sound card number (has_lines card (sound-now c events number ranged all within service tei)) here-now) was t run) there

pub sends-on : (c : Config) (events : List Event) (number : ℕ) (ranged : IsInRange c) (all : AreAtLines (fresh c) events) (longer : AreAtLines (fresh c) (events ++ at number next ∷ [])) (within : number < c.lines)
    (service : Service) (tei : ℕ) → let v = view_of c service tei number events in let w = view_of c service tei number (events ++ at number next ∷ []) in
    is_on tei v.teis ≡ true → is_on tei w.teis ≡ true → timely.runs T200 v.link ≡ true → timely.runs T200 w.link ≡ true
unfolding after_all
sends-on c events number ranged all longer within service tei on on_after run =
    let more = events ++ at number next ∷ [] in
    let lines_are : line_at number (after_all (fresh c) more) ≡ line_at number (machine.after (at number next) (after_all (fresh c) events)) = ap (line_at number) (after_all-append (fresh c) events (at number next ∷ [])) in
    t200-is c more number ranged longer within service tei ∙ ap (λ l. runs T200 (link_of service tei l).running) lines_are ∙ then-runs c events number ranged all within service tei
    (has service tei (line_at number (after_all (fresh c) events)) (state-some c events number ranged all within service tei ∙ on))
    (has service tei (line_at number (machine.after (at number next) (after_all (fresh c) events))) (ap (λ l. is_some (state_of service tei l)) (sym lines_are) ∙ state-some c more number ranged longer within service tei ∙ on_after))
    (sym (t200-is c events number ranged all within service tei) ∙ run)
