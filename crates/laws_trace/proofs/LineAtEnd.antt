-- The line and a link of it behind a list of events; and a link that has nothing to send, where nothing of its line does.
use Rattle.laws_trace.proofs.Vocabulary.{◌≡◌, ℕ, ◌<◌, List, get_or, Option, Some, None, sym, ap, ◌∙◌, subst, arith, option_map_or, Service, place_of-is, Config, Line, link_in, link_of, place_in, terms, IsInRange, sound_in, place_at-number, service_at-number, HasNothing, IsSilent, line_at, fresh_is_sound, line-sound, config-stays, [], gave, next, next_of, Taken, taken, at, option_map}
use Rattle.laws_trace.proofs.Vocabulary.{fresh_link as fresh, IsSound, CardEvent as Event, after_all, AreAtLines, always_sound, none-waits, trace_frame_in as frame_in, card_answer as answer}
use Rattle.model_link.specs.Sound as link_sound
use Rattle.model_card.specs.Card as cards
use Rattle.model_line.specs.Machine as lines

-- A link of a line that has nothing to send has nothing to send.
pub silent-there : (c : Config) (l : Line) → IsSound c l → HasNothing c l → (service : Service) (tei place : ℕ) → place_in l tei ≡ Some place
    → IsSilent (terms c service tei) (link_of service tei l)
silent-there c l s h service tei place is =
    let found = place_of-is l.management.places tei place is in
    grind (arith, service_at-number, ap (λ p. get_or l.management.places p None) (place_at-number place service) ∙ found.1)

-- The line at the end, and a link of it.
pub line-at-end : (c : Config) (events : List Event) (number : ℕ) → IsInRange c → AreAtLines (cards.fresh c) events → number < c.lines
    → IsSound c (line_at number (after_all (cards.fresh c) events))
line-at-end c events number ranged all within = grind (arith, always_sound, fresh_is_sound, config-stays, line-sound)

pub link-at-end : (c : Config) (l : Line) → IsInRange c → IsSound c l → (service : Service) (tei place : ℕ) → place_in l tei ≡ Some place
    → link_sound.IsSound (terms c service tei) (link_of service tei l)
link-at-end c l ranged s service tei place on =
    subst (link_sound.IsSound (terms c service tei)) (sym (ap (λ o. option_map_or (link_in l service) o fresh) on))
    (sound_in c ranged l s service tei place (place_of-is l.management.places tei place on).1)

-- Where a call for the next frame gives none, nothing of the line has anything to send.
none-taken : (o : Option Taken) → frame_in (gave (option_map next_of o)) ≡ [] → o ≡ None
none-taken o is = grind arith

pub nothing-there : (c : Config) (events : List Event) (number : ℕ) → IsInRange c → AreAtLines (cards.fresh c) events → number < c.lines
    → frame_in (answer (at number next) (after_all (cards.fresh c) events)) ≡ [] → HasNothing c (line_at number (after_all (cards.fresh c) events))
unfolding lines.answer lines.takes_slot
nothing-there c events number ranged all within none =
    let l = line_at number (after_all (cards.fresh c) events) in
    none-waits c l (line-at-end c events number ranged all within)
    (none-taken (taken c l) (subst (λ (d : Config). frame_in (lines.answer d next l) ≡ []) (config-stays (cards.fresh c) events) none))
