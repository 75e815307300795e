-- Cards that are reached: one that begins is, each event at a line leads to another, and all of them are sound.
use Rattle.model_card.proofs.Vocabulary.{◌≡◌, ℕ, ◌<◌, [], ◌∷◌, ◌++◌, refl, sym, ap, ◌∙◌, subst, get_or-replicate, All, All-nil, All-push, Config, IsInRange, Line, fresh_line, link_at, link_count, Card, fresh, line_at, Event, after, AreTimed, MayBegin, CameAbout, IsMade, IsReached, after_all, IsAtLine, AreAtLines, IsSound}
use Rattle.model_link.specs.Link as links
use Rattle.model_link.specs.Timed.{IsTimed}
use Rattle.model_line.proofs.TimersFollow.{all-same}
use Rattle.model_card.proofs.CardSound.{always_sound, fresh_is_sound}
use Rattle.model_card.proofs.Runs.{after_all-append, config_stays}

-- ---- a card that begins

pub fresh-at : (c : Config) (line : ℕ) → line < c.lines → line_at line (fresh c) ≡ fresh_line c
fresh-at c line within = get_or-replicate c.lines line (fresh_line c) (fresh_line c) within

pub timed-fresh : (c : Config) → AreTimed (fresh c)
timed-fresh c line within number =
    subst (λ (l : Line). IsTimed (link_at number l)) (sym (fresh-at c line within))
    (subst IsTimed (sym (all-same links.fresh (link_count c) number)) (record { timer = refl }))

pub fresh-begins : (c : Config) → IsInRange c → MayBegin (fresh c)
fresh-begins c ranged = record { sound = fresh_is_sound c ranged; timed = timed-fresh c }

pub made : (card : Card) → CameAbout card → IsMade card
unfolding IsMade
made card past = past

pub past : (card : Card) → IsReached card → CameAbout card
unfolding IsMade
past card r = r.made

pub reached-first : (card : Card) → MayBegin card → IsReached card
unfolding after_all
reached-first card begins =
    record { config = begins.sound.config; made = made card (record { first = card; begins = begins; events = []; at_lines = All-nil (IsAtLine card); same = refl }) }

pub reached-fresh : (c : Config) → IsInRange c → IsReached (fresh c)
reached-fresh c ranged = reached-first (fresh c) (fresh-begins c ranged)

-- ---- and goes on

pub reached-after : (card : Card) (e : Event) → IsReached card → IsAtLine card e → IsReached (after e card)
unfolding after_all
reached-after card e r within =
    let p = past card r in
    record {
      config = r.config;
      made = made (after e card) (record {
        first = p.first;
        begins = p.begins;
        events = p.events ++ e ∷ [];
        at_lines = All-push (IsAtLine card) p.events e p.at_lines within;
        same = ap (after e) p.same ∙ sym (after_all-append p.first p.events (e ∷ []));
      });
    }

-- its events are at lines of the card with which it began
pub at-first : (card : Card) (p : CameAbout card) → AreAtLines p.first p.events
at-first card p =
    subst (λ (c : Config). All (λ (e : Event). e.line < c.lines) p.events) (ap (λ (m : Card). m.config) p.same ∙ config_stays p.first p.events) p.at_lines

pub reached-sound : (card : Card) → IsReached card → IsSound card
reached-sound card r = let p = past card r in subst IsSound (sym p.same) (always_sound p.first p.events p.begins.sound (at-first card p))
