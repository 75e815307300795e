-- Cards of octets that are reached: one that begins is, events at its lines lead to others, and all of them are sound, and the
-- cards of frames inside reached too.
use Rattle.model_card.proofs.OfPorts.Vocabulary.{ℕ, ◌<◌, List, [], ◌∷◌, ◌++◌, refl, sym, ap, ◌∙◌, subst, get_or-replicate, All-nil, All-append, All-push, Card, Config, IsInRange, Event, IsSoundOctetCard, IsAtLine, AreAtLines, OctetCard, Port, port_at, fresh_port, with_fresh_ports, after, after_all, meant_all, fresh, ◌≡◌, IsReached}
use Rattle.model_card.specs.Card as frames
use Rattle.model_card.specs.Reached as cards
use Rattle.model_card.specs.ports.Reached.{CameAbout}
unfoldable use Rattle.model_card.specs.ports.Reached.{IsMade}
use Rattle.model_card.proofs.Reaching.{fresh-begins, made as frames_made}
use Rattle.model_card.proofs.OfPorts.Codec.{all_below, refined_card}
use Rattle.model_card.proofs.OfPorts.PortRuns.{IsKept, run_keeps}
use Rattle.model_card.proofs.OfPorts.Sound.{always_sound, begun_octets_sound}
use Rattle.model_card.proofs.OfPorts.Steps.{config_stays}

pub after_all_append : (m : OctetCard) (a b : List Event) → after_all m (a ++ b) ≡ after_all (after_all m a) b
unfolding after_all
after_all_append m [] b = refl
after_all_append m (e ∷ a) b = after_all_append (after e m) a b

made : (m : OctetCard) → CameAbout m → IsMade m
unfolding IsMade
made m past = past

past : (m : OctetCard) → IsReached m → CameAbout m
unfolding IsMade
past m r = r.made

pub reached_first : (card : Card) → cards.MayBegin card → IsReached (with_fresh_ports card)
unfolding after_all
reached_first card begins = record {
  config = begins.sound.config;
  made = made (with_fresh_ports card) (record { first = card; begins = begins; events = []; at_lines = All-nil (IsAtLine (with_fresh_ports card)); same = refl });
}

pub reached_fresh : (c : Config) → IsInRange c → IsReached (fresh c)
reached_fresh c ranged = reached_first (frames.fresh c) (fresh-begins c ranged)

pub reached_after_all : (m : OctetCard) (events : List Event) → IsReached m → AreAtLines m events → IsReached (after_all m events)
reached_after_all m events r within =
    let stays = sym (config_stays m events) in
    let p = past m r in
    record {
      config = subst IsInRange stays r.config;
      made = made (after_all m events) (record {
        first = p.first;
        begins = p.begins;
        events = p.events ++ events;
        at_lines = subst (λ (c : Config). AreAtLines (fresh c) (p.events ++ events)) stays (All-append (IsAtLine m) p.events events p.at_lines within);
        same = ap (λ n. after_all n events) p.same ∙ sym (after_all_append (with_fresh_ports p.first) p.events events);
      });
    }

pub reached_after : (m : OctetCard) (e : Event) → IsReached m → IsAtLine m e → IsReached (after e m)
unfolding after_all
reached_after m e r within = reached_after_all m (e ∷ []) r (All-push (IsAtLine m) [] e (All-nil (IsAtLine m)) within)

-- ---- what holds of one that is reached

module _ (m : OctetCard) (r : IsReached m) where
  abbrev p : CameAbout m
  p = past m r

  same_config : m.card.config ≡ p.first.config
  same_config = ap (λ (n : OctetCard). n.card.config) p.same ∙ config_stays (with_fresh_ports p.first) p.events

  at_first : AreAtLines (with_fresh_ports p.first) p.events
  at_first = subst (λ (c : Config). AreAtLines (fresh c) p.events) same_config p.at_lines

  pub reached_sound : IsSoundOctetCard m
  reached_sound = subst IsSoundOctetCard (sym p.same) (always_sound (with_fresh_ports p.first) p.events (begun_octets_sound p.first p.begins.sound) at_first)

  -- what holds of a port as it begins, and is kept by each event, holds of each port
  pub reached_keeps : (number : ℕ) → number < m.card.config.lines → (I : Port → Type 0) → IsKept m.card.config I → I fresh_port → I (port_at number m)
  reached_keeps number within I kept begins =
      let here = subst (λ (c : Config). number < c.lines) same_config within in
      subst (λ (n : OctetCard). I (port_at number n)) (sym p.same)
      (run_keeps m.card.config I kept (with_fresh_ports p.first) p.events number (sym same_config) (begun_octets_sound p.first p.begins.sound) at_first within
      (subst I (sym (get_or-replicate p.first.config.lines number fresh_port fresh_port here)) begins))

  pub frames_reached : cards.IsReached m.card
  frames_reached = record {
    config = r.config;
    made = frames_made m.card (record {
      first = p.first;
      begins = p.begins;
      events = meant_all (with_fresh_ports p.first) p.events;
      at_lines = all_below m.card.config.lines (with_fresh_ports p.first) p.events p.at_lines;
      same = ap (λ (n : OctetCard). n.card) p.same ∙ refined_card (with_fresh_ports p.first) p.events;
    });
  }
