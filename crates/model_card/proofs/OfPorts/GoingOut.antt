-- What a receiver hears in the octets that a line's pulls give: the law.
use Rattle.model_card.proofs.OfPorts.Vocabulary.{◌≡◌, ℕ, ◌<◌, List, [], ◌∷◌, ◌++◌, length, map, sym, ap, ◌∙◌, subst, arith, get_or-replicate, length-replicate, map-append, Item, idle, Config, Event, IsInRange, IsSoundPort, AreAtLines, OctetCard, Port, after_all, fresh, fresh_port, frames_among, left_of, port_at, AllGivenAreHeard, AreHeardWhole, GivenFramesAreHeard, GivenGoOut, GoOut}
use Rattle.model_card.proofs.OfPorts.Vocabulary.{IsReached, as_octets, frames_to_hear, heard_in, octets_given}
use Rattle.model_bits.specs.Stream as stream
use Rattle.model_card.proofs.OfPorts.AsOctets.{sent, same_text, frames_sent, cut_sent, heard_whole}
use Rattle.model_card.proofs.OfPorts.CallsPut.{run_puts}
use Rattle.model_card.proofs.OfPorts.Codec.{run_goes_on}
use Rattle.model_card.proofs.OfPorts.LastItem.{IsOnItsWay, stays_on_its_way, begins_on_its_way}
use Rattle.model_card.proofs.OfPorts.LineHeard.{go_out, all_out}
use Rattle.model_card.proofs.OfPorts.Reaching.{reached_fresh, reached_after_all, reached_keeps, reached_sound}
use Rattle.model_card.proofs.OfPorts.Sound.{port_sound}
use Rattle.model_card.proofs.OfPorts.Steps.{config_stays}

-- a port of a card that has just begun
pub fresh_at : (c : Config) (number : ℕ) → number < c.lines → port_at number (fresh c) ≡ fresh_port
fresh_at c number within = get_or-replicate c.lines number fresh_port fresh_port within

-- ---- a card that is reached

-- the items of a port as they go out
abbrev pub items_sent : Port → List Item
items_sent p = map sent p.items

module _ (m : OctetCard) (number : ℕ) (r : IsReached m) (within : number < m.card.config.lines) where
  abbrev p : Port
  p = port_at number m

  pub on_its_way : IsOnItsWay p
  on_its_way = reached_keeps m r number within IsOnItsWay (stays_on_its_way m.card.config) begins_on_its_way

  sound : IsSoundPort m.card.config.n201 p
  sound = port_sound m number (reached_sound m r) within

  whole : AreHeardWhole m.card.config.n201 (items_sent p)
  whole = heard_whole m.card.config.n201 p.items on_its_way.long sound.sizes

  pub port_out : GoOut m.card.config.n201 p.given (frames_among (items_sent p))
  port_out = go_out m.card.config.n201 (items_sent p) p.given (left_of p) (same_text p.items ∙ sound.text.text) whole (cut_sent p.items p.given on_its_way.cut)

  pub port_all_out : (front : List Item) → p.items ≡ front ++ idle ∷ [] → map stream.frame (frames_among (items_sent p)) ≡ heard_in m.card.config.n201 p.given
  port_all_out front ends = grind (arith, all_out, same_text, sound, whole, sent, map-append, cut_sent, on_its_way)

-- ---- from a card as it begins

module _ (c : Config) (events : List Event) (number : ℕ) (ranged : IsInRange c) (all : AreAtLines (fresh c) events) (within : number < c.lines) where
  abbrev m : OctetCard
  m = after_all (fresh c) events

  abbrev end : Port
  end = port_at number m

  same : m.card.config ≡ c
  same = config_stays (fresh c) events

  reached : IsReached m
  reached = reached_after_all (fresh c) events (reached_fresh c ranged) all

  there : number < m.card.config.lines
  there = subst (λ (x : Config). number < x.lines) (sym same) within

  inside : number < length (fresh c).ports
  inside = omega (arith, within, length-replicate c.lines fresh_port)

  pub octets_are : end.given ≡ octets_given c events number
  octets_are =
      let goes = run_goes_on (fresh c) events number inside in
      goes.given ∙ ap (λ (p : Port). p.given ++ octets_given c events number) (fresh_at c number within)

  frames_are : frames_among (items_sent end) ≡ map as_octets (frames_to_hear c events number)
  frames_are =
      let goes = run_goes_on (fresh c) events number inside in
      frames_sent end.items ∙ ap (λ is. map as_octets (frames_among is)) (goes.put ∙ ap (λ (p : Port). p.items ++ goes.items) (fresh_at c number within))
      ∙ ap (map as_octets) goes.frames

  pub out : GivenGoOut c events number
  out = grind (arith, same, frames_are, octets_are, port_out, reached)

  -- where the latest call gave none, that flag is put
  pub all_heard : AllGivenAreHeard c events number
  all_heard before none = grind (arith, frames_are, port_all_out, reached, there, run_puts, inside, fresh_at, map-append, same, octets_are)

pub given_frames_are_heard : GivenFramesAreHeard
given_frames_are_heard = record {
  so_far = out;
  all = all_heard;
}
