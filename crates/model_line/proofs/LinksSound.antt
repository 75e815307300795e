-- What keeps the links of a line sound.
use Rattle.model_line.proofs.Vocabulary.{◌≡◌, ◌≢◌, ℕ, ◌+◌, ◌*◌, ◌≤◌, ◌<◌, List, length, get_or, set, Option, Some, None, ◌∙◌, arith, length-set, cases_eq, get_or-set_same, get_or-set_other, Service, Call, Packet, Link, fresh, sound-after, sound-fresh, IsAt, Places, at-within, Config, Line, link_number, place_at, link_count, link_in, with_link, terms, of_link, IsInRange, IsSoundAt, IsSound}
use Rattle.model_line.proofs.Vocabulary.{LinkEvent, link_after}
use Rattle.model_link.specs.Sound as link_sound
use Rattle.model_line.proofs.Numbers.{place_at-number, service_at-number, number_within, at_place}
use Rattle.model_line.proofs.Ranges.{terms_in_range}
use Rattle.model_line.proofs.SoundParts.{with_links}

-- The link of a number is sound, for the TEI that the table has at its place.
abbrev pub SoundIn : Config → List Link → Places → ℕ → Type 0
SoundIn c all places number = IsSoundAt c number (get_or all number fresh) (get_or places (place_at number) None)

-- Both links of a place begin, and the others stay.
pub begin_here : (all : List Link) (place number : ℕ) → place_at number ≡ place → 2 * place + 1 < length all
    → get_or (set (set all (link_number place Call) fresh) (link_number place Packet) fresh) number fresh ≡ fresh
begin_here all place number here few = grind (arith, get_or-set_other, get_or-set_same, length-set, at_place)

pub begin_away : (all : List Link) (place number : ℕ) → place_at number ≢ place
    → get_or (set (set all (link_number place Call) fresh) (link_number place Packet) fresh) number fresh ≡ get_or all number fresh
begin_away all place number away = grind (arith, get_or-set_other, place_at-number)

module _ (c : Config) (ranged : IsInRange c) where
  -- a link of a TEI, and what it is at its number
  pub sound_in : (l : Line) → IsSound c l → (service : Service) (tei place : ℕ) → IsAt l.management.places place tei
      → link_sound.IsSound (terms c service tei) (link_in l service place)
  sound_in l s service tei place at =
      let number = link_number place service in
      let within : place < c.terminals = omega (arith, s.places, at-within l.management.places place tei at) in
      let here = s.links number (number_within place c.terminals service within) in
      grind (arith, place_at-number, service_at-number)

  -- one link is another
  pub with_one : (all : List Link) (places : Places) (number : ℕ) (x : Link) → number < length all
      → IsSoundAt c number x (get_or places (place_at number) None)
      → ((n : ℕ) → n < link_count c → SoundIn c all places n) → (n : ℕ) → n < link_count c → SoundIn c (set all number x) places n
  with_one all places number x within here others n few = grind (arith, get_or-set_same, get_or-set_other, cases_eq)

  pub with_link_sound : (l : Line) (number : ℕ) (x : Link) → IsSound c l → number < link_count c
      → IsSoundAt c number x (get_or l.management.places (place_at number) None) → IsSound c (with_link number x l)
  with_link_sound l number x s few here =
      with_links c l s l.management l.own (set l.links number x) l.turn s.management s.reading s.own s.places (length-set l.links number x ∙ s.count) s.turn
      (with_one l.links l.management.places number x (omega (arith, s.count, few)) here s.links)

  -- an event of a link
  pub link_event_sound : (l : Line) → IsSound c l → (service : Service) (tei place : ℕ) (e : LinkEvent) → IsAt l.management.places place tei
      → IsSound c (of_link c service tei place e l).line
  link_event_sound l s service tei place e at =
      let within : place < c.terminals = omega (arith, s.places, at-within l.management.places place tei at) in
      let t = terms c service tei in
      let range = terms_in_range c ranged service tei (s.management.table.range place tei at) in
      let after = sound-after t range e (link_in l service place) (sound_in l s service tei place at) in
      with_link_sound l (link_number place service) (link_after t e (link_in l service place)) s
      (number_within place c.terminals service within) (grind (arith, place_at-number, service_at-number))

  -- both links of a place begin, for whatever TEI the table has there
  fresh_at : (number : ℕ) (o : Option ℕ) → ((tei : ℕ) → o ≡ Some tei → tei ≤ 126) → IsSoundAt c number fresh o
  fresh_at number o x = grind (arith, sound-fresh, terms_in_range)

  pub with_both : (all : List Link) (places : Places) (place : ℕ) → length all ≡ link_count c → place < c.terminals
      → ((tei : ℕ) → IsAt places place tei → tei ≤ 126)
      → ((n : ℕ) → n < link_count c → place_at n ≢ place → SoundIn c all places n)
      → (n : ℕ) → n < link_count c → SoundIn c (set (set all (link_number place Call) fresh) (link_number place Packet) fresh) places n
  with_both all places place size within o others n few = grind (arith, begin_here, fresh_at, begin_away, cases_eq)
