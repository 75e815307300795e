-- What the lines of a card keep, as whoever watches them has it, takes the slots of its pool.
use Rattle.laws_trace.proofs.Vocabulary.{◌≡◌, ℕ, ◌+◌, ◌<◌, ◌==◌, ◌&&◌, true, false, cond, length, List, [], ◌∷◌, Option, Some, None, refl, sym, ap, ◌∙◌, subst, arith, range_with_len, fold, true≢false, Service, Call, Packet, queue_of, fresh_link, place_of-is, is_on-at, Config, Line, fresh_line, has_tei, place_in, unit_frame, IsInRange, IsSound, Card, line_at, is-off, fresh, CardEvent as Event}
use Rattle.laws_trace.proofs.Vocabulary.{moments, after_all, AreAtLines, managing_is_on as is_on, Moment, Outgoing, keeps, nothing_yet, outgoing_of, watches, units_of, View, views, config-stays, always_sound, fresh_is_sound, sum_by, option_map_or, length-map, place_at-number, number_within, link_at, link_in, link_number, tei_at, place_at, IsSoundAt, used}
use Rattle.model_line.specs.Stored.{slots_of, slots_by_link, sum_of_links}
use Rattle.laws_trace.specs.NoSlotIsLost.{kept_at, slots_taken}
use Rattle.laws_trace.proofs.LineAtEnd.{line-at-end}
use Rattle.laws_trace.proofs.Outgoing.{view-is, kept-now}
use Rattle.laws_trace.proofs.SeenAs.{tei-seen}
use Rattle.laws_trace.proofs.SlotsSummed.{sum-same, sum-both, sum-of-pairs, sum-of-all, sum-of-places}
use Rattle.laws_trace.proofs.UnitsGoOut.{waiting-is}

pub on-place : (l : Line) (tei : ℕ) → has_tei tei l ≡ true → (o : Option ℕ) → place_in l tei ≡ o → (place : ℕ) × (place_in l tei ≡ Some place)
on-place l tei on (Some place) is = (place, is)
on-place l tei on None off = absurd (true≢false (sym on ∙ is-off l.management.places tei off))

-- A link whose TEI is not on the line keeps nothing.
off-keeps-none : (c : Config) (service : Service) (tei number : ℕ) (ms : List Moment) (o : Outgoing) → (is_on tei o.view.teis ≡ false → o.kept ≡ [])
    → is_on tei (fold (watches c service tei number) o ms).view.teis ≡ false → (fold (watches c service tei number) o ms).kept ≡ []
off-keeps-none c service tei number [] o none off = none off
off-keeps-none c service tei number (m ∷ ms) o none off =
    let now = views c service tei number o.view m in
    off-keeps-none c service tei number ms (watches c service tei number o m)
    (λ away.
    ap (λ b. cond (b && is_on tei o.view.teis) (cond (m.event.line == number) (keeps c service tei o.view.link now.link m.event.what m.answer o.kept) o.kept) []) away) off

module _ (c : Config) (events : List Event) (ranged : IsInRange c) (all : AreAtLines (fresh c) events) where
  abbrev card : Card
  card = after_all (fresh c) events

  -- Of one line.
  module _ (number : ℕ) (within : number < c.lines) where
    abbrev l : Line
    l = line_at number card

    sound : IsSound c l
    sound = line-at-end c events number ranged all within

    abbrev by_place : Service → ℕ → ℕ
    by_place service place = slots_by_link l (link_number place service)

    kept : (service : Service) (tei : ℕ) → length (outgoing_of c service tei number events).kept ≡ option_map_or (by_place service) (place_in l tei) 0
    kept service tei = go (place_in l tei) refl
      where
        go : (o : Option ℕ) → place_in l tei ≡ o → length (outgoing_of c service tei number events).kept ≡ option_map_or (by_place service) o 0
        go None off =
            ap length (off-keeps-none c service tei number (moments (fresh c) events) nothing_yet (λ none. refl)
            (ap (λ (v : View). is_on tei v.teis) (view-is c number ranged within service tei events) ∙ tei-seen c events number ranged all within service tei ∙ is-off l.management.places tei off))
        go (Some place) on =
            ap length (kept-now c number ranged within service tei events all place on) ∙ ap (λ o. length (queue_of (option_map_or (link_in l service) o fresh_link))) on

    its : (tei k : ℕ) → tei_at k l ≡ Some tei → (place_in l tei ≡ Some k) × (tei < 127)
    its tei k at =
        let found = on-place l tei (is_on-at l.management.places k tei at) (place_in l tei) refl in
        let same = sound.management.table.once found.0 k tei (place_of-is l.management.places tei found.0 found.1).1 at in
        let low = sound.management.table.range k tei at in
        (found.1 ∙ ap Some same, omega (arith, low))

    free : (service : Service) (k : ℕ) → k < c.terminals → tei_at k l ≡ None → by_place service k ≡ 0
    free service k few none =
        let number = link_number k service in
        let there : tei_at (place_at number) l ≡ None = ap (λ p. tei_at p l) (place_at-number k service) ∙ none in
        ap (λ x. length (queue_of x)) (subst (IsSoundAt c number (link_at number l)) there (sound.links number (number_within k c.terminals service few)))

    abbrev by_tei : Service → ℕ → ℕ
    by_tei service tei = option_map_or (by_place service) (place_in l tei) 0

    abbrev of_teis : Service → ℕ
    of_teis service = sum_by (by_tei service) (range_with_len 0 127)

    abbrev of_places : Service → ℕ
    of_places service = sum_by (by_place service) (range_with_len 0 c.terminals)

    at-places : (service : Service) → of_teis service ≡ of_places service
    at-places service =
        sum-of-places (by_place service) (place_in l) (λ k. tei_at k l) 127 c.terminals (λ tei k is. (place_of-is l.management.places tei k is).1) its (free service)
        (λ tei k is. let there = (place_of-is l.management.places tei k is).0 in omega (arith, there, sound.places))

    both : (tei : ℕ) → kept_at c events number tei ≡ by_tei Call tei + by_tei Packet tei
    both tei = ap (λ n. n + length (outgoing_of c Packet tei number events).kept) (kept Call tei) ∙ ap (λ n. by_tei Call tei + n) (kept Packet tei)

    links-are : sum_by (kept_at c events number) (range_with_len 0 127) ≡ sum_of_links c (slots_by_link l)
    links-are =
        sum-same (λ tei. by_tei Call tei + by_tei Packet tei) (kept_at c events number) 0 127 (λ tei less. both tei) ∙ sum-both (by_tei Call) (by_tei Packet) 0 127
        ∙ ap (λ n. n + of_teis Packet) (at-places Call) ∙ ap (λ n. of_places Call + n) (at-places Packet)
        ∙ sym (sum-both (by_place Call) (by_place Packet) 0 c.terminals) ∙ sym (sum-of-pairs (slots_by_link l) c.terminals)

    line-is : length (units_of c events number) + sum_by (kept_at c events number) (range_with_len 0 127) ≡ slots_of c l
    line-is =
        let units : length (units_of c events number) ≡ length l.units = ap length (waiting-is c events number ranged all within) ∙ length-map l.units (unit_frame c) in
        ap (λ n. n + sum_by (kept_at c events number) (range_with_len 0 127)) units ∙ ap (λ n. length l.units + n) links-are

  -- Of all lines.
  pub taken-is : slots_taken c events ≡ used card
  taken-is =
      let same = config-stays (fresh c) events in
      let sound = always_sound (fresh c) events (fresh_is_sound c ranged) all in
      let count : c.lines ≡ length card.lines = omega (arith, sound.count, ap (λ (d : Config). d.lines) same) in
      sum-same (λ n. slots_of c (line_at n card)) (λ n. length (units_of c events n) + sum_by (kept_at c events n) (range_with_len 0 127)) 0 c.lines (λ n less. line-is n (omega (arith, less)))
      ∙ ap (λ n. sum_by (λ j. slots_of c (line_at j card)) (range_with_len 0 n)) count ∙ sum-of-all (slots_of c) card.lines (fresh_line card.config)
      ∙ ap (λ d. sum_by (slots_of d) card.lines) (sym same)
