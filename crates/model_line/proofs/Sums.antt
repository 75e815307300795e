-- Sums over the parts of a line, and by how much an event of a part raises them.
use Rattle.model_line.proofs.Vocabulary.{◌≡◌, ℕ, zero, suc, ◌+◌, ◌≤◌, ◌<◌, Bool, true, false, cond, List, [], ◌∷◌, length, get_or, set, Option, Some, None, refl, ap, ◌∙◌, arith, length-append, length-set, sum_by, range_with_len, cases_lt, get_or-set_same, get_or-set_other, get_or-replicate, get_or_past, length-replicate, sum_by-cons, Service, Call, Packet, Link, fresh, Moves, Management}
use Rattle.model_line.proofs.Vocabulary.{tei_may_send, IsAt}
use Rattle.model_line.proofs.Vocabulary.{Change, Gained, Left, at-within, Config}
use Rattle.model_line.proofs.Vocabulary.{LineTold, Line, Own, fresh_line, link_number, link_count, service_at, link_in, terms, Aim, at_none, at_link, at_management, at_terminal, at_units, at_no_link, without_units, of_link, of_change, of_management, of_terminal, of_aim, IsInRange, IsSound, IsUnitData, All-nil, sum_of_links, LinkEvent, link_after, TeiEvent, TerminalEvent, tei_down}
use Rattle.model_link.specs.Sound as link_sounds
use Rattle.model_teis.specs.network.Laws as tei_laws
use Rattle.model_line.proofs.AimsSound.{IsProper}
use Rattle.model_line.proofs.Managed.{IsOwnEvent, by-managed, by-own-event, more_of}
use Rattle.model_line.proofs.SoundParts.{with_units}
use Rattle.model_line.proofs.LinksSound.{sound_in}
use Rattle.model_line.proofs.Numbers.{service_at-number, number_within, sum_changed}

-- A number of each link, by its service.
module _ (c : Config) (f : Service → Link → ℕ) where
  abbrev pub at_number : List Link → ℕ → ℕ
  at_number all n = f (service_at n) (get_or all n fresh)

  -- one link is another
  pub one_changed : (all : List Link) (n : ℕ) (x : Link) → length all ≡ link_count c → n < link_count c
      → sum_of_links c (at_number (set all n x)) + at_number all n ≡ sum_of_links c (at_number all) + f (service_at n) x
  one_changed all n x size few =
      let here : at_number (set all n x) n ≡ f (service_at n) x = ap (f (service_at n)) (get_or-set_same all n x fresh (omega (arith, size, few))) in
      let sums = sum_changed (at_number all) (at_number (set all n x)) 0 (link_count c) n (omega arith) (omega (arith, few))
      (λ j other. ap (f (service_at j)) (get_or-set_other all n j x fresh other)) in
      omega (arith, here, sums)

  -- both links of a place begin
  both_begin : ((service : Service) → f service fresh ≡ 0) → (all : List Link) (place : ℕ) → length all ≡ link_count c → place < c.terminals
      → sum_of_links c (at_number (set (set all (link_number place Call) fresh) (link_number place Packet) fresh)) ≤ sum_of_links c (at_number all)
  both_begin none all place size within =
      let call = link_number place Call in
      let packet = link_number place Packet in
      let second = one_changed (set all call fresh) packet fresh (length-set all call fresh ∙ size) (number_within place c.terminals Packet within) in
      omega (arith, (one_changed all call fresh size (number_within place c.terminals Call within)), second, none (service_at call), none (service_at packet))

  pub all_begin : ((service : Service) → f service fresh ≡ 0) → (a n : ℕ) → sum_by (at_number (fresh_line c).links) (range_with_len a n) ≡ 0
  all_begin none a zero = refl
  all_begin none a (suc n) =
      let head : at_number (fresh_line c).links a ≡ 0 = ap (f (service_at a)) (grind (arith, get_or-replicate, get_or_past, length-replicate, cases_lt)) ∙ none (service_at a) in
      omega (arith, head, all_begin none (a + 1) n, sum_by-cons (at_number (fresh_line c).links) a (range_with_len (a + 1) n))

-- The messages of TEI management that wait or will.
abbrev pub messages : Line → ℕ
messages l = tei_may_send l.management + length l.own.waiting

-- The number of a link rises by a price of the event. (Messages count, or do not.)
pub record Rise (c : Config) (f : Service → Link → ℕ) (price : Service → ℕ → LinkEvent → Link → ℕ) : Type 0 where
  pub begins : (service : Service) → f service fresh ≡ 0
  pub link : (service : Service) (tei : ℕ) → tei ≤ 126 → (e : LinkEvent) (x : Link) → link_sounds.IsSound (terms c service tei) x
      → f service (link_after (terms c service tei) e x) ≤ f service x + price service tei e x

module _ {c : Config} {f : Service → Link → ℕ} {price : Service → ℕ → LinkEvent → Link → ℕ} (counted : Bool) (h : Rise c f price) where
  abbrev pub if_counted : ℕ → ℕ
  if_counted n = cond counted n 0

  -- The sum, with the units that wait.
  abbrev pub total : Line → ℕ
  total l = if_counted (messages l) + length l.units + sum_of_links c (at_number c f l.links)

  -- The price of an aim.
  abbrev pub price_at : Line → Aim → ℕ
  price_at l (at_none what) = 0
  price_at l (at_link service tei place event) = price service tei event (link_in l service place)
  price_at l (at_management event) = if_counted (more_of c event)
  price_at l (at_terminal event) = if_counted 1
  price_at l (at_units unit) = 1
  price_at l at_no_link = if_counted 1

  link_rises : (l : Line) → IsInRange c → IsSound c l → (service : Service) (tei place : ℕ) (e : LinkEvent) → IsAt l.management.places place tei
      → total (of_link c service tei place e l).line ≤ total l + price service tei e (link_in l service place)
  link_rises l ranged s service tei place e at =
      let n = link_number place service in
      let x = link_after (terms c service tei) e (link_in l service place) in
      let within : place < c.terminals = omega (arith, s.places, at-within l.management.places place tei at) in
      let sums = one_changed c f l.links n x s.count (number_within place c.terminals service within) in
      let before : f (service_at n) (link_in l service place) ≡ f service (link_in l service place) = ap (λ y. f y (link_in l service place)) (service_at-number place service) in
      let after : f (service_at n) x ≡ f service x = ap (λ y. f y x) (service_at-number place service) in
      omega (arith, (h.link service tei (s.management.table.range place tei at) e (link_in l service place) (sound_in c ranged l s service tei place at)), sums, before, after)

  messages_rise : (before more after : ℕ) → after ≤ before + more → if_counted after ≤ if_counted before + if_counted more
  messages_rise before more after few = elim counted as (λ b. cond b after 0 ≤ cond b before 0 + cond b more 0) [ true ↦ few | false ↦ omega arith ]

  change_rises : (l : Line) (more : ℕ) (m : Management) (own : Own) (change : Option Change) (told : LineTold) → IsSound c l
      → tei_may_send m + length own.waiting ≤ messages l + more → Moves l.management.places change m.places
      → total (of_change c change told (record l { management = m; own = own })).line ≤ total l + if_counted more
  change_rises l more m own None told s few moves = omega (arith, messages_rise (messages l) more (tei_may_send m + length own.waiting) few)
  change_rises l more m own (Some (Gained tei place)) told s few joined =
      omega (arith, messages_rise (messages l) more (tei_may_send m + length own.waiting) few, both_begin c f h.begins l.links place s.count (omega (arith, joined.within, s.places)))
  change_rises l more m own (Some (Left tei place)) told s few left =
      omega (arith, messages_rise (messages l) more (tei_may_send m + length own.waiting) few, both_begin c f h.begins l.links place s.count (omega (arith, left.within, s.places)))

  management_rises : (l : Line) → IsSound c l → (e : TeiEvent) → tei_laws.IsInRange e → total (of_management c e l).line ≤ total l + if_counted (more_of c e)
  management_rises l s e range =
      by-managed c l s (λ change out. total out.line ≤ total l + if_counted (more_of c e)) e range
      (λ change told m own step. change_rises l (more_of c e) m own change told s step.rises step.moves)

  own_rises : (l : Line) → IsSound c l → (e : TerminalEvent) → IsOwnEvent c e → total (of_terminal c e l).line ≤ total l + if_counted 1
  own_rises l s e proper =
      by-own-event c l s (λ change out. total out.line ≤ total l + if_counted 1) e proper
      (λ change told m own step. change_rises l 1 m own change told s step.rises step.moves)

  pub aim_rises : (l : Line) (aim : Aim) → IsInRange c → IsSound c l → IsProper c l aim → total (of_aim c aim l).line ≤ total l + price_at l aim
  aim_rises l (at_none what) ranged s proper = omega arith
  aim_rises l (at_link service tei place event) ranged s proper = link_rises l ranged s service tei place event proper
  aim_rises l (at_management event) ranged s proper = management_rises l s event proper
  aim_rises l (at_terminal event) ranged s proper = own_rises l s event proper
  aim_rises l (at_units unit) ranged s proper = omega (arith, length-append l.units (unit ∷ []))
  aim_rises l at_no_link ranged s proper =
      omega (arith, management_rises (without_units l) (with_units c l s [] (All-nil (IsUnitData c)) (omega arith)) tei_down tt)
