-- How many contents an observer has counted as acknowledged is V(A) of the link, while that is in state 7 or 8.
use Rattle.laws_order.proofs.Vocabulary.{◌≡◌, ℕ, ◌+◌, ◌%◌, ◌<◌, ◌≤◌, ◌==◌, ◌&&◌, ◌||◌, not, Bool, true, false, cond, List, [], ◌∷◌, ◌++◌, get_or, Option, Some, None, refl, sym, ap, ◌∙◌, subst, arith, eq-eqb, eqb-true, and_parts, append-nil, append_assoc, true≢false, all-left, nowhere, get_or-replicate, ◌⊎◌, inl, inr, fold, list_any, get_or-set_same, fold-append, Service, place_of-is, State, Terms}
use Rattle.laws_order.proofs.Vocabulary.{Link, is_multiple_frame, Config, IsInRange, Answer, refused, PoolFull, Line, fresh_line, link_of, place_in, terms_in_range, line_at, has_lines, by_room, event-follows, after, Goes, event-goes, off-fresh, fresh, at, Tally, no_tally, tallies, tally_of, LinkEvent, its, comes, here-at, IsSeenAs, seen-before, number-up, config-now, sound-now, moments-both}
use Rattle.laws_order.proofs.Vocabulary.{after_all-append, View, steps, views, view_of, restarts, IsSound, event-done, acknowledged, empties, share, with_share, acknowledged-went, link-at-end, sabme_of, one-begins, none-begins, brings-is, apart, nothing-seen, is_up}
use Rattle.model_line.specs.Event as line_event
use Rattle.model_line.specs.Machine as lines
use Rattle.model_line.specs.Sound as line_sound
use Rattle.model_card.proofs.Steps.{line_sound as line_sound_at}
use Rattle.model_card.specs.Card as cards
use Rattle.model_card.specs.Card.{Card}
use Rattle.model_card.specs.Event.{Event}
use Rattle.model_card.specs.Machine as machine
use Rattle.model_card.specs.Run.{Moment, moments, after_all, IsAtLine, AreAtLines}
use Rattle.model_card.specs.Sound as card_sound
use Rattle.laws_link.proofs.Restarts.{establishes}
use Rattle.laws_trace.specs.News.{brings, is_sabme}
use Rattle.laws_order.proofs.Down.{stays-down}

abbrev up_in : State → Bool
up_in s = is_multiple_frame s

-- ---- a link

-- V(A) goes on in states 7 and 8, and else begins with 0.
abbrev pub gone_on : Bool → Link → Link → ℕ
gone_on anew k x = cond (up_in k.state && not anew) (k.a + steps (k.a % 128) (x.a % 128)) 0

stepped : (a n more : ℕ) → n ≡ a + more → more ≤ 127 → n ≡ a + steps (a % 128) (n % 128)
stepped a n more is few = is ∙ ap (λ m. a + m) (sym (omega (arith, is, few)))

module _ (t : Terms) (k : Link) where
  begins : (e : LinkEvent) → (up_in (after t e k).state ≡ true → restarts t e k ≡ (not (up_in k.state) || sabme_of e))
  begins e up = grind (arith, event-follows, k, sabme_of, stays-down, establishes)

  module _ (s : IsSound t k) (small : t.k ≤ 127) (e : LinkEvent) where
    abbrev next : Link
    next = after t e k

    abbrev a_by : Bool → Bool → ℕ
    a_by anew empty =
        (with_share (record { accepted = k.contents; acknowledged = k.a })
        (record { restarts = anew; empties = empty; accepted = (share t e k).accepted; acknowledged = acknowledged t e k })).acknowledged

    pub event-goes-on : up_in next.state ≡ true → next.a ≡ gone_on (sabme_of e) k next
    event-goes-on up = go (up_in k.state) refl (sabme_of e) refl
      where
        is : (b : Bool) → (not (up_in k.state) || sabme_of e) ≡ b → next.a ≡ a_by b (empties t e k)
        is b so = (event-done t k s e).comes.acknowledged ∙ ap (λ b. a_by b (empties t e k)) (begins e up ∙ so)

        on : (empty : Bool) → next.a ≡ a_by false empty → next.a ≡ k.a + steps (k.a % 128) (next.a % 128)
        on empty still = grind (arith, stepped, k, acknowledged-went)

        go : (u : Bool) → up_in k.state ≡ u → (z : Bool) → sabme_of e ≡ z → next.a ≡ cond (u && not z) (k.a + steps (k.a % 128) (next.a % 128)) 0
        go false was z anew = is true (ap (λ u. not u || sabme_of e) was)
        go true was true anew = is true (ap (λ u. not u || sabme_of e) was ∙ anew)
        go true was false anew = on (empties t e k) (is false (ap (λ u. not u || sabme_of e) was ∙ anew))

same-goes : (k x : Link) (anew : Bool) → x ≡ k → anew ≡ false → up_in x.state ≡ true → x.a ≡ gone_on anew k x
same-goes k x anew is none up = grind (arith, stepped)

-- ---- a line, and a card

pub place-of : (service : Service) (tei : ℕ) (l : Line) → up_in (link_of service tei l).state ≡ true → (place : ℕ) × (place_in l tei ≡ Some place)
place-of service tei l up = grind (arith, off-fresh)

module _ (service : Service) (tei : ℕ) where
  abbrev GoesOn : Config → line_event.Event → Line → Line → Type 0
  GoesOn c e l m = let x = link_of service tei m in up_in x.state ≡ true → x.a ≡ gone_on (brings is_sabme c service tei e) (link_of service tei l) x

  line-goes : (c : Config) → IsInRange c → (l : Line) → line_sound.IsSound c l → (e : line_event.Event) → GoesOn c e l (lines.after c e l)
  line-goes c ranged l s e up = go (event-goes c e l service tei s)
    where
      a : Answer
      a = lines.answer c e l

      k : Link
      k = link_of service tei l

      x : Link
      x = link_of service tei (lines.after c e l)

      go : Goes c service tei e l (lines.after c e l) (lines.answer c e l) → x.a ≡ gone_on (brings is_sabme c service tei e) k x
      go (inl h) = either h.is
        where
          either : (x ≡ k) ⊎ (x ≡ fresh) → x.a ≡ gone_on (brings is_sabme c service tei e) k x
          either (inr new) = absurd (true≢false (sym up ∙ ap (λ (y : Link). up_in y.state) new))
          either (inl same) =
              let placed = place-of service tei l (sym (ap (λ (y : Link). up_in y.state) same) ∙ up) in
              same-goes k x (brings is_sabme c service tei e) same
              (sym (brings-is c service tei is_sabme e a) ∙ none-begins c service tei is_sabme l placed.0 placed.1 e h.aims a) up
      go (inr (inl h)) =
          let sound = link-at-end c l ranged s service tei h.place h.placed in
          let small = (terms_in_range c ranged service tei (s.management.table.range h.place tei (place_of-is l.management.places tei h.place h.placed).1)).k_high in
          let anew = brings-is c service tei is_sabme e a in
          grind (arith, event-goes-on, one-begins)
      go (inr (inr h)) = absurd (true≢false (sym up ∙ ap (λ (y : Link). up_in y.state) h.is))

  card-goes : (card : Card) (number : ℕ) → card_sound.IsSound card → number < card.config.lines → (what : line_event.Event)
      → GoesOn card.config what (line_at number card) (line_at number (machine.after (at number what) card))
  card-goes card number s here what =
      let c = card.config in
      let l = line_at number card in
      by_room (λ ls a. GoesOn c what l (get_or ls number (fresh_line c))) (at number what) card
      (λ full. same-goes (link_of service tei l) (link_of service tei l) (brings is_sabme c service tei what) refl
      (sym (brings-is c service tei is_sabme what (refused PoolFull)) ∙ ap (list_any _) (nothing-seen c what l (and_parts (lines.takes_slot c what l) _ full).0)))
      (λ room. subst (λ m. GoesOn c what l m) (sym (get_or-set_same card.lines number (lines.after c what l) (fresh_line c) (omega (arith, s.count, here))))
      (line-goes c s.config l (line_sound_at card number (has_lines card s) here) what))

-- ---- a run from the start

module _ (c : Config) (number : ℕ) (ranged : IsInRange c) (within : number < c.lines) (service : Service) (tei : ℕ) where
  abbrev its_link : List Event → Link
  its_link events = link_of service tei (its c number ranged within service tei events)

  abbrev counted : List Event → ℕ
  counted events = (tally_of c service tei number events).acknowledged

  same-view : (ms : List Moment) (o : Tally) → (fold (tallies c service tei number) o ms).view ≡ fold (views c service tei number) o.view ms
  same-view [] o = refl
  same-view (m ∷ ms) o = same-view ms (tallies c service tei number o m)

  abbrev with_event : List Event → Event → Moment
  with_event before e = let card = after_all (cards.fresh c) before in record { card = card; event = e; answer = machine.answer e card }

  then-is : (before : List Event) (e : Event) → tally_of c service tei number (before ++ e ∷ []) ≡ tallies c service tei number (tally_of c service tei number before) (with_event before e)
  unfolding moments
  then-is before e = grind (arith, moments-both, fold-append)

  view-then : (before : List Event) (e : Event) → view_of c service tei number (before ++ e ∷ []) ≡ views c service tei number (view_of c service tei number before) (with_event before e)
  unfolding moments
  view-then before e = grind (arith, moments-both, fold-append)

  line-then : (before : List Event) (e : Event) → its_link (before ++ e ∷ []) ≡ link_of service tei (line_at number (machine.after e (after_all (cards.fresh c) before)))
  unfolding after_all
  line-then before e = ap (λ card. link_of service tei (line_at number card)) (after_all-append (cards.fresh c) before (e ∷ []))

  abbrev Has : List Event → Type 0
  Has events = up_in (its_link events).state ≡ true → counted events ≡ (its_link events).a

  -- what the event is to the numbers of the link
  abbrev anew_by : Event → Bool
  anew_by e = e.line == number && brings is_sabme c service tei e.what

  goes-by : (before : List Event) → AreAtLines (cards.fresh c) before → (e : Event) → let x = its_link (before ++ e ∷ []) in
      up_in x.state ≡ true → x.a ≡ gone_on (anew_by e) (its_link before) x
  goes-by before all e = subst (λ x. up_in x.state ≡ true → x.a ≡ gone_on (anew_by e) (its_link before) x) (sym (line-then before e)) (go (e.line == number) refl)
    where
      card : Card
      card = after_all (cards.fresh c) before

      go : (b : Bool) → (e.line == number) ≡ b → let x = link_of service tei (line_at number (machine.after e card)) in
          up_in x.state ≡ true → x.a ≡ gone_on (b && brings is_sabme c service tei e.what) (its_link before) x
      go true own =
          subst (λ n. let x = link_of service tei (line_at number (machine.after (at n e.what) card)) in
          up_in x.state ≡ true → x.a ≡ gone_on (brings is_sabme c service tei e.what) (its_link before) x) (sym (eqb-true e.line number own))
          (subst (λ (d : Config). GoesOn service tei d e.what (line_at number card) (line_at number (machine.after (at number e.what) card))) (config-now c before number ranged all within service tei)
          (card-goes service tei card number (sound-now c before number ranged all within service tei) (here-at c number ranged within service tei before all) e.what))
      go false other = grind (arith, same-goes, apart, eq-eqb)

  fresh-then : (before : List Event) → AreAtLines (cards.fresh c) before → (e : Event) → place_in (its c number ranged within service tei before) tei ≡ None → its_link (before ++ e ∷ []) ≡ fresh
  fresh-then before all e off = line-then before e ∙ go (e.line == number) refl
    where
      card : Card
      card = after_all (cards.fresh c) before

      go : (b : Bool) → (e.line == number) ≡ b → link_of service tei (line_at number (machine.after e card)) ≡ fresh
      go true own =
          subst (λ n. link_of service tei (line_at number (machine.after (at n e.what) card)) ≡ fresh) (sym (eqb-true e.line number own))
          (comes card number e.what (sound-now c before number ranged all within service tei) (here-at c number ranged within service tei before all) service tei off)
      go false other = grind (arith, apart, eq-eqb, off-fresh)

  -- In one moment.
  has-then : (before : List Event) → AreAtLines (cards.fresh c) before → Has before → (e : Event) → AreAtLines (cards.fresh c) (before ++ e ∷ []) → Has (before ++ e ∷ [])
  has-then before all has e more up =
      ap (λ (o : Tally). o.acknowledged) (then-is before e)
      ∙ ap (λ v. by v (views c service tei number v (with_event before e))) (same-view (moments (cards.fresh c) before) no_tally)
      ∙ ap (by was) (sym (view-then before e)) ∙ numbers (place_in (its c number ranged within service tei before) tei) refl ∙ sym (goes-by before all e up)
    where
      k : Link
      k = its_link before

      x : Link
      x = its_link (before ++ e ∷ [])

      was : View
      was = view_of c service tei number before

      now : View
      now = view_of c service tei number (before ++ e ∷ [])

      by : View → View → ℕ
      by v u = cond (is_up v.link.state && is_up u.link.state && not (anew_by e)) (counted before + steps v.link.acknowledged u.link.acknowledged) 0

      numbers : (o : Option ℕ) → place_in (its c number ranged within service tei before) tei ≡ o → by was now ≡ gone_on (anew_by e) k x
      numbers None off = absurd (true≢false (sym up ∙ ap (λ (y : Link). up_in y.state) (fresh-then before all e off)))
      numbers (Some p) on =
          ap (λ s. cond (is_up s && is_up now.link.state && not (anew_by e)) (counted before + steps was.link.acknowledged now.link.acknowledged) 0) seen-k.state_is
          ∙ ap (λ u. cond (u && is_up now.link.state && not (anew_by e)) (counted before + steps was.link.acknowledged now.link.acknowledged) 0) (number-up k.state)
          ∙ ap (λ v. cond (up_in k.state && v && not (anew_by e)) (counted before + steps was.link.acknowledged now.link.acknowledged) 0) (ap is_up seen-x.state_is ∙ number-up x.state ∙ up)
          ∙ by-state (up_in k.state) refl
        where
          seen-k : IsSeenAs k was.link
          seen-k = seen-before c before number ranged all within service tei p on

          seen-x : IsSeenAs x now.link
          seen-x = let q = place-of service tei (its c number ranged within service tei (before ++ e ∷ [])) up in seen-before c (before ++ e ∷ []) number ranged more within service tei q.0 q.1

          by-state : (u : Bool) → up_in k.state ≡ u
              → cond (u && true && not (anew_by e)) (counted before + steps was.link.acknowledged now.link.acknowledged) 0 ≡ cond (u && not (anew_by e)) (k.a + steps (k.a % 128) (x.a % 128)) 0
          by-state o down = grind (arith, was, now, k, seen-k, seen-x)

  run : (before rest : List Event) → AreAtLines (cards.fresh c) (before ++ rest) → Has before → Has (before ++ rest)
  run before [] all has = subst Has (sym (append-nil before)) has
  run before (e ∷ rest) all has =
      let joined : (before ++ e ∷ []) ++ rest ≡ before ++ e ∷ rest = append_assoc before (e ∷ []) rest in
      let more = subst (AreAtLines (cards.fresh c)) (sym joined) all in
      subst Has joined
      (run (before ++ e ∷ []) rest more
      (has-then before (all-left (IsAtLine (cards.fresh c)) before (e ∷ rest) all) has e (all-left (IsAtLine (cards.fresh c)) (before ++ e ∷ []) rest more)))

  at-first-down : Has []
  unfolding moments after_all
  at-first-down up =
      absurd (true≢false (sym up ∙ ap (λ (l : Line). up_in (link_of service tei l).state) (get_or-replicate c.lines number (fresh_line c) (fresh_line c) within)
      ∙ ap (λ (y : Link). up_in y.state) (off-fresh service tei (fresh_line c) (nowhere c tei))))

  pub acknowledged-now : (events : List Event) → AreAtLines (cards.fresh c) events → up_in (its_link events).state ≡ true → counted events ≡ (its_link events).a
  acknowledged-now events all = run [] events all at-first-down
