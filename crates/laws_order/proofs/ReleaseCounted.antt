-- An end that releases its link counts in RC the expiries of T200, until it is told.
use Rattle.laws_order.proofs.Vocabulary.{◌≡◌, ℕ, ◌+◌, ◌≤◌, Bool, true, false, cond, List, [], ◌∷◌, ◌++◌, get_or, set, Option, Some, None, refl, sym, ap, ◌∙◌, subst, arith, ◌⊎◌, inl, inr, All, filter, length, nat_lt, ltb-true, get_or-set_same, All-head, Note, Service, TeiAssigned, AwaitingRelease, Terms, LinkTimer, T200, Link, Config, Line, fresh_line, link_of, place_in, terms, line_at, wants_room}
use Rattle.laws_order.proofs.Vocabulary.{has_lines, by_room, event-follows, timed-after, Seen, none-ticks, own-is, Goes, event-goes, expired_of, off-fresh, nothing_yet, Endpoint, Wire, happens, fresh, Event, at, line_of, AnyStepAt, IsPossible, any_doing, seen_at_near, seen_near, is_t200, t200_by, t200s, news, LinkEvent, expired, after, flat_map-append, news_in}
use Rattle.model_link.specs.Link.{most_repeats}
use Rattle.model_line.specs.Machine as lines
use Rattle.model_line.specs.Sound as line_sound
use Rattle.model_card.proofs.Steps.{line_sound as sound_line}
use Rattle.laws_order.proofs.Pairs.{link_here, IsWell}
use Rattle.laws_order.proofs.Vocabulary.{Reading}
use Rattle.laws_order.proofs.Released.{Occurs, reads, same-reading, nothing_there, one_there, then-well, step-six, StepSix, events_at, occurs, later}

-- A link in state 6 that stays there runs T200, and RC counts its expiries, up to N200.
pub record Counted (t : Terms) (l l' : Link) (n : ℕ) : Type 0 where
  pub running : l'.running ≡ Some T200
  pub repeats : l'.repeats ≡ n + l.repeats
  pub below : (n ≡ 0) ⊎ (n + l.repeats ≤ most_repeats t 6)

module _ (t : Terms) (l : Link) (is : l.state ≡ AwaitingRelease) (runs-on : l.running ≡ Some T200) where
  abbrev l' : LinkEvent → Link
  l' e = after t e l

  expires : (again : Bool) → nat_lt l.repeats (most_repeats t 6) ≡ again → (l' (expired T200)).state ≡ AwaitingRelease → Counted t l (l' (expired T200)) 1
  expires again few stays = grind (arith, timed-after, event-follows, nat_lt, t, ltb-true)

module _ (service : Service) (tei : ℕ) where
  abbrev count_of : Event → ℕ
  count_of e = length (filter (is_t200 service tei) (e ∷ []))

  -- an expiry of no timer of the link is not counted
  abbrev its-t200 : Option LinkTimer → Bool
  its-t200 (Some T200) = true
  its-t200 other = false

  none-counted : (e : Event) → expired_of service tei e ≡ None → count_of e ≡ 0
  none-counted e none = ap (λ b. length (cond {A = List Event} b (e ∷ []) [])) (grind arith ∙ ap its-t200 none)

  -- One event of a line.
  module _ (c : Config) (l : Line) (s : line_sound.IsSound c l) (e : Event) where
    abbrev Own : Terms
    Own = terms c service tei

    abbrev k : Link
    k = link_of service tei l

    abbrev k' : Link
    k' = link_of service tei (lines.after c e l)

    line-counts : k.state ≡ AwaitingRelease → k.running ≡ Some T200 → k'.state ≡ AwaitingRelease → Counted Own k k' (count_of e)
    line-counts is runs-on stays = go (event-goes c e l service tei s)
      where
        not-fresh : (x : Link) → x.state ≡ AwaitingRelease → x ≡ fresh → (A : Type 0) → A
        not-fresh x six new A = let wrong : TeiAssigned ≡ AwaitingRelease = sym (ap (λ (y : Link). y.state) new) ∙ six in absurd (cc wrong)

        go : Goes c service tei e l (lines.after c e l) (lines.answer c e l) → Counted Own k k' (count_of e)
        go (inl x) = by-place (place_in l tei) refl x.is
          where
            by-place : (o : Option ℕ) → place_in l tei ≡ o → (k' ≡ k) ⊎ (k' ≡ fresh) → Counted Own k k' (count_of e)
            by-place None off h = not-fresh k is (off-fresh service tei l off) (Counted Own k k' (count_of e))
            by-place (Some place) on (inl same) = grind (arith, none-counted e (none-ticks c service tei nothing_yet l place on e x.aims))
            by-place (Some place) on (inr new) = not-fresh k' stays new (Counted Own k k' (count_of e))
        go (inr (inl x)) = grind (arith, own-is, timed-after, event-follows, expires, nat_lt)
        go (inr (inr x)) = not-fresh k' stays x.is (Counted Own k k' (count_of e))

  -- At an endpoint.
  module _ (s : Endpoint) (well : IsWell s) (e : Event) where
    abbrev conf : Config
    conf = s.card.config

    abbrev here : Line
    here = line_at s.line s.card

    abbrev Was : Link
    Was = link_here service tei s

    now : get_or (set s.card.lines s.line (lines.after conf e here)) s.line (fresh_line conf) ≡ lines.after conf e here
    now = get_or-set_same s.card.lines s.line (lines.after conf e here) (fresh_line conf) (omega (arith, well.sound.count, well.within))

    -- what finds the pool full is no expiry
    full-none : (e : Event) → wants_room (at s.line e) s.card ≡ true → count_of e ≡ 0
    unfolding lines.takes_slot
    full-none e full = grind arith

    abbrev Then : Line → Type 0
    Then x = (link_of service tei x).state ≡ AwaitingRelease → Counted (terms conf service tei) Was (link_of service tei x) (count_of e)

    endpoint-counts : Was.state ≡ AwaitingRelease → Was.running ≡ Some T200 → Then (line_of (happens e s))
    endpoint-counts is runs-on =
        by_room (λ ls a. Then (get_or ls s.line (fresh_line conf))) (at s.line e) s.card
        (λ full stays. (grind (arith, full-none e full)))
        (λ room. subst Then (sym now) (line-counts conf here (sound_line s.card s.line (has_lines s.card well.sound) well.within) e is runs-on))

  -- Whole runs.
  abbrev Here : Wire → Link
  Here w = link_here service tei w.near

  abbrev Own_ : Wire → Terms
  Own_ w = terms w.near.card.config service tei

  step-counts : (w w' : Wire) (t : List Seen) (es : List Event) → IsWell w.near → (Here w).state ≡ AwaitingRelease → (Here w).running ≡ Some T200 → Occurs service tei w w' t es
      → (Here w').state ≡ AwaitingRelease → Counted (Own_ w) (Here w) (Here w') (length (filter (is_t200 service tei) es)) × (w'.near.card.config ≡ w.near.card.config)
  step-counts w w' t es well is runs-on (nothing_there same none nil) stays = grind arith
  step-counts w w' t es well is runs-on (one_there e it shown one) stays = (
    subst (λ es. Counted (Own_ w) (Here w) (Here w') (length (filter (is_t200 service tei) es))) (sym one)
        (subst (λ s. Counted (Own_ w) (Here w) (link_here service tei s) (count_of e)) (sym it)
        (endpoint-counts w.near well e is runs-on (sym (ap (λ (s : Endpoint). (link_here service tei s).state) it) ∙ stays))),
    ap (λ (s : Endpoint). s.card.config) it,
  )

  abbrev pub Bounded : ℕ → ℕ → ℕ → Type 0
  Bounded n r most = (n ≡ 0) ⊎ (n + r ≤ most)

  add : (n m r r' most most' : ℕ) → r' ≡ n + r → most' ≡ most → Bounded n r most → Bounded m r' most' → Bounded (n + m) r most
  add n m r r' most most' e same o x = grind arith

  abbrev IsOpen : Wire → AnyStepAt → Type 0
  IsOpen w h = IsPossible service tei w h

  untold : (ns ms : List Note) (n : Note) → ns ≡ n ∷ ms → (rest : List Note) → ns ++ rest ≡ [] → ⊥
  untold ns ms n e rest h = let wrong : n ∷ (ms ++ rest) ≡ [] = ap (λ xs. xs ++ rest) (sym e) ∙ h in cc wrong

  pub run-counts : (hs : List AnyStepAt) (w : Wire) → IsWell w.near → (Here w).state ≡ AwaitingRelease → (Here w).running ≡ Some T200 → All (IsOpen w) hs
      → news (reads service tei w) service tei (seen_near hs w) ≡ [] → Bounded (t200s service tei hs w) (Here w).repeats (most_repeats (Own_ w) 6)
  unfolding seen_near t200s
  run-counts [] w well is runs-on all none = inl refl
  run-counts (h ∷ hs) w well is runs-on all none =
      let o = occurs service tei h w well (All-head (IsOpen w) h hs all) in
      go o
      (λ well' is' runs-on' none'. run-counts hs w' well' is' runs-on' (later service tei h hs w all)
      (subst (λ r. news r service tei (seen_near hs w') ≡ []) (sym (same-reading service tei w w' t es o)) none')) (step-six service tei w w' t es well is o)
    where
      w' : Wire
      w' = any_doing h w

      t : List Seen
      t = seen_at_near h w

      es : List Event
      es = events_at service tei h w

      r : Reading
      r = reads service tei w

      split : news r service tei t ++ news r service tei (seen_near hs w') ≡ []
      split = sym (flat_map-append (news_in r service tei) t (seen_near hs w')) ∙ none

      go : Occurs service tei w w' t es
          → (IsWell w'.near → (Here w').state ≡ AwaitingRelease → (Here w').running ≡ Some T200 → news r service tei (seen_near hs w') ≡ []
          → Bounded (t200s service tei hs w') (Here w').repeats (most_repeats (Own_ w') 6))
          → StepSix service tei w w' t es → Bounded (t200_by service tei h w + t200s service tei hs w') (Here w).repeats (most_repeats (Own_ w) 6)
      go o behind (inl (stays, x)) =
          let c = step-counts w w' t es well is runs-on o stays in
          let n = length (filter (is_t200 service tei) es) in
          subst (λ n. Bounded (n + t200s service tei hs w') (Here w).repeats (most_repeats (Own_ w) 6)) (sym (grind arith))
          (add n (t200s service tei hs w') (Here w).repeats (Here w').repeats (most_repeats (Own_ w) 6) (most_repeats (Own_ w') 6) c.0.repeats (ap (λ (c : Config). most_repeats (terms c service tei) 6) c.1) c.0.below
          (behind (then-well service tei w w' t es well o) stays c.0.running (ap (λ ns. ns ++ news r service tei (seen_near hs w')) (sym x.0) ∙ split)))
      go o behind (inr (to, inl (x, may))) = absurd (untold _ [] _ x.0 _ split)
      go o behind (inr (to, inr x)) = absurd (untold _ _ _ x.0 _ split)
