-- What one event at an end tells of its link in state 6, and in state 4.
use Rattle.laws_order.proofs.Vocabulary.{◌≡◌, ℕ, Bool, true, false, cond, List, [], ◌∷◌, get_or, set, Option, Some, None, refl, sym, ap, ◌∙◌, subst, arith, append-nil, true≢false, ◌⊎◌, inl, inr, filter, option_to_list, list_any, get_or-set_same, Control, H, Note, Refusal, PoolFull, Service, State, TeiAssigned, AwaitingRelease, Terms, Link, state_number, Config, Answer, refused, Line, fresh_line}
use Rattle.laws_order.proofs.Vocabulary.{has_tei}
use Rattle.laws_order.proofs.Vocabulary.{link_of, place_in, terms, line_at, has_lines, by_room, notes_of, contents_in, deactivates, IsBy, is-off, seen, is_ui, unless, no-data, on-line, own-is, leaving-due, none-filtered, others-silent, due, HasOne, HasNone, IsGivenUp, event-goes, off-fresh, Endpoint, answered, happens, fresh, at, line_of, data_noted, is_news, news, begins_by_note, begins_by}
use Rattle.laws_order.proofs.Vocabulary.{Reading, NoCall, Parts, is_for, is_called, is_in_4, is_plain_dm, brings, sapi-is, eq-eqb, ◌&&◌, option_map_or}
use Rattle.laws_order.proofs.Vocabulary.{BeginsNothing, link_frame, received, LinkEvent, cleared, after, told, NoteError, NoteReleaseConfirm, or-true, Event}
use Rattle.model_line.specs.Line.{state_of}
use Rattle.model_line.specs.Machine as lines
use Rattle.model_line.specs.Sound as line_sound
use Rattle.model_card.proofs.Steps.{line_sound as sound_line}
use Rattle.std.specs.Result.{result_ok}
use Rattle.laws_trace.specs.LinkFrames.{its_frame}
use Rattle.laws_trace.specs.News as trace
use Rattle.laws_trace.proofs.NewsOfLink.{Asks}
use Rattle.laws_trace.proofs.NewsWatched.{none_wanted}
use Rattle.laws_order.proofs.Down.{Speaks}
use Rattle.laws_order.proofs.LinkReleased.{Tells, In6, In4, Begins, Confirms, ConfirmsAt, rings, in-6, in-4}
use Rattle.laws_order.proofs.Pairs.{link_here, IsWell}
use Rattle.laws_order.proofs.Saying.{HeardIs, by-ui}
use Rattle.laws_order.proofs.Shown.{Fits, fits, noted_by, noted-is, none-noted}

-- UA and DM are no unit data, and no end that is up says them.
abbrev Unconfirming : Control → Type 0
Unconfirming control = Confirms control → ⊥

ui-unconfirming : (control : Control) → is_ui control ≡ true → Unconfirming control
ui-unconfirming control is h = grind arith

speaks-unconfirming : (control : Control) → Speaks control → Unconfirming control
speaks-unconfirming control is h = grind arith

module _ (service : Service) (tei : ℕ) where
  abbrev News : Reading → List Note → List Note
  News r ns = filter (is_news r service tei) ns

  -- What the trace takes for news has all of it.
  fewer : (r : Reading) (n : Note) → trace.is_news service tei n ≡ false → is_news r service tei n ≡ false
  fewer r n h = grind arith

  of-news : (r : Reading) (ns : List Note) → News r ns ≡ News r (filter (trace.is_news service tei) ns)
  of-news r [] = refl
  of-news r (n ∷ ns) = go (of-news r ns) (trace.is_news service tei n) refl
    where
      go : News r ns ≡ News r (filter (trace.is_news service tei) ns) → (b : Bool) → trace.is_news service tei n ≡ b
          → cond (is_news r service tei n) (n ∷ News r ns) (News r ns) ≡ News r (cond b (n ∷ filter (trace.is_news service tei) ns) (filter (trace.is_news service tei) ns))
      go rest b is = grind (arith, fewer)

  -- An answer tells this of the link, and no data.
  pub record Says (r : Reading) (a : Answer) (ns : List Note) : Type 0 where
    pub news : News r (notes_of a) ≡ ns
    pub no_data : noted_by service tei a ≡ []

  abbrev pub Confirm : List Note
  Confirm = NoteReleaseConfirm service tei ∷ []

  abbrev pub GivenUp : List Note
  GivenUp = NoteError service tei H ∷ Confirm

  abbrev pub Six : Type 0 → Reading → Link → Answer → Type 0
  Six cause r k a = ((k.state ≡ AwaitingRelease) × Says r a []) ⊎ ((k.state ≡ TeiAssigned) × ((Says r a Confirm × cause) ⊎ Says r a GivenUp))

  -- An event by which no release is confirmed, before which the TEI stays on the line.
  pub record Confirmless (c : Config) (e : Event) (l : Line) : Type 0 where
    pub heard : HeardIs c service tei Speaks e
    pub stays : has_tei tei l ≡ true
    pub active : deactivates service tei e ≡ false

  abbrev pub Four : Reading → Link → Answer → Type 0
  Four r k a = (k.state ≡ TeiAssigned) × Says r a []

  -- What is seen of an answer.
  none-news : (r : Reading) (e : Event) (why : Refusal) → news r service tei (seen e (refused why)) ≡ []
  none-news r e why = grind arith

  noted-begins : (e : Event) (a : Answer) → Fits e a → list_any (begins_by_note service tei) (notes_of a) ≡ true → list_any (begins_by service tei) (seen e a) ≡ true
  noted-begins e a f h = grind (arith, or-true)

  -- One event of a line.
  module _ (c : Config) (ranged : line_sound.IsInRange c) (l : Line) (s : line_sound.IsSound c l) (e : Event) where
    abbrev a : Answer
    a = lines.answer c e l

    abbrev Own : Terms
    Own = terms c service tei

    abbrev k : Link
    k = link_of service tei l

    abbrev l' : Line
    l' = lines.after c e l

    abbrev k' : Link
    k' = link_of service tei l'

    abbrev Cause : Type 0
    Cause = Confirmless c e l' → ⊥

    abbrev Quietly : Type 0
    Quietly = list_any (begins_by service tei) (seen e a) ≡ false

    abbrev r : Reading
    r = c.reading

    -- the other side asks for an establishment
    abbrev Called : Bool
    Called = is_in_4 (state_of service tei l) && brings is_plain_dm c service tei e

    by-notes : (ns its : List Note) → notes_of a ≡ ns → Tells Own ns its → Says r a its
    by-notes ns its is x = grind (arith, option_to_list)

    -- no event of the link
    module _ (x : HasNone c service tei e l l' a) where
      no-noted : noted_by service tei a ≡ []
      no-noted = ap (λ b. cond b (option_to_list (contents_in a)) []) (sym (unless _ (no-data c ranged l s e service tei k.r (λ up. refl) x)))

      by-trace : (ns : List Note) → filter (trace.is_news service tei) (notes_of a) ≡ ns → Says r a (News r ns)
      by-trace ns is = record { news = of-news r (notes_of a) ∙ ap (News r) is; no_data = no-noted }

      new-state : k' ≡ fresh → k'.state ≡ TeiAssigned
      new-state is = ap (λ (y : Link). y.state) is

      off-says : place_in l tei ≡ None → Four r k' a
      off-says off = (
        (grind (arith, new-state)),
        by-trace [] (none-filtered service tei (notes_of a) (others-silent service tei c e l s x.aims (inl (is-off l.management.places tei off)))),
      )

      on-says : (there : ℕ) → place_in l' tei ≡ Some there → Says r a []
      on-says there still = by-trace [] (none-filtered service tei (notes_of a) (others-silent service tei c e l s x.aims (inr (on-line l' tei there still))))

      left-says : (place : ℕ) → place_in l tei ≡ Some place → place_in l' tei ≡ None → Asks k.state none_wanted k.asked k.owed
          → Says r a (News r (due service tei [] none_wanted false false false false (state_number k.state) 4))
      left-says place on off asks = by-trace _ (leaving-due service tei c e l s place on (is-off l'.management.places tei off) none_wanted false asks)

      -- in state 4 and in state 6 nothing is kept for layer 3
      none-asks : (here : State) → k.state ≡ here → Asks here none_wanted k.asked k.owed → Asks k.state none_wanted k.asked k.owed
      none-asks here is = subst (λ here. Asks here none_wanted k.asked k.owed) (sym is)

      none-six : k.state ≡ AwaitingRelease → Six Cause r k' a
      none-six is = go (place_in l tei) refl (place_in l' tei) refl
        where
          go : (o : Option ℕ) → place_in l tei ≡ o → (p : Option ℕ) → place_in l' tei ≡ p → Six Cause r k' a
          go None off p q = let wrong : TeiAssigned ≡ AwaitingRelease = sym (ap (λ (y : Link). y.state) (off-fresh service tei l off)) ∙ is in absurd (cc wrong)
          go (Some place) on (Some there) still =
              inl (ap (λ (y : Link). y.state) (x.stays (on-line l tei place on) (on-line l' tei there still)) ∙ is, on-says there still)
          go (Some place) on None off =
              inr (
                new-state (off-fresh service tei l' off),
                inl (
                  subst (Says r a) (ap (λ here. News r (due service tei [] none_wanted false false false false (state_number here) 4)) is ∙ confirm-is) (left-says place on off (none-asks AwaitingRelease is tt)),
                  λ none. true≢false (sym none.stays ∙ is-off l'.management.places tei off),
                ),
              )
            where
              confirm-is : News r Confirm ≡ Confirm
              confirm-is = rw (own-is service tei) refl

      none-four : k.state ≡ TeiAssigned → Four r k' a
      none-four is = go (place_in l tei) refl (place_in l' tei) refl
        where
          go : (o : Option ℕ) → place_in l tei ≡ o → (p : Option ℕ) → place_in l' tei ≡ p → Four r k' a
          go None off p q = off-says off
          go (Some place) on (Some there) still = grind (arith, on-line, on-says)
          go (Some place) on None off =
              let asks = none-asks TeiAssigned is tt in
              grind (arith, new-state, off-fresh, left-says, asks)

    -- an event of it
    module _ (x : HasOne c service tei e l l' a) where
      state-is : k'.state ≡ (after Own x.event k).state
      state-is = ap (λ (y : Link). y.state) x.is

      unconfirmed : (ev : LinkEvent) → IsBy c e a service tei ev → ConfirmsAt ev → Cause
      unconfirmed (received (link_frame f)) by h = λ none. by-ui c service tei ranged l s e Speaks Unconfirming ui-unconfirming speaks-unconfirming none.heard f by h
      unconfirmed cleared by h = absurd by
      unconfirmed other by h = absurd h

      one-six : k.state ≡ AwaitingRelease → Six Cause r k' a
      one-six is = grind (arith, in-6, state-is, by-notes, unconfirmed)

      -- whatever calls it here is seen to
      rung : (ev : LinkEvent) → IsBy c e a service tei ev → rings Own ev ≡ true → brings is_plain_dm c service tei e ≡ true
      rung (received (link_frame f)) by is =
          let own : is_for service tei f.address ≡ true = grind (arith, sapi-is, eq-eqb) in
          ap (brings is_plain_dm c service tei) by.by
          ∙ ap (λ o. option_map_or (λ (f : Parts). is_plain_dm f.control) (its_frame service tei (result_ok o)) false) by.read
          ∙ ap (λ b. option_map_or (λ (f : Parts). is_plain_dm f.control) (cond b (Some f) None) false) own ∙ is
      rung other by is = absurd (true≢false (sym is))

      in-four : k.state ≡ TeiAssigned → state_of service tei l ≡ Some 4
      in-four is = grind arith

      both : (p q r : Bool) → p ≡ true → (r ≡ true → q ≡ true) → (p && q) ≡ false → r ≡ false
      both p q r x y none = grind arith

      unrung : (r : Reading) → k.state ≡ TeiAssigned → NoCall r Called → NoCall r (rings Own x.event)
      unrung h is none = grind (arith, both, rings, in-four, rung)

      one-four : Quietly → NoCall r Called → k.state ≡ TeiAssigned → Four r k' a
      one-four quiet none is = go (in-4 Own k is x.event (grind (arith, own-is)) (unrung r is none))
        where
          go : Begins Own (told Own x.event k).notes ⊎ In4 Own (told Own x.event k).notes (after Own x.event k).state → Four r k' a
          go o = grind (arith, noted-begins, fits, state-is, by-notes)

    -- its deactivation
    module _ (x : IsGivenUp c service tei e l l' a) where
      ended-six : k.state ≡ AwaitingRelease → Six Cause r k' a
      ended-six is = grind (arith, in-6, In6, ConfirmsAt, by-notes, deactivates, own-is)

      ended-four : Quietly → k.state ≡ TeiAssigned → Four r k' a
      ended-four quiet is = grind (arith, in-4, noted-begins, by-notes)

    pub line-six : k.state ≡ AwaitingRelease → Six Cause r k' a
    line-six is = elim (event-goes c e l service tei s) [ inl x ↦ none-six x is | inr (inl x) ↦ one-six x is | inr (inr x) ↦ ended-six x is ]

    pub line-four : Quietly → NoCall r Called → k.state ≡ TeiAssigned → Four r k' a
    line-four quiet none is = elim (event-goes c e l service tei s) [ inl x ↦ none-four x is | inr (inl x) ↦ one-four x quiet none is | inr (inr x) ↦ ended-four x quiet is ]

  -- At an endpoint.
  module _ (s : Endpoint) (well : IsWell s) (e : Event) where
    abbrev conf : Config
    conf = s.card.config

    abbrev here : Line
    here = line_at s.line s.card

    now : get_or (set s.card.lines s.line (lines.after conf e here)) s.line (fresh_line conf) ≡ lines.after conf e here
    now = get_or-set_same s.card.lines s.line (lines.after conf e here) (fresh_line conf) (omega (arith, well.sound.count, well.within))

    sound : line_sound.IsSound conf here
    sound = sound_line s.card s.line (has_lines s.card well.sound) well.within

    -- what is seen there
    abbrev pub Shows : Answer → List Note → Type 0
    Shows a ns = (news conf.reading service tei (seen e a) ≡ ns) × (data_noted service tei (seen e a) ≡ [])

    abbrev pub SixAt : Line → Answer → Type 0
    SixAt l a =
        let to = (link_of service tei l).state in
        ((to ≡ AwaitingRelease) × Shows a []) ⊎ ((to ≡ TeiAssigned) × ((Shows a Confirm × (Confirmless conf e l → ⊥)) ⊎ Shows a GivenUp))

    shows : (a : Answer) → Fits e a → (ns : List Note) → Says conf.reading a ns → Shows a ns
    shows a f ns x = ((grind (arith, append-nil)) ∙ x.news, noted-is service tei e a f ∙ x.no_data)

    six-shows : (l : Line) (a : Answer) → Fits e a → Six (Confirmless conf e l → ⊥) conf.reading (link_of service tei l) a → SixAt l a
    six-shows l a f o = grind (arith, shows)

    pub endpoint-six : (link_here service tei s).state ≡ AwaitingRelease → SixAt (line_of (happens e s)) (answered e s)
    endpoint-six is =
        by_room (λ ls a. SixAt (get_or ls s.line (fresh_line conf)) a) (at s.line e) s.card
        (λ full. inl (is, (none-news conf.reading e PoolFull, none-noted service tei e PoolFull)))
        (λ room. subst (λ x. SixAt x (lines.answer conf e here)) (sym now)
        (six-shows (lines.after conf e here) (lines.answer conf e here) (fits conf e here) (line-six conf well.sound.config here sound e is)))

    pub endpoint-four : BeginsNothing service tei (seen e (answered e s)) → NoCall conf.reading (is_called service tei s e) → (link_here service tei s).state ≡ TeiAssigned
        → ((link_here service tei (happens e s)).state ≡ TeiAssigned) × Shows (answered e s) []
    endpoint-four =
        by_room (λ ls a. BeginsNothing service tei (seen e a) → NoCall conf.reading (is_called service tei s e) → (link_here service tei s).state ≡ TeiAssigned
        → ((link_of service tei (get_or ls s.line (fresh_line conf))).state ≡ TeiAssigned) × Shows a []) (at s.line e) s.card
        (λ full quiet none is. (is, (none-news conf.reading e PoolFull, none-noted service tei e PoolFull)))
        (λ room quiet none is.
        let x = line-four conf well.sound.config here sound e quiet none is in
        subst (λ y. ((link_of service tei y).state ≡ TeiAssigned) × Shows (lines.answer conf e here) []) (sym now) (x.0, shows (lines.answer conf e here) (fits conf e here) [] x.1))
