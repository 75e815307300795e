-- The line from an endpoint: the frames of the link that are on their way, and then those that wait; and what an event adds to it, in any
-- state of the link.
use Rattle.laws_order.proofs.Vocabulary.{◌≡◌, ℕ, ◌==◌, ◌&&◌, not, Bool, true, false, cond, IsTrue, List, [], ◌∷◌, ◌++◌, get_or, set, refl, sym, ap, ◌∙◌, subst, arith, append-nil, append_assoc, eq-eqb, ◌⊎◌, inl, inr, All, option_map_or, get_or-set_same, All-nil, All-cons, Seq, Control, Information, Service, Parts, sapi_of, place_of-is, Terms, Link, is_multiple_frame, frame_given, frames_of}
use Rattle.laws_order.proofs.Vocabulary.{frames-append, given_is_frame, Config, hears, Answer, heard_side, Line, fresh_line, link_in, link_of, terms, sound_in, terms_in_range, line_at, has_lines, by_room, event-follows, IsBy, sapi-is, is_for, is_ui, frames_given, Goes, event-goes, Endpoint, answered, happens, frames_by, flat_map-append, fresh, Event, at, is_of_link, of_link_in, of_link_at}
use Rattle.laws_order.proofs.Vocabulary.{of_link_on, stream_frame, link_frame, LinkEvent, cleared, offer, received, after, link_given, own_side}
use Rattle.model_link.specs.Sound as link_sound
use Rattle.model_line.specs.Machine as lines
use Rattle.model_line.specs.Sound as line_sound
use Rattle.model_card.proofs.Steps.{line_sound as sound_line}
use Rattle.laws_order.proofs.Does.{all-foreign}
use Rattle.laws_order.proofs.Down.{Unheeded, UnheededAt, stays-down}
use Rattle.laws_order.proofs.Pairs.{link_here, IsPlain, IsWell, given-again, way_here}
use Rattle.laws_order.proofs.Putting.{Each, Answered, AnsweredAt, Awaited, Reporting, each-append, each-front, each-frames, waits-more, IsPut, offers}
use Rattle.laws_order.proofs.Shown.{same-frames}

pub record Grown (P : Control → Type 0) (line line' : List Parts) : Type 0 where
  pub news : List Parts
  pub is : line' ≡ line ++ news
  pub are : Each P news

-- No unit data.
abbrev pub NotUi : Control → Type 0
NotUi control = is_ui control ≡ false

plain-all : (fs : List Parts) → Each NotUi fs → All IsPlain fs
plain-all [] h = All-nil IsPlain
plain-all (f ∷ fs) h = All-cons IsPlain f fs h.0 (plain-all fs h.1)

pub each-as : (P Q : Control → Type 0) → ((control : Control) → P control → Q control) → (fs : List Parts) → Each P fs → Each Q fs
each-as P Q x [] h = tt
each-as P Q x (f ∷ fs) h = (x f.control h.0, each-as P Q x fs h.1)

ui-unheeded : (control : Control) → is_ui control ≡ true → Unheeded control
ui-unheeded control is = grind arith

module _ (c : Config) (service : Service) (tei : ℕ) where
  abbrev Own : Terms
  Own = terms c service tei

  abbrev Ours : List (List ℕ) → List Parts
  Ours frames = of_link_on service tei (own_side c) frames

  abbrev line_on : List Parts → Link → List Parts
  line_on way k = way ++ frames_of Own k.waiting

  -- Of each frame of the link that an event of the line brings.
  abbrev pub HeardIs : (Control → Type 0) → Event → Type 0
  HeardIs Q e = (octets : List ℕ) (f : Parts) → e ≡ hears (stream_frame octets) → of_link_at service tei (heard_side c) octets ≡ f ∷ [] → Q f.control

  -- One event of the link.
  module _ (P : Control → Type 0) (reports : Reporting P) (plain : (control : Control) → P control → NotUi control) where
    module _ (way : List Parts) (k k' : Link) (frames : List (List ℕ)) where
      abbrev Grows : Type 0
      Grows = Grown P (line_on way k) (line_on (way ++ Ours frames) k')

      put-grows : (ev : LinkEvent) → k' ≡ after Own ev k → frames ≡ [] → IsPut P reports k Own ev → AnsweredAt P ev → Awaited P k'.state → Grows
      put-grows ev is none put answer await =
          let g = waits-more P reports k Own ev put answer (subst (λ (y : Link). Awaited P y.state) is await) in
          grind (arith, frames_of, append-nil, frames-append, append_assoc, each-frames)

      offer-grows : link_sound.IsInRange Own → link_sound.IsSound Own k → k' ≡ after Own offer k → frames ≡ frames_given c Own offer k
          → (IsTrue (is_multiple_frame k.state) → (ns nr : Seq) (p : Bool) → P (Information ns nr p)) → Each NotUi (frames_of Own k.waiting) → Grows
      offer-grows ranges sound is given says waits =
          let g = offers P reports k Own says in
          let news = frame_given Own (link_given Own k) in
          let all = each-front NotUi news (frames_of Own (after Own offer k).waiting)
          (subst (Each NotUi) (sym (g.line [])) (each-append NotUi (frames_of Own k.waiting) g.news waits (each-as P NotUi plain g.news g.are))) in
          let again = given-again c service tei (link_given Own k) (given_is_frame Own ranges k sound) (plain-all news all) in
          grind arith

      pub event-grows : (ev : LinkEvent) → (ev ≡ cleared → ⊥) → k' ≡ after Own ev k → frames ≡ frames_given c Own ev k
          → link_sound.IsInRange Own → link_sound.IsSound Own k → AnsweredAt P ev → Awaited P k'.state
          → (IsTrue (is_multiple_frame k'.state) → (ns nr : Seq) (p : Bool) → P (Information ns nr p)) → Each NotUi (frames_of Own k.waiting) → Grows
      event-grows o x is given ranges sound answer await says waits = grind (arith, offer-grows, event-follows, offer, put-grows)

  -- Any event of the line.
  module _ (ranged : line_sound.IsInRange c) (l : Line) (s : line_sound.IsSound c l) (e : Event) where
    abbrev a : Answer
    a = lines.answer c e l

    abbrev k : Link
    k = link_of service tei l

    abbrev k' : Link
    k' = link_of service tei (lines.after c e l)

    pub by-ui : (Q R : Control → Type 0) → ((control : Control) → is_ui control ≡ true → R control) → ((control : Control) → Q control → R control) → HeardIs Q e
        → (f : Parts) → IsBy c e a service tei (received (link_frame f)) → R f.control
    by-ui Q R ui so heard f by = go (is_ui f.control) refl
      where
        go : (b : Bool) → is_ui f.control ≡ b → R f.control
        go true is = ui f.control is
        go false is =
            let for-it : is_for service tei f.address ≡ true =
            ap (λ b. b && f.address.tei == tei) (eq-eqb f.address.sapi (sapi_of service) (sapi-is f.address.sapi service by.sapi)) ∙ eq-eqb f.address.tei tei by.tei_is in
            let its : is_of_link service tei f ≡ true = ap (λ b. b && not (is_ui f.control)) for-it ∙ ap not is in
            so f.control (heard by.octets f by.by (ap (of_link_in service tei) by.read ∙ ap (λ b. cond {A = List Parts} b (f ∷ []) []) its))

    itself : (Q : Control → Type 0) (control : Control) → Q control → Q control
    itself Q control h = h

    unheeded : HeardIs Unheeded e → (ev : LinkEvent) → IsBy c e a service tei ev → UnheededAt ev
    unheeded heard (received (link_frame f)) by = by-ui Unheeded Unheeded ui-unheeded (itself Unheeded) heard f by
    unheeded heard other by = tt

    pub line-down : is_multiple_frame k.state ≡ false → HeardIs Unheeded e → is_multiple_frame k'.state ≡ false
    line-down down heard = grind (arith, stays-down, unheeded, event-goes c e l service tei s)

    module _ (P : Control → Type 0) (reports : Reporting P) (plain : (control : Control) → P control → NotUi control) (way : List Parts) where
      abbrev Goes-on : Type 0
      Goes-on = Grown P (line_on way k) (line_on (way ++ Ours (frames_by a)) k') ⊎ (line_on (way ++ Ours (frames_by a)) k' ≡ way)

      answers : HeardIs (Answered P) e → (ev : LinkEvent) → IsBy c e a service tei ev → AnsweredAt P ev
      answers heard (received (link_frame f)) by =
          by-ui (Answered P) (Answered P) (λ control is. grind arith) (itself (Answered P)) heard f by
      answers heard other by = tt

      none-cleared : (ev : LinkEvent) → IsBy c e a service tei ev → ev ≡ cleared → ⊥
      none-cleared ev by is = subst (IsBy c e a service tei) is by

      pub line-goes : HeardIs (Answered P) e → Awaited P k'.state → (IsTrue (is_multiple_frame k'.state) → (ns nr : Seq) (p : Bool) → P (Information ns nr p))
          → Each NotUi (frames_of Own k.waiting) → Goes-on
      line-goes heard await says waits = go (event-goes c e l service tei s)
        where
          go : Goes c service tei e l (lines.after c e l) a → Goes-on
          go (inl x) = either x.is
            where
              none : Ours (frames_by a) ≡ []
              none = ap Ours (same-frames a) ∙ all-foreign c service tei _ x.begins

              either : (k' ≡ k) ⊎ (k' ≡ fresh) → Goes-on
              either o = grind (arith, frames_of, append-nil, none)
          go (inr (inl x)) =
              let at = (place_of-is l.management.places tei x.place x.placed).1 in
              let sound = subst (link_sound.IsSound Own) (sym (ap (λ o. option_map_or (link_in l service) o fresh) x.placed)) (sound_in c ranged l s service tei x.place at) in
              inl (event-grows P reports plain way k k' (frames_by a) x.event (none-cleared x.event x.by) x.is (same-frames a ∙ x.begins)
              (terms_in_range c ranged service tei (s.management.table.range x.place tei at)) sound (answers heard x.event x.by) await says waits)
          go (inr (inr x)) = inr (grind (arith, frames_of, append-nil))

module _ (service : Service) (tei : ℕ) where
  abbrev pub on_line : Endpoint → List Parts
  on_line s = way_here service tei s ++ frames_of (terms s.card.config service tei) (link_here service tei s).waiting

  -- An event at an endpoint.
  module _ (s : Endpoint) (well : IsWell s) (e : Event) where
    abbrev c : Config
    c = s.card.config

    abbrev l : Line
    l = line_at s.line s.card

    now : get_or (set s.card.lines s.line (lines.after c e l)) s.line (fresh_line c) ≡ lines.after c e l
    now = get_or-set_same s.card.lines s.line (lines.after c e l) (fresh_line c) (omega (arith, well.sound.count, well.within))

    sound : line_sound.IsSound c l
    sound = sound_line s.card s.line (has_lines s.card well.sound) well.within

    pub endpoint-down : is_multiple_frame (link_here service tei s).state ≡ false → HeardIs c service tei Unheeded e
        → is_multiple_frame (link_here service tei (happens e s)).state ≡ false
    endpoint-down down heard =
        by_room (λ ls a. is_multiple_frame (link_of service tei (get_or ls s.line (fresh_line c))).state ≡ false) (at s.line e) s.card (λ full. down)
        (λ room. ap (λ x. is_multiple_frame (link_of service tei x).state) now ∙ line-down c service tei well.sound.config l sound e down heard)

    module _ (P : Control → Type 0) (reports : Reporting P) (plain : (control : Control) → P control → NotUi control) where
      abbrev pub Speaking-on : Type 0
      Speaking-on = Grown P (on_line s) (on_line (happens e s)) ⊎ (on_line (happens e s) ≡ way_here service tei s)

      way-then : way_here service tei (happens e s) ≡ way_here service tei s ++ of_link_on service tei (own_side c) (frames_by (answered e s))
      way-then = flat_map-append (of_link_at service tei (own_side c)) s.way (frames_by (answered e s))

      abbrev At : Link → Answer → Type 0
      At x a =
          let line = (way_here service tei s ++ of_link_on service tei (own_side c) (frames_by a)) ++ frames_of (terms c service tei) x.waiting in
          Grown P (on_line s) line ⊎ (line ≡ way_here service tei s)

      pub endpoint-goes : HeardIs c service tei (Answered P) e → Awaited P (link_here service tei (happens e s)).state
          → (IsTrue (is_multiple_frame (link_here service tei (happens e s)).state) → (ns nr : Seq) (p : Bool) → P (Information ns nr p))
          → Each NotUi (frames_of (terms c service tei) (link_here service tei s).waiting) → Speaking-on
      endpoint-goes heard await says waits =
          subst (λ w. let line = w ++ frames_of (terms c service tei) (link_here service tei (happens e s)).waiting in Grown P (on_line s) line ⊎ (line ≡ way_here service tei s)) (sym way-then)
          (by_room (λ ls a. let x = link_of service tei (get_or ls s.line (fresh_line c)) in
          Awaited P x.state → (IsTrue (is_multiple_frame x.state) → (ns nr : Seq) (p : Bool) → P (Information ns nr p)) → At x a) (at s.line e) s.card
          (λ full await says. inl (grind (arith, frames_of, append-nil)))
          (λ room. subst (λ x. Awaited P (link_of service tei x).state → (IsTrue (is_multiple_frame (link_of service tei x).state) → (ns nr : Seq) (p : Bool) → P (Information ns nr p))
          → At (link_of service tei x) (lines.answer c e l)) (sym now)
          (λ await says. line-goes c service tei well.sound.config l sound e P reports plain (way_here service tei s) heard await says waits)) await says)
