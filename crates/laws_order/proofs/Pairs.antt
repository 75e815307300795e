-- Two cards whose links face each other: what each thing that happens makes of the two ends.
use Rattle.laws_order.proofs.Vocabulary.{◌≡◌, ℕ, ◌<◌, ◌==◌, ◌&&◌, not, Bool, true, false, cond, IsTrue, List, [], ◌∷◌, ◌++◌, map, get_or, set, Option, Some, None, IfSome, refl, sym, ap, ◌∙◌, subst, arith, append-nil, eq-eqb, true≢false, inl, inr, All, option_to_list, unwrap_or, list_any, option_map_or, get_or-set_same, All-nil, All-cons, All-head, PoolFull, Service, Parts, sapi_of}
use Rattle.laws_order.proofs.Vocabulary.{reading-again, place_of-is, Terms, LinkTimer, Link, is_multiple_frame, frame_of, Given, LinkEndpoint, with_link, with_sent, frame_given, frames_of, given_is_frame, Joined, done-at, Means, Rising, Config, Line, fresh_line, link_in, link_of, place_in, terms, sound_in, terms_in_range, line_at, has_lines, by_room, accepted, Seen, seen, is_ui}
use Rattle.laws_order.proofs.Vocabulary.{offer-tells_nothing, frames_given, Endpoint, Wire, answered, happens, frames_by, flat_map-append, fresh, Event, at, is_of_link, of_link_in, of_link_at, data_noted, data_granted, ends_by, of_link_on, line_of, is_some, Refusal, State, TimerRecovery, Release, SetBusy, ClearBusy, received, expired, requested, offer, Course, Up, still, set_busy_up}
use Rattle.laws_order.proofs.Vocabulary.{clear_busy_up, at-first}
use Rattle.laws_order.proofs.Vocabulary.{offer-gave, frame-taken, after, begun, contents_asked, LinkEvent, LinkRequest, told, link_given, own_side, heard_side}
use Rattle.model_link.specs.Sound as link_sound
use Rattle.model_link.specs.TwoEnds as two
use Rattle.model_line.specs.Machine as lines
use Rattle.model_line.specs.Taken as taken
use Rattle.model_card.specs.Sound as card_sound
use Rattle.model_card.proofs.Steps.{line_sound as line_sound_at}
use Rattle.laws_order.proofs.Does.{Has, LeavesIt, Does, line-does}
use Rattle.laws_order.proofs.Shown.{none-noted, none-granted}
use Rattle.model_link.specs.declared.states.State.TheVariants.{Established}
use Rattle.model_link.specs.Events.{Request, Establish, Data, frame}
use Rattle.model_link.specs.Requests
use Rattle.model_link.specs.Sound.{IsInRange, IsSound}
use Rattle.laws_wire.proofs.Joint as joint

module _ (t : Terms) (l : Link) where
  abbrev Grows : List (List ℕ) → Course → Type 0
  Grows more c = (c.link.contents ≡ l.contents ++ more) × (c.link.r ≡ l.r)

  by-up : (c : Course) → Up l l.a l.r c → IsTrue (is_multiple_frame c.link.state) → Grows [] c
  by-up c h up = ((h.stay up).same ∙ sym (append-nil l.contents), (h.stay up).received)

  -- a request
  released : (here : State) → IsTrue (is_multiple_frame here) → IsTrue (is_multiple_frame (Requests.release_in here t (begun l)).link.state) → ⊥
  released here was up = grind arith

  opened : (here : State) → IsTrue (is_multiple_frame here) → Grows [] (Requests.establish_in here t (begun l))
  opened Established was = (sym (append-nil l.contents), refl)
  opened TimerRecovery was = (sym (append-nil l.contents), refl)
  opened other was = absurd (true≢false (sym was))

  granted : IsTrue (is_multiple_frame l.state) → (request : Request) → IsTrue (is_multiple_frame (Requests.granted t request (begun l)).link.state)
      → Grows (contents_asked request) (Requests.granted t request (begun l))
  granted was Establish up = opened l.state was
  granted was Release up = absurd (released l.state was up)
  granted was (Data octets) up = (refl, refl)
  granted was SetBusy up = by-up _ ((set_busy_up t l {S = still l.s}).leads (begun l) (at-first t l)) up
  granted was ClearBusy up = by-up _ ((clear_busy_up t l {S = still l.s}).leads (begun l) (at-first t l)) up

  asked : IsTrue (is_multiple_frame l.state) → (request : Request) (o : Option Refusal)
      → IsTrue (is_multiple_frame (elim o as (λ o. Course) [ None ↦ Requests.granted t request (begun l) | Some _ ↦ begun l ]).link.state)
      → Grows (cond (is_some o) [] (contents_asked request)) (elim o as (λ o. Course) [ None ↦ Requests.granted t request (begun l) | Some _ ↦ begun l ])
  asked was request o up = grind (arith, granted, append-nil)

  pub request-grows : IsTrue (is_multiple_frame l.state) → (request : Request) (full : Bool) → IsTrue (is_multiple_frame (after t (requested request full) l).state)
      → ((after t (requested request full) l).contents ≡ l.contents ++ accepted t (requested request full) l) × ((after t (requested request full) l).r ≡ l.r)
  request-grows was request full up = asked was request (Requests.refusal t l full request) up

  -- a timer
  pub timer-same : IsTrue (is_multiple_frame l.state) → (timer : LinkTimer) → IsTrue (is_multiple_frame (after t (expired timer) l).state)
      → ((after t (expired timer) l).contents ≡ l.contents) × ((after t (expired timer) l).r ≡ l.r)
  timer-same was timer up = let x = joint.timer-goes t l was timer up in (x.same ∙ append-nil l.contents, x.received)

  -- an offer
  pub offer-same : IsInRange t → IsSound t l → ((after t offer l).contents ≡ l.contents) × ((after t offer l).r ≡ l.r)
  offer-same ranges sound = let x = offer-gave t ranges l sound l.waiting refl in (x.same, x.received)

  -- a frame of a link that faces it
  pub frame-same : IsTrue (is_multiple_frame l.state) → (f : Parts) (m : ℕ) → Means m f.control → IsTrue (is_multiple_frame (after t (received (frame f)) l).state)
      → (after t (received (frame f)) l).contents ≡ l.contents
  frame-same was f m means up = let stay = ((frame-taken t l was f.address.command f.info m f.control means).took.by.stay up).2 in stay.same

-- The link at an end.
abbrev pub link_here : Service → ℕ → Endpoint → Link
link_here service tei s = link_of service tei (line_of s)

-- What goes between two links that face each other is no unit data.
abbrev pub IsPlain : Parts → Type 0
IsPlain f = is_ui f.control ≡ false

amid : (xs ys zs : List Parts) (a r : ℕ) → Rising a r ((xs ++ ys) ++ zs) → All IsPlain ys
amid [] [] zs a r h = All-nil IsPlain
amid [] (y ∷ ys) zs a r (m, up, means, h) = All-cons IsPlain y ys (grind arith) (amid [] ys zs m r h)
amid (x ∷ xs) ys zs a r (m, up, means, h) = amid xs ys zs m r h

-- The frame that an offer gives is one of the link.
module _ (c : Config) (service : Service) (tei : ℕ) where
  pub given-again : (o : Option Given) → IfSome o (λ g. link_sound.IsGiven (terms c service tei) g.frame g.contents) → All IsPlain (frame_given (terms c service tei) o)
      → of_link_on service tei (own_side c) (map (taken.frame_of c (terms c service tei)) (option_to_list o)) ≡ frame_given (terms c service tei) o
  given-again None whole plain = refl
  given-again (Some g) whole plain =
      let f : Parts = record (frame_of (terms c service tei) g.frame) { info = unwrap_or g.contents [] } in
      let its : is_of_link service tei f ≡ true =
      ap (λ b. (b && tei == tei) && not (is_ui f.control)) (eq-eqb (sapi_of service) (sapi_of service) refl)
      ∙ ap (λ b. b && not (is_ui f.control)) (eq-eqb tei tei refl) ∙ ap not (All-head IsPlain f [] plain) in
      append-nil (of_link_at service tei (own_side c) (taken.frame_of c (terms c service tei) g))
      ∙ ap (of_link_in service tei) (reading-again (own_side c) f (taken.frame_of c (terms c service tei) g) (record { is_frame = whole.whole; octets_are = refl }))
      ∙ ap (λ b. cond {A = List Parts} b (f ∷ []) []) its

pub record IsWell (s : Endpoint) : Type 0 where
  pub sound : card_sound.IsSound s.card
  pub within : s.line < s.card.config.lines

-- A link in state 7 or 8 at a sound line is one of a TEI that is there, so it is sound.
module _ (service : Service) (tei : ℕ) (s : Endpoint) (well : IsWell s) where
  abbrev its : Terms
  its = terms s.card.config service tei

  pub record IsProper : Type 0 where
    pub ranges : link_sound.IsInRange its
    pub sound : link_sound.IsSound its (link_here service tei s)

  pub proper : IsTrue (is_multiple_frame (link_here service tei s).state) → IsProper
  proper up = go (place_in (line_at s.line s.card) tei) refl up
    where
      go : (o : Option ℕ) → place_in (line_at s.line s.card) tei ≡ o
          → IsTrue (is_multiple_frame (option_map_or (link_in (line_at s.line s.card) service) o fresh).state) → IsProper
      go None e up = absurd (true≢false (sym up))
      go (Some place) e up =
          let at = (place_of-is (line_at s.line s.card).management.places tei place e).1 in
          record {
            ranges = terms_in_range s.card.config well.sound.config service tei ((line_sound_at s.card s.line (has_lines s.card well.sound) well.within).management.table.range place tei at);
            sound =
                subst (link_sound.IsSound its) (sym (ap (λ o. option_map_or (link_in (line_at s.line s.card) service) o fresh) e))
                (sound_in s.card.config well.sound.config (line_at s.line s.card) (line_sound_at s.card s.line (has_lines s.card well.sound) well.within) service tei place at);
          }

module _ (service : Service) (tei : ℕ) where
  abbrev pub way_here : Endpoint → List Parts
  way_here s = of_link_on service tei (own_side s.card.config) s.way

  -- The end of the two links that an endpoint is, of which this was delivered.
  abbrev pub facing : Endpoint → List (List ℕ) → LinkEndpoint
  facing s delivered = record { terms = terms s.card.config service tei; link = link_here service tei s; way = way_here s; delivered = delivered }

  pub record Pair (w : Wire) (dn dm : List (List ℕ)) : Type 0 where
    pub near : IsWell w.near
    pub far : IsWell w.far
    pub sides : own_side w.far.card.config ≡ heard_side w.near.card.config
    pub joined : Joined (facing w.near dn) (facing w.far dm)

  -- What something that happens at the near end makes of them, and what is seen there.
  pub record Led (w w' : Wire) (dn dm : List (List ℕ)) (t : List Seen) : Type 0 where
    pub pair : Pair w' (dn ++ data_noted service tei t) dm
    pub granted : (link_here service tei w'.near).contents ≡ (link_here service tei w.near).contents ++ data_granted service tei t
    pub other : link_here service tei w'.far ≡ link_here service tei w.far

  -- It ends the establishment at the near end, and leaves its link in state 4, 5 or 6.
  abbrev pub Falls : Wire → List Seen → Type 0
  Falls w' t = (list_any (ends_by service tei) t ≡ true) × (is_multiple_frame (link_here service tei w'.near).state ≡ false)

  -- What an event is to the link, at an endpoint.
  module _ (s : Endpoint) (well : IsWell s) (up : IsTrue (is_multiple_frame (link_here service tei s).state)) (e : Event) where
    abbrev c : Config
    c = s.card.config

    abbrev k : Link
    k = link_here service tei s

    abbrev l : Line
    l = line_at s.line s.card

    now : get_or (set s.card.lines s.line (lines.after c e l)) s.line (fresh_line c) ≡ lines.after c e l
    now = get_or-set_same s.card.lines s.line (lines.after c e l) (fresh_line c) (omega (arith, well.sound.count, well.within))

    pub endpoint-does : Does c service tei k (link_here service tei (happens e s)) e (answered e s)
    endpoint-does =
        by_room (λ ls a. Does c service tei k (link_of service tei (get_or ls s.line (fresh_line c))) e a) (at s.line e) s.card
        (λ full. inr (inl (record { is = refl; noted = none-noted service tei e PoolFull; granted = none-granted service tei e PoolFull; frames = refl })))
        (λ room. subst (λ x. Does c service tei k (link_of service tei x) e (lines.answer c e l)) (sym now)
        (line-does c service tei well.sound.config l (line_sound_at s.card s.line (has_lines s.card well.sound) well.within) e up))

    way-then : way_here (happens e s) ≡ way_here s ++ of_link_on service tei (own_side c) (frames_by (answered e s))
    way-then = flat_map-append (of_link_at service tei (own_side c)) s.way (frames_by (answered e s))

    abbrev t : List Seen
    t = seen e (answered e s)

    -- the new end, from its parts
    same-end : (dn : List (List ℕ)) (x : Link) (way : List Parts) (ds : List (List ℕ)) → link_here service tei (happens e s) ≡ x → way_here (happens e s) ≡ way
        → dn ++ data_noted service tei t ≡ ds → facing (happens e s) (dn ++ data_noted service tei t) ≡ record (facing s dn) { link = x; way = way; delivered = ds }
    same-end dn x way ds a b d = λ i. record { terms = terms c service tei; link = a i; way = b i; delivered = d i }

    abbrev Still : List (List ℕ) → LinkEndpoint → Type 0
    Still dn m = Joined (facing (happens e s) (dn ++ data_noted service tei t)) m

    abbrev Granted : Type 0
    Granted = (link_here service tei (happens e s)).contents ≡ k.contents ++ data_granted service tei t

    -- it leaves the link
    pub leaves-still : (dn : List (List ℕ)) (m : LinkEndpoint) → LeavesIt c service tei k (link_here service tei (happens e s)) e (answered e s) → Joined (facing s dn) m → Still dn m
    leaves-still dn m x h = grind (arith, same-end, way-then, append-nil)

    pub leaves-granted : LeavesIt c service tei k (link_here service tei (happens e s)) e (answered e s) → Granted
    leaves-granted x = ap (λ (y : Link). y.contents) x.is ∙ sym (ap (λ cs. k.contents ++ cs) x.granted ∙ append-nil k.contents)

    abbrev Own : Terms
    Own = terms c service tei

    -- it is an event of the link
    module _ (x : Has c service tei k (link_here service tei (happens e s)) e (answered e s)) where
      up-then : IsTrue (is_multiple_frame (after Own x.event k).state)
      up-then = subst (λ (y : Link). IsTrue (is_multiple_frame y.state)) x.is x.up

      -- that gives no frame
      pub linked : (dn : List (List ℕ)) (m : LinkEndpoint) (ev : LinkEvent) → x.event ≡ ev → frames_given c Own ev k ≡ [] → Joined (with_link ev (facing s dn)) m → Still dn m
      linked dn m ev is none h = grind (arith, same-end, option_to_list, way-then, frames_given, append-nil)

      pub granted-by : (ev : LinkEvent) → x.event ≡ ev → (after Own ev k).contents ≡ k.contents ++ accepted Own ev k → Granted
      granted-by ev is h = grind arith

      pub up-by : (ev : LinkEvent) → x.event ≡ ev → IsTrue (is_multiple_frame (after Own ev k).state)
      up-by ev is = subst (λ ev. IsTrue (is_multiple_frame (after Own ev k).state)) is up-then

      pub expired-still : (dn : List (List ℕ)) (m : LinkEndpoint) → Joined (facing s dn) m → (timer : LinkTimer) → x.event ≡ expired timer → Still dn m × Granted
      expired-still dn m h timer is =
          let ev = expired timer in
          let up' = up-by ev is in (
            linked dn m ev is refl (done-at (two.at_near (two.expires timer)) (record { near = facing s dn; far = m }) (up', h.far_up) h),
            granted-by ev is ((timer-same Own k up timer up').0 ∙ sym (append-nil k.contents)),
          )

      pub asked-still : (dn : List (List ℕ)) (m : LinkEndpoint) → Joined (facing s dn) m → (asked : LinkRequest) (full : Bool) → x.event ≡ requested asked full → Still dn m × Granted
      asked-still dn m h asked full is =
          let ev = requested asked full in
          let up' = up-by ev is in (
            linked dn m ev is refl (done-at (two.at_near (two.requests asked full)) (record { near = facing s dn; far = m }) (up', h.far_up) h),
            granted-by ev is (request-grows Own k up asked full up').0,
          )

      pub offer-still : (dn : List (List ℕ)) (m : LinkEndpoint) → Joined (facing s dn) m → x.event ≡ offer → Still dn m × Granted
      offer-still dn m h is =
          let ev = offer in
          let given = link_given Own k in
          let sent : Joined (with_sent (facing s dn)) m = done-at (two.at_near two.sends) (record { near = facing s dn; far = m }) ((up-by ev is), h.far_up) h in
          let plain : All IsPlain (frame_given Own given) =
          amid (way_here s) (frame_given Own given) (frames_of Own (after Own ev k).waiting) m.link.a (after Own ev k).r sent.back.rising in
          let again = given-again c service tei given (given_is_frame Own h.near_ranges k h.near_sound) plain in (
            subst (λ n. Joined n m)
                (sym (same-end dn (after Own ev k) (way_here s ++ frame_given Own given) dn
                (x.is ∙ ap (λ ev. after Own ev k) is)
                (way-then ∙ ap (λ fs. way_here s ++ of_link_on service tei (own_side c) fs) (x.frames ∙ ap (λ ev. frames_given c Own ev k) is) ∙ ap (λ fs. way_here s ++ fs) again)
                (ap (λ ds. dn ++ ds) (x.noted ∙ ap (λ ev. option_to_list (told Own ev k).delivered) is ∙ ap option_to_list (offer-tells_nothing Own k).1) ∙ append-nil dn))) sent,
            granted-by ev is ((offer-same Own k h.near_ranges h.near_sound).0 ∙ sym (append-nil k.contents)),
          )
