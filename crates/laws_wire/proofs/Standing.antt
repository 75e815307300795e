-- A station at whose line one link alone speaks stands for an end of two links that face each other.
use Rattle.laws_wire.proofs.Vocabulary.{arith, ◌≡◌, ℕ, ◌+◌, ◌<◌, ◌≤◌, Bool, true, false, cond, List, [], ◌++◌, length, map, set, Option, Some, None, IfSome, option_map, Ok, refl, sym, ap, subst, ◌∙◌, ◌⊎◌, inl, inr, append-nil, All, get_or-set_same, set-get_or, map-append, All-nil, All-cons, All-append, Refusal, PoolFull, Service, Timer, Parts, spelling, reading, sapi_of, Terms, LinkTimer}
use Rattle.laws_wire.proofs.Vocabulary.{frame_of, Given, LinkEndpoint, with_link, with_sent, frame_given, given_is_frame, Config, came, hears, expiry, request, next, Answer, refused, gave, at_timer, aim_of_expiry, Line, fresh_line, place_in, link_number, terms, unless_refused, unless_refused_told, of_request, heard_side, with_given_frame, next_of, Request, at_requested, aim_of_request, sound_in}
use Rattle.laws_wire.proofs.Vocabulary.{given_short, terms_in_range, Card, line_at, wants_room, after_is_sound, has_lines, line_sound, Event, Endpoint, answered, happens, frame_comes, told_by, frames_by, contents_requested, line_answer, line_takes_slot, line_after, is_granted, own_side}
use Rattle.std.specs.Option.{unwrap_or}
use Rattle.model_bits.specs.Stream.{frame}
use Rattle.model_link.specs.Events as link
use Rattle.model_link.specs.Machine as links
use Rattle.model_link.specs.Sound as link_sound
use Rattle.model_line.specs.Refusal.{refusal}
use Rattle.model_line.specs.Sound as line_sound
use Rattle.model_card.specs.Event.{at as event_at}
use Rattle.model_card.specs.Machine.{after}
use Rattle.model_card.specs.Sound as card_sound
use Rattle.laws_wire.specs.Wire as wire
use Rattle.laws_wire.proofs.Answered.{gives-taken, takes-way, expires-way, asks-way}
use Rattle.laws_wire.proofs.LineSpeaks.{Speaks, at, takes-own, goes-on, comes-told, comes-on, asks-on, asks-told, expires-on, expires-told}
use Rattle.laws_wire.proofs.Speaking.{said_by}
use Rattle.laws_wire.proofs.Spelled.{Carries, carries}

-- A frame on the way is one of this side's link, and comes as it is.
pub record IsCarried (c : Config) (service : Service) (tei : ℕ) (f : Parts) : Type 0 where
  pub carried : Carries (own_side c) c.n201 f (spelling (own_side c) f)
  pub sapi : f.address.sapi ≡ sapi_of service
  pub by : f.address.tei ≡ tei

pub record StationStands (c : Config) (service : Service) (tei place : ℕ) (s : Endpoint) (n : LinkEndpoint) : Type 0 where
  pub config : s.card.config ≡ c
  pub sound : card_sound.IsSound s.card
  pub within : s.line < c.lines
  pub speaks : Speaks c service tei place n.link (line_at s.line s.card)
  pub terms : n.terms ≡ terms c service tei
  pub way : s.way ≡ map (spelling (own_side c)) n.way
  pub carried : All (IsCarried c service tei) n.way

module _ (service : Service) (tei place : ℕ) (s : Endpoint) (n : LinkEndpoint) (h : StationStands s.card.config service tei place s n) where
  abbrev m : Card
  m = s.card

  abbrev c : Config
  c = m.config

  abbrev l : Line
  l = line_at s.line m

  abbrev t : Terms
  t = terms c service tei

  own-sound : line_sound.IsSound c l
  own-sound = line_sound m s.line (has_lines m h.sound) h.within

  range : tei ≤ 126
  range = own-sound.management.table.range place tei (at c service tei place l own-sound n.link h.speaks)

  pub link-sound : link_sound.IsSound n.terms n.link
  link-sound =
      subst (λ u. link_sound.IsSound u n.link) (sym h.terms)
      (subst (link_sound.IsSound t) h.speaks.link (sound_in c h.sound.config l own-sound service tei place (at c service tei place l own-sound n.link h.speaks)))

  pub link-ranges : link_sound.IsInRange n.terms
  link-ranges = subst link_sound.IsInRange (sym h.terms) (terms_in_range c h.sound.config service tei range)

  -- whatever happens at this line, the card stays sound
  there : (l' : Line) (m' : Card) → m' ≡ record m { lines = set m.lines s.line l' } → line_at s.line m' ≡ l'
  there l' m' is = grind (arith, get_or-set_same)

  -- so it stands for another end
  pub stands-then : (e : Event) (n' : LinkEndpoint) → n'.terms ≡ n.terms → Speaks c service tei place n'.link (line_at s.line (after (event_at s.line e) m))
      → (happens e s).way ≡ map (spelling (own_side c)) n'.way → All (IsCarried c service tei) n'.way → StationStands c service tei place (happens e s) n'
  stands-then e n' same-terms speaks way carried = assumption (after_is_sound m (event_at s.line e) h.sound h.within, speaks, same-terms ∙ h.terms, way, carried)

  -- ---- it gives

  given-carried : (o : Option Given) → IfSome o (λ g. link_sound.IsGiven t g.frame g.contents) → IfSome o (λ g. length (Rattle.model_line.specs.Taken.frame_of c t g) ≤ t.n201 + 4)
      → All (IsCarried c service tei) (frame_given t o)
  given-carried None given short = All-nil (IsCarried c service tei)
  given-carried (Some g) given short =
      let f : Parts = record (frame_of t g.frame) { info = unwrap_or g.contents [] } in
      All-cons (IsCarried c service tei) f [] (record { carried = carries (own_side c) c.n201 f given.whole short; sapi = refl; by = refl })
      (All-nil (IsCarried c service tei))

  gives-own : answered next s ≡ gave (option_map next_of (option_map (with_given_frame c l (link_number place service) t) (links.given t n.link)))
  gives-own = gives-taken s ∙ ap (λ o. gave (option_map next_of o)) (takes-own c service tei place l own-sound n.link h.speaks)

  pub gives-frames : frames_by (answered next s) ≡ map (spelling (own_side c)) (frame_given n.terms (links.given n.terms n.link))
  gives-frames = grind (arith, gives-own)

  pub gives-stands : StationStands c service tei place (happens next s) (with_sent n)
  unfolding line_takes_slot
  gives-stands =
      let sound : link_sound.IsSound t n.link = subst (λ u. link_sound.IsSound u n.link) h.terms link-sound in
      let ranges : link_sound.IsInRange t = subst link_sound.IsInRange h.terms link-ranges in
      let new : All (IsCarried c service tei) (frame_given t (links.given t n.link)) =
      given-carried (links.given t n.link) (given_is_frame t ranges n.link sound) (given_short c t n.link sound) in
      let given = frame_given n.terms (links.given n.terms n.link) in
      stands-then next (with_sent n) refl
      (subst (λ u. Speaks c service tei place (links.after u link.offer n.link) (line_at s.line (after (event_at s.line next) m))) (sym h.terms)
      (subst (Speaks c service tei place (links.after t link.offer n.link)) (sym (there (line_after c next l) (after (event_at s.line next) m) refl))
      (goes-on c service tei place l own-sound n.link h.speaks)))
      (ap (λ way. way ++ frames_by (answered next s)) h.way ∙ ap (λ fs. map (spelling (own_side c)) n.way ++ fs) gives-frames
      ∙ sym (map-append (spelling (own_side c)) n.way given))
      (All-append (IsCarried c service tei) n.way given h.carried
      (subst (λ u. All (IsCarried c service tei) (frame_given u (links.given u n.link))) (sym h.terms) new))

  -- nothing to give
  pub still-gives-none : answered next s ≡ gave None → links.given n.terms n.link ≡ None
  still-gives-none e = grind (arith, gives-own, option_map)

  pub gives-none : links.given n.terms n.link ≡ None → answered next s ≡ gave None
  gives-none e = grind (arith, gives-own, option_map)

  -- ---- it takes

  module _ (f : Parts) (octets : List ℕ) (whole : came c.n201 octets ≡ frame octets) (read : reading (heard_side c) octets ≡ Ok f) (sapi : f.address.sapi ≡ sapi_of service)
      (by : f.address.tei ≡ tei) where
    abbrev it : Event
    it = hears (came c.n201 octets)

    pub takes-stands : StationStands c service tei place (frame_comes octets s) (with_link (link.received (link.frame f)) n)
    unfolding line_takes_slot
    takes-stands =
        let e = link.received (link.frame f) in
        stands-then it (with_link e n) refl
        (subst (λ u. Speaks c service tei place (links.after u e n.link) (line_at s.line (after (event_at s.line it) m))) (sym h.terms)
        (subst (Speaks c service tei place (links.after t e n.link)) (sym (there (line_after c it l) (after (event_at s.line it) m) refl))
        (comes-on c service tei place l own-sound n.link h.speaks f octets whole read sapi by)))
        (takes-way octets s ∙ h.way) h.carried

    pub takes-told : (frame_comes octets s).told ≡ s.told ++ said_by (links.course n.terms (link.received (link.frame f)) n.link)
    unfolding line_takes_slot
    takes-told = grind (arith, comes-told, own-sound, said_by)

  -- ---- its layer 3 asks

  module _ (r : Request) (asked : link.Request) (aims : (l : Line) → aim_of_request r l ≡ at_requested service tei asked (place_in l tei)) where
    abbrev e : link.Event
    e = link.requested asked false

    abbrev asks : Event
    asks = request r

    -- granted, or nothing comes of it
    pub record Granted (s' : Endpoint) : Type 0 where
      pub none : refusal c false r l ≡ None
      pub answer : is_granted (wire.answered asks s) ≡ true
      pub stands : StationStands c service tei place s' (with_link e n)
      pub granted : s'.granted ≡ s.granted ++ contents_requested r
      pub told : s'.told ≡ s.told ++ said_by (links.course n.terms e n.link)

    abbrev made : Card → Answer → Endpoint
    made m' a = record s {
      card = m';
      way = s.way ++ frames_by a;
      granted = s.granted ++ wire.unless_refused a (contents_requested r);
      told = s.told ++ told_by a;
    }

    same-station : (m' : Card) (why : Refusal) → m' ≡ m → made m' (refused why) ≡ s
    same-station m' why is = λ i. record { card = is i; line = s.line; way = append-nil s.way i; granted = append-nil s.granted i; told = append-nil s.told i }

    own-answer : Option Refusal → Answer
    own-answer o = unless_refused_told o (of_request c r l)

    own-card : Option Refusal → Card
    own-card o = record m { lines = set m.lines s.line (Rattle.model_line.specs.Effect.of_aim c (unless_refused o (aim_of_request r l)) l).line }

    found-room : wants_room (event_at s.line asks) m ≡ false → happens asks s ≡ made (own-card (refusal c false r l)) (own-answer (refusal c false r l))
    unfolding own-answer own-card line_after line_answer
    found-room is = ap (λ b. made (record m { lines = cond b m.lines (set m.lines s.line (line_after c asks l)) }) (cond b (refused PoolFull) (line_answer c asks l))) is

    granted-by : wants_room (event_at s.line asks) m ≡ false → refusal c false r l ≡ None → happens asks s ≡ made (own-card (refusal c false r l)) (own-answer (refusal c false r l)) → Granted (happens asks s)
    unfolding own-answer own-card line_after line_answer
    granted-by room none is =
        let its : line_at s.line (after (event_at s.line asks) m) ≡ line_after c asks l =
        ap (λ k. line_at s.line k.card) is ∙ there (line_after c asks l) (own-card (refusal c false r l)) refl in
        record {
          none = none;
          answer = grind arith;
          stands =
              stands-then asks (with_link e n) refl
              (subst (λ u. Speaks c service tei place (links.after u e n.link) (line_at s.line (after (event_at s.line asks) m))) (sym h.terms)
              (subst (Speaks c service tei place (links.after t e n.link)) (sym its)
              (asks-on c service tei place l own-sound n.link h.speaks r asked (aims l) none)))
              (asks-way r s ∙ h.way) h.carried;
          granted = ap (λ k. k.granted) is ∙ ap (λ o. s.granted ++ wire.unless_refused (own-answer o) (contents_requested r)) none;
          told =
              ap (λ k. k.told) is ∙ ap (λ a. s.told ++ told_by a) (asks-told c service tei place l own-sound n.link h.speaks r asked (aims l) none)
              ∙ ap (λ u. s.told ++ said_by (links.course u e n.link)) (sym h.terms);
        }

    -- where there is room and the line does not refuse it
    pub asks-granted : wants_room (event_at s.line asks) m ≡ false → refusal c false r l ≡ None → Granted (happens asks s)
    asks-granted room none = granted-by room none (found-room room)

    pub asks-stands : (happens asks s ≡ s) ⊎ Granted (happens asks s)
    unfolding own-answer own-card line_after line_answer
    asks-stands = by-room (wants_room (event_at s.line asks) m) refl
      where
        by-line : wants_room (event_at s.line asks) m ≡ false → (o : Option Refusal) → refusal c false r l ≡ o → happens asks s ≡ made (own-card (refusal c false r l)) (own-answer (refusal c false r l))
            → (happens asks s ≡ s) ⊎ Granted (happens asks s)
        by-line room (Some why) is e = inl (e ∙ ap (λ o. made (own-card o) (own-answer o)) is ∙ same-station (own-card (Some why)) why (ap (λ ls. record m { lines = ls }) (set-get_or m.lines s.line (fresh_line c))))
        by-line room None is e = inr (granted-by room is e)

        by-room : (b : Bool) → wants_room (event_at s.line asks) m ≡ b → (happens asks s ≡ s) ⊎ Granted (happens asks s)
        by-room true is =
            inl (ap (λ b. made (record m { lines = cond b m.lines (set m.lines s.line (line_after c asks l)) }) (cond b (refused PoolFull) (line_answer c asks l))) is
            ∙ same-station m PoolFull refl)
        by-room false is = by-line is (refusal c false r l) refl (found-room is)

    -- as it is answered
    pub asks-answered : is_granted (wire.answered asks s) ≡ true → Granted (happens asks s)
    unfolding own-answer own-card line_after line_answer
    asks-answered granted = grind (arith, granted-by, found-room)

  -- ---- a timer of it expires

  module _ (timer : Timer) (its : LinkTimer) (aims : (l : Line) → aim_of_expiry timer l ≡ at_timer service tei its (place_in l tei)) where
    abbrev expires : Event
    expires = expiry timer

    pub expires-stands : StationStands c service tei place (happens expires s) (with_link (link.expired its) n)
    unfolding line_takes_slot
    expires-stands =
        let e = link.expired its in
        stands-then expires (with_link e n) refl
        (subst (λ u. Speaks c service tei place (links.after u e n.link) (line_at s.line (after (event_at s.line expires) m))) (sym h.terms)
        (subst (Speaks c service tei place (links.after t e n.link)) (sym (there (line_after c expires l) (after (event_at s.line expires) m) refl))
        (expires-on c service tei place l own-sound n.link h.speaks timer its (aims l))))
        (expires-way timer s ∙ h.way) h.carried

    pub expires-said : (happens expires s).told ≡ s.told ++ said_by (links.course n.terms (link.expired its) n.link)
    unfolding line_takes_slot
    expires-said = grind (arith, expires-told, own-sound, said_by)
