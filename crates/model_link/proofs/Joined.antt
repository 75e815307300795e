-- Two ends: what holds in both directions, as long as both links stay in states 7 and 8.
use Rattle.model_link.proofs.Vocabulary.{LinkCounts, with_expiry, with_counted, ◌≡◌, ℕ, Bool, cond, IsTrue, List, [], ◌∷◌, ◌++◌, drop, Option, None, Some, refl, sym, ap, subst, ◌∙◌, append-nil, arith, option_to_list, Refusal, Parts, State, Established, LinkTimer, Terms, Link, is_multiple_frame, frame, Request, Event, received, expired, requested, offer, Course, begun, IsInRange, IsSound, Endpoint}
use Rattle.model_link.proofs.Vocabulary.{Ends, EndStep, requests, expires}
use Rattle.model_link.proofs.Vocabulary.{StepAt, at_near, at_far, with_link, with_sent, without_first, with_first_of, acting, doing, doing_all, Begins, IsUp, StayUp, Agree, granted, refusal, release_in, after, course, expired_in, is_running, told}
use Rattle.model_link.proofs.SoundEvents.{sound-after}
use Rattle.model_link.proofs.Delivering.{event-delivers}
use Rattle.model_link.proofs.Lines.{Carried, Rising, rising-low}
use Rattle.model_link.proofs.Facing.{Reports, no-reports, Up, still, any_number, timer_7_up, t200_8_up, set_busy_up, clear_busy_up}
use Rattle.model_link.proofs.FacingInformation.{at-first}
use Rattle.model_link.proofs.Direction.{Direction, frames_of, line_of, sender-goes, receiver-goes, sender-loses, receiver-loses}
use Rattle.model_link.proofs.Taking.{frame-taken, none-delivered}
use Rattle.model_link.proofs.Hearing.{sender-hears, receiver-hears}
use Rattle.model_link.proofs.Sending.{offer-gave}

-- A link goes on by itself: more contents may be accepted, and reports may wait.
record Goes (l l' : Link) : Type 0 where
  more : List (List ℕ)
  same : l'.contents ≡ l.contents ++ more
  still : l'.a ≡ l.a
  received : l'.r ≡ l.r
  reports : Reports l.r l.waiting l'.waiting

abbrev IsUpIn : Course → Type 0
IsUpIn c = IsTrue (is_multiple_frame c.link.state)

abbrev Went : Link → Course → Type 0
Went l c = Goes l c.link

module _ (t : Terms) (l : Link) where
  stays : Goes l l
  stays = record { more = []; same = sym (append-nil l.contents); still = refl; received = refl; reports = no-reports l.r l.waiting }

  by-up : (c : Course) → Up l l.a l.r c → IsUpIn c → Goes l c.link
  by-up c h up = grind (arith, append-nil, still)

  either : (b : Bool) (u v : Course) → (IsUpIn u → Goes l u.link) → (IsUpIn v → Goes l v.link) → IsUpIn (cond b u v) → Goes l (cond b u v).link
  either b u v x y up = grind arith

  -- requests
  release-leads_out : (here : State) → IsTrue (is_multiple_frame here) → IsUpIn (release_in here t (begun l)) → ⊥
  release-leads_out here before up = grind arith

  request-goes : IsTrue (is_multiple_frame l.state) → (request : Request) (o : Option Refusal)
      → IsUpIn (elim o [ None ↦ granted t request (begun l) | Some _ ↦ begun l ])
      → Went l (elim o [ None ↦ granted t request (begun l) | Some _ ↦ begun l ])
  request-goes before request o up = grind (arith, release-leads_out, still, no-reports, by-up, set_busy_up, at-first, clear_busy_up, stays)

  -- timers
  expired-goes : (here : State) → IsTrue (is_multiple_frame here) → (timer : LinkTimer) → IsUpIn (expired_in here timer t (begun l))
      → Goes l (expired_in here timer t (begun l)).link
  expired-goes Established before timer up = by-up _ ((timer_7_up t l {S = still l.s} timer).leads (begun l) (at-first t l)) up
  expired-goes here before timer up = grind (arith, by-up, t200_8_up, still, at-first, stays)

-- what is counted doesn't matter
recounted : (change : LinkCounts → LinkCounts) (l l' : Link) → Goes (with_counted change l) l' → Goes l l'
recounted change l l' h = record { more = h.more; same = h.same; still = h.still; received = h.received; reports = h.reports }

module _ (t : Terms) (l : Link) where
  timer-goes : IsTrue (is_multiple_frame l.state) → (timer : LinkTimer) → IsUpIn (course t (expired timer) l) → Goes l (after t (expired timer) l)
  timer-goes before timer up =
      either t l (is_running timer l) _ _
      (λ u. recounted (with_expiry timer) l _ (expired-goes t (with_counted (with_expiry timer) l) l.state before timer u)) (λ u. stays t l) up

-- What holds of both ends.
pub record Joined (n m : Endpoint) : Type 0 where
  pub near_ranges : IsInRange n.terms
  pub far_ranges : IsInRange m.terms
  pub near_sound : IsSound n.terms n.link
  pub far_sound : IsSound m.terms m.link
  pub near_up : IsTrue (is_multiple_frame n.link.state)
  pub far_up : IsTrue (is_multiple_frame m.link.state)
  pub there : Direction n m
  pub back : Direction m n

pub joined-turned : (n m : Endpoint) → Joined n m → Joined m n
joined-turned n m h = search

-- what a sender has delivered doesn't matter, and what a receiver has is the same
sender-told : (n m : Endpoint) (ds : List (List ℕ)) → Direction n m → Direction (record n { delivered = ds }) m
sender-told n m ds h = record { carried = h.carried; rising = h.rising; delivered = h.delivered; accepted = h.accepted }

receiver-told : (n m : Endpoint) (ds : List (List ℕ)) → ds ≡ m.delivered → Direction n m → Direction n (record m { delivered = ds })
receiver-told n m ds e h = record { carried = h.carried; rising = h.rising; delivered = e ∙ h.delivered; accepted = h.accepted }

module _ (n m : Endpoint) (h : Joined n m) where
  -- the near end goes on, and perhaps takes a frame of the other's way
  moved : (n' : Endpoint) (way : List Parts) → IsInRange n'.terms → IsSound n'.terms n'.link → IsTrue (is_multiple_frame n'.link.state)
      → Direction n' (record m { way = way }) → Direction (record m { way = way }) n' → Joined n' (record m { way = way })
  moved n' way ranges sound up there back = search

  -- an event of the link alone, which delivers nothing
  goes : (e : Event) → (course n.terms e n.link).delivered ≡ None → Goes n.link (after n.terms e n.link)
      → IsTrue (is_multiple_frame (with_link e n).link.state) → Joined (with_link e n) m
  goes e none g up =
      let l = after n.terms e n.link in
      let ds = n.delivered ++ option_to_list (told n.terms e n.link).delivered in
      moved (with_link e n) m.way h.near_ranges (sound-after n.terms h.near_ranges e n.link h.near_sound) up
      (sender-told (record n { link = l }) m ds (sender-goes n m l g.more n.link.r g.same g.still g.reports h.there))
      (receiver-told m (record n { link = l }) ds (ap (λ o. n.delivered ++ option_to_list o) none ∙ append-nil n.delivered)
      (receiver-goes m n l g.received g.reports h.back))

  gives : IsTrue (is_multiple_frame (with_sent n).link.state) → Joined (with_sent n) m
  gives up =
      let gave = offer-gave n.terms h.near_ranges n.link h.near_sound n.link.waiting refl in
      moved (with_sent n) m.way h.near_ranges (sound-after n.terms h.near_ranges offer n.link h.near_sound) up
      (grind (arith, Carried, frames_of, Rising)) (grind (arith, Carried, frames_of, Rising))

  hears : (f : Parts) (fs : List Parts) → m.way ≡ f ∷ fs → IsTrue (is_multiple_frame (with_link (received (frame f)) n).link.state)
      → Joined (with_link (received (frame f)) n) (record m { way = fs })
  hears f fs first up =
      let c = course n.terms (received (frame f)) n.link in
      let ds = n.delivered ++ option_to_list c.delivered in
      let rising : Rising n.link.a m.link.r (f ∷ fs ++ frames_of m.terms m.link.waiting) = subst (λ way. Rising n.link.a m.link.r (way ++ frames_of m.terms m.link.waiting)) first h.there.rising in
      let this = frame-taken n.terms n.link h.near_up f.address.command f.info rising.0 f.control rising.2 in
      let stay = (this.took.by.stay up).2 in
      moved (with_link (received (frame f)) n) fs h.near_ranges (sound-after n.terms h.near_ranges (received (frame f)) n.link h.near_sound) up
      (sender-hears n m f fs c.link ds any_number h.near_ranges h.near_sound first
      (λ p means.
      let other = frame-taken n.terms n.link h.near_up f.address.command f.info p f.control means in
      let by = other.took.by.stay up in
      (other.r, by.0, by.1, by.2))
      h.there)
      (receiver-hears n m f fs c.link ds this.r this.delivered h.far_ranges first this.advance stay.received stay.reports
      (ap (λ o. n.delivered ++ option_to_list o) (this.took.delivered up)) h.back)

  first-of : (way : List Parts) → m.way ≡ way → IsTrue (is_multiple_frame (with_first_of way n).link.state) → Joined (with_first_of way n) (record m { way = drop 1 way })
  first-of [] e up = subst (λ way. Joined n (record m { way = way })) e h
  first-of (f ∷ fs) e up = hears f fs e up

  loses-first : Joined (without_first n) m
  loses-first = moved (without_first n) m.way h.near_ranges h.near_sound h.near_up (sender-loses n m h.there) (receiver-loses m n h.back)

  acted : (act : EndStep) → IsUp (acting act (record { near = n; far = m })) → Joined (acting act (record { near = n; far = m })).near (acting act (record { near = n; far = m })).far
  acted (requests request full) up =
      goes (requested request full) (none-delivered n.terms n.link (course n.terms (requested request full) n.link) (event-delivers n.terms n.link (requested request full)))
      (request-goes n.terms n.link h.near_up request (refusal n.terms n.link full request) up.0) up.0
  acted (expires timer) up =
      goes (expired timer) (none-delivered n.terms n.link (course n.terms (expired timer) n.link) (event-delivers n.terms n.link (expired timer)))
      (timer-goes n.terms n.link h.near_up timer up.0) up.0
  acted act up = grind (arith, gives, first-of, loses-first)

-- either side
pub done-at : (d : StepAt) (e : Ends) → IsUp (doing d e) → Joined e.near e.far → Joined (doing d e).near (doing d e).far
done-at (at_near act) e up h = acted e.near e.far h act up
done-at (at_far act) e up h = grind (arith, joined-turned, acted)

all-done : (ds : List StepAt) (e : Ends) → StayUp ds e → Joined e.near e.far → Joined (doing_all ds e).near (doing_all ds e).far
unfolding doing_all StayUp
all-done [] e up h = h
all-done (d ∷ ds) e up h = all-done ds (doing d e) up.1 (done-at d e up.0 h)

-- the start
no-line : (n : Endpoint) → Begins n → line_of n ≡ []
no-line n b = ap (λ way. way ++ frames_of n.terms n.link.waiting) b.way ∙ ap (λ ws. frames_of n.terms ws) b.waiting

pub joined-first : (n m : Endpoint) → Begins n → Begins m → Joined n m
joined-first n m b c = grind (arith, no-line)

-- in the words of the law
agree : (n m : Endpoint) → Direction m n → Agree n m
agree n m h = record { delivered = h.delivered; accepted = h.accepted; acknowledged = rising-low m.link.a n.link.r (line_of n) h.rising }

pub ends-agree : (ds : List StepAt) (e : Ends) → Begins e.near → Begins e.far → StayUp ds e
    → Agree (doing_all ds e).near (doing_all ds e).far × Agree (doing_all ds e).far (doing_all ds e).near
ends-agree ds e b c up = grind (arith, all-done, joined-first, agree)
