-- By notes layer 3 knows which links are up: each event, of a link that is not in state 5.
use Rattle.laws_line.proofs.Vocabulary.{◌≡◌, ℕ, ◌==◌, ◌&&◌, Bool, true, false, cond, List, [], set, get_or, Option, Some, None, refl, ap, sym, ◌∙◌, subst, arith, eq-eqb, true≢false, inl, inr, next_walk, fold, option_map_or, get_or-set_other, fold-append, none-some, Note, Service, Call, Packet, same_service, T201, is_up, Link, offer_among, ControlFrame, Terms, LinkTimer, is_decided, layer_3_knows}
use Rattle.laws_line.proofs.Vocabulary.{notes-own}
use Rattle.laws_line.proofs.Vocabulary.{Moves, Management, IsAt, IsSoundTable, is_on, place_of, Change, Gained, Left, at-off, place_of-is, Config, hears, request, next, at_link, at_management, of_change, of_aim, at_timer, Line, link_number, service_at, place_at, place_in, link_at, link_in, terms, with_link, aim_of_heard, Taken, taken, line_of, with_unit, with_given_frame}
use Rattle.laws_line.proofs.Vocabulary.{Request, Establish, Release, Assign, Remove, SetBusy, ClearBusy, Deactivate, at_requested, at_deactivated, aim_of_request, IsProper, heard_aims, request_proper, Down, eqb-true, T200, T203, fresh, LinkCourse as Course, begun, Event, expiry, after, answer, Data, Unit, Check, IsSound, up_by_note, taken_for_up, is_up_of, link_offer, link_received}
use Rattle.laws_line.proofs.Vocabulary.{LinkEstablish, LinkRelease, link_expired, LinkClearBusy, link_requested, LinkRequest, LinkData, link_cleared, LinkSetBusy, LinkEvent, link_told, link_after, StreamEvent, message, check, disown, remove, assigning, tei_expiry, TeiEvent, Disown}
use Rattle.model_line.specs.Line.{link_of}
use Rattle.model_teis.specs.Changes.{HasJoined, HasLeft}
use Rattle.model_teis.specs.network.Laws as tei_laws
use Rattle.model_line.proofs.Following.{some-same, and-false}
use Rattle.model_line.proofs.LinkMoves.{IsOne, taken-one}
use Rattle.laws_line.proofs.Noting.{own-notes, other-notes}
use Rattle.model_line.proofs.Obeyed.{services-equal, both-true}
use Rattle.model_line.proofs.Places.{has-place}
use Rattle.laws_line.proofs.Readings as read
use Rattle.laws_line.proofs.Vocabulary.{◌∷◌, T202, LineTold, Own, AskTei, VerifyTei, TerminalEvent, IsOwnEvent, asking, verifying, terminal_expiry, at_terminal, without_message}
use Rattle.laws_line.proofs.Changes.{AreOfTeis, IsOfTeis, Turn, turned, turned-there}
use Rattle.model_line.proofs.TimersFollow.{number-is}
use Rattle.model_line.proofs.Downs.{given_up, by-down}

-- What layer 3 takes for up by notes is up, of each link.
abbrev pub Calm : Service → ℕ → Line → Type 0
Calm service tei l = is_decided (link_of service tei l).state ≡ true

abbrev Up : Line → List Note → Line → Type 0
Up before notes after = (service : Service) (tei : ℕ) → Calm service tei before → fold (up_by_note service tei) (is_up_of service tei before) notes ≡ is_up_of service tei after

-- An event of one link.
module _ (c : Config) (l : Line) (s : IsSound c l) (service : Service) (tei place : ℕ) (e : LinkEvent) (at : IsAt l.management.places place tei) where
  abbrev t : Terms
  t = terms c service tei

  abbrev x : Link
  x = link_in l service place

  abbrev y : Link
  y = link_after t e x

  abbrev its : List Note
  its = (link_told t e x).notes

  abbrev then-up : Service → ℕ → Type 0
  then-up s' n' = fold (up_by_note s' n') (is_up_of s' n' l) its ≡ is_up_of s' n' (with_link (link_number place service) y l)

  abbrev itself : Link → Link
  itself x = x

  own-up : Calm service tei l → then-up service tei
  own-up calm =
      let here : is_decided x.state ≡ true = subst (λ (x : Link). is_decided x.state ≡ true) (read.own-before fresh itself c l s service tei place at y) calm in
      ap (λ b. fold (up_by_note service tei) b its) (read.own-before false is_up c l s service tei place at y)
      ∙ own-notes t (is_up x) its (notes-own t e x) ∙ layer_3_knows t e x here ∙ sym (read.own-after false is_up c l s service tei place at y)

  by-link : (s' : Service) (n' : ℕ) (b : Bool) → (same_service service s' && (tei == n')) ≡ b → Calm s' n' l → then-up s' n'
  by-link s' n' false other calm = other-notes t s' n' other (is_up_of s' n' l) its (notes-own t e x) ∙ sym (read.other-read false is_up c l s service tei place at y s' n' other)
  by-link s' n' true same calm =
      let is = both-true (same_service service s') (tei == n') same in
      subst (λ z. then-up z n') (services-equal service s' is.0) (subst (λ z. then-up service z) (eqb-true tei n' is.1)
      (own-up (subst (λ z. Calm z tei l) (sym (services-equal service s' is.0)) (subst (λ n. Calm s' n l) (sym (eqb-true tei n' is.1)) calm))))

  pub link-up : Up l its (with_link (link_number place service) y l)
  link-up s' n' calm = by-link s' n' (same_service service s' && (tei == n')) refl calm

-- Notes of TEIs say nothing of links.
one-note : (service : Service) (tei : ℕ) (up : Bool) (n : Note) → IsOfTeis n → up_by_note service tei up n ≡ up
one-note service tei up n is = grind arith

tei-note : (service : Service) (tei : ℕ) (up : Bool) (ns : List Note) → AreOfTeis ns → fold (up_by_note service tei) up ns ≡ up
tei-note service tei up [] are = refl
tei-note service tei up (n ∷ ns) are = ap (λ b. fold (up_by_note service tei) b ns) (one-note service tei up n are.0) ∙ tei-note service tei up ns are.1

-- A step of TEI management, of whatever side.
module _ (c : Config) (l : Line) (s : IsSound c l) (t : LineTold) (m : Management) (own : Own) (sound : IsSoundTable m.places) (quiet : AreOfTeis t.notes) where
  abbrev ns : List Note
  ns = t.notes

  abbrev changed : Option Change → Line
  changed o = (of_change c o t (record l { management = m; own = own })).line

  comes-up : (tei place : ℕ) → HasJoined l.management.places m.places tei place → (s' : Service) (n' : ℕ) (b : Bool) → (tei == n') ≡ b
      → is_up_of s' n' l ≡ is_up_of s' n' (changed (Some (Gained tei place)))
  comes-up tei place joined s' n' true same =
      let n : tei ≡ n' = eqb-true tei n' same in
      read.off-read false is_up refl c l s m sound place (Some tei) joined.is_there joined.within s' n' (λ i at. at-off l.management.places i n' (ap (λ x. is_on x l.management.places) (sym n) ∙ joined.was_off) at)
      ∙ sym (read.filled-read false is_up refl c l s m sound place (Some tei) joined.is_there joined.within s' n' (ap Some n))
  comes-up tei place joined s' n' false other =
      sym (read.elsewhere false is_up refl c l s m sound place (Some tei) joined.is_there joined.within s' n' (λ same. true≢false (sym (eq-eqb tei n' (some-same tei n' same)) ∙ other))
      (λ at. none-some n' (sym joined.was_free ∙ at)))

  module _ (tei place : ℕ) (gone : HasLeft l.management.places m.places tei place) where
    abbrev first : Link
    first = link_in l Call place

    abbrev second : Link
    second = get_or (set l.links (link_number place Call) fresh) (link_number place Packet) fresh

    abbrev call : List Note
    call = (link_told (terms c Call tei) link_cleared first).notes

    abbrev packet : List Note
    packet = (link_told (terms c Packet tei) link_cleared second).notes

    placed : place_of tei l.management.places ≡ Some place
    placed = has-place l.management.places tei place s.management.table gone.was_there

    gone-down : (z : Service) → is_up_of z tei (changed (Some (Left tei place))) ≡ false
    gone-down z = read.emptied-read false is_up refl c l s m sound place None gone.is_free gone.within z tei refl gone.was_there

    abbrev leaving : Service → ℕ → Type 0
    leaving z n' = fold (up_by_note z n') (fold (up_by_note z n') (is_up_of z n' l) call) packet ≡ is_up_of z n' (changed (Some (Left tei place)))

    own-leaves : (z : Service) → Calm z tei l → leaving z tei
    own-leaves z calm = grind (arith, placed, calm, own-notes, notes-own, layer_3_knows, other-notes, gone-down, get_or-set_other)

    leaves-up : (z : Service) (n' : ℕ) (b : Bool) → (tei == n') ≡ b → Calm z n' l → leaving z n'
    leaves-up z n' true same calm = subst (λ n. leaving z n) (eqb-true tei n' same) (own-leaves z (subst (λ n. Calm z n l) (sym (eqb-true tei n' same)) calm))
    leaves-up z n' false other calm =
        let apart : (y : Service) → (same_service y z && (tei == n')) ≡ false = λ y. ap (λ b. same_service y z && b) other ∙ and-false (same_service y z) in
        ap (λ b. fold (up_by_note z n') b packet) (other-notes (terms c Call tei) z n' (apart Call) (is_up_of z n' l) call (notes-own (terms c Call tei) link_cleared first))
        ∙ other-notes (terms c Packet tei) z n' (apart Packet) (is_up_of z n' l) packet (notes-own (terms c Packet tei) link_cleared second)
        ∙ sym (read.elsewhere false is_up refl c l s m sound place None gone.is_free gone.within z n' (λ same. none-some n' same)
        (λ at. true≢false (sym (eq-eqb tei n' (some-same tei n' (sym gone.was_there ∙ at))) ∙ other)))

  by-change : (o : Option Change) → Moves l.management.places o m.places → Up l (of_change c o t (record l { management = m; own = own })).told.notes (changed o)
  by-change (Some (Gained tei place)) joined = λ s' n' calm.
      tei-note s' n' (is_up_of s' n' l) ns quiet ∙ comes-up tei place joined s' n' (tei == n') refl
  by-change o moves = grind (arith, tei-note, read.same-read, fold-append, leaves-up)

module _ (c : Config) (l : Line) (s : IsSound c l) where
  each-step : (o : Option Change) (t : LineTold) (m : Management) (own : Own) → Turn l o t m
      → let f = of_change c o t (record l { management = m; own = own }) in Up l f.told.notes f.line
  each-step o t m own turn = by-change c l s t m own turn.table turn.quiet o turn.moves

  management-up : (e : TeiEvent) → tei_laws.IsInRange e → Up l (of_aim c (at_management e) l).told.notes (of_aim c (at_management e) l).line
  management-up e fits = turned c l s (λ f. Up l f.told.notes f.line) each-step e fits

  own-up-there : (e : TerminalEvent) → IsOwnEvent c e → Up l (of_aim c (at_terminal e) l).told.notes (of_aim c (at_terminal e) l).line
  own-up-there e proper = turned-there c l s (λ f. Up l f.told.notes f.line) each-step e proper

-- An offer notes nothing.
either : (b : Bool) (u v : Course) → u.notes ≡ [] → v.notes ≡ [] → (cond b u v).notes ≡ []
either b u v one other = grind arith

offer-among : (t : Terms) (x : Link) (ws : List ControlFrame) → (offer_among t ws (begun x)).notes ≡ []
offer-among t x ws = grind (arith, either)

-- Each event.
module _ (c : Config) (l : Line) (s : IsSound c l) where
  aimed : (service : Service) (tei place : ℕ) (e : LinkEvent) → place_in l tei ≡ Some place
      → Up l (of_aim c (at_link service tei place e) l).told.notes (of_aim c (at_link service tei place e) l).line
  aimed service tei place e at = link-up c l s service tei place e (place_of-is l.management.places tei place at).1

  heard-up : (e : StreamEvent) → Up l (of_aim c (aim_of_heard c l e) l).told.notes (of_aim c (aim_of_heard c l e) l).line
  heard-up =
      heard_aims c l (λ aim. Up l (of_aim c aim l).told.notes (of_aim c aim l).line) (λ cause. λ service tei calm. refl)
      (λ service tei place what at. aimed service tei place (link_received what) at) (λ info. management-up c l s (message info) tt) (λ parts its to service tei calm. refl)

  timer-up : (service : Service) (tei : ℕ) (k : LinkTimer) (o : Option ℕ) → place_in l tei ≡ o → Up l (of_aim c (at_timer service tei k o) l).told.notes (of_aim c (at_timer service tei k o) l).line
  timer-up service tei k None e = λ s' n' calm. refl
  timer-up service tei k (Some place) e = aimed service tei place (link_expired k) e

  asked-up : (service : Service) (tei : ℕ) (what : LinkRequest) (o : Option ℕ) → place_in l tei ≡ o
      → Up l (of_aim c (at_requested service tei what o) l).told.notes (of_aim c (at_requested service tei what o) l).line
  asked-up service tei what None e = λ s' n' calm. refl
  asked-up service tei what (Some place) e = aimed service tei place (link_requested what false) e

  deactivated-up : (service : Service) (tei : ℕ) (o : Option ℕ) → place_in l tei ≡ o
      → Up l (of_aim c (at_deactivated service tei o) l).told.notes (of_aim c (at_deactivated service tei o) l).line
  deactivated-up service tei None e = λ s' n' calm. refl
  deactivated-up service tei (Some place) e = aimed service tei place link_cleared e

  request-up : (r : Request) → IsProper c l (aim_of_request r l) → Up l (of_aim c (aim_of_request r l) l).told.notes (of_aim c (aim_of_request r l) l).line
  request-up (Establish service tei) proper = asked-up service tei LinkEstablish (place_in l tei) refl
  request-up (Release service tei) proper = asked-up service tei LinkRelease (place_in l tei) refl
  request-up (Data service tei contents) proper = asked-up service tei (LinkData contents) (place_in l tei) refl
  request-up (Unit service tei contents) proper = grind (arith, read.same-read)
  request-up (Assign tei) proper = management-up c l s (assigning tei) proper
  request-up (Remove tei) proper = management-up c l s (remove tei) proper
  request-up (Check tei) proper = management-up c l s (check tei) proper
  request-up (Disown tei) proper = management-up c l s (disown tei) proper
  request-up AskTei proper = own-up-there c l s asking proper
  request-up (VerifyTei tei) proper = own-up-there c l s (verifying tei) proper
  request-up (SetBusy service tei) proper = asked-up service tei LinkSetBusy (place_in l tei) refl
  request-up (ClearBusy service tei) proper = asked-up service tei LinkClearBusy (place_in l tei) refl
  request-up (Deactivate service tei) proper = deactivated-up service tei (place_in l tei) refl
  request-up Down proper = by-down c l s (λ f. Up l f.told.notes f.line) (λ s' n' calm. sym (read.same-read false is_up s' n' l (given_up l).line refl refl))

  offered-up : (service : Service) (tei place : ℕ) → IsAt l.management.places place tei → (s' : Service) (n' : ℕ) → Calm s' n' l
      → is_up_of s' n' l ≡ is_up_of s' n' (with_link (link_number place service) (link_after (terms c service tei) link_offer (link_in l service place)) l)
  offered-up service tei place at s' n' calm =
      sym (ap (λ ns. fold (up_by_note s' n') (is_up_of s' n' l) ns) (offer-among (terms c service tei) (link_in l service place) (link_in l service place).waiting))
      ∙ link-up c l s service tei place link_offer at s' n' calm

  took : (t : Taken) → IsOne c l t → Up l [] t.line
  took t (inl x) = subst (λ (u : Taken). Up l [] u.line) (sym x.is) (λ s' n' calm. sym (read.same-read false is_up s' n' l (without_message l x.octets x.m x.own).line x.out.places refl))
  took t (inr (inl x)) = subst (λ (u : Taken). Up l [] u.line) (sym x.1) (λ s' n' calm. sym (read.same-read false is_up s' n' l (with_unit c l x.0).line refl refl))
  took t (inr (inr x)) =
      subst (λ (u : Taken). Up l [] u.line) (sym x.is)
      (λ s' n' calm.
      subst (λ n. is_up_of s' n' l ≡ is_up_of s' n' (with_link n (link_after (terms c (service_at x.number) x.tei) link_offer (link_at n l)) l)) (number-is x.number)
      (offered-up (service_at x.number) x.tei (place_at x.number) x.on_line s' n' calm)
      ∙ sym (read.same-read false is_up s' n' (with_link x.number (link_after (terms c (service_at x.number) x.tei) link_offer (link_at x.number l)) l)
      (with_given_frame c l x.number (terms c (service_at x.number) x.tei) x.what).line refl refl))

  next-up : Up l [] (option_map_or line_of (taken c l) l)
  next-up = next_walk c l (IsOne c l) (λ o m. Up l [] m) (taken-one c l s) (λ s' n' calm. refl) took

pub known-up : (c : Config) (e : Event) (l : Line) (service : Service) (tei : ℕ) → IsSound c l → Calm service tei l
    → taken_for_up service tei (is_up_of service tei l) (answer c e l) ≡ is_up_of service tei (after c e l)
unfolding after answer
known-up c (hears e) l service tei s calm = heard-up c l s e service tei calm
known-up c (expiry (T200 by n)) l service tei s calm = timer-up c l s by n LinkTimer.T200 (place_in l n) refl service tei calm
known-up c (expiry (T203 by n)) l service tei s calm = timer-up c l s by n LinkTimer.T203 (place_in l n) refl service tei calm
known-up c (expiry T201) l service tei s calm = management-up c l s tei_expiry tt service tei calm
known-up c (expiry T202) l service tei s calm = own-up-there c l s terminal_expiry tt service tei calm
known-up c (request r) l service tei s calm = grind (arith, request_proper, request-up, calm)
known-up c next l service tei s calm = next-up c l s service tei calm
