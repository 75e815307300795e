-- What is done in a call. Layer 3 asks for the establishment of the link: in state 4 it is granted. In state 5, in which layer 3
-- asked for it already, it is granted by annex B, or refused, and in any other state it is refused: this changes nothing.
use Rattle.laws_wire.proofs.Vocabulary.{arith, ◌≡◌, ℕ, ◌≤◌, Bool, true, false, not, true≢false, place_in, [], ◌∷◌, ◌++◌, Option, Some, None, inl, inr, refl, sym, ap, subst, ◌∙◌, ◌⊎◌, append-nil, nat_lt, option_map_or, le-ltb, Refusal, Service, is_on-at, place_of-is, Terms, fresh, is_down, LinkEndpoint, with_link, Config, request, Line, link_in, link_of, has_tei, terms, unless_refused_told}
use Rattle.laws_wire.proofs.Vocabulary.{of_request, line_at, wants_room, is_granted, Event, Establish}
use Rattle.laws_wire.proofs.Vocabulary.{Endpoint, happens, answered, requests, StepAt, at_near, at_far, IsTalk, IsCall, requested, LinkEstablish, line_answer, line_takes_slot}
use Rattle.std.proofs.lemmas.Option.{none-some}
use Rattle.std.proofs.lemmas.List.{set-get_or}
use Rattle.std.specs.Prelude.{set}
use Rattle.laws_wire.proofs.Vocabulary.{Effect, Link, LinkEvent, State, TeiAssigned, AwaitingEstablishment, at_requested, of_aim, told_of_link, fresh_line, link_number, line_after, frames_by}
use Rattle.model_card.specs.Machine.{after}
use Rattle.model_line.specs.Effect.{of_link}
use Rattle.model_line.specs.Event.{told}
use Rattle.model_line.specs.Line.{with_link as line_with_link}
use Rattle.model_line.specs.Machine.{unless_refused}
use Rattle.model_link.specs.Machine.{after as link_after, told as link_told}
use Rattle.laws_wire.specs.Wire as wire
use Rattle.laws_wire.specs.Wire.{told_by, without_orders}
use Rattle.lapd_frame.specs.declared.readings.Reading.{Reading}
use Rattle.model_line.proofs.RoomForAll.{passed}
use Rattle.model_line.specs.Refusal.{bad_tei, no_link, refusal, wrong_state}
use Rattle.model_link.specs.Requests.{serves}
use Rattle.model_card.specs.Event.{at as event_at}
use Rattle.laws_wire.proofs.Calling.{asked, asks-establish, end}
use Rattle.laws_wire.proofs.Standing.{StationStands, Granted, asks-granted, asks-stands, link-ranges}
use Rattle.laws_wire.proofs.Talking.{Past, Holds}
use Rattle.laws_wire.proofs.Speaking.{said_by}

module _ (service : Service) (tei : ℕ) where
  -- ---- what is done: the link is asked for at one of the ends, or it is talk

  pub data Kind (k : StepAt) : Type 0 where
    talks : IsTalk service tei k → Kind k
    near_calls : k ≡ at_near (requests (Establish service tei)) → Kind k
    far_calls : k ≡ at_far (requests (Establish service tei)) → Kind k

  pub kind : (k : StepAt) → IsCall service tei k → Kind k
  kind k is = grind arith

-- ---- the link is asked for

abbrev pub Keeps : Service → ℕ → Endpoint → Type 0
Keeps service tei s = happens (request (Establish service tei)) s ≡ s

pub record Refuses (service : Service) (tei : ℕ) (s : Endpoint) : Type 0 where
  pub same : Keeps service tei s
  pub none : is_granted (answered (request (Establish service tei)) s) ≡ false

-- In state 5 layer 3 asked for the establishment, and nothing is kept.
pub record IsCalling (x : Link) : Type 0 where
  pub contents : x.contents ≡ []
  pub a : x.a ≡ 0
  pub s : x.s ≡ 0
  pub again : x.again ≡ 0
  pub asked : x.asked ≡ true
  pub owed : x.owed ≡ false

abbrev pub is_free : State → Bool
is_free TeiAssigned = false
is_free AwaitingEstablishment = false
is_free other = true

pub calls-still : (x : Link) → x.contents ≡ [] → x.a ≡ 0 → x.s ≡ 0 → x.again ≡ 0 → x.asked ≡ true → x.owed ≡ false → IsCalling x
calls-still x contents a s again asked owed = record { contents = contents; a = a; s = s; again = again; asked = asked; owed = owed }

free-serves : (r : Reading) (x : State) (owed : Bool) → is_free x ≡ true → serves r x owed LinkEstablish ≡ false
free-serves r x owed free = grind arith

asks-nothing : (t : Terms) (x : Link) → is_down x.state ≡ false → IsCalling x → link_after t (requested LinkEstablish false) x ≡ x
asks-nothing t x up calls = grind arith

tells-nothing : (t : Terms) (x : Link) → is_down x.state ≡ false → without_orders (told_of_link (link_told t (requested LinkEstablish false) x)) ≡ []
tells-nothing t x up = grind arith

module _ (service : Service) (tei place : ℕ) (c : Config) (first : Past) (s : Endpoint) (n : LinkEndpoint) (h : Holds c service tei place first s n) where
  own : StationStands s.card.config service tei place s n
  own = subst (λ k. StationStands k service tei place s n) (sym h.stands.config) h.stands

  abbrev l : Line
  l = line_at s.line s.card

  abbrev asks : Event
  asks = request (Establish service tei)

  abbrev why : Option Refusal
  why = refusal s.card.config false (Establish service tei) l

  link-is : link_of service tei l ≡ n.link
  link-is = ap (λ o. option_map_or (link_in l service) o fresh) own.speaks.placed ∙ own.speaks.link

  answer-is : answered asks s ≡ unless_refused_told why (of_request s.card.config (Establish service tei) l)
  unfolding line_answer line_takes_slot
  answer-is = refl

  -- ---- in state 5, where it changes nothing

  abbrev own_terms : Terms
  own_terms = terms s.card.config service tei

  abbrev ev : LinkEvent
  ev = requested LinkEstablish false

  here : link_in l service place ≡ n.link
  here = own.speaks.link

  effect : why ≡ None → of_request s.card.config (Establish service tei) l ≡ of_link s.card.config service tei place ev l
  effect none =
      ap (λ o. of_aim s.card.config (unless_refused o (at_requested service tei LinkEstablish (place_in l tei))) l) none
      ∙ ap (λ o. of_aim s.card.config (at_requested service tei LinkEstablish o) l) own.speaks.placed

  same-line : is_down n.link.state ≡ false → IsCalling n.link → why ≡ None → line_after s.card.config asks l ≡ l
  unfolding line_after
  same-line up calls none =
      ap (λ (f : Effect). f.line) (effect none)
      ∙ ap (λ y. line_with_link (link_number place service) y l) (ap (link_after own_terms ev) here ∙ asks-nothing own_terms n.link up calls ∙ sym here)
      ∙ ap (λ ls. record l { links = ls }) (set-get_or l.links (link_number place service) fresh)

  its-answer : why ≡ None → answered asks s ≡ told (told_of_link (link_told own_terms ev (link_in l service place)))
  its-answer none = answer-is ∙ ap (λ o. unless_refused_told o (of_request s.card.config (Establish service tei) l)) none ∙ ap (λ (f : Effect). told f.told) (effect none)

  granted-same : is_down n.link.state ≡ false → IsCalling n.link → why ≡ None → Keeps service tei s
  unfolding line_after line_answer line_takes_slot
  granted-same up calls none =
      let a = its-answer none in
      let card : after (event_at s.line asks) s.card ≡ s.card =
      ap (λ (x : Line). record s.card { lines = set s.card.lines s.line x }) (same-line up calls none) ∙ ap (λ ls. record s.card { lines = ls }) (set-get_or s.card.lines s.line (fresh_line s.card.config)) in
      let way : s.way ++ frames_by (answered asks s) ≡ s.way = ap (λ b. s.way ++ frames_by b) a ∙ append-nil s.way in
      let granted : s.granted ++ wire.unless_refused (answered asks s) [] ≡ s.granted = ap (λ b. s.granted ++ wire.unless_refused b []) a ∙ append-nil s.granted in
      let tells : s.told ++ told_by (answered asks s) ≡ s.told =
      ap (λ b. s.told ++ told_by b) a ∙ ap (λ (x : Link). s.told ++ without_orders (told_of_link (link_told own_terms ev x))) here ∙ ap (λ ts. s.told ++ ts) (tells-nothing own_terms n.link up) ∙ append-nil s.told in
      λ i. record { card = card i; line = s.line; way = way i; granted = granted i; told = tells i }

  refused-same : (w : Refusal) → why ≡ Some w → Keeps service tei s
  refused-same w is = by-line (asks-stands service tei place s n own (Establish service tei) LinkEstablish (λ l. refl))
    where
      by-line : (happens asks s ≡ s) ⊎ Granted service tei place s n own (Establish service tei) LinkEstablish (λ l. refl) (happens asks s) → happens asks s ≡ s
      by-line (inl same) = same
      by-line (inr x) = absurd (none-some w (sym x.none ∙ is))

  pub keeps : is_down n.link.state ≡ false → IsCalling n.link → Keeps service tei s
  keeps up calls = go why refl
    where
      go : (o : Option Refusal) → why ≡ o → Keeps service tei s
      go None is = granted-same up calls is
      go (Some w) is = refused-same w is

  -- ---- in any other state

  not-served : is_free n.link.state ≡ true → why ≡ None → {X : Type 0} → X
  not-served free none =
      let c = s.card.config in
      let third = wrong_state c service tei LinkEstablish l in
      let unserved = passed third [] (passed (no_link tei l) (third ∷ []) (passed (bad_tei tei) (no_link tei l ∷ third ∷ []) none).1).1 in
      absurd (true≢false (sym (ap not (ap (λ (x : Link). serves c.reading x.state x.owed LinkEstablish) link-is ∙ free-serves c.reading n.link.state n.link.owed free)) ∙ unserved.0))

  pub refuses : is_free n.link.state ≡ true → Refuses service tei s
  refuses free = go why refl
    where
      go : (o : Option Refusal) → why ≡ o → Refuses service tei s
      go None is = not-served free is
      go (Some w) is = record { same = refused-same w is; none = ap is_granted (answer-is ∙ ap (λ o. unless_refused_told o (of_request s.card.config (Establish service tei) l)) is) }

-- ---- in state 4

module _ (service : Service) (tei place : ℕ) (few : tei ≤ 126) (c : Config) (first : Past) (s : Endpoint) (h : Holds c service tei place first s (end (terms c service tei) fresh [])) where
  abbrev t : Terms
  t = terms c service tei

  abbrev n : LinkEndpoint
  n = end t fresh []

  none-refused : why service tei place c first s n h ≡ None
  none-refused =
      let line = l service tei place c first s n h in
      let at = (place_of-is line.management.places tei place (own service tei place c first s n h).speaks.placed).1 in
      let on : has_tei tei line ≡ true = is_on-at line.management.places place tei at in
      grind (arith, nat_lt, le-ltb, link-is)

  room : wants_room (event_at s.line (request (Establish service tei))) s.card ≡ false
  unfolding line_takes_slot
  room = refl

  pub record Calls : Type 0 where
    pub holds : Holds c service tei place first (happens (request (Establish service tei)) s) (end t asked [])
    pub granted : (happens (request (Establish service tei)) s).granted ≡ s.granted
    pub some : is_granted (answered (request (Establish service tei)) s) ≡ true

  pub calls : Calls
  calls =
      let s' = happens (request (Establish service tei)) s in
      let standing = own service tei place c first s n h in
      let ranges = link-ranges service tei place s n standing in
      let x = asks-granted service tei place s n standing (Establish service tei) LinkEstablish (λ l. refl) room none-refused in
      let is : with_link (requested LinkEstablish false) n ≡ end t asked [] = ap (λ y. end t y []) (asks-establish t ranges) in
      grind (arith, end, asked, said_by, room, append-nil, answer-is, none-refused)
