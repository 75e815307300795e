-- A call that ends where both ends rest: from its release on.
use Rattle.laws_wire.proofs.Vocabulary.{arith, ◌≡◌, ℕ, ◌≤◌, Bool, true, false, not, cond, List, [], ◌∷◌, ◌++◌, None, Some, refl, sym, ap, subst, ◌∙◌, ◌⊎◌, inl, inr, append-nil, true≢false, All, nat_lt, flat_map, option_map_or, le-ltb, lt-ltb, Refusal, BadTei, NoLink, WrongState, Service, is_on-at, place_of-is, Established, Terms, Link, fresh, course, serves, IsInRange, LinkEndpoint, with_link}
use Rattle.laws_wire.proofs.Vocabulary.{Config, LineTold, request, Line, link_in, link_of, terms, line_at, wants_room, HasNothingToSend, nothing-given, flat_map-append, Release, Endpoint, Wire, happens, requests, acting, turned, StepAt, doing_all, IsStill, calling, confirmed, for_layer_3, heard_in, runs_t200, IsLeaving, StayTimelyThere, release_confirmed, release_indicated, EndsSo, CallsEnd}
use Rattle.laws_wire.proofs.Vocabulary.{requested, LinkRelease, line_takes_slot, uncalled, seen}
use Rattle.model_line.specs.Refusal.{refusal}
use Rattle.model_card.specs.Event.{at as event_at}
use Rattle.laws_wire.proofs.Awaited.{runs-is, runs-up}
use Rattle.laws_wire.proofs.Ended.{Phase, ends}
use Rattle.laws_wire.proofs.Ringing.{Tries}
use Rattle.laws_wire.proofs.Leaving.{its_disc, disc, leaving, untried, releases, releases-untold}
use Rattle.laws_wire.proofs.Loose.{Loose, loose-turned, loose-came}
use Rattle.laws_wire.proofs.LooseUp.{LooseUp}
use Rattle.laws_wire.proofs.Speaking.{said_by}
use Rattle.laws_wire.proofs.Standing.{StationStands, Granted, asks-granted}
use Rattle.laws_wire.proofs.Talking.{Face}
use Rattle.laws_wire.proofs.Tells.{Tells, as-end}
use Rattle.laws_wire.proofs.LossyRun.{setting}
use Rattle.laws_wire.proofs.TimelyUp.{IsHushed, hushed}
use Rattle.laws_wire.proofs.UaBefore.{with_before, regranted}
use Rattle.laws_wire.proofs.UaTold.{up-where, patient-goes}

three-pass : (a b d : Bool) (x y z : Refusal) → a ≡ false → b ≡ false → d ≡ false → cond a (Some x) (cond b (Some y) (cond d (Some z) None)) ≡ None
three-pass a b d x y z e e' e'' = rw (e, e', e'') refl

-- two stations at rest, whose links are up
pub record BothRest (service : Service) (tei : ℕ) (c d : Config) (p q : ℕ) (w : Wire) : Type 0 where
  n : LinkEndpoint
  m : LinkEndpoint
  near : StationStands c service tei p w.near n
  far : StationStands d service tei q w.far m
  near_hushed : IsHushed service tei n
  far_hushed : IsHushed service tei m
  near_stopped : runs_t200 service tei w.near ≡ false
  far_stopped : runs_t200 service tei w.far ≡ false
  loose : Loose n m

turned-rest : (service : Service) (tei : ℕ) (c d : Config) (p q : ℕ) (w : Wire) → BothRest service tei c d p q w → BothRest service tei d c q p (turned w)
turned-rest service tei c d p q w h = grind (arith, loose-turned)

module _ (service : Service) (tei : ℕ) (few : tei ≤ 126) (c d : Config) (p q : ℕ) (face : Face c d) (back : Face d c) (rt : IsInRange (terms c service tei)) (ru : IsInRange (terms d service tei))
    (w : Wire) (h : BothRest service tei c d p q w) where
  abbrev n : LinkEndpoint
  n = h.n

  abbrev m : LinkEndpoint
  m = h.m

  abbrev t : Terms
  t = terms c service tei

  near-hushed : IsHushed service tei n
  near-hushed = h.near_hushed

  far-quiet : HasNothingToSend (terms d service tei) m.link
  far-quiet = subst (λ t. HasNothingToSend t m.link) h.far.terms (nothing-given m.terms m.link h.far_hushed.given)

  near-state : n.link.state ≡ Established
  near-state = (loose-came n m h.loose (nothing-given n.terms n.link near-hushed.given) (sym (runs-up service tei c p w.near n h.near h.loose.joined.near_up) ∙ h.near_stopped)).state

  far-state : m.link.state ≡ Established
  far-state = (loose-came m n (loose-turned n m h.loose) (nothing-given m.terms m.link h.far_hushed.given) (sym (runs-up service tei d q w.far m h.far h.loose.joined.far_up) ∙ h.far_stopped)).state

  -- the release is granted
  own : StationStands w.near.card.config service tei p w.near n
  own = subst (λ k. StationStands k service tei p w.near n) (sym h.near.config) h.near

  abbrev its_line : Line
  its_line = line_at w.near.line w.near.card

  not-refused : refusal w.near.card.config false (Release service tei) its_line ≡ None
  not-refused =
      let link-here : link_of service tei its_line ≡ n.link = ap (λ o. option_map_or (link_in its_line service) o fresh) own.speaks.placed ∙ own.speaks.link in
      three-pass _ _ _ BadTei NoLink WrongState (le-ltb 126 tei few) (ap not (is_on-at its_line.management.places p tei ((place_of-is its_line.management.places tei p own.speaks.placed).1)))
      (ap (λ (x : Link). not (serves w.near.card.config.reading x.state x.owed LinkRelease)) link-here ∙ ap (λ s. not (serves w.near.card.config.reading s n.link.owed LinkRelease)) near-state)

  has-room : wants_room (event_at w.near.line (request (Release service tei))) w.near.card ≡ false
  unfolding line_takes_slot
  has-room = refl

  abbrev s' : Endpoint
  s' = happens (request (Release service tei)) w.near

  granted : Granted service tei p w.near n own (Release service tei) LinkRelease (λ l. refl) s'
  granted = asks-granted service tei p w.near n own (Release service tei) LinkRelease (λ l. refl) has-room not-refused

  room : nat_lt 0 n.terms.control ≡ true
  room = subst (λ t. nat_lt 0 t.control ≡ true) (sym h.near.terms) (let low = rt.control_low in lt-ltb 0 t.control (omega (Rattle.std.proofs.Common.arith, low)))

  abbrev released : Wire
  released = acting (requests (Release service tei)) w

  abbrev Phase_ : Wire → Type 0
  Phase_ w' = Phase service tei c d p q face back rt ru n.link m.link far-state far-quiet (heard_in w.near) (heard_in w.far) w'

  leaves : Phase_ released
  leaves = inl (
    untried n.link,
    inl (record {
      near = as-end service tei c p _ (heard_in w.near) s' (with_link (requested LinkRelease false) n) (record { terms = t; link = leaving n.link (untried n.link) (its_disc ∷ []); way = []; delivered = [] })
          (record {
            stands = subst (λ k. StationStands k service tei p s' (with_link (requested LinkRelease false) n)) h.near.config granted.stands;
            told = ap (flat_map for_layer_3) granted.told ∙ flat_map-append for_layer_3 w.near.told (said_by (course n.terms (requested LinkRelease false) n.link));
          })
          (λ i. record { terms = h.near.terms i; link = releases n.terms room n.link near-state (nothing-given n.terms n.link near-hushed.given).waiting i; way = near-hushed.way i; delivered = [] })
          (ap (λ ts. heard_in w.near ++ flat_map for_layer_3 ts) (releases-untold n.terms room n.link near-state (nothing-given n.terms n.link near-hushed.given).waiting) ∙ append-nil (heard_in w.near));
      far = grind (arith, as-end);
    }),
  )

  -- what is told then
  module _ (last : Wire) where
    runs-on : (k : Tries) (ws : List Rattle.model_link.specs.declared.frames.ControlFrame.ControlFrame) (way : List Rattle.lapd_frame.specs.Grammar.Parts) (hs : List LineTold)
        → Tells service tei c p hs last.near (record { terms = t; link = leaving n.link k ws; way = way; delivered = [] }) → (A : Type 0) → runs_t200 service tei last.near ≡ false → A
    runs-on k ws way hs x A stopped =
        absurd (true≢false (sym (runs-is service tei c p last.near (record { terms = t; link = leaving n.link k ws; way = way; delivered = [] }) x.stands (λ e. cc e)) ∙ stopped))

    abbrev Confirmed : Type 0
    Confirmed = heard_in last.near ≡ heard_in w.near ++ release_confirmed service tei ∷ []

    abbrev Indicated : Type 0
    Indicated = heard_in last.far ≡ heard_in w.far ++ release_indicated service tei ∷ []

    so : Phase_ last → EndsSo service tei w last
    so (inl (k, inl x)) = record { near = (inl x.near.told, λ e. runs-on k (its_disc ∷ []) [] _ x.near Confirmed e.1); far = (inl x.far.told, λ e. runs-on k (its_disc ∷ []) [] _ x.near Indicated e.1) }
    so (inl (k, inr (inl x))) = record { near = (inl x.near.told, λ e. runs-on k [] (disc t ∷ []) _ x.near Confirmed e.1); far = (inl x.far.told, λ e. runs-on k [] (disc t ∷ []) _ x.near Indicated e.1) }
    so (inl (k, inr (inr x))) = record { near = (inl x.near.told, λ e. runs-on k [] [] _ x.near Confirmed e.1); far = (inl x.far.told, λ e. runs-on k [] [] _ x.near Indicated e.1) }
    so (inr (inl (k, b, inl x))) = record { near = (inl x.near.told, λ e. runs-on k [] [] _ x.near Confirmed e.1); far = (inr x.far.told, λ e. x.far.told) }
    so (inr (inl (k, b, inr (inl x)))) = record { near = (inl x.near.told, λ e. runs-on k [] [] _ x.near Confirmed e.1); far = (inr x.far.told, λ e. x.far.told) }
    so (inr (inl (k, b, inr (inr (inl x))))) = record { near = (inl x.near.told, λ e. runs-on k [] [] _ x.near Confirmed e.1); far = (inr x.far.told, λ e. x.far.told) }
    so (inr (inl (k, b, inr (inr (inr (inl x)))))) = record { near = (inl x.near.told, λ e. runs-on k (its_disc ∷ []) [] _ x.near Confirmed e.1); far = (inr x.far.told, λ e. x.far.told) }
    so (inr (inl (k, b, inr (inr (inr (inr x)))))) = record { near = (inl x.near.told, λ e. runs-on k [] (disc t ∷ []) _ x.near Confirmed e.1); far = (inr x.far.told, λ e. x.far.told) }
    so (inr (inr (k, x))) = record { near = (inr x.near.told, λ e. x.near.told); far = (inr x.far.told, λ e. x.far.told) }

  pub ends-so : (ds : List StepAt) → All (IsLeaving service tei) ds → StayTimelyThere ds released → EndsSo service tei w (doing_all ds released)
  ends-so ds all timely =
      so (doing_all ds released) (ends service tei c d p q face back rt ru n.link m.link far-state far-quiet (heard_in w.near) (heard_in w.far) ds all released timely leaves)

-- so it is behind a call with losses, whatever was granted before
at-rest : (service : Service) (tei : ℕ) (c d : Config) (p q : ℕ) (past other : List LineTold) (g : List (List ℕ)) (v : Wire) → LooseUp service tei c d p q past other v → IsStill v
    → runs_t200 service tei v.near ≡ false → runs_t200 service tei v.far ≡ false → BothRest service tei c d p q (with_before g v)
at-rest service tei c d p q past other g v h still none none' = record {
  n = h.n;
  m = h.m;
  near = h.near.stands;
  far = regranted d service tei q v.far h.m (g ++ v.far.granted) h.far.stands;
  near_hushed = hushed service tei c p past v.near h.n h.near still.near still.near_way;
  far_hushed = hushed service tei d q other v.far h.m h.far still.far still.far_way;
  near_stopped = none;
  far_stopped = none';
  loose = h.loose;
}

pub calls-end : CallsEnd
calls-end service c d line other tei before after_ v can full leaving_ = λ patient (still, none, none') which timely.
    let x = setting service c d line other tei can in
    let begun = calling service tei c line d other in
    let w = doing_all before begun in
    let goes = patient-goes service c d line other tei before can full patient in
    let last = seen service tei before begun uncalled in
    let up = up-where service tei c d 0 0 x.face x.back x.near x.far last w goes none in
    let at : IsStill w → runs_t200 service tei w.near ≡ false → runs_t200 service tei w.far ≡ false → BothRest service tei c d 0 0 w =
    subst (λ w. IsStill w → runs_t200 service tei w.near ≡ false → runs_t200 service tei w.far ≡ false → BothRest service tei c d 0 0 w) (sym goes.is)
    (λ still none none'. at-rest service tei c d 0 0 (confirmed service tei ∷ []) last.told goes.earlier goes.v up
    (record { near = still.near; far = still.far; near_way = still.near_way; far_way = still.far_way }) none none') in
    go w x.face x.back x.near x.far (at still none none') which timely
  where
    go : (w : Wire) (face : Face c d) (back : Face d c) (rt : IsInRange (terms c service tei)) (ru : IsInRange (terms d service tei)) → BothRest service tei c d 0 0 w → (v ≡ w) ⊎ (v ≡ turned w)
        → StayTimelyThere after_ (acting (requests (Release service tei)) v) → EndsSo service tei v (doing_all after_ (acting (requests (Release service tei)) v))
    go w face back rt ru h (inl e) timely =
        subst (λ v. StayTimelyThere after_ (acting (requests (Release service tei)) v) → EndsSo service tei v (doing_all after_ (acting (requests (Release service tei)) v))) (sym e)
        (λ x. ends-so service tei can.terminal c d 0 0 face back rt ru w h after_ leaving_ x) timely
    go w face back rt ru h (inr e) timely =
        subst (λ v. StayTimelyThere after_ (acting (requests (Release service tei)) v) → EndsSo service tei v (doing_all after_ (acting (requests (Release service tei)) v))) (sym e)
        (λ x. ends-so service tei can.terminal d c 0 0 back face ru rt (turned w) (turned-rest service tei c d 0 0 w h) after_ leaving_ x) timely
