-- A whole call in which frames are lost and timers expire: what layer 3 of each was told, as long as no error was.
use Rattle.laws_wire.proofs.Vocabulary.{arith, ◌≡◌, ℕ, List, [], ◌∷◌, ◌++◌, map, take, refl, sym, ap, ◌∙◌, inl, inr, append-nil, All, flat_map, All-nil, All-cons, All-head, All-tail, Service, fresh, IsInRange, LinkEndpoint, Config, LineTold, terms, terms_in_range, Endpoint, Wire, EndStep, StepAt, at_near, at_far, acting, doing, doing_all, calling, CanCall, confirmed, indicated, turned}
use Rattle.laws_wire.proofs.Vocabulary.{data_told, IsBeginningOf, for_layer_3, heard_in, HasNoError, IsRoughTalk, CallsAreToldInOrder, list_any-append}
use Rattle.laws_wire.proofs.Beginning.{calls, answers}
use Rattle.laws_wire.proofs.Calling.{asked, sabme, end}
use Rattle.laws_wire.proofs.Held.{Held, not-erred}
use Rattle.laws_wire.proofs.LossyHalf.{half-near, half-far}
use Rattle.laws_wire.proofs.LossyPhases.{IsRinging, Goes, HasErred, Went, as-up, turned-with}
use Rattle.laws_wire.proofs.LossyRinging.{ringing-near, ringing-far}
use Rattle.laws_wire.proofs.Ringing.{ringing, IsSabme, none_tried}
use Rattle.laws_wire.proofs.SoFar.{at-first, then-data}
use Rattle.laws_wire.proofs.Spelled.{sides-turned}
use Rattle.laws_wire.proofs.Talking.{Face, unheard, Holds, none-told}
use Rattle.laws_wire.proofs.LossyUp.{up-acts}

-- what was told stays told
pub record More (s s' : Endpoint) : Type 0 where
  pub more : List LineTold
  pub told : s'.told ≡ s.told ++ more

pub near-more : (act : EndStep) (w : Wire) → More w.near (acting act w).near
near-more o w = grind (arith, append-nil)

module _ (service : Service) (tei : ℕ) (c d : Config) (p q : ℕ) (face : Face c d) (back : Face d c) (rt : IsInRange (terms c service tei)) (ru : IsInRange (terms d service tei)) where
  abbrev Leads : Wire → Type 0
  Leads w = Went service tei c d p q w

  pub goes : (k : StepAt) → IsRoughTalk service tei k → (w : Wire) → Goes service tei c d p q w → Leads (doing k w)
  goes (at_near act) is w (inl h) = ringing-near service tei c d p q face back rt ru w h act is
  goes (at_near act) is w (inr (inl h)) = half-near service tei c d p q face back rt ru w h act is
  goes (at_near act) is w (inr (inr h)) =
      elim (up-acts service tei c d p q face (confirmed service tei ∷ []) (indicated service tei ∷ []) w h act is) [ inl y ↦ as-up service tei c d p q (acting act w) y | inr e ↦ inr e ]
  goes (at_far act) is w (inl h) = ringing-far service tei c d p q face back rt ru w h act is
  goes (at_far act) is w (inr (inl h)) = half-far service tei c d p q face back rt ru w h act is
  goes (at_far act) is w (inr (inr h)) =
      let first = confirmed service tei ∷ [] in
      let second = indicated service tei ∷ [] in
      let v = acting act (turned w) in
      elim (up-acts service tei d c q p back second first (turned w) (turned-with service tei c d p q first second w h) act is) [
        | inl y ↦ as-up service tei c d p q (turned v) (turned-with service tei d c q p second first v y)
        | inr (inl e) ↦ inr (inr e)
        | inr (inr e) ↦ inr (inl e)
      ]

  pub errs : (k : StepAt) (w : Wire) → HasErred service tei c d p q w → HasErred service tei c d p q (doing k w)
  errs o w x = grind (arith, list_any-append)

  step : (k : StepAt) → IsRoughTalk service tei k → (w : Wire) → Leads w → Leads (doing k w)
  step k is w (inl h) = goes k is w h
  step k is w (inr h) = inr (errs k w h)

  pub runs : (ds : List StepAt) → All (IsRoughTalk service tei) ds → (w : Wire) → Leads w → Leads (doing_all ds w)
  unfolding doing_all
  runs [] all w h = h
  runs (k ∷ ds) all w h = runs ds (All-tail (IsRoughTalk service tei) k ds all) (doing k w) (step k (All-head (IsRoughTalk service tei) k ds all) w h)

  -- what was told so far
  pub record InOrder (w : Wire) : Type 0 where
    pub near : IsBeginningOf (confirmed service tei ∷ map (data_told service tei) w.far.granted) (heard_in w.near)
    pub far : IsBeginningOf (indicated service tei ∷ map (data_told service tei) w.near.granted) (heard_in w.far)

  by-joint : (first : LineTold) (k j : Config) (place other : ℕ) (past : List LineTold) (s o : Endpoint) (n m : LinkEndpoint) → Held k service tei place (first ∷ []) s n
      → Held j service tei other past o m → n.delivered ≡ take n.link.r m.link.contents → IsBeginningOf (first ∷ map (data_told service tei) o.granted) (heard_in s)
  by-joint first k j place other past s o n m h g delivered =
      then-data service tei first n.link.r o.granted (heard_in s)
      (h.heard ∙ ap (λ xs. first ∷ map (data_told service tei) xs) (delivered ∙ ap (take n.link.r) (sym g.granted)))

  pub in-order : (w : Wire) → Goes service tei c d p q w → InOrder w
  in-order w (inl h) = record { near = at-first service tei (confirmed service tei) w.far.granted (heard_in w.near) h.near.heard; far = at-first service tei (indicated service tei) w.near.granted (heard_in w.far) h.far.heard }
  in-order w (inr (inl h)) = grind (arith, at-first, by-joint, end, ringing)
  in-order w (inr (inr h)) = record {
    near = by-joint (confirmed service tei) c d p q (indicated service tei ∷ []) w.near w.far h.n h.m h.near.held h.far.held h.near.joint.back.delivered;
    far = by-joint (indicated service tei) d c q p (confirmed service tei ∷ []) w.far w.near h.m h.n h.far.held h.near.held h.far.joint.back.delivered;
  }

-- from a station that was told nothing
pub from-nothing : (k : Config) (service : Service) (tei place : ℕ) (s : Endpoint) (n : LinkEndpoint) → Holds k service tei place unheard s n → n.delivered ≡ [] → Held k service tei place [] s n
from-nothing k service tei place s n h none =
    assumption (ap (flat_map for_layer_3) (none-told k service tei place [] s n h none) ∙ sym (ap (map (data_told service tei)) none))

-- a call as it begins
pub record Setting (service : Service) (c d : Config) (line other tei : ℕ) : Type 0 where
  pub face : Face c d
  pub back : Face d c
  pub near : IsInRange (terms c service tei)
  pub far : IsInRange (terms d service tei)
  pub near_held : Held c service tei 0 [] (calling service tei c line d other).near (end (terms c service tei) asked [])
  pub far_held : Held d service tei 0 [] (calling service tei c line d other).far (end (terms d service tei) fresh [])

pub setting : (service : Service) (c d : Config) (line other tei : ℕ) → CanCall c line d other tei → Setting service c d line other tei
setting service c d line other tei can =
    let w = calling service tei c line d other in
    record {
      face = record { side = sym can.opposite.0; n201 = can.opposite.1 };
      back = record { side = sym (sides-turned c d can.opposite.0); n201 = sym can.opposite.1 };
      near = terms_in_range c can.near.0 service tei can.terminal;
      far = terms_in_range d can.far.0 service tei can.terminal;
      near_held = from-nothing c service tei 0 w.near (end (terms c service tei) asked []) (calls service tei c can.near.0 can.terminal line can.near.1) refl;
      far_held = from-nothing d service tei 0 w.far (end (terms d service tei) fresh []) (answers service tei d can.far.0 can.terminal other can.far.1) refl;
    }

abbrev pub rings : (service : Service) (c d : Config) (line other tei : ℕ) → Setting service c d line other tei → IsRinging service tei c d 0 0 (calling service tei c line d other)
rings service c d line other tei x = record {
  repeats = none_tried;
  waiting = asked.waiting;
  way = [];
  near = x.near_held;
  far = x.far_held;
  sabmes = All-cons (IsSabme (terms c service tei)) (sabme (terms c service tei)) [] refl (All-nil (IsSabme (terms c service tei)));
}

-- As long as no error was told.
pub no-error : (service : Service) (tei : ℕ) (c d : Config) (p q : ℕ) (w : Wire) → Went service tei c d p q w → HasNoError w.near → HasNoError w.far → Goes service tei c d p q w
no-error service tei c d p q w o near far = grind (arith, not-erred)

pub fair-goes : (service : Service) (c d : Config) (line other tei : ℕ) (ds : List StepAt) → CanCall c line d other tei → All (IsRoughTalk service tei) ds
    → let w = doing_all ds (calling service tei c line d other) in HasNoError w.near → HasNoError w.far → Goes service tei c d 0 0 w
fair-goes service c d line other tei ds can talk =
    let x = setting service c d line other tei can in
    let w = calling service tei c line d other in
    no-error service tei c d 0 0 (doing_all ds w) (runs service tei c d 0 0 x.face x.back x.near x.far ds talk w (inl (inl (rings service c d line other tei x))))

pub calls-are-told_in_order : CallsAreToldInOrder
calls-are-told_in_order service c d line other tei ds can talk = λ fair-near fair-far.
    let x = setting service c d line other tei can in
    let told = in-order service tei c d 0 0 x.face x.back x.near x.far (doing_all ds (calling service tei c line d other)) (fair-goes service c d line other tei ds can talk fair-near fair-far) in
    (told.near, told.far)
