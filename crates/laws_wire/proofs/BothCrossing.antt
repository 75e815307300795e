-- Both ends call, and SABMEs cross: how far each call has come, and what each step does.
use Rattle.laws_wire.proofs.Vocabulary.{◌≡◌, ℕ, ◌+◌, ◌*◌, ◌<◌, ◌≤◌, false, List, [], ◌∷◌, ◌++◌, length, None, refl, ap, subst, ◌∙◌, ◌⊎◌, inl, inr, arith, if◌then◌else◌, lt-ltb, Service, Parts, ControlFrame, Terms, received, course, given, IsInRange, LinkEndpoint, with_link, with_sent, Config, terms, Request, next, Pair, frame, after, refusal, Endpoint, Wire, frames_by}
use Rattle.laws_wire.proofs.Vocabulary.{with_first_of, without_first, EndStep, requests, sends, receives, acting, turned, is_turn_of, answered, IsTalkOf, confirmed, LinkData, two_ends_without_first}
use Rattle.laws_wire.proofs.Answered.{gives-granted}
use Rattle.laws_wire.proofs.BothHalf as half
use Rattle.laws_wire.proofs.BothHalf.{lower}
use Rattle.laws_wire.proofs.Calling.{sabme, ua, its_ua, awaiting, caller, end, sound-caller, with_ua_waiting, with_ua_first}
use Rattle.laws_wire.proofs.Ringing.{ringing, its_sabme, none_tried}
use Rattle.laws_wire.proofs.Speaking.{said_by}
use Rattle.laws_wire.proofs.Talking.{Face, Past, unheard, after_note, Holds, holds-given, holds-lost}
use Rattle.laws_wire.proofs.Quiet.{one-at-most, Both, quiet-gives, quiet-takes, quiet-requests, hears-first, hears-granted}
use Rattle.laws_wire.proofs.Up.{pair_of, turn_of, granted_of}

-- How far the call of an end has come: its SABME waits, is on its way, is answered by a UA that waits, and by one that is on its way.
pub data Place : Type 0 where
  waits : Place
  under_way : Place
  answered_there : Place
  returns : Place

-- What of its own call an end holds, and what of the other's.
abbrev own_ring : Place → List ControlFrame
own_ring waits = its_sabme ∷ []
own_ring other = []

abbrev other_ring : Place → List ControlFrame
other_ring answered_there = its_ua ∷ []
other_ring other = []

abbrev own_way : Terms → Place → List Parts
own_way t under_way = sabme t ∷ []
own_way t other = []

abbrev other_way : Terms → Place → List Parts
other_way t returns = ua t ∷ []
other_way t other = []

abbrev pub crossing : Terms → Place → Place → LinkEndpoint
crossing t own other = end t (ringing none_tried (own_ring own ++ other_ring other)) (own_way t own ++ other_way t other)

-- Of one end what waits goes in order: its SABME goes before its UA.
abbrev NotWaiting : Place → Type 0
NotWaiting waits = ⊥
NotWaiting other = Unit {0}

abbrev NotReturning : Place → Type 0
NotReturning returns = ⊥
NotReturning other = Unit {0}

abbrev pub InOrder : Place → Place → Type 0
InOrder waits other = NotReturning other
InOrder returns other = NotWaiting other
InOrder any other = Unit {0}

pub turned-order : (own other : Place) → InOrder own other → InOrder other own
turned-order waits returns h = h
turned-order own other h = grind arith

abbrev pub turns_left : Place → ℕ
turns_left waits = 4
turns_left under_way = 3
turns_left answered_there = 2
turns_left returns = 1

-- ---- what a link that awaits its establishment hears

module _ (t : Terms) (ranges : IsInRange t) (u : Terms) where
  -- SABME: UA waits, and nothing is told
  hears-sabme : (ws : List ControlFrame) → length ws < 2 → after t (received (frame (sabme u))) (ringing none_tried ws) ≡ ringing none_tried (ws ++ its_ua ∷ [])
  hears-sabme ws few = grind (arith, lt-ltb, ringing, its_ua)

  told-of-crossing : (ws : List ControlFrame) → length ws < 2 → said_by (course t (received (frame (sabme u))) (ringing none_tried ws)) ≡ []
  told-of-crossing ws few = grind (arith, lt-ltb, said_by, ringing)

module _ (service : Service) (tei : ℕ) (c d : Config) (p q : ℕ) (face : Face c d) (back : Face d c) (rt : IsInRange (terms c service tei)) (ru : IsInRange (terms d service tei)) where
  abbrev t : Terms
  t = terms c service tei

  abbrev u : Terms
  u = terms d service tei

  pub record IsCrossing (w : Wire) (weight : ℕ) : Type 0 where
    pub own : Place
    pub other : Place
    pub order : InOrder own other
    pub both : Both service tei c d p q unheard unheard w (crossing t own other) (crossing u other own)
    pub is : weight ≡ turns_left own + turns_left other

  -- The near end is up first: then the far one waits for UA.
  abbrev pub NearFirst : Wire → ℕ → Type 0
  NearFirst w weight = half.Half service tei (confirmed service tei) d c q p back face ru (turned w) weight

  pub record Crossed (w w' : Wire) (before b : ℕ) : Type 0 where
    pub weight : ℕ
    pub goes : IsCrossing w' weight ⊎ NearFirst w' weight
    pub price : b + weight + 4 * granted_of w ≤ before + 4 * granted_of w'

  -- both are up, and have nothing to do yet
  first-pair : Pair (pair_of (end u caller []) (end t caller []))
  first-pair = grind (arith, sound-caller)

  module _ (w : Wire) (weight : ℕ) (own other : Place) (order : InOrder own other)
      (both : Both service tei c d p q unheard unheard w (crossing t own other) (crossing u other own)) (is : weight ≡ turns_left own + turns_left other) where
    stayed : (w' : Wire) (b : ℕ) → b ≡ 0 → granted_of w' ≡ granted_of w → Both service tei c d p q unheard unheard w' (crossing t own other) (crossing u other own) → Crossed w w' weight b
    stayed w' b none granted both' = record { weight = weight; goes = inl (record { own = own; other = other; order = order; both = both'; is = is }); price = omega (arith, none, granted) }

    -- no contents are granted before a link is up
    none-granted : (octets : List ℕ) → refusal t (crossing t own other).link false (LinkData octets) ≡ None → ⊥
    none-granted octets e = cc e

    asks : (r : Request) → IsTalkOf service tei (requests r) → Crossed w (acting (requests r) w) weight 0
    asks r talk =
        let x = quiet-requests service tei c d p q unheard unheard w (crossing t own other) (crossing u other own) both none-granted r talk in
        stayed (acting (requests r) w) 0 refl x.granted x.both

    -- ---- it gives

    gives-none : given t (crossing t own other).link ≡ None → Crossed w (acting sends w) weight (turn_of (frames_by (answered next w.near)))
    gives-none none =
        let x = quiet-gives service tei c d p q unheard unheard w (crossing t own other) (crossing u other own) both none in
        stayed (acting sends w) _ x.none x.granted x.both

    gives-on : (own' other' : Place) → InOrder own' other' → with_sent (crossing t own other) ≡ crossing t own' other' → crossing u other own ≡ crossing u other' own'
        → turns_left own + turns_left other ≡ 1 + (turns_left own' + turns_left other') → Crossed w (acting sends w) weight (turn_of (frames_by (answered next w.near)))
    gives-on own' other' order' near far less =
        let sent = holds-given service tei p unheard c w.near (crossing t own other) both.near (ap (λ (x : LinkEndpoint). x.link.contents) near) in
        record {
          weight = turns_left own' + turns_left other';
          goes = grind (arith, unheard);
          price =
              lower _ weight (turns_left own' + turns_left other') (granted_of w) _ (one-at-most (frames_by (answered next w.near))) (is ∙ less)
              (ap (λ xs. length xs + length w.far.granted) (gives-granted w.near));
        }

    -- ---- it takes

    takes-none : (crossing u other own).way ≡ [] → Crossed w (acting receives w) weight (turn_of w.far.way)
    takes-none none = grind (arith, quiet-takes, unheard, stayed)

    -- SABME comes
    takes-sabme : (own' other' : Place) → InOrder own' other' → (fs : List Parts) → (crossing u other own).way ≡ sabme u ∷ fs → with_link (received (frame (sabme u))) (crossing t own other) ≡ crossing t own' other'
        → said_by (course t (received (frame (sabme u))) (crossing t own other).link) ≡ [] → two_ends_without_first (crossing u other own) ≡ crossing u other' own'
        → turns_left own + turns_left other ≡ 1 + (turns_left own' + turns_left other') → Crossed w (acting receives w) weight (turn_of w.far.way)
    takes-sabme own' other' order' fs first near said far less = record {
      weight = turns_left own' + turns_left other';
      goes = inl (record {
        own = own';
        other = other';
        order = order';
        both = record {
          near = hears-first service tei c d p q unheard w (crossing t own other) (crossing u other own) both (sabme u) fs first face unheard (crossing t own' other') near refl refl refl refl said;
          far = subst (Holds d service tei q unheard (without_first w.far)) far (holds-lost service tei q unheard d w.far (crossing u other own) both.far);
        };
        is = refl;
      });
      price = lower _ weight (turns_left own' + turns_left other') (granted_of w) _ (one-at-most w.far.way) (is ∙ less) (hears-granted service tei c d p q unheard w (crossing t own other) (crossing u other own) both (sabme u) fs first face);
    }

    -- UA comes: the far end still waits for its own
    abbrev up_note : Past
    up_note = after_note (confirmed service tei)

    abbrev far_then : Endpoint
    far_then = without_first w.far

    takes-ua : (k : ℕ) → (crossing u other own).way ≡ ua u ∷ [] → turns_left own + turns_left other ≡ 1 + k → (n' : LinkEndpoint)
        → with_link (received (frame (ua u))) (crossing t own other) ≡ n' → n'.link.contents ≡ [] → n'.delivered ≡ []
        → two_ends_without_first (crossing u other own) ≡ end u awaiting []
        → (Holds d service tei q unheard far_then (end u awaiting []) → Holds c service tei p up_note (with_first_of w.far.way w.near) n' → NearFirst (acting receives w) (k + 0))
        → said_by (course t (received (frame (ua u))) (crossing t own other).link) ≡ confirmed service tei ∷ []
        → Crossed w (acting receives w) weight (turn_of w.far.way)
    takes-ua k first less n' near empty none far so said =
        record {
          weight = k + 0;
          goes =
              inr (so (subst (Holds d service tei q unheard far_then) far (holds-lost service tei q unheard d w.far (crossing u other own) both.far))
              (hears-first service tei c d p q unheard w (crossing t own other) (crossing u other own) both (ua u) [] first face up_note n' near empty refl refl none said));
          price = omega (arith, one-at-most w.far.way, is ∙ less, (hears-granted service tei c d p q unheard w (crossing t own other) (crossing u other own) both (ua u) [] first face));
        }

  -- ---- every place

  gives-step : (w : Wire) (weight : ℕ) (own other : Place) → InOrder own other → Both service tei c d p q unheard unheard w (crossing t own other) (crossing u other own) → weight ≡ turns_left own + turns_left other
      → Crossed w (acting sends w) weight (turn_of (frames_by (answered next w.near)))
  gives-step w weight waits waits order both is = gives-on w weight waits waits order both is under_way waits tt refl refl refl
  gives-step w weight waits under_way order both is = gives-on w weight waits under_way order both is under_way under_way tt refl refl refl
  gives-step w weight waits answered_there order both is = gives-on w weight waits answered_there order both is under_way answered_there tt refl refl refl
  gives-step w weight under_way answered_there order both is = gives-on w weight under_way answered_there order both is under_way returns tt refl refl refl
  gives-step w weight answered_there answered_there order both is = gives-on w weight answered_there answered_there order both is answered_there returns tt refl refl refl
  gives-step w weight returns answered_there order both is = gives-on w weight returns answered_there order both is returns returns tt refl refl refl
  gives-step w weight waits returns order both is = absurd order
  gives-step w weight returns waits order both is = absurd order
  gives-step w weight own other order both is = gives-none w weight own other order both is refl

  -- SABME is heard, whatever has become of the own one
  hears-crossing : (own : Place) → with_link (received (frame (sabme u))) (crossing t own under_way) ≡ end t (ringing none_tried ((own_ring own ++ []) ++ its_ua ∷ [])) (own_way t own ++ [])
  hears-crossing own = ap (λ y. end t y (own_way t own ++ [])) (hears-sabme t rt u (own_ring own ++ []) (grind arith))

  takes-step : (w : Wire) (weight : ℕ) (own other : Place) → InOrder own other → Both service tei c d p q unheard unheard w (crossing t own other) (crossing u other own) → weight ≡ turns_left own + turns_left other
      → Crossed w (acting receives w) weight (turn_of w.far.way)
  takes-step w weight waits under_way order both is =
      takes-sabme w weight waits under_way order both is waits answered_there tt [] refl (hears-crossing waits) (told-of-crossing t rt u (own_ring waits ++ []) (grind arith)) refl refl
  takes-step w weight under_way under_way order both is =
      takes-sabme w weight under_way under_way order both is under_way answered_there tt [] refl (hears-crossing under_way) (told-of-crossing t rt u (own_ring under_way ++ []) (grind arith)) refl refl
  takes-step w weight answered_there under_way order both is =
      takes-sabme w weight answered_there under_way order both is answered_there answered_there tt [] refl (hears-crossing answered_there) (told-of-crossing t rt u (own_ring answered_there ++ []) (grind arith)) refl refl
  takes-step w weight returns under_way order both is =
      takes-sabme w weight returns under_way order both is returns answered_there tt (ua u ∷ []) refl (hears-crossing returns) (told-of-crossing t rt u (own_ring returns ++ []) (grind arith)) refl refl
  takes-step w weight returns answered_there order both is =
      takes-ua w weight returns answered_there order both is 2 refl refl (with_ua_waiting (end t caller [])) refl refl refl refl
      (λ far near. inl (record { m = end t caller []; none = refl; both = record { near = far; far = near }; pair = first-pair; is = refl })) refl
  takes-step w weight returns returns order both is =
      takes-ua w weight returns returns order both is 1 refl refl (with_ua_first (end t caller [])) refl refl refl refl
      (λ far near. inr (inl (record { m = end t caller []; both = record { near = far; far = near }; pair = first-pair; is = refl }))) refl
  takes-step w weight waits returns order both is = absurd order
  takes-step w weight returns waits order both is = absurd order
  takes-step w weight own other order both is = takes-none w weight own other order both is refl

  -- so each thing that is done at the near end is a step of the call
  pub near-step : (act : EndStep) → IsTalkOf service tei act → (w : Wire) (weight : ℕ) → IsCrossing w weight → Crossed w (acting act w) weight (if is_turn_of act w then 1 else 0)
  near-step (requests r) talk w weight h = asks w weight h.own h.other h.order h.both h.is r talk
  near-step sends talk w weight h = gives-step w weight h.own h.other h.order h.both h.is
  near-step receives talk w weight h = takes-step w weight h.own h.other h.order h.both h.is
  near-step other talk w weight h = absurd talk
