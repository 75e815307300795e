-- A whole call: how many turns there are, what layer 3 was told so far, and what it was told where no turn is left.
use Rattle.laws_wire.proofs.Vocabulary.{◌≡◌, ℕ, ◌+◌, ◌*◌, ◌≤◌, Bool, true, false, ◌||◌, List, [], ◌∷◌, map, take, None, refl, sym, ap, subst, ◌∙◌, inl, inr, arith, All, if◌then◌else◌, All-head, All-tail, Service, spelling, fresh, given, IsInRange, LinkEndpoint, Config, LineTold, next, gave, terms, terms_in_range, Pair, all-there, nothing-given, Endpoint, Wire, StepAt, turned, doing}
use Rattle.laws_wire.proofs.Vocabulary.{IsStill, answered, calling, IsCall, calls_back, confirmed, data_told, told_first, IsBeginningOf, AreOpposite, CanCall, ComesThrough, CallsComeThrough, own_side}
use Rattle.laws_link.specs.two.Rounds.{HasArrived}
unfoldable use Rattle.laws_wire.specs.Wire.{doing_all, turns}
unfoldable use Rattle.laws_wire.specs.Call.{both_call}
use Rattle.laws_wire.proofs.Beginning.{calls, answers}
use Rattle.laws_wire.proofs.BothCrossing as crossed
use Rattle.laws_wire.proofs.BothCrossing.{waits, under_way, answered_there, returns}
use Rattle.laws_wire.proofs.BothHalf as half
use Rattle.laws_wire.proofs.BothPhases.{cost, Goes, step}
use Rattle.laws_wire.proofs.Calling.{asked, caller, end, with_ua_waiting, with_ua_first}
use Rattle.laws_wire.proofs.Spelled.{sides-turned}
use Rattle.laws_wire.proofs.SoFar.{at-first, then-data}
use Rattle.laws_wire.proofs.Standing.{StationStands, still-gives-none}
use Rattle.laws_wire.proofs.Talking.{Face, Past, unheard, after_note, Holds, all-told, none-told, no-way}
use Rattle.laws_wire.proofs.Up.{pair_of, Talk, granted_of, turned-pair}
use Rattle.laws_wire.proofs.Quiet.{Both}

or-none : (both : Bool) → both ≡ (both || false)
or-none both = grind arith

pub or-both : (a b c : Bool) → ((a || b) || c) ≡ (a || (b || c))
or-both a b c = grind arith

-- where two ends that are up are still, all has arrived
pub arrived : (n m : LinkEndpoint) → Pair (pair_of n m) → given n.terms n.link ≡ None → given m.terms m.link ≡ None → n.way ≡ [] → m.way ≡ []
    → HasArrived n.link.contents n m × HasArrived m.link.contents m n
arrived n m p no-n no-m way-n way-m =
    all-there [] (pair_of n m) (pair_of n m) (record { pair = p; bounded = omega arith; near_kept = refl; far_kept = refl })
    (record { near = nothing-given n.terms n.link no-n; far = nothing-given m.terms m.link no-m; near_way = way-n; far_way = way-m })

-- what becomes of a call
pub record AreUp (service : Service) (tei : ℕ) (c d : Config) (p q : ℕ) (note : LineTold) (w : Wire) : Type 0 where
  pub n : LinkEndpoint
  pub m : LinkEndpoint
  pub talk : Talk service tei c d p q (after_note (confirmed service tei)) (after_note note) w n m

-- what layer 3 of each was told, where no turn is left, and at any time
pub record ToldAll (service : Service) (tei : ℕ) (note : LineTold) (w : Wire) : Type 0 where
  pub near : w.near.told ≡ confirmed service tei ∷ map (data_told service tei) w.far.granted
  pub far : w.far.told ≡ note ∷ map (data_told service tei) w.near.granted

pub record ToldSoFar (service : Service) (tei : ℕ) (note : LineTold) (w : Wire) : Type 0 where
  pub near : IsBeginningOf (confirmed service tei ∷ map (data_told service tei) w.far.granted) w.near.told
  pub far : IsBeginningOf (note ∷ map (data_told service tei) w.near.granted) w.far.told

module _ (service : Service) (tei : ℕ) where
  pub none-given : (k : Config) (place : ℕ) (first : Past) (s : Endpoint) (n : LinkEndpoint) → Holds k service tei place first s n → answered next s ≡ gave None → given n.terms n.link ≡ None
  none-given k place first s n h e = still-gives-none service tei place s n (subst (λ k. StationStands k service tei place s n) (sym h.stands.config) h.stands) e

  pub way-empty : (k : Config) (place : ℕ) (first : Past) (s : Endpoint) (n : LinkEndpoint) → Holds k service tei place first s n → s.way ≡ [] → n.way ≡ []
  way-empty k place first s n h e = no-way (spelling (own_side k)) n.way (sym h.stands.way ∙ e)

  by-pair : (first : LineTold) (k : Config) (place : ℕ) (other s : Endpoint) (m n : LinkEndpoint) → Holds k service tei place (after_note first) s n → other.granted ≡ m.link.contents
      → n.delivered ≡ take n.link.r m.link.contents → IsBeginningOf (first ∷ map (data_told service tei) other.granted) s.told
  by-pair first k place other s m n h granted delivered =
      then-data service tei first n.link.r other.granted s.told
      (all-told k service tei place (first ∷ []) s n h ∙ ap (λ xs. first ∷ map (data_told service tei) xs) (delivered ∙ ap (take n.link.r) (sym granted)))

  not-yet : (first : LineTold) (k : Config) (place : ℕ) (other s : Endpoint) (n : LinkEndpoint) → Holds k service tei place unheard s n → n.delivered ≡ [] → IsBeginningOf (first ∷ map (data_told service tei) other.granted) s.told
  not-yet first k place other s n h none = at-first service tei first other.granted s.told (none-told k service tei place [] s n h none)

  up-told : (note : LineTold) (c d : Config) (p q : ℕ) (w : Wire) → AreUp service tei c d p q note w → IsStill w → ToldAll service tei note w
  up-told note c d p q w h still =
      let all =
      arrived h.n h.m h.talk.pair (none-given c p _ w.near h.n h.talk.near still.near) (none-given d q _ w.far h.m h.talk.far still.far)
      (way-empty c p _ w.near h.n h.talk.near still.near_way) (way-empty d q _ w.far h.m h.talk.far still.far_way) in
      grind (arith, all-told, confirmed, data_told)

  -- ---- one end is up, or both

  module _ (note : LineTold) (c d : Config) (p q : ℕ) (face : Face c d) (back : Face d c) (rt : IsInRange (terms c service tei)) where
    abbrev Half : Wire → ℕ → Type 0
    Half w k = half.Half service tei note c d p q face back rt w k

    half-up : (w : Wire) (k : ℕ) → Half w k → IsStill w → AreUp service tei c d p q note w
    half-up w k (inl h) still = let no = none-given d q _ w.far _ h.both.far still.far in absurd (cc)
    half-up w k (inr (inl h)) still = let no = way-empty d q _ w.far _ h.both.far still.far_way in absurd (cc)
    half-up w k (inr (inr h)) still = record { n = h.n; m = h.m; talk = h.talk }

    half-so_far : (w : Wire) (k : ℕ) → Half w k → ToldSoFar service tei note w
    half-so_far w k (inl h) = record {
      near = not-yet (confirmed service tei) c p w.far w.near _ h.both.near refl;
      far = by-pair note d q w.near w.far (end (terms c service tei) caller []) (with_ua_waiting h.m) h.both.far h.both.near.granted h.pair.there.delivered;
    }
    half-so_far w k (inr (inl h)) = record {
      near = not-yet (confirmed service tei) c p w.far w.near _ h.both.near refl;
      far = by-pair note d q w.near w.far (end (terms c service tei) caller []) (with_ua_first h.m) h.both.far h.both.near.granted h.pair.there.delivered;
    }
    half-so_far w k (inr (inr h)) = record {
      near = by-pair (confirmed service tei) c p w.far w.near h.m h.n h.talk.near h.talk.far.granted h.talk.pair.back.delivered;
      far = by-pair note d q w.near w.far h.n h.m h.talk.far h.talk.near.granted h.talk.pair.there.delivered;
    }

  -- ---- a call

  module _ (few : tei ≤ 126) (c d : Config) (p q : ℕ) (face : Face c d) (back : Face d c) (rt : IsInRange (terms c service tei)) (ru : IsInRange (terms d service tei)) where
    abbrev pub On : Bool → Wire → ℕ → Type 0
    On both w k = Goes service tei few c d p q face back rt ru both w k

    pub record Ran (both : Bool) (ds : List StepAt) (w : Wire) (before : ℕ) : Type 0 where
      pub weight : ℕ
      pub goes : On (both || both_call ds w) (doing_all ds w) weight
      pub price : turns ds w + weight + (4 * granted_of w + cost both) ≤ before + (4 * granted_of (doing_all ds w) + cost (both || both_call ds w))

    pub runs : (ds : List StepAt) → All (IsCall service tei) ds → (both : Bool) (w : Wire) (k : ℕ) → On both w k → Ran both ds w k
    unfolding doing_all turns both_call
    runs [] all both w k h = record { weight = k; goes = subst (λ y. On y w k) (or-none both) h; price = (omega (arith, (ap (λ y. 4 * granted_of w + cost y) (or-none both)))) }
    runs (x ∷ ds) all both w k h =
        let w1 = doing x w in
        let one = step service tei few c d p q face back rt ru both x (All-head (IsCall service tei) x ds all) w k h in
        let both1 = both || calls_back x w in
        let rest = runs ds (All-tail (IsCall service tei) x ds all) both1 w1 one.weight one.goes in
        grind (arith, granted_of, cost)

    -- where SABMEs cross a turn is left
    crossing-moves : (own other : crossed.Place) (w : Wire) → Both service tei c d p q unheard unheard w (crossed.crossing (terms c service tei) own other) (crossed.crossing (terms d service tei) other own) → IsStill w → ⊥
    crossing-moves under_way other w h still = let no = way-empty c p unheard w.near _ h.near still.near_way in cc
    crossing-moves answered_there waits w h still = let no = none-given d q unheard w.far _ h.far still.far in cc
    crossing-moves answered_there under_way w h still = let no = way-empty d q unheard w.far _ h.far still.far_way in cc
    crossing-moves answered_there returns w h still = let no = way-empty c p unheard w.near _ h.near still.near_way in cc
    crossing-moves returns waits w h still = let no = none-given d q unheard w.far _ h.far still.far in cc
    crossing-moves returns under_way w h still = let no = way-empty d q unheard w.far _ h.far still.far_way in cc
    crossing-moves returns returns w h still = let no = way-empty c p unheard w.near _ h.near still.near_way in cc
    crossing-moves other any w h still = let no = none-given c p unheard w.near _ h.near still.near in cc

    -- both are up where no turn is left
    pub up-still : (both : Bool) (w : Wire) (k : ℕ) → On both w k → IsStill w → AreUp service tei c d p q (told_first service tei both) w
    up-still false w k (inl h) still = let no = none-given c p unheard w.near _ h.both.near still.near in absurd (cc)
    up-still false w k (inr (inl h)) still = let no = way-empty c p unheard w.near _ h.both.near still.near_way in absurd (cc)
    up-still false w k (inr (inr h)) still = half-up (told_first service tei false) c d p q face back rt w k h still
    up-still true w k (inl h) still = absurd (crossing-moves h.own h.other w h.both still)
    up-still true w k (inr (inl h)) still = half-up (told_first service tei true) c d p q face back rt w k h still
    up-still true w k (inr (inr h)) still =
        let x = half-up (confirmed service tei) d c q p back face ru (turned w) k h (record { near = still.far; far = still.near; near_way = still.far_way; far_way = still.near_way }) in
        record { n = x.m; m = x.n; talk = (record { near = x.talk.far; far = x.talk.near; pair = turned-pair x.n x.m x.talk.pair }) }

    neither-told : (note : LineTold) (w : Wire) (n m : LinkEndpoint) → Both service tei c d p q unheard unheard w n m → n.delivered ≡ [] → m.delivered ≡ [] → ToldSoFar service tei note w
    neither-told note w n m h none none' = record { near = not-yet (confirmed service tei) c p w.far w.near n h.near none; far = not-yet note d q w.near w.far m h.far none' }

    pub told-so_far : (both : Bool) (w : Wire) (k : ℕ) → On both w k → ToldSoFar service tei (told_first service tei both) w
    told-so_far false w k (inl h) = neither-told (told_first service tei false) w _ _ h.both refl refl
    told-so_far false w k (inr (inl h)) = neither-told (told_first service tei false) w _ _ h.both refl refl
    told-so_far false w k (inr (inr h)) = half-so_far (told_first service tei false) c d p q face back rt w k h
    told-so_far true w k (inl h) = neither-told (told_first service tei true) w _ _ h.both refl refl
    told-so_far true w k (inr (inl h)) = half-so_far (told_first service tei true) c d p q face back rt w k h
    told-so_far true w k (inr (inr h)) = let x = half-so_far (confirmed service tei) d c q p back face ru (turned w) k h in record { near = x.far; far = x.near }

-- A call from two ends in state 4, of which the near one was asked to establish.
few-turns : (both : Bool) (b k g g' : ℕ) → b + k + (4 * g + 0) ≤ 4 + (4 * g' + cost both) → b ≤ (if both then 8 else 4) + 4 * g'
few-turns both b k g g' h = grind arith

module _ (service : Service) (tei : ℕ) (few : tei ≤ 126) (c d : Config) (p q : ℕ) (face : Face c d) (back : Face d c) (rt : IsInRange (terms c service tei)) (ru : IsInRange (terms d service tei))
    (w : Wire) (begun : Both service tei c d p q unheard unheard w (end (terms c service tei) asked []) (end (terms d service tei) fresh [])) (ds : List StepAt) (called : All (IsCall service tei) ds) where
  abbrev last : Wire
  last = doing_all ds w

  abbrev both : Bool
  both = both_call ds w

  ran : Ran service tei few c d p q face back rt ru false ds w 4
  ran = runs service tei few c d p q face back rt ru ds called false w 4 (inl (record { both = begun; is = refl }))

  pub begun-up : IsStill last → AreUp service tei c d p q (told_first service tei both) last
  begun-up still = up-still service tei few c d p q face back rt ru both last ran.weight ran.goes still

  pub begun-comes : ComesThrough service tei (turns ds w) both last
  begun-comes =
      let so_far = told-so_far service tei few c d p q face back rt ru both last ran.weight ran.goes in
      let all = λ (still : IsStill last). up-told service tei (told_first service tei both) c d p q last (begun-up still) still in
      record {
        turns = few-turns both (turns ds w) ran.weight (granted_of w) (granted_of last) ran.price;
        near = (so_far.near, λ still. (all still).near);
        far = (so_far.far, λ still. (all still).far);
      }

-- So it is of two cards that have just begun.
pub faces : (c d : Config) → AreOpposite c d → Face c d
faces c d opposite = record { side = sym opposite.0; n201 = opposite.1 }

pub faces-back : (c d : Config) → AreOpposite c d → Face d c
faces-back c d opposite = record { side = sym (sides-turned c d opposite.0); n201 = sym opposite.1 }

module _ (service : Service) (c d : Config) (line other tei : ℕ) (ds : List StepAt) (can : CanCall c line d other tei) (called : All (IsCall service tei) ds) where
  abbrev its_wire : Wire
  its_wire = calling service tei c line d other

  rt : IsInRange (terms c service tei)
  rt = terms_in_range c can.near.0 service tei can.terminal

  ru : IsInRange (terms d service tei)
  ru = terms_in_range d can.far.0 service tei can.terminal

  begun : Both service tei c d 0 0 unheard unheard its_wire (end (terms c service tei) asked []) (end (terms d service tei) fresh [])
  begun = record { near = calls service tei c can.near.0 can.terminal line can.near.1; far = answers service tei d can.far.0 can.terminal other can.far.1 }

  pub still-up : IsStill (doing_all ds its_wire) → AreUp service tei c d 0 0 (told_first service tei (both_call ds its_wire)) (doing_all ds its_wire)
  still-up still = begun-up service tei can.terminal c d 0 0 (faces c d can.opposite) (faces-back c d can.opposite) rt ru its_wire begun ds called still

  comes : ComesThrough service tei (turns ds its_wire) (both_call ds its_wire) (doing_all ds its_wire)
  comes = begun-comes service tei can.terminal c d 0 0 (faces c d can.opposite) (faces-back c d can.opposite) rt ru its_wire begun ds called

pub calls-come-through : CallsComeThrough
calls-come-through service c d line other tei ds can called = comes service c d line other tei ds can called
