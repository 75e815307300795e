-- A whole call in which timers are timely and UA is not lost: both ends stay up, and what was lost arrives.
use Rattle.laws_wire.proofs.Vocabulary.{◌≡◌, ◌≢◌, ℕ, suc, ◌+◌, Bool, true, false, ◌==◌, ◌||◌, List, [], ◌∷◌, ◌++◌, length, map, None, is_some, refl, sym, ap, ◌∙◌, ◌⊎◌, inl, inr, eqb-true, arith, All, flat_map, list_any, and_parts, or_parts, All-nil, All-cons, All-head, All-tail, list_any-append, Note, Service, Timer, Parts, ControlFrame, Terms, fresh, IsInRange, Ends, Config, LineTold, terms}
use Rattle.laws_wire.proofs.Vocabulary.{all-arrived, T200, Endpoint, Wire}
use Rattle.laws_wire.proofs.Vocabulary.{EndStep, requests, sends, receives, loses, expires, StepAt, at_near, at_far, acting, turned, doing, doing_all, answered, gave, next, IsStill, calling, confirmed, indicated, data_told, for_layer_3, heard_in, is_error, HasNoError, IsRoughTalkOf, IsRoughTalk, is_poll, is_final, IsTimelyOf, IsSpared, IsTimely, StayTimely, both_expire, round, rounds, HasNoErrors}
use Rattle.laws_wire.proofs.Vocabulary.{BothMayRepeat}
use Rattle.laws_wire.proofs.Vocabulary.{HasMissing, HasArrived, with_t200_expired, WhatIsLostArrives, CanCall, is_ua, gives_one, gives_information, frames_by, timer_T200, read_as, StayPatient, TwoLinksHasArrived, nothing-to_send, spelling, LinkEndpoint, own_side}
use Rattle.laws_wire.proofs.Acting.{sound}
use Rattle.laws_wire.proofs.Awaited.{NoneOpen, may-there, open-here}
use Rattle.laws_wire.proofs.Calling.{asked, answering, end, called, sabme, ua}
use Rattle.laws_wire.proofs.Firm.{firm-of, as-loose}
use Rattle.laws_wire.proofs.FirmUp.{AreTame, AreUp, tame-ends, tame-runs, tame-starts}
use Rattle.laws_wire.proofs.Held.{Held, held-given, held-lost, held-expired}
use Rattle.laws_wire.proofs.LooseUp.{LooseAt, LooseUp}
use Rattle.laws_wire.proofs.LossyRun.{Setting, setting}
use Rattle.laws_wire.proofs.Ringing.{its_sabme, Tries, none_tried, ringing as ringing_as, answered as answered_as}
use Rattle.laws_wire.proofs.Simulated.{full}
use Rattle.laws_wire.proofs.StillRinging.{hears-sabme, hears-ua}
use Rattle.laws_wire.proofs.Talking.{Face}
use Rattle.laws_wire.proofs.TimelyFirst.{loose-first, near-ready, far-ready, there-taken, back-taken}
use Rattle.laws_wire.proofs.TimelyUp.{hushed, none-of, none-open}
use Rattle.laws_wire.proofs.UaLost.{RingsAt, RingingAt, rings-untold, repeats-sabme, still-rings}
use Rattle.laws_wire.proofs.UaLostRun.{Down, IsSure, by-act, down-far, down-near, down-takes, sure-near, sure-stirs, sure-gives, sure-loses, sure-hears, there}
use Rattle.laws_wire.proofs.UaSettled.{nothing-said, loose-goes_on, loose-rounds, loose-settles}
use Rattle.laws_wire.proofs.UaTold.{sure-still}

-- ---- what layer 3 heard has the errors that were told

abbrev has_error : LineTold → Bool
has_error t = list_any is_error t.notes

abbrev IsFair : LineTold → Type 0
IsFair t = has_error t ≡ false

no-notes : (ns : List Note) → (length ns == 0) ≡ true → list_any is_error ns ≡ false
no-notes [] e = refl
no-notes (n ∷ ns) e = let none : suc (length ns) ≡ 0 = eqb-true (length (n ∷ ns)) 0 e in absurd (omega (arith, none))

one-fair : (t : LineTold) → list_any has_error (for_layer_3 t) ≡ false → IsFair t
one-fair t = grind (arith, is_some, no-notes, and_parts, or_parts)

all-fair : (ts : List LineTold) → list_any has_error (flat_map for_layer_3 ts) ≡ false → All IsFair ts
all-fair [] h = All-nil IsFair
all-fair (t ∷ ts) h =
    let both = or_parts (list_any has_error (for_layer_3 t)) (list_any has_error (flat_map for_layer_3 ts)) (sym (list_any-append has_error (for_layer_3 t) (flat_map for_layer_3 ts)) ∙ h) in
    All-cons IsFair t ts (one-fair t both.0) (all-fair ts both.1)

data-fair : (service : Service) (tei : ℕ) (xs : List (List ℕ)) → list_any has_error (map (data_told service tei) xs) ≡ false
data-fair service tei [] = refl
data-fair service tei (x ∷ xs) = data-fair service tei xs

nothing-heard : (s : Endpoint) → heard_in s ≡ [] → HasNoError s
nothing-heard s e = all-fair s.told (ap (list_any has_error) e)

-- what a station heard is what its link delivered, behind what was told before
told-fair : (service : Service) (tei : ℕ) (k : Config) (place : ℕ) (past : List LineTold) (s : Endpoint) (n : LinkEndpoint) → Held k service tei place past s n → list_any has_error past ≡ false → HasNoError s
told-fair service tei k place past s n h none =
    all-fair s.told
    (ap (list_any has_error) h.heard ∙ list_any-append has_error past (map (data_told service tei) n.delivered) ∙ (λ i. none i || data-fair service tei n.delivered i))

-- ---- the run

one-round : (k j : ℕ) → k ≡ suc j → (w : Wire) → rounds k w ≡ rounds j (doing_all round w)
unfolding rounds
one-round k j e w = ap (λ i. rounds i w) e

module _ (service : Service) (tei : ℕ) (c d : Config) (p q : ℕ) (face : Face c d) (back : Face d c) (rt : IsInRange (terms c service tei)) (ru : IsInRange (terms d service tei)) where
  abbrev its_far : List LineTold
  its_far = indicated service tei ∷ []

  abbrev Off : Endpoint → Type 0
  Off s = Down service tei c d p q face back rt ru s

  abbrev Rings : List ControlFrame → List Parts → Wire → Type 0
  Rings ws way w = RingsAt service tei c p Off ws way w

  abbrev Sure : Bool → Wire → Type 0
  Sure b w = IsSure service tei c d p q face back rt ru its_far b w

  -- it rings, and the other end is down; or that took SABME, and its UA is to come, or came
  abbrev OnTime : Wire → Type 0
  OnTime w = RingingAt service tei c p Off w ⊎ ((b : Bool) × Sure b w)

  near-goes : (act : EndStep) → IsRoughTalkOf service tei act → (w : Wire) → IsTimelyOf act w → OnTime w → OnTime (acting act w)
  near-goes act is w x (inl h) = inl (down-near service tei c d p q face back rt ru w h act (full service tei act is) x)
  near-goes act is w x (inr (b, h)) = inr (b, sure-near service tei c d p q face back rt ru its_far b w h act (full service tei act is) x)

  abbrev done : EndStep → Wire → Wire
  done act w = turned (acting act (turned w))

  sure-far : (b : Bool) (w : Wire) → Sure b w → (act : EndStep) → IsRoughTalkOf service tei act → IsTimelyOf act (turned w) → IsSpared act w → OnTime (done act w)
  sure-far b w h (requests r) is x y =
      inr (b, sure-stirs service tei c d p q face back rt ru its_far b w (requests r) (λ e. cc e) (λ e. cc e) (λ e. cc e) (full service tei (requests r) is) x h)
  sure-far b w h (expires timer) is x y = inr (b, sure-stirs service tei c d p q face back rt ru its_far b w (expires timer) (λ e. cc e) (λ e. cc e) (λ e. cc e) is x h)
  sure-far b w h sends is x y = inr ((b || gives_information w.far), sure-gives service tei c d p q face back rt ru its_far b w h)
  sure-far b w h receives is x y = inr (b, (sure-hears service tei c d p q face back rt ru its_far b w h).1)
  sure-far b w h loses is x y = elim (sure-loses service tei c d p q face back rt ru its_far b w h) [ inl z ↦ inr (b, z) | inr z ↦ absurd (y z.0) ]

  far-goes : (act : EndStep) → IsRoughTalkOf service tei act → (w : Wire) → IsTimelyOf act (turned w) → IsSpared act w → OnTime w → OnTime (done act w)
  far-goes act is w x y (inr (b, h)) = sure-far b w h act is x y
  far-goes act is w x y (inl h) =
      by-act service tei c d p q face back rt ru (λ act. IsRoughTalkOf service tei act → OnTime (done act w))
      (λ act not is. inl (down-far service tei c d p q face back rt ru w h act not (full service tei act is)))
      (λ is. elim (down-takes service tei c d p q face back rt ru w h) [ inl z ↦ inl z.1 | inr z ↦ inr (false, inl z.1) ]) act is

  -- and neither end was ever busy
  pub record On (w : Wire) : Type 0 where
    pub time : OnTime w
    pub tame : AreTame service tei c d p q w

  pub runs : (ds : List StepAt) → All (IsRoughTalk service tei) ds → (w : Wire) → StayTimely ds w → On w → On (doing_all ds w)
  unfolding doing_all StayTimely
  runs ds all w timely h = record { time = go ds all w timely h.time; tame = tame-runs service tei c d p q face back ds all w h.tame }
    where
      one : (k : StepAt) → IsRoughTalk service tei k → (w : Wire) → IsTimely k w → OnTime w → OnTime (doing k w)
      one (at_near act) is w x h = near-goes act is w x h
      one (at_far act) is w x h = far-goes act is w x.0 x.1 h

      go : (ds : List StepAt) → All (IsRoughTalk service tei) ds → (w : Wire) → StayTimely ds w → OnTime w → OnTime (doing_all ds w)
      go [] all w x h = h
      go (k ∷ ds) all w x h = go ds (All-tail (IsRoughTalk service tei) k ds all) (doing k w) x.1 (one k (All-head (IsRoughTalk service tei) k ds all) w x.0 h)

  pub fair : (w : Wire) → On w → HasNoErrors w
  fair w h = go h.time
    where
      near-fair : (past : List LineTold) (n : LinkEndpoint) → Held c service tei p past w.near n → list_any has_error past ≡ false → HasNoError w.near
      near-fair past n held none = told-fair service tei c p past w.near n held none

      far-fair : (past : List LineTold) (m : LinkEndpoint) → Held d service tei q past w.far m → list_any has_error past ≡ false → HasNoError w.far
      far-fair past m held none = told-fair service tei d q past w.far m held none

      go : OnTime w → HasNoErrors w
      go (inl h) = (nothing-heard w.near (rings-untold service tei c p Off w h), far-fair _ _ (there service tei c d p q face back rt ru w Off h) refl)
      go (inr (b, inl h)) = (near-fair _ _ h.near refl, far-fair _ _ h.far.held refl)
      go (inr (b, inr (inl h))) = (near-fair _ _ h.near refl, far-fair _ _ h.far refl)
      go (inr (b, inr (inr h))) = (near-fair _ _ h.near refl, far-fair _ _ h.far refl)

  -- ---- where both ends are up

  abbrev Up : Wire → LinkEndpoint → LinkEndpoint → Type 0
  Up w n m = LooseAt service tei c d p q (confirmed service tei ∷ []) its_far w n m

  pub both-up : (w : Wire) → On w → LooseUp service tei c d p q (confirmed service tei ∷ []) its_far w → AreUp service tei c d p q (confirmed service tei ∷ []) its_far w
  both-up w on h = record {
    n = h.n;
    m = h.m;
    up = record { near = h.near; far = h.far; firm = firm-of h.n h.m h.loose (tame-ends service tei c d p q w on.tame h.n h.m h.near.stands h.far.stands) };
  }

  -- once the end that called was told anything
  pub are-up : (w : Wire) → On w → heard_in w.near ≢ [] → AreUp service tei c d p q (confirmed service tei ∷ []) its_far w
  are-up w on told = go on.time
    where
      go : OnTime w → AreUp service tei c d p q (confirmed service tei ∷ []) its_far w
      go (inl h) = absurd (told (rings-untold service tei c p Off w h))
      go (inr (b, inl h)) = absurd (told h.near.heard)
      go (inr (b, inr (inl h))) = absurd (told h.near.heard)
      go (inr (b, inr (inr h))) = both-up w on h

  -- where no turn is left both are up, or SABME was lost
  still-so : (w : Wire) → On w → IsStill w → Rings [] [] w ⊎ AreUp service tei c d p q (confirmed service tei ∷ []) its_far w
  still-so w on still = go on.time
    where
      go : OnTime w → Rings [] [] w ⊎ AreUp service tei c d p q (confirmed service tei ∷ []) its_far w
      go (inl h) = inl (still-rings service tei c d p q face back rt ru Off w h still)
      go (inr (b, h)) = inr (both-up w on (sure-still service tei c d p q face back rt ru its_far b w h still))

  -- what has arrived at the links has arrived
  arrived : (before w : Wire) (e : Ends) (cn cm : List (List ℕ)) → Up w e.near e.far → TwoLinksHasArrived cn e.near e.far → TwoLinksHasArrived cm e.far e.near
      → before.near.granted ≡ cn → before.far.granted ≡ cm → HasArrived service tei before w
  arrived before w e cn cm h x y near far = (
    h.near.heard ∙ ap (λ xs. (confirmed service tei ∷ []) ++ map (data_told service tei) xs) (y.delivered ∙ sym far),
    h.far.heard ∙ ap (λ xs. its_far ++ map (data_told service tei) xs) (x.delivered ∙ sym near),
    record {
      near = nothing-said service tei c p (confirmed service tei ∷ []) w.near e.near h.near (nothing-to_send e.near.terms e.near.link x.nothing);
      far = nothing-said service tei d q its_far w.far e.far h.far (nothing-to_send e.far.terms e.far.link y.nothing);
      near_way = h.near.stands.way ∙ ap (map (spelling (own_side c))) x.way;
      far_way = h.far.stands.way ∙ ap (map (spelling (own_side d))) y.way;
    },
  )

  -- UA is not the next frame of an end that has none
  no-ua : (s : Endpoint) → answered next s ≡ gave None → gives_one is_ua s ≡ false
  no-ua s none = ap (λ a. list_any (λ (x : Parts). is_ua x.control) (flat_map (read_as s.card.config) (frames_by a))) none

  module _ (w : Wire) (h : AreUp service tei c d p q (confirmed service tei ∷ []) its_far w) (still : IsStill w) (may : BothMayRepeat service tei w) where
    loose : Up w h.n h.m
    loose = record { near = h.up.near; far = h.up.far; loose = as-loose h.n h.m h.up.firm }

    -- T200 is timely at both ends
    up-goes_on : StayTimely (both_expire service tei) w
    unfolding StayTimely StayPatient
    up-goes_on =
        let patient =
        loose-goes_on service tei c d p q face back (confirmed service tei ∷ []) its_far w h.n h.m loose still may h.up.firm.near_tame.own_free
        h.up.firm.far_tame.own_free in (patient.0, ((patient.1.0, λ none. no-ua w.far still.far), tt))

    up-arrives : (u : ℕ) → HasMissing service tei u w → HasArrived service tei w (rounds (u + 3) (with_t200_expired service tei w))
    up-arrives u few =
        let x =
        loose-settles service tei c d p q face back (confirmed service tei ∷ []) its_far w h.n h.m loose still may h.up.firm.near_tame.own_free
        h.up.firm.far_tame.own_free u few.0 few.1 in
        (x.near, x.far, x.rests)

  -- SABME was lost: it goes again, and both are up
  module _ (w : Wire) (h : Rings [] [] w) (may : BothMayRepeat service tei w) where
    abbrev timer : Timer
    timer = timer_T200 service tei

    abbrev expired : Wire
    expired = with_t200_expired service tei w

    abbrev t : Terms
    t = terms c service tei

    abbrev v : Terms
    v = terms d service tei

    repeated : Rings (its_sabme ∷ []) [] (acting (expires timer) w)
    repeated = repeats-sabme service tei c d p q face back rt ru Off w h (may-there service tei c p w.near (end t (ringing_as h.repeats []) []) h.near.stands may.0 refl refl)

    again : Rings (its_sabme ∷ []) [] expired
    again = record {
      repeats = repeated.repeats;
      near = repeated.near;
      far = held-expired service tei q [] d w.far (end v fresh []) h.far timer T200 (λ l. refl) (record { its_notes = refl; no_unit = refl }) refl;
    }

    abbrev k : Tries
    k = again.repeats

    -- the first round
    first : Up (doing_all round expired) (end t (answered_as k []) []) (end v called [])
    unfolding doing_all
    first =
        let w1 = acting sends expired in
        let near1 : Held c service tei p [] w1.near (end t (ringing_as k []) (sabme t ∷ [])) = held-given service tei p [] c expired.near (end t (ringing_as k (its_sabme ∷ [])) []) again.near refl in
        let w2 = turned (acting receives (turned w1)) in
        let near2 = held-lost service tei p [] c w1.near (end t (ringing_as k []) (sabme t ∷ [])) near1 in
        let far2 = hears-sabme service tei d c q p back ru (turned w1) again.far (end t (ringing_as k []) (sabme t ∷ [])) near1 t [] refl in
        let w3 = turned (acting sends (turned w2)) in
        let far3 : Held d service tei q its_far w3.far (end v called (ua v ∷ [])) = held-given service tei q its_far d w2.far (end v answering []) far2 refl in
        record {
          near = hears-ua service tei c d p q face w3 k [] [] near2 its_far (end v called (ua v ∷ [])) far3 v [] refl;
          far = held-lost service tei q its_far d w3.far (end v called (ua v ∷ [])) far3;
          loose = loose-first t v rt ru face.n201 k (sound service tei p [] c w2.near (end t (ringing_as k []) []) near2).repeats;
        }

    pub lost-arrives : (u : ℕ) → HasArrived service tei w (rounds (u + 3) expired)
    lost-arrives u =
        let n = end t (answered_as k []) [] in
        let m = end v called [] in
        let e : Ends = record { near = n; far = m } in
        let w' = doing_all round expired in
        let j = (u + 1) + 1 in
        let last = loose-rounds service tei c d p q face back (confirmed service tei ∷ []) its_far j w' e first in
        let few = (sound service tei p (confirmed service tei ∷ []) c w'.near n first.near).repeats in
        let all = all-arrived (u + 1) e (near-ready t v rt ru face.n201 k few) (far-ready t v rt ru face.n201 k few) (there-taken t v rt ru face.n201 k few) (back-taken t v rt ru face.n201 k few) (omega arith) (omega arith) in
        grind (arith, one-round, arrived)

    -- and that is timely at both ends
    pub lost-goes_on : IsStill w → StayTimely (both_expire service tei) w
    unfolding StayTimely
    lost-goes_on still =
        let n = end t (ringing_as h.repeats []) [] in
        let m = end v fresh [] in
        let near = hushed service tei c p [] w.near n h.near still.near still.near_way in
        let w' = acting (expires timer) w in
        let n' = end t (ringing_as repeated.repeats (its_sabme ∷ [])) [] in
        let sabme-alone = All-cons (λ (f : ControlFrame). is_final f.command f.control ≡ false) its_sabme [] refl (All-nil (λ (f : ControlFrame). is_final f.command f.control ≡ false)) in
        let open_ : NoneOpen m n' = record { commands = none-of service tei is_poll m refl refl; responses = record { waiting = sabme-alone; way = All-nil (λ (f : Parts). is_final f.address.command f.control ≡ false) } } in (
          (λ no. open-here service tei c d p q w.near w.far n m h.near.stands h.far.stands (none-open service tei n m near (hushed service tei d q [] w.far m h.far still.far still.far_way)), may.0),
          (((λ no. open-here service tei d c q p w.far w'.near m n' h.far.stands repeated.near.stands open_, may.1), λ none. no-ua w.far still.far), tt),
        )

  abbrev Arrives : ℕ → Wire → Type 0
  Arrives u w = HasArrived service tei w (rounds (u + 3) (with_t200_expired service tei w))

  pub arrives : (w : Wire) → On w → (u : ℕ) → IsStill w → HasMissing service tei u w → BothMayRepeat service tei w → Arrives u w
  arrives w on u still missing may = elim (still-so w on still) [ inl h ↦ lost-arrives w h may u | inr h ↦ up-arrives w h still may u missing ]

  -- and there T200 of both ends is timely
  pub goes-on : (w : Wire) → On w → IsStill w → BothMayRepeat service tei w → StayTimely (both_expire service tei) w
  goes-on w on still may = elim (still-so w on still) [ inl h ↦ lost-goes_on w h may still | inr h ↦ up-goes_on w h still may ]

-- a call as it begins
pub starts : (service : Service) (c d : Config) (line other tei : ℕ) (x : Setting service c d line other tei) → On service tei c d 0 0 x.face x.back x.near x.far (calling service tei c line d other)
starts service c d line other tei x = record {
  time = inl (inr (inl (record { repeats = none_tried; near = x.near_held; far = x.far_held })));
  tame = tame-starts service tei c d 0 0 (calling service tei c line d other) (end (terms c service tei) asked []) (end (terms d service tei) fresh []) x.near_held.stands x.far_held.stands (grind arith) (grind arith);
}

-- and at any time of it
pub on-time : (service : Service) (c d : Config) (line other tei : ℕ) (ds : List StepAt) (can : CanCall c line d other tei) → All (IsRoughTalk service tei) ds
    → let x = setting service c d line other tei can in let w = calling service tei c line d other in StayTimely ds w
    → On service tei c d 0 0 x.face x.back x.near x.far (doing_all ds w)
on-time service c d line other tei ds can talk timely =
    let x = setting service c d line other tei can in
    runs service tei c d 0 0 x.face x.back x.near x.far ds talk (calling service tei c line d other) timely (starts service c d line other tei x)

pub what-is-lost-arrives : WhatIsLostArrives
what-is-lost-arrives service c d line other tei ds can talk = λ timely.
    let x = setting service c d line other tei can in
    let w = doing_all ds (calling service tei c line d other) in
    let h = on-time service c d line other tei ds can talk timely in
    record {
      no_error = fair service tei c d 0 0 x.face x.back x.near x.far w h;
      arrives = arrives service tei c d 0 0 x.face x.back x.near x.far w h;
      goes_on = goes-on service tei c d 0 0 x.face x.back x.near x.far w h;
    }
