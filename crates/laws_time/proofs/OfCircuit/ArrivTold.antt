-- What is told in a call with losses on a wire: which errors, and all data whose sender keeps nothing any more.
use Rattle.laws_time.proofs.Vocabulary.{All, All-append, All-cons, All-head, All-nil, All-replicate, All-tail, AreAsked, AreOctets, Beat, Bool, Call, Called, CallsBearNoise, CanCall, Clocked, Config, ErrorCode, Establish, F, Face, FrameEndpoint, FrameEndpoint as Endpoint, Held, IsAsked, IsBeginningOf, IsClean, IsFit, IsFullTalk, IsIdle, IsInRangeTerms as IsInRange, IsOfLink, IsTalk}
use Rattle.laws_time.proofs.Vocabulary.{IsTold, Line, LineTold, Link, LinkEndpoint, List, OctetEndpoint, Ok, Room, Service, StationStands, StayPatient, StepAt, Terms, TimedEndpoint, ToldSo, Wire, [], after, all-left, ap, append-nil, arith, at_far, at_near, bad_tei, begins, behind, calling, calls, cond, confirmed, contents_at, data_told, doing, drop, end, error_f, errors_at, expires, false}
use Rattle.laws_time.proofs.Vocabulary.{first_that_holds, flat_map, flat_map-append, for_layer_3, free_slots, front-none, indicated, inl, inr, is_used_up, length, length-drop, line_at, link-is, link-ranges, link-sound, link_of, list_any, list_any-append, loses, lossy-calls-come-through, map, nil_from_length, no_link, not-told, option_to_list, or_parts, patient-goes, plain, queue_of, receives}
use Rattle.laws_time.proofs.Vocabulary.{refl, renewed, replicate, requests, rising-low, room_of, seeing, seen, sends, setting, subst, sym, take, take_all, takes_sabme, terms, true, ua, uncalled, wire_doing_all as doing_all, with_before, with_sabme, ℕ, ◌++◌, ◌<◌, ◌==◌, ◌∙◌, ◌∷◌, ◌≡◌, ◌≤◌, ◌⊎◌, by-either}
use Rattle.laws_wire.proofs.UaLostRun as run
use Rattle.model_link.proofs.Direction.{line_of}
use Rattle.model_card.specs.Room.{room}
use Rattle.laws_wire.specs.Losing.{heard_in}
use Rattle.laws_wire.proofs.Ringing.{answered}
use Rattle.laws_wire.proofs.UaPhases.{comes-none}
use Rattle.laws_time.proofs.OfCircuit.ArrivSide.{codes, codes-append}
use Rattle.laws_time.proofs.OfCircuit.CaughtAll.{its-room}
use Rattle.laws_time.proofs.OfCircuit.ArrivIdle.{reached}
use Rattle.laws_time.proofs.OfCircuit.ArrivBeat.{Reached}
use Rattle.laws_time.proofs.OfCircuit.ArrivAs.{station, heard_of}
use Rattle.laws_time.specs.circuit.WorkedArriving.{its_line, is_fit, talks, talked, none_used, no_errors, has_places, sends as sends_met}
use Rattle.laws_time.proofs.OfCircuit.AgainLaw.{no-noise-is-clear}

-- ---- codes and contents of what is told

abbrev pub contents_of : List LineTold → List (List ℕ)
contents_of ts = flat_map (λ (t : LineTold). option_to_list t.contents) ts

pub contents-append : (ts us : List LineTold) → contents_of (ts ++ us) ≡ contents_of ts ++ contents_of us
contents-append ts us = flat_map-append (λ (t : LineTold). option_to_list t.contents) ts us

codes-one : (t : LineTold) → codes (for_layer_3 t) ≡ codes (t ∷ [])
codes-one t = by t.notes refl
  where
    by : (ns : _) → t.notes ≡ ns → codes (for_layer_3 t) ≡ codes (t ∷ [])
    by [] e = grind (arith, e)
    by (n ∷ ns) e = grind (arith, e)

pub codes-heard : (ts : List LineTold) → codes (flat_map for_layer_3 ts) ≡ codes ts
codes-heard [] = refl
codes-heard (t ∷ ts) =
    codes-append (for_layer_3 t) (flat_map for_layer_3 ts) ∙ ap (λ cs. cs ++ codes (flat_map for_layer_3 ts)) (codes-one t)
    ∙ ap (λ cs. codes (t ∷ []) ++ cs) (codes-heard ts) ∙ sym (codes-append (t ∷ []) ts)

contents-one : (t : LineTold) → contents_of (for_layer_3 t) ≡ contents_of (t ∷ [])
contents-one t = grind arith

pub contents-heard : (ts : List LineTold) → contents_of (flat_map for_layer_3 ts) ≡ contents_of ts
contents-heard [] = refl
contents-heard (t ∷ ts) =
    contents-append (for_layer_3 t) (flat_map for_layer_3 ts) ∙ ap (λ cs. cs ++ contents_of (flat_map for_layer_3 ts)) (contents-one t)
    ∙ ap (λ cs. contents_of (t ∷ []) ++ cs) (contents-heard ts) ∙ sym (contents-append (t ∷ []) ts)

codes-data : (service : Service) (tei : ℕ) (xs : List (List ℕ)) → codes (map (data_told service tei) xs) ≡ []
codes-data service tei [] = refl
codes-data service tei (x ∷ xs) = codes-data service tei xs

pub contents-data : (service : Service) (tei : ℕ) (xs : List (List ℕ)) → contents_of (map (data_told service tei) xs) ≡ xs
contents-data service tei [] = refl
contents-data service tei (x ∷ xs) = ap (λ ys. x ∷ ys) (contents-data service tei xs)

abbrev IsF : ErrorCode → Type 0
IsF code = code ≡ F

-- ---- what the end that is called is told of SABME

-- Errors are F; and if there is none, nothing is given up, and it was told of one SABME at most.
pub record Known (service : Service) (tei : ℕ) (told : List LineTold) (given_up : ℕ) : Type 0 where
  pub all_f : All IsF (codes told)
  pub kinds : ((told ≡ []) × (given_up ≡ 0)) ⊎ (((told ≡ indicated service tei ∷ []) × (given_up ≡ 0)) ⊎ (codes told ≡ [] → ⊥))

module _ (service : Service) (tei : ℕ) where
  abbrev news : List LineTold → Bool → LineTold
  news told sent = cond (length told == 0) (indicated service tei) (cond sent (renewed service tei) (error_f service tei))

  some-f : (b sent : Bool) → All IsF (codes (cond b (indicated service tei) (cond sent (renewed service tei) (error_f service tei)) ∷ []))
  some-f h sent = grind arith

  one-more : (told : List LineTold) (sent : Bool) (g granted : ℕ) → Known service tei told g → (told ≡ [] → sent ≡ false) → Known service tei (told ++ news told sent ∷ []) (cond sent granted g)
  one-more told sent g granted k quiet = record {
    all_f = subst (All IsF) (sym (codes-append told (news told sent ∷ []))) (All-append IsF (codes told) (codes (news told sent ∷ [])) k.all_f (some-f (length told == 0) sent));
    kinds = go k.kinds;
  }
    where
      never : (sent : Bool) → codes (indicated service tei ∷ cond sent (renewed service tei) (error_f service tei) ∷ []) ≡ [] → ⊥
      never true e = cc e
      never false e = cc e

      go : ((told ≡ []) × (g ≡ 0)) ⊎ (((told ≡ indicated service tei ∷ []) × (g ≡ 0)) ⊎ (codes told ≡ [] → ⊥))
          → ((told ++ news told sent ∷ [] ≡ []) × (cond sent granted g ≡ 0)) ⊎ (((told ++ news told sent ∷ [] ≡ indicated service tei ∷ []) × (cond sent granted g ≡ 0)) ⊎ (codes (told ++ news told sent ∷ []) ≡ [] → ⊥))
      go (inl (e, z)) = inr (inl (ap (λ ts. ts ++ news ts sent ∷ []) e, ap (λ b. cond b granted g) (quiet e) ∙ z))
      go (inr (inl (e, z))) = inr (inr (λ none. never sent (sym (ap (λ ts. codes (ts ++ news ts sent ∷ [])) e) ∙ none)))
      go (inr (inr some)) = inr (inr (λ none. some (front-none (codes told) (codes (news told sent ∷ [])) (sym (codes-append told (news told sent ∷ [])) ∙ none))))

module _ (service : Service) (tei : ℕ) (c d : Config) (p q : ℕ) (face : Face c d) (back : Face d c) (rt : IsInRange (terms c service tei)) (ru : IsInRange (terms d service tei)) where
  abbrev pub GoesSo : Called → Wire → Type 0
  GoesSo x w = run.Goes service tei c d p q face back rt ru x w

  abbrev pub KnownOf : Called → Type 0
  KnownOf x = Known service tei x.told x.given_up

  unsent : (x : Called) (w : Wire) → GoesSo x w → x.told ≡ [] → x.sent ≡ false
  unsent x w h none = grind arith

  known-step : (x : Called) (k : StepAt) (w : Wire) → GoesSo x w → KnownOf x → KnownOf (seeing service tei k w x)
  known-step x (at_near act) w h known = known
  known-step x (at_far (requests r)) w h known = known
  known-step x (at_far (expires timer)) w h known = known
  known-step x (at_far sends) w h known = record { all_f = known.all_f; kinds = known.kinds }
  known-step x (at_far receives) w h known = go (takes_sabme w)
    where
      go : (b : Bool) → KnownOf (cond b (with_sabme service tei (length w.far.granted) x) x)
      go true = one-more service tei x.told x.sent x.given_up (length w.far.granted) known (unsent x w h)
      go false = known
  known-step x (at_far loses) w h known = known

  pub all-known : (ds : List StepAt) → All (IsFullTalk service tei) ds → (w : Wire) → StayPatient ds w → (x : Called) → GoesSo x w → KnownOf x → KnownOf (seen service tei ds w x)
  unfolding doing_all StayPatient seen
  all-known [] all w patient x h known = known
  all-known (k ∷ ds) all w patient x h known =
      all-known ds (All-tail (IsFullTalk service tei) k ds all) (doing k w) patient.1 (seeing service tei k w x)
      (run.step service tei c d p q face back rt ru x k (All-head (IsFullTalk service tei) k ds all) w patient.0 h) (known-step x k w h known)

  -- Where it was told of no SABME it was told nothing.
  untold : (x : Called) (w : Wire) → GoesSo x w → x.told ≡ [] → heard_in w.far ≡ []
  untold x w h none = grind arith

  -- ---- an end whose queue has each of its places

  module _ (k : Config) (place : ℕ) (s : Endpoint) (n : LinkEndpoint) (stands : StationStands k service tei place s n) (left : Room) (has : room s.line service tei s.card ≡ Ok left)
      (free : left.queue ≡ s.card.config.queue) where
    own : StationStands s.card.config service tei place s n
    own = subst (λ k. StationStands k service tei place s n) (sym stands.config) stands

    pub keeps-none : queue_of n.link ≡ []
    keeps-none =
        let ranges = subst IsInRange stands.terms (link-ranges service tei place s n own) in let config = stands.config in let l = line_at s.line s.card in
        let same = ap (λ (r : Room). r.queue)
        (its-room (first_that_holds (bad_tei tei ∷ no_link tei l ∷ [])) (room_of (terms s.card.config service tei) (free_slots s.card) (link_of service tei l)) left has) in
        let link = ap (λ (l : Link). length (queue_of l)) (link-is service tei k place s n stands) in let few = (link-sound service tei place s n own).queue in
        let terms_are = ap (λ (t : Terms). t.queue) stands.terms in let queue_is = ap (λ (k : Config). k.queue) config in let low = ranges.k_low in let queue_low = ranges.queue_low in
        nil_from_length (queue_of n.link) (omega (arith, same, link, few, terms_are, queue_is, low, queue_low, free))

  from-first : (xs : List (List ℕ)) (a : ℕ) → a ≡ 0 → drop a xs ≡ [] → xs ≡ []
  from-first xs a zero none = sym (ap (λ a. drop a xs) zero) ∙ none

  all-taken : (r a : ℕ) (xs : List (List ℕ)) → drop a xs ≡ [] → a ≤ r → take r xs ≡ xs
  all-taken r a xs none low = take_all r xs (let less = length-drop a xs in let zero = ap length none in omega (arith, less, zero, low))

  -- ---- so all that it was granted was told

  abbrev pub IsFree : Endpoint → Type 0
  IsFree s = (left : Room) × (room s.line service tei s.card ≡ Ok left) × (left.queue ≡ s.card.config.queue)

  abbrev all_data : List (List ℕ) → List LineTold
  all_data xs = map (data_told service tei) xs

  same-data : (past heard : List LineTold) (xs granted : List (List ℕ)) → heard ≡ past ++ all_data xs → xs ≡ [] → granted ≡ [] → heard ≡ past ++ all_data granted
  same-data past heard xs granted is none empty = is ∙ ap (λ xs. past ++ all_data xs) (none ∙ sym empty)

  module _ (past : List LineTold) (v : Wire) where
    abbrev Away : Bool → Endpoint → Type 0
    Away b s = run.Away service tei c d p q face back rt ru past b s

    away-far : (b : Bool) → run.Rs service tei c d p q face back rt ru (Away b) v → (heard_in v.far ≡ past ++ all_data v.near.granted)
    away-far b h = grind arith

    called-far : (b : Bool) → IsFree v.near → run.IsCalled service tei c d p q face back rt ru past b v → (heard_in v.far ≡ past ++ all_data v.near.granted)
    called-far b free (inl h) = away-far b h
    called-far b free (inr (inl h)) = same-data past (heard_in v.far) h.far.M.delivered v.near.granted h.far.held.heard h.far.delivered h.near.granted
    called-far b free (inr (inr (inl h))) = same-data past (heard_in v.far) h.m.delivered v.near.granted h.far.heard (comes-none service tei c d p q face back rt ru past b v h) h.near.granted
    called-far b (left, has, is) (inr (inr (inr h))) =
        let none = keeps-none c p v.near h.n h.near.stands left has is in
        h.far.heard ∙ ap (λ xs. past ++ all_data xs)
        (h.loose.joined.there.delivered ∙ all-taken h.m.link.r h.n.link.a h.n.link.contents none (rising-low h.n.link.a h.m.link.r (line_of h.m) h.loose.joined.there.rising) ∙ sym h.near.granted)

    no-contents : heard_in v.near ≡ [] → v.far.granted ≡ [] → (contents_of (heard_in v.near) ≡ v.far.granted)
    no-contents none empty = ap contents_of none ∙ sym empty

    its-none : (M : LinkEndpoint) → Held d service tei q past v.far M → M.link.a ≡ 0 → IsFree v.far → v.far.granted ≡ []
    its-none M held zero (left, has, is) = held.granted ∙ from-first M.link.contents M.link.a zero (keeps-none d q v.far M held.stands left has is)

    away-near : (b : Bool) → IsFree v.far → run.Rs service tei c d p q face back rt ru (Away b) v → v.far.granted ≡ []
    away-near b h1z h2z = grind (arith, its-none)

    called-near : (b : Bool) → IsFree v.far → run.IsCalled service tei c d p q face back rt ru past b v → (contents_of (heard_in v.near) ≡ v.far.granted)
    called-near b free (inl h) = no-contents (not-told service tei c d p q face back rt ru (Away b) v h) (away-near b free h)
    called-near b free (inr (inl h)) = no-contents h.near.heard (its-none h.far.M h.far.held h.far.poised.a free)
    called-near b free (inr (inr (inl h))) =
        no-contents h.near.heard (its-none (behind (h.stale ++ ua (terms d service tei) ∷ []) h.m) h.far
        (let n = end (terms c service tei) (answered h.repeats []) [] in let low = rising-low h.m.link.a n.link.r (line_of n) h.loose.joined.back.rising in omega (arith, low)) free)
    called-near b (left, has, is) (inr (inr (inr h))) =
        let none = keeps-none d q v.far h.m h.far.stands left has is in
        ap contents_of h.near.heard ∙ contents-data service tei h.n.delivered
        ∙ h.loose.joined.back.delivered ∙ all-taken h.n.link.r h.m.link.a h.m.link.contents none (rising-low h.m.link.a h.n.link.r (line_of h.n) h.loose.joined.back.rising) ∙ sym h.far.granted

  module _ (v : Wire) (down : run.Rs service tei c d p q face back rt ru (run.Down service tei c d p q face back rt ru) v) where
    down-far : (heard_in v.far ≡ []) × (v.near.granted ≡ []) × (v.far.granted ≡ []) × (heard_in v.near ≡ [])
    down-far = grind arith

  pub down-near : (v : Wire) → run.Rs service tei c d p q face back rt ru (run.Down service tei c d p q face back rt ru) v → heard_in v.near ≡ []
  down-near v down = (down-far v down).3

  phase-far : (x : Called) (v : Wire) → run.Phase service tei c d p q face back rt ru x v → IsFree v.near → heard_in v.far ≡ x.told ++ all_data v.near.granted
  phase-far x v (inl (told, sent, down)) free = grind arith
  phase-far x v (inr (some, h)) free = called-far x.told v x.sent free h

  phase-near : (x : Called) (v : Wire) → run.Phase service tei c d p q face back rt ru x v → IsFree v.far → contents_of (heard_in v.near) ≡ v.far.granted
  phase-near x v (inl (told, sent, down)) free = let n = down-far v down in ap contents_of n.3 ∙ sym n.2
  phase-near x v (inr (some, h)) free = called-near x.told v x.sent free h

  -- ---- all of it

  pub record Concluded (w : Wire) : Type 0 where
    pub near_codes : codes (heard_in w.near) ≡ []
    pub far_codes : All IsF (codes (heard_in w.far))
    pub near_order : codes (heard_in w.far) ≡ [] → IsBeginningOf (confirmed service tei ∷ map (data_told service tei) w.far.granted) (heard_in w.near)
    pub far_order : codes (heard_in w.far) ≡ [] → IsBeginningOf (indicated service tei ∷ map (data_told service tei) w.near.granted) (heard_in w.far)
    pub near_all : codes (heard_in w.far) ≡ [] → IsFree w.far → contents_of (heard_in w.near) ≡ w.far.granted
    pub far_all : codes (heard_in w.far) ≡ [] → IsFree w.near → contents_of (heard_in w.far) ≡ w.near.granted

  module _ (x : Called) (w : Wire) (h : GoesSo x w) (known : KnownOf x) (t : ToldSo service tei x w) where
    -- no error was told there
    pub few : codes (heard_in w.far) ≡ [] → ((x.told ≡ []) × (x.given_up ≡ 0)) ⊎ ((x.told ≡ indicated service tei ∷ []) × (x.given_up ≡ 0))
    few none = grind (arith, front-none, codes-append)

    none-given : codes (heard_in w.far) ≡ [] → x.given_up ≡ 0
    none-given none = grind (arith, few, indicated)

    pub no-earlier : codes (heard_in w.far) ≡ [] → w ≡ h.v
    no-earlier none = grind (arith, with_before, nil_from_length, none-given)

    told-contents : codes (heard_in w.far) ≡ [] → contents_of x.told ≡ []
    told-contents none = grind (arith, few, indicated)

    far-begins : codes (heard_in w.far) ≡ [] → IsBeginningOf (indicated service tei ∷ map (data_told service tei) w.near.granted) (heard_in w.far)
    far-begins none = by-either (few none)
        (λ y. (indicated service tei ∷ map (data_told service tei) w.near.granted, ap (λ ts. ts ++ (indicated service tei ∷ map (data_told service tei) w.near.granted)) (untold x w h y.0)))
        (λ y. subst (λ ts. IsBeginningOf (ts ++ map (data_told service tei) w.near.granted) (heard_in w.far)) y.0 t.far.0)

    pub concluded : Concluded w
    concluded = record {
      near_codes = grind (arith, front-none, codes, heard_in, codes-append, codes-data, drop);
      far_codes = grind (arith, all-left, codes, heard_in, codes-append, map, data_told, codes-data, append-nil);
      near_order = λ none. subst (λ n. IsBeginningOf (confirmed service tei ∷ map (data_told service tei) (drop n w.far.granted)) (heard_in w.near)) (none-given none) t.near.0;
      far_order = far-begins;
      near_all = λ none free. subst (λ w. IsFree w.far → contents_of (heard_in w.near) ≡ w.far.granted) (sym (no-earlier none)) (phase-near x h.v h.phase) free;
      far_all = λ none free.
          ap contents_of (subst (λ w. IsFree w.near → heard_in w.far ≡ x.told ++ all_data w.near.granted) (sym (no-earlier none)) (phase-far x h.v h.phase) free)
          ∙ contents-append x.told (all_data w.near.granted) ∙ ap (λ cs. cs ++ contents_of (all_data w.near.granted)) (told-contents none) ∙ contents-data service tei w.near.granted;
    }

pub starts : (service : Service) (c d : Config) (line other tei : ℕ) (can : CanCall c line d other tei) → let s = setting service c d line other tei can in
    run.Goes service tei c d 0 0 s.face s.back s.near s.far uncalled (calling service tei c line d other)
unfolding doing_all seen StayPatient
starts service c d line other tei can = patient-goes service c d line other tei [] can (All-nil (IsFullTalk service tei)) tt

-- Of a call in which T200 is long enough.
pub call-concludes : (service : Service) (c d : Config) (line other tei : ℕ) (ds : List StepAt) (can : CanCall c line d other tei) → All (IsFullTalk service tei) ds
    → let s = setting service c d line other tei can in let begun = calling service tei c line d other in StayPatient ds begun → Concluded service tei c d 0 0 s.face s.back s.near s.far (doing_all ds begun)
call-concludes service c d line other tei ds can talk patient =
    let s = setting service c d line other tei can in let begun = calling service tei c line d other in let none : Known service tei [] 0 = record { all_f = All-nil IsF; kinds = inl (refl, refl) } in
    concluded service tei c d 0 0 s.face s.back s.near s.far (seen service tei ds begun uncalled) (doing_all ds begun) (patient-goes service c d line other tei ds can talk patient)
    (all-known service tei c d 0 0 s.face s.back s.near s.far ds talk begun patient uncalled (starts service c d line other tei can) none)
    (lossy-calls-come-through service c d line other tei ds can talk patient)

-- ---- a call bears noise: what is told of it on a wire is told of the circuit

module _ (l : Line) (fit : IsFit l) (start : Wire) (w : Clocked) (r : Reached l fit start w) (face : Face l.near l.far) (back : Face l.far l.near)
    (rt : IsInRange (terms l.near l.service l.tei)) (ru : IsInRange (terms l.far l.service l.tei)) (k : Concluded l.service l.tei l.near l.far 0 0 face back rt ru r.f) where
  abbrev Free : FrameEndpoint → Type 0
  Free s = IsFree l.service l.tei l.near l.far 0 0 face back rt ru s

  -- What is said of either end.
  heard-is : (s : FrameEndpoint) (u : OctetEndpoint) (there : List (List ℕ)) (ts : List LineTold) → s ≡ station there ts u → heard_of ts ≡ heard_of u.told → heard_in s ≡ flat_map for_layer_3 u.told
  heard-is s u there ts is heard = ap heard_in is ∙ heard

  told-so : (first : LineTold) (s x : FrameEndpoint) (a b : TimedEndpoint) (there back : List (List ℕ)) (ts us : List LineTold) → s ≡ station there ts a.at → x ≡ station back us b.at → heard_of us ≡ heard_of b.at.told
      → IsBeginningOf (first ∷ map (data_told l.service l.tei) s.granted) (heard_in x) → (Free s → contents_of (heard_in x) ≡ s.granted) → IsTold l first a b
  told-so first s x a b there back ts us is same heard order all = grind (arith, heard-is, map, data_told, heard_in, contents-heard, contents_of)

  pub is-told : (errors_at w.near ≡ []) × All (λ code. code ≡ F) (errors_at w.far) × (errors_at w.far ≡ [] → IsTold l (confirmed l.service l.tei) w.far w.near × IsTold l (indicated l.service l.tei) w.near w.far)
  is-told =
      let s = r.same in
      let near_codes : errors_at w.near ≡ codes (heard_in r.f.near) = sym (codes-heard w.near.at.told) ∙ ap codes (sym (heard-is r.f.near w.near.at s.there s.ts s.near_is s.near_heard)) in
      let far_codes : errors_at w.far ≡ codes (heard_in r.f.far) = sym (codes-heard w.far.at.told) ∙ ap codes (sym (heard-is r.f.far w.far.at s.back s.us s.far_is s.far_heard)) in (
        near_codes ∙ k.near_codes,
        subst (All (λ code. code ≡ F)) (sym far_codes) k.far_codes,
        λ none. let quiet = sym far_codes ∙ none in (
          told-so (confirmed l.service l.tei) r.f.far r.f.near w.far w.near s.back s.there s.us s.ts s.far_is s.near_is s.near_heard (k.near_order quiet) (k.near_all quiet),
          told-so (indicated l.service l.tei) r.f.near r.f.far w.near w.far s.there s.back s.ts s.us s.near_is s.far_is s.far_heard (k.far_order quiet) (k.far_all quiet),
        ),
      )

pub calls-bear-noise : CallsBearNoise
calls-bear-noise l before bs b fit idle all clear = λ fair.
    let w = after l.rate (before ++ calls l b ∷ bs) (begins l) in
    let both = or_parts (list_any is_used_up (errors_at w.near)) (list_any is_used_up (errors_at w.far)) (sym (list_any-append is_used_up (errors_at w.near) (errors_at w.far)) ∙ fair) in
    let r = reached l fit before b bs idle (All-head (AreAsked l) b bs all) (All-tail (AreAsked l) b bs all) clear both in
    let s = setting l.service l.near l.far l.near_line l.far_line l.tei fit.call in
    is-told l fit (calling l.service l.tei l.near l.near_line l.far l.far_line) w r s.face s.back s.near s.far
    (subst (Concluded l.service l.tei l.near l.far 0 0 s.face s.back s.near s.far) r.path.leads
    (call-concludes l.service l.near l.far l.near_line l.far_line l.tei r.path.steps fit.call r.path.done r.path.patient))

-- ---- a run without noise meets the premises of `calls_bear_noise`

talks-all : (P : Beat → Type 0) → P plain → P sends_met → All P talks
talks-all P first then = All-append P (replicate 15 plain) (sends_met ∷ replicate 20 plain) (All-replicate P 15 plain first) (All-cons P sends_met (replicate 20 plain) then (All-replicate P 20 plain first))

pub octet : AreOctets (0xAB ∷ [])
octet = All-cons (λ octet. octet < 256) 0xAB [] (omega arith) (All-nil (λ octet. octet < 256))

all-asked : All (AreAsked its_line) (plain ∷ talks)
all-asked =
    All-cons (AreAsked its_line) plain talks (All-nil (IsAsked its_line), All-nil (IsAsked its_line)) (talks-all (AreAsked its_line) (All-nil (IsAsked its_line), All-nil (IsAsked its_line))
    (All-cons (IsAsked its_line) (Rattle.model_line.specs.Request.Data Call 0 (0xAB ∷ [])) [] (refl, refl, octet) (All-nil (IsAsked its_line)), All-nil (IsAsked its_line)))

all-talk : All (IsTalk its_line) (calls its_line plain ∷ talks)
all-talk =
    All-cons (IsTalk its_line) (calls its_line plain) talks (All-cons (IsOfLink Call 0) (Establish Call 0) [] (refl, refl) (All-nil (IsOfLink Call 0)), All-nil (IsOfLink Call 0))
    (talks-all (IsTalk its_line) (All-nil (IsOfLink Call 0), All-nil (IsOfLink Call 0))
    (All-cons (IsOfLink Call 0) (Rattle.model_line.specs.Request.Data Call 0 (0xAB ∷ [])) [] (refl, refl, octet) (All-nil (IsOfLink Call 0)), All-nil (IsOfLink Call 0)))

-- So all was told there.
all-told : contents_at talked.far ≡ talked.near.at.granted
all-told = ((calls-bear-noise its_line [] talks plain is_fit (All-nil IsIdle) all-asked (no-noise-is-clear its_line (calls its_line plain ∷ talks) is_fit all-talk (All-cons IsClean (calls its_line plain) talks (refl, refl) (talks-all IsClean (refl, refl) (refl, refl)))) none_used).2 no_errors).1.all has_places
