-- Two wires that differ in what was granted and told alone: whatever is done on both leaves them so.
use Rattle.laws_time.proofs.Vocabulary.{All-map, All-weaker, All, All-head, All-tail, Config, EndStep as Step, Face, FrameEndpoint as Endpoint, LineTold, Link, LinkEndpoint, List, Past, Service, StepAt, Talk, Wire, [], ap, arith, at_far, at_near, does, doing, false, inl, inr, length, map, own_link, read_as, receives, refl, requests, sends, subst, turned, wire_doing_all as doing_all, ℕ, ◌++◌, ◌+◌}
use Rattle.laws_time.proofs.Vocabulary.{◌-◌, ◌∙◌, ◌∷◌, ◌≡◌, ◌≤◌}
use Rattle.laws_wire.specs.Call.{IsTalk}
use Rattle.laws_time.proofs.OfCircuit.AckedWire.{near_takes, infos, infos-append, parts_in, far_takes, Counted, Flows, flows, Heeds, Acks, acks-on, counted-up, window-near, far-clears, acks-all, heeds-step}

pub record Log : Type 0 where
  pub granted : List (List ℕ)
  pub told : List LineTold

abbrev pub logged : Log → Endpoint → Endpoint
logged x s = record s { granted = x.granted; told = x.told }

abbrev pub log_of : Endpoint → Log
log_of s = record { granted = s.granted; told = s.told }

abbrev pub relogged : Log → Log → Wire → Wire
relogged x y w = record { near = logged x w.near; far = logged y w.far }

pub doing-logged : (k : StepAt) (x y : Log) (w : Wire) → doing k (relogged x y w) ≡ relogged (log_of (doing k (relogged x y w)).near) (log_of (doing k (relogged x y w)).far) (doing k w)
doing-logged h x y w = grind arith

pub takes-logged : (k : StepAt) (x y : Log) (w : Wire) → near_takes k (relogged x y w) ≡ near_takes k w
takes-logged h x y w = grind arith

-- ---- a call on a wire: once SABME and UA are received both ends are up, and once so much more is received all that was sent is acknowledged

-- What each step keeps, a list of them keeps.
pub steps-keep : (P : Wire → Type 0) (Q : StepAt → Type 0) → ((k : StepAt) (w : Wire) → Q k → P w → P (doing k w)) → (es : List StepAt) → All Q es → (w : Wire) → P w → P (doing_all es w)
unfolding doing_all
steps-keep P Q keeps [] all w h = h
steps-keep P Q keeps (k ∷ ks) all w h = steps-keep P Q keeps ks (All-tail Q k ks all) (doing k w) (keeps k w (All-head Q k ks all) h)

-- ---- so often in a list of steps

unfoldable pub sum_all : (StepAt → Wire → ℕ) → List StepAt → Wire → ℕ
sum_all f [] w = 0
sum_all f (k ∷ ks) w = f k w + sum_all f ks (doing k w)

abbrev pub sends_of : Step → ℕ
sends_of sends = 1
sends_of other = 0

abbrev pub near_sends : StepAt → Wire → ℕ
near_sends (at_near act) w = sends_of act
near_sends (at_far act) w = 0

abbrev pub far_sends : StepAt → Wire → ℕ
far_sends (at_near act) w = 0
far_sends (at_far act) w = sends_of act

-- The same from the other end.
abbrev pub turn : StepAt → StepAt
turn (at_near act) = at_far act
turn (at_far act) = at_near act

pub all-turned : (P : StepAt → Type 0) → ((k : StepAt) → P k → P (turn k)) → (es : List StepAt) → All P es → All P (map turn es)
all-turned P one es all = All-map P turn es (All-weaker P (λ k. P (turn k)) one es all)

doing-turned : (k : StepAt) (w : Wire) → doing (turn k) (turned w) ≡ turned (doing k w)
doing-turned k w = grind arith

pub turn-all : (es : List StepAt) (w : Wire) → doing_all (map turn es) (turned w) ≡ turned (doing_all es w)
unfolding doing_all
turn-all [] w = refl
turn-all (k ∷ ks) w = ap (doing_all (map turn ks)) (doing-turned k w) ∙ turn-all ks (doing k w)

pub takes-turned : (k : StepAt) (w : Wire) → near_takes (turn k) (turned w) ≡ far_takes k w
takes-turned k w = grind arith

pub sends-turned : (k : StepAt) (w : Wire) → far_sends (turn k) (turned w) ≡ near_sends k w
sends-turned k w = grind arith

pub sum-turned : (f g : StepAt → Wire → ℕ) → ((k : StepAt) (w : Wire) → f (turn k) (turned w) ≡ g k w) → (es : List StepAt) (w : Wire) → sum_all f (map turn es) (turned w) ≡ sum_all g es w
unfolding sum_all
sum-turned f g same [] w = refl
sum-turned f g same (k ∷ ks) w = let one = same k w in let rest = ap (sum_all f (map turn ks)) (doing-turned k w) ∙ sum-turned f g same ks (doing k w) in omega (arith, one, rest)

pub record Moves (before now : Link) : Type 0 where
  pub low : before.a ≤ now.a
  pub high : now.a ≤ before.a + 127
  pub sent : before.s ≤ now.s

module _ (service : Service) (tei : ℕ) where
  abbrev Talks : StepAt → Type 0
  Talks k = IsTalk service tei k

  talk-turned : (k : StepAt) → Talks k → Talks (turn k)
  talk-turned h is = grind arith

  pub talks-turned : (es : List StepAt) → All Talks es → All Talks (map turn es)
  talks-turned = all-turned Talks talk-turned

  parts-append : (c : Config) (xs ys : List (List ℕ)) → infos (parts_in service tei c (xs ++ ys)) ≡ infos (parts_in service tei c xs) + infos (parts_in service tei c ys)
  parts-append c [] ys = omega arith
  parts-append c (x ∷ xs) ys =
      let rest = parts-append c xs ys in let one = infos-append (read_as c x) (parts_in service tei c (xs ++ ys)) in
      let two = infos-append (read_as c x) (parts_in service tei c xs) in omega (arith, rest, one, two)

  pub grows : (c : Config) (t r r' s s' : ℕ) (way way' : List (List ℕ)) → Flows service tei c t r way r' way' → r + infos (parts_in service tei c way) ≡ s → r' + infos (parts_in service tei c way') ≡ s' → (r ≤ r') × (s ≤ s')
  grows c t r r' s s' way way' h1z h2z h3z = grind (arith, parts-append, infos-append)

  -- ---- both ends are up, whatever was granted and told before

  module _ (c d : Config) (p q : ℕ) (face : Face c d) (back : Face d c) (first second : Past) where
    abbrev pub Up : Wire → Type 0
    Up w = (x : Log) × (y : Log) × (n : LinkEndpoint) × (m : LinkEndpoint) × Talk service tei c d p q first second (relogged x y w) n m

    pub up-step : (k : StepAt) → Talks k → (w : Wire) → Up w → Up (doing k w)
    up-step k is w (x, y, n, m, h) =
        let v = relogged x y w in let z = does service tei c d p q face back first second k is v n m h in
        (log_of (doing k v).near, log_of (doing k v).far, z.n', z.m', subst (λ u. Talk service tei c d p q first second u z.n' z.m') (doing-logged k x y w) z.talk)

    pub up-all : (es : List StepAt) → All Talks es → (w : Wire) → Up w → Up (doing_all es w)
    up-all = steps-keep Up Talks (λ k w is. up-step k is w)

    pub counts : (w : Wire) → Up w → Counted service tei c w
    counts w (x, y, n, m, h) = counted-up service tei c d p q face back first second (relogged x y w) n m h

    abbrev A : Wire → ℕ
    A w = (own_link service tei w.near).a

    abbrev S : Wire → ℕ
    S w = (own_link service tei w.near).s

    abbrev R : Wire → ℕ
    R w = (own_link service tei w.far).r

    window : (w : Wire) → Up w → S w ≤ A w + 127
    window w (x, y, n, m, h) = window-near service tei c d p q face back first second (relogged x y w) n m h

    heeds : (k : StepAt) → Talks k → (w : Wire) → Up w → Heeds service tei d (near_takes k w) (A w) (S w) w.far.way (A (doing k w)) (doing k w).far.way
    heeds k is w (x, y, n, m, h) =
        subst (λ t. Heeds service tei d t (A w) (S w) w.far.way (A (doing k w)) (doing k w).far.way) (takes-logged k x y w)
        (subst (λ (u : Wire). Heeds service tei d (near_takes k (relogged x y w)) (A w) (S w) w.far.way (A u) u.far.way) (doing-logged k x y w)
        (heeds-step service tei c d p q face back first second (relogged x y w) n m h k is))

    clears : (w : Wire) → Up w → (own_link service tei (doing (at_far sends) w).far).pending ≡ false
    clears w (x, y, n, m, h) = far-clears service tei c d p q face back first second (relogged x y w) n m h

    covers : (w : Wire) → Up w → (few : ℕ) → (own_link service tei w.far).pending ≡ false → few ≤ R w → Acks service tei d few (R w) (length w.far.way) (A w) w.far.way
    covers w (x, y, n, m, h) few none enough = acks-all service tei c d p q face back first second (relogged x y w) n m h few none enough

    grown : (k : StepAt) → Talks k → (w : Wire) → Up w → (R w ≤ R (doing k w)) × (S w ≤ S (doing k w))
    grown k is w h =
        let now = counts w h in let then = counts (doing k w) (up-step k is w h) in
        grows c (far_takes k w) (R w) (R (doing k w)) (S w) (S (doing k w)) w.near.way (doing k w).near.way (flows service tei c k is w now then) now then

    -- V(A) goes on by no more than a window, and V(S) stays or goes on.
    pub moves : (k : StepAt) → Talks k → (w : Wire) → Up w → Moves (own_link service tei w.near) (own_link service tei (doing k w).near)
    moves k is w h =
        let more = (grown k is w h).1 in let few = window w h in go few more (heeds k is w h)
      where
        go : S w ≤ A w + 127 → S w ≤ S (doing k w) → Heeds service tei d (near_takes k w) (A w) (S w) w.far.way (A (doing k w)) (doing k w).far.way → Moves (own_link service tei w.near) (own_link service tei (doing k w).near)
        go few more (inl (none, same, rest)) = record { low = omega (arith, same); high = omega (arith, same); sent = more }
        go few more (inr (one, (o, f, v, is, read, low, up, says, same))) = record { low = omega (arith, same, low); high = omega (arith, same, up, few); sent = more }

    -- what is in transit from the far end is received
    acks-all-on : (few hi : ℕ) (es : List StepAt) → All Talks es → (w : Wire) → Up w → (j : ℕ) → hi ≤ S w → Acks service tei d few hi j (A w) w.far.way
        → Acks service tei d few hi (j - sum_all near_takes es w) (A (doing_all es w)) (doing_all es w).far.way
    unfolding doing_all sum_all
    acks-all-on few hi [] all w h j high acks = subst (λ j. Acks service tei d few hi j (A w) w.far.way) (let e : j ≡ j - 0 = omega arith in e) acks
    acks-all-on few hi (k ∷ ks) all w h j high acks =
        let is = All-head Talks k ks all in let w' = doing k w in let more = (grown k is w h).1 in
        let one = acks-on service tei d few hi (near_takes k w) j (A w) (S w) w.far.way (A w') w'.far.way (window w h) high (heeds k is w h) acks in
        let t = near_takes k w in let rest = sum_all near_takes ks w' in
        subst (λ j. Acks service tei d few hi j (A (doing_all ks w')) (doing_all ks w').far.way) (let e : j - t - rest ≡ j - (t + rest) = omega arith in e)
        (acks-all-on few hi ks (All-tail Talks k ks all) w' (up-step k is w h) (j - t) (omega (arith, high, more)) one)

    record Owed (few : ℕ) (w : Wire) : Type 0 where
      j : ℕ
      hi : ℕ
      high : hi ≤ S w
      acks : Acks service tei d few hi j (A w) w.far.way

    -- once the far end was asked for a frame, what it received is acknowledged by what is in transit
    owed-now : (few : ℕ) (w : Wire) → Up w → few ≤ R w → Owed few (doing (at_far sends) w)
    owed-now few w h enough =
        let w' = doing (at_far sends) w in let up = up-step (at_far sends) tt w h in let more = (grown (at_far sends) tt w h).0 in let all = counts w' up in
        record { j = length w'.far.way; hi = R w'; high = omega (arith, all); acks = covers w' up few (clears w h) (omega (arith, enough, more)) }

    sent-more : (es : List StepAt) → All Talks es → (w : Wire) → Up w → S w ≤ S (doing_all es w)
    sent-more es all w h =
        (steps-keep (λ v. Up v × (S w ≤ S v)) Talks (λ k v is x. let one = (grown k is v x.0).1 in let low = x.1 in (up-step k is v x.0, omega (arith, one, low))) es all w (h, omega arith)).1

    owed-on : (few : ℕ) (es : List StepAt) → All Talks es → (w : Wire) → Up w → Owed few w → Owed few (doing_all es w)
    owed-on few es all w h x = record {
      j = x.j - sum_all near_takes es w;
      hi = x.hi;
      high = let low = x.high in let more = sent-more es all w h in omega (arith, low, more);
      acks = acks-all-on few x.hi es all w h x.j x.high x.acks;
    }

    later : (few : ℕ) (k : StepAt) (ks : List StepAt) → All Talks (k ∷ ks) → (w : Wire) → Up w → few ≤ R w → 1 ≤ far_sends k w + sum_all far_sends ks (doing k w) → far_sends k w ≡ 0
        → (All Talks ks → Up (doing k w) → few ≤ R (doing k w) → 1 ≤ sum_all far_sends ks (doing k w) → Owed few (doing_all ks (doing k w))) → Owed few (doing_all ks (doing k w))
    later few k ks all w h enough some none rest =
        let is = All-head Talks k ks all in let more = (grown k is w h).0 in rest (All-tail Talks k ks all) (up-step k is w h) (omega (arith, enough, more)) (omega (arith, some, none))

    owed-then : (few : ℕ) (es : List StepAt) → All Talks es → (w : Wire) → Up w → few ≤ R w → 1 ≤ sum_all far_sends es w → Owed few (doing_all es w)
    unfolding doing_all sum_all
    owed-then few [] all w h enough some = absurd (omega (arith, some))
    owed-then few (at_far sends ∷ ks) all w h enough some = owed-on few ks (All-tail Talks (at_far sends) ks all) (doing (at_far sends) w) (up-step (at_far sends) tt w h) (owed-now few w h enough)
    owed-then few (at_far receives ∷ ks) all w h enough some = later few (at_far receives) ks all w h enough some refl (λ talks up low more. owed-then few ks talks (doing (at_far receives) w) up low more)
    owed-then few (at_far (requests r) ∷ ks) all w h enough some = later few (at_far (requests r)) ks all w h enough some refl (λ talks up low more. owed-then few ks talks (doing (at_far (requests r)) w) up low more)
    owed-then few (at_far other ∷ ks) all w h enough some = absurd (All-head Talks (at_far other) ks all)
    owed-then few (at_near act ∷ ks) all w h enough some = later few (at_near act) ks all w h enough some refl (λ talks up low more. owed-then few ks talks (doing (at_near act) w) up low more)

    -- So what the far end has received is acknowledged once it was asked for a frame, and all that was in transit then is received.
    pub acknowledged-then : (few : ℕ) (es fs : List StepAt) → All Talks es → All Talks fs → (w : Wire) → Up w → few ≤ R w → 1 ≤ sum_all far_sends es w
        → length (doing_all es w).far.way ≤ sum_all near_takes fs (doing_all es w) → few ≤ A (doing_all fs (doing_all es w))
    acknowledged-then few es fs talk more w h enough some all = go (owed-then few es talk w h enough some)
      where
        u : Wire
        u = doing_all es w

        go : Owed few (doing_all es w) → few ≤ A (doing_all fs (doing_all es w))
        go x =
            let last = acks-all-on few x.hi fs more u (up-all es talk w h) x.j x.high x.acks in let long = x.acks.0 in let none : x.j - sum_all near_takes fs u ≡ 0 = omega (arith, long, all) in
            (subst (λ j. Acks service tei d few x.hi j (A (doing_all fs u)) (doing_all fs u).far.way) none last).1
