-- An end that enquired catches up: on a wire, and as it is seen on the circuit.
use Rattle.laws_time.proofs.Vocabulary.{All-weaker, All, All-append, All-cons, All-head, All-nil, All-tail, AreAsked, AreClear, Beat, Bool, Clocked, Config, Establish, Established, Face, GoesWell, HasCaughtUp, IsFit, IsIdle, IsOfLink, IsTalk, IsTrue, IsUp, Line, LineTold, Link, LinkEndpoint, List, LooseUp, Option, Request, Service, Setting, Some, State, StationStands, TimedEndpoint, TimerRecovery}
use Rattle.laws_time.proofs.Vocabulary.{Wire, []}
use Rattle.laws_time.proofs.Vocabulary.{after, all-left, all-right, ap, append_assoc, arith, beat, begins, calling, calls, confirmed, contents_at, errors_at, false, fold-append, front-none, in_call, indicated, inl, inr, is_multiple_frame, is_used_up, length, list_any, list_any-append, or_parts, refl, setting, state_at, state_number, subst, sym, true, turned, ℕ, ◌++◌, ◌∙◌, ◌∷◌, ◌≡◌, ◌≤◌, ◌⊎◌}
use Rattle.laws_wire.specs.Losing.{heard_in}
use Rattle.laws_time.proofs.OfCircuit.ArrivAs.{heard_of, Path, path-none}
use Rattle.laws_time.proofs.OfCircuit.ArrivBeat.{Same, Reached, IsFairBoth, all-beats, all-of-link, fair-all}
use Rattle.laws_time.proofs.OfCircuit.ArrivTold.{contents-heard, contents_of, codes-heard}
use Rattle.laws_time.proofs.OfCircuit.CaughtWire.{Acknowledges, told-as-many, acknowledges-some, no-more, paid, Owes, owes-keeps, owed-keeps, UpWith, all-steps, both-up, owing, settled}
use Rattle.laws_time.proofs.OfCircuit.InCallThrough.{its-is, in-call}
use Rattle.laws_time.proofs.OfCircuit.Words.{Pair, all-pairs, begins_of, clear-parts, pair-begins, state-here}
use Rattle.laws_time.proofs.OfCircuit.ArrivIdle.{reached}
use Rattle.laws_time.proofs.OfCircuit.ArrivSide.{codes, codes-append}
use Rattle.laws_time.proofs.OfCircuit.InCallWalk.{BothWalk, walks-all, talk-all}

-- The states by their numbers.
pub in-7 : (s : State) → state_number s ≡ 7 → s ≡ Established
in-7 s h1z = grind arith

pub in-8 : (s : State) → state_number s ≡ 8 → s ≡ TimerRecovery
in-8 s h1z = grind arith

pub number-of : (a b : ℕ) (o : Option ℕ) → o ≡ Some a → o ≡ Some b → b ≡ a
number-of a b o x y = cc (sym x ∙ y)

-- On a wire, from one time to another.
module _ (service : Service) (tei : ℕ) (c d : Config) (face : Face c d) (back : Face d c) (past other : List LineTold) (none : contents_of other ≡ []) where
  abbrev Up : Bool → ℕ → Wire → Type 0
  Up asks k w = UpWith service tei c d 0 0 past other (Owes asks k) w

  pub goes-on : (asks : Bool) (k : ℕ) (f g : Wire) → Path service tei f g → UpWith service tei c d 0 0 past other (Owes asks k) f → UpWith service tei c d 0 0 past other (Owes asks k) g
  goes-on asks k f g path h =
      subst (Up asks k) path.leads (all-steps service tei c d 0 0 face back past other (Owes asks k) (owes-keeps asks k) (owed-keeps asks k) path.steps f path.done path.patient h)

  abbrev pub Shows : ℕ → Wire → Type 0
  Shows k g = (n : ℕ) × Acknowledges service tei n g.near × (k ≤ n) × (n ≤ length (contents_of (heard_in g.far)))

  pub shows : (k : ℕ) (g : Wire) → UpWith service tei c d 0 0 past other (Owes false k) g → Shows k g
  shows k g h =
      let told = told-as-many service tei c d 0 0 past other g h.n h.m h.at none in
      let most = no-more service tei c d 0 0 past other g h.n h.m h.at in (
        h.n.link.a,
        acknowledges-some service tei c d 0 0 past other g h.n h.m h.at,
        paid service tei c d 0 0 past other g k h,
        omega (arith, told, most),
      )

-- On the circuit.
module _ (l : Line) (fit : IsFit l) where
  abbrev pub its : Setting l.service l.near l.far l.near_line l.far_line l.tei
  its = setting l.service l.near l.far l.near_line l.far_line l.tei fit.call

  abbrev pub near_past : List LineTold
  near_past = confirmed l.service l.tei ∷ []

  abbrev pub far_past : List LineTold
  far_past = indicated l.service l.tei ∷ []

  module _ (w : Clocked) (pair : Pair l (begins_of fit) w) (f : Wire) (same : Same l w f) where
    pub near-number : (n : LinkEndpoint) → StationStands l.near l.service l.tei 0 f.near n → state_at l w.near ≡ Some (state_number n.link.state)
    near-number n stands =
        state-here l.near l.service l.tei 0 fit.call.near.0 l.lengths l.rate w.near.at pair.near_ok.but.ends
        ∙ ap (λ (x : Link). Some (state_number x.state)) (its-is l.near l.service l.tei fit.call.near.0 w.near pair.near_ok.but.ends same.there same.ts f.near same.near_is n stands)

    pub far-number : (n : LinkEndpoint) → StationStands l.far l.service l.tei 0 f.far n → state_at l w.far ≡ Some (state_number n.link.state)
    far-number n stands =
        state-here l.far l.service l.tei 0 fit.call.far.0 l.far_lengths l.rate w.far.at pair.far_ok.but.ends
        ∙ ap (λ (x : Link). Some (state_number x.state)) (its-is l.far l.service l.tei fit.call.far.0 w.far pair.far_ok.but.ends same.back same.us f.far same.far_is n stands)

    pub near-heard : heard_in f.near ≡ heard_of w.near.at.told
    near-heard = ap heard_in same.near_is ∙ same.near_heard

    pub far-heard : heard_in f.far ≡ heard_of w.far.at.told
    far-heard = ap heard_in same.far_is ∙ same.far_heard

    pub near-contents : contents_of (heard_in f.near) ≡ contents_at w.near
    near-contents = ap contents_of near-heard ∙ contents-heard w.near.at.told

    pub far-contents : contents_of (heard_in f.far) ≡ contents_at w.far
    far-contents = ap contents_of far-heard ∙ contents-heard w.far.at.told

    -- What holds on the wire is seen at the ends.
    pub near-shows : (k : ℕ) (then : TimedEndpoint) → length (contents_at then) ≡ k → Shows l.service l.tei l.near l.far its.face its.back near_past far_past refl k f → HasCaughtUp l then w.far w.near
    near-shows k h is h' = grind (arith, length, far-contents)

    pub far-shows : (k : ℕ) (then : TimedEndpoint) → length (contents_at then) ≡ k → Shows l.service l.tei l.far l.near its.back its.face far_past near_past refl k (turned f) → HasCaughtUp l then w.near w.far
    far-shows k h is h' = grind (arith, length, near-contents)

-- ---- a call on the circuit up to a time, and from there on, part by part: on a wire of frames both links are up

pub idle-talk : (l : Line) (before : List Beat) → All IsIdle before → All (IsTalk l) before
idle-talk l = All-weaker IsIdle (IsTalk l) (λ b idle. (none b.near_asks idle.0, none b.far_asks idle.1))
  where
    none : (rs : List Request) → rs ≡ [] → All (IsOfLink l.service l.tei) rs
    none rs is = subst (All (IsOfLink l.service l.tei)) (sym is) (All-nil (IsOfLink l.service l.tei))

-- A call up to a time, and from there on.
module _ (l : Line) (before bs more : List Beat) (b : Beat) (h : GoesWell l before b (bs ++ more)) where
  abbrev w : Clocked
  w = in_call l before b bs

  abbrev first : List Beat
  first = before ++ calls l b ∷ bs

  same-list : before ++ calls l b ∷ (bs ++ more) ≡ (before ++ calls l b ∷ bs) ++ more
  same-list = sym (append_assoc before (calls l b ∷ bs) more)

  pub same-world : in_call l before b (bs ++ more) ≡ after l.rate more (in_call l before b bs)
  same-world = ap (λ bs. after l.rate bs (begins l)) same-list ∙ fold-append (beat l.rate) (begins l) first more

  pub clear : AreClear l (before ++ calls l b ∷ bs) (begins l) × AreClear l more (in_call l before b bs)
  clear = clear-parts l first more (begins l) (subst (λ bs. AreClear l bs (begins l)) same-list h.clear)

  pub asked-more : All (AreAsked l) more
  asked-more = all-right (AreAsked l) bs more (All-tail (AreAsked l) b (bs ++ more) h.asked)

  call-talk : IsTalk l (calls l b)
  call-talk = (All-cons (IsOfLink l.service l.tei) (Establish l.service l.tei) b.near_asks (refl, refl) (all-of-link l h.fit b.near_asks (All-head (AreAsked l) b (bs ++ more) h.asked).0), all-of-link l h.fit b.far_asks (All-head (AreAsked l) b (bs ++ more) h.asked).1)

  pub first-talk : All (IsTalk l) (before ++ calls l b ∷ bs)
  first-talk = All-append (IsTalk l) before (calls l b ∷ bs) (idle-talk l before h.idle) (All-cons (IsTalk l) (calls l b) bs call-talk (talk-all l h.fit bs (all-left (AreAsked l) bs more (All-tail (AreAsked l) b (bs ++ more) h.asked))))

  pub pair-w : Pair l (begins_of h.fit) (in_call l before b bs)
  pair-w = all-pairs l (begins_of h.fit) first first-talk (begins l) clear.0 (pair-begins l (begins_of h.fit))

  walk : BothWalk l h.fit (in_call l before b bs) (after l.rate more (in_call l before b bs))
  walk = walks-all l h.fit more w pair-w (talk-all l h.fit more asked-more) clear.1

  pub fair-u : IsFairBoth (after l.rate more (in_call l before b bs))
  fair-u = grind (arith, list_any, is_used_up, errors_at, same-world, or_parts, list_any-append)

  pub reached-w : Reached l h.fit (calling l.service l.tei l.near l.near_line l.far l.far_line) (in_call l before b bs)
  reached-w = reached l h.fit before b bs h.idle (All-head (AreAsked l) b (bs ++ more) h.asked) (all-left (AreAsked l) bs more (All-tail (AreAsked l) b (bs ++ more) h.asked)) clear.0 (fair-all l.rate more w fair-u)

  -- However it was reached: no error F was told by then.
  module _ (r : Reached l h.fit (calling l.service l.tei l.near l.near_line l.far l.far_line) (in_call l before b bs)) where
    quiet : codes (heard_in r.f.far) ≡ []
    quiet = grind (arith, errors_at, same-world, codes, far-heard, pair-w, codes-heard, front-none, walk, codes-append)

    -- Both links are up, once the end that calls is.
    pub up-there : IsUp l (in_call l before b bs).near → LooseUp l.service l.tei l.near l.far 0 0 (near_past l h.fit) (far_past l h.fit) r.f
    up-there up =
        subst (λ f. codes (heard_in f.far) ≡ [] → (heard_in f.near ≡ [] → ⊥) → LooseUp l.service l.tei l.near l.far 0 0 (near_past l h.fit) (far_past l h.fit) f) r.path.leads
        (both-up l.service l.near l.far l.near_line l.far_line l.tei r.path.steps h.fit.call r.path.done r.path.patient) quiet some
      where
        not-5 : (o : Option ℕ) → (o ≡ Some 7) ⊎ (o ≡ Some 8) → o ≡ Some 5 → ⊥
        not-5 o (inl seven) five = cc (sym seven ∙ five)
        not-5 o (inr eight) five = cc (sym eight ∙ five)

        some : heard_in r.f.near ≡ [] → ⊥
        some none = elim (in-call l h.fit w pair-w r) [
          | inl x ↦ not-5 (state_at l w.near) up x.0
          | inr x ↦ x.0 (sym (near-heard l h.fit w pair-w r.f r.same) ∙ none)
        ]

  pub both-are-up : IsUp l (in_call l before b bs).near → LooseUp l.service l.tei l.near l.far 0 0 (near_past l h.fit) (far_past l h.fit) reached-w.f
  both-are-up up = up-there reached-w up

  -- A part of what comes, and the rest.
  module _ (done rest : List Beat) (all : done ++ rest ≡ more) where
    pub parts-world : after l.rate more (in_call l before b bs) ≡ after l.rate rest (after l.rate done (in_call l before b bs))
    parts-world = ap (λ bs. after l.rate bs w) (sym all) ∙ fold-append (beat l.rate) w done rest

    parts : AreClear l done (in_call l before b bs) × AreClear l rest (after l.rate done (in_call l before b bs))
    parts = clear-parts l done rest w (subst (λ bs. AreClear l bs w) (sym all) clear.1)

    asked : All (AreAsked l) (done ++ rest)
    asked = subst (All (AreAsked l)) (sym all) asked-more

    pub pair-done : Pair l (begins_of h.fit) (after l.rate done (in_call l before b bs))
    pair-done = (walks-all l h.fit done w pair-w (talk-all l h.fit done (all-left (AreAsked l) done rest asked)) parts.0).pair

    pub pair-rest : Pair l (begins_of h.fit) (after l.rate rest (after l.rate done (in_call l before b bs)))
    pair-rest = (walks-all l h.fit rest (after l.rate done w) pair-done (talk-all l h.fit rest (all-right (AreAsked l) done rest asked)) parts.1).pair

    pub r-done : Reached l h.fit reached-w.f (after l.rate done (in_call l before b bs))
    r-done =
        all-beats l h.fit reached-w.f done w pair-w (all-left (AreAsked l) done rest asked) parts.0 (fair-all l.rate rest (after l.rate done w) (subst IsFairBoth parts-world fair-u))
        (record { f = reached-w.f; path = path-none l.service l.tei reached-w.f reached-w.f refl; same = reached-w.same })

    pub r-rest : Reached l h.fit r-done.f (after l.rate rest (after l.rate done (in_call l before b bs)))
    r-rest =
        all-beats l h.fit r-done.f rest (after l.rate done w) pair-done (all-right (AreAsked l) done rest asked) parts.1 (subst IsFairBoth parts-world fair-u)
        (record { f = r-done.f; path = path-none l.service l.tei r-done.f r-done.f refl; same = r-done.same })

-- ---- an end asks at a time: it has caught up in the end, or asks all the time

pub up-in : (l : Line) (a : TimedEndpoint) (s : State) → state_at l a ≡ Some (state_number s) → IsTrue (is_multiple_frame s) → IsUp l a
up-in l a s is up = grind arith

-- The end that asks, and the other one, of a world; as the wire has them, the end that asks is the near one.
module _ (l : Line) (c d : Config) (face : Face c d) (back : Face d c) (past other : List LineTold) (none : contents_of other ≡ []) (own there : Clocked → TimedEndpoint) where
  -- What is known of the ends at a later time.
  pub record Later (u : Clocked) (f g : Wire) : Type 0 where
    pub path : Path l.service l.tei f g
    pub own_number : (x : LinkEndpoint) → StationStands c l.service l.tei 0 g.near x → state_at l (own u) ≡ Some (state_number x.link.state)
    pub there_number : (x : LinkEndpoint) → StationStands d l.service l.tei 0 g.far x → state_at l (there u) ≡ Some (state_number x.link.state)
    pub shows_it : (k : ℕ) (then : TimedEndpoint) → length (contents_at then) ≡ k → Shows l.service l.tei c d face back past other none k g → HasCaughtUp l then (there u) (own u)

  -- It asks at a time. Each part of what comes leads on, and so does the rest.
  module _ (v : Clocked) (more : List Beat) (f : Wire) (up : LooseUp l.service l.tei c d 0 0 past other f) (first : (x : LinkEndpoint) → StationStands c l.service l.tei 0 f.near x → state_at l (own v) ≡ Some (state_number x.link.state))
      (eight : state_at l (own v) ≡ Some 8) (heard : contents_of (heard_in f.far) ≡ contents_at (there v))
      (parts : (done rest : List Beat) → done ++ rest ≡ more → (g : Wire) × (h : Wire) × Later (after l.rate done v) f g × Later (after l.rate rest (after l.rate done v)) g h) where
    abbrev At : Bool → Wire → Type 0
    At asks g = UpWith l.service l.tei c d 0 0 past other (Owes asks up.m.link.r) g

    module _ (done rest : List Beat) (all : done ++ rest ≡ more) where
      abbrev u : Clocked
      u = after l.rate done v

      abbrev g : Wire
      g = (parts done rest all).0

      at-done : At true (parts done rest all).0
      at-done =
          goes-on l.service l.tei c d face back past other none true up.m.link.r f g ((parts done rest all).2).path
          (owing l.service l.tei c d 0 0 past other f up (in-8 up.n.link.state (number-of 8 (state_number up.n.link.state) (state_at l (own v)) eight (first up.n up.near.stands))))

      -- Both are up then.
      own-up : IsUp l (own (after l.rate done v))
      own-up = up-in l (own u) at-done.n.link.state (((parts done rest all).2).own_number at-done.n at-done.at.near.stands) at-done.at.loose.joined.near_up

      there-up : IsUp l (there (after l.rate done v))
      there-up = up-in l (there u) at-done.m.link.state (((parts done rest all).2).there_number at-done.m at-done.at.far.stands) at-done.at.loose.joined.far_up

      -- If it does not ask then, it has caught up in the end.
      pub caught-by-then : state_at l (own (after l.rate done v)) ≡ Some 7 → HasCaughtUp l (there v) (there (after l.rate more v)) (own (after l.rate more v))
      caught-by-then seven =
          let x = at-done.n in let its = number-of 7 (state_number x.link.state) (state_at l (own u)) seven (((parts done rest all).2).own_number x at-done.at.near.stands) in
          let paid_then : At false g = settled l.service l.tei c d 0 0 past other g up.m.link.r at-done (in-7 x.link.state its) in let last = (parts done rest all).3 in
          let h = (parts done rest all).1 in let told = told-as-many l.service l.tei c d 0 0 past other f up.n up.m (record { near = up.near; far = up.far; loose = up.loose }) none in
          subst (λ (u : Clocked). HasCaughtUp l (there v) (there u) (own u)) (sym (ap (λ bs. after l.rate bs v) (sym all) ∙ fold-append (beat l.rate) v done rest))
          (last.shows_it up.m.link.r (there v) (sym (ap length heard) ∙ told)
          (shows l.service l.tei c d face back past other none up.m.link.r h (goes-on l.service l.tei c d face back past other none false up.m.link.r g h last.path paid_then)))

    pub other-up : IsUp l (there v)
    other-up = there-up [] more refl

    -- It asks all the time, or at some time it does not.
    module _ (Asks : List Beat → Clocked → Type 0) (asks-none : (w : Clocked) → Asks [] w)
        (asks-more : (b : Beat) (rest : List Beat) (w : Clocked) → state_at l (own (beat l.rate w b)) ≡ Some 8 → IsUp l (there (beat l.rate w b)) → Asks rest (beat l.rate w b) → Asks (b ∷ rest) w) where
      find : (rest done : List Beat) → done ++ rest ≡ more → (HasCaughtUp l (there v) (there (after l.rate more v)) (own (after l.rate more v))) ⊎ Asks rest (after l.rate done v)
      find [] done all = inr (asks-none (after l.rate done v))
      find (b ∷ rest) done all =
          let more_done : (done ++ b ∷ []) ++ rest ≡ more = append_assoc done (b ∷ []) rest ∙ all in
          let then : after l.rate (done ++ b ∷ []) v ≡ beat l.rate (after l.rate done v) b = fold-append (beat l.rate) v done (b ∷ []) in
          elim (own-up (done ++ b ∷ []) rest more_done) [
            | inl e ↦ inl (caught-by-then (done ++ b ∷ []) rest more_done e)
            | inr e ↦ elim (find rest (done ++ b ∷ []) more_done) [
              | inl x ↦ inl x
              | inr x ↦ inr (asks-more b rest (after l.rate done v) (subst (λ (u : Clocked). state_at l (own u) ≡ Some 8) then e)
                  (subst (λ (u : Clocked). IsUp l (there u)) then (there-up (done ++ b ∷ []) rest more_done)) (subst (Asks rest) then x))
            ]
          ]

      pub asks-or-caught : HasCaughtUp l (there v) (there (after l.rate more v)) (own (after l.rate more v)) ⊎ Asks more v
      asks-or-caught = find more [] refl
