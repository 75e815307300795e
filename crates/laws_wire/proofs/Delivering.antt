-- Two cards that face each other deliver what layer 3 hands over.
use Rattle.laws_wire.proofs.Vocabulary.{◌≡◌, ℕ, ◌<◌, ◌||◌, [], None, option_map, sym, ap, subst, ◌∙◌, arith, Service, Link, LinkEndpoint, Config, has_lines, line_sound, next, gave, Steady, Endpoint, Wire, IsStill, answered, Face, Speaks, own_link, AreOpposite, is_busy, List, ◌∷◌, ◌++◌, refl, append_assoc, LineTold, StepAt, at_near, at_far, turned, doing, ◌+◌, ◌*◌, ◌≤◌, Bool, cond, length, map}
use Rattle.laws_wire.proofs.Vocabulary.{take, drop, Some, append-nil, length-append, map-append, take-append-drop, All, All-nil, Established, Ends, link_in, place_in, terms, AreTurns, weight_at, IsReady, IsTaken, Pair, all-turns, doing_all, turns, IsBeginningOf, ToldInOrder, calling, IsTalk, data_told, granted_of, or_parts, two_ends_doing_all, append_cancel_left, Line}
use Rattle.model_link.specs.Sound as link_sound
use Rattle.laws_wire.proofs.Talking as talking
use Rattle.laws_link.specs.two.Rounds.{HasArrived}
use Rattle.laws_wire.proofs.Alone.{link-is, still-alone, no-way, no-messages, no-units, none-waiting, none-other}
use Rattle.laws_wire.proofs.Run.{arrived, none-given, way-empty, still-up}
use Rattle.laws_wire.proofs.Standing.{StationStands, IsCarried, link-sound, link-ranges}
use Rattle.laws_wire.proofs.Talking.{Past, Holds}
use Rattle.laws_wire.proofs.Up.{Talk, pair_of, talks, Acted}
use Rattle.std.proofs.Math.Seq.{drop-append_seam}
use Rattle.model_line.specs.Sound.{IsSound}
use Rattle.laws_wire.specs.Facing.{line_of, most_turns, unsent_at, due_since, IsToldSince, Delivers, CardsDeliver, CardsFaceAgain, CallsFace}
use Rattle.laws_wire.proofs.Spelled.{sides-turned}
unfoldable use Rattle.laws_wire.specs.Wire.{doing_all, turns}

-- ---- where no turn is left the two cards face each other again

module _ (service : Service) (tei : ℕ) where
  -- the link of a station that stands for an end
  its-link : (c : Config) (place : ℕ) (past : Past) (s : Endpoint) (n : LinkEndpoint) → Holds c service tei place past s n → own_link service tei s ≡ n.link
  its-link c place past s n h = grind (arith, StationStands, link-is, line_sound, has_lines)

  speaks : (c d : Config) (p q : ℕ) (past other : Past) (s u : Endpoint) (n m : LinkEndpoint) → Holds c service tei p past s n → Holds d service tei q other u m → Steady n
      → HasArrived n.link.contents n m → answered next s ≡ gave None → s.way ≡ [] → Speaks service tei s u
  speaks c d p q past other s u n m h k steady got none way =
      let own : StationStands s.card.config service tei p s n = subst (λ k. StationStands k service tei p s n) (sym h.stands.config) h.stands in
      let here = its-link c p past s n h in
      let there = its-link d q other u m k in
      record {
        card = (own.sound, own.within);
        state = grind (arith, option_map);
        free = ap is_busy here ∙ ap (λ b. b || n.link.peer_busy) steady.own_busy ∙ steady.peer_busy;
        alone = still-alone service tei p s (line_sound s.card s.line (has_lines s.card own.sound) own.within) own.speaks.placed none way;
        received = ap (λ (l : Link). l.r) there ∙ got.received ∙ sym got.sent ∙ sym (ap (λ (l : Link). l.s) here);
        owes = λ less. absurd (omega (arith, got.acknowledged, got.sent, subst (λ (l : Link). l.a < l.s) here less));
      }

  module _ (c d : Config) (p q : ℕ) (first second : Past) (w : Wire) (n m : LinkEndpoint) (h : Talk service tei c d p q first second w n m) (still : IsStill w) (opposite : AreOpposite c d) where
    pub faces-again : Face service tei w
    faces-again =
        let no-near = way-empty service tei c p first w.near n h.near still.near_way in
        let no-far = way-empty service tei d q second w.far m h.far still.far_way in
        let all = arrived n m h.pair (none-given service tei c p first w.near n h.near still.near) (none-given service tei d q second w.far m h.far still.far) no-near no-far in
        let far-own = sym h.far.stands.config in (
          speaks c d p q first second w.near w.far n m h.near h.far h.pair.near all.0 still.near still.near_way,
          speaks d c q p second first w.far w.near m n h.far h.near h.pair.far all.1 still.far still.far_way,
          subst (λ k. AreOpposite k w.far.card.config) (sym h.near.stands.config) (subst (AreOpposite c) far-own opposite),
        )

-- ---- what layer 3 was granted and told before changes nothing of what happens

abbrev pub logged : List (List ℕ) → List LineTold → Endpoint → Endpoint
logged granted told s = record s { granted = granted ++ s.granted; told = told ++ s.told }

abbrev pub with_logs : List (List ℕ) → List LineTold → List (List ℕ) → List LineTold → Wire → Wire
with_logs near_granted near_told far_granted far_told w = record { near = logged near_granted near_told w.near; far = logged far_granted far_told w.far }

module _ (gn : List (List ℕ)) (tn : List LineTold) (gf : List (List ℕ)) (tf : List LineTold) where
  abbrev L : Wire → Wire
  L w = with_logs gn tn gf tf w

  one-logged : (d : StepAt) (w : Wire) → doing d (L w) ≡ L (doing d w)
  one-logged (at_near act) w = grind (arith, append_assoc)
  one-logged (at_far act) w = ap turned (grind (arith, append_assoc))

  pub run-logged : (ds : List StepAt) (w : Wire) → doing_all ds (L w) ≡ L (doing_all ds w)
  unfolding doing_all
  run-logged [] w = refl
  run-logged (d ∷ ds) w = ap (doing_all ds) (one-logged d w) ∙ run-logged ds (doing d w)

  pub turns-logged : (ds : List StepAt) (w : Wire) → turns ds (L w) ≡ turns ds w
  unfolding turns
  turns-logged [] w = refl
  turns-logged (d ∷ ds) w = grind (arith, turns-logged ds (doing d w), one-logged)

-- ---- what layer 3 hands over is delivered

-- `Card::state` tells 7 of a link whose TEI is on the line
record IsUp (service : Service) (tei : ℕ) (l : Line) : Type 0 where
  place : ℕ
  placed : place_in l tei ≡ Some place
  state : (link_in l service place).state ≡ Established

two-owed : (b : Bool) → cond {A = ℕ} b 2 0 ≡ 2 * cond {A = ℕ} b 1 0
two-owed b = grind arith

-- what was told since of what was unsent and what was granted since
behind : (s r : ℕ) (cs more since : List (List ℕ)) → take s cs ++ since ≡ take r (cs ++ more) → since ++ drop r (cs ++ more) ≡ drop s cs ++ more
behind s r cs more since is =
    append_cancel_left (take s cs) (since ++ drop r (cs ++ more)) (drop s cs ++ more)
    (sym (append_assoc (take s cs) since (drop r (cs ++ more))) ∙ ap (λ xs. xs ++ drop r (cs ++ more)) is ∙ take-append-drop r (cs ++ more)
    ∙ sym (ap (λ xs. xs ++ more) (take-append-drop s cs)) ∙ append_assoc (take s cs) (drop s cs) more)

behind-all : (s : ℕ) (cs more since : List (List ℕ)) → take s cs ++ since ≡ cs ++ more → since ≡ drop s cs ++ more
behind-all s cs more since is =
    append_cancel_left (take s cs) since (drop s cs ++ more) (is ∙ sym (ap (λ xs. xs ++ more) (take-append-drop s cs)) ∙ append_assoc (take s cs) (drop s cs) more)

module _ (service : Service) (tei : ℕ) where
  abbrev data_notes : List (List ℕ) → List LineTold
  data_notes xs = map (data_told service tei) xs

  -- a station without what was granted and told before
  abbrev bare : Endpoint → Endpoint
  bare s = record s { granted = []; told = [] }

  -- the end for which it stands, as if it had delivered what it has received of the other's contents
  abbrev end_at : Endpoint → Endpoint → LinkEndpoint
  end_at s u = record {
    terms = terms s.card.config service tei;
    link = own_link service tei s;
    way = [];
    delivered = take (own_link service tei s).r (own_link service tei u).contents;
  }

  abbrev past_at : Endpoint → Endpoint → Past
  past_at s u = record { told = []; had = take (own_link service tei s).r (own_link service tei u).contents }

  module _ (s u : Endpoint) (h : Speaks service tei s u) where
    up : IsUp service tei (line_of s)
    up = grind arith

    sound : IsSound s.card.config (line_of s)
    sound = line_sound s.card s.line (has_lines s.card h.card.0) h.card.1

    own : own_link service tei s ≡ link_in (line_of s) service up.place
    own = link-is service tei up.place s sound up.placed

    stands : StationStands s.card.config service tei up.place s (end_at s u)
    stands = record {
      config = refl;
      sound = h.card.0;
      within = h.card.1;
      speaks = record {
        placed = up.placed;
        messages = no-messages service tei up.place s sound up.placed h.alone;
        units = no-units service tei up.place s sound up.placed h.alone;
        silent = none-other service tei up.place s sound up.placed h.alone;
        link = sym own;
      };
      terms = refl;
      way = no-way service tei up.place s sound up.placed h.alone;
      carried = All-nil (IsCarried s.card.config service tei);
    }

    holds : Holds s.card.config service tei up.place (past_at s u) (logged (own_link service tei s).contents [] (bare s)) (end_at s u)
    holds = grind (arith, stands, append-nil)

    ready : IsReady (end_at s u)
    ready =
        let off = or_parts (own_link service tei s).own_busy (own_link service tei s).peer_busy h.free in
        record {
          ranges = link-ranges service tei up.place s (end_at s u) stands;
          sound = link-sound service tei up.place s (end_at s u) stands;
          state = ap (λ (l : Link). l.state) own ∙ up.state;
          peer_busy = off.1;
          own_busy = off.0;
          waiting = none-waiting service tei up.place s sound up.placed h.alone;
          way = refl;
        }

    -- so its link is in state 7, sound, and has no control frame waiting
    pub is-established : (own_link service tei s).state ≡ Established
    is-established = ready.state

    pub is-sound : link_sound.IsSound (terms s.card.config service tei) (own_link service tei s)
    is-sound = ready.sound

    pub is-quiet : (own_link service tei s).waiting ≡ []
    is-quiet = ready.waiting

    taken : s.card.config.n201 ≡ u.card.config.n201 → IsTaken (end_at s u) (end_at u s)
    taken same = assumption (subst (λ k. All (λ octets. length octets ≤ k) (own_link service tei s).contents) same ready.sound.sizes)

    price : weight_at (end_at s u) ≡ most_turns service tei s
    price = let two = two-owed (own_link service tei s).pending in omega (arith, two)

  -- what layer 3 of one is told behind what it was told before
  module _ (s u : Endpoint) (received : (own_link service tei s).r ≡ (own_link service tei u).s) (n m : LinkEndpoint) (since more : List (List ℕ))
      (delivered : n.delivered ≡ take (own_link service tei s).r (own_link service tei u).contents ++ since) (kept : (own_link service tei u).contents ++ more ≡ m.link.contents)
      (agree : n.delivered ≡ take n.link.r m.link.contents) where
    as-kept : take (own_link service tei u).s (own_link service tei u).contents ++ since ≡ n.delivered
    as-kept = ap (λ k. take k (own_link service tei u).contents ++ since) (sym received) ∙ sym delivered

    told-first : IsBeginningOf (data_notes (unsent_at service tei u ++ more)) (data_notes since)
    told-first =
        let rest = drop n.link.r ((own_link service tei u).contents ++ more) in
        let is = behind (own_link service tei u).s n.link.r (own_link service tei u).contents more since (as-kept ∙ agree ∙ ap (take n.link.r) (sym kept)) in
        (data_notes rest, sym (map-append (data_told service tei) since rest) ∙ ap data_notes is)

    -- with what the other was granted before
    pub is-told : (still : Type 0) → (still → n.delivered ≡ m.link.contents) → (granted : List (List ℕ))
        → ToldInOrder still (data_notes (unsent_at service tei u ++ drop (length granted) (granted ++ more))) (data_notes since)
    is-told still all granted = grind (arith, drop-append_seam, told-first, data_notes, behind-all, own_link, as-kept)

  -- what was granted and told is nothing to how they face each other
  first-pair : (e : Ends) → IsReady e.near → IsReady e.far → IsTaken e.near e.far → IsTaken e.far e.near → Pair e
  unfolding two_ends_doing_all AreTurns
  first-pair e near far there back = (all-turns [] e near far there back tt).pair

  module _ (ds : List StepAt) (w : Wire) (h : Face service tei w) (talk : All (IsTalk service tei) ds) where
    abbrev s : Endpoint
    s = w.near

    abbrev u : Endpoint
    u = w.far

    abbrev bare_wire : Wire
    bare_wire = record { near = bare s; far = bare u }

    abbrev last : Wire
    last = doing_all ds bare_wire

    -- the run as it is, and the run with what the links keep as what was granted
    abbrev as_is : Wire → Wire
    as_is v = with_logs s.granted s.told u.granted u.told v

    abbrev as_kept : Wire → Wire
    as_kept v = with_logs (own_link service tei s).contents [] (own_link service tei u).contents [] v

    pub leads : doing_all ds w ≡ as_is last
    leads = ap (doing_all ds) (sym (grind (arith, append-nil))) ∙ run-logged s.granted s.told u.granted u.told ds bare_wire

    ran : doing_all ds (as_kept bare_wire) ≡ as_kept last
    ran = run-logged (own_link service tei s).contents [] (own_link service tei u).contents [] ds bare_wire

    same-turns : turns ds (as_kept bare_wire) ≡ turns ds w
    same-turns =
        turns-logged (own_link service tei s).contents [] (own_link service tei u).contents [] ds bare_wire
        ∙ sym (turns-logged s.granted s.told u.granted u.told ds bare_wire) ∙ ap (turns ds) (grind (arith, append-nil))

    abbrev c : Config
    c = s.card.config

    abbrev d : Config
    d = u.card.config

    face : talking.Face c d
    face = record { side = sym h.2.0; n201 = h.2.1 }

    back : talking.Face d c
    back = record { side = sym (sides-turned c d h.2.0); n201 = sym h.2.1 }

    abbrev Talked : Wire → Type 0
    Talked v =
        Acted service tei c d (up s u h.0).place (up u s h.1).place face back (past_at s u) (past_at u s) (as_kept bare_wire) v (end_at s u) (end_at u s) (turns ds (as_kept bare_wire))

    now : Talk service tei c d (up s u h.0).place (up u s h.1).place (past_at s u) (past_at u s) (as_kept bare_wire) (end_at s u) (end_at u s)
    now = record {
      near = holds s u h.0;
      far = holds u s h.1;
      pair = first-pair (pair_of (end_at s u) (end_at u s)) (ready s u h.0) (ready u s h.1) (taken s u h.0 h.2.1) (taken u s h.1 (sym h.2.1));
    }

    talked : Talked (as_kept last)
    talked = grind (arith, ran, talks, up, face, back, now)

    all-arrived : IsStill (as_is last) → (talked.m'.delivered ≡ talked.n'.link.contents) × (talked.n'.delivered ≡ talked.m'.link.contents)
    all-arrived still =
        let x = talked in
        let p = (up s u h.0).place in
        let q = (up u s h.1).place in
        let all =
        arrived x.n' x.m' x.talk.pair (none-given service tei c p (past_at s u) (as_kept last).near x.n' x.talk.near still.near) (none-given service tei d q (past_at u s) (as_kept last).far x.m' x.talk.far still.far)
        (way-empty service tei c p (past_at s u) (as_kept last).near x.n' x.talk.near still.near_way) (way-empty service tei d q (past_at u s) (as_kept last).far x.m' x.talk.far still.far_way) in
        (all.0.delivered, all.1.delivered)

    told-near : IsToldSince (IsStill (as_is last)) (due_since service tei u (as_is last).far) s (as_is last).near
    told-near =
        let x = talked in (
          data_notes x.talk.near.since,
          ap (λ ts. s.told ++ ts) x.talk.near.told,
          is-told s u h.1.received x.n' x.m' x.talk.near.since last.far.granted x.talk.near.delivered x.talk.far.granted x.talk.pair.back.delivered (IsStill (as_is last)) (λ still. (all-arrived still).1)
              u.granted,
        )

    told-far : IsToldSince (IsStill (as_is last)) (due_since service tei s (as_is last).near) u (as_is last).far
    told-far =
        let x = talked in (
          data_notes x.talk.far.since,
          ap (λ ts. u.told ++ ts) x.talk.far.told,
          is-told u s h.0.received x.m' x.n' x.talk.far.since last.near.granted x.talk.far.delivered x.talk.near.granted x.talk.pair.there.delivered (IsStill (as_is last)) (λ still. (all-arrived still).0)
              s.granted,
        )

    bounded : turns ds w + 4 * granted_of w ≤ most_turns service tei s + most_turns service tei u + 4 * granted_of (as_is last)
    bounded = grind (arith, talked, append-nil, same-turns, price, length-append)

    pub delivers : Delivers service tei (turns ds w) w (doing_all ds w)
    delivers = subst (Delivers service tei (turns ds w) w) (sym leads) (record { turns = bounded; near = told-near; far = told-far })

    pub again : IsStill (doing_all ds w) → Face service tei (doing_all ds w)
    again still =
        let x = talked in
        subst (Face service tei) (sym leads)
        (face-by last (faces-again service tei c d (up s u h.0).place (up u s h.1).place (past_at s u) (past_at u s) (as_kept last) x.n' x.m' x.talk (as-kept-still (subst IsStill leads still)) h.2))
      where
        face-by : (v : Wire) → Face service tei (as_kept v) → Face service tei (as_is v)
        face-by v k = grind arith

        as-kept-still : IsStill (as_is last) → IsStill (as_kept last)
        as-kept-still e = record { near = e.near; far = e.far; near_way = e.near_way; far_way = e.far_way }

-- The ends for which cards stand that face each other, as if what their links keep were what they were granted.
module _ (service : Service) (tei : ℕ) (w : Wire) (h : Face service tei w) where
  abbrev kept : Endpoint → Endpoint
  kept s = record s { granted = (own_link service tei s).contents ++ []; told = [] }

  pub kept-up : (p : ℕ) × (q : ℕ) × (first : Past) × (second : Past) × (n : LinkEndpoint) × (m : LinkEndpoint)
      × Talk service tei w.near.card.config w.far.card.config p q first second (record { near = kept w.near; far = kept w.far }) n m
  kept-up = (
    (up service tei w.near w.far h.0).place,
    (up service tei w.far w.near h.1).place,
    past_at service tei w.near w.far,
    past_at service tei w.far w.near,
    end_at service tei w.near w.far,
    end_at service tei w.far w.near,
    now service tei [] w h (All-nil (IsTalk service tei)),
  )

pub cards-deliver : CardsDeliver
cards-deliver service tei ds w h talk = delivers service tei ds w h talk

pub cards-face_again : CardsFaceAgain
cards-face_again service tei ds w h talk still = again service tei ds w h talk still

-- a call that is still
pub calls-face : CallsFace
calls-face service c d line other tei ds can called still =
    let x = still-up service c d line other tei ds can called still in
    faces-again service tei c d 0 0 _ _ (doing_all ds (calling service tei c line d other)) x.n x.m x.talk still can.opposite
