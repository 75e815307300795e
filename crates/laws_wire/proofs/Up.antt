-- Two stations whose links are up: each turn lowers their weight, and each request that is granted raises it by four.
use Rattle.laws_wire.proofs.Vocabulary.{◌≡◌, ℕ, ◌+◌, ◌*◌, ◌≤◌, false, List, [], ◌∷◌, ◌++◌, length, map, drop, Option, Some, None, refl, sym, ap, subst, ◌∙◌, ◌⊎◌, inl, inr, append-nil, length-append, arith, All, if◌then◌else◌, All-head, All-tail, Service, Parts, spelling, Terms, Link, given, Given, LinkEndpoint, Ends, with_link, with_sent, frame_given, Config, Request, request, next, weight_at}
use Rattle.laws_wire.proofs.Vocabulary.{HasNothingToSend, takes-first, Pair, nothing-given, nothing-to_send, silent-stays, refusal, Data, Endpoint, Wire, happens, frames_by, with_first_of, EndStep, requests, sends, receives, StepAt, at_near, at_far, acting, turned, doing, doing_all, is_any, is_turn_of, is_turn, turns, answered, frame_comes, IsTalkOf, IsTalk, received, LinkData, frame}
use Rattle.laws_wire.proofs.Vocabulary.{two_ends_with_first_of, two_ends_without_first, own_side}
use Rattle.laws_link.proofs.OfTwo.AnyOrder as any_order
use Rattle.laws_wire.proofs.Answered.{gives-granted, takes-granted}
use Rattle.laws_wire.proofs.Asking.{with_more, asked-form, asks-more, Asked}
use Rattle.laws_wire.proofs.Speaking.{tells-data}
use Rattle.laws_wire.proofs.Standing.{IsCarried, StationStands, gives-frames}
use Rattle.laws_wire.proofs.Talking.{Face, Past, Holds, holds-given, holds-lost, holds-taken, fits, More, holds-asked}

abbrev pub pair_of : LinkEndpoint → LinkEndpoint → Ends
pair_of n m = record { near = n; far = m }

pub turned-pair : (n m : LinkEndpoint) → Pair (pair_of n m) → Pair (pair_of m n)
turned-pair n m h = record { near = h.far; far = h.near; there = h.back; back = h.there }

-- a turn or none
abbrev pub turn_of : List (List ℕ) → ℕ
turn_of frames = if is_any frames then 1 else 0

-- an end with nothing to give stays
pub stays : (n : LinkEndpoint) → given n.terms n.link ≡ None → with_sent n ≡ n
stays n e = grind (arith, silent-stays, nothing-given, append-nil)

some-given : (t : Terms) (l : Link) (g : Given) → given t l ≡ Some g → HasNothingToSend t l → ⊥
some-given t l g is none = let wrong : None ≡ Some g = sym (nothing-to_send t l none) ∙ is in absurd (cc)

pub record Gives (n m : LinkEndpoint) (b : ℕ) : Type 0 where
  pub pair : Pair (pair_of (with_sent n) m)
  pub price : b + weight_at (with_sent n) ≤ weight_at n
  pub kept : (with_sent n).link.contents ≡ n.link.contents

pub end-gives : (f : Parts → List ℕ) (n m : LinkEndpoint) → Pair (pair_of n m) → Gives n m (turn_of (map f (frame_given n.terms (given n.terms n.link))))
end-gives f n m h = go (given n.terms n.link) refl
  where
    go : (o : Option Given) → given n.terms n.link ≡ o → Gives n m (turn_of (map f (frame_given n.terms (given n.terms n.link))))
    go None is = grind (arith, stays)
    go (Some g) is =
        let x = any_order.gives n m h.near h.there h.back (some-given n.terms n.link g is) in
        grind arith

abbrev pub granted_of : Wire → ℕ
granted_of w = length w.near.granted + length w.far.granted

pub one-longer : (xs : List (List ℕ)) (x : List ℕ) → length (xs ++ x ∷ []) ≡ length xs + 1
one-longer xs x = length-append xs (x ∷ [])

-- more is asked for at one of a pair
pub record MorePair (octets : List ℕ) (n m : LinkEndpoint) : Type 0 where
  pub pair : Pair (pair_of (with_more octets n) m)
  pub heavier : weight_at (with_more octets n) ≡ weight_at n + 4

pub more-pair : (octets : List ℕ) (n m : LinkEndpoint) → Pair (pair_of n m) → length octets ≤ m.terms.n201 → refusal n.terms n.link false (LinkData octets) ≡ None → MorePair octets n m
more-pair octets n m h small none =
    let y : Asked octets n m (with_more octets n) =
    subst (Asked octets n m) (asked-form octets n none) (asks-more octets n m h.near h.there h.back small none) in
    record { pair = record { near = y.steady; far = h.far; there = y.there; back = y.back }; heavier = y.heavier }

module _ (service : Service) (tei : ℕ) where
  pub record Talk (c d : Config) (p q : ℕ) (first second : Past) (w : Wire) (n m : LinkEndpoint) : Type 0 where
    pub near : Holds c service tei p first w.near n
    pub far : Holds d service tei q second w.far m
    pub pair : Pair (pair_of n m)

  module _ (c d : Config) (p q : ℕ) (face : Face c d) (back : Face d c) (first second : Past) where
    -- what comes of it, and what it costs
    pub record Acted (w w' : Wire) (n m : LinkEndpoint) (b : ℕ) : Type 0 where
      pub n' : LinkEndpoint
      pub m' : LinkEndpoint
      pub talk : Talk c d p q first second w' n' m'
      pub price : b + (weight_at n' + weight_at m') + 4 * granted_of w ≤ (weight_at n + weight_at m) + 4 * granted_of w'

    module _ (w : Wire) (n m : LinkEndpoint) (h : Talk c d p q first second w n m) where
      turn-is : turn_of (frames_by (answered next w.near)) ≡ turn_of (map (spelling (own_side w.near.card.config)) (frame_given n.terms (given n.terms n.link)))
      turn-is = ap turn_of (gives-frames service tei p w.near n (subst (λ k. StationStands k service tei p w.near n) (sym h.near.stands.config) h.near.stands))

      acts-gives : Acted w (acting sends w) n m (turn_of (frames_by (answered next w.near)))
      acts-gives =
          let x = end-gives (spelling (own_side w.near.card.config)) n m h.pair in
          record {
            n' = with_sent n;
            m' = m;
            talk = record { near = holds-given service tei p first c w.near n h.near x.kept; far = h.far; pair = x.pair };
            price =
                (omega (arith, (subst (λ b. b + weight_at (with_sent n) ≤ weight_at n) (sym turn-is) x.price), (ap length (gives-granted w.near))));
          }

      -- nothing is on its way
      none-lost : (m' : LinkEndpoint) → m'.way ≡ [] → two_ends_without_first m' ≡ m'
      none-lost m' e = λ i. record m' { way = (ap (drop 1) e ∙ sym e) i }

      takes-some : (f : Parts) (fs : List Parts) → m.way ≡ f ∷ fs → Acted w (acting receives w) n m (turn_of w.far.way)
      takes-some f fs e =
          let way : w.far.way ≡ spelling (own_side d) f ∷ map (spelling (own_side d)) fs = h.far.stands.way ∙ ap (map (spelling (own_side d))) e in
          let same : with_first_of w.far.way w.near ≡ frame_comes (spelling (own_side d) f) w.near = ap (λ way. with_first_of way w.near) way in
          let there : 1 ≤ length m.way = subst (λ fs'. 1 ≤ length fs') (sym e) (omega arith) in
          let x = takes-first m n h.pair.far h.pair.near h.pair.back h.pair.there there in
          let n' = with_link (received (frame f)) n in
          let is : two_ends_with_first_of m.way n ≡ n' = ap (λ way. two_ends_with_first_of way n) e in
          let taken : any_order.Took m n (record m { way = drop 1 m.way }) n' = subst (any_order.Took m n (record m { way = drop 1 m.way })) is x in
          let from : IsCarried d service tei f = All-head (IsCarried d service tei) f fs (subst (All (IsCarried d service tei)) e h.far.stands.carried) in
          record {
            n' = n';
            m' = two_ends_without_first m;
            talk = record {
              near =
                  subst (λ s. Holds c service tei p first s n') (sym same)
                  (holds-taken service tei p first c d face w.near n f h.near from (tells-data m n h.pair.far h.pair.near h.pair.back h.pair.there f fs e) taken.kept_m);
              far = holds-lost service tei q second d w.far m h.far;
              pair = record { near = taken.taker; far = taken.giver; there = taken.back; back = taken.there };
            };
            price =
                subst (λ s. turn_of w.far.way + (weight_at n' + weight_at (two_ends_without_first m)) + 4 * granted_of w ≤ (weight_at n + weight_at m) + 4 * (length s.granted + length w.far.granted)) (sym same)
                (omega (arith, (ap turn_of way), taken.lighter, (ap length (takes-granted (spelling (own_side d) f) w.near))));
          }

      acts-takes : Acted w (acting receives w) n m (turn_of w.far.way)
      acts-takes = go m.way refl
        where
          go : (way : List Parts) → m.way ≡ way → Acted w (acting receives w) n m (turn_of w.far.way)
          go [] e = grind (arith, none-lost, holds-lost)
          go (f ∷ fs) e = takes-some f fs e

      acts-asks : (octets : List ℕ) → Acted w (acting (requests (Data service tei octets)) w) n m 0
      acts-asks octets = go (holds-asked service tei p first c w.near n octets h.near)
        where
          s' : Endpoint
          s' = happens (request (Data service tei octets)) w.near

          go : (s' ≡ w.near) ⊎ More service tei p first c w.near s' n octets → Acted w (record w { near = s' }) n m 0
          go (inl same) = grind arith
          go (inr x) =
              let own : n.terms.n201 ≡ m.terms.n201 = ap (λ t. t.n201) h.near.stands.terms ∙ face.n201 ∙ ap (λ t. t.n201) (sym h.far.stands.terms) in
              let small : length octets ≤ m.terms.n201 = subst (λ k. length octets ≤ k) own (fits service tei p first n.terms n.link octets x.none) in
              let y = more-pair octets n m h.pair small x.none in
              grind (arith, with_more, one-longer)

      acts-request : (r : Request) → IsTalkOf service tei (requests r) → Acted w (acting (requests r) w) n m 0
      acts-request (Data s t octets) is = grind (arith, acts-asks)
      acts-request other is = absurd is

      pub acts : (act : EndStep) → IsTalkOf service tei act → Acted w (acting act w) n m (if is_turn_of act w then 1 else 0)
      acts (requests r) is = acts-request r is
      acts act is = grind (arith, acts-gives, acts-takes)

  swapped : (b x y x' y' g h g' h' : ℕ) → b + (y' + x') + 4 * (h + g) ≤ (y + x) + 4 * (h' + g') → b + (x' + y') + 4 * (g + h) ≤ (x + y) + 4 * (g' + h')
  swapped b x y x' y' g h g' h' p = omega (arith, p)

  -- at either end
  pub does : (c d : Config) (p q : ℕ) (face : Face c d) (back : Face d c) (first second : Past) (k : StepAt) → IsTalk service tei k → (w : Wire) (n m : LinkEndpoint)
      → Talk c d p q first second w n m → Acted c d p q face back first second w (doing k w) n m (if is_turn k w then 1 else 0)
  does c d p q face back first second (at_near act) is w n m h = acts c d p q face back first second w n m h act is
  does c d p q face back first second (at_far act) is w n m h =
      let w' = acting act (turned w) in
      let x = acts d c q p back face second first (turned w) m n (record { near = h.far; far = h.near; pair = turned-pair n m h.pair }) act is in
      record {
        n' = x.m';
        m' = x.n';
        talk = (record { near = x.talk.far; far = x.talk.near; pair = turned-pair x.n' x.m' x.talk.pair });
        price =
            swapped (if is_turn_of act (turned w) then 1 else 0) (weight_at n) (weight_at m) (weight_at x.m') (weight_at x.n') (length w.near.granted) (length w.far.granted)
            (length w'.far.granted) (length w'.near.granted) x.price;
      }

  -- and a whole run
  pub talks : (c d : Config) (p q : ℕ) (face : Face c d) (back : Face d c) (first second : Past) (ds : List StepAt) → All (IsTalk service tei) ds → (w : Wire) (n m : LinkEndpoint)
      → Talk c d p q first second w n m → Acted c d p q face back first second w (doing_all ds w) n m (turns ds w)
  unfolding doing_all turns
  talks c d p q face back first second [] all w n m h = record { n' = n; m' = m; talk = h; price = omega arith }
  talks c d p q face back first second (k ∷ ds) all w n m h =
      let one = does c d p q face back first second k (All-head (IsTalk service tei) k ds all) w n m h in
      let rest = talks c d p q face back first second ds (All-tail (IsTalk service tei) k ds all) (doing k w) one.n' one.m' one.talk in
      grind arith
