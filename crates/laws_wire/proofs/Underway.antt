-- Two stations that are up, nothing is lost, and T200 expires at either: what is then sure to arrive, and that it has, where no turn is left.
use Rattle.laws_wire.proofs.Vocabulary.{◌≡◌, ℕ, ◌≤◌, true, false, ◌&&◌, List, [], ◌∷◌, ◌++◌, map, drop, refl, sym, subst, ◌∙◌, ◌⊎◌, inl, inr, true≢false, arith, All, take_all, All-head, All-tail, Service, Parts, LinkEndpoint, with_sent, frames_of, Config, LineTold, HasNothingToSend, line, one_enquiry, one_answer, nothing-given, line_of, Wire, EndStep, requests, expires, sends, receives, loses}
use Rattle.laws_wire.proofs.Vocabulary.{acting, turned, StepAt, at_near}
use Rattle.laws_wire.proofs.Vocabulary.{at_far, doing, doing_all, IsStill, confirmed, indicated, data_told, heard_in, IsRoughTalkOf, IsRoughTalk, IsTimelyOf, IsTimely, StayTimely, LosesNothing, runs_t200, is_t200, near_asks, far_asks, ever, lt-ltb, ltb-false, nat_lt, offer-goes, two_ends_acting, Ends, timer_T200, two_ends_with_first_of}
use Rattle.laws_link.specs.two.Timely as two_links
use Rattle.laws_wire.proofs.Asking.{with_more, asked-or}
use Rattle.laws_wire.proofs.Awaited.{runs-up}
use Rattle.laws_wire.proofs.Firm.{Firm, as-loose}
use Rattle.laws_wire.proofs.FirmUp.{BothUp, turned-up, up-does}
use Rattle.laws_wire.proofs.LooseUp.{IsRequest}
use Rattle.laws_wire.proofs.Loose.{loose-came}
use Rattle.laws_wire.proofs.LossyPhases.{for-data}
use Rattle.laws_wire.proofs.Simulated.{step_of, timer_of}
use Rattle.laws_wire.proofs.Roomy.{kinds}
use Rattle.laws_wire.proofs.Sure.{Sure, sure-begins, sure-expires, sure-sends, sure-hears}
use Rattle.laws_wire.proofs.SureHeard.{other-expires, other-hears, sure-replied}
use Rattle.laws_wire.proofs.Talking.{Face}
use Rattle.laws_wire.proofs.Tame.{IsFreeFrame}
use Rattle.laws_wire.proofs.TimelyUp.{IsHushed, hushed}
use Rattle.laws_wire.proofs.Replying.{offer-says}

-- ---- where no turn is left

module _ (n m : LinkEndpoint) (h : Firm n m) (quiet : HasNothingToSend n.terms n.link) (way : n.way ≡ []) where
  pub sure-came : HasNothingToSend m.terms m.link → m.way ≡ [] → Sure n m → (m.delivered ≡ n.link.contents)
  sure-came other away o = grind (arith, one_enquiry, kinds, line, one_answer, line_of, frames_of, take_all, nat_lt, lt-ltb, ltb-false, as-loose)

-- ---- while turns come

-- what is so of a first frame, where there is one
module _ (n m : LinkEndpoint) (h : Firm n m) (wide : 3 ≤ n.terms.control) where
  abbrev Then : List Parts → Type 0
  Then way = Firm (two_ends_with_first_of way n) (record m { way = drop 1 way })

  takes-back : (way : List Parts) → m.way ≡ way → Then way → Sure m n → Sure (record m { way = drop 1 way }) (two_ends_with_first_of way n)
  takes-back [] e firm s = subst (λ way. Sure (record m { way = way }) n) e s
  takes-back (f ∷ fs) e firm s = other-hears n m h wide f fs e (All-head IsFreeFrame f fs (subst (All IsFreeFrame) e h.far_tame.way)) firm.joined.near_up s

module _ (service : Service) (tei : ℕ) where
  -- both are up, and what either end sends is sure to arrive where this is so of it
  pub record SureUp (c d : Config) (p q : ℕ) (past other : List LineTold) (A B : Type 0) (w : Wire) : Type 0 where
    pub n : LinkEndpoint
    pub m : LinkEndpoint
    pub up : BothUp service tei c d p q past other w n m
    pub there : A → Sure n m
    pub back : B → Sure m n

  sure-turned : (c d : Config) (p q : ℕ) (past other : List LineTold) (A B : Type 0) (w : Wire) → SureUp c d p q past other A B w → SureUp d c q p other past B A (turned w)
  sure-turned c d p q past other A B w h = record { n = h.m; m = h.n; up = turned-up service tei c d p q past other w h.n h.m h.up; there = h.back; back = h.there }

  sure-by : (c d : Config) (p q : ℕ) (past other : List LineTold) (A B A' B' : Type 0) (w : Wire) → (A' → A) → (B' → B) → SureUp c d p q past other A B w → SureUp c d p q past other A' B' w
  sure-by c d p q past other A B A' B' w f g h = record { n = h.n; m = h.m; up = h.up; there = λ a. h.there (f a); back = λ b. h.back (g b) }

  module _ (c d : Config) (p q : ℕ) (face : Face c d) (past other : List LineTold) (A B : Type 0) (wide_c : 3 ≤ c.control) (w : Wire) (h : SureUp c d p q past other A B w) where
    abbrev n : LinkEndpoint
    n = h.n

    abbrev m : LinkEndpoint
    m = h.m

    firm : Firm n m
    firm = h.up.firm

    wide : 3 ≤ n.terms.control
    wide = subst (λ t. 3 ≤ t.control) (sym h.up.near.stands.terms) wide_c

    abbrev e : Ends
    e = record { near = n; far = m }

    abbrev x : EndStep → LinkEndpoint
    x act = (two_ends_acting (step_of act) e).near

    abbrev y : EndStep → LinkEndpoint
    y act = (two_ends_acting (step_of act) e).far

    -- as something is done at the end
    there-after : (act : EndStep) → IsRoughTalkOf service tei act → LosesNothing (at_near act) → two_links.IsTimelyStep (step_of act) n m → Firm (x act) (y act) → Sure n m → Sure (x act) (y act)
    there-after (requests r) is kept timely then s = for-data service tei (λ r. Sure (x (requests r)) m) (λ octets. asked-or octets n (λ n. Sure n m) s (grind arith)) r is
    there-after (expires timer) is kept timely then s = sure-expires n m firm wide (timer_of timer) timely.1 then.joined.near_up s
    there-after sends is kept timely then s = sure-sends n m firm wide s
    there-after receives is kept timely then s = grind (arith, sure-hears)
    there-after loses is kept timely then s = absurd kept

    back-after : (act : EndStep) → IsRoughTalkOf service tei act → LosesNothing (at_near act) → two_links.IsTimelyStep (step_of act) n m → Firm (x act) (y act) → Sure m n → Sure (y act) (x act)
    back-after (requests r) is kept timely then s =
        for-data service tei (λ r. Sure m (x (requests r)))
        (λ octets. asked-or octets n (Sure m) s (sure-replied n m firm.joined.back.rising (with_more octets n).link n.way n.delivered refl (inl (refl, refl)) s)) r is
    back-after (expires timer) is kept timely then s = other-expires n m firm wide (timer_of timer) timely.1 then.joined.near_up s
    back-after sends is kept timely then s =
        sure-replied n m firm.joined.back.rising (with_sent n).link (with_sent n).way n.delivered (offer-goes n.terms n.link).r (offer-says n.terms n.link n.way) s
    back-after receives is kept timely then s = takes-back n m firm wide m.way refl then s
    back-after loses is kept timely then s = absurd kept

    abbrev Asks : EndStep → Type 0
    Asks act = (is_t200 act && runs_t200 service tei w.near) ≡ true

    begins-now : (act : EndStep) → two_links.IsTimelyStep (step_of act) n m → Firm (x act) (y act) → Asks act → Sure (x act) (y act)
    begins-now (expires (timer_T200 s t)) timely then asks =
        sure-begins n m firm wide timely.1 (sym (runs-up service tei c p w.near n h.up.near.stands firm.joined.near_up) ∙ asks) then.joined.near_up
    begins-now act timely then asks = grind arith

    sure-acts : (act : EndStep) → IsRoughTalkOf service tei act → LosesNothing (at_near act) → IsTimelyOf act w → SureUp c d p q past other (A ⊎ Asks act) B (acting act w)
    sure-acts act is kept in_time =
        elim (up-does service tei c d p q face past other w n m h.up act is in_time) [
          | inl (its, same) ↦
              subst (SureUp c d p q past other (A ⊎ Asks act) B) (sym same) (sure-by c d p q past other A B (A ⊎ Asks act) B w (λ o. elim o [ inl a ↦ a | inr asks ↦ absurd (no-request act its asks) ]) (λ b. b) h)
          | inr z ↦ record {
            n = x act;
            m = y act;
            up = z.up;
            there = λ o. elim o [ inl a ↦ there-after act is kept z.timely z.up.firm (h.there a) | inr asks ↦ begins-now act z.timely z.up.firm asks ];
            back = λ b. back-after act is kept z.timely z.up.firm (h.back b);
          }
        ]
      where
        no-request : (act : EndStep) → IsRequest service tei act → Asks act → ⊥
        no-request act its asks = grind arith

  -- ---- and all of them

  module _ (c d : Config) (p q : ℕ) (face : Face c d) (back : Face d c) (wide_c : 3 ≤ c.control) (wide_d : 3 ≤ d.control) where
    abbrev pub Up : Type 0 → Type 0 → Wire → Type 0
    Up A B w = SureUp c d p q (confirmed service tei ∷ []) (indicated service tei ∷ []) A B w

    step : (A B : Type 0) (k : StepAt) (w : Wire) → IsRoughTalk service tei k → LosesNothing k → IsTimely k w → Up A B w
        → Up (A ⊎ (near_asks service tei k w ≡ true)) (B ⊎ (far_asks service tei k w ≡ true)) (doing k w)
    step A B (at_near act) w is kept x h = grind (arith, sure-by, sure-acts)
    step A B (at_far act) w is kept x h =
        let v = turned w in
        let h' = sure-acts d c q p back (indicated service tei ∷ []) (confirmed service tei ∷ []) B A wide_d v (sure-turned c d p q (confirmed service tei ∷ []) (indicated service tei ∷ []) A B w h) act is (grind arith) x.0 in
        sure-by c d p q (confirmed service tei ∷ []) (indicated service tei ∷ []) A (B ⊎ ((is_t200 act && runs_t200 service tei w.far) ≡ true)) _ _ (turned (acting act v)) no (λ b. b)
        (sure-turned d c q p (indicated service tei ∷ []) (confirmed service tei ∷ []) (B ⊎ ((is_t200 act && runs_t200 service tei w.far) ≡ true)) A (acting act v) h')
      where
        no : A ⊎ (false ≡ true) → A
        no (inl a) = a
        no (inr e) = absurd (true≢false (sym e))

    pub sure-runs : (A B : Type 0) (ds : List StepAt) (w : Wire) → All (IsRoughTalk service tei) ds → All LosesNothing ds → StayTimely ds w → Up A B w
        → Up (A ⊎ (ever (near_asks service tei) ds w ≡ true)) (B ⊎ (ever (far_asks service tei) ds w ≡ true)) (doing_all ds w)
    unfolding doing_all StayTimely ever
    sure-runs A B [] w all kept x h = grind (arith, sure-by)
    sure-runs A B (k ∷ ds) w all kept x h =
        let asks = near_asks service tei k w in
        let asks' = far_asks service tei k w in
        let w' = doing k w in
        let now = step A B k w (All-head (IsRoughTalk service tei) k ds all) (All-head LosesNothing k ds kept) x.0 h in
        sure-by c d p q (confirmed service tei ∷ []) (indicated service tei ∷ []) _ _ _ _ (doing_all ds w')
        (λ x. grind arith) (λ x. grind arith)
        (sure-runs (A ⊎ (asks ≡ true)) (B ⊎ (asks' ≡ true)) ds w' (All-tail (IsRoughTalk service tei) k ds all) (All-tail LosesNothing k ds kept) x.1 now)

  -- what has come at the link is told
  module _ (c d : Config) (p q : ℕ) (past other : List LineTold) (w : Wire) (n m : LinkEndpoint) (h : BothUp service tei c d p q past other w n m) (still : IsStill w) where
    near-hushed : IsHushed service tei n
    near-hushed = hushed service tei c p past w.near n h.near still.near still.near_way

    far-hushed : IsHushed service tei m
    far-hushed = hushed service tei d q other w.far m h.far still.far still.far_way

    abbrev HasHeard : Type 0
    HasHeard = heard_in w.far ≡ other ++ map (data_told service tei) w.near.granted

    pub has-come : Sure n m ⊎ (runs_t200 service tei w.near ≡ false) → HasHeard
    has-come o = grind (arith, data_told, sure-came, n, m, nothing-given, near-hushed, far-hushed, loose-came, as-loose, runs-up)
