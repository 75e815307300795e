-- Two stations that are up, of which neither was ever busy, where each timer is timely: both stay so, whatever is lost.
use Rattle.laws_wire.proofs.Vocabulary.{arith, ◌≡◌, ℕ, false, List, sym, subst, ◌∙◌, ◌⊎◌, inl, inr, All, Service, Link, Ends, LinkEndpoint, Config, LineTold, Endpoint, Wire, EndStep, StepAt, acting, turned, doing_all, IsRoughTalkOf, IsRoughTalk, IsTimelyOf, two_ends_acting, All-weaker}
use Rattle.laws_link.specs.two.Timely as two_links_timely
use Rattle.laws_wire.proofs.Awaited.{link-is, way-is}
use Rattle.laws_wire.proofs.Firm.{Firm, firm-of, firm-turned, as-loose}
use Rattle.laws_wire.proofs.Held.{Held}
use Rattle.laws_wire.proofs.LooseUp.{IsRequest, at-does}
use Rattle.laws_wire.proofs.Simulated.{step_of, full, StandSo, runs-so, AtEither}
use Rattle.laws_wire.proofs.Standing.{StationStands}
use Rattle.laws_wire.proofs.Talking.{Face}
use Rattle.laws_wire.proofs.Tame.{Tame, WaitsSo, IsFreeFrame, IsMild, tame-after}

module _ (service : Service) (tei : ℕ) where
  -- ---- neither end is ever busy, whatever the phase

  pub mild : (act : EndStep) → IsRoughTalkOf service tei act → IsMild (step_of act)
  mild act is = grind arith

  abbrev pub Both : LinkEndpoint → LinkEndpoint → Type 0
  Both n m = Tame n × Tame m

  pub turns : (n m : LinkEndpoint) → Both n m → Both m n
  turns n m h = (h.1, h.0)

  pub on : (act : EndStep) → IsRoughTalkOf service tei act → (e : Ends) → Both e.near e.far → let e' = two_ends_acting (step_of act) e in Both e'.near e'.far
  on act is e h = tame-after (step_of act) (mild act is) e h

  abbrev pub AreTame : Config → Config → ℕ → ℕ → Wire → Type 0
  AreTame c d p q w = StandSo service tei (IsRoughTalkOf service tei) (full service tei) Both turns on c d p q w

  module _ (c d : Config) (p q : ℕ) where
    pub tame-starts : (w : Wire) (n m : LinkEndpoint) → StationStands c service tei p w.near n → StationStands d service tei q w.far m → Tame n → Tame m → AreTame c d p q w
    tame-starts w n m near far x y = record { ends = record { near = n; far = m }; stand = record { near = near; far = far }; so = (x, y) }

    pub tame-runs : Face c d → Face d c → (ds : List StepAt) → All (IsRoughTalk service tei) ds → (w : Wire) → AreTame c d p q w → AreTame c d p q (doing_all ds w)
    tame-runs face back ds all w h =
        runs-so service tei (IsRoughTalkOf service tei) (full service tei) Both turns on c d p q face back ds
        (All-weaker (IsRoughTalk service tei) (AtEither service tei (IsRoughTalkOf service tei)) (λ k is. grind arith) ds all) w h

    -- a station stands for one link and its frames
    same-tame : (k : Config) (place : ℕ) (s : Endpoint) (n n' : LinkEndpoint) → StationStands k service tei place s n → StationStands k service tei place s n' → Tame n → Tame n'
    same-tame k place s n n' h h' x =
        let same : n.link ≡ n'.link = sym (link-is service tei k place s n h) ∙ link-is service tei k place s n' h' in
        record {
          own_free = subst (λ (l : Link). l.own_busy ≡ false) same x.own_free;
          peer_free = subst (λ (l : Link). l.peer_busy ≡ false) same x.peer_free;
          waiting = subst (λ (l : Link). All WaitsSo l.waiting) same x.waiting;
          way = subst (All IsFreeFrame) (sym (way-is service tei k place s n h) ∙ way-is service tei k place s n' h') x.way;
        }

    pub tame-ends : (w : Wire) → AreTame c d p q w → (n m : LinkEndpoint) → StationStands c service tei p w.near n → StationStands d service tei q w.far m → Tame n × Tame m
    tame-ends w h n m near far =
        (same-tame c p w.near h.ends.near n h.stand.near near h.so.0, same-tame d q w.far h.ends.far m h.stand.far far h.so.1)

  -- ---- both are up

  pub record BothUp (c d : Config) (p q : ℕ) (past other : List LineTold) (w : Wire) (n m : LinkEndpoint) : Type 0 where
    pub near : Held c service tei p past w.near n
    pub far : Held d service tei q other w.far m
    pub firm : Firm n m

  pub turned-up : (c d : Config) (p q : ℕ) (past other : List LineTold) (w : Wire) (n m : LinkEndpoint) → BothUp c d p q past other w n m → BothUp d c q p other past (turned w) m n
  turned-up c d p q past other w n m h = record { near = h.far; far = h.near; firm = firm-turned n m h.firm }

  pub record AreUp (c d : Config) (p q : ℕ) (past other : List LineTold) (w : Wire) : Type 0 where
    pub n : LinkEndpoint
    pub m : LinkEndpoint
    pub up : BothUp c d p q past other w n m

  module _ (c d : Config) (p q : ℕ) (face : Face c d) (past other : List LineTold) (w : Wire) (n m : LinkEndpoint) (h : BothUp c d p q past other w n m) where
    abbrev e : Ends
    e = record { near = n; far = m }

    pub record Does (act : EndStep) : Type 0 where
      pub timely : two_links_timely.IsTimelyStep (step_of act) n m
      pub up : BothUp c d p q past other (acting act w) (two_ends_acting (step_of act) e).near (two_ends_acting (step_of act) e).far

    -- each act is one of the ends, or a request that changes nothing
    pub up-does : (act : EndStep) → IsRoughTalkOf service tei act → IsTimelyOf act w → (IsRequest service tei act × (acting act w ≡ w)) ⊎ Does act
    up-does act is x =
        elim (at-does service tei c d p q face past other w n m (record { near = h.near; far = h.far; loose = as-loose n m h.firm }) act (full service tei act is) x) [
          | inl y ↦ inl y
          | inr y ↦
              let e' = two_ends_acting (step_of act) e in
              inr (record {
                timely = y.timely;
                up = record { near = y.at.near; far = y.at.far; firm = firm-of e'.near e'.far y.at.loose (tame-after (step_of act) (mild act is) e (h.firm.near_tame, h.firm.far_tame)) };
              })
        ]
