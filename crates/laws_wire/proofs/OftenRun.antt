-- A call from nothing, in which nothing is lost any more from some time on: how often T200 of either end runs out since.
use Rattle.laws_wire.proofs.Vocabulary.{◌≡◌, ℕ, ◌+◌, ◌≤◌, true, false, ◌&&◌, Bool, cond, List, [], ◌∷◌, length, map, drop, refl, sym, ap, subst, ◌∙◌, ◌⊎◌, inl, inr, arith, All, All-head, All-tail, Service, Parts, T203, LinkEndpoint, with_sent, Config, LineTold, length-map, length-append, length-take-le, all_told, T200, line_of, rising-low, flows-low, Endpoint, Wire, EndStep, requests, expires}
use Rattle.laws_wire.proofs.Vocabulary.{sends, receives, loses, acting}
use Rattle.laws_wire.proofs.Vocabulary.{turned, StepAt, at_near, at_far, doing, doing_all, calling, confirmed, indicated, data_told, heard_in, IsRoughTalkOf, IsRoughTalk, IsTimelyOf, IsTimely, StayTimely, LosesNothing, runs_t200, is_t200, near_asks, far_asks, offer-goes, two_ends_acting, Ends, timer_T200, timer_T203, two_ends_with_first_of}
use Rattle.laws_link.specs.two.Timely as two_links
unfoldable use Rattle.laws_wire.specs.Expiring.{how_often}
use Rattle.laws_wire.specs.Expiring.{ExpiriesComeToAnEnd}
use Rattle.laws_wire.specs.Losing.{due_near, due_far}
use Rattle.laws_wire.proofs.Asking.{with_more, asked-or}
use Rattle.laws_wire.proofs.Awaited.{runs-up}
use Rattle.laws_wire.proofs.Firm.{Firm, firm-turned}
use Rattle.laws_wire.proofs.FirmUp.{BothUp, turned-up, up-does}
use Rattle.laws_wire.proofs.LooseUp.{IsRequest}
use Rattle.laws_wire.proofs.Held.{Held}
use Rattle.laws_wire.proofs.LossyPhases.{for-data}
use Rattle.laws_wire.proofs.Simulated.{step_of, timer_of}
use Rattle.laws_wire.proofs.LossyRun.{setting}
use Rattle.laws_wire.proofs.Often.{Often, In7, In8, often-by, often-expires, often-counts, often-sends, often-hears}
use Rattle.laws_wire.proofs.OftenHeard.{often-replied, often-other-expires, often-other-hears}
use Rattle.laws_wire.proofs.Replying.{offer-says}
use Rattle.laws_wire.proofs.Sure.{Sure, sure-expires}
use Rattle.laws_wire.proofs.Talking.{Face}
use Rattle.laws_wire.proofs.Tame.{IsFreeFrame}
use Rattle.laws_wire.proofs.TimelyRun.{are-up, on-time}

-- V(A) is not after V(S)
acked-low : (n m : LinkEndpoint) → Firm n m → n.link.a ≤ n.link.s
acked-low n m h =
    let one : n.link.a ≤ m.link.r = rising-low n.link.a m.link.r (line_of m) h.joined.there.rising in
    let two : m.link.r ≤ n.link.s = flows-low n m h.there in
    omega (arith, one, two)

-- so T200 ran out as often as contents were missing, and once more
often-most : (o e : ℕ) (n m : LinkEndpoint) → Firm n m → Often o e n m → o + e ≤ length n.link.contents + 1
often-most o e n m h f =
    let low = f.low in let acked = acked-low n m h in let high : m.link.r ≤ n.link.s = flows-low n m h.there in
    let all : n.link.s ≤ length n.link.contents = grind arith in
    go low acked high all f.few
  where
    go : o ≤ m.link.r → n.link.a ≤ n.link.s → m.link.r ≤ n.link.s → n.link.s ≤ length n.link.contents → (e ≡ 0) ⊎ (Sure n m × (In7 o e n ⊎ In8 o e n m)) → o + e ≤ length n.link.contents + 1
    go low acked high all (inl none) = omega (arith, low, high, all, none)
    go low acked high all (inr (s, inl (state, few, lively))) = omega (arith, few, acked, all)
    go low acked high all (inr (s, inr (state, inl one))) = omega (arith, low, high, all, one)
    go low acked high all (inr (s, inr (state, inr (d, few)))) = omega (arith, few, all)

-- what is so of a first frame, where there is one
module _ (o e : ℕ) (n m : LinkEndpoint) (h : Firm n m) (wide : 3 ≤ n.terms.control) where
  abbrev Then : List Parts → Type 0
  Then way = Firm (two_ends_with_first_of way n) (record m { way = drop 1 way })

  hears-first : (way : List Parts) → m.way ≡ way → Then way → Often o e n m → Often o e (two_ends_with_first_of way n) (record m { way = drop 1 way })
  hears-first [] is firm f = subst (λ way. Often o e n (record m { way = way })) is f
  hears-first (p ∷ fs) is firm f =
      often-hears o e n m h p fs is firm.joined.near_up firm.joined.there.rising (All-head IsFreeFrame p fs (subst (All IsFreeFrame) is h.far_tame.way)) f

  takes-first : (way : List Parts) → m.way ≡ way → Then way → Often o e m n → Often o e (record m { way = drop 1 way }) (two_ends_with_first_of way n)
  takes-first [] is firm f = subst (λ way. Often o e (record m { way = way }) n) is f
  takes-first (p ∷ fs) is firm f =
      often-other-hears o e n m h wide p fs is (All-head IsFreeFrame p fs (subst (All IsFreeFrame) is h.far_tame.way)) firm.joined.near_up f

abbrev Count : Bool → ℕ
Count b = cond b 1 0

module _ (service : Service) (tei : ℕ) where
  -- both are up, and so often T200 ran out at either
  pub record OftenUp (c d : Config) (p q : ℕ) (past other : List LineTold) (o e o' e' : ℕ) (w : Wire) : Type 0 where
    pub n : LinkEndpoint
    pub m : LinkEndpoint
    pub up : BothUp service tei c d p q past other w n m
    pub there : Often o e n m
    pub back : Often o' e' m n

  often-turned : (c d : Config) (p q : ℕ) (past other : List LineTold) (o e o' e' : ℕ) (w : Wire) → OftenUp c d p q past other o e o' e' w → OftenUp d c q p other past o' e' o e (turned w)
  often-turned c d p q past other o e o' e' w h = record { n = h.m; m = h.n; up = turned-up service tei c d p q past other w h.n h.m h.up; there = h.back; back = h.there }

  module _ (c d : Config) (p q : ℕ) (face : Face c d) (past other : List LineTold) (o e o' e' : ℕ) (wide_c : 3 ≤ c.control) (w : Wire) (h : OftenUp c d p q past other o e o' e' w) where
    abbrev n : LinkEndpoint
    n = h.n

    abbrev m : LinkEndpoint
    m = h.m

    firm : Firm n m
    firm = h.up.firm

    wide : 3 ≤ n.terms.control
    wide = subst (λ t. 3 ≤ t.control) (sym h.up.near.stands.terms) wide_c

    low : n.link.a ≤ n.link.s
    low = acked-low n m firm

    abbrev ends : Ends
    ends = record { near = n; far = m }

    abbrev x : EndStep → LinkEndpoint
    x act = (two_ends_acting (step_of act) ends).near

    abbrev y : EndStep → LinkEndpoint
    y act = (two_ends_acting (step_of act) ends).far

    abbrev more : EndStep → ℕ
    more act = Count (is_t200 act && runs_t200 service tei w.near)

    as-often : (n' m' : LinkEndpoint) → Often o e n' m' → Often o (e + 0) n' m'
    as-often n' m' f = let none : e ≡ e + 0 = omega arith in subst (λ e. Often o e n' m') none f

    -- as something is done at the end
    there-after : (act : EndStep) → IsRoughTalkOf service tei act → LosesNothing (at_near act) → two_links.IsTimelyStep (step_of act) n m → Firm (x act) (y act) → Often o (e + more act) (x act) (y act)
    there-after (requests r) is kept timely then =
        as-often (x (requests r)) m
        (for-data service tei (λ r. Often o e (x (requests r)) m)
        (λ octets. asked-or octets n (λ n. Often o e n m) h.there (often-by o e n m (with_more octets n) m (omega arith) (λ s. grind arith) (λ s x. x) h.there)) r is)
    there-after (expires (timer_T200 s t)) is kept timely then = go (runs_t200 service tei w.near) refl
      where
        go : (b : Bool) → runs_t200 service tei w.near ≡ b → Often o (e + Count b) (x (expires (timer_T200 s t))) m
        go true runs =
            often-counts o e n m firm wide timely.1 (sym (runs-up service tei c p w.near n h.up.near.stands firm.joined.near_up) ∙ runs) then.joined.near_up low h.there
        go false runs =
            as-often (x (expires (timer_T200 s t))) m
            (often-expires o e n m firm wide T200 timely.1 then.joined.near_up low (sure-expires n m firm wide T200 timely.1 then.joined.near_up) h.there)
    there-after (expires (timer_T203 s t)) is kept timely then =
        as-often (x (expires (timer_T203 s t))) m (often-expires o e n m firm wide T203 timely.1 then.joined.near_up low (sure-expires n m firm wide T203 timely.1 then.joined.near_up) h.there)
    there-after (expires timer) is kept timely then = elim is [ ]
    there-after sends is kept timely then = as-often (x sends) m (often-sends o e n m firm wide low h.there)
    there-after receives is kept timely then = as-often (x receives) (y receives) (hears-first o e n m firm wide m.way refl then h.there)
    there-after loses is kept timely then = absurd kept

    back-after : (act : EndStep) → IsRoughTalkOf service tei act → LosesNothing (at_near act) → two_links.IsTimelyStep (step_of act) n m → Firm (x act) (y act) → Often o' e' (y act) (x act)
    back-after (requests r) is kept timely then =
        for-data service tei (λ r. Often o' e' m (x (requests r)))
        (λ octets. asked-or octets n (Often o' e' m) h.back (often-replied o' e' n m firm.joined.back.rising (with_more octets n).link n.way n.delivered refl (inl (refl, refl)) h.back)) r is
    back-after (expires timer) is kept timely then = often-other-expires o' e' n m firm wide (timer_of timer) timely.1 then.joined.near_up h.back
    back-after sends is kept timely then =
        often-replied o' e' n m firm.joined.back.rising (with_sent n).link (with_sent n).way n.delivered (offer-goes n.terms n.link).r (offer-says n.terms n.link n.way) h.back
    back-after receives is kept timely then = takes-first o' e' n m firm wide m.way refl then h.back
    back-after loses is kept timely then = absurd kept

    often-acts : (act : EndStep) → IsRoughTalkOf service tei act → LosesNothing (at_near act) → IsTimelyOf act w → OftenUp c d p q past other o (e + more act) o' e' (acting act w)
    often-acts act is kept in_time =
        elim (up-does service tei c d p q face past other w n m h.up act is in_time) [
          | inl (its, same) ↦ subst (OftenUp c d p q past other o (e + more act) o' e') (sym same) (subst (λ k. OftenUp c d p q past other o k o' e' w) (no-more act its) h)
          | inr z ↦ record { n = x act; m = y act; up = z.up; there = there-after act is kept z.timely z.up.firm; back = back-after act is kept z.timely z.up.firm }
        ]
      where
        no-more : (act : EndStep) → IsRequest service tei act → e ≡ e + Count (is_t200 act && runs_t200 service tei w.near)
        no-more (requests r) its = omega arith
        no-more act its = absurd its

  -- ---- and all of them

  module _ (c d : Config) (p q : ℕ) (face : Face c d) (back : Face d c) (wide_c : 3 ≤ c.control) (wide_d : 3 ≤ d.control) where
    abbrev pub Up : ℕ → ℕ → ℕ → ℕ → Wire → Type 0
    Up o e o' e' w = OftenUp c d p q (confirmed service tei ∷ []) (indicated service tei ∷ []) o e o' e' w

    step : (o e o' e' : ℕ) (k : StepAt) (w : Wire) → IsRoughTalk service tei k → LosesNothing k → IsTimely k w → Up o e o' e' w
        → Up o (e + Count (near_asks service tei k w)) o' (e' + Count (far_asks service tei k w)) (doing k w)
    step o e o' e' (at_near act) w is kept x h =
        let y = often-acts c d p q face (confirmed service tei ∷ []) (indicated service tei ∷ []) o e o' e' wide_c w h act is kept x in
        subst (λ e'. Up o (e + Count (is_t200 act && runs_t200 service tei w.near)) o' e' (acting act w)) (omega arith) y
    step o e o' e' (at_far act) w is kept x h =
        let v = turned w in
        let y = often-acts d c q p back (indicated service tei ∷ []) (confirmed service tei ∷ []) o' e' o e wide_d v (often-turned c d p q (confirmed service tei ∷ []) (indicated service tei ∷ []) o e o' e' w h) act is (grind arith) x.0 in
        subst (λ e. Up o e o' (e' + Count (is_t200 act && runs_t200 service tei w.far)) (turned (acting act v))) (omega arith)
        (often-turned d c q p (indicated service tei ∷ []) (confirmed service tei ∷ []) o' (e' + Count (is_t200 act && runs_t200 service tei w.far)) o e (acting act v) y)

    pub often-runs : (o e o' e' : ℕ) (ds : List StepAt) (w : Wire) → All (IsRoughTalk service tei) ds → All LosesNothing ds → StayTimely ds w → Up o e o' e' w
        → Up o (e + how_often (near_asks service tei) ds w) o' (e' + how_often (far_asks service tei) ds w) (doing_all ds w)
    unfolding doing_all StayTimely how_often
    often-runs o e o' e' [] w all kept x h =
        let one : e ≡ e + 0 = omega arith in let two : e' ≡ e' + 0 = omega arith in
        subst (λ e. Up o e o' (e' + 0) w) one (subst (λ e'. Up o e o' e' w) two h)
    often-runs o e o' e' (k ∷ ds) w all kept x h =
        let w' = doing k w in
        let a = Count (near_asks service tei k w) in let a' = Count (far_asks service tei k w) in
        let b = how_often (near_asks service tei) ds w' in let b' = how_often (far_asks service tei) ds w' in
        let now = step o e o' e' k w (All-head (IsRoughTalk service tei) k ds all) (All-head LosesNothing k ds kept) x.0 h in
        let more = often-runs o (e + a) o' (e' + a') ds w' (All-tail (IsRoughTalk service tei) k ds all) (All-tail LosesNothing k ds kept) x.1 now in
        let one : (e + a) + b ≡ e + (a + b) = omega arith in let two : (e' + a') + b' ≡ e' + (a' + b') = omega arith in
        subst (λ e. Up o e o' (e' + (a' + b')) (doing_all ds w')) one (subst (λ e'. Up o ((e + a) + b) o' e' (doing_all ds w')) two more)

module _ (service : Service) (tei : ℕ) where
  -- what was told at the other is what it had received
  told-so : (k : Config) (q : ℕ) (past : List LineTold) (s : Endpoint) (n m : LinkEndpoint) → Held k service tei q past s m → Firm n m → length (heard_in s) ≡ length past + m.link.r
  told-so k q past s n m held firm =
      let all : m.link.r ≤ length n.link.contents = grind (arith, flows-low) in
      ap (λ hs. length hs) held.heard ∙ length-append past (map (data_told service tei) m.delivered)
      ∙ ap (λ x. length past + x) (length-map m.delivered (data_told service tei) ∙ ap (λ xs. length xs) firm.joined.there.delivered ∙ length-take-le m.link.r n.link.contents all)

  due-so : (k : Config) (p : ℕ) (past : List LineTold) (s : Endpoint) (n : LinkEndpoint) (first : LineTold) → Held k service tei p past s n → length (all_told service tei first s) ≡ 1 + length n.link.contents
  due-so k p past s n first held =
      let all : length (map (data_told service tei) s.granted) ≡ length n.link.contents = length-map s.granted (data_told service tei) ∙ ap (λ xs. length xs) held.granted in
      omega (arith, all)

pub expiries-come-to-an-end : ExpiriesComeToAnEnd
expiries-come-to-an-end service c d line other tei before since (can, wide_c, wide_d, talk, timely, on) =
    let x = setting service c d line other tei can in
    let w = doing_all before (calling service tei c line d other) in
    let last = doing_all since w in
    let was = are-up service tei c d 0 0 x.face x.back x.near x.far w (on-time service c d line other tei before can talk timely) on.0 in
    let o = was.m.link.r in let o' = was.n.link.r in
    let begun : OftenUp service tei c d 0 0 (confirmed service tei ∷ []) (indicated service tei ∷ []) o 0 o' 0 w = record {
      n = was.n;
      m = was.m;
      up = was.up;
      there = record { low = omega arith; few = inl refl };
      back = record { low = omega arith; few = inl refl };
    } in
    let h = often-runs service tei c d 0 0 x.face x.back wide_c wide_d o 0 o' 0 since w on.1 on.2 on.3 begun in
    let e = how_often (near_asks service tei) since w in let e' = how_often (far_asks service tei) since w in
    let most : o + (0 + e) ≤ length h.n.link.contents + 1 = often-most o (0 + e) h.n h.m h.up.firm h.there in
    let most' : o' + (0 + e') ≤ length h.m.link.contents + 1 = often-most o' (0 + e') h.m h.n (firm-turned h.n h.m h.up.firm) h.back in
    let told : length (heard_in w.far) ≡ 1 + o = told-so service tei d 0 (indicated service tei ∷ []) w.far was.n was.m was.up.far was.up.firm in
    let told' : length (heard_in w.near) ≡ 1 + o' = told-so service tei c 0 (confirmed service tei ∷ []) w.near was.m was.n was.up.near (firm-turned was.n was.m was.up.firm) in
    let due : length (due_far service tei last) ≡ 1 + length h.n.link.contents = due-so service tei c 0 (confirmed service tei ∷ []) last.near h.n (indicated service tei) h.up.near in
    let due' : length (due_near service tei last) ≡ 1 + length h.m.link.contents = due-so service tei d 0 (indicated service tei ∷ []) last.far h.m (confirmed service tei) h.up.far in
    (omega (arith, most, told, due), omega (arith, most', told', due'))
