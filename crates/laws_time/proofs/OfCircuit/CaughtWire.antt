-- Two links that are up: what the one had received while the other asks is acknowledged once that is answered.
use Rattle.laws_time.proofs.Vocabulary.{All, All-head, All-nil, All-tail, BadTei, Bool, Called, CanCall, Config, Control, EndStep, Established, Face, FrameEndpoint as Endpoint, Held, IsAskedOfLink as IsAsked, IsFullTalk, IsFullTalkOf, IsInRangeTerms as IsInRange, IsTimelyOf, IsTrue, LineTold, Link, LinkEndpoint, LinkTimer, List, Loose, LooseAt, LooseUp, Means, NoLink, None, Ok, Parts, Refusal}
use Rattle.laws_time.proofs.Vocabulary.{Request, Rising, Room, Seq, Service, Some, StationStands, StayPatient, StepAt, T200, T203, Terms, Timer, TimerRecovery, Wire, [], acting, ap, arith, at-expires, at-gives, at-takes, at-turned, at_far, at_near, calling, closed, cond, confirmed, doing, drop, expired, expires, false, free_slots, held-lost, indicated, inl, inr, is_multiple_frame, is_on-at}
use Rattle.laws_time.proofs.Vocabulary.{le-ltb, length, length-drop, length-take-le, line_at, link-is, link-ranges, link-sound, link_after as after, link_of, long-there, loose-after, loses, lossy-calls-come-through, may-there, named-means, not, not-told, patient-goes, place_of-is, queue_of, received, receives, refl, requests, rising-low, room_of, seen, sends, seq, setting, subst, sym, terms}
use Rattle.laws_time.proofs.Vocabulary.{timer_T200, timer_T203, true, true≢false, turned, uncalled, unless, wire_doing_all as doing_all, with_link, with_sent, ℕ, ◌++◌, ◌+◌, ◌==◌, ◌∙◌, ◌∷◌, ◌≡◌, ◌≤◌, ◌⊎◌}
use Rattle.model_link.specs.TwoEnds as two_ends
use Rattle.laws_link.specs.two.Timely as two_links_timely
use Rattle.laws_wire.proofs.UaLostRun as run
use Rattle.laws_wire.proofs.Vocabulary.{frame, frames_of, offer-gave, offer-goes, line, Kind, kind_of, answer, NoAlien, is-no-alien, Flow, Heard, heard, is_recovering, answer-says, frame-taken, named-within, named-is_seq, flows-low, most, CanRepeat, awaits_answer}
use Rattle.laws_wire.proofs.UaCalled.{Stirs}
use Rattle.laws_wire.proofs.LossyPhases.{Aims}
use Rattle.laws_wire.proofs.Simulated.{each-timer}
use Rattle.laws_wire.proofs.TimelyUp.{never}
use Rattle.laws_wire.proofs.UaCalledAt.{Free, asked-at}
use Rattle.laws_wire.specs.Losing.{heard_in}
use Rattle.model_link.proofs.Direction.{line_of}
use Rattle.model_card.specs.Room.{room}
use Rattle.laws_time.proofs.OfCircuit.ArrivSide.{codes}
use Rattle.laws_time.proofs.OfCircuit.ArrivTold.{Known, all-known, few, no-earlier, starts, down-near, contents_of, contents-append, contents-data}

-- A link goes on by itself: its V(A) and V(R) stay, and state 8 does.
pub record Still (l l' : Link) : Type 0 where
  pub a : l'.a ≡ l.a
  pub r : l'.r ≡ l.r
  pub keeps : l.state ≡ TimerRecovery → l'.state ≡ TimerRecovery

pub sent-still : (n m : LinkEndpoint) → Loose n m → Still n.link (with_sent n).link
sent-still n m h = grind (arith, offer-gave, offer-goes)

pub timer-still : (t : Terms) (l : Link) → IsTrue (is_multiple_frame l.state) → (timer : LinkTimer) → IsTrue (is_multiple_frame (after t (expired timer) l).state) → Still l (after t (expired timer) l)
timer-still t l up timer on = grind arith

pub stirred : (Free : Type 0) (l l' : Link) → Stirs Free l l' → Still l l'
stirred Free l l' x = record { a = x.a; r = x.r; keeps = λ at. grind (arith, most, is_recovering) }

-- An end hears the first frame in transit.
module _ (n m : LinkEndpoint) (h : Loose n m) (f : Parts) (fs : List Parts) (first : m.way ≡ f ∷ fs) (up' : IsTrue (is_multiple_frame (after n.terms (received (frame f)) n.link).state)) where
  abbrev l' : Link
  l' = after n.terms (received (frame f)) n.link

  abbrev x : Kind
  x = kind_of f.address.command f.control

  abbrev rest : List Kind
  rest = line m.terms fs m.link.waiting

  abbrev own : List Kind
  own = line n.terms n.way n.link.waiting

  there : Flow n.link.s m.link.r (is_recovering n.link.state) m.link.rejecting own (x ∷ rest)
  there = subst (λ way. Flow n.link.s m.link.r (is_recovering n.link.state) m.link.rejecting own (line m.terms way m.link.waiting)) first h.there

  back : Flow m.link.s n.link.r (is_recovering m.link.state) n.link.rejecting (x ∷ rest) own
  back = subst (λ way. Flow m.link.s n.link.r (is_recovering m.link.state) n.link.rejecting (line m.terms way m.link.waiting) own) first h.back

  known : NoAlien x
  known = is-no-alien m.link.s n.link.r (is_recovering m.link.state) n.link.rejecting x rest own back

  rising : Rising n.link.a m.link.r (f ∷ fs ++ frames_of m.terms m.link.waiting)
  rising = subst (λ way. Rising n.link.a m.link.r (way ++ frames_of m.terms m.link.waiting)) first h.joined.there.rising

  within-127 : n.link.s ≤ n.link.a + 127
  within-127 = let few = h.joined.near_sound.within in let most_k = h.joined.near_ranges.k_high in omega (arith, few, most_k)

  -- V(A) becomes what the N(R) means.
  acknowledged : l'.a ≡ rising.0
  acknowledged =
      let told = (frame-taken n.terms n.link h.joined.near_up f.address.command f.info rising.0 f.control rising.2).took.by.stay up' in
      let within = named-within n.link.a n.link.s told.0 (seq rising.0) told.1 in let i = rising.0 in let low : n.link.a ≤ i = rising.1 in
      let below : i ≤ m.link.r = rising-low i m.link.r (fs ++ frames_of m.terms m.link.waiting) rising.3 in let high : m.link.r ≤ n.link.s = flows-low n m h.there in let near = within-127 in
      told.2.acknowledged ∙ named-means n.link.a n.link.s i told.0 (seq i) refl low (omega (arith, below, high, near)) within.0 within.1 near (named-is_seq n.link.a n.link.s told.0 (seq i) told.1)

  pub rises : n.link.a ≤ l'.a
  rises = subst (λ a. n.link.a ≤ a) (sym acknowledged) rising.1

  taken-more : (y : Kind) (b : Bool) → NoAlien y → Heard y b n.link l' → n.link.r ≤ l'.r
  taken-more y b known_ k = grind arith

  -- V(R) rises, too.
  pub takes-more : n.link.r ≤ l'.r
  takes-more = taken-more x (is_recovering n.link.state) known (heard n.terms n.link h.joined.near_up f.address.command f.info f.control up')

  -- The answer to an enquiry has V(R) of the other end as it is.
  says-it : (b : Bool) (control : Control) (nr : Seq) (i : ℕ) → kind_of b control ≡ answer nr → Means i control → nr ≡ seq i
  says-it b control nr i is means = grind arith

  answered : (nr : Seq) → x ≡ answer nr → is_recovering n.link.state ≡ true → l'.a ≡ m.link.r
  answered nr is rec =
      let i = rising.0 in
      let flow : Flow n.link.s m.link.r true m.link.rejecting own (answer nr ∷ rest) = subst (λ y. Flow n.link.s m.link.r true m.link.rejecting own (y ∷ rest)) is (subst (λ b. Flow n.link.s m.link.r b m.link.rejecting own (x ∷ rest)) rec there) in
      let one : nr ≡ seq m.link.r = answer-says n.link.s m.link.r true m.link.rejecting nr own rest flow in let two : nr ≡ seq i = says-it f.address.command f.control nr i is rising.2 in
      let low : n.link.a ≤ i = rising.1 in let below : i ≤ m.link.r = rising-low i m.link.r (fs ++ frames_of m.terms m.link.waiting) rising.3 in
      let high : m.link.r ≤ n.link.s = flows-low n m h.there in let near = within-127 in grind (arith, acknowledged, named-means, seq)

  in-8 : (y : Kind) → x ≡ y → NoAlien y → Heard y true n.link l' → n.link.state ≡ TimerRecovery → (l'.state ≡ TimerRecovery) ⊎ (l'.a ≡ m.link.r)
  in-8 h is known_ k at = grind (arith, answered, is_recovering)

  -- An end in state 8 stays there, or acknowledges all that the other end has received.
  pub asks-on : n.link.state ≡ TimerRecovery → (l'.state ≡ TimerRecovery) ⊎ (l'.a ≡ m.link.r)
  asks-on at = in-8 x refl known (subst (λ b. Heard x b n.link l') (ap is_recovering at) (heard n.terms n.link h.joined.near_up f.address.command f.info f.control up')) at

-- ---- what holds of two ends as long as it is kept by what either does

pub record Keeps (P : LinkEndpoint → LinkEndpoint → Type 0) : Type 0 where
  pub still : (n n' m : LinkEndpoint) → Still n.link n'.link → P n m → P n' m
  pub hears : (n m : LinkEndpoint) → Loose n m → (f : Parts) (fs : List Parts) → m.way ≡ f ∷ fs → IsTrue (is_multiple_frame (with_link (received (frame f)) n).link.state) → P n m
      → P (with_link (received (frame f)) n) (record m { way = fs })
  pub ways : (n m : LinkEndpoint) (way : List Parts) → P n m → P (record n { way = way }) m

-- The other end had received so many. An end asks, if it may be so; or that many are acknowledged.
pub record Owes (asks : Bool) (k : ℕ) (n m : LinkEndpoint) : Type 0 where
  pub had : k ≤ m.link.r
  pub is : ((asks ≡ true) × (n.link.state ≡ TimerRecovery)) ⊎ (k ≤ n.link.a)

module _ (asks : Bool) (k : ℕ) where
  by-state : (n n' : LinkEndpoint) → n.link.a ≤ n'.link.a → (n.link.state ≡ TimerRecovery → (n'.link.state ≡ TimerRecovery) ⊎ (k ≤ n'.link.a))
      → ((asks ≡ true) × (n.link.state ≡ TimerRecovery)) ⊎ (k ≤ n.link.a) → ((asks ≡ true) × (n'.link.state ≡ TimerRecovery)) ⊎ (k ≤ n'.link.a)
  by-state n n' h1z h2z h3z = grind arith

  pub owes-keeps : Keeps (Owes asks k)
  owes-keeps = record {
    still = λ n n' m x h. (let same = x.a in record { had = h.had; is = by-state n n' (omega (arith, same)) (λ at. inl (x.keeps at)) h.is });
    hears = λ n m loose f fs first up h.
        (let had = h.had in record {
          had = had;
          is = by-state n (with_link (received (frame f)) n) (rises n m loose f fs first up) (λ at. elim (asks-on n m loose f fs first up at) [
            | inl y ↦ inl y
            | inr y ↦ inr (omega (arith, had, y))
          ]) h.is;
        });
    ways = λ n m way h. record { had = h.had; is = h.is };
  }

  pub owed-keeps : Keeps (λ n m. Owes asks k m n)
  owed-keeps = record {
    still = λ n n' m x h. (let had = h.had in let same = x.r in record { had = omega (arith, had, same); is = h.is });
    hears = λ n m loose f fs first up h. (let had = h.had in let more = takes-more n m loose f fs first up in record { had = omega (arith, had, more); is = h.is });
    ways = λ n m way h. record { had = h.had; is = h.is };
  }

-- ---- two stations whose links are up: what holds of the ends for which they stand goes on to hold, whatever is done there, if either end
-- keeps it.

-- As the other end sees it.
abbrev pub flipped : (LinkEndpoint → LinkEndpoint → Type 0) → LinkEndpoint → LinkEndpoint → Type 0
flipped P n m = P m n

module _ (service : Service) (tei : ℕ) where
  pub record UpWith (c d : Config) (p q : ℕ) (past other : List LineTold) (P : LinkEndpoint → LinkEndpoint → Type 0) (w : Wire) : Type 0 where
    pub n : LinkEndpoint
    pub m : LinkEndpoint
    pub at : LooseAt service tei c d p q past other w n m
    pub holds : P n m

  pub up-turned : (c d : Config) (p q : ℕ) (past other : List LineTold) (P : LinkEndpoint → LinkEndpoint → Type 0) (w : Wire) → UpWith c d p q past other P w → UpWith d c q p other past (flipped P) (turned w)
  up-turned c d p q past other P w h = record { n = h.m; m = h.n; at = at-turned service tei c d p q past other w h.n h.m h.at; holds = h.holds }

  module _ (c d : Config) (p q : ℕ) (face : Face c d) (past other : List LineTold) (P : LinkEndpoint → LinkEndpoint → Type 0) (k : Keeps P) (w : Wire) (h : UpWith c d p q past other P w) where
    abbrev n : LinkEndpoint
    n = h.n

    abbrev m : LinkEndpoint
    m = h.m

    abbrev Now : Wire → Type 0
    Now w' = UpWith c d p q past other P w'

    loose : Loose n m
    loose = h.at.loose

    loses-one : Now (acting loses w)
    loses-one = record {
      n = two_ends.without_first n;
      m = m;
      at = record { near = held-lost service tei p past c w.near n h.at.near; far = h.at.far; loose = loose-after n m loose two_ends.loses tt };
      holds = k.ways n m (drop 1 n.way) h.holds;
    }

    hears-first : (way : List Parts) → m.way ≡ way → IsTrue (is_multiple_frame (two_ends.with_first_of way n).link.state) → P (two_ends.with_first_of way n) (record m { way = drop 1 way })
    hears-first [] e up = subst (λ way. P n (record m { way = way })) e h.holds
    hears-first (f ∷ fs) e up = k.hears n m loose f fs e up h.holds

    takes : Now (acting receives w)
    takes =
        let at = at-takes service tei c d p q face past other w n m h.at in
        record { n = two_ends.with_first_of m.way n; m = two_ends.without_first m; at = at; holds = hears-first m.way refl at.loose.joined.near_up }

    asks : (r : Request) → IsAsked service tei r → Now (acting (requests r) w)
    asks r is =
        asked-at service tei c p past w n h.at.near loose.joined.near_up loose.near_sane (λ s. Now (record w { near = s })) h
        (λ rq s' mild x. record {
          n = record n { link = x.left };
          m = m;
          at = record { near = x.held; far = h.at.far; loose = subst (λ y. Loose y m) x.becomes (loose-after n m loose (two_ends.requests rq false) mild) };
          holds = k.still n (record n { link = x.left }) m (stirred (Free service tei c p past w n h.at.near loose.joined.near_up loose.near_sane) n.link x.left x.stirs) h.holds;
        }) r is

    runs-out : (timer : Timer) (its : LinkTimer) → Aims service tei timer its → CanRepeat its n → two_links_timely.IsTimely its n m → Now (acting (expires timer) w)
    runs-out timer its aims can timely =
        let at = at-expires service tei c d p q face past other w n m h.at timer its aims can timely in
        record { n = with_link (expired its) n; m = m; at = at; holds = k.still n (with_link (expired its) n) m (timer-still n.terms n.link loose.joined.near_up its at.loose.joined.near_up) h.holds }

    by-t200 : IsTimelyOf (expires (timer_T200 service tei)) w → Now (acting (expires (timer_T200 service tei)) w)
    by-t200 (long, may) =
        let there = may-there service tei c p w.near n h.at.near.stands may in
        let none = λ (state : n.link.state ≡ TimerRecovery).
        closed n m (long-there service tei c d p q w.near w.far n m h.at.near.stands h.at.far.stands long (ap awaits_answer state)) in
        runs-out (timer_T200 service tei) T200 (λ l. refl) (λ state running. there (ap awaits_answer state) running) (λ state running. none state)

    by-t203 : Now (acting (expires (timer_T203 service tei)) w)
    by-t203 =
        runs-out (timer_T203 service tei) T203 (λ l. refl) (λ state running. absurd (never service tei c p past w.near n h.at.near loose.near_sane.timed state running))
        (λ state running. absurd (never service tei c p past w.near n h.at.near loose.near_sane.timed state running))

    pub acts : (act : EndStep) → IsFullTalkOf service tei act → IsTimelyOf act w → Now (acting act w)
    acts (requests r) is x = asks r is
    acts (expires timer) is x = each-timer service tei (λ timer. IsTimelyOf (expires timer) w → Now (acting (expires timer) w)) by-t200 (λ x. by-t203) timer is x
    acts sends is x = record { n = with_sent n; m = m; at = at-gives service tei c d p q face past other w n m h.at; holds = k.still n (with_sent n) m (sent-still n m loose) h.holds }
    acts receives is x = takes
    acts loses is x = loses-one

  module _ (c d : Config) (p q : ℕ) (face : Face c d) (back : Face d c) (past other : List LineTold) (P : LinkEndpoint → LinkEndpoint → Type 0) (k : Keeps P) (k' : Keeps (flipped P)) where
    one-step : (d' : StepAt) (w : Wire) → IsFullTalk service tei d' → Rattle.laws_wire.specs.Answering.IsPatient d' w → (UpWith c d p q past other P w) → (UpWith c d p q past other P (doing d' w))
    one-step (at_near act) w is x h = acts c d p q face past other P k w h act is x
    one-step (at_far act) w is x h =
        up-turned d c q p other past (flipped P) (acting act (turned w)) (acts d c q p back other past (flipped P) k' (turned w) (up-turned c d p q past other P w h) act is x)

    pub all-steps : (ds : List StepAt) (w : Wire) → All (IsFullTalk service tei) ds → StayPatient ds w → (UpWith c d p q past other P w) → (UpWith c d p q past other P (doing_all ds w))
    unfolding StayPatient doing_all
    all-steps [] w all x h = h
    all-steps (d' ∷ ds) w all x h = all-steps ds (doing d' w) (All-tail (IsFullTalk service tei) d' ds all) x.1 (one-step d' w (All-head (IsFullTalk service tei) d' ds all) x.0 h)

-- ---- a call on a wire in which no error F was told: once the end that calls was told the confirm, both links are up

module _ (service : Service) (tei : ℕ) (c d : Config) (p q : ℕ) (face : Face c d) (back : Face d c) (rt : IsInRange (terms c service tei)) (ru : IsInRange (terms d service tei)) where
  called-up : (past : List LineTold) (b : Bool) (v : Wire) → run.IsCalled service tei c d p q face back rt ru past b v → (heard_in v.near ≡ [] → ⊥) → LooseUp service tei c d p q (confirmed service tei ∷ []) past v
  called-up past b v (inl h) some = absurd (some (not-told service tei c d p q face back rt ru (run.Away service tei c d p q face back rt ru past b) v h))
  called-up past b v (inr (inl h)) some = absurd (some h.near.heard)
  called-up past b v (inr (inr (inl h))) some = absurd (some h.near.heard)
  called-up past b v (inr (inr (inr h))) some = h

  phase-up : (x : Called) (v : Wire) → run.Phase service tei c d p q face back rt ru x v → (heard_in v.near ≡ [] → ⊥) → ((x.told ≡ []) × (x.given_up ≡ 0)) ⊎ ((x.told ≡ indicated service tei ∷ []) × (x.given_up ≡ 0)) → (LooseUp service tei c d p q (confirmed service tei ∷ []) (indicated service tei ∷ []) v)
  phase-up x v (inl (told, sent, down)) some which = absurd (some (down-near service tei c d p q face back rt ru v down))
  phase-up x v (inr (called, h)) some (inl (none, zero)) = absurd (true≢false (sym (ap (λ ts. length ts == 0) none) ∙ called))
  phase-up x v (inr (called, h)) some (inr (is, zero)) = subst (λ past. LooseUp service tei c d p q (confirmed service tei ∷ []) past v) is (called-up x.told x.sent v h some)

pub both-up : (service : Service) (c d : Config) (line other tei : ℕ) (ds : List StepAt) (can : CanCall c line d other tei) → All (IsFullTalk service tei) ds
    → let begun = calling service tei c line d other in StayPatient ds begun → codes (heard_in (doing_all ds begun).far) ≡ [] → (heard_in (doing_all ds begun).near ≡ [] → ⊥)
    → LooseUp service tei c d 0 0 (confirmed service tei ∷ []) (indicated service tei ∷ []) (doing_all ds begun)
both-up service c d line other tei ds can talk patient none some =
    let s = setting service c d line other tei can in let begun = calling service tei c line d other in let w = doing_all ds begun in let x = seen service tei ds begun uncalled in
    let first : Known service tei [] 0 = record { all_f = All-nil (λ code. code ≡ Rattle.lapd_frame.specs.declared.notes.ErrorCode.TheVariants.F); kinds = inl (refl, refl) } in
    let h = patient-goes service c d line other tei ds can talk patient in
    let known = all-known service tei c d 0 0 s.face s.back s.near s.far ds talk begun patient uncalled (starts service c d line other tei can) first in
    let t = lossy-calls-come-through service c d line other tei ds can talk patient in let same = no-earlier service tei c d 0 0 s.face s.back s.near s.far x w h known t none in
    subst (λ w. LooseUp service tei c d 0 0 (confirmed service tei ∷ []) (indicated service tei ∷ []) w) (sym same)
    (phase-up service tei c d 0 0 s.face s.back s.near s.far x h.v h.phase (λ e. some (ap (λ (w : Wire). heard_in w.near) same ∙ e))
    (few service tei c d 0 0 s.face s.back s.near s.far x w h known t none))

-- ---- a station whose link is up: how many of its contents are acknowledged, as its room says, and how many the other was told

-- So many are acknowledged.
abbrev pub Acknowledges : Service → ℕ → ℕ → Endpoint → Type 0
Acknowledges service tei n s = (left : Room) × (room s.line service tei s.card ≡ Ok left) × (left.queue + length s.granted ≡ s.card.config.queue + n)

two-pass : (a b : Bool) (x y : Refusal) → a ≡ false → b ≡ false → cond a (Some x) (cond b (Some y) None) ≡ None
two-pass a b x y first then = rw (first, then) refl

module _ (service : Service) (tei : ℕ) where
  module _ (c : Config) (place : ℕ) (past : List LineTold) (s : Endpoint) (n : LinkEndpoint) (h : Held c service tei place past s n) (low : n.link.a ≤ length n.link.contents) where
    own-end : StationStands s.card.config service tei place s n
    own-end = subst (λ k. StationStands k service tei place s n) (sym h.stands.config) h.stands

    pub acknowledges : Acknowledges service tei n.link.a s
    acknowledges =
        let l = line_at s.line s.card in let few : tei ≤ 126 = subst (λ (t : Terms). t.tei ≤ 126) h.stands.terms (link-ranges service tei place s n own-end).tei in
        let at = (place_of-is l.management.places tei place h.stands.speaks.placed).1 in let link = ap (λ (l : Link). length (queue_of l)) (link-is service tei c place s n h.stands) in
        let some = length-drop n.link.a n.link.contents in let kept = (link-sound service tei place s n own-end).queue in let terms_are = ap (λ (t : Terms). t.queue) h.stands.terms in
        let config = ap (λ (k : Config). k.queue) h.stands.config in let granted = ap length h.granted in
        let left = room_of (terms s.card.config service tei) (free_slots s.card) (link_of service tei l) in (
          left,
          ap (λ o. unless o left) (two-pass _ _ BadTei NoLink (le-ltb 126 tei few) (ap not (is_on-at l.management.places place tei at))),
          omega (arith, link, some, kept, terms_are, config, granted, low),
        )

  module _ (c d : Config) (p q : ℕ) (past other : List LineTold) (w : Wire) (n m : LinkEndpoint) (h : LooseAt service tei c d p q past other w n m) where
    -- V(A), V(R) and what was accepted
    acked : n.link.a ≤ m.link.r
    acked = rising-low n.link.a m.link.r (line_of m) h.loose.joined.there.rising

    accepted : m.link.r ≤ length n.link.contents
    accepted = h.loose.joined.there.accepted

    -- The other end was told as many contents as it has received.
    pub told-as-many : contents_of other ≡ [] → length (contents_of (heard_in w.far)) ≡ m.link.r
    told-as-many none = grind (arith, contents-append, contents-data, length-take-le)

    pub acknowledges-some : Acknowledges service tei n.link.a w.near
    acknowledges-some = let one = acked in let two = accepted in acknowledges c p past w.near n h.near (omega (arith, one, two))

    pub no-more : n.link.a ≤ m.link.r
    no-more = acked

  module _ (c d : Config) (p q : ℕ) (past other : List LineTold) (w : Wire) where
    pub owing : (h : LooseUp service tei c d p q past other w) → h.n.link.state ≡ TimerRecovery → UpWith service tei c d p q past other (Owes true h.m.link.r) w
    owing h at = record { n = h.n; m = h.m; at = record { near = h.near; far = h.far; loose = h.loose }; holds = record { had = omega arith; is = inl (refl, at) } }

    pub settled : (k : ℕ) (h : UpWith service tei c d p q past other (Owes true k) w) → h.n.link.state ≡ Established → UpWith service tei c d p q past other (Owes false k) w
    settled k h at = grind arith

    pub paid : (k : ℕ) (h : UpWith service tei c d p q past other (Owes false k) w) → k ≤ h.n.link.a
    paid k h = grind arith
