-- One direction between two ends: what the sender's contents become on the line and at the receiver.
use Rattle.model_link.proofs.Vocabulary.{length-append, ◌≡◌, ℕ, ◌+◌, ◌%◌, ◌<◌, ◌≤◌, List, [], ◌∷◌, ◌++◌, length, take, Some, refl, sym, drop, ap, subst, append_assoc, append-nil, arith, slice_get, take-append-le, Seq, seq, seq-value, Parts, ControlFrame, Terms, Link, frame_of, Endpoint}
use Rattle.model_link.proofs.Lines.{Carries, Carried, Rising, carried-more, carried-lower, carried-push, rising-lower, rising-push}
use Rattle.model_link.proofs.Facing.{AreReports, Reports}

-- The frames that wait, as they will go.
abbrev pub frames_of : Terms → List ControlFrame → List Parts
frames_of t [] = []
frames_of t (f ∷ fs) = frame_of t f ∷ frames_of t fs

pub frames-append : (t : Terms) (fs gs : List ControlFrame) → frames_of t (fs ++ gs) ≡ frames_of t fs ++ frames_of t gs
frames-append t [] gs = refl
frames-append t (f ∷ fs) gs = ap (λ xs. frame_of t f ∷ xs) (frames-append t fs gs)

-- The line from an end: what is on the way, and then what waits.
abbrev pub line_of : Endpoint → List Parts
line_of n = n.way ++ frames_of n.terms n.link.waiting

-- One direction.
pub record Direction (sender receiver : Endpoint) : Type 0 where
  pub carried : Carried sender.link.contents (sender.link.a + sender.terms.k) receiver.link.r (line_of sender)
  pub rising : Rising sender.link.a receiver.link.r (line_of receiver)
  pub delivered : receiver.delivered ≡ take receiver.link.r sender.link.contents
  pub accepted : receiver.link.r ≤ length sender.link.contents

-- a report is a piece of any line, and means V(R)
-- reports go to the end of a line
pub carried-reports : (t : Terms) (contents : List (List ℕ)) (high r n : ℕ) (fs : List Parts) (news : List ControlFrame) → AreReports n news
    → Carried contents high r fs → Carried contents high r (fs ++ frames_of t news)
carried-reports t contents high r n fs [] a h = subst (Carried contents high r) (sym (append-nil fs)) h
carried-reports t contents high r n fs (f ∷ news) a h =
    subst (Carried contents high r) (append_assoc fs (frame_of t f ∷ []) (frames_of t news))
    (carried-reports t contents high r n (fs ++ frame_of t f ∷ []) news a.1 (carried-push contents high r fs (frame_of t f) (λ r' le. grind arith) h))

pub rising-reports : (t : Terms) (a r : ℕ) (fs : List Parts) (news : List ControlFrame) → AreReports r news
    → Rising a r fs → Rising a r (fs ++ frames_of t news)
rising-reports t a r fs [] x h = subst (Rising a r) (sym (append-nil fs)) h
rising-reports t a r fs (f ∷ news) x h =
    subst (Rising a r) (append_assoc fs (frame_of t f ∷ []) (frames_of t news))
    (rising-reports t a r (fs ++ frame_of t f ∷ []) news x.1 (rising-push a r fs (frame_of t f) (grind arith) h))

-- what waits after an event is what waited, and reports
pub line-grows : (t : Terms) (way : List Parts) (before after : List ControlFrame) (r : ℕ) (h : Reports r before after)
    → way ++ frames_of t after ≡ (way ++ frames_of t before) ++ frames_of t h.news
line-grows t way before after r h = grind (arith, frames-append, append_assoc)

-- An N(R) that means m where V(A) is a, and that names n, names m.
pub named-means : (a s m n : ℕ) (nr : Seq) → nr ≡ seq m → a ≤ m → m ≤ a + 127 → a ≤ n → n ≤ s → s ≤ a + 127 → nr ≡ seq n → n ≡ m
named-means a s m n nr e low high from to within e' =
    let one : nr.value ≡ m % 128 = seq-value nr m e in
    let two : nr.value ≡ n % 128 = seq-value nr n e' in
    omega arith

-- An I-frame whose N(S) is V(R) carries contents number V(R).
pub carries-next : (contents : List (List ℕ)) (high r top a k : ℕ) (ns : Seq) (octets : List ℕ) → high ≡ a + k → k ≤ 127 → a ≤ r
    → Carries contents high r top ns octets → ns ≡ seq r → (slice_get contents r ≡ Some octets) × (r + 1 ≤ top)
carries-next contents high r top a k ns octets e small low h next =
    let one : ns.value ≡ h.number % 128 = seq-value ns h.number h.is_seq in
    let two : ns.value ≡ r % 128 = seq-value ns r next in
    let below : h.number < high = h.below in
    let same : h.number ≡ r = omega arith in
    (subst (λ i. slice_get contents i ≡ Some octets) same h.same, subst (λ i. i + 1 ≤ top) same h.next)

-- The sender goes on: more contents may be accepted, and reports may wait.
pub sender-goes : (n m : Endpoint) (l : Link) (more : List (List ℕ)) (r : ℕ) → l.contents ≡ n.link.contents ++ more → l.a ≡ n.link.a
    → Reports r n.link.waiting l.waiting → Direction n m → Direction (record n { link = l }) m
sender-goes n m l more r same still reports h =
    let line = line-grows n.terms n.way n.link.waiting l.waiting r reports in
    let c1 = carried-more n.link.contents more (n.link.a + n.terms.k) m.link.r (line_of n) h.carried in
    let c2 = carried-reports n.terms (n.link.contents ++ more) (n.link.a + n.terms.k) m.link.r r (line_of n) reports.news reports.are c1 in
    grind (arith, take-append-le, length-append)

-- The receiver goes on: it delivers nothing, and reports its V(R).
pub receiver-goes : (n m : Endpoint) (l : Link) → l.r ≡ m.link.r → Reports m.link.r m.link.waiting l.waiting → Direction n m
    → Direction n (record m { link = l })
receiver-goes n m l same reports h =
    let line = line-grows m.terms m.way m.link.waiting l.waiting m.link.r reports in
    grind (arith, rising-reports)

-- The first frame of a way is lost.
lost-carried : (contents : List (List ℕ)) (high r : ℕ) (way rest : List Parts) → Carried contents high r (way ++ rest)
    → Carried contents high r (drop 1 way ++ rest)
lost-carried contents high r way rest h = grind (arith, carried-lower)

lost-rising : (a r : ℕ) (way rest : List Parts) → Rising a r (way ++ rest) → Rising a r (drop 1 way ++ rest)
lost-rising a r way rest h = grind (arith, rising-lower)

pub sender-loses : (n m : Endpoint) → Direction n m → Direction (record n { way = drop 1 n.way }) m
sender-loses n m h = search (lost-carried)

pub receiver-loses : (n m : Endpoint) → Direction n m → Direction n (record m { way = drop 1 m.way })
receiver-loses n m h = search (lost-rising)
