-- Whatever noise there was: each frame that is put on a line without noise is received so many beats later.
use Rattle.laws_time.proofs.Vocabulary.{All, All-head, All-tail, AreClear, AreShort, Beat, CanCall, Clocked, Config, FramesComeAfterNoise, HasReceivedSince, IsClean, IsClearAt, IsInRange, IsTalk, Line, List, NoNoiseIsClear, NoiseMakesNoFrameAfter, None, OctetEndpoint, Option, Port, Some, TimedEndpoint, [], after, all-left, all-right, ap, append-nil, arith, beat, begins, begun, drop, fold-append}
use Rattle.laws_time.proofs.Vocabulary.{frames_among, gained, gone, inl, inr, length, length-append, length-replicate, longest, nil_from_length, port_of, refl, subst, sym, unwrap_or, ℕ, ◌++◌, ◌+◌, ◌∙◌, ◌∷◌, ◌≡◌, ◌≤◌, ◌⊎◌}
use Rattle.laws_time.proofs.OfCircuit.AgainRan.{EndAt, fine-at, Both, Beaten, beaten, both-all, both-begin, Grown, grown-both, grown-all, beats-then}
use Rattle.laws_time.proofs.OfCircuit.AgainText.{all-whole, heard-since}
use Rattle.laws_time.proofs.OfCircuit.AnsweredBeat.{comes-pulled, comes-heard, Came, given-long, way-long}
use Rattle.laws_time.proofs.OfCircuit.AnsweredBits.{Comes, all_sent}
use Rattle.laws_time.proofs.OfCircuit.AgainExact.{all-small, left-few, heard-was}
use Rattle.laws_time.proofs.OfCircuit.Sender.{Fine}

-- What was sent and what was received have one length.
sent-long : (way n : ℕ) (p : Port) → length p.given ≡ n → length (all_sent way p) ≡ way + n
sent-long way n p given = grind (arith, length-append, length-replicate)

module _ (c d : Config) (way n k : ℕ) (s r : OctetEndpoint) (h : EndAt c way n s) (g : EndAt d way n r) (x : Comes way k (port_of s) s.way (port_of r)) where
  pub as-many : length x.before + length x.as_sent ≡ n
  as-many =
      let a = ap length x.sent ∙ length-append (x.before ++ x.as_sent) s.way in let b = length-append x.before x.as_sent in
      let t = sent-long way n (port_of s) h.given in let long = h.long in omega (arith, a, b, t, long)

  pub noisy-long : length x.before ≡ length x.noisy
  noisy-long = let a = as-many in let b = ap length x.received ∙ length-append x.noisy x.as_sent in let t = g.received in omega (arith, a, b, t)

-- The same while an octet more is in transit.
pub many-of : (way n k : ℕ) (p : Port) (transit : List ℕ) (q : Port) (x : Comes way k p transit q) → length p.given ≡ n + 1 → length transit ≡ way + 1 → length x.before + length x.as_sent ≡ n
many-of way n k p transit q x given long =
    let a = ap length x.sent ∙ length-append (x.before ++ x.as_sent) transit in let b = length-append x.before x.as_sent in let t = sent-long way (n + 1) p given in omega (arith, a, b, t, long)

-- From some time on nothing came with noise.
comes-first : (c d : Config) (way n : ℕ) (s r : OctetEndpoint) → EndAt c way n s → EndAt d way n r → Comes way n (port_of s) s.way (port_of r)
comes-first c d way n s r h g = record {
  noisy = (port_of r).received;
  as_sent = [];
  before = h.behind.before;
  received = sym (append-nil (port_of r).received);
  sent = h.behind.sent ∙ ap (λ b. b ++ s.way) (sym (append-nil h.behind.before));
  few = (
      let a = ap length h.behind.sent ∙ length-append h.behind.before s.way in let t = sent-long way n (port_of s) h.given in let long = h.long in omega (arith, a, t, long)
      );
}

module _ (l : Line) (can : CanCall l.near l.near_line l.far l.far_line l.tei) where
  pub record Since (k : ℕ) (w : Clocked) : Type 0 where
    pub both : Both l can w
    pub there : Comes l.way k (port_of w.near.at) w.near.at.way (port_of w.far.at)
    pub back : Comes l.way k (port_of w.far.at) w.far.at.way (port_of w.near.at)

  pub since-first : (w : Clocked) → Both l can w → Since w.beats w
  since-first w h = record { both = h; there = comes-first l.near l.far l.way w.beats w.near.at w.far.at h.near h.far; back = comes-first l.far l.near l.way w.beats w.far.at w.near.at h.far h.near }

  -- After the pulls of a beat; and after a beat without noise.
  module _ (k : ℕ) (w : Clocked) (b : Beat) (h : Since k w) (z : Beaten l can w b) where
    pub gone-there : Comes l.way k (port_of (gone l.rate b w).near.at) (z.far.value ∷ z.far.more) (port_of (gone l.rate b w).far.at)
    gone-there =
        let v = gone l.rate b w in let u = beat l.rate w b in
        comes-pulled l.way w.near v.near u.near v.far b.near_noise z.near_sent z.near z.far.value z.far.more z.far.comes k (port_of w.far.at) (port_of v.far.at) z.far_sent.received h.there

    pub gone-back : Comes l.way k (port_of (gone l.rate b w).far.at) (z.near.value ∷ z.near.more) (port_of (gone l.rate b w).near.at)
    gone-back =
        let v = gone l.rate b w in let u = beat l.rate w b in
        comes-pulled l.way w.far v.far u.far v.near b.far_noise z.far_sent z.far z.near.value z.near.more z.near.comes k (port_of w.near.at) (port_of v.near.at) z.near_sent.received h.back

    pub since-one : IsClean b → Since k (beat l.rate w b)
    since-one c =
        let v = gone l.rate b w in let u = beat l.rate w b in
        record {
          both = z.both;
          there = comes-heard l.way w.near v.near u.near v.far b.near_noise z.near_sent z.near z.far.value z.far.more z.far.comes k (port_of w.far.at) (port_of v.far.at) z.far_sent.received
              (port_of u.far.at) (ap (λ (p : Port). p.received) z.far.port ∙ ap (λ (o : Option ℕ). (port_of v.far.at).received ++ unwrap_or o z.far.value ∷ []) c.1) gone-there;
          back = comes-heard l.way w.far v.far u.far v.near b.far_noise z.far_sent z.far z.near.value z.near.more z.near.comes k (port_of w.near.at) (port_of v.near.at) z.near_sent.received
              (port_of u.near.at) (ap (λ (p : Port). p.received) z.near.port ∙ ap (λ (o : Option ℕ). (port_of v.near.at).received ++ unwrap_or o z.near.value ∷ []) c.0) gone-back;
        }

  pub since-all : (k : ℕ) (bs : List Beat) → All (IsTalk l) bs → All IsClean bs → (w : Clocked) → Since k w → Since k (after l.rate bs w)
  since-all k [] talk is_clean w h = h
  since-all k (b ∷ bs) talk is_clean w h =
      since-all k bs (All-tail (IsTalk l) b bs talk) (All-tail IsClean b bs is_clean) (beat l.rate w b)
      (since-one k w b h (beaten l can w b (All-head (IsTalk l) b bs talk) h.both) (All-head IsClean b bs is_clean))

  -- From one end to the other: v is after the first beat without noise, which is beat k.
  module _ (m k n e : ℕ) (c d : Config) (ranged : IsInRange c) (size : c.n201 ≡ l.near.n201) (v w u rv ru : TimedEndpoint) (hv : EndAt c l.way (k + 1) v.at) (hw : EndAt c l.way n w.at) (hu : EndAt c l.way e u.at)
      (gv : EndAt d l.way (k + 1) rv.at) (gu : EndAt d l.way e ru.at) (x : Comes l.way k (port_of u.at) u.at.way (port_of ru.at)) (i j : ℕ) (first : Grown i (port_of v.at) (port_of w.at))
      (then : Grown j (port_of w.at) (port_of u.at)) (y : (more : List ℕ) × ((port_of ru.at).received ≡ (port_of rv.at).received ++ more)) (enough : l.way + (n + longest m) ≤ e) (small : AreShort m w) where
    pub since-so : HasReceivedSince l v w rv ru
    since-so =
        let fine = fine-at c ranged l.way e u.at hu in let given : length (port_of w.at).given ≡ n = hw.given in let all = as-many c d l.way e k u.at ru.at hu gu x in
        let few = left-few m (port_of w.at) (fine-at c ranged l.way n w.at hw).on.cut (all-small m (port_of w.at).items small) in let had = hv.given in
        subst (λ n201. (first rest : List Rattle.model_bits.specs.Stream.Event) × (Rattle.model_bits.specs.Stream.heard_in n201 (port_of ru.at).received
        ≡ Rattle.model_bits.specs.Stream.heard_in n201 (port_of rv.at).received ++ (first ++ (Rattle.laws_order.proofs.OfCircuit.OneWay.framed (drop (length (frames_among (port_of v.at).items)) (frames_among (port_of w.at).items)) ++ rest)))) size
        (heard-since c.n201 l.way k m (port_of v.at) (port_of w.at) (port_of u.at) u.at.way (port_of rv.at).received (port_of ru.at) (all-whole c.n201 (port_of u.at) fine) x first.new then.new first.items then.items
        (fine-at c ranged l.way (k + 1) v.at hv).sound.text.text (fine-at c ranged l.way n w.at hw).sound.text.text fine.sound.text.text (omega (arith, had)) few (omega (arith, enough, given, all))
        (noisy-long c d l.way e k u.at ru.at hu gu x) y.0 y.1 gv.received)

more-received : (i j : ℕ) (p q r : Port) → Grown i p q → Grown j q r → (more : List ℕ) × (r.received ≡ p.received ++ more)
more-received i j p q r g f = let all = grown-both i j p q r g f in (all.had, all.received)

pub frames-come-after-noise : FramesComeAfterNoise
frames-come-after-noise l noisy bs more b m fit talk is_clean enough =
    let rest = bs ++ more in let talk_clean = all-right (IsTalk l) noisy (b ∷ rest) talk in let s = after l.rate noisy (begins l) in let k = s.beats in
    let both = both-all l fit.call noisy (all-left (IsTalk l) noisy (b ∷ rest) talk) (begins l) (both-begin l fit.call) in
    let one = since-one l fit.call k s b (since-first l fit.call s both) (beaten l fit.call s b (All-head (IsTalk l) b rest talk_clean) both) (All-head IsClean b rest is_clean) in
    let talk_rest = All-tail (IsTalk l) b rest talk_clean in let clean_rest = All-tail IsClean b rest is_clean in let v = beat l.rate s b in let w = after l.rate bs v in let u = after l.rate more w in
    let at_w = since-all l fit.call k bs (all-left (IsTalk l) bs more talk_rest) (all-left IsClean bs more clean_rest) v one in
    let at_u = since-all l fit.call k more (all-right (IsTalk l) bs more talk_rest) (all-right IsClean bs more clean_rest) w at_w in
    let g = grown-all l fit.call bs (all-left (IsTalk l) bs more talk_rest) v one.both in let f = grown-all l fit.call more (all-right (IsTalk l) bs more talk_rest) w at_w.both in
    let e = beats-then l.rate more w in let same : v ≡ begun l noisy b = sym (fold-append (beat l.rate) (begins l) noisy (b ∷ [])) in
    let long : l.way + (w.beats + longest m) ≤ u.beats = omega (arith, e, enough) in let x = length bs in let y = length more in
    subst (λ (v : Clocked). let w = after l.rate bs v in let u = after l.rate more w in AreShort m w.near → AreShort m w.far →
    HasReceivedSince l v.near w.near v.far u.far × HasReceivedSince l v.far w.far v.near u.near) same
    (λ small small_far. (
      since-so l fit.call m k w.beats u.beats l.near l.far fit.call.near.0 refl v.near w.near u.near v.far u.far one.both.near at_w.both.near at_u.both.near one.both.far at_u.both.far at_u.there x y g.near f.near
          (more-received x y (port_of v.far.at) (port_of w.far.at) (port_of u.far.at) g.far f.far) long small,
      since-so l fit.call m k w.beats u.beats l.far l.near fit.call.far.0 (sym fit.call.opposite.1) v.far w.far u.far v.near u.near one.both.far at_w.both.far at_u.both.far one.both.near at_u.both.near at_u.back x y g.far
          f.far (more-received x y (port_of v.near.at) (port_of w.near.at) (port_of u.near.at) g.near f.near) long small_far,
    ))

-- ---- in beats without noise, so long after noise ended, noise makes no frame: each that is heard stood in what the other end gave

-- Noise ended long ago, or there was none.
-- From one end to the other, without noise.
module _ (n201 way k : ℕ) (s other u : TimedEndpoint) (noise : Option ℕ) (none : noise ≡ None) (z : Came s u other noise) (fine : Fine n201 (port_of other.at))
    (c : Comes way k (port_of other.at) (z.value ∷ z.more) (port_of s.at)) (enough : ((k + (longest n201 + 1) ≤ length c.before + length c.as_sent) ⊎ ((port_of s.at).received ≡ c.before ++ c.as_sent))) where
  same-value : (value : ℕ) (more : List ℕ) → other.at.way ≡ value ∷ more → z.value ≡ value
  same-value value more is = cc (sym z.comes ∙ is)

  pub clear-at : IsClearAt n201 noise s other
  clear-at value more e is gains frame =
      let v = same-value value more is in
      let here : gained n201 (port_of s.at).received z.value ≡ Some e = ap (gained n201 (port_of s.at).received) v ∙ ap (λ o. gained n201 (port_of s.at).received (unwrap_or o value)) (sym none) ∙ gains in
      let x = heard-was n201 n201 way k (port_of other.at) z.value z.more (port_of s.at) fine c fine.sound.sizes enough e here in
      (x.0, x.1 ∙ ap (λ w. x.0 ++ w) (sym z.comes), sym (ap (gained n201 x.0) v) ∙ x.2)

module _ (l : Line) (can : CanCall l.near l.near_line l.far l.far_line l.tei) where
  exact-now : (k n : ℕ) (p : Port) (transit : List ℕ) (q : Port) (c : Comes l.way k p transit q) → length q.received ≡ n → length c.before + length c.as_sent ≡ n → (k + (longest l.near.n201 + 1) ≤ n) ⊎ (k ≡ 0)
      → ((k + (longest l.near.n201 + 1) ≤ length c.before + length c.as_sent) ⊎ (q.received ≡ c.before ++ c.as_sent))
  exact-now k n p transit q c received many h = grind (arith, length, length-append, nil_from_length)

  pub again : (k : ℕ) (bs : List Beat) → All (IsTalk l) bs → All IsClean bs → (w : Clocked) → Since l can k w → (k + (longest l.near.n201 + 1) ≤ w.beats) ⊎ (k ≡ 0) → AreClear l bs w
  unfolding AreClear
  again k [] talk is_clean w h enough = tt
  again k (b ∷ bs) talk is_clean w h enough =
      let t = All-head (IsTalk l) b bs talk in let c = All-head IsClean b bs is_clean in let v = gone l.rate b w in let u = beat l.rate w b in let z = beaten l can w b t h.both in
      let far_fine = subst (λ n. Fine n (port_of v.far.at)) (sym can.opposite.1) z.far_fine in let x = gone-there l can k w b h z in let y = gone-back l can k w b h z in
      let there = many-of l.way w.beats k (port_of v.near.at) (z.far.value ∷ z.far.more) (port_of v.far.at) x (given-long w.near.at v.near.at w.beats z.near_sent h.both.near.given)
      (sym (ap length z.far.comes) ∙ way-long w.near.at v.near.at l.way z.near_sent h.both.near.long) in
      let back = many-of l.way w.beats k (port_of v.far.at) (z.near.value ∷ z.near.more) (port_of v.near.at) y (given-long w.far.at v.far.at w.beats z.far_sent h.both.far.given)
      (sym (ap length z.near.comes) ∙ way-long w.far.at v.far.at l.way z.far_sent h.both.far.long) in
      let long = exact-now k w.beats (port_of v.near.at) (z.far.value ∷ z.far.more) (port_of v.far.at) x (ap length z.far_sent.received ∙ h.both.far.received) there enough in
      let long_back = exact-now k w.beats (port_of v.far.at) (z.near.value ∷ z.near.more) (port_of v.near.at) y (ap length z.near_sent.received ∙ h.both.near.received) back enough in
      let rest = again k bs (All-tail (IsTalk l) b bs talk) (All-tail IsClean b bs is_clean) u (since-one l can k w b h z c) (elim enough [ inl long ↦ inl (omega (arith, long)) | inr zero ↦ inr zero ]) in (
        clear-at l.near.n201 l.way k v.near v.far u.near b.near_noise c.0 z.near far_fine y long_back,
        clear-at l.near.n201 l.way k v.far v.near u.far b.far_noise c.1 z.far z.near_fine x long,
        rest,
      )

  -- If there was none from the start on,
  pub clear-begun : (bs : List Beat) → All (IsTalk l) bs → All IsClean bs → AreClear l bs (begins l)
  clear-begun bs talk is_clean = again 0 bs talk is_clean (begins l) (since-first l can (begins l) (both-begin l can)) (inr refl)

  -- and from any beats on, of whatever noise.
  pub kept-again : (noisy quiet bs : List Beat) → All (IsTalk l) (noisy ++ (quiet ++ bs)) → All IsClean (quiet ++ bs) → longest l.near.n201 + 1 ≤ length quiet
      → let w = after l.rate (noisy ++ quiet) (begins l) in AreClear l bs w
  kept-again noisy quiet bs talk is_clean enough =
      let rest = quiet ++ bs in let s = after l.rate noisy (begins l) in let k = s.beats in
      let first = since-first l can s (both-all l can noisy (all-left (IsTalk l) noisy rest talk) (begins l) (both-begin l can)) in let talk_rest = all-right (IsTalk l) noisy rest talk in
      let w = after l.rate quiet s in let h = since-all l can k quiet (all-left (IsTalk l) quiet bs talk_rest) (all-left IsClean quiet bs is_clean) s first in let e = beats-then l.rate quiet s in
      subst (λ w. AreClear l bs w) (sym (fold-append (beat l.rate) (begins l) noisy quiet))
      (again k bs (all-right (IsTalk l) quiet bs talk_rest) (all-right IsClean quiet bs is_clean) w h (inl (omega (arith, e, enough))))

pub noise-makes-no-frame-after : NoiseMakesNoFrameAfter
noise-makes-no-frame-after l noisy quiet bs fit talk is_clean enough = kept-again l fit.call noisy quiet bs talk is_clean enough

pub no-noise-is-clear : NoNoiseIsClear
no-noise-is-clear l bs fit talk is_clean = clear-begun l fit.call bs talk is_clean
