-- Where no frame comes in so many beats, no turn was left before them.
use Rattle.laws_order.proofs.Vocabulary.{◌≡◌, ℕ, ◌+◌, ◌*◌, ◌≤◌, ◌<◌, ◌⊎◌, inl, inr, Bool, true, false, List, [], ◌∷◌, ◌++◌, length, Option, None, Some, option_map, refl, sym, ap, ◌∙◌, subst, arith, append-nil, length-append, Service, heard_in, Item, Config, NextFrame, gave, taken, next_of, line_at, left_of, longest_text, Wire, IsStill, gives-taken, longest, OctetEndpoint, port_of, Circuit}
use Rattle.laws_order.proofs.Vocabulary.{doing_all, wire_doing_all, stream_frame, length-map}
use Rattle.laws_order.proofs.OfCircuit.AsFrames.{as_endpoint}
use Rattle.laws_order.proofs.OfCircuit.Coming.{Kept, from-near, from-far, frames_of, Puts, putting, GoesOn, going, all-out, Hears, hearing, IsBehind}
use Rattle.laws_order.proofs.OfCircuit.AtPort.{next_of_card}
use Rattle.laws_order.proofs.OfCircuit.Takings.{one_pull, all-talk, count_near, count_far}
use Rattle.laws_order.proofs.OfCircuit.OneWay.{Carries, framed, heard-beyond}
use Rattle.laws_order.proofs.OfCircuit.Onward.{acts-append, meant-append, many, many-append, many-mute, pulls-near, pulls-far, hearings-near, hearings-far, many-stay}
use Rattle.laws_order.proofs.OfCircuit.Projected.{as_wire, doings_meant, Fits, Follows, all-done}
use Rattle.laws_order.proofs.OfCircuit.Ran.{Ran, few-left}
use Rattle.laws_order.proofs.OfCircuit.Takings.{takings, takings-append}

-- ---- the front of what was heard

record IsFront (short long : List ℕ) : Type 0 where
  rest : List ℕ
  is : long ≡ short ++ rest

front-of : (short u long v : List ℕ) → short ++ u ≡ long ++ v → length short ≤ length long → IsFront short long
front-of [] u long v e few = record { rest = long; is = refl }
front-of (x ∷ short) u [] v e few = absurd (omega (arith, few))
front-of (x ∷ short) u (y ∷ long) v e few =
    let head : x ≡ y = cc e in
    let tail : short ++ u ≡ long ++ v = cc e in
    let f = front-of short u long v tail (omega (arith, few)) in
    record { rest = f.rest; is = ap (λ z. z ∷ long) (sym head) ∙ ap (λ l. x ∷ l) f.is }

all-come : (way first received heard : ℕ) → way ≤ heard → (first + heard ≤ received + way) ⊎ (first ≤ received) → first ≤ received
all-come way first received heard enough o = grind arith

-- ---- from either end

abbrev pub sender : Bool → Circuit → OctetEndpoint
sender false w = w.near
sender true w = w.far

abbrev receiver : Bool → Circuit → OctetEndpoint
receiver false w = w.far
receiver true w = w.near

abbrev its_config : Bool → Config → Config → Config
its_config false c d = c
its_config true c d = d

abbrev its_frames : Bool → List (List ℕ) → List (List ℕ) → List (List ℕ)
its_frames false there back = there
its_frames true there back = back

module _ (n201 way : ℕ) where
  pub record IsShort (w : Circuit) : Type 0 where
    pub near : length w.near.way ≤ way
    pub far : length w.far.way ≤ way

  pub still-short : (n : ℕ) (w : Circuit) → IsShort w → IsShort (doing_all (many n) w)
  still-short n w h = let x = many-stay n w in record { near = (let a = x.near in let few = h.near in omega (arith, a, few)); far = (let b = x.far in let few = h.far in omega (arith, b, few)) }

  its-way : (b : Bool) (w : Circuit) → IsShort w → length (sender b w).way ≤ way
  its-way b w h = grind arith

  -- for a frame that has begun, for one that waits, and for the way, if frames have at most so many octets of information
  abbrev pub block : ℕ → ℕ
  block m = longest m + (longest m + way)

  -- the takings of one run of beats after another
  pub takings-many : (m n : ℕ) (w : Circuit) (f : Wire)
      → takings (doings_meant (many (m + n)) w) f ≡ takings (doings_meant (many m) w) f + takings (doings_meant (many n) (doing_all (many m) w)) (wire_doing_all (doings_meant (many m) w) f)
  takings-many m n w f = grind (arith, takings, doings_meant, many-append, meant-append, many, takings-append)

  -- in so many beats as few bits are left at either end as such frames have at most
  abbrev pub AreFew : ℕ → ℕ → Circuit → Type 0
  AreFew m n w = (k : ℕ) → k ≤ n → (b : Bool) → length (left_of (port_of (sender b (doing_all (many k) w)))) ≤ longest_text m

  few-now : (m n : ℕ) (w : Circuit) → AreFew m n w → (b : Bool) → length (left_of (port_of (sender b w))) ≤ longest_text m
  unfolding many doing_all
  few-now m n w few b = few 0 (omega arith) b

  pub few-then : (m a n : ℕ) (w : Circuit) → AreFew m (a + n) w → AreFew m n (doing_all (many a) w)
  few-then m a n w few = λ k low b.
      subst (λ (v : Circuit). length (left_of (port_of (sender b v))) ≤ longest_text m) (ap (λ l. doing_all l w) (many-append a k) ∙ acts-append (many a) (many k) w) (few (a + k) (omega (arith, low)) b)

  pub few-fewer : (m n n' : ℕ) (w : Circuit) → n' ≤ n → AreFew m n w → AreFew m n' w
  few-fewer m n n' w less few = λ k low b. few k (omega (arith, low, less)) b

  module _ (service : Service) (tei : ℕ) (c d : Config) (fits : Fits n201 c) (fits_far : Fits n201 d) where
    its-fits : (b : Bool) → Fits n201 (its_config b c d)
    its-fits b = grind arith

    its-ran : (b : Bool) (w : Circuit) (there back : List (List ℕ)) → Follows n201 c d w there back → Ran (its_config b c d) (sender b w)
    its-ran false w there back h = h.near
    its-ran true w there back h = h.far

    its-carries : (b : Bool) (w : Circuit) (there back : List (List ℕ)) → Follows n201 c d w there back
        → Carries n201 (port_of (sender b w)) (sender b w).way (port_of (receiver b w)).received (its_frames b there back)
    its-carries b w there back h = grind arith

    from : (b : Bool) (R : OctetEndpoint → OctetEndpoint → ℕ → ℕ → Type 0) → Kept n201 R → (n : ℕ) (w : Circuit) (there back : List (List ℕ)) → Follows n201 c d w there back
        → takings (doings_meant (many n) w) (as_wire there back w) ≡ 0 → R (sender b w) (receiver b w) 0 0 → R (sender b (doing_all (many n) w)) (receiver b (doing_all (many n) w)) n n
    from false R kept n w there back h none p = grind (arith, from-near, many, many-mute, pulls-near, count_near, one_pull, hearings-far)
    from true R kept n w there back h none p =
        let x = from-far n201 R kept service tei c d fits fits_far (many n) (many-mute n) w there back h none p in
        grind (arith, many, pulls-far, count_far, one_pull, hearings-near)

    few-bits : (b : Bool) (w : Circuit) (there back : List (List ℕ)) → Follows n201 c d w there back → length (left_of (port_of (sender b w))) ≤ longest_text n201
    few-bits b w there back h =
        subst (λ n. length (left_of (port_of (sender b w))) ≤ longest_text n) (its-fits b).size (few-left (its_config b c d) (its-fits b).ranged (sender b w) (its-ran b w there back h))

    -- N201 is enough
    pub all-few : (n : ℕ) (w : Circuit) (there back : List (List ℕ)) → Follows n201 c d w there back → AreFew n201 n w
    all-few n w there back h = λ k low b.
        let on = all-done n201 service tei c d fits fits_far (many k) (all-talk service tei (many k) (many-mute k)) w there back h in
        few-bits b (doing_all (many k) w) on.there' on.back' on.follows

    -- as many beats as the longest frame is long
    behind-then : (most : ℕ) (items now : List Item) (left : ℕ) → IsBehind n201 items (longest_text most) now ⊎ ((now ≡ items) × (left + 8 * longest most ≤ longest_text most)) → IsBehind n201 items (longest_text most) now
    behind-then most items now left o = grind arith

    more-then : (most : ℕ) (A : Type 0) (n m left low : ℕ) → (n < m) ⊎ (A × (left + 8 * longest most ≤ longest_text most) × (low ≤ m)) → n < m
    more-then most A n m left low o = grind arith

    no-more : (long heard had given beyond : ℕ) → had ≡ given + beyond → long ≤ given → heard ≡ had → heard < long → ⊥
    no-more long heard had given beyond sum low same more = omega (arith, sum, low, same, more)

    -- a frame on its way comes
    pub comes : (m : ℕ) (b : Bool) (w : Circuit) (there back : List (List ℕ)) → Follows n201 c d w there back → IsShort w → length (left_of (port_of (sender b w))) ≤ longest_text m → length (heard_in n201 (port_of (receiver b w)).received) < length (frames_of n201 (sender b w))
        → takings (doings_meant (many (longest m + way)) w) (as_wire there back w) ≡ 0 → ⊥
    comes m b w there back h short few more none =
        let L = longest m in
        let most = longest_text m in
        let f0 = as_wire there back w in
        let w1 = doing_all (many L) w in
        let w2 = doing_all (many way) w1 in
        let events = heard_in n201 (port_of (receiver b w)).received in
        let items = (port_of (sender b w)).items in
        let parts = takings-many L way w f0 in
        let one : takings (doings_meant (many L) w) f0 ≡ 0 = omega (arith, parts, none) in
        let rest : takings (doings_meant (many way) w1) (wire_doing_all (doings_meant (many L) w) f0) ≡ 0 = omega (arith, parts, none) in
        let first = all-done n201 service tei c d fits fits_far (many L) (all-talk service tei (many L) (many-mute L)) w there back h in
        let later = subst (λ f. takings (doings_meant (many way) w1) f ≡ 0) first.same rest in
        let x1 = from b (λ s r a b. GoesOn n201 items most s a × (heard_in n201 (port_of r).received ≡ events)) (going n201 items most events) L w there back h one (inr (refl, omega (arith, few)), refl) in
        let s1 = sender b w1 in
        let ran1 = its-ran b w1 first.there' first.back' first.follows in
        let carries1 = its-carries b w1 first.there' first.back' first.follows in
        let behind = behind-then m items (port_of s1).items (length (left_of (port_of s1))) x1.0 in
        let out = all-out n201 (its_config b c d) (its-fits b) s1 ran1 (port_of (receiver b w1)).received (its_frames b first.there' first.back') carries1 items most behind in
        let given = (port_of s1).given in
        let sum1 = ap length carries1.given ∙ length-append (port_of (receiver b w1)).received s1.way in
        let short1 = its-way b w1 (still-short L w short) in
        let second = all-done n201 service tei c d fits fits_far (many way) (all-talk service tei (many way) (many-mute way)) w1 first.there' first.back' first.follows in
        let x2 =
        from b (Hears n201 given way events) (hearing n201 given way events) way w1 first.there' first.back' first.follows later (([], sym (append-nil given)), inl (omega (arith, sum1, short1)), x1.1) in
        let received = (port_of (receiver b w2)).received in
        let all = all-come way (length given) (length received) way (omega arith) x2.1 in
        let front = front-of given x2.0.0 received (sender b w2).way (sym x2.0.1 ∙ (its-carries b w2 second.there' second.back' second.follows).given) all in
        let beyond = heard-beyond n201 given front.rest in
        grind (arith, no-more, length-append)

    -- what is among the items of a port is heard, or on its way
    carried-so : (b : Bool) (w : Circuit) (there back : List (List ℕ)) → Follows n201 c d w there back
        → length (frames_of n201 (sender b w)) ≡ length (heard_in n201 (port_of (receiver b w)).received) + length (its_frames b there back)
    carried-so b w there back h =
        let heard = heard_in n201 (port_of (receiver b w)).received in
        let frames = its_frames b there back in
        let sum = sym (length-map (frames_of n201 (sender b w)) (λ octets. stream_frame octets)) ∙ ap length (its-carries b w there back h).are ∙ length-append heard (framed frames) in
        grind (arith, length-map)

    -- ---- so nothing was left

    none-on_way : (m : ℕ) (b : Bool) (w : Circuit) (there back : List (List ℕ)) → Follows n201 c d w there back → IsShort w → AreFew m (longest m) w → takings (doings_meant (many (block m)) w) (as_wire there back w) ≡ 0 → its_frames b there back ≡ []
    none-on_way m b w there back h short few none = go (its_frames b there back) refl
      where
        go : (frames : List (List ℕ)) → its_frames b there back ≡ frames → its_frames b there back ≡ []
        go [] e = e
        go (x ∷ xs) e =
            let n = longest m + way in
            let turn : longest m + n ≡ n + longest m = omega arith in
            let parts = ap (λ k. takings (doings_meant (many k) w) (as_wire there back w)) turn ∙ takings-many n (longest m) w (as_wire there back w) in
            absurd (comes m b w there back h short (few-now m (longest m) w few b) (omega (arith, (carried-so b w there back h), (ap length e))) (omega (arith, parts, none)))

    none-waits : (m : ℕ) (b : Bool) (w : Circuit) (there back : List (List ℕ)) → Follows n201 c d w there back → IsShort w → AreFew m (longest m) w → takings (doings_meant (many (block m)) w) (as_wire there back w) ≡ 0 → (f : NextFrame)
        → next_of_card (sender b w).line (sender b w).card.card ≡ gave (Some f) → ⊥
    none-waits m b w there back h short few none f waits =
        let L = longest m in
        let most = longest_text m in
        let f0 = as_wire there back w in
        let w1 = doing_all (many L) w in
        let events = heard_in n201 (port_of (receiver b w)).received in
        let parts = takings-many L (L + way) w f0 in
        let one : takings (doings_meant (many L) w) f0 ≡ 0 = omega (arith, parts, none) in
        let rest : takings (doings_meant (many (L + way)) w1) (wire_doing_all (doings_meant (many L) w) f0) ≡ 0 = omega (arith, parts, none) in
        let first = all-done n201 service tei c d fits fits_far (many L) (all-talk service tei (many L) (many-mute L)) w there back h in
        let later = subst (λ f. takings (doings_meant (many (L + way)) w1) f ≡ 0) first.same rest in
        let x1 =
        from b (λ s r a b. Puts n201 f most (length events) s a × (heard_in n201 (port_of r).received ≡ events)) (putting n201 f most (length events) events) L w there back h one
        (inr (waits, omega (arith, (few-now m (longest m) w few b)), omega (arith, (carried-so b w there back h))), refl) in
        let s1 = sender b w1 in
        let more = more-then m (next_of_card s1.line s1.card.card ≡ gave (Some f)) (length events) (length (frames_of n201 s1)) (length (left_of (port_of s1))) (length events) x1.0 in
        comes m b w1 first.there' first.back' first.follows (still-short L w short) (few L (omega arith) b) (subst (λ es. length es < length (frames_of n201 s1)) (sym x1.1) more) later

    gives-none : (b : Bool) (way : List (List ℕ)) (w : Circuit) → ((f : NextFrame) → next_of_card (sender b w).line (sender b w).card.card ≡ gave (Some f) → ⊥)
        → next_of_card (sender b w).line (sender b w).card.card ≡ gave None
    gives-none b way w never = go (option_map next_of (taken s.card.card.config (line_at s.line s.card.card))) (gives-taken (as_endpoint way s))
      where
        s : OctetEndpoint
        s = sender b w

        go : (o : Option NextFrame) → next_of_card s.line s.card.card ≡ gave o → next_of_card s.line s.card.card ≡ gave None
        go o e = grind arith

    pub still-before : (m : ℕ) (w : Circuit) (there back : List (List ℕ)) → Follows n201 c d w there back → IsShort w → AreFew m (longest m) w → takings (doings_meant (many (block m)) w) (as_wire there back w) ≡ 0 → IsStill (as_wire there back w)
    still-before m w there back h short few none = record {
      near = gives-none false there w (none-waits m false w there back h short few none);
      far = gives-none true back w (none-waits m true w there back h short few none);
      near_way = none-on_way m false w there back h short few none;
      far_way = none-on_way m true w there back h short few none;
    }
