-- The timers of lines are restored, link by link.
use Rattle.lapd_clock.proofs.Vocabulary.{◌≡◌, ◌≢◌, ℕ, suc, ◌+◌, ◌*◌, ◌<◌, ◌≤◌, Bool, true, false, cond, List, [], ◌∷◌, length, get_or, refl, sym, ap, ◌∙◌, subst, arith, inl, inr, cases_lt, Timer, Expiry, never}
use Rattle.std.proofs.Common.{◌++◌, ◌&&◌, append-nil, append_assoc}
use Rattle.std.proofs.Math.Nat.{mul-le-mul_right, suc-mul}
use Rattle.std.specs.List.{range_with_len}
use Rattle.std.specs.Prelude.{Option, None, Some, flat_map, is_some}
use Rattle.lapd_clock.specs.Timer.{T201, T202, Service}
use Rattle.lapd_image.specs.Numbers.{number}
use Rattle.model_link.specs.declared.timers.LinkTimer.{LinkTimer}
use Rattle.model_link.specs.declared.timers.LinkTimer.TheVariants as link
use Rattle.model_link.specs.Told as told
use Rattle.model_line.specs.Line.{Line, link_at, place_at, service_at, tei_at}
use Rattle.model_card.specs.Card.{Card, line_at}
use Rattle.model_line.specs.Image.{timer_at, timer_numbered}
use Rattle.model_image.proofs.Clocks.{flat-same}
use Rattle.model_line.proofs.Numbers.{below}
use Rattle.lapd_clock.specs.MomentImage.{moment_at, IsStartedBy}
use Rattle.lapd_timed.specs.MomentsImage.{link_moments, links_moments, own_moments, line_moments, link_runs, line_runs, RunsHere}
use Rattle.lapd_timed.specs.OfCard.{slot_of, line_slot_of, timer_of, line_timer}
use Rattle.lapd_timed.specs.OfCard as of_card
use Rattle.lapd_clock.specs.OwnPlaces.{at, is_running, with_timer}
use Rattle.lapd_timed.specs.MomentsRead.{kind_of, own_kind_of, AreLinesRead, AreLinksRead, ArePlacesOf, IsLineRead, IsLinkRead, IsOwnRead, IsPlaceOf, OwnRest, RestsAt, RestsHere}
use Rattle.lapd_timed.proofs.InImage.{nothing-here}
use Rattle.lapd_timed.proofs.OfCard.{at_other, at_own, holds_line, holds_started}
use Rattle.lapd_timed.proofs.Passing.{flat-more}
use Rattle.lapd_clock.proofs.Standing.{runs}

abbrev pub same-bool : Bool → Bool → Bool
same-bool true true = true
same-bool true false = false
same-bool false true = false
same-bool false false = true

-- ---- a timer is started at its place

module _ (es : List Expiry) (i moment : ℕ) (timer : Timer) (within : i < length es) (soon : moment < never) where
  abbrev changed : List Expiry
  changed = with_timer i timer moment es

  abbrev its_own : Expiry
  its_own = record (at i es) { moment = moment; timer = timer }

  runs-there : is_running (at i changed) ≡ true
  runs-there = ap is_running (at_own es i its_own within) ∙ runs its_own soon

  octets-there : moment_at i changed ≡ number 8 moment
  octets-there = ap (λ (e : Expiry). cond {A = List ℕ} (is_running e) (number 8 e.moment) []) (at_own es i its_own within) ∙ ap (λ b. cond {A = List ℕ} b (number 8 moment) []) (runs its_own soon)

  rests-elsewhere : (j : ℕ) → j ≢ i → is_running (at j es) ≡ false → is_running (at j changed) ≡ false
  rests-elsewhere j apart rest = ap is_running (at_other es i j its_own apart) ∙ rest

-- ---- a link

-- what a link runs, by the timer that it tells
pub none-runs : (l : Line) (n : ℕ) (k : LinkTimer) → [] ≡ timer_numbered l n → link_runs l n k ≡ false
none-runs l n k = go (tei_at (place_at n) l) (link_at n l).running
  where
    go : (o : Option ℕ) (r : Option LinkTimer) → [] ≡ timer_at (service_at n) o r → (is_some o && told.runs k r) ≡ false
    go None r e = refl
    go (Some tei) None e = refl
    go (Some tei) (Some link.T200) e = absurd (cc)
    go (Some tei) (Some link.T203) e = absurd (cc)

pub record RunsIts (l : Line) (n : ℕ) (timer : Timer) : Type 0 where
  pub tei : ℕ
  pub its : LinkTimer
  pub there : tei_at (place_at n) l ≡ Some tei
  pub is : timer ≡ timer_of its (service_at n) tei
  pub runs : (k : LinkTimer) → link_runs l n k ≡ told.is_timer k its

pub some-runs : (l : Line) (n : ℕ) (timer : Timer) → timer ∷ [] ≡ timer_numbered l n → RunsIts l n timer
some-runs l n timer e = go (tei_at (place_at n) l) (link_at n l).running refl refl e
  where
    first : (a b : Timer) → a ∷ [] ≡ b ∷ [] → a ≡ b
    first a b h = cc

    go : (o : Option ℕ) (r : Option LinkTimer) → tei_at (place_at n) l ≡ o → (link_at n l).running ≡ r → timer ∷ [] ≡ timer_at (service_at n) o r → RunsIts l n timer
    go None r a b h = absurd (cc)
    go (Some tei) None a b h = absurd (cc)
    go (Some tei) (Some link.T200) a b h = record { tei = tei; its = link.T200; there = a; is = first timer (timer_of link.T200 (service_at n) tei) h; runs = λ k i. is_some (a i) && told.runs k (b i) }
    go (Some tei) (Some link.T203) a b h = record { tei = tei; its = link.T203; there = a; is = first timer (timer_of link.T203 (service_at n) tei) h; runs = λ k i. is_some (a i) && told.runs k (b i) }

kind-is : (k : LinkTimer) (service : Service) (tei : ℕ) → kind_of (timer_of k service tei) ≡ of_card.kind_of k
kind-is link.T200 service tei = refl
kind-is link.T203 service tei = refl

module _ (card : Card) (terminals line : ℕ) (there : line < card.config.lines) where
  abbrev l : Line
  l = line_at line card

  abbrev slot : ℕ → LinkTimer → ℕ
  slot n k = slot_of terminals line n k

  -- It runs none;
  pub no-link : (n : ℕ) (front : List ℕ) (es : List Expiry) → ArePlacesOf card terminals es → RestsAt terminals line n es → [] ≡ timer_numbered l n → IsLinkRead card terminals line n front front es es
  no-link n front es places rest none = record {
    places = places;
    octets = λ i. (sym (nothing-here es (slot n link.T200) (rest link.T200)) i ++ sym (nothing-here es (slot n link.T203) (rest link.T203)) i) ++ front;
    here = λ k. rest k ∙ sym (none-runs l n k none);
    others = λ i apart. refl;
  }

  -- or it runs this one.
  pub one-link : (n : ℕ) (timer : Timer) (front rest : List ℕ) (es new : List Expiry) → n < 2 * terminals → ArePlacesOf card terminals es → RestsAt terminals line n es → timer ∷ [] ≡ timer_numbered l n
      → IsStartedBy (line * (4 * terminals + 2) + (2 * n + kind_of timer)) timer front rest es new → IsLinkRead card terminals line n front rest es new
  one-link n timer front rest es new within places rests is started =
      subst (λ xs. IsLinkRead card terminals line n front rest es xs) (sym (started.is ∙ at_its)) (record {
        places = record { terminals_are = places.terminals_are; holds = holds_started card.config.lines (2 * terminals) (slot_of terminals) (line_slot_of terminals) _ es places.holds line n r.tei started.moment r.its there within r.there };
        octets = started.read.octets ∙ ap (λ octets. octets ++ rest) (sym (spelled r.its));
        here = λ k. runs-of k r.its ∙ sym (r.runs k);
        others = λ i apart. at_other es (slot n r.its) i _ (apart r.its);
      })
    where
      r : RunsIts l n timer
      r = some-runs l n timer is

      its_timer : Timer
      its_timer = timer_of r.its (service_at n) r.tei

      at_its : with_timer (line * (4 * terminals + 2) + (2 * n + kind_of timer)) timer started.moment es ≡ with_timer (slot n r.its) its_timer started.moment es
      at_its = λ i. with_timer (line * (4 * terminals + 2) + (2 * n + (ap kind_of r.is ∙ kind-is r.its (service_at n) r.tei) i)) (r.is i) started.moment es

      its : LinkTimer → List Expiry
      its k = with_timer (slot n k) its_timer started.moment es

      inside : (k : LinkTimer) → slot n k < length es
      inside k = places.holds.layout.slot_there line n k there within

      apart-two : (slot n link.T200 ≢ slot n link.T203) × (slot n link.T203 ≢ slot n link.T200)
      apart-two = ((λ e. absurd (omega (arith, e))), (λ e. absurd (omega (arith, e))))

      runs-of : (k j : LinkTimer) → is_running (at (slot n k) (its j)) ≡ told.is_timer k j
      runs-of link.T200 link.T200 = runs-there es (slot n link.T200) started.moment its_timer (inside link.T200) started.read.saved
      runs-of link.T203 link.T203 = runs-there es (slot n link.T203) started.moment its_timer (inside link.T203) started.read.saved
      runs-of link.T200 link.T203 = rests-elsewhere es (slot n link.T203) started.moment its_timer (inside link.T203) started.read.saved (slot n link.T200) apart-two.0 (rests link.T200)
      runs-of link.T203 link.T200 = rests-elsewhere es (slot n link.T200) started.moment its_timer (inside link.T200) started.read.saved (slot n link.T203) apart-two.1 (rests link.T203)

      spelled : (j : LinkTimer) → link_moments terminals line (its j) n ≡ number 8 started.moment
      spelled link.T200 =
          (λ i. octets-there es (slot n link.T200) started.moment its_timer (inside link.T200) started.read.saved i ++ nothing-here (its link.T200) (slot n link.T203) (runs-of link.T203 link.T200) i)
          ∙ append-nil (number 8 started.moment)
      spelled link.T203 = λ i. nothing-here (its link.T203) (slot n link.T200) (runs-of link.T200 link.T203) i ++ octets-there es (slot n link.T203) started.moment its_timer (inside link.T203) started.read.saved i

  -- ---- the links of a line

  other-slot : (m n : ℕ) (j k : LinkTimer) → m < n → slot m j ≢ slot n k
  other-slot m n link.T200 link.T200 h e = omega (arith, h, e)
  other-slot m n link.T200 link.T203 h e = omega (arith, h, e)
  other-slot m n link.T203 link.T200 h e = omega (arith, h, e)
  other-slot m n link.T203 link.T203 h e = omega (arith, h, e)

  -- the next one rests so far
  pub next-rests : (n : ℕ) (front mid : List ℕ) (old es : List Expiry) → n < 2 * terminals → RestsHere terminals line old → AreLinksRead card terminals line n front mid old es → RestsAt terminals line n es
  next-rests n front mid old es within rests read k =
      ap is_running (read.others (slot n k) (λ m j less e. other-slot m n j k less (sym e))) ∙ rests (slot n k) (inside k)
    where
      inside : (k : LinkTimer) → IsPlaceOf terminals line (slot n k)
      inside link.T200 = (omega arith, omega (arith, within))
      inside link.T203 = (omega arith, omega (arith, within))

  pub one-more-link : (n : ℕ) (front mid rest : List ℕ) (old es new : List Expiry) → AreLinksRead card terminals line n front mid old es → IsLinkRead card terminals line n mid rest es new
      → AreLinksRead card terminals line (n + 1) front rest old new
  one-more-link n front mid rest old es new read one = record {
    places = one.places;
    octets = read.octets ∙ (λ i. sym stays i ++ one.octets i) ∙ sym (append_assoc (links_moments terminals line new n) (link_moments terminals line new n) rest)
        ∙ ap (λ octets. octets ++ rest) (sym (flat-more (link_moments terminals line new) n));
    here = λ m k less. elim (cases_lt m n) [
      | inl before ↦ ap is_running (one.others (slot m k) (λ j. other-slot m n k j before)) ∙ read.here m k before
      | inr last ↦ subst (λ x. is_running (at (slot x k) new) ≡ link_runs l x k) (omega (arith, last, less)) (one.here k)
    ];
    others = λ i apart. one.others i (λ k. apart n k (omega arith)) ∙ read.others i (λ m k less. apart m k (omega (arith, less)));
  }
    where
      stays : links_moments terminals line new n ≡ links_moments terminals line es n
      stays = flat-same (link_moments terminals line new) (link_moments terminals line es) (range_with_len 0 n) (λ k h.
          let m : ℕ = get_or (range_with_len 0 n) k 0 in
          let same : (j : LinkTimer) → moment_at (slot m j) new ≡ moment_at (slot m j) es =
          λ j. ap (λ (e : Expiry). cond {A = List ℕ} (is_running e) (number 8 e.moment) []) (one.others (slot m j) (λ x. other-slot m n j x (below n k h))) in
          λ i. same link.T200 i ++ same link.T203 i)

  -- ---- a line's own timer

  own-inside : (which : Bool) (es : List Expiry) → ArePlacesOf card terminals es → line_slot_of terminals which line < length es
  own-inside which es places = places.holds.layout.line_slot_there line which there

  -- The line tells which it is, if it runs one.
  abbrev pub own_list : List Timer
  own_list = cond (is_some l.management.check) (T201 ∷ []) [] ++ cond (is_some l.own.procedure) (T202 ∷ []) []

  pub no-own : (front : List ℕ) (es : List Expiry) → ArePlacesOf card terminals es → OwnRest terminals line es → [] ≡ own_list → IsOwnRead card terminals line front front es es
  no-own front es places rest none = record {
    places = places;
    octets = λ i. (sym (nothing-here es (line_slot_of terminals false line) (rest false)) i ++ sym (nothing-here es (line_slot_of terminals true line) (rest true)) i) ++ front;
    here = λ which. rest which ∙ sym (none-so (is_some l.management.check) (is_some l.own.procedure) which refl refl none);
    others = λ i apart. refl;
  }
    where
      none-so : (a b : Bool) (which : Bool) → is_some l.management.check ≡ a → is_some l.own.procedure ≡ b → [] ≡ cond a (T201 ∷ []) [] ++ cond b (T202 ∷ []) [] → line_runs l which ≡ false
      none-so true b which e f h = absurd (cc)
      none-so false true which e f h = absurd (cc)
      none-so false false true e f h = f
      none-so false false false e f h = e

  -- The one that it runs.
  record RunsOwn (timer : Timer) : Type 0 where
    pub its : Bool
    pub is : timer ≡ line_timer its
    pub runs : (which : Bool) → line_runs l which ≡ same-bool which its

  some-own : (timer : Timer) → timer ∷ [] ≡ own_list → RunsOwn timer
  some-own timer h = go (is_some l.management.check) (is_some l.own.procedure) refl refl h
    where
      first : (a b : Timer) → a ∷ [] ≡ b ∷ [] → a ≡ b
      first a b e = cc

      two : (a b : Timer) → timer ∷ [] ≡ a ∷ b ∷ [] → ⊥
      two a b e = cc

      go : (a b : Bool) → is_some l.management.check ≡ a → is_some l.own.procedure ≡ b → timer ∷ [] ≡ cond a (T201 ∷ []) [] ++ cond b (T202 ∷ []) [] → RunsOwn timer
      go true true e f h = absurd (two T201 T202 h)
      go true false e f h = record { its = false; is = first timer T201 h; runs = λ which. elim which as (λ w. line_runs l w ≡ same-bool w false) [ true ↦ f | false ↦ e ] }
      go false true e f h = record { its = true; is = first timer T202 h; runs = λ which. elim which as (λ w. line_runs l w ≡ same-bool w true) [ true ↦ f | false ↦ e ] }
      go false false e f h = absurd (cc)

  pub one-own : (timer : Timer) (front rest : List ℕ) (es new : List Expiry) → ArePlacesOf card terminals es → OwnRest terminals line es → timer ∷ [] ≡ own_list
      → IsStartedBy (line * (4 * terminals + 2) + (2 * 0 + own_kind_of timer)) timer front rest es new → IsOwnRead card terminals line front rest es new
  one-own timer front rest es new places rests is started =
      subst (λ xs. IsOwnRead card terminals line front rest es xs) (sym (started.is ∙ at_its)) (record {
        places = record { terminals_are = places.terminals_are; holds = holds_line card.config.lines (2 * terminals) (slot_of terminals) (line_slot_of terminals) _ es places.holds line started.moment r.its there };
        octets = started.read.octets ∙ ap (λ octets. octets ++ rest) (sym (spelled r.its));
        here = λ which. runs-of which r.its ∙ sym (r.runs which);
        others = λ i apart. at_other es (line_slot_of terminals r.its line) i _ (apart r.its);
      })
    where
      r : RunsOwn timer
      r = some-own timer is

      own-kind : (which : Bool) → own_kind_of (line_timer which) ≡ of_card.line_kind which
      own-kind true = refl
      own-kind false = refl

      place-is : line * (4 * terminals + 2) + (2 * 0 + own_kind_of timer) ≡ line_slot_of terminals r.its line
      place-is = let kind = ap own_kind_of r.is ∙ own-kind r.its in omega (arith, kind)

      at_its : with_timer (line * (4 * terminals + 2) + (2 * 0 + own_kind_of timer)) timer started.moment es ≡ with_timer (line_slot_of terminals r.its line) (line_timer r.its) started.moment es
      at_its = λ i. with_timer (place-is i) (r.is i) started.moment es

      its : Bool → List Expiry
      its which = with_timer (line_slot_of terminals which line) (line_timer r.its) started.moment es

      runs-of : (which j : Bool) → is_running (at (line_slot_of terminals which line) (its j)) ≡ same-bool which j
      runs-of true true = runs-there es (line_slot_of terminals true line) started.moment (line_timer r.its) (own-inside true es places) started.read.saved
      runs-of false false = runs-there es (line_slot_of terminals false line) started.moment (line_timer r.its) (own-inside false es places) started.read.saved
      runs-of true false = rests-elsewhere es (line_slot_of terminals false line) started.moment (line_timer r.its) (own-inside false es places) started.read.saved (line_slot_of terminals true line) (λ e. absurd (omega (arith, e))) (rests true)
      runs-of false true = rests-elsewhere es (line_slot_of terminals true line) started.moment (line_timer r.its) (own-inside true es places) started.read.saved (line_slot_of terminals false line) (λ e. absurd (omega (arith, e))) (rests false)

      spelled : (j : Bool) → own_moments terminals line (its j) ≡ number 8 started.moment
      spelled false =
          (λ i. octets-there es (line_slot_of terminals false line) started.moment (line_timer r.its) (own-inside false es places) started.read.saved i ++ nothing-here (its false) (line_slot_of terminals true line) (runs-of true false) i)
          ∙ append-nil (number 8 started.moment)
      spelled true = λ i. nothing-here (its true) (line_slot_of terminals false line) (runs-of false true) i ++ octets-there es (line_slot_of terminals true line) started.moment (line_timer r.its) (own-inside true es places) started.read.saved i

  -- ---- a whole line

  own-slot : (n : ℕ) (k : LinkTimer) (which : Bool) → n < 2 * terminals → line_slot_of terminals which line ≢ slot n k
  own-slot n link.T200 true h e = omega (arith, h, e)
  own-slot n link.T200 false h e = omega (arith, h, e)
  own-slot n link.T203 true h e = omega (arith, h, e)
  own-slot n link.T203 false h e = omega (arith, h, e)

  own-in : (which : Bool) → IsPlaceOf terminals line (line_slot_of terminals which line)
  own-in true = (omega arith, omega arith)
  own-in false = (omega arith, omega arith)

  slot-in : (n : ℕ) (k : LinkTimer) → n < 2 * terminals → IsPlaceOf terminals line (slot n k)
  slot-in n link.T200 h = (omega arith, omega (arith, h))
  slot-in n link.T203 h = (omega arith, omega (arith, h))

  pub own-rests : (front mid : List ℕ) (old es : List Expiry) → RestsHere terminals line old → AreLinksRead card terminals line (2 * terminals) front mid old es → OwnRest terminals line es
  own-rests front mid old es rests read which =
      ap is_running (read.others (line_slot_of terminals which line) (λ n k less. own-slot n k which less)) ∙ rests (line_slot_of terminals which line) (own-in which)

  pub whole-line : (front mid rest : List ℕ) (old es new : List Expiry) → AreLinksRead card terminals line (2 * terminals) front mid old es → IsOwnRead card terminals line mid rest es new
      → IsLineRead card terminals line front rest old new
  whole-line front mid rest old es new read own = record {
    places = own.places;
    octets = read.octets ∙ (λ i. sym stays i ++ own.octets i) ∙ sym (append_assoc (links_moments terminals line new (2 * terminals)) (own_moments terminals line new) rest);
    here = record {
      links = λ n k less. ap is_running (own.others (slot n k) (λ which e. own-slot n k which less (sym e))) ∙ read.here n k less;
      own = own.here;
    };
    others = λ i apart. own.others i (λ which e. apart (subst (IsPlaceOf terminals line) (sym e) (own-in which)))
        ∙ read.others i (λ n k less e. apart (subst (IsPlaceOf terminals line) (sym e) (slot-in n k less)));
  }
    where
      stays : links_moments terminals line new (2 * terminals) ≡ links_moments terminals line es (2 * terminals)
      stays = flat-same (link_moments terminals line new) (link_moments terminals line es) (range_with_len 0 (2 * terminals)) (λ k h.
          let n : ℕ = get_or (range_with_len 0 (2 * terminals)) k 0 in
          let same : (j : LinkTimer) → moment_at (slot n j) new ≡ moment_at (slot n j) es =
          λ j. ap (λ (e : Expiry). cond {A = List ℕ} (is_running e) (number 8 e.moment) []) (own.others (slot n j) (λ which e. own-slot n j which (below (2 * terminals) k h) (sym e))) in
          λ i. same link.T200 i ++ same link.T203 i)

-- ---- all lines

module _ (card : Card) (terminals : ℕ) where
  -- no place is of two lines
  apart-lines : (line other i : ℕ) → line < other → IsPlaceOf terminals line i → IsPlaceOf terminals other i → ⊥
  apart-lines line other i less a b =
      let next : suc line * (4 * terminals + 2) ≤ other * (4 * terminals + 2) = mul-le-mul_right (4 * terminals + 2) (omega (arith, less)) in
      let one : suc line * (4 * terminals + 2) ≡ line * (4 * terminals + 2) + (4 * terminals + 2) = suc-mul line (4 * terminals + 2) in
      omega (arith, next, one, a.1, b.0)

  pub one-more-line : (n : ℕ) (front mid rest : List ℕ) (es new : List Expiry) → n < card.config.lines → AreLinesRead card terminals n front mid es → IsLineRead card terminals n mid rest es new
      → AreLinesRead card terminals (n + 1) front rest new
  one-more-line n front mid rest es new within read one = record {
    places = one.places;
    octets = read.octets ∙ (λ i. sym stays i ++ one.octets i) ∙ sym (append_assoc (flat_map (line_moments terminals new) (range_with_len 0 n)) (line_moments terminals new n) rest)
        ∙ ap (λ octets. octets ++ rest) (sym (flat-more (line_moments terminals new) n));
    here = λ line less. elim (cases_lt line n) [
      | inl before ↦ record {
        links = λ m k few. ap is_running (elsewhere line (slot_of terminals line m k) before (slot-in card terminals line (lines-there line before) m k few)) ∙ (read.here line before).links m k few;
        own = λ which. ap is_running (elsewhere line (line_slot_of terminals which line) before (own-in card terminals line (lines-there line before) which)) ∙ (read.here line before).own which;
      }
      | inr last ↦ subst (λ x. RunsHere terminals x (line_at x card) new) (omega (arith, last, less)) one.here
    ];
    others = λ line from there i inside. ap is_running (one.others i (λ h. apart-lines n line i (omega (arith, from)) h inside)) ∙ read.others line (omega (arith, from)) there i inside;
  }
    where
      lines-there : (line : ℕ) → line < n → line < card.config.lines
      lines-there line before = omega (arith, before, within)

      elsewhere : (line i : ℕ) → line < n → IsPlaceOf terminals line i → at i new ≡ at i es
      elsewhere line i before inside = one.others i (λ h. apart-lines line n i before inside h)

      stays : flat_map (line_moments terminals new) (range_with_len 0 n) ≡ flat_map (line_moments terminals es) (range_with_len 0 n)
      stays = flat-same (line_moments terminals new) (line_moments terminals es) (range_with_len 0 n) (λ k h.
          let line : ℕ = get_or (range_with_len 0 n) k 0 in
          let before : line < n = below n k h in
          let same : (i : ℕ) → IsPlaceOf terminals line i → moment_at i new ≡ moment_at i es =
          λ i inside. ap (λ (e : Expiry). cond {A = List ℕ} (is_running e) (number 8 e.moment) []) (elsewhere line i before inside) in
          let links : links_moments terminals line new (2 * terminals) ≡ links_moments terminals line es (2 * terminals) =
          flat-same (link_moments terminals line new) (link_moments terminals line es) (range_with_len 0 (2 * terminals)) (λ j few.
          let m : ℕ = get_or (range_with_len 0 (2 * terminals)) j 0 in
          let inside = slot-in card terminals line (lines-there line before) m in
          λ i. same (slot_of terminals line m link.T200) (inside link.T200 (below (2 * terminals) j few)) i ++ same (slot_of terminals line m link.T203) (inside link.T203 (below (2 * terminals) j few)) i) in
          let own = own-in card terminals line (lines-there line before) in
          λ i. links i ++ (same (line_slot_of terminals false line) (own false) i ++ same (line_slot_of terminals true line) (own true) i))

-- a place of a line is one of those of all lines
pub place-within : (line lines each k : ℕ) → line < lines → k < each → line * each + k < lines * each
place-within line lines each k there within =
    let next : suc line * each ≤ lines * each = mul-le-mul_right each (omega (arith, there)) in
    omega (arith, next, suc-mul line each, within)
