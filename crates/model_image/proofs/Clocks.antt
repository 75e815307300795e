-- A clock beside a card is read.
use Rattle.std.proofs.Common.{arith, lit<, ◌≡◌, ℕ, zero, suc, ◌*◌, ◌^◌, ◌<◌, ◌⊎◌, inl, inr, Bool, true, false, cond, List, [], ◌∷◌, ◌++◌, length, get_or, Option, Some, None, is_some, refl, sym, ap, ◌∙◌, subst}
use Rattle.std.specs.List.{range_with_len}
use Rattle.std.specs.Option.{unwrap_or}
use Rattle.std.specs.Prelude.{All, flat_map}
use Rattle.std.proofs.lemmas.List.Elements.{All-head, All-tail}
use Rattle.lapd_clock.specs.Moments.{moment_of}
use Rattle.lapd_clock.specs.Timer.{Timer, T200, T203, T201, T202, Service, Call, Packet, Lengths, AreInRange}
use Rattle.lapd_clock.specs.Timers.{Expiry, is_of}
use Rattle.model_teis.specs.network.Machine.{Management}
use Rattle.model_teis.proofs.Tables.{place_of-is}
use Rattle.model_link.specs.Told.{runs}
use Rattle.model_link.specs.declared.timers.LinkTimer.{LinkTimer}
use Rattle.model_link.specs.declared.timers.LinkTimer.TheVariants as running
use Rattle.model_line.specs.Expiry.{runs_at, is_running}
use Rattle.model_line.specs.declared.config.Config.{Config}
use Rattle.model_line.specs.Line.{Line, Own, link_number, link_count, link_at, service_at, place_at, place_in, tei_at}
use Rattle.model_line.proofs.Numbers.{place_at-number, service_at-number, at, below, within-range}
use Rattle.model_card.specs.Card.{Card, line_at}
use Rattle.model_timed.specs.Clock.{Clock}
use Rattle.model_timed.proofs.Orders.{held-is}
use Rattle.lapd_image.specs.Numbers.{number}
use Rattle.model_line.specs.Image.{timer_at, timer_numbered, timers}
use Rattle.model_image.specs.Clocks.{moment, moments_at, moments, lengths, clock}
use Rattle.model_line.specs.Same.{IsSameLine}
use Rattle.model_image.specs.Same.{IsSameClock}
use Rattle.model_image.specs.Sound.{IsClockOf}
use Rattle.lapd_image.proofs.Reading.{split, Reads, number-read}

-- What is in a list.
module _ {A : Type 0} where
  abbrev IsIn : A → List A → Type 0
  IsIn x [] = ⊥
  IsIn x (y ∷ ys) = (x ≡ y) ⊎ IsIn x ys

  in-left : (x : A) (xs ys : List A) → IsIn x xs → IsIn x (xs ++ ys)
  in-left x [] ys h = absurd h
  in-left x (z ∷ zs) ys (inl e) = inl e
  in-left x (z ∷ zs) ys (inr h) = inr (in-left x zs ys h)

  in-right : (x : A) (xs ys : List A) → IsIn x ys → IsIn x (xs ++ ys)
  in-right x [] ys h = h
  in-right x (z ∷ zs) ys h = inr (in-right x zs ys h)

  in-each : (x : A) (f : ℕ → List A) (ns : List ℕ) (k : ℕ) → k < length ns → IsIn x (f (get_or ns k 0)) → IsIn x (flat_map f ns)
  in-each x f [] k h here = absurd (omega (arith, h))
  in-each x f (n ∷ ns) zero h here = in-left x (f n) (flat_map f ns) here
  in-each x f (n ∷ ns) (suc k) h here = in-right x (f n) (flat_map f ns) (in-each x f ns k (omega (arith, h)) here)

  pub flat-same : (f g : ℕ → List A) (ns : List ℕ) → ((k : ℕ) → k < length ns → f (get_or ns k 0) ≡ g (get_or ns k 0)) → flat_map f ns ≡ flat_map g ns
  flat-same f g [] each = refl
  flat-same f g (n ∷ ns) each =
      let one : f n ≡ g n = each 0 (omega arith) in
      let rest : flat_map f ns ≡ flat_map g ns = flat-same f g ns (λ k h. each (suc k) (omega (arith, h))) in
      λ i. one i ++ rest i

-- a link by its place and service
number-there : (count place : ℕ) (service : Service) → place < count → link_number place service < 2 * count
number-there count place Call h = omega (arith, h)
number-there count place Packet h = omega (arith, h)

-- A timer that a line runs is among those of the line.
abbrev as_line : LinkTimer → Service → ℕ → Timer
as_line running.T200 service tei = T200 service tei
as_line running.T203 service tei = T203 service tei

link-timer-in : (timer : LinkTimer) (s service : Service) (o : Option ℕ) (tei : ℕ) (r : Option LinkTimer) → s ≡ service → o ≡ Some tei → runs timer r ≡ true
    → IsIn (as_line timer service tei) (timer_at s o r)
link-timer-in timer s service o tei None p q e = absurd (cc)
link-timer-in running.T200 s service o tei (Some running.T200) p q e = rw (p, q) (inl refl)
link-timer-in running.T200 s service o tei (Some running.T203) p q e = absurd (cc)
link-timer-in running.T203 s service o tei (Some running.T200) p q e = absurd (cc)
link-timer-in running.T203 s service o tei (Some running.T203) p q e = rw (p, q) (inl refl)

one-in : (b : Bool) (timer : Timer) → b ≡ true → IsIn timer (cond b (timer ∷ []) [])
one-in true timer e = inl refl
one-in false timer e = absurd (cc)

module _ (c : Config) (l : Line) (places : length l.management.places ≡ c.terminals) where
  at-place : (timer : LinkTimer) (service : Service) (tei : ℕ) (o : Option ℕ) → place_in l tei ≡ o → runs_at service timer o l ≡ true
      → IsIn (as_line timer service tei) (flat_map (timer_numbered l) (range_with_len 0 (link_count c)))
  at-place timer service tei None e run = absurd (cc)
  at-place timer service tei (Some place) e run =
      let there = place_of-is l.management.places tei place e in
      let number : ℕ = link_number place service in
      let within : number < link_count c = number-there c.terminals place service (subst (λ (n : ℕ). place < n) places there.0) in
      let long : number < length (range_with_len 0 (link_count c)) = within-range (link_count c) number within in
      let tei_is : tei_at (place_at number) l ≡ Some tei = ap (λ (p : ℕ). get_or l.management.places p None) (place_at-number place service) ∙ there.1 in
      let here : IsIn (as_line timer service tei) (timer_numbered l number) =
      link-timer-in timer (service_at number) service (tei_at (place_at number) l) tei (link_at number l).running (service_at-number place service) tei_is run in
      in-each (as_line timer service tei) (timer_numbered l) (range_with_len 0 (link_count c)) number long
      (subst (λ (n : ℕ). IsIn (as_line timer service tei) (timer_numbered l n)) (sym (at (link_count c) number within)) here)

  timer-in : (timer : Timer) → is_running timer l ≡ true → IsIn timer (timers c l)
  timer-in (T200 service tei) run = in-left (T200 service tei) _ _ (at-place running.T200 service tei (place_in l tei) refl run)
  timer-in (T203 service tei) run = in-left (T203 service tei) _ _ (at-place running.T203 service tei (place_in l tei) refl run)
  timer-in T201 run = in-right T201 (flat_map (timer_numbered l) (range_with_len 0 (link_count c))) _ (in-left T201 _ _ (one-in (is_some l.management.check) T201 run))
  timer-in T202 run = in-right T202 (flat_map (timer_numbered l) (range_with_len 0 (link_count c))) _
      (in-right T202 (cond (is_some l.management.check) (T201 ∷ []) []) _ (one-in (is_some l.own.procedure) T202 run))

-- Two lines that are the same have the same timers, and run the same.
module _ (c : Config) (l m : Line) (places : length l.management.places ≡ c.terminals) (same : IsSameLine c l m) where
  numbered-same : (k : ℕ) → k < length (range_with_len 0 (link_count c))
      → timer_numbered l (get_or (range_with_len 0 (link_count c)) k 0) ≡ timer_numbered m (get_or (range_with_len 0 (link_count c)) k 0)
  numbered-same k h =
      let n : ℕ = get_or (range_with_len 0 (link_count c)) k 0 in
      let tei : tei_at (place_at n) l ≡ tei_at (place_at n) m = ap (λ (x : Management). get_or x.places (place_at n) None) same.management in
      let run : (link_at n l).running ≡ (link_at n m).running = (same.links n (below (link_count c) k h)).running in
      λ i. timer_at (service_at n) (tei i) (run i)

  timers-same : timers c l ≡ timers c m
  timers-same =
      let links = flat-same (timer_numbered l) (timer_numbered m) (range_with_len 0 (link_count c)) numbered-same in
      let check : is_some l.management.check ≡ is_some m.management.check = ap (λ (x : Management). is_some x.check) same.management in
      let procedure : is_some l.own.procedure ≡ is_some m.own.procedure = ap (λ (o : Own). is_some o.procedure) same.own in
      λ i. links i ++ (cond (check i) (T201 ∷ []) [] ++ cond (procedure i) (T202 ∷ []) [])

  at-one : (timer : LinkTimer) (service : Service) (tei : ℕ) (o : Option ℕ) → place_in l tei ≡ o → runs_at service timer o l ≡ runs_at service timer o m
  at-one timer service tei None e = refl
  at-one timer service tei (Some place) e =
      let there = place_of-is l.management.places tei place e in
      let within : link_number place service < link_count c = number-there c.terminals place service (subst (λ (n : ℕ). place < n) places there.0) in
      ap (λ (r : Option LinkTimer). runs timer r) (same.links (link_number place service) within).running

  at-links : (timer : LinkTimer) (service : Service) (tei : ℕ) → runs_at service timer (place_in l tei) l ≡ runs_at service timer (place_in m tei) m
  at-links timer service tei =
      let where_same : place_in l tei ≡ place_in m tei = ap (λ (x : Management). place_in (record l { management = x }) tei) same.management in
      at-one timer service tei (place_in l tei) refl ∙ ap (λ (o : Option ℕ). runs_at service timer o m) where_same

  pub running-same : (timer : Timer) → is_running timer l ≡ is_running timer m
  running-same (T200 service tei) = at-links running.T200 service tei
  running-same (T203 service tei) = at-links running.T203 service tei
  running-same T201 = ap (λ (x : Management). is_some x.check) same.management
  running-same T202 = ap (λ (o : Own). is_some o.procedure) same.own

-- A moment has 64 bits.
abbrev value : Clock → ℕ → Timer → ℕ
value c line timer = unwrap_or (moment_of line timer c.running) 0

small-moment : (line : ℕ) (timer : Timer) (es : List Expiry) → All (λ (e : Expiry). e.moment < 2 ^ 64) es → unwrap_or (moment_of line timer es) 0 < 256 ^ 8
small-moment line timer [] all = lit< tt
small-moment line timer (e ∷ es) all = go (is_of line timer e) (small-moment line timer es (All-tail (λ (e : Expiry). e.moment < 2 ^ 64) e es all))
  where
    go : (b : Bool) → unwrap_or (moment_of line timer es) 0 < 256 ^ 8 → unwrap_or (cond b (Some e.moment) (moment_of line timer es)) 0 < 256 ^ 8
    go true rest = All-head (λ (e : Expiry). e.moment < 2 ^ 64) e es all
    go false rest = rest

-- So has each moment of a clock that may be saved.
pub soon : (card : Card) (c : Clock) → IsClockOf card c → All (λ (e : Expiry). e.moment < 2 ^ 64) c.running
soon card c sound = λ i d within. omega (arith, sound.moments i d within, sound.now)

-- Two options are one if both are there, or neither is, and what is there is the same.
same-option : (o p : Option ℕ) → is_some o ≡ is_some p → (is_some o ≡ true → unwrap_or o 0 ≡ unwrap_or p 0) → o ≡ p
same-option None None there same = refl
same-option None (Some n) there same = absurd (cc)
same-option (Some n) None there same = absurd (cc)
same-option (Some n) (Some m) there same = ap (λ (k : ℕ). Some k) (same refl)

-- The moments of some timers of one line, and of the timers of some lines.
module _ (c d : Clock) (few : All (λ (e : Expiry). e.moment < 2 ^ 64) c.running) (also : All (λ (e : Expiry). e.moment < 2 ^ 64) d.running) where
  abbrev AreRead : ℕ → List Timer → Type 0
  AreRead line ts = (timer : Timer) → IsIn timer ts → value c line timer ≡ value d line timer

  one-more : (line : ℕ) (t : Timer) (ts : List Timer) → value c line t ≡ value d line t → AreRead line ts → AreRead line (t ∷ ts)
  one-more line t ts one rest timer (inl e) = subst (λ (x : Timer). value c line x ≡ value d line x) (sym e) one
  one-more line t ts one rest timer (inr h) = rest timer h

  one-line : (line : ℕ) (ts : List Timer) (r s : List ℕ) → flat_map (moment c line) ts ++ r ≡ flat_map (moment d line) ts ++ s → AreRead line ts × (r ≡ s)
  one-line line [] r s e = ((λ timer h. absurd h), e)
  one-line line (t ∷ ts) r s e =
      let one : (value c line t ≡ value d line t) × (flat_map (moment c line) ts ++ r ≡ flat_map (moment d line) ts ++ s) =
      number-read 8 (value c line t) (value d line t) _ _ (small-moment line t c.running few) (small-moment line t d.running also)
      (split (moment c line t) (flat_map (moment c line) ts) (moment d line t) (flat_map (moment d line) ts) r s e) in
      let rest : AreRead line ts × (r ≡ s) = one-line line ts r s one.1 in
      (one-more line t ts one.0 rest.0, rest.1)

  abbrev AllRead : Card → List ℕ → Type 0
  AllRead a ns = (k : ℕ) → k < length ns → AreRead (get_or ns k 0) (timers a.config (line_at (get_or ns k 0) a))

  line-more : (a : Card) (n : ℕ) (ns : List ℕ) → AreRead n (timers a.config (line_at n a)) → AllRead a ns → AllRead a (n ∷ ns)
  line-more a n ns one rest zero h = one
  line-more a n ns one rest (suc k) h = rest k (omega (arith, h))

  all-lines : (a b : Card) (ns : List ℕ) (r s : List ℕ) → ((k : ℕ) → k < length ns → timers a.config (line_at (get_or ns k 0) a) ≡ timers b.config (line_at (get_or ns k 0) b))
      → flat_map (moments_at a c) ns ++ r ≡ flat_map (moments_at b d) ns ++ s → AllRead a ns × (r ≡ s)
  all-lines a b [] r s same e = ((λ k h. absurd (omega (arith, h))), e)
  all-lines a b (n ∷ ns) r s same e =
      let here : timers a.config (line_at n a) ≡ timers b.config (line_at n b) = same 0 (omega arith) in
      let whole : moments_at a c n ++ (flat_map (moments_at a c) ns ++ r) ≡ moments_at b d n ++ (flat_map (moments_at b d) ns ++ s) =
      split (moments_at a c n) (flat_map (moments_at a c) ns) (moments_at b d n) (flat_map (moments_at b d) ns) r s e in
      let one : AreRead n (timers a.config (line_at n a)) × (flat_map (moments_at a c) ns ++ r ≡ flat_map (moments_at b d) ns ++ s) =
      one-line n (timers a.config (line_at n a)) _ _ (whole ∙ ap (λ (ts : List Timer). flat_map (moment d n) ts ++ (flat_map (moments_at b d) ns ++ s)) (sym here)) in
      let rest : AllRead a ns × (r ≡ s) = all-lines a b ns r s (λ k h. same (suc k) (omega (arith, h))) one.1 in
      (line-more a n ns one.0 rest.0, rest.1)

-- how long timers run
lengths-read : Reads AreInRange (λ (k l : Lengths). k ≡ l) lengths
lengths-read k l r s few also e =
    let t200 : (k.t200 ≡ l.t200) × _ = number-read 4 k.t200 l.t200 _ _ (omega (arith, few.t200_most)) (omega (arith, also.t200_most)) (split (number 4 k.t200) _ (number 4 l.t200) _ r s e) in
    let t203 : (k.t203 ≡ l.t203) × _ = number-read 4 k.t203 l.t203 _ _ (omega (arith, few.t203_most)) (omega (arith, also.t203_most)) (split (number 4 k.t203) _ (number 4 l.t203) _ r s t200.1) in
    let t201 : (k.t201 ≡ l.t201) × _ = number-read 4 k.t201 l.t201 _ _ (omega (arith, few.t201_most)) (omega (arith, also.t201_most)) (split (number 4 k.t201) _ (number 4 l.t201) _ r s t203.1) in
    let t202 : (k.t202 ≡ l.t202) × (r ≡ s) = number-read 4 k.t202 l.t202 r s (omega (arith, few.t202_most)) (omega (arith, also.t202_most)) t201.1 in
    ((λ i. record { t200 = t200.0 i; t203 = t203.0 i; t201 = t201.0 i; t202 = t202.0 i }), t202.1)

-- A whole clock, beside two cards that are the same.
module _ (a b : Card) (config : a.config ≡ b.config) (same : (number : ℕ) → number < a.config.lines → IsSameLine a.config (line_at number a) (line_at number b))
    (places : (number : ℕ) → number < a.config.lines → length (line_at number a).management.places ≡ a.config.terminals) where
  pub timers-at : (n : ℕ) → n < a.config.lines → timers a.config (line_at n a) ≡ timers b.config (line_at n b)
  timers-at n h = timers-same a.config (line_at n a) (line_at n b) (places n h) (same n h) ∙ ap (λ (c : Config). timers c (line_at n b)) config

  moment-same : (c d : Clock) (sound : IsClockOf a c) (also : IsClockOf b d) → AllRead c d (soon a c sound) (soon b d also) a (range_with_len 0 a.config.lines)
      → (line : ℕ) (timer : Timer) → line < a.config.lines → moment_of line timer c.running ≡ moment_of line timer d.running
  moment-same c d sound also read line timer h =
      let lines : ℕ = a.config.lines in
      let held : is_some (moment_of line timer c.running) ≡ is_running timer (line_at line a) = sym (held-is line timer c.running) ∙ sound.running line timer h in
      let held_too : is_some (moment_of line timer d.running) ≡ is_running timer (line_at line b) =
      sym (held-is line timer d.running) ∙ also.running line timer (subst (λ (x : Config). line < x.lines) config h) in
      let runs_same : is_running timer (line_at line a) ≡ is_running timer (line_at line b) = running-same a.config (line_at line a) (line_at line b) (places line h) (same line h) timer in
      let here : AreRead c d (soon a c sound) (soon b d also) line (timers a.config (line_at line a)) =
      subst (λ (n : ℕ). AreRead c d (soon a c sound) (soon b d also) n (timers a.config (line_at n a))) (at lines line h) (read line (within-range lines line h)) in
      same-option (moment_of line timer c.running) (moment_of line timer d.running) (held ∙ runs_same ∙ sym held_too)
      (λ there. here timer (timer-in a.config (line_at line a) (places line h) timer (sym held ∙ there)))

  pub clock-read : (c d : Clock) (r s : List ℕ) → IsClockOf a c → IsClockOf b d → clock a (Some c) ++ r ≡ clock b (Some d) ++ s → IsSameClock a.config.lines c d × (r ≡ s)
  clock-read c d r s sound also e =
      let lines : ℕ = a.config.lines in
      let of_lengths : (c.lengths ≡ d.lengths) × _ = lengths-read c.lengths d.lengths _ _ sound.lengths also.lengths (split (lengths c.lengths) _ (lengths d.lengths) _ r s e) in
      let now : (c.now ≡ d.now) × (moments a c ++ r ≡ moments b d ++ s) = number-read 8 c.now d.now _ _ (omega (arith, sound.now)) (omega (arith, also.now)) (split (number 8 c.now) (moments a c) (number 8 d.now) (moments b d) r s of_lengths.1) in
      let whole : flat_map (moments_at a c) (range_with_len 0 lines) ++ r ≡ flat_map (moments_at b d) (range_with_len 0 lines) ++ s =
      now.1 ∙ ap (λ (x : Config). flat_map (moments_at b d) (range_with_len 0 x.lines) ++ s) (sym config) in
      let read = all-lines c d (soon a c sound) (soon b d also) a b (range_with_len 0 lines) r s (λ k h. timers-at _ (below lines k h)) whole in
      (record { lengths = of_lengths.0; now = now.0; running = moment-same c d sound also read.0 }, read.1)
