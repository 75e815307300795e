-- To wait ends: with each expiry, the time that is left until the end falls, and it is tried often enough.
use Rattle.lapd_sim.proofs.OfMachine.Vocabulary.{◌≡◌, ℕ, zero, suc, ◌+◌, ◌-◌, ◌<◌, ◌≤◌, nat_le, List, [], ◌∷◌, ◌++◌, Option, Some, None, refl, sym, ap, ◌∙◌, subst, arith, append_assoc, append-nil, nat_tests, Event, at, reply, expiry, time_until-stop, sum_by-put_in_order, Lengths, AreInRange, T200, T203, T201, Order, Start, Stop, duration, Expiry, Timers}
use Rattle.lapd_sim.proofs.OfMachine.Vocabulary.{Clock, obey, obeyed, at_moment, next_moment, without_first, lengths-stay, is_before, without, with_order, first_due, due_by, time_until, orders_in, starts, Setup, happened, Scene, reply_text, at_expiry, expired, expiries, until, moment_from}
use Rattle.std.proofs.lemmas.List.Sums.{sum_by-cons}
use Rattle.lapd_clock.specs.Timer.{Timer}
use Rattle.lapd_sim.proofs.OfMachine.Orders.{expiry_starts}

-- ---- with each expiry, as it starts at most one timer, the time that is left falls

pub runs_long : (lengths : Lengths) (timer : Timer) → AreInRange lengths → 1 ≤ duration lengths timer
runs_long lengths timer range = grind (arith, T200, T203, T201)

pub happens_in_range : (b : Setup) (e : Event) → AreInRange b.clock.lengths → AreInRange (happened b e).clock.lengths
happens_in_range b e range = subst AreInRange (sym (lengths-stay e.line b.clock (orders_in (reply e b.board)))) range

-- an order adds at most what the timer runs that it starts
abbrev as_timers : Clock → Timers
as_timers c = record { lines = 0; places = 0; lengths = c.lengths; running = c.running }

module _ (end line : ℕ) where
  after-stop : (c : Clock) (timer : Timer) → time_until end (obey line c (Stop timer)) ≤ time_until end c
  unfolding with_order
  after-stop c timer = time_until-stop (as_timers c) line timer c.now end

  after-start : (c : Clock) (timer : Timer) → time_until end (obey line c (Start timer)) ≤ time_until end c + (end + 1 - (c.now + duration c.lengths timer))
  after-start c timer =
      omega (
        arith,
        after-stop c timer,
        sum_by-put_in_order is_before (λ (e : Expiry). end + 1 - e.moment) (record { moment = c.now + duration c.lengths timer; line = line; timer = timer }) (without line timer c.running),
      )

  time_until-none : (orders : List Order) (c : Clock) → starts orders ≡ 0 → time_until end (obeyed line orders c) ≤ time_until end c
  unfolding starts
  time_until-none [] c h = omega arith
  time_until-none (Start timer ∷ orders) c h = absurd (omega (arith, h))
  time_until-none (Stop timer ∷ orders) c h = omega (arith, time_until-none orders (obey line c (Stop timer)) (omega (arith, h)), after-stop c timer)

  pub time_until-one : (orders : List Order) (c : Clock) → starts orders ≤ 1 → AreInRange c.lengths → time_until end (obeyed line orders c) ≤ time_until end c + (end - c.now)
  unfolding starts
  time_until-one [] c h range = omega arith
  time_until-one (Start timer ∷ orders) c h range =
      let rest = time_until-none orders (obey line c (Start timer)) (omega (arith, h)) in
      omega (arith, rest, after-start c timer, runs_long c.lengths timer range)
  time_until-one (Stop timer ∷ orders) c h range =
      omega (arith, time_until-one orders (obey line c (Stop timer)) (omega (arith, h)) range, after-stop c timer)

not_due : (P : Type 0) (due : ℕ × Timer) → None ≡ Some due → P
not_due P due e = absurd (cc)

-- what is due is the first, and no later than the end
pub first_is_due : (e : Expiry) (es : List Expiry) (end : ℕ) (due : ℕ × Timer) → first_due (e ∷ es) end ≡ Some due → e.moment ≤ end
first_is_due e es end due is = grind (arith, nat_le, nat_tests, not_due)

-- it is taken at its moment, or at once if that is past, and leaves more time than a timer has that is started then
due_nears : (end : ℕ) (c : Clock) (due : ℕ × Timer) → due_by end c ≡ Some due
    → let taken : Clock = without_first (at_moment (moment_from c.now (next_moment c)) c) in time_until end taken + (end - taken.now) < time_until end c
due_nears end c due is = go c.lengths c.running c.now is
  where
    go : (lengths : Lengths) (running : List Expiry) (now : ℕ) → let c : Clock = record { lengths = lengths; running = running; now = now } in due_by end c ≡ Some due
        → let taken : Clock = without_first (at_moment (moment_from c.now (next_moment c)) c) in time_until end taken + (end - taken.now) < time_until end c
    go lengths [] now is = not_due _ due is
    go lengths (e ∷ es) now is = omega (arith, first_is_due e es end due is, sum_by-cons (λ (x : Expiry). end + 1 - x.moment) e es)

pub expiry_lowers : (end line : ℕ) (timer : Timer) (due : ℕ × Timer) (b : Setup) → AreInRange b.clock.lengths → due_by end b.clock ≡ Some due
    → time_until end (happened (at_expiry b) (at line (expiry timer))).clock < time_until end b.clock
expiry_lowers end line timer due b range is =
    let taken = (at_expiry b).clock in
    omega (arith, due_nears end b.clock due is, time_until-one end line (orders_in (reply (at line (expiry timer)) b.board)) taken (expiry_starts line timer b.board) range)

-- ---- what falls due happens one after the other, however often it is tried beyond that

abbrev next_by : ℕ → ℕ → Scene → Option (ℕ × Timer) → Scene
next_by n end s o = elim o [ None ↦ s | Some due ↦ expiries n end (expired due.0 due.1 s) ]

none_left : (n end : ℕ) (s : Scene) → due_by end s.setup.clock ≡ None → expiries n end s ≡ s
none_left zero end s is = refl
none_left (suc n) end s is = ap (next_by n end s) is

one_left : (n end : ℕ) (s : Scene) (due : ℕ × Timer) → due_by end s.setup.clock ≡ Some due → expiries (suc n) end s ≡ expiries n end (expired due.0 due.1 s)
one_left n end s due is = ap (next_by n end s) is

-- the lengths stay in range with an expiry
stay : (due : ℕ × Timer) (s : Scene) → AreInRange s.setup.clock.lengths → AreInRange (expired due.0 due.1 s).setup.clock.lengths
stay due s range = happens_in_range (at_expiry s.setup) (at due.0 (expiry due.1)) range

one_more : (n end : ℕ) (s : Scene) (o : Option (ℕ × Timer)) → AreInRange s.setup.clock.lengths → due_by end s.setup.clock ≡ o → time_until end s.setup.clock ≤ n → expiries (suc n) end s ≡ expiries n end s
one_more n end s None range is h = none_left (suc n) end s is ∙ sym (none_left n end s is)
one_more zero end s (Some due) range is h = absurd (omega (arith, h, expiry_lowers end due.0 due.1 due s.setup range is))
one_more (suc n) end s (Some due) range is h =
    let next = expired due.0 due.1 s in
    let lower = expiry_lowers end due.0 due.1 due s.setup range is in
    one_left (suc n) end s due is ∙ one_more n end next (due_by end next.setup.clock) (stay due s range) refl (omega (arith, h, lower)) ∙ sym (one_left n end s due is)

more : (extra n end : ℕ) (s : Scene) → AreInRange s.setup.clock.lengths → time_until end s.setup.clock ≤ n → expiries (extra + n) end s ≡ expiries n end s
more zero n end s range h =
    let none : 0 + n ≡ n = omega arith in
    ap (λ k. expiries k end s) none
more (suc extra) n end s range h =
    let one : suc extra + n ≡ suc (extra + n) = omega arith in
    ap (λ k. expiries k end s) one ∙ one_more (extra + n) end s (due_by end s.setup.clock) range refl (omega (arith, h)) ∙ more extra n end s range h

-- and it is tried often enough: none is due any more
pub drained : (n end : ℕ) (s : Scene) (o : Option (ℕ × Timer)) → AreInRange s.setup.clock.lengths → due_by end s.setup.clock ≡ o → time_until end s.setup.clock ≤ n → due_by end (expiries n end s).setup.clock ≡ None
drained n end s None range is h = ap (λ (x : Scene). due_by end x.setup.clock) (none_left n end s is) ∙ is
drained zero end s (Some due) range is h = absurd (omega (arith, h, expiry_lowers end due.0 due.1 due s.setup range is))
drained (suc n) end s (Some due) range is h =
    let next = expired due.0 due.1 s in
    let lower = expiry_lowers end due.0 due.1 due s.setup range is in
    ap (λ (x : Scene). due_by end x.setup.clock) (one_left n end s due is) ∙ drained n end next (due_by end next.setup.clock) (stay due s range) refl (omega (arith, h, lower))

-- the first that falls due may happen before
pub until-expired : (end : ℕ) (s : Scene) (due : ℕ × Timer) → AreInRange s.setup.clock.lengths → due_by end s.setup.clock ≡ Some due → until end s ≡ until end (expired due.0 due.1 s)
until-expired end s due range is =
    let next = expired due.0 due.1 s in
    let all = time_until end s.setup.clock in
    let rest = time_until end next.setup.clock in
    let lower : rest < all = expiry_lowers end due.0 due.1 due s.setup range is in
    let one : all ≡ suc (all - 1) = omega (arith, lower) in
    let others : all - 1 ≡ (all - 1 - rest) + rest = omega (arith, lower) in
    let same : expiries all end s ≡ expiries rest end next =
    ap (λ n. expiries n end s) one ∙ one_left (all - 1) end s due is
    ∙ ap (λ n. expiries n end next) others ∙ more (all - 1 - rest) rest end next (stay due s range) (omega arith) in
    ap (λ (x : Scene). record x { setup = record x.setup { clock = at_moment end x.setup.clock } }) same

-- where none falls due, the end comes
pub until-over : (end : ℕ) (s : Scene) → due_by end s.setup.clock ≡ None → until end s ≡ record s { setup = record s.setup { clock = at_moment end s.setup.clock } }
until-over end s is = ap (λ (x : Scene). record x { setup = record x.setup { clock = at_moment end x.setup.clock } }) (none_left (time_until end s.setup.clock) end s is)

-- what is said comes after what has been said
pub text_grows : (n end : ℕ) (s : Scene) (o : Option (ℕ × Timer)) → due_by end s.setup.clock ≡ o → (later : List ℕ) × ((expiries n end s).text ≡ s.text ++ later)
text_grows zero end s o is = ([], sym (append-nil s.text))
text_grows (suc n) end s None is = ([], ap (λ (x : Scene). x.text) (none_left (suc n) end s is) ∙ sym (append-nil s.text))
text_grows (suc n) end s (Some due) is =
    let next = expired due.0 due.1 s in
    let said = reply_text s.setup.losses (at due.0 (expiry due.1)) (reply (at due.0 (expiry due.1)) s.setup.board) in
    let later : (later : List ℕ) × ((expiries n end next).text ≡ next.text ++ later) = text_grows n end next (due_by end next.setup.clock) refl in
    (said ++ later.0, ap (λ (x : Scene). x.text) (one_left n end s due is) ∙ later.1 ∙ append_assoc s.text said later.0)
