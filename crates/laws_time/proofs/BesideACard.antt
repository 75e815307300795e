-- A clock that a caller keeps beside a card finds a place for each order, and runs as the card's own would.
use Rattle.laws_time.proofs.Vocabulary.{AllByRecursion, ArePrompt, Bool, Card, Clock, Config, Event, Expiry, IfSome, IsInRange, IsOneEach, IsPrompt, Kind, Lengths, List, None, OctetCard, OctetEvent, Option, Order, Some, Stands, Start, Step, Stop, Timed, Timers, [], ap, arith, at, clock_of, cond, count_by-put_in_order, count_on, falls_due, false, finds_place, has_lines, is_held, is_of}
use Rattle.laws_time.proofs.Vocabulary.{line_at, line_sound, nat_le, not, now-stays, obey, obeyed, octet-stepped, octet_at, option_map_or, ranges_of, refl, starts, step_happens as happens, stepped, subst, sum_by-filter_both, sym, time, true, with_order, without, ℕ, ◌*◌, ◌+◌, ◌<◌, ◌==◌, ◌||◌, ◌∙◌, ◌∷◌, ◌≡◌, ◌≤◌}
use Rattle.lapd_clock.specs.Timer.{Timer}
use Rattle.model_line.specs.Event as line_event
use Rattle.model_card.specs.Card as cards
use Rattle.model_card.specs.ports.Card as ports
use Rattle.model_card.specs.ports.Port as port
use Rattle.model_timed.specs.Clock as own
use Rattle.model_timed.specs.Frames as frames
use Rattle.model_timed.specs.Octets as octets
use Rattle.model_timed.specs.Timed as timed
use Rattle.model_timed.proofs.OctetsRun.{OctetsMean, octets-mean}
use Rattle.model_timed.proofs.RunTheSame.{begins}
use Rattle.laws_time.specs.BesideACard.{Beside, ClocksKeepUp, EventFinds, FindPlaces, KeepsUp, StepFinds, after, carried_out, with_event, AllFind, after_all}
use Rattle.laws_time.proofs.FewRun.{few-run}
use Rattle.laws_time.proofs.FewStarts.{card_starts}

-- Where a clock has so many lines and places, and runs what another runs.
module _ (lines places : ℕ) where
  abbrev kept : Clock → Timers
  kept c = record { lines = lines; places = places; lengths = c.lengths; running = c.running }

  -- an order leaves at most one timer more, if it starts one, and is carried out as it is there
  count-without : (line : ℕ) (timer : Timer) (es : List Expiry) → count_on line (without line timer es) ≤ count_on line es
  count-without line timer es = omega (arith, sum_by-filter_both (λ e. not (is_of line timer e)) (λ e. not (not (is_of line timer e))) (λ _. refl) (λ e. cond (e.line == line) 1 0) es)

  count-start : (line : ℕ) (timer : Timer) (c : Clock) → count_on line (obey line c (Start timer)).running ≤ count_on line c.running + 1
  count-start line timer c = grind (arith, count-without, count_by-put_in_order)

  -- where there is a place it is carried out
  started : (line : ℕ) (timer : Timer) (c : Clock) → count_on line c.running < places → with_order (kept c) line (Start timer) c.now ≡ kept (obey line c (Start timer))
  unfolding with_order finds_place
  started line timer c less = grind arith

  -- so orders are that start no more than there are places left
  Served : ℕ → List Order → Clock → Type 0
  Served line orders c = FindPlaces places line c.now orders (kept c) × (carried_out line c.now orders (kept c) ≡ kept (obeyed line orders c))

  served : (line : ℕ) (orders : List Order) (c : Clock) → count_on line c.running + starts orders ≤ places → Served line orders c
  unfolding Served starts with_order
  served line [] c fit = (tt, refl)
  served line (Start timer ∷ orders) c fit =
      let next = obey line c (Start timer) in let is = started line timer c (omega (arith, fit)) in
      let more = served line orders next (omega (arith, fit, count-start line timer c)) in (
        (omega (arith, fit), subst (FindPlaces places line c.now orders) (sym is) more.0),
        ap (carried_out line c.now orders) is ∙ more.1,
      )
  served line (Stop timer ∷ orders) c fit = served line orders (obey line c (Stop timer)) (omega (arith, fit, count-without line timer c.running))

  -- So with a card whose events start no more than there is place for.
  module _ {Card Event : Type 0} (k : Kind Card Event) (Good : Timed Card → Type 0) (late : ℕ)
      (goes-on : (s : Step Event) (t : Timed Card) → Good t → IsPrompt k late s t → Good (timed.after k s t))
      (fits : (e : Event) (t : Timed Card) → Good t → k.MayHappen e t.card → count_on (k.line e) t.clock.running + starts (k.orders e t.card) ≤ places)
      (fits-due : (x : Expiry) (rest : List Expiry) (t : Timed Card) → Good t → t.clock.running ≡ x ∷ rest → let e = k.expiry x.line x.timer in count_on (k.line e) rest + starts (k.orders e t.card) ≤ places) where
    abbrev beside : Timed Card → Beside Card
    beside t = record { card = t.card; clock = kept t.clock; now = t.clock.now }

    -- an event, and the expiry of what is due
    happening : (e : Event) (t : Timed Card) → count_on (k.line e) t.clock.running + starts (k.orders e t.card) ≤ places → EventFinds k places e (beside t) × (with_event k e (beside t) ≡ beside (timed.with_event k e t))
    unfolding Served
    happening e t fit =
        let its = served (k.line e) (k.orders e t.card) t.clock fit in
        (its.0, ap (λ c. record { card = k.after e t.card; clock = c; now = t.clock.now }) its.1 ∙ ap (λ n. record { card = k.after e t.card; clock = kept (obeyed (k.line e) (k.orders e t.card) t.clock); now = n }) (sym (now-stays (k.line e) t.clock (k.orders e t.card))))

    Goes : Step Event → Timed Card → Type 0
    Goes s t = StepFinds k places s (beside t) × (after k s (beside t) ≡ beside (timed.after k s t))

    falls : (card : Card) (lengths : Lengths) (now : ℕ) (running : List Expiry) → let t : Timed Card = record { card = card; clock = record { lengths = lengths; running = running; now = now } } in Good t → Goes falls_due t
    unfolding Goes
    falls card lengths now [] good = (tt, refl)
    falls card lengths now (x ∷ rest) good =
        let t : Timed Card = record { card = card; clock = record { lengths = lengths; running = x ∷ rest; now = now } } in
        let left : Timed Card = record { card = card; clock = record { lengths = lengths; running = rest; now = now } } in
        (elim (nat_le x.moment now) as (λ b.
        let out : Beside Card = record { card = card; clock = record { lines = lines; places = places; lengths = lengths; running = cond b rest (x ∷ rest) }; now = now } in
        IfSome (cond {A = Option (ℕ × Timer)} b (Some (x.line, x.timer)) None) (λ (y : ℕ × Timer). EventFinds k places (k.expiry y.0 y.1) out)
        × (option_map_or (λ (y : ℕ × Timer). with_event k (k.expiry y.0 y.1) out) (cond {A = Option (ℕ × Timer)} b (Some (x.line, x.timer)) None) (beside t) ≡ beside (option_map_or (timed.with_expiry k t) (cond b (Some x) None) t))) [
          | true ↦ happening (k.expiry x.line x.timer) left (fits-due x rest t good refl)
          | false ↦ (tt, refl)
        ])

    step : (s : Step Event) (t : Timed Card) → Good t → IsPrompt k late s t → Goes s t
    unfolding Goes
    step (happens e) t good prompt = happening e t (fits e t good prompt)
    step (time moment) t good prompt = (tt, refl)
    step falls_due t good prompt = falls t.card t.clock.lengths t.clock.now t.clock.running good

    -- any steps
    all : (steps : List (Step Event)) (t : Timed Card) → Good t → ArePrompt k late steps t → AllFind k places steps (beside t) × (after_all k steps (beside t) ≡ beside (timed.after_all k steps t))
    unfolding AllFind after_all timed.after_all ArePrompt Goes
    all [] t good prompt = (tt, refl)
    all (s ∷ steps) t good prompt =
        let its = step s t good prompt.0 in let more = all steps (timed.after k s t) (goes-on s t good prompt.0) prompt.1 in
        ((its.0, subst (AllFind k places steps) (sym its.1) more.0), ap (after_all k steps) its.1 ∙ more.1)

    pub keeps-up : (steps : List (Step Event)) (t : Timed Card) → Good t → ArePrompt k late steps t → KeepsUp k places steps (beside t) t
    keeps-up h t good prompt = grind (arith, all, clock_of)

-- What holds of a card of frames, alone or inside one of octets, and of its clock.
record Good (c : Config) (card : Card) (clock : Clock) : Type 0 where
  stands : Stands card clock
  config : card.config ≡ c

module _ (c : Config) (ranged : IsInRange c) where
  -- the timers of a clock that have run, or all but one
  record AreLeft (es : List Expiry) (clock : Clock) : Type 0 where
    one : IsOneEach es
    ran : (line : ℕ) (timer : Timer) → is_held line timer es ≡ true → is_held line timer clock.running ≡ true

  -- all that run, and all but the first
  all-left : (card : Card) (clock : Clock) → Good c card clock → AreLeft clock.running clock
  all-left card clock good = record { one = good.stands.one_each; ran = λ line timer is. is }

  but-first : (card : Card) (clock : Clock) → Good c card clock → (x : Expiry) (rest : List Expiry) → clock.running ≡ x ∷ rest → AreLeft rest clock × (x.line < card.config.lines)
  but-first card clock good x rest is = (
    record { one = (subst IsOneEach is good.stands.one_each).1; ran = λ line timer held. ap (is_held line timer) is ∙ ap (λ b. is_of line timer x || b) held ∙ or-true (is_of line timer x) },
    (subst (AllByRecursion (λ (y : Expiry). y.line < card.config.lines)) is good.stands.on_lines).0,
  )
    where
      or-true : (b : Bool) → (b || true) ≡ true
      or-true b = grind arith

  -- at most one timer a link and one run, and two are started
  fits : (card : Card) (clock : Clock) → Good c card clock → (es : List Expiry) → AreLeft es clock → (e : Event) → e.line < card.config.lines → count_on e.line es + starts (frames.orders_at e card) ≤ (4 * c.terminals + 1)
  fits card clock good es left e here =
      let sound = line_sound card e.line (has_lines card good.stands.sound) here in
      omega (
        arith,
        few-run card.config (line_at e.line card) sound e.line es (λ timer is. sym (good.stands.run e.line timer here) ∙ left.ran e.line timer is) left.one,
        card_starts card e good.stands.sound here,
        (ranges_of c ranged).terminals.least,
        ap (λ (d : Config). d.terminals) good.config,
      )

  -- what an event of octets orders is ordered by what it means
  octets-fit : (m : OctetCard) (clock : Clock) → Good c m.card clock → (es : List Expiry) → AreLeft es clock → (e : OctetEvent) → e.line < m.card.config.lines → (o : Option Event) → OctetsMean e m o
      → count_on e.line es + starts (octets.orders_at e m) ≤ (4 * c.terminals + 1)
  unfolding starts
  octets-fit m clock good es left e here None means = subst (λ os. count_on e.line es + starts os ≤ (4 * c.terminals + 1)) (sym means.0) (omega (arith, fits m.card clock good es left (at e.line line_event.next) here))
  octets-fit m clock good es left e here (Some f) means =
      subst (λ os. count_on e.line es + starts os ≤ (4 * c.terminals + 1)) (sym means.1)
      (subst (λ n. count_on n es + starts (frames.orders_at f m.card) ≤ (4 * c.terminals + 1)) means.0 (fits m.card clock good es left f (subst (λ n. n < m.card.config.lines) (sym means.0) here)))

  -- the configuration stays
  config-stays : (s : Step Event) (t : frames.TimedCard) → (timed.after frames.frames s t).card.config ≡ t.card.config
  config-stays s t = grind arith

  config-meant : (e : OctetEvent) (m : OctetCard) (o : Option Event) → OctetsMean e m o → (ports.after e m).card.config ≡ m.card.config
  config-meant e m o h1z = grind arith

  octets-config : (s : Step OctetEvent) (t : octets.TimedOctetCard) → (timed.after octets.octets s t).card.card.config ≡ t.card.card.config
  octets-config (happens e) t = config-meant e t.card (ports.meant e t.card) (octets-mean e t.card)
  octets-config (time moment) t = refl
  octets-config falls_due t = (elim (own.due t.clock) as (λ o. (option_map_or (timed.with_expiry octets.octets t) o t).card.card.config ≡ t.card.card.config) [
    | None ↦ refl
    | Some x ↦ let e = octet_at x.line (port.expiry x.timer) in config-meant e t.card (ports.meant e t.card) (octets-mean e t.card)
  ])

-- So a clock keeps up beside a card of either kind.
pub keeps-up-with-frames : ClocksKeepUp frames.frames cards.fresh
keeps-up-with-frames c lengths late steps ranged prompt =
    keeps-up c.lines (4 * c.terminals + 1) frames.frames (λ t. Good c t.card t.clock) late
    (λ s t good its. record { stands = stepped late s t good.stands its; config = config-stays c ranged s t ∙ good.config })
    (λ e t good may. fits c ranged t.card t.clock good t.clock.running (all-left c ranged t.card t.clock good) e may.0)
    (λ x rest t good is. let left = but-first c ranged t.card t.clock good x rest is in fits c ranged t.card t.clock good rest left.0 (at x.line (line_event.expiry x.timer)) left.1)
    steps (frames.fresh c lengths) (record { stands = begins c lengths ranged; config = refl }) prompt

pub keeps-up-with-octets : ClocksKeepUp octets.octets ports.fresh
keeps-up-with-octets c lengths late steps ranged prompt =
    keeps-up c.lines (4 * c.terminals + 1) octets.octets (λ t. Good c t.card.card t.clock) late
    (λ s t good its. record { stands = octet-stepped late s t good.stands its; config = octets-config c ranged s t ∙ good.config })
    (λ e t good may. octets-fit c ranged t.card t.clock good t.clock.running (all-left c ranged t.card.card t.clock good) e may.0 (ports.meant e t.card) (octets-mean e t.card))
    (λ x rest t good is. let left = but-first c ranged t.card.card t.clock good x rest is in let e = octet_at x.line (port.expiry x.timer) in
    octets-fit c ranged t.card t.clock good rest left.0 e left.1 (ports.meant e t.card) (octets-mean e t.card))
    steps (octets.fresh c lengths) (record { stands = begins c lengths ranged; config = refl }) prompt
