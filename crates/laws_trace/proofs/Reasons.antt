-- Why a request is refused: the first row of the table that holds is the first reason to an observer.
use Rattle.laws_trace.proofs.Vocabulary.{◌≡◌, ℕ, ◌&&◌, ◌||◌, ◌<◌, Bool, true, false, true≢false, lt-ltb, le-ltb, arith, not, cond, nat_le, nat_lt, List, length, Option, Some, None, is_some, option_map, refl, sym, ap, ◌∙◌, subst, Config, Line, has_tei, link_of, queue_of, Card, line_at}
use Rattle.laws_trace.proofs.Vocabulary.{is_full, refusal, fresh, after_all, AreAtLines, IsInRange, units_of, config-stays, length-map, unit_frame, Side, Refusal, Link, state_number, is_multiple_frame, is_up, view_of, outgoing_of, Observed, ◌==◌}
use Rattle.laws_trace.proofs.Vocabulary.{Service, IsSound, last_unit_tei, used, manages, has_management, Managed, managed_after, managing_is_on as is_on, CardEvent as Event, free_place, Request, request}
use Rattle.lapd_frame.specs.declared.refusals.Refusal.TheVariants.{BadTei, NoLink, WrongState, TooLong, QueueFull, PoolFull, TeiTaken, TableFull}
use Rattle.model_teis.specs.declared.network.check.Check as check
use Rattle.model_line.specs.Line.{is_at, is_terminal}
use Rattle.model_line.specs.Sides.{is_network}
use Rattle.model_line.specs.Sound.{IsOfSide}
use Rattle.model_line.specs.Request.{Establish, Release, Data, Unit, Assign, Remove, Check, Disown, AskTei, VerifyTei, SetBusy, ClearBusy, Deactivate, Down}
use Rattle.laws_trace.specs.NoSlotIsLost.{slots_taken}
use Rattle.laws_trace.specs.Managing.{own_of}
use Rattle.laws_trace.specs.ManagingTerminal.{OfTerminal}
use Rattle.laws_trace.specs.Reasons.{refusal_due}
use Rattle.laws_trace.proofs.Addressed.{at-some-place}
use Rattle.laws_trace.proofs.Facts.{number-up}
use Rattle.laws_trace.proofs.CheckEnds.{seen_check}
use Rattle.laws_trace.proofs.Known.{Knows, knows-now}
use Rattle.laws_trace.proofs.LineAtEnd.{line-at-end}
use Rattle.laws_trace.proofs.ManagingTables.{free-fewer, none-free, used-same}
use Rattle.laws_trace.proofs.Outgoing.{kept-now}
use Rattle.laws_trace.proofs.RequestsRefused.{opens_in, ends_in, opens-is, ends-is}
use Rattle.laws_trace.proofs.SeenAs.{seen-before}
use Rattle.laws_trace.proofs.SlotsTaken.{taken-is}
use Rattle.laws_trace.proofs.UnitsGoOut.{waiting-is}

last-is : (side : Side) → last_unit_tei side ≡ cond (manages side) 127 126
last-is side = grind arith

network-is : (side : Side) → is_network side ≡ manages side
network-is side = grind arith

mapped : (o : Option check.Check) → is_some o ≡ is_some (option_map seen_check o)
mapped o = grind arith

-- Where each test is another one, the first reason is the same.
abbrev if_so : Bool → Refusal → Option Refusal → Option Refusal
if_so b why others = cond b (Some why) others

if-same : (a b : Bool) (why : Refusal) (x y : Option Refusal) → a ≡ b → x ≡ y → if_so a why x ≡ if_so b why y
if-same a b why x y tests others = ap (λ b. if_so b why x) tests ∙ ap (if_so b why) others

-- The others may need that the first does not hold.
unless-same : (a b : Bool) (why : Refusal) (x y : Option Refusal) → a ≡ b → (b ≡ false → x ≡ y) → if_so a why x ≡ if_so b why y
unless-same a b why x y tests others = grind arith

is-so : (b : Bool) → not b ≡ false → b ≡ true
is-so b e = grind (arith, true≢false)

-- The network's side is no terminal.
network-alone : (side : Side) (seed : Option ℕ) → manages side ≡ true → is_at side seed ≡ false
network-alone side seed is = grind (arith, true≢false)

module _ (c : Config) (events : List Event) (number : ℕ) (ranged : IsInRange c) (all : AreAtLines (fresh c) events) (within : number < c.lines) where
  abbrev card : Card
  card = after_all (fresh c) events

  abbrev l : Line
  l = line_at number card

  abbrev w : Managed
  w = managed_after c number events

  knows : Knows c w l
  knows = knows-now c events number ranged all within

  on-line : (tei : ℕ) → has_tei tei l ≡ is_on tei w
  on-line tei = sym (knows.on.same tei)

  sound : IsSound c l
  sound = line-at-end c events number ranged all within

  -- of the network's side, and of a terminal
  owed-is : is_terminal c ≡ false → l.management.waiting ≡ w.owed
  owed-is net = sym (ap (λ (v : Managed). v.owed) (knows.network net))

  checks : is_terminal c ≡ false → is_some l.management.check ≡ is_some w.check
  checks net = mapped l.management.check ∙ sym (ap (λ (v : Managed). is_some v.check) (knows.network net))

  full-is : is_terminal c ≡ false → nat_le 4 (length l.management.waiting) ≡ nat_le 4 (length w.owed)
  full-is net = ap (λ ms. nat_le 4 (length ms)) (owed-is net)

  never-full : is_terminal c ≡ true → nat_le 4 (length l.management.waiting) ≡ false
  never-full is = let both = subst (λ b. IsOfSide b l.management l.own) is sound.own in ap (λ ms. nat_le 4 (length ms)) both.1.waiting

  full-there : nat_le 4 (length l.management.waiting) ≡ (not (is_terminal c) && nat_le 4 (length w.owed))
  full-there = grind (arith, nat_le, never-full, full-is)

  procedure-is : is_terminal c ≡ true → is_some l.own.procedure ≡ is_some (own_of c w).procedure
  procedure-is is = sym (ap (λ (t : OfTerminal). is_some t.procedure) (knows.terminal is))

  same : card.config ≡ c
  same = config-stays (fresh c) events

  units-are : length l.units ≡ length (units_of c events number)
  units-are = sym (ap length (waiting-is c events number ranged all within) ∙ length-map l.units (unit_frame c))

  slots-are : is_full card ≡ nat_le c.slots (slots_taken c events)
  slots-are = ap (λ (d : Config). nat_le d.slots (used card)) same ∙ ap (nat_le c.slots) (sym (taken-is c events ranged all))

  places-are : is_some (free_place l.management.places) ≡ nat_lt (length w.on) c.terminals
  places-are = go (free_place l.management.places) refl
    where
      go : (o : Option ℕ) → free_place l.management.places ≡ o → is_some o ≡ nat_lt (length w.on) c.terminals
      go None free = sym (le-ltb (length w.on) c.terminals (let whole = none-free l.management.places free in omega (arith, knows.on.size, whole, sound.places)))
      go (Some place) free = sym (lt-ltb (length w.on) c.terminals (let few = free-fewer l.management.places place free in omega (arith, knows.on.size, few, sound.places)))

  wrong-side : not (has_management c) ≡ not (manages c.side || is_terminal c)
  wrong-side = ap (λ b. not (b || is_terminal c)) (network-is c.side)

  not-network : not (is_network c.side) ≡ not (manages c.side)
  not-network = ap not (network-is c.side)

  -- so a check is the network's side's
  at-network : not (manages c.side) ≡ false → is_terminal c ≡ false
  at-network managed = network-alone c.side c.seed (is-so (manages c.side) managed)

  abbrev Same : Request → Type 0
  Same r = refusal c (is_full card) r l ≡ refusal_due c events number (request r)

  unit-same : (service : Service) (tei : ℕ) (contents : List ℕ) → Same (Unit service tei contents)
  unit-same service tei contents = grind (arith, if-same, nat_lt, last-is, on-line, nat_le, units-are, slots-are)

  assign-same : (tei : ℕ) → Same (Assign tei)
  assign-same tei = if-same _ _ BadTei _ _ refl (if-same _ _ TeiTaken _ _ (on-line tei) (if-same _ _ TableFull _ _ (ap not places-are) refl))

  remove-same : (tei : ℕ) → Same (Remove tei)
  remove-same tei = grind (arith, if-same, wrong-side, on-line, full-there)

  check-same : (tei : ℕ) → Same (Check tei)
  check-same tei = grind (arith, unless-same, not-network, if-same, on-line, checks, at-network, full-is)

  disown-same : (tei : ℕ) → Same (Disown tei)
  disown-same tei = grind (arith, unless-same, not-network, if-same, used-same, knows, full-is, at-network)

  ask-same : Same AskTei
  ask-same = grind (arith, unless-same, if-same, places-are, procedure-is, is-so)

  verify-same : (tei : ℕ) → Same (VerifyTei tei)
  verify-same tei = grind (arith, unless-same, if-same, on-line, procedure-is, is-so)

  -- What is asked of a link by its state, if its TEI is on the line.
  of-link : (tei : ℕ) (x y : Option Refusal) → (has_tei tei l ≡ true → x ≡ y)
      → if_so (nat_lt 126 tei) BadTei (if_so (not (has_tei tei l)) NoLink x) ≡ if_so (nat_lt 126 tei) BadTei (if_so (not (is_on tei w)) NoLink y)
  of-link tei x y others = if-same _ _ BadTei _ _ refl (unless-same _ _ NoLink _ _ (ap not (on-line tei)) (λ on. others (on-line tei ∙ is-so (is_on tei w) on)))

  module _ (service : Service) (tei : ℕ) where
    abbrev own : Link
    own = link_of service tei l

    abbrev seen : Observed
    seen = (view_of c service tei number events).link

    abbrev its : ℕ
    its = (view_of c service tei number events).link.state

    state-seen : has_tei tei l ≡ true → its ≡ state_number own.state
    state-seen on = let p = at-some-place l tei on in (seen-before c events number ranged all within service tei p.0 p.1).state_is

    owed-seen : has_tei tei l ≡ true → (state_number own.state == 5) ≡ true → seen.owed ≡ own.owed
    owed-seen on is = let p = at-some-place l tei on in (seen-before c events number ranged all within service tei p.0 p.1).owed_is is

    kept-seen : has_tei tei l ≡ true → queue_of own ≡ (outgoing_of c service tei number events).kept
    kept-seen on = let p = at-some-place l tei on in sym (kept-now c number ranged within service tei events all p.0 p.1)

    not-up : has_tei tei l ≡ true → not (is_multiple_frame own.state) ≡ not (is_up its)
    not-up on = ap not (sym (ap is_up (state-seen on) ∙ number-up own.state))

    establish-same : Same (Establish service tei)
    establish-same = of-link tei _ _ (λ on. if-same _ _ WrongState _ _ (ap not (sym (ap (opens_in c.reading) (state-seen on) ∙ opens-is c.reading own.state own.owed))) refl)

    release-same : Same (Release service tei)
    release-same =
        of-link tei _ _ (λ on. if-same _ _ WrongState _ _
        (ap not (sym (ap (λ n. ends_in c.reading n seen.owed) (state-seen on) ∙ ends-is c.reading own.state own.owed seen.owed (owed-seen on)))) refl)

    data-same : (contents : List ℕ) → Same (Data service tei contents)
    data-same contents =
        of-link tei _ _ (λ on.
        if-same _ _ WrongState _ _ (not-up on)
        (if-same _ _ TooLong _ _ refl
        (if-same _ _ QueueFull _ _ (ap (λ kept. nat_le c.queue (length kept)) (kept-seen on)) (if-same _ _ PoolFull _ _ slots-are refl))))

    busy-same : Same (SetBusy service tei)
    busy-same = of-link tei _ _ (λ on. if-same _ _ WrongState _ _ (not-up on) refl)

    ready-same : Same (ClearBusy service tei)
    ready-same = of-link tei _ _ (λ on. if-same _ _ WrongState _ _ (not-up on) refl)

    ended-same : Same (Deactivate service tei)
    ended-same = of-link tei None None (λ on. refl)

  pub refusal-same : (r : Request) → Same r
  refusal-same (Establish service tei) = establish-same service tei
  refusal-same (Release service tei) = release-same service tei
  refusal-same (Data service tei contents) = data-same service tei contents
  refusal-same (SetBusy service tei) = busy-same service tei
  refusal-same (ClearBusy service tei) = ready-same service tei
  refusal-same (Deactivate service tei) = ended-same service tei
  refusal-same (Unit service tei contents) = unit-same service tei contents
  refusal-same (Assign tei) = assign-same tei
  refusal-same (Remove tei) = remove-same tei
  refusal-same (Check tei) = check-same tei
  refusal-same (Disown tei) = disown-same tei
  refusal-same AskTei = ask-same
  refusal-same (VerifyTei tei) = verify-same tei
  refusal-same Down = refl
