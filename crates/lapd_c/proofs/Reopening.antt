-- Which links wait for room, and what a report shows beside that.
use Rattle.lapd_c.proofs.Vocabulary.{[], ◌≡◌, ℕ, ◌+◌, ◌≤◌, ◌<◌, ◌&&◌, Bool, true, false, List, length, None, inl, inr, refl, sym, ap, ◌∙◌, subst, arith, cases_lt, false≢true, OctetCard, AnyCard, PlainReport, Shows, ShowsAnswer, ShowsReply, Card, Machine, AnyStands}
use Rattle.std.proofs.Common.{Option, not}
use Rattle.std.proofs.Common.{Some}
use Rattle.std.proofs.lemmas.Bool.{and_right, eqb-false, eqb-true}
use Rattle.std.proofs.lemmas.List.{set_past, set-get_or}
use Rattle.model_line.specs.Event as line_event
use Rattle.model_card.specs.ports.Port as port
use Rattle.lapd_c.specs.declared.link_marks.LinkMarks.{LinkMarks}
use Rattle.lapd_c.specs.Exchange.{Exchanged, answer_after}
use Rattle.lapd_c.specs.LinkMarks.{is_marked, marks_of, AreMarked, MarksBecome, SetsLink}
use Rattle.lapd_c.specs.declared.plain.timers.PlainTimer.{PlainTimer}
use Rattle.lapd_c.specs.Reopened.{AreShutBelow, ShowsReopened, TellsReopened, is_open, is_there, is_told, with_reopened}
use Rattle.lapd_c.specs.Reports.{ShowsPull}
use Rattle.std.proofs.Common.{min}
use Rattle.std.proofs.Math.Nat.{min-eq_left}
use Rattle.lapd_c.proofs.Vocabulary.{Octets, Frames, with_ports, alone, card_in, ranges_of}
use Rattle.lapd_frame.specs.declared.timers.Order.{Order}
use Rattle.lapd_c.specs.Kept.{count_by, orders_by, reply_seen_by, seen_by}

-- ---- which wait

-- a card has no links behind its lines
pub same_behind : (test : ℕ → Bool) (all : List LinkMarks) (line : ℕ) → length all ≤ line → MarksBecome line test all all
same_behind test all line behind = record {
  links = record { words = [] };
  all = sym (set_past all line (record { words = [] }) behind);
  marks = λ within. absurd (omega (arith, within, behind));
}

-- those so far wait on if they are there
module _ (t : ℕ → Bool) (before now after : LinkMarks) (from place : ℕ) where
  pub waits_so_far : ((p : ℕ) → p < from → is_marked now p ≡ is_marked before p && t p) → ((p : ℕ) → from ≤ p → is_marked now p ≡ is_marked before p)
      → from ≤ place → is_marked now place ≡ true → ((p : ℕ) → from ≤ p → p < place → is_marked now p ≡ false) → SetsLink place (t place) now after
      → (p : ℕ) → p < place + 1 → is_marked after p ≡ is_marked before p && t p
  waits_so_far below above behind marked others sets p lt = grind (arith, cases_lt)

-- none of those so far waits and is open; nor of those up to one that is marked, nor behind one that is shut
pub shut_up_to : (line from to : ℕ) (m : Card) (waits : LinkMarks) → AreShutBelow from line m waits → ((p : ℕ) → from ≤ p → p < to → is_marked waits p ≡ false) → AreShutBelow to line m waits
shut_up_to line from to m waits below others p lt marked = elim (cases_lt p from) [
  | inl early ↦ below p early marked
  | inr late ↦ absurd (false≢true (sym (others p late lt) ∙ marked))
]

pub shut_behind : (line place : ℕ) (m : Card) (waits : LinkMarks) → AreShutBelow place line m waits → is_open line m place ≡ false → AreShutBelow (place + 1) line m waits
shut_behind line place m waits below shut p lt marked = grind (arith, cases_lt)

-- those that are there wait on, but for one that is told
and_true : (b : Bool) → b && true ≡ b
and_true true = refl
and_true false = refl

pub all_wait_on : (waits : ℕ → Bool) (told : Option ℕ) (links : LinkMarks) → told ≡ None → AreMarked links waits → AreMarked links (λ place. waits place && not (is_told told place))
all_wait_on waits told links none are = subst (λ told. AreMarked links (λ place. waits place && not (is_told told place))) (sym none) (λ place lt. are place lt ∙ sym (and_true (waits place)))

pub others_wait_on : (waits : ℕ → Bool) (told : Option ℕ) (one : ℕ) (links after : LinkMarks) → told ≡ Some one → AreMarked links waits → SetsLink one false links after
    → AreMarked after (λ place. waits place && not (is_told told place))
others_wait_on waits told one links after some are sets = grind (arith, eqb-true, and_right, eqb-false, and_true)

-- where none is marked, none waits, and nothing is told
pub none_reopened : (line : ℕ) (m : Card) (all : List LinkMarks) (r : PlainReport) → AreMarked (marks_of all line) (λ place. false) → r.reopened ≡ 0 → r.line ≡ line → TellsReopened line m all all r
none_reopened line m all r none shown of_line = record {
  told = None;
  first = λ place lt marked. absurd (false≢true (sym (none place lt) ∙ marked));
  shown = shown;
  waits = record {
    links = marks_of all line;
    all = sym (set-get_or all line (record { words = [] }));
    marks = λ within place lt. none place lt ∙ ap (λ b. (b && is_there line m place) && not (is_told None place)) (sym (none place lt));
  };
  of_line = of_line;
}

-- no card has so many lines that its number has no room in a report
few_lines : (card : AnyCard) (m : Machine) → AnyStands card m → (card_in m).config.lines ≤ 64
few_lines (Octets c) (with_ports m) s = (ranges_of m.card.config s.frames.reached.config).lines.most
few_lines (Octets c) (alone m) s = absurd s
few_lines (Frames c) (with_ports m) s = absurd s
few_lines (Frames c) (alone m) s = (ranges_of m.config s.reached.config).lines.most

pub line_told : (card : AnyCard) (m : Machine) (line : ℕ) (r : PlainReport) → AnyStands card m → line < (card_in m).config.lines → r.line ≡ min line 65535 → r.line ≡ line
line_told card m line r s within is =
    let few : (card_in m).config.lines ≤ 64 = few_lines card m s in
    let small : line ≤ 65535 = omega (arith, few, within) in
    is ∙ min-eq_left small

-- ---- what a report showed, it shows

pub still_told : (new old : PlainReport) (t : line_event.LineTold) → new ≡ with_reopened new old → Shows old t → Shows new t
still_told new old t is s = grind arith

pub still_pulled : (new old : PlainReport) (begun more : Bool) (orders : List _) → new ≡ with_reopened new old → ShowsPull old begun more orders → ShowsPull new begun more orders
still_pulled new old begun more orders is s = grind arith

pub still_answered : (new old : PlainReport) (a : line_event.Answer) → new ≡ with_reopened new old → ShowsAnswer old a → ShowsAnswer new a
still_answered new old a is s = grind (arith, still_told)

pub still_replied : (new old : PlainReport) (a : port.Answer) → new ≡ with_reopened new old → ShowsReply old a → ShowsReply new a
still_replied new old a is s = grind (arith, still_told, still_pulled)

-- also once it shows which timer fell due
pub answered_still : (r : PlainReport) (x : PlainTimer) (a : line_event.Answer) → ShowsAnswer r a → ShowsAnswer (record r { expired = x }) a
answered_still r x (line_event.told t) s = grind arith
answered_still r x (line_event.refused why) s = s
answered_still r x (line_event.gave next) s = s

pub reopened_still : (line : ℕ) (m : Card) (old new : List LinkMarks) (r : PlainReport) (x : PlainTimer) → TellsReopened line m old new r → TellsReopened line m old new (record r { expired = x })
reopened_still line m old new r x h = record { told = h.told; first = h.first; shown = go h.told h.shown; waits = h.waits; of_line = h.of_line }
  where
    go : (told : Option ℕ) → ShowsReopened r told → ShowsReopened (record r { expired = x }) told
    go None s = s
    go (Some place) s = s

-- and where the card keeps its own timers, all but the orders
abbrev settled_by : Bool → PlainReport → PlainReport → PlainReport
settled_by own from r = with_reopened from (record r { order_count = count_by own r.order_count })

pub settled_answered : (own : Bool) (new old : PlainReport) (a : line_event.Answer) → new ≡ settled_by own new old → ShowsAnswer old a → ShowsAnswer new (seen_by own a)
settled_answered false new old a is s = still_answered new old a is s
settled_answered true new old (line_event.told t) is s = grind arith
settled_answered true new old (line_event.refused why) is s = s
settled_answered true new old (line_event.gave next) is s = s

-- orders alone, of which a card that keeps its own timers shows none
pub orders_seen_by : (timed : Bool) (r : PlainReport) (orders : List Order) (a : line_event.Answer) → line_event.told (record line_event.nothing { orders = orders }) ≡ a
    → Shows r (record line_event.nothing { orders = orders_by timed orders }) → ShowsAnswer r (seen_by timed a)
orders_seen_by false r orders a is s = subst (ShowsAnswer r) is s
orders_seen_by true r orders a is s = subst (λ a. ShowsAnswer r (seen_by true a)) is s

pub orders_shown : (r old : PlainReport) (own timed : Bool) (orders : List Order) → r ≡ with_reopened r old → timed ≡ own → Shows old (record line_event.nothing { orders = orders_by timed orders })
    → Shows r (record line_event.nothing { orders = orders_by own orders })
orders_shown r old own timed orders is same s =
    subst (λ b. Shows r (record line_event.nothing { orders = orders_by b orders })) same (still_answered r old (line_event.told (record line_event.nothing { orders = orders_by timed orders })) is s)

pub given_shown_by : (r old : PlainReport) (more own timed : Bool) (orders : List Order) → r ≡ with_reopened r old → timed ≡ own → ShowsPull old true more (orders_by timed orders) → ShowsPull r true more (orders_by own orders)
given_shown_by r old more own timed orders is same s = subst (λ b. ShowsPull r true more (orders_by b orders)) same (still_pulled r old true more (orders_by timed orders) is s)

settled_pulled : (own : Bool) (new old : PlainReport) (begun more : Bool) (orders : List Order) → new ≡ settled_by own new old → ShowsPull old begun more orders → ShowsPull new begun more (orders_by own orders)
settled_pulled false new old begun more orders is s = still_pulled new old begun more orders is s
settled_pulled true new old begun more orders is s = grind arith

pub settled_replied : (own : Bool) (new old : PlainReport) (a : port.Answer) → new ≡ settled_by own new old → ShowsReply old a → ShowsReply new (reply_seen_by own a)
settled_replied false new old a is s = still_replied new old a is s
settled_replied true new old (port.told t) is s = settled_answered true new old (line_event.told t) is s
settled_replied true new old (port.refused why) is s = s
settled_replied true new old (port.pulled value begun orders) is s = settled_pulled true new old begun false orders is s

-- nothing has no orders
settled_nothing : (own : Bool) (new old : PlainReport) → new ≡ settled_by own new old → ShowsReply old (port.told line_event.nothing) → ShowsReply new (port.told line_event.nothing)
settled_nothing false new old is s = settled_replied false new old (port.told line_event.nothing) is s
settled_nothing true new old is s = settled_replied true new old (port.told line_event.nothing) is s

-- so also an exchange
pub settled_exchanged : (own : Bool) (line from : ℕ) (taken : List ℕ) (m : OctetCard) (card : AnyCard) (given given' : List ℕ) (to : ℕ) (new old : PlainReport)
    → new ≡ settled_by own new old → Exchanged false line taken from m card given given' to old → Exchanged own line taken from m card given given' to new
settled_exchanged own line from taken m card given given' to new old is x = record {
  n = x.n;
  within = x.within;
  stands = x.stands;
  octets = x.octets;
  ended = elim x.ended [
    | inl t ↦ inl (record { end = t.end; made = t.made; quiet = t.quiet; report = settled_nothing own new old is t.report })
    | inr t ↦ inr (record {
      before = t.before;
      last = t.last;
      made = t.made;
      quiet = t.quiet;
      tells = t.tells;
      report = settled_replied own new old (answer_after line taken from t.before m) is t.report;
    })
  ];
}

-- ---- the card that C holds

-- the card stands after that as it did before, and its lines count as they did
pub still_stands : {old new : AnyCard} (m : Machine) → new ≡ old → AnyStands old m → AnyStands new m
still_stands m is s = subst (λ card. AnyStands card m) (sym is) s
