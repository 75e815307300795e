-- Two cards whose lines are the same go on the same.
use Rattle.std.proofs.Common.{arith, ◌≡◌, ℕ, zero, suc, ◌+◌, ◌<◌, ◌≤◌, ◌&&◌, Bool, true, false, cond, not, List, [], ◌∷◌, ◌++◌, length, get_or, set, Option, Some, None, is_some, refl, sym, ap, ◌∙◌, subst}
use Rattle.std.specs.List.{AllZip, range_with_len}
use Rattle.std.specs.Prelude.{All, fold, nat_le, nat_lt, sum_by}
use Rattle.std.proofs.lemmas.Bool.{ltb-true, ltb-false}
use Rattle.std.proofs.lemmas.List.{length-set, get_or_past}
use Rattle.std.proofs.lemmas.List.Elements.{All-head, All-tail}
use Rattle.std.proofs.lemmas.List.Sums.{sum_by-cons}
use Rattle.lapd_frame.specs.declared.refusals.Refusal.{Refusal}
use Rattle.lapd_frame.specs.declared.refusals.Refusal.TheVariants.{PoolFull}
use Rattle.model_link.specs.Link.{Link, fresh}
use Rattle.model_line.specs.declared.config.Config.{Config}
use Rattle.model_line.specs.Event as line_event
use Rattle.model_line.specs.Event.{Answer, refused}
use Rattle.model_line.specs.Line.{Line, fresh_line, link_count, link_at, place_at, tei_at}
use Rattle.model_line.specs.Machine as machine
use Rattle.model_line.specs.Requested.{carries_contents}
use Rattle.model_line.specs.Sound as line_sound
use Rattle.model_line.specs.Sound.{IsSoundAt}
use Rattle.model_line.specs.Stored.{slots_by_link, slots_of}
use Rattle.model_card.specs.Card.{Card, line_at, is_full}
use Rattle.model_card.specs.Event.{Event}
use Rattle.model_card.specs.Machine.{wants_room, lines_after, answer}
use Rattle.model_card.specs.Run.{Run, one_more, run}
use Rattle.model_image.specs.Laws.{CardGoesOn, CardsGoOn}
use Rattle.model_link.specs.Same.{IsSameLink}
use Rattle.model_line.specs.Same.{IsSameLine}
use Rattle.model_image.proofs.GoOnEvents.{IsAlike}
use Rattle.model_image.proofs.GoOnLines.{AreAlike, fresh-alike, with_links, SameLines, SameSteps, refusal-same, event-same}

-- One line: what it uses of the pool, and whether an event takes a slot.
sum-same : (f g : ℕ → ℕ) (ns : List ℕ) → ((n : ℕ) → f n ≡ g n) → sum_by f ns ≡ sum_by g ns
sum-same f g [] each = refl
sum-same f g (n ∷ ns) each = rw (sum_by-cons f n ns, sum_by-cons g n ns) (omega (arith, each n, sum-same f g ns each))

slots-same : (c : Config) (l m : Line) → SameLines l m → slots_of c l ≡ slots_of c m
slots-same c l m same =
    let links = sum-same (slots_by_link l) (slots_by_link (with_links m.links l)) (range_with_len 0 (link_count c)) (λ n. ap (λ (q : List (List ℕ)). length q) (same.links.each n).same.queue) in
    ap (λ (n : ℕ). length l.units + n) links ∙ ap (λ (x : Line). slots_of c x) (sym same.rest)

takes-here : (c : Config) (e : line_event.Event) (l : Line) (ys : List Link) → AreAlike l.links ys → machine.takes_slot c e l ≡ machine.takes_slot c e (with_links ys l)
unfolding machine.takes_slot
takes-here c (line_event.hears h) l ys alike = refl
takes-here c (line_event.expiry timer) l ys alike = refl
takes-here c (line_event.request r) l ys alike = ap (λ (o : Option Refusal). carries_contents r && not (is_some o)) (refusal-same c false r l ys alike)
takes-here c line_event.next l ys alike = refl

takes-same : (c : Config) (e : line_event.Event) (l m : Line) → SameLines l m → machine.takes_slot c e l ≡ machine.takes_slot c e m
takes-same c e l m same = takes-here c e l m.links same.links ∙ ap (λ (x : Line). machine.takes_slot c e x) (sym same.rest)

line-same : (c : Config) (e : line_event.Event) (l m : Line) → SameLines l m → SameSteps (machine.answer c e l) (machine.answer c e m) (machine.after c e l) (machine.after c e m)
line-same c e l m same =
    subst (λ (x : Line). SameSteps (machine.answer c e l) (machine.answer c e x) (machine.after c e l) (machine.after c e x)) (sym same.rest) (event-same c e l m.links same.links)

-- All lines of a card.
abbrev AllSame : List Line → List Line → Type 0
AllSame xs ys = AllZip SameLines xs ys

used-same : (c : Config) (xs ys : List Line) → AllSame xs ys → sum_by (slots_of c) xs ≡ sum_by (slots_of c) ys
used-same c [] [] same = refl
used-same c [] (y ∷ ys) same = absurd same
used-same c (x ∷ xs) [] same = absurd same
used-same c (x ∷ xs) (y ∷ ys) same =
    rw (sum_by-cons (slots_of c) x xs, sum_by-cons (slots_of c) y ys) (omega (arith, slots-same c x y same.0, used-same c xs ys same.1))

at-same : (xs ys : List Line) (n : ℕ) (d e : Line) → AllSame xs ys → n < length xs → SameLines (get_or xs n d) (get_or ys n e)
at-same [] ys n d e same h = absurd (omega (arith, h))
at-same (x ∷ xs) [] n d e same h = absurd same
at-same (x ∷ xs) (y ∷ ys) zero d e same h = same.0
at-same (x ∷ xs) (y ∷ ys) (suc n) d e same h = at-same xs ys n d e same.1 (omega (arith, h))

set-same : (xs ys : List Line) (n : ℕ) (l m : Line) → AllSame xs ys → SameLines l m → AllSame (set xs n l) (set ys n m)
set-same [] [] n l m same new = tt
set-same [] (y ∷ ys) n l m same new = absurd same
set-same (x ∷ xs) [] n l m same new = absurd same
set-same (x ∷ xs) (y ∷ ys) zero l m same new = (new, same.1)
set-same (x ∷ xs) (y ∷ ys) (suc n) l m same new = (same.0, set-same xs ys n l m same.1 new)

abbrev card_of : Config → List Line → Card
card_of c lines = record { config = c; lines = lines }

record SameAnswers (a b : Answer) (xs ys : List Line) : Type 0 where
  answers : a ≡ b
  lines : AllSame xs ys

choice : (b b' : Bool) (a a' : Answer) (xs ys us vs : List Line) → b ≡ b' → a ≡ a' → AllSame xs ys → AllSame us vs
    → SameAnswers (cond b (refused PoolFull) a) (cond b' (refused PoolFull) a') (cond b xs us) (cond b' ys vs)
choice true true a a' xs ys us vs e f same other = record { answers = refl; lines = same }
choice true false a a' xs ys us vs e f same other = absurd (cc)
choice false true a a' xs ys us vs e f same other = absurd (cc)
choice false false a a' xs ys us vs e f same other = record { answers = f; lines = other }

step-same : (c : Config) (e : Event) (xs ys : List Line) → AllSame xs ys → e.line < length xs
    → SameAnswers (answer e (card_of c xs)) (answer e (card_of c ys)) (lines_after e (card_of c xs)) (lines_after e (card_of c ys))
step-same c e xs ys same h =
    let l : Line = line_at e.line (card_of c xs) in
    let m : Line = line_at e.line (card_of c ys) in
    let here : SameLines l m = at-same xs ys e.line (fresh_line c) (fresh_line c) same h in
    let steps = line-same c e.what l m here in
    let full : is_full (card_of c xs) ≡ is_full (card_of c ys) = ap (λ (n : ℕ). nat_le c.slots n) (used-same c xs ys same) in
    let takes = takes-same c e.what l m here in
    let wants : wants_room e (card_of c xs) ≡ wants_room e (card_of c ys) = λ i. takes i && full i in
    choice (wants_room e (card_of c xs)) (wants_room e (card_of c ys)) (machine.answer c e.what l) (machine.answer c e.what m) xs ys _ _ wants steps.answers same
    (set-same xs ys e.line _ _ same steps.lines)

-- Whole runs.
as-many : (b : Bool) (n : ℕ) (l : Line) (xs : List Line) → length (cond b xs (set xs n l)) ≡ length xs
as-many true n l xs = refl
as-many false n l xs = length-set xs n l

kept-many : (c : Config) (e : Event) (xs : List Line) → length (lines_after e (card_of c xs)) ≡ length xs
kept-many c e xs = as-many (wants_room e (card_of c xs)) e.line (machine.after c e.what (line_at e.line (card_of c xs))) xs

record SameRuns (c : Config) (r q : Run) : Type 0 where
  replies : r.replies ≡ q.replies
  config : r.card.config ≡ c
  config' : q.card.config ≡ c
  lines : AllSame r.card.lines q.card.lines

runs-same : (c : Config) (events : List Event) (xs ys : List Line) (rs : List (ℕ × Answer)) (qs : List (ℕ × Answer)) → rs ≡ qs → AllSame xs ys → length xs ≡ c.lines
    → All (λ (e : Event). e.line < c.lines) events
    → SameRuns c (fold one_more (record { card = card_of c xs; replies = rs }) events) (fold one_more (record { card = card_of c ys; replies = qs }) events)
runs-same c [] xs ys rs qs said same count at = record { replies = said; config = refl; config' = refl; lines = same }
runs-same c (e ∷ events) xs ys rs qs said same count at =
    let here : e.line < length xs = subst (λ (n : ℕ). e.line < n) (sym count) (All-head (λ (e : Event). e.line < c.lines) e events at) in
    let one = step-same c e xs ys same here in
    runs-same c events (lines_after e (card_of c xs)) (lines_after e (card_of c ys)) _ _ (λ i. said i ++ (e.line, one.answers i) ∷ []) one.lines (kept-many c e xs ∙ count)
    (All-tail (λ (e : Event). e.line < c.lines) e events at)

-- From lines that are the same, and back.
ordered : (c : Config) (n : ℕ) (o p : Option ℕ) (l m : Link) → IsSoundAt c n l o → IsSoundAt c n m p → IsSameLink l m → IsAlike l m
ordered c n (Some t) (Some u) l m sound also same = record { same = same; sent = sound.ordered; there = sound.accepted; sent' = also.ordered; there' = also.accepted }
ordered c n None p l m sound also same = ordered-none p also
  where
    ordered-none : (p : Option ℕ) → IsSoundAt c n m p → IsAlike l m
    ordered-none None also = subst (λ (x : Link). IsAlike l x) (sym also) (subst (λ (x : Link). IsAlike x fresh) (sym sound) fresh-alike)
    ordered-none (Some u) also = record { same = same; sent = rw sound (omega arith); there = rw sound (omega arith); sent' = also.ordered; there' = also.accepted }
ordered c n (Some t) None l m sound also same =
    record { same = same; sent = sound.ordered; there = sound.accepted; sent' = rw also (omega arith); there' = rw also (omega arith) }

pub to-alike : (c : Config) (l m : Line) → line_sound.IsSound c l → line_sound.IsSound c m → IsSameLine c l m → SameLines l m
to-alike c l m sound also same = record {
  rest = λ i. record { management = sym same.management i; own = sym same.own i; links = m.links; units = sym same.units i; turn = sym same.turn i };
  links = record { count = sound.count ∙ sym also.count; each = each };
}
  where
    each : (n : ℕ) → IsAlike (get_or l.links n fresh) (get_or m.links n fresh)
    each n = elim (nat_lt n (link_count c)) as (λ b. nat_lt n (link_count c) ≡ b → IsAlike (get_or l.links n fresh) (get_or m.links n fresh)) [
      | true ↦ λ e. let h : n < link_count c = ltb-true n (link_count c) e in
          ordered c n (tei_at (place_at n) l) (tei_at (place_at n) m) (link_at n l) (link_at n m) (sound.links n h) (also.links n h) (same.links n h)
      | false ↦ λ e. let h : link_count c ≤ n = ltb-false n (link_count c) e in
          rw (get_or_past l.links n fresh (omega (arith, sound.count, h)), get_or_past m.links n fresh (omega (arith, also.count, h))) fresh-alike
    ] refl

from-alike : (c : Config) (l m : Line) → SameLines l m → IsSameLine c l m
from-alike c l m same = record {
  management = sym (ap (λ (x : Line). x.management) same.rest);
  own = sym (ap (λ (x : Line). x.own) same.rest);
  links = λ n h. (same.links.each n).same;
  units = sym (ap (λ (x : Line). x.units) same.rest);
  turn = sym (ap (λ (x : Line). x.turn) same.rest);
}

all-alike : (c : Config) (xs ys : List Line) → All (line_sound.IsSound c) xs → All (line_sound.IsSound c) ys → AllZip (IsSameLine c) xs ys → AllSame xs ys
all-alike c [] [] sound also same = tt
all-alike c [] (y ∷ ys) sound also same = absurd same
all-alike c (x ∷ xs) [] sound also same = absurd same
all-alike c (x ∷ xs) (y ∷ ys) sound also same = (
  to-alike c x y (All-head (line_sound.IsSound c) x xs sound) (All-head (line_sound.IsSound c) y ys also) same.0,
  all-alike c xs ys (All-tail (line_sound.IsSound c) x xs sound) (All-tail (line_sound.IsSound c) y ys also) same.1,
)

all-same : (c : Config) (xs ys : List Line) → AllSame xs ys → AllZip (IsSameLine c) xs ys
all-same c [] [] same = tt
all-same c [] (y ∷ ys) same = absurd same
all-same c (x ∷ xs) [] same = absurd same
all-same c (x ∷ xs) (y ∷ ys) same = (from-alike c x y same.0, all-same c xs ys same.1)

whole : (c d : Config) (xs ys : List Line) (events : List Event) → c ≡ d → AllSame xs ys → length xs ≡ c.lines → All (λ (e : Event). e.line < c.lines) events
    → CardGoesOn (card_of c xs) (card_of d ys) events
whole c d xs ys events e same count at = subst (λ (d : Config). CardGoesOn (card_of c xs) (card_of d ys) events) e (
    let runs = runs-same c events xs ys [] [] refl same count at in
    record {
      replies = runs.replies;
      then_same = record {
        config = runs.config ∙ sym runs.config';
        lines = subst (λ (x : Config). AllZip (IsSameLine x) (run (card_of c xs) events).card.lines (run (card_of c ys) events).card.lines) (sym runs.config) (all-same c _ _ runs.lines);
      };
    })

pub cards_go_on : CardsGoOn
cards_go_on card other events sound also same at =
    whole card.config other.config card.lines other.lines events same.config
    (all-alike card.config card.lines other.lines sound.lines (subst (λ (x : Config). All (line_sound.IsSound x) other.lines) (sym same.config) also.lines) same.lines)
    sound.count at
