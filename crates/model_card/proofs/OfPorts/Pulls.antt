-- Pulls of a line are calls for its next frame, and by them the bits that are left of it run out.
use Rattle.model_card.proofs.OfPorts.Vocabulary.{◌≡◌, ◌==◌, ◌&&◌, ℕ, ◌+◌, ◌*◌, ◌/◌, ◌<◌, ◌≤◌, ◌⊎◌, Bool, true, List, [], ◌∷◌, ◌++◌, length, Option, None, Some, option_map, option_to_list, refl, sym, ap, subst, cond, arith, cases_lt, eqb-true, ltb-true, mul-le-mul_right, length-append, length-drop, length-bits, length-check, All, All-nil, All-cons, All-head, All-tail, All-append, bits, stuffed}
use Rattle.model_card.proofs.OfPorts.Vocabulary.{Item, item_text, item_octets, Config, Event, IsSoundOctetCard, IsTextOf, IsAtLine, AreAtLines, OctetCard, Port, after, after_all, fresh_port, left_of, meant, meant_all, port_at, pull, said, with_item, with_octet}
use Rattle.model_line.specs.Event as line
use Rattle.model_card.specs.Event as frames
use Rattle.model_card.specs.ports.Port as port
use Rattle.model_card.specs.Takes.{AreTakesAt, takes_at, is_take, takes_of}
use Rattle.model_card.specs.ports.Pulls.{ArePullsAt, pulls_at, is_pull, pulls_of, longest_text, pulls_behind, HasFewLeft, OfEachReached, PullsAreTakes}
use Rattle.model_card.proofs.OfPorts.Codec.{asked_at, said_is}
use Rattle.model_card.proofs.OfPorts.PortGoesOn.{ready_where}
use Rattle.model_card.proofs.OfPorts.PortRuns.{IsKept}
use Rattle.model_card.proofs.OfPorts.Reaching.{reached_keeps}
use Rattle.model_card.proofs.OfPorts.Sound.{GivesShort, gives_short, item_short, octets_keep_sound, at_lines_after, port_sound}
use Rattle.model_card.proofs.OfPorts.Steps.{by_port, config_after}
use Rattle.model_card.proofs.OfPorts.TextGoesOn.{IsReady, put_on, one_item, left_with_octet, left_with_item}

-- ---- only calls for the next frame are meant

abbrev IsTake : ℕ → frames.Event → Type 0
IsTake number f = f.line ≡ number → f.what ≡ line.next

meaning_takes : (number n n201 : ℕ) (what : port.Event) (p : Port) → (n ≡ number → what ≡ pull) → All (IsTake number) (option_to_list (option_map (frames.at n) (port.meant n201 what p)))
meaning_takes number n n201 what p h = grind (arith, option_to_list, option_map, All-cons, All-nil)

only_takes : (m : OctetCard) (events : List Event) (number : ℕ) → ArePullsAt number events → AreTakesAt number (meant_all m events)
unfolding meant meant_all
only_takes m [] number h = All-nil (IsTake number)
only_takes m (e ∷ events) number h =
    let IsPull = λ (x : Event). x.line ≡ number → x.what ≡ pull in
    grind (arith, All-append, meaning_takes, All-head, All-tail, (only_takes (after e m) events number (All-tail IsPull e events h)))

-- ---- counts

takes-append : (number : ℕ) (a b : List frames.Event) → takes_at number (a ++ b) ≡ takes_at number a + takes_at number b
takes-append number [] b = omega arith
takes-append number (f ∷ a) b = omega (arith, takes-append number a b)

-- what is counted of one event that is meant
abbrev pub meant_count : Option line.Event → ℕ
meant_count None = 0
meant_count (Some f) = 1

one_at_most : (b : Bool) (o : Option line.Event) → cond b (meant_count o) 0 ≤ cond b 1 0
one_at_most b o = grind arith

few_takes : (m : OctetCard) (events : List Event) (number : ℕ) → takes_at number (meant_all m events) ≤ pulls_at number events
unfolding meant meant_all
few_takes m [] number = omega arith
few_takes m (e ∷ events) number = grind (arith, takes-append, one_at_most, (few_takes (after e m) events number))

-- ---- lengths

-- a 0 is stuffed after every fifth bit at most
stuffed_longest : (b : List Bool) → 5 * length (stuffed b) ≤ 6 * length b
stuffed_longest [] = omega arith
stuffed_longest (true ∷ true ∷ true ∷ true ∷ true ∷ b) = let more = stuffed_longest b in omega (arith, more)
stuffed_longest (x ∷ b) = let more = stuffed_longest b in omega (arith, more)

text_longest : (n201 : ℕ) (item : Item) → item_octets item ≤ n201 + 4 → length (item_text item) ≤ longest_text n201
text_longest n201 item few = grind (arith, stuffed_longest, length-append, length-bits, length-check)

-- ---- a pull

-- It takes eight bits, where it means nothing; else of those that are left, fewer than eight, and of an item's.
record IsPulled (n201 : ℕ) (before after : Port) (o : Option line.Event) : Type 0 where
  fewer : length (left_of after) + 8 ≤ length (left_of before) + meant_count o * longest_text n201
  few : (length (left_of after) ≤ length (left_of before)) ⊎ (length (left_of after) ≤ longest_text n201)

octet_taken : (p : Port) → IsReady p → length (left_of (with_octet p)) + 8 ≡ length (left_of p)
octet_taken p ready = omega (arith, ap length (left_with_octet p ready), length-drop 8 (left_of p), ready.enough)

pull_is : (n201 : ℕ) (p : Port) (ask : line.Event → line.Answer) → GivesShort n201 ask → IsTextOf p
    → let o = port.meant n201 pull p in IsPulled n201 p (with_octet (with_item (option_map ask o) p)) o
pull_is n201 p ask short h =
    grind (arith, octet_taken, ready_where, ltb-true, put_on, one_item, left_with_item, length-append, text_longest, item_short)

-- ---- any event

-- a call that is meant
abbrev take_count : Option line.Event → ℕ
take_count None = 0
take_count (Some f) = cond (is_take f) 1 0

call_counts : (due : Bool) → meant_count (cond due (Some line.next) None) ≡ take_count (cond due (Some line.next) None)
call_counts due = grind arith

-- A pull takes eight bits of those that are left and of the item that a call brings; other events take none, and bring none.
abbrev Spent : ℕ → Port → Port → ℕ → ℕ → Type 0
Spent n201 before after pulls takes = length (left_of after) + 8 * pulls ≤ length (left_of before) + takes * longest_text n201

port_spends : (n201 : ℕ) (e : port.Event) (p : Port) (ask : line.Event → line.Answer) → GivesShort n201 ask → IsTextOf p
    → let o = port.meant n201 e p in Spent n201 p (port.after e (option_map ask o) p) (cond (is_pull e) 1 0) (take_count o)
port_spends n201 e p ask short h = grind (arith, call_counts, pull_is)

-- at a card
own_spends : (m : OctetCard) (e : Event) → IsSoundOctetCard m → IsAtLine m e
    → Spent m.card.config.n201 (port_at e.line m) (port.after e.what (said e m) (port_at e.line m)) (cond (is_pull e.what) 1 0)
    (take_count (port.meant m.card.config.n201 e.what (port_at e.line m)))
unfolding meant
own_spends m e s within = grind (arith, said_is, port_spends, asked_at, gives_short, port_sound)

calls-append : (number : ℕ) (a b : List frames.Event) → takes_of number (a ++ b) ≡ takes_of number a + takes_of number b
calls-append number [] b = omega arith
calls-append number (f ∷ a) b = omega (arith, calls-append number a b)

calls_where : (number n : ℕ) (o : Option line.Event) → takes_of number (option_to_list (option_map (frames.at n) o)) ≡ cond (n == number) (take_count o) 0
calls_where number n o = grind arith

event_spends : (m : OctetCard) (e : Event) (number : ℕ) → IsSoundOctetCard m → IsAtLine m e → number < m.card.config.lines
    → Spent m.card.config.n201 (port_at number m) (port_at number (after e m)) (cond ((e.line == number) && is_pull e.what) 1 0) (takes_of number (option_to_list (meant e m)))
unfolding meant
event_spends m e number s within few =
    let n201 = m.card.config.n201 in
    let o = port.meant n201 e.what (port_at e.line m) in
    subst (λ takes. Spent n201 (port_at number m) (port_at number (after e m)) (cond ((e.line == number) && is_pull e.what) 1 0) takes) (sym (calls_where number e.line o))
    (by_port m e number (omega (arith, s.count, few)) (λ b old new. Spent n201 old new (cond (b && is_pull e.what) 1 0) (cond b (take_count o) 0)) (omega arith)
    (λ here. own_spends m e s within))

-- ---- a run

sum_spent : (a b c pulls more takes others longest : ℕ) → b + 8 * pulls ≤ a + takes * longest → c + 8 * more ≤ b + others * longest
    → c + 8 * (pulls + more) ≤ a + (takes + others) * longest
sum_spent a b c pulls more takes others longest first later = omega (arith, first, later)

run_spends : (m : OctetCard) (events : List Event) (number : ℕ) → IsSoundOctetCard m → AreAtLines m events → number < m.card.config.lines
    → Spent m.card.config.n201 (port_at number m) (port_at number (after_all m events)) (pulls_of number events) (takes_of number (meant_all m events))
unfolding after_all meant_all
run_spends m [] number s within few = omega arith
run_spends m (e ∷ events) number s within few =
    let m' = after e m in
    let one = option_to_list (meant e m) in
    let rest = meant_all m' events in
    let here = All-head (IsAtLine m) e events within in
    let same : m'.card.config ≡ m.card.config = config_after m e in
    let later =
    subst (λ (c : Config). Spent c.n201 (port_at number m') (port_at number (after_all m' events)) (pulls_of number events) (takes_of number rest)) same
    (run_spends m' events number (octets_keep_sound m e s here) (at_lines_after m e events (All-tail (IsAtLine m) e events within))
    (subst (λ (c : Config). number < c.lines) (sym same) few)) in
    subst (λ takes. Spent m.card.config.n201 (port_at number m) (port_at number (after_all m' events)) (pulls_of number (e ∷ events)) takes) (sym (calls-append number one rest))
    (sum_spent (length (left_of (port_at number m))) (length (left_of (port_at number m'))) (length (left_of (port_at number (after_all m' events))))
    (cond ((e.line == number) && is_pull e.what) 1 0) (pulls_of number events) (takes_of number one) (takes_of number rest) (longest_text m.card.config.n201)
    (event_spends m e number s here few) later)

-- more bits than so many calls bring are those of more calls
more_calls : (left bits n takes longest : ℕ) → left + n * longest < bits → bits ≤ left + takes * longest → n < takes
more_calls left bits n takes longest enough spent = grind (arith, mul-le-mul_right, cases_lt)

enough_meanwhile : (m : OctetCard) (events : List Event) (number n : ℕ) → IsSoundOctetCard m → AreAtLines m events → number < m.card.config.lines
    → pulls_behind m.card.config.n201 (port_at number m) n ≤ pulls_of number events → n < takes_of number (meant_all m events)
enough_meanwhile m events number n s within few enough =
    let longest = longest_text m.card.config.n201 in
    let left = length (left_of (port_at number m)) in
    let spent = run_spends m events number s within few in
    let pulled : (left + n * longest) / 8 + 1 ≤ pulls_of number events = enough in
    more_calls left (8 * pulls_of number events) n (takes_of number (meant_all m events)) longest (omega (arith, pulled)) (omega (arith, spent))

-- with pulls alone
only_pulls : (number : ℕ) (events : List Event) → ArePullsAt number events → pulls_of number events ≡ pulls_at number events
only_pulls number [] h = refl
only_pulls number (e ∷ events) h =
    let IsPull = λ (x : Event). x.line ≡ number → x.what ≡ pull in
    let one = go (e.line == number) refl (All-head IsPull e events h) in
    let rest = only_pulls number events (All-tail IsPull e events h) in
    omega (arith, one, rest)
  where
    go : (b : Bool) → (e.line == number) ≡ b → (e.line ≡ number → e.what ≡ pull) → cond {A = ℕ} (b && is_pull e.what) 1 0 ≡ cond b 1 0
    go b other is = grind (arith, eqb-true)

calls_few : (number : ℕ) (fs : List frames.Event) → takes_of number fs ≤ takes_at number fs
calls_few number [] = omega arith
calls_few number (f ∷ fs) = grind (arith, (calls_few number fs))

enough_pulls : (m : OctetCard) (events : List Event) (number n : ℕ) → IsSoundOctetCard m → AreAtLines m events → number < m.card.config.lines → ArePullsAt number events
    → pulls_behind m.card.config.n201 (port_at number m) n ≤ pulls_at number events → n < takes_at number (meant_all m events)
enough_pulls m events number n s within few h enough =
    let less = enough_meanwhile m events number n s within few (subst (λ k. pulls_behind m.card.config.n201 (port_at number m) n ≤ k) (sym (only_pulls number events h)) enough) in
    let fewer = calls_few number (meant_all m events) in
    omega (arith, less, fewer)

-- ---- what is left

abbrev LeavesFew : ℕ → Port → Type 0
LeavesFew n201 p = length (left_of p) ≤ longest_text n201

few_by : (n201 : ℕ) (before after : Port) (o : Option line.Event) → IsPulled n201 before after o → LeavesFew n201 before → LeavesFew n201 after
few_by n201 before after o h few = grind arith

few_after : (n201 : ℕ) (e : port.Event) (p : Port) (ask : line.Event → line.Answer) → GivesShort n201 ask → IsTextOf p → LeavesFew n201 p
    → LeavesFew n201 (port.after e (option_map ask (port.meant n201 e p)) p)
few_after n201 pull p ask short h few = few_by n201 p _ (port.meant n201 pull p) (pull_is n201 p ask short h) few
few_after n201 other p ask short h few = few

few_stay : (c : Config) → IsKept c (LeavesFew c.n201)
unfolding meant
few_stay c m e is s within few = grind (arith, said_is, few_after, asked_at, gives_short, port_sound)

few_at_first : (n201 : ℕ) → LeavesFew n201 fresh_port
few_at_first n201 = let eight : length (left_of fresh_port) ≡ 8 = refl in omega (arith, eight)

few_left : OfEachReached HasFewLeft
few_left m number r within = reached_keeps m r number within (LeavesFew m.card.config.n201) (few_stay m.card.config) (few_at_first m.card.config.n201)

pub pulls_are_takes : PullsAreTakes
pulls_are_takes = grind (arith, only_takes, few_takes, enough_pulls, enough_meanwhile, few_left)
