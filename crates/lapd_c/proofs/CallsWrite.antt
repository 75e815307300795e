-- What calls write, and what is there after a start.
use Rattle.std.specs.Option.{unwrap_or}
use Rattle.std.proofs.lemmas.Bool.{ne_eqb}
use Rattle.std.specs.Prelude.{◌≢◌, ◌⊎◌, ◌==◌, ◌&&◌, Bool, true, false, replicate, get_or, cond, is_some, option_map, IfSome, zero, suc}
use Rattle.std.proofs.lemmas.Option.{none-some, same_Some}
use Rattle.lapd_clock.specs.Timer.{first_out_of_range}
use Rattle.lapd_clock.specs.Timers.{Timers, with_lengths}
use Rattle.lapd_c.specs.Clocks.{clock_of}
use Rattle.lapd_c.specs.Cards.{without_marks}
use Rattle.std.proofs.Common.{⊎_elim}
use Rattle.lapd_c.proofs.Vocabulary.{◌≡◌, ◌≤◌, ◌<◌, ◌++◌, ℕ, Option, None, Some, List, length, drop, inl, inr, refl, sym, ap, subst, ◌∙◌, false≢true, arith, Machine, card_in}
use Rattle.std.proofs.lemmas.List.{length-replicate, take-append-drop}
use Rattle.lapd_count.specs.Counters.{count, none_counted, place, value_in}
use Rattle.lapd_count.specs.declared.counter.Counter.{Counter}
use Rattle.lapd_count.specs.declared.counters.Counters.{Counters}
use Rattle.lapd_frame.specs.declared.services.Service.{Service}
use Rattle.model_line.specs.Event.{NextFrame, given_in}
use Rattle.model_timed.specs.Clock.{at_moment, due}
use Rattle.lapd_card.specs.Kinds.{with_ports, alone, AnyStands, counters_of, line_count}
use Rattle.lapd_card.specs.declared.kinds.AnyCard.{AnyCard}
use Rattle.lapd_card.specs.declared.kinds.AnyCard.TheVariants.{Octets, Frames}
use Rattle.model_card.specs.declared.kinds.CardKind.{CardKind}
use Rattle.model_card.specs.Card.{Card}
use Rattle.model_line.specs.declared.config.Config.{Config}
use Rattle.lapd_c.specs.CallsWrite.{CallsWrite, HasNothing, NamesGivenUp}
use Rattle.lapd_c.specs.Answers.{octet_of}
use Rattle.lapd_c.specs.Slots.{HeldCard}
use Rattle.lapd_c.specs.Cards.{card_of, marks_held, served_card, StandsIn}
use Rattle.lapd_c.specs.Calls.{HasBegun, IsTimedStart, fresh}
use Rattle.lapd_c.specs.Config.{config_fault, config_in}
use Rattle.lapd_c.specs.Counted.{counters_held}
use Rattle.lapd_c.specs.Counters.{plain_counters}
use Rattle.lapd_c.specs.Frames.{IsGiven, next_at}
use Rattle.lapd_c.specs.Waits.{Waits}
use Rattle.lapd_c.specs.FallsDue.{FellDue}
use Rattle.lapd_c.specs.Starts.{IsStart}
use Rattle.lapd_c.specs.Reports.{first_tei, given_up_tei, notes_in}
use Rattle.lapd_c.specs.Timers.{lengths_fault}
use Rattle.lapd_c.specs.declared.plain.reports.PlainReport.{PlainReport}
use Rattle.lapd_c.specs.declared.card.CardHandle.{CardHandle}
use Rattle.lapd_c.specs.declared.plain.config.PlainConfig.{PlainConfig}
use Rattle.lapd_c.specs.declared.plain.timers.PlainLengths.{PlainLengths}
use Rattle.lapd_c.proofs.Moments.{first_told, none_runs}
use Rattle.lapd_c.proofs.Starting.{fresh-card}

-- what holds of what is there
there : {A : Type 0} (holds : A → Type 0) (o : Option A) (x : A) → IfSome o holds → o ≡ Some x → holds x
there holds o x h is = subst (λ o. IfSome o holds) is h

-- a frame is written
frame_written : (long : ℕ) (out out' : List ℕ) (given : NextFrame) → IsGiven given out out' long → (long ≡ length given.octets) × (out' ≡ given.octets ++ drop (length given.octets) out)
frame_written long out out' given h = (
  h.whole,
  sym (take-append-drop long out') ∙ ap (λ l. l ++ drop long out') h.octets ∙ ap (λ l. given.octets ++ l) h.rest
      ∙ ap (λ n. given.octets ++ drop n out) h.whole,
)

-- nothing is there after a start
none_marked : (h : HeldCard) (m : Machine) → HasBegun m h → (line tei : ℕ) (service : Service) → Waits (marks_held h) line service tei → ⊥
none_marked None m begun line tei service w = absurd begun
none_marked (Some kept) m begun line tei service w = false≢true (sym (begun.marks.none line w.place w.within) ∙ w.marked)

same : (k n : ℕ) → get_or {A = ℕ} (replicate k 0) n 0 ≡ 0
same zero n = refl
same (suc k) zero = refl
same (suc k) (suc n) = same k n

no_value : (counter : Counter) → value_in none_counted counter ≡ 0
no_value counter = same count (place counter)

all_the_same : (k n : ℕ) (x : Counters) → get_or (replicate k x) n x ≡ x
all_the_same zero n x = refl
all_the_same (suc k) zero x = refl
all_the_same (suc k) (suc n) x = all_the_same k n x

none_there : (h : HeldCard) (m : Machine) → HasBegun m h → (line : ℕ) → get_or (counters_held h) line none_counted ≡ none_counted
none_there None m begun line = absurd begun
none_there (Some kept) m begun line =
    ap (λ all. get_or all line none_counted) begun.counters ∙ all_the_same (card_in m).config.lines line none_counted

-- but each line has a place
marks_there : (h : HeldCard) (m : Machine) → HasBegun m h → length (marks_held h) ≡ (card_in m).config.lines
marks_there None m begun = absurd begun
marks_there (Some kept) m begun = begun.marks.count

counts_there : (h : HeldCard) (m : Machine) → HasBegun m h → length (counters_held h) ≡ (card_in m).config.lines
counts_there None m begun = absurd begun
counts_there (Some kept) m begun = ap length begun.counters ∙ length-replicate (card_in m).config.lines none_counted

nothing_there : (h : CardHandle) (kind : CardKind) (c : Config) → HasBegun (fresh kind c) (card_of h) → HasNothing c.lines h
nothing_there h kind c begun = let m = fresh kind c in let lines = ap (λ (card : Card). card.config.lines) (fresh-card kind c) in record {
  waits = marks_there (card_of h) m begun ∙ lines;
  counts = counts_there (card_of h) m begun ∙ lines;
  no_waits = none_marked (card_of h) m begun;
  no_counts = λ line counter. ap (λ k. value_in k counter) (none_there (card_of h) m begun line) ∙ no_value counter;
}

-- counters of the card that is there
same_counters : (h : HeldCard) (card : AnyCard) → option_map without_marks h ≡ Some card → counters_held h ≡ counters_of card
same_counters None card is = absurd (none-some card is)
same_counters (Some kept) card is = ap counters_of (same_Some kept.timed.card card is)

-- it has as many lines as its machine
as_many : (card : AnyCard) (m : Machine) → AnyStands card m → line_count card ≡ (card_in m).config.lines
as_many (Octets card) (with_ports m) stands = sym (ap (λ (c : Config). c.lines) stands.frames.config)
as_many (Octets card) (alone m) stands = absurd stands
as_many (Frames card) (with_ports m) stands = absurd stands
as_many (Frames card) (alone m) stands = sym (ap (λ (c : Config). c.lines) stands.config)

its_lines : (h : HeldCard) (card : AnyCard) (m : Machine) → option_map without_marks h ≡ Some card → StandsIn h m → line_count card ≡ (card_in m).config.lines
its_lines None card m is stands = absurd stands
its_lines (Some kept) card m is stands = subst (λ card. line_count card ≡ (card_in m).config.lines) (same_Some kept.timed.card card is) (as_many kept.timed.card m stands)

-- one that is the same but for what waits
same_stands : (old new : HeldCard) (m : Machine) → option_map without_marks new ≡ option_map without_marks old → StandsIn old m → StandsIn new m
same_stands None new m is stands = absurd stands
same_stands (Some kept) None m is stands = absurd (none-some kept.timed.card is)
same_stands (Some kept) (Some then) m is stands = subst (λ card. AnyStands card m) (sym (same_Some then.timed.card kept.timed.card is)) stands

same_kept : (old new : HeldCard) → option_map without_marks new ≡ option_map without_marks old → counters_held new ≡ counters_held old
same_kept None None is = refl
same_kept None (Some then) is = absurd (none-some then.timed.card (sym is))
same_kept (Some kept) None is = absurd (none-some kept.timed.card is)
same_kept (Some kept) (Some then) is = ap counters_of (same_Some then.timed.card kept.timed.card is)

-- a start that is not OK changes nothing
none_begins : {A B C : Type 0} (P : Type 0) (held : Option A) (fault : Option B) (long : Option C) → ((x : A) → held ≡ Some x → P) → ((x : B) → held ≡ None → fault ≡ Some x → P)
    → ((x : C) → held ≡ None → fault ≡ None → long ≡ Some x → P) → (held ≡ None → fault ≡ None → long ≡ None → P) → P
none_begins P (Some x) fault long second wrong late else = second x refl
none_begins P None (Some x) long second wrong late else = wrong x refl refl
none_begins P None None (Some x) second wrong late else = late x refl refl refl
none_begins P None None None second wrong late else = else refl refl refl

no_start : {H X : Type 0} (held : H → Option X) (config : PlainConfig) (old new : H) (result : ℕ) → IsStart held config old new result → result ≢ 0 → new ≡ old
no_start held config old new result s bad = none_begins {C = ℕ} (new ≡ old) (held old) (config_fault config) None
    (λ x is. (there (λ _. (result ≡ 13) × (new ≡ old)) (held old) x s.second is).1)
    (λ wrong none is. (there (λ wrong. (result ≡ wrong) × (new ≡ old)) (config_fault config) wrong (s.fault none) is).1)
    (λ x none right is. absurd (none-some x is))
    (λ none right _. ⊎_elim (λ ok. absurd (bad ok)) s.no_memory (s.otherwise none right))

no_timed_start : (kind : CardKind) (config : PlainConfig) (lengths : PlainLengths) (old new : CardHandle) (result : ℕ) → IsTimedStart kind config lengths old new result → result ≢ 0 → new ≡ old
no_timed_start kind config lengths old new result s bad = none_begins (new ≡ old) (card_of old) (config_fault config) (lengths_fault lengths)
    (λ x is. (there (λ _. (result ≡ 13) × (new ≡ old)) (card_of old) x s.second is).1)
    (λ wrong none is. (there (λ wrong. (result ≡ wrong) × (new ≡ old)) (config_fault config) wrong (s.fault none) is).1)
    (λ wrong none right is. (there (λ wrong. (result ≡ wrong) × (new ≡ old)) (lengths_fault lengths) wrong (s.wrong_lengths none right) is).1)
    (λ none right short. ⊎_elim (λ ok. absurd (bad ok)) (λ no_memory. no_memory.1) (s.otherwise none right short))

-- whose contents are given up
and-false : (b : Bool) → (b && false) ≡ false
and-false true = refl
and-false false = refl

both-zero : (call packet : ℕ) → (0 < call) ⊎ (0 < packet) → ((call == 0) && (packet == 0)) ≡ false
both-zero call packet (inl some) = ap (λ (b : Bool). b && (packet == 0)) (ne_eqb call 0 (λ e. omega (arith, some, e)))
both-zero call packet (inr some) =
    ap (λ (b : Bool). (call == 0) && b) (ne_eqb packet 0 (λ e. omega (arith, some, e))) ∙ and-false (call == 0)

names_given_up : (names : Option ℕ) (r : PlainReport) → r.given_up_tei ≡ given_up_tei names r → NamesGivenUp names r
names_given_up names r is = record {
  none = λ call packet. is ∙ ap (λ n. cond ((n == 0) && (r.given_up_16 == 0)) 255 (unwrap_or names (first_tei (notes_in r)))) call
      ∙ ap (λ n. cond (n == 0) 255 (unwrap_or names (first_tei (notes_in r)))) packet;
  named = λ tei named some. is ∙ ap (λ b. cond b 255 (unwrap_or names (first_tei (notes_in r)))) (both-zero r.given_up r.given_up_16 some)
      ∙ ap (λ o. unwrap_or o (first_tei (notes_in r))) named;
  noted = λ note notes named noted some. is ∙ ap (λ b. cond b 255 (unwrap_or names (first_tei (notes_in r)))) (both-zero r.given_up r.given_up_16 some)
      ∙ ap (λ o. unwrap_or o (first_tei (notes_in r))) named ∙ ap first_tei noted;
}

-- if something is out of range
out_of_range : {A : Type 0} (o : Option A) (c d : Timers) → IfSome o (λ _. (cond {A = ℕ} (is_some o) 21 0 ≡ 21) × (cond (is_some o) c d ≡ c))
out_of_range None c d = tt
out_of_range (Some x) c d = (refl, refl)

pub calls_write_by : CallsWrite
calls_write_by = record {
  octet = λ line written value begun orders h m said stands within is. said m stands within ∙ ap octet_of is;
  frame = λ line long out out' given h m said stands within room is.
      frame_written long out out' given (there (λ x. IsGiven x out out' long) (next_at line m) given (said m stands within room) (ap given_in is));
  named = λ asked old new result before r m called stands within ok.
      let it = called.call in ((it.reopened m stands within ok).of_line, it.expired ok);
  no_timer = λ cards line result names old new before r called. called.expired;
  given_up = λ cards line result names old new before r called ok. (names_given_up names r (called.given_up ok), called.tail ok);
  fallen_given_up = λ now number result timer m c old new r fell. (names_given_up None r fell.given_up, fell.tail);
  timed = λ asked old new result before r called. called.call.timed;
  refused = λ now result old new m c said stands timers early. said m c stands timers early;
  fell_due = λ now result x old new m c r said it is.
      there (λ x. FellDue now x.line x.timer m c old new result r) (due (at_moment now c)) x (said m c it.stands it.timers it.not_before it.not_after) is;
  none_due = λ now result old new m c said it is. said m c it.stands it.timers it.not_before it.not_after is;
  untimed = λ old new result before r called some untimed. ⊎_elim (λ none. absurd (some none)) (λ wrong. wrong.0) (called.wrong_card untimed);
  no_moment_card = λ old new result before r called. called.no_card;
  unwritten = λ old new result before r called. called.unwritten;
  moment = λ c. first_told c.running;
  no_moment = λ c. none_runs c.running;
  lengths_alone = λ old new result m called stands.
      (same_stands (card_of old) (card_of new) m called.card stands, same_kept (card_of old) (card_of new) called.card, called.marks);
  no_lengths_card = λ old new result called. called.no_card;
  lengths_of_another = λ old new result called some untimed. ⊎_elim (λ none. absurd (some none)) (λ wrong. wrong) (called.wrong_card untimed);
  start = λ kind config old new result s. record { in_range = s.start.otherwise; not_ok = no_start card_of config old new result s.start };
  timed_start = λ kind config lengths old new result s. record {
    in_range = λ none is. ⊎_elim (λ ok. inl ok) (λ no_memory. inr no_memory.0) (s.otherwise none is.0 is.1);
    not_ok = no_timed_start kind config lengths old new result s;
  };
  clock_start = λ config old new result s. record { in_range = s.start.otherwise; not_ok = no_start clock_of config old new result s.start };
  second_start = λ kind config old new result kept h is. there (λ _. (result ≡ 13) × (new ≡ old)) (card_of old) kept h.start.second is;
  wrong_start = λ kind config old new result wrong h none is. there (λ wrong. (result ≡ wrong) × (new ≡ old)) (config_fault config) wrong (h.start.fault none) is;
  second_timed_start = λ kind config lengths old new result kept h is. there (λ _. (result ≡ 13) × (new ≡ old)) (card_of old) kept h.second is;
  wrong_timed_start = λ kind config lengths old new result wrong h none is. there (λ wrong. (result ≡ wrong) × (new ≡ old)) (config_fault config) wrong (h.fault none) is;
  wrong_lengths = λ kind config lengths old new result h. h.wrong_lengths;
  second_clock = λ config old new result clock h is. there (λ _. (result ≡ 13) × (new ≡ old)) (clock_of old) clock h.start.second is;
  wrong_clock = λ config old new result wrong h none is. there (λ wrong. (result ≡ wrong) × (new ≡ old)) (config_fault config) wrong (h.start.fault none) is;
  card_ends = λ old new result kept h is. there (λ _. (result ≡ 0) × (card_of new ≡ None)) (card_of old) kept h.freed is;
  clock_ends = λ old new result clock h is. there (λ _. (result ≡ 0) × (clock_of new ≡ None)) (clock_of old) clock h.freed is;
  no_card_ends = λ old new result h. h.empty;
  no_clock_ends = λ old new result h. h.empty;
  starts = λ kind config old new h. nothing_there new kind (config_in config) (h.begun refl);
  timed_starts = λ kind config lengths old new h. nothing_there new kind (config_in config) (h.begun refl);
  no_card = λ h none no. no ∙ sym (ap is_some none);
  no_clock = λ h none no. record { said = no ∙ sym (ap is_some none); lines = subst (λ o. IfSome o (λ c. c.lines ≤ 64)) (sym none) tt };
  lines = λ h card m is stands. its_lines (card_of h) card m is stands;
  counters = λ line result h card written said is within.
      let told = there (λ card. line < line_count card → (result ≡ 0) × (written ≡ plain_counters (get_or (counters_of card) line none_counted))) (served_card h) card said is within in
      (told.0, told.1 ∙ ap (λ all. plain_counters (get_or all line none_counted)) (sym (same_counters (card_of h) card is)));
  lengths = λ l c none. (ap (λ o. cond (is_some o) 21 0) none, ap (λ o. cond (is_some o) c (with_lengths l c)) none);
  wrong_length = λ l c. out_of_range (first_out_of_range l) c (with_lengths l c);
  timer_there = λ due moment. (refl, refl);
  no_timer_there = (refl, refl);
  without_clock = λ tells leaves old new result called none. called.none none;
  text = λ text old new h. h.1;
}
