-- A start of a card or of a clock, and the timers of a card as it begins.
use Rattle.lapd_c.proofs.Vocabulary.{◌≡◌, ℕ, Result, Ok, IfOk, IfSome, Option, Some, None, refl, sym, ap, arith, subst, ◌∙◌, Config, IsInRange, card_in}
use Rattle.std.specs.Prelude.{◌⊎◌, ◌<◌, Err, false, is_some}
use Rattle.std.proofs.Common.{IsOkAnd, true≢false}
use Rattle.std.specs.Result.{result_ok}
use Rattle.model_card.specs.declared.kinds.CardKind.{CardKind}
use Rattle.model_card.specs.declared.kinds.CardKind.TheVariants as kinds
use Rattle.lapd_timed.specs.Stands.{ChangesStand, TimersStand}
use Rattle.lapd_timed.specs.declared.card_timers.CardTimers.{CardTimers}
use Rattle.model_card.specs.Card as cards
use Rattle.model_timed.specs.Changes.{unmarked}
use Rattle.model_timed.specs.Clock.{Clock, stopped}
use Rattle.lapd_c.specs.Calls.{HasBegun, IsTimedStart, fresh}
use Rattle.lapd_c.specs.Cards.{IsHandle, card_of}
use Rattle.lapd_c.specs.Config.{config_fault, config_in}
use Rattle.lapd_c.specs.Kept.{ChangesStandIn, TimersStandIn, timers_of}
use Rattle.lapd_c.specs.Starts.{IsStart}
use Rattle.lapd_c.specs.Statuses as status
use Rattle.lapd_c.specs.Timers.{lengths_fault, lengths_in}
use Rattle.lapd_c.specs.declared.card.CardHandle.{CardHandle}
use Rattle.lapd_c.specs.declared.plain.config.PlainConfig.{PlainConfig}
use Rattle.lapd_c.specs.declared.plain.timers.PlainLengths.{PlainLengths}

pub fresh-card : (kind : CardKind) (d : Config) → card_in (fresh kind d) ≡ cards.fresh d
fresh-card kinds.Octets d = refl
fresh-card kinds.Frames d = refl

-- they stand beside the card of frames of either kind
pub timers-begun : {E : Type 0} (config : Config) (lines terminals : ℕ) (clock : Clock) (r : Result CardTimers E)
    → IfOk r (λ timers. (d : Config) → d.lines ≡ lines → d.terminals ≡ terminals → IsInRange d → TimersStand timers (cards.fresh d) clock)
    → config.lines ≡ lines → config.terminals ≡ terminals → IsInRange config → IfSome (result_ok r) (λ timers. (kind : CardKind) → TimersStand timers (card_in (fresh kind config)) clock)
timers-begun config lines terminals clock (Ok t) h of_lines of_terminals ranged = λ kind. subst (λ m. TimersStand t m clock) (sym (fresh-card kind config)) (h config of_lines of_terminals ranged)
timers-begun config lines terminals clock (Err e) h of_lines of_terminals ranged = tt

pub lines-begun : {E : Type 0} (config : Config) (lines : ℕ) (r : Result CardTimers E) → IfOk r (λ t. t.lines ≡ lines) → config.lines ≡ lines → IfSome (result_ok r) (λ t. t.lines ≡ config.lines)
lines-begun config lines (Ok t) h is = h ∙ sym is
lines-begun config lines (Err e) h is = tt

-- and no link of it has changed
pub marks-begun : {E : Type 0} (config : Config) (lines terminals : ℕ) (r : Result CardTimers E)
    → IfOk r (λ timers. (d : Config) → d.lines ≡ lines → d.terminals ≡ terminals → ChangesStand timers (cards.fresh d) unmarked)
    → config.lines ≡ lines → config.terminals ≡ terminals → IfSome (result_ok r) (λ timers. (kind : CardKind) → ChangesStand timers (card_in (fresh kind config)) unmarked)
marks-begun config lines terminals (Ok t) h of_lines of_terminals = λ kind. subst (λ m. ChangesStand t m unmarked) (sym (fresh-card kind config)) (h config of_lines of_terminals)
marks-begun config lines terminals (Err e) h of_lines of_terminals = tt

abbrev the-read : {A E : Type 0} → A → Result A E → A
the-read a (Ok b) = b
the-read a (Err e) = a

-- what is read, if it is, is what the fields say
pub read-is : {A E : Type 0} (wrong : Option E) (r : Result A E) (a b : A) → IfSome wrong (λ w. r ≡ Err w) → (wrong ≡ None → r ≡ Ok a) → r ≡ Ok b → b ≡ a
read-is None r a b _ ok is = ap (the-read a) (sym is ∙ ok refl)
read-is (Some w) r a b err _ is = ap (the-read a) (sym is ∙ err)

-- where something is read, nothing is wrong
pub none-wrong : {A E : Type 0} (P : E → Type 0) (wrong : Option E) (r : Result A E) (a : A) → IfSome wrong (λ w. r ≡ Err w) → r ≡ Ok a → IfSome wrong P
none-wrong P None r a err is = tt
none-wrong P (Some w) r a err is = absurd (subst (λ x. IfOk x (λ _. ⊥)) (sym err ∙ is) tt)

-- what is read, if it is, meets what a reading in range meets
pub read-meets : {A E : Type 0} (P : A → Type 0) (wrong : Option E) (r : Result A E) (a : A)
    → IfSome wrong (λ w. r ≡ Err w) → (wrong ≡ None → IsOkAnd r P) → r ≡ Ok a → P a
read-meets P None r a _ ok is = subst (λ x. IsOkAnd x P) is (ok refl)
read-meets P (Some w) r a err _ is = subst (λ x. IfOk x P) (sym err ∙ is) tt

-- of a handle that holds nothing
pub holds-none : {X : Type 0} (P : X → Type 0) (o : Option X) → is_some o ≡ false → IfSome o P
holds-none P None none = tt
holds-none P (Some x) none = absurd (true≢false none)

-- where the configuration is read, one starts, or there is no memory
pub read-starts : {H X C : Type 0} (held : H → Option X) (config : PlainConfig) (old new : H) (result : ℕ) (r : Result C ℕ) (c : C)
    → is_some (held old) ≡ false → IfSome (config_fault config) (λ wrong. r ≡ Err wrong) → r ≡ Ok c
    → (result ≡ status.ok) ⊎ (result ≡ status.no_memory) → (result ≡ status.no_memory → new ≡ old) → IsStart held config old new result
read-starts held config old new result r c none fault is ends kept = record {
  second = holds-none (λ _. (result ≡ status.second_start) × (new ≡ old)) (held old) none;
  fault = λ _. none-wrong (λ wrong. (result ≡ wrong) × (new ≡ old)) (config_fault config) r c fault is;
  otherwise = λ _ _. ends;
  no_memory = kept;
}

-- and so a card that keeps its own timers, where their lengths are read, too
pub timed-starts : {L C : Type 0} (kind : CardKind) (config : PlainConfig) (lengths : PlainLengths) (old new : CardHandle) (result : ℕ) (r : Result C ℕ) (c : C) (s : Result L ℕ) (l : L)
    → IsHandle new → is_some (card_of old) ≡ false → IfSome (config_fault config) (λ wrong. r ≡ Err wrong) → r ≡ Ok c
    → IfSome (lengths_fault lengths) (λ wrong. s ≡ Err wrong) → s ≡ Ok l
    → (result ≡ status.ok) ⊎ ((result ≡ status.no_memory) × (new ≡ old))
    → (result ≡ status.ok → HasBegun (fresh kind (config_in config)) (card_of new))
    → (result ≡ status.ok → TimersStandIn (timers_of new) (card_in (fresh kind (config_in config))) (stopped (lengths_in lengths)))
    → (result ≡ status.ok → ChangesStandIn (timers_of new) (card_in (fresh kind (config_in config))) unmarked)
    → IsTimedStart kind config lengths old new result
timed-starts kind config lengths old new result r c s l handle none fault is out within ends begun timed marks = record {
  handle = handle;
  second = holds-none (λ _. (result ≡ status.second_start) × (new ≡ old)) (card_of old) none;
  fault = λ _. none-wrong (λ wrong. (result ≡ wrong) × (new ≡ old)) (config_fault config) r c fault is;
  wrong_lengths = λ _ _. none-wrong (λ wrong. (result ≡ wrong) × (new ≡ old)) (lengths_fault lengths) s l out within;
  otherwise = λ _ _ _. ends;
  begun = begun;
  timed = timed;
  unmarked = marks;
}

-- where the lengths are not read, this says why
abbrev the-fault : {A : Type 0} → Result A ℕ → ℕ
the-fault (Ok a) = 0
the-fault (Err e) = e

same-fault : {L : Type 0} (wrong : Option ℕ) (s : Result L ℕ) (e : ℕ) (P : Type 0) → IfSome wrong (λ w. s ≡ Err w) → s ≡ Err e → P → IfSome wrong (λ w. (e ≡ w) × P)
same-fault None s e P fault is p = tt
same-fault (Some w) s e P fault is p = (ap the-fault (sym is ∙ fault), p)

pub timed-late : {L C : Type 0} (kind : CardKind) (config : PlainConfig) (lengths : PlainLengths) (old : CardHandle) (result : ℕ) (r : Result C ℕ) (c : C) (s : Result L ℕ)
    → IsHandle old → is_some (card_of old) ≡ false → IfSome (config_fault config) (λ wrong. r ≡ Err wrong) → r ≡ Ok c
    → 10 < result → IfSome (lengths_fault lengths) (λ wrong. s ≡ Err wrong) → s ≡ Err result → (lengths_fault lengths ≡ None → ⊥) → IsTimedStart kind config lengths old old result
timed-late kind config lengths old result r c s handle none fault is late late_fault late_is out = record {
  handle = handle;
  second = holds-none (λ _. (result ≡ status.second_start) × (old ≡ old)) (card_of old) none;
  fault = λ _. none-wrong (λ wrong. (result ≡ wrong) × (old ≡ old)) (config_fault config) r c fault is;
  wrong_lengths = λ _ _. same-fault (lengths_fault lengths) s result (old ≡ old) late_fault late_is refl;
  otherwise = λ _ _ within. absurd (out within);
  begun = λ e. absurd (omega (arith, late, e));
  timed = λ e. absurd (omega (arith, late, e));
  unmarked = λ e. absurd (omega (arith, late, e));
}
