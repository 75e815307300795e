-- The moment of one timer is read, or none runs.
use Rattle.std.proofs.Common.{arith, lit<, ◌≡◌, ℕ, ◌^◌, ◌*◌, ◌<◌, ◌≤◌, Bool, true, false, cond, List, [], ◌∷◌, ◌++◌, append-nil, sym, ap, ◌∙◌, Some}
use Rattle.std.specs.Option.{unwrap_or}
use Rattle.std.specs.List.{range_with_len}
use Rattle.std.specs.Prelude.{All, flat_map, is_some}
use Rattle.std.proofs.lemmas.Grind.{flat_map-append}
use Rattle.std.proofs.lemmas.List.Elements.{All-head, All-tail}
use Rattle.lapd_clock.specs.Firsts.{never}
use Rattle.lapd_clock.specs.Moments.{moment_of}
use Rattle.lapd_clock.specs.Timer.{Timer, T201, T202}
use Rattle.lapd_clock.specs.Timers.{Expiry, is_of}
use Rattle.lapd_image.specs.Numbers.{number}
use Rattle.lapd_image.specs.Reads.{HasNone}
use Rattle.lapd_image.proofs.Reading.{number-read}
use Rattle.lapd_clock.specs.MomentImage.{IsStartedBy}
use Rattle.lapd_timed.specs.MomentsRead.{line_part, links_part, own_part, FallsUntil, Passes}
use Rattle.lapd_timed.proofs.InImage.{flat-flat}
use Rattle.model_card.specs.Card.{Card, line_at}
use Rattle.model_image.specs.Clocks.{moment}
use Rattle.model_line.specs.Image.{timer_numbered}
use Rattle.model_timed.specs.Clock.{Clock}

-- what a clock has of any timer is a moment in time
soon : (latest line : ℕ) (timer : Timer) (es : List Expiry) → All (λ e. e.moment ≤ latest) es → unwrap_or (moment_of line timer es) 0 ≤ latest
soon latest line timer [] all = omega arith
soon latest line timer (e ∷ es) all = go (is_of line timer e) (soon latest line timer es (All-tail (λ (x : Expiry). x.moment ≤ latest) e es all))
  where
    go : (b : Bool) → unwrap_or (moment_of line timer es) 0 ≤ latest → unwrap_or (cond b (Some e.moment) (moment_of line timer es)) 0 ≤ latest
    go true rest = All-head (λ (x : Expiry). x.moment ≤ latest) e es all
    go false rest = rest

-- What an image has of these timers of a line.
abbrev pub part : ℕ → List Timer → Clock → List ℕ
part line ts c = flat_map (moment c line) ts

one-part : (line : ℕ) (timer : Timer) (ts : List Timer) (c : Clock) → timer ∷ [] ≡ ts → part line ts c ≡ number 8 (unwrap_or (moment_of line timer c.running) 0)
one-part line timer ts c is = ap (λ xs. flat_map (moment c line) xs) (sym is) ∙ append-nil (moment c line timer)

pub passes-one : {latest : ℕ} → latest < never → (line place : ℕ) (timer : Timer) (ts : List Timer) (old new : List ℕ) (es after : List Expiry) → timer ∷ [] ≡ ts → IsStartedBy place timer old new es after
    → Passes (part line ts) (FallsUntil latest) old new
passes-one {latest} some line place timer ts old new es after is started c rest fits e =
    let most : never < 256 ^ 8 = lit< tt in
    let small = soon latest line timer c.running fits in
    let read = started.read.saved in
    (number-read 8 started.moment (unwrap_or (moment_of line timer c.running) 0) new rest (omega (arith, read, most)) (omega (arith, small, some, most))
    (sym started.read.octets ∙ e ∙ ap (λ octets. octets ++ rest) (one-part line timer ts c is))).1

pub none-one : {latest : ℕ} (line : ℕ) (timer : Timer) (ts : List Timer) (old : List ℕ) → timer ∷ [] ≡ ts → HasNone (number 8) (λ moment. moment ≤ latest) old → HasNone (part line ts) (FallsUntil latest) old
none-one {latest} line timer ts old is none c rest fits e =
    none (unwrap_or (moment_of line timer c.running) 0) rest (soon latest line timer c.running fits) (e ∙ ap (λ octets. octets ++ rest) (one-part line timer ts c is))

-- those of a line: of its links, and its own
pub line-parts : (m : Card) (line terminals : ℕ) → m.config.terminals ≡ terminals → (c : Clock) → line_part m line c ≡ links_part m line (2 * terminals) c ++ own_part m line c
line-parts m line terminals count c =
    let l = line_at line m in
    let own : List Timer = cond (is_some l.management.check) (T201 ∷ []) [] ++ cond (is_some l.own.procedure) (T202 ∷ []) [] in
    ap (λ (n : ℕ). flat_map (moment c line) (flat_map (timer_numbered l) (range_with_len 0 (2 * n)) ++ own)) count
    ∙ flat_map-append (moment c line) (flat_map (timer_numbered l) (range_with_len 0 (2 * terminals))) own
    ∙ ap (λ octets. octets ++ flat_map (moment c line) own) (flat-flat (moment c line) (timer_numbered l) (range_with_len 0 (2 * terminals)))
