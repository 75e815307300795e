-- What an image says of a card, of which links wait, and of timers, is read part by part; or it is the image of none that may be saved.
use Rattle.std.proofs.Common.{arith, ◌≡◌, ℕ, ◌*◌, ◌<◌, ◌≤◌, Bool, List, [], ◌∷◌, ◌++◌, length, get_or, Option, Some, None, refl, sym, ap, ◌∙◌, subst, append_assoc}
use Rattle.std.specs.List.{AllZip, AllByRecursion, range_with_len}
use Rattle.std.specs.Prelude.{All, IsSome, flat_map}
use Rattle.std.proofs.lemmas.List.Elements.{AllZip-get_or}
use Rattle.lapd_card.specs.FrameCard.{Held}
use Rattle.lapd_card.specs.Image.{begun_as, image, AnyRestores, IsSavedConfig, IsSavedOf, Lines}
use Rattle.lapd_card.specs.Kinds.{frames_of, kind_of, AnyStands, FrameCardStands}
use Rattle.lapd_card.specs.declared.kinds.AnyCard.{AnyCard}
use Rattle.lapd_card.specs.declared.kinds.AnyCard.TheVariants.{Octets, Frames}
use Rattle.lapd_clock.specs.Timer.{Timer}
use Rattle.lapd_clock.specs.Timers.{Expiry}
use Rattle.lapd_count.specs.Image.{counters, IsCounted}
use Rattle.lapd_image.specs.Numbers.{number}
use Rattle.lapd_image.specs.Reads.{HasNone, IsReadAs}
use Rattle.lapd_image.proofs.Reading.{all-read, equal-read, front-read, length-each, length-number}
use Rattle.lapd_store.specs.Store.{Store}
use Rattle.model_teis.specs.network.Machine.{Management}
use Rattle.model_bits.specs.Bits.{number_of}
use Rattle.model_card.specs.Card.{Card, line_at}
use Rattle.model_card.specs.Sound.{IsSound}
use Rattle.model_card.specs.declared.kinds.CardKind.{CardKind}
use Rattle.model_card.specs.declared.kinds.CardKind.TheVariants as kinds
use Rattle.model_card.proofs.Steps.{has_lines, line_sound as sound_line}
use Rattle.model_image.specs.Clocks.{clock, lengths, moment, moments, moments_at}
use Rattle.model_line.specs.ConfigImage.{config}
use Rattle.model_image.specs.Images.{marks}
use Rattle.model_line.specs.Image.{line, IsSavedLine}
use Rattle.model_line.specs.Same.{IsSameLine}
use Rattle.model_image.specs.Sound.{AreChanges, AreMarks, IsClockOf}
use Rattle.model_image.proofs.Clocks.{flat-same, running-same, timers-at}
use Rattle.model_line.proofs.ConfigRead.{HasFitting, config-read}
use Rattle.model_line.proofs.ImageRead.{IsWhole, counters-read, line-read}
use Rattle.model_line.proofs.Numbers.{below}
use Rattle.model_image.proofs.Whole.{all-both}
use Rattle.model_line.specs.Line.{Line, fresh_line, place_at}
use Rattle.model_line.specs.Sound as line_sound
use Rattle.model_line.specs.declared.config.Config.{Config}
use Rattle.model_line.proofs.Ranges.{ranges_of}
use Rattle.model_timed.specs.Clock.{Clock}
use Rattle.lapd_timed.specs.Image.{card_octets, IsCardRead, IsSavedCard, MayStandBeside}

-- ---- a card of an image

fitting : (c : Config) → IsSavedConfig c → HasFitting c
fitting c may =
    let r = ranges_of c may.range in
    record { slots = omega (arith, r.slots.most); n201 = omega (arith, r.n201.most); seed = may.seed }

pub none-of-config : {front : List ℕ} → HasNone config IsSavedConfig front → HasNone card_octets IsSavedCard front
none-of-config none l rest may e = none l.card.config (image l ++ rest) may.config (e ∙ append_assoc (config l.card.config) (image l) rest)

module _ {c : Config} {front mid : List ℕ} (one : IsReadAs config IsSavedConfig c front mid) where
  pub none-of-lines : HasNone image (IsSavedOf c) mid → HasNone card_octets IsSavedCard front
  none-of-lines none l rest may e =
      let read = config-read c l.card.config mid (image l ++ rest) (fitting c one.saved) (fitting l.card.config may.config)
      (sym one.octets ∙ e ∙ append_assoc (config l.card.config) (image l) rest) in
      none l rest (subst (λ (x : Config). IsSavedOf x l) (sym read.0) may.lines) read.1

  pub card-read : {kind : CardKind} {rest : List ℕ} {card : AnyCard} → AnyRestores kind c mid rest card → IsCardRead kind card front rest
  card-read {kind} {rest} (l, two, stands) =
      let same : l.card.config ≡ c = two.saved.config in (
        l,
        record {
          saved = record { config = subst IsSavedConfig (sym same) one.saved; lines = subst (λ (x : Config). IsSavedOf x l) (sym same) two.saved };
          octets = one.octets ∙ (λ i. config (sym same i) ++ two.octets i) ∙ sym (append_assoc (config l.card.config) (image l) rest);
        },
        stands,
      )

-- the card of frames, alone or inside, and the kind
pub begun-frames : (card : AnyCard) (kind : CardKind) (m : Card) → AnyStands card (begun_as kind m) → FrameCardStands (frames_of card) m
begun-frames (Octets card) kinds.Octets m stands = stands.frames
begun-frames (Octets card) kinds.Frames m stands = absurd stands
begun-frames (Frames card) kinds.Octets m stands = absurd stands
begun-frames (Frames card) kinds.Frames m stands = stands

pub begun-inside : (f : Held Store) (card : AnyCard) (kind : CardKind) (m : Card) → f ≡ frames_of card → AnyStands card (begun_as kind m) → FrameCardStands f m
begun-inside f card kind m is stands = subst (λ g. FrameCardStands g m) (sym is) (begun-frames card kind m stands)

pub begun-kind : (card : AnyCard) (kind : CardKind) (m : Card) → AnyStands card (begun_as kind m) → kind_of card ≡ kind
begun-kind (Octets card) kinds.Octets m stands = refl
begun-kind (Octets card) kinds.Frames m stands = absurd stands
begun-kind (Frames card) kinds.Octets m stands = absurd stands
begun-kind (Frames card) kinds.Frames m stands = refl

-- ---- two cards of the same octets

-- Their configurations are one, and their lines are the same.
pub record AreAlike (a b : Card) : Type 0 where
  pub config : a.config ≡ b.config
  pub lines : AllZip (IsSameLine a.config) a.lines b.lines

pub lines-read : (k l : Lines) (r s : List ℕ) → IsSavedCard k → IsSavedCard l → card_octets k ++ r ≡ card_octets l ++ s → AreAlike k.card l.card × (r ≡ s)
lines-read k l r s one other e =
    let c : Config = k.card.config in
    let of_config : (c ≡ l.card.config) × (image k ++ r ≡ image l ++ s) =
    config-read c l.card.config (image k ++ r) (image l ++ s) (fitting c one.config) (fitting l.card.config other.config)
    (sym (append_assoc (config c) (image k) r) ∙ e ∙ append_assoc (config l.card.config) (image l) s) in
    let same : c ≡ l.card.config = of_config.0 in
    let short : c.n201 ≤ 260 = (ranges_of c one.config.range).n201.most in
    let a : IsSound k.card = one.lines.begins.sound in
    let b : IsSound l.card = other.lines.begins.sound in
    let count : length k.card.lines ≡ length l.card.lines = a.count ∙ ap (λ (x : Config). x.lines) same ∙ sym b.count in
    let whole : All (IsWhole c short) k.card.lines = all-both (line_sound.IsSound c) (IsSavedLine c) k.card.lines a.lines one.lines.lines in
    let whole_too : All (IsWhole c short) l.card.lines =
    all-both (line_sound.IsSound c) (IsSavedLine c) l.card.lines
    (subst (λ (x : Config). All (line_sound.IsSound x) l.card.lines) (sym same) b.lines)
    (subst (λ (x : Config). All (IsSavedLine x) l.card.lines) (sym same) other.lines.lines) in
    let lines : AllZip (IsSameLine c) k.card.lines l.card.lines × _ =
    all-read (IsWhole c short) (IsSameLine c) (line c) (line-read c short) k.card.lines l.card.lines (flat_map counters k.counted ++ r) (flat_map counters l.counted ++ s) count whole whole_too
    (sym (append_assoc (flat_map (line c) k.card.lines) (flat_map counters k.counted) r) ∙ of_config.1
    ∙ ap (λ (x : Config). (flat_map (line x) l.card.lines ++ flat_map counters l.counted) ++ s) (sym same) ∙ append_assoc (flat_map (line c) l.card.lines) (flat_map counters l.counted) s) in
    let many : length k.counted ≡ length l.counted = one.lines.each_counted ∙ ap (λ (x : Config). x.lines) same ∙ sym other.lines.each_counted in
    let counted : (k.counted ≡ l.counted) × (r ≡ s) = equal-read IsCounted counters counters-read k.counted l.counted r s many one.lines.counted other.lines.counted lines.1 in
    (record { config = same; lines = lines.0 }, counted.1)

-- ---- which links wait

pub as-many : (c : Config) (ls : List Line) (xs : List (List Bool)) → AllZip (AreMarks c) ls xs → length ls ≡ length xs
as-many c [] [] all = refl
as-many c [] (x ∷ xs) all = absurd all
as-many c (l ∷ ls) [] all = absurd all
as-many c (l ∷ ls) (x ∷ xs) all = let rest : length ls ≡ length xs = as-many c ls xs all.1 in omega (arith, rest)

-- two octets a line
pub marks-read : (xs ys : List (List Bool)) (r s : List ℕ) → length xs ≡ length ys → flat_map marks xs ++ r ≡ flat_map marks ys ++ s → r ≡ s
marks-read xs ys r s many e =
    let size : (zs : List (List Bool)) → length (flat_map marks zs) ≡ length zs * 2 = λ zs. length-each marks 2 (λ z. length-number 2 (number_of z)) zs in
    (front-read (flat_map marks xs) (flat_map marks ys) r s (size xs ∙ ap (λ (n : ℕ). n * 2) many ∙ sym (size ys)) e).1

same-marks : (c : Config) (l m : Line) (waits : List Bool) → IsSameLine c l m → AreMarks c l waits → AreMarks c m waits
same-marks c l m waits same marked = record {
  each = marked.each;
  there = λ number set. subst (λ (x : Management). IsSome (get_or x.places (place_at number) None)) same.management (marked.there number set);
}

pub marks-alike : (c : Config) (ls ms : List Line) (xs : List (List Bool)) → AllZip (IsSameLine c) ls ms → AllZip (AreMarks c) ls xs → AllZip (AreMarks c) ms xs
marks-alike c [] [] xs same all = all
marks-alike c [] (m ∷ ms) xs same all = absurd same
marks-alike c (l ∷ ls) [] xs same all = absurd same
marks-alike c (l ∷ ls) (m ∷ ms) [] same all = absurd all
marks-alike c (l ∷ ls) (m ∷ ms) (x ∷ xs) same all = (same-marks c l m x same.0 all.0, marks-alike c ls ms xs same.1 all.1)

-- ---- clocks beside them

module _ (a b : Card) (sound : IsSound a) (alike : AreAlike a b) where
  at_number : (number : ℕ) → number < a.config.lines → IsSameLine a.config (line_at number a) (line_at number b)
  at_number number h =
      AllZip-get_or (IsSameLine a.config) a.lines b.lines number (fresh_line a.config) (fresh_line b.config) alike.lines (subst (λ (n : ℕ). number < n) (sym sound.count) h)

  places : (number : ℕ) → number < a.config.lines → length (line_at number a).management.places ≡ a.config.terminals
  places number h = (sound_line a number (has_lines a sound) h).places

  same-moments : (c : Clock) → moments a c ≡ moments b c
  same-moments c =
      let lines : List ℕ = range_with_len 0 a.config.lines in
      flat-same (moments_at a c) (moments_at b c) lines
      (λ k h. ap (λ (ts : List Timer). flat_map (moment c (get_or lines k 0)) ts) (timers-at a b alike.config at_number places (get_or lines k 0) (below a.config.lines k h)))
      ∙ ap (λ (x : Config). flat_map (moments_at b c) (range_with_len 0 x.lines)) alike.config

  pub same-clock : (o : Option Clock) → clock a o ≡ clock b o
  same-clock None = refl
  same-clock (Some c) = λ i. lengths c.lengths ++ (number 8 c.now ++ same-moments c i)

  pub beside-alike : (c : Clock) (changed : List (List ℕ)) → MayStandBeside a c changed → MayStandBeside b c changed
  beside-alike c changed may =
      let of : IsClockOf a c = may.clock in
      record {
        clock = record {
          lengths = of.lengths;
          now = of.now;
          moments = of.moments;
          in_order = of.in_order;
          one_each = of.one_each;
          on_lines = subst (λ (x : Config). AllByRecursion (λ (e : Expiry). e.line < x.lines) c.running) alike.config of.on_lines;
          running = λ n timer h.
              let here : n < a.config.lines = subst (λ (x : Config). n < x.lines) (sym alike.config) h in
              of.running n timer here ∙ running-same a.config (line_at n a) (line_at n b) (places n here) (at_number n here) timer;
        };
        rows = subst (λ (x : Config). AreChanges x (Some c) changed) alike.config may.rows;
      }
