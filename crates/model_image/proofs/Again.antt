-- Cards that are the same have the same image.
use Rattle.std.proofs.Common.{◌≡◌, ℕ, ◌+◌, ◌*◌, ◌<◌, Bool, true, false, List, [], ◌∷◌, ◌++◌, length, get_or, Option, Some, None, is_some, refl, sym, ap, ◌∙◌, subst}
use Rattle.std.specs.List.{AllZip, range_with_len}
use Rattle.std.specs.Option.{unwrap_or}
use Rattle.std.specs.Prelude.{flat_map, map}
use Rattle.std.proofs.lemmas.List.Elements.{AllZip-get_or}
use Rattle.lapd_clock.specs.Timer.{Timer}
use Rattle.model_teis.specs.network.Machine.{Management}
use Rattle.model_bits.specs.Bits.{bit_value, number_of}
use Rattle.model_link.specs.Link.{Link, state_number}
use Rattle.model_link.specs.Told.{runs}
use Rattle.model_link.specs.declared.timers.LinkTimer.TheVariants.{T200, T203}
use Rattle.model_line.specs.declared.config.Config.{Config}
use Rattle.model_line.specs.Line.{Line, fresh_line, is_terminal, link_count, link_at, place_at, tei_at}
use Rattle.model_card.specs.Card.{Card, line_at}
use Rattle.model_card.proofs.Steps.{has_lines, line_sound}
use Rattle.model_timed.specs.Clock.{Clock}
use Rattle.lapd_image.specs.Numbers.{number, list_of, contents}
use Rattle.model_line.specs.ConfigImage.{config}
use Rattle.model_link.specs.Image.{control_frame, counts, link}
use Rattle.model_teis.specs.TableImage.{place}
use Rattle.model_teis.specs.network.Image.{management}
use Rattle.model_line.specs.Image.{own, unit, teis, link_if, link_numbered, line, timers}
use Rattle.lapd_count.specs.Image.{counters}
use Rattle.model_image.specs.Clocks.{moment, moments_at, moments, lengths, clock}
use Rattle.model_image.specs.Images.{marks, changes}
use Rattle.model_image.specs.Laws.{ImagesTellNoMore}
use Rattle.model_link.specs.Same.{IsSameLink}
use Rattle.model_line.specs.Same.{IsSameLine}
use Rattle.model_image.specs.Same.{AreSameClocks}
use Rattle.model_image.proofs.Clocks.{flat-same, timers-at}
use Rattle.model_line.proofs.Numbers.{below}

-- links
link-again : (l m : Link) → IsSameLink l m → link l ≡ link m
link-again l m same = λ i.
    (state_number (same.state i) + 64 * bit_value (same.owed i))
    ∷ number_of (same.peer_busy i ∷ same.own_busy i ∷ same.rejecting i ∷ same.pending i ∷ same.asked i ∷ runs T200 (same.running i) ∷ runs T203 (same.running i) ∷ [])
    ∷ same.repeats i ∷ same.va i ∷ same.sent i ∷ same.vr i ∷ same.again i
    ∷ (counts (same.counts i) ++ (list_of contents (same.queue i) ++ list_of control_frame (same.waiting i)))

if-again : (o : Option ℕ) (l m : Link) → IsSameLink l m → link_if o l ≡ link_if o m
if-again None l m same = refl
if-again (Some tei) l m same = link-again l m same

-- lines
teis-again : (terminal : Bool) (l m : Line) → l.management ≡ m.management → l.own ≡ m.own → teis terminal l ≡ teis terminal m
teis-again true l m managed same = ap own same
teis-again false l m managed same = ap management managed

line-again : (c : Config) (l m : Line) → IsSameLine c l m → line c l ≡ line c m
line-again c l m same =
    let numbers : List ℕ = range_with_len 0 (link_count c) in
    let tei : (n : ℕ) → tei_at (place_at n) l ≡ tei_at (place_at n) m = λ n. ap (λ (x : Management). get_or x.places (place_at n) None) same.management in
    let links : flat_map (link_numbered l) numbers ≡ flat_map (link_numbered m) numbers =
    flat-same (link_numbered l) (link_numbered m) numbers (λ k h. ap (λ (o : Option ℕ). link_if o (link_at (get_or numbers k 0) l)) (tei (get_or numbers k 0))
    ∙ if-again (tei_at (place_at (get_or numbers k 0)) m) _ _ (same.links (get_or numbers k 0) (below (link_count c) k h))) in
    let managed : teis (is_terminal c) l ≡ teis (is_terminal c) m = teis-again (is_terminal c) l m same.management same.own in
    λ i. map place (same.management i).places ++ (managed i ++ (list_of unit (same.units i) ++ (same.turn i ∷ links i)))

lines-again : (c : Config) (xs ys : List Line) → AllZip (IsSameLine c) xs ys → flat_map (line c) xs ≡ flat_map (line c) ys
lines-again c [] [] same = refl
lines-again c [] (y ∷ ys) same = absurd same
lines-again c (x ∷ xs) [] same = absurd same
lines-again c (x ∷ xs) (y ∷ ys) same =
    let one : line c x ≡ line c y = line-again c x y same.0 in
    let rest : flat_map (line c) xs ≡ flat_map (line c) ys = lines-again c xs ys same.1 in
    λ i. one i ++ rest i

-- clocks, beside two cards that are the same
line-moments : (c d : Clock) (n : ℕ) (ts : List Timer) → ((timer : Timer) → moment c n timer ≡ moment d n timer) → flat_map (moment c n) ts ≡ flat_map (moment d n) ts
line-moments c d n [] same = refl
line-moments c d n (t ∷ ts) same =
    let one : moment c n t ≡ moment d n t = same t in
    let rest : flat_map (moment c n) ts ≡ flat_map (moment d n) ts = line-moments c d n ts same in
    λ i. one i ++ rest i

module _ (a b : Card) (configs : a.config ≡ b.config) (same : (number : ℕ) → number < a.config.lines → IsSameLine a.config (line_at number a) (line_at number b))
    (places : (number : ℕ) → number < a.config.lines → length (line_at number a).management.places ≡ a.config.terminals) where
  clocks-again : (o p : Option Clock) → AreSameClocks a.config.lines o p → clock a o ≡ clock b p
  clocks-again None None alike = refl
  clocks-again None (Some d) alike = absurd alike
  clocks-again (Some c) None alike = absurd alike
  clocks-again (Some c) (Some d) alike =
      let lines : List ℕ = range_with_len 0 a.config.lines in
      let at_line : (n : ℕ) → n < a.config.lines → moments_at a c n ≡ moments_at b d n =
      λ n h. line-moments c d n (timers a.config (line_at n a)) (λ timer. ap (λ (o : Option ℕ). number 8 (unwrap_or o 0)) (alike.running n timer h))
      ∙ ap (λ (ts : List Timer). flat_map (moment d n) ts) (timers-at a b configs same places n h) in
      let each : flat_map (moments_at a c) lines ≡ flat_map (moments_at b d) lines =
      flat-same (moments_at a c) (moments_at b d) lines (λ k h. at_line (get_or lines k 0) (below a.config.lines k h)) in
      let all : moments a c ≡ moments b d = each ∙ ap (λ (x : Config). flat_map (moments_at b d) (range_with_len 0 x.lines)) configs in
      λ i. lengths (alike.lengths i) ++ (number 8 (alike.now i) ++ all i)

kind-again : (lines : ℕ) (o p : Option Clock) → AreSameClocks lines o p → is_some o ≡ is_some p
kind-again lines None None same = refl
kind-again lines None (Some d) same = absurd same
kind-again lines (Some c) None same = absurd same
kind-again lines (Some c) (Some d) same = refl

pub images_tell_no_more : ImagesTellNoMore
images_tell_no_more s t sound also same =
    let c : Config = s.card.config in
    let timed : is_some s.clock ≡ is_some t.clock = kind-again c.lines s.clock t.clock same.clock in
    let lines : flat_map (line c) s.card.lines ≡ flat_map (line t.card.config) t.card.lines =
    lines-again c s.card.lines t.card.lines same.lines ∙ ap (λ (x : Config). flat_map (line x) t.card.lines) same.config in
    let at_number : (number : ℕ) → number < c.lines → IsSameLine c (line_at number s.card) (line_at number t.card) =
    λ number h. AllZip-get_or (IsSameLine c) s.card.lines t.card.lines number (fresh_line s.card.config) (fresh_line t.card.config) same.lines (subst (λ (n : ℕ). number < n) (sym sound.card.count) h) in
    let clocks : clock s.card s.clock ≡ clock t.card t.clock =
    clocks-again s.card t.card same.config at_number (λ number h. (line_sound s.card number (has_lines s.card sound.card) h).places) s.clock t.clock same.clock in
    λ i. 76 ∷ 65 ∷ 80 ∷ 68 ∷ 1 ∷ number_of (same.kind i ∷ timed i ∷ []) ∷ (config (same.config i) ++ (lines i
    ++ (flat_map counters (same.counted i) ++ (flat_map marks (same.waits i) ++ (clocks i ++ flat_map changes (same.changed i))))))
