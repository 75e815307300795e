-- What is saved of a card with its timers, and that a card that is restored from it stands for the same.
use Rattle.std.proofs.Common.{arith, ◌≡◌, ℕ, zero, suc, ◌∷◌, cond, ◌*◌, ◌<◌, ◌≤◌, List, [], length, get_or, map, replicate, take, Bool, false, Option, Some, None, refl, sym, ap, ◌∙◌, subst}
use Rattle.std.specs.List.{All, range_with_len}
use Rattle.std.proofs.lemmas.List.{take-replicate}
use Rattle.std.proofs.lemmas.List.Elements.{All-cons, All-nil}
use Rattle.std.proofs.lemmas.List.FromFn.{get_or-map-range_with_len, length-map-range_with_len}
use Rattle.lapd_card.specs.Kinds.{config_of, counters_of, frames_of, kind_of, shelf_of, FrameCardStands}
use Rattle.lapd_card.specs.declared.kinds.AnyCard.{AnyCard}
use Rattle.lapd_card.specs.declared.kinds.AnyCard.TheVariants as rust
use Rattle.lapd_timed.specs.OfCard.{Holds, slot_of, line_slot_of}
use Rattle.lapd_timed.specs.Image.{IsRestoredFrom, MayBeSaved, StandsFor}
use Rattle.lapd_timed.specs.Stands.{IsOn}
use Rattle.lapd_timed.specs.declared.card_timers.CardTimers.{CardTimers}
use Rattle.model_bits.specs.Bits.{number_of}
use Rattle.model_card.specs.Card.{Card, line_at}
use Rattle.model_card.specs.declared.kinds.CardKind.{CardKind}
use Rattle.model_card.specs.declared.kinds.CardKind.TheVariants.{Frames, Octets}
use Rattle.model_image.proofs.GoOnMarks.{standing-same}
use Rattle.model_image.proofs.Restored.{a_restored_card_goes_on}
use Rattle.model_image.proofs.Whole.{images_are_read}
use Rattle.model_image.specs.Images.{Saved, image_of}
use Rattle.model_image.specs.Laws.{AreSameCards}
use Rattle.model_image.specs.Restored.{noted_in}
use Rattle.model_image.specs.Same.{IsSame}
use Rattle.model_image.specs.Sound.{IsSaved}
use Rattle.model_line.specs.Line.{link_count}
use Rattle.model_line.specs.declared.config.Config.{Config}
use Rattle.model_timed.specs.Changes.{Marks, standing}
use Rattle.lapd_sim.specs.Boards.{OnBoard}
use Rattle.lapd_sim.specs.Stands.{ClockStands}
use Rattle.lapd_sim.specs.machine.Images.{changed, is_octets, moment_of, moments_of, saved}
use Rattle.lapd_sim.specs.machine.Setup.{Setup}
use Rattle.lapd_sim.proofs.Restoring.Lines.{card-same, teis-same}

-- The moments that are saved are those noted.
moments-at : (c : Config) (marks : Marks) (line number : ℕ) → line < c.lines → number < link_count c → get_or (get_or (changed c marks) line []) number 0 ≡ (marks line number).moment
moments-at c marks line number in_lines in_links =
    ap (λ row. get_or row number 0) (get_or-map-range_with_len (moments_of c marks) 0 c.lines line line [] in_lines (omega arith))
    ∙ get_or-map-range_with_len (moment_of marks line) 0 (link_count c) number number 0 in_links (omega arith)

-- What is restored of the image of a setup, on a card of frames.
module _ (m : Setup) (octets : List ℕ) (card : AnyCard) (waits : List ℕ) (timers : Option CardTimers)
    (is_saved : IsSaved (saved m)) (is : image_of (saved m) ≡ octets) (h : IsRestoredFrom octets card waits timers) where
  abbrev t : Saved
  t = h.saved

  abbrev a : Card
  a = m.board.card.card

  restored : IsSame (saved m) t
  restored = images_are_read (saved m) t is_saved h.restored.saved (is ∙ sym h.restored.same)

  cards : AreSameCards a t.card
  cards = record { config = restored.config; lines = restored.lines }

  clock : t.clock ≡ Some m.clock
  clock = (a_restored_card_goes_on (saved m) t is_saved (record { saved = h.restored.saved; same = h.restored.same ∙ sym is })).clock

  may : MayBeSaved timers (Some m.clock) t
  may = subst (λ c. MayBeSaved timers c t) clock h.stands.kept

  standing-is : (line number : ℕ) → standing number (line_at line a) ≡ standing number (line_at line t.card)
  standing-is line number = standing-same line number a t.card is_saved.card h.restored.saved.card cards

  -- It stands for the card of the setup.
  module _ (old : AnyCard) (kind : m.board.kind ≡ Frames) (on : OnBoard old m.board) (stands : FrameCardStands (frames_of old) a) where
    kind-is : kind_of card ≡ Frames
    kind-is = h.stands.kind ∙ ap (λ b. cond b Octets Frames) (sym restored.kind ∙ ap is_octets kind)

    lines-are : FrameCardStands (frames_of card) a
    lines-are = card-same shelf_of (frames_of card) a t.card is_saved.card h.restored.saved.card cards stands.reached h.stands.lines

    on_frames : (k : AnyCard) → kind_of k ≡ Frames → FrameCardStands (frames_of k) a → m.board.config ≡ config_of k → OnBoard k m.board
    on_frames (rust.Frames f) k-is k-stands k-config = record { kind = kind; config = k-config; stands = k-stands }
    on_frames (rust.Octets o) k-is k-stands k-config = absurd (cc)

    pub on-board : OnBoard card m.board
    on-board = on_frames card kind-is lines-are (on.config ∙ sym stands.config ∙ lines-are.config)

    pub counters-are : counters_of card ≡ m.counters
    counters-are = h.stands.counted ∙ sym restored.counted

  -- So do the timers, which it has.
  module _ (new before : CardTimers) (its : MayBeSaved (Some new) (Some m.clock) t) (old : ClockStands (Some before) a m.clock m.marks) where
    on-is : IsOn t.card ≡ IsOn a
    on-is = λ i line place tei. sym (teis-same a t.card is_saved.card h.restored.saved.card cards place line) i ≡ Some tei

    stands-again : ClockStands (Some new) a m.clock m.marks
    stands-again = record {
      timed = record {
        reached = old.timed.reached;
        clock_is = record {
          lines = ap (λ (c : Config). c.lines) cards.config ∙ its.stand.clock_is.lines;
          terminals = ap (λ (c : Config). c.terminals) cards.config ∙ its.stand.clock_is.terminals;
          now = its.stand.clock_is.now;
          lengths = its.stand.clock_is.lengths;
          running = its.stand.clock_is.running;
          places = subst (λ P. Holds new.lines (2 * new.terminals) (slot_of new.terminals) (line_slot_of new.terminals) P new.moments) on-is its.stand.clock_is.places;
          within_hour = its.stand.clock_is.within_hour;
        };
        same = old.timed.same;
      };
      noted = record {
        lines_are = ap (λ (c : Config). c.lines) cards.config ∙ its.noted.lines_are;
        terminals_are = ap (λ (c : Config). 2 * c.terminals) cards.config ∙ its.noted.terminals_are;
        links_are = its.noted.links_are;
        count = its.noted.count;
        as_many = its.noted.as_many;
        up_to_date = λ line number in_lines in_links. state line number (within line in_lines) (within-links number in_links);
        held = λ line number in_lines in_links. its.noted.held line number in_lines in_links ∙ mark line number (within line in_lines) (within-links number in_links);
      };
    }
      where
        within : (line : ℕ) → line < new.lines → line < a.config.lines
        within line h = subst (λ n. line < n) (sym (ap (λ (c : Config). c.lines) cards.config ∙ its.noted.lines_are)) h

        within-links : (number : ℕ) → number < 2 * new.terminals → number < link_count a.config
        within-links number h = subst (λ n. number < n) (sym (ap (λ (c : Config). 2 * c.terminals) cards.config ∙ its.noted.terminals_are)) h

        state : (line number : ℕ) → line < a.config.lines → number < link_count a.config → (m.marks line number).state ≡ standing number (line_at line a)
        state line number in_lines in_links =
            old.noted.up_to_date line number (subst (λ n. line < n) old.noted.lines_are in_lines) (subst (λ n. number < n) old.noted.terminals_are in_links)

        mark : (line number : ℕ) → line < a.config.lines → number < link_count a.config → noted_in t line number ≡ m.marks line number
        mark line number in_lines in_links =
            let state-is = sym (standing-is line number) ∙ sym (state line number in_lines in_links) in
            let moment-is = ap (λ rows. get_or (get_or rows line []) number 0) (sym restored.changed) ∙ moments-at a.config m.marks line number in_lines in_links in
            λ i. record { state = state-is i; moment = moment-is i }

  pub clock-stands : (before : Option CardTimers) → ClockStands before a m.clock m.marks → ClockStands timers a m.clock m.marks
  clock-stands None old = absurd old.timed
  clock-stands (Some before) old = go timers may
    where
      go : (o : Option CardTimers) → MayBeSaved o (Some m.clock) t → ClockStands o a m.clock m.marks
      go None its = absurd its
      go (Some new) its = stands-again new before its old

-- ---- what a card and its timers stand for, as it is saved

none-wait : (lines links : ℕ) → lines ≤ 64 → map number_of (replicate lines (replicate links false)) ≡ take lines (replicate 64 0)
none-wait lines links few =
    alike lines (replicate links false) 0 (none-set links) ∙ sym (take-replicate lines 64 0 few)
  where
    alike : (n : ℕ) (x : List Bool) (y : ℕ) → number_of x ≡ y → map number_of (replicate n x) ≡ replicate n y
    alike zero x y is = refl
    alike (suc n) x y is = λ i. is i ∷ alike n x y is i

    none-set : (n : ℕ) → number_of (replicate n false) ≡ 0
    none-set zero = refl
    none-set (suc n) = omega (arith, none-set n)

kind-in : (k : CardKind) → k ≡ (cond (is_octets k) Octets Frames)
kind-in Octets = refl
kind-in Frames = refl

pub stands-for : (m : Setup) (card : AnyCard) (timers : Option CardTimers) → OnBoard card m.board → FrameCardStands (frames_of card) m.board.card.card → counters_of card ≡ m.counters
    → ClockStands timers m.board.card.card m.clock m.marks → m.board.card.card.config.lines ≤ 64 → StandsFor card (replicate 64 0) timers (saved m)
stands-for m card None on lines counters h few = absurd h.timed
stands-for m card (Some timers) on lines counters h few =
    let c = m.board.card.card.config in
    record {
      kind = sym on.kind ∙ kind-in m.board.kind;
      lines = lines;
      counted = counters;
      waiting = none-wait c.lines (link_count c) few;
      kept = record {
        stand = h.timed;
        noted = record {
          lines_are = h.noted.lines_are;
          terminals_are = h.noted.terminals_are;
          links_are = h.noted.links_are;
          count = h.noted.count;
          as_many = h.noted.as_many;
          up_to_date = λ line number in_lines in_links. refl;
          held = λ line number in_lines in_links.
              let state-is = h.noted.up_to_date line number in_lines in_links in
              let moment-is = sym (moments-at c m.marks line number (subst (λ n. line < n) (sym h.noted.lines_are) in_lines) (subst (λ n. number < n) (sym h.noted.terminals_are) in_links)) in
              h.noted.held line number in_lines in_links ∙ (λ i. record { state = state-is i; moment = moment-is i });
        };
        rows = record {
          lines = length-map-range_with_len (moments_of c m.marks) 0 c.lines;
          links = rows-are c m.marks (range_with_len 0 c.lines);
        };
      };
    }
  where
    rows-are : (c : Config) (marks : Marks) (ns : List ℕ) → All (λ row. length row ≡ link_count c) (map (moments_of c marks) ns)
    rows-are c marks [] = All-nil (λ (row : List ℕ). length row ≡ link_count c)
    rows-are c marks (n ∷ ns) = All-cons (λ (row : List ℕ). length row ≡ link_count c) (moments_of c marks n) (map (moments_of c marks) ns) (length-map-range_with_len (moment_of marks n) 0 (link_count c)) (rows-are c marks ns)
