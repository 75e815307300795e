-- One line of a card, taken out of its lines and put back.
use Rattle.lapd_card.proofs.Vocabulary.{◌≡◌, ℕ, ◌≤◌, ◌<◌, List, [], length, refl, sym, ap, subst, ◌∙◌, arith, false, get_or, set, length-set, get_or_default, get_or-map, map, map-set, none_counted, with_all, ranges_of, Config, Owned, Store, SameLimits, FocusPair, focus_pair, held_of, stands_on, FrameLine, config_of, Card, line_at, at, wants_room, moment_counted, reached-after, reached-sound, Held}
use Rattle.lapd_card.proofs.Vocabulary.{line_count, counters_of, IsFit, owned, LinesStand, FrameStands, HasPast, Leads}
use Rattle.lapd_line.specs.Stands as line
use Rattle.model_line.specs.Counted.{shown}
use Rattle.model_line.specs.Event as line_event
use Rattle.model_line.specs.Line as machine
use Rattle.model_line.specs.Machine as lines
use Rattle.lapd_line.specs.Waiting.{has_next}
use Rattle.lapd_card.specs.Waiting.{waits_on}
use Rattle.lapd_line.specs.Marks.{AreMarked}
use Rattle.lapd_line.specs.declared.marks.Marks.{Marks}
use Rattle.lapd_card.proofs.Served.{after_served, answer_served}
use Rattle.lapd_card.proofs.Waiting.{Looked, waiting_set}

-- A call at a line of a card, as it finds them: the card has a past, and the line is there.
pub record Found {S : Type 0} (store : S → Store) (card self : Held S) (i : ℕ) (x : FrameLine) : Type 0 where
  pub past : HasPast store card
  pub same : card ≡ self
  pub within : i < line_count self
  pub is : x ≡ get_or card.lines i x

-- A line stands for its part of the machine, beside what the other lines own; and whatever it and the shelf are
-- afterwards, if it stands for another line of the machine, the lines stand with that in its place.
pub record Focused (c : Config) (lines : List FrameLine) (s : Store) (ms : List machine.Line) (i : ℕ) (x : FrameLine) : Type 0 where
  pub config : config_of x ≡ c
  pub rest : List Owned
  pub stands : line.LineStands x s rest (get_or ms i (machine.fresh_line c))
  pub back : (t : Store) (y : FrameLine) (l : machine.Line) → SameLimits s t → config_of y ≡ config_of x → line.LineStands y t rest l → LinesStand c (set lines i y) t (set ms i l)

pub focused : (c : Config) (lines : List FrameLine) (s : Store) (ms : List machine.Line) (i : ℕ) (x : FrameLine) → i < length lines → x ≡ get_or lines i x → LinesStand c lines s ms → Focused c lines s ms i x
focused c lines s ms i x within is stand =
    let l = get_or ms i (machine.fresh_line c) in
    let within_ms : i < length ms = omega (arith, within, stand.count) in
    let is_l : l ≡ get_or ms i l = get_or_default ms i (machine.fresh_line c) l within_ms in
    let focus = focus_pair owned (IsFit c) s lines ms i x l [] within within_ms is is_l stand.fit stand.held in
    let fit = focus.holds in
    record {
      config = fit.config;
      rest = focus.rest;
      stands = stands_on x fit.store fit.others l fit.stands s focus.rest (subst (λ d. d.n201 ≤ s.width) (sym fit.config) stand.width) focus.held;
      back = put_back l within_ms focus;
    }
  where
    put_back : (m : machine.Line) → i < length ms → (focus : FocusPair owned (IsFit c) s lines ms i x m []) → (t : Store) (y : FrameLine) (l : machine.Line) → SameLimits s t → config_of y ≡ config_of x → line.LineStands y t focus.rest l → LinesStand c (set lines i y) t (set ms i l)
    put_back m within_ms focus t y l limits config stands =
        let both = focus.back t y l (record { config = config ∙ focus.holds.config; store = t; others = focus.rest; stands = stands }) (held_of y t focus.rest l stands) in
        record {
          width = subst (λ n. c.n201 ≤ n) (sym limits.width) stand.width;
          count = omega (arith, stand.count, length-set lines i y, length-set ms i l);
          fit = both.0;
          held = both.1;
        }

module _ {S : Type 0} (store : S → Store) where
  -- a card has as many lines as its configuration says, and few
  pub lines-all : (card : Held S) → HasPast store card → length card.lines ≡ line_count card
  lines-all card (m, s) = s.lines.count ∙ (reached-sound m s.reached).count ∙ ap (λ c. c.lines) s.config

  pub line-there : (card self : Held S) (i n : ℕ) → HasPast store card → card ≡ self → i < line_count self → n ≡ length card.lines → i < n
  line-there card self i n past same within is = subst (λ n. i < n) (sym (is ∙ lines-all card past)) (subst (λ c. i < line_count c) (sym same) within)

  -- so each has its mark
  pub few_line : {card self : Held S} {i : ℕ} → HasPast store card → card ≡ self → i < line_count self → i < 64
  few_line {card} {self} {i} (m, s) same within =
      let few : m.config.lines ≤ 64 = (ranges_of m.config s.reached.config).lines.most in
      let there : i < line_count card = subst (λ c. i < line_count c) (sym same) within in
      omega (arith, few, there, ap (λ c. c.lines) s.config)

  -- the lines that are marked, of few
  pub few_card : {card self : Held S} → card ≡ self → (m : Card) → FrameStands store self m
      → AreMarked card.waiting (waits_on m) × (line_count self ≡ m.config.lines) × (line_count self ≤ 64)
  few_card {card} {self} same m s =
      let most : m.config.lines ≤ 64 = (ranges_of m.config s.reached.config).lines.most in
      let all : line_count self ≡ m.config.lines = ap (λ c. c.lines) (sym s.config) in
      ((subst (λ c. FrameStands store c m) (sym same) s).waiting, all, omega (arith, most, all))

  pub few-lines : (card : Held S) → HasPast store card → length card.lines ≤ 64
  few-lines card o = grind (arith, ranges_of, reached-sound)

  module _ {card self : Held S} {i : ℕ} {x : FrameLine} (call : Found store card self i x) where
    focused_at : (m : Card) → FrameStands store self m → Focused m.config card.lines (store card.shelf) m.lines i x
    focused_at m stood =
        let s = subst (λ c. FrameStands store c m) (sym call.same) stood in
        focused m.config card.lines (store card.shelf) m.lines i x (line-there card self i (length card.lines) call.past call.same call.within refl) call.is
        (subst (λ c. LinesStand c card.lines (store card.shelf) m.lines) (sym s.config) s.lines)

    -- it stands for a line of a machine
    pub one_serves : (others : List Owned) × (l : machine.Line) × line.LineStands x (store card.shelf) others l
    one_serves =
        let (m, s) = call.past in
        let focus = focused_at m (subst (λ c. FrameStands store c m) call.same s) in
        (focus.rest, line_at i m, focus.stands)

    -- it has the card's configuration
    pub has_config : config_of x ≡ self.config
    has_config =
        let (m, s) = call.past in
        let stood = subst (λ c. FrameStands store c m) call.same s in
        (focused_at m stood).config ∙ stood.config

    -- what is said of every past of the line is said of the line of the machine
    pub one_holds : (P : Config → machine.Line → Type 0) → ((others : List Owned) (l : machine.Line) → line.LineStands x (store card.shelf) others l → P (config_of x) l)
        → (m : Card) → FrameStands store self m → P m.config (line_at i m)
    one_holds P holds m s =
        let focus = focused_at m s in
        subst (λ d. P d (line_at i m)) focus.config (holds focus.rest (line_at i m) focus.stands)

    pub one_says : {X : Type 0} (f : Config → machine.Line → X) (r : X) → ((others : List Owned) (l : machine.Line) → line.LineStands x (store card.shelf) others l → r ≡ f (config_of x) l)
        → (m : Card) → FrameStands store self m → r ≡ f m.config (line_at i m)
    one_says f r says = one_holds (λ c l. r ≡ f c l) says

    -- its counters are those at its place
    pub counters_at : counters_of x ≡ get_or (map counters_of self.lines) i none_counted
    counters_at =
        ap counters_of call.is ∙ sym (get_or-map counters_of card.lines i x none_counted (line-there card self i (length card.lines) call.past call.same call.within refl))
        ∙ ap (λ c. get_or (map counters_of c.lines) i none_counted) call.same

    -- what a call on it does, it does among all, where it finds room
    pub one_leads : (e : line_event.Event) (y : FrameLine) (t : S) (w : Marks) → line.Leads e x (store card.shelf) y (store t) → Looked i card.waiting y w
        → ((m : Card) → FrameStands store self m → wants_room (at i e) m ≡ false)
        → Leads store (at i e) self (record { config = card.config; lines = set card.lines i y; shelf = t; waiting = w })
    one_leads e y t w leads looked room = record {
      config = ap (λ c. c.config) call.same;
      stands = λ m s.
          let focus = focused_at m s in
          let is = after_served i e m (room m s) in
          let own = subst (λ c. FrameStands store c m) (sym call.same) s in
          let stands = leads.stands focus.rest (line_at i m) focus.stands in
          let l = lines.after m.config e (line_at i m) in
          let within : i < m.config.lines = subst (λ c. i < c.lines) (sym s.config) call.within in
          let told : looked.told ≡ has_next m.config l =
          looked.says (store t) focus.rest (lines.after (config_of x) e (line_at i m)) stands
          ∙ ap (λ d. has_next d (lines.after (config_of x) e (line_at i m))) (leads.config ∙ focus.config)
          ∙ ap (λ d. has_next m.config (lines.after d e (line_at i m))) focus.config in
          record {
            config = own.config;
            lines = subst (λ n. LinesStand card.config (set card.lines i y) (store t) n.lines) (sym is)
                (subst (λ c. LinesStand c (set card.lines i y) (store t) (set m.lines i (lines.after m.config e (line_at i m)))) own.config
                (focus.back (store t) y _ leads.limits leads.config
                (subst (λ d. line.LineStands y (store t) focus.rest (lines.after d e (line_at i m))) focus.config stands)));
            slots = subst (λ n. card.config.slots ≤ n) (sym leads.limits.slots) own.slots;
            waiting = subst (λ n. AreMarked w (waits_on n)) (sym is)
                (waiting_set i m l looked.told card.waiting w within (omega (arith, within, (reached-sound m s.reached).count)) told looked.sets own.waiting);
            reached = reached-after m (at i e) s.reached (subst (λ c. i < c.lines) (sym s.config) call.within);
          };
      counted = λ m s.
          let focus = focused_at m s in
          let l = line_at i m in
          map-set counters_of card.lines i y
          ∙ ap (set (map counters_of card.lines) i)
          (leads.counted focus.rest l focus.stands ∙ ap (λ d. with_all (counters_of x) (shown d e (lines.answer d e l))) focus.config ∙ ap (λ n. with_all n (shown m.config e (lines.answer m.config e l))) counters_at)
          ∙ ap (λ c. set (map counters_of c.lines) i (with_all (get_or (map counters_of self.lines) i none_counted) (shown m.config e (lines.answer m.config e l)))) call.same
          ∙ ap (λ a. moment_counted (map counters_of self.lines) (record { card = m; event = at i e; answer = a })) (sym (answer_served i e m (room m s)));
    }
