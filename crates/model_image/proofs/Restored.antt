-- A card that is restored goes on.
use Rattle.std.proofs.Common.{◌≡◌, ℕ, ◌<◌, Bool, List, [], ◌∷◌, ◌++◌, append-nil, append_assoc, get_or, replicate, Option, Some, None, refl, sym, ap, ◌∙◌, subst, nat_le, cond, arith}
use Rattle.std.specs.List.{AllByRecursion}
use Rattle.std.specs.Prelude.{fold, IfSome}
use Rattle.std.proofs.lemmas.List.Sums.{fold-append}
use Rattle.lapd_clock.specs.Timers.{Expiry}
use Rattle.model_line.specs.Event.{Answer}
use Rattle.model_line.specs.Laws.{orders_in}
use Rattle.model_line.specs.declared.config.Config.{Config}
use Rattle.model_card.specs.Card.{Card}
use Rattle.model_card.specs.Event.{Event}
use Rattle.model_card.specs.Machine.{answer, after as card_after}
use Rattle.model_card.specs.Run.{one_more, run, Run}
use Rattle.model_card.specs.Reached.{MayBegin}
use Rattle.model_card.specs.Sound.{IsSound}
use Rattle.model_card.specs.ports.Card as octets
use Rattle.model_card.specs.ports.Card.{OctetCard, with_fresh_ports}
use Rattle.model_card.specs.ports.Event.{Event as OctetEvent}
use Rattle.model_card.specs.ports.Port.{fresh_port}
use Rattle.model_card.proofs.Reaching.{reached-first}
use Rattle.model_card.proofs.OfPorts.Reaching.{reached_first}
use Rattle.model_timed.specs.Changes.{Marks, itself, inside, marks_after}
use Rattle.model_timed.specs.Clock.{Clock, due, first_due}
use Rattle.model_timed.specs.Frames.{frames}
use Rattle.model_timed.specs.Octets as timed_octets
use Rattle.model_timed.specs.RunTheSame.{Stands}
use Rattle.model_timed.specs.Timed.{Step, ArePrompt, after}
use Rattle.model_timed.proofs.RunTheSame.{stepped, octet-stepped}
use Rattle.model_image.specs.Images.{Saved}
use Rattle.model_image.specs.Laws.{AreSameCards}
use Rattle.model_image.specs.Restored.{RestoredCardsAreReached, AreSameOctetCards, TimedGoesOn, TimedOctetsGoOn, noted_in, beside, ARestoredCardGoesOn}
use Rattle.model_image.specs.Same.{AreSameClocks}
use Rattle.model_image.specs.Sound.{IsClockOf, IsSaved}
use Rattle.model_image.proofs.GoOnCards.{cards_go_on}
use Rattle.model_image.proofs.GoOnOctets.{frames-once, octets-once, octets_go_on}
use Rattle.model_image.proofs.GoOnMarks.{standing-same}
use Rattle.model_image.proofs.GoOnTimed.{all-steps, all-marks}
use Rattle.model_image.proofs.SameClocks.{same-clocks}
use Rattle.model_image.proofs.Whole.{images_are_read}

-- ---- it is reached

stands-beside : (t : Saved) → IsSaved t → (o : Option Clock) → IfSome o (IsClockOf t.card) → IfSome o (Stands t.card)
stands-beside t saved None none = tt
stands-beside t saved (Some c) clock =
    record { sound = saved.card; are_timed = saved.timed; in_order = clock.in_order; one_each = clock.one_each; on_lines = clock.on_lines; run = clock.running }

pub restored_cards_are_reached : RestoredCardsAreReached
restored_cards_are_reached image t h =
    let begins : MayBegin t.card = record { sound = h.saved.card; timed = h.saved.timed } in
    record {
      frames = reached-first t.card begins;
      octets = reached_first t.card begins;
      clock = stands-beside t h.saved t.clock h.saved.clock;
    }

-- ---- beside a clock

-- what is due is of a timer that runs first
first-line : (lines : ℕ) (x : Expiry) (es : List Expiry) (now : ℕ) → AllByRecursion (λ (e : Expiry). e.line < lines) es → first_due es now ≡ Some x → x.line < lines
first-line lines x [] now on is = absurd (cc)
first-line lines x (e ∷ es) now on is = subst (λ (y : Expiry). y.line < lines) (the-same (nat_le e.moment now) is) on.0
  where
    the-same : (b : Bool) → cond b (Some e) None ≡ Some x → e ≡ x
    the-same b is = grind arith

record SameFrames (a b : Card) : Type 0 where
  sound : IsSound a
  also : IsSound b
  cards : AreSameCards a b

record SameOctets (m n : OctetCard) : Type 0 where
  sound : IsSound m.card
  also : IsSound n.card
  cards : AreSameOctetCards m n

-- one event of each kind, where it may happen; and what falls due may
frames-step : (e : Event) (a b : Card) → SameFrames a b → e.line < a.config.lines → (answer e a ≡ answer e b) × (frames.orders e a ≡ frames.orders e b) × SameFrames (frames.after e a) (frames.after e b)
frames-step e a b same here =
    let one = frames-once e a b same.sound same.also same.cards here in
    (one.answers, ap orders_in one.answers, record { sound = one.sound; also = one.also; cards = one.cards })

octets-step : (e : OctetEvent) (m n : OctetCard) → SameOctets m n → e.line < m.card.config.lines
    → (octets.answer e m ≡ octets.answer e n) × (timed_octets.octets.orders e m ≡ timed_octets.octets.orders e n) × SameOctets (timed_octets.octets.after e m) (timed_octets.octets.after e n)
octets-step e m n same here =
    let one = octets-once e m n same.sound same.also same.cards here in
    (one.answers, ap timed_octets.orders_in one.answers, record { sound = one.sound; also = one.also; cards = one.cards })

falls-here : (x : Expiry) (a : Card) (c : Clock) → Stands a c → due c ≡ Some x → x.line < a.config.lines
falls-here x a c good is = first-line a.config.lines x c.running c.now good.on_lines is

-- what they show
timed-goes : (late : ℕ) (steps : List (Step Event)) (a b : Card) (c : Clock) → SameFrames a b → Stands a c → ArePrompt frames late steps (beside a c) → TimedGoesOn (beside a c) (beside b c) steps
timed-goes late steps a b c same good prompt =
    let all = all-steps frames answer late SameFrames Stands (λ e a. e.line < a.config.lines) frames-step (λ e a happens. happens.0) falls-here
    (λ s a c good prompt. stepped late s (beside a c) good prompt) steps a b c same good prompt in
    (all.0, all.1, all.2.cards)

timed-octets-go : (late : ℕ) (steps : List (Step OctetEvent)) (m n : OctetCard) (c : Clock) → SameOctets m n → Stands m.card c → ArePrompt timed_octets.octets late steps (beside m c)
    → TimedOctetsGoOn (beside m c) (beside n c) steps
timed-octets-go late steps m n c same good prompt =
    let all = all-steps timed_octets.octets octets.answer late SameOctets (λ m c. Stands m.card c) (λ e m. e.line < m.card.config.lines) octets-step (λ e m happens. happens.0)
    (λ x m c good is. falls-here x m.card c good is) (λ s m c good prompt. octet-stepped late s (beside m c) good prompt) steps m n c same good prompt in
    (all.0, all.1, all.2.cards)

-- and what is noted of a link
noted-goes : (line number late : ℕ) (steps : List (Step Event)) (a b : Card) (c : Clock) (m n : Marks) → SameFrames a b → Stands a c → ArePrompt frames late steps (beside a c)
    → m line number ≡ n line number → marks_after frames itself steps (beside a c) m line number ≡ marks_after frames itself steps (beside b c) n line number
noted-goes line number late =
    all-marks frames answer late SameFrames Stands (λ e a. e.line < a.config.lines) frames-step (λ e a happens. happens.0) falls-here (λ s a c good prompt. stepped late s (beside a c) good prompt)
    itself line number (λ a b same. standing-same line number a b same.sound same.also same.cards)

noted-octets-go : (line number late : ℕ) (steps : List (Step OctetEvent)) (a b : OctetCard) (c : Clock) (m n : Marks) → SameOctets a b → Stands a.card c
    → ArePrompt timed_octets.octets late steps (beside a c) → m line number ≡ n line number
    → marks_after timed_octets.octets inside steps (beside a c) m line number ≡ marks_after timed_octets.octets inside steps (beside b c) n line number
noted-octets-go line number late =
    all-marks timed_octets.octets octets.answer late SameOctets (λ m c. Stands m.card c) (λ e m. e.line < m.card.config.lines) octets-step (λ e m happens. happens.0)
    (λ x m c good is. falls-here x m.card c good is) (λ s m c good prompt. octet-stepped late s (beside m c) good prompt)
    inside line number (λ m n same. standing-same line number m.card n.card same.sound same.also same.cards.cards)

-- ---- it goes on

clocks-same : (a b : Card) → a.config ≡ b.config → (c d : Option Clock) → IfSome c (IsClockOf a) → IfSome d (IsClockOf b) → AreSameClocks a.config.lines c d → d ≡ c
clocks-same a b config None None one also same = refl
clocks-same a b config None (Some d) one also same = absurd same
clocks-same a b config (Some c) None one also same = absurd same
clocks-same a b config (Some c) (Some d) one also same =
    ap Some (sym (same-clocks a.config.lines c d one.in_order also.in_order one.one_each also.one_each one.on_lines
    (subst (λ (x : Config). AllByRecursion (λ (e : Expiry). e.line < x.lines) d.running) (sym config) also.on_lines) same))

-- A run from any card on is the run before, and then that of the card where it leads.
replies-then : (events : List Event) (card : Card) (rs : List (ℕ × Answer)) → (fold one_more (record { card = card; replies = rs }) events).replies ≡ rs ++ (run card events).replies
replies-then [] card rs = sym (append-nil rs)
replies-then (e ∷ events) card rs =
    let next : Card = card_after e card in
    let one : List (ℕ × Answer) = (e.line, answer e card) ∷ [] in
    replies-then events next (rs ++ one) ∙ append_assoc rs one (run next events).replies ∙ ap (λ qs. rs ++ qs) (sym (replies-then events next one))

runs-on : (first : Card) (before events : List Event) → (run first (before ++ events)).replies ≡ (run first before).replies ++ (run (run first before).card events).replies
runs-on first before events =
    ap (λ (r : Run). r.replies) (fold-append one_more (record { card = first; replies = [] }) before events) ∙ replies-then events (run first before).card (run first before).replies

pub a_restored_card_goes_on : ARestoredCardGoesOn
a_restored_card_goes_on s t saved h =
    let same = images_are_read s t saved h.saved (sym h.same) in
    let cards : AreSameCards s.card t.card = record { config = same.config; lines = same.lines } in
    let anew : AreSameOctetCards (with_fresh_ports s.card) (with_fresh_ports t.card) =
    record { cards = cards; ports = ap (λ (c : Config). replicate c.lines fresh_port) same.config } in
    let noted : (line number : ℕ) → noted_in s line number ≡ noted_in t line number =
    λ line number. let state = standing-same line number s.card t.card saved.card h.saved.card cards in
    λ i. record { state = state i; moment = get_or (get_or (same.changed i) line []) number 0 } in
    record {
      frames = λ events at. cards_go_on s.card t.card events saved.card h.saved.card cards at;
      octets = λ events at. octets_go_on (with_fresh_ports s.card) (with_fresh_ports t.card) events saved.card h.saved.card anew at;
      observed = λ first before events there at.
          runs-on first before events
          ∙ ap (λ (qs : List (ℕ × Answer)). (run first before).replies ++ qs)
          (ap (λ (card : Card). (run card events).replies) there ∙ (cards_go_on s.card t.card events saved.card h.saved.card cards at).replies);
      clock = clocks-same s.card t.card same.config s.clock t.clock saved.clock h.saved.clock same.clock;
      timed = λ c late steps stands prompt.
          timed-goes late steps s.card t.card c (record { sound = saved.card; also = h.saved.card; cards = cards }) stands prompt;
      timed_octets = λ c late steps stands prompt.
          timed-octets-go late steps (with_fresh_ports s.card) (with_fresh_ports t.card) c (record { sound = saved.card; also = h.saved.card; cards = anew }) stands prompt;
      noted = λ c late steps marks stands prompt line number e.
          noted-goes line number late steps s.card t.card c marks (noted_in t) (record { sound = saved.card; also = h.saved.card; cards = cards }) stands prompt (e ∙ noted line number);
      noted_octets = λ c late steps marks stands prompt line number e.
          noted-octets-go line number late steps (with_fresh_ports s.card) (with_fresh_ports t.card) c marks (noted_in t)
          (record { sound = saved.card; also = h.saved.card; cards = anew }) stands prompt (e ∙ noted line number);
    }
