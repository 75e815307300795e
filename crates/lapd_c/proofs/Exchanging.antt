-- One step more of an exchange.
use Rattle.lapd_c.proofs.Vocabulary.{◌≡◌, ℕ, suc, ◌+◌, ◌-◌, true, false, not, List, refl, sym, ap, ◌∙◌, subst, arith, meanings-count, octets-more, all_counted, moments, meant_all, Counters, OctetCard, PlainReport, ShowsReply, AnyStands, with_ports, tells_nothing, step_event, steps_made, card_after, answer_after, with_step, given_after, AllQuiet}
use Rattle.lapd_card.specs.Kinds.{counters_of}
use Rattle.lapd_card.specs.Stands.{meaning_counted}
use Rattle.lapd_timed.specs.Called.{CalledOfOctets}
use Rattle.lapd_timed.specs.declared.timed_card.TimedCard.{TimedCard}
use Rattle.lapd_timed.proofs.Led.{octets-led}
use Rattle.model_card.specs.ports.Card.{after, answer}
use Rattle.model_card.specs.ports.Run.{Run}
use Rattle.model_card.proofs.OfPorts.Fold.{run_is_moments}
use Rattle.model_card.specs.ports.Port.{Answer}
use Rattle.lapd_c.specs.Kept.{CarryOutAll}
use Rattle.lapd_c.proofs.Timing.{none-carried, one-carried}

module _ (line : ℕ) (taken : List ℕ) (from : ℕ) (m : OctetCard) where
  -- the counters after n steps
  abbrev counted_after : List Counters → ℕ → List Counters
  counted_after before n = all_counted before (moments m.card (meant_all m (steps_made line taken from n)))

  -- where it is after n steps, what was counted of them, and what became of its timers
  pub record Made (before : TimedCard) (n : ℕ) (now : TimedCard) (given given' : List ℕ) : Type 0 where
    pub stands : AnyStands now.card (with_ports (card_after line taken from n m))
    pub counted : counters_of now.card ≡ counted_after (counters_of before.card) n
    pub carried : CarryOutAll (steps_made line taken from n) m before.timers now.timers
    pub octets : given' ≡ given_after line taken from n m given

  pub made-none : (timed : TimedCard) (given : List ℕ) → AnyStands timed.card (with_ports m) → Made timed 0 timed given given
  unfolding steps_made moments meant_all given_after
  made-none timed given s = record { stands = s; counted = refl; carried = none-carried m timed.timers; octets = refl }

  pub card-more : (n : ℕ) → after (step_event line taken (from + n)) (card_after line taken from n m) ≡ card_after line taken from (suc n) m
  unfolding steps_made
  card-more n = sym (ap (λ (r : Run). r.card) (octets-more m (steps_made line taken from n) (step_event line taken (from + n))))

  -- what a step counts
  counted-more : (before : List Counters) (n : ℕ) → meaning_counted (counted_after before n) (card_after line taken from n m) (step_event line taken (from + n)) ≡ counted_after before (suc n)
  unfolding steps_made
  counted-more before n = sym (meanings-count before m (steps_made line taken from n) (step_event line taken (from + n)))

  -- what a step makes of the card, of the counters, of the timers and of the octets given
  pub made-more : (before : TimedCard) (n step : ℕ) (mid now : TimedCard) (given given' given'' : List ℕ) {a : Answer} → step ≡ from + n → Made before n mid given given' → CalledOfOctets (step_event line taken step) a mid now
      → given'' ≡ with_step step (answer (step_event line taken step) (card_after line taken from n m)) given' → Made before (suc n) now given given''
  unfolding given_after steps_made
  made-more before n step mid now given given' given'' {a} e h called gave =
      let its = subst (λ (s : ℕ). CalledOfOctets (step_event line taken s) a mid now) e called in
      let led = octets-led (step_event line taken (from + n)) mid.card now.card its.leads in record {
        stands = subst (λ (x : OctetCard). AnyStands now.card (with_ports x)) (card-more n) (led.stands (card_after line taken from n m) h.stands);
        counted = led.counted (card_after line taken from n m) h.stands ∙ ap (λ all. meaning_counted all (card_after line taken from n m) (step_event line taken (from + n))) h.counted ∙ counted-more (counters_of before.card) n;
        carried = one-carried (steps_made line taken from n) m before.timers mid now h.carried (subst (λ (x : OctetCard). AnyStands mid.card (with_ports x)) (run_is_moments.card m (steps_made line taken from n)) h.stands) its;
        octets = gave ∙ ap (λ (s : ℕ). with_step s (answer (step_event line taken s) (card_after line taken from n m)) given') e ∙ ap (with_step (from + n) (answer_after line taken from n m)) h.octets;
      }

  -- so many steps are those from the first to the last
  pub made-to : (before : TimedCard) (n : ℕ) (now : TimedCard) (given given' : List ℕ) (to : ℕ) → to ≡ from + n → Made before n now given given' → Made before (to - from) now given given'
  made-to before n now given given' to e made = let less : n ≡ to - from = omega arith in subst (λ k. Made before k now given given') less made

  pub quiet-made : (n step : ℕ) → step ≡ from + n → AllQuiet line taken from n m → false ≡ not (tells_nothing (answer (step_event line taken step) (card_after line taken from n m)))
      → AllQuiet line taken from (suc n) m
  unfolding AllQuiet
  quiet-made n step e h tells = grind arith

  pub quiet-none : AllQuiet line taken from 0 m
  unfolding AllQuiet
  quiet-none = tt

  pub tells-made : (n step : ℕ) → step ≡ from + n → true ≡ not (tells_nothing (answer (step_event line taken step) (card_after line taken from n m)))
      → tells_nothing (answer_after line taken from n m) ≡ false
  tells-made n step e tells = grind arith

  pub shown-made : (n step : ℕ) (r : PlainReport) → step ≡ from + n → ShowsReply r (answer (step_event line taken step) (card_after line taken from n m))
      → ShowsReply r (answer_after line taken from n m)
  shown-made n step r e h = subst (λ (s : ℕ). ShowsReply r (answer (step_event line taken s) (card_after line taken from n m))) e h
