-- Steps of a card that keeps its own timers, of whichever kind: one step more, where the events that they mean lead, and the steps
-- of the timed machine that they are.
use Rattle.std.proofs.Common.{◌≡◌, ℕ, Bool, true, false, cond, List, [], ◌∷◌, ◌++◌, Option, Some, None, option_map, refl, sym, ap, ◌∙◌}
use Rattle.std.proofs.lemmas.List.{append_assoc, append-nil}
use Rattle.std.specs.Prelude.{option_to_list}
use Rattle.std.specs.Option.{option_map_or}
use Rattle.lapd_clock.specs.Timers.{Expiry}
use Rattle.model_timed.specs.Changes.{Marks, Seen, marked}
unfoldable use Rattle.model_timed.specs.Changes.{marks_after}
use Rattle.model_timed.specs.Clock.{due}
use Rattle.model_timed.specs.Timed.{Kind, Timed, Step, happens, time, falls_due, after, event_of, expiry_at, with_expiry}
unfoldable use Rattle.model_timed.specs.Timed.{after_all, events_of}
use Rattle.laws_promises.specs.TimedReply.{Answer}
use Rattle.laws_promises.specs.TimedRun.{AreSteps, answer, if_served, is_refused, is_wrong, served}
unfoldable use Rattle.laws_promises.specs.TimedRun.{served_all, replies, events_in, steps_in}

module _ {Card Event : Type 0} (k : Kind Card Event) where
  -- ---- one step more

  pub served-more : (steps : List (Step Event)) (s : Step Event) (t : Timed Card) → served_all k (steps ++ s ∷ []) t ≡ served k s (served_all k steps t)
  unfolding served_all
  served-more [] s t = refl
  served-more (x ∷ steps) s t = served-more steps s (served k x t)

  pub replies-more : (says : Event → Card → Answer) (steps : List (Step Event)) (s : Step Event) (t : Timed Card)
      → replies k says (steps ++ s ∷ []) t ≡ replies k says steps t ++ ((served k s (served_all k steps t)).clock.now, answer k says s (served_all k steps t)) ∷ []
  unfolding served_all replies
  replies-more says [] s t = refl
  replies-more says (x ∷ steps) s t = ap (λ rs. ((served k x t).clock.now, answer k says x t) ∷ rs) (replies-more says steps s (served k x t))

  pub events-more : (steps : List (Step Event)) (s : Step Event) (t : Timed Card)
      → events_in k (steps ++ s ∷ []) t ≡ events_in k steps t ++ option_to_list (event_of k s (served_all k steps t))
  unfolding served_all events_in
  events-more [] s t = append-nil (option_to_list (event_of k s t))
  events-more (x ∷ steps) s t =
      ap (λ es. option_to_list (event_of k x t) ++ es) (events-more steps s (served k x t))
      ∙ sym (append_assoc (option_to_list (event_of k x t)) (events_in k steps (served k x t)) (option_to_list (event_of k s (served_all k steps (served k x t)))))

  -- what is noted after one step more
  module _ (of : Seen Card) where
    abbrev IsNotedMore : List (Step Event) → Step Event → Timed Card → Marks → Type 0
    IsNotedMore steps s t marks =
        marks_after k of (steps_in k (steps ++ s ∷ []) t) t marks
        ≡ marks_after k of (if_served (served_all k steps t).clock.now s) (served_all k steps t) (marks_after k of (steps_in k steps t) t marks)

    noted-after : (x : Step Event) (steps : List (Step Event)) (s : Step Event) (t : Timed Card) (marks : Marks)
        → ((u : Timed Card) (m : Marks) → IsNotedMore steps s u m) → (b : Bool)
        → let u = cond b t (after k x t) in
        marks_after k of (cond b [] (x ∷ []) ++ steps_in k (steps ++ s ∷ []) u) t marks
        ≡ marks_after k of (if_served (served_all k steps u).clock.now s) (served_all k steps u) (marks_after k of (cond b [] (x ∷ []) ++ steps_in k steps u) t marks)
    unfolding marks_after
    noted-after x steps s t marks all true = all t marks
    noted-after x steps s t marks all false = all (after k x t) (marked of (after k x t) marks)

    pub noted-more : (steps : List (Step Event)) (s : Step Event) (t : Timed Card) (marks : Marks)
        → marks_after k of (steps_in k (steps ++ s ∷ []) t) t marks
        ≡ marks_after k of (if_served (served_all k steps t).clock.now s) (served_all k steps t) (marks_after k of (steps_in k steps t) t marks)
    unfolding served_all steps_in marks_after
    noted-more [] s t marks = ap (λ ss. marks_after k of ss t marks) (append-nil (if_served t.clock.now s))
    noted-more (x ∷ steps) s t marks = noted-after x steps s t marks (λ u m. noted-more steps s u m) (is_refused t.clock.now x)

  -- ---- where the events lead

  module _ (leads : Card → List Event → Card) (nothing : (card : Card) → leads card [] ≡ card) (one : (card : Card) (e : Event) (es : List Event) → leads card (e ∷ es) ≡ leads (k.after e card) es) where
    moved : (b : Bool) (t u : Timed Card) → u.card ≡ t.card → (cond b t u).card ≡ t.card
    moved true t u is = refl
    moved false t u is = is

    abbrev IsLed : List (Step Event) → Timed Card → Type 0
    IsLed steps t = (served_all k steps t).card ≡ leads t.card (events_in k steps t)

    fallen : (steps : List (Step Event)) (t : Timed Card) → ((u : Timed Card) → IsLed steps u) → (o : Option Expiry)
        → let u = option_map_or (with_expiry k t) o t in (served_all k steps u).card ≡ leads t.card (option_to_list (option_map (expiry_at k) o) ++ events_in k steps u)
    fallen steps t all None = all t
    fallen steps t all (Some x) = all (with_expiry k t x) ∙ sym (one t.card (expiry_at k x) (events_in k steps (with_expiry k t x)))

    pub led : (steps : List (Step Event)) (t : Timed Card) → (served_all k steps t).card ≡ leads t.card (events_in k steps t)
    unfolding served_all events_in
    led [] t = sym (nothing t.card)
    led (happens e ∷ steps) t = led steps (after k (happens e) t) ∙ sym (one t.card e (events_in k steps (after k (happens e) t)))
    led (time moment ∷ steps) t =
        let u = served k (time moment) t in
        led steps u ∙ ap (λ card. leads card (events_in k steps u)) (moved (is_wrong moment t.clock.now) t (after k (time moment) t) refl)
    led (falls_due ∷ steps) t = fallen steps t (λ u. led steps u) (due t.clock)

  -- ---- the steps of the timed machine

  -- a moment, and the steps after it, where it is refused and where it is not
  gone-led : (moment : ℕ) (steps : List (Step Event)) (t : Timed Card) → ((u : Timed Card) → served_all k steps u ≡ after_all k (steps_in k steps u) u) → (b : Bool)
      → let u = cond b t (after k (time moment) t) in served_all k steps u ≡ after_all k (cond b [] (time moment ∷ []) ++ steps_in k steps u) t
  unfolding after_all
  gone-led moment steps t all true = all t
  gone-led moment steps t all false = all (after k (time moment) t)

  are-led : (steps : List (Step Event)) (t : Timed Card) → served_all k steps t ≡ after_all k (steps_in k steps t) t
  unfolding served_all steps_in after_all
  are-led [] t = refl
  are-led (happens e ∷ steps) t = are-led steps (after k (happens e) t)
  are-led (time moment ∷ steps) t = gone-led moment steps t (λ u. are-led steps u) (is_wrong moment t.clock.now)
  are-led (falls_due ∷ steps) t = are-led steps (after k falls_due t)

  gone-meant : (moment : ℕ) (steps : List (Step Event)) (t : Timed Card) → ((u : Timed Card) → events_in k steps u ≡ events_of k (steps_in k steps u) u) → (b : Bool)
      → let u = cond b t (after k (time moment) t) in events_in k steps u ≡ events_of k (cond b [] (time moment ∷ []) ++ steps_in k steps u) t
  unfolding events_of
  gone-meant moment steps t all true = all t
  gone-meant moment steps t all false = all (after k (time moment) t)

  are-meant : (steps : List (Step Event)) (t : Timed Card) → events_in k steps t ≡ events_of k (steps_in k steps t) t
  unfolding events_in steps_in events_of
  are-meant [] t = refl
  are-meant (happens e ∷ steps) t = ap (λ es. e ∷ es) (are-meant steps (after k (happens e) t))
  are-meant (time moment ∷ steps) t = gone-meant moment steps t (λ u. are-meant steps u) (is_wrong moment t.clock.now)
  are-meant (falls_due ∷ steps) t = ap (λ es. option_to_list (event_of k falls_due t) ++ es) (are-meant steps (after k falls_due t))

  pub are-steps : AreSteps k
  are-steps = record { leads = are-led; means = are-meant }
