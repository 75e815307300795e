-- No answer is awaited longer at a card of octets, and N200 takes its time there, as at the card of frames inside.
use Rattle.laws_time.specs.Watched.{owed_by, owed_inside}
use Rattle.laws_time.proofs.Vocabulary.{ADeadLineIsTold, ArePrompt, AreStill, Event as FrameEvent, IsToldInTime, List, N200TakesItsTime, NoAnswerIsAwaitedLonger, None, Note, OctetEvent as Event, Option, Service, Some, StaysIn, Step, TimedCard, TimedOctetCard, [], after_all, due, error_in, falls_due, false, flat_map, frames, fresh, is_used_up, least_tries, list_any, news, octets, of_frames}
use Rattle.laws_time.proofs.Vocabulary.{of_octets, refl, state, step_happens as happens, subst, sym, time, ℕ, ◌*◌, ◌+◌, ◌<◌, ◌∷◌, ◌≡◌, ◌≤◌}
use Rattle.model_line.specs.Event as line
use Rattle.laws_time.specs.Silence.{awaiting}
use Rattle.laws_time.proofs.ArrivalsAwaited.{no-answer-is-awaited-longer}
use Rattle.laws_time.proofs.ArrivalsUsedUp.{n200-takes-its-time}
use Rattle.laws_time.proofs.OctetsMean.{inside, meant_at, put, with_octets, next_octets, event-inside, fallen-inside, steps-inside, prompt-inside, news-inside, frame_steps, still-inside}
use Rattle.laws_time.proofs.DeadLine.{a-dead-line-is-told}

module _ (service : Service) (tei number n : ℕ) where
  abbrev Stays : List (Step FrameEvent) → TimedCard → Type 0
  Stays steps t = StaysIn of_frames number service tei n steps t

  abbrev IsThere : TimedCard → Type 0
  IsThere t = state number service tei t.card ≡ Some n

  stays-inside : (steps : List (Step Event)) (t : TimedOctetCard) → StaysIn of_octets number service tei n steps t → StaysIn of_frames number service tei n (frame_steps steps t) (inside t)
  unfolding StaysIn frame_steps
  stays-inside [] t stays = tt
  stays-inside (happens e ∷ steps) t stays = go (meant_at e t.card) refl (stays-inside steps (with_octets e t) stays.1)
    where
      go : (o : Option line.Event) → meant_at e t.card ≡ o → Stays (frame_steps steps (with_octets e t)) (inside (with_octets e t))
          → Stays (put o e.line (frame_steps steps (with_octets e t))) (inside t)
      go None is later = subst (Stays (frame_steps steps (with_octets e t))) (event-inside e t None is) later
      go (Some what) is later = let its = event-inside e t (Some what) is in (subst IsThere its stays.0, subst (Stays (frame_steps steps (with_octets e t))) its later)
  stays-inside (time moment ∷ steps) t stays = (stays.0, stays-inside steps (next_octets (time moment) t) stays.1)
  stays-inside (falls_due ∷ steps) t stays =
      let its = fallen-inside t (due t.clock) in (subst IsThere its stays.0, subst (Stays (frame_steps steps (next_octets falls_due t))) its (stays-inside steps (next_octets falls_due t) stays.1))

pub no-answer-is-awaited-longer-of-octets : NoAnswerIsAwaitedLonger of_octets
no-answer-is-awaited-longer-of-octets service c lengths late number tei n before steps ranged within waiting prompt_before prompt at_n stays =
    let t = after_all octets before (fresh c lengths) in let its = frame_steps steps t in let t_is = steps-inside before (fresh c lengths) in
    subst (λ (u : TimedCard). u.clock.now ≤ t.clock.now + awaiting late c lengths) (sym (steps-inside steps t))
    (subst (λ (v : TimedCard). (after_all frames its v).clock.now ≤ v.clock.now + awaiting late c lengths) (sym t_is)
    (no-answer-is-awaited-longer service c lengths late number tei n (frame_steps before (fresh c lengths)) its ranged within waiting (prompt-inside late before (fresh c lengths) prompt_before)
    (subst (ArePrompt frames late its) t_is (prompt-inside late steps t prompt)) (subst (λ (v : TimedCard). state number service tei v.card ≡ Some n) t_is at_n)
    (subst (StaysIn of_frames number service tei n its) t_is (stays-inside service tei number n steps t stays))))

pub n200-takes-its-time-of-octets : N200TakesItsTime of_octets
n200-takes-its-time-of-octets service c lengths late number tei n before steps ranged within idle prompt_before prompt at_n soon =
    let t = after_all octets before (fresh c lengths) in let its = frame_steps steps t in let t_is = steps-inside before (fresh c lengths) in
    subst (λ (told : List Note). list_any is_used_up (flat_map error_in told) ≡ false) (sym (news-inside c service tei number steps t))
    (subst (λ (v : TimedCard). list_any is_used_up (flat_map error_in (news of_frames service tei number its v)) ≡ false) (sym t_is)
    (n200-takes-its-time service c lengths late number tei n (frame_steps before (fresh c lengths)) its ranged within idle (prompt-inside late before (fresh c lengths) prompt_before)
    (subst (ArePrompt frames late its) t_is (prompt-inside late steps t prompt)) (subst (λ (v : TimedCard). state number service tei v.card ≡ Some n) t_is at_n)
    (subst (λ (v : TimedCard). (after_all frames its v).clock.now < v.clock.now + least_tries c n * lengths.t200) t_is
    (subst (λ (u : TimedCard). u.clock.now < t.clock.now + least_tries c n * lengths.t200) (steps-inside steps t) soon))))

-- A dead line is told at a card of octets, as it is at the card of frames inside.
pub a-dead-line-is-told-of-octets : ADeadLineIsTold of_octets
a-dead-line-is-told-of-octets service c lengths late number tei from before steps ranged within low prompt_before prompt at_from still =
    let t = after_all octets before (fresh c lengths) in let its = frame_steps steps t in let t_is = steps-inside before (fresh c lengths) in
    let InTime = λ (v u : TimedCard). IsToldInTime late from (owed_by number service tei v.card) c lengths service tei v.clock.now u.clock.now (news of_frames service tei number its v) in
    subst (λ told. IsToldInTime late from (owed_inside number service tei t.card) c lengths service tei t.clock.now (after_all octets steps t).clock.now told) (sym (news-inside c service tei number steps t))
    (subst (λ (u : TimedCard). InTime (inside t) u) (sym (steps-inside steps t)) (subst (λ (v : TimedCard). InTime v (after_all frames its v)) (sym t_is)
    (a-dead-line-is-told service c lengths late number tei from (frame_steps before (fresh c lengths)) its ranged within low (prompt-inside late before (fresh c lengths) prompt_before)
    (subst (ArePrompt frames late its) t_is (prompt-inside late steps t prompt)) (subst (λ (v : TimedCard). state number service tei v.card ≡ Some from) t_is at_from)
    (subst (AreStill of_frames c service tei number its) t_is (still-inside c service tei number steps t still)))))
