-- A timed card of octets is a timed card of frames, at the card of frames inside.
use Rattle.laws_time.proofs.Vocabulary.{All-head, Answer, ArePrompt, AreStill, Bool, Card, Clock, Config, Event as FrameEvent, Expiry, IsAnswered, IsNoExpiry as FrameIsNoExpiry, IsNoOctetsExpiry as IsNoExpiry, List, None, Note, OctetCard, OctetEvent as Event, Option, SaysSo, Service, Some, Step, TimedCard, TimedOctetCard, [], after_all, answer as ports_answer, answer_to, ap, arith, at, cond}
use Rattle.laws_time.proofs.Vocabulary.{due, expiry_at, falls_due, false, filter, frames, is_news, is_some, is_stirred, meant, news, news_in, notes_in, notes_of, obeyed, octet_orders as orders_of, octets, of_frames, of_octets, option_map, option_map_or, orders_in, port_at, ports_after, refl, state, step_happens as happens, subst, sym, time, true, with_expiry, without_first, ℕ, ◌++◌, ◌==◌, ◌∙◌}
use Rattle.laws_time.proofs.Vocabulary.{◌∷◌, ◌≡◌}
use Rattle.model_line.specs.Event as line
use Rattle.model_card.specs.Machine as machine
unfoldable use Rattle.model_card.specs.ports.Run.{moments}
use Rattle.model_card.specs.ports.Port as port
use Rattle.model_card.proofs.OfPorts.Answered.{all_answered}
use Rattle.model_timed.specs.Timed.{with_event, after, event_of}

abbrev pub inside : TimedOctetCard → TimedCard
inside t = record { card = t.card.card; clock = t.clock }

-- What an event means at its line.
abbrev pub meant_at : Event → OctetCard → Option line.Event
meant_at e m = port.meant m.card.config.n201 e.what (port_at e.line m)

abbrev pub put : Option line.Event → ℕ → List (Step FrameEvent) → List (Step FrameEvent)
put None number rest = rest
put (Some what) number rest = happens (at number what) ∷ rest

abbrev pub with_octets : Event → TimedOctetCard → TimedOctetCard
with_octets e t = with_event octets e t

abbrev pub next_octets : Step Event → TimedOctetCard → TimedOctetCard
next_octets s t = after octets s t

unfoldable pub frame_steps : List (Step Event) → TimedOctetCard → List (Step FrameEvent)
frame_steps [] t = []
frame_steps (happens e ∷ steps) t = put (meant_at e t.card) e.line (frame_steps steps (with_octets e t))
frame_steps (time moment ∷ steps) t = time moment ∷ frame_steps steps (next_octets (time moment) t)
frame_steps (falls_due ∷ steps) t = falls_due ∷ frame_steps steps (next_octets falls_due t)

-- What is said to an event has the orders and the notes of what is said to what it means.
says-both : (what : port.Event) (a : port.Answer) (s : Option Answer) → SaysSo what a s → (orders_of a ≡ option_map_or orders_in s []) × (notes_in a ≡ option_map_or notes_of s [])
says-both what a s h1z = grind arith

-- An event, which means this.
module _ (e : Event) (m : OctetCard) where
  abbrev meaning : Option line.Event → Option Answer
  meaning o = option_map (answer_to m.card) (option_map (at e.line) o)

  says : SaysSo e.what (ports_answer e m) (option_map (answer_to m.card) (option_map (at e.line) (meant_at e m)))
  unfolding moments meant
  says = All-head IsAnswered (record { card = m; event = e; answer = ports_answer e m }) [] (all_answered m (e ∷ []))

  said-so : {A : Type 0} (f : Answer → List A) (o : Option line.Event) → option_map_or f (option_map (answer_to m.card) (option_map (at e.line) o)) [] ≡ option_map_or (λ what. f (machine.answer (at e.line what) m.card)) o []
  said-so f o = grind arith

  pub orders-are : (o : Option line.Event) → meant_at e m ≡ o → orders_of (ports_answer e m) ≡ option_map_or (λ what. orders_in (machine.answer (at e.line what) m.card)) o []
  orders-are o is = (says-both e.what (ports_answer e m) (meaning (meant_at e m)) says).0 ∙ ap (λ o. option_map_or orders_in (meaning o) []) is ∙ said-so orders_in o

  pub notes-are : (o : Option line.Event) → meant_at e m ≡ o → notes_in (ports_answer e m) ≡ option_map_or (λ what. notes_of (machine.answer (at e.line what) m.card)) o []
  notes-are o is = (says-both e.what (ports_answer e m) (meaning (meant_at e m)) says).1 ∙ ap (λ o. option_map_or notes_of (meaning o) []) is ∙ said-so notes_of o

  card-is : (o : Option line.Event) → meant_at e m ≡ o → (ports_after e m).card ≡ option_map_or (λ what. machine.after (at e.line what) m.card) o m.card
  unfolding ports_after meant
  card-is o is = grind arith

abbrev timed : Card → Clock → TimedCard
timed card clock = record { card = card; clock = clock }

pub event-inside : (e : Event) (t : TimedOctetCard) (o : Option line.Event) → meant_at e t.card ≡ o
    → inside (with_octets e t) ≡ option_map_or (λ what. with_event frames (at e.line what) (inside t)) o (inside t)
event-inside e t None is = λ i. timed ((card-is e t.card None is) i) ((ap (λ os. obeyed e.line os t.clock) (orders-are e t.card None is)) i)
event-inside e t (Some what) is = λ i. timed ((card-is e t.card (Some what) is) i) ((ap (λ os. obeyed e.line os t.clock) (orders-are e t.card (Some what) is)) i)

pub fallen-inside : (t : TimedOctetCard) (o : Option Expiry) → inside (option_map_or (with_expiry octets t) o t) ≡ option_map_or (with_expiry frames (inside t)) o (inside t)
fallen-inside t None = refl
fallen-inside t (Some x) = event-inside (expiry_at octets x) (record t { clock = without_first t.clock }) (Some (line.expiry x.timer)) refl

-- The card of frames inside goes on as a timed card of frames.
pub steps-inside : (steps : List (Step Event)) (t : TimedOctetCard) → inside (after_all octets steps t) ≡ after_all frames (frame_steps steps t) (inside t)
unfolding after_all frame_steps
steps-inside [] t = refl
steps-inside (happens e ∷ steps) t = steps-inside steps (with_octets e t) ∙ go (meant_at e t.card) refl
  where
    go : (o : Option line.Event) → meant_at e t.card ≡ o
        → after_all frames (frame_steps steps (with_octets e t)) (inside (with_octets e t)) ≡ after_all frames (put o e.line (frame_steps steps (with_octets e t))) (inside t)
    go None is = ap (after_all frames (frame_steps steps (with_octets e t))) (event-inside e t None is)
    go (Some what) is = ap (after_all frames (frame_steps steps (with_octets e t))) (event-inside e t (Some what) is)
steps-inside (time moment ∷ steps) t = steps-inside steps (next_octets (time moment) t)
steps-inside (falls_due ∷ steps) t = steps-inside steps (next_octets falls_due t) ∙ ap (after_all frames (frame_steps steps (next_octets falls_due t))) (fallen-inside t (due t.clock))

-- It is as prompt,
no-expiry : (n201 : ℕ) (what : port.Event) (p : port.Port) (x : line.Event) → IsNoExpiry what → port.meant n201 what p ≡ Some x → FrameIsNoExpiry x
no-expiry n201 what p x none is = grind arith

pub prompt-inside : (late : ℕ) (steps : List (Step Event)) (t : TimedOctetCard) → ArePrompt octets late steps t → ArePrompt frames late (frame_steps steps t) (inside t)
unfolding ArePrompt frame_steps
prompt-inside late [] t prompt = tt
prompt-inside late (happens e ∷ steps) t prompt = go (meant_at e t.card) refl (prompt-inside late steps (with_octets e t) prompt.1)
  where
    go : (o : Option line.Event) → meant_at e t.card ≡ o → ArePrompt frames late (frame_steps steps (with_octets e t)) (inside (with_octets e t))
        → ArePrompt frames late (put o e.line (frame_steps steps (with_octets e t))) (inside t)
    go None is later = subst (ArePrompt frames late (frame_steps steps (with_octets e t))) (event-inside e t None is) later
    go (Some what) is later = (
      (prompt.0.0, no-expiry t.card.card.config.n201 e.what (port_at e.line t.card) what prompt.0.1 is),
      subst (ArePrompt frames late (frame_steps steps (with_octets e t))) (event-inside e t (Some what) is) later,
    )
prompt-inside late (time moment ∷ steps) t prompt = (prompt.0, prompt-inside late steps (next_octets (time moment) t) prompt.1)
prompt-inside late (falls_due ∷ steps) t prompt =
    (tt, subst (ArePrompt frames late (frame_steps steps (next_octets falls_due t))) (fallen-inside t (due t.clock)) (prompt-inside late steps (next_octets falls_due t) prompt.1))

-- of the link nothing is heard there,
module _ (c : Config) (service : Service) (tei number : ℕ) where
  abbrev Still : List (Step FrameEvent) → TimedCard → Type 0
  Still steps t = AreStill of_frames c service tei number steps t

  pub still-inside : (steps : List (Step Event)) (t : TimedOctetCard) → AreStill of_octets c service tei number steps t → Still (frame_steps steps t) (inside t)
  unfolding AreStill frame_steps
  still-inside [] t still = tt
  still-inside (happens e ∷ steps) t still = go (meant_at e t.card) refl (still-inside steps (with_octets e t) still.2)
    where
      go : (o : Option line.Event) → meant_at e t.card ≡ o → Still (frame_steps steps (with_octets e t)) (inside (with_octets e t))
          → Still (put o e.line (frame_steps steps (with_octets e t))) (inside t)
      go None is later = subst (Still (frame_steps steps (with_octets e t))) (event-inside e t None is) later
      go (Some what) is later =
          let its = event-inside e t (Some what) is in (
            (λ here. sym (ap (λ o. option_map_or (is_stirred c service tei) o false) is) ∙ still.0 here),
            subst (λ (t : TimedCard). is_some (state number service tei t.card) ≡ true) its still.1,
            subst (Still (frame_steps steps (with_octets e t))) its later,
          )
  still-inside (time moment ∷ steps) t still = (tt, still.1, still-inside steps (next_octets (time moment) t) still.2)
  still-inside (falls_due ∷ steps) t still =
      let its = fallen-inside t (due t.clock) in
      (tt, subst (λ (t : TimedCard). is_some (state number service tei t.card) ≡ true) its still.1, subst (Still (frame_steps steps (next_octets falls_due t))) its (still-inside steps (next_octets falls_due t) still.2))

  -- and the same is told.
  abbrev News : List (Step FrameEvent) → TimedCard → List Note
  News steps t = news of_frames service tei number steps t

  abbrev own : Bool → List Note → List Note
  own b notes = cond b (filter (is_news service tei) notes) []

  none-own : (b : Bool) → own b [] ≡ []
  none-own b = grind arith

  own-news : (e : Event) (m : OctetCard) (o : Option line.Event) → meant_at e m ≡ o
      → news_in of_octets service tei number (Some e) m ≡ news_in of_frames service tei number (option_map (at e.line) o) m.card
  own-news e m None is = ap (own (e.line == number)) (notes-are e m None is) ∙ none-own (e.line == number)
  own-news e m (Some what) is = ap (own (e.line == number)) (notes-are e m (Some what) is)

  fallen-news : (t : TimedOctetCard) (o : Option Expiry)
      → news_in of_octets service tei number (option_map (expiry_at octets) o) t.card ≡ news_in of_frames service tei number (option_map (expiry_at frames) o) t.card.card
  fallen-news t None = refl
  fallen-news t (Some x) = own-news (expiry_at octets x) t.card (Some (line.expiry x.timer)) refl

  pub news-inside : (steps : List (Step Event)) (t : TimedOctetCard) → news of_octets service tei number steps t ≡ News (frame_steps steps t) (inside t)
  unfolding news frame_steps
  news-inside [] t = refl
  news-inside (happens e ∷ steps) t =
      ap (λ ns. news_in of_octets service tei number (Some e) t.card ++ ns) (news-inside steps (with_octets e t)) ∙ go (meant_at e t.card) refl
    where
      go : (o : Option line.Event) → meant_at e t.card ≡ o → news_in of_octets service tei number (Some e) t.card ++ News (frame_steps steps (with_octets e t)) (inside (with_octets e t))
          ≡ News (put o e.line (frame_steps steps (with_octets e t))) (inside t)
      go None is =
          ap (λ ns. ns ++ News (frame_steps steps (with_octets e t)) (inside (with_octets e t))) (own-news e t.card None is)
          ∙ ap (News (frame_steps steps (with_octets e t))) (event-inside e t None is)
      go (Some what) is =
          ap (λ ns. ns ++ News (frame_steps steps (with_octets e t)) (inside (with_octets e t))) (own-news e t.card (Some what) is)
          ∙ ap (λ u. news_in of_frames service tei number (Some (at e.line what)) t.card.card ++ News (frame_steps steps (with_octets e t)) u) (event-inside e t (Some what) is)
  news-inside (time moment ∷ steps) t = news-inside steps (next_octets (time moment) t)
  news-inside (falls_due ∷ steps) t =
      ap (λ ns. news_in of_octets service tei number (event_of octets falls_due t) t.card ++ ns) (news-inside steps (next_octets falls_due t))
      ∙ ap (λ ns. ns ++ News (frame_steps steps (next_octets falls_due t)) (inside (next_octets falls_due t))) (fallen-news t (due t.clock))
      ∙ ap (λ u. news_in of_frames service tei number (event_of frames falls_due (inside t)) t.card.card ++ News (frame_steps steps (next_octets falls_due t)) u) (fallen-inside t (due t.clock))
