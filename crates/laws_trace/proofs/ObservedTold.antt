-- What an event of a line tells of data, by what an observer knows of the link; and when the numbers begin.
use Rattle.laws_trace.proofs.Vocabulary.{◌≡◌, ℕ, ◌&&◌, not, Bool, true, false, cond, List, length, Option, Some, None, refl, sym, ap, ◌∙◌, arith, inl, inr, true≢false, nat_lt, nat_le, is_some, list_any, option_map_or, leb-true, leb-false, none-some, Service, Parts, Terms, restarts, eligible, eligible_of, Link, is_multiple_frame, state_number, in_sequence, event-follows, data-is, establishes}
use Rattle.laws_trace.proofs.Vocabulary.{Config, Answer, Line, link_of, place_in, terms, IsInRange, notes_of, is_data_of, IsBy, ltb-true, ltb-false, Control, link_information_of as information_of, Event, IsSound, brings_next, brought, is_for, Observed, is_up, undefined, received, cleared, requested, LinkEvent, overlong, frame, wrong_size, line_after, answer}
use Rattle.laws_trace.proofs.Counting.{begins}
use Rattle.laws_trace.proofs.Begins.{in-state, unless}
use Rattle.laws_trace.proofs.Deliveries.{frame_by, brings-frame, brings-none, one-begins}
use Rattle.laws_trace.proofs.DeliveriesRun.{IsCount, event-aims, data-noted, no-data, ended-notes}
use Rattle.laws_trace.proofs.DeliveriesWatched.{brings_information}
use Rattle.model_link.specs.Sound.{is_information}
use Rattle.laws_trace.proofs.ObservedStanding.{begun_by, begins_by, taken_by, informs}
use Rattle.laws_trace.proofs.OneLink.{HasNone, Goes, event-goes}
use Rattle.laws_trace.proofs.Facts.{number-up}

-- The numbers begin anew, by the state before.
module _ (t : Terms) (f : Parts) where
  pub restarts-so : (l : Link) → restarts t (received (frame f)) l ≡ begun_by (state_number l.state) f.control
  restarts-so l = grind (arith, event-follows, in-state, unless)

-- What is due to be delivered, by what an observer knows.
module _ (t : Terms) (own : Link) (p : Observed) (is : p.state ≡ state_number own.state) (count_is : is_multiple_frame own.state ≡ true → own.r ≡ p.count)
    (busy_is : is_multiple_frame own.state ≡ true → own.own_busy ≡ p.own_busy) where
  abbrev Due : Control → List ℕ → Type 0
  Due control info =
      is_some (in_sequence own.r (eligible_of t own (information_of control info)))
      ≡ (is_up p.state && (not (nat_lt t.n201 (length info)) && brings_next p control))

  due-so : (control : Control) (info : List ℕ) → Due control info
  due-so control info = grind (arith, is_some, nat_le, leb-true, ltb-true, leb-false, ltb-false, number-up)

-- One event of a line, where the TEI is on it.
module _ (c : Config) (ranged : IsInRange c) (l : Line) (s : IsSound c l) (e : Event) (service : Service) (tei place : ℕ) (on : place_in l tei ≡ Some place) where
  abbrev a : Answer
  a = answer c e l

  abbrev own : Link
  own = link_of service tei l

  abbrev t : Terms
  t = terms c service tei

  abbrev its : Option Parts
  its = brought c service tei e

  brought-is : (e : Event) (f : Parts) → frame_by c e ≡ Some f → is_for service tei f.address ≡ true → brought c service tei e ≡ Some f
  brought-is e f is for = grind (arith, none-some)

  none-brought : (e : Event) → frame_by c e ≡ None → brought c service tei e ≡ None
  none-brought e is = grind arith

  not-for : HasNone c service tei e l (line_after c e l) a → (f : Parts) → frame_by c e ≡ Some f → (b : Bool) → is_for service tei f.address ≡ b → is_for service tei f.address ≡ false
  not-for x f is false other = other
  not-for x f is true for = absurd (true≢false (sym (event-aims c l service tei place on e f is for) ∙ x.aims))

  none-of-it : HasNone c service tei e l (line_after c e l) a → (o : Option Parts) → frame_by c e ≡ o → brought c service tei e ≡ None
  none-of-it x o is = grind (arith, none-brought, frame_by, not-for)

  -- when the numbers begin
  abbrev Begins : Type 0
  Begins = begins service tei (frame_by c e) (notes_of a) ≡ begins_by c service tei own.state its

  no-restart : (event : LinkEvent) → (restarts t event own ≡ true → ⊥) → frame_by c e ≡ None → restarts t event own ≡ begins_by c service tei own.state its
  no-restart event never none = sym (unless (restarts t event own) never) ∙ sym (ap (begins_by c service tei own.state) (none-brought e none))

  one-restarts : (event : LinkEvent) → IsBy c e a service tei event → restarts t event own ≡ begins_by c service tei own.state its
  one-restarts (received (frame f)) by =
      let x = brings-frame c e a service tei f by in
      restarts-so t f own ∙ sym (ap (begins_by c service tei own.state) (brought-is e f x.0 x.1))
  one-restarts (received undefined) by = no-restart (received undefined) (λ is. establishes t own (received undefined) is) (brings-none c e a service tei undefined by)
  one-restarts (received wrong_size) by = no-restart (received wrong_size) (λ is. establishes t own (received wrong_size) is) (brings-none c e a service tei wrong_size by)
  one-restarts (received overlong) by = no-restart (received overlong) (λ is. establishes t own (received overlong) is) (brings-none c e a service tei overlong by)
  one-restarts (requested asked full) by = no-restart (requested asked full) (λ is. establishes t own (requested asked full) is) (ap (frame_by c) by.0)
  one-restarts cleared by = absurd by
  one-restarts other by = no-restart other (λ is. establishes t own other is) (ap (frame_by c) by)

  pub begins-so : Begins
  begins-so = grind (arith, not-for, none-of-it, one-begins, one-restarts, event-goes)

  -- whether an I-frame comes
  pub informs-so : brings_information service tei (frame_by c e) ≡ informs c service tei its
  informs-so = grind (arith, by-address)
    where
      by-address : (f : Parts) (b : Bool) → (b && is_information f.control) ≡ option_map_or (λ (f : Parts). is_information f.control) (cond b (Some f) None) false
      by-address f b = grind arith

  -- what is told of data
  module _ (p : Observed) (n : ℕ) (count : IsCount own n) (is : p.state ≡ state_number own.state) (count_is : is_multiple_frame own.state ≡ true → own.r ≡ p.count)
      (busy_is : is_multiple_frame own.state ≡ true → own.own_busy ≡ p.own_busy) where
    abbrev Told : Type 0
    Told = list_any (is_data_of service tei) (notes_of a) ≡ taken_by c service tei p its

    untold : HasNone c service tei e l (line_after c e l) a → (b : Bool) → list_any (is_data_of service tei) (notes_of a) ≡ b → list_any (is_data_of service tei) (notes_of a) ≡ false
    untold x false is = is
    untold x true is = absurd (no-data c ranged l s e service tei n count x is)

    one-due : (event : LinkEvent) → IsBy c e a service tei event → is_some (in_sequence own.r (eligible t event own)) ≡ taken_by c service tei p its
    one-due (received (frame f)) by =
        let x = brings-frame c e a service tei f by in
        due-so t own p is count_is busy_is f.control f.info ∙ sym (ap (taken_by c service tei p) (brought-is e f x.0 x.1))
    one-due event by = grind (arith, taken_by, none-brought, brings-none, frame_by)

    pub data-so : Told
    data-so = go (event-goes c e l service tei s)
      where
        go : Goes c service tei e l (line_after c e l) a → Told
        go (inl x) = untold x (list_any (is_data_of service tei) (notes_of a)) refl ∙ sym (ap (taken_by c service tei p) (none-of-it x (frame_by c e) refl))
        go (inr (inl x)) = data-noted c ranged l s e service tei n count x ∙ ap is_some (data-is t own x.event) ∙ one-due x.event x.by
        go (inr (inr x)) = grind (arith, ended-notes, taken_by)
