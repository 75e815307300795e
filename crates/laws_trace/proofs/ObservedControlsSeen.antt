-- What is seen of the control frames of a link in a moment, by what the observer knows.
use Rattle.laws_trace.proofs.Vocabulary.{arith, ◌≡◌, ℕ, Bool, true, false, cond, refl, managing_by_event, List, [], Option, Some, None, ap, ◌∙◌, option_map_or, none-some, Service, Parts, ControlFrame, Config, hears, request, Answer, is_granted, eqb-true, Request, frame_of, its_frame, Managed, due, nothing_due, Observed, by_event, observer_by_request as by_request, is_up}
use Rattle.laws_trace.proofs.Vocabulary.{seen, and-false, cond_both, StreamEvent}
use Rattle.laws_trace.proofs.DeliveriesWatched.{busy_asked}
use Rattle.std.specs.Option.{option_and_then}
use Rattle.model_line.specs.Line.{is_terminal}
use Rattle.laws_trace.specs.Managing.{at_terminal, of_terminal, own_of}
use Rattle.laws_trace.specs.ManagingTerminal as seen
use Rattle.laws_trace.specs.ManagingTerminal.{OfTerminal}
use Rattle.laws_trace.proofs.ManagingNotes.{by_message, message_by, message_in, message-is-read, message-is-read-there}
use Rattle.laws_trace.proofs.ObservedControls.{stays-down}
use Rattle.laws_trace.proofs.Standing.{standing}
use Rattle.laws_trace.proofs.StandingOfLink.{calm}

pub none-mapped : (o : Option ℕ) (xs : List ControlFrame) → xs ≡ [] → option_map_or (λ s. xs) o xs ≡ []
none-mapped o xs none = grind arith

module _ (c : Config) (service : Service) (tei : ℕ) where
  no-message : (o : Option Parts) (f : Parts) → its_frame service tei o ≡ Some f → message_by c o ≡ None
  no-message o f is = grind (arith, eqb-true, message_by, none-some, and-false)

  pub frame-leads : (e : StreamEvent) (f : Parts) (w : Managed) → its_frame service tei (frame_of c e) ≡ Some f → (due c (hears e) w).on ≡ w.on
  frame-leads e f w is = go (is_terminal c) refl
    where
      none : message_in c e ≡ None
      none = no-message (frame_of c e) f is

      there : Option OfTerminal → Managed
      there o = option_map_or (of_terminal (nothing_due w)) o (nothing_due w)

      go : (b : Bool) → is_terminal c ≡ b → (cond b (at_terminal c (hears e) (nothing_due w)) (managing_by_event c (hears e) (nothing_due w))).on ≡ w.on
      go true is-one =
          ap (λ o. (there o).on)
          (message-is-read-there c (own_of c (nothing_due w)) e is-one ∙ ap (option_and_then (λ info. seen.by_message c info (own_of c (nothing_due w)))) none)
      go false net = ap (λ (v : Managed). v.on) (message-is-read c (nothing_due w) e net ∙ ap (λ m. option_map_or (by_message c (nothing_due w)) m (nothing_due w)) none)

  pub granted-busy : (r : Request) (a : Answer) (n : ℕ) (busy rejected : Bool) → is_granted a ≡ true → (standing service tei c (calm n busy rejected) (seen (request r) a)).busy ≡ busy_asked service tei busy r
  granted-busy r a n busy rejected granted = grind arith

  pub asked-moves : (r : Request) (a : Answer) (o : Observed) → is_up o.state ≡ false → is_up (by_event c service tei (request r) a o).state ≡ false
  asked-moves r a o down = cond_both (is_granted a) (by_request c service tei r o) o (λ (q : Observed). is_up q.state ≡ false) (λ granted. stays-down service tei c r o down) (λ refused. down)
