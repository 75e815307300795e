-- The reading stays what it was.
use Rattle.model_teis.proofs.OfTerminal.Vocabulary.{◌≡◌, ℕ, Bool, true, false, cond, List, [], ◌∷◌, Option, Some, None, refl, ◌∙◌, fold, Procedure, is_verified}
use Rattle.model_teis.specs.Steps.{◌then◌, nothing_happens}
use Rattle.model_teis.specs.terminal.Words.{Course, begun, end_procedure, end_verifying_of, is_answered, respond, send_response}
use Rattle.model_teis.specs.terminal.Rows.{answer, answered, end_if_any, withdraw_all}
use Rattle.model_teis.specs.terminal.Laws.{ReadingStays}
use Rattle.model_teis.proofs.OfTerminal.Walk.{of_event}
unfoldable use Rattle.model_teis.specs.terminal.Events.{course}

ends : (tei : ℕ) (c : Course) → (end_verifying_of tei c).now.reading ≡ c.now.reading
ends tei c = go (is_verified tei c.now.procedure)
  where
    go : (b : Bool) → ((cond b end_procedure nothing_happens) c).now.reading ≡ c.now.reading
    go true = refl
    go false = refl

responds : (tei : ℕ) (c : Course) → (respond tei c).now.reading ≡ c.now.reading
responds tei c = go (is_answered tei c.now)
  where
    go : (b : Bool) → ((cond b nothing_happens (send_response tei)) c).now.reading ≡ c.now.reading
    go true = refl
    go false = refl

answers : (teis : List ℕ) (c : Course) → (fold answered c teis).now.reading ≡ c.now.reading
answers [] c = refl
answers (tei ∷ teis) c = answers teis (answer tei c) ∙ responds tei (end_verifying_of tei c) ∙ ends tei c

down : (o : Option Procedure) (c : Course) → ((end_if_any o then withdraw_all) c).now.reading ≡ c.now.reading
down None c = refl
down (Some procedure) c = refl

pub reading_stays : ReadingStays
reading_stays e m = of_event e m (λ c. c.now.reading ≡ m.reading) (record {
  is_unserved = refl;
  is_idle = refl;
  asks = λ attempts may least most. refl;
  verifies = λ tei on may. refl;
  verifies_again = λ tei made runs few. refl;
  takes = λ octets ri tei attempts place is heard runs off low at. refl;
  is_denied = refl;
  answers = λ octets teis is all short. answers teis (begun m);
  is_removed = λ tei. ends tei (begun m);
  is_told = refl;
  gives_up_asking = refl;
  joins = λ tei place is off at. refl;
  leaves = λ tei. ends tei (begun m);
  is_down = down m.procedure (begun m);
})
