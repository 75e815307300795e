-- What the answers to a check tell, however many there are.
use Rattle.model_teis.proofs.OfTerminal.Vocabulary.{◌≡◌, ℕ, true, false, cond, is_some, List, [], ◌∷◌, length, ◌≤◌, AllByRecursion, All, recursion_from_All, None, refl, sym, subst, arith, fold, is_on, Terminal, IsSound, is_verified}
use Rattle.model_teis.proofs.OfTerminal.SoundWords.{sound_ended, sound_responded}
use Rattle.model_teis.specs.Steps.{nothing_happens}
use Rattle.model_teis.specs.terminal.Words.{Course, begun, end_procedure, end_verifying_of, is_answered, respond, send_response}
use Rattle.model_teis.specs.terminal.Rows.{answer, answered}
use Rattle.model_teis.specs.terminal.Laws.{Follows}

-- Orders follow the procedure, at most one is told and no note, no TEI comes or leaves, no message is lost, and the message is
-- served.
pub record Answers (m : Terminal) (c : Course) : Type 0 where
  pub follows : Follows (is_some m.procedure) c.told.orders (is_some c.now.procedure)
  pub notes : c.told.notes ≡ []
  pub orders : length c.told.orders ≤ 1
  pub change : c.told.change ≡ None
  pub lost : c.told.lost ≡ 0
  pub served : c.told.unserved ≡ false

-- verifying of the TEI ends, or a response is sent
ends : (m : Terminal) (tei : ℕ) (c : Course) → Answers m c → Answers m (end_verifying_of tei c)
ends m tei c h =
    elim (is_verified tei c.now.procedure) as (λ b. Answers m ((cond b end_procedure nothing_happens) c)) [
      | true ↦ record { follows = refl; notes = h.notes; orders = omega arith; change = h.change; lost = h.lost; served = h.served }
      | false ↦ h
    ]

sends : (m : Terminal) (tei : ℕ) (c : Course) → Answers m c → Answers m (send_response tei c)
sends m tei c h = record { follows = h.follows; notes = h.notes; orders = h.orders; change = h.change; lost = h.lost; served = h.served }

responds : (m : Terminal) (tei : ℕ) (c : Course) → Answers m c → Answers m (respond tei c)
responds m tei c h =
    elim (is_answered tei c.now) as (λ b. Answers m ((cond b nothing_happens (send_response tei)) c)) [
      | true ↦ h
      | false ↦ sends m tei c h
    ]

each : (m : Terminal) (teis : List ℕ) (c : Course) → Answers m c → Answers m (fold answered c teis)
each m [] c h = h
each m (tei ∷ teis) c h = each m teis (answer tei c) (responds m tei (end_verifying_of tei c) (ends m tei c h))

pub answers_each : (m : Terminal) (teis : List ℕ) → Answers m (fold answered (begun m) teis)
answers_each m teis = each m teis (begun m) (record { follows = refl; notes = refl; orders = omega arith; change = refl; lost = refl; served = refl })

-- Things stay sound, and the table stays.
pub record Stays (m : Terminal) (c : Course) : Type 0 where
  pub sound : IsSound c.now
  pub places : c.now.places ≡ m.places

stays_ends : (m : Terminal) (tei : ℕ) (c : Course) → Stays m c → Stays m (end_verifying_of tei c)
stays_ends m tei c h =
    elim (is_verified tei c.now.procedure) as (λ b. Stays m ((cond b end_procedure nothing_happens) c)) [
      | true ↦ record { sound = sound_ended c.now h.sound; places = h.places }
      | false ↦ h
    ]

stays_responds : (m : Terminal) (tei : ℕ) (c : Course) → is_on tei m.places ≡ true → Stays m c → Stays m (respond tei c)
stays_responds m tei c on h =
    elim (is_answered tei c.now) as (λ b. is_answered tei c.now ≡ b → Stays m ((cond b nothing_happens (send_response tei)) c)) [
      | true ↦ λ e. h
      | false ↦ λ e. record { sound = sound_responded c.now tei (subst (λ places. is_on tei places ≡ true) (sym h.places) on) e h.sound; places = h.places }
    ] refl

stays_each : (m : Terminal) (teis : List ℕ) (c : Course) → AllByRecursion (λ tei. is_on tei m.places ≡ true) teis → Stays m c → Stays m (fold answered c teis)
stays_each m [] c all h = h
stays_each m (tei ∷ teis) c all h =
    stays_each m teis (answer tei c) all.1 (stays_responds m tei (end_verifying_of tei c) all.0 (stays_ends m tei c h))

pub answers_stay : (m : Terminal) (teis : List ℕ) → All (λ tei. is_on tei m.places ≡ true) teis → IsSound m → Stays m (fold answered (begun m) teis)
answers_stay m teis all sound = stays_each m teis (begun m) (recursion_from_All (λ tei. is_on tei m.places ≡ true) teis all) (record { sound = sound; places = refl })
