-- What the observer of a terminal's line knows of it is what its TEI management has, and what is due by an event is what that
-- tells.
use Rattle.laws_trace.proofs.Vocabulary.{◌≡◌, ℕ, ◌+◌, ◌*◌, ◌/◌, ◌%◌, ◌==◌, ◌&&◌, Bool, true, false, cond, not, List, [], ◌∷◌, Option, Some, None, refl, sym, ap, ◌∙◌, arith, fold, filter, list_any, is_some, nat_le, nat_lt, free_place}
use Rattle.lapd_frame.specs.declared.notes.Note.{Note}
use Rattle.lapd_frame.specs.declared.notes.Note.TheVariants as notes
use Rattle.lapd_frame.specs.declared.timers.Order.{Order}
use Rattle.lapd_frame.specs.declared.timers.Order.TheVariants.{Stop}
use Rattle.lapd_frame.specs.declared.timers.Timer.TheVariants.{T202}
use Rattle.lapd_frame.specs.Readings.{by_reading}
use Rattle.model_line.specs.declared.config.Config.{Config}
use Rattle.model_teis.specs.Table as table
use Rattle.model_teis.specs.declared.terminal.procedure.Procedure.{Procedure}
use Rattle.model_teis.specs.declared.terminal.procedure.Procedure.TheVariants.{Asking, Verifying}
use Rattle.model_teis.specs.terminal.Machine.{Terminal}
use Rattle.model_teis.specs.Information.{heard_by, looked_at}
use Rattle.model_teis.specs.terminal.Messages.{heard_of_type}
use Rattle.model_teis.specs.terminal.Rows as rows
use Rattle.model_teis.specs.terminal.Words as words
use Rattle.model_teis.specs.terminal.Words.{Course, begun, end_procedure, end_verifying_of, unserved}
use Rattle.laws_trace.specs.ManagingTerminal as seen
use Rattle.laws_trace.specs.ManagingTerminal.{OfTerminal}
use Rattle.laws_trace.proofs.TerminalTables.{IsOnce, filter-same, any-same, response-same, response-for-same, verified-same, request-same, verify-same, on-same, free-same, comes-same, leaves-same}

-- A terminal as its observer has it, with what an event under way has told; and after one that is served.
abbrev pub as_known : Terminal → List Note → List Order → OfTerminal
as_known t notes orders =
    record { places = t.places; number = t.number; procedure = t.procedure; owed = t.waiting; notes = notes; orders = orders; begins = []; granted = None }

abbrev pub shown : Course → OfTerminal
shown x = as_known x.now x.told.notes x.told.orders

abbrev pub served : Course → Option OfTerminal
served x = cond x.told.unserved None (Some (shown x))

abbrev pub known : Terminal → OfTerminal
known t = shown (begun t)

-- Each word of the rows is one of the observer.
over-is : (x : Course) → seen.over (shown x) ≡ shown (end_procedure x)
over-is x = ap (λ owed. record (shown x) { procedure = None; owed = owed; orders = Stop T202 ∷ [] }) (filter-same seen.is_response words.is_response response-same x.now.waiting)

verified-is : (tei : ℕ) (x : Course) → seen.verified tei (shown x) ≡ shown (end_verifying_of tei x)
verified-is tei x = grind (arith, seen.over, verified-same, over-is)

abbrev without : ℕ → OfTerminal → OfTerminal
without tei t = record t { places = seen.without_tei tei t.places; owed = filter (λ message. not (seen.is_response_for tei message)) t.owed }

without-is : (tei : ℕ) (x : Course) → IsOnce tei x.now.places → without tei (shown x) ≡ shown (words.leave tei x)
without-is tei x once = grind (arith, leaves-same, filter-same, words.is_other, response-for-same)

ended-once : (tei : ℕ) (x : Course) → IsOnce tei x.now.places → IsOnce tei (end_verifying_of tei x).now.places
ended-once tei x once = grind arith

pub leaves-is : (tei : ℕ) (x : Course) → IsOnce tei x.now.places → seen.leaves tei (shown x) ≡ shown (rows.take_off tei x)
leaves-is tei x once = ap (without tei) (verified-is tei x) ∙ without-is tei (end_verifying_of tei x) (ended-once tei x once)

removed-is : (tei : ℕ) (x : Course) → IsOnce tei x.now.places → seen.removed tei (shown x) ≡ shown (rows.removed tei x)
removed-is tei x once = ap (λ (k : OfTerminal). record k { notes = notes.Removed tei ∷ [] }) (leaves-is tei x once)

pub asks-is : (attempts : ℕ) (x : Course) → seen.asks attempts (shown x) ≡ shown (words.ask attempts x)
asks-is attempts x = ap (λ owed. record (shown (words.ask attempts x)) { owed = owed }) (request-same x.now.number x.now.waiting)

pub verifies-is : (tei attempts : ℕ) (x : Course) → seen.verifies tei attempts (shown x) ≡ shown (words.verify tei attempts x)
verifies-is tei attempts x = ap (λ owed. record (shown (words.verify tei attempts x)) { owed = owed }) (verify-same tei x.now.waiting)

responds-is : (tei : ℕ) (x : Course) → seen.responds (shown x) tei ≡ shown (words.respond tei x)
responds-is tei x = grind (arith, any-same, response-for-same)

abbrev answered : OfTerminal → ℕ → OfTerminal
answered k tei = seen.responds (seen.verified tei k) tei

answer-is : (tei : ℕ) (x : Course) → answered (shown x) tei ≡ shown (rows.answer tei x)
answer-is tei x = ap (λ k. seen.responds k tei) (verified-is tei x) ∙ responds-is tei (end_verifying_of tei x)

answers-are : (teis : List ℕ) (x : Course) → fold answered (shown x) teis ≡ shown (fold rows.answered x teis)
answers-are [] x = refl
answers-are (tei ∷ teis) x = ap (λ k. fold answered k teis) (answer-is tei x) ∙ answers-are teis (rows.answer tei x)

-- An answer is served.
answer-served : (tei : ℕ) (x : Course) → x.told.unserved ≡ false → (rows.answer tei x).told.unserved ≡ false
answer-served tei x h = grind arith

answers-served : (teis : List ℕ) (x : Course) → x.told.unserved ≡ false → (fold rows.answered x teis).told.unserved ≡ false
answers-served [] x h = h
answers-served (tei ∷ teis) x h = answers-served teis (rows.answer tei x) (answer-served tei x h)

-- What a terminal does by a message is known to be done, and is not served where nothing is.
module _ (t : Terminal) (once : (tei : ℕ) → IsOnce tei t.places) where
  abbrev k : OfTerminal
  k = known t

  check-is : (teis : List ℕ) → seen.by_check teis k ≡ served (rows.checked teis (begun t))
  check-is [] = refl
  check-is (tei ∷ teis) =
      ap Some (answers-are (tei ∷ teis) (begun t))
      ∙ sym (ap (λ b. cond b None (Some (shown (fold rows.answered (begun t) (tei ∷ teis))))) (answers-served (tei ∷ teis) (begun t) refl))

  is-served : (tei : ℕ) → (rows.removed tei (begun t)).told.unserved ≡ false
  is-served tei = grind (arith, begun)

  remove-is : (teis : List ℕ) → seen.by_remove teis k ≡ served (rows.removed_each teis (begun t))
  remove-is [] = refl
  remove-is (tei ∷ []) = ap Some (removed-is tei (begun t) (once tei)) ∙ sym (ap (λ b. cond b None (Some (shown (rows.removed tei (begun t))))) (is-served tei))
  remove-is (tei ∷ other ∷ teis) = refl

  named-is : (action : ℕ) → seen.named action k ≡ table.named action t.places
  named-is action = ap (λ b. cond (action == 127) (table.teis_on t.places) (cond b (action ∷ []) [])) (on-same action t.places)

  -- an assignment
  abbrev got : ℕ → OfTerminal
  got tei = record (seen.over k) { places = seen.with_tei tei t.places; notes = notes.Assigned tei ∷ [] }

  got-is : (tei place : ℕ) → free_place t.places ≡ Some place → got tei ≡ shown (words.note (notes.Assigned tei) (end_procedure (words.join tei place (begun t))))
  got-is tei place free =
      ap (λ places. record (seen.over k) { places = places; notes = notes.Assigned tei ∷ [] }) (comes-same tei place t.places free)
      ∙ ap (λ (x : OfTerminal). record x { notes = notes.Assigned tei ∷ [] }) (over-is (words.join tei place (begun t)))

  takes-if : (tei : ℕ) (may : Bool) (o : Option ℕ) → free_place t.places ≡ o
      → cond (may && is_some o) (Some (got tei)) None ≡ served ((cond may (rows.take_at tei o) unserved) (begun t))
  takes-if tei may o free = grind (arith, got-is)

  denied-is : (ri : ℕ) (o : Option Procedure) → seen.by_denied ri o k ≡ served (rows.denied ri o (begun t))
  denied-is ri None = refl
  denied-is ri (Some (Asking own attempts)) = go (own == ri)
    where
      go : (b : Bool) → cond b (Some (record k { notes = notes.Denied ∷ [] })) None ≡ served ((cond b (words.note notes.Denied) unserved) (begun t))
      go true = refl
      go false = refl
  denied-is ri (Some (Verifying on attempts)) = refl

  own-if : (tei : ℕ) (same : Bool)
      → cond (same && (rows.is_assignable t.reading tei t.places && is_some (free_place t.places))) (Some (got tei)) None ≡ served ((cond same (rows.take_tei tei) unserved) (begun t))
  own-if tei same = grind (arith, takes-if)

  may-come : (low tei : ℕ)
      → (nat_le low tei && nat_le tei 126 && not (seen.is_on tei k) && list_any seen.is_free k.places)
      ≡ ((nat_le low tei && nat_le tei 126 && not (table.is_on tei t.places)) && is_some (free_place t.places))
  may-come low tei = grind (arith, nat_le, seen.is_free, on-same, free-same, is_some)

  -- any message, as the configuration says that it is read
  module _ (c : Config) (read : t.reading ≡ c.reading) where
    assigned-is : (ri tei : ℕ) (o : Option Procedure) → seen.by_assigned c ri tei o k ≡ served (rows.assigned ri tei o (begun t))
    assigned-is ri tei None = ap (λ b. cond b (Some (seen.verifies tei 1 k)) None) (on-same tei t.places) ∙ go (table.is_on tei t.places)
      where
        go : (b : Bool) → cond b (Some (seen.verifies tei 1 k)) None ≡ served ((cond b (words.verify tei 1) unserved) (begun t))
        go true = ap Some (verifies-is tei 1 (begun t))
        go false = refl
    assigned-is ri tei (Some (Asking own attempts)) =
        ap (λ b. cond (own == ri && b) (Some (got tei)) None)
        (ap (λ r. nat_le (by_reading r 64 0) tei && nat_le tei 126 && not (seen.is_on tei k) && list_any seen.is_free k.places) (sym read) ∙ may-come (rows.lowest_taken t.reading) tei)
        ∙ own-if tei (own == ri)
    assigned-is ri tei (Some (Verifying on attempts)) = refl

    by-both : {X Y : Type 0} (P : X → Y → Type 0) (b : Bool) (u v : X) (x y : Y) → P u x → P v y → P (cond b u v) (cond b x y)
    by-both P b u v x y h j = grind arith

    otherwise : {X Y : Type 0} (P : X → Y → Type 0) (b : Bool) (u v : X) (x y : Y) → P u x → P v y → P (cond (not b) v u) (cond b x y)
    otherwise P b u v x y h j = grind arith

    abbrev of_type : ℕ → ℕ → ℕ → Option OfTerminal
    of_type type ri action =
        cond (type == 2) (seen.by_assigned c ri action t.procedure k)
        (cond (type == 3 && action == 127) (seen.by_denied ri t.procedure k)
        (cond (type == 4) (seen.by_check (seen.named action k) k) (cond (type == 6) (seen.by_remove (seen.named action k) k) None)))

    by-type : (type ri action : ℕ) → of_type type ri action ≡ served (rows.serve (heard_of_type type ri action) (begun t))
    by-type type ri action = grind (arith, by-both, begun, assigned-is, denied-is, named-is, check-is, table.named, remove-is)

    five-is : (five : List ℕ) → seen.by_five c five k ≡ served (rows.serve (heard_by heard_of_type five) (begun t))
    five-is [] = refl
    five-is (entity ∷ []) = refl
    five-is (entity ∷ high ∷ []) = refl
    five-is (entity ∷ high ∷ low ∷ []) = refl
    five-is (entity ∷ high ∷ low ∷ type ∷ []) = refl
    five-is (entity ∷ high ∷ low ∷ type ∷ last ∷ []) =
        otherwise (λ d o. d ≡ served (rows.serve o (begun t))) (entity == 0x0F && last % 2 == 1) _ _ _ _ (by-type type (256 * high + low) (last / 2)) refl
    five-is (entity ∷ high ∷ low ∷ type ∷ last ∷ sixth ∷ more) = refl

    pub message-is : (info : List ℕ) → seen.by_message c info k ≡ served (rows.hear info (begun t))
    message-is info = ap (λ r. seen.by_five c (looked_at r info) k) (sym read) ∙ five-is (looked_at t.reading info)

  -- T202 runs out.
  pub expiry-is : (o : Option Procedure) → seen.ran_out o k ≡ shown (rows.expire_procedure o (begun t))
  expiry-is None = refl
  expiry-is (Some (Asking ri attempts)) = go (nat_lt attempts 3)
    where
      go : (b : Bool) → cond b (seen.asks (attempts + 1) k) (record (seen.over k) { notes = notes.Unassigned ∷ [] }) ≡ shown ((cond b (words.ask (attempts + 1)) rows.give_up_asking) (begun t))
      go true = asks-is (attempts + 1) (begun t)
      go false = ap (λ (x : OfTerminal). record x { notes = notes.Unassigned ∷ [] }) (over-is (begun t))
  expiry-is (Some (Verifying tei attempts)) = go (nat_lt attempts 2)
    where
      go : (b : Bool) → cond b (seen.verifies tei (attempts + 1) k) (seen.removed tei k) ≡ shown ((cond b (words.verify tei (attempts + 1)) (rows.removed tei)) (begun t))
      go true = verifies-is tei (attempts + 1) (begun t)
      go false = removed-is tei (begun t) (once tei)
