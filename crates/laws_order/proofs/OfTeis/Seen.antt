-- What the observers of both lines know is what the answers show, and what `Card::state` tells.
use Rattle.std.specs.Prelude.{◌≡◌, ℕ, ◌<◌, ◌==◌, Bool, true, false, cond, List, [], ◌∷◌, ◌++◌, filter, fold, is_some, Option, None, refl}
use Rattle.std.proofs.Common.{arith, subst, sym, ap, ◌∙◌, eqb-true}
use Rattle.std.proofs.lemmas.Bool.{lt-ltb}
use Rattle.std.proofs.lemmas.Grind.{fold-append}
use Rattle.std.proofs.lemmas.List.Elements.{All-append, All-cons, All-nil}
use Rattle.lapd_frame.specs.declared.notes.Note.{Note}
use Rattle.lapd_frame.specs.declared.services.Service.TheVariants.{Call}
use Rattle.model_teis.specs.declared.network.remembered.Remembered.{Remembered}
use Rattle.model_teis.specs.declared.terminal.procedure.Procedure.{Procedure}
use Rattle.model_line.specs.declared.config.Config.{Config}
use Rattle.model_line.specs.Event as line_event
use Rattle.model_line.specs.Line.{state_of}
use Rattle.model_line.specs.Sound.{IsInRange}
use Rattle.model_card.specs.Card.{Card, fresh, line_at}
use Rattle.model_card.specs.Event.{Event, at}
use Rattle.model_card.specs.Machine.{after, answer}
use Rattle.model_card.specs.Run.{Moment, moments, after_all, IsAtLine, AreAtLines}
use Rattle.model_card.proofs.OfPorts.Steps.{moments-append}
use Rattle.model_card.proofs.Runs.{after_all-append}
use Rattle.laws_line.proofs.OfCard.Wherever.{config-stays}
use Rattle.laws_line.specs.Heard.{notes_of}
use Rattle.laws_trace.specs.Managing.{Managed, is_on, none_on, due, led, managed_after, own_of}
use Rattle.laws_trace.specs.TeisAreManaged.{is_of_teis}
use Rattle.laws_trace.proofs.ObservedRun.{is-told}
use Rattle.laws_trace.proofs.TeisAreManaged.{teis-are-managed, follows-now}
use Rattle.laws_order.specs.teis.Bus.{Network, network_led, network_after, with_teis, is_there}
use Rattle.laws_order.specs.teis.Assignments.{Terminal, terminal_led, terminal_after, with_given, taken, taken_by}

filter-same : (p q : Remembered → Bool) (xs : List Remembered) → ((r : Remembered) → p r ≡ q r) → filter p xs ≡ filter q xs
filter-same p q [] same = refl
filter-same p q (x ∷ xs) same = ap (λ b. cond b (x ∷ filter p xs) (filter p xs)) (same x) ∙ ap (λ ys. cond (q x) (x ∷ ys) ys) (filter-same p q xs same)

-- Only notes of TEIs are looked at.
other-taken : (procedure : Option Procedure) (n : Note) → is_of_teis n ≡ false → taken_by n procedure ≡ []
other-taken procedure n off = grind arith

taken-same : (c : Config) (w : Managed) (ns : List Note) → taken c w (filter is_of_teis ns) ≡ taken c w ns
taken-same c w [] = refl
taken-same c w (n ∷ ns) = go (is_of_teis n) refl (taken-same c w ns)
  where
    go : (b : Bool) → is_of_teis n ≡ b → taken c w (filter is_of_teis ns) ≡ taken c w ns → taken c w (cond b (n ∷ filter is_of_teis ns) (filter is_of_teis ns)) ≡ taken c w (n ∷ ns)
    go true is rest = ap (λ rs. taken_by n (own_of c w).procedure ++ rs) rest
    go false off rest = rest ∙ sym (ap (λ rs. rs ++ taken c w ns) (other-taken (own_of c w).procedure n off))

module _ (c : Config) (number : ℕ) (ranged : IsInRange c) (within : number < c.lines) where
  -- A TEI is on the line.
  there-is : (events : List Event) → AreAtLines (fresh c) events → (tei : ℕ) → is_there number tei (after_all (fresh c) events) ≡ is_on tei (managed_after c number events)
  there-is events all tei =
      let card = after_all (fresh c) events in
      ap (λ b. is_some (cond b (state_of Call tei (line_at number card)) None)) (lt-ltb number card.config.lines (subst (λ (d : Config). number < d.lines) (sym (config-stays (fresh c) events)) within))
      ∙ sym (is-told Call tei (line_at number card)) ∙ sym ((follows-now c events number ranged all within).on.same tei)

  module _ (events : List Event) (e : Event) (all : AreAtLines (fresh c) events) (there : e.line < c.lines) where
    abbrev card : Card
    card = after_all (fresh c) events

    abbrev its_moment : Moment
    its_moment = record { card = card; event = e; answer = answer e card }

    moments-then : moments (fresh c) (events ++ e ∷ []) ≡ moments (fresh c) events ++ its_moment ∷ []
    unfolding moments
    moments-then = moments-append (fresh c) events (e ∷ [])

    card-then : after_all (fresh c) (events ++ e ∷ []) ≡ after e card
    unfolding after_all
    card-then = after_all-append (fresh c) events (e ∷ [])

    managed-then : managed_after c number (events ++ e ∷ []) ≡ led c number (managed_after c number events) e
    managed-then = fold-append (led c number) none_on events (e ∷ [])

    all-then : AreAtLines (fresh c) (events ++ e ∷ [])
    all-then = All-append (IsAtLine (fresh c)) events (e ∷ []) all (All-cons (IsAtLine (fresh c)) e [] there (All-nil (IsAtLine (fresh c))))

    there-then : (w : Managed) → w ≡ managed_after c number events → (e.line == number) ≡ true → (tei : ℕ) → is_there number tei (after e card) ≡ is_on tei (due c e.what w)
    there-then w same is tei =
        ap (is_there number tei) (sym card-then) ∙ there-is (events ++ e ∷ []) all-then tei ∙ ap (is_on tei) managed-then
        ∙ ap (λ b. is_on tei (cond b (due c e.what (managed_after c number events)) (managed_after c number events))) is
        ∙ ap (λ w. is_on tei (due c e.what w)) (sym same)

-- The observers of a run are those of its events.
module _ (c : Config) (number : ℕ) where
  led-teis : (n : Network) (k : Card) (events : List Event) → (fold (network_led c number) n (moments k events)).teis ≡ fold (led c number) n.teis events
  unfolding moments
  led-teis n k [] = refl
  led-teis n k (e ∷ events) = led-teis (network_led c number n (record { card = k; event = e; answer = answer e k })) (after e k) events ∙ ap (λ w. fold (led c number) w events) (go (e.line == number))
    where
      go : (x : Bool) → (cond x (with_teis (λ tei. is_there number tei (after e k)) (due c e.what n.teis) n) n).teis ≡ cond x (due c e.what n.teis) n.teis
      go true = refl
      go false = refl

  pub network-teis : (events : List Event) → (network_after c number events).teis ≡ managed_after c number events
  network-teis events = led-teis (record { teis = none_on; made = []; hold = [] }) (fresh c) events

  led-given : (t : Terminal) (k : Card) (events : List Event) → (fold (terminal_led c number) t (moments k events)).teis ≡ fold (led c number) t.teis events
  unfolding moments
  led-given t k [] = refl
  led-given t k (e ∷ events) = led-given (terminal_led c number t (record { card = k; event = e; answer = answer e k })) (after e k) events ∙ ap (λ w. fold (led c number) w events) (go (e.line == number))
    where
      go : (x : Bool) → (cond x (with_given (λ tei. is_there number tei (after e k)) c (due c e.what t.teis) (notes_of (answer e k)) t) t).teis ≡ cond x (due c e.what t.teis) t.teis
      go true = refl
      go false = refl

  terminal-teis : (events : List Event) → (terminal_after c number events).teis ≡ managed_after c number events
  terminal-teis events = led-given (record { teis = none_on; given = [] }) (fresh c) events

module _ (c : Config) (number : ℕ) (ranged : IsInRange c) (within : number < c.lines) (events : List Event) (e : Event) (all : AreAtLines (fresh c) events) (there : e.line < c.lines) where
  abbrev n : Network
  n = network_after c number events

  pub network-then : network_after c number (events ++ e ∷ []) ≡ cond (e.line == number) (with_teis (λ tei. is_on tei (due c e.what n.teis)) (due c e.what n.teis) n) n
  network-then =
      ap (fold (network_led c number) (record { teis = none_on; made = []; hold = [] })) (moments-then c number ranged within events e all there)
      ∙ fold-append (network_led c number) (record { teis = none_on; made = []; hold = [] }) (moments (fresh c) events) (its_moment c number ranged within events e all there ∷ [])
      ∙ go (e.line == number) refl
    where
      go : (x : Bool) → (e.line == number) ≡ x
          → cond x (with_teis (λ tei. is_there number tei (after e (after_all (fresh c) events))) (due c e.what n.teis) n) n ≡ cond x (with_teis (λ tei. is_on tei (due c e.what n.teis)) (due c e.what n.teis) n) n
      go true is =
          ap (λ hold. record (with_teis (λ tei. is_on tei (due c e.what n.teis)) (due c e.what n.teis) n) { hold = hold })
          (filter-same (λ r. is_there number r.tei (after e (after_all (fresh c) events))) (λ r. is_on r.tei (due c e.what n.teis)) _
          (λ r. there-then c number ranged within events e all there n.teis (network-teis c number events) is r.tei))
      go false is = refl

  abbrev t : Terminal
  t = terminal_after c number events

  pub terminal-then : terminal_after c number (events ++ e ∷ []) ≡ cond (e.line == number) (with_given (λ tei. is_on tei (due c e.what t.teis)) c (due c e.what t.teis) (due c e.what t.teis).notes t) t
  terminal-then =
      ap (fold (terminal_led c number) (record { teis = none_on; given = [] })) (moments-then c number ranged within events e all there)
      ∙ fold-append (terminal_led c number) (record { teis = none_on; given = [] }) (moments (fresh c) events) (its_moment c number ranged within events e all there ∷ [])
      ∙ go (e.line == number) refl
    where
      a : line_event.Answer
      a = answer e (after_all (fresh c) events)

      told-is : (e.line == number) ≡ true → taken c t.teis (notes_of a) ≡ taken c t.teis (due c e.what t.teis).notes
      told-is is =
          sym (taken-same c t.teis (notes_of a))
          ∙ ap (taken c t.teis) (subst (λ line. filter is_of_teis (notes_of (answer (at line e.what) (after_all (fresh c) events))) ≡ (due c e.what t.teis).notes) (sym (eqb-true e.line number is))
          ((teis-are-managed c events number ranged all within e.what).notes ∙ ap (λ w. (due c e.what w).notes) (sym (terminal-teis c number events))))

      go : (x : Bool) → (e.line == number) ≡ x
          → cond x (with_given (λ tei. is_there number tei (after e (after_all (fresh c) events))) c (due c e.what t.teis) (notes_of a) t) t
          ≡ cond x (with_given (λ tei. is_on tei (due c e.what t.teis)) c (due c e.what t.teis) (due c e.what t.teis).notes t) t
      go true is =
          ap (λ given. record { teis = due c e.what t.teis; given = given })
          (ap (λ new. filter (λ r. is_there number r.tei (after e (after_all (fresh c) events))) (t.given ++ new)) (told-is is)
          ∙ filter-same (λ r. is_there number r.tei (after e (after_all (fresh c) events))) (λ r. is_on r.tei (due c e.what t.teis)) _
          (λ r. there-then c number ranged within events e all there t.teis (terminal-teis c number events) is r.tei))
      go false is = refl
