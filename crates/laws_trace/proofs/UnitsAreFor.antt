-- Unit data is told of TEIs on the line, or of the group.
use Rattle.laws_trace.proofs.Vocabulary.{arith, ◌≡◌, ℕ, ◌<◌, ◌==◌, ◌&&◌, ◌||◌, not, Bool, true, false, cond, length, List, ◌∷◌, ◌++◌, Option, Some, None, is_some, refl, sym, ap, ◌∙◌, subst, eq-eqb, true≢false, ◌⊎◌, inl, inr, nat_le, Result, Ok, Err, list_any, option_map_or, and_parts, leb-true, User, ReadFault, Service, Parts, reading, same_service, Config, Answer, hears, group_tei, heard_side}
use Rattle.laws_trace.proofs.Vocabulary.{Managed, Line, has_tei, state_of, manages, IsInRange, line_at, at, has_lines, by_room, line_sound, notes_of, is_unit_of, eqb-true, IsSound, fresh, CardEvent as Event, card_answer as answer, after_all, AreAtLines, result_ok, brought, its_frame, is_for, managing_is_on as is_on, view_of, is_ui, or-true, stream_frame}
use Rattle.model_line.specs.Event as line_event
use Rattle.model_line.specs.Machine as lines
use Rattle.laws_trace.proofs.Deliveries.{unit-tells, unit-own, none-noted, group-notes}
use Rattle.laws_trace.proofs.LinkLed.{on-line}
use Rattle.laws_trace.proofs.OneLink.{Goes, event-goes}
use Rattle.laws_trace.proofs.ObservedRun.{is-told}
use Rattle.laws_trace.proofs.SeenAs.{tei-seen}
use Rattle.laws_trace.proofs.TimersAreTimely.{config-now, sound-now, front-at}
use Rattle.laws_trace.proofs.UnitsAreTold.{units-are-told}
use Rattle.laws_trace.proofs.Facts.{only}

-- A UI for a TEI on the line, or, on the user's side, for the group.
abbrev pub is_unit_for : Config → ℕ → Managed → Parts → Bool
is_unit_for c tei w f = is_ui f.control && (is_on tei w || (not (manages c.side) && tei == 127))

abbrev IsForOne : Config → ℕ → Line → Type 0
IsForOne c tei l = (has_tei tei l ≡ true) ⊎ ((c.side ≡ User) × (tei ≡ 127))

module _ (c : Config) (ranged : IsInRange c) (l : Line) (s : IsSound c l) (service : Service) (tei : ℕ) (e : line_event.Event) where
  abbrev a : Answer
  a = lines.answer c e l

  pub of-unit : list_any (is_unit_of service tei) (notes_of a) ≡ true → IsForOne c tei l
  of-unit some = go (event-goes c e l service tei s)
    where
      go : Goes c service tei e l (lines.after c e l) a → IsForOne c tei l
      go (inr (inl x)) = inl (on-line l tei x.place x.placed)
      go (inr (inr x)) = inl (on-line l tei x.place x.placed)
      go (inl x) =
          let y = none-noted c ranged l s e service tei (is_unit_of service tei) (unit-tells service tei) (unit-own service tei) x.aims some in
          let its : (same_service (y.2).service service && group_tei == tei) ≡ true =
          only (same_service (y.2).service service && group_tei == tei) (sym (ap (list_any (is_unit_of service tei)) (group-notes c ranged l s e service tei y.0 y.2)) ∙ some) in
          inr ((y.2).whose.side, sym (eqb-true group_tei tei (and_parts (same_service (y.2).service service) (group_tei == tei) its).1))

-- The same at a card.
abbrev IsThere : Config → Service → ℕ → ℕ → List Event → Type 0
IsThere c service tei number before = (is_on tei (view_of c service tei number before).teis ≡ true) ⊎ ((c.side ≡ User) × (tei ≡ 127))

pub unit-for : (c : Config) (before : List Event) (number : ℕ) → IsInRange c → AreAtLines (fresh c) before → number < c.lines → (service : Service) (tei : ℕ) (what : line_event.Event)
    → list_any (is_unit_of service tei) (notes_of (answer (at number what) (after_all (fresh c) before))) ≡ true
    → (is_on tei (view_of c service tei number before).teis ≡ true) ⊎ ((c.side ≡ User) × (tei ≡ 127))
unit-for c before number ranged all within service tei what =
    let card = after_all (fresh c) before in
    let same : card.config ≡ c = config-now c before number ranged all within service tei in
    let here : number < card.config.lines = subst (λ (d : Config). number < d.lines) (sym same) within in
    let s = sound-now c before number ranged all within service tei in
    by_room (λ ls a. list_any (is_unit_of service tei) (notes_of a) ≡ true → IsThere c service tei number before) (at number what) card
    (λ full some. absurd (true≢false (sym some)))
    (λ room some. there same (of-unit card.config s.config (line_at number card) (line_sound card number (has_lines card s) here) service tei what some))
  where
    there : (after_all (fresh c) before).config ≡ c → IsForOne (after_all (fresh c) before).config tei (line_at number (after_all (fresh c) before)) → IsThere c service tei number before
    there same o = grind (arith, tei-seen)

-- So it is of the frame that comes.
abbrev IsHere : Config → Service → ℕ → ℕ → List Event → Bool
IsHere c service tei number before = is_on tei (view_of c service tei number before).teis || (not (manages c.side) && tei == 127)

pub unit-is : (c : Config) (before : List Event) (number : ℕ) → IsInRange c → AreAtLines (fresh c) before → number < c.lines → (service : Service) (tei : ℕ) (what : line_event.Event)
    (frame : Option Parts) → (list_any (is_unit_of service tei) (notes_of (answer (at number what) (after_all (fresh c) before))) ≡ true → option_map_or (λ (f : Parts). is_ui f.control) frame false ≡ true)
    → list_any (is_unit_of service tei) (notes_of (answer (at number what) (after_all (fresh c) before))) ≡ true
    → option_map_or (is_unit_for c tei (view_of c service tei number before).teis) frame false ≡ true
unit-is c before number ranged all within service tei what None ui some = ui some
unit-is c before number ranged all within service tei what (Some f) ui some = grind (arith, eq-eqb, or-true, unit-for)

-- And each of at most N201 octets is told.
module _ (c : Config) (events : List Event) (number : ℕ) (ranged : IsInRange c) (all : AreAtLines (fresh c) events) (within : number < c.lines) (service : Service) (tei : ℕ) (before : List Event) where
  abbrev Told : line_event.Event → Type 0
  Told what = list_any (is_unit_of service tei) (notes_of (answer (at number what) (after_all (fresh c) before))) ≡ true

  abbrev Comes : Option Parts → Type 0
  Comes frame = option_map_or (λ (f : Parts). is_unit_for c tei (view_of c service tei number before).teis f && nat_le (length f.info) c.n201) frame false ≡ true

  by-frame : (octets : List ℕ) (behind : List Event) → events ≡ before ++ at number (hears (stream_frame octets)) ∷ behind → (r : Result Parts ReadFault) → reading (heard_side c) octets ≡ r
      → Comes (its_frame service tei (result_ok r)) → Told (hears (stream_frame octets))
  by-frame octets behind split (Err fault) read some = absurd (true≢false (sym some))
  by-frame octets behind split (Ok f) read some = on (is_for service tei f.address) refl some
    where
      first : AreAtLines (fresh c) before
      first = front-at (fresh c) before (at number (hears (stream_frame octets))) behind (subst (AreAtLines (fresh c)) split all)

      there : IsHere c service tei number before ≡ true → (is_some (state_of service tei (line_at number (after_all (fresh c) before))) ≡ true) ⊎ ((c.side ≡ User) × (tei ≡ 127))
      there is = go (is_on tei (view_of c service tei number before).teis) refl is
        where
          go : (b : Bool) → is_on tei (view_of c service tei number before).teis ≡ b → (b || (not (manages c.side) && tei == 127)) ≡ true
              → (is_some (state_of service tei (line_at number (after_all (fresh c) before))) ≡ true) ⊎ ((c.side ≡ User) × (tei ≡ 127))
          go true on e = inl (sym (is-told service tei (line_at number (after_all (fresh c) before))) ∙ sym (tei-seen c before number ranged first within service tei) ∙ on)
          go false off e = let x = and_parts (not (manages c.side)) (tei == 127) e in inr ((grind arith), eqb-true tei 127 x.1)

      on : (b : Bool) → is_for service tei f.address ≡ b → Comes (cond b (Some f) None) → Told (hears (stream_frame octets))
      on false other some = absurd (true≢false (sym some))
      on true for some =
          let x = and_parts (is_unit_for c tei (view_of c service tei number before).teis f) (nat_le (length f.info) c.n201) some in
          let y = and_parts (is_ui f.control) (IsHere c service tei number before) x.0 in
          (units-are-told c events number ranged all within service tei octets f before behind split
          (record { read = read; whose = for; control = y.0; size = leb-true (length f.info) c.n201 x.1; there = there y.1 })).0

  pub units-are : (what : line_event.Event) (behind : List Event) → events ≡ before ++ at number what ∷ behind → Comes (brought c service tei what) → Told what
  units-are what behind split some = grind (arith, by-frame)
