-- How a link stands, to whoever watches it: over runs.
use Rattle.laws_trace.proofs.Vocabulary.{arith, ◌≡◌, ℕ, ◌&&◌, ◌||◌, Bool, true, false, cond, List, Option, Some, None, refl, sym, ap, ◌∙◌, subst, eq-eqb, inl, inr, true≢false, fold, not, is_some, list_any, Service, Parts, Terms, restarts, Link, is_multiple_frame, Config, request, Answer, Line, place_in, link_of, terms, aim_of, IsInRange, notes_of, is_data_of, IsBy, not-refused, eqb-true}
use Rattle.laws_trace.proofs.Vocabulary.{fresh_link as fresh, Event, told, line_after as after, answer, Request, IsSound, Seen, seen, is_for, service-same, link_told}
use Rattle.laws_link.specs.Flags as flags
use Rattle.model_link.specs.Events as link
use Rattle.laws_trace.proofs.DeliveriesWatched.{Standing, busy_asked, brings_information, stand}
use Rattle.model_link.specs.Sound.{is_information}
use Rattle.laws_trace.proofs.Counting.{begins_by, begins, counted}
use Rattle.laws_trace.proofs.Deliveries.{frame_by, brings-frame, brings-none, one-begins, heard-by}
use Rattle.laws_trace.proofs.DeliveriesRun.{IsCount, event-aims, data-noted, no-data, ended-notes}
use Rattle.laws_trace.proofs.OneLink.{HasOne, HasNone, Goes, is_at_link, event-goes}
use Rattle.laws_trace.proofs.StandingOfLink.{quiet, calm, IsStanding, brings, busy_behind, rejected_behind, link-stands, delivers-free}
use Rattle.laws_trace.proofs.Facts.{never}

module _ (service : Service) (tei : ℕ) where
  abbrev pub granted_busy : Request → Answer → Bool → Bool
  granted_busy r (told t) busy = busy_asked service tei busy r
  granted_busy r other busy = busy

  abbrev pub asked_busy : Event → Answer → Bool → Bool
  asked_busy (request r) a busy = granted_busy r a busy
  asked_busy other a busy = busy

  -- How it stands behind an event.
  abbrev pub behind : Config → Event → Line → Answer → ℕ → Bool → Bool → Standing
  behind c e l a m busy rejected =
      let f = frame_by c e in
      let ns = notes_of a in
      record {
        told = quiet (counted service tei (record { frame = f; count = m }) ns);
        busy = cond (begins service tei f ns) false (asked_busy e a busy);
        rejected = cond (begins service tei f ns || list_any (is_data_of service tei) ns) false (cond (brings_information service tei f && not busy) true rejected);
      }

  module _ (c : Config) where
    abbrev pub standing : Standing → List Seen → Standing
    standing w t = fold (stand c service tei) w t

    pub stand-is : (e : Event) (l : Line) (m : ℕ) (busy rejected : Bool)
        → standing (calm m busy rejected) (seen e (answer c e l)) ≡ behind c e l (answer c e l) m busy rejected
    unfolding answer
    stand-is e l m busy rejected = grind arith

  -- What an event of the line is to its link.
  module _ (c : Config) (e : Event) (a : Answer) where
    brings-is : (le : link.Event) → IsBy c e a service tei le → brings_information service tei (frame_by c e) ≡ brings le
    brings-is le by = grind (arith, brings-frame, brings_information, is_information, brings-none, frame_by)

    asked-is : (le : link.Event) (busy : Bool) → IsBy c e a service tei le → asked_busy e a busy ≡ flags.busy_asked le busy
    asked-is le busy by = grind (arith, heard-by, service-same, eq-eqb, never)

  -- A request for a link that is on the line is an event of this link.
  module _ (c : Config) (l : Line) (place : ℕ) (on : place_in l tei ≡ Some place) where
    asked-elsewhere : (e : Event) (busy : Bool) → is_at_link service tei (aim_of c e l) ≡ false → asked_busy e (answer c e l) busy ≡ busy
    asked-elsewhere e busy away = grind (arith, eqb-true, not-refused)

  -- One event of a line.
  module _ (c : Config) (ranged : IsInRange c) (l : Line) (s : IsSound c l) (e : Event) (m : ℕ) (count : IsCount (link_of service tei l) m)
      (busy rejected : Bool) (stands : IsStanding (link_of service tei l) busy rejected) where
    abbrev a : Answer
    a = answer c e l

    abbrev own : Link
    own = link_of service tei l

    abbrev now : Standing
    now = behind c e l a m busy rejected

    abbrev StandsNow : Link → Type 0
    StandsNow k = IsStanding k now.busy now.rejected

    abbrev t : Terms
    t = terms c service tei

    module _ (x : HasOne c service tei e l (after c e l) a) where
      pub one-restarts : begins service tei (frame_by c e) (notes_of a) ≡ restarts t x.event own
      one-restarts = ap (begins service tei (frame_by c e)) x.notes ∙ one-begins c e a service tei x.event x.by own

      abbrev delivers : Bool
      delivers = is_some (link_told t x.event own).delivered

      pub busy-is : now.busy ≡ busy_behind (restarts t x.event own) x.event busy
      busy-is = grind (arith, one-restarts, asked-is)

      pub rejected-is : now.rejected ≡ rejected_behind (restarts t x.event own) delivers x.event busy rejected
      rejected-is =
          let d = list_any (is_data_of service tei) (notes_of a) in
          let i = cond (brings_information service tei (frame_by c e) && not busy) true rejected in
          ap (λ b. cond (b || d) false i) one-restarts
          ∙ ap (λ d. cond (restarts t x.event own || d) false i) (data-noted c ranged l s e service tei m count x)
          ∙ ap (λ b. cond (restarts t x.event own || delivers) false (cond (b && not busy) true rejected)) (brings-is c e a x.event x.by)

      one-stands : StandsNow (link_of service tei (after c e l))
      one-stands = grind (arith, busy_behind, rejected_behind, busy-is, rejected-is, link-stands)

      one-free : list_any (is_data_of service tei) (notes_of a) ≡ true → asked_busy e a busy ≡ false
      one-free some = go (link_told t x.event own).delivered refl
        where
          go : (o : Option (List ℕ)) → (link_told t x.event own).delivered ≡ o → asked_busy e a busy ≡ false
          go None is = absurd (true≢false (sym some ∙ data-noted c ranged l s e service tei m count x ∙ ap is_some is))
          go (Some contents) is =
              let y = delivers-free t own busy x.event contents is in
              asked-is c e a x.event busy x.by ∙ y.2 ∙ sym (stands.busy_is y.0) ∙ y.1

    anew-stands : link_of service tei (after c e l) ≡ fresh → StandsNow (link_of service tei (after c e l))
    anew-stands new = subst StandsNow (sym new) (grind (arith, never))

    module _ (x : HasNone c service tei e l (after c e l) a) where
      on-line : (o : Option ℕ) → place_in l tei ≡ o → is_multiple_frame own.state ≡ true → (place : ℕ) × (place_in l tei ≡ Some place)
      on-line o on up = grind arith

      not-for : (f : Parts) → frame_by c e ≡ Some f → is_multiple_frame own.state ≡ true → (b : Bool) → is_for service tei f.address ≡ b → is_for service tei f.address ≡ false
      not-for f is up false other = other
      not-for f is up true for =
          let on = on-line (place_in l tei) refl up in
          absurd (true≢false (sym (event-aims c l service tei on.0 on.1 e f is for) ∙ x.aims))

      by-frame : (o : Option Parts) → frame_by c e ≡ o → is_multiple_frame own.state ≡ true
          → (begins service tei o (notes_of a) ≡ false) × (brings_information service tei o ≡ false)
      by-frame o is up = grind (arith, not-for, begins_by, is_information)

      untold : (b : Bool) → list_any (is_data_of service tei) (notes_of a) ≡ b → list_any (is_data_of service tei) (notes_of a) ≡ false
      untold false is = is
      untold true is = absurd (no-data c ranged l s e service tei m count x is)

      busy-stays : is_multiple_frame own.state ≡ true → now.busy ≡ busy
      busy-stays up =
          let on = on-line (place_in l tei) refl up in
          ap (λ b. cond b false (asked_busy e a busy)) (by-frame (frame_by c e) refl up).0 ∙ asked-elsewhere c l on.0 on.1 e busy x.aims

      rejected-stays : is_multiple_frame own.state ≡ true → now.rejected ≡ rejected
      rejected-stays up =
          let first = by-frame (frame_by c e) refl up in
          let told = untold (list_any (is_data_of service tei) (notes_of a)) refl in
          let begins-none = first.0 in
          let brings-none-of-it = first.1 in
          grind (arith, told, begins-none, brings-none-of-it)

    -- So of every event.
    pub event-stands : StandsNow (link_of service tei (after c e l)) × (list_any (is_data_of service tei) (notes_of a) ≡ true → asked_busy e a busy ≡ false)
    event-stands = go (event-goes c e l service tei s)
      where
        go : Goes c service tei e l (after c e l) a → StandsNow (link_of service tei (after c e l)) × (list_any (is_data_of service tei) (notes_of a) ≡ true → asked_busy e a busy ≡ false)
        go (inl x) = ((grind (arith, busy-stays, rejected-stays, anew-stands)), λ some. absurd (no-data c ranged l s e service tei m count x some))
        go (inr (inl x)) = (one-stands x, one-free x)
        go (inr (inr x)) = (
          anew-stands x.is,
          λ some. absurd (true≢false (sym some ∙ ended-notes c ranged l s e service tei m count (is_data_of service tei) (λ s n. refl) (λ s n. refl) x)),
        )
