-- Unit data that is heard is told: the law.
use Rattle.laws_trace.proofs.Vocabulary.{arith, ◌≡◌, ℕ, ◌≤◌, ◌==◌, ◌&&◌, ◌||◌, Bool, true, false, List, length, Option, Some, None, refl, sym, ap, ◌∙◌, subst, true≢false, ◌⊎◌, inl, inr, Ok, is_some, ◌∷◌, ◌++◌, list_any, option_or, le-leb, none-some, User, Ui, Service, Parts, reading, sapi_of, service_of, in_ui_frame, in_sequence, within, event-unit, data-is, Terms, Link, notes-own}
use Rattle.laws_trace.proofs.Vocabulary.{event-tells, Config, hears, Answer, heard_side, Line, link_of, place_in, state_of, terms, IsToGroup, IsInRange, line_at, at, notes_of, contents_in, is_unit_of, group-read, own-all, service-same, both-true, IsBy, card_answer as answer, eqb-true, Control, Event as LineEvent, IsSound, fresh, CardEvent as Event}
use Rattle.laws_trace.proofs.Vocabulary.{after_all}
use Rattle.laws_trace.proofs.Vocabulary.{AreAtLines, result_ok, is_for, Always, is_ui, link_told as told, stream_frame}
use Rattle.model_link.specs.Events as link
use Rattle.model_link.specs.Sound as link_sound
use Rattle.model_line.specs.Machine as lines
use Rattle.laws_trace.proofs.LineAtEnd.{line-at-end, link-at-end}
use Rattle.laws_trace.proofs.Deliveries.{frame_by, brings-frame, brings-none}
use Rattle.laws_trace.proofs.DeliveriesRun.{event-aims}
use Rattle.laws_trace.proofs.OneLink.{HasOne, Goes, event-goes}
use Rattle.laws_trace.proofs.TimersAreTimely.{front-at, config-now}
use Rattle.laws_trace.proofs.TimersOfEvent.{off-state}

-- A UI is one.
which-ui : (control : Control) → is_ui control ≡ true → (p : Bool) × (control ≡ Ui p)
which-ui control is = grind arith

its-service : (service : Service) → service_of (sapi_of service) ≡ Some service
its-service service = grind arith

-- The event of the link is the frame.
is-frame : (c : Config) (e : LineEvent) (a : Answer) (service : Service) (tei : ℕ) (f : Parts) → frame_by c e ≡ Some f → (le : link.Event)
    → IsBy c e a service tei le → le ≡ link.received (link.frame f)
is-frame c e a service tei f is le by = grind (arith, brings-frame, none-some, brings-none, frame_by)

abbrev Tells : Service → ℕ → List ℕ → Answer → Type 0
Tells service tei info a = (list_any (is_unit_of service tei) (notes_of a) ≡ true) × (contents_in a ≡ Some info)

module _ (c : Config) (ranged : IsInRange c) (l : Line) (s : IsSound c l) (service : Service) (tei : ℕ) (octets : List ℕ) (f : Parts)
    (read : reading (heard_side c) octets ≡ Ok f) (for : is_for service tei f.address ≡ true) (ui : is_ui f.control ≡ true) (size : length f.info ≤ c.n201) where
  abbrev e : LineEvent
  e = hears (stream_frame octets)

  abbrev t : Terms
  t = terms c service tei

  abbrev k : Link
  k = link_of service tei l

  whose : (f.address.sapi ≡ sapi_of service) × (f.address.tei ≡ tei)
  whose = let x = both-true (f.address.sapi == sapi_of service) (f.address.tei == tei) for in (eqb-true f.address.sapi (sapi_of service) x.0, eqb-true f.address.tei tei x.1)

  -- to the group
  pub group : c.side ≡ User → tei ≡ 127 → Tells service tei f.info (lines.answer c e l)
  group side all =
      let to : IsToGroup c f service = grind (arith, ap service_of whose.0 ∙ its-service service, whose.1 ∙ all, which-ui) in
      let is = (group-read c l f octets service s read to).answer_is in (
        ap (λ a. list_any (is_unit_of service tei) (notes_of a)) is ∙ ap (λ b. (b && 127 == tei) || false) (service-same service)
            ∙ ap (λ n. (127 == n) || false) all,
        ap contents_in is,
      )

  -- to a link of a TEI on the line
  its-unit : (told t (link.received (link.frame f)) k).delivered ≡ None
  its-unit = grind (arith, data-is, link.received, link.frame, in_sequence, which-ui)

  due : within c.n201 (in_ui_frame f.control f.info) ≡ Some f.info
  due = grind (arith, which-ui, le-leb)

  one : (x : HasOne c service tei e l (lines.after c e l) (lines.answer c e l)) → Tells service tei f.info (lines.answer c e l)
  one x =
      let sound : link_sound.IsSound t k = link-at-end c l ranged s service tei x.place x.placed in
      let is = is-frame c e (lines.answer c e l) service tei f (ap result_ok read) x.event x.by in
      let unit : (told t x.event k).unit ≡ Some f.info = ap (λ le. (told t le k).unit) is ∙ event-unit t k sound (link.received (link.frame f)) ∙ due in
      let none : (told t x.event k).delivered ≡ None = ap (λ le. (told t le k).delivered) is ∙ its-unit in (
        ap (list_any (is_unit_of service tei)) x.notes ∙ (own-all t (told t x.event k).notes (notes-own t x.event k)).1 ∙ (event-tells t x.event k).3 ∙ ap is_some unit,
        x.contents ∙ ap (λ o. option_or o (told t x.event k).unit) none ∙ unit,
      )

  on-line : is_some (state_of service tei l) ≡ true → (o : Option ℕ) → place_in l tei ≡ o → (place : ℕ) × (place_in l tei ≡ Some place)
  on-line on o is = grind (arith, is_some, off-state)

  pub terminal : is_some (state_of service tei l) ≡ true → Tells service tei f.info (lines.answer c e l)
  terminal on = go (event-goes c e l service tei s)
    where
      go : Goes c service tei e l (lines.after c e l) (lines.answer c e l) → Tells service tei f.info (lines.answer c e l)
      go (inl x) =
          let there = on-line on (place_in l tei) refl in
          absurd (true≢false (sym (event-aims c l service tei there.0 there.1 e f (ap result_ok read) for) ∙ x.aims))
      go (inr (inl x)) = one x
      go (inr (inr x)) = absurd (cc x.by.0)

-- A UI of a service brings unit data, of at most N201 octets, to a TEI that is on the line, whatever the state of its link; or,
-- on the user's side, to the group of all terminals, which is TEI 127 (Q.921 clauses 3.3.4, 5.2.2 and 5.2.3).
pub record BringsUnit (c : Config) (state : Option ℕ) (service : Service) (tei : ℕ) (octets : List ℕ) (frame : Parts) : Type 0 where
  pub read : reading (heard_side c) octets ≡ Ok frame
  pub whose : is_for service tei frame.address ≡ true
  pub control : is_ui frame.control ≡ true
  pub size : length frame.info ≤ c.n201
  pub there : (is_some state ≡ true) ⊎ ((c.side ≡ User) × (tei ≡ 127))

-- It is told in the moment of the frame: its information, as unit data of that service and TEI.
abbrev pub UnitsAreTold : Config → List Event → ℕ → Type 0
UnitsAreTold c events number =
    (service : Service) (tei : ℕ) (octets : List ℕ) (frame : Parts) (before behind : List Event) →
    let e = at number (hears (stream_frame octets)) in
    let card = after_all (fresh c) before in
    events ≡ before ++ e ∷ behind → BringsUnit c (state_of service tei (line_at number card)) service tei octets frame →
    (list_any (is_unit_of service tei) (notes_of (answer e card)) ≡ true) × (contents_in (answer e card) ≡ Some frame.info)

pub units-are-told : Always UnitsAreTold
unfolding lines.takes_slot
units-are-told c events number ranged all within service tei octets f before behind is x =
    let front = front-at (fresh c) before (at number (hears (stream_frame octets))) behind (subst (AreAtLines (fresh c)) is all) in
    let l = line_at number (after_all (fresh c) before) in
    let s = line-at-end c before number ranged front within in
    subst (λ (d : Config). Tells service tei f.info (lines.answer d (hears (stream_frame octets)) l)) (sym (config-now c before number ranged front within service tei)) (by s x.there)
  where
    by : IsSound c (line_at number (after_all (fresh c) before)) → (is_some (state_of service tei (line_at number (after_all (fresh c) before))) ≡ true) ⊎ ((c.side ≡ User) × (tei ≡ 127))
        → Tells service tei f.info (lines.answer c (hears (stream_frame octets)) (line_at number (after_all (fresh c) before)))
    by s (inl on) = terminal c ranged (line_at number (after_all (fresh c) before)) s service tei octets f x.read x.whose x.control x.size on
    by s (inr group_is) = group c ranged (line_at number (after_all (fresh c) before)) s service tei octets f x.read x.whose x.control x.size group_is.0 group_is.1
