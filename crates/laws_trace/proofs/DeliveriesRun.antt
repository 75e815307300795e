-- What is told is what was heard: over runs.
use Rattle.laws_trace.proofs.Vocabulary.{◌⊎◌, inl, inr, arith, length, nat_le, le-leb, within, ◌≡◌, ℕ, ◌%◌, ◌&&◌, Bool, true, false, List, Option, Some, None, refl, sym, ap, ◌∙◌, subst, eq-eqb, ◌==◌, Result, Ok, Err, true≢false, inl, inr, is_some, Note, list_any, option_or, option_map_or, none-some, ReadFault, reading, sapi_of, same_service, Service, Parts, Terms, Link, is_multiple_frame}
use Rattle.laws_trace.proofs.Vocabulary.{event-delivers}
use Rattle.laws_trace.proofs.Vocabulary.{delivered-at_once, notes-own, event-tells, unit_heard, event-unit, within-is, Config, hears, Answer, Line, place_in, link_in, link_of, terms, aim_of, aim_of_heard, aim_of_reading, message_of, heard_side, group_tei, IsInRange, at_side, notes_of, contents_in, is_data_of, is_unit_of, own-all, addressed-is, sapi-is, same-sapi, service-same, both-true}
use Rattle.laws_trace.proofs.Vocabulary.{told-once, eqb-true, fresh_link as fresh, Event, line_after as after, answer, IsSound, result_ok, frame_of, is_for, is_ui, ReleaseConfirm, ReleaseIndication, stream_frame, StreamEvent, link_told}
use Rattle.model_link.specs.Events as link
use Rattle.model_link.specs.Sound as link_sound
use Rattle.laws_trace.proofs.Counting.{Watched, begins, counted}
use Rattle.laws_trace.proofs.DeliveriesWatched.{number_in, IsOfFrame, IsHeard}
use Rattle.laws_trace.proofs.Begins.{unless, up-before}
use Rattle.laws_trace.proofs.Deliveries.{frame_by, data-tells, unit-tells, data-own, unit-own, none-noted, one-begins, data-of, unit-of, group-notes}
use Rattle.laws_trace.proofs.OneLink.{HasOne, HasNone, Goes, is_at_link, event-goes, IsGivenUp}
use Rattle.laws_trace.proofs.ClearedTells.{ends-alone}
use Rattle.laws_trace.proofs.Facts.{only}
use Rattle.laws_trace.proofs.LineAtEnd.{link-at-end}

-- Contents of at most N201 octets.
abbrev pub IsSmall : ℕ → Option (List ℕ) → Type 0
IsSmall n contents = option_map_or (λ (octets : List ℕ). nat_le (length octets) n) contents false ≡ true

within-small : (n : ℕ) (o : Option (List ℕ)) (contents : List ℕ) → within n o ≡ Some contents → IsSmall n (Some contents)
within-small n o contents e = grind (arith, none-some, nat_le)

-- V(R) is what was counted, while the link is up.
abbrev pub IsCount : Link → ℕ → Type 0
IsCount k n = is_multiple_frame k.state ≡ true → k.r ≡ n

-- A frame for a link of a TEI on the line is an event of this link.
its-aim : (c : Config) (l : Line) (service : Service) (tei place : ℕ) → place_in l tei ≡ Some place → (r : Result Parts ReadFault) (f : Parts) → result_ok r ≡ Some f
    → is_for service tei f.address ≡ true → is_at_link service tei (aim_of_reading c l r) ≡ true
its-aim c l service tei place on (Err fault) f is for = absurd (none-some f is)
its-aim c l service tei place on (Ok g) f is for =
    let same : g ≡ f = cc is in
    let parts = both-true (g.address.sapi == sapi_of service) (g.address.tei == tei) (ap (λ (x : Parts). is_for service tei x.address) same ∙ for) in
    ap (is_at_link service tei)
    (ap (at_side c g)
    (addressed-is l g.address service tei place (link.frame g) (message_of g.control g.info) (eqb-true g.address.sapi (sapi_of service) parts.0) (eqb-true g.address.tei tei parts.1) on))
    ∙ ap (λ b. b && tei == tei) (service-same service) ∙ eq-eqb tei tei refl

pub heard-aims-at : (c : Config) (l : Line) (service : Service) (tei place : ℕ) → place_in l tei ≡ Some place → (e : StreamEvent) (f : Parts)
    → frame_of c e ≡ Some f → is_for service tei f.address ≡ true → is_at_link service tei (aim_of_heard c l e) ≡ true
heard-aims-at c l service tei place on (stream_frame octets) f is for = its-aim c l service tei place on (reading (heard_side c) octets) f is for
heard-aims-at c l service tei place on other f is for = absurd (none-some f is)

pub event-aims : (c : Config) (l : Line) (service : Service) (tei place : ℕ) → place_in l tei ≡ Some place → (e : Event) (f : Parts) → frame_by c e ≡ Some f
    → is_for service tei f.address ≡ true → is_at_link service tei (aim_of c e l) ≡ true
event-aims c l service tei place on (hears what) f is for = heard-aims-at c l service tei place on what f is for
event-aims c l service tei place on other f is for = absurd (none-some f is)

and-false : (a b : Bool) → (a ≡ true → ⊥) → (a && b) ≡ false
and-false a b h = grind arith

module _ (c : Config) (ranged : IsInRange c) (l : Line) (s : IsSound c l) (e : Event) (service : Service) (tei : ℕ) (n : ℕ) (before : IsCount (link_of service tei l) n) where
  abbrev a : Answer
  a = answer c e l

  abbrev k : Link
  k = link_of service tei l

  abbrev w : Watched
  w = record { frame = frame_by c e; count = n }

  abbrev Data : Option (List ℕ) → Type 0
  Data contents = IsOfFrame service tei w (λ control. number_in control ≡ Some (n % 128)) contents

  abbrev UnitData : Option (List ℕ) → Type 0
  UnitData contents = IsOfFrame service tei w (λ control. is_ui control ≡ true) contents

  -- One event of the link.
  module _ (x : HasOne c service tei e l (after c e l) a) where
    abbrev t : Terms
    t = terms c service tei

    own-sound : link_sound.IsSound t k
    own-sound = link-at-end c l ranged s service tei x.place x.placed

    pub data-noted : list_any (is_data_of service tei) (notes_of a) ≡ is_some (link_told t x.event k).delivered
    data-noted =
        ap (list_any (is_data_of service tei)) x.notes ∙ (own-all t (link_told t x.event k).notes (notes-own t x.event k)).0 ∙ (event-tells t x.event k).1

    unit-noted : list_any (is_unit_of service tei) (notes_of a) ≡ is_some (link_told t x.event k).unit
    unit-noted =
        ap (list_any (is_unit_of service tei)) x.notes ∙ (own-all t (link_told t x.event k).notes (notes-own t x.event k)).1 ∙ (event-tells t x.event k).3

    one-data : list_any (is_data_of service tei) (notes_of a) ≡ true → Data (contents_in a)
    one-data some = go (link_told t x.event k).delivered refl
      where
        go : (o : Option (List ℕ)) → (link_told t x.event k).delivered ≡ o → Data (contents_in a)
        go None is = absurd (true≢false (sym some ∙ data-noted ∙ ap is_some is))
        go (Some contents) is =
            let y = delivered-at_once t x.event k contents is in
            let told : contents_in a ≡ Some contents = x.contents ∙ ap (λ o. option_or o (link_told t x.event k).unit) is in
            subst Data (sym told) (data-of c e a service tei x.event x.by k n before contents y.0 y.1 y.2 y.3)

    unit-by : (P : Option (List ℕ) → Type 0) → ((contents : List ℕ) → within t.n201 (unit_heard x.event) ≡ Some contents → P (Some contents))
        → list_any (is_unit_of service tei) (notes_of a) ≡ true → P (contents_in a)
    unit-by P each some = go (link_told t x.event k).unit refl
      where
        none-delivered : (contents : List ℕ) → (link_told t x.event k).unit ≡ Some contents → ((link_told t x.event k).delivered ≡ None) ⊎ ((link_told t x.event k).unit ≡ None) → (link_told t x.event k).delivered ≡ None
        none-delivered contents is (inl none) = none
        none-delivered contents is (inr none) = absurd (none-some contents (sym none ∙ is))

        go : (o : Option (List ℕ)) → (link_told t x.event k).unit ≡ o → P (contents_in a)
        go None is = absurd (true≢false (sym some ∙ unit-noted ∙ ap is_some is))
        go (Some contents) is =
            subst P (sym (x.contents ∙ ap (λ o. option_or o (link_told t x.event k).unit) (none-delivered contents is (event-tells t x.event k).2) ∙ is)) (each contents (sym (event-unit t k own-sound x.event) ∙ is))

    one-unit : list_any (is_unit_of service tei) (notes_of a) ≡ true → UnitData (contents_in a)
    one-unit = unit-by UnitData (λ contents some. unit-of c e a service tei x.event x.by n contents (within-is t.n201 (unit_heard x.event) contents some))

    one-small : list_any (is_unit_of service tei) (notes_of a) ≡ true → IsSmall c.n201 (contents_in a)
    one-small = unit-by (IsSmall c.n201) (within-small t.n201 (unit_heard x.event))

  -- None of it.
  module _ (x : HasNone c service tei e l (after c e l) a) where
    pub no-data : list_any (is_data_of service tei) (notes_of a) ≡ true → ⊥
    no-data some =
        let y = none-noted c ranged l s e service tei (is_data_of service tei) (data-tells service tei) (data-own service tei) x.aims some in
        true≢false (sym some ∙ ap (list_any (is_data_of service tei)) (group-notes c ranged l s e service tei y.0 y.2))

    -- of unit data, that of the group on the user's side
    group-told : list_any (is_unit_of service tei) (notes_of a) ≡ true → UnitData (contents_in a)
    group-told some =
        let y = none-noted c ranged l s e service tei (is_unit_of service tei) (unit-tells service tei) (unit-own service tei) x.aims some in
        let h = y.2 in
        let f = h.parts in
        let its : (same_service h.service service && group_tei == tei) ≡ true =
        only (same_service h.service service && group_tei == tei) (sym (ap (list_any (is_unit_of service tei)) (group-notes c ranged l s e service tei y.0 h)) ∙ some) in
        record {
          frame = f;
          heard = ap (frame_by c) h.by ∙ ap result_ok h.read;
          whose =
              ap (λ n. n == sapi_of service && f.address.tei == tei) (sapi-is f.address.sapi h.service h.whose.sapi)
              ∙ ap (λ n. sapi_of h.service == sapi_of service && n == tei) h.whose.group
              ∙ ap (λ b. b && group_tei == tei) (same-sapi h.service service) ∙ its;
          control = ap is_ui h.whose.control;
          told = y.1 ∙ ap (λ octets. Some octets) (sym h.contents_are);
        }

    group-small : list_any (is_unit_of service tei) (notes_of a) ≡ true → IsSmall c.n201 (contents_in a)
    group-small some =
        let y = none-noted c ranged l s e service tei (is_unit_of service tei) (unit-tells service tei) (unit-own service tei) x.aims some in
        let h = y.2 in
        subst (IsSmall c.n201) (sym (y.1 ∙ ap (λ octets. Some octets) (sym h.contents_are))) (le-leb (length h.parts.info) c.n201 h.whose.size)

    none-counts : IsCount (link_of service tei (after c e l)) (counted service tei w (notes_of a))
    none-counts up = grind (arith, by-frame, frame_by, begins, unless, no-data)
      where
        fresh-down : (p : Option ℕ) → place_in l tei ≡ p → is_multiple_frame k.state ≡ true → (f : Parts) → frame_by c e ≡ Some f
            → is_for service tei f.address ≡ true → ⊥
        fresh-down None off up f is for = true≢false (sym up ∙ ap (λ o. is_multiple_frame (option_map_or (link_in l service) o fresh).state) off)
        fresh-down (Some place) on up f is for = true≢false (sym (event-aims c l service tei place on e f is for) ∙ x.aims)

        by-frame : (o : Option Parts) → frame_by c e ≡ o → is_multiple_frame k.state ≡ true → begins service tei o (notes_of a) ≡ false
        by-frame None is up = refl
        by-frame (Some f) is up = and-false (is_for service tei f.address) _ (λ for. fresh-down (place_in l tei) refl up f is for)

  -- Its deactivation.
  pub ended-notes : (q : Note → Bool) → ((s : Service) (n : ℕ) → q (ReleaseIndication s n) ≡ false) → ((s : Service) (n : ℕ) → q (ReleaseConfirm s n) ≡ false)
      → IsGivenUp c service tei e l (after c e l) a → list_any q (notes_of a) ≡ false
  ended-notes q indication confirm x = ap (list_any q) x.notes ∙ ends-alone q indication confirm (terms c service tei) (link_of service tei l)

  -- Unit data that is told has at most N201 octets.
  pub event-small : list_any (is_unit_of service tei) (notes_of a) ≡ true → IsSmall c.n201 (contents_in a)
  event-small some = grind (arith, group-small, ended-notes, one-small, event-goes)

  -- So of every event.
  pub event-told : IsHeard service tei w (notes_of a) (contents_in a) × IsCount (link_of service tei (after c e l)) (counted service tei w (notes_of a))
  event-told = go (event-goes c e l service tei s)
    where
      go : Goes c service tei e l (after c e l) a → IsHeard service tei w (notes_of a) (contents_in a) × IsCount (link_of service tei (after c e l)) (counted service tei w (notes_of a))
      go (inl x) = grind (arith, no-data, group-told, told-once, none-counts)
      go (inr (inr x)) = grind (arith, ended-notes, told-once)
      go (inr (inl x)) = grind (arith, one-data, one-unit, told-once, one-begins, data-noted, event-delivers, up-before)
