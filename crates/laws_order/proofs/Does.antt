-- What an event of a line is to the link of a service with a TEI that is in state 7 or 8.
use Rattle.laws_order.proofs.Vocabulary.{arith, ◌≡◌, ℕ, ◌==◌, ◌&&◌, ◌||◌, not, Bool, true, false, cond, IsTrue, List, [], ◌∷◌, ◌++◌, Ok, refl, sym, ap, ◌∙◌, eq-eqb, true≢false, ◌⊎◌, inl, inr, All, fold, option_to_list, unwrap_or, list_any, All-head, All-tail, Ui, Note, Service, Parts, reading, sapi_of, State, Terms, Link, is_multiple_frame, address_at, Config, hears, expiry}
use Rattle.laws_order.proofs.Vocabulary.{request, next, Answer, heard_side, Line, link_of, terms, aim_of, accepted, is_up_in, notes_of, contents_in, up_by_note, is_up_of, of_link, is_granted, IsBy, timer_of, link-grants, not-refused, same-sapi, sapi-is, known-up, frame_in, is_own, seen, is_ui, unless, granted-data, data-noted, no-data, frames_given, is_at_link, HasOne, IsForeign, HasNone}
use Rattle.laws_order.proofs.Vocabulary.{event-goes, read-again, frames_by, fresh, Event, is_of_link, of_link_in, data_noted, data_granted, ends_by_note, ends_by, of_link_on, stream_frame, link_frame, LinkEvent, Release, cleared, requested, overlong, undefined, wrong_size, offer, expired, received, NoteEstablishIndication, NoteData, NoteReleaseIndication, NoteRemoved, NoteEstablishConfirm}
use Rattle.laws_order.proofs.Vocabulary.{NoteError, NoteXid, NoteAssigned, NoteReleaseConfirm, NoteDoubled, NoteUnit, or-true, event-follows, own_side}
use Rattle.lapd_frame.specs.declared.notes.Note.TheVariants.{Denied, Unassigned, RemoveAll}
use Rattle.laws_trace.proofs.DataAsked.{elsewhere}
use Rattle.laws_link.proofs.KnownRows.{is_decided}
use Rattle.model_link.specs.Machine as links
use Rattle.model_line.specs.Machine as lines
use Rattle.model_line.specs.Sound as line_sound
use Rattle.laws_order.proofs.LinkEnds.{Ended, own, Leaves, IsNoRelease, event-leaves, Fallen, undefined-falls, wrong-size-falls, overlong-falls, unit-data}
use Rattle.laws_order.proofs.Shown.{fits, same-frames, noted-is, asked_in, granted-is, ends-is, request-ends}

-- In states 7 and 8 layer 3 decides nothing about an establishment that is under way.
calm-up : (x : State) → is_multiple_frame x ≡ true → is_decided x ≡ true
calm-up x up = grind arith

-- Where the notes of a link that was up say that it is down, one of them ends it.
module _ (service : Service) (tei : ℕ) where
  abbrev Falls : Bool → List Note → Type 0
  Falls up ns = fold (up_by_note service tei) up ns ≡ false → up ≡ true → list_any (ends_by_note service tei) ns ≡ true

  up-on : (own : Bool) (ns : List Note) → Falls true ns → fold (up_by_note service tei) (cond own true true) ns ≡ false → (own || list_any (ends_by_note service tei) ns) ≡ true
  up-on own ns rest h = grind arith

  down-on : (own : Bool) (ns : List Note) → Falls true ns → fold (up_by_note service tei) (cond own false true) ns ≡ false → (own || list_any (ends_by_note service tei) ns) ≡ true
  down-on own ns rest h = grind arith

  behind : (b : Bool) (ns : List Note) → list_any (ends_by_note service tei) ns ≡ true → (b || list_any (ends_by_note service tei) ns) ≡ true
  behind b ns h = ap (λ x. b || x) h ∙ or-true b

  falls : (ns : List Note) → Falls true ns
  falls [] h up = absurd (true≢false h)
  falls (NoteEstablishIndication of by ∷ ns) h up = up-on (is_own service tei of by) ns (falls ns) h
  falls (NoteEstablishConfirm of by ∷ ns) h up = up-on (is_own service tei of by) ns (falls ns) h
  falls (NoteReleaseIndication of by ∷ ns) h up = down-on (is_own service tei of by) ns (falls ns) h
  falls (NoteReleaseConfirm of by ∷ ns) h up = down-on (is_own service tei of by) ns (falls ns) h
  falls (NoteData of by ∷ ns) h up = falls ns h refl
  falls (NoteUnit of by ∷ ns) h up = falls ns h refl
  falls (NoteError of by why ∷ ns) h up = behind (ends_by_note service tei (NoteError of by why)) ns (falls ns h refl)
  falls (NoteAssigned by ∷ ns) h up = falls ns h refl
  falls (NoteRemoved by ∷ ns) h up = falls ns h refl
  falls (NoteDoubled by ∷ ns) h up = falls ns h refl
  falls (Denied ∷ ns) h up = falls ns h refl
  falls (Unassigned ∷ ns) h up = falls ns h refl
  falls (RemoveAll ∷ ns) h up = falls ns h refl
  falls (NoteXid of by ∷ ns) h up = falls ns h refl

  -- a link in state 7 or 8 is up, and one that begins is not
  state-up : (state : State) (k : Link) → is_multiple_frame state ≡ true → is_up_in state k ≡ true
  state-up state k up = grind arith

  pub fresh-ends : (l l' : Line) (ns : List Note) → is_multiple_frame (link_of service tei l).state ≡ true → link_of service tei l' ≡ fresh
      → fold (up_by_note service tei) (is_up_of service tei l) ns ≡ is_up_of service tei l' → list_any (ends_by_note service tei) ns ≡ true
  fresh-ends l l' ns up new known = grind (arith, falls, state-up)

module _ (c : Config) (service : Service) (tei : ℕ) where
  abbrev pub Own : Terms
  Own = terms c service tei

  -- Frames of other links and of TEI management, and unit data, are none of the link.
  foreign : (frame : List ℕ) → IsForeign c service tei frame → of_link_in service tei (reading (own_side c) frame) ≡ []
  foreign frame (inl x) =
      ap (λ o. of_link_in service tei (reading (own_side c) o)) x.1
      ∙ read-again (own_side c) (λ r. of_link_in service tei r ≡ []) (record { sapi = 63; command = true; tei = 127 }) (Ui false)
      (λ info. grind arith) (λ fault. refl) x.0
  foreign frame (inr (inl x)) =
      ap (λ o. of_link_in service tei (reading (own_side c) o)) x.1
      ∙ read-again (own_side c) (λ r. of_link_in service tei r ≡ []) (record { sapi = sapi_of x.0.service; command = true; tei = x.0.tei }) (Ui false)
      (λ info. grind arith) (λ fault. refl) x.0.contents
  foreign frame (inr (inr x)) =
      let t = x.0 in
      let g = x.1 in
      let away : (sapi_of t.service == sapi_of service && t.tei == tei) ≡ false = ap (λ b. b && t.tei == tei) (same-sapi t.service service) ∙ x.3 in
      ap (λ o. of_link_in service tei (reading (own_side c) o)) x.2
      ∙ read-again (own_side c) (λ r. of_link_in service tei r ≡ []) (address_at t g.frame.command) g.frame.control
      (λ info. ap (λ b. cond {A = List Parts} (b && not (is_ui g.frame.control)) (record { address = address_at t g.frame.command; control = g.frame.control; info = info } ∷ []) []) away)
      (λ fault. refl) (unwrap_or g.contents [])

  pub all-foreign : (frames : List (List ℕ)) → All (IsForeign c service tei) frames → of_link_on service tei (own_side c) frames ≡ []
  all-foreign [] h = refl
  all-foreign (x ∷ xs) h =
      ap (λ fs. fs ++ of_link_on service tei (own_side c) xs) (foreign x (All-head (IsForeign c service tei) x xs h))
      ∙ all-foreign xs (All-tail (IsForeign c service tei) x xs h)

  -- Which event of the line an event of the link is.
  abbrev pub IsKind : Event → LinkEvent → Type 0
  IsKind e (received (link_frame f)) =
      (octets : List ℕ) × (e ≡ hears (stream_frame octets)) × (reading (heard_side c) octets ≡ Ok f) × (is_of_link service tei f ≡ true)
  IsKind e (expired timer) = e ≡ expiry (timer_of service tei timer)
  IsKind e (requested asked full) = e ≡ request (of_link service tei asked)
  IsKind e offer = e ≡ next
  IsKind e other = ⊥

  pub record Has (k k' : Link) (e : Event) (a : Answer) : Type 0 where
    pub event : LinkEvent
    pub kind : IsKind e event
    pub is : k' ≡ links.after Own event k
    pub up : IsTrue (is_multiple_frame k'.state)
    pub noted : data_noted service tei (seen e a) ≡ option_to_list (links.told Own event k).delivered
    pub granted : data_granted service tei (seen e a) ≡ accepted Own event k
    pub frames : frames_by a ≡ frames_given c Own event k
    pub ends : Ended Own (links.told Own event k).notes → list_any (ends_by service tei) (seen e a) ≡ true

  pub record LeavesIt (k k' : Link) (e : Event) (a : Answer) : Type 0 where
    pub is : k' ≡ k
    pub noted : data_noted service tei (seen e a) ≡ []
    pub granted : data_granted service tei (seen e a) ≡ []
    pub frames : of_link_on service tei (own_side c) (frames_by a) ≡ []

  -- or it ends it, and leaves it in state 4, 5 or 6
  abbrev pub IsOver : Link → Event → Answer → Type 0
  IsOver k' e a = (list_any (ends_by service tei) (seen e a) ≡ true) × (is_multiple_frame k'.state ≡ false)

  abbrev pub Does : Link → Link → Event → Answer → Type 0
  Does k k' e a = IsOver k' e a ⊎ LeavesIt k k' e a ⊎ Has k k' e a

  -- What event of the link it is: one that the grammar does not have, a release, unit data, or another.
  data Comes (e : Event) (a : Answer) (ev : LinkEvent) : Type 0 where
    is_malformed : (ev ≡ received undefined) ⊎ (ev ≡ received wrong_size) ⊎ (ev ≡ received overlong) → Comes e a ev
    is_release : (full : Bool) → ev ≡ requested Release full → e ≡ request (of_link service tei Release) → is_granted a ≡ true → Comes e a ev
    is_unit : (f : Parts) → ev ≡ received (link_frame f) → is_ui f.control ≡ true → (octets : List ℕ) → e ≡ hears (stream_frame octets) → Comes e a ev
    is_plain : IsKind e ev → IsNoRelease Own ev → Comes e a ev

  comes-as : (e : Event) (a : Answer) (ev : LinkEvent) → IsBy c e a service tei ev → Comes e a ev
  comes-as e a (received (link_frame f)) by = go (is_ui f.control) refl
    where
      go : (b : Bool) → is_ui f.control ≡ b → Comes e a (received (link_frame f))
      go true is = is_unit f refl is by.octets by.by
      go false is = grind (arith, eq-eqb, sapi-is)
  comes-as e a (received undefined) by = is_malformed (inl refl)
  comes-as e a (received wrong_size) by = is_malformed (inr (inl refl))
  comes-as e a (received overlong) by = is_malformed (inr (inr refl))
  comes-as e a (expired timer) by = is_plain by tt
  comes-as e a (requested Release full) by = is_release full refl by.0 by.1
  comes-as e a offer by = is_plain by tt
  comes-as e a cleared by = absurd by
  comes-as e a other by = is_plain by.0 tt

  module _ (ranged : line_sound.IsInRange c) (l : Line) (s : line_sound.IsSound c l) (e : Event) (up : IsTrue (is_multiple_frame (link_of service tei l).state)) where
    abbrev a : Answer
    a = lines.answer c e l

    abbrev k : Link
    k = link_of service tei l

    abbrev k' : Link
    k' = link_of service tei (lines.after c e l)

    -- no event of the link
    asked-none : (e : Event) → is_at_link service tei (aim_of c e l) ≡ false → asked_in service tei e (lines.answer c e l) ≡ []
    asked-none e away = grind (arith, elsewhere)

    ended-does : k' ≡ fresh → Does k k' e a
    ended-does new = inl (
      ends-is service tei e a (fits c e l) (fresh-ends service tei l (lines.after c e l) (notes_of a) up new (known-up c e l service tei s (calm-up (link_of service tei l).state up))),
      ap (λ (y : Link). is_multiple_frame y.state) new,
    )

    none-does : HasNone c service tei e l (lines.after c e l) a → Does k k' e a
    none-does x = go x.is
      where
        go : (k' ≡ k) ⊎ (k' ≡ fresh) → Does k k' e a
        go (inl same) = inr (inl (record {
          is = same;
          noted = noted-is service tei e a (fits c e l)
              ∙ ap (λ b. cond b (option_to_list (contents_in a)) []) (sym (unless _ (no-data c ranged l s e service tei k.r (λ up. refl) x)));
          granted = granted-is service tei e a ∙ asked-none e x.aims;
          frames = ap (of_link_on service tei (own_side c)) (same-frames a) ∙ all-foreign (frame_in a) x.begins;
        }))
        go (inr new) = ended-does new

    -- one
    module _ (x : HasOne c service tei e l (lines.after c e l) a) where
      noted-one : data_noted service tei (seen e a) ≡ option_to_list (links.told Own x.event k).delivered
      noted-one =
          noted-is service tei e a (fits c e l) ∙ ap (λ b. cond b (option_to_list (contents_in a)) []) (data-noted c ranged l s e service tei k.r (λ up. refl) x)
          ∙ (grind (arith, option_to_list))

      ends-one : Ended Own (links.told Own x.event k).notes → list_any (ends_by service tei) (seen e a) ≡ true
      ends-one h = ends-is service tei e a (fits c e l) (ap (list_any (ends_by_note service tei)) x.notes ∙ h)

      state-one : (ev : LinkEvent) → x.event ≡ ev → k'.state ≡ (links.after Own ev k).state
      state-one ev is = ap (λ (y : Link). y.state) (x.is ∙ ap (λ ev. links.after Own ev k) is)

      fallen-one : (ev : LinkEvent) → x.event ≡ ev → Fallen Own ev k → Does k k' e a
      fallen-one ev is h = grind (arith, ends-one, Ended, state-one)

      granted-one : (ev : LinkEvent) → IsBy c e a service tei ev → IsKind e ev → asked_in service tei e a ≡ accepted Own ev k
      granted-one (received (link_frame f)) by kind = ap (λ e. asked_in service tei e a) kind.1
      granted-one (expired timer) by kind = ap (λ e. asked_in service tei e a) kind
      granted-one offer by kind = ap (λ e. asked_in service tei e a) kind
      granted-one (requested asked full) by kind = grind (arith, asked_in, granted-data, not-refused, link-grants)
      granted-one other by kind = absurd kind

      malformed-one : (x.event ≡ received undefined) ⊎ (x.event ≡ received wrong_size) ⊎ (x.event ≡ received overlong) → Does k k' e a
      malformed-one h = grind (arith, fallen-one, undefined-falls, wrong-size-falls, overlong-falls)

      plain-one : IsKind e x.event → Leaves Own (links.told Own x.event k).notes (links.after Own x.event k).state → Does k k' e a
      plain-one kind leaves = go (is_multiple_frame (links.after Own x.event k).state) refl leaves
        where
          go : (b : Bool) → is_multiple_frame (links.after Own x.event k).state ≡ b → Leaves Own (links.told Own x.event k).notes (links.after Own x.event k).state → Does k k' e a
          go false down (inl h) = fallen-one x.event refl (h, down)
          go false down (inr still) = absurd (true≢false (sym still ∙ down))
          go true still h = grind (arith, state-one, noted-one, granted-is, granted-one, same-frames, ends-one)

      release-one : (full : Bool) → x.event ≡ requested Release full → e ≡ request (of_link service tei Release) → is_granted a ≡ true → Does k k' e a
      release-one full asked is g = grind (arith, request-ends, own, state-one, event-follows)

      one-does : Comes e a x.event → Does k k' e a
      one-does (is_malformed is) = malformed-one is
      one-does (is_release full is asked g) = release-one full is asked g
      one-does (is_unit f is ui octets heard) = grind (arith, unit-data, noted-one, option_to_list, granted-is, asked_in, same-frames, frames_given, fallen-one)
      one-does (is_plain kind may) = plain-one kind (event-leaves Own k up x.event may)

    pub line-does : Does k k' e a
    line-does = elim (event-goes c e l service tei s) [ inl x ↦ none-does x | inr (inl x) ↦ one-does x (comes-as e a x.event x.by) | inr (inr x) ↦ ended-does x.is ]
