-- What a listener has heard, and what has been written of it, while it is told octet by octet.
use Rattle.lapd_transcript.proofs.Vocabulary.{arith, ◌≡◌, ℕ, List, [], ◌∷◌, ◌++◌, length, drop, filter_map, Err, Bor, Option, option_to_list, sym, ap, ◌∙◌, subst, append_assoc, drop-append_seam, filter_map-append, flat_map-append, one_event_an_octet, heard_of, heard_in, Heard, Frame, Deframer, Output, IsPut, IsStuck, frame_text, WriteFailed, Hears, frame_in, found}
use Rattle.lapd_transcript.proofs.Known.{puts_nothing, puts_then, stuck_more}
use Rattle.std.proofs.Common.{flat_map, append-nil}
use Rattle.model_bits.specs.Stream.{Event}

-- what is told of events
abbrev pub events_text : ℕ → List Event → List ℕ
events_text line events = flat_map (frame_text line) (filter_map frame_in events)

events_text-append : (line : ℕ) (xs ys : List Event) → events_text line (xs ++ ys) ≡ events_text line xs ++ events_text line ys
events_text-append line xs ys =
    ap (flat_map (frame_text line)) (filter_map-append frame_in xs ys) ∙ flat_map-append (frame_text line) (filter_map frame_in xs) (filter_map frame_in ys)

-- what is heard grows
heard_grows : (past octets : List ℕ) → (more : List Event) × (heard_in 1024 (past ++ octets) ≡ heard_in 1024 past ++ more)
heard_grows past [] = ([], ap (heard_in 1024) (append-nil past) ∙ sym (append-nil (heard_in 1024 past)))
heard_grows past (octet ∷ octets) =
    let one : (event : Option Event) × (heard_in 1024 (past ++ octet ∷ []) ≡ heard_in 1024 past ++ option_to_list event) = one_event_an_octet 1024 past octet in
    let later : (more : List Event) × (heard_in 1024 ((past ++ octet ∷ []) ++ octets) ≡ heard_in 1024 (past ++ octet ∷ []) ++ more) = heard_grows (past ++ octet ∷ []) octets in (
      option_to_list one.0 ++ later.0,
      ap (heard_in 1024) (sym (append_assoc past (octet ∷ []) octets)) ∙ later.1 ∙ ap (λ events. events ++ later.0) one.1
          ∙ append_assoc (heard_in 1024 past) (option_to_list one.0) later.0,
    )

-- what is found is what is gained
found_gained : (line : ℕ) (past octets : List ℕ) (gained : List Event) → heard_in 1024 (past ++ octets) ≡ heard_in 1024 past ++ gained
    → flat_map (frame_text line) (found past octets) ≡ events_text line gained
found_gained line past octets gained heard =
    ap (events_text line) (ap (drop (length (heard_in 1024 past))) heard ∙ drop-append_seam (heard_in 1024 past) gained)

-- After some octets the listener has gained events, and what is told of them has been written.
pub record Shown (line : ℕ) (listener : Deframer) (before after : Output) (past octets : List ℕ) : Type 0 where
  pub gained : List Event
  pub heard : heard_in 1024 (past ++ octets) ≡ heard_in 1024 past ++ gained
  pub written : IsPut before after (events_text line gained)
  pub hears : Hears listener (past ++ octets)

module _ (line : ℕ) (listener new : Deframer) (before after last : Output) (past octets : List ℕ) (octet : ℕ) (event : Option Event)
    (s : Shown line listener before after past octets) (is : heard_in 1024 ((past ++ octets) ++ octet ∷ []) ≡ heard_in 1024 (past ++ octets) ++ option_to_list event) where
  heard_more : heard_in 1024 (past ++ (octets ++ octet ∷ [])) ≡ heard_in 1024 past ++ (s.gained ++ option_to_list event)
  heard_more = grind (arith, append_assoc, option_to_list)

  pub shown_on : Hears new ((past ++ octets) ++ octet ∷ []) → IsPut after last (events_text line (option_to_list event)) → Shown line new before last past (octets ++ octet ∷ [])
  shown_on h w = grind (arith, option_to_list, heard_more, events_text-append, puts_then, append_assoc)

  pub shown_in_vain : (rest : List ℕ) (why : WriteFailed) → IsStuck after last (events_text line (option_to_list event))
      → IsStuck before last (flat_map (frame_text line) (found past ((octets ++ octet ∷ []) ++ rest)))
  shown_in_vain rest why w =
      let so_far = octets ++ octet ∷ [] in
      let gained = s.gained ++ option_to_list event in
      let later : (more : List Event) × (heard_in 1024 ((past ++ so_far) ++ rest) ≡ heard_in 1024 (past ++ so_far) ++ more) = heard_grows (past ++ so_far) rest in
      let all : heard_in 1024 (past ++ (so_far ++ rest)) ≡ heard_in 1024 past ++ (gained ++ later.0) =
      ap (heard_in 1024) (sym (append_assoc past so_far rest)) ∙ later.1 ∙ ap (λ events. events ++ later.0) heard_more
      ∙ append_assoc (heard_in 1024 past) gained later.0 in
      let whole : flat_map (frame_text line) (found past (so_far ++ rest)) ≡ (events_text line s.gained ++ events_text line (option_to_list event)) ++ events_text line later.0 =
      found_gained line past (so_far ++ rest) (gained ++ later.0) all ∙ events_text-append line gained later.0
      ∙ ap (λ text. text ++ events_text line later.0) (events_text-append line s.gained (option_to_list event)) in
      subst (IsStuck before last) (sym whole) (stuck_more before last (events_text line s.gained ++ events_text line (option_to_list event)) (events_text line later.0)
      (puts_then (Err why) before after last (events_text line s.gained) (events_text line (option_to_list event)) s.written w))

-- What is lent is told where it is a frame.
pub frame_told : (line : ℕ) (before after : Output) (event : Option Event) (octets : Bor (List ℕ)) → heard_of (Frame octets) ≡ event
    → IsPut before after (frame_text line octets.now) → IsPut before after (events_text line (option_to_list event))
frame_told line before after event octets is w =
    subst (λ e. IsPut before after (events_text line (option_to_list e))) is (subst (IsPut before after) (sym (append-nil (frame_text line octets.now))) w)

pub frame_in_vain : (line : ℕ) (before after : Output) (event : Option Event) (octets : Bor (List ℕ)) → heard_of (Frame octets) ≡ event
    → IsStuck before after (frame_text line octets.now) → IsStuck before after (events_text line (option_to_list event))
frame_in_vain line before after event octets is w =
    subst (λ e. IsStuck before after (events_text line (option_to_list e))) is (subst (IsStuck before after) (sym (append-nil (frame_text line octets.now))) w)

-- Nothing else is told.
pub nothing_told : (line : ℕ) (t : Output) (heard : Heard) (event : Option Event) → heard_of heard ≡ event → ((octets : Bor (List ℕ)) → heard ≡ Frame octets → ⊥)
    → IsPut t t (events_text line (option_to_list event))
nothing_told line t heard event is other = grind (arith, option_to_list, puts_nothing)
