-- One direction of a circuit: the octets that an end gave, those of them that the other has heard, and the frames on their way.
use Rattle.laws_order.proofs.Vocabulary.{arith, ◌≡◌, ℕ, ◌+◌, ◌≤◌, List, [], ◌∷◌, ◌++◌, map, None, Some, option_to_list, refl, sym, ap, ◌∙◌, subst, append-nil, append_assoc, All, append_cancel_left, map-append, All-append, All-cons, All-head, All-nil, All-tail, item_octets, Item, idle, heard_in, AreOctets, came, frames_among, GoOut, Port, gained, left_of, IsSoundPort, sent, same_text, frames_sent}
use Rattle.laws_order.proofs.Vocabulary.{cut_sent, heard_whole, all_exact, heard_with, IsLongItem, IsOnItsWay, go_out, all_out, all-right, stream_frame, StreamEvent, frame, came-whole}
pub use Rattle.model_card.proofs.OfPorts.PortGoesOn.{frames_among-append}

-- ---- a frame comes as it is

abbrev IsWhole : ℕ → List ℕ → Type 0
IsWhole n201 octets = came n201 octets ≡ stream_frame octets

all-whole : (n201 : ℕ) (items : List Item) → All IsLongItem items → All (λ item. item_octets item ≤ n201 + 4) items → All (IsWhole n201) (frames_among items)
all-whole n201 [] long short = All-nil (IsWhole n201)
all-whole n201 (idle ∷ items) long short =
    all-whole n201 items (All-tail IsLongItem idle items long) (All-tail (λ item. item_octets item ≤ n201 + 4) idle items short)
all-whole n201 (frame octets ∷ items) long short =
    All-cons (IsWhole n201) octets (frames_among items)
    (came-whole n201 octets (All-head IsLongItem (frame octets) items long) (All-head (λ item. item_octets item ≤ n201 + 4) (frame octets) items short))
    (all-whole n201 items (All-tail IsLongItem (frame octets) items long) (All-tail (λ item. item_octets item ≤ n201 + 4) (frame octets) items short))

-- the same of what is heard
abbrev pub framed : List (List ℕ) → List StreamEvent
framed frames = map (λ octets. stream_frame octets) frames

abbrev IsWholeEvent : ℕ → StreamEvent → Type 0
IsWholeEvent n201 (stream_frame octets) = IsWhole n201 octets
IsWholeEvent n201 other = Unit {0}

whole-framed : (n201 : ℕ) (frames : List (List ℕ)) → All (IsWhole n201) frames → All (IsWholeEvent n201) (framed frames)
whole-framed n201 [] h = All-nil (IsWholeEvent n201)
whole-framed n201 (f ∷ fs) h =
    All-cons (IsWholeEvent n201) (stream_frame f) (framed fs) (All-head (IsWhole n201) f fs h) (whole-framed n201 fs (All-tail (IsWhole n201) f fs h))

-- ---- what is heard goes on

pub heard-beyond : (n201 : ℕ) (a b : List ℕ) → (rest : List StreamEvent) × (heard_in n201 (a ++ b) ≡ heard_in n201 a ++ rest)
heard-beyond n201 a [] = ([], ap (heard_in n201) (append-nil a) ∙ sym (append-nil (heard_in n201 a)))
heard-beyond n201 a (v ∷ b) =
    let now = option_to_list (gained n201 a v) in
    let later = heard-beyond n201 (a ++ v ∷ []) b in (
      now ++ later.0,
      ap (heard_in n201) (sym (append_assoc a (v ∷ []) b)) ∙ later.1 ∙ ap (λ l. l ++ later.0) (heard_with n201 a v) ∙ append_assoc (heard_in n201 a) now later.0,
    )

-- ---- one direction

pub record Carries (n201 : ℕ) (p : Port) (way received : List ℕ) (frames : List (List ℕ)) : Type 0 where
  pub given : p.given ≡ received ++ way
  pub are : framed (frames_among p.items) ≡ heard_in n201 received ++ framed frames
  pub octets : All AreOctets (frames_among p.items)

module _ (n201 : ℕ) (p : Port) (way received : List ℕ) (frames : List (List ℕ)) (h : Carries n201 p way received frames) where
  -- an octet goes on its way
  pub one-given : (value : ℕ) → Carries n201 (record p { given = p.given ++ value ∷ [] }) (way ++ value ∷ []) received frames
  one-given value = record { given = ap (λ l. l ++ value ∷ []) h.given ∙ append_assoc received way (value ∷ []); are = h.are; octets = h.octets }

  -- an item is put on the line
  pub one-put : (item : Item) → All AreOctets (frames_among (item ∷ [])) → Carries n201 (record p { items = p.items ++ item ∷ [] }) way received (frames ++ frames_among (item ∷ []))
  one-put item octets =
      let new = frames_among (item ∷ []) in
      let all : frames_among (p.items ++ item ∷ []) ≡ frames_among p.items ++ new = frames_among-append p.items (item ∷ []) in
      record {
        given = h.given;
        are = grind (arith, framed, map-append, stream_frame, frames_among, append_assoc, heard_in);
        octets = subst (All AreOctets) (sym all) (All-append AreOctets (frames_among p.items) new h.octets octets);
      }

  -- the first octet on the way is heard, and ends nothing
  pub none-heard : (value : ℕ) (more : List ℕ) → way ≡ value ∷ more → gained n201 received value ≡ None → Carries n201 p more (received ++ value ∷ []) frames
  none-heard value more is none = grind (arith, append_assoc, heard_with, option_to_list, append-nil)

  module _ (sound : IsSoundPort n201 p) (on : IsOnItsWay p) where
    abbrev sent_items : List Item
    sent_items = map sent p.items

    exact : frames_among sent_items ≡ frames_among p.items
    exact = frames_sent p.items ∙ all_exact (frames_among p.items) h.octets

    pub out : GoOut n201 p.given (frames_among p.items)
    out =
        subst (GoOut n201 p.given) exact
        (go_out n201 sent_items p.given (left_of p) (same_text p.items ∙ sound.text.text) (heard_whole n201 p.items on.long sound.sizes) (cut_sent p.items p.given on.cut))

    -- behind a flag all is heard in what was given
    pub all-given : (front : List Item) → p.items ≡ front ++ idle ∷ [] → framed (frames_among p.items) ≡ heard_in n201 p.given
    all-given front is =
        subst (λ frames. framed frames ≡ heard_in n201 p.given) exact
        (all_out n201 sent_items p.given (left_of p) (same_text p.items ∙ sound.text.text) (heard_whole n201 p.items on.long sound.sizes)
        (map sent front) (ap (map sent) is ∙ map-append sent front (idle ∷ [])) (cut_sent p.items p.given on.cut))

    -- the first octet on the way is heard, and ends a frame: the first on the way
    pub record OneHeard (value : ℕ) (more : List ℕ) (e : StreamEvent) : Type 0 where
      pub first : List ℕ
      pub rest : List (List ℕ)
      pub frames_are : frames ≡ first ∷ rest
      pub event : e ≡ stream_frame first
      pub whole : came n201 first ≡ stream_frame first
      pub carries : Carries n201 p more (received ++ value ∷ []) rest

    first-is : (fs : List (List ℕ)) (e : StreamEvent) (behind : List StreamEvent) → e ∷ behind ≡ framed fs
        → (first : List ℕ) × (rest : List (List ℕ)) × (fs ≡ first ∷ rest) × (e ≡ stream_frame first)
    first-is [] e behind is = absurd (cc is)
    first-is (f ∷ fs) e behind is = (f, fs, refl, cc is)

    pub one-heard : (value : ℕ) (more : List ℕ) (e : StreamEvent) → way ≡ value ∷ more → gained n201 received value ≡ Some e → OneHeard value more e
    one-heard value more e is some =
        let heard = heard_in n201 received in
        let now = received ++ value ∷ [] in
        let given : p.given ≡ now ++ more = h.given ∙ ap (λ l. received ++ l) is ∙ sym (append_assoc received (value ∷ []) more) in
        let with-it : heard_in n201 now ≡ heard ++ e ∷ [] = heard_with n201 received value ∙ ap (λ o. heard ++ option_to_list o) some in
        let beyond = heard-beyond n201 now more in
        let behind = beyond.0 ++ framed out.on_its_way in
        let long : heard ++ (e ∷ behind) ≡ heard ++ framed frames =
        sym (append_assoc heard (e ∷ []) behind) ∙ ap (λ l. l ++ behind) (sym with-it) ∙ sym (append_assoc (heard_in n201 now) beyond.0 (framed out.on_its_way))
        ∙ ap (λ l. l ++ framed out.on_its_way) (sym beyond.1 ∙ ap (heard_in n201) (sym given)) ∙ sym out.heard ∙ h.are in
        let x = first-is frames e behind (append_cancel_left heard (e ∷ behind) (framed frames) long) in
        let first = x.0 in
        let rest = x.1 in
        let are : frames ≡ first ∷ rest = x.2 in
        let same : e ≡ stream_frame first = x.3 in
        let all-heard : framed (frames_among p.items) ≡ heard ++ framed (first ∷ rest) = h.are ∙ ap (λ fs. heard ++ framed fs) are in
        record {
          first = first;
          rest = rest;
          frames_are = are;
          event = same;
          whole =
              All-head (IsWholeEvent n201) (stream_frame first) (framed rest)
              (all-right (IsWholeEvent n201) heard (framed (first ∷ rest))
              (subst (All (IsWholeEvent n201)) all-heard (whole-framed n201 (frames_among p.items) (all-whole n201 p.items on.long sound.sizes))));
          carries = grind (arith, append_assoc);
        }
