-- The end that calls asks at a time, and then the end that was called: as either end does.
use Rattle.laws_time.proofs.Vocabulary.{All, All-append, All-cons, All-nil, All-replicate, AnEnquiryCatchesUp, AnswersTellWhatCame, AreAsked, AreClear, Beat, Call, Clocked, Data, Enquires, Establish, GoesWell, HasCaughtUp, IsAsked, IsClean, IsFit, IsIdle, IsOfLink, IsTalk, IsUndisturbed, IsUp, Line, List, Some, TimedEndpoint, Wire, [], after, answered_in, ap, append-nil, append_assoc, arith}
use Rattle.laws_time.proofs.Vocabulary.{beat, begins, begun, calls, control_of, distance_of, exchanged, fall_due, fold-append, header_of, in_call, inl, inr, length, loose-turned-up, lost_at, low_bits, map, map-append, named, plain, reading as read_by, refl, replicate, sapi_fault, seq, state_at, subst, supervisory_of, sym, turned, unnumbered_of, ◌++◌, ◌∙◌, ◌∷◌, ◌≡◌, ◌≤◌, ◌⊎◌}
use Rattle.laws_time.proofs.OfCircuit.CaughtSide as side
use Rattle.model_teis.specs.network.Events as teis
use Rattle.model_line.specs.Machine as lines
use Rattle.model_card.specs.ports.Card as ports
use Rattle.lapd_frame.specs.Reading.{reading}
use Rattle.laws_time.proofs.OfCircuit.ArrivAs.{path-turned}
use Rattle.laws_time.proofs.OfCircuit.ArrivBeat.{Reached}
use Rattle.laws_time.proofs.OfCircuit.CaughtSide.{near_past, far_past, its, near-number, far-number, near-shows, far-shows, near-contents, far-contents, pair-w, reached-w, both-are-up, pair-done, pair-rest, r-done, r-rest}
use Rattle.laws_time.proofs.OfCircuit.LongEnough.{turned_line, turned_beat, turned_world, begins_of, Pair, after-turned, answered-same, fit-turned, talk-turned, clear-turned, clean-turned, length-turned}
use Rattle.laws_time.proofs.OfCircuit.Answered.{an-enquiry-is-answered}
use Rattle.laws_time.proofs.OfCircuit.AgainLaw.{no-noise-is-clear}
use Rattle.laws_time.specs.circuit.WorkedCaughtUp.{AnEnquiryMeetsIt, its_line, sends, talks}
use Rattle.laws_time.proofs.OfCircuit.ArrivTold.{octet}

module _ (l : Line) (before bs more : List Beat) (b : Beat) (h : GoesWell l before b (bs ++ more)) where
  abbrev v : Clocked
  v = in_call l before b bs

  abbrev f : Wire
  f = (reached-w l before bs more b h).f

  abbrev near_end : Clocked → TimedEndpoint
  near_end w = w.near

  abbrev far_end : Clocked → TimedEndpoint
  far_end w = w.far

  abbrev NearLater : Clocked → Wire → Wire → Type 0
  NearLater = side.Later l l.near l.far (its l h.fit).face (its l h.fit).back (near_past l h.fit) (far_past l h.fit) refl near_end far_end

  abbrev FarLater : Clocked → Wire → Wire → Type 0
  FarLater = side.Later l l.far l.near (its l h.fit).back (its l h.fit).face (far_past l h.fit) (near_past l h.fit) refl far_end near_end

  near-later : (f : Wire) (u : Clocked) → Pair l (begins_of h.fit) u → (r : Reached l h.fit f u) → NearLater u f r.f
  near-later f u pair r = record { path = r.path; own_number = near-number l h.fit u pair r.f r.same; there_number = far-number l h.fit u pair r.f r.same; shows_it = near-shows l h.fit u pair r.f r.same }

  far-later : (f : Wire) (u : Clocked) → Pair l (begins_of h.fit) u → (r : Reached l h.fit f u) → FarLater u (turned f) (turned r.f)
  far-later f u pair r = record { path = path-turned l.service l.tei f r.f r.path; own_number = far-number l h.fit u pair r.f r.same; there_number = near-number l h.fit u pair r.f r.same; shows_it = far-shows l h.fit u pair r.f r.same }

  near-parts : (done rest : List Beat) → done ++ rest ≡ more → (g : Wire) × (k : Wire) × NearLater (after l.rate done v) f g × NearLater (after l.rate rest (after l.rate done v)) g k
  near-parts done rest all =
      let r = r-done l before bs more b h done rest all in let s = r-rest l before bs more b h done rest all in let u = after l.rate done v in
      (r.f, s.f, near-later f u (pair-done l before bs more b h done rest all) r, near-later r.f (after l.rate rest u) (pair-rest l before bs more b h done rest all) s)

  far-parts : (done rest : List Beat) → done ++ rest ≡ more → (g : Wire) × (k : Wire) × FarLater (after l.rate done v) (turned f) g × FarLater (after l.rate rest (after l.rate done v)) g k
  far-parts done rest all =
      let r = r-done l before bs more b h done rest all in let s = r-rest l before bs more b h done rest all in let u = after l.rate done v in
      (turned r.f, turned s.f, far-later f u (pair-done l before bs more b h done rest all) r, far-later r.f (after l.rate rest u) (pair-rest l before bs more b h done rest all) s)

  -- The end that calls asks.
  module _ (eight : state_at l (in_call l before b bs).near ≡ Some 8) where
    pub caught-by-then : (done rest : List Beat) → done ++ rest ≡ more → state_at l (after l.rate done (in_call l before b bs)).near ≡ Some 7
        → HasCaughtUp l (in_call l before b bs).far (after l.rate more (in_call l before b bs)).far (after l.rate more (in_call l before b bs)).near
    caught-by-then =
        side.caught-by-then l l.near l.far (its l h.fit).face (its l h.fit).back (near_past l h.fit) (far_past l h.fit) refl near_end far_end v more f (both-are-up l before bs more b h (inr eight))
        (near-number l h.fit v (pair-w l before bs more b h) f (reached-w l before bs more b h).same) eight (far-contents l h.fit v (pair-w l before bs more b h) f (reached-w l before bs more b h).same) near-parts

    pub other-up : IsUp l (in_call l before b bs).far
    other-up =
        side.other-up l l.near l.far (its l h.fit).face (its l h.fit).back (near_past l h.fit) (far_past l h.fit) refl near_end far_end v more f (both-are-up l before bs more b h (inr eight))
        (near-number l h.fit v (pair-w l before bs more b h) f (reached-w l before bs more b h).same) eight (far-contents l h.fit v (pair-w l before bs more b h) f (reached-w l before bs more b h).same) near-parts

    pub asks-or-caught : HasCaughtUp l (in_call l before b bs).far (after l.rate more (in_call l before b bs)).far (after l.rate more (in_call l before b bs)).near ⊎ Enquires l more (in_call l before b bs)
    unfolding Enquires
    asks-or-caught =
        side.asks-or-caught l l.near l.far (its l h.fit).face (its l h.fit).back (near_past l h.fit) (far_past l h.fit) refl near_end far_end v more f (both-are-up l before bs more b h (inr eight))
        (near-number l h.fit v (pair-w l before bs more b h) f (reached-w l before bs more b h).same) eight (far-contents l h.fit v (pair-w l before bs more b h) f (reached-w l before bs more b h).same) near-parts
        (Enquires l) (λ w. tt) (λ b rest w asks up later. (asks, up, later))

  -- The end that was called asks.
  module _ (near_up : IsUp l (in_call l before b bs).near) (eight : state_at l (in_call l before b bs).far ≡ Some 8) where
    pub caught-by-then-back : (done rest : List Beat) → done ++ rest ≡ more → state_at l (after l.rate done (in_call l before b bs)).far ≡ Some 7
        → HasCaughtUp l (in_call l before b bs).near (after l.rate more (in_call l before b bs)).near (after l.rate more (in_call l before b bs)).far
    caught-by-then-back =
        side.caught-by-then l l.far l.near (its l h.fit).back (its l h.fit).face (far_past l h.fit) (near_past l h.fit) refl far_end near_end v more (turned f)
        (loose-turned-up l.service l.tei l.near l.far 0 0 (near_past l h.fit) (far_past l h.fit) f (both-are-up l before bs more b h near_up))
        (far-number l h.fit v (pair-w l before bs more b h) f (reached-w l before bs more b h).same) eight (near-contents l h.fit v (pair-w l before bs more b h) f (reached-w l before bs more b h).same) far-parts

    pub asks-or-caught-back : HasCaughtUp l (in_call l before b bs).near (after l.rate more (in_call l before b bs)).near (after l.rate more (in_call l before b bs)).far
        ⊎ Enquires (turned_line l) (map turned_beat more) (turned_world (in_call l before b bs))
    unfolding Enquires
    asks-or-caught-back =
        side.asks-or-caught l l.far l.near (its l h.fit).back (its l h.fit).face (far_past l h.fit) (near_past l h.fit) refl far_end near_end v more (turned f)
        (loose-turned-up l.service l.tei l.near l.far 0 0 (near_past l h.fit) (far_past l h.fit) f (both-are-up l before bs more b h near_up))
        (far-number l h.fit v (pair-w l before bs more b h) f (reached-w l before bs more b h).same) eight (near-contents l h.fit v (pair-w l before bs more b h) f (reached-w l before bs more b h).same) far-parts
        (λ rest w. Enquires (turned_line l) (map turned_beat rest) (turned_world w)) (λ w. tt) (λ b rest w asks up later. (asks, up, later))

-- ---- an end that enquired catches up, whatever noise there is; and in time where there is none

pub answers-tell-what-came : AnswersTellWhatCame
answers-tell-what-came l before bs more b h = (
  λ eight seven. caught-by-then l before bs more b h eight more [] (append-nil more) seven,
  λ up eight seven. caught-by-then-back l before bs more b h up eight more [] (append-nil more) seven,
)

-- Up to the beat in which it comes to ask.
module _ (l : Line) (before noisy clean : List Beat) (b c d : Beat) (h : GoesWell l before b (noisy ++ c ∷ d ∷ clean)) where
  pub well : GoesWell l before b ((noisy ++ c ∷ d ∷ []) ++ clean)
  well = subst (GoesWell l before b) (sym (append_assoc noisy (c ∷ d ∷ []) clean)) h

  pub here : in_call l before b (noisy ++ c ∷ d ∷ []) ≡ beat l.rate (begun l (before ++ calls l b ∷ noisy) c) d
  here = grind (arith, after, begins, append_assoc, calls, fold-append, beat)

-- The same from the other side.
module _ (l : Line) (bs clean : List Beat) (c : Beat) (h : IsUndisturbed l bs c clean) where
  list : map turned_beat (bs ++ c ∷ clean) ≡ map turned_beat bs ++ turned_beat c ∷ map turned_beat clean
  list = map-append turned_beat bs (c ∷ clean)

  pub begun-turned : begun (turned_line l) (map turned_beat bs) (turned_beat c) ≡ turned_world (begun l bs c)
  begun-turned = ap (λ bs. after l.rate bs (turned_world (begins l))) (sym (map-append turned_beat bs (c ∷ []))) ∙ after-turned l.rate (bs ++ c ∷ []) (begins l)

  last-turned : after l.rate (map turned_beat clean) (begun (turned_line l) (map turned_beat bs) (turned_beat c)) ≡ turned_world (after l.rate clean (begun l bs c))
  last-turned = ap (after l.rate (map turned_beat clean)) begun-turned ∙ after-turned l.rate clean (begun l bs c)

  pub undisturbed-turned : IsUndisturbed (turned_line l) (map turned_beat bs) (turned_beat c) (map turned_beat clean)
  undisturbed-turned = record {
    fit = fit-turned l h.fit;
    talk = subst (All (IsTalk (turned_line l))) list (talk-turned l h.fit (bs ++ c ∷ clean) h.talk);
    clear = subst (λ bs. AreClear (turned_line l) bs (turned_world (begins l))) list (clear-turned l h.fit (bs ++ c ∷ clean) (begins l) h.clear);
    clean = clean-turned (c ∷ clean) h.clean;
    near_kept = ap (λ (w : Clocked). lost_at w.near) last-turned ∙ h.far_kept ∙ sym (ap (λ (w : Clocked). lost_at w.near) begun-turned);
    far_kept = ap (λ (w : Clocked). lost_at w.far) last-turned ∙ h.near_kept ∙ sym (ap (λ (w : Clocked). lost_at w.far) begun-turned);
  }

near-catches-up : (l : Line) (before noisy clean : List Beat) (b c d : Beat) → GoesWell l before b (noisy ++ c ∷ d ∷ clean) → IsUndisturbed l (before ++ calls l b ∷ noisy) c (d ∷ clean)
    → answered_in l.near l.far l.way ≤ length (d ∷ clean) → let v = begun l (before ++ calls l b ∷ noisy) c in let w = beat l.rate v d in let u = after l.rate clean w in
    state_at l v.near ≡ Some 7 → state_at l w.near ≡ Some 8 → HasCaughtUp l w.far u.far u.near
unfolding Enquires
near-catches-up l before noisy clean b c d h undisturbed long seven eight =
    let same = here l before noisy clean b c d h in let it = well l before noisy clean b c d h in let asks = subst (λ (w : Clocked). state_at l w.near ≡ Some 8) (sym same) eight in
    let other = subst (λ (w : Clocked). IsUp l w.far) same (other-up l before (noisy ++ c ∷ d ∷ []) clean b it asks) in
    subst (λ (w : Clocked). HasCaughtUp l w.far (after l.rate clean w).far (after l.rate clean w).near) same (elim (asks-or-caught l before (noisy ++ c ∷ d ∷ []) clean b it asks) [
      | inl x ↦ x
      | inr x ↦
          let few = an-enquiry-is-answered l (before ++ calls l b ∷ noisy) c (d ∷ clean) (undisturbed, seven, (eight, other, subst (Enquires l clean) same x)) in absurd (omega (arith, few, long))
    ])

far-catches-up : (l : Line) (before noisy clean : List Beat) (b c d : Beat) → GoesWell l before b (noisy ++ c ∷ d ∷ clean) → IsUndisturbed l (before ++ calls l b ∷ noisy) c (d ∷ clean)
    → answered_in l.near l.far l.way ≤ length (d ∷ clean) → let v = begun l (before ++ calls l b ∷ noisy) c in let w = beat l.rate v d in let u = after l.rate clean w in
    IsUp l w.near → state_at l v.far ≡ Some 7 → state_at l w.far ≡ Some 8 → HasCaughtUp l w.near u.near u.far
unfolding Enquires
far-catches-up l before noisy clean b c d h undisturbed long up seven eight =
    let same = here l before noisy clean b c d h in let it = well l before noisy clean b c d h in let bs = before ++ calls l b ∷ noisy in let turned_so = begun-turned l bs (d ∷ clean) c undisturbed in
    let then : beat l.rate (begun (turned_line l) (map turned_beat bs) (turned_beat c)) (turned_beat d) ≡ turned_world (beat l.rate (begun l bs c) d) = ap (λ w. beat l.rate w (turned_beat d)) turned_so in
    subst (λ (w : Clocked). HasCaughtUp l w.near (after l.rate clean w).near (after l.rate clean w).far) same
    (elim (asks-or-caught-back l before (noisy ++ c ∷ d ∷ []) clean b it (subst (λ (w : Clocked). IsUp l w.near) (sym same) up) (subst (λ (w : Clocked). state_at l w.far ≡ Some 8) (sym same) eight)) [
      | inl x ↦ x
      | inr x ↦
          let was = subst (λ (w : Clocked). state_at l w.near ≡ Some 7) (sym turned_so) seven in let now = subst (λ (w : Clocked). state_at l w.near ≡ Some 8) (sym then) eight in
          let other = subst (λ (w : Clocked). IsUp l w.far) (sym then) up in let there = subst (Enquires (turned_line l) (map turned_beat clean)) (ap turned_world same ∙ sym then) x in
          let few = an-enquiry-is-answered (turned_line l) (map turned_beat bs) (turned_beat c) (map turned_beat (d ∷ clean)) (undisturbed-turned l bs (d ∷ clean) c undisturbed, was, (now, other, there)) in
          let so_many = length-turned (d ∷ clean) in let same_time = answered-same l h.fit in absurd (omega (arith, few, long, so_many, same_time))
    ])

pub an-enquiry-catches-up : AnEnquiryCatchesUp
an-enquiry-catches-up l before noisy clean b c d h undisturbed long = (near-catches-up l before noisy clean b c d h undisturbed long, far-catches-up l before noisy clean b c d h undisturbed long)

-- ---- the run of `WorkedCaughtUp` meets all premises

fits : IsFit its_line
unfolding sapi_fault
fits = grind arith

-- The beats after the first.
later : (P : Beat → Type 0) → P plain → P sends → All P (talks ++ replicate 17 plain)
later P one sent =
    All-append P talks (replicate 17 plain) (All-append P (replicate 13 plain) (sends ∷ replicate 35 plain) (All-replicate P 13 plain one) (All-cons P sends (replicate 35 plain) sent (All-replicate P 35 plain one))) (All-replicate P 17 plain one)

all-beats : (P : Beat → Type 0) → P (calls its_line plain) → P plain → P sends → All P (calls its_line plain ∷ (talks ++ replicate 17 plain))
all-beats P first one sent = All-cons P (calls its_line plain) (talks ++ replicate 17 plain) first (later P one sent)

talk : All (IsTalk its_line) (calls its_line plain ∷ (talks ++ replicate 17 plain))
talk =
    all-beats (IsTalk its_line) (All-cons (IsOfLink Call 0) (Establish Call 0) [] (refl, refl) (All-nil (IsOfLink Call 0)), All-nil (IsOfLink Call 0)) (All-nil (IsOfLink Call 0), All-nil (IsOfLink Call 0))
    (All-cons (IsOfLink Call 0) (Data Call 0 (0xAB ∷ [])) [] (refl, refl, octet) (All-nil (IsOfLink Call 0)), All-nil (IsOfLink Call 0))

asked : All (AreAsked its_line) (plain ∷ (talks ++ replicate 17 plain))
asked =
    All-cons (AreAsked its_line) plain (talks ++ replicate 17 plain) (All-nil (IsAsked its_line), All-nil (IsAsked its_line))
    (later (AreAsked its_line) (All-nil (IsAsked its_line), All-nil (IsAsked its_line))
    (All-cons (IsAsked its_line) (Data Call 0 (0xAB ∷ [])) [] (refl, refl, octet) (All-nil (IsAsked its_line)), All-nil (IsAsked its_line)))

is_clear : AreClear its_line (calls its_line plain ∷ (talks ++ replicate 17 plain)) (begins its_line)
is_clear = no-noise-is-clear its_line (calls its_line plain ∷ (talks ++ replicate 17 plain)) fits talk (all-beats IsClean (refl, refl) (refl, refl) (refl, refl))

well-met : GoesWell its_line [] plain (talks ++ replicate 17 plain)
unfolding lines.after lines.answer lines.takes_slot exchanged read_by reading header_of control_of unnumbered_of supervisory_of teis.course teis.refusal seq distance_of named low_bits ports.after ports.answer ports.meant fall_due
well-met = record { fit = fits; idle = All-nil IsIdle; asked = asked; clear = is_clear; used = refl; heard = refl }

pub an-enquiry-meets-it : AnEnquiryMeetsIt
unfolding lines.after lines.answer lines.takes_slot exchanged read_by reading header_of control_of unnumbered_of supervisory_of teis.course teis.refusal seq distance_of named low_bits ports.after ports.answer ports.meant fall_due
an-enquiry-meets-it = record { well = well-met; enquires = refl; answered = refl; told = refl }
