-- Beats as a list: what they leave, and what they add to what was told.
use Rattle.laws_order.proofs.Vocabulary.{◌≡◌, ℕ, zero, suc, ◌+◌, List, [], ◌∷◌, ◌++◌, length, drop, option_to_list, refl, sym, ap, ◌∙◌, arith, append-nil, append_assoc, length-append, All, All-cons, All-nil, LineTold, said, next_octet, with_item, beat, port_pull, port_octet}
unfoldable use Rattle.model_card.specs.ports.Card.{answer}
use Rattle.model_card.specs.ports.Event.{at}
unfoldable use Rattle.laws_order.specs.circuit.Beats.{beats}
use Rattle.laws_order.specs.circuit.Circuit.{Endpoint as OctetEndpoint, port_of, happens, with_first_of, Circuit, sends as octet_sends, receives as octet_receives, StepAt as OctetStepAt, at_near, at_far, doing}
unfoldable use Rattle.laws_order.specs.circuit.Circuit.{doing_all}
use Rattle.laws_order.proofs.OfCircuit.Projected.{doing_meant, heard-way}
unfoldable use Rattle.laws_order.proofs.OfCircuit.Projected.{doings_meant}
use Rattle.laws_order.proofs.OfCircuit.Takings.{IsMute, one_pull, one_hearing, count_near, count_far}

-- ---- lists

pub acts-append : (ds es : List OctetStepAt) (w : Circuit) → doing_all (ds ++ es) w ≡ doing_all es (doing_all ds w)
unfolding doing_all
acts-append [] es w = refl
acts-append (d ∷ ds) es w = acts-append ds es (doing d w)

pub meant-append : (ds es : List OctetStepAt) (w : Circuit) → doings_meant (ds ++ es) w ≡ doings_meant ds w ++ doings_meant es (doing_all ds w)
unfolding doing_all doings_meant
meant-append [] es w = refl
meant-append (d ∷ ds) es w =
    ap (λ l. option_to_list (doing_meant d w) ++ l) (meant-append ds es (doing d w))
    ∙ sym (append_assoc (option_to_list (doing_meant d w)) (doings_meant ds (doing d w)) (doings_meant es (doing_all ds (doing d w))))

unfoldable pub many : ℕ → List OctetStepAt
many zero = []
many (suc n) = at_near octet_sends ∷ at_far octet_sends ∷ at_near octet_receives ∷ at_far octet_receives ∷ many n

pub many-beats : (n : ℕ) (w : Circuit) → doing_all (many n) w ≡ beats n w
unfolding many doing_all beats
many-beats zero w = refl
many-beats (suc n) w = many-beats n (doing_all beat w)

pub many-append : (m n : ℕ) → many (m + n) ≡ many m ++ many n
unfolding many
many-append zero n = ap many (let e : zero + n ≡ n = omega arith in e)
many-append (suc m) n =
    ap many (let e : suc m + n ≡ suc (m + n) = omega arith in e)
    ∙ ap (λ l. at_near octet_sends ∷ at_far octet_sends ∷ at_near octet_receives ∷ at_far octet_receives ∷ l) (many-append m n)

pub many-mute : (n : ℕ) → All IsMute (many n)
unfolding many
many-mute zero = All-nil IsMute
many-mute (suc n) =
    All-cons IsMute (at_near octet_sends) (at_far octet_sends ∷ at_near octet_receives ∷ at_far octet_receives ∷ many n) tt
    (All-cons IsMute (at_far octet_sends) (at_near octet_receives ∷ at_far octet_receives ∷ many n) tt
    (All-cons IsMute (at_near octet_receives) (at_far octet_receives ∷ many n) tt
    (All-cons IsMute (at_far octet_receives) (many n) tt (many-mute n))))

pub pulls-near : (n : ℕ) → count_near one_pull (many n) ≡ n
unfolding many
pulls-near zero = refl
pulls-near (suc n) = let rest = pulls-near n in omega (arith, rest)

pub pulls-far : (n : ℕ) → count_far one_pull (many n) ≡ n
unfolding many
pulls-far zero = refl
pulls-far (suc n) = let rest = pulls-far n in omega (arith, rest)

pub hearings-near : (n : ℕ) → count_near one_hearing (many n) ≡ n
unfolding many
hearings-near zero = refl
hearings-near (suc n) = let rest = hearings-near n in omega (arith, rest)

pub hearings-far : (n : ℕ) → count_far one_hearing (many n) ≡ n
unfolding many
hearings-far zero = refl
hearings-far (suc n) = let rest = hearings-far n in omega (arith, rest)

-- ---- as many octets stay on the way

first-way : (way : List ℕ) (s : OctetEndpoint) → (with_first_of way s).way ≡ s.way
first-way way s = grind (arith, heard-way)

pulled-way : (s : OctetEndpoint) → (value : ℕ) × ((happens port_pull s).way ≡ s.way ++ value ∷ [])
unfolding answer
pulled-way s = (next_octet (with_item (said (at s.line port_pull) s.card) (port_of s)), refl)

one-off : (way : List ℕ) (value : ℕ) → length (drop 1 (way ++ value ∷ [])) ≡ length way
one-off [] value = refl
one-off (x ∷ way) value = let long = length-append way (value ∷ []) in omega (arith, long)

pub record StayAsLong (w w' : Circuit) : Type 0 where
  pub near : length w'.near.way ≡ length w.near.way
  pub far : length w'.far.way ≡ length w.far.way

beat-stays : (w : Circuit) → StayAsLong w (doing_all beat w)
unfolding doing_all
beat-stays w =
    let x = pulled-way w.near in
    let y = pulled-way w.far in
    grind (arith, first-way, one-off)

pub many-stay : (n : ℕ) (w : Circuit) → StayAsLong w (doing_all (many n) w)
unfolding many doing_all
many-stay zero w = record { near = refl; far = refl }
many-stay (suc n) w =
    let one = beat-stays w in
    let rest = many-stay n (doing_all beat w) in
    record { near = rest.near ∙ one.near; far = rest.far ∙ one.far }

-- ---- nothing is granted, and what was told stays

pub record Adds (s t : OctetEndpoint) : Type 0 where
  pub granted : t.granted ≡ s.granted
  pub more : List LineTold
  pub told : t.told ≡ s.told ++ more

then-adds : (s t u : OctetEndpoint) → Adds s t → Adds t u → Adds s u
then-adds s t u h k = grind (arith, append_assoc)

pull-adds : (s : OctetEndpoint) → Adds s (happens port_pull s)
unfolding answer
pull-adds s = record { granted = append-nil s.granted; more = []; told = refl }

octet-adds : (value : ℕ) (s : OctetEndpoint) → Adds s (happens (port_octet value) s)
unfolding answer
octet-adds value s = grind (arith, append-nil)

first-adds : (way : List ℕ) (s : OctetEndpoint) → Adds s (with_first_of way s)
first-adds o s = grind (arith, append-nil, octet-adds)

on-way : (s t : OctetEndpoint) (way : List ℕ) → Adds s t → Adds s (record t { way = way })
on-way s t way h = record { granted = h.granted; more = h.more; told = h.told }

from-way : (s t : OctetEndpoint) (way : List ℕ) → Adds (record s { way = way }) t → Adds s t
from-way s t way h = record { granted = h.granted; more = h.more; told = h.told }

pub record BothAdd (w w' : Circuit) : Type 0 where
  pub near : Adds w.near w'.near
  pub far : Adds w.far w'.far

beat-adds : (w : Circuit) → BothAdd w (doing_all beat w)
unfolding doing_all
beat-adds w =
    let near = happens port_pull w.near in
    let far = happens port_pull w.far in
    let near-heard = with_first_of far.way near in
    let far-left : OctetEndpoint = record far { way = drop 1 far.way } in
    record {
      near = on-way w.near near-heard (drop 1 near-heard.way) (then-adds w.near near near-heard (pull-adds w.near) (first-adds far.way near));
      far = then-adds w.far far (with_first_of near-heard.way far-left) (pull-adds w.far) (from-way far (with_first_of near-heard.way far-left) (drop 1 far.way) (first-adds near-heard.way far-left));
    }

pub many-add : (n : ℕ) (w : Circuit) → BothAdd w (doing_all (many n) w)
unfolding many doing_all
many-add zero w = record { near = (record { granted = refl; more = []; told = sym (append-nil w.near.told) }); far = (record { granted = refl; more = []; told = sym (append-nil w.far.told) }) }
many-add (suc n) w =
    let w' = doing_all beat w in
    let one = beat-adds w in
    let rest = many-add n w' in
    record { near = then-adds w.near w'.near (doing_all (many n) w').near one.near rest.near; far = then-adds w.far w'.far (doing_all (many n) w').far one.far rest.far }
