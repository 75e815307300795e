-- Control fields: what `control_of` finds has that field, and the field of a row is found again.
use Rattle.lapd_frame.specs.Allowed.{allowed}
use Rattle.lapd_frame.proofs.Vocabulary.{◌≡◌, ◌≢◌, ℕ, ◌*◌, ◌/◌, ◌%◌, ◌<◌, inl, inr, Bool, true, false, cond, ◌==◌, refl, ap, sym, ◌∙◌, subst, List, [], ◌∷◌, ◌++◌, slice_index, Option, Some, None, arith, eq-eqb, ne_eqb, eqb_tells, Seq, seq, is_seq, Control, Information, ReceiveReady, ReceiveNotReady, Reject, Sabme, Disc, Ui, Ua, Dm, Frmr, Xid, allows, row, second_octet, supervisory_of}
use Rattle.lapd_frame.proofs.Vocabulary.{unnumbered_of, control_of}

-- what holds of each outcome of a chain of tests holds of the outcome
step : (P : Control → Type 0) (octet k : ℕ) (x c : Control) (others : Option Control) → (octet ≡ k → P x) → (others ≡ Some c → P c)
    → cond (octet == k) (Some x) others ≡ Some c → P c
step P octet k x c others here there e =
    elim (eqb_tells octet k) [
      | inl t ↦ let same : Some x ≡ Some c = rw t.0 at e in let y : x ≡ c = cc in subst P y (here t.1)
      | inr f ↦ there (rw f.0 at e)
    ]

-- nothing is found
none : (P : Control → Type 0) (c : Control) → None ≡ Some c → P c
none P c e = absurd (cc)

-- what is found for the octet of an unnumbered frame has it as its field
unnumbered-found : (octet : ℕ) (c : Control) → unnumbered_of octet ≡ Some c → (row c).field ≡ octet ∷ []
unfolding unnumbered_of
unnumbered-found octet c =
    let P : Control → Type 0 = λ c. (row c).field ≡ octet ∷ [] in
    step P octet 0x6F (Sabme false) c _ (λ e. ap (λ n. n ∷ []) (sym e))
    (step P octet 0x7F (Sabme true) c _ (λ e. ap (λ n. n ∷ []) (sym e))
    (step P octet 0x43 (Disc false) c _ (λ e. ap (λ n. n ∷ []) (sym e))
    (step P octet 0x53 (Disc true) c _ (λ e. ap (λ n. n ∷ []) (sym e))
    (step P octet 0x03 (Ui false) c _ (λ e. ap (λ n. n ∷ []) (sym e))
    (step P octet 0x13 (Ui true) c _ (λ e. ap (λ n. n ∷ []) (sym e))
    (step P octet 0x63 (Ua false) c _ (λ e. ap (λ n. n ∷ []) (sym e))
    (step P octet 0x73 (Ua true) c _ (λ e. ap (λ n. n ∷ []) (sym e))
    (step P octet 0x0F (Dm false) c _ (λ e. ap (λ n. n ∷ []) (sym e))
    (step P octet 0x1F (Dm true) c _ (λ e. ap (λ n. n ∷ []) (sym e))
    (step P octet 0x87 (Frmr false) c _ (λ e. ap (λ n. n ∷ []) (sym e))
    (step P octet 0x97 (Frmr true) c _ (λ e. ap (λ n. n ∷ []) (sym e))
    (step P octet 0xAF (Xid false) c _ (λ e. ap (λ n. n ∷ []) (sym e))
    (step P octet 0xBF (Xid true) c _ (λ e. ap (λ n. n ∷ []) (sym e)) (none P c))))))))))))))

-- what is found for the first octet of a supervisory frame has it in its field
supervisory-found : (octet : ℕ) (nr : Seq) (pf : Bool) (c : Control) → supervisory_of octet nr pf ≡ Some c → (row c).field ≡ octet ∷ second_octet nr pf ∷ []
unfolding supervisory_of
supervisory-found octet nr pf c =
    let P : Control → Type 0 = λ c. (row c).field ≡ octet ∷ second_octet nr pf ∷ [] in
    step P octet 0x01 (ReceiveReady nr pf) c _ (λ e. ap (λ n. n ∷ second_octet nr pf ∷ []) (sym e))
    (step P octet 0x05 (ReceiveNotReady nr pf) c _ (λ e. ap (λ n. n ∷ second_octet nr pf ∷ []) (sym e))
    (step P octet 0x09 (Reject nr pf) c _ (λ e. ap (λ n. n ∷ second_octet nr pf ∷ []) (sym e)) (none P c)))

-- twice the half of an even octet
even_octet : (n : ℕ) → n < 256 → n % 2 ≡ 0 → 2 * (seq (n / 2)).value ≡ n
unfolding seq
even_octet n small even = omega arith

-- an octet is the half of it, and its lowest bit
halves : (n : ℕ) → n < 256 → second_octet (seq (n / 2)) (n % 2 == 1) ≡ n
unfolding seq
halves n small =
    elim (eqb_tells (n % 2) 1) [
      | inl t ↦ rw t.0 (omega (arith, t.1))
      | inr f ↦ rw f.0 (let odd : n % 2 ≢ 1 = f.1 in omega arith)
    ]

-- the field of a control that is found: both octets, or the first alone, which then ends in 11
pub data HasField (c : Control) (third fourth : ℕ) : Type 0 where
  two_octets : third % 4 ≢ 3 → (row c).field ≡ third ∷ fourth ∷ [] → HasField c third fourth
  one_octet : third % 4 ≡ 3 → (row c).field ≡ third ∷ [] → HasField c third fourth

-- what is found has its field there
pub control-found : (third fourth : ℕ) (c : Control) → third < 256 → fourth < 256 → control_of third fourth ≡ Some c → HasField c third fourth
unfolding control_of
control-found third fourth c small-third small-fourth e =
    elim (eqb_tells (third % 2) 0) [
      | inl t ↦
          let even : third % 2 ≡ 0 = t.1 in
          let same : Some (Information (seq (third / 2)) (seq (fourth / 2)) (fourth % 2 == 1)) ≡ Some c = rw t.0 at e in
          let here : Information (seq (third / 2)) (seq (fourth / 2)) (fourth % 2 == 1) ≡ c = cc in
          subst (λ c. HasField c third fourth) here
          (two_octets (λ h. omega (arith, h)) (ap (λ n. n ∷ second_octet (seq (fourth / 2)) (fourth % 2 == 1) ∷ []) (even_octet third small-third even) ∙ ap (λ n. third ∷ n ∷ []) (halves fourth small-fourth)))
      | inr f ↦
          let odd : third % 2 ≢ 0 = f.1 in
          elim (eqb_tells (third % 4) 1) [
            | inl t ↦
                let low : third % 4 ≡ 1 = t.1 in
                two_octets (λ h. omega (arith, h)) (supervisory-found third _ _ c (rw (f.0, t.0) at e) ∙ ap (λ n. third ∷ n ∷ []) (halves fourth small-fourth))
            | inr g ↦
                let low : third % 4 ≢ 1 = g.1 in
                one_octet (omega arith) (unnumbered-found third c (rw (f.0, g.0) at e))
          ]
    ]

-- N(R) is read again from the second octet
nr-again : (nr : Seq) (pf : Bool) → seq (second_octet nr pf / 2) ≡ nr
nr-again nr true = let small : nr.value < 128 = nr.in_range in sym (is_seq nr _ (omega arith))
nr-again nr false = let small : nr.value < 128 = nr.in_range in sym (is_seq nr _ (omega arith))

-- P/F is read again from the second octet
pf-again : (nr : Seq) (pf : Bool) → (second_octet nr pf % 2 == 1) ≡ pf
pf-again nr true = eq-eqb _ _ (omega arith)
pf-again nr false = ne_eqb _ _ (λ h. omega (arith, h))

-- the field of a row, whatever follows it, is found again
pub control-again : (c : Control) (rest : List ℕ) → control_of (slice_index ((row c).field ++ rest) 0) (slice_index ((row c).field ++ rest) 1) ≡ Some c
unfolding control_of supervisory_of unnumbered_of
control-again (Information ns nr pf) rest =
    let small : ns.value < 128 = ns.in_range in
    let even : ((2 * ns.value) % 2 == 0) ≡ true = eq-eqb _ _ (omega arith) in
    let number : seq (2 * ns.value / 2) ≡ ns = sym (is_seq ns _ (omega arith)) in
    rw (even, number, nr-again nr pf, pf-again nr pf) refl
control-again (ReceiveReady nr pf) rest = rw (nr-again nr pf, pf-again nr pf) refl
control-again (ReceiveNotReady nr pf) rest = rw (nr-again nr pf, pf-again nr pf) refl
control-again (Reject nr pf) rest = rw (nr-again nr pf, pf-again nr pf) refl
control-again (Sabme p) rest = grind arith
control-again (Disc p) rest = grind arith
control-again (Ui p) rest = grind arith
control-again (Ua p) rest = grind arith
control-again (Dm p) rest = grind arith
control-again (Frmr p) rest = grind arith
control-again (Xid p) rest = grind arith

-- a supervisory frame can be a command or a response
allowed-too : (command b : Bool) (x y : Option Control) → allowed command x ≡ x → allowed command y ≡ y → allowed command (cond b x y) ≡ cond b x y
allowed-too command true x y first second = first
allowed-too command false x y first second = second

pub supervisory_allowed : (command : Bool) (octet : ℕ) (nr : Seq) (pf : Bool) → allowed command (supervisory_of octet nr pf) ≡ supervisory_of octet nr pf
unfolding supervisory_of
supervisory_allowed command octet nr pf =
    allowed-too command (octet == 0x01) _ _ refl (allowed-too command (octet == 0x05) _ _ refl (allowed-too command (octet == 0x09) _ _ refl refl))

-- what is kept by a test is what was there
kept : (b : Bool) (found c : Control) → cond b (Some found) None ≡ Some c → Some found ≡ Some c
kept true found c e = e
kept false found c e = absurd (cc)

-- what is allowed was found
pub allowed-found : (command : Bool) (o : Option Control) (c : Control) → allowed command o ≡ Some c → o ≡ Some c
allowed-found command None c e = absurd (cc)
allowed-found command (Some found) c e = kept (allows (row found).kind command) found c e
