-- Addresses: what two octets are is what they spell, and is read again.
use Rattle.lapd_frame.proofs.Vocabulary.{◌≡◌, ◌≢◌, ℕ, ◌+◌, ◌*◌, ◌/◌, ◌%◌, ◌≤◌, inl, inr, Bool, true, false, ◌==◌, refl, ap, ◌∙◌, [], ◌∷◌, arith, eq-eqb, ne_eqb, eqb_tells, Side, User, Network, Address, has_bad_extension, cr_bit, address_field, address_of}

-- both extension bits are right
pub good-extension : (first second : ℕ) → has_bad_extension first second ≡ false → (first % 2 ≡ 0) × (second % 2 ≡ 1)
good-extension first second e =
    elim (eqb_tells (first % 2) 0) [
      | inl t ↦ elim (eqb_tells (second % 2) 1) [
        | inl u ↦ (t.1, u.1)
        | inr g ↦ let wrong : true ≡ false = rw (t.0, g.0) at e in absurd (cc)
      ]
      | inr f ↦ let wrong : true ≡ false = rw f.0 at e in absurd (cc)
    ]

-- the first octet of an address
first-found : (side : Side) (first : ℕ) → first % 2 ≡ 0 → 4 * (first / 4) + 2 * cr_bit side ((first / 2 % 2) == cr_bit side true) ≡ first
first-found User first even =
    elim (eqb_tells (first / 2 % 2) 0) [ inl t ↦ rw t.0 (omega (arith, t.1)) | inr f ↦ rw f.0 (let one : first / 2 % 2 ≢ 0 = f.1 in omega arith) ]
first-found Network first even =
    elim (eqb_tells (first / 2 % 2) 1) [ inl t ↦ rw t.0 (omega (arith, t.1)) | inr f ↦ rw f.0 (let zero : first / 2 % 2 ≢ 1 = f.1 in omega arith) ]

-- octets with right extension bits are what their address spells
pub address-found : (side : Side) (first second : ℕ) → has_bad_extension first second ≡ false → address_field side (address_of side first second) ≡ first ∷ second ∷ []
address-found side first second e =
    let bits : (first % 2 ≡ 0) × (second % 2 ≡ 1) = good-extension first second e in
    let odd : second % 2 ≡ 1 = bits.1 in
    let tei : 2 * (second / 2) + 1 ≡ second = omega arith in
    ap (λ n. n ∷ (2 * (second / 2) + 1) ∷ []) (first-found side first bits.0) ∙ ap (λ n. first ∷ n ∷ []) tei

-- the C/R bit is a bit
pub cr_bit-small : (side : Side) (command : Bool) → cr_bit side command ≤ 1
cr_bit-small User true = omega arith
cr_bit-small User false = omega arith
cr_bit-small Network true = omega arith
cr_bit-small Network false = omega arith

-- the octets of an address have right extension bits
pub extension-again : (side : Side) (a : Address) → has_bad_extension (4 * a.sapi + 2 * cr_bit side a.command) (2 * a.tei + 1) ≡ false
extension-again side a =
    let even : ((4 * a.sapi + 2 * cr_bit side a.command) % 2 == 0) ≡ true = eq-eqb _ _ (omega arith) in
    let odd : ((2 * a.tei + 1) % 2 == 1) ≡ true = eq-eqb _ _ (omega arith) in
    rw (even, odd) refl

-- command or response is read again from the C/R bit
command-again : (side : Side) (command : Bool) (n : ℕ) → ((4 * n + 2 * cr_bit side command) / 2 % 2 == cr_bit side true) ≡ command
command-again User true n = eq-eqb _ _ (omega arith)
command-again User false n = ne_eqb _ _ (λ h. omega (arith, h))
command-again Network true n = eq-eqb _ _ (omega arith)
command-again Network false n = ne_eqb _ _ (λ h. omega (arith, h))

-- an address is read again
pub address-again : (side : Side) (a : Address) → address_of side (4 * a.sapi + 2 * cr_bit side a.command) (2 * a.tei + 1) ≡ a
address-again side a =
    let bit : cr_bit side a.command ≤ 1 = cr_bit-small side a.command in
    let sapi : (4 * a.sapi + 2 * cr_bit side a.command) / 4 ≡ a.sapi = omega arith in
    let tei : (2 * a.tei + 1) / 2 ≡ a.tei = omega arith in
    rw (sapi, tei, command-again side a.command a.sapi) refl
