-- What the octets between two flags are judged to be, where they end in their check.
use Rattle.model_card.proofs.OfPorts.Vocabulary.{◌≡◌, ℕ, ◌+◌, ◌<◌, ◌≤◌, true, List, [], ◌∷◌, ◌++◌, length, take, nat_lt, refl, ap, sym, ◌∙◌, arith, length-append, take_at, le-ltb, lt-ltb, ltb-true, ne_eqb, cases_lt, bits, number_of, stuffed, octets_sent, AreOctets, check, is_good, judged, gap_event, room_for, frame_text, octets_sent-stuffed, is_good-check, came, checked}
use Rattle.model_card.proofs.OfPorts.Vocabulary.{AreOctets-checked, bits-checked, gap_event_sent}
use Rattle.lapd_frame.specs.Faults.{is_short}
use Rattle.model_bits.specs.Stream as stream

-- short without its check is short with it
short_with : (octets : List ℕ) (x y : ℕ) → stream.is_short (octets ++ x ∷ y ∷ []) ≡ is_short octets
short_with [] x y = refl
short_with (a ∷ []) x y = refl
short_with (a ∷ b ∷ []) x y = refl
short_with (a ∷ b ∷ c ∷ []) x y = refl
short_with (a ∷ b ∷ c ∷ d ∷ more) x y =
    let whole = a ∷ b ∷ c ∷ d ∷ (more ++ x ∷ y ∷ []) in
    let long : 5 < length whole = omega (arith, length-append more (x ∷ y ∷ [])) in
    rw (le-ltb (length whole) 5 (omega (arith, long)), ne_eqb (length whole) 5 (omega (arith, long))) refl

-- the same first four octets
four_with : (octets : List ℕ) (x y : ℕ) → 4 ≤ length octets → take 4 (octets ++ x ∷ y ∷ []) ≡ take 4 octets
four_with octets x y h = grind arith

-- too long with the check is too long without
long_with : (n201 m k : ℕ) → m ≡ k + 2 → nat_lt (n201 + 6) m ≡ nat_lt (n201 + 4) k
long_with n201 m k e = grind (arith, lt-ltb, le-ltb, cases_lt)

judged_with : (n201 : ℕ) (octets : List ℕ) (x y : ℕ) → is_good (bits (octets ++ x ∷ y ∷ [])) ≡ true → judged (room_for n201) (octets ++ x ∷ y ∷ []) ≡ came n201 octets
judged_with n201 octets x y good = grind (arith, length-append, short_with, long_with, four_with, ltb-true, take_at)

-- what a frame's text is heard as between flags
pub gap_event_came : (n201 : ℕ) (octets : List ℕ) → AreOctets octets → gap_event (room_for n201) (frame_text octets) ≡ came n201 octets
gap_event_came n201 octets h =
    let x = number_of (check (bits octets)) in
    let sent = ap (λ b. octets_sent (stuffed b)) (sym (bits-checked octets)) ∙ octets_sent-stuffed (checked octets) (AreOctets-checked octets h) in
    let good = ap is_good (bits-checked octets) ∙ is_good-check (bits octets) in
    grind (arith, gap_event_sent, judged_with)
