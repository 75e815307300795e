-- One flag lies in the buffer.
use Rattle.lapd_bits.proofs.Vocabulary.{◌≡◌, ◌<◌, ℕ, List, None, [], ◌++◌, length, take, vec_len, slice_set, rules, refl, sym, ap, arith, take-set_at, bits, low_bits, flag, still_held}
use Rattle.lapd_bits.proofs.framer.Framer.start.Goals as goal

left_is : (octets : List ℕ) → 0 < length octets → bits (take 1 (slice_set octets 0 126)) ++ low_bits 0 0 ≡ flag
unfolding low_bits
left_is octets some = ap (λ l. bits l ++ []) (take-set_at octets 0 1 126 refl some)

pub returns-clause-begins : goal.returns-clause-begins
returns-clause-begins c =
    let octets = c.in_ok-octets.octets in
    let some : 0 < vec_len octets = search rules in
    ap (λ l. record { left = l; held = still_held l 0; begun = None; loaded = []; room = c.args.n201 }) (left_is octets.items (omega (arith, octets.ok.0, some)))

pub returns-clause-stands : goal.returns-clause-stands
returns-clause-stands c =
    let octets = c.in_ok-octets.octets in
    let some : 0 < vec_len octets = search rules in
    record { text = sym (left_is octets.items (omega (arith, octets.ok.0, some))); held = refl; begun = refl; loaded = refl }
