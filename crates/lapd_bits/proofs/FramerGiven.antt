-- What a framer has to give, as octets and bits go.
use Rattle.lapd_bits.proofs.Vocabulary.{◌≡◌, ℕ, suc, ◌+◌, ◌-◌, ◌*◌, ◌≤◌, ◌<◌, ◌↔◌, IsTrue, Bool, nat_lt, List, ◌++◌, length, take, drop, drop-cons, get_or, refl, ap, ◌∙◌, arith, ⊎_elim, append_assoc, length-append, lt-ltb, le-ltb, cases_lt, drop_all, length-drop, low_bits, bits, flag, refilled, still_held, to_give, Waiting, length-low_bits, length-bits}
use Rattle.std.proofs.lemmas.List.{length-take, get_or-take}

-- ---- how much it is

pub length_to_give : (octets : List ℕ) (next end : ℕ) (after : Waiting) → end ≤ length octets → length (to_give octets next end after) ≡ 8 * (end - next) + after.count
length_to_give octets next end after within = grind (arith, length-append, length-bits, length-drop, length-take, length-low_bits)

-- ---- what goes next

-- an octet
pub to_give-octet : (octets : List ℕ) (next end d : ℕ) (after : Waiting) → next < end → end ≤ length octets → to_give octets next end after ≡ low_bits 8 (get_or octets next d) ++ to_give octets (next + 1) end after
to_give-octet octets next end d after more within =
    let some = take end octets in
    let size : next < length some = omega (arith, length-take end octets) in
    let rest = low_bits after.count after.bits in
    let later : suc next ≡ next + 1 = omega arith in
    ap (λ l. bits l ++ rest) (drop-cons some next d size)
    ∙ append_assoc (low_bits 8 (get_or some next d)) (bits (drop (suc next) some)) rest
    ∙ (λ i. low_bits 8 (get_or-take end octets next d more i) ++ to_give octets (later i) end after)

-- where no octets are left, the bits after them
pub to_give-none : (octets : List ℕ) (next end : ℕ) (after : Waiting) → end ≤ next → end ≤ length octets → to_give octets next end after ≡ low_bits after.count after.bits
to_give-none octets next end after none within = grind (arith, drop_all, length-take)

-- ---- whether eight bits are left

pub busy_is : (next end count size : ℕ) → size ≡ 8 * (end - next) + count → count < 8 → IsTrue (nat_lt next end) ↔ (8 ≤ size)
busy_is next end count size is few = grind (arith, le-ltb, cases_lt, lt-ltb)

-- what tells how many are left
pub ruleset busy_rules = (length_to_give, busy_is)

-- ---- the bits that an octet is taken from

pub refilled-enough : (left : List Bool) → 8 ≤ length left → left ≡ refilled left
refilled-enough left h = rw (le-ltb (length left) 8 h) refl

pub refilled-low : (left : List Bool) → length left < 8 → left ++ flag ≡ refilled left
refilled-low left h = rw (lt-ltb (length left) 8 h) refl

-- ---- an octet is given

-- what is left is held of a frame as long as it is
pub held_after : (old new : List Bool) (octet latest : ℕ) → low_bits 8 octet ++ new ≡ refilled old → still_held new latest ≡ still_held new (still_held old latest)
held_after old new octet latest given =
    ⊎_elim
    (λ short. simp (lt-ltb (length new) 8 short) refl)
    (λ long.
    let size : 16 ≤ length (refilled old) =
    omega (arith, ap length given, length-append (low_bits 8 octet) new, length-low_bits 8 octet) in
    simp (le-ltb (length new) 8 long) (held_before size))
    (cases_lt (length new) 8)
  where
    held_before : 16 ≤ length (refilled old) → latest ≡ still_held old latest
    held_before size = grind (arith, lt-ltb, length-append, le-ltb, cases_lt)
