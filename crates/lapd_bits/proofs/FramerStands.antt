-- What a framer stands for, one item or one octet more.
use Rattle.lapd_bits.proofs.Vocabulary.{◌≡◌, ℕ, ◌<◌, ◌≤◌, List, [], ◌∷◌, ◌++◌, length, ap, sym, ◌∙◌, arith, ⊎_elim, append_assoc, length-append, lt-ltb, le-ltb, cases_lt, bits, flag, low_bits, Item, idle, item_text, frame, first_four, head_of, Framing, FramerStands, refilled, with_idle, still_held, last_octets, begun_of, length-low_bits, bits-push, line_text-push, last_octets-push, latest-push}

-- a frame of these octets begins with them
pub begun_by : (octets first : List ℕ) (size : ℕ) → first ≡ first_four octets → length octets ≡ size → 1 ≤ length octets
    → begun_of first size ≡ head_of octets
begun_by octets first size four long some = grind (arith, lt-ltb)

-- One octet more is given.
pub Stands-octet : (old new : Framing) (octet : ℕ) (items : List Item) (given : List ℕ) → low_bits 8 octet ++ new.left ≡ refilled old.left → new.held ≡ still_held new.left old.held → new.begun ≡ old.begun → new.loaded ≡ old.loaded → FramerStands old items given → FramerStands new (with_idle old.left items) (given ++ octet ∷ [])
Stands-octet old new octet items given bits_are held_is begun_is loaded_is s =
    let moved : bits given ++ (low_bits 8 octet ++ new.left) ≡ bits (given ++ octet ∷ []) ++ new.left =
    sym (append_assoc (bits given) (low_bits 8 octet) new.left) ∙ ap (λ l. l ++ new.left) (sym (bits-push given octet)) in
    ⊎_elim
    (λ low.
    let taken : low_bits 8 octet ++ new.left ≡ old.left ++ flag = rw (lt-ltb (length old.left) 8 low) at bits_are in
    let size = ap length taken in
    let fewer : length new.left < 8 =
    omega (arith, length-append (low_bits 8 octet) new.left, length-append old.left flag, length-low_bits 8 octet, size) in
    rw (lt-ltb (length old.left) 8 low)
    record {
      text =
          line_text-push items idle
          ∙ ap (λ l. l ++ flag) s.text
          ∙ append_assoc (bits given) old.left flag
          ∙ ap (λ l. bits given ++ l) (sym taken)
          ∙ moved;
      held = rw (lt-ltb (length new.left) 8 fewer) (rw (lt-ltb (length new.left) 8 fewer) at held_is);
      begun = begun_is ∙ s.begun ∙ ap head_of (sym (latest-push items idle));
      loaded = loaded_is ∙ s.loaded ∙ sym (latest-push items idle);
    })
    (λ enough.
    let taken : low_bits 8 octet ++ new.left ≡ old.left = rw (le-ltb (length old.left) 8 enough) at bits_are in
    let same : old.held ≡ last_octets items = rw (le-ltb (length old.left) 8 enough) at s.held in
    rw (le-ltb (length old.left) 8 enough)
    record {
      text = s.text ∙ ap (λ l. bits given ++ l) (sym taken) ∙ moved;
      held = held_is ∙ ap (still_held new.left) same;
      begun = begun_is ∙ s.begun;
      loaded = loaded_is ∙ s.loaded;
    })
    (cases_lt (length old.left) 8)

-- One frame more is loaded.
pub Stands-load : (old new : Framing) (octets : List ℕ) (latest : ℕ) (items : List Item) (given : List ℕ) → new.left ≡ old.left ++ item_text (frame octets) → new.held ≡ still_held new.left latest → latest ≡ length octets → new.begun ≡ head_of octets → new.loaded ≡ octets → FramerStands old items given → FramerStands new (items ++ frame octets ∷ []) given
Stands-load old new octets latest items given left_is held_is latest_is begun_is loaded_is s = grind (arith, length-append, line_text-push, append_assoc, le-ltb, last_octets-push, latest-push)
