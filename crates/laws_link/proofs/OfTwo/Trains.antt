-- What goes between two links that stay up, frame by frame: the kinds of frames, and how the numbers of I-frames rise.
use Rattle.laws_link.proofs.Vocabulary.{◌≡◌, ℕ, ◌+◌, ◌%◌, ◌<◌, ◌≤◌, Bool, true, false, List, [], ◌∷◌, ◌++◌, refl, sym, ap, ◌∙◌, ◌⊎◌, inl, inr, arith, Seq, seq, seq-value, Control, Information, ReceiveReady, ReceiveNotReady, Reject, Parts}

pub data Kind : Type 0 where
  -- an I-frame with P=0
  numbered : Seq → Kind
  -- RR or RNR: a command with P=1, a response with F=1, and others
  enquiry : Kind
  answer : Seq → Kind
  report : Kind
  -- REJ, a response with F=0
  rejection : Seq → Kind
  -- what two links that stay up do not send
  alien : Kind

abbrev pub kind_of_ready : Bool → Bool → Seq → Kind
kind_of_ready true true nr = enquiry
kind_of_ready false true nr = answer nr
kind_of_ready b false nr = report

abbrev pub kind_of_reject : Bool → Bool → Seq → Kind
kind_of_reject true pf nr = alien
kind_of_reject false true nr = alien
kind_of_reject false false nr = rejection nr

abbrev pub kind_of_information : Bool → Seq → Kind
kind_of_information true ns = alien
kind_of_information false ns = numbered ns

abbrev pub kind_of : Bool → Control → Kind
kind_of command (Information ns nr p) = kind_of_information p ns
kind_of command (ReceiveReady nr pf) = kind_of_ready command pf nr
kind_of command (ReceiveNotReady nr pf) = kind_of_ready command pf nr
kind_of command (Reject nr pf) = kind_of_reject command pf nr
kind_of command other = alien

abbrev pub kinds_of : List Parts → List Kind
kinds_of [] = []
kinds_of (f ∷ fs) = kind_of f.address.command f.control ∷ kinds_of fs

pub kinds-append : (fs gs : List Parts) → kinds_of (fs ++ gs) ≡ kinds_of fs ++ kinds_of gs
kinds-append [] gs = refl
kinds-append (f ∷ fs) gs = ap (λ xs. kind_of f.address.command f.control ∷ xs) (kinds-append fs gs)

-- How many there are of a kind.
abbrev pub tally : (Kind → ℕ) → List Kind → ℕ
tally one [] = 0
tally one (x ∷ xs) = one x + tally one xs

abbrev pub one_enquiry : Kind → ℕ
one_enquiry enquiry = 1
one_enquiry other = 0

abbrev pub one_answer : Kind → ℕ
one_answer (answer nr) = 1
one_answer other = 0

abbrev pub one_rejection : Kind → ℕ
one_rejection (rejection nr) = 1
one_rejection other = 0

pub tally-push : (one : Kind → ℕ) (xs : List Kind) (y : Kind) → tally one (xs ++ y ∷ []) ≡ tally one xs + one y
tally-push one [] y = omega arith
tally-push one (x ∷ xs) y = let more : tally one (xs ++ y ∷ []) ≡ tally one xs + one y = tally-push one xs y in omega arith

abbrev pub Every : (Kind → Type 0) → List Kind → Type 0
Every P [] = Unit {0}
Every P (x ∷ xs) = P x × Every P xs

pub every-push : (P : Kind → Type 0) (xs : List Kind) (y : Kind) → Every P xs → P y → Every P (xs ++ y ∷ [])
every-push P [] y h p = (p, tt)
every-push P (x ∷ xs) y h p = (h.0, every-push P xs y h.1 p)

-- All that is behind one of a kind.
abbrev pub Behind : (Kind → ℕ) → (Kind → Type 0) → List Kind → Type 0
Behind one Q [] = Unit {0}
Behind one Q (x ∷ xs) = (1 ≤ one x → Every Q xs) × Behind one Q xs

pub behind-push : (one : Kind → ℕ) (Q : Kind → Type 0) (xs : List Kind) (y : Kind) → Q y → Behind one Q xs → Behind one Q (xs ++ y ∷ [])
behind-push one Q [] y q h = (λ some. tt, tt)
behind-push one Q (x ∷ xs) y q h = (λ some. every-push Q xs y (h.0 some) q, behind-push one Q xs y q h.1)

pub behind-first : (one : Kind → ℕ) (Q : Kind → Type 0) (xs : List Kind) (y : Kind) → tally one xs ≡ 0 → Behind one Q (xs ++ y ∷ [])
behind-first one Q [] y none = (λ some. tt, tt)
behind-first one Q (x ∷ xs) y none = (λ some. absurd (omega (arith, none, some)), behind-first one Q xs y (omega (arith, none)))

-- Neither an I-frame nor an alien.
abbrev pub Calm : Kind → Type 0
Calm (numbered ns) = ⊥
Calm alien = ⊥
Calm other = Unit {0}

-- An I-frame among them has a number from lo to below top.
abbrev pub Comes : ℕ → ℕ → Kind → Type 0
Comes lo top (numbered ns) = (i : ℕ) × (ns ≡ seq i) × (lo ≤ i) × (i < top)
Comes lo top alien = ⊥
Comes lo top other = Unit {0}

-- The numbers rise, from lo to below hi.
abbrev pub Rise : ℕ → ℕ → List Kind → Type 0
Rise lo hi [] = lo ≤ hi
Rise lo hi (x ∷ xs) = (top : ℕ) × (lo ≤ top) × Comes lo top x × Rise top hi xs

pub rise-lower : (lo lo' hi : ℕ) (xs : List Kind) → lo' ≤ lo → Rise lo hi xs → Rise lo' hi xs
rise-lower lo lo' hi [] le h = omega (arith, le, h)
rise-lower lo lo' hi (x ∷ xs) le (top, up, here, rest) = (top, omega (arith, le, up), (grind arith), rest)

pub rise-low : (lo hi : ℕ) (xs : List Kind) → Rise lo hi xs → lo ≤ hi
rise-low lo hi [] h = h
rise-low lo hi (x ∷ xs) (top, up, here, rest) = let more = rise-low top hi xs rest in omega (arith, up, more)

pub rise-push : (lo hi top : ℕ) (xs : List Kind) (y : Kind) → hi ≤ top → Comes hi top y → Rise lo hi xs → Rise lo top (xs ++ y ∷ [])
rise-push lo hi top [] y le p h = (top, omega (arith, le, h), (grind arith), omega arith)
rise-push lo hi top (x ∷ xs) y le p (mid, up, here, rest) = (mid, up, here, rise-push mid hi top xs y le p rest)

pub calm-rise : (lo : ℕ) (xs : List Kind) → Every Calm xs → Rise lo lo xs
calm-rise lo [] h = omega arith
calm-rise lo (x ∷ xs) h = (lo, omega arith, (grind arith), calm-rise lo xs h.1)

-- An I-frame has a number beyond r, by at most 127.
abbrev pub Beyond : ℕ → Kind → Type 0
Beyond r (numbered ns) = (i : ℕ) × (ns ≡ seq i) × (r < i) × (i ≤ r + 127)
Beyond r alien = ⊥
Beyond r other = Unit {0}

pub rise-beyond : (r lo hi : ℕ) (xs : List Kind) → r < lo → hi ≤ r + 128 → Rise lo hi xs → Every (Beyond r) xs
rise-beyond r lo hi [] less le h = tt
rise-beyond r lo hi (x ∷ xs) less le (top, up, here, rest) =
    grind (arith, rise-low, (rise-beyond r top hi xs (omega (arith, less, up)) le rest))

-- First numbers beyond r, and then numbers that rise, from r to below hi.
abbrev pub Late : ℕ → ℕ → List Kind → Type 0
Late r hi [] = r ≤ hi
Late r hi (x ∷ xs) = Rise r hi (x ∷ xs) ⊎ (Beyond r x × Late r hi xs)

pub rise-late : (r hi : ℕ) (xs : List Kind) → Rise r hi xs → Late r hi xs
rise-late r hi [] h = h
rise-late r hi (x ∷ xs) h = inl h

pub beyond-late : (r hi : ℕ) (xs : List Kind) → r ≤ hi → Every (Beyond r) xs → Late r hi xs
beyond-late r hi [] le h = le
beyond-late r hi (x ∷ xs) le h = inr (h.0, beyond-late r hi xs le h.1)

pub late-low : (r hi : ℕ) (xs : List Kind) → Late r hi xs → r ≤ hi
late-low r hi [] h = h
late-low r hi (x ∷ xs) (inl h) = rise-low r hi (x ∷ xs) h
late-low r hi (x ∷ xs) (inr h) = late-low r hi xs h.1

pub late-push : (r hi top : ℕ) (xs : List Kind) (y : Kind) → hi ≤ top → Comes hi top y → Late r hi xs → Late r top (xs ++ y ∷ [])
late-push r hi top [] y le p h = inl (rise-push r hi top [] y le p h)
late-push r hi top (x ∷ xs) y le p (inl h) = inl (rise-push r hi top (x ∷ xs) y le p h)
late-push r hi top (x ∷ xs) y le p (inr h) = inr (h.0, late-push r hi top xs y le p h.1)

-- Number r comes: what is behind rises from r + 1 on.
pub rise-next : (r hi : ℕ) (xs : List Kind) → Rise r hi (numbered (seq r) ∷ xs) → Rise (r + 1) hi xs
rise-next r hi xs (top, up, (i, e, low, high), rest) = rise-lower top (r + 1) hi xs (omega (arith, low, high)) rest

pub late-next : (r hi : ℕ) (xs : List Kind) → Late r hi (numbered (seq r) ∷ xs) → Rise (r + 1) hi xs
late-next r hi xs (inl h) = rise-next r hi xs h
late-next r hi xs (inr ((i, e, low, high), rest)) =
    let one : (seq r).value ≡ i % 128 = seq-value (seq r) i e in
    let two : (seq r).value ≡ r % 128 = seq-value (seq r) r refl in
    absurd (omega (arith, low, high))

-- Another number comes: it and all behind it are beyond r, and so is hi.
pub rise-other : (r hi : ℕ) (ns : Seq) (xs : List Kind) → hi ≤ r + 127 → ((ns.value ≡ (seq r).value) → ⊥) → Rise r hi (numbered ns ∷ xs)
    → (r < hi) × Every (Beyond r) xs
rise-other r hi ns xs le other (top, up, (i, e, low, high), rest) =
    let one : ns.value ≡ i % 128 = seq-value ns i e in
    let two : (seq r).value ≡ r % 128 = seq-value (seq r) r refl in
    let here : i ≡ r → ns.value ≡ (seq r).value = λ same. one ∙ ap (λ n. n % 128) same ∙ sym two in
    let differ : i ≡ r → ⊥ = λ same. other (here same) in
    let less : r < i = omega (arith, low, differ) in
    let top-high : top ≤ hi = rise-low top hi xs rest in
    (omega (arith, high, top-high, less), rise-beyond r top hi xs (omega (arith, less, high)) (omega (arith, le)) rest)
