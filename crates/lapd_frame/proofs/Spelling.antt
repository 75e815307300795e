-- The grammar read backwards: `reading` finds what the octets spell, and the first fault where they spell nothing.
use Rattle.lapd_frame.proofs.Vocabulary.{◌≡◌, ℕ, ◌+◌, ◌*◌, ◌/◌, ◌%◌, ◌<◌, ◌≤◌, ◌⊎◌, inl, inr, Bool, true, false, IsTrue, cond, ◌==◌, refl, ap, sym, ◌∙◌, subst, List, [], ◌∷◌, ◌++◌, length, drop, slice_index, Option, Some, None, Result, Ok, Err, IfOk, IsOkAnd, ◌↔◌, length-append, lit<, zero, suc, arith, eqb-true, eqb_tells, ne_eqb, All-nil, All-cons, All-head, All-tail, Side, Address, Control}
use Rattle.lapd_frame.proofs.Vocabulary.{Information}
use Rattle.lapd_frame.proofs.Vocabulary.{ReceiveReady, ReceiveNotReady, Reject, Sabme, Disc, Ui, Ua, Dm, Frmr, Xid, ReadFault, BadExtension, Undefined, WrongSize, Short, Long, Frame, is_short, has_bad_extension, HasAddress, HasControl, IsFault, Parts, parts_of, cr_bit, address_field, allows, takes, row, one_of, IsFrame, spelling, Spells, AreOctets, exactly, IsLong, is_ui, is_unit, address_of}
use Rattle.lapd_frame.proofs.Vocabulary.{control_of, checked}
use Rattle.lapd_frame.proofs.Vocabulary.{header_of, start_of, sized, completed, reading, outcome_of, long_kind, long_of}
use Rattle.lapd_frame.proofs.AddressField.{address-found, extension-again, address-again}
use Rattle.lapd_frame.proofs.ControlField.{HasField, two_octets, one_octet, control-found, control-again}

-- an octet at any place, 0 past the end
octet-at : (octets : List ℕ) → AreOctets octets → (i : ℕ) → slice_index octets i < 256
octet-at [] small i = lit< tt
octet-at (x ∷ xs) small zero = All-head (λ octet. octet < 256) x xs small
octet-at (x ∷ xs) small (suc i) = octet-at xs (All-tail (λ octet. octet < 256) x xs small) i

-- what is an octet at each place is octets
pub are-octets : (octets : List ℕ) → ((i : ℕ) → slice_index octets i < 256) → AreOctets octets
are-octets [] small = All-nil (λ octet. octet < 256)
are-octets (x ∷ xs) small = All-cons (λ octet. octet < 256) x xs (small 0) (are-octets xs (λ i. small (suc i)))

-- a test that lets a value through
passed : {A E : Type 0} (b : Bool) (e : E) (r : Result A E) (x : A) → cond b (Err e) r ≡ Ok x → (b ≡ false) × (r ≡ Ok x)
passed true e r x h = absurd (cc)
passed false e r x h = (refl, h)

-- a test that stops, or lets a fault through
stopped : {A E : Type 0} (b : Bool) (e f : E) (r : Result A E) → cond b (Err e) r ≡ Err f → ((b ≡ true) × (e ≡ f)) ⊎ ((b ≡ false) × (r ≡ Err f))
stopped true e f r h = inl (refl, cc)
stopped false e f r h = inr (refl, h)

-- a last test that lets a value through
chosen : {A E : Type 0} (b : Bool) (y x : A) (e : E) → cond b (Ok y) (Err e) ≡ Ok x → (b ≡ true) × (y ≡ x)
chosen true y x e h = (refl, cc)
chosen false y x e h = absurd (cc)

-- a last test that stops
refused : {A E : Type 0} (b : Bool) (y : A) (e f : E) → cond b (Ok y) (Err e) ≡ Err f → (b ≡ false) × (e ≡ f)
refused true y e f h = absurd (cc)
refused false y e f h = (refl, cc)

-- Where the control field of octets that are not too few ends.
rest-found : (c : Control) (first second third : ℕ) (rest : List ℕ) → is_short (first ∷ second ∷ third ∷ rest) ≡ false → HasField c third (slice_index rest 0)
    → third ∷ rest ≡ (row c).field ++ drop (start_of c) (first ∷ second ∷ third ∷ rest)
rest-found c first second third [] whole (two_octets low e) =
    elim (eqb_tells (third % 4) 3) [ inl t ↦ absurd (low t.1) | inr f ↦ let wrong : true ≡ false = rw f.0 at whole in absurd (cc) ]
rest-found c first second third [] whole (one_octet low e) = sym (ap (λ l. l ++ drop (2 + length l) (first ∷ second ∷ third ∷ [])) e)
rest-found c first second third (fourth ∷ more) whole (two_octets low e) = sym (ap (λ l. l ++ drop (2 + length l) (first ∷ second ∷ third ∷ fourth ∷ more)) e)
rest-found c first second third (fourth ∷ more) whole (one_octet low e) = sym (ap (λ l. l ++ drop (2 + length l) (first ∷ second ∷ third ∷ fourth ∷ more)) e)

-- What a header tells.
pub record HeaderIs (side : Side) (first second third fourth : ℕ) (header : Address × Control) : Type 0 where
  pub extension : has_bad_extension first second ≡ false
  pub found : control_of third fourth ≡ Some header.1
  pub address_is : header.0 ≡ address_of side first second
  pub kind : IsTrue (allows (row header.1).kind header.0.command)

checked-found : (address : Address) (o : Option Control) (h : Address × Control) → checked address o ≡ Ok h
    → (o ≡ Some h.1) × (h.0 ≡ address) × IsTrue (allows (row h.1).kind h.0.command)
checked-found address None h e = absurd (cc)
checked-found address (Some c) h e =
    let k : (allows (row c).kind address.command ≡ true) × ((address, c) ≡ h) = chosen _ _ _ _ e in
    subst (λ (h : Address × Control). (Some c ≡ Some h.1) × (h.0 ≡ address) × IsTrue (allows (row h.1).kind h.0.command)) k.1 (refl, refl, k.0)

header-found : (side : Side) (first second third fourth : ℕ) (h : Address × Control) → header_of side first second third fourth ≡ Ok h → HeaderIs side first second third fourth h
unfolding header_of
header-found side first second third fourth h e =
    let k : (has_bad_extension first second ≡ false) × (checked (address_of side first second) (control_of third fourth) ≡ Ok h) = passed _ _ _ _ e in
    let f : (control_of third fourth ≡ Some h.1) × (h.0 ≡ address_of side first second) × IsTrue (allows (row h.1).kind h.0.command) = checked-found _ _ _ k.1 in
    record { extension = k.0; found = f.0; address_is = f.1; kind = f.2 }

completed-found : (octets : List ℕ) (r : Result (Address × Control) ReadFault) (f : Parts) → completed octets r ≡ Ok f
    → (h : Address × Control) × (r ≡ Ok h) × (sized h.0 h.1 (drop (start_of h.1) octets) ≡ Ok f)
completed-found octets (Ok h) f e = (h, refl, e)
completed-found octets (Err fault) f e = absurd (cc)

-- the address of octets that have a header is in range, and is their first two
header-address : (side : Side) (first second third fourth : ℕ) (rest : List ℕ) (h : Address × Control) → first < 256 → second < 256
    → HeaderIs side first second third fourth h → HasAddress side (first ∷ second ∷ rest) h.0
header-address side first second third fourth rest h small-first small-second is =
    let small-sapi : first / 4 < 64 = omega arith in
    let small-tei : second / 2 < 128 = omega arith in
    let begins : first ∷ second ∷ rest ≡ address_field side (address_of side first second) ++ rest = sym (ap (λ l. l ++ rest) (address-found side first second is.extension)) in
    let all : HasAddress side (first ∷ second ∷ rest) (address_of side first second) = record { sapi = small-sapi; tei = small-tei; begins = begins } in
    subst (λ a. HasAddress side (first ∷ second ∷ rest) a) (sym is.address_is) all

-- what is read is what the octets spell
pub reading-found : (side : Side) (octets : List ℕ) (f : Parts) → AreOctets octets → reading side octets ≡ Ok f → Spells side f octets
unfolding reading
reading-found side [] f small e = absurd (cc)
reading-found side (first ∷ []) f small e = absurd (cc)
reading-found side (first ∷ second ∷ []) f small e = absurd (cc)
reading-found side (first ∷ second ∷ third ∷ rest) f small e =
    let at : (i : ℕ) → slice_index (first ∷ second ∷ third ∷ rest) i < 256 = octet-at (first ∷ second ∷ third ∷ rest) small in
    let octets : List ℕ = first ∷ second ∷ third ∷ rest in
    let k : (is_short octets ≡ false) × (completed octets (header_of side first second third (slice_index rest 0)) ≡ Ok f) = passed _ _ _ _ e in
    let m : (h : Address × Control) × (header_of side first second third (slice_index rest 0) ≡ Ok h) × (sized h.0 h.1 (drop (start_of h.1) octets) ≡ Ok f) = completed-found octets _ f k.1 in
    let h : Address × Control = m.0 in
    let is : HeaderIs side first second third (slice_index rest 0) h = header-found side first second third (slice_index rest 0) h m.1 in
    let address : HasAddress side octets h.0 = header-address side first second third (slice_index rest 0) (third ∷ rest) h (at 0) (at 1) is in
    let field : HasField h.1 third (slice_index rest 0) = control-found third (slice_index rest 0) h.1 (at 2) (at 3) is.found in
    let behind : third ∷ rest ≡ (row h.1).field ++ drop (start_of h.1) octets = rest-found h.1 first second third rest k.0 field in
    let s : (takes (row h.1).info (length (drop (start_of h.1) octets)) ≡ true) × (record { address = h.0; control = h.1; info = drop (start_of h.1) octets } ≡ f) = chosen _ _ _ _ m.2 in
    let whole : IsFrame (record { address = h.0; control = h.1; info = drop (start_of h.1) octets }) = record { sapi = address.sapi; tei = address.tei; kind = is.kind; size = s.0 } in
    let spelled : octets ≡ spelling side (record { address = h.0; control = h.1; info = drop (start_of h.1) octets }) =
    address.begins ∙ ap (λ l. address_field side h.0 ++ l) behind in
    subst (λ f. Spells side f octets) s.1 (record { is_frame = whole; octets_are = spelled })

-- A control field of one octet is no part of a longer one, so behind it the octets are enough.
enough : (first second x y : ℕ) (pf : Bool) (info : List ℕ) → (x % 4 == 3) ≡ true → (y % 4 == 3) ≡ true → is_short (first ∷ second ∷ (one_of x y pf ++ info)) ≡ false
enough first second x y true [] a b = rw b refl
enough first second x y false [] a b = rw a refl
enough first second x y pf (octet ∷ more) a b = refl

-- the octets of a frame are not too few
long-enough : (first second : ℕ) (c : Control) (info : List ℕ) → is_short (first ∷ second ∷ ((row c).field ++ info)) ≡ false
long-enough first second control info = grind (arith, enough)

-- what follows the control field
pub info-again : (first second : ℕ) (c : Control) (info : List ℕ) → drop (start_of c) (first ∷ second ∷ ((row c).field ++ info)) ≡ info
info-again first second control info = grind arith

-- the header of a frame is read again
header-again : (side : Side) (a : Address) (c : Control) (third fourth : ℕ) → IsTrue (allows (row c).kind a.command) → control_of third fourth ≡ Some c
    → header_of side (4 * a.sapi + 2 * cr_bit side a.command) (2 * a.tei + 1) third fourth ≡ Ok (a, c)
unfolding header_of
header-again side a c third fourth kind found =
    rw (extension-again side a, address-again side a, found, kind) refl

-- what octets spell is read from them
pub reading-again : (side : Side) (f : Parts) (octets : List ℕ) → Spells side f octets → reading side octets ≡ Ok f
unfolding reading
reading-again side f octets s =
    let first : ℕ = 4 * f.address.sapi + 2 * cr_bit side f.address.command in
    let second : ℕ = 2 * f.address.tei + 1 in
    let whole : is_short (spelling side f) ≡ false = long-enough first second f.control f.info in
    let header : header_of side first second (slice_index ((row f.control).field ++ f.info) 0) (slice_index ((row f.control).field ++ f.info) 1) ≡ Ok (f.address, f.control) =
    header-again side f.address f.control _ _ s.is_frame.kind (control-again f.control f.info) in
    let info : drop (start_of f.control) (spelling side f) ≡ f.info = info-again first second f.control f.info in
    rw (s.octets_are, whole, header, info, s.is_frame.size) refl

-- octets spell one frame only
pub one-spelling : (side : Side) (f g : Parts) (octets : List ℕ) → Spells side f octets → Spells side g octets → f ≡ g
one-spelling side f g octets s t =
    let one : reading side octets ≡ Ok f = reading-again side f octets s in
    let two : reading side octets ≡ Ok g = reading-again side g octets t in
    cc

-- The faults

completed-stopped : (octets : List ℕ) (r : Result (Address × Control) ReadFault) (fault : ReadFault) → completed octets r ≡ Err fault
    → (r ≡ Err fault) ⊎ ((h : Address × Control) × (r ≡ Ok h) × (WrongSize h.0 ≡ fault))
completed-stopped octets (Ok h) fault e =
    let k : (takes (row h.1).info (length (drop (start_of h.1) octets)) ≡ false) × (WrongSize h.0 ≡ fault) = refused _ _ _ _ e in
    inr (h, refl, k.1)
completed-stopped octets (Err other) fault e = inl (cc)

-- no control field is found, or one that the C/R bit does not allow
pub data IsNoHeader (address : Address) (o : Option Control) : Type 0 where
  nothing : o ≡ None → IsNoHeader address o
  other_kind : (c : Control) → o ≡ Some c → allows (row c).kind address.command ≡ false → IsNoHeader address o

checked-stopped : (address : Address) (o : Option Control) (fault : ReadFault) → checked address o ≡ Err fault → IsNoHeader address o × (Undefined address ≡ fault)
checked-stopped address None fault e = (nothing refl, cc)
checked-stopped address (Some c) fault e =
    let k : (allows (row c).kind address.command ≡ false) × (Undefined address ≡ fault) = refused _ _ _ _ e in
    (other_kind c refl k.0, k.1)

-- then no control field of a row stands there that it allows
nothing-there : (address : Address) (first second third : ℕ) (rest : List ℕ) → IsNoHeader address (control_of third (slice_index rest 0))
    → (c : Control) → HasControl address (first ∷ second ∷ third ∷ rest) c → ⊥
nothing-there address first second third rest (nothing e) c has =
    let again : control_of (slice_index ((row c).field ++ has.begins.0) 0) (slice_index ((row c).field ++ has.begins.0) 1) ≡ Some c = control-again c has.begins.0 in
    let here : control_of third (slice_index rest 0) ≡ Some c = rw (← has.begins.1) at again in
    absurd (cc)
nothing-there address first second third rest (other_kind d e not_allowed) c has =
    let again : control_of (slice_index ((row c).field ++ has.begins.0) 0) (slice_index ((row c).field ++ has.begins.0) 1) ≡ Some c = control-again c has.begins.0 in
    let here : control_of third (slice_index rest 0) ≡ Some c = rw (← has.begins.1) at again in
    let same : d ≡ c = cc in
    let wrong : allows (row c).kind address.command ≡ false = subst (λ x. allows (row x).kind address.command ≡ false) same not_allowed in
    let right : allows (row c).kind address.command ≡ true = has.kind in
    absurd (cc)

-- why nothing is read is the first fault that holds
pub fault-found : (side : Side) (octets : List ℕ) (fault : ReadFault) → AreOctets octets → reading side octets ≡ Err fault → IsFault side octets fault
unfolding reading header_of
fault-found side [] fault small e = let k : Short ≡ fault = cc in subst (IsFault side []) k refl
fault-found side (first ∷ []) fault small e = let k : Short ≡ fault = cc in subst (IsFault side (first ∷ [])) k refl
fault-found side (first ∷ second ∷ []) fault small e = let k : Short ≡ fault = cc in subst (IsFault side (first ∷ second ∷ [])) k refl
fault-found side (first ∷ second ∷ third ∷ rest) fault small e =
    let at : (i : ℕ) → slice_index (first ∷ second ∷ third ∷ rest) i < 256 = octet-at (first ∷ second ∷ third ∷ rest) small in
    let octets : List ℕ = first ∷ second ∷ third ∷ rest in
    let header_read : Result (Address × Control) ReadFault = header_of side first second third (slice_index rest 0) in
    let first_test : ((is_short octets ≡ true) × (Short ≡ fault)) ⊎ ((is_short octets ≡ false) × (completed octets header_read ≡ Err fault)) = stopped _ _ _ _ e in
    elim first_test [
      | inl short ↦ subst (IsFault side octets) short.1 short.0
      | inr whole ↦ elim (completed-stopped octets (header_of side first second third (slice_index rest 0)) fault whole.1) [
        | inl header ↦
            let address : Address = address_of side first second in
            let bits : ((has_bad_extension first second ≡ true) × (BadExtension ≡ fault))
            ⊎ ((has_bad_extension first second ≡ false) × (checked address (control_of third (slice_index rest 0)) ≡ Err fault)) = stopped _ _ _ _ header in
            elim bits [
              | inl bad ↦ subst (IsFault side octets) bad.1 (whole.0, bad.0)
              | inr good ↦
                  let k : IsNoHeader address (control_of third (slice_index rest 0)) × (Undefined address ≡ fault) = checked-stopped address _ _ good.1 in
                  let small-first : first < 256 = at 0 in
                  let small-second : second < 256 = at 1 in
                  let begins : octets ≡ address_field side address ++ (third ∷ rest) = sym (ap (λ l. l ++ (third ∷ rest)) (address-found side first second good.0)) in
                  let there : HasAddress side octets address = record { sapi = omega arith; tei = omega arith; begins = begins } in
                  subst (IsFault side octets) k.1 (record { whole = whole.0; extension = good.0; begins = there }, nothing-there address first second third rest k.0)
            ]
        | inr found ↦
            let h : Address × Control = found.0 in
            let is : HeaderIs side first second third (slice_index rest 0) h = header-found side first second third (slice_index rest 0) h found.1 in
            let there : HasAddress side octets h.0 = header-address side first second third (slice_index rest 0) (third ∷ rest) h (at 0) (at 1) is in
            let field : HasField h.1 third (slice_index rest 0) = control-found third (slice_index rest 0) h.1 (at 2) (at 3) is.found in
            let behind : third ∷ rest ≡ (row h.1).field ++ drop (start_of h.1) octets = rest-found h.1 first second third rest whole.0 field in
            let control : HasControl h.0 octets h.1 = record { kind = is.kind; begins = (drop (start_of h.1) octets, behind) } in
            let none_spelled : (f : Parts) → Spells side f octets → ⊥ = λ f s. let read : reading side octets ≡ Ok f = reading-again side f octets s in absurd (cc) in
            subst (IsFault side octets) found.2 (record { whole = whole.0; extension = is.extension; begins = there }, (h.1, control), none_spelled)
      ]
    ]

-- the first two octets are the address that they are said to be
address-there : (side : Side) (octets : List ℕ) (address : Address) → HasAddress side octets address → address_of side (slice_index octets 0) (slice_index octets 1) ≡ address
address-there side octets address there =
    let first : slice_index octets 0 ≡ 4 * address.sapi + 2 * cr_bit side address.command = ap (λ l. slice_index l 0) there.begins in
    let second : slice_index octets 1 ≡ 2 * address.tei + 1 = ap (λ l. slice_index l 1) there.begins in
    rw (first, second) (address-again side address)

-- a control field stands where nothing says that none does
undefined-again : (side : Side) (first second third : ℕ) (rest : List ℕ) (address : Address) (o : Option Control) → third < 256 → slice_index rest 0 < 256
    → is_short (first ∷ second ∷ third ∷ rest) ≡ false → control_of third (slice_index rest 0) ≡ o
    → ((c : Control) → HasControl address (first ∷ second ∷ third ∷ rest) c → ⊥) → checked address o ≡ Err (Undefined address)
undefined-again side first second third rest address None small-third small-fourth whole e no_control = refl
undefined-again side first second third rest address (Some c) small-third small-fourth whole e no_control =
    let octets : List ℕ = first ∷ second ∷ third ∷ rest in
    let field : HasField c third (slice_index rest 0) = control-found third (slice_index rest 0) c small-third small-fourth e in
    let behind : third ∷ rest ≡ (row c).field ++ drop (start_of c) octets = rest-found c first second third rest whole field in
    let header : Address × Control = (address, c) in
    let stop : Result (Address × Control) ReadFault = Err (Undefined address) in
    elim (allows (row c).kind address.command) as (λ b. allows (row c).kind address.command ≡ b → cond b (Ok header) stop ≡ stop) [
      | true ↦ λ kind. absurd (no_control c (record { kind = kind; begins = (drop (start_of c) octets, behind) }))
      | false ↦ λ kind. refl
    ] refl

-- octets with an address and a control field that spell no frame are of wrong size
wrong-size-again : (side : Side) (octets : List ℕ) (address : Address) (c : Control) → HasAddress side octets address → HasControl address octets c
    → ((f : Parts) → Spells side f octets → ⊥) → sized address c (drop (start_of c) octets) ≡ Err (WrongSize address)
wrong-size-again side octets address c there has none_spelled =
    let r : List ℕ = has.begins.0 in
    let whole : octets ≡ address_field side address ++ ((row c).field ++ r) = there.begins ∙ ap (λ l. address_field side address ++ l) has.begins.1 in
    let info : drop (start_of c) octets ≡ r = ap (λ l. drop (start_of c) l) whole ∙ info-again _ _ c r in
    let f : Parts = record { address = address; control = c; info = drop (start_of c) octets } in
    let spelled : octets ≡ spelling side f = whole ∙ ap (λ l. address_field side address ++ ((row c).field ++ l)) (sym info) in
    elim (takes (row c).info (length (drop (start_of c) octets))) as (λ b. takes (row c).info (length (drop (start_of c) octets)) ≡ b → cond b (Ok f) (Err (WrongSize address)) ≡ Err (WrongSize address)) [
      | true ↦ λ size. absurd (none_spelled f (record { is_frame = record { sapi = there.sapi; tei = there.tei; kind = has.kind; size = size }; octets_are = spelled }))
      | false ↦ λ size. refl
    ] refl

-- the first fault that holds is why nothing is read
pub fault-again : (side : Side) (octets : List ℕ) (fault : ReadFault) → AreOctets octets → IsFault side octets fault → reading side octets ≡ Err fault
unfolding reading header_of
fault-again side octets Short small h = rw h refl
fault-again side octets BadExtension small h = rw (h.0, h.1) refl
fault-again side [] (Undefined address) small h = let wrong : true ≡ false = h.0.whole in absurd (cc)
fault-again side (first ∷ []) (Undefined address) small h = let wrong : true ≡ false = h.0.whole in absurd (cc)
fault-again side (first ∷ second ∷ []) (Undefined address) small h = let wrong : true ≡ false = h.0.whole in absurd (cc)
fault-again side (first ∷ second ∷ third ∷ rest) (Undefined address) small h =
    let octets : List ℕ = first ∷ second ∷ third ∷ rest in
    let there : address_of side first second ≡ address = address-there side octets address h.0.begins in
    let found : checked address (control_of third (slice_index rest 0)) ≡ Err (Undefined address) =
    undefined-again side first second third rest address _ (octet-at (first ∷ second ∷ third ∷ rest) small 2) (octet-at (first ∷ second ∷ third ∷ rest) small 3) h.0.whole refl h.1 in
    rw (h.0.whole, h.0.extension, there, found) refl
fault-again side [] (WrongSize address) small h = let wrong : true ≡ false = h.0.whole in absurd (cc)
fault-again side (first ∷ []) (WrongSize address) small h = let wrong : true ≡ false = h.0.whole in absurd (cc)
fault-again side (first ∷ second ∷ []) (WrongSize address) small h = let wrong : true ≡ false = h.0.whole in absurd (cc)
fault-again side (first ∷ second ∷ third ∷ rest) (WrongSize address) small h =
    let octets : List ℕ = first ∷ second ∷ third ∷ rest in
    let there : address_of side first second ≡ address = address-there side octets address h.0.begins in
    let c : Control = h.1.0 in
    let has : HasControl address octets c = h.1.1 in
    let again : control_of (slice_index ((row c).field ++ has.begins.0) 0) (slice_index ((row c).field ++ has.begins.0) 1) ≡ Some c = control-again c has.begins.0 in
    let found : control_of third (slice_index rest 0) ≡ Some c = rw (← has.begins.1) at again in
    let size : sized address c (drop (start_of c) octets) ≡ Err (WrongSize address) = wrong-size-again side octets address c h.0.begins has h.2 in
    rw (h.0.whole, h.0.extension, there, found, has.kind) size

-- Where the information of octets that have a control field begins, they have not ended.
pub start-within : (octets : List ℕ) (c : Control) → AreOctets octets → is_short octets ≡ false
    → control_of (slice_index octets 2) (slice_index octets 3) ≡ Some c → start_of c ≤ length octets
start-within [] c small whole e = absurd (cc)
start-within (first ∷ []) c small whole e = absurd (cc)
start-within (first ∷ second ∷ []) c small whole e = absurd (cc)
start-within (first ∷ second ∷ third ∷ rest) c small whole e =
    let at : (i : ℕ) → slice_index (first ∷ second ∷ third ∷ rest) i < 256 = octet-at (first ∷ second ∷ third ∷ rest) small in
    let field : HasField c third (slice_index rest 0) = control-found third (slice_index rest 0) c (at 2) (at 3) e in
    let behind : third ∷ rest ≡ (row c).field ++ drop (start_of c) (first ∷ second ∷ third ∷ rest) = rest-found c first second third rest whole field in
    let count : length (third ∷ rest) ≡ length (row c).field + length (drop (start_of c) (first ∷ second ∷ third ∷ rest)) = ap length behind ∙ length-append _ _ in
    omega arith

-- What an outcome of `reading` says of the octets.

pub outcome-spelled : (side : Side) (octets : List ℕ) (r : Result Frame ReadFault) → AreOctets octets → outcome_of r ≡ reading side octets → IfOk r (λ frame. Spells side (parts_of frame) octets)
outcome-spelled side octets (Ok frame) small e = reading-found side octets (parts_of frame) small (sym e)
outcome-spelled side octets (Err fault) small e = tt

pub outcome-only : (side : Side) (octets : List ℕ) (r : Result Frame ReadFault) (frame : Parts) → outcome_of r ≡ reading side octets → Spells side frame octets
    → IsOkAnd r (λ read. parts_of read ≡ frame)
outcome-only side octets (Ok read) frame e s = let again : reading side octets ≡ Ok frame = reading-again side frame octets s in cc
outcome-only side octets (Err fault) frame e s = let again : reading side octets ≡ Ok frame = reading-again side frame octets s in absurd (cc)

outcome-stopped : (r : Result Frame ReadFault) (fault : ReadFault) → outcome_of r ≡ Err fault → r ≡ Err fault
outcome-stopped (Ok frame) fault e = absurd (cc)
outcome-stopped (Err other) fault e = let same : other ≡ fault = cc in ap (λ x. Err x) same

pub outcome-fault : (side : Side) (octets : List ℕ) (r : Result Frame ReadFault) (fault : ReadFault) → AreOctets octets → outcome_of r ≡ reading side octets
    → (r ≡ Err fault) ↔ IsFault side octets fault
outcome-fault side octets r fault small e = (
  λ stops. let k : outcome_of r ≡ Err fault = ap outcome_of stops in fault-found side octets fault small (sym e ∙ k),
  λ holds. outcome-stopped r fault (e ∙ fault-again side octets fault small holds),
)

-- Frames too long to keep

-- a frame whose information has a fixed size of at most 5 octets has at most 9 octets
fixed-length : (side : Side) (f : Parts) (octets : List ℕ) (n : ℕ) → Spells side f octets → (row f.control).info ≡ exactly n → length octets ≡ start_of f.control + n
fixed-length side f octets n s fixed =
    let size : takes (exactly n) (length f.info) ≡ true = rw fixed at s.is_frame.size in
    let count : length f.info ≡ n = eqb-true _ _ size in
    let all : length octets ≡ length (spelling side f) = ap length s.octets_are in
    let parts : length ((row f.control).field ++ f.info) ≡ length (row f.control).field + length f.info = length-append _ _ in
    omega arith

-- so none of them is too long
none-so-long : (side : Side) (f : Parts) (octets : List ℕ) (n : ℕ) → 9 ≤ length octets → Spells side f octets → (row f.control).info ≡ exactly n → start_of f.control + n < 9 → ⊥
none-so-long side f octets n long s fixed short =
    let e : length octets ≡ start_of f.control + n = fixed-length side f octets n s fixed in
    omega arith

long-spelled : (side : Side) (octets : List ℕ) (a : Address) (c : Control) (info : List ℕ) → 9 ≤ length octets
    → Spells side (record { address = a; control = c; info = info }) octets → IsLong side octets (long_kind a c)
long-spelled side octets a (Information ns nr pf) info long s = (record { address = a; control = Information ns nr pf; info = info }, s, (ns, nr, pf, refl), refl)
long-spelled side octets a (Ui pf) info long s = (record { address = a; control = Ui pf; info = info }, s, (pf, inl refl), refl)
long-spelled side octets a (Xid pf) info long s = (record { address = a; control = Xid pf; info = info }, s, (pf, inr refl), refl)
long-spelled side octets a (ReceiveReady nr pf) info long s = absurd (none-so-long side _ octets 0 long s refl (lit< tt))
long-spelled side octets a (ReceiveNotReady nr pf) info long s = absurd (none-so-long side _ octets 0 long s refl (lit< tt))
long-spelled side octets a (Reject nr pf) info long s = absurd (none-so-long side _ octets 0 long s refl (lit< tt))
long-spelled side octets a (Sabme pf) info long s = absurd (none-so-long side _ octets 0 long s refl (lit< tt))
long-spelled side octets a (Disc pf) info long s = absurd (none-so-long side _ octets 0 long s refl (lit< tt))
long-spelled side octets a (Ua pf) info long s = absurd (none-so-long side _ octets 0 long s refl (lit< tt))
long-spelled side octets a (Dm pf) info long s = absurd (none-so-long side _ octets 0 long s refl (lit< tt))
long-spelled side octets a (Frmr pf) info long s = absurd (none-so-long side _ octets 5 long s refl (lit< tt))

-- what the whole is read as tells what it is
long-found : (side : Side) (octets : List ℕ) (r : Result Parts ReadFault) → AreOctets octets → 9 ≤ length octets → reading side octets ≡ r → IsLong side octets (long_of r)
long-found side octets (Ok f) small long e = long-spelled side octets f.address f.control f.info long (reading-found side octets f small e)
long-found side octets (Err fault) small long e = fault-found side octets fault small e

pub long-is : (side : Side) (octets : List ℕ) (r : Result Long ReadFault) → AreOctets octets → 9 ≤ length octets → r ≡ long_of (reading side octets) → IsLong side octets r
long-is side octets r small long e = subst (IsLong side octets) (sym e) (long-found side octets _ small long refl)

-- The third octet of a frame tells whether it is UI.
unit-field : (first second : ℕ) (c : Control) (info : List ℕ) → is_unit (first ∷ second ∷ ((row c).field ++ info)) ≡ is_ui c
unit-field first second (Information ns nr pf) info =
    rw (ne_eqb (2 * ns.value) 0x03 (λ h. omega (arith, h)), ne_eqb (2 * ns.value) 0x13 (λ h. omega (arith, h))) refl
unit-field first second (ReceiveReady nr pf) info = refl
unit-field first second (ReceiveNotReady nr pf) info = refl
unit-field first second (Reject nr pf) info = refl
unit-field first second (Sabme true) info = refl
unit-field first second (Sabme false) info = refl
unit-field first second control info = grind arith

pub unit_told : (side : Side) (f : Parts) (head rest : List ℕ) → length head ≡ 4 → Spells side f (head ++ rest) → is_unit head ≡ is_ui f.control
unit_told side f (a ∷ b ∷ c ∷ more) rest four s =
    let same : is_unit (a ∷ b ∷ c ∷ (more ++ rest)) ≡ is_unit (spelling side f) = ap is_unit s.octets_are in
    same ∙ unit-field (4 * f.address.sapi + 2 * cr_bit side f.address.command) (2 * f.address.tei + 1) f.control f.info
unit_told side f few rest four s = absurd (grind arith)
