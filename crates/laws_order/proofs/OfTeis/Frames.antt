-- What the terminal reads of a frame that the network's line sends.
use Rattle.std.specs.Prelude.{◌≡◌, ℕ, ◌+◌, ◌*◌, ◌/◌, ◌%◌, ◌==◌, ◌&&◌, Bool, true, false, cond, List, [], ◌∷◌, filter, Option, Some, None, Result, Ok, Err, ◌≤◌, nat_le, nat_lt, length, take, ⊤, refl}
use Rattle.std.specs.Option.{option_map_or}
use Rattle.std.specs.Result.{result_ok}
use Rattle.std.proofs.Common.{subst, sym, ap, ◌∙◌, arith, true≢false, eq-eqb, eqb-true}
use Rattle.std.proofs.lemmas.Bool.{ne_eqb, and_parts, le-leb}
use Rattle.lapd_frame.specs.Faults.{is_short}
use Rattle.model_bits.specs.declared.heard.Cause.TheVariants.{Short}
use Rattle.model_bits.specs.Stream.{frame, overlong, dropped}
use Rattle.lapd_frame.specs.Grammar.{Parts, other_side, spelling as side_spelling}
unfoldable use Rattle.lapd_frame.specs.Reading.{reading as side_reading}
use Rattle.lapd_frame.specs.Readings.{by_reading}
use Rattle.lapd_frame.specs.declared.readings.Reading.{Reading}
use Rattle.lapd_frame.specs.declared.readings.Reading.TheVariants.{Profile, AnnexB}
use Rattle.lapd_frame.specs.Senders.{spelling, named}
unfoldable use Rattle.lapd_frame.specs.Senders.{exchanged, reading}
use Rattle.lapd_frame.specs.declared.addresses.Side.{Side}
use Rattle.lapd_frame.specs.declared.addresses.Side.TheVariants.{Network, User}
use Rattle.lapd_frame.specs.declared.controls.Control.TheVariants.{Ui}
use Rattle.lapd_frame.specs.declared.faults.ReadFault.{ReadFault}
use Rattle.lapd_frame.proofs.Naming.{exchanged-back, management-stays, management-spelled}
use Rattle.model_teis.specs.declared.network.messages.Message.{Message}
use Rattle.model_teis.specs.declared.network.messages.Message.TheVariants.{IdentityAssigned, IdentityDenied, IdentityCheckRequest, IdentityRemove}
use Rattle.model_teis.specs.declared.network.remembered.Remembered.{Remembered}
use Rattle.model_line.specs.Event.{Answer, gave, told, refused}
use Rattle.model_line.specs.Heard.{heard_side}
use Rattle.model_line.specs.Line.{is_at}
use Rattle.model_line.specs.Taken.{own_side}
use Rattle.model_line.proofs.Ranges.{ranges_of}
use Rattle.laws_trace.specs.LinkFrames.{reads, frame_of}
use Rattle.laws_trace.specs.Managing.{octets_of}
use Rattle.laws_trace.specs.ManagingTerminal.{is_message}
use Rattle.laws_trace.specs.TeisAreManaged.{message_text}
use Rattle.laws_trace.specs.Trace.{frame_in}
use Rattle.laws_wire.proofs.Spelled.{carries}
use Rattle.laws_order.specs.teis.Bus.{Bus, message_in, is_removal, removes}
use Rattle.laws_order.specs.teis.Assignments.{CanMeet}

-- A message in which the assignment is made, whatever follows its five octets.
abbrev pub is_assigned : Remembered → List ℕ → Bool
is_assigned r (entity ∷ high ∷ low ∷ type ∷ last ∷ more) = (entity == 0x0F && last % 2 == 1) && (type == 2 && (256 * high + low == r.ri && (last / 2 == r.tei && nat_le r.tei 126)))
is_assigned r other = false

-- Frames that are no messages to the terminal.
abbrev pub AreNone : Bus → List (List ℕ) → Type 0
AreNone b [] = ⊤
AreNone b (x ∷ xs) = (message_in b.terminal x ≡ []) × AreNone b xs

terminal-side : (s : Side) (o : Option ℕ) → is_at s o ≡ true → s ≡ User
terminal-side Network o e = absurd (true≢false (sym e))
terminal-side User o e = refl

-- 63 stands for itself, whatever SAPI the second service has.
stays-other : (own sapi : ℕ) → (exchanged own sapi == 63) ≡ true → sapi ≡ 63
stays-other own sapi is = sym (exchanged-back own sapi) ∙ ap (exchanged own) (eqb-true (exchanged own sapi) 63 is) ∙ management-stays own

both-other : (a b sapi : ℕ) → (exchanged a sapi == 63) ≡ false → (exchanged b sapi == 63) ≡ false
both-other a b sapi off = go (exchanged b sapi == 63) refl
  where
    go : (x : Bool) → (exchanged b sapi == 63) ≡ x → x ≡ false
    go true is = absurd (true≢false (sym (ap (λ s. s == 63) (ap (exchanged a) (stays-other b sapi is) ∙ management-stays a)) ∙ off))
    go false is = refl

module _ (b : Bus) (can : CanMeet b) where
  -- Both read with the same grammar.
  same-side : other_side b.terminal.side ≡ b.network.side
  same-side = ap other_side (terminal-side b.terminal.side b.terminal.seed can.own) ∙ sym can.side

  -- A frame that begins is one of management, or is read as none.
  none-of : (r : Result Parts ReadFault) → option_map_or (λ (f : Parts). f.address.sapi == 63) (result_ok (named b.network.sapi r)) false ≡ false
      → option_map_or (λ (f : Parts). cond (is_message b.terminal f && f.address.command) f.info []) (result_ok (named b.terminal.sapi r)) [] ≡ []
  none-of (Err fault) off = refl
  none-of (Ok f) off = grind (arith, (both-other b.network.sapi b.terminal.sapi f.address.sapi off))

  abbrev its-reading : List ℕ → Result Parts ReadFault
  its-reading octets = side_reading b.network.side octets

  read-off : (octets : List ℕ) → reads (own_side b.network) (λ (f : Parts). f.address.sapi == 63) octets ≡ false
      → option_map_or (λ (f : Parts). cond (is_message b.terminal f && f.address.command) f.info []) (result_ok (reading (heard_side b.terminal) octets)) [] ≡ []
  unfolding reading
  read-off octets off =
      subst (λ side. option_map_or (λ (f : Parts). cond (is_message b.terminal f && f.address.command) f.info []) (result_ok (named b.terminal.sapi (side_reading side octets))) [] ≡ [])
      (sym same-side) (none-of (side_reading b.network.side octets) off)

  pub no-message : (octets : List ℕ) → reads (own_side b.network) (λ (f : Parts). f.address.sapi == 63) octets ≡ false → message_in b.terminal octets ≡ []
  no-message octets off = go (is_short octets) (nat_lt (b.terminal.n201 + 4) (length octets))
    where
      go : (s l : Bool)
          → option_map_or (λ (f : Parts). cond (is_message b.terminal f && f.address.command) f.info []) (frame_of b.terminal (cond s (dropped Short) (cond l (overlong (take 4 octets)) (frame octets)))) [] ≡ []
      go true l = refl
      go false true = refl
      go false false = read-off octets off

  -- A message is read as it is.
  abbrev pub text_of : Message → List ℕ
  text_of m = message_text b.network (octets_of m)

  abbrev parts : List ℕ → Parts
  parts octets = record { address = record { sapi = 63; command = true; tei = 127 }; control = Ui false; info = octets }

  text-is : (octets : List ℕ) → message_text b.network octets ≡ spelling (heard_side b.terminal) (parts octets)
  text-is octets =
      sym (management-spelled (own_side b.network) true 127 (Ui false) octets)
      ∙ ap (λ side. side_spelling side (parts octets)) (sym same-side)
      ∙ management-spelled (heard_side b.terminal) true 127 (Ui false) octets

  five : (octets : List ℕ) → length octets ≡ 5 → message_in b.terminal (message_text b.network octets) ≡ octets
  five octets size =
      let long = (ranges_of b.terminal can.terminal).n201 in
      let fits : length octets ≤ b.terminal.n201 = omega (arith, long, size) in
      let carried = carries (heard_side b.terminal) b.terminal.n201 (parts octets) (record { sapi = omega arith; tei = omega arith; kind = refl; size = refl }) (omega (arith, long, size)) in
      ap (message_in b.terminal) (text-is octets)
      ∙ ap (λ e. option_map_or (λ (f : Parts). cond (is_message b.terminal f && f.address.command) f.info []) (frame_of b.terminal e) []) carried.whole
      ∙ ap (λ r. option_map_or (λ (f : Parts). cond (is_message b.terminal f && f.address.command) f.info []) (result_ok r) []) carried.read
      ∙ ap (λ x. cond (x && true) octets []) (le-leb (length octets) b.terminal.n201 fits)

  pub message-read : (m : Message) → message_in b.terminal (text_of m) ≡ octets_of m
  message-read (IdentityAssigned ri tei) = five _ refl
  message-read (IdentityDenied ri tei) = five _ refl
  message-read (IdentityCheckRequest tei) = five _ refl
  message-read (IdentityRemove tei) = five _ refl

  -- What begins is a message, or none.
  pub begins-one : (a : Answer) (m : Message) → filter (reads (own_side b.network) (λ (f : Parts). f.address.sapi == 63)) (frame_in a) ≡ text_of m ∷ [] → frame_in a ≡ text_of m ∷ []
  begins-one (told t) m is = is
  begins-one (refused why) m is = is
  begins-one (gave None) m is = is
  begins-one (gave (Some f)) m is = go (reads (own_side b.network) (λ (f : Parts). f.address.sapi == 63) f.octets) is
    where
      go : (x : Bool) → cond x (f.octets ∷ []) [] ≡ text_of m ∷ [] → f.octets ∷ [] ≡ text_of m ∷ []
      go true is = is
      go false is = absurd (cc is)

  pub begins-none : (a : Answer) → filter (reads (own_side b.network) (λ (f : Parts). f.address.sapi == 63)) (frame_in a) ≡ [] → AreNone b (frame_in a)
  begins-none (told t) is = tt
  begins-none (refused why) is = tt
  begins-none (gave None) is = tt
  begins-none (gave (Some f)) is = go (reads (own_side b.network) (λ (f : Parts). f.address.sapi == 63) f.octets) refl is
    where
      go : (x : Bool) → reads (own_side b.network) (λ (f : Parts). f.address.sapi == 63) f.octets ≡ x → cond x (f.octets ∷ []) [] ≡ [] → AreNone b (f.octets ∷ [])
      go true so is = absurd (cc is)
      go false so is = (no-message f.octets so, tt)

even-odd : (a d : ℕ) → (2 * a + 1 == 2 * d + 1) ≡ (a == d)
even-odd a d = go (a == d) refl
  where
    go : (x : Bool) → (a == d) ≡ x → (2 * a + 1 == 2 * d + 1) ≡ x
    go true is = eq-eqb (2 * a + 1) (2 * d + 1) (ap (λ n. 2 * n + 1) (eqb-true a d is))
    go false is = ne_eqb (2 * a + 1) (2 * d + 1) (λ same. true≢false (sym (eq-eqb a d (omega (arith, same))) ∙ is))

pub removes-so : (tei : ℕ) (m : Message) → is_removal tei (octets_of m) ≡ removes tei m
removes-so tei (IdentityAssigned ri of) = refl
removes-so tei (IdentityDenied ri of) = refl
removes-so tei (IdentityCheckRequest of) = refl
removes-so tei (IdentityRemove of) = even-odd of tei

all-so : (a b d e f : Bool) → (a && (b && (d && (e && f)))) ≡ true → (b ≡ true) × ((d ≡ true) × (e ≡ true))
all-so a b d e f is = let h = and_parts a _ is in let j = and_parts b _ h.1 in let k = and_parts d _ j.1 in (j.0, (k.0, (and_parts e f k.1).0))

off-so : (a : Bool) → (a && false) ≡ true → ⊥
off-so true is = true≢false (sym is)
off-so false is = true≢false (sym is)

pub assigned-so : (r : Remembered) (m : Message) → is_assigned r (octets_of m) ≡ true → m ≡ IdentityAssigned r.ri r.tei
assigned-so r (IdentityAssigned ri tei) is =
    let h = all-so (15 == 15 && (2 * tei + 1) % 2 == 1) (2 == 2) (256 * (ri / 256) + ri % 256 == r.ri) ((2 * tei + 1) / 2 == r.tei) (nat_le r.tei 126) is in
    let ri_eq : 256 * (ri / 256) + ri % 256 ≡ r.ri = eqb-true (256 * (ri / 256) + ri % 256) r.ri h.1.0 in
    let tei_eq : (2 * tei + 1) / 2 ≡ r.tei = eqb-true ((2 * tei + 1) / 2) r.tei h.1.1 in
    let ri_is : ri ≡ r.ri = omega (arith, ri_eq) in
    let tei_is : tei ≡ r.tei = omega (arith, tei_eq) in
    ap (λ n. IdentityAssigned n tei) ri_is ∙ ap (λ n. IdentityAssigned r.ri n) tei_is
assigned-so r (IdentityDenied ri tei) is = absurd (off-so (15 == 15 && (2 * tei + 1) % 2 == 1) is)
assigned-so r (IdentityCheckRequest tei) is = absurd (off-so (15 == 15 && (2 * tei + 1) % 2 == 1) is)
assigned-so r (IdentityRemove tei) is = absurd (off-so (15 == 15 && (2 * tei + 1) % 2 == 1) is)

pub assigned-few : (r : Remembered) (info : List ℕ) → is_assigned r info ≡ true → nat_le r.tei 126 ≡ true
assigned-few r (entity ∷ high ∷ low ∷ type ∷ last ∷ more) is =
    let h = and_parts (entity == 0x0F && last % 2 == 1) (type == 2 && (256 * high + low == r.ri && (last / 2 == r.tei && nat_le r.tei 126))) is in
    let j = and_parts (type == 2) (256 * high + low == r.ri && (last / 2 == r.tei && nat_le r.tei 126)) h.1 in
    let k = and_parts (256 * high + low == r.ri) (last / 2 == r.tei && nat_le r.tei 126) j.1 in
    (and_parts (last / 2 == r.tei) (nat_le r.tei 126) k.1).1
assigned-few r [] is = absurd (true≢false (sym is))
assigned-few r (a ∷ []) is = absurd (true≢false (sym is))
assigned-few r (a ∷ b ∷ []) is = absurd (true≢false (sym is))
assigned-few r (a ∷ b ∷ d ∷ []) is = absurd (true≢false (sym is))
assigned-few r (a ∷ b ∷ d ∷ e ∷ []) is = absurd (true≢false (sym is))

-- What is looked at of it makes no other.
pub looked-assigned : (q : Reading) (r : Remembered) (info : List ℕ) → is_assigned r (by_reading q info (take 5 info)) ≡ true → is_assigned r info ≡ true
looked-assigned Profile r info is = is
looked-assigned AnnexB r [] is = is
looked-assigned AnnexB r (a ∷ []) is = is
looked-assigned AnnexB r (a ∷ b ∷ []) is = is
looked-assigned AnnexB r (a ∷ b ∷ d ∷ []) is = is
looked-assigned AnnexB r (a ∷ b ∷ d ∷ e ∷ []) is = is
looked-assigned AnnexB r (a ∷ b ∷ d ∷ e ∷ f ∷ more) is = is
