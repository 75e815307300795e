-- Control frames that wait, in an image.
use Rattle.lapd_link_steps.proofs.Vocabulary.{◌≡◌, ℕ, ◌+◌, ◌*◌, ◌<◌, ◌≤◌, arith, refl, ap, sym, ◌∙◌, subst, Bool, true, false, List, [], ◌∷◌, length, Network, Control, Information, ControlFrame, Buffer, Entity, Terms}
use Rattle.std.proofs.Common.{◌++◌, drop, append-nil, length-append, lit<, lit≤}
use Rattle.std.specs.Prelude.{All, flat_map}
use Rattle.std.proofs.lemmas.List.Elements.{All-cons, All-head, All-nil, All-push, All-tail}
use Rattle.lapd_frame.specs.declared.controls.Control.TheVariants as control
use Rattle.lapd_frame.specs.Grammar.{Parts, Spells, cr_bit, row}
use Rattle.lapd_image.proofs.ReadLists.{IsKept, list-none, read-more}
use Rattle.lapd_image.proofs.Reading.{Reads}
use Rattle.lapd_image.specs.Numbers.{list_of}
use Rattle.lapd_image.specs.Reads.{HasNone, IsReadAs}
use Rattle.lapd_link_steps.specs.Image.{AreWaiting, MayWait}
use Rattle.model_bits.specs.Bits.{bit_value}
use Rattle.model_link.proofs.ImageRead.{frame-read}
use Rattle.model_link.specs.Image.{control_frame}
use Rattle.model_link.specs.Sound.{IsWaitingFrame}
use Rattle.lapd_frame.specs.Services.{sapi_of}
use Rattle.lapd_frame.specs.declared.services.Service.{Service}
use Rattle.lapd_frame.specs.declared.services.Service.TheVariants.{Call, Packet}

-- A whole frame of any address.
abbrev pub any_address : ControlFrame → Parts
any_address f = record { address = record { sapi = 0; command = f.command; tei = 0 }; control = f.control; info = [] }

abbrev Addressed : Bool → List ℕ → Type 0
Addressed command octets = octets ≡ 2 * bit_value command ∷ 1 ∷ drop 2 octets

first-octet : (b : Bool) → 2 * bit_value b ≡ 4 * 0 + 2 * cr_bit Network b
first-octet true = refl
first-octet false = refl

pub whole-spelled : (f : ControlFrame) (command : Bool) {octets : List ℕ} → Addressed command octets → MayWait f → f.command ≡ command → (row f.control).field ≡ drop 2 octets
    → Spells Network (any_address f) octets
whole-spelled f command {octets} addressed may bit field = record {
  is_frame = record { sapi = lit< tt; tei = lit< tt; kind = may.kind; size = may.size };
  octets_are =
      addressed
      ∙ (λ i. (ap (λ b. 2 * bit_value b) (sym bit) ∙ first-octet f.command) i ∷ 1 ∷ (sym field ∙ sym (append-nil (row f.control).field)) i);
}

-- What holds of each of a list holds of those at its front, and of its last.
pub all-front : {X : Type 0} (P : X → Type 0) (xs ys : List X) → All P (xs ++ ys) → All P xs
all-front P [] ys all = All-nil P
all-front P (x ∷ xs) ys all = All-cons P x xs (All-head P x (xs ++ ys) all) (all-front P xs ys (All-tail P x (xs ++ ys) all))

pub all-last : {X : Type 0} (P : X → Type 0) (xs : List X) (x : X) → All P (xs ++ x ∷ []) → P x
all-last P [] x all = All-head P x [] all
all-last P (y ∷ ys) x all = all-last P ys x (All-tail P y (ys ++ x ∷ []) all)

-- A list of frames, as far as it is read.
each-read : Reads MayWait (λ (f g : ControlFrame). f ≡ g) control_frame
each-read f g r s may also e = frame-read f g r s tt tt e

room-before : (capacity : ℕ) → IsKept MayWait (AreWaiting capacity)
room-before capacity = record {
  each = λ all good. good.each;
  front = λ xs ys good. record { room = omega (arith, length-append xs ys, good.room); each = all-front MayWait xs ys good.each };
}

pub frames-none : {front old now : List ℕ} {count capacity : ℕ} (done : List ControlFrame) → front ≡ count ∷ old → length done < count
    → IsReadAs (flat_map control_frame) (AreWaiting capacity) done old now → HasNone control_frame MayWait now → HasNone (list_of control_frame) (AreWaiting capacity) front
frames-none {capacity = capacity} done counted fewer before none =
    list-none control_frame MayWait each-read (AreWaiting capacity) (room-before capacity) done counted fewer before
    (λ x rest good e. none x rest (all-last MayWait done x good.each) e)

pub frames-more : {old now new : List ℕ} {f : ControlFrame} {frames : List ControlFrame} {capacity : ℕ} (done : List ControlFrame) → length done < capacity → frames ≡ done ++ f ∷ []
    → IsReadAs (flat_map control_frame) (AreWaiting capacity) done old now → IsReadAs control_frame MayWait f now new → IsReadAs (flat_map control_frame) (AreWaiting capacity) frames old new
frames-more {old} {now} {new} {f} {frames} {capacity} done fewer is before last =
    let good : AreWaiting capacity (done ++ f ∷ []) = record { room = omega (arith, length-append done (f ∷ []), fewer); each = All-push MayWait done f before.saved.each last.saved } in
    subst (λ fs. IsReadAs (flat_map control_frame) (AreWaiting capacity) fs old new) (sym is)
    (read-more control_frame MayWait each-read (AreWaiting capacity) (room-before capacity) done before (record { saved = good; octets = last.octets }))

-- Only what waits has changed, and changes.
pub kept-through : (e : Entity) {e' e'' : Entity} (w : Buffer ControlFrame) → e' ≡ record e { waiting = e'.waiting } → e'' ≡ record e' { waiting = w } → e'' ≡ record e { waiting = e''.waiting }
kept-through e w before now =
    now ∙ ap (λ (x : Entity). record x { waiting = w }) before ∙ ap (λ (v : Buffer ControlFrame). record e { waiting = v }) (sym (ap (λ (x : Entity). x.waiting) now))

-- Frames that wait may wait, and those that may are, of a TEI.
pub may_wait : {t : Terms} {f : ControlFrame} → IsWaitingFrame t f → MayWait f
may_wait waits = record { kind = waits.is_frame.kind; size = waits.is_frame.size; without_contents = waits.without_contents }

sapi-low : (service : Service) → sapi_of service < 64
sapi-low Call = lit< tt
sapi-low Packet = lit< tt

field-short : (c : Control) → length (row c).field ≤ 2
field-short (control.Information ns nr pf) = lit≤ tt
field-short (control.ReceiveReady nr pf) = lit≤ tt
field-short (control.ReceiveNotReady nr pf) = lit≤ tt
field-short (control.Reject nr pf) = lit≤ tt
field-short (control.Sabme pf) = lit≤ tt
field-short (control.Disc pf) = lit≤ tt
field-short (control.Ui pf) = lit≤ tt
field-short (control.Ua pf) = lit≤ tt
field-short (control.Dm pf) = lit≤ tt
field-short (control.Frmr pf) = lit≤ tt
field-short (control.Xid pf) = lit≤ tt

pub is_waiting : {t : Terms} {f : ControlFrame} → t.tei ≤ 126 → MayWait f → IsWaitingFrame t f
is_waiting {t} {f} low may = record {
  is_frame = record { sapi = sapi-low t.service; tei = omega (arith, low); kind = may.kind; size = may.size };
  octets = omega (arith, field-short f.control, length-append (row f.control).field []);
  without_contents = may.without_contents;
}
