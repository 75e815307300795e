-- The octets of control frames.
use Rattle.lapd_link_steps.proofs.Vocabulary.{◌≡◌, ℕ, ◌+◌, ◌<◌, Bool, true, List, [], ◌∷◌, length, take, get_or, Some, refl, sym, ap, ◌∙◌, sum_by, slice_get, sum_by-cons, sum_by_more, slice_get-get_or, take-length, Network, Control, spelling, start_of, ControlFrame, Terms, frame_of}
use Rattle.lapd_frame.specs.declared.controls.Control.TheVariants as control

-- a control frame has no information
octets-of : (t : Terms) (command : Bool) (x : Control) → start_of x ≡ length (spelling Network (frame_of t (record { command = command; control = x })))
octets-of t command (control.Information ns nr p) = refl
octets-of t command (control.ReceiveReady nr pf) = refl
octets-of t command (control.ReceiveNotReady nr pf) = refl
octets-of t command (control.Reject nr pf) = refl
octets-of t command (control.Sabme p) = refl
octets-of t command (control.Disc p) = refl
octets-of t command (control.Ui p) = refl
octets-of t command (control.Ua f) = refl
octets-of t command (control.Dm f) = refl
octets-of t command (control.Frmr f) = refl
octets-of t command (control.Xid pf) = refl

pub octets-of_all : (t : Terms) (fs : List ControlFrame) → sum_by (λ f. start_of f.control) fs ≡ sum_by (λ f. length (spelling Network (frame_of t f))) fs
octets-of_all t [] = refl
octets-of_all t (f ∷ fs) =
    sum_by-cons (λ (x : ControlFrame). start_of x.control) f fs
    ∙ ap (λ (n : ℕ). n + sum_by (λ (x : ControlFrame). start_of x.control) fs) (octets-of t f.command f.control)
    ∙ ap (λ (n : ℕ). length (spelling Network (frame_of t f)) + n) (octets-of_all t fs)
    ∙ sym (sum_by-cons (λ (x : ControlFrame). length (spelling Network (frame_of t x))) f fs)

-- the octets of one frame more, and of all
pub octets-of_next : (fs : List ControlFrame) (i n : ℕ) → i < length fs → ((f : ControlFrame) → slice_get fs i ≡ Some f → n ≡ start_of f.control) → sum_by (λ f. start_of f.control) (take i fs) + n ≡ sum_by (λ f. start_of f.control) (take (i + 1) fs)
octets-of_next fs i n within is =
    let other : ControlFrame = record { command = true; control = control.Sabme true } in
    ap (λ (k : ℕ). sum_by (λ (f : ControlFrame). start_of f.control) (take i fs) + k) (is (get_or fs i other) (slice_get-get_or fs i other within))
    ∙ sym (sum_by_more (λ (f : ControlFrame). start_of f.control) fs i other within)

pub octets-of_whole : (t : Terms) (fs : List ControlFrame) (i n : ℕ) → i ≡ length fs → n ≡ sum_by (λ f. start_of f.control) (take i fs) → n ≡ sum_by (λ f. length (spelling Network (frame_of t f))) fs
octets-of_whole t fs i n all is =
    is
    ∙ ap (λ (k : ℕ). sum_by (λ (f : ControlFrame). start_of f.control) (take k fs)) all
    ∙ ap (sum_by (λ (f : ControlFrame). start_of f.control)) (take-length fs)
    ∙ octets-of_all t fs
