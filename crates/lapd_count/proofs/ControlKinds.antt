-- The kinds are those of the grammar.
use Rattle.lapd_count.proofs.Vocabulary.{◌≡◌, ℕ, ◌*◌, ◌%◌, ◌==◌, true, refl, arith, eq-eqb, kind_of, Information, ControlsHaveKinds}
use Rattle.lapd_frame.specs.Reading.{control_of, supervisory_of, unnumbered_of}
use Rattle.lapd_frame.specs.declared.controls.Control.TheVariants as control

numbered : (n : ℕ) → kind_of (2 * n) ≡ Information
unfolding control_of
numbered n = let even : ((2 * n) % 2 == 0) ≡ true = eq-eqb _ _ (omega arith) in rw even refl

pub controls_have_kinds : ControlsHaveKinds
unfolding control_of supervisory_of unnumbered_of
controls_have_kinds (control.Information ns nr pf) = numbered ns.value
controls_have_kinds (control.ReceiveReady nr pf) = refl
controls_have_kinds (control.ReceiveNotReady nr pf) = refl
controls_have_kinds (control.Reject nr pf) = refl
controls_have_kinds (control.Sabme p) = grind arith
controls_have_kinds (control.Disc p) = grind arith
controls_have_kinds (control.Ui p) = grind arith
controls_have_kinds (control.Ua p) = grind arith
controls_have_kinds (control.Dm p) = grind arith
controls_have_kinds (control.Frmr p) = grind arith
controls_have_kinds (control.Xid p) = grind arith
