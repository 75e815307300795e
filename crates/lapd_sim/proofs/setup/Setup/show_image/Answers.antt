-- Hand-written answers for `Setup::show_image`.
use Rattle.lapd_sim.proofs.Vocabulary.{◌≡◌, ◌∙◌, ℕ, List, length, refl, ap, arith, length-take, scene, SetupStands}
use Rattle.std.specs.Prelude.{take}
use Rattle.lapd_sim.proofs.Restoring.Setups.{image-shown, sum-value}
use Rattle.lapd_sim.proofs.Scenes.{obeyed, on_ok, tells}
use Rattle.lapd_sim.specs.machine.Images.{image, sum_of}
use Rattle.lapd_sim.specs.machine.Steps.{after_save}
use Rattle.lapd_sim.proofs.setup.Setup.show_image.Goals as goal

pub returns : goal.returns
returns g c = λ m h.
    let is = c.save-length.ensures.image m h in
    let octets : take c.save-length.result c.as_slice.result.now ≡ image m = ap (λ items. take c.save-length.result items) c.as_slice.ensures.value ∙ is.octets_are in
    let long : c.save-length.result ≡ length (image m) =
    omega (arith, length-take c.save-length.result c.as_slice.result.now, ap (λ (os : List ℕ). length os) octets, c.save-length.ensures.within, c.as_slice.ensures.len) in
    let sum : c.fcs-sum.result ≡ sum_of (image m) = sum-value c.fcs-sum.result _ c.fcs-sum.type_inv c.fcs-sum.ensures.is_check ∙ ap sum_of octets in
    obeyed c.put_image.result _ c.written.ensures _ _ (SetupStands c.save-length.new.self) _ (after_save (scene m)) refl
    (tells c.put_image.result _ _ (SetupStands c.save-length.new.self) (after_save (scene m)) _
    (image-shown m c.save-length.result c.fcs-sum.result long sum)
    c.put_image.ensures (on_ok c.put_image.result (c.save-length.ensures.after m h)))
