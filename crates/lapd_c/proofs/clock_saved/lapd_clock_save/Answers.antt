-- Hand-written answers for `lapd_clock_save`: the clock is the one that the handle holds.
use Rattle.std.proofs.Common.{◌≡◌, ◌≤◌, length, arith, ap, refl, subst, sym, ◌∙◌}
use Rattle.std.specs.Prelude.{IfSome, is_some, option_map}
use Rattle.std.proofs.lemmas.Option.{none-some}
use Rattle.lapd_clock.specs.Image.{most_octets, IsSaved}
use Rattle.lapd_clock.specs.Timers.{Timers}
use Rattle.lapd_c.specs.ClockImages.{IsSavedAs}
use Rattle.lapd_c.specs.Clocks.{clock_of}
use Rattle.lapd_c.specs.Saves.{save_status}
use Rattle.lapd_c.proofs.ClockSaving.{clock_written}
use Rattle.lapd_c.proofs.Saving.{its, told_enough}
use Rattle.lapd_c.proofs.clock_saved.lapd_clock_save.Goals as goal

pub returns : goal.returns
returns c =
    let clock = c.in-Some.value.now in
    let is = c.in-Some.ensures.clock in
    let fits : most_octets clock ≤ length c.args.image.now = omega (arith, c.image_octets.ensures, c.if-image-image_octets.false) in
    record {
      call = record {
        handle = record { said = c.requires.said ∙ ap is_some is; lines = its (λ (t : Timers). t.lines ≤ 64) (clock_of c.args.handle.now) clock is c.requires.lines };
        none = λ none. absurd (none-some clock (sym none ∙ is));
        told = subst (λ o. IfSome o (λ t. 0 ≡ save_status (length c.args.image.now) (most_octets t))) (sym is) (told_enough (length c.args.image.now) (most_octets clock) fits);
        after = sym (ap (option_map (λ t. t)) is);
      };
      unwritten = λ e. absurd (e refl);
      saved = subst (λ o. IfSome o (λ t. IsSaved t → most_octets t ≤ length c.args.image.now → IsSavedAs t c.args.image.now (c.save.new.out, c.save.result))) (sym is)
          (λ saved room. clock_written clock c.save.ensures.0 c.args.image.now c.save.new.out c.save.result saved c.save.ensures.1 room c.save.ensures.2);
    }
