-- Hand-written answers for `lapd_card_save`: the card is the one that the handle holds.
use Rattle.std.proofs.Common.{◌≡◌, ◌≤◌, length, arith, ap, refl, subst, sym, ◌∙◌}
use Rattle.std.specs.Prelude.{is_some}
use Rattle.std.proofs.lemmas.Option.{none-some}
use Rattle.lapd_card.specs.Kinds.{card_in}
use Rattle.model_image.specs.Images.{image_of}
use Rattle.model_line.specs.Most.{most_octets}
use Rattle.lapd_c.specs.Kept.{is_timed, timers_held}
use Rattle.lapd_c.specs.Saves.{HandleHolds, IsHeldAs}
use Rattle.lapd_c.proofs.Saving.{config_there, held_fits, told_enough, written}
use Rattle.lapd_c.proofs.Served.{there}
use Rattle.lapd_c.proofs.saved.lapd_card_save.Goals as goal

pub returns : goal.returns
returns c =
    let kept = c.in-Some.value.now in
    let is = c.in-Some.ensures.card in
    let timed : is_timed c.args.handle.now ≡ is_some kept.timed.timers = ap (λ held. is_some (timers_held held)) is in
    record {
      question = record {
        handle = c.requires ∙ ap is_some is;
        unchanged = sym is;
        no_card = λ none. absurd (none-some kept (sym none ∙ is));
        wrong_card = λ other. absurd other;
        unwritten = λ e. absurd (e refl);
      };
      told = λ m stands.
          let config = config_there kept m (there is m stands) in
          let same : most_octets (card_in m).config (is_timed c.args.handle.now) ≡ c.image_octets.result = (λ i. most_octets (config i) (timed i)) ∙ sym c.image_octets.ensures in
          told_enough (length c.args.image.now) (most_octets (card_in m).config (is_timed c.args.handle.now)) (omega (arith, same, c.if-image-image_octets.false));
      saved = λ s holds room.
          let held : IsHeldAs kept s = subst (λ held. HandleHolds held s) is holds in
          let may = c.save.ensures.saved s held in
          let most : most_octets s.card.config (is_timed c.args.handle.now) ≡ most_octets s.card.config (is_some kept.timed.timers) = ap (most_octets s.card.config) timed in
          let fits : length (image_of s) ≤ length c.args.image.now = omega (arith, room, most, held_fits kept s may held) in
          (may, written (image_of s) c.args.image.now c.save.new.out c.save.result (c.save.ensures.puts s held) fits);
    }
