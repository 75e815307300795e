-- Hand-written answers for `lapd_card_restore`.
use Rattle.std.proofs.Common.{◌≡◌, arith, inl, refl, subst, sym, ◌∙◌}
use Rattle.lapd_c.specs.Cards.{card_of}
use Rattle.lapd_c.specs.Saves.{HandleReads}
use Rattle.lapd_c.proofs.Calling.{none_there}
use Rattle.lapd_c.proofs.Starting.{holds-none}
use Rattle.lapd_c.proofs.saved.lapd_card_restore.Goals as goal

pub put-requires : goal.put-requires
put-requires c = none_there (card_of c.args.handle.now) (sym c.requires ∙ sym c.is_started.ensures ∙ c.if-is_started.false)

pub returns : goal.returns
returns c = record {
  handle = c.put.ensures.handle;
  second = holds-none (λ _. 0 ≡ 13) (card_of c.args.handle.now) (sym c.requires ∙ sym c.is_started.ensures ∙ c.if-is_started.false);
  otherwise = λ _. inl refl;
  fault = λ e. absurd (e refl);
  restored = λ _. subst (HandleReads c.args.image.now) (sym c.put.ensures.card) c.in-Ok.ensures.read;
  bad_image = λ e. absurd (omega (arith, e));
}
