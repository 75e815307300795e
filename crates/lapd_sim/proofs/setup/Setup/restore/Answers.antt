-- Hand-written answers for `Setup::restore`.
use Rattle.lapd_sim.proofs.Vocabulary.{◌∙◌, Ok, refl, sym, ap, subst, config_of, kind_of, scene, puts_nothing, SetupStands}
use Rattle.lapd_sim.proofs.Restoring.Setups.{frames-fine, not-refused, same-config, stands-anew}
use Rattle.lapd_sim.proofs.Scenes.{obeyed}
use Rattle.lapd_sim.specs.Obeyed.{IsImageOf}
use Rattle.lapd_timed.specs.declared.timed_card.TimedCard.{TimedCard}
use Rattle.std.specs.Prelude.{take}
use Rattle.lapd_sim.proofs.setup.Setup.restore.Goals as goal

pub invariant_of-self-clause-same_config : goal.invariant_of-self-clause-same_config
invariant_of-self-clause-same_config c =
    let m = c.requires.stands in
    ap (λ k. config_of k) c.of.ensures.card
    ∙ same-config c.save-length.new.self _ _ _ _ m.0 (c.save-length.ensures.after m.0 m.1)
    (ap (λ (t : TimedCard). kind_of t.card) c.save-length.ensures.timed ∙ c.in_ok-for_frames.ensures)
    (subst (λ items. IsImageOf m.0 (take c.save-length.result items)) (sym c.as_slice.ensures.value) (c.save-length.ensures.image m.0 m.1)) c.in-Ok.ensures.read

pub unreachable-requires : goal.unreachable-requires
unreachable-requires c =
    let m = c.requires.stands in
    not-refused m.0 _ (subst (λ items. IsImageOf m.0 (take c.save-length.result items)) (sym c.as_slice.ensures.value) (c.save-length.ensures.image m.0 m.1))
    (c.in-Err-BadImage.ensures.none c.in-Err-BadImage.field-0-is)

pub returns-in-Ok : goal.returns-in-Ok
returns-in-Ok c = λ before m h.
    obeyed (Ok tt) (Ok tt) refl before before (SetupStands _) _ (scene m)
    (frames-fine m.board.kind (scene m) (h.board.kind ∙ c.in_ok-for_frames.ensures)) (
      puts_nothing before,
      stands-anew c.save-length.new.self _ _ _ _ m (c.save-length.ensures.after m h)
          (ap (λ (t : TimedCard). kind_of t.card) c.save-length.ensures.timed ∙ c.in_ok-for_frames.ensures)
          (subst (λ items. IsImageOf m (take c.save-length.result items)) (sym c.as_slice.ensures.value) (c.save-length.ensures.image m h)) c.in-Ok.ensures.read
          _ refl c.of.ensures.card c.of.ensures.timers refl refl refl,
    )
