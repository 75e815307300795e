-- Hand-written answers for `lapd_fall_due`: the time passes, and nothing is due.
use Rattle.lapd_c.proofs.Vocabulary.{◌∙◌, Some, false≢true, none-some, option_map, sym, ap, refl, inl, inr, arith, card_in}
use Rattle.std.specs.Prelude.{is_some}
use Rattle.lapd_timed.proofs.MarkedSteps.{noted-again}
use Rattle.lapd_c.specs.Cards.{marks_held, without_marks}
use Rattle.lapd_c.specs.Counted.{counters_held}
use Rattle.lapd_c.proofs.Reopening.{still_stands}
use Rattle.lapd_c.proofs.Served.{marks_there, there, timers_there}
use Rattle.lapd_c.proofs.Timing.{due-later, went}
use Rattle.lapd_c.proofs.WholeFrames.{none_said}
use Rattle.lapd_card.specs.Kinds.{counters_of, kind_of}
use Rattle.lapd_c.specs.Kept.{timers_held}
use Rattle.lapd_c.proofs.timed.lapd_fall_due.Goals as goal

pub returns-then-pass-clause-call : goal.returns-then-pass-clause-call
returns-then-pass-clause-call c =
    let passed = c.pass.ensures.passed c.if-pass.true in
    let is = c.in-Some.ensures.card in
    let timed = ap (λ held. is_some (timers_held held)) is in
    record {
      handle = c.requires ∙ ap is_some is;
      kind = ap (λ card. Some (kind_of card)) passed.went.card ∙ sym (ap (λ held. option_map kind_of (option_map without_marks held)) is);
      timed = passed.went.timed ∙ sym timed;
      no_card = λ none. absurd (none-some c.in-Some.value.now (sym none ∙ is));
      wrong_card = λ none. absurd (false≢true (sym none ∙ timed ∙ passed.timed));
      unwritten = λ _. refl;
    }

pub returns-then-pass-clause-wrong_time : goal.returns-then-pass-clause-wrong_time
returns-then-pass-clause-wrong_time c = λ m clock s stood wrong.
    let none = (c.pass.ensures.passed c.if-pass.true).none (card_in m) clock (timers_there c.in-Some.ensures.card (card_in m) clock stood) in
    elim wrong [
      | inl early ↦ absurd (omega (arith, early, none.0))
      | inr late ↦ absurd (omega (arith, late, none.1))
    ]

pub returns-then-pass-clause-none : goal.returns-then-pass-clause-none
returns-then-pass-clause-none c = λ m clock s stood later before none.
    let w = (c.pass.ensures.passed c.if-pass.true).went in
    let on = there c.in-Some.ensures.card m s in
    let gone = went c.args.now _ c.pass.new.self w m clock on (timers_there c.in-Some.ensures.card (card_in m) clock stood) in record {
      none = refl;
      stands = still_stands m w.card on;
      timers = gone.0;
      noted = λ marks stood_marks. noted-again _ (card_in m) c.args.now _ (gone.1 marks (marks_there c.in-Some.ensures.card (card_in m) marks stood_marks));
      later = due-later clock.running c.args.now none;
      marks = sym (ap marks_held c.in-Some.ensures.card);
      counters = ap counters_of w.card ∙ sym (ap counters_held c.in-Some.ensures.card);
    }

pub returns-then-pass-clause-due : goal.returns-then-pass-clause-due
returns-then-pass-clause-due c = λ m clock s stood later before.
    none_said _ _ ((c.pass.ensures.passed c.if-pass.true).none (card_in m) clock (timers_there c.in-Some.ensures.card (card_in m) clock stood)).2
