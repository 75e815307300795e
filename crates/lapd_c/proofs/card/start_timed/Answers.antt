-- Hand-written answers for `start_timed`: the configuration and the lengths are those that the caller gave.
use Rattle.lapd_c.proofs.Vocabulary.{◌≡◌, Some, inl, inr, refl, sym, subst, ap, arith, ◌∙◌, Config, card_in}
use Rattle.lapd_clock.specs.Given.{lengths_of}
use Rattle.model_timed.specs.Changes.{unmarked}
use Rattle.model_timed.specs.Clock.{stopped}
use Rattle.lapd_c.specs.Calls.{Begins, fresh, HasBegun}
use Rattle.lapd_c.specs.Config.{config_fault, config_in}
use Rattle.lapd_c.specs.Kept.{ChangesStandIn, timers_held, TimersStandIn}
use Rattle.lapd_c.specs.Timers.{lengths_fault, lengths_in}
use Rattle.lapd_c.proofs.Starting.{read-is, read-meets, timed-late, timed-starts}
use Rattle.lapd_c.proofs.card.start_timed.Goals as goal

pub returns-in-Err-read : goal.returns-in-Err-read
returns-in-Err-read c = timed-late c.args.kind c.args.config.now c.args.lengths.now c.args.handle.now c.in-Err-read.wrong c.read.result c.in-Ok.value c.read-2.result
    c.requires (sym c.requires ∙ c.if-handle.false) c.read.ensures.fault c.in-Ok.is c.in-Err-read.ensures.wrong c.read-2.ensures.fault c.in-Err-read.is (λ none. c.in-Err-read.ensures.read none)

pub returns-in-None : goal.returns-in-None
returns-in-None c = timed-starts c.args.kind c.args.config.now c.args.lengths.now c.args.handle.now c.args.handle.now 22 c.read.result c.in-Ok.value c.read-2.result c.in-Ok-read.value
    c.requires (sym c.requires ∙ c.if-handle.false) c.read.ensures.fault c.in-Ok.is c.read-2.ensures.fault c.in-Ok-read.is (inr (refl, refl))
    (λ e. absurd (omega (arith, e))) (λ e. absurd (omega (arith, e))) (λ e. absurd (omega (arith, e)))

pub returns-in-None-started : goal.returns-in-None-started
returns-in-None-started c = timed-starts c.args.kind c.args.config.now c.args.lengths.now c.args.handle.now c.args.handle.now 22 c.read.result c.in-Ok.value c.read-2.result c.in-Ok-read.value
    c.requires (sym c.requires ∙ c.if-handle.false) c.read.ensures.fault c.in-Ok.is c.read-2.ensures.fault c.in-Ok-read.is (inr (refl, refl))
    (λ e. absurd (omega (arith, e))) (λ e. absurd (omega (arith, e))) (λ e. absurd (omega (arith, e)))

pub returns : goal.returns
returns c = timed-starts c.args.kind c.args.config.now c.args.lengths.now c.args.handle.now c.put.new.self 0 c.read.result c.in-Ok.value c.read-2.result c.in-Ok-read.value
    c.put.ensures.handle (sym c.requires ∙ c.if-handle.false) c.read.ensures.fault c.in-Ok.is c.read-2.ensures.fault c.in-Ok-read.is (inl refl)
    (λ _. subst (HasBegun (fresh c.args.kind (config_in c.args.config.now))) (sym c.put.ensures.card)
    (subst (λ config. Begins (fresh c.args.kind config) c.in-Some-started.value.value)
    (read-is (config_fault c.args.config.now) c.read.result (config_in c.args.config.now) c.in-Ok.value c.read.ensures.fault c.read.ensures.config c.in-Ok.is)
    c.in-Some-started.ensures.begins))
    (λ _. subst (λ timers. TimersStandIn timers (card_in (fresh c.args.kind (config_in c.args.config.now))) (stopped (lengths_in c.args.lengths.now)))
    (sym (ap timers_held c.put.ensures.card ∙ c.in-Some-started.ensures.timers))
    (subst (λ lengths. TimersStandIn (Some c.in-Some.value) (card_in (fresh c.args.kind (config_in c.args.config.now))) (stopped lengths))
    (read-meets (λ lengths. lengths_of lengths ≡ lengths_in c.args.lengths.now) (lengths_fault c.args.lengths.now) c.read-2.result c.in-Ok-read.value
    c.read-2.ensures.fault c.read-2.ensures.read c.in-Ok-read.is)
    (subst (λ (config : Config). TimersStandIn (Some c.in-Some.value) (card_in (fresh c.args.kind config)) (stopped (lengths_of c.in-Ok-read.value)))
    (read-is (config_fault c.args.config.now) c.read.result (config_in c.args.config.now) c.in-Ok.value c.read.ensures.fault c.read.ensures.config c.in-Ok.is)
    (c.in-Some.ensures.stopped c.args.kind))))
    (λ _. subst (λ timers. ChangesStandIn timers (card_in (fresh c.args.kind (config_in c.args.config.now))) unmarked) (sym (ap timers_held c.put.ensures.card ∙ c.in-Some-started.ensures.timers))
    (subst (λ (config : Config). ChangesStandIn (Some c.in-Some.value) (card_in (fresh c.args.kind config)) unmarked)
    (read-is (config_fault c.args.config.now) c.read.result (config_in c.args.config.now) c.in-Ok.value c.read.ensures.fault c.read.ensures.config c.in-Ok.is)
    (c.in-Some.ensures.unmarked c.args.kind)))
