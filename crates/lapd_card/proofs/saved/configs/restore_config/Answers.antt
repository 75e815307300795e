-- Hand-written answers for `restore_config`.
use Rattle.lapd_card.proofs.Vocabulary.{sym, ◌∙◌}
use Rattle.lapd_image.proofs.Reading.{on_err}
use Rattle.lapd_card.proofs.Configs.{config_read, flags_are, none_seeded, none_short, out_of_range}
use Rattle.lapd_card.proofs.saved.configs.restore_config.Goals as goal

pub returns-in_err-front-clause-none : goal.returns-in_err-front-clause-none
returns-in_err-front-clause-none c = on_err c.from_residual.result (none_short c.in_err-front.ensures.short)

pub returns-in_err-restore_seed-clause-none : goal.returns-in_err-restore_seed-clause-none
returns-in_err-restore_seed-clause-none c =
    on_err c.from_residual-in_err-restore_seed.result (none_seeded c.in_ok-front.front.now c.octets.new.self c.in_ok-front.ensures.count c.in_ok-front.ensures.read c.in_err-restore_seed.ensures.none)

pub returns-in-None-clause-read : goal.returns-in-None-clause-read
returns-in-None-clause-read c =
    config_read c.in_ok-front.front.now c.octets.new.self c.restore_seed.new.reader _ c.in_ok-front.ensures.count c.in_ok-front.ensures.read c.in_ok-restore_seed.ensures.read.octets
    (record {
      flags = flags_are _ _ _ c.if-flags-gt7.false c.side_of.ensures c.in_ok-restore_seed.ensures.read.saved.given c.reading_of.ensures;
      lines = sym c.from.ensures;
      terminals = sym c.from-2.ensures;
      k = sym c.from-3.ensures;
      k16 = sym c.from-4.ensures;
      queue = sym c.from-5.ensures;
      unit_queue = sym c.from-6.ensures;
      control = sym c.from-7.ensures;
      n200 = sym c.from-8.ensures;
      sapi = sym c.from-9.ensures;
      slots = sym c.number_of.ensures.octets;
      n201 = sym c.number_of-2.ensures.octets;
    }) (sym c.fault.ensures ∙ c.in-None.is) c.in_ok-restore_seed.ensures.read.saved.few

pub returns-in-Some-clause-none : goal.returns-in-Some-clause-none
returns-in-Some-clause-none c =
    out_of_range c.in_ok-front.front.now c.octets.new.self c.restore_seed.new.reader _ c.in_ok-front.ensures.count c.in_ok-front.ensures.read c.in_ok-restore_seed.ensures.read.octets
    (record {
      flags = flags_are _ _ _ c.if-flags-gt7.false c.side_of.ensures c.in_ok-restore_seed.ensures.read.saved.given c.reading_of.ensures;
      lines = sym c.from.ensures;
      terminals = sym c.from-2.ensures;
      k = sym c.from-3.ensures;
      k16 = sym c.from-4.ensures;
      queue = sym c.from-5.ensures;
      unit_queue = sym c.from-6.ensures;
      control = sym c.from-7.ensures;
      n200 = sym c.from-8.ensures;
      sapi = sym c.from-9.ensures;
      slots = sym c.number_of.ensures.octets;
      n201 = sym c.number_of-2.ensures.octets;
    }) (sym c.fault.ensures ∙ c.in-Some.is) c.number_of.ensures.small c.number_of-2.ensures.small c.in_ok-restore_seed.ensures.read.saved.few
