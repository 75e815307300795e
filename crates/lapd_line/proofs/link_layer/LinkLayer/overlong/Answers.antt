-- Hand-written answers for `LinkLayer::overlong`.
use Rattle.lapd_line.proofs.Vocabulary.{[], refl, sym, ap, Unserved, addressed, aim_of_unnumbered, drop_for, ◌∙◌, Ok, arith, long_reading, aim_of_long}
use Rattle.lapd_frame.specs.Overlong.{is_unit}
use Rattle.model_link.specs.Events as link
use Rattle.lapd_line.proofs.AddressSteps.{serves_as, long_fault}
use Rattle.lapd_line.proofs.link_layer.LinkLayer.overlong.Goals as goal

pub returns-in-Ok-Information : goal.returns-in-Ok-Information
returns-in-Ok-Information g c =
    let aim = aim_of_long c.args.self.now.config.reading (is_unit c.args.head.now) in
    serves_as (λ others m st. ap (λ side. aim m (long_reading side c.args.head.now)) (sym c.heard_side.ensures) ∙ ap (aim m) (sym c.in-Ok-Information.ensures ∙ ap Ok c.in-Ok-Information.field-0-is)) (c.malformed.ensures [] (omega arith))

pub returns-in-Err : goal.returns-in-Err
returns-in-Err g c =
    let unit = is_unit c.args.head.now in
    let aim = aim_of_long c.args.self.now.config.reading unit in
    serves_as (λ others m st. ap (λ side. aim m (long_reading side c.args.head.now)) (sym c.heard_side.ensures) ∙ ap (aim m) (sym c.in-Err.ensures) ∙ long_fault c.args.self.now.config unit m c.in-Err.fault) (c.faulty.ensures [] (omega arith))

pub malformed-requires : goal.malformed-requires
malformed-requires g c = record { stands = c.requires.stands; clear = c.requires.clear; no_frame = refl }

pub unnumbered-requires : goal.unnumbered-requires
unnumbered-requires g c = record { stands = c.requires.stands; clear = c.requires.clear }

pub faulty-requires : goal.faulty-requires
faulty-requires g c = record { stands = c.requires.stands; clear = c.requires.clear }

pub returns-in-Ok-Unnumbered : goal.returns-in-Ok-Unnumbered
returns-in-Ok-Unnumbered g c =
    let aim = aim_of_long c.args.self.now.config.reading (is_unit c.args.head.now) in
    serves_as (λ others m st. ap (λ side. aim m (long_reading side c.args.head.now)) (sym c.heard_side.ensures) ∙ ap (aim m) (sym c.in-Ok-Unnumbered.ensures ∙ ap Ok c.in-Ok-Unnumbered.field-0-is)
    ∙ ap (λ unit. aim_of_unnumbered c.args.self.now.config.reading unit (addressed m c.in-Ok-Unnumbered.address link.overlong (drop_for Unserved))) (sym c.is_unit.ensures.kept)) c.unnumbered.ensures
