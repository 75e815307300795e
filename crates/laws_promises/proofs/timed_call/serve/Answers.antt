-- What only a card of one kind takes is no step of the other.
use Rattle.std.proofs.Common.{subst}
use Rattle.lapd_card.specs.Kinds.{config_of, kind_of, line_count}
use Rattle.laws_promises.specs.TimedDrive.{frame_step, octet_step, of_frames, of_octets, MayHappen}
use Rattle.laws_promises.proofs.TimedKinds.{no-frames, no-octets}
use Rattle.laws_promises.proofs.TimedServing.{serves-none}
use Rattle.laws_promises.proofs.timed_call.serve.Goals as goal

pub returns-in-Frame-clause-octets : goal.returns-in-Frame-clause-octets
returns-in-Frame-clause-octets g c =
    let may = subst (MayHappen (kind_of c.args.card.now.card) (line_count c.args.card.now.card)) c.in-Frame.is c.requires in
    serves-none of_frames of_octets _ (octet_step c.args.event) c.args.card.now c.hear.new.card c.args.sink.now c.hear.new.sink c.hear.result (no-octets c.args.card.now may.0) c.hear.ensures

pub returns-in-Failed-clause-octets : goal.returns-in-Failed-clause-octets
returns-in-Failed-clause-octets g c =
    let may = subst (MayHappen (kind_of c.args.card.now.card) (line_count c.args.card.now.card)) c.in-Failed.is c.requires in
    serves-none of_frames of_octets _ (octet_step c.args.event) c.args.card.now c.fail.new.card c.args.sink.now c.fail.new.sink c.fail.result (no-octets c.args.card.now may.0) c.fail.ensures

pub returns-in-Next-clause-octets : goal.returns-in-Next-clause-octets
returns-in-Next-clause-octets g c =
    let may = subst (MayHappen (kind_of c.args.card.now.card) (line_count c.args.card.now.card)) c.in-Next.is c.requires in
    serves-none of_frames of_octets _ (octet_step c.args.event) c.args.card.now c.hand_on.new.card c.args.sink.now c.hand_on.new.sink c.hand_on.result (no-octets c.args.card.now may.0) c.hand_on.ensures

pub returns-in-Octet-clause-frames : goal.returns-in-Octet-clause-frames
returns-in-Octet-clause-frames g c =
    let may = subst (MayHappen (kind_of c.args.card.now.card) (line_count c.args.card.now.card)) c.in-Octet.is c.requires in
    serves-none of_octets of_frames _ (frame_step (config_of c.args.card.now.card).n201 c.args.event) c.args.card.now c.hear_octet.new.card c.args.sink.now c.hear_octet.new.sink c.hear_octet.result (no-frames c.args.card.now may.0) c.hear_octet.ensures

pub returns-in-Pull-clause-frames : goal.returns-in-Pull-clause-frames
returns-in-Pull-clause-frames g c =
    let may = subst (MayHappen (kind_of c.args.card.now.card) (line_count c.args.card.now.card)) c.in-Pull.is c.requires in
    serves-none of_octets of_frames _ (frame_step (config_of c.args.card.now.card).n201 c.args.event) c.args.card.now c.pull.new.card c.args.sink.now c.pull.new.sink c.pull.result (no-frames c.args.card.now may.0) c.pull.ensures
