-- Hand-written answers for `LinkLayer::faulty`.
use Rattle.lapd_line.proofs.Vocabulary.{Err, refl, ap, aim_of_reading}
use Rattle.lapd_line.proofs.AddressSteps.{serves_as, serves_none}
use Rattle.lapd_line.proofs.link_layer.LinkLayer.faulty.Goals as goal

pub tell_drop-requires : goal.tell_drop-requires
tell_drop-requires g c = c.requires.clear

pub malformed-requires : goal.malformed-requires
malformed-requires g c = record { stands = c.requires.stands; clear = c.requires.clear; no_frame = refl }

pub malformed-requires-in-WrongSize : goal.malformed-requires-in-WrongSize
malformed-requires-in-WrongSize g c = record { stands = c.requires.stands; clear = c.requires.clear; no_frame = refl }

pub tell_drop-requires-in-Short : goal.tell_drop-requires-in-Short
tell_drop-requires-in-Short g c = c.requires.clear

pub returns-in-BadExtension : goal.returns-in-BadExtension
returns-in-BadExtension g c = λ octets short.
    serves_as (λ others m st. ap (λ fault. aim_of_reading c.args.self.now.config m (Err fault)) c.in-BadExtension.is)
    (serves_none c.args.self.now (g.S.Shelf.store c.args.shelf.now) octets c.tell_drop.new.report _ (c.tell_drop.ensures octets))

pub returns-in-Undefined : goal.returns-in-Undefined
returns-in-Undefined g c = λ octets short.
    serves_as (λ others m st. ap (λ fault. aim_of_reading c.args.self.now.config m (Err fault)) c.in-Undefined.is) (c.malformed.ensures octets short)

pub returns-in-WrongSize : goal.returns-in-WrongSize
returns-in-WrongSize g c = λ octets short.
    serves_as (λ others m st. ap (λ fault. aim_of_reading c.args.self.now.config m (Err fault)) c.in-WrongSize.is) (c.malformed-in-WrongSize.ensures octets short)

pub returns-in-Short : goal.returns-in-Short
returns-in-Short g c = λ octets short.
    serves_as (λ others m st. ap (λ fault. aim_of_reading c.args.self.now.config m (Err fault)) c.in-Short.is)
    (serves_none c.args.self.now (g.S.Shelf.store c.args.shelf.now) octets c.tell_drop-in-Short.new.report _ (c.tell_drop-in-Short.ensures octets))
