-- Hand-written answers for `Link::save_contents`.
use Rattle.std.proofs.Common.{ap, subst, sym}
use Rattle.lapd_image.proofs.Puts.{puts-same}
use Rattle.lapd_image.specs.Numbers.{contents}
use Rattle.lapd_link.proofs.Images.{kept-message, past_the_last}
use Rattle.lapd_link.proofs.Vocabulary.{Keeps-used}
use Rattle.lapd_link.proofs.link.Link.save_contents.Goals as goal
use Rattle.model_bits.specs.StuffingLaws.{AreOctets}

pub get-requires-in-Some : goal.get-requires-in-Some
get-requires-in-Some g c = Keeps-used c.args.self.now.queue.slots c.requires.kept.0 c.requires.kept.1 c.args.place c.in-Some.slot (sym c.in-Some.ensures) c.requires.kept.2

pub returns-in-Some-clause-puts : goal.returns-in-Some-clause-puts
returns-in-Some-clause-puts g c = λ messages others kept.
    puts-same (ap contents (kept-message c.args.self.now.queue.slots messages c.args.place c.in-Some.slot (sym c.in-Some.ensures) c.get-in-Some.ensures.octets kept))
    c.put_message.ensures.puts

pub returns-in-Some-clause-octets : goal.returns-in-Some-clause-octets
returns-in-Some-clause-octets g c = λ messages others kept.
    subst AreOctets (kept-message c.args.self.now.queue.slots messages c.args.place c.in-Some.slot (sym c.in-Some.ensures) c.get-in-Some.ensures.octets kept)
    c.put_message.ensures.octets

pub returns-in-None-clause-puts : goal.returns-in-None-clause-puts
returns-in-None-clause-puts g c = λ messages others kept. absurd (past_the_last c.args.self.now.queue.slots c.args.place c.requires.place (sym c.in-None.ensures))

pub returns-in-None-clause-octets : goal.returns-in-None-clause-octets
returns-in-None-clause-octets g c = λ messages others kept. absurd (past_the_last c.args.self.now.queue.slots c.args.place c.requires.place (sym c.in-None.ensures))
