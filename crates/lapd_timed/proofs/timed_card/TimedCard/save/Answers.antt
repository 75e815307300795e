-- A whole image, with timers or without.
use Rattle.std.proofs.Common.{ap, subst}
use Rattle.std.specs.Prelude.{is_some}
use Rattle.lapd_image.proofs.Puts.{puts-same, puts-then}
use Rattle.lapd_timed.specs.Image.{MayBeSaved}
use Rattle.lapd_timed.proofs.MaySave.{may-save, may-save-alone}
use Rattle.lapd_timed.proofs.Spelled.{image-timed, image-untimed, timed-octets, untimed-octets}
use Rattle.lapd_timed.proofs.timed_card.TimedCard.save.Goals as goal

pub save-requires : goal.save-requires
save-requires c = c.save_card-at.ensures.within

pub returns-in-Some-clause-within : goal.returns-in-Some-clause-within
returns-in-Some-clause-within c = c.save.ensures.within

pub returns-in-Some-clause-puts : goal.returns-in-Some-clause-puts
returns-in-Some-clause-puts c = λ s stands.
    let of = timed-octets c.in-Some.timers s (subst (λ o. MayBeSaved o s.clock s) c.in-Some.is stands.kept) in
    puts-same (image-timed s of.0 of.1) (puts-then (c.save_card-at.ensures.puts s c.args.self.now.timers stands (ap is_some c.in-Some.is)) (c.save.ensures.puts s.card of.0 s.changed of.2))

pub returns-in-Some-clause-saved : goal.returns-in-Some-clause-saved
returns-in-Some-clause-saved c = λ s stands marks.
    let of = timed-octets c.in-Some.timers s (subst (λ o. MayBeSaved o s.clock s) c.in-Some.is stands.kept) in
    may-save s of.0 of.1 (c.save_card-at.ensures.saved s c.args.self.now.timers stands) (c.save.ensures.saved s.card of.0 s.changed of.2) marks

pub returns-in-None-clause-puts : goal.returns-in-None-clause-puts
returns-in-None-clause-puts c = λ s stands.
    let of = untimed-octets s (subst (λ o. MayBeSaved o s.clock s) c.in-None.is stands.kept) in
    puts-same (image-untimed s of.0 of.1) (c.save_card.ensures.puts s c.args.self.now.timers stands (ap is_some c.in-None.is))

pub returns-in-None-clause-saved : goal.returns-in-None-clause-saved
returns-in-None-clause-saved c = λ s stands marks.
    let of = untimed-octets s (subst (λ o. MayBeSaved o s.clock s) c.in-None.is stands.kept) in
    may-save-alone s of.0 of.1 (c.save_card.ensures.saved s c.args.self.now.timers stands) marks
