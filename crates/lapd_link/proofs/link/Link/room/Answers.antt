-- Hand-written answers for `Link::room`.
use Rattle.lapd_link.proofs.Vocabulary.{◌-◌, ap, ◌∙◌, terms_of}
use Rattle.lapd_link.proofs.Rooming.{room_is}
use Rattle.lapd_link.proofs.link.Link.room.Goals as goal

pub returns : goal.returns
returns g c = λ others m s.
    room_is c.args.self.now _ others m s c.saturating_sub.result c.saturating_sub-2.result _ c.va.result (c.saturating_sub.ensures ∙ ap (λ n. n - c.len.result) c.from.ensures ∙ ap (λ n. (terms_of c.args.self.now).queue - n) c.len.ensures.count)
    (c.saturating_sub-2.ensures ∙ ap (λ n. c.args.slots - n) c.used.ensures.count) c.va.ensures
