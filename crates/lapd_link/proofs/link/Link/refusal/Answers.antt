-- Hand-written answers for `Link::refusal`.
use Rattle.lapd_link.proofs.Vocabulary.{◌≡◌, Bool, true, refl, sym, ap, subst, ◌∙◌, IfNone, State, serves, refusal_for_room, LinkRequest, request_of, HasRoom, terms_of}
use Rattle.model_link.specs.Link.{Link}
use Rattle.lapd_link.proofs.Asking.{served}
use Rattle.lapd_link.proofs.link.Link.refusal.Goals as goal

pub returns-in-Data-clause-machine : goal.returns-in-Data-clause-machine
returns-in-Data-clause-machine c = λ store others m s.
    let does : serves (terms_of c.args.self.now).reading m.state m.owed (request_of c.args.request) ≡ true =
    ap (λ (state : State). serves (terms_of c.args.self.now).reading state m.owed (request_of c.args.request)) (sym (c.state.ensures ∙ ap (λ (l : Link). l.state) s.fits.rests.is))
    ∙ ap (λ (owed : Bool). serves (terms_of c.args.self.now).reading c.state.result owed (request_of c.args.request)) (sym (c.is_owed-owed.ensures ∙ ap (λ (l : Link). l.owed) s.fits.rests.is))
    ∙ sym c.serves.ensures
    ∙ c.if-not-serves.false in
    c.refusal_of_contents.ensures.machine store others m c.in-Data.octets.now s refl
    ∙ ap (λ (r : LinkRequest). refusal_for_room (terms_of c.args.self.now) m c.args.pool_is_full (request_of r)) (sym c.in-Data.is)
    ∙ sym (served (terms_of c.args.self.now) m c.args.pool_is_full (request_of c.args.request) does)

pub returns-in-Data-clause-room : goal.returns-in-Data-clause-room
returns-in-Data-clause-room c = subst (λ (r : LinkRequest). IfNone c.refusal_of_contents.result (HasRoom (request_of r) c.args.self.now c.args.pool_is_full)) (sym c.in-Data.is) c.refusal_of_contents.ensures.room
