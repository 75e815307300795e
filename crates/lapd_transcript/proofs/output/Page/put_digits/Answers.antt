-- Hand-written answers for `Page::put_digits`.
use Rattle.lapd_transcript.proofs.Vocabulary.{ℕ, List, [], ◌∷◌, subst, take_all, ap, ◌∙◌, flat_map, encode_upper, encoded_singly, on, IsPut, IsStuck}
use Rattle.lapd_transcript.proofs.Known.{leaves, puts_stop}
use Rattle.lapd_transcript.proofs.output.Page.put_digits.Goals as goal

pub returns-in_err-put : goal.returns-in_err-put
returns-in_err-put g c =
    leaves c.from_residual.result _ _ _ c.from_residual.ensures.0
    (subst (λ (text : List ℕ). IsStuck (on g.T.Target.taken c.args.self.now) (on g.T.Target.taken c.put.new.self) text) (encoded_singly c.args.octets.now)
    (puts_stop (λ octet. encode_upper (octet ∷ [])) c.args.octets.now c.loop-octet.octet-index 0
    (on g.T.Target.taken c.args.self.now) (on g.T.Target.taken c.loop-octet.self) (on g.T.Target.taken c.put.new.self)
    c.loop-octet-test.true c.loop-octet.invariant
    (subst (λ (text : List ℕ). IsStuck (on g.T.Target.taken c.loop-octet.self) (on g.T.Target.taken c.put.new.self) text) c.octet_digits.ensures c.in_err-put.ensures)))

pub returns : goal.returns
returns g c =
    subst (λ (text : List ℕ). IsPut (on g.T.Target.taken c.args.self.now) (on g.T.Target.taken c.loop-octet.self) text)
    (ap (flat_map (λ octet. encode_upper (octet ∷ []))) (take_all c.loop-octet.octet-index c.args.octets.now c.loop-octet-test.false) ∙ encoded_singly c.args.octets.now)
    c.loop-octet.invariant
