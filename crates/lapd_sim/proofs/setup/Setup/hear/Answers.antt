-- Hand-written answers for `Setup::hear`.
use Rattle.lapd_sim.proofs.Vocabulary.{Ok, subst, take_all, map-append, ◌∙◌, at, octet, octets_at, after_rx, on, SetupSays, SetupStands, WriteFailed}
use Rattle.lapd_sim.proofs.OneByOne.{breaks_off, leaves_told, tells_more}
use Rattle.lapd_sim.proofs.setup.Setup.hear.Goals as goal

pub returns-in_err-octet : goal.returns-in_err-octet
returns-in_err-octet g c = λ m h.
    let before = c.loop-octet.invariant.2 m h in
    leaves_told c.from_residual.result _ _ _ _ c.from_residual.ensures.0
    (breaks_off (octets_at c.args.line) (map-append (λ value. at c.args.line (octet value))) c.args.octets.now c.loop-octet.octet-index c.loop-octet-test.true _ _ _ (SetupStands c.octet.new.self) m
    before.0 (c.in_err-octet.ensures.told _ before.1))

pub loop-octet-preserved : goal.loop-octet-preserved
loop-octet-preserved g c = (
  c.in_ok-octet.ensures.config ∙ c.loop-octet.invariant.0,
  c.in_ok-octet.ensures.kind ∙ c.loop-octet.invariant.1,
  λ m h.
      let before = c.loop-octet.invariant.2 m h in
      tells_more (octets_at c.args.line) (map-append (λ value. at c.args.line (octet value))) c.args.octets.now c.loop-octet.octet-index c.loop-octet-test.true _ _ _ (SetupStands c.octet.new.self) m
      before.0 (c.in_ok-octet.ensures.told _ before.1),
)

pub returns : goal.returns
returns g c =
    subst (λ octets. SetupSays {E = WriteFailed} (Ok tt) c.args.self.now c.loop-octet.self (on g.T.Target.taken c.args.page.now) (on g.T.Target.taken c.loop-octet.page) (after_rx c.args.line octets))
    (take_all _ _ c.loop-octet-test.false) c.loop-octet.invariant.2
