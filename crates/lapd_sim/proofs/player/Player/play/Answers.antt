-- Hand-written answers for `Player::play`.
use Rattle.lapd_sim.proofs.Vocabulary.{[], ◌++◌, ◌∙◌, None, Ok, Err, refl, sym, ap, subst, played, line_in, fault_at, Does, said, PutsSome, PlaysOn, Has, puts_nothing, puts_then, on}
use Rattle.lapd_sim.proofs.Paging.{put_on, put_before, stops_before}
use Rattle.lapd_sim.proofs.Playing.{begins, ends, stops, does_fail, does_ok, goes_on, over, next}
use Rattle.lapd_sim.proofs.player.Player.play.Goals as goal

pub loop-fault-init : goal.loop-fault-init
loop-fault-init g c = (
  refl,
  ([], puts_nothing (on g.T.Target.taken c.args.page.now)),
  (None, subst (λ b. Has b None) (sym c.requires.none) tt),
  λ text left. begins _ _ _ text _ c.requires.none c.requires.number c.requires.octets left,
)

pub returns-in-Ok-false-clause-put : goal.returns-in-Ok-false-clause-put
returns-in-Ok-false-clause-put g c =
    let so_far = c.loop-fault.invariant.1 in
    (so_far.0, put_on _ _ _ so_far.0 so_far.1 c.in-Ok-false.ensures.put)

pub returns-in-Ok-false-clause-played : goal.returns-in-Ok-false-clause-played
returns-in-Ok-false-clause-played g c = λ text left.
    let (p, put) = c.loop-fault.invariant.3 text left in
    let none = over c.in-Ok-false.field-0 _ _ _ p.left c.in-Ok-false.field-0-test (c.in-Ok-false.ensures.read p.left p.unread) in
    let end = ends _ _ _ text _ _ p none.0 (put_on _ _ _ (played p.done).written put c.in-Ok-false.ensures.put) in
    (end.0, end.1, none.1)

pub returns-in-Err-clause-put : goal.returns-in-Err-clause-put
returns-in-Err-clause-put g c =
    let so_far = c.loop-fault.invariant.1 in
    put_before c.in-Err.fault _ _ _ so_far.0 so_far.1 c.in-Err.ensures.put

pub returns-in-Err-clause-played : goal.returns-in-Err-clause-played
returns-in-Err-clause-played g c = λ text left.
    let (p, put) = c.loop-fault.invariant.3 text left in
    stops_before c.in-Err.fault _ c.advance.new.lines _ _ _ text _ _ _ p put c.in-Err.ensures.put (c.in-Err.ensures.read p.left p.unread)

pub returns-in-Err-obey-clause-put : goal.returns-in-Err-obey-clause-put
returns-in-Err-obey-clause-put g c =
    let so_far = c.loop-fault.invariant.1 in
    let m = c.loop-fault.invariant.2 in
    subst (λ fault. PutsSome {A = Unit} (Err fault) (on g.T.Target.taken c.args.page.now) (on g.T.Target.taken c.obey.new.page)) (sym c.at.ensures.fault)
    (does_fail c.in-Err-obey.fault c.number.result _ _ _ _ m.0 _ _ so_far.0 (put_on _ _ _ so_far.0 so_far.1 c.in-Ok-true.ensures.put) (c.in-Err-obey.ensures m.0 m.1))

pub returns-in-Err-obey-clause-played : goal.returns-in-Err-obey-clause-played
returns-in-Err-obey-clause-played g c = λ text left.
    let (p, put) = c.loop-fault.invariant.3 text left in
    let n = next c.in-Ok-true.field-0 _ _ _ p.left c.in-Ok-true.field-0-test (c.in-Ok-true.ensures.read p.left p.unread) in
    let setup = (played p.done).setup in
    let does = subst (λ line. Does (Err c.in-Err-obey.fault) (on g.T.Target.taken c.advance.new.page) (on g.T.Target.taken c.obey.new.page) line setup (Has c.obey.new.self.setup) (said line setup))
    (c.line.ensures.current ∙ n.line) (c.in-Err-obey.ensures setup p.has) in
    subst (λ fault. PlaysOn (Err fault) text (g.S.Source.remaining c.advance.new.source) (on g.T.Target.taken c.args.page.now) (on g.T.Target.taken c.obey.new.page))
    (sym (c.at.ensures.fault ∙ ap (fault_at c.in-Err-obey.fault) c.number.ensures))
    (stops c.in-Err-obey.fault _ c.advance.new.lines _ _ _ text _ _ _ (Has c.obey.new.self.setup) p n (put_on _ _ _ (played p.done).written put c.in-Ok-true.ensures.put) does)

pub loop-fault-preserved : goal.loop-fault-preserved
loop-fault-preserved g c =
    let so_far = c.loop-fault.invariant.1 in
    let m = c.loop-fault.invariant.2 in
    let done = does_ok tt _ _ [] m.0 _ _ (c.in_default.ensures m.0 m.1) in (
      c.in-Ok-true.ensures.reads ∙ c.loop-fault.invariant.0,
      (so_far.0 ++ done.0.text, puts_then (Ok tt) _ _ _ so_far.0 done.0.text (put_on _ _ _ so_far.0 so_far.1 c.in-Ok-true.ensures.put) done.2),
      (done.0.setup, done.3),
      λ text left.
          let (p, put) = c.loop-fault.invariant.3 text left in
          let n = next c.in-Ok-true.field-0 _ _ _ p.left c.in-Ok-true.field-0-test (c.in-Ok-true.ensures.read p.left p.unread) in
          let setup = (played p.done).setup in
          let does = subst (λ line. Does (Ok tt) (on g.T.Target.taken c.advance.new.page) (on g.T.Target.taken c.obey.new.page) line setup (Has c.obey.new.self.setup) (said line setup))
          (c.line.ensures.current ∙ n.line) (c.in_default.ensures setup p.has) in
          let here = does_ok tt _ _ (line_in n.piece) setup _ _ does in
          goes_on _ c.advance.new.lines _ c.obey.new.self.setup _ _ text _ _ _ p n (put_on _ _ _ (played p.done).written put c.in-Ok-true.ensures.put) here.0 here.1 here.2 here.3,
    )
