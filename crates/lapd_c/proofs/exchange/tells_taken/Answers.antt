-- Hand-written answers for `tells_taken`.
use Rattle.lapd_c.proofs.Vocabulary.{subst, with_ports}
use Rattle.lapd_card.specs.{told_at}
use Rattle.lapd_timed.specs.Kinds.{ports_of}
use Rattle.model_card.specs.ports.Event.{at}
use Rattle.model_card.specs.ports.Port as port
use Rattle.lapd_c.specs.Exchange.{ShowsEnded}
use Rattle.lapd_c.proofs.Served.{frames_stand, small_reply}
use Rattle.lapd_c.proofs.exchange.tells_taken.Goals as goal

pub returns-in-Some : goal.returns-in-Some
returns-in-Some c =
    let ended = told_at (ports_of c.hear.new.self.card) c.args.line c.in-Some.told in
    let shows = subst (λ k. ShowsEnded (told_at (ports_of k) c.args.line c.in-Some.told) c.tells_ended.result c.args.report.now c.tells_ended.new.report) c.card.ensures c.tells_ended.ensures in
    record {
      answered = port.told ended;
      called = c.in-Some.ensures.called;
      is = shows.is;
      shown = λ m on tells. shows.shown (small_reply m (at c.args.line (port.octet c.args.octet)) ended (frames_stand _ (with_ports m) on).reached.config (c.in-Some.ensures.called.answers m on)) tells;
      unchanged = shows.unchanged;
    }
