-- Hand-written answers for `ScriptLines::advance`.
use Rattle.lapd_script.proofs.Vocabulary.{◌∙◌, arith}
use Rattle.lapd_script.proofs.Reading.{open_front, within_joined}
use Rattle.lapd_script.proofs.Advancing.{advances_cut, advances_found, advances_last, advances_overlong}
use Rattle.lapd_script.proofs.lines.ScriptLines.advance.Goals as goal

pub returns-in-Some-clause-read : goal.returns-in-Some-clause-read
returns-in-Some-clause-read g c = λ text left.
    let mid = c.loop-end.self in
    let known = c.loop-end.invariant in
    advances_found c.args.self.now mid c.take.new.self c.take.result (g.S.Source.remaining c.loop-end.source) text c.in-Some.end known.begins known.octets known.number
    (omega (arith, c.in-Some.ensures.from)) c.in-Some.ensures.within (omega (arith, c.in-Some.ensures.within))
    (within_joined mid.buffer.items mid.start c.loop-end.unsought c.in-Some.end known.open_is c.in-Some.ensures.first) c.in-Some.ensures.found (known.left text left) c.take.ensures.taken

pub returns-then-self-eq-ROOM-clause-read : goal.returns-then-self-eq-ROOM-clause-read
returns-then-self-eq-ROOM-clause-read g c = λ text left.
    let mid = c.loop-end.self in
    let known = c.loop-end.invariant in
    advances_overlong c.args.self.now mid mid c.too_long.result (g.S.Source.remaining c.loop-end.source) text known.begins known.number c.if-self-eq-ROOM.true
    (within_joined mid.buffer.items mid.start c.loop-end.unsought mid.filled known.open_is c.in_default.ensures.none) (known.left text left) c.too_long.ensures.fault

pub returns-then-self-clause-read : goal.returns-then-self-clause-read
returns-then-self-clause-read g c = λ text left.
    let mid = c.loop-end.self in
    let known = c.loop-end.invariant in
    advances_last c.args.self.now mid c.take-then-self.new.self c.take-then-self.result (g.S.Source.remaining c.loop-end.source) text known.begins known.octets known.number c.if-self.true
    (omega (arith, c.if-self-eq-ROOM.false)) (within_joined mid.buffer.items mid.start c.loop-end.unsought mid.filled known.open_is c.in_default.ensures.none) (known.left text left) c.take-then-self.ensures.taken

pub returns-in-Err-clause-read : goal.returns-in-Err-clause-read
returns-in-Err-clause-read g c = λ text left.
    let mid = c.loop-end.self in
    let known = c.loop-end.invariant in
    advances_cut c.args.self.now mid c.fill.new.self c.in-Err.fault (g.S.Source.remaining c.fill.new.source) text known.begins
    (within_joined mid.buffer.items mid.start c.loop-end.unsought mid.filled known.open_is c.in_default.ensures.none) c.in-Err.ensures.cut (c.fill.ensures.left text (known.left text left)) c.in-Err.ensures.fault (known.goes_on c.if-self.false)

pub loop-end-preserved : goal.loop-end-preserved
loop-end-preserved g c =
    let mid = c.loop-end.self in
    let known = c.loop-end.invariant in
    record {
      begun = omega arith;
      within = c.in-Ok.ensures.begun;
      begins = omega arith;
      octets = omega arith;
      number = omega arith;
      goes_on = λ _. known.goes_on c.if-self.false;
      steady = c.in-Ok.ensures.reads ∙ known.steady;
      open_is = open_front mid c.fill.new.self c.in-Ok.begun known.begins c.fill.ensures.front.0 c.fill.ensures.front.1 c.in-Ok.ensures.begun
          (within_joined mid.buffer.items mid.start c.loop-end.unsought mid.filled known.open_is c.in_default.ensures.none) c.in-Ok.ensures.kept;
      left = λ text left. c.fill.ensures.left text (known.left text left);
    }
