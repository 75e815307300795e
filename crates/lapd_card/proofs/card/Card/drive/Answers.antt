-- Hand-written answers for `Card::drive`.
use Rattle.lapd_card.proofs.Vocabulary.{◌≡◌, ◌+◌, ◌<◌, length, rules, refl, sym, ap, subst, arith, ◌∙◌, take, get_or, take_all, length-map, slice_get-get_or, moments, all_counted, counters_in, Taken, OctetCard}
use Rattle.model_card.specs.ports.Event.{event_of}
use Rattle.model_card.specs.ports.Run.{Run, one_more, run}
unfoldable use Rattle.model_card.specs.ports.Run.{meant_all}
use Rattle.model_card.specs.declared.ports.events.Event.TheVariants.{Octet}
use Rattle.lapd_card.specs.Drive.{events_of}
use Rattle.lapd_card.specs.Sink.{MissesNext, one_failure_more}
use Rattle.lapd_card.specs.Stands.{OctetCardStands, meaning_counted}
use Rattle.lapd_card.proofs.Taken.{Taken-more, one-further, at_ok, at_err, missed_one}
use Rattle.lapd_card.proofs.OctetsTaken.{octets-more, meanings-count}
use Rattle.lapd_card.proofs.OctetHeadline.{events_at_lines, laws}
use Rattle.lapd_card.proofs.card.Card.drive.Goals as goal

pub loop-at-init : goal.loop-at-init
unfolding moments meant_all
loop-at-init g c = record { config = refl; none_failed = refl; ran = λ m s. s; counted = λ m s. refl; taken = λ m s. refl }

pub loop-at-preserved : goal.loop-at-preserved
loop-at-preserved g c =
    let is = slice_get-get_or c.args.events.now c.loop-at.at (Octet 0 0) c.loop-at-test.true in
    let no = sym c.is_err.ensures.value ∙ c.if-is_err.false in
    record {
      config = c.answer.ensures.leads.config ∙ c.loop-at.invariant.config;
      none_failed = at_ok c.answer.result _ no c.answer.ensures.hands.not_failed ∙ c.loop-at.invariant.none_failed;
      ran = λ m s. subst (λ r. OctetCardStands g.S.Shelf.store c.answer.new.self r.card) (sym (one-further event_of (run m) (λ es e. one_more (run m es) e) (octets-more m) c.args.events.now c.loop-at.at _ is)) (c.answer.ensures.leads.stands _ (c.loop-at.invariant.ran m s));
      counted = λ m s. c.answer.ensures.leads.counted _ (c.loop-at.invariant.ran m s) ∙ ap (λ k. meaning_counted k (run m (take c.loop-at.at (events_of c.args.events.now))).card (event_of (get_or c.args.events.now c.loop-at.at (Octet 0 0)))) (c.loop-at.invariant.counted m s) ∙ (sym (one-further event_of (λ es. all_counted (counters_in c.args.self.now.frames.lines) (moments m.card (meant_all m es))) (λ es e. meaning_counted (all_counted (counters_in c.args.self.now.frames.lines) (moments m.card (meant_all m es))) (run m es).card e) (meanings-count (counters_in c.args.self.now.frames.lines) m) c.args.events.now c.loop-at.at _ is));
      taken = λ m s. subst (λ r. Taken g.K.Sink.takes c.args.sink.now r.replies c.answer.new.sink) (sym (one-further event_of (run m) (λ es e. one_more (run m es) e) (octets-more m) c.args.events.now c.loop-at.at _ is)) (Taken-more g.K.Sink.takes c.args.sink.now c.loop-at.sink c.answer.new.sink _ _ _ (c.loop-at.invariant.taken m s) (at_ok c.answer.result _ no c.answer.ensures.hands.taken _ (c.loop-at.invariant.ran m s)));
    }

pub returns-then-is_err : goal.returns-then-is_err
returns-then-is_err g c =
    let is = slice_get-get_or c.args.events.now c.loop-at.at (Octet 0 0) c.loop-at-test.true in
    let yes = sym c.is_err.ensures.value ∙ c.if-is_err.true in
    let stopped : (m : OctetCard) → OctetCardStands g.S.Shelf.store c.args.self.now m → OctetCardStands g.S.Shelf.store c.answer.new.self (run m (take (c.loop-at.at + 1) (events_of c.args.events.now))).card = λ m s. subst (λ r. OctetCardStands g.S.Shelf.store c.answer.new.self r.card) (sym (one-further event_of (run m) (λ es e. one_more (run m es) e) (octets-more m) c.args.events.now c.loop-at.at _ is)) (c.answer.ensures.leads.stands _ (c.loop-at.invariant.ran m s)) in
    let missed : (m : OctetCard) → OctetCardStands g.S.Shelf.store c.args.self.now m → MissesNext g.K.Sink.takes g.K.Sink.misses (run m (take c.loop-at.at (events_of c.args.events.now))).replies (run m (take (c.loop-at.at + 1) (events_of c.args.events.now))).replies c.args.sink.now c.answer.new.sink = λ m s. record { line = _; reply = _; next = ap (λ (r : Run). r.replies) (one-further event_of (run m) (λ es e. one_more (run m es) e) (octets-more m) c.args.events.now c.loop-at.at _ is); before = c.loop-at.sink; taken = c.loop-at.invariant.taken m s; missed = at_err c.answer.result _ yes c.answer.ensures.hands.not_taken _ (c.loop-at.invariant.ran m s) } in
    let counters : (m : OctetCard) → OctetCardStands g.S.Shelf.store c.args.self.now m → counters_in c.answer.new.self.frames.lines ≡ all_counted (counters_in c.args.self.now.frames.lines) (moments m.card (meant_all m (take (c.loop-at.at + 1) (events_of c.args.events.now)))) = λ m s. c.answer.ensures.leads.counted _ (c.loop-at.invariant.ran m s) ∙ ap (λ k. meaning_counted k (run m (take c.loop-at.at (events_of c.args.events.now))).card (event_of (get_or c.args.events.now c.loop-at.at (Octet 0 0)))) (c.loop-at.invariant.counted m s) ∙ (sym (one-further event_of (λ es. all_counted (counters_in c.args.self.now.frames.lines) (moments m.card (meant_all m es))) (λ es e. meaning_counted (all_counted (counters_in c.args.self.now.frames.lines) (moments m.card (meant_all m es))) (run m es).card e) (meanings-count (counters_in c.args.self.now.frames.lines) m) c.args.events.now c.loop-at.at _ is)) in
    let before : c.loop-at.at < length (events_of c.args.events.now) = omega (arith, c.loop-at-test.true, length-map c.args.events.now event_of) in
    let failed : g.K.Sink.failures c.answer.new.sink ≡ one_failure_more (g.K.Sink.failures c.args.sink.now) = at_err c.answer.result _ yes c.answer.ensures.hands.failed ∙ ap one_failure_more c.loop-at.invariant.none_failed in
    record {
      config = c.answer.ensures.leads.config ∙ c.loop-at.invariant.config;
      run = missed_one (record { at = c.loop-at.at }) before failed stopped missed counters;
      laws = laws g.S.Shelf.store c.args.self.now (events_of c.args.events.now) (events_at_lines g.S.Shelf.store c.args.self.now c.args.events.now c.requires);
    }

pub returns : goal.returns
returns g c =
    let all = take_all c.loop-at.at (events_of c.args.events.now) (omega (arith, c.loop-at-test.false, length-map c.args.events.now event_of)) in
    let ran : (m : OctetCard) → OctetCardStands g.S.Shelf.store c.args.self.now m → OctetCardStands g.S.Shelf.store c.loop-at.self (run m (events_of c.args.events.now)).card = λ m s. subst (λ es. OctetCardStands g.S.Shelf.store c.loop-at.self (run m es).card) all (c.loop-at.invariant.ran m s) in
    let taken : (m : OctetCard) → OctetCardStands g.S.Shelf.store c.args.self.now m → Taken g.K.Sink.takes c.args.sink.now (run m (events_of c.args.events.now)).replies c.loop-at.sink = λ m s. subst (λ es. Taken g.K.Sink.takes c.args.sink.now (run m es).replies c.loop-at.sink) all (c.loop-at.invariant.taken m s) in
    let counters : (m : OctetCard) → OctetCardStands g.S.Shelf.store c.args.self.now m → counters_in c.loop-at.self.frames.lines ≡ all_counted (counters_in c.args.self.now.frames.lines) (moments m.card (meant_all m (events_of c.args.events.now))) = λ m s. c.loop-at.invariant.counted m s ∙ ap (λ es. all_counted (counters_in c.args.self.now.frames.lines) (moments m.card (meant_all m es))) all in
    search (rules, laws g.S.Shelf.store c.args.self.now (events_of c.args.events.now) (events_at_lines g.S.Shelf.store c.args.self.now c.args.events.now c.requires), ran, taken, counters, sym (length-map c.args.events.now event_of))
