-- Hand-written answers for `lapd_next_frame`.
use Rattle.lapd_c.proofs.Vocabulary.{◌≡◌, ◌<◌, ◌≤◌, ◌+◌, drop, sym, refl, ap, arith, subst, ◌∙◌, length, option_map, next_in, written, alone, goes, Card, Config, AnyStands, FrameCardStands, Some}
use Rattle.std.proofs.Common.{rules, true}
use Rattle.lapd_card.specs.Kinds.{frames_of}
use Rattle.lapd_frame.specs.ShortLists.{listed}
use Rattle.lapd_timed.specs.Called.{keeps_timers}
use Rattle.lapd_timed.specs.declared.timed_card.TimedCard.{TimedCard}
use Rattle.lapd_timed.proofs.Led.{frames-led}
use Rattle.model_card.specs.Machine.{after}
use Rattle.lapd_c.specs.Asked.{next_frame_asked}
use Rattle.lapd_c.specs.CalledBy.{inside}
use Rattle.lapd_c.specs.Kept.{orders_by}
use Rattle.lapd_c.specs.Reports.{ShowsPull}
use Rattle.lapd_c.proofs.Calling.{as_it_was, is_called, never_refused_next, next_given, next_none, next_short, same_frames, served_at, shown_next, wrong_at}
use Rattle.lapd_c.proofs.Served.{frames_stand, served_frames, there}
use Rattle.lapd_c.proofs.WholeFrames.{next_is, none_goes, none_counted, given_written, none_said}
use Rattle.lapd_c.proofs.frames.lapd_next_frame.Goals as goal

-- there is no room
pub returns-in-Err-clause-called : goal.returns-in-Err-clause-called
returns-in-Err-clause-called c = let asked = next_frame_asked c.args.line (length c.args.out.now) in let no_room = c.in-Err.ensures.refused in
    is_called asked c.args.handle.now _ _ _ _ (search rules)
    (λ m s w. let t = frames_stand _ (alone m) (there c.in-Some.ensures.card (alone m) s) in
    wrong_at asked _ _ _ _ (alone m) (next_short c.args.line (length c.args.out.now) m (subst (λ (d : Config). length c.args.out.now < d.n201 + 4) (sym t.config) no_room.few)) (λ e. omega (arith, e)))
    (λ _. as_it_was c.args.line c.args.handle.now _ (ap (λ (t : TimedCard). Some (record c.in-Some.value.now { timed = t })) no_room.unchanged ∙ sym c.in-Some.ensures.card))

-- none waits
pub returns-in-Ok-None-clause-called : goal.returns-in-Ok-None-clause-called
returns-in-Ok-None-clause-called c = let asked = next_frame_asked c.args.line (length c.args.out.now) in
    let called = c.in-Ok-None.ensures.called in
    let none = λ (m : Card) (on : AnyStands c.in-Some.value.now.timed.card (alone m)).
    next_is c.args.line m c.next_frame.new.out c.in-Ok-None.field-0 (called.answers m on) ∙ ap (option_map (next_in c.next_frame.new.out)) c.in-Ok-None.field-0-is in
    is_called asked c.args.handle.now _ _ _ _ (search rules)
    (λ m s w. let on = there c.in-Some.ensures.card (alone m) s in
    wrong_at asked _ _ _ _ (alone m) (next_none c.args.line (length c.args.out.now) m (subst (λ (d : Config). d.n201 + 4 ≤ length c.args.out.now) (sym (frames_stand _ (alone m) on).config) c.in-Ok-None.ensures.given.enough) (none m on)) (λ e. omega (arith, e)))
    (λ _. same_frames c.args.line c.args.handle.now _ c.in-Some.ensures.card (sym c.card-2.ensures ∙ c.in-Frames.is)
    (λ m on. let led = frames-led (goes c.args.line) _ _ called.leads in
    (none_goes c.args.line m c.next_frame.new.self.card (none m on) (led.stands m on), led.counted m on ∙ none_counted c.args.line m _ (none m on))) (search rules) (search rules))

pub returns-in-Ok-None-clause-written : goal.returns-in-Ok-None-clause-written
returns-in-Ok-None-clause-written c = λ m s within room.
    none_said _ _ (next_is c.args.line m c.next_frame.new.out c.in-Ok-None.field-0 (c.in-Ok-None.ensures.called.answers m (there c.in-Some.ensures.card (alone m) s)) ∙ ap (option_map (next_in c.next_frame.new.out)) c.in-Ok-None.field-0-is)

-- one does: it is written, and its orders are carried out
pub returns-in-Ok-Some-clause-called : goal.returns-in-Ok-Some-clause-called
returns-in-Ok-Some-clause-called c = let asked = next_frame_asked c.args.line (length c.args.out.now) in is_called asked _ _ _ _ _ (search rules) (λ m s w.
    let on = there c.in-Some.ensures.card (alone m) s in
    let called = c.in-Ok-Some.ensures.called in
    let e = goes c.args.line in
    let stands = frames_stand _ (alone (after e m)) ((frames-led e _ _ called.leads).stands m on) in
    let is = next_is c.args.line m c.next_frame.new.out c.in-Ok-Some.field-0 (called.answers m on) ∙ ap (option_map (next_in c.next_frame.new.out)) c.in-Ok-Some.field-0-is in
    served_at asked _ _ _ _ (alone m) (inside e)
    (next_given c.args.line (length c.args.out.now) m (subst (λ (d : Config). d.n201 + 4 ≤ length c.args.out.now) (sym (frames_stand _ (alone m) on).config) c.in-Ok-Some.ensures.given.enough) _ is) (never_refused_next c.args.line m)
    (served_frames _ _ c.in-Some.ensures.card refl c.next_frame.new.self c.settle_given.ensures.settles.timed c.settle_given.new.report called m on
    (shown_next _ _ _ c.args.line m _ is (subst (λ more. ShowsPull c.settle_given.new.report true more (orders_by (keeps_timers c.next_frame.new.self) (listed c.in-Ok-Some.next.orders)))
    (c.has_next-more.ensures (after e m) (subst (λ f. FrameCardStands f (after e m)) (sym (c.frames.ensures.card ∙ ap frames_of c.card-in-Ok-Some.ensures)) stands))
    (subst (λ os. ShowsPull c.settle_given.new.report true c.has_next-more.result (orders_by (keeps_timers c.next_frame.new.self) (listed os))) c.order_list.ensures c.settle_given.ensures.shown))))) (λ not_ok. absurd (not_ok refl))

pub returns-in-Ok-Some-clause-written : goal.returns-in-Ok-Some-clause-written
returns-in-Ok-Some-clause-written c = λ m s within room.
    given_written c.args.line m c.args.out.now c.next_frame.new.out c.in-Ok-Some.next.length c.in-Ok-Some.next
    (next_is c.args.line m c.next_frame.new.out c.in-Ok-Some.field-0 (c.in-Ok-Some.ensures.called.answers m (there c.in-Some.ensures.card (alone m) s)) ∙ ap (option_map (next_in c.next_frame.new.out)) c.in-Ok-Some.field-0-is) refl
    (subst (λ g. written g ≤ length c.next_frame.new.out) c.in-Ok-Some.field-0-is c.in-Ok-Some.ensures.given.fits)
    (subst (λ g. drop (written g) c.next_frame.new.out ≡ drop (written g) c.args.out.now) c.in-Ok-Some.field-0-is c.in-Ok-Some.ensures.given.rest)
