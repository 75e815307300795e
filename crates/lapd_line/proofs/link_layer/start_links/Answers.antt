-- Hand-written answers for `start_links`.
use Rattle.lapd_line.proofs.Vocabulary.{[], ◌∷◌, ◌+◌, sym, ap, subst, ◌∙◌, All-nil, All-cons, All-append, All, IsBegun}
use Rattle.lapd_line.proofs.StartSteps.{begun, may_start, room_left}
use Rattle.lapd_line.proofs.link_layer.start_links.Goals as goal

pub loop-preserved : goal.loop-preserved
loop-preserved c =
    let link = c.in_ok-link.link in
    let one = begun c.args.config.now link c.requires c.in_ok-link.ensures.fresh c.in_ok-link.ensures.queue c.in_ok-link.ensures.control in (
      subst (All (IsBegun c.args.config.now)) (sym c.push_reserved.ensures.items)
          (All-append (IsBegun c.args.config.now) c.loop.links.items (link ∷ []) c.loop.invariant.0 (All-cons (IsBegun c.args.config.now) link [] one (All-nil (IsBegun c.args.config.now)))),
      c.push_reserved.ensures.len ∙ ap (λ n. n + 1) c.loop.invariant.1,
      c.push_reserved.ensures.capacity ∙ c.loop.invariant.2,
    )

pub start-requires : goal.start-requires
start-requires c =
    let (low, high, least, most) = may_start c.args.config.now c.requires in
    record { queue_low = low; queue_high = high; control_low = least; control_high = most }

pub push_reserved-requires : goal.push_reserved-requires
push_reserved-requires c = room_left c.loop.invariant.1 c.loop.invariant.2 c.loop-test.true
