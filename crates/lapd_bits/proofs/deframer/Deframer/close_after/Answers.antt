-- No gap is open, or one of too few bits; or the bits go on it, and it is closed.
use Rattle.lapd_bits.proofs.Vocabulary.{◌≡◌, Some, length, sym, subst, ◌∙◌, arith, low_bits, length-low_bits, HoldsGap, open_gap, event_in}
use Rattle.lapd_bits.proofs.FlagEnd.{told-young, told-closed}
use Rattle.lapd_bits.proofs.deframer.Deframer.close_after.Goals as goal

pub returns-then-gap-before-lt8-clause-told : goal.returns-then-gap-before-lt8-clause-told
returns-then-gap-before-lt8-clause-told c past ends h =
    let s = c.args.self.now in
    told-young (length s.octets.items) (low_bits c.args.before c.args.front) past s.octets.items (Some c.in-Some.gap) ends
    (omega (arith, length-low_bits c.args.before c.args.front, c.if-gap-before-lt8.true))
    (subst (λ g. HoldsGap s.octets.items g (open_gap past)) c.in-Some.is h)

pub returns-clause-told : goal.returns-clause-told
returns-clause-told c past ends h =
    let s = c.args.self.now in
    let new = c.join.new.octets in
    let same : length new.items ≡ length s.octets.items = sym new.ok.0 ∙ c.join.ensures.room ∙ s.octets.ok.0 in
    told-closed s.octets.items new.items c.in-Some.gap c.join.new.self (low_bits c.args.before c.args.front) past
    (event_in new.items c.closed.result) ends c.join.ensures.since
    (omega (arith, length-low_bits c.args.before c.args.front, c.if-gap-before-lt8.false)) same c.join.ensures.stands
    c.closed.ensures.told (subst (λ g. HoldsGap s.octets.items g (open_gap past)) c.in-Some.is h)
