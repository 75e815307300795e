-- The next octet goes, or the bits after them and the beginning of a flag.
use Rattle.lapd_bits.proofs.Vocabulary.{◌≡◌, ◌+◌, ◌<◌, ◌≤◌, ◌++◌, length, take, sym, ap, ◌∙◌, arith, ⊎_elim, cases_lt, false≢true, low_bits, flag, number_of, refilled, still_held, to_give, number_of-octet}
use Rattle.lapd_bits.proofs.FramerGiven.{length_to_give, to_give-octet, to_give-none, refilled-enough, refilled-low, held_after}
use Rattle.lapd_bits.proofs.FramerStands.{Stands-octet}
use Rattle.lapd_bits.proofs.framer.Framer.octet.Goals as goal

-- ---- octets are left

more : (c : goal.After-self-1) → c.self.inside.next < c.self.inside.end
more c =
    let a = c.self.inside in
    let size = ap (λ f. length f.left) c.self.view_is in
    omega (arith, size, c.busy.ensures.0 c.if-busy.true, length_to_give a.octets.items a.next a.end a.after (omega (arith, a.octets.ok.0, c.self.invariant.end)), c.self.invariant.after)

given : (c : goal.After-self-1) → low_bits 8 c.index-octet.result.now ++ to_give c.self.inside.octets.items (c.self.inside.next + 1) c.self.inside.end c.self.inside.after ≡ refilled (to_give c.self.inside.octets.items c.self.inside.next c.self.inside.end c.self.inside.after)
given c =
    let a = c.self.inside in
    let octet = c.index-octet.result.now in
    let left = to_give a.octets.items a.next a.end a.after in
    let size = ap (λ f. length f.left) c.self.view_is in
    ap (λ o. low_bits 8 o ++ to_give a.octets.items (a.next + 1) a.end a.after) c.index-octet.ensures
    ∙ sym (to_give-octet a.octets.items a.next a.end octet a.after (more c) (omega (arith, a.octets.ok.0, c.self.invariant.end)))
    ∙ refilled-enough left (omega (arith, size, c.busy.ensures.0 c.if-busy.true))

pub returns-then-busy-clause-bits : goal.returns-then-busy-clause-bits
returns-then-busy-clause-bits c = given c ∙ ap (λ f. refilled f.left) c.self.view_is

pub returns-then-busy-clause-octet : goal.returns-then-busy-clause-octet
returns-then-busy-clause-octet c =
    let a = c.self.inside in
    sym (number_of-octet c.index-octet.result.now (to_give a.octets.items (a.next + 1) a.end a.after) (omega arith))
    ∙ ap (λ l. number_of (take 8 l)) (returns-then-busy-clause-bits c)

pub returns-then-busy-clause-stands : goal.returns-then-busy-clause-stands
returns-then-busy-clause-stands c = λ items given_up s.
    let a = c.self.inside in
    let left = to_give a.octets.items (a.next + 1) a.end a.after in
    let held = held_after (to_give a.octets.items a.next a.end a.after) left c.index-octet.result.now a.latest (given c) ∙ ap (λ f. still_held left f.held) c.self.view_is in
    Stands-octet c.args.self.now _ c.index-octet.result.now items given_up (returns-then-busy-clause-bits c) held (ap (λ f. f.begun) c.self.view_is) (ap (λ f. f.loaded) c.self.view_is) s

-- ---- none is

few : (c : goal.After-octet) → length c.args.self.now.left < 8
few c =
    ⊎_elim (λ low. low) (λ many. absurd (false≢true (c.if-busy.ensures.1 many))) (cases_lt (length c.args.self.now.left) 8)

filled : (c : goal.After-octet) → low_bits 8 c.octet.result ++ to_give c.self.inside.octets.items c.self.inside.next c.self.inside.end c.octet.new.self ≡ refilled (to_give c.self.inside.octets.items c.self.inside.next c.self.inside.end c.self.inside.after)
filled c =
    let a = c.self.inside in
    let size = ap (λ f. length f.left) c.self.view_is in
    let within : a.end ≤ length a.octets.items = omega (arith, a.octets.ok.0, c.self.invariant.end) in
    let none : a.end ≤ a.next = omega (arith, size, few c, length_to_give a.octets.items a.next a.end a.after within) in
    ap (λ l. low_bits 8 c.octet.result ++ l) (to_give-none a.octets.items a.next a.end c.octet.new.self none within)
    ∙ sym c.octet.ensures.bits
    ∙ c.push_flag.ensures.bits
    ∙ ap (λ l. l ++ flag) (sym (to_give-none a.octets.items a.next a.end a.after none within))
    ∙ refilled-low (to_give a.octets.items a.next a.end a.after) (omega (arith, size, few c))

pub returns-else-busy-clause-bits : goal.returns-else-busy-clause-bits
returns-else-busy-clause-bits c = filled c ∙ ap (λ f. refilled f.left) c.self.view_is

pub returns-else-busy-clause-octet : goal.returns-else-busy-clause-octet
returns-else-busy-clause-octet c =
    let a = c.self.inside in
    sym (number_of-octet c.octet.result (to_give a.octets.items a.next a.end c.octet.new.self) (omega arith))
    ∙ ap (λ l. number_of (take 8 l)) (returns-else-busy-clause-bits c)

pub returns-else-busy-clause-held : goal.returns-else-busy-clause-held
returns-else-busy-clause-held c =
    let a = c.self.inside in
    let left = to_give a.octets.items a.next a.end c.octet.new.self in
    held_after (to_give a.octets.items a.next a.end a.after) left c.octet.result a.latest (filled c) ∙ ap (λ f. still_held left f.held) c.self.view_is

pub returns-else-busy-clause-stands : goal.returns-else-busy-clause-stands
returns-else-busy-clause-stands c = λ items given_up s.
    Stands-octet c.args.self.now _ c.octet.result items given_up (returns-else-busy-clause-bits c) (returns-else-busy-clause-held c) (ap (λ f. f.begun) c.self.view_is) (ap (λ f. f.loaded) c.self.view_is) s
