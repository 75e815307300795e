-- The text of the frame has been made after the bits that were left.
use Rattle.std.proofs.Common.{rules}
use Rattle.std.proofs.Math.Seq.{take-append_seam}
use Rattle.model_bits.specs.Bits.{octets_of}
use Rattle.lapd_bits.specs.Reading.{octets_behind}
use Rattle.lapd_bits.proofs.Vocabulary.{◌≡◌, ℕ, ◌+◌, ◌≤◌, List, ◌++◌, length, take, drop, sym, ap, ◌∙◌, subst, length-append, length-low_bits, refl, arith, bits, flag, frame_text, unstuffed, Goes, last_ones, waits, made, to_give}
use Rattle.lapd_bits.proofs.FramerGiven.{length_to_give, to_give-none}
use Rattle.lapd_bits.proofs.FramerLoad.{both_octets, frame_first, frame_made, written_back}
use Rattle.lapd_bits.proofs.FramerStands.{Stands-load, begun_by}
use Rattle.lapd_bits.proofs.StuffingAtOnce.{last_ones_none}
use Rattle.lapd_bits.proofs.framer.Framer.load.Goals as goal

pub returns-clause-left : goal.returns-clause-left
returns-clause-left c =
    let a = c.self.inside in
    let head = c.args.head.now in
    let info = c.args.info.now in
    let one = c.stuff.new.self in
    let middle = made one c.stuff.new.buffer in
    let within : a.end ≤ length a.octets.items = omega (arith, a.octets.ok.0, c.self.invariant.end) in
    let size = ap (λ f. length f.left) c.self.view_is in
    let none : a.end ≤ a.next = omega (arith, size, c.requires.not_busy, length_to_give a.octets.items a.next a.end a.after within) in
    let start = waits a.after in
    let before : start ≡ c.args.self.now.left =
    sym (to_give-none a.octets.items a.next a.end a.after none within) ∙ ap (λ f. f.left) c.self.view_is in
    let from_none = subst (λ n. Goes start n (bits head) middle (last_ones one.latest)) last_ones_none c.stuff.ensures.goes in
    let size_stays : length c.end_with.new.buffer ≡ length a.octets.items = omega (arith, c.end_with.ensures.room, c.stuff.ensures.room, ap length c.as_mut_slice-octets.ensures.value) in
    ap (λ o. to_give o 0 c.end_with.new.self.end c.end_with.new.self.waiting) (written_back a.octets.len c.end_with.new.buffer a.octets.items a.octets.ok.0 size_stays)
    ∙ c.end_with.ensures.made
    ∙ frame_made start middle head info c.fcs_of_both-check.result (last_ones one.latest) c.fcs_of_both-check.ensures.is_check from_none
    ∙ ap (λ l. l ++ (frame_text (head ++ info) ++ flag)) before

-- it begins as the two do, and is as long
pub returns-clause-begun : goal.returns-clause-begun
returns-clause-begun c = begun_by _ _ _ c.keep_first_four.ensures (length-append c.args.head.now c.args.info.now) (omega (arith, length-append c.args.head.now c.args.info.now, c.requires.a_frame))

-- its text, as it was made
text_made : (c : goal.After-keep_first_four) → bits (take c.end_with.new.self.end c.end_with.new.buffer) ++ waits c.end_with.new.self.waiting
    ≡ waits c.self.inside.after ++ (frame_text (c.args.head.now ++ c.args.info.now) ++ flag)
text_made c =
    let one = c.stuff.new.self in
    let middle = made one c.stuff.new.buffer in
    let start = waits c.self.inside.after in
    let from_none = subst (λ n. Goes start n (bits c.args.head.now) middle (last_ones one.latest)) last_ones_none c.stuff.ensures.goes in
    c.end_with.ensures.made
    ∙ frame_made start middle c.args.head.now c.args.info.now c.fcs_of_both-check.result (last_ones one.latest) c.fcs_of_both-check.ensures.is_check from_none

-- what is read back of it: the frame, and its check
read_back : (c : goal.After-keep_first_four) → (rest : List ℕ)
    × (octets_behind c.self.inside.after.count c.end_with.new.self.end (take c.self.inside.octets.len (c.end_with.new.buffer ++ drop (length c.end_with.new.buffer) c.self.inside.octets.items))
    ≡ (c.args.head.now ++ c.args.info.now) ++ rest)
read_back c =
    let a = c.self.inside in
    let start = waits a.after in
    let octets = c.args.head.now ++ c.args.info.now in
    let found = frame_first octets start (bits (take c.end_with.new.self.end c.end_with.new.buffer)) (waits c.end_with.new.self.waiting)
    (both_octets c.args.head.now c.args.info.now c.type_inv.head c.type_inv.info)
    (omega (arith, c.end_with.ensures.low, length-low_bits c.end_with.new.self.waiting.count c.end_with.new.self.waiting.bits)) (text_made c) in
    let size_stays : length c.end_with.new.buffer ≡ length a.octets.items = omega (arith, c.end_with.ensures.room, c.stuff.ensures.room, ap length c.as_mut_slice-octets.ensures.value) in (
      found.0,
      ap (λ o. octets_behind a.after.count c.end_with.new.self.end o) (written_back a.octets.len c.end_with.new.buffer a.octets.items a.octets.ok.0 size_stays)
          ∙ ap (λ n. octets_of (unstuffed (drop n (bits (take c.end_with.new.self.end c.end_with.new.buffer))))) (sym (length-low_bits a.after.count a.after.bits))
          ∙ found.1,
    )

pub invariant_of-self : goal.invariant_of-self
invariant_of-self c =
    let a = c.self.inside in
    let same = read_back c in
    let octets = c.args.head.now ++ c.args.info.now in
    record {
      room = search rules;
      space = search rules;
      end = search rules;
      next = search rules;
      latest = search rules;
      after = search rules;
      lead = search rules;
      loaded = omega (arith, ap length same.1, length-append octets same.0, length-append c.args.head.now c.args.info.now);
    }

pub returns-clause-loaded : goal.returns-clause-loaded
returns-clause-loaded c =
    let same = read_back c in
    let octets = c.args.head.now ++ c.args.info.now in
    ap (take (length c.args.head.now + length c.args.info.now)) same.1
    ∙ ap (λ n. take n (octets ++ same.0)) (sym (length-append c.args.head.now c.args.info.now)) ∙ take-append_seam octets same.0

pub returns-clause-stands : goal.returns-clause-stands
returns-clause-stands c = λ items given s.
    let octets = c.args.head.now ++ c.args.info.now in
    Stands-load c.args.self.now _ octets (length c.args.head.now + length c.args.info.now) items given (returns-clause-left c) refl
    (sym (length-append c.args.head.now c.args.info.now)) (returns-clause-begun c) (returns-clause-loaded c) s
