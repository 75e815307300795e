-- Hand-written answers for `put_octets`: as many are copied as there is room for.
use Rattle.std.proofs.Common.{arith, ◌≡◌, ℕ, ◌+◌, ◌-◌, ◌≤◌, List, ◌++◌, length, take, min, sym, ap, ◌∙◌, length-append, length-drop, length-take, length-take-le}
use Rattle.std.proofs.Math.Seq.{take-append-add}
use Rattle.std.proofs.lemmas.List.{take_min}
use Rattle.std.proofs.lemmas.Slice.{take-put_mid, drop-put_mid}
use borrow.Rule.Slice.PartMut.{put_mid}
use Rattle.lapd_image.specs.Puts.{Puts}
use Rattle.lapd_image.proofs.writing.put_octets.Goals as goal

-- what there is room for is what is cut
cut : (octets old : List ℕ) (at count : ℕ) → at ≤ length old → count ≡ min (length octets) (length old - at) → take at old ++ take count octets ≡ take (length old) (take at old ++ octets)
cut octets old at count within as_many =
    let some : count ≡ min (length old - at) (length octets) = omega (arith, as_many) in
    let front : length (take at old) ≡ at = length-take-le at old within in
    let whole : length (take at old) + (length old - at) ≡ length old = omega (arith, front, within) in
    ap (λ n. take at old ++ take n octets) some
    ∙ ap (λ cut. take at old ++ cut) (take_min (length old - at) octets)
    ∙ sym (take-append-add (take at old) octets (length old - at))
    ∙ ap (λ n. take n (take at old ++ octets)) whole

put : (octets old copied : List ℕ) (at count : ℕ) → at ≤ length old → count ≡ min (length octets) (length old - at) → copied ≡ take count octets
    → Puts octets at old (at + count) (put_mid at (at + count - at) old copied)
put octets old copied at count within as_many is =
    let many : length copied ≡ count = ap (λ (l : List ℕ). length l) is ∙ length-take-le count octets (omega (arith, as_many)) in
    let room : length (put_mid at (at + count - at) old copied) ≡ length old = simp (length-append, length-take, length-drop) (omega (arith, many, as_many, within)) in
    record {
      room = room;
      within = omega (arith, room, as_many, within);
      front = take-put_mid at (at + count - at) old copied (at + count) (omega (arith, many)) within ∙ ap (λ l. take at old ++ l) is ∙ cut octets old at count within as_many;
      after = drop-put_mid at (at + count - at) old copied (at + count) (omega (arith)) within (omega (arith, many));
    }

pub returns : goal.returns
returns c =
    put c.args.octets.now c.args.out.now c.copy_from_slice.new.self c.args.at c.min-count.result c.requires c.min-count.ensures c.copy_from_slice.ensures.after
