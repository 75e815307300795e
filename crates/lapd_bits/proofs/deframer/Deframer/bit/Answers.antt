-- A seventh 1, a flag's last bit, or a bit that ends nothing, and what stays of it.
use Rattle.lapd_bits.proofs.Vocabulary.{◌≡◌, ◌≢◌, ◌+◌, ◌⊎◌, inl, inr, [], ◌∷◌, length, refl, false≢true, ap, sym, subst, ◌∙◌, arith, option_map, onto, low_bits, run_of, open_gap, closed_event, event_in, HoldsGap, IsYoung, heard_at, heard_at-abort, heard_at-flag}
use Rattle.lapd_bits.proofs.AtOnce.{HoldsGap-none}
use Rattle.lapd_bits.proofs.OneBit.{HoldsPast-abort, HoldsPast-flag, ends_here, here_is, one_kept, one_at_most, below_seven, HoldsGap-more, hears-quiet}
use Rattle.lapd_bits.proofs.deframer.Deframer.bit.Goals as goal
use Rattle.lapd_bits.proofs.deframer.Deframer.bit.Goals.{then-bit, else-bit, then-ones-eq5, else-ones-eq5}

pub returns-then-bit-2-clause-hears : goal.returns-then-bit-2-clause-hears
returns-then-bit-2-clause-hears c =
    let old = c.args.self.now in
    let room = length old.octets.items in
    let new = c.given_up.new.self in
    let s = c.given_up.ensures in
    let is = c.if-bit-2.true in
    let ones : c.if-bit.self ≡ 7 = elim c.if-bit.branch [
      | then-bit w ↦ omega (arith, w.self-is, w.min-self.ensures, c.if-ones-eq6.true)
      | else-bit w ↦ absurd (false≢true (sym w.if-bit.false ∙ is))
    ] in
    record {
      room = ap (λ v. length v.items) s.octets;
      stands = λ past h.
          let run = h.run in
          HoldsPast-abort new.octets.items new.ones new.gap c.args.bit past is (omega (arith, run, c.if-ones-eq6.true)) (s.ones ∙ ones) s.gap;
      told = λ past h.
          let run = h.run in
          ap (λ o. event_in o.items c.given_up.result) s.octets ∙ s.told (open_gap past) h.open_is
          ∙ sym (ap (λ b. heard_at room (b ∷ past)) is ∙ heard_at-abort room past (omega (arith, run, c.if-ones-eq6.true)));
      quiet = s.quiet;
      untouched = λ _. ap (λ v. v.items) s.octets;
      grows = λ n _. subst (IsYoung (n + 1)) (sym s.gap) tt;
      anew = λ _. subst (IsYoung 1) (sym s.gap) tt;
    }

pub returns-then-ones-eq6-clause-hears : goal.returns-then-ones-eq6-clause-hears
returns-then-ones-eq6-clause-hears c =
    let old = c.args.self.now in
    let room = length old.octets.items in
    let closed = c.close_after-ended in
    let s = closed.ensures in
    let is = c.if-bit-2.false in
    let none : c.if-bit.self ≡ 0 = elim c.if-bit.branch [
      | then-bit w ↦ absurd (false≢true (sym is ∙ w.if-bit.true))
      | else-bit w ↦ w.self-is
    ] in
    record {
      room = s.room;
      stands = λ past h.
          HoldsPast-flag closed.new.self.octets.items closed.new.self.ones c.begun.result c.args.bit past is (sym h.run ∙ c.if-ones-eq6.true)
          (s.ones ∙ none) c.begun.ensures.since (c.begun.ensures.stands closed.new.self.octets.items);
      told = λ past h.
          let six : run_of past ≡ 6 = sym h.run ∙ c.if-ones-eq6.true in
          s.told past (ends_here past six) h.open_is ∙ ap (λ p. closed_event room (open_gap p)) (here_is past)
          ∙ sym (ap (λ b. heard_at room (b ∷ past)) is ∙ heard_at-flag room past six);
      quiet = s.quiet refl;
      untouched = λ _. s.untouched refl;
      grows = λ n _. omega (arith, c.begun.ensures.since);
      anew = λ _. omega (arith, c.begun.ensures.since);
    }

pub returns-after-ones-eq5-clause-hears : goal.returns-after-ones-eq5-clause-hears
returns-after-ones-eq5-clause-hears c =
    let old = c.args.self.now in
    let bit = c.args.bit in
    let gap = c.in-Some.gap in
    let new = c.join.new in
    let s = c.join.ensures in
    let same : length new.octets.items ≡ length old.octets.items = sym new.octets.ok.0 ∙ s.room ∙ old.octets.ok.0 in
    let count : ((old.ones ≡ 5) × (c.if-ones-eq5.count ≡ c.from-bits.result)) ⊎ ((old.ones ≢ 5) × (c.if-ones-eq5.count ≡ 1)) = elim c.if-ones-eq5.branch [
      | then-ones-eq5 w ↦ inl (w.if-ones-eq5.true, w.count-is)
      | else-ones-eq5 w ↦ inr (w.if-ones-eq5.false, w.count-is)
    ] in
    hears-quiet bit old _ c.if-ones-eq6.false
    (elim c.if-bit.branch [
      | then-bit w ↦ inl (w.if-bit.true, w.self-is ∙ w.min-self.ensures)
      | else-bit w ↦ inr (w.if-bit.false, w.self-is)
    ])
    same (λ young. let few = subst (IsYoung 7) c.in-Some.is young in s.untouched (omega (arith, few, gap.filled_since, one_at_most bit old.ones _ _ c.from-bits.ensures count)))
    (λ n young. let few = subst (IsYoung n) c.in-Some.is young in omega (arith, few, s.since, c.min-gap.ensures))
    (λ past h.
    let here = subst (λ g. HoldsGap old.octets.items g (open_gap past)) c.in-Some.is h.open_is in
    let below = below_seven old.octets.items old.ones gap past (record { run = h.run; open_is = here }) in
    HoldsGap-more old.octets.items new.octets.items old.ones gap new.self bit (low_bits c.if-ones-eq5.count c.from-bits.result) past h.run
    (one_kept bit old.ones c.if-ones-eq5.count c.from-bits.result below c.if-ones-eq6.false c.from-bits.ensures count)
    (omega (arith, s.since, c.min-gap.ensures)) s.stands here)

pub returns-in_default-clause-hears : goal.returns-in_default-clause-hears
returns-in_default-clause-hears c =
    let old = c.args.self.now in
    let bit = c.args.bit in
    let none = sym c.in_default.is in
    hears-quiet bit old _ c.if-ones-eq6.false
    (elim c.if-bit.branch [
      | then-bit w ↦ inl (w.if-bit.true, w.self-is ∙ w.min-self.ensures)
      | else-bit w ↦ inr (w.if-bit.false, w.self-is)
    ])
    refl (λ _. refl) (λ n _. subst (IsYoung (n + 1)) none tt)
    (λ past h.
    subst (λ g. HoldsGap old.octets.items g (option_map (onto (bit ∷ [])) (open_gap past))) none
    (HoldsGap-none old.octets.items (bit ∷ []) (open_gap past) (subst (λ g. HoldsGap old.octets.items g (open_gap past)) c.in_default.is h.open_is)))
