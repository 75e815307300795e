-- Hand-written answers for `Deframer::bit_by_bit`.
use Rattle.lapd_bits.proofs.Vocabulary.{◌≡◌, ◌++◌, ◌∷◌, ◌/◌, ◌^◌, nat_eq, bit_and, ◌+◌, sym, ◌∙◌, ap, subst, refl, inl, inr, arith, length, vec_len, option_to_list, append-nil, heard_until, heard_at, HoldsPast, FitsIn, event_in, with_bits}
use Rattle.lapd_bits.proofs.BitSteps.{with_bits-none, with_bits-more, told_nothing_more, told_event_more, IsYoung-le, EndedEarlier, event_stays, ended_still, nothing_before}
use Rattle.lapd_bits.proofs.deframer.Deframer.bit_by_bit.Goals as goal
use Rattle.lapd_bits.proofs.deframer.Deframer.bit_by_bit.Goals.{in-Nothing, in_default}

pub loop-place-init : goal.loop-place-init
loop-place-init c =
    record {
      fits = omega arith;
      room = refl;
      stands = λ past h. subst (HoldsPast c.args.self.now.octets.items c.args.self.now.ones c.args.self.now.gap) (sym (with_bits-none c.args.octet past)) h;
      told = λ past h. ap (heard_until (length c.args.self.now.octets.items)) (with_bits-none c.args.octet past) ∙ sym (append-nil (heard_until (length c.args.self.now.octets.items) past));
      young = inl refl;
    }

pub loop-place-preserved : goal.loop-place-preserved
loop-place-preserved c =
    let i = c.loop-place.invariant in
    let b = c.bit.ensures in
    let old = c.loop-place.self in
    let new = c.bit.new.self in
    let place = c.loop-place.place in
    let octet = c.args.octet in
    let bit = nat_eq (bit_and (octet / 2 ^ place) 1) 1 in
    let room = length c.args.self.now.octets.items in
    let stays : length new.octets.items ≡ room = b.hears.room ∙ i.room in
    let same : vec_len old.octets ≡ vec_len new.octets = old.octets.ok.0 ∙ sym b.hears.room ∙ sym new.octets.ok.0 in
    elim c.match-bit.branch [
      | in-Nothing w ↦ record {
        fits = subst (λ e. FitsIn (vec_len new.octets) e) (sym w.ended-is) (subst (λ n. FitsIn n c.loop-place.ended) same i.fits);
        room = stays;
        stands = λ past h.
            subst (HoldsPast new.octets.items new.ones new.gap) (sym (with_bits-more place octet past)) (b.hears.stands (with_bits place octet past) (i.stands past h));
        told = λ past h.
            let so_far = with_bits place octet past in
            let heard = b.hears.told so_far (i.stands past h) in
            ap (heard_until room) (with_bits-more place octet past)
            ∙ told_nothing_more room past so_far bit (event_in old.octets.items c.loop-place.ended) (event_in new.octets.items c.match-bit.ended) (i.told past h)
            (sym (ap (event_in new.octets.items) w.in-Nothing.is) ∙ heard ∙ ap (λ r. heard_at r (bit ∷ so_far)) i.room)
            (event_stays old.octets.items new.octets.items c.loop-place.ended old.gap place c.loop-place-test.true i.young b.hears.untouched
            ∙ ap (event_in new.octets.items) (sym w.ended-is));
        young = subst (λ e. EndedEarlier (place + 1) e new.gap) (sym w.ended-is) (ended_still place c.loop-place.ended old.gap new.gap i.young (b.hears.grows place));
      }
      | in_default w ↦
          let nothing = nothing_before place c.loop-place.ended c.bit.result old.gap c.loop-place-test.true i.young b.hears.quiet w.in_default.not-Nothing in
          record {
            fits = subst (λ e. FitsIn (vec_len new.octets) e) (sym w.ended-is) b.fits;
            room = stays;
            stands = λ past h.
                subst (HoldsPast new.octets.items new.ones new.gap) (sym (with_bits-more place octet past)) (b.hears.stands (with_bits place octet past) (i.stands past h));
            told = λ past h.
                let so_far = with_bits place octet past in
                let heard = b.hears.told so_far (i.stands past h) in
                ap (heard_until room) (with_bits-more place octet past)
                ∙ told_event_more room past so_far bit (event_in new.octets.items c.match-bit.ended)
                (i.told past h ∙ ap (λ e. heard_until room past ++ option_to_list (event_in old.octets.items e)) nothing)
                (ap (event_in new.octets.items) w.ended-is ∙ heard ∙ ap (λ r. heard_at r (bit ∷ so_far)) i.room);
            young = inr (IsYoung-le 1 (place + 1) new.gap (omega arith) (b.hears.anew w.in_default.not-Nothing));
          }
    ]
