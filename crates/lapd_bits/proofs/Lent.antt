-- What a deframer takes with an octet, and what it lends until the next.
use Rattle.lapd_bits.proofs.Vocabulary.{arith, ◌≡◌, ℕ, Bool, List, [], ◌∷◌, ◌++◌, Option, length, reverse, sym, ap, ◌∙◌, append-nil, option_to_list, option_map, same_from_push, bits, low_bits, Event, heard_until, heard_in, room_for, open_gap, HoldsGap, HoldsPast, IsContent, IsJoined, Takes, with_bits, unstuffed_after, quiet}
use Rattle.lapd_bits.specs.Deframer.{DeframerStands}
use Rattle.lapd_bits.specs.declared.deframer.Deframer.{Deframer}
use Rattle.lapd_bits.specs.declared.ended.Ended.TheVariants as ended
use Rattle.lapd_bits.proofs.BitSteps.{with_bits-octet}
use Rattle.lapd_bits.proofs.AtOnce.{EndsNothing-by_test, HoldsPast-quiet, joined, run-after, stays-after}
use Rattle.lapd_bits.proofs.Idle.{StaysIdle}

-- what the bits of an octet bring, it brings
heard_more : (n201 : ℕ) (past : List ℕ) (octet room : ℕ) (e : Option Event) → room ≡ room_for n201
    → heard_until room (with_bits 8 octet (reverse (bits past))) ≡ heard_until room (reverse (bits past)) ++ option_to_list e
    → heard_in n201 (past ++ octet ∷ []) ≡ heard_in n201 past ++ option_to_list e
heard_more n201 past octet room e is told = grind (arith, with_bits-octet, option_to_list)

-- A deframer that has taken an octet, and lends what it brings, stands for the octets with it.
pub Stands-takes : (n201 octet : ℕ) (past : List ℕ) (old new : Deframer) → DeframerStands n201 old past → Takes octet old new new.ended
    → DeframerStands n201 new (past ++ octet ∷ [])
Stands-takes n201 octet past old new h t = grind (arith, with_bits-octet, heard_more, option_to_list, same_from_push)

-- an octet that ends nothing, of which this is the content
pub takes-content :
    (octet content count run : ℕ) (old new : Deframer) → IsContent old.ones octet content count run
    → length new.octets.items ≡ length old.octets.items → new.ones ≡ run
    → ((g : Option (List Bool)) → IsJoined (low_bits 8 octet) (low_bits count content) g → HoldsGap old.octets.items old.gap g
    → HoldsGap new.octets.items new.gap (option_map (with_bits 8 octet) g))
    → Takes octet old new ended.Nothing
takes-content octet content count run old new c room e taken =
    let text = low_bits 8 octet in
    let q = EndsNothing-by_test old.ones text c.quiet in
    record {
      room = room;
      stands = λ past h.
          let run = h.run in
          HoldsPast-quiet new.octets.items new.ones new.gap old.ones text past (quiet 0 old.ones text past (omega (arith, run, old.ones_counted)) q)
          (e ∙ c.run_is ∙ run-after old.ones text c.quiet)
          (taken (open_gap past)
          (joined past text _ (ap (λ n. unstuffed_after n text) (sym h.run) ∙ stays-after old.ones text _ c.stays))
          h.open_is);
      told = λ past h.
          let run = h.run in
          (quiet (length old.octets.items) old.ones text past (omega (arith, run, old.ones_counted)) q).heard ∙ sym (append-nil (heard_until (length old.octets.items) past));
    }

-- and one of an idle line
pub takes-idle : (octet : ℕ) (d : Deframer)
    → ((past : List Bool) → HoldsPast d.octets.items d.ones d.gap past → StaysIdle d.octets.items d.ones d.gap octet past)
    → Takes octet d d ended.Nothing
takes-idle octet d stays = grind (arith, append-nil)
