-- The invariants of the loops of `Deframer::bit_by_bit`.
use Rattle.lapd_bits.proofs.Vocabulary.{◌≡◌, ◌⊎◌, Bool, List, ◌++◌, length, vec_len, option_to_list, heard_until, HoldsPast, FitsIn, event_in, IsYoung, with_bits}
use Rattle.lapd_bits.specs.declared.ended.Ended.TheVariants as ended
use Rattle.lapd_bits.proofs.deframer.Deframer.bit_by_bit.Given as goal

abbrev pub invariant-loop-place : goal.invariant-loop-place
invariant-loop-place l =
    record {
      fits : FitsIn (vec_len l.self.octets) l.ended;
      room : length l.self.octets.items ≡ length l.initial.self.octets.items;
      stands : (past : List Bool) → HoldsPast l.initial.self.octets.items l.initial.self.ones l.initial.self.gap past
          → HoldsPast l.self.octets.items l.self.ones l.self.gap (with_bits l.place l.octet past);
      told : (past : List Bool) → HoldsPast l.initial.self.octets.items l.initial.self.ones l.initial.self.gap past
          → heard_until (length l.initial.self.octets.items) (with_bits l.place l.octet past)
          ≡ heard_until (length l.initial.self.octets.items) past ++ option_to_list (event_in l.self.octets.items l.ended);
      young : (l.ended ≡ ended.Nothing) ⊎ IsYoung l.place l.self.gap;
    }
