-- Hand-written answers for `Deframer::take_flag_end`.
use Rattle.lapd_bits.proofs.Vocabulary.{length, refl, event_in}
use Rattle.lapd_bits.proofs.FlagEnd.{ends-flag_end, heard-flag_end, HoldsPast-flag_end}
use Rattle.lapd_bits.proofs.deframer.Deframer.take_flag_end.Goals as goal

pub returns-clause-takes : goal.returns-clause-takes
returns-clause-takes c octet flag =
    let old = c.args.self.now in
    let f = c.args.flag in
    let closed = c.close_after-ended in
    let items = closed.new.self.octets.items in
    record {
      room = closed.ensures.room;
      stands = λ past h.
          HoldsPast-flag_end old.ones octet f.before f.front f.behind f.ones flag past h.run
          items f.ones c.begun.result refl c.begun.ensures.since (c.begun.ensures.stands items);
      told = λ past h.
          heard-flag_end old.ones octet f.before f.front f.behind f.ones flag past h.run (length old.octets.items)
          (event_in items closed.result)
          (closed.ensures.told past (ends-flag_end old.ones octet f.before f.front f.behind f.ones flag past h.run) h.open_is);
    }
