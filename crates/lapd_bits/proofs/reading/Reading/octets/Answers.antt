-- Hand-written answers for `Reading::octets`.
use Rattle.lapd_bits.proofs.Vocabulary.{refl, length}
use Rattle.model_bits.specs.Bits.{octets_of}
use Rattle.lapd_bits.specs.Reading.{left_to_read}
use Rattle.lapd_bits.proofs.ReadBack.{all_written, eight_left, written_more}
use Rattle.lapd_bits.proofs.reading.Reading.octets.Goals as goal

pub loop-place-init : goal.loop-place-init
loop-place-init c = record { size_is = refl; read = refl }

pub octet-requires : goal.octet-requires
octet-requires c = record {
  some = eight_left (octets_of (left_to_read c.args.self.now c.args.text.now)) c.args.text.now c.loop-place.octets c.loop-place.self c.loop-place.place (length c.args.octets.now)
      c.loop-place.invariant c.loop-place-test.true c.requires;
}

pub loop-place-preserved : goal.loop-place-preserved
loop-place-preserved c =
    written_more (octets_of (left_to_read c.args.self.now c.args.text.now)) c.args.text.now c.loop-place.octets c.loop-place.self c.octet.new.self c.loop-place.place (length c.args.octets.now) c.octet.result
    c.loop-place.invariant c.loop-place-test.true c.octet.type_inv c.octet.ensures.read

pub returns : goal.returns
returns c =
    all_written (octets_of (left_to_read c.args.self.now c.args.text.now)) c.args.text.now c.loop-place.octets c.loop-place.self c.loop-place.place (length c.args.octets.now)
    c.loop-place.invariant c.loop-place-test.false
