-- Two configurations. Worked values, tests and wrong machines say in what theirs differ from one of them, so that a new field
-- stands here alone.
use Rattle.std.specs.Prelude.{None}
use Rattle.lapd_frame.specs.declared.addresses.Side.TheVariants.{Network}
use Rattle.lapd_frame.specs.declared.readings.Reading.TheVariants.{Profile}
use Rattle.model_line.specs.declared.config.Config.{Config}

-- The usual one: the network's side of a line on which eight TEIs can be.
abbrev pub usual : Config
usual = record {
  lines = 1;
  terminals = 8;
  k = 7;
  k16 = 7;
  queue = 8;
  unit_queue = 4;
  control = 4;
  slots = 64;
  n201 = 260;
  n200 = 3;
  side = Network;
  sapi = 16;
  seed = None;
  reading = Profile;
}

-- The least one: no size and no limit can be less.
abbrev pub least : Config
least = record usual { terminals = 1; k = 1; k16 = 1; queue = 1; unit_queue = 1; control = 2; slots = 1; n201 = 8; n200 = 0 }
