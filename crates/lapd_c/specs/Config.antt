-- The configuration that C gives.
use Rattle.std.specs.Prelude.{ℕ, ◌==◌, nat_lt, Option, Some, None, option_map, if◌then◌else◌}
use Rattle.std.specs.Option.{option_or}
use Rattle.lapd_frame.specs.declared.addresses.Side.{Side}
use Rattle.lapd_frame.specs.declared.addresses.Side.TheVariants.{User, Network}
use Rattle.lapd_frame.specs.declared.readings.Reading.{Reading}
use Rattle.lapd_frame.specs.declared.readings.Reading.TheVariants.{Profile, AnnexB}
use Rattle.model_line.specs.declared.config.Config.{Config}
use Rattle.model_line.specs.Config.{first_fault}
use Rattle.lapd_c.specs.Reserved.{reserve_fault}
use Rattle.lapd_c.specs.Statuses.{bad_reading, bad_side, field_status}
use Rattle.lapd_c.specs.declared.plain.config.PlainConfig.{PlainConfig}

-- The side: 0 the network's, else the user's. Of the latter 1 is a trunk's end, and 2 a terminal.
abbrev pub side_in : ℕ → Side
side_in side = if side == 0 then Network else User

-- A terminal alone has a first reference number (Q.921 clause 5.3.2).
abbrev pub seed_in : ℕ → ℕ → Option ℕ
seed_in side seed = if side == 2 then Some seed else None

-- The SAPI of the second service: 16 where 0 is given.
abbrev pub sapi_in : ℕ → ℕ
sapi_in sapi = if sapi == 0 then 16 else sapi

-- The reading of the tables: 0 the profile, else annex B.
abbrev pub reading_in : ℕ → Reading
reading_in reading = if reading == 0 then Profile else AnnexB

abbrev pub config_in : PlainConfig → Config
config_in p = record {
  lines = p.lines;
  terminals = p.terminals;
  k = p.k;
  k16 = p.k16;
  queue = p.queue;
  unit_queue = p.unit_queue;
  control = p.control;
  slots = p.slots;
  n201 = p.n201;
  n200 = p.n200;
  side = side_in p.side;
  sapi = sapi_in p.sapi;
  seed = seed_in p.side p.seed;
  reading = reading_in p.reading;
}

-- The status of a start where a field is out of range: that of the first. After the card's own come the side, which is 0 to 2,
-- the reading, which is 0 or 1, and what is for a later version, which is 0.
abbrev pub side_fault : PlainConfig → Option ℕ
side_fault p = if nat_lt 2 p.side then Some bad_side else None

abbrev pub reading_fault : PlainConfig → Option ℕ
reading_fault p = if nat_lt 1 p.reading then Some bad_reading else None

abbrev pub config_fault : PlainConfig → Option ℕ
config_fault p = option_or (option_map field_status (first_fault (config_in p))) (option_or (side_fault p) (option_or (reading_fault p) (reserve_fault p.reserved)))
