-- What a C program's numbers say, in words of their own: not by those that the contracts of the calls use.
use Rattle.std.specs.Prelude.{◌≡◌, ◌≢◌, ◌≤◌, ◌<◌, ℕ, List, get_or, Some, None}
use Rattle.lapd_frame.specs.declared.addresses.Side.TheVariants.{User, Network}
use Rattle.lapd_frame.specs.declared.readings.Reading.TheVariants.{Profile, AnnexB}
use Rattle.model_line.specs.declared.config.Field.{Field}
use Rattle.model_line.specs.Config.{first_fault}
use Rattle.lapd_c.specs.Config.{config_fault, config_in}
use Rattle.lapd_c.specs.Statuses.{field_status}
use Rattle.lapd_c.specs.declared.plain.config.PlainConfig.{PlainConfig}

-- The configuration of a card has each size and limit as C gives it, the side, the SAPI and the reading. Side 1 is a trunk's end,
-- and side 2 a terminal with its first reference number. SAPI 0 stands for 16.
pub record ConfigurationIsGiven (p : PlainConfig) : Type 0 where
  pub lines : (config_in p).lines ≡ p.lines
  pub terminals : (config_in p).terminals ≡ p.terminals
  pub k : (config_in p).k ≡ p.k
  pub k16 : (config_in p).k16 ≡ p.k16
  pub queue : (config_in p).queue ≡ p.queue
  pub unit_queue : (config_in p).unit_queue ≡ p.unit_queue
  pub control : (config_in p).control ≡ p.control
  pub slots : (config_in p).slots ≡ p.slots
  pub n201 : (config_in p).n201 ≡ p.n201
  pub n200 : (config_in p).n200 ≡ p.n200
  pub network : p.side ≡ 0 → ((config_in p).side ≡ Network) × ((config_in p).seed ≡ None)
  pub trunk : p.side ≡ 1 → ((config_in p).side ≡ User) × ((config_in p).seed ≡ None)
  pub terminal : p.side ≡ 2 → ((config_in p).side ≡ User) × ((config_in p).seed ≡ Some p.seed)
  pub sapi : p.sapi ≢ 0 → (config_in p).sapi ≡ p.sapi
  pub usual_sapi : p.sapi ≡ 0 → (config_in p).sapi ≡ 16
  pub profile : p.reading ≡ 0 → (config_in p).reading ≡ Profile
  pub annex_b : p.reading ≡ 1 → (config_in p).reading ≡ AnnexB

-- All places of a list are 0.
abbrev pub AreAllZero : List ℕ → Type 0
AreAllZero places = (place : ℕ) → get_or places place 0 ≡ 0

-- A start tells the first of these that is out of range, after them a side over 2, then a reading over 1, and then that what is for a
-- later version is not 0. It tells nothing else.
pub record ConfigurationIsServed (p : PlainConfig) : Type 0 where
  pub bad_field : (f : Field) → first_fault (config_in p) ≡ Some f → config_fault p ≡ Some (field_status f)
  pub bad_side : first_fault (config_in p) ≡ None → 2 < p.side → config_fault p ≡ Some 43
  pub bad_reading : first_fault (config_in p) ≡ None → p.side ≤ 2 → 1 < p.reading → config_fault p ≡ Some 45
  pub used : (place : ℕ) → first_fault (config_in p) ≡ None → p.side ≤ 2 → p.reading ≤ 1 → get_or p.reserved place 0 ≢ 0 → config_fault p ≡ Some 47
  pub in_range : first_fault (config_in p) ≡ None → p.side ≤ 2 → p.reading ≤ 1 → AreAllZero p.reserved → config_fault p ≡ None

abbrev pub ConfigurationsAreGiven : Type 0
ConfigurationsAreGiven = (p : PlainConfig) → ConfigurationIsGiven p × ConfigurationIsServed p
