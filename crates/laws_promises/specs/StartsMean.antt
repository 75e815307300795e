-- What a card and a shelf of Rattle may begin with.
use Rattle.std.specs.Prelude.{◌≡◌, ◌⊎◌, ℕ, ◌<◌, ◌≤◌, None, Some}
use Rattle.std.specs.FinMap as map
use Rattle.lapd_frame.specs.declared.addresses.Side.TheVariants.{Network}
use Rattle.lapd_frame.specs.declared.readings.Reading.TheVariants.{Profile}
use Rattle.lapd_card.specs.Start.{start_fault}
use Rattle.lapd_card.specs.declared.fault.CardFault.TheVariants.{BadConfig, ShelfTooSmall}
use Rattle.lapd_store.specs.Store.{Store, empty_store}
use Rattle.model_line.specs.Config.{first_fault}
use Rattle.model_line.specs.declared.config.Config.{Config}
use Rattle.model_line.specs.declared.config.Field.{Field}
use Rattle.model_line.specs.declared.config.TheConstants.Config.{USUAL}

pub record StartsMeanThis : Type 0 where
  -- The usual configuration, `Config::USUAL`, has these values, field by field (profile; the windows, N201 and N200 by Q.921
  -- clause 5.9).
  pub usual : USUAL ≡ record {
    lines = 1;
    terminals = 8;
    k = 7;
    k16 = 7;
    queue = 8;
    unit_queue = 4;
    control = 4;
    slots = 64;
    n201 = 260;
    n200 = 3;
    side = Network;
    sapi = 16;
    seed = None;
    reading = Profile;
  }
  -- A shelf that has just begun has as many slots as were asked for, as wide as asked, and each of them is free (profile).
  pub shelf : (slots width : ℕ) → empty_store slots width ≡ record { contents = map.empty; slots = slots; width = width }
  -- Let no field of a configuration be out of range, and let a shelf have begun with as many slots as that says, or more,
  -- each as wide as its information fields, or wider. Then a card starts, if there is memory. Else it says why not (profile).
  pub starts : (c : Config) (slots width : ℕ) → first_fault c ≡ None → c.slots ≤ slots → c.n201 ≤ width → start_fault c (empty_store slots width) ≡ None
  pub wrong : (c : Config) (shelf : Store) (field : Field) → first_fault c ≡ Some field → start_fault c shelf ≡ Some (BadConfig field)
  pub too_small : (c : Config) (shelf : Store) → first_fault c ≡ None → (shelf.slots < c.slots) ⊎ (shelf.width < c.n201) → start_fault c shelf ≡ Some ShelfTooSmall
