-- What a line of octets holds of its past: a line, and its port (`OctetLine` of `model_card::ports`).
use Rattle.std.specs.Prelude.{◌≡◌, List}
use Rattle.std.specs.Option.{option_map_or}
use Rattle.lapd_count.specs.declared.counters.Counters.{Counters}
use Rattle.lapd_store.specs.Ownership.{Owned}
use Rattle.lapd_store.specs.Store.{Store, SameLimits}
use Rattle.model_line.specs.declared.config.Config.{Config}
use Rattle.model_line.specs.Counted.{counted}
use Rattle.model_card.specs.ports.Line.{OctetLine, after}
use Rattle.model_card.specs.ports.Port.{Event, meant}
use Rattle.lapd_line.specs.declared.line.Line.{Line}
use Rattle.lapd_line.specs.Ports.{PortStands}
use Rattle.lapd_line.specs.Stands.{LineStands, config_of}

abbrev pub octets_config : Line → Config
octets_config line = config_of line.frames

pub record OctetsStand (line : Line) (store : Store) (others : List Owned) (l : OctetLine) : Type 0 where
  pub frames : LineStands line.frames store others l.line
  pub port : PortStands (octets_config line).n201 line.port l.port

-- What an event shows of what it means to the line of frames is counted.
abbrev pub octets_counted : Config → Event → OctetLine → Counters → Counters
octets_counted c e l k = option_map_or (λ f. counted c f l.line k) (meant c.n201 e l.port) k

-- An event leads a line of octets on.
pub record OctetsLead (event : Event) (old : Line) (s : Store) (new : Line) (t : Store) : Type 0 where
  pub config : octets_config new ≡ octets_config old
  pub limits : SameLimits s t
  pub stands : (others : List Owned) (l : OctetLine) → OctetsStand old s others l → OctetsStand new t others (after (octets_config old) event l)
  pub counted : (others : List Owned) (l : OctetLine) → OctetsStand old s others l
      → new.frames.counters ≡ octets_counted (octets_config old) event l old.frames.counters
