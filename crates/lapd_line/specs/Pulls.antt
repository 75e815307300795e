-- What the entities of a line have done with a call for the next frame.
use Rattle.std.specs.Prelude.{◌≡◌, List, Option, Some, None, option_map}
use Rattle.lapd_frame.specs.declared.short_lists.ShortList.{ShortList}
use Rattle.lapd_frame.specs.declared.timers.Order.{Order}
use Rattle.lapd_frame.specs.ShortLists.{listed}
use Rattle.lapd_store.specs.Ownership.{Owned}
use Rattle.lapd_store.specs.Store.{Store, SameLimits}
use Rattle.model_line.specs.declared.config.Config.{Config}
use Rattle.model_line.specs.Line.{Line}
use Rattle.model_line.specs.Machine.{after}
use Rattle.model_line.specs.Event.{next}
use Rattle.model_line.specs.Taken.{Taken, taken, next_of}
use Rattle.lapd_line.specs.declared.frame_line.FrameLine.{FrameLine}
use Rattle.lapd_line.specs.declared.link_layer.LinkLayer.{LinkLayer}
use Rattle.lapd_line.specs.LinkLayer.{LayerStands}
use Rattle.lapd_line.specs.Loading.{Loading, Loads, IsNext, room_in, reference_in}
use Rattle.lapd_line.specs.Stands as line
use Rattle.lapd_line.specs.Stands.{config_of}

-- A frame was taken and loaded.
pub record HasTaken (k : Taken) (told : List Order) (new : LinkLayer) (t : Store) (others : List Owned) (f g : Loading) : Type 0 where
  pub orders : told ≡ k.orders
  pub stands : LayerStands new t others k.line
  pub loaded : Loads k.frame f g

-- Or there was none, and what a frame is loaded into is as it was.
abbrev pub Took : Option Taken → Option (List Order) → Line → LinkLayer → Store → List Owned → Loading → Loading → Type 0
Took None None m new t others f g = LayerStands new t others m × (g ≡ f)
Took (Some k) (Some orders) m new t others f g = HasTaken k orders new t others f g
Took None (Some orders) m new t others f g = ⊥
Took (Some k) None m new t others f g = ⊥

-- For every past: what the machine takes from a source was taken, and loaded.
pub record Takes (source : Config → Line → Option Taken) (old : LinkLayer) (s : Store) (f : Loading) (new : LinkLayer) (t : Store) (g : Loading) (orders : Option (List Order)) : Type 0 where
  pub config : new.config ≡ old.config
  pub limits : SameLimits s t
  pub room : room_in g ≡ room_in f
  pub reference : reference_in g ≡ reference_in f
  pub took : (others : List Owned) (m : Line) → LayerStands old s others m → Took (source old.config m) orders m new t others f g

abbrev pub orders_taken : Option (ShortList Order) → Option (List Order)
orders_taken orders = option_map listed orders

-- The same of a line, which has counted nothing yet.
pub record TakesNext (old : FrameLine) (s : Store) (f : Loading) (new : FrameLine) (t : Store) (g : Loading) (orders : Option (List Order)) : Type 0 where
  pub config : config_of new ≡ config_of old
  pub limits : SameLimits s t
  pub room : room_in g ≡ room_in f
  pub reference : reference_in g ≡ reference_in f
  pub stands : (others : List Owned) (m : Line) → line.LineStands old s others m → line.LineStands new t others (after (config_of old) next m)
  pub next : (others : List Owned) (m : Line) → line.LineStands old s others m → IsNext (option_map next_of (taken (config_of old) m)) orders f g
  pub uncounted : new.counters ≡ old.counters
