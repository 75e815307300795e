-- How the parts of a region belong together. No public clause cites this file.
use Rattle.std.specs.Prelude.{◌≡◌, ◌^◌, ◌<◌, length}
use Rattle.lapd_store.specs.declared.region.Region.TheInside.{Inside}

-- the octets and the right to give them back are of one block, of this size
pub record IsBlock (r : Inside) : Type 0 where
  pub octets : r.octets.at ≡ r.base.ptr
  pub long : length r.octets.written ≡ r.size
  pub small : r.size < 2 ^ 63
  pub deed : r.deed.at ≡ r.base.ptr
  pub deed_size : r.deed.size ≡ r.size
  pub deed_alloc : r.deed.alloc ≡ r.alloc
