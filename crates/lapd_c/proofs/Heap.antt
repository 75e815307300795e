-- The heap as the allocator of a box, as a call that is generic in the allocator takes it.
use Rattle.lapd_c.proofs.Vocabulary.{[], ◌∷◌, refl, Al, ghosts}
use Rattle.lapd_c.proofs.Machine.{Laws, RattleType, dnil, impl, no, tnil}
use denote.Param.{arg}
use denote.Param.Laws.{arg_laws}
use mir.Syntax.{Dict, Ty, tcons, ty_struct, ty_unit}
use Rattle.std.specs.contracts.alloc.Global as heap
use Rattle.std.proofs.alloc.Global.TheLaws as heap_laws
pub use Rattle.std.specs.contracts.impls.GlobalAllocator.TheImpl.{dict}
pub use Rattle.std_heap.proofs.GlobalAllocator.TheImpl.Met.{passed}
unfoldable pub use Rattle.lapd_c.proofs.Destruct++none.drop.Code.{code as forgets}
pub use contract.BorrowLft.{⊑_refl}
pub use denote.Param.NoDrop.{glues}

abbrev τ : Ty
τ = ty_struct [] (tcons (ty_struct [] (tcons ty_unit tnil)) tnil)

abbrev pub Heap : RattleType
Heap = arg τ no heap.the_row

abbrev pub heap_row_laws : Laws Heap
heap_row_laws = arg_laws τ no heap.the_row heap_laws.the_row_laws refl

abbrev pub no_drop : Dict
no_drop = impl ("lapd_c::Destruct++none::drop" ∷ []) (tcons τ tnil) dnil

abbrev pub on_heap : Al
on_heap = record { row = Heap; laws = heap_row_laws; g = ghosts; d = dict; drops = no_drop }
