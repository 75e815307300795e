-- The words with which the proofs of this crate speak of pointers and of what is owned behind them, from where they are
-- defined.
pub use base.Fml.{Fml, Incl, Incl-refl, Lft, Share, fat, ffalse, flft, froom, ftrue}
pub use base.Logic.{SProp, apply∗, emp, ent, id⊢, mono_r, never, sep, snd∗, via, wand}
pub use contract.BorrowLft.{⊑_trans, ◌⊑◌}
pub use contract.Monad.{fact, fact_i}
pub use contract.Running.{tables}
pub use denote.Builtin.{RefOf, unit, usize}
pub use denote.Exit.{yes}
pub use denote.Laws.{Is}
pub use denote.Opens.{hide, unhide}
pub use denote.Param.{bounded, layout, param}
pub use denote.Param.Laws.{Laws, of_field}
pub use denote.Param.Shared.{copy_shared}
pub use denote.Plain.{uint_in, uint_out}
pub use denote.RattleType.{RattleType, Valss, owns}
pub use denote.RawPtr.{Ptr, RawPtr, block_ptr, in_a_block, null_ptr, ptr_val}
pub use denote.Shadow.{makes_shadow, shadow}
pub use denote.Shares.{Shares-less}
pub use denote.Sharing.{ShrLaws, said}
pub use denote.SharingLaws.{beside_shr_laws, nothing_shr_laws, said_shr_laws}
pub use denote.Signature.{Slot, plain, type_at, types_at}
pub use denote.Slice.{ShrSlice, elements_shared, slice_val}
pub use denote.Steps.{closes, heard, nothing, opens, owned}
pub use denote.Struct.Field.{u8-field}
pub use denote.Struct.Laws.{u8-copy, u8-laws}
pub use denote.Struct.Lending.{Lends, Lends-both, Lends-false, Lends-nothing, of_Lends}
pub use denote.Struct.Struct.{Struct, Struct-Makes, within}
pub use denote.Struct.Tuple.{Tuple, tuple_type}
pub use denote.Triple.Call.{calls_at, calls_at_last}
pub use denote.Triple.Entry.{alive}
pub use denote.Triple.Table.{framed}
pub use denote.Triple.Walked.{Goes-dropped, Goes-ref, Stays, stay_dropped, stay_ref, walk_of}
pub use mir.MapTy.{inst_fn}
pub use mir.Syntax.{Args, Body, Fn, Ty, a_type, dcons, dnil, named, tcons, tnil, ty_array, ty_int, ty_ptr, ty_struct, ty_unit, w8}
pub use mir.Val.{Val, WT, has_ty, of_list, vcons, vint, vnil, vptr, vstruct, vunit}
pub use prog.Capped.{capped_is}
pub use prog.Wp.{Env, Wp, WpFn, after_seq, at_return}
pub use seplogic.Ra.Ura.{Ura}
pub use types.ByLocal.{alloc_all, env, free_all, get, get_in, get_tag, give_at, lands_as, lands_last, look_at, pass_all, sets, sets_last, take_at, through}
pub use types.Kit.{ !, Post, any_q, assume, at_ret, await, by, done, drop, feq_i, feq_l, fjoin, fjoin3, flt_i, fpack, frame, fsplit, fsplit3, given, group, join, keep, later, learn, move, prop, qed, raw, regoal, rewrite, split, use0, use1, use2, use3, ‵, ◌$◌, ◌∵◌, ◌⊛◌}
pub use types.Logic.{Logic, sem}
pub use types.Match.{in_variant, live, vrt}
pub use types.Part.{agg, sub, whole}
pub use types.Run.{and_then, assigns_last, bin, blocks, enter, exec, first, fld, init, lit, no_more, of_opd, returns, stop, switches_on, unit_lit}
