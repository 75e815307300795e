-- The words with which the proofs of this crate speak, from where they are defined.
pub use Rattle.std.proofs.Common.{Bool, Err, IfOk, IsOkAnd, IsTrue, List, None, Ok, Option, Result, Some, [], ap, arith, cond, drop, false, inl, inr, length, length-append, lit<, refl, slice_index, subst, suc, sym, take, true, zero, ℕ, ◌%◌, ◌*◌, ◌++◌, ◌+◌, ◌/◌, ◌<◌, ◌==◌, ◌↔◌, ◌∙◌, ◌∷◌, ◌≡◌, ◌≢◌, ◌≤◌, ◌⊎◌}
pub use Rattle.std.proofs.Math.Seq.{take-append_seam}
pub use Rattle.std.proofs.lemmas.Bool.{eq-eqb, eqb-true, ne_eqb}
pub use Rattle.std.proofs.lemmas.Bool.Decides.{eqb_tells}
pub use Rattle.std.proofs.lemmas.List.Elements.{All-append, All-cons, All-head, All-nil, All-tail}
pub use Rattle.std.proofs.lemmas.Slice.{drop-append-drop}
pub use Rattle.model_bits.specs.StuffingLaws.{AreOctets}
pub use Rattle.lapd_frame.specs.Faults.{HasAddress, HasControl, IsFault, has_bad_extension, is_short}
pub use Rattle.lapd_frame.specs.Grammar.{IsFrame, Parts, Spells, address_field, allows, cr_bit, exactly, head_of, one_of, parts_of, row, second_octet, spelling, takes}
pub use Rattle.lapd_frame.specs.Overlong.{IsLong, is_ui, is_unit}
pub use Rattle.lapd_frame.specs.Reading.{address_of, checked, completed, long_kind, long_of, outcome_of, sized, start_of}
unfoldable pub use Rattle.lapd_frame.specs.Reading.{control_of, header_of, reading, supervisory_of, unnumbered_of}
pub use Rattle.lapd_frame.specs.declared.addresses.Address.{Address}
pub use Rattle.lapd_frame.specs.declared.addresses.Side.{Side}
pub use Rattle.lapd_frame.specs.declared.addresses.Side.TheVariants.{Network, User}
pub use Rattle.lapd_frame.specs.declared.controls.Control.{Control}
pub use Rattle.lapd_frame.specs.declared.controls.Control.TheVariants.{Disc, Dm, Frmr, Information, ReceiveNotReady, ReceiveReady, Reject, Sabme, Ua, Ui, Xid}
pub use Rattle.lapd_frame.specs.declared.faults.ReadFault.{ReadFault}
pub use Rattle.lapd_frame.specs.declared.faults.ReadFault.TheVariants.{BadExtension, Short, Undefined, WrongSize}
pub use Rattle.lapd_frame.specs.declared.frames.Frame.{Frame}
pub use Rattle.lapd_frame.specs.declared.overlong.Long.{Long}
pub use Rattle.lapd_seq.proofs.Callers.{is_seq}
unfoldable pub use Rattle.lapd_seq.specs.Numbers.{seq}
pub use Rattle.lapd_seq.specs.declared.numbers.Seq.{Seq}
