-- The words with which the proofs of this crate speak, from where they are defined.
pub use Rattle.std.proofs.Common.{Bool, List, [], ap, arith, cond, false, get_or, length, length-set, map, min, refl, set, subst, sym, take, true, ℕ, ◌%◌, ◌*◌, ◌+◌, ◌<◌, ◌==◌, ◌∙◌, ◌∷◌, ◌≡◌, ◌≤◌}
pub use Rattle.std.proofs.lemmas.Bool.{eq-eqb, eqb-false, eqb-true}
pub use Rattle.std.proofs.lemmas.List.{get_or-set_other, get_or-set_same}
pub use Rattle.std.proofs.lemmas.List.FromFn.{get_or-map-range_with_len}
pub use Rattle.std.proofs.lemmas.List.Sums.{sum_by-cons}
pub use Rattle.std.specs.List.{range_with_len}
pub use Rattle.lapd_count.specs.Counters.{amount_in, amount_of, count, most, place, value_in, with_all, with_more}
pub use Rattle.lapd_count.specs.Kinds.{kind_of}
pub use Rattle.lapd_count.specs.Laws.{ControlsHaveKinds, CountersAreNumbers, PlacesAreNames}
pub use Rattle.lapd_count.specs.Shown.{note_shown}
pub use Rattle.lapd_count.specs.declared.counter.Counter.{Counter}
pub use Rattle.lapd_count.specs.declared.counter.Counter.TheVariants.{Assigned, Data, Denied, Doubled, Dropped, Errors, EstablishConfirms, EstablishIndications, Frames, Lost, Messages, Octets, Overlong, Polls, ReleaseConfirms, ReleaseIndications, Removed, RemovedAll, Unassigned, Units, Xids}
pub use Rattle.lapd_count.specs.declared.counter.Way.TheVariants.{Begun, Heard}
pub use Rattle.lapd_count.specs.declared.counters.Counters.{Counters}
pub use Rattle.lapd_count.specs.declared.kinds.Kind.{Kind}
pub use Rattle.lapd_count.specs.declared.kinds.Kind.TheVariants.{Information}
pub use Rattle.lapd_count.specs.declared.kinds.TheConstants.{KINDS}
pub use Rattle.lapd_count.specs.declared.messages.MessageType.{MessageType}
pub use Rattle.lapd_frame.specs.declared.notes.ErrorCode.{ErrorCode}
pub use Rattle.model_bits.specs.declared.heard.Cause.{Cause}
pub use Rattle.model_bits.specs.declared.heard.Cause.TheVariants.{Abort, Extension, Fcs, Ragged, Sapi, Short, Tei, Unserved}
