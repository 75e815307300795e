-- The words with which the proofs of this crate speak, from where they are defined.
pub use Rattle.std.proofs.Common.{Bool, IfSome, List, None, Option, Some, [], ap, arith, cond, drop, false, inl, inr, length, length-append, nat_le, refl, replicate, rules, slice_index, subst, suc, sym, take, true, zero, ℕ, ◌&&◌, ◌++◌, ◌+◌, ◌<◌, ◌==◌, ◌||◌, ◌∙◌, ◌∷◌, ◌≡◌, ◌≤◌, ◌⊎◌}
pub use Rattle.std.proofs.lemmas.Bool.{false≢true}
pub use Rattle.std.proofs.lemmas.Bool.Decides.{nat_tests}
pub use Rattle.std.proofs.lemmas.List.{get_or_default, take-replicate}
pub use Rattle.std.proofs.lemmas.List.Elements.{All-append, All-cons, All-nil}
pub use Rattle.std.proofs.lemmas.Option.{none-some}
pub use Rattle.std.specs.List.{AllByRecursion, filter, list_any, position}
unfoldable pub use Rattle.std.specs.List.{IsDistinct}
pub use Rattle.lapd_frame.specs.declared.readings.Reading.{Reading}
pub use Rattle.lapd_frame.specs.declared.readings.Reading.TheVariants.{AnnexB, Profile}
pub use Rattle.lapd_frame.specs.Readings.{by_reading}
pub use Rattle.model_teis.specs.declared.network.check.Check.{Check}
pub use Rattle.model_teis.specs.declared.network.check.Period.TheVariants.{First, Second, Settling}
pub use Rattle.model_teis.specs.network.Machine.{Management}
pub use Rattle.model_teis.specs.declared.network.remembered.Remembered.{Remembered}
pub use Rattle.model_teis.specs.declared.network.messages.Message.TheVariants.{IdentityAssigned, IdentityCheckRequest, IdentityDenied, IdentityRemove}
pub use Rattle.model_teis.specs.declared.network.messages.Message.{Message}
pub use Rattle.model_teis.specs.network.Messages.{action_of, is_last, responses_in, up_to}
pub use Rattle.model_teis.specs.network.Rows.{count, counted, is_among, is_checked, respond}
pub use Rattle.model_teis.specs.Table.{IsAt, IsSoundTable, Places, is_on, place_of, teis_on}
pub use Rattle.model_teis.specs.network.Sound.{AreSoundChecks, IsAsRead, IsSound, IsSoundCheck, IsSoundMemory, IsSoundQueue, MayBeDue, same_ri, same_tei}
pub use Rattle.model_teis.specs.network.Words.{Course, begun, due_at, is_of_other, with_message}
pub use Rattle.lapd_tei.specs.Outcome.{management_of}
