-- The words with which the proofs of this crate speak, from where they are defined.
pub use Rattle.std.proofs.Common.{Bool, IfSome, List, None, Option, Some, [], ap, arith, cond, drop, false, get_or, inl, inr, is_some, length, length-append, length-set, max, nat_le, nat_lt, not, refl, replicate, rules, set, slice_get, subst, suc, sym, take, true, zero, ℕ, ◌&&◌, ◌++◌, ◌+◌, ◌-◌, ◌*◌, ◌<◌, ◌==◌, ◌||◌, ◌∙◌, ◌∷◌, ◌≡◌, ◌≤◌, ◌⊎◌}
pub use Rattle.std.proofs.lemmas.Grind.{common_steps}
pub use Rattle.std.proofs.lemmas.List.Sums.{count_by-le-length, fails_before_first, get_or-le-sum_by, length-filter, sum_by-cons, sum_by-set, sum_by-take-drop, sum_by_push}
pub use Rattle.std.proofs.lemmas.List.Filters.{length-filter_both}
pub use Rattle.std.proofs.lemmas.List.Folds.{list_any_at}
pub use Rattle.std.proofs.lemmas.List.{get_or-set_other, get_or-set_same}
pub use Rattle.std.proofs.lemmas.List.Elements.{All-append, All-cons, All-drop, All-from_recursion, All-nil, All-set, recursion_from_All}
pub use Rattle.std.proofs.lemmas.List.Quantifiers.{position-Some}
pub use Rattle.std.proofs.lemmas.Bool.{false≢true}
pub use Rattle.std.proofs.lemmas.Bool.Decides.{nat_tests}
pub use Rattle.std.proofs.lemmas.Option.{none-some, same_Some, slice_get_within, get_or_from_slice_get}
pub use Rattle.std.specs.List.{All, AllByRecursion, count_by, filter, fold, list_any, position, position_or_len}
pub use Rattle.std.specs.Option.{option_map}
pub use Rattle.model_teis.specs.Table.{Places, free_place, has, is_on, place_of, IsAt, IsSoundTable, freed, itself, named, teis_on}
pub use Rattle.model_teis.specs.Changes.{left}
pub use Rattle.model_teis.proofs.Lists.{All-filter_by}
pub use Rattle.model_teis.proofs.Tables.{same_number, on-freed, on-put, on-range, table-freed, table-put, table-empty}
pub use Rattle.model_teis.specs.terminal.Machine.{Asking, Procedure, Terminal, Verifying, fresh}
pub use Rattle.model_teis.specs.terminal.Messages.{IdentityCheckResponse, IdentityRequest, IdentityVerify, Message, action_of}
pub use Rattle.model_teis.specs.terminal.Numbers.{next_number}
pub use Rattle.model_teis.specs.terminal.Sound.{IsSound, IsSoundProcedure, IsSoundQueue, has_slot, is_due, may_ask, may_verify, slot_of}
pub use Rattle.model_teis.specs.terminal.Words.{is_other, is_request, is_response, is_response_of, is_verified, is_verify, put_at, with_request, with_verify}
