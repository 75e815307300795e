-- The words with which the proofs of the network's side speak, from where they are defined.
pub use Rattle.std.proofs.Common.{Bool, IfSome, IsSome, List, None, Option, Some, [], ap, arith, cond, drop, false, get_or, is_some, inl, inr, length, length-append, length-drop, nat_le, not, refl, replicate, set, subst, suc, sym, true, zero, ℕ, ◌++◌, ◌+◌, ◌-◌, ◌<◌, ◌==◌, ◌||◌, ◌∙◌, ◌∷◌, ◌≡◌, ◌≤◌, ◌⊎◌}
pub use Rattle.std.proofs.lemmas.List.Sums.{count_by-le-length, length-filter, sum_by-cons, sum_by-set}
pub use Rattle.std.proofs.lemmas.List.Folds.{sum_by-replicate}
pub use Rattle.std.proofs.lemmas.Bool.{cases_eq, false≢true}
pub use Rattle.std.proofs.lemmas.Bool.Decides.{nat_tests}
pub use Rattle.std.proofs.lemmas.List.{get_or-set_other, get_or-set_same, length-replicate, length-set, set-get_or}
pub use Rattle.std.proofs.lemmas.List.Elements.{All-append, All-cons, All-drop, All-get_or, All-nil, recursion_from_All}
pub use Rattle.std.proofs.lemmas.List.Quantifiers.{position-Some}
pub use Rattle.std.proofs.lemmas.Option.{none-some, same_Some}
pub use Rattle.std.specs.List.{AllByRecursion, filter, find, list_any, position, range_with_len, sum_by}
unfoldable pub use Rattle.std.specs.List.{IsDistinct}
pub use Rattle.std.specs.Option.{option_map}
pub use Rattle.lapd_frame.specs.declared.refusals.Refusal.{Refusal}
pub use Rattle.lapd_frame.specs.declared.timers.Order.{Order}
pub use Rattle.lapd_frame.specs.declared.readings.Reading.{Reading}
pub use Rattle.lapd_frame.specs.declared.readings.Reading.TheVariants.{AnnexB, Profile}
pub use Rattle.lapd_frame.specs.Readings.{by_reading}
pub use Rattle.model_teis.specs.Refused.{refusal_if}
pub use Rattle.model_teis.specs.network.Events.{Event, after, after_offer, disown, message, remove, told, unless_refused}
unfoldable pub use Rattle.model_teis.specs.network.Events.{course, refusal}
pub use Rattle.model_teis.specs.Changes.{Moves, left}
pub use Rattle.model_teis.specs.network.Laws.{Act, AreInRange, AssignsLowest, ChangesAreTold, DisownAllSpares, DisownSendsRemove, DisownSpares, DownGivesUp, ExpiredT201Follows, FewAreLost, FewMoreWait, Follows, IsInRange, IsSoundThroughout, LowestIsAssigned, NewIsAssigned, ReadingStays, T201Follows, UnservedChangesNothing, after_acts, event, most_heard, pull, stop_of}
pub use Rattle.model_teis.specs.Table.{tei_at, IsAt, IsSoundTable, Places, free_place, free_tei, has, is_in_use, is_off, is_on, means, place_of, freed}
pub use Rattle.model_teis.specs.network.Machine.{Check, First, Gained, Management, Period, Remembered, Second, Settling, TeiTold, empty, held, is_due, may_send, messages_limit, nothing, one_if}
pub use Rattle.model_teis.specs.network.Messages.{Heard, IdentityAssigned, IdentityCheckRequest, IdentityDenied, IdentityCheckResponse, IdentityRemove, IdentityRequest, IdentityRequestOf, IdentityVerify, Message, action_of, heard_in, heard_of_type, responses_in}
pub use Rattle.model_teis.specs.network.Rows.{answer_request, asks_for, assign, assign_new, assigns_for, count, counted, doubled, end_if_any, expire, expire_check, expire_period, hear, is_among, is_checked, is_for, join_at, remembered_in, removed, request, request_anew, respond, respond_among, responses, serve, tei_in, verify_beside}
pub use Rattle.model_teis.specs.network.Sound.{AreSoundChecks, IsAsRead, IsSound, IsSoundCheck, IsSoundMemory, IsSoundQueue, MayBeDue, MayBeIn, same_ri, same_tei}
pub use Rattle.model_teis.specs.Steps.{nothing_happens}
pub use Rattle.model_teis.specs.network.Words.{Course, Step, begin_check, begin_next, begun, check_is, check_is_due, check_next, due_at, end_check, is_of_other, latest, leave, lose_one, lost_after, lowest_is_not_due, no_check_is_due, no_room, note, read_as, send, settle, stop_check, unserved, with_message, withdraw}
