-- The words with which the proofs of this crate speak, from where they are defined.
pub use Rattle.std.proofs.Common.{All, Bool, Contains, inl, inr, List, None, Some, [], ap, arith, cond, count_by, drop, false, filter, get_or, length, length-set, nat_le, nat_lt, not, refl, set, subst, suc, sym, true, zero, ℕ, ◌&&◌, ◌*◌, ◌++◌, ◌+◌, ◌-◌, ◌<◌, ◌^◌, ◌==◌, ◌||◌, ◌∙◌, ◌∷◌, ◌≡◌, ◌≢◌, ◌≤◌, map, min, replicate, slice_index, take, ◌/◌, ◌⊎◌}
pub use Rattle.std.proofs.lemmas.Bool.{cases_eq, cases_lt, false≢true}
pub use Rattle.std.proofs.lemmas.Bool.Decides.{nat_tests}
pub use Rattle.std.proofs.lemmas.Cmp.{eq_by_cmp_equiv, nat_cmp_total, nat_eq_equiv, on_total, then_total, tied_itself}
pub use Rattle.std.proofs.lemmas.List.{append_assoc, get_or_default, append-nil, get_or-drop, get_or-map, length-drop, map-set}
pub use Rattle.std.proofs.lemmas.List.Elements.{All-from_recursion, All-weaker, filter_passes, recursion_from_All}
pub use Rattle.std.proofs.lemmas.Option.{none-some, same_Some}
pub use Rattle.std.proofs.lemmas.List.Filters.{sum_by-filter_both}
pub use Rattle.std.proofs.lemmas.List.MinMax.{IsFirstBest-keeps, IsFirstBest-takes}
pub use Rattle.std.proofs.lemmas.List.Sorted.{ranks_by}
pub use Rattle.std.proofs.lemmas.List.Sums.{sum_by-append, sum_by-cons, sum_by-insert}
pub use Rattle.std.proofs.lemmas.Map.Lookups.{exact_unsigned}
pub use Rattle.std.specs.Cmp.{IsStrictWeakOrder, IsTotalOrder}
pub use Rattle.std.specs.List.{AllByRecursion, HoldsAt, IsFirstBest, insert, position_or_len, prefix_len, sum_by}
pub use Rattle.std.specs.Ordering.{is_lt, nat_cmp, ordering_reverse, ordering_then}
pub use Rattle.std.specs.declared.cmp.Ordering.{Ordering}
pub use Rattle.std.specs.declared.cmp.Ordering.TheVariants.{Equal}
pub use Rattle.lapd_clock.specs.Firsts.{never}
pub use Rattle.lapd_clock.specs.Given.{lengths_of}
pub use Rattle.lapd_clock.specs.InOrder.{IsInOrder, put_in_order}
pub use Rattle.lapd_clock.specs.Moments.{MovesOne, moment_of}
pub use Rattle.lapd_clock.specs.Places.{expiry_on}
unfoldable pub use Rattle.lapd_clock.specs.Places.{in_order, on_line}
pub use Rattle.lapd_clock.specs.Sound.{IsLeastDue, IsOneEach, IsSound}
pub use Rattle.lapd_clock.specs.Timer.{AreInRange, Lengths, Order, Start, Stop, Timer, duration, is_same, kind_rank, service_rank, tei_rank, timer_cmp}
pub use Rattle.lapd_clock.specs.Timers.{Expiry, Timers, after_due, after_first_due, count_on, due_at, expiry_cmp, first_due, first_moment, is_before, is_held, is_of, time_until, without}
unfoldable pub use Rattle.lapd_clock.specs.Timers.{finds_place, with_order}
pub use Rattle.lapd_clock.specs.declared.held.Held.{Held}
