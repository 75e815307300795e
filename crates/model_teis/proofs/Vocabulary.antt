-- The words with which the lemmas of tables and lists speak, from where they are defined.
pub use Rattle.std.proofs.Common.{replicate, Bool, List, None, Option, Some, [], ap, arith, cond, drop, false, get_or, inl, inr, length, not, refl, set, subst, suc, sym, true, zero, ℕ, ◌++◌, ◌+◌, ◌-◌, ◌<◌, ◌==◌, ◌∙◌, ◌∷◌, ◌≡◌, ◌≤◌, ◌⊎◌}
pub use Rattle.std.proofs.lemmas.List.Sums.{fails_before_first, passes_at_first}
pub use Rattle.std.proofs.lemmas.List.FromFn.{get_or-range_with_len, length-range_with_len}
pub use Rattle.std.proofs.lemmas.List.Folds.{Any-from_list_any, find_at, list_any_at}
pub use Rattle.std.proofs.lemmas.Bool.{cases_eq, false≢true}
pub use Rattle.std.proofs.lemmas.Bool.Decides.{nat_tests}
pub use Rattle.std.proofs.lemmas.List.{get_or-set_other, get_or-set_same, get_or_default}
pub use Rattle.std.proofs.lemmas.List.Elements.{All-from_recursion, recursion_from_All}
pub use Rattle.std.proofs.lemmas.List.Quantifiers.{position-Some}
pub use Rattle.std.proofs.lemmas.Option.{get_or_from_slice_get, none-some, same_Some, slice_get_within}
pub use Rattle.std.specs.List.{All, AllByRecursion, filter, find, position_or_len}
unfoldable pub use Rattle.std.specs.List.{IsDistinct}
pub use Rattle.model_teis.specs.network.Laws.{IsLowestFree}
pub use Rattle.model_teis.specs.Table.{IsAt, IsSoundTable, Places, automatic, free_place, free_tei, has, is_free, is_off, is_on, place_of, teis_on, freed}
