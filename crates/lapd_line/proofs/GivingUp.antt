-- What waits and is of no link is given up: unit data, and what TEI management has going.
use Rattle.lapd_line.proofs.Vocabulary.{◌≡◌, ℕ, ◌≤◌, List, [], length, drop, slice_get, None, ap, subst, ◌∙◌, arith, drop_all, none-some, Owned, Store, SameLimits, Line, UnitData, at_management, at_no_link, of_management, without_units, LinkLayer, BareReport, LayerStands, Serves, always, down}
use Rattle.lapd_line.proofs.PullTakesUnits.{none_for}
use Rattle.lapd_line.proofs.UnitSteps.{waiting}

-- where no unit data waits, none is given up
none_less : (ds : List UnitData) → slice_get ds 0 ≡ None → ds ≡ drop 1 ds
none_less ds none = grind (arith, none-some)

pub no_unit_given_up : (e : LinkLayer) (s : Store) → None ≡ slice_get e.units.waiting 0 → (others : List Owned) (m : Line) → LayerStands e s others m → LayerStands e s others (record m { units = drop 1 m.units })
no_unit_given_up e s none others m st = grind (arith, none_less, none_for)

-- as many as wait are all
pub all_given_up : (e new : LinkLayer) (s t : Store) (count : ℕ) → length e.units.waiting ≤ count
    → ((others : List Owned) (m : Line) → LayerStands e s others m → LayerStands new t others (record m { units = drop count m.units }))
    → (others : List Owned) (m : Line) → LayerStands e s others m → LayerStands new t others (without_units m)
all_given_up e new s t count all given_up others m st =
    subst (λ ds. LayerStands new t others (record m { units = ds })) (drop_all count m.units (omega (arith, all, waiting e s others m st))) (given_up others m st)

-- and then TEI management gives up what it has going
pub given_up : {e mid new : LinkLayer} {s u t : Store} {o : BareReport} → mid.config ≡ e.config → SameLimits s u
    → ((others : List Owned) (m : Line) → LayerStands e s others m → LayerStands mid u others (without_units m))
    → Serves (always (at_management down)) [] mid u new t o → Serves (always at_no_link) [] e s new t o
given_up {new = new} {t = t} same limits units served = record {
  config = served.config ∙ same;
  limits = record { slots = served.limits.slots ∙ limits.slots; width = served.limits.width ∙ limits.width };
  stands = λ others m st.
      subst (λ c. LayerStands new t others (of_management c down (without_units m)).line) same (served.stands others (without_units m) (units others m st));
  told = λ others m st. served.told others (without_units m) (units others m st) ∙ ap (λ c. (of_management c down (without_units m)).told) same;
}
