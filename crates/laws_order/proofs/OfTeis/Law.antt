-- The laws.
use Rattle.std.specs.Prelude.{◌≡◌, ◌⊎◌, true, List}
use Rattle.std.proofs.Common.{inl, inr, subst, sym, ap}
use Rattle.model_teis.specs.declared.network.remembered.Remembered.{Remembered}
use Rattle.laws_order.specs.teis.Bus.{Bus, Past, past_of, begun, network_after, network_of}
use Rattle.laws_order.specs.teis.Assignments.{AssignmentsHold, IsIn}
use Rattle.laws_order.specs.teis.TwoTerminals.{TwoTerminalsDiffer, IsOver, is_older}
use Rattle.laws_order.proofs.OfTeis.Lists.{one-older}
use Rattle.laws_order.proofs.OfTeis.Runs.{Runs, run-so, begins-runs}

pub assignments-hold : AssignmentsHold
assignments-hold b steps can there r is = ((run-so b can begun steps there (begins-runs b can)).holds.given r is).1.covered

pub two-terminals-differ : TwoTerminalsDiffer
two-terminals-differ b other its steps theirs can can_too there there_too same one two is is_too same_tei =
    go (assignments-hold b steps can there one is) (assignments-hold twin theirs can_too there_too two is_too)
  where
    twin : Bus
    twin = record b { terminal = other; line = its }

    p : Past
    p = past_of b steps

    q : Past
    q = past_of twin theirs

    runs : Runs b can p
    runs = run-so b can begun steps there (begins-runs b can)

    its_runs : Runs twin can_too q
    its_runs = run-so twin can_too begun theirs there_too (begins-runs twin can_too)

    made : List Remembered
    made = (network_of b p).made

    One : Type 0
    One = IsIn one (network_of b p).hold ⊎ IsOver b p one

    Two : Type 0
    Two = IsIn two (network_of twin q).hold ⊎ IsOver twin q two

    Says : Type 0
    Says = (one.ri ≡ two.ri) ⊎ (((is_older one two made ≡ true) × IsOver b p one) ⊎ ((is_older two one made ≡ true) × IsOver twin q two))

    made-one : IsIn one made
    made-one = (runs.holds.given one is).1.made

    made-two : IsIn two made
    made-two = subst (λ events. IsIn two (network_after b.network b.number events).made) (sym same) (its_runs.holds.given two is_too).1.made

    equal : one ≡ two → Says
    equal are = inl (ap (λ (r : Remembered). r.ri) are)

    -- The network holds neither, so that one is older.
    either-older : IsOver b p one → IsOver twin q two → (one ≡ two) ⊎ ((is_older one two made ≡ true) ⊎ (is_older two one made ≡ true)) → Says
    either-older over over_too (inl are) = equal are
    either-older over over_too (inr (inl older)) = inr (inl (older, over))
    either-older over over_too (inr (inr older)) = inr (inr (older, over_too))

    first-older : IsOver b p one → (one ≡ two) ⊎ (is_older one two made ≡ true) → Says
    first-older over (inl are) = equal are
    first-older over (inr older) = inr (inl (older, over))

    second-older : IsOver twin q two → (two ≡ one) ⊎ (is_older two one made ≡ true) → Says
    second-older over (inl are) = equal (sym are)
    second-older over (inr older) = inr (inr (older, over))

    held-two : IsIn two (network_of twin q).hold → IsIn two (network_of b p).hold
    held-two holds = subst (λ events. IsIn two (network_after b.network b.number events).hold) (sym same) holds

    go : One → Two → Says
    go (inl holds) (inl holds_too) = equal (runs.holds.alone one two holds (held-two holds_too) same_tei)
    go (inl holds) (inr over) = second-older over (runs.holds.latest one two holds made-two (sym same_tei))
    go (inr over) (inl holds) = first-older over (runs.holds.latest two one (held-two holds) made-one same_tei)
    go (inr over) (inr over_too) = either-older over over_too (one-older one two made made-one made-two)
