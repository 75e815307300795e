-- The bits since the latest flag. If no abort is among them, six contiguous 1s stand in them only where a flag ends.
use Rattle.model_card.proofs.OfPorts.Vocabulary.{◌≡◌, Bool, true, false, cond, List, [], ◌∷◌, ◌++◌, drop, reverse, Option, None, Some, option_map, refl, sym, ap, ◌∙◌, append_assoc, flag, ends_flag, since_flag}
use Rattle.std.proofs.lemmas.Bool.{or_parts, or_right}
use Rattle.std.proofs.lemmas.List.{reverse-append, reverse-reverse}
use Rattle.std.proofs.lemmas.Option.{same_Some}
use Rattle.model_bits.specs.Stream.{ends_abort, has_abort}
use Rattle.model_card.specs.ports.WholeLaws.{HasNoSix}

pub flag_here : (l : List Bool) → ends_flag l ≡ true → (rest : List Bool) × (l ≡ flag ++ rest)
flag_here (false ∷ true ∷ true ∷ true ∷ true ∷ true ∷ true ∷ false ∷ rest) e = (rest, refl)
flag_here other e = absurd (cc e)

-- the bits since the latest flag stand before it
pub flag_before : (past g : List Bool) → since_flag past ≡ Some g → (older : List Bool) × (past ≡ g ++ (flag ++ older))
flag_before [] g e = absurd (cc e)
flag_before (b ∷ past) g e = go (ends_flag (b ∷ past)) (since_flag past) (flag_before past) refl refl e
  where
    go : (ends : Bool) (o : Option (List Bool)) → ((h : List Bool) → since_flag past ≡ Some h → (older : List Bool) × (past ≡ h ++ (flag ++ older)))
        → ends_flag (b ∷ past) ≡ ends → since_flag past ≡ o → cond ends (Some []) (option_map (λ h. b ∷ h) o) ≡ Some g → (older : List Bool) × (b ∷ past ≡ g ++ (flag ++ older))
    go true o again at so same =
        let here = flag_here (b ∷ past) at in
        let none : [] ≡ g = same_Some [] g same in (here.0, here.1 ∙ ap (λ h. h ++ (flag ++ here.0)) none)
    go false None again at so same = absurd (cc same)
    go false (Some h) again at so same =
        let there = again h so in
        let more : b ∷ h ≡ g = same_Some (b ∷ h) g same in (there.0, ap (λ l. b ∷ l) there.1 ∙ ap (λ l. l ++ (flag ++ there.0)) more)

-- ---- six contiguous 1s

abbrev six : List Bool
six = true ∷ true ∷ true ∷ true ∷ true ∷ true ∷ []

-- seven of them are an abort wherever they stand
aborts : (front back : List Bool) → has_abort (front ++ (true ∷ (six ++ back))) ≡ true
aborts [] back = refl
aborts (b ∷ front) back = or_right (ends_abort (b ∷ (front ++ (true ∷ (six ++ back))))) (has_abort (front ++ (true ∷ (six ++ back)))) (aborts front back)

false-true : false ≡ true → ⊥
false-true e = absurd (cc e)

-- After a 0 and six 1s, latest first, what comes before decides: a 1 makes an abort, a 0 a flag; and a flag begins with a 0.
six_then : (back older : List Bool) → has_abort (six ++ back) ≡ false → ends_flag (false ∷ ((six ++ back) ++ (flag ++ older))) ≡ false → ⊥
six_then [] older whole stays = false-true (sym stays)
six_then (true ∷ back) older whole stays = false-true (sym whole ∙ aborts [] back)
six_then (false ∷ back) older whole stays = false-true (sym stays)

-- no 0 stands after six 1s
pub no_six : (past g front back : List Bool) → since_flag past ≡ Some g → has_abort g ≡ false → g ≡ front ++ (false ∷ (six ++ back)) → ⊥
no_six [] g front back since whole is = absurd (cc since)
no_six (b ∷ past) g front back since whole is =
    go (ends_flag (b ∷ past)) (since_flag past) (λ h before. no_six past h before back) refl refl since
  where
    none : (front : List Bool) → [] ≡ front ++ (false ∷ (six ++ back)) → ⊥
    none [] e = absurd (cc e)
    none (f ∷ front) e = absurd (cc e)

    at_end : (h older : List Bool) → ends_flag (b ∷ past) ≡ false → past ≡ h ++ (flag ++ older) → has_abort h ≡ false → b ∷ h ≡ false ∷ (six ++ back) → ⊥
    at_end h older at before rest e =
        let zero : b ≡ false = cc e in
        let here : h ≡ six ++ back = ap (drop 1) e in
        let all : b ∷ past ≡ false ∷ ((six ++ back) ++ (flag ++ older)) =
        ap (λ l. b ∷ l) before ∙ ap (λ x. x ∷ (h ++ (flag ++ older))) zero ∙ ap (λ l. false ∷ (l ++ (flag ++ older))) here in
        six_then back older (sym (ap has_abort here) ∙ rest) (sym (ap ends_flag all) ∙ at)

    by_front : (h : List Bool) → ((before : List Bool) → since_flag past ≡ Some h → has_abort h ≡ false → h ≡ before ++ (false ∷ (six ++ back)) → ⊥)
        → ends_flag (b ∷ past) ≡ false → since_flag past ≡ Some h → has_abort h ≡ false → (front : List Bool) → b ∷ h ≡ front ++ (false ∷ (six ++ back)) → ⊥
    by_front h again at so rest [] e = let there = flag_before past h so in at_end h there.0 at there.1 rest e
    by_front h again at so rest (f ∷ front) e = again front so rest (ap (drop 1) e)

    go : (ends : Bool) (o : Option (List Bool))
        → ((h before : List Bool) → since_flag past ≡ Some h → has_abort h ≡ false → h ≡ before ++ (false ∷ (six ++ back)) → ⊥)
        → ends_flag (b ∷ past) ≡ ends → since_flag past ≡ o → cond ends (Some []) (option_map (λ h. b ∷ h) o) ≡ Some g → ⊥
    go true o again at so same = none front (same_Some [] g same ∙ is)
    go false None again at so same = absurd (cc same)
    go false (Some h) again at so same =
        let all = same_Some (b ∷ h) g same in
        by_front h (again h) at so (or_parts (ends_abort (b ∷ h)) (has_abort h) (ap has_abort all ∙ whole)).1 front (all ∙ is)

-- The first seven bits, latest first, end in a 0: no six contiguous 1s stand in those before.
no_six_rest : (past g front rest x y : List Bool) → since_flag past ≡ Some g → has_abort g ≡ false → g ≡ front ++ (false ∷ rest) → rest ≡ x ++ (six ++ y) → ⊥
no_six_rest past g front rest x y since whole is at = by_last (reverse x) (sym (reverse-reverse x))
  where
    by_last : (back : List Bool) → x ≡ reverse back → ⊥
    by_last [] e = no_six past g front y since whole (is ∙ ap (λ r. front ++ (false ∷ r)) (at ∙ ap (λ z. z ++ (six ++ y)) e))
    by_last (b ∷ back) e =
        let turned : x ≡ reverse back ++ b ∷ [] = e ∙ reverse-append (b ∷ []) back in
        let ends : rest ≡ reverse back ++ (b ∷ (six ++ y)) = at ∙ ap (λ z. z ++ (six ++ y)) turned ∙ append_assoc (reverse back) (b ∷ []) (six ++ y) in
        let all : g ≡ (front ++ (false ∷ reverse back)) ++ (b ∷ (six ++ y)) =
        is ∙ ap (λ r. front ++ (false ∷ r)) ends ∙ sym (append_assoc front (false ∷ reverse back) (b ∷ (six ++ y))) in
        by_bit b all
      where
        by_bit : (b : Bool) → g ≡ (front ++ (false ∷ reverse back)) ++ (b ∷ (six ++ y)) → ⊥
        by_bit true all = false-true (sym whole ∙ ap has_abort all ∙ aborts (front ++ (false ∷ reverse back)) y)
        by_bit false all = no_six past g (front ++ (false ∷ reverse back)) y since whole all

-- so in order of time
pub none_before : (past g front rest : List Bool) → since_flag past ≡ Some g → has_abort g ≡ false → g ≡ front ++ (false ∷ rest) → HasNoSix (reverse rest)
none_before past g front rest since whole is x y at =
    let back : rest ≡ reverse y ++ (six ++ reverse x) =
    sym (reverse-reverse rest) ∙ ap reverse at ∙ reverse-append x (six ++ y) ∙ ap (λ l. l ++ reverse x) (reverse-append six y) ∙ append_assoc (reverse y) six (reverse x) in
    no_six_rest past g front rest (reverse y) (reverse x) since whole is back
