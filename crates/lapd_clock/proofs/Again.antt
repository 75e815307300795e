-- A timer that is started anew in its place.
use Rattle.lapd_clock.proofs.Vocabulary.{◌≡◌, ◌==◌, ◌&&◌, Bool, ℕ, ◌<◌, ◌≤◌, true, false, List, length, length-set, get_or, set, sym, ap, ◌∙◌, subst, arith, get_or-map, nat_eq_equiv, eq_by_cmp_equiv, Timer, Expiry, is_same, is_of, never}
use Rattle.lapd_clock.specs.OwnPlaces.{expiry_of, expiries_of, nothing, at, with_timer, without_timer, IsBeside, IsExchanged, IsRestarted}
use Rattle.lapd_clock.specs.declared.moments.place.Place.{Place}
use Rattle.lapd_clock.proofs.Standing.{changed_is, stopped_is, same_count}
use Rattle.lapd_clock.proofs.TimerOrder.{same_timer, timer_total}

-- Timers that are the same are equal, and one that is of a line is that one.
pub equal : (a b : Timer) → is_same a b ≡ true → a ≡ b
equal a b e = grind (arith, same_timer)

pub itself : (e : Expiry) (line : ℕ) (timer : Timer) → e.line ≡ line → e.timer ≡ timer → is_of line timer e ≡ true
itself e line timer l t =
    ap (λ b. b && is_same e.timer timer) (ap (λ k. k == line) l ∙ nat_eq_equiv.refl line)
    ∙ ap (λ x. is_same x timer) t ∙ (eq_by_cmp_equiv timer_total).refl timer

pub restarted-is : (ps : List Place) (es : List Expiry) (place : ℕ) (u : Place) (line : ℕ) (timer : Timer) (moment : ℕ) → expiries_of ps ≡ es → place < length ps → u ≡ get_or ps place u → u.line ≡ line
    → is_same u.timer timer ≡ true → (u.moment ≡ never → ⊥) → u.moment ≤ never → IsRestarted line timer moment es (expiries_of (set ps place (record u { moment = moment })))
restarted-is ps es place u line timer moment is within at_it own same runs small =
    let it : at place es ≡ expiry_of u = ap (at place) (sym is) ∙ get_or-map expiry_of ps place u nothing within ∙ ap expiry_of (sym at_it) in
    let timer_is : u.timer ≡ timer = equal u.timer timer same in
    record {
      place = place;
      runs = record {
        within = omega (arith, within, same_count ps, ap length is);
        runs = subst (λ (e : Expiry). e.moment < never) (sym it) (less small runs);
        its = ap (is_of line timer) it ∙ itself (expiry_of u) line timer own timer_is;
      };
      is = changed_is ps place u u.timer moment within at_it ∙ ap (with_timer place u.timer moment) is ∙ ap (λ t. with_timer place t moment es) timer_is;
    }
  where
    less : {a b : ℕ} → a ≤ b → (a ≡ b → ⊥) → a < b
    less le ne = grind arith

-- A place is not beside itself.
pub are-apart : (is_next : Bool) (place beside : ℕ) → IsBeside is_next place beside → beside ≡ place → ⊥
are-apart true place beside is same = omega (arith, is, same)
are-apart false place beside is same = omega (arith, is, same)

-- A timer that is stopped in its place, while another is started in the one beside.
pub exchanged-is : (ps : List Place) (es : List Expiry) (place beside : ℕ) (u v w : Place) (line : ℕ) (stopped started : Timer) (is_next : Bool) (moment : ℕ) → expiries_of ps ≡ es → place < length ps → beside < length ps
    → IsBeside is_next place beside → u ≡ get_or ps place u → v ≡ get_or ps beside v → w ≡ get_or (set ps beside (record v { moment = moment; timer = started })) place w → u.line ≡ line → v.line ≡ line
    → is_same u.timer stopped ≡ true → (u.moment ≡ never → ⊥) → u.moment ≤ never
    → IsExchanged line stopped started is_next moment es (expiries_of (set (set ps beside (record v { moment = moment; timer = started })) place (record w { moment = never })))
exchanged-is ps es place beside u v w line stopped started is_next moment is within there are_beside u_at v_at w_at u_line v_line same runs small =
    let it : at place es ≡ expiry_of u = ap (at place) (sym is) ∙ get_or-map expiry_of ps place u nothing within ∙ ap expiry_of (sym u_at) in
    record {
      place = place;
      beside = beside;
      are_beside = are_beside;
      runs = record {
        within = omega (arith, within, same_count ps, ap length is);
        runs = subst (λ (e : Expiry). e.moment < never) (sym it) (less small runs);
        its = ap (is_of line stopped) it ∙ itself (expiry_of u) line stopped u_line (equal u.timer stopped same);
      };
      within = omega (arith, there, same_count ps, ap length is);
      its_line = ap (λ (e : Expiry). e.line) (ap (at beside) (sym is) ∙ get_or-map expiry_of ps beside v nothing there ∙ ap expiry_of (sym v_at)) ∙ v_line;
      is = stopped_is (set ps beside (record v { moment = moment; timer = started })) place w (omega (arith, within, length-set ps beside (record v { moment = moment; timer = started }))) w_at
          ∙ ap (without_timer place) (changed_is ps beside v started moment there v_at ∙ ap (with_timer beside started moment) is);
    }
  where
    less : {a b : ℕ} → a ≤ b → (a ≡ b → ⊥) → a < b
    less le ne = grind arith
