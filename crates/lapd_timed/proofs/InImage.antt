-- The moments at the places are those of a clock, in the order of an image.
use Rattle.lapd_clock.proofs.Vocabulary.{◌≡◌, ℕ, ◌*◌, ◌<◌, Bool, true, false, cond, List, [], ◌∷◌, get_or, refl, sym, ap, ◌∙◌, arith, inl, inr, cases_lt, AllByRecursion, filter, Timer, Expiry, is_before, is_of, never, put_in_order, in_order, moment_of}
use Rattle.std.proofs.Common.{◌++◌, ◌&&◌, append-nil}
use Rattle.std.proofs.lemmas.Grind.{flat_map-append}
use Rattle.std.specs.List.{range_with_len}
use Rattle.std.specs.Option.{unwrap_or}
use Rattle.std.specs.Prelude.{Option, None, Some, flat_map, is_some}
use Rattle.lapd_clock.specs.Timer.{T201, T202}
use Rattle.lapd_image.specs.Numbers.{number}
use Rattle.model_link.specs.declared.timers.LinkTimer.{LinkTimer}
use Rattle.model_link.specs.declared.timers.LinkTimer.TheVariants as link
use Rattle.model_link.specs.Told as told
use Rattle.model_line.specs.Line.{Line, link_at, place_at, service_at, tei_at}
use Rattle.model_card.specs.Card.{Card, line_at}
use Rattle.model_timed.specs.Clock.{Clock}
use Rattle.model_image.specs.Clocks.{moment, moments, moments_at}
use Rattle.model_line.specs.Image.{timer_at, timer_numbered}
use Rattle.model_image.proofs.Clocks.{flat-same}
use Rattle.model_line.proofs.Numbers.{below}
use Rattle.lapd_clock.specs.MomentImage.{moment_at}
use Rattle.lapd_timed.specs.MomentsImage.{link_moments, own_moments, line_moments, all_moments, line_runs, RunsHere}
use Rattle.lapd_timed.specs.OfCard.{slot_of, line_slot_of, timer_of, line_timer, Holds, AreApart}
use Rattle.lapd_clock.specs.OwnPlaces.{at, is_running, timers_in, without_timer, IsItsPlace}
use Rattle.lapd_timed.specs.Stands.{IsOn}
use Rattle.lapd_clock.proofs.OwnPlace.{resting, set_own}
use Rattle.lapd_timed.proofs.OfCard.{its_place, line_place}
use Rattle.lapd_clock.proofs.Standing.{parted, runs, rests}

-- ---- a timer in its place

moment-put : (line : ℕ) (timer : Timer) (e : Expiry) (es : List Expiry) → is_of line timer e ≡ true → AllByRecursion (λ x. is_of line timer x ≡ false) es
    → moment_of line timer (put_in_order is_before e es) ≡ Some e.moment
moment-put line timer e [] its only = ap (λ b. cond {A = Option ℕ} b (Some e.moment) None) its
moment-put line timer e (x ∷ xs) its only =
    (elim (is_before x e) as (λ b. moment_of line timer (cond b (x ∷ put_in_order is_before e xs) (e ∷ x ∷ xs)) ≡ Some e.moment) [
      | true ↦ ap (λ b. cond {A = Option ℕ} b (Some x.moment) (moment_of line timer (put_in_order is_before e xs))) only.0 ∙ moment-put line timer e xs its only.1
      | false ↦ ap (λ b. cond {A = Option ℕ} b (Some e.moment) (moment_of line timer (x ∷ xs))) its
    ])

moment-no : (line : ℕ) (timer : Timer) (es : List Expiry) → AllByRecursion (λ x. is_of line timer x ≡ false) es → moment_of line timer es ≡ None
moment-no line timer [] only = refl
moment-no line timer (e ∷ es) only = ap (λ b. cond {A = Option ℕ} b (Some e.moment) (moment_of line timer es)) only.0 ∙ moment-no line timer es only.1

pub moment-here : (es : List Expiry) (i line : ℕ) (timer : Timer) → IsItsPlace i line timer es → moment_of line timer (timers_in es) ≡ cond (is_running (at i es)) (Some (at i es).moment) None
moment-here es i line timer its =
    let e : Expiry = at i es in
    let rest : Expiry = record e { moment = never } in
    elim (cases_lt e.moment never) [
      | inl soon ↦ ap (moment_of line timer) (parted es i rest its.within (omega arith) soon) ∙ moment-put line timer e (timers_in (without_timer i es)) (its.its soon) its.only
          ∙ sym (ap (λ b. cond {A = Option ℕ} b (Some e.moment) None) (runs e soon))
      | inr late ↦ ap (λ xs. moment_of line timer (in_order xs)) (ap (λ xs. filter is_running xs) (sym (set_own es i)) ∙ resting es i e rest (omega (arith, late)) (omega arith))
          ∙ moment-no line timer (timers_in (without_timer i es)) its.only
          ∙ sym (ap (λ b. cond {A = Option ℕ} b (Some e.moment) None) (rests e late))
    ]

-- its octets, where it runs
octets-here : (es : List Expiry) (i line : ℕ) (timer : Timer) → IsItsPlace i line timer es → is_running (at i es) ≡ true → number 8 (unwrap_or (moment_of line timer (timers_in es)) 0) ≡ moment_at i es
octets-here es i line timer its run =
    ap (λ (o : Option ℕ). number 8 (unwrap_or o 0)) (moment-here es i line timer its ∙ ap (λ b. cond {A = Option ℕ} b (Some (at i es).moment) None) run)
    ∙ sym (ap (λ b. cond {A = List ℕ} b (number 8 (at i es).moment) []) run)

pub nothing-here : (es : List Expiry) (i : ℕ) → is_running (at i es) ≡ false → moment_at i es ≡ []
nothing-here es i rest = ap (λ b. cond {A = List ℕ} b (number 8 (at i es).moment) []) rest

-- one list, of members of lists
pub flat-flat : {A B C : Type 0} (f : B → List C) (g : A → List B) (xs : List A) → flat_map f (flat_map g xs) ≡ flat_map (λ x. flat_map f (g x)) xs
flat-flat f g [] = refl
flat-flat f g (x ∷ xs) = flat_map-append f (g x) (flat_map g xs) ∙ ap (λ ys. flat_map f (g x) ++ ys) (flat-flat f g xs)

-- ---- those of a card

module _ (card : Card) (clock : Clock) (lines terminals : ℕ) (es : List Expiry) (running : clock.running ≡ timers_in es)
    (places : Holds lines (2 * terminals) (slot_of terminals) (line_slot_of terminals) (IsOn card) es) (apart : AreApart lines (IsOn card)) where
  module _ (line : ℕ) (there : line < lines) (here : RunsHere terminals line (line_at line card) es) where
    abbrev l : Line
    l = line_at line card

    abbrev slot : ℕ → LinkTimer → ℕ
    slot number k = slot_of terminals line number k

    link-octets : (number : ℕ) → number < 2 * terminals → flat_map (moment clock line) (timer_numbered l number) ≡ link_moments terminals line es number
    link-octets n within = go (tei_at (place_at n) l) (link_at n l).running refl refl
      where
        is : (k : LinkTimer) (o : Option ℕ) (r : Option LinkTimer) → tei_at (place_at n) l ≡ o → (link_at n l).running ≡ r → is_running (at (slot n k) es) ≡ (is_some o && told.runs k r)
        is k o r e f = here.links n k within ∙ (λ i. is_some (e i) && told.runs k (f i))

        one : (k : LinkTimer) (tei : ℕ) → tei_at (place_at n) l ≡ Some tei → is_running (at (slot n k) es) ≡ true → moment clock line (timer_of k (service_at n) tei) ≡ moment_at (slot n k) es
        one k tei e run =
            ap (λ xs. number 8 (unwrap_or (moment_of line (timer_of k (service_at n) tei) xs) 0)) running
            ∙ octets-here es (slot n k) line (timer_of k (service_at n) tei) (its_place lines (2 * terminals) (slot_of terminals) (line_slot_of terminals) (IsOn card) es places apart line n tei k there within e) run

        neither : is_running (at (slot n link.T200) es) ≡ false → is_running (at (slot n link.T203) es) ≡ false → [] ≡ link_moments terminals line es n
        neither a b = sym (λ i. nothing-here es (slot n link.T200) a i ++ nothing-here es (slot n link.T203) b i)

        go : (o : Option ℕ) (r : Option LinkTimer) → tei_at (place_at n) l ≡ o → (link_at n l).running ≡ r → flat_map (moment clock line) (timer_at (service_at n) o r) ≡ link_moments terminals line es n
        go None r e f = neither (is link.T200 None r e f) (is link.T203 None r e f)
        go (Some tei) None e f = neither (is link.T200 (Some tei) None e f) (is link.T203 (Some tei) None e f)
        go (Some tei) (Some link.T200) e f = λ i. one link.T200 tei e (is link.T200 (Some tei) (Some link.T200) e f) i ++ sym (nothing-here es (slot n link.T203) (is link.T203 (Some tei) (Some link.T200) e f)) i
        go (Some tei) (Some link.T203) e f =
            append-nil (moment clock line (timer_of link.T203 (service_at n) tei))
            ∙ (λ i. sym (nothing-here es (slot n link.T200) (is link.T200 (Some tei) (Some link.T203) e f)) i ++ one link.T203 tei e (is link.T203 (Some tei) (Some link.T203) e f) i)

    own-octets : (which b : Bool) → line_runs l which ≡ b → flat_map (moment clock line) (cond b (line_timer which ∷ []) []) ≡ moment_at (line_slot_of terminals which line) es
    own-octets which true e =
        append-nil (moment clock line (line_timer which))
        ∙ ap (λ xs. number 8 (unwrap_or (moment_of line (line_timer which) xs) 0)) running
        ∙ octets-here es (line_slot_of terminals which line) line (line_timer which) (line_place lines (2 * terminals) (slot_of terminals) (line_slot_of terminals) (IsOn card) es places apart line which there) (here.own which ∙ e)
    own-octets which false e = sym (nothing-here es (line_slot_of terminals which line) (here.own which ∙ e))

    line-octets : card.config.terminals ≡ terminals → moments_at card clock line ≡ line_moments terminals es line
    line-octets count =
        let ns : List ℕ = range_with_len 0 (2 * terminals) in
        let check : List Timer = cond (is_some l.management.check) (T201 ∷ []) [] in
        let procedure : List Timer = cond (is_some l.own.procedure) (T202 ∷ []) [] in
        let links : flat_map (moment clock line) (flat_map (timer_numbered l) ns) ≡ flat_map (link_moments terminals line es) ns =
        flat-flat (moment clock line) (timer_numbered l) ns
        ∙ flat-same (λ n. flat_map (moment clock line) (timer_numbered l n)) (link_moments terminals line es) ns (λ k h. link-octets (get_or ns k 0) (below (2 * terminals) k h)) in
        let own : flat_map (moment clock line) (check ++ procedure) ≡ own_moments terminals line es =
        flat_map-append (moment clock line) check procedure ∙ (λ i. own-octets false (is_some l.management.check) refl i ++ own-octets true (is_some l.own.procedure) refl i) in
        ap (λ (n : ℕ). flat_map (moment clock line) (flat_map (timer_numbered l) (range_with_len 0 (2 * n)) ++ (check ++ procedure))) count
        ∙ flat_map-append (moment clock line) (flat_map (timer_numbered l) ns) (check ++ procedure)
        ∙ (λ i. links i ++ own i)

  pub card-octets : card.config.lines ≡ lines → card.config.terminals ≡ terminals → ((line : ℕ) → line < lines → RunsHere terminals line (line_at line card) es)
      → moments card clock ≡ all_moments lines terminals es
  card-octets many count here =
      ap (λ (n : ℕ). flat_map (moments_at card clock) (range_with_len 0 n)) many
      ∙ flat-same (moments_at card clock) (line_moments terminals es) (range_with_len 0 lines) (λ k h.
      let within = below lines k h in
      line-octets (get_or (range_with_len 0 lines) k 0) within (here (get_or (range_with_len 0 lines) k 0) within) count)
