-- What the observer of a line knows of its TEIs, and what of it changes as a check ends and a TEI leaves.
use Rattle.laws_trace.proofs.Vocabulary.{◌≡◌, ℕ, ◌==◌, Bool, true, false, cond, not, List, [], ◌∷◌, ◌++◌, Option, Some, None, IfSome, option_map, option_map_or, refl, sym, ap, subst, filter, find, Note, T201, Places, IsSoundTable, Management, Remembered, Period, First, Second, Settling}
use Rattle.laws_trace.proofs.Vocabulary.{Check, TeiCourse as Course, Checked, Managed, nothing_due, leaves, over, settling, is_of_teis}
use Rattle.laws_trace.proofs.Vocabulary.{is_of_line, end_check, leave}
use Rattle.model_teis.specs.network.Rows as rows
use Rattle.lapd_frame.specs.declared.timers.Order.TheVariants.{Start, Stop}
use Rattle.model_teis.specs.network.Machine.{next_checked, is_due}
use Rattle.model_teis.specs.network.Sound.{IsAsRead}
use Rattle.model_teis.specs.Steps.{nothing_happens}
use Rattle.model_teis.specs.network.Words.{begin_next}
use Rattle.laws_trace.specs.Managing.{others}
use Rattle.laws_trace.specs.ManagingTerminal.{teis_of, without_tei}
use Rattle.laws_trace.proofs.ManagingPlaces.{ArePlaced, among, checked-next, left-placed, next-there, none-first, same-teis}
use Rattle.laws_trace.proofs.ManagingTables.{AreOn, leaves-on}
use Rattle.laws_trace.proofs.Vocabulary.{arith}

-- A check, as it is seen.
abbrev pub is_second : Period → Bool
is_second First = false
is_second Second = true
is_second Settling = false

abbrev pub is_settling : Period → Bool
is_settling First = false
is_settling Second = false
is_settling Settling = true

abbrev pub earlier : Period → ℕ → Option Bool
earlier First n = None
earlier Second n = Some (not (n == 0))
earlier Settling n = None

abbrev pub seen_check : Check → Checked
seen_check check = record { tei = check.tei; settles = is_settling check.period; answered = not (rows.responses check == 0); before = earlier check.period check.first }

-- No answer is counted for the second period before that.
abbrev pub InOrder : Check → Type 0
InOrder check = is_second check.period ≡ false → check.second ≡ 0

abbrev pub as_seen : List ℕ → Places → List ℕ → Management → Managed
as_seen on places later m = record { on = on; places = places; held = m.remembered; check = option_map seen_check m.check; later = later; owed = m.waiting; own = None; notes = []; orders = []; lost = 0; begins = []; granted = None }

pub record Follows (w : Managed) (m : Management) : Type 0 where
  pub is : nothing_due w ≡ as_seen w.on w.places w.later m
  pub on : AreOn w.on m.places
  pub placed : ArePlaced w.places w.later m.places m.to_check
  pub order : IfSome m.check InOrder

-- What is due is what is told.
pub record Leads (d : Managed) (x : Course) : Type 0 where
  pub notes : filter is_of_teis x.told.notes ≡ d.notes
  pub orders : filter is_of_line x.told.orders ≡ d.orders
  pub lost : x.told.lost ≡ d.lost
  pub begins : d.begins ≡ []
  pub granted : d.granted ≡ None
  pub follows : Follows d x.now

-- What is known, and is due, once an event has led so far.
abbrev pub led : List ℕ → Places → List ℕ → Course → Managed
led on places later x =
    record (as_seen on places later x.now) { notes = filter is_of_teis x.told.notes; orders = filter is_of_line x.told.orders; lost = x.told.lost }

pub record Known (on : List ℕ) (places : Places) (later : List ℕ) (m : Management) : Type 0 where
  pub on_is : AreOn on m.places
  pub placed : ArePlaced places later m.places m.to_check
  pub order : IfSome m.check InOrder

pub known-leads : (on : List ℕ) (places : Places) (later : List ℕ) (x : Course) → Known on places later x.now → Leads (led on places later x) x
known-leads on places later x k = grind arith

abbrev pub is_checked : ℕ → Option Checked → Bool
is_checked tei o = option_map_or (λ (check : Checked). check.tei == tei) o false

-- A check ends.
module _ (on : List ℕ) (places : Places) (later : List ℕ) (x : Course) (k : Known on places later x.now) (s : IsSoundTable x.now.places) (read : IsAsRead x.now.reading x.now.remembered x.now.to_check) (none : x.told.orders ≡ []) where
  abbrev pub v : Managed
  v = led on places later x

  next-is : find (among later) (teis_of places) ≡ next_checked x.now
  next-is = grind (arith, find, among, same-teis, next-there, is_due)

  ends-by : end_check x ≡ begin_next (next_checked x.now) x
  ends-by = grind (arith, next_checked, none-first, is_due)

  abbrev pub after : Option ℕ → Managed
  after o = option_map_or (λ tei. settling tei (record v { later = others tei later })) o (record v { check = None; orders = Stop T201 ∷ [] })

  -- What comes of it: the places stay, and the assignments.
  pub record Over (d : Managed) (y : Course) : Type 0 where
    pub next_later : List ℕ
    pub is : d ≡ led on places next_later y
    pub known : Known on places next_later y.now
    pub places_stay : y.now.places ≡ x.now.places
    pub held_stays : y.now.remembered ≡ x.now.remembered

  by-next : (o : Option ℕ) → next_checked x.now ≡ o → Over (after o) (begin_next o x)
  by-next None is = record {
    next_later = later;
    is = ap (λ os. record v { check = None; orders = filter is_of_line (os ++ Stop T201 ∷ []) }) (sym none);
    known = record { on_is = k.on_is; placed = k.placed; order = tt };
    places_stay = refl;
    held_stays = refl;
  }
  by-next (Some tei) is = record {
    next_later = others tei later;
    is = ap (λ os. record (settling tei (record v { later = others tei later })) { orders = filter is_of_line (os ++ Start T201 ∷ []) }) (sym none);
    known = record { on_is = k.on_is; placed = checked-next places later x.now.places x.now.to_check k.placed s tei is; order = λ first. refl };
    places_stay = refl;
    held_stays = refl;
  }

  pub is-over : Over (over v) (end_check x)
  is-over =
      subst (Over (over v)) (sym ends-by)
      (subst (λ o. Over (after o) (begin_next (next_checked x.now) x)) (sym next-is) (by-next (next_checked x.now) refl))

  -- A TEI leaves, and where it is checked, the check is over.
  abbrev pub without : ℕ → Managed → Managed
  without tei left =
      record left {
        on = others tei on;
        places = without_tei tei places;
        held = filter (λ (r : Remembered). not (r.tei == tei)) x.now.remembered;
        later = others tei left.later;
      }

  goes : (tei : ℕ) (d : Managed) (y : Course) → Over d y → Leads (without tei d) (leave tei y)
  goes tei d y o =
      subst (λ d. Leads (without tei d) (leave tei y)) (sym o.is)
      (subst (λ held. Leads (record (without tei (led on places o.next_later y)) { held = filter (λ (r : Remembered). not (r.tei == tei)) held }) (leave tei y)) o.held_stays
      (known-leads (others tei on) (without_tei tei places) (others tei o.next_later) (leave tei y)
      (record { on_is = leaves-on on y.now.places o.known.on_is tei sound; placed = left-placed places o.next_later y.now.places y.now.to_check o.known.placed sound tei; order = o.known.order })))
    where
      sound : IsSoundTable y.now.places
      sound = subst IsSoundTable (sym o.places_stay) s

  here-still : Over v x
  here-still = record { next_later = later; is = refl; known = k; places_stay = refl; held_stays = refl }

  pub leaves-led : (b : Bool) (tei : ℕ) → Leads (without tei (cond b (over v) v)) (leave tei ((cond b end_check nothing_happens) x))
  leaves-led true tei = goes tei (over v) (end_check x) is-over
  leaves-led false tei = goes tei v x here-still

  pub leaving-led : (tei : ℕ) → Leads (leaves tei v) (leave tei (rows.end_check_of tei x))
  leaving-led tei = grind (arith, over, leaves-led, option_map)

  pub leaving-own : (tei : ℕ) → rows.is_checked tei x.now.check ≡ true → Leads (leaves tei v) (leave tei (end_check x))
  leaving-own tei own = subst (λ b. Leads (leaves tei v) (leave tei ((cond b end_check nothing_happens) x))) own (leaving-led tei)

  pub over-leads : Leads (over v) (end_check x)
  over-leads = let o = is-over in subst (λ d. Leads d (end_check x)) (sym o.is) (known-leads on places o.next_later (end_check x) o.known)

-- The notes of an event are told beside.
abbrev pub noted : List Note → Managed → Managed
noted ns w = record w { notes = ns }

over-noted : (ns : List Note) (w : Managed) → noted ns (over w) ≡ over (noted ns w)
over-noted ns w = grind (arith, find, among, settling, others, T201)

pub leaves-noted : (ns : List Note) (tei : ℕ) (w : Managed) → noted ns (leaves tei w) ≡ leaves tei (noted ns w)
leaves-noted ns tei w = grind (arith, others, over, over-noted)
