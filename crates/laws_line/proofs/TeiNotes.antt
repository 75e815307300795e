-- Which event of TEI management changes the table, and what is noted of it: each row.
use Rattle.laws_line.proofs.Vocabulary.{arith, ◌≡◌, ℕ, ◌==◌, nat_le, Bool, true, false, cond, List, [], ◌∷◌, Option, Some, None, IfSome, refl, sym, subst, ap, ◌∙◌, true≢false, Note, Assigned, Removed, Doubled, Refusal, Period, First, Second, Settling, Reading, AnnexB, Profile, IdentityCheckRequest, IdentityDenied, IdentityRemove, Change, Gained, Left, heard_of_type, responses_in}
use Rattle.laws_line.proofs.Vocabulary.{Places, is_on, place_of, Management, next_checked, Step, no_room, send, lose_one, tei_note as note, unserved, leave, left, check_is, list_any, begin_next, end_check, stop_check, tei_read_as as read_as, check_is_due, remembered_in, assign_new, assign, assigns_for, answer_request, tei_request as request, request_anew, request_of, asks_for, ask_once, verify}
use Rattle.laws_line.proofs.Vocabulary.{verify_beside, verify_later, responses, doubled, count, respond, is_among, respond_among, serve, removed}
use Rattle.laws_line.proofs.Vocabulary.{is_unanswered, expire_period, expire_check, nothing_happens, join_at, take_off, is_checked, message, remove, course, IsSoundCheck, option_map, eqb-true, TeiCheck as Check, Course, tei_begun as begun, tei_counted as counted, TeiEvent as Event}
use Rattle.laws_line.proofs.Vocabulary.{tei_expiry as expiry, assigning, tei_refusal as refusal, tei_unless_refused as unless_refused, down_gives_up, TeiIsSound as IsSound}
use Rattle.model_line.proofs.Places.{is-off}
use Rattle.lapd_frame.specs.Readings.{by_reading}
use Rattle.model_teis.specs.Information.{heard_by, looked_at}

-- A change of the table has its event, and its note.
abbrev pub GainedBy : Event → ℕ → List Note → Type 0
GainedBy (message octets) tei ns = ns ≡ Assigned tei ∷ []
GainedBy (assigning asked) tei ns = (asked ≡ tei) × (ns ≡ [])
GainedBy other tei ns = ⊥

abbrev pub LeftBy : Event → ℕ → List Note → Type 0
LeftBy (message octets) tei ns = ns ≡ Doubled tei ∷ []
LeftBy expiry tei ns = ns ≡ Removed tei ∷ []
LeftBy (remove asked) tei ns = (asked ≡ tei) × (ns ≡ [])
LeftBy other tei ns = ⊥

abbrev pub ByChange : Event → Option Change → List Note → Type 0
ByChange e None ns = ns ≡ []
ByChange e (Some (Gained tei place)) ns = GainedBy e tei ns
ByChange e (Some (Left tei place)) ns = LeftBy e tei ns

abbrev Noted : Event → Course → Type 0
Noted e c = ByChange e c.told.change c.told.notes

either : (e : Event) (b : Bool) (one other : Step) (c : Course) → (b ≡ true → Noted e (one c)) → (b ≡ false → Noted e (other c)) → Noted e ((cond b one other) c)
either e b one other c x y = grind arith

-- by either reading
as-read : (e : Event) (r : Reading) (one other : Course) → Noted e one → Noted e other → Noted e (by_reading r one other)
as-read e Profile one other x y = x
as-read e AnnexB one other x y = y

new : (octets : List ℕ) (ri : ℕ) (m : Management) (place tei : Option ℕ) → Noted (message octets) (assign_new ri place tei (begun m))
new octets ri m place tei = grind arith

assigns : (octets : List ℕ) (ri : ℕ) (m : Management) (o : Option ℕ) → Noted (message octets) (assign ri o (begun m))
assigns octets ri m o = grind (arith, new)

-- What does not change the table, nor what is told of it.
record Keeps (c now : Course) : Type 0 where
  places : now.now.places ≡ c.now.places
  change : now.told.change ≡ c.told.change
  notes : now.told.notes ≡ c.told.notes

-- A check ends, or a message goes before that by one reading.
ending : (c : Course) → Keeps c (end_check c)
ending c = go c.now.reading (next_checked c.now)
  where
    go : (r : Reading) (o : Option ℕ) → Keeps c (by_reading r (stop_check c) (begin_next o c))
    go Profile o = record { places = refl; change = refl; notes = refl }
    go AnnexB None = record { places = refl; change = refl; notes = refl }
    go AnnexB (Some tei) = record { places = refl; change = refl; notes = refl }

telling : (tei : ℕ) (c : Course) → Keeps c (read_as nothing_happens (send (IdentityRemove tei)) c)
telling tei c = go c.now.reading
  where
    go : (r : Reading) → Keeps c (by_reading r c (send (IdentityRemove tei) c))
    go Profile = record { places = refl; change = refl; notes = refl }
    go AnnexB = record { places = refl; change = refl; notes = refl }

leaving : (e : Event) (tei : ℕ) (c now : Course) → Keeps c now → Noted e (leave tei c) → Noted e (leave tei now)
leaving e tei c now keeps x =
    subst (λ ns. ByChange e (option_map (left tei) (place_of tei now.now.places)) ns) (sym keeps.notes)
    (subst (λ places. ByChange e (option_map (left tei) (place_of tei places)) c.told.notes) (sym keeps.places) x)

staying : (e : Event) (c now : Course) → Keeps c now → Noted e c → Noted e now
staying e c now keeps x =
    subst (λ ns. ByChange e now.told.change ns) (sym keeps.notes) (subst (λ o. ByChange e o c.told.notes) (sym keeps.change) x)

-- a TEI that is on the line has a place, and leaves it
no-place : (places : Places) (tei : ℕ) → is_on tei places ≡ true → place_of tei places ≡ None → ⊥
no-place places tei on none = true≢false (sym on ∙ is-off places tei none)

doubles : (octets : List ℕ) (tei : ℕ) (m : Management) → is_on tei m.places ≡ true → Noted (message octets) (doubled tei (begun m))
doubles octets tei m on =
    let told = send (IdentityRemove tei) (note (Doubled tei) (begun m)) in
    leaving (message octets) tei told (end_check told) (ending told) (go (place_of tei m.places) refl)
  where
    go : (o : Option ℕ) → place_of tei m.places ≡ o → ByChange (message octets) (option_map (left tei) o) (Doubled tei ∷ [])
    go None e = absurd (no-place m.places tei on e)
    go (Some place) e = refl

-- a response counts, or it is the second
counts : (octets : List ℕ) (m : Management) (own : Check) (tei : ℕ) → own.tei ≡ tei → IsSoundCheck m.reading m.places own → Noted (message octets) (count tei (counted own) (begun m))
counts octets m own tei same sound =
    either (message octets) (nat_le 2 (responses (counted own))) (doubled tei) (check_is (Some (counted own))) (begun m)
    (λ twice. doubles octets tei m (ap (λ n. is_on n m.places) (sym same) ∙ sound.on_line)) (λ once. refl)

responds : (octets : List ℕ) (tei : ℕ) (m : Management) (o : Option Check) → IfSome o (IsSoundCheck m.reading m.places) → Noted (message octets) (respond tei o (begun m))
responds octets tei m None sound = refl
responds octets tei m (Some own) sound =
    either (message octets) (own.tei == tei) (count tei (counted own)) unserved (begun m)
    (λ same. counts octets m own tei (eqb-true own.tei tei same) sound) (λ other. refl)

responds-among : (octets : List ℕ) (teis : Option (List ℕ)) (m : Management) (o : Option Check) → IfSome o (IsSoundCheck m.reading m.places) → Noted (message octets) (respond_among teis o (begun m))
responds-among octets teis m None sound = refl
responds-among octets teis m (Some own) sound =
    either (message octets) (is_among own.tei teis) (count own.tei (counted own)) unserved (begun m)
    (λ among. counts octets m own own.tei refl sound) (λ other. refl)

-- what a message of a terminal is
module _ (octets : List ℕ) (m : Management) (s : IsSound m) where
  asks : (ri : ℕ) → Noted (message octets) (answer_request ri (begun m))
  asks ri =
      either (message octets) (no_room m.waiting) lose_one (assign ri (remembered_in ri m.remembered)) (begun m)
      (λ full. refl) (λ room. assigns octets ri m (remembered_in ri m.remembered))

  asks-anew : (ri : ℕ) → Noted (message octets) (request_anew ri (begun m))
  asks-anew ri = either (message octets) (list_any (assigns_for ri) m.waiting) unserved (answer_request ri) (begun m) (λ again. refl) (λ first. asks ri)

  asks-once : (tei : ℕ) → Noted (message octets) (check_is_due tei (ask_once tei (begun m)))
  asks-once tei = go (list_any (asks_for tei) m.waiting)
    where
      go : (b : Bool) → Noted (message octets) (check_is_due tei ((cond b nothing_happens (send (IdentityCheckRequest tei))) (begun m)))
      go true = refl
      go false = refl

  verifies-beside : (tei : ℕ) (o : Option Check) → Noted (message octets) (verify_beside tei o (begun m))
  verifies-beside tei None = refl
  verifies-beside tei (Some own) =
      either (message octets) (own.tei == tei) unserved (verify_later tei) (begun m) (λ same. refl)
      (λ other. as-read (message octets) m.reading (unserved (begun m)) (check_is_due tei (ask_once tei (begun m))) refl (asks-once tei))

  verifies : (tei : ℕ) → Noted (message octets) (verify tei (begun m))
  verifies tei =
      either (message octets) (is_on tei m.places) (verify_beside tei m.check) unserved (begun m) (λ on. verifies-beside tei m.check) (λ off. refl)

  requests : (ri : ℕ) → Noted (message octets) (request ri (begun m))
  requests ri = as-read (message octets) m.reading (answer_request ri (begun m)) (request_anew ri (begun m)) (asks ri) (asks-anew ri)

  requests-of : (ri tei : ℕ) → Noted (message octets) (request_of ri tei (begun m))
  requests-of ri tei = as-read (message octets) m.reading (unserved (begun m)) (send (IdentityDenied ri tei) (begun m)) refl refl

  others : (teis : Option (List ℕ)) → Noted (message octets) (read_as unserved (respond_among teis m.check) (begun m))
  others teis = as-read (message octets) m.reading (unserved (begun m)) (respond_among teis m.check (begun m)) refl (responds-among octets teis m m.check s.checked)

  by-frame : (type ri action : ℕ) (b : Bool) (teis : Option (List ℕ)) → Noted (message octets) (serve (cond b (heard_of_type type ri action) None) teis (begun m))
  by-frame type ri action b teis = grind (arith, requests, requests-of, responds, verifies, others)

  serves : (heard : List ℕ) (teis : Option (List ℕ)) → Noted (message octets) (serve (heard_by heard_of_type heard) teis (begun m))
  serves heard teis = grind (arith, by-frame, others)

removes : (tei : ℕ) (m : Management) → is_on tei m.places ≡ true → Noted expiry (removed tei (begun m))
removes tei m on =
    let noted = note (Removed tei) (begun m) in
    let told = read_as nothing_happens (send (IdentityRemove tei)) noted in
    leaving expiry tei told (end_check told) (ending told) (leaving expiry tei noted told (telling tei noted) (go (place_of tei m.places) refl))
  where
    go : (o : Option ℕ) → place_of tei m.places ≡ o → ByChange expiry (option_map (left tei) o) (Removed tei ∷ [])
    go None e = absurd (no-place m.places tei on e)
    go (Some place) e = refl

ends : (own : Check) (period : Period) (m : Management) → is_on own.tei m.places ≡ true → Noted expiry (expire_period own period (begun m))
ends own First m on = refl
ends own Settling m on = refl
ends own Second m on =
    either expiry (is_unanswered own) (removed own.tei) end_check (begun m) (λ unanswered. removes own.tei m on)
    (λ answered. staying expiry (begun m) (end_check (begun m)) (ending (begun m)) refl)

expires : (m : Management) (o : Option Check) → IfSome o (IsSoundCheck m.reading m.places) → Noted expiry (expire_check o (begun m))
expires m None sound = refl
expires m (Some own) sound = ends own own.period m sound.on_line

joins : (tei : ℕ) (m : Management) (o : Option ℕ) → Noted (assigning tei) (join_at tei o (begun m))
joins tei m o = grind arith

leaves : (tei : ℕ) (o : Option ℕ) → ByChange (remove tei) (option_map (left tei) o) []
leaves tei o = grind arith

takes_off : (tei : ℕ) (m : Management) (b : Bool) → Noted (remove tei) (leave tei ((cond b end_check nothing_happens) (send (IdentityRemove tei) (begun m))))
takes_off tei m true =
    let told = send (IdentityRemove tei) (begun m) in
    leaving (remove tei) tei told (end_check told) (ending told) (leaves tei (place_of tei m.places))
takes_off tei m false = leaves tei (place_of tei m.places)

unless : (e : Event) (o : Option Refusal) (does : Step) (m : Management) → Noted e (does (begun m)) → Noted e (unless_refused o does m)
unless e o does m x = grind arith

pub noted : (e : Event) (m : Management) → IsSound m → Noted e (course e m)
unfolding course refusal
noted (message octets) m s = serves octets m s (looked_at m.reading octets) (responses_in octets)
noted expiry m s = expires m m.check s.checked
noted (remove tei) m s = unless (remove tei) _ (take_off tei) m (takes_off tei m (is_checked tei m.check))
noted e m s = grind (arith, unless, joins, down_gives_up)
