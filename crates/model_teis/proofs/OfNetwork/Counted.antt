-- How many messages wait after each row of the table, and how many are lost; what a message does that is not served;
-- and which TEI a terminal is assigned.
use Rattle.model_teis.proofs.OfNetwork.Vocabulary.{◌≡◌, ℕ, ◌+◌, ◌<◌, ◌≤◌, Bool, true, false, cond, List, [], ◌∷◌, ◌++◌, length, Option, Some, None, refl, sym, ap, ◌∙◌, subst, arith, option_map, list_any, sum_by, nat_tests, false≢true, Reading, Profile, AnnexB, by_reading, Message, IdentityAssigned, IdentityDenied, IdentityCheckRequest, IdentityRemove, Heard, Event, message, course, TeiTold}
use Rattle.model_teis.proofs.OfNetwork.Vocabulary.{Follows, is_some}
use Rattle.model_teis.proofs.OfNetwork.Vocabulary.{IdentityRequest, Places, place_of, free_place, free_tei, Management, Gained}
use Rattle.model_teis.proofs.OfNetwork.Vocabulary.{messages_limit, one_if, may_send, due_at, most_heard, Course, begun, no_room, with_message, lost_after, left, leave, note, send, end_check, unserved, remembered_in, hear, serve, answer_request, request_anew, assigns_for, begin_check, check_is_due, nothing, AssignsLowest}
use Rattle.lapd_frame.specs.declared.notes.Note.TheVariants.{Doubled, Removed}
use Rattle.model_teis.proofs.Tables.{free_tei-is}
use Rattle.model_teis.proofs.OfNetwork.Dues.{one_more, one_less, none_counts}
use Rattle.model_teis.proofs.OfNetwork.Ends.{HasEnded, has_ended, one_waits}
use Rattle.model_teis.proofs.OfNetwork.Walk.{OfEvents, OfMessages, as_read, of_event, of_hear}

-- What is told of an event, one note and one order at most.
pub record IsBrief (t : TeiTold) : Type 0 where
  pub notes : length t.notes ≤ 1
  pub orders : length t.orders ≤ 1

-- Where an event has led, from m on: it lets n messages more wait, or fewer.
pub record Counts (n : ℕ) (m : Management) (c : Course) : Type 0 where
  pub reading : c.now.reading ≡ m.reading
  pub waits : may_send c.now ≤ may_send m + n
  pub lost : c.told.lost ≤ 1
  pub idle : c.told.unserved ≡ true → c ≡ unserved (begun m)
  pub brief : IsBrief c.told
  pub follows : Follows (is_some m.check) c.told.orders (is_some c.now.check)

one_lost : (waiting : List Message) → lost_after waiting 0 ≤ 1
one_lost waiting = elim (no_room waiting) as (λ b. cond b (0 + 1) 0 ≤ 1) [ true ↦ omega arith | false ↦ omega arith ]

served : (c d : Course) (b : Bool) → b ≡ false → b ≡ true → c ≡ d
served c d b not_so so = absurd (false≢true (sym not_so ∙ so))

module _ (m : Management) (n : ℕ) (one : 1 ≤ n) where
  -- a row that sends one message, and one that sends none
  sends : (message : Message) (c : Course) → c.now.reading ≡ m.reading → c.now.waiting ≡ with_message message m.waiting → sum_by one_if c.now.to_check ≤ sum_by one_if m.to_check → c.told.lost ≡ lost_after m.waiting 0
      → c.told.unserved ≡ false → length c.told.notes ≤ 1 → length c.told.orders ≤ 1 → Follows (is_some m.check) c.told.orders (is_some c.now.check) → Counts n m c
  sends one_message c reading waits due lost was notes orders follows = record {
    reading = reading;
    waits = omega (arith, one, due, ap length waits, one_waits one_message m.waiting);
    lost = omega (arith, lost, one_lost m.waiting);
    idle = λ is. served c (unserved (begun m)) c.told.unserved was is;
    brief = record { notes = notes; orders = orders };
    follows = follows;
  }

  quiet : (c : Course) → c.now.reading ≡ m.reading → length c.now.waiting ≤ length m.waiting → sum_by one_if c.now.to_check ≤ sum_by one_if m.to_check → c.told.lost ≤ 1
      → c.told.unserved ≡ false → length c.told.notes ≤ 1 → length c.told.orders ≤ 1 → Follows (is_some m.check) c.told.orders (is_some c.now.check) → Counts n m c
  quiet c reading waits due lost was notes orders follows = record {
    reading = reading;
    waits = omega (arith, waits, due);
    lost = lost;
    idle = λ is. served c (unserved (begun m)) c.told.unserved was is;
    brief = record { notes = notes; orders = orders };
    follows = follows;
  }

  -- one that ends a check, and its TEI stays or leaves
  one_order : (c d : Course) (e : HasEnded c d) → c.told.orders ≡ [] → (length d.told.orders ≤ 1) × ((b : Bool) → Follows b d.told.orders (is_some d.now.check))
  one_order c d e none =
      let (o, is, follows) = e.ordered in
      let all : d.told.orders ≡ o ∷ [] = is ∙ ap (λ l. l ++ o ∷ []) none in
      (subst (λ l. length l ≤ 1) (sym all) (omega arith), λ b. subst (λ l. Follows b l (is_some d.now.check)) (sym all) (follows b))

  ends_so : (c d : Course) → HasEnded c d → c.now.reading ≡ m.reading → may_send c.now ≤ may_send m + n → c.told.lost ≤ 1 → length c.told.notes ≤ 1 → c.told.orders ≡ [] → c.told.unserved ≡ false → Counts n m d
  ends_so c d e reading waits lost notes orders was = record {
    reading = e.reading ∙ reading;
    waits = omega (arith, e.waits, waits);
    lost = omega (arith, e.lost, lost);
    idle = λ is. served d (unserved (begun m)) d.told.unserved (e.unserved ∙ was) is;
    brief = record { notes = subst (λ l. length l ≤ 1) (sym e.notes) notes; orders = (one_order c d e orders).0 };
    follows = (one_order c d e orders).1 (is_some m.check);
  }

  fewer : (place : Option ℕ) (due : List Bool) → sum_by one_if (due_at place false due) ≤ sum_by one_if due
  fewer None due = omega arith
  fewer (Some place) due = one_less due place

  goes_after : (tei : ℕ) (c : Course) → c.now.reading ≡ m.reading → may_send c.now ≤ may_send m + n → c.told.lost ≤ 1 → length c.told.notes ≤ 1 → c.told.orders ≡ [] → c.told.unserved ≡ false
      → Counts n m (leave tei (end_check c))
  goes_after tei c reading waits lost notes orders was =
      let d = end_check c in
      let e = has_ended c in
      let w = ends_so c d e reading waits lost notes orders was in
      record {
        reading = w.reading;
        waits = omega (arith, w.waits, fewer (place_of tei d.now.places) d.now.to_check);
        lost = w.lost;
        idle = λ is. served (leave tei d) (unserved (begun m)) d.told.unserved (e.unserved ∙ was) is;
        brief = record { notes = w.brief.notes; orders = w.brief.orders };
        follows = w.follows;
      }

  said : (message : Message) → length (with_message message m.waiting) + sum_by one_if m.to_check ≤ may_send m + n
  said one_message = omega (arith, one, one_waits one_message m.waiting)

  -- the ways in which any event may end
  begins : (tei : ℕ) → Counts n m (begin_check tei (begun m))
  begins tei = sends (IdentityCheckRequest tei) _ refl refl (omega arith) refl refl (omega arith) (omega arith) refl

  still : (c : Course) → c ≡ begun m → Counts n m c
  still c is = subst (λ x. Counts n m x) (sym is) (quiet (begun m) refl (omega arith) (omega arith) (omega arith) refl (omega arith) (omega arith) refl)

-- a check is due, and it is asked for at once
later : (m : Management) (waiting : List Message) (lost tei : ℕ) → m.reading ≡ AnnexB → length waiting ≤ length m.waiting + 1 → lost ≤ 1
    → Counts 2 m (check_is_due tei (record { now = record m { waiting = waiting }; told = record nothing { lost = lost } }))
later m waiting lost tei read few little = record {
  reading = refl;
  waits = omega (arith, few, more (place_of tei m.places) m.to_check);
  lost = little;
  idle = λ is. absurd (false≢true is);
  brief = record { notes = omega arith; orders = omega arith };
  follows = refl;
}
  where
    more : (place : Option ℕ) (due : List Bool) → sum_by one_if (due_at place true due) ≤ sum_by one_if due + 1
    more None due = omega arith
    more (Some place) due = one_more due place

in_two : (m : Management) (n : ℕ) (c : Course) → n ≡ by_reading m.reading 1 2 → m.reading ≡ AnnexB → Counts 2 m c → Counts n m c
in_two m n c is read w = subst (λ k. Counts k m c) (sym (is ∙ ap (λ r. by_reading r 1 2) read)) w

-- each way in which a message ends,
messages : (m : Management) (n : ℕ) → 1 ≤ n → n ≡ by_reading m.reading 1 2 → OfMessages m (Counts n m)
messages m n one two =
    record {
      is_unserved = record { reading = refl; waits = omega arith; lost = omega arith; idle = λ _. refl; brief = record { notes = omega arith; orders = omega arith }; follows = refl };
      is_lost = quiet m n one _ refl (omega arith) (omega arith) (omega arith) refl (omega arith) (omega arith) refl;
      is_denied = λ ri tei few. sends m n one (IdentityDenied ri tei) _ refl refl (omega arith) refl refl (omega arith) (omega arith) refl;
      comes_again = λ ri tei is. sends m n one (IdentityAssigned ri tei) _ refl refl (omega arith) refl refl (omega arith) (omega arith) refl;
      is_new = λ ri place tei new at free. sends m n one (IdentityAssigned ri tei) _ refl refl (omega arith) refl refl (omega arith) (omega arith) refl;
      begins = λ tei on none. begins m n one tei;
      is_later = λ own tei read on is other. in_two m n _ two read (later m _ _ tei read (one_waits (IdentityCheckRequest tei) m.waiting) (one_lost m.waiting));
      is_still_asked = λ own tei read on is other. in_two m n _ two read (later m _ _ tei read (omega arith) (omega arith));
      is_counted = λ own is few. quiet m n one _ refl (omega arith) (omega arith) (omega arith) refl (omega arith) (omega arith) (rw is refl);
      is_doubled = λ own is.
          goes_after m n one own.tei (send (IdentityRemove own.tei) (note (Doubled own.tei) (begun m))) refl (said m n one (IdentityRemove own.tei)) (one_lost m.waiting) (omega arith) refl refl;
    }

-- and any event
ways : (e : Event) (m : Management) (n : ℕ) → 1 ≤ n → ((octets : List ℕ) → e ≡ message octets → n ≡ by_reading m.reading 1 2) → OfEvents e m (Counts n m)
ways e m n one two = record {
  messages = λ octets is. messages m n one (two octets is);
  expiries = record {
    is_idle = λ is. still m n one _ refl;
    asks_again = λ own is. sends m n one (IdentityCheckRequest own.tei) _ refl refl (omega arith) refl refl (omega arith) (omega arith) refl;
    has_settled = λ own is. begins m n one own.tei;
    is_removed = λ own is. goes_after m n one own.tei (note (Removed own.tei) (begun m)) refl (omega arith) (omega arith) (omega arith) refl refl;
    is_told = λ own read is.
        goes_after m n one own.tei (send (IdentityRemove own.tei) (note (Removed own.tei) (begun m))) refl (said m n one (IdentityRemove own.tei)) (one_lost m.waiting) (omega arith) refl refl;
    ends = λ own is. ends_so m n one (begun m) (end_check (begun m)) (has_ended (begun m)) refl (omega arith) (omega arith) (omega arith) refl refl;
  };
  is_refused = still m n one _ refl;
  joins = λ tei place is off at. quiet m n one _ refl (omega arith) (omega arith) (omega arith) refl (omega arith) (omega arith) refl;
  begins = λ tei on none. begins m n one tei;
  leaves_checked = λ own is. goes_after m n one own.tei (send (IdentityRemove own.tei) (begun m)) refl (said m n one (IdentityRemove own.tei)) (one_lost m.waiting) (omega arith) refl refl;
  leaves = λ tei on other. sends m n one (IdentityRemove tei) _ refl refl (fewer m n one (place_of tei m.places) m.to_check) refl refl (omega arith) (omega arith) refl;
  disowns = λ tei is. sends m n one (IdentityRemove tei) _ refl refl (omega arith) refl refl (omega arith) (omega arith) refl;
  gives_up = λ is. quiet m n one _ refl (omega arith) (omega (arith, none_counts (length m.to_check))) (omega arith) refl (omega arith) (omega arith) refl;
  gives_up_checked = λ own is. quiet m n one _ refl (omega arith) (omega (arith, none_counts (length m.to_check))) (omega arith) refl (omega arith) (omega arith) refl;
}

at_least_one : (r : Reading) (e : Event) → 1 ≤ by_reading r 1 (most_heard e)
at_least_one Profile e = omega arith
at_least_one AnnexB e = grind arith

pub counts : (e : Event) (m : Management) → Counts (by_reading m.reading 1 (most_heard e)) m (course e m)
counts e m =
    let n = by_reading m.reading 1 (most_heard e) in
    of_event m (Counts n m) e (ways e m n (at_least_one m.reading e) (λ octets is. ap (λ x. by_reading m.reading 1 (most_heard x)) is))

-- Which TEI a terminal is assigned: of the messages, only a request puts one on the line.
lowest-left : (places : Places) (tei : ℕ) (o : Option ℕ) → AssignsLowest places (option_map (left tei) o)
lowest-left places tei o = grind arith

pub lowest-hear : (octets : List ℕ) (m : Management) → AssignsLowest m.places (hear octets (begun m)).told.change
lowest-hear octets m = of_hear m (λ c. AssignsLowest m.places c.told.change) (record {
  is_unserved = tt;
  is_lost = tt;
  is_denied = λ ri tei few. tt;
  comes_again = λ ri tei is. tt;
  is_new = λ ri place tei new at free. free_tei-is m.places tei free;
  begins = λ tei on none. tt;
  is_later = λ own tei read on is other. tt;
  is_still_asked = λ own tei read on is other. tt;
  is_counted = λ own is few. tt;
  is_doubled = λ own is. lowest-left m.places own.tei (place_of own.tei (end_check (send (IdentityRemove own.tei) (note (Doubled own.tei) (begun m)))).now.places);
}) octets

-- A request with a new Ri gets the place and the TEI that are free, and its answer.
abbrev Gains : ℕ → ℕ → ℕ → Management → Course → Type 0
Gains ri place tei m c = (c.told.change ≡ Some (Gained tei place)) × (c.now.waiting ≡ m.waiting ++ IdentityAssigned ri tei ∷ [])

roomy : (waiting : List Message) → length waiting < messages_limit → no_room waiting ≡ false
roomy waiting few = grind (arith, nat_tests)

gains-answer : (ri place tei : ℕ) (m : Management) → remembered_in ri m.remembered ≡ None → length m.waiting < messages_limit → free_place m.places ≡ Some place → free_tei m.places ≡ Some tei
    → Gains ri place tei m (answer_request ri (begun m))
gains-answer ri place tei m new room at free = rw (roomy m.waiting room, new, at, free, roomy m.waiting room) (refl, refl)

gains-anew : (ri place tei : ℕ) (m : Management) (b : Bool) → b ≡ false → Gains ri place tei m (answer_request ri (begun m)) → Gains ri place tei m ((cond b unserved (answer_request ri)) (begun m))
gains-anew ri place tei m b none gains = rw none gains

pub gains-serve : (ri place tei : ℕ) (m : Management) (o : Option Heard) (teis : Option (List ℕ)) → o ≡ Some (IdentityRequest ri) → remembered_in ri m.remembered ≡ None
    → (m.reading ≡ AnnexB → list_any (assigns_for ri) m.waiting ≡ false) → length m.waiting < messages_limit → free_place m.places ≡ Some place → free_tei m.places ≡ Some tei
    → Gains ri place tei m (serve o teis (begun m))
gains-serve ri place tei m o teis asks new unanswered room at free =
    let gains = gains-answer ri place tei m new room at free in
    subst (λ x. Gains ri place tei m (serve x teis (begun m))) (sym asks)
    (as_read (Gains ri place tei m) m.reading (answer_request ri (begun m)) (request_anew ri (begun m)) (λ r. gains)
    (λ r. gains-anew ri place tei m (list_any (assigns_for ri) m.waiting) (unanswered r) gains))
