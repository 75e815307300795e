-- What the end of a check leaves: none runs any more, or the next does.
use Rattle.model_teis.proofs.OfNetwork.Vocabulary.{arith, ◌≡◌, ℕ, ◌+◌, ◌≤◌, ◌==◌, nat_tests, Bool, true, false, is_some, List, [], ◌∷◌, ◌++◌, length, length-append, get_or, position, list_any, sum_by, Option, Some, None, IfSome, refl, sym, subst, Order, Reading, Profile, AnnexB, Message}
use Rattle.model_teis.proofs.OfNetwork.Vocabulary.{Check, Settling, Course, Follows, is_checked, one_if, is_due, tei_at, may_send, due_at, begin_next, check_next, settle, stop_check, end_check, lowest_is_not_due, with_message, IsSound, IsSoundCheck, AreSoundChecks, IsAsRead, MayBeDue}
use Rattle.model_teis.proofs.Tables.{is_on-at, same_number}
use Rattle.model_teis.proofs.OfNetwork.Dues.{dues-none, dues-next, due-there, nobody, none-lowest, lowest_less, read-less}
use Rattle.model_teis.proofs.OfNetwork.SoundWords.{check-settles}
use Rattle.model_teis.proofs.OfNetwork.Walk.{as_read}

-- Of each way: the next that is due is at the lowest place.
pub record OfEnds (c : Course) (E : Course → Type 0) : Type 0 where
  pub stops : list_any is_due c.now.to_check ≡ false → E (stop_check c)
  pub goes_on : (place tei : ℕ) → c.now.reading ≡ AnnexB → position is_due c.now.to_check ≡ Some place → get_or c.now.places place None ≡ Some tei
      → E (settle tei (lowest_is_not_due c))

none_read : (r : Reading) (c : Course) → r ≡ Profile → IsAsRead r c.now.remembered c.now.to_check → list_any is_due c.now.to_check ≡ false
none_read r c is read = subst (λ x. IsAsRead x c.now.remembered c.now.to_check) is read

-- The next check is of another TEI.
apart : (a b : ℕ) → (a == b) ≡ false → (b == a) ≡ false
apart a b e = grind (arith, nat_tests)

pub other-next : (o : Option Check) (tei next : ℕ) → is_checked tei o ≡ true → MayBeDue (Some next) o → (next == tei) ≡ false
other-next None tei next is may = absurd may
other-next (Some own) tei next is may = apart tei next (subst (λ n. (n == next) ≡ false) (same_number own.tei tei is) may)

module _ (c : Course) (E : Course → Type 0) where
  of_place : OfEnds c E → (place : ℕ) (o : Option ℕ) → c.now.reading ≡ AnnexB → position is_due c.now.to_check ≡ Some place → get_or c.now.places place None ≡ o → MayBeDue o c.now.check
      → E (begin_next o c)
  of_place w place None read first at may = absurd (nobody c.now.check may)
  of_place w place (Some tei) read first at may = w.goes_on place tei read first at

  of_next : OfEnds c E → IsSound c.now → (o : Option ℕ) → c.now.reading ≡ AnnexB → position is_due c.now.to_check ≡ o → E (begin_next (tei_at c.now.places o) c)
  of_next w sound None read first = w.stops (none-lowest c.now.to_check first)
  of_next w sound (Some place) read first =
      of_place w place (get_or c.now.places place None) read first refl (due-there c.now.places c.now.check c.now.to_check place first sound.due)

  pub of_check_next : OfEnds c E → IsSound c.now → c.now.reading ≡ AnnexB → E (check_next c)
  of_check_next w sound read = of_next w sound (position is_due c.now.to_check) read refl

  pub of_end : OfEnds c E → IsSound c.now → E (end_check c)
  of_end w sound =
      as_read E c.now.reading (stop_check c) (check_next c) (λ is. w.stops (none_read c.now.reading c is sound.read)) (λ is. of_check_next w sound is)

-- What it keeps of sound management
pub record IsEnded (c : Course) (own : Check) (d : Course) : Type 0 where
  pub checked : IfSome d.now.check (IsSoundCheck c.now.reading c.now.places)
  pub other : is_checked own.tei d.now.check ≡ false
  pub due : AreSoundChecks c.now.places d.now.check d.now.to_check
  pub read : IsAsRead c.now.reading c.now.remembered d.now.to_check
  pub now : d.now ≡ record c.now { check = d.now.check; to_check = d.now.to_check }
  pub change : d.told.change ≡ c.told.change

pub ended : (c : Course) (own : Check) → IsSound c.now → c.now.check ≡ Some own → IsEnded c own (end_check c)
ended c own sound runs = of_end c (IsEnded c own) (record {
  stops = λ none. record {
    checked = tt;
    other = refl;
    due = dues-none c.now.places None c.now.to_check sound.due.each none;
    read = sound.read;
    now = refl;
    change = refl;
  };
  goes_on = λ place tei read first at. record {
    checked = check-settles c.now.reading c.now.places tei read (is_on-at c.now.places place tei at);
    other = apart own.tei tei (subst (λ o. MayBeDue o (Some own)) at (subst (MayBeDue (get_or c.now.places place None)) runs (due-there c.now.places c.now.check c.now.to_check place first sound.due)));
    due = subst (λ o. AreSoundChecks c.now.places (Some (record { tei = tei; period = Settling; first = 0; second = 0 })) (due_at o false c.now.to_check)) (sym first)
        (dues-next c.now.places c.now.check c.now.to_check (record { tei = tei; period = Settling; first = 0; second = 0 }) place first at sound.table sound.due);
    read = read-less c.now.reading c.now.remembered c.now.to_check (position is_due c.now.to_check) sound.read;
    now = refl;
    change = refl;
  };
}) sound

-- and of all management: no message is sent; and what is told, and what is ordered.
pub record HasEnded (c d : Course) : Type 0 where
  pub reading : d.now.reading ≡ c.now.reading
  pub places : d.now.places ≡ c.now.places
  pub waits : may_send d.now ≤ may_send c.now
  pub lost : d.told.lost ≡ c.told.lost
  pub notes : d.told.notes ≡ c.told.notes
  pub unserved : d.told.unserved ≡ c.told.unserved
  pub ordered : (o : Order) × (d.told.orders ≡ c.told.orders ++ o ∷ []) × ((b : Bool) → Follows b (o ∷ []) (is_some d.now.check))

pub one_waits : (message : Message) (waiting : List Message) → length (with_message message waiting) ≤ length waiting + 1
one_waits message waiting = grind (arith, length-append)

stopped : (c : Course) → HasEnded c (stop_check c)
stopped c = record {
  reading = refl;
  places = refl;
  waits = omega arith;
  lost = refl;
  notes = refl;
  unserved = refl;
  ordered = (_, refl, λ b. refl);
}

fewer_due : (due : List Bool) (o : Option ℕ) (place : ℕ) → o ≡ Some place → position is_due due ≡ Some place → sum_by one_if (due_at o false due) + 1 ≡ sum_by one_if due
fewer_due due o place is first = subst (λ x. sum_by one_if (due_at x false due) + 1 ≡ sum_by one_if due) (sym is) (lowest_less due place first)

gone_on : (c : Course) (place tei : ℕ) → position is_due c.now.to_check ≡ Some place → HasEnded c (settle tei (lowest_is_not_due c))
gone_on c place tei first = record {
  reading = refl;
  places = refl;
  waits = omega (arith, fewer_due c.now.to_check (position is_due c.now.to_check) place first first);
  lost = refl;
  notes = refl;
  unserved = refl;
  ordered = (_, refl, λ b. refl);
}

next_ended : (c : Course) (o : Option ℕ) → position is_due c.now.to_check ≡ o → HasEnded c (begin_next (tei_at c.now.places o) c)
next_ended c None first = stopped c
next_ended c (Some place) first = at (get_or c.now.places place None)
  where
    at : (o : Option ℕ) → HasEnded c (begin_next o c)
    at None = stopped c
    at (Some tei) = gone_on c place tei first

pub has_ended : (c : Course) → HasEnded c (end_check c)
has_ended c = as_read (HasEnded c) c.now.reading (stop_check c) (check_next c) (λ is. stopped c) (λ is. next_ended c (position is_due c.now.to_check) refl)
