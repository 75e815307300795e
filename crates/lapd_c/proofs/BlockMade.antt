-- What a call that exchanges a block of octets comes to.
use Rattle.std.specs.Prelude.{◌≢◌, ◌⊎◌, ◌-◌}
use Rattle.lapd_c.proofs.Vocabulary.{◌≡◌, ◌≤◌, ◌<◌, ◌+◌, ◌*◌, ℕ, Bool, true, false, None, Some, List, [], length, inl, inr, refl, sym, ap, subst, ◌∙◌, arith, OctetCard, LineTold, nothing, HeldCard, with_ports, answer_after, card_after, tells_nothing, false≢true}
unfoldable use Rattle.lapd_c.proofs.Vocabulary.{given_after, steps_made}
use Rattle.lapd_frame.specs.declared.timers.Order.{Order}
use Rattle.model_card.proofs.OfPorts.Fold.{run_is_moments}
use Rattle.model_card.specs.ports.Port.{Answer, told, refused, pulled}
use Rattle.lapd_c.specs.Answers.{ShowsReply}
use Rattle.lapd_c.specs.BlockMade.{BlocksAreMade, IsEmpty}
use Rattle.lapd_c.specs.Cards.{StandsIn, card_of}
use Rattle.lapd_c.specs.Exchange.{ExchangedIn, IsThrough, TellsAtLast}
use Rattle.lapd_c.specs.Kept.{is_timed, orders_by, reply_seen_by}
use Rattle.lapd_c.specs.Reports.{Shows, ShowsPull}
use Rattle.lapd_c.specs.declared.plain.reports.PlainReport.{PlainReport}
use Rattle.lapd_c.proofs.Blocks.{empty_if, quiet_at}

-- what an answer is
abbrev as_told : LineTold → Answer → LineTold
as_told other (told t) = t
as_told other (refused why) = other
as_told other (pulled value begun orders) = other

abbrev is_pulled : Answer → Bool
is_pulled (told t) = false
is_pulled (refused why) = false
is_pulled (pulled value begun orders) = true

abbrev as_begun : Answer → Bool
as_begun (told t) = false
as_begun (refused why) = false
as_begun (pulled value begun orders) = begun

abbrev as_orders : Answer → List Order
as_orders (told t) = []
as_orders (refused why) = []
as_orders (pulled value begun orders) = orders

-- what is empty tells nothing
empty_tells : (a : Answer) → IsEmpty a → tells_nothing a ≡ true
empty_tells a (inl is) = ap tells_nothing is
empty_tells a (inr (value, is)) = ap tells_nothing is

no_orders : (timed : Bool) → orders_by timed [] ≡ []
no_orders true = refl
no_orders false = refl

-- and a report that shows nothing shows it
told_nothing : (timed : Bool) (r : PlainReport) (a : Answer) (t : LineTold) → IsEmpty a → a ≡ told t → Shows r nothing → Shows r (record t { orders = orders_by timed t.orders })
told_nothing timed r a t (inl is) its s =
    let same : nothing ≡ t = ap (as_told nothing) (sym is ∙ its) in
    subst (λ (x : LineTold). Shows r (record x { orders = orders_by timed x.orders })) same (subst (λ (os : List Order). Shows r (record nothing { orders = os })) (sym (no_orders timed)) s)
told_nothing timed r a t (inr (value, is)) its s = absurd (false≢true (ap is_pulled (sym its ∙ is)))

pulled_nothing : (timed : Bool) (r : PlainReport) (a : Answer) (value : ℕ) (begun : Bool) (orders : List Order) → IsEmpty a → a ≡ pulled value begun orders → Shows r nothing
    → ShowsPull r begun false (orders_by timed orders)
pulled_nothing timed r a value begun orders (inl is) its s = absurd (false≢true (ap is_pulled (sym is ∙ its)))
pulled_nothing timed r a value begun orders (inr (other, is)) its s =
    let none : ShowsPull r false false [] = record {
      note_count = s.note_count;
      order_count = s.order_count;
      delivered = s.delivered;
      octet_count = s.octet_count;
      orders = s.orders;
      contents = s.contents;
      cause = s.cause;
      lost = s.lost;
      given_up = s.given_up;
      given_up_16 = s.given_up_16;
      begun = s.begun;
      more = s.more;
    } in
    subst (λ (b : Bool). ShowsPull r b false (orders_by timed orders)) (ap as_begun (sym is ∙ its))
    (subst (λ (os : List Order). ShowsPull r false false os) (sym (no_orders timed) ∙ ap (λ (os : List Order). orders_by timed os) (ap as_orders (sym is ∙ its))) none)

-- what the last step told, without orders if the card keeps its own timers
seen_told : (timed : Bool) (r : PlainReport) (t : LineTold) → ShowsReply r (reply_seen_by timed (told t)) → Shows r (record t { orders = orders_by timed t.orders })
seen_told true r t s = s
seen_told false r t s = s

seen_pulled : (timed : Bool) (r : PlainReport) (value : ℕ) (begun : Bool) (orders : List Order) → ShowsReply r (reply_seen_by timed (pulled value begun orders))
    → ShowsPull r begun false (orders_by timed orders)
seen_pulled true r value begun orders s = s
seen_pulled false r value begun orders s = s

-- a card that is held stands for a machine of octets
abbrev standing : HeldCard → OctetCard → Type 0
standing held y = StandsIn held (with_ports y)

module _ (timed : Bool) (line from to : ℕ) (taken given given' : List ℕ) (m : OctetCard) (r : PlainReport) where
  -- what is known of the steps
  record Made (stands : OctetCard → Type 0) : Type 0 where
    n : ℕ
    within : to ≤ 2 * length taken
    there : stands (card_after line taken from n m)
    octets : given' ≡ given_after line taken from n m given
    ended : IsThrough line taken from n m to r ⊎ TellsAtLast timed line taken from n m to r

  made_in : (held : HeldCard) → ExchangedIn timed line taken from m held given given' to r → Made (standing held)
  made_in None x = absurd x
  made_in (Some kept) x = record { n = x.n; within = x.within; there = x.stands; octets = x.octets; ended = x.ended }

  module _ (stands : OctetCard → Type 0) (made : Made stands) where
    so_many : to ≡ from + made.n
    so_many = elim made.ended [ inl all ↦ all.made | inr last ↦ last.made ]

    counted : made.n ≡ to - from
    counted = omega (arith, so_many)

    are_quiet : (step : ℕ) → step + 1 < to - from → IsEmpty (answer_after line taken from step m)
    are_quiet step few = elim made.ended [
      | inl all ↦ empty_if (answer_after line taken from step m) (quiet_at line from step taken m made.n all.quiet (omega (arith, few, counted)))
      | inr last ↦ empty_if (answer_after line taken from step m) (quiet_at line from step taken m last.before last.quiet (omega (arith, few, counted, last.last)))
    ]

    goes_on : to ≢ 2 * length taken → (last : ℕ) × (to ≡ from + (last + 1)) × (IsEmpty (answer_after line taken from last m) → ⊥)
    goes_on short = elim made.ended [
      | inl all ↦ absurd (short all.end)
      | inr it ↦ (it.before, omega (arith, it.last, it.made), λ empty. false≢true (sym it.tells ∙ empty_tells (answer_after line taken from it.before m) empty))
    ]

    shows_nothing : to ≡ from → Shows r nothing
    shows_nothing is = elim made.ended [
      | inl all ↦ all.report
      | inr it ↦ absurd (omega (arith, is, it.last, it.made))
    ]

    shows_told : (last : ℕ) (t : LineTold) → to ≡ from + (last + 1) → answer_after line taken from last m ≡ told t → Shows r (record t { orders = orders_by timed t.orders })
    shows_told last t is answered = elim made.ended [
      | inl all ↦ told_nothing timed r (answer_after line taken from last m) t
          (empty_if (answer_after line taken from last m) (quiet_at line from last taken m made.n all.quiet (omega (arith, is, so_many)))) answered all.report
      | inr it ↦ let same : it.before ≡ last = omega (arith, is, it.last, it.made) in
          seen_told timed r t (subst (λ (a : Answer). ShowsReply r (reply_seen_by timed a)) (ap (λ (k : ℕ). answer_after line taken from k m) same ∙ answered) it.report)
    ]

    shows_pulled : (last value : ℕ) (begun : Bool) (orders : List Order) → to ≡ from + (last + 1) → answer_after line taken from last m ≡ pulled value begun orders
        → ShowsPull r begun false (orders_by timed orders)
    shows_pulled last value begun orders is answered = elim made.ended [
      | inl all ↦ pulled_nothing timed r (answer_after line taken from last m) value begun orders
          (empty_if (answer_after line taken from last m) (quiet_at line from last taken m made.n all.quiet (omega (arith, is, so_many)))) answered all.report
      | inr it ↦ let same : it.before ≡ last = omega (arith, is, it.last, it.made) in
          seen_pulled timed r value begun orders (subst (λ (a : Answer). ShowsReply r (reply_seen_by timed a)) (ap (λ (k : ℕ). answer_after line taken from k m) same ∙ answered) it.report)
    ]

pub blocks_are_made : BlocksAreMade
blocks_are_made line taken from to m old new result given given' r x =
    let made = made_in (is_timed old) line from to taken given given' m r (card_of new) x.exchanged in
    let many = counted (is_timed old) line from to taken given given' m r (standing (card_of new)) made in record {
      ok = x.ok;
      within = made.within;
      stands = subst (standing (card_of new)) (run_is_moments.card m (steps_made line taken from (to - from)))
          (subst (λ (k : ℕ). standing (card_of new) (card_after line taken from k m)) many made.there);
      timers = x.obeyed.timers;
      links = x.obeyed.noted;
      octets = made.octets ∙ ap (λ (k : ℕ). given_after line taken from k m given) many;
      counters = x.counted;
      quiet = are_quiet (is_timed old) line from to taken given given' m r (standing (card_of new)) made;
      ended = goes_on (is_timed old) line from to taken given given' m r (standing (card_of new)) made;
      nothing = shows_nothing (is_timed old) line from to taken given given' m r (standing (card_of new)) made;
      told = shows_told (is_timed old) line from to taken given given' m r (standing (card_of new)) made;
      pulled = shows_pulled (is_timed old) line from to taken given given' m r (standing (card_of new)) made;
    }
