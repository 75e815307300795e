-- A block of octets is so many calls.
use Rattle.std.specs.Prelude.{◌/◌, ◌==◌, zero, not, is_none, get_or, set, if◌then◌else◌}
use Rattle.lapd_c.proofs.Vocabulary.{◌≡◌, ◌<◌, ◌+◌, ◌*◌, ◌∷◌, ℕ, suc, Bool, true, false, Option, None, Some, List, [], length, inl, inr, refl, ap, subst, ◌∙◌, arith, cases_lt, and_parts, eqb-true, false≢true, OctetCard, LineTold, nothing, answer_after, step_event, tells_nothing, with_step}
unfoldable use Rattle.lapd_c.proofs.Vocabulary.{AllQuiet, given_after, steps_made}
use Rattle.lapd_frame.specs.declared.timers.Order.{Order}
use Rattle.model_card.proofs.OfPorts.Fold.{run_is_moments}
use Rattle.model_card.specs.ports.Event.{at}
use Rattle.model_card.specs.ports.Port.{Answer, octet, pull, told, refused, pulled}
use Rattle.lapd_c.specs.Answers.{octet_of}
use Rattle.lapd_c.specs.BlockMade.{BlocksAreMade, IsEmpty}
use Rattle.lapd_c.specs.Blocks.{BlocksAreCalls}
use Rattle.lapd_c.proofs.Halves.{even, odd}

-- which step is which
takes_is : (line i : ℕ) (taken : List ℕ) → step_event line taken (2 * i) ≡ at line (octet (get_or taken i 0))
takes_is line i taken =
    ap (λ (n : ℕ). at line (if n == 0 then octet (get_or taken (2 * i / 2) 0) else pull)) ((even i).0) ∙ ap (λ (n : ℕ). at line (octet (get_or taken n 0))) ((even i).1)

pulls_is : (line i : ℕ) (taken : List ℕ) → step_event line taken (2 * i + 1) ≡ at line pull
pulls_is line i taken = ap (λ (n : ℕ). at line (if n == 0 then octet (get_or taken ((2 * i + 1) / 2) 0) else pull)) ((odd i).0)

writes_is : (i value : ℕ) (begun : Bool) (orders : List Order) (given : List ℕ) → with_step (2 * i + 1) (pulled value begun orders) given ≡ set given i value
writes_is i value begun orders given =
    ap (λ (n : ℕ). if n == 0 then given else set given ((2 * i + 1) / 2) value) ((odd i).0) ∙ ap (λ (n : ℕ). set given n value) ((odd i).1)

leaves_is : (i : ℕ) (a : Answer) (given : List ℕ) → with_step (2 * i) a given ≡ given
leaves_is i a given = ap (λ (n : ℕ). if n == 0 then given else set given (2 * i / 2) (octet_of a)) ((even i).0)

-- what tells nothing
nil_if : {A : Type 0} (xs : List A) → (length xs == 0) ≡ true → xs ≡ []
nil_if [] is = refl
nil_if (x ∷ xs) is = let none : length (x ∷ xs) ≡ 0 = eqb-true (length (x ∷ xs)) 0 is in absurd (omega (arith, none))

none_if : {A : Type 0} (o : Option A) → is_none o ≡ true → o ≡ None
none_if None is = refl
none_if (Some x) is = absurd (false≢true is)

all_nothing : (t : LineTold) → t.notes ≡ [] → t.contents ≡ None → t.cause ≡ None → t.orders ≡ [] → t.lost ≡ 0 → t.given_up ≡ 0 → t.given_up_16 ≡ 0 → told t ≡ told nothing
all_nothing t notes contents cause orders lost given_up given_up_16 = λ i. told (record {
  notes = notes i;
  contents = contents i;
  cause = cause i;
  orders = orders i;
  lost = lost i;
  given_up = given_up i;
  given_up_16 = given_up_16 i;
})

told_empty : (t : LineTold) → tells_nothing (told t) ≡ true → told t ≡ told nothing
told_empty t is =
    let a = and_parts _ _ is in
    let b = and_parts _ _ (a.0) in
    let c = and_parts _ _ (b.0) in
    let d = and_parts _ _ (c.0) in
    let e = and_parts _ _ (d.0) in
    let f = and_parts _ _ (e.0) in
    all_nothing t (nil_if t.notes (f.0)) (none_if t.contents (a.1)) (none_if t.cause (e.1)) (nil_if t.orders (f.1)) (eqb-true t.lost 0 (d.1)) (eqb-true t.given_up 0 (c.1)) (eqb-true t.given_up_16 0 (b.1))

not_begun : (begun : Bool) → not begun ≡ true → begun ≡ false
not_begun true is = absurd (false≢true is)
not_begun false is = refl

pub empty_if : (a : Answer) → tells_nothing a ≡ true → IsEmpty a
empty_if (told t) is = inl (told_empty t is)
empty_if (refused why) is = absurd (false≢true is)
empty_if (pulled value begun orders) is =
    let a = and_parts (not begun) _ is in
    inr (value, ap (λ b. pulled value b orders) (not_begun begun (a.0)) ∙ ap (λ os. pulled value false os) (nil_if orders (a.1)))

pub quiet_at : (line from step : ℕ) (taken : List ℕ) (m : OctetCard) (n : ℕ) → AllQuiet line taken from n m → step < n → tells_nothing (answer_after line taken from step m) ≡ true
unfolding AllQuiet
quiet_at line from step taken m zero quiet less = absurd (omega (arith, less))
quiet_at line from step taken m (suc n) quiet less = elim (cases_lt step n) [
  | inl before ↦ quiet_at line from step taken m n (quiet.0) before
  | inr after ↦ let it : n ≡ step = omega (arith, less, after) in subst (λ (k : ℕ). tells_nothing (answer_after line taken from k m) ≡ true) it (quiet.1)
]

pub blocks_are_calls_by : BlocksAreMade → BlocksAreCalls
unfolding steps_made given_after
blocks_are_calls_by made = record {
  served = λ taken given from. refl;
  takes = λ line i taken. takes_is line i taken;
  pulls = λ line i taken. pulls_is line i taken;
  given = λ value begun orders. refl;
  writes = λ i value begun orders given. writes_is i value begun orders given;
  leaves = λ i a given. leaves_is i a given;
  none = λ line from taken. refl;
  more = λ line from n taken. refl;
  card = λ line from n taken m. run_is_moments.card m (steps_made line taken from n);
  answers = λ line from n taken m. refl;
  nothing_given = λ line from taken given m. refl;
  all_given = λ line from n taken given m. refl;
  quiet = λ line from n step taken m quiet less. empty_if (answer_after line taken from step m) (quiet_at line from step taken m n quiet less);
  empty = λ a is. empty_if a is;
  made = made;
}
