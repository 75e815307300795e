-- The counts of a link are what they say.
use Rattle.laws_link.proofs.Vocabulary.{◌≡◌, ℕ, ◌+◌, ◌-◌, ◌≤◌, ◌==◌, Bool, true, false, cond, ◌&&◌, IsTrue, true≢false, List, [], ◌∷◌, list_any, refl, sym, subst, ◌∙◌, arith, nat_lt, All, Terms, Link, fresh, is_multiple_frame, Event, received, expired, requested, offer, cleared, frame, undefined, wrong_size, overlong, after, after_all}
use Rattle.laws_link.proofs.Vocabulary.{IsInRange, IsSound, sound-after, sound-fresh, is_running}
use Rattle.std.specs.Prelude.{min}
use Rattle.model_link.specs.Sound.{is_information}
unfoldable use Rattle.laws_link.specs.Counting.{tally}
use Rattle.laws_link.specs.Counting.{Tally, nothing_yet, one_if, with_event, at_most, is_t200, receives_rej, establishes, sends_rej, sends_information}
use Rattle.laws_link.proofs.Tallying.{one, counted_by, of-received, of-expired, of-requested, of-offer}
use Rattle.laws_link.proofs.TallyMoves.{Turns, Gives, frame-turns, malformed, expiries, asked, offer-gives}

-- a number among those that were sent
abbrev among : ℕ → List ℕ → Bool
among i ns = list_any (λ j. j == i) ns

-- What is known of a link and of what happened to it.
record Stands (t : Terms) (l : Link) (n : Tally) : Type 0 where
  sound : IsSound t l
  counts : l.counts ≡ at_most n
  numbers : IsTrue (is_multiple_frame l.state) → (i : ℕ) → among i n.numbers ≡ nat_lt i (l.s + l.again)
  within : IsTrue (is_multiple_frame l.state) → l.s + l.again ≤ l.a + t.k

one-more : (b : Bool) (x : ℕ) → one b (min x 65535) ≡ min (one_if b x) 65535
one-more h x = grind arith

-- an I-frame more: the next, or one that goes again
sent-more : (s again i : ℕ) (ns : List ℕ) → among i ns ≡ nat_lt i (s + again) → among i (s ∷ ns) ≡ nat_lt i ((s + 1) + (again - 1))
sent-more s again i ns e = grind (arith, nat_lt)

goes-again : (s again : ℕ) → nat_lt s (s + again) ≡ nat_lt 0 again
goes-again s again = grind (arith, nat_lt)

module _ (t : Terms) (ranges : IsInRange t) (l : Link) (n : Tally) (h : Stands t l n) where
  -- a record of the same numbers as what an event makes of a tally
  abbrev more : Event → Tally
  more e = record {
    sent_again = one_if (sends_information t e l && among l.s n.numbers) n.sent_again;
    t200_expired = one_if (is_t200 e l) n.t200_expired;
    rejects_sent = one_if (sends_rej t e l) n.rejects_sent;
    rejects_received = one_if (receives_rej e l) n.rejects_received;
    established = one_if (establishes e l) n.established;
    numbers = cond (establishes e l) [] (cond (sends_information t e l) (l.s ∷ n.numbers) n.numbers);
  }

  near : IsTrue (is_multiple_frame l.state) → l.s + l.again ≤ l.a + 127
  near up = let few : t.k ≤ 127 = ranges.k_high in let w : l.s + l.again ≤ l.a + t.k = h.within up in omega (arith, few, w)

  again-is : (b : Bool) → (b ≡ true → IsTrue (is_multiple_frame l.state)) → (b && among l.s n.numbers) ≡ (b && nat_lt 0 l.again)
  again-is false up = refl
  again-is true up = h.numbers (up refl) l.s ∙ goes-again l.s l.again

  counts-of : (e : Event) → (sends_information t e l ≡ true → IsTrue (is_multiple_frame l.state)) → (after t e l).counts ≡ counted_by t e l → (after t e l).counts ≡ at_most (more e)
  counts-of e up is = grind (arith, one-more, again-is)

  by-turns : (e : Event) → sends_information t e l ≡ false → (after t e l).counts ≡ counted_by t e l → Turns l (is_multiple_frame l.state) (establishes e l) (after t e l) → Stands t (after t e l) (more e)
  by-turns e none is x = record {
    sound = sound-after t ranges e l h.sound;
    counts = counts-of e (λ some. absurd (true≢false (sym some ∙ none))) is;
    numbers = λ up i. go (establishes e l) refl up i;
    within = λ up. go-within (establishes e l) refl up;
  }
    where
      go : (b : Bool) → establishes e l ≡ b → IsTrue (is_multiple_frame (after t e l).state) → (i : ℕ)
          → among i (cond b [] (cond (sends_information t e l) (l.s ∷ n.numbers) n.numbers)) ≡ nat_lt i ((after t e l).s + (after t e l).again)
      go true is up i = grind (arith, nat_lt)
      go false is up i = grind (arith, cond, nat_lt)

      go-within : (b : Bool) → establishes e l ≡ b → IsTrue (is_multiple_frame (after t e l).state) → (after t e l).s + (after t e l).again ≤ (after t e l).a + t.k
      go-within true is up = let y = x.begins is in omega (arith, y.0, y.1)
      go-within false is up = grind arith

  by-offer : Gives l (sends_information t offer l) (after t offer l) → (after t offer l).counts ≡ counted_by t offer l → Stands t (after t offer l) (more offer)
  by-offer x is = record {
    sound = sound;
    counts = counts-of offer (λ some. (x.sent some).0) is;
    numbers = λ up i. go (sends_information t offer l) refl (before up) i;
    within = λ up. go-within (sends_information t offer l) refl (before up);
  }
    where
      sound : IsSound t (after t offer l)
      sound = sound-after t ranges offer l h.sound

      before : IsTrue (is_multiple_frame (after t offer l).state) → IsTrue (is_multiple_frame l.state)
      before up = subst (λ s. IsTrue (is_multiple_frame s)) x.state up

      go : (b : Bool) → sends_information t offer l ≡ b → IsTrue (is_multiple_frame l.state) → (i : ℕ)
          → among i (cond b (l.s ∷ n.numbers) n.numbers) ≡ nat_lt i ((after t offer l).s + (after t offer l).again)
      go true some up i = grind (arith, sent-more)
      go false none up i = grind arith

      go-within : (b : Bool) → sends_information t offer l ≡ b → IsTrue (is_multiple_frame l.state) → (after t offer l).s + (after t offer l).again ≤ (after t offer l).a + t.k
      go-within true some up = grind (arith, after)
      go-within false none up = let y = x.other none in let w : l.s + l.again ≤ l.a + t.k = h.within up in omega (arith, y.0, y.1, w, x.a)

  -- nothing that waits is an I-frame
  no-information : All (λ f. is_information f.control ≡ false) l.waiting
  no-information = grind (arith, is_information)

  each : (e : Event) → Stands t (after t e l) (with_event t e l n)
  each (received (frame f)) = by-turns (received (frame f)) refl (of-received t l (frame f)) (frame-turns t l h.sound.ordered near l.state refl f.address.command f.info f.control)
  each (received undefined) = by-turns (received undefined) refl (of-received t l undefined) (malformed t l l.state refl _)
  each (received wrong_size) = by-turns (received wrong_size) refl (of-received t l wrong_size) (malformed t l l.state refl _)
  each (received overlong) = by-turns (received overlong) refl (of-received t l overlong) (malformed t l l.state refl _)
  each (expired timer) = by-turns (expired timer) refl (of-expired t l timer) (expiries t l timer (is_running timer l))
  each (requested request full) = by-turns (requested request full) refl (of-requested t l request full) (asked t l request _)
  each offer = by-offer (offer-gives t l no-information) (of-offer t l no-information)
  each cleared = record { sound = sound-after t ranges cleared l h.sound; counts = grind arith; numbers = λ up. absurd (grind arith); within = λ up. absurd (grind arith) }

all-stand : (t : Terms) → IsInRange t → (es : List Event) (l : Link) (n : Tally) → Stands t l n → (after_all t es l).counts ≡ at_most (tally t es l n)
unfolding after_all tally
all-stand t ranges [] l n h = h.counts
all-stand t ranges (e ∷ es) l n h = all-stand t ranges es (after t e l) (with_event t e l n) (each t ranges l n h e)

pub counts-are : (t : Terms) (es : List Event) → IsInRange t → (after_all t es fresh).counts ≡ at_most (tally t es fresh nothing_yet)
counts-are t es ranges = grind (arith, all-stand, fresh, nothing_yet, sound-fresh, true≢false)
