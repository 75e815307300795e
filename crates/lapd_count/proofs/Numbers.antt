-- A counter is a number.
use Rattle.lapd_count.proofs.Vocabulary.{◌≡◌, ℕ, ◌+◌, ◌≤◌, ◌<◌, ◌==◌, Bool, true, false, cond, [], ◌∷◌, length, length-set, get_or, set, min, refl, sym, ap, subst, ◌∙◌, arith, eqb-true, eqb-false, get_or-set_same, get_or-set_other, sum_by-cons, Cause, ErrorCode, Counter, MessageType, Counters, Kind, count, most, place, value_in, with_more, amount_of, amount_in, CountersAreNumbers}
use denote.Enum.Declared.{tag_of}
use Rattle.model_bits.specs.contracts.heard.Cause.{the_type as the_cause}
use Rattle.lapd_frame.specs.contracts.notes.ErrorCode.{the_type as the_code}
use Rattle.lapd_count.specs.contracts.counter.Way.{the_type as the_way}
use Rattle.lapd_count.specs.contracts.kinds.Kind.{the_type as the_kind}
use Rattle.lapd_count.specs.contracts.messages.MessageType.{the_type as the_message}
use Rattle.lapd_count.specs.declared.counter.Way.{Way}

kind_within : (k : Kind) → tag_of the_kind k < 12
kind_within k = grind arith

way_within : (w : Way) → tag_of the_way w < 2
way_within w = grind arith

cause_within : (c : Cause) → tag_of the_cause c < 8
cause_within c = grind arith

error_within : (e : ErrorCode) → tag_of the_code e < 14
error_within e = grind arith

message_within : (m : MessageType) → tag_of the_message m < 7
message_within m = grind arith

-- each has a place
pub place_within : (counter : Counter) → place counter < count
place_within counter = grind (arith, way_within, kind_within, cause_within, error_within, message_within)

-- so many more of one are so many more of it, and of no other
one_more : (counters : Counters) (other counter : Counter) (amount : ℕ) → length counters.values ≡ count → value_in counters counter ≤ most
    → value_in (with_more counters (other, amount)) counter ≡ min (value_in counters counter + amount_of counter (other, amount)) most
one_more counters other counter amount whole few = go (place other == place counter) refl
  where
    small : (n : ℕ) → n ≤ most → min (n + 0) most ≡ n
    small n few = omega (arith, few)

    go : (b : Bool) → (place other == place counter) ≡ b
        → value_in (with_more counters (other, amount)) counter ≡ min (value_in counters counter + (cond b amount 0)) most
    go true is =
        let same : place other ≡ place counter = eqb-true (place other) (place counter) is in
        let within : place counter < length counters.values = omega (arith, whole, place_within counter) in
        ap (λ p. get_or (set counters.values p (min (get_or counters.values p 0 + amount) most)) (place counter) 0) same
        ∙ get_or-set_same counters.values (place counter) (min (value_in counters counter + amount) most) 0 within
    go false is =
        get_or-set_other counters.values (place other) (place counter) (min (value_in counters other + amount) most) 0 (λ e. eqb-false (place other) (place counter) is (sym e))
        ∙ sym (small (value_in counters counter) few)

-- amounts add up, up to the greatest value
adds_up : (v n r : ℕ) → min (min (v + n) most + r) most ≡ min (v + (n + r)) most
adds_up v n r = omega arith

most_stays : (n : ℕ) → min n most ≤ most
most_stays n = omega arith

pub counters_are_numbers : CountersAreNumbers
counters_are_numbers counters [] counter whole few = empty (value_in counters counter) few
  where
    empty : (n : ℕ) → n ≤ most → n ≡ min (n + 0) most
    empty n few = omega (arith, few)
counters_are_numbers counters ((other, amount) ∷ all) counter whole few =
    let next : Counters = with_more counters (other, amount) in
    let one = one_more counters other counter amount whole few in
    counters_are_numbers next all counter (length-set counters.values (place other) (min (value_in counters other + amount) most) ∙ whole)
    (subst (λ n. n ≤ most) (sym one) (most_stays (value_in counters counter + amount_of counter (other, amount))))
    ∙ ap (λ n. min (n + amount_in counter all) most) one
    ∙ adds_up (value_in counters counter) (amount_of counter (other, amount)) (amount_in counter all)
    ∙ ap (λ n. min (value_in counters counter + n) most) (sym (sum_by-cons (amount_of counter) (other, amount) all))
