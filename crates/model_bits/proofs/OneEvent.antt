-- Eight bits bring at most one event: what ends one leaves no open gap, or one that is too young to end another.
use Rattle.model_bits.proofs.Vocabulary.{◌≡◌, ℕ, suc, ◌<◌, ◌≤◌, ◌⊎◌, Bool, true, false, List, [], ◌∷◌, ◌++◌, length, reverse, Option, Some, None, IfSome, option_to_list, nat_lt, refl, ap, sym, ◌∙◌, arith, inl, inr, ⊎_elim, cases_lt, cases_eq, lt-ltb, le-ltb, length-reverse, bits, low_bits, Event, heard_at, heard_until, room_for, OneEventAnOctet, run_of, open_gap, one_more, given_up_event}
use Rattle.model_bits.proofs.Vocabulary.{closed_event}
use Rattle.std.proofs.lemmas.List.{append-nil}
use Rattle.model_bits.proofs.BitLemmas.{length-low_bits, reverse-bits_push}
use Rattle.model_bits.proofs.Hearing.{heard_at-one, heard_at-abort, heard_at-zero, heard_at-flag, open_gap-one, open_gap-abort, open_gap-zero, open_gap-flag}

-- The gap, if one is open, has fewer than `n` bits.
abbrev IsShorter : ℕ → Option (List Bool) → Type 0
IsShorter n gap = IfSome gap (λ g. length g < n)

IsShorter-le : (m n : ℕ) (gap : Option (List Bool)) → m ≤ n → IsShorter m gap → IsShorter n gap
IsShorter-le m n gap h y = grind arith

IsShorter-more : (n : ℕ) (b : Bool) (gap : Option (List Bool)) → IsShorter n gap → IsShorter (suc n) (one_more b gap)
IsShorter-more n b gap y = grind arith

-- ---- a young gap is not told

not_given_up : (gap : Option (List Bool)) → IsShorter 7 gap → given_up_event gap ≡ None
not_given_up gap y = grind (arith, nat_lt, le-ltb)

not_closed : (room : ℕ) (gap : Option (List Bool)) → IsShorter 7 gap → closed_event room gap ≡ None
not_closed room gap y = grind (arith, nat_lt, lt-ltb)

-- what a bit brings, and the gap behind it: it goes on the open gap, or gives it up, or closes it
by_bit :
    {P : Type 0} (room : ℕ) (b : Bool) (past : List Bool)
    → (heard_at room (b ∷ past) ≡ None → open_gap (b ∷ past) ≡ one_more b (open_gap past) → P)
    → (heard_at room (b ∷ past) ≡ given_up_event (open_gap past) → open_gap (b ∷ past) ≡ None → P)
    → (heard_at room (b ∷ past) ≡ closed_event room (open_gap past) → open_gap (b ∷ past) ≡ Some [] → P) → P
by_bit room true past on up closed =
    ⊎_elim
    (λ few. on (heard_at-one room past few) (open_gap-one past few))
    (λ many. up (heard_at-abort room past many) (open_gap-abort past many))
    (cases_lt (run_of past) 6)
by_bit room false past on up closed =
    ⊎_elim
    (λ six. closed (heard_at-flag room past six) (open_gap-flag past six))
    (λ other. on (heard_at-zero room past other) (open_gap-zero past other))
    (cases_eq (run_of past) 6)

quiet : (room : ℕ) (b : Bool) (past : List Bool) → IsShorter 7 (open_gap past) → heard_at room (b ∷ past) ≡ None
quiet room b past y = grind (arith, by_bit, not_given_up, not_closed)

-- ---- a gap grows by a bit at a time, and begins anew after an event

grows : (n : ℕ) (b : Bool) (past : List Bool) → IsShorter n (open_gap past) → IsShorter (suc n) (open_gap (b ∷ past))
grows n b past y = grind (arith, by_bit, IsShorter-more)

some_is_not_none : (e : Event) (o : Option Event) → o ≡ Some e → o ≡ None → ⊥
some_is_not_none e o some none = cc

anew : (room : ℕ) (b : Bool) (past : List Bool) (e : Event) → heard_at room (b ∷ past) ≡ Some e → IsShorter 1 (open_gap (b ∷ past))
anew room b past e heard = grind (arith, by_bit, some_is_not_none)

-- ---- bits that follow a past, the latest first

-- An event was heard in these bits, and the gap that is open has come since.
record IsHeard (room : ℕ) (past new : List Bool) : Type 0 where
  event : Event
  heard : heard_until room (new ++ past) ≡ heard_until room past ++ event ∷ []
  young : IsShorter (length new) (open_gap (new ++ past))

-- Nothing was heard in these bits.
abbrev IsQuiet : ℕ → List Bool → List Bool → Type 0
IsQuiet room past new = heard_until room (new ++ past) ≡ heard_until room past

module _ (room : ℕ) (past : List Bool) where
  after_quiet : (b : Bool) (new : List Bool) → IsQuiet room past new → IsQuiet room past (b ∷ new) ⊎ IsHeard room past (b ∷ new)
  after_quiet b new q = go (heard_at room (b ∷ (new ++ past))) refl
    where
      go : (o : Option Event) → heard_at room (b ∷ (new ++ past)) ≡ o → IsQuiet room past (b ∷ new) ⊎ IsHeard room past (b ∷ new)
      go None e =
          inl (ap (λ o. heard_until room (new ++ past) ++ option_to_list o) e ∙ append-nil (heard_until room (new ++ past)) ∙ q)
      go (Some event) e =
          inr (record {
            event = event;
            heard = ap (λ o. heard_until room (new ++ past) ++ option_to_list o) e ∙ ap (λ h. h ++ event ∷ []) q;
            young = IsShorter-le 1 (suc (length new)) (open_gap (b ∷ (new ++ past))) (omega arith) (anew room b (new ++ past) event e);
          })

  after_heard : (b : Bool) (new : List Bool) → length new < 8 → IsHeard room past new → IsHeard room past (b ∷ new)
  after_heard b new few h = grind (arith, quiet, IsShorter-le, option_to_list, append-nil, grows)

  at_most_one : (new : List Bool) → length new ≤ 8 → IsQuiet room past new ⊎ IsHeard room past new
  at_most_one [] few = inl refl
  at_most_one (b ∷ new) few =
      ⊎_elim
      (λ q. after_quiet b new q)
      (λ h. inr (after_heard b new (omega arith) h))
      (at_most_one new (omega arith))

-- ---- the law

pub one_event_an_octet : OneEventAnOctet
one_event_an_octet n201 past octet =
    let room = room_for n201 in
    let before = reverse (bits past) in
    let new = reverse (low_bits 8 octet) in
    let eight : length new ≤ 8 = omega (arith, length-reverse (low_bits 8 octet), length-low_bits 8 octet) in
    let all = ap (heard_until room) (reverse-bits_push past octet) in
    ⊎_elim
    (λ q. (None, all ∙ q ∙ sym (append-nil (heard_until room before))))
    (λ h. (Some h.event, all ∙ h.heard))
    (at_most_one room before new eight)
