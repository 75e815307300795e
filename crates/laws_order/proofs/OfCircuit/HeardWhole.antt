-- A frame that is heard whole in octets is neither too short nor overlong, so where it comes as a frame it is heard as itself.
use Rattle.laws_order.proofs.Vocabulary.{◌≡◌, ℕ, Bool, cond, nat_lt, List, [], ◌∷◌, ◌++◌, reverse, Option, option_and_then, option_to_list, subst, arith, All, le-ltb, ltb-false, length-take-le, All-nil, All-append, All-tail, bits, ends_flag, since_flag, text_event, closed_by_flag, given_up, heard_at, heard_until, heard_in, room_for, came, gained, heard_with, stream_frame, StreamEvent}

module _ (n201 : ℕ) where
  abbrev pub HasCome : StreamEvent → Type 0
  HasCome (stream_frame octets) = came n201 octets ≡ stream_frame octets
  HasCome other = Unit {0}

  -- ---- in a stream

  abbrev room : ℕ
  room = room_for n201

  text-whole : (o : Option (List ℕ)) → HasCome (text_event room o)
  text-whole o = grind (arith, nat_lt, le-ltb, ltb-false, length-take-le)

  bit-whole : (b flag : Bool) (o : Option (List Bool)) → All HasCome (option_to_list (cond flag (option_and_then (closed_by_flag room) o) (option_and_then (λ g. given_up (b ∷ g)) o)))
  bit-whole b o x = grind (arith, text-whole)

  until-whole : (past : List Bool) → All HasCome (heard_until room past)
  until-whole [] = All-nil HasCome
  until-whole (b ∷ past) =
      All-append HasCome (heard_until room past) (option_to_list (heard_at room (b ∷ past))) (until-whole past) (bit-whole b (ends_flag (b ∷ past)) (since_flag past))

  behind : (es fs : List StreamEvent) → All HasCome (es ++ fs) → All HasCome fs
  behind [] fs all = all
  behind (e ∷ es) fs all = behind es fs (All-tail HasCome e (es ++ fs) all)

  pub gained-whole : (received : List ℕ) (value : ℕ) → All HasCome (option_to_list (gained n201 received value))
  gained-whole received value =
      behind (heard_in n201 received) (option_to_list (gained n201 received value))
      (subst (All HasCome) (heard_with n201 received value) (until-whole (reverse (bits (received ++ value ∷ [])))))
