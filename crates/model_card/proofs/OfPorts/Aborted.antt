-- Seven contiguous 1s after a flag and some bits are heard as an abort, and fewer than eight bits after them as nothing.
use Rattle.model_card.proofs.OfPorts.Vocabulary.{◌≡◌, ℕ, suc, ◌+◌, ◌≤◌, ◌⊎◌, Bool, true, false, List, [], ◌∷◌, ◌++◌, length, None, Some, option_to_list, refl, sym, ap, ◌∙◌, arith, inl, inr, cond, lt-ltb, reverse_aux, after_flag, hears, hears-append, heard_until-onto, heard_at-abort, heard_at-one, open_gap-abort, open_gap-one, open_gap-zero, open_gap, run_of, heard_at, heard_until}
use Rattle.std.specs.Prelude.{◌≢◌, min}
use Rattle.std.proofs.lemmas.List.{append-nil, append_cancel_left}
use Rattle.model_bits.proofs.Hearing.{heard_at-zero}
use Rattle.model_bits.proofs.Quiet.{EndsNothing, quiet}
use Rattle.model_bits.proofs.StuffingCounted.{NoSix, ones_after-append}
use Rattle.model_bits.specs.OpenGap.{given_up_event, one_more}
use Rattle.model_bits.specs.Stream.{dropped}
use Rattle.model_bits.specs.declared.heard.Cause.TheVariants as cause

-- a 0 and six 1s
abbrev pub six_ones : List Bool
six_ones = false ∷ true ∷ true ∷ true ∷ true ∷ true ∷ true ∷ []

-- after bits with no six contiguous 1s they end nothing
no_six_yet : (n : ℕ) → n ≤ 5 → n ≢ 6
no_six_yet n few six = omega (arith, few, six)

ends_nothing : (n : ℕ) (part : List Bool) → n ≤ 5 → NoSix n part → EndsNothing n (part ++ six_ones)
ends_nothing n [] few p =
    (no_six_yet n few, (no_six_yet 0 (omega arith), (no_six_yet 1 (omega arith), (no_six_yet 2 (omega arith), (no_six_yet 3 (omega arith), (no_six_yet 4 (omega arith), (no_six_yet 5 (omega arith), tt)))))))
ends_nothing n (false ∷ part) few p = (no_six_yet n few, ends_nothing 0 part (omega arith) p)
ends_nothing n (true ∷ part) few p = (no_six_yet n few, ends_nothing (suc n) part (omega (arith, p.0)) p.1)

-- the seventh 1 gives them up
long_enough : (part past : List Bool) → 7 ≤ length (reverse_aux (part ++ six_ones) past)
long_enough [] past = omega arith
long_enough (b ∷ part) past = long_enough part (b ∷ past)

gives_up : (g : List Bool) → 7 ≤ length g → given_up_event (Some g) ≡ Some (dropped cause.Abort)
gives_up g long = ap (λ b. cond b (Some (dropped cause.Abort)) None) (lt-ltb 7 (suc (length g)) (omega (arith, long)))

module _ (room : ℕ) (past part : List Bool) (p : NoSix 0 part) where
  abbrev place : List Bool
  place = after_flag past

  abbrev there : List Bool
  there = reverse_aux (part ++ six_ones) place

  six : run_of there ≡ 6
  six = (quiet room 0 (part ++ six_ones) place refl (ends_nothing 0 part (omega arith) p)).run ∙ ap (min 7) (ones_after-append 0 part six_ones)

  gap : open_gap there ≡ Some (reverse_aux (part ++ six_ones) [])
  gap = (quiet room 0 (part ++ six_ones) place refl (ends_nothing 0 part (omega arith) p)).gap

  -- up to there nothing is heard
  pub none_yet : hears room place (part ++ six_ones) ≡ []
  none_yet =
      append_cancel_left (heard_until room place) (hears room place (part ++ six_ones)) []
      (sym (heard_until-onto room (part ++ six_ones) place) ∙ (quiet room 0 (part ++ six_ones) place refl (ends_nothing 0 part (omega arith) p)).heard ∙ sym (append-nil (heard_until room place)))

  pub hears_abort : hears room place ((part ++ six_ones) ++ true ∷ []) ≡ dropped cause.Abort ∷ []
  hears_abort =
      hears-append room (part ++ six_ones) (true ∷ []) place
      ∙ ap (λ l. l ++ hears room there (true ∷ [])) none_yet
      ∙ ap (λ o. option_to_list o ++ []) (heard_at-abort room there (omega (arith, six)) ∙ ap given_up_event gap ∙ gives_up (reverse_aux (part ++ six_ones) []) (long_enough part []))

  pub given_up_then : open_gap (true ∷ there) ≡ None
  given_up_then = open_gap-abort there (omega (arith, six))

  pub seven_then : run_of (true ∷ there) ≡ 7
  seven_then = ap (λ n. min 7 (n + 1)) six

min_right : (n : ℕ) → min 7 n ≤ n
min_right n = omega arith

-- after them no flag ends within seven bits
abbrev pub IsFar : List Bool → ℕ → Type 0
IsFar past more = (run_of past ≡ 7) ⊎ (run_of past + more ≤ 6)

record Goes (room : ℕ) (b : Bool) (past : List Bool) (more : ℕ) : Type 0 where
  heard : heard_at room (b ∷ past) ≡ None
  shut : open_gap (b ∷ past) ≡ None
  far : IsFar (b ∷ past) more

goes_on : (room : ℕ) (b : Bool) (past : List Bool) (more : ℕ) → more ≤ 6 → open_gap past ≡ None → IsFar past (suc more) → Goes room b past more
goes_on room true past more few shut (inl at) = record {
  heard = heard_at-abort room past (omega (arith, at)) ∙ ap given_up_event shut;
  shut = open_gap-abort past (omega (arith, at));
  far = inl (ap (λ n. min 7 (n + 1)) at);
}
goes_on room true past more few shut (inr less) = record {
  heard = heard_at-one room past (omega (arith, less));
  shut = open_gap-one past (omega (arith, less)) ∙ ap (one_more true) shut;
  far = inr (omega (arith, less, one_run past));
}
  where
    one_run : (past : List Bool) → run_of (true ∷ past) ≤ run_of past + 1
    one_run past = min_right (run_of past + 1)
goes_on room false past more few shut (inl at) = record {
  heard = heard_at-zero room past (λ six. absurd (omega (arith, at, six)));
  shut = open_gap-zero past (λ six. absurd (omega (arith, at, six))) ∙ ap (one_more false) shut;
  far = let far : 0 + more ≤ 6 = omega (arith, few) in inr far;
}
goes_on room false past more few shut (inr less) = record {
  heard = heard_at-zero room past (λ six. absurd (omega (arith, less, six)));
  shut = open_gap-zero past (λ six. absurd (omega (arith, less, six))) ∙ ap (one_more false) shut;
  far = let far : 0 + more ≤ 6 = omega (arith, few) in inr far;
}

pub nothing_after : (room : ℕ) (rest past : List Bool) → length rest ≤ 7 → open_gap past ≡ None → IsFar past (length rest) → hears room past rest ≡ []
nothing_after room [] past few shut far = refl
nothing_after room (b ∷ rest) past few shut far =
    let g = goes_on room b past (length rest) (omega (arith, few)) shut far in
    ap (λ o. option_to_list o ++ hears room (b ∷ past) rest) g.heard ∙ nothing_after room rest (b ∷ past) (omega (arith, few)) g.shut g.far
