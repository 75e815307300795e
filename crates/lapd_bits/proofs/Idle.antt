-- An octet of a line of flags brings nothing, and leaves the open gap as it was.
use Rattle.lapd_bits.proofs.Vocabulary.{◌≡◌, ℕ, suc, zero, ◌+◌, ◌-◌, ◌<◌, Bool, true, false, ◌&&◌, List, [], ◌∷◌, ◌++◌, length, min, take, drop, replicate, get_or, same_bits, same_from_test, nat_eq, nat_lt, Option, Some, None, option_map, option_to_list, refl, ap, sym, ◌∙◌, subst, arith, append-nil, and_parts, eqb-true, lt-ltb, low_bits, heard_until, run_of, open_gap, closed_event, flag_front}
use Rattle.lapd_bits.proofs.Vocabulary.{HoldsGap, HoldsPast, onto, with_bits, ends_nothing, Gap, IDLE, latest_ones, ones_after, reverse_aux-append, IsFlag, flag_ends, quiet}
use Rattle.lapd_bits.proofs.AtOnce.{EndsNothing-by_test, length-onto}
use Rattle.lapd_bits.proofs.BitSteps.{open_run}
use Rattle.lapd_bits.proofs.Tested.{all_pass}

-- an octet that brings nothing and leaves a deframer's fields as they are
pub record StaysIdle (octets : List ℕ) (ones : ℕ) (gap : Option Gap) (octet : ℕ) (past : List Bool) : Type 0 where
  pub holds : HoldsPast octets ones gap (with_bits 8 octet past)
  pub nothing : (room : ℕ) → heard_until room (with_bits 8 octet past) ≡ heard_until room past

-- ---- a flag's other bits, and the first bits of the next

-- As many 1s as there can be behind a first 0 are a flag's first bits.
begun_is : (n : ℕ) (g : List Bool) → length g ≡ suc n → latest_ones g ≡ n → g ≡ replicate n true ++ false ∷ []
begun_is zero (false ∷ []) size ones = refl
begun_is (suc n) (true ∷ g) size ones = ap (λ l. true ∷ l) (begun_is n g (omega arith) (omega arith))
begun_is _ _ size ones = absurd (omega arith)

first_bits : (k : ℕ) (g : List Bool) → k < 8 → length g ≡ k → latest_ones g ≡ k - 1 → onto (take k flag_front) [] ≡ g
first_bits zero [] few size ones = refl
first_bits zero (b ∷ g) few size ones = absurd (omega arith)
first_bits (suc n) g few size ones =
    same_from_test _ _ (all_pass (λ k. same_bits (onto (take (suc k) flag_front) []) (replicate k true ++ (false ∷ []))) 7 n refl (omega arith))
    ∙ sym (begun_is n g size (omega (arith, ones)))

-- the octet after `k` bits of a flag: its other bits, the last of them a 0, and then as many of the next
record IsIdleOctet (k : ℕ) : Type 0 where
  bits : low_bits 8 (get_or IDLE k 0) ≡ drop k flag_front ++ (false ∷ take k flag_front)
  quiet : ends_nothing (k - 1) (drop k flag_front) ≡ true
  six : ones_after (k - 1) (drop k flag_front) ≡ 6
  size : length (drop k flag_front) + k ≡ 7
  behind : ends_nothing 0 (take k flag_front) ≡ true
  run : ones_after 0 (take k flag_front) ≡ k - 1

abbrev is_idle_octet : ℕ → Bool
is_idle_octet k =
    same_bits (low_bits 8 (get_or IDLE k 0)) (drop k flag_front ++ (false ∷ take k flag_front))
    && (ends_nothing (k - 1) (drop k flag_front)
    && (nat_eq (ones_after (k - 1) (drop k flag_front)) 6
    && (nat_eq (length (drop k flag_front) + k) 7
    && (ends_nothing 0 (take k flag_front) && nat_eq (ones_after 0 (take k flag_front)) (k - 1)))))

by_test : (k : ℕ) → is_idle_octet k ≡ true → IsIdleOctet k
by_test k e = search (arith, and_parts, same_from_test, eqb-true)

idle_octet : (k : ℕ) → k < 8 → IsIdleOctet k
unfolding low_bits
idle_octet k few = by_test k (all_pass is_idle_octet 8 k refl few)

-- a deframer whose open gap has fewer than eight bits, and the test of the code
pub stays_idle :
    (octets : List ℕ) (ones octet : ℕ) (gap : Gap) (past : List Bool) → HoldsPast octets ones (Some gap) past
    → gap.since < 8 → ones ≡ gap.since - 1 → octet ≡ get_or IDLE gap.since 0 → StaysIdle octets ones (Some gap) octet past
stays_idle octets ones octet gap past h few run e = go (open_gap past) refl h.open_is
  where
    go : (o : Option (List Bool)) → open_gap past ≡ o → HoldsGap octets (Some gap) o → StaysIdle octets ones (Some gap) octet past
    go None open_here held = absurd held
    go (Some g) open_here held =
        let k = gap.since in
        let front = drop k flag_front in
        let behind = take k flag_front in
        let idle = idle_octet k few in
        let at : run_of past ≡ k - 1 = sym h.run ∙ run in
        let latest = (open_run past g open_here).0 in
        let counted : length g ≡ k = omega (arith, held.counted) in
        let first : run_of past ≡ min 7 (k - 1) = omega (arith, at, few) in
        let q = EndsNothing-by_test (k - 1) front idle.quiet in
        let flag : (room : ℕ) → IsFlag room front behind past = λ room.
        flag_ends room (k - 1) front behind past first q idle.six (EndsNothing-by_test 0 behind idle.behind) in
        let grown : open_gap (onto front past) ≡ Some (onto front g) = (quiet 0 (k - 1) front past first q).gap ∙ ap (option_map (onto front)) open_here in
        let short : nat_lt (length (onto front g)) 8 ≡ true = lt-ltb (length (onto front g)) 8 (omega (arith, length-onto front g, idle.size)) in
        let closes : (room : ℕ) → closed_event room (open_gap (onto front past)) ≡ None = λ room. ap (closed_event room) grown ∙ rw short refl in
        let is : with_bits 8 octet past ≡ onto behind (false ∷ onto front past) =
        ap (λ o. with_bits 8 o past) e ∙ ap (λ t. onto t past) idle.bits ∙ reverse_aux-append front (false ∷ behind) past in
        record {
          holds = subst (HoldsPast octets ones (Some gap)) (sym is) (record {
            run = let there = (flag 0).run in omega (arith, run, idle.run, there, few);
            open_is =
                subst (HoldsGap octets (Some gap))
                (open_here ∙ ap Some (sym (first_bits k g few counted (sym latest ∙ at))) ∙ sym (flag 0).gap) h.open_is;
          });
          nothing = λ room.
              ap (heard_until room) is ∙ (flag room).heard ∙ ap (λ o. heard_until room past ++ option_to_list o) (closes room)
              ∙ append-nil (heard_until room past);
        }
