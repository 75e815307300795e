-- An octet in which a flag ends: its first bits go on the open gap, which the flag closes; the bits behind begin the next.
use Rattle.lapd_bits.proofs.Vocabulary.{◌≡◌, ℕ, ◌+◌, ◌-◌, ◌<◌, ◌≤◌, Bool, false, List, [], ◌∷◌, ◌++◌, length, reverse, min, Option, Some, None, IfSome, option_map, option_to_list, refl, ap, sym, ◌∙◌, subst, arith, lt-ltb, low_bits, unstuffed, Event, heard_until, run_of, open_gap, closed_event, KeepsIn, AssemblesIn, HoldsGap, HoldsPast, closing_event, EndsFlag, onto, with_bits, IsFlagEnd, Gap}
use Rattle.lapd_bits.proofs.Vocabulary.{length-low_bits, ones_after, unstuffed_after, reverse_aux-append, EndsNothing, IsFlag, flag_ends, quiet}
use Rattle.lapd_bits.proofs.BitSteps.{closed_told}
use Rattle.lapd_bits.proofs.AtOnce.{EndsNothing-by_test, joined, run-after, stays-after, length-onto, reverse-onto, HoldsGap-joined}

-- ---- what the flag closes

-- with no open gap it closes none, nor one that has too few bits
pub told-young : (room : ℕ) (text past : List Bool) (octets : List ℕ) (gap : Option Gap) → EndsFlag text past
    → IfSome gap (λ g. g.since + length text < 8) → HoldsGap octets gap (open_gap past) → None ≡ closed_event room (open_gap (onto text past))
told-young room text past octets gap e few h = grind (arith, lt-ltb, option_map, length-onto)

-- and any other as what its octets are
pub told-closed :
    (octets octets' : List ℕ) (gap gap' : Gap) (text past : List Bool) (event : Option Event) → EndsFlag text past
    → gap'.since ≡ 8 → 8 ≤ gap.since + length text → length octets' ≡ length octets
    → ((t : List Bool) → AssemblesIn octets gap t → AssemblesIn octets' gap' (t ++ text))
    → ((whole : List ℕ) → KeepsIn octets' gap' whole
    → event ≡ Some (closing_event (length octets') whole (low_bits gap'.filled gap'.partial)))
    → HoldsGap octets (Some gap) (open_gap past)
    → event ≡ closed_event (length octets) (open_gap (onto text past))
told-closed octets octets' gap gap' text past event e since long same taken told h =
    let held =
    subst (HoldsGap octets' (Some gap')) (sym e.grown)
    (HoldsGap-joined octets octets' gap gap' text text (open_gap past) (omega arith) taken e.joined h) in
    closed_told octets' gap' (onto text past) event e.six held (omega arith) told
    ∙ ap (λ n. closed_event n (open_gap (onto text past))) same

-- ---- the whole octet

module _
    (ones octet before front content run : ℕ) (flag : IsFlagEnd ones octet before front content run)
    (past : List Bool) (is_run : ones ≡ run_of past) where
  abbrev text : List Bool
  text = low_bits before front

  abbrev behind : List Bool
  behind = low_bits (7 - before) content

  quiet_front : EndsNothing ones text
  quiet_front = EndsNothing-by_test ones text flag.quiet_front

  quiet_behind : EndsNothing 0 behind
  quiet_behind = EndsNothing-by_test 0 behind flag.quiet

  six : ones_after ones text ≡ 6
  six = omega (arith, run-after ones text flag.quiet_front, flag.six)

  before_it : run_of past ≡ min 7 ones
  before_it = omega (arith, is_run, flag.few)

  here : (room : ℕ) → IsFlag room text behind past
  here room = flag_ends room ones text behind past before_it quiet_front six quiet_behind

  parted : with_bits 8 octet past ≡ onto behind (false ∷ onto text past)
  parted = ap (λ t. onto t past) flag.begins ∙ reverse_aux-append text (false ∷ behind) past

  pub ends-flag_end : EndsFlag text past
  ends-flag_end =
      let q = quiet 0 ones text past before_it quiet_front in
      record {
        six = q.run ∙ ap (min 7) six;
        grown = q.gap;
        joined = joined past text text (ap (λ n. unstuffed_after n text) (sym is_run) ∙ stays-after ones text text flag.stays_front);
      }

  -- what is heard in it is what the flag closes
  pub heard-flag_end :
      (room : ℕ) (event : Option Event) → event ≡ closed_event room (open_gap (onto text past))
      → heard_until room (with_bits 8 octet past) ≡ heard_until room past ++ option_to_list event
  heard-flag_end room event e =
      ap (heard_until room) parted ∙ (here room).heard ∙ ap (λ o. heard_until room past ++ option_to_list o) (sym e)

  -- and the fields then stand for the bits behind the flag
  pub HoldsPast-flag_end :
      (octets' : List ℕ) (ones' : ℕ) (gap' : Gap) → ones' ≡ run → gap'.since ≡ 7 - before
      → AssemblesIn octets' gap' behind
      → HoldsPast octets' ones' (Some gap') (with_bits 8 octet past)
  HoldsPast-flag_end octets' ones' gap' e since a =
      let stays : unstuffed (reverse (onto behind [])) ≡ behind = ap unstuffed (reverse-onto behind []) ∙ flag.stays in
      record {
        run = e ∙ flag.run_is ∙ (quiet 0 0 behind (false ∷ []) refl quiet_behind).run ∙ sym (here 0).run ∙ ap run_of (sym parted);
        open_is = subst (HoldsGap octets' (Some gap')) (sym (ap open_gap parted ∙ (here 0).gap)) (record {
          counted = omega (arith, since, length-low_bits (7 - before) content, length-onto behind []);
          assembles = subst (AssemblesIn octets' gap') (sym stays) a;
        });
      }
