-- A frame that is heard stands in the octets, with its check, between two flags.
use Rattle.model_card.proofs.OfPorts.Vocabulary.{◌≡◌, ℕ, suc, ◌-◌, ◌≤◌, Bool, true, false, nat_lt, not, cond, List, [], ◌∷◌, ◌++◌, length, take, drop, reverse, Option, None, Some, option_and_then, option_to_list, refl, sym, ap, ◌∙◌, subst, arith, append_assoc, length-drop, take-append-drop, ltb-false, ltb-true, All, All-nil, All-cons, All-append, bits, bits-append, flag, stuffed}
use Rattle.model_card.proofs.OfPorts.Vocabulary.{octets_sent, check, is_good, frame_text, judged, text_event, gap_event, closed_by_flag, ends_flag, given_up, heard_at, heard_in, heard_until, room_for, since_flag, octets_are_those_sent, ◌<◌, All-head, All-tail, hears, heard_until-onto, reverse_aux-append, gained, length-bits}
use Rattle.std.specs.Prelude.{IsTrue, ◌||◌, ◌&&◌}
use Rattle.std.proofs.lemmas.Bool.{or_parts}
use Rattle.std.proofs.lemmas.List.{length-reverse, reverse-append, reverse-reverse, append_cancel_left}
use Rattle.model_card.proofs.OfPorts.Gains.{heard_with}
use Rattle.model_bits.proofs.BitLemmas.{length-bits}
use Rattle.model_bits.proofs.Division.Unique.{only_check_lem}
use Rattle.model_bits.specs.Stream.{Event, frame, overlong, dropped, ends_abort, has_abort, is_short}
use Rattle.model_bits.specs.declared.heard.Cause.TheVariants.{Abort, Ragged, Short, Fcs, Extension, Sapi, Tei, Unserved}
use Rattle.model_bits.specs.declared.heard.Cause.{Cause}
use Rattle.model_card.specs.ports.WholeLaws.{StandsIn, IsThere, IsGivenUp, IsBetween, HasNoSix, Brings}
use Rattle.model_card.proofs.OfPorts.Gaps.{flag_here, flag_before, none_before}

-- ---- the octets between two flags

-- A cause is another than an abort.
abbrev IsNoAbort : Cause → Type 0
IsNoAbort Abort = ⊥
IsNoAbort other = Unit {0}

-- What a text is heard as: the frame of which a sender makes it; or for some cause but an abort it is none.
abbrev IsText : List Bool → Event → Type 0
IsText text (frame octets) = text ≡ frame_text octets
IsText text (overlong head) = (octets : List ℕ) × (head ≡ take 4 octets) × (text ≡ frame_text octets)
IsText text (dropped why) = IsNoAbort why

-- octets whose check is good end in it
pub checked : (octets : List ℕ) → 2 ≤ length octets → is_good (bits octets) ≡ true → let front = take (length octets - 2) octets in bits octets ≡ bits front ++ check (bits front)
checked octets few good =
    let n = length octets - 2 in
    let front = take n octets in
    let last = drop n octets in
    let two : length last ≡ 2 = omega (arith, few, length-drop n octets) in
    let both : bits octets ≡ bits front ++ bits last = ap bits (sym (take-append-drop n octets)) ∙ bits-append front last in
    let sixteen : length (bits last) ≡ 16 = omega (arith, two, length-bits last) in
    let so : IsTrue (is_good (bits front ++ bits last)) = sym (ap is_good both) ∙ good in
    both ∙ ap (λ x. bits front ++ x) ((only_check_lem (bits front) (bits last) sixteen).0 so)

not_short : (octets : List ℕ) → is_short octets ≡ false → 2 ≤ length octets
not_short octets h = grind (arith, nat_lt, or_parts, ltb-false)

-- the first four octets are of the frame, and not of its check
first_four : (l : List ℕ) (n : ℕ) → take 4 l ≡ take 4 (take (suc (suc (suc (suc n)))) l)
first_four [] n = refl
first_four (a ∷ []) n = refl
first_four (a ∷ b ∷ []) n = refl
first_four (a ∷ b ∷ c ∷ []) n = refl
first_four (a ∷ b ∷ c ∷ d ∷ l) n = refl

four_of : (l : List ℕ) (n : ℕ) → 4 ≤ n → take 4 l ≡ take 4 (take n l)
four_of l (suc (suc (suc (suc n)))) few = first_four l n
four_of l other few = absurd (omega (arith, few))

four_kept : (room : ℕ) (octets : List ℕ) → 6 ≤ room → nat_lt room (length octets) ≡ true → take 4 octets ≡ take 4 (take (length octets - 2) octets)
four_kept room octets fits long = four_of octets (length octets - 2) (omega (arith, fits, ltb-true room (length octets) long))

judged_text : (room : ℕ) (octets : List ℕ) (text : List Bool) → 6 ≤ room → text ≡ stuffed (bits octets) → IsText text (judged room octets)
judged_text room octets text fits is = go (is_short octets) (is_good (bits octets)) (nat_lt room (length octets)) refl refl refl
  where
    go : (s g l : Bool) → is_short octets ≡ s → is_good (bits octets) ≡ g → nat_lt room (length octets) ≡ l
        → IsText text (cond s (dropped Short) (cond (not g) (dropped Fcs) (cond l (overlong (take 4 octets)) (frame (take (length octets - 2) octets)))))
    go true g l e f long = tt
    go false false l e f long = tt
    go false true true e f long =
        (take (length octets - 2) octets, four_kept room octets fits long, is ∙ ap stuffed (checked octets (not_short octets e) f))
    go false true false e f long = is ∙ ap stuffed (checked octets (not_short octets e) f)

text_heard : (room : ℕ) (text : List Bool) (o : Option (List ℕ)) → 6 ≤ room → octets_sent text ≡ o → IsText text (text_event room o)
text_heard room text None fits e = tt
text_heard room text (Some octets) fits e = judged_text room octets text fits ((octets_are_those_sent text octets).0 e).0

-- ---- the flags around it

seven_off : (g rest : List Bool) → 7 ≤ length g → drop 7 (g ++ rest) ≡ drop 7 g ++ rest
seven_off (x1 ∷ x2 ∷ x3 ∷ x4 ∷ x5 ∷ x6 ∷ x7 ∷ g) rest few = refl
seven_off short rest few = absurd (omega (arith, few))

-- a flag that closes a gap, of which these bits stand since the flag before
closing : (b : Bool) (past g : List Bool) → ends_flag (b ∷ past) ≡ true → since_flag past ≡ Some g → 8 ≤ length g
    → (older : List Bool) × (b ∷ past ≡ flag ++ (drop 7 g ++ (flag ++ older)))
closing b past g at since few =
    let here = flag_here (b ∷ past) at in
    let there = flag_before past g since in
    let behind : here.0 ≡ drop 7 past = sym (ap (drop 8) here.1) in
    let rest : here.0 ≡ drop 7 g ++ (flag ++ there.0) = behind ∙ ap (drop 7) there.1 ∙ seven_off g (flag ++ there.0) (omega (arith, few)) in
    (there.0, here.1 ∙ ap (λ l. flag ++ l) rest)

-- the same in order of time
in_time : (t older : List Bool) → reverse (flag ++ (t ++ (flag ++ older))) ≡ reverse older ++ (flag ++ (reverse t ++ (flag ++ [])))
in_time t older =
    reverse-append flag (t ++ (flag ++ older))
    ∙ ap (λ l. l ++ flag) (reverse-append t (flag ++ older) ∙ ap (λ l. l ++ reverse t) (reverse-append flag older))
    ∙ append_assoc (reverse older ++ flag) (reverse t) flag
    ∙ append_assoc (reverse older) flag (reverse t ++ flag)

aborted_in_time : (rest older : List Bool) → let ones = false ∷ true ∷ true ∷ true ∷ true ∷ true ∷ true ∷ true ∷ [] in
    reverse (reverse ones ++ (rest ++ (flag ++ older))) ≡ reverse older ++ (flag ++ (reverse rest ++ ones))
aborted_in_time rest older =
    let ones = false ∷ true ∷ true ∷ true ∷ true ∷ true ∷ true ∷ true ∷ [] in
    reverse-append (reverse ones) (rest ++ (flag ++ older))
    ∙ ap (λ l. l ++ ones) (reverse-append rest (flag ++ older) ∙ ap (λ l. l ++ reverse rest) (reverse-append flag older))
    ∙ append_assoc (reverse older ++ flag) (reverse rest) ones
    ∙ append_assoc (reverse older) flag (reverse rest ++ ones)

-- A frame ends at the end of a text.
record Ends (text : List Bool) (octets : List ℕ) : Type 0 where
  before : List Bool
  is : text ≡ before ++ (flag ++ (frame_text octets ++ (flag ++ [])))

-- So do bits that are dropped there.
abbrev EndsAborted : List Bool → List Bool → List Bool → Type 0
EndsAborted text before part = text ≡ before ++ (flag ++ (part ++ (false ∷ true ∷ true ∷ true ∷ true ∷ true ∷ true ∷ true ∷ [])))

abbrev EndsBetween : List Bool → List Bool → List Bool → Type 0
EndsBetween text before part = text ≡ before ++ (flag ++ (part ++ (flag ++ [])))

abbrev GivesUp : List Bool → Cause → Type 0
GivesUp text Abort = (before : List Bool) × (part : List Bool) × HasNoSix part × EndsAborted text before part
GivesUp text other = (before : List Bool) × (part : List Bool) × (0 < length part) × HasNoSix part × EndsBetween text before part

abbrev AtEnd : List Bool → Event → Type 0
AtEnd text (frame octets) = Ends text octets
AtEnd text (overlong head) = (octets : List ℕ) × (head ≡ take 4 octets) × Ends text octets
AtEnd text (dropped why) = GivesUp text why

standing : (past : List Bool) (g older : List Bool) (octets : List ℕ) → past ≡ flag ++ (drop 7 g ++ (flag ++ older)) → reverse (drop 7 g) ≡ frame_text octets
    → Ends (reverse past) octets
standing past g older octets place is = record {
  before = reverse older;
  is = ap reverse place ∙ in_time (drop 7 g) older ∙ ap (λ t. reverse older ++ (flag ++ (t ++ (flag ++ [])))) is;
}

abbrev Between : List Bool → Type 0
Between text = (before : List Bool) × (part : List Bool) × (0 < length part) × HasNoSix part × EndsBetween text before part

given_up_between : (text : List Bool) (why : Cause) → IsNoAbort why → Between text → GivesUp text why
given_up_between text Abort not_so h = absurd not_so
given_up_between text Ragged not_so h = h
given_up_between text Short not_so h = h
given_up_between text Fcs not_so h = h
given_up_between text Extension not_so h = h
given_up_between text Sapi not_so h = h
given_up_between text Tei not_so h = h
given_up_between text Unserved not_so h = h

standing_between : (past : List Bool) (g older : List Bool) → past ≡ flag ++ (drop 7 g ++ (flag ++ older)) → 8 ≤ length g → HasNoSix (reverse (drop 7 g)) → Between (reverse past)
standing_between past g older place few none =
    (reverse older, reverse (drop 7 g), omega (arith, few, length-drop 7 g, length-reverse (drop 7 g)), none, ap reverse place ∙ in_time (drop 7 g) older)

stands : (past : List Bool) (g older : List Bool) (e : Event) → past ≡ flag ++ (drop 7 g ++ (flag ++ older)) → 8 ≤ length g → HasNoSix (reverse (drop 7 g))
    → IsText (reverse (drop 7 g)) e → AtEnd (reverse past) e
stands past g older (frame octets) place few none is = standing past g older octets place is
stands past g older (overlong head) place few none is = (is.0, is.1, standing past g older is.0 place is.2)
stands past g older (dropped why) place few none is = given_up_between (reverse past) why is (standing_between past g older place few none)

-- ---- at each place

longer : (text rest : List Bool) (octets : List ℕ) → Ends text octets → length rest < 8 → StandsIn (text ++ rest) octets
longer text rest octets h few = record {
  before = h.before;
  after = rest;
  is =
      ap (λ t. t ++ rest) h.is
      ∙ append_assoc h.before (flag ++ (frame_text octets ++ (flag ++ []))) rest
      ∙ ap (λ t. h.before ++ (flag ++ t)) (append_assoc (frame_text octets) (flag ++ []) rest);
  late = few;
}

at_end : (text before part end rest : List Bool) → text ≡ before ++ (flag ++ (part ++ end)) → text ++ rest ≡ before ++ (flag ++ (part ++ (end ++ rest)))
at_end text before part end rest is =
    ap (λ t. t ++ rest) is
    ∙ append_assoc before (flag ++ (part ++ end)) rest
    ∙ ap (λ t. before ++ (flag ++ t)) (append_assoc part end rest)

longer_between : (text rest : List Bool) → Between text → length rest < 8 → (part : List Bool) × (0 < length part) × HasNoSix part × IsBetween (text ++ rest) part
longer_between text rest h few =
    (h.1, h.2, h.3, record { before = h.0; after = rest; is = at_end text h.0 h.1 (flag ++ []) rest h.4; late = few })

given_up_longer : (text rest : List Bool) (why : Cause) → GivesUp text why → length rest < 8 → IsGivenUp (text ++ rest) why
given_up_longer text rest Abort h few =
    (h.1, record { before = h.0; after = rest; is = at_end text h.0 h.1 (false ∷ true ∷ true ∷ true ∷ true ∷ true ∷ true ∷ true ∷ []) rest h.3; late = few; few = h.2 })
given_up_longer text rest Ragged h few = longer_between text rest h few
given_up_longer text rest Short h few = longer_between text rest h few
given_up_longer text rest Fcs h few = longer_between text rest h few
given_up_longer text rest Extension h few = longer_between text rest h few
given_up_longer text rest Sapi h few = longer_between text rest h few
given_up_longer text rest Tei h few = longer_between text rest h few
given_up_longer text rest Unserved h few = longer_between text rest h few

more : (text rest : List Bool) (e : Event) → AtEnd text e → length rest < 8 → IsThere (text ++ rest) e
more text rest (frame octets) h few = longer text rest octets h few
more text rest (overlong head) h few = (h.0, h.1, longer text rest h.0 h.2 few)
more text rest (dropped why) h few = given_up_longer text rest why h few

more_all : (text rest : List Bool) (es : List Event) → length rest < 8 → All (AtEnd text) es → All (IsThere (text ++ rest)) es
more_all text rest [] few all = All-nil (IsThere (text ++ rest))
more_all text rest (e ∷ es) few all =
    All-cons (IsThere (text ++ rest)) e es (more text rest e (All-head (AtEnd text) e es all) few) (more_all text rest es few (All-tail (AtEnd text) e es all))

-- the closing flag's first bits are among those since the flag before, and end in a 0, latest first
none_between : (b : Bool) (past g : List Bool) → ends_flag (b ∷ past) ≡ true → since_flag past ≡ Some g → 8 ≤ length g → has_abort g ≡ false → HasNoSix (reverse (drop 7 g))
none_between b past g at since few whole =
    let there = flag_before past g since in
    let close = closing b past g at since few in
    let both : g ++ (flag ++ there.0) ≡ drop 1 flag ++ (drop 7 g ++ (flag ++ close.0)) = sym there.1 ∙ ap (drop 1) close.1 in
    none_before past g (true ∷ true ∷ true ∷ true ∷ true ∷ true ∷ []) (drop 7 g) since whole (by_first g (flag ++ there.0) (drop 7 g ++ (flag ++ close.0)) few both)
  where
    by_first : (g rest other : List Bool) → 8 ≤ length g → g ++ rest ≡ drop 1 flag ++ other → g ≡ drop 1 flag ++ drop 7 g
    by_first (x1 ∷ x2 ∷ x3 ∷ x4 ∷ x5 ∷ x6 ∷ x7 ∷ g) rest other few e = ap (λ l. take 7 l ++ g) e
    by_first short rest other few e = absurd (omega (arith, few))

closed : (room : ℕ) (b : Bool) (past g : List Bool) → 6 ≤ room → ends_flag (b ∷ past) ≡ true → since_flag past ≡ Some g
    → All (AtEnd (reverse (b ∷ past))) (option_to_list (closed_by_flag room g))
closed room b past g fits at since = go (nat_lt (length g) 8 || has_abort g) refl
  where
    go : (none : Bool) → (nat_lt (length g) 8 || has_abort g) ≡ none
        → All (AtEnd (reverse (b ∷ past))) (option_to_list (cond none None (Some (gap_event room (reverse (drop 7 g))))))
    go true e = All-nil (AtEnd (reverse (b ∷ past)))
    go false e =
        let whole = or_parts (nat_lt (length g) 8) (has_abort g) e in
        let few = ltb-false (length g) 8 whole.0 in
        let place = closing b past g at since few in
        let text = reverse (drop 7 g) in
        All-cons (AtEnd (reverse (b ∷ past))) (gap_event room text) []
        (stands (b ∷ past) g place.0 (gap_event room text) place.1 few (none_between b past g at since few whole.1) (text_heard room text (octets_sent text) fits refl)) (All-nil (AtEnd (reverse (b ∷ past))))

-- seven 1s, latest first, and what is before them
seven_first : (l : List Bool) → ends_abort l ≡ true → l ≡ true ∷ true ∷ true ∷ true ∷ true ∷ true ∷ true ∷ drop 7 l
seven_first (true ∷ true ∷ true ∷ true ∷ true ∷ true ∷ true ∷ l) e = refl
seven_first other e = absurd (cc e)

-- the seventh 1 gives up what began after the flag: before the 1s a 0 stands
given_there : (b : Bool) (past g : List Bool) → since_flag past ≡ Some g → All (AtEnd (reverse (b ∷ past))) (option_to_list (given_up (b ∷ g)))
given_there b past g since = go (ends_abort (b ∷ g)) (has_abort g) (nat_lt 7 (length (b ∷ g))) refl refl refl
  where
    go : (ends other long : Bool) → ends_abort (b ∷ g) ≡ ends → has_abort g ≡ other → nat_lt 7 (length (b ∷ g)) ≡ long
        → All (AtEnd (reverse (b ∷ past))) (option_to_list (cond (ends && not other && long) (Some (dropped Abort)) None))
    go false other long at whole size = All-nil (AtEnd (reverse (b ∷ past)))
    go true true long at whole size = All-nil (AtEnd (reverse (b ∷ past)))
    go true false false at whole size = All-nil (AtEnd (reverse (b ∷ past)))
    go true false true at whole size = All-cons (AtEnd (reverse (b ∷ past))) (dropped Abort) [] (by_next (drop 6 g) ones) (All-nil (AtEnd (reverse (b ∷ past))))
      where
        before : (older : List Bool) × (past ≡ g ++ (flag ++ older))
        before = flag_before past g since

        ones : b ∷ g ≡ true ∷ true ∷ true ∷ true ∷ true ∷ true ∷ true ∷ drop 6 g
        ones = seven_first (b ∷ g) at

        by_next : (rest : List Bool) → b ∷ g ≡ true ∷ true ∷ true ∷ true ∷ true ∷ true ∷ true ∷ rest → GivesUp (reverse (b ∷ past)) Abort
        by_next [] e = absurd (omega (arith, ltb-true 7 (length (b ∷ g)) size, ap length e))
        by_next (true ∷ rest) e = absurd (cc (sym whole ∙ ap has_abort (ap (drop 1) e)))
        by_next (false ∷ rest) e =
            let ended : b ∷ past ≡ true ∷ true ∷ true ∷ true ∷ true ∷ true ∷ true ∷ false ∷ (rest ++ (flag ++ before.0)) =
            ap (λ l. b ∷ l) before.1 ∙ ap (λ l. l ++ (flag ++ before.0)) e in (
              reverse before.0,
              reverse rest,
              none_before past g (true ∷ true ∷ true ∷ true ∷ true ∷ true ∷ []) rest since whole (ap (drop 1) e),
              ap reverse ended ∙ aborted_in_time rest before.0,
            )

at_there : (room : ℕ) (b : Bool) (past : List Bool) → 6 ≤ room → All (AtEnd (reverse (b ∷ past))) (option_to_list (heard_at room (b ∷ past)))
at_there room b past fits = go (ends_flag (b ∷ past)) (since_flag past) refl refl
  where
    go : (ends : Bool) (o : Option (List Bool)) → ends_flag (b ∷ past) ≡ ends → since_flag past ≡ o
        → All (AtEnd (reverse (b ∷ past))) (option_to_list (cond ends (option_and_then (closed_by_flag room) o) (option_and_then (λ g. given_up (b ∷ g)) o)))
    go true None at so = All-nil (AtEnd (reverse (b ∷ past)))
    go true (Some g) at so = closed room b past g fits at so
    go false None at so = All-nil (AtEnd (reverse (b ∷ past)))
    go false (Some g) at so = given_there b past g so

-- in the bits of one more octet, after others
in_bits : (room : ℕ) (past rest : List Bool) → 6 ≤ room → length rest ≤ 8 → All (IsThere (reverse past ++ rest)) (hears room past rest)
in_bits room past [] fits few = All-nil (IsThere (reverse past ++ []))
in_bits room past (b ∷ rest) fits few =
    let same : reverse (b ∷ past) ++ rest ≡ reverse past ++ b ∷ rest =
    ap (λ t. t ++ rest) (reverse-append (b ∷ []) past) ∙ append_assoc (reverse past) (b ∷ []) rest in
    All-append (IsThere (reverse past ++ b ∷ rest)) (option_to_list (heard_at room (b ∷ past))) (hears room (b ∷ past) rest)
    (subst (λ t. All (IsThere t) (option_to_list (heard_at room (b ∷ past)))) same
    (more_all (reverse (b ∷ past)) rest (option_to_list (heard_at room (b ∷ past))) (omega (arith, few)) (at_there room b past fits)))
    (subst (λ t. All (IsThere t) (hears room (b ∷ past) rest)) same (in_bits room (b ∷ past) rest fits (omega (arith, few))))

pub frames_there : (n201 : ℕ) (octets : List ℕ) (value : ℕ) → Brings n201 octets value
frames_there n201 octets value =
    let room = room_for n201 in
    let past = reverse (bits octets) in
    let last = bits (value ∷ []) in
    let text : bits (octets ++ value ∷ []) ≡ bits octets ++ last = bits-append octets (value ∷ []) in
    let back : reverse past ++ last ≡ bits (octets ++ value ∷ []) = ap (λ t. t ++ last) (reverse-reverse (bits octets)) ∙ sym text in
    let heard : heard_in n201 (octets ++ value ∷ []) ≡ heard_in n201 octets ++ hears room past last =
    ap (λ t. heard_until room (reverse t)) text ∙ ap (heard_until room) (reverse_aux-append (bits octets) last []) ∙ heard_until-onto room last past in
    let same : hears room past last ≡ option_to_list (gained n201 octets value) =
    append_cancel_left (heard_in n201 octets) (hears room past last) (option_to_list (gained n201 octets value)) (sym heard ∙ heard_with n201 octets value) in
    let eight = length-bits (value ∷ []) in
    record {
      event = gained n201 octets value;
      is = heard_with n201 octets value;
      there =
          subst (All (IsThere (bits (octets ++ value ∷ [])))) same
          (subst (λ t. All (IsThere t) (hears room past last)) back (in_bits room past last (omega arith) (omega (arith, eight))));
    }
