-- Worked values: states, answers and runs that would break the promises, which no card comes to.
use Rattle.std.specs.Prelude.{◌≡◌, ◌≢◌, ℕ, zero, suc, ◌<◌, true, false, List, [], ◌∷◌, ◌++◌, None, refl}
use Rattle.std.proofs.Common.{◌∙◌}
use Rattle.laws_line.specs.WorkedWords.{ap, arith, Fcs, Call, T200, Link, link_fresh as fresh_link, told, gave, hears, next, nothing, cause_in, Line, fresh_line, place_at, tei_at, link_at, Card, fresh, at, card_answer as answer, AreAmong, LinksStay, TellsCause, runs_at_callers}
use Rattle.model_bits.specs.Stream as stream
use Rattle.model_line.specs.Machine as lines
use Rattle.laws_line.specs.card.Worked.{usual}

-- `others_stay`: two links of a line that an event changes.
abbrev with_links : Link → Line
with_links link = record (fresh_line usual) { links = link ∷ link ∷ [] }

both_change : LinksStay 2 (with_links fresh_link) (with_links (record fresh_link { pending = true })) → ⊥
both_change x = go x.one x.others
  where
    go : (one : ℕ)
        → ((other : ℕ) → other < 2 → other ≢ one → tei_at (place_at other) (with_links (record fresh_link { pending = true })) ≡ tei_at (place_at other) (with_links fresh_link)
        → link_at other (with_links (record fresh_link { pending = true })) ≡ link_at other (with_links fresh_link)) → ⊥
    go zero stay = let same = ap (λ (l : Link). l.pending) (stay 1 (omega arith) (λ e. cc e) refl) in cc same
    go (suc n) stay = let same = ap (λ (l : Link). l.pending) (stay 0 (omega arith) (λ e. cc e) refl) in cc same

-- `causes_are_told`: a wrong check that is not told.
untold : TellsCause (record { card = fresh usual; event = at 0 (hears (stream.dropped Fcs)); answer = told nothing }) → ⊥
untold x = let same = ap cause_in (x.no_frame Fcs refl) in cc same

-- `timers_run` of `laws_trace`: a timer that is needed, and was never started.
not_started : runs_at_callers 0 (T200 Call 64) false [] ≡ true → ⊥
not_started e = cc e

-- `takes_serve_wherever`: what waits is not given; or one frame is, where two alike wait.
none_there : {X : Type 0} (x : X) (front back : List X) → [] ≡ front ++ x ∷ back → ⊥
none_there x [] back e = cc e
none_there x (y ∷ front) back e = cc e

never_given : AreAmong {X = List ℕ} ((0x00 ∷ 0x81 ∷ 0x73 ∷ []) ∷ []) [] → ⊥
never_given (front, back, split, rest) = none_there (0x00 ∷ 0x81 ∷ 0x73 ∷ []) front back split

one_for_two : AreAmong {X = ℕ} (7 ∷ 7 ∷ []) (7 ∷ []) → ⊥
one_for_two ([], back, split, (front, behind, later, rest)) = none_there 7 front behind ((let none : [] ≡ back = cc split in none) ∙ later)
one_for_two (x ∷ front, back, split, rest) = none_there 7 front back (let none : [] ≡ front ++ 7 ∷ back = cc split in none)

-- `calls_come_to_an_end`: a line on which unit data waits still, after as many calls as are enough.
abbrev pub with_unit : Line
with_unit = record (fresh_line usual) { units = record { service = Call; tei = 127; contents = 0xAB ∷ [] } ∷ [] }

abbrev with_line : Line → Card
with_line l = record (fresh usual) { lines = l ∷ [] }

gives_still : answer (at 0 next) (with_line with_unit) ≡ gave None → ⊥
unfolding lines.answer lines.takes_slot
gives_still e = cc e
