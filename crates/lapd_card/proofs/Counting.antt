-- What is counted over a run.
use Rattle.lapd_card.proofs.Vocabulary.{arith, ◌≡◌, ℕ, ◌<◌, ◌==◌, cond, List, [], ◌∷◌, ◌++◌, length, length-set, get_or, set, refl, sym, ap, subst, ◌∙◌, eqb-true, eqb-false, get_or-set_same, get_or-set_other, fold-append, Counters, More, none_counted, with_more, with_all, counters_are_numbers, shown, Card, Event, after, Moment, moments, after_all, moment_counted, all_counted, moment_of, shown_at}
use Rattle.lapd_card.proofs.Vocabulary.{all_shown, CountersAreNumbers}

-- what is shown at a line is counted there, and at no other
at_place : (all : List Counters) (line : ℕ) (shows : List More) (number : ℕ) → number < length all
    → get_or (set all line (with_all (get_or all line none_counted) shows)) number none_counted ≡ with_all (get_or all number none_counted) (cond (line == number) shows [])
at_place all line shows number within = grind (arith, eqb-true, get_or-set_same, get_or-set_other, eqb-false)

-- so after moments the counters of a line have counted what those at it show
at_places : (all : List Counters) (ms : List Moment) (number : ℕ) → number < length all
    → get_or (all_counted all ms) number none_counted ≡ with_all (get_or all number none_counted) (all_shown number ms)
at_places all [] number within = refl
at_places all (m ∷ ms) number within =
    at_places (moment_counted all m) ms number (subst (λ n. number < n) (sym (length-set all m.event.line _)) within)
    ∙ ap (λ k. with_all k (all_shown number ms)) (at_place all m.event.line (shown m.card.config m.event.what m.answer) number within)
    ∙ sym (fold-append with_more (get_or all number none_counted) (shown_at number m) (all_shown number ms))

pub numbers_in_runs : CountersAreNumbers
numbers_in_runs all ms number counter within are = grind (arith, at_places, counters_are_numbers)

-- a list with one event more has one moment more
pub moments-more : (card : Card) (es : List Event) (e : Event) → moments card (es ++ e ∷ []) ≡ moments card es ++ moment_of (after_all card es) e ∷ []
unfolding moments after_all
moments-more card [] e = refl
moments-more card (x ∷ es) e = ap (λ ms. moment_of card x ∷ ms) (moments-more (after x card) es e)
