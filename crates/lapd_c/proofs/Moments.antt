-- The moment at which a timer falls due first, and at which the state of a link changed last.
use Rattle.lapd_c.proofs.Vocabulary.{◌≡◌, ℕ, ◌<◌, List, [], ◌∷◌, Option, None, Some, IsSome, Ok, Result, option_map, refl, sym, ap, subst, ◌∙◌, arith, none-some}
use Rattle.std.proofs.Common.{◌≢◌, cond}
use Rattle.std.proofs.lemmas.Bool.{le-leb, lt-leb}
use Rattle.lapd_clock.specs.Timers.{Expiry}
use Rattle.model_timed.specs.Clock.{first_due, first_moment}
use Rattle.lapd_frame.specs.declared.services.Service.{Service}
use Rattle.lapd_timed.specs.Marked.{moment_in}
use Rattle.lapd_timed.specs.Places.{link_on}
use Rattle.model_card.specs.Card.{Card, line_at}
use Rattle.model_timed.specs.Changes.{Marks}
use Rattle.lapd_c.specs.Changed.{TellsWord, changed_at, changed_of}
use Rattle.lapd_c.specs.FallsDue.{TellsMoment}
use Rattle.lapd_c.specs.QuestionWords.{or_status}
use Rattle.lapd_c.specs.Timers.{link_in}

-- what is told of it
pub none_told : (o : Option ℕ) (moment : ℕ) → o ≡ None → TellsMoment o 23 moment
none_told None moment is = refl
none_told (Some first) moment is = absurd (none-some first (sym is))

pub one_told : (o : Option ℕ) (first : ℕ) → o ≡ Some first → TellsMoment o 0 first
one_told o first is = subst (λ o. TellsMoment o 0 first) (sym is) (refl, refl)

-- a timer is due exactly from its moment on
due_then : (e : Expiry) (es : List Expiry) (now : ℕ) → e.moment ≡ now → IsSome (first_due (e ∷ es) now)
due_then e es now is = subst (λ (o : Option Expiry). IsSome o) (sym (ap (λ b. cond b (Some e) None) (le-leb e.moment now (omega (arith, is))))) refl

not_before : (e : Expiry) (es : List Expiry) (now : ℕ) → now < e.moment → first_due (e ∷ es) now ≡ None
not_before e es now early = ap (λ b. cond b (Some e) None) (lt-leb e.moment now early)

-- the first of those that run
pub first_told : (es : List Expiry) (result moment : ℕ) → TellsMoment (first_moment es) result moment → result ≡ 0
    → IsSome (first_due es moment) × ((now : ℕ) → now < moment → first_due es now ≡ None)
first_told [] result moment told ok = absurd (omega (arith, told, ok))
first_told (e ∷ es) result moment told ok =
    let at = told.1 in
    (due_then e es moment (sym at), λ now early. not_before e es now (omega (arith, at, early)))

pub none_runs : (es : List Expiry) (result moment : ℕ) → TellsMoment (first_moment es) result moment → result ≢ 0
    → (result ≡ 23) × ((now : ℕ) → first_due es now ≡ None)
none_runs [] result moment told not = (told, λ now. refl)
none_runs (e ∷ es) result moment told not = absurd (not told.0)

-- what a question for a link's moment is told
pub none-changed : (line service tei : ℕ) (r : Result (Service × ℕ) ℕ) (link : Service × ℕ) (m : Card) (marks : Marks) (o : Option ℕ) (after : ℕ) → r ≡ link_in service tei → r ≡ Ok link
    → o ≡ option_map (moment_in marks line) (link_on link.0 link.1 (line_at line m)) → o ≡ None → TellsWord (changed_of line service tei m marks) 2 after
none-changed line service tei r link m marks o after is ok word none =
    subst (λ q. TellsWord (changed_at line m marks q) 2 after) (sym ok ∙ is) (subst (λ o. TellsWord (or_status 2 o) 2 after) (sym none ∙ word) (refl, λ e. omega (arith, e)))

pub one-changed : (line service tei : ℕ) (r : Result (Service × ℕ) ℕ) (link : Service × ℕ) (m : Card) (marks : Marks) (o : Option ℕ) (after : ℕ) → r ≡ link_in service tei → r ≡ Ok link
    → o ≡ option_map (moment_in marks line) (link_on link.0 link.1 (line_at line m)) → o ≡ Some after → TellsWord (changed_of line service tei m marks) 0 after
one-changed line service tei r link m marks o after is ok word one =
    subst (λ q. TellsWord (changed_at line m marks q) 0 after) (sym ok ∙ is) (subst (λ o. TellsWord (or_status 2 o) 0 after) (sym one ∙ word) (refl, refl))
