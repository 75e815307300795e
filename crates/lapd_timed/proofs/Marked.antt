-- What is noted of the links of a card.
use Rattle.std.proofs.Common.{arith, ◌≡◌, ◌≢◌, ℕ, zero, suc, ◌+◌, ◌*◌, ◌<◌, ◌≤◌, ◌==◌, ◌⊎◌, inl, inr, Bool, true, false, cond, List, [], ◌∷◌, length, get_or, set, refl, sym, ap, ◌∙◌, subst}
use Rattle.std.specs.Prelude.{All}
use Rattle.std.proofs.lemmas.Bool.{cases_eq, cases_lt}
use Rattle.std.proofs.lemmas.List.{get_or-set_other, get_or-set_same}
use Rattle.std.proofs.lemmas.List.Elements.{All-set}
use Rattle.std.proofs.Math.Nat.{mul-le-mul_right, suc-mul}
use Rattle.model_card.specs.Card.{Card, line_at}
use Rattle.model_timed.specs.Changes.{Mark, Marks, standing, seen, noted}
use Rattle.model_timed.proofs.Marking.{seen-state, seen-same}
use Rattle.lapd_timed.specs.Marked.{HeldMarks, slot_in, marked_at, mark_in, AreAllNoted, AreMarks, IsAny, IsOfTei, IsSameBut, IsTouched}

-- the slots of links are apart, and before the end
pub before-end : (line lines d w : ℕ) → line < lines → w < d → line * d + w < lines * d
before-end line lines d w there within = let whole : suc line * d ≤ lines * d = mul-le-mul_right d there in let one_more : suc line * d ≡ line * d + d = suc-mul line d in omega (arith, whole, one_more, within)

same-line : (a b d w v : ℕ) → w < d → v < d → a * d + w ≡ b * d + v → a ≡ b
same-line a b d w v less more e =
    elim (cases_lt a b) [
      | inl below ↦ absurd (omega (arith, before-end a b d w below less, e))
      | inr above ↦ elim (cases_lt b a) [
        | inl below ↦ absurd (omega (arith, before-end b a d v below more, e))
        | inr under ↦ omega (arith, above, under)
      ]
    ]

pub same-slot : (a b d w v : ℕ) → w < d → v < d → a * d + w ≡ b * d + v → (a ≡ b) × (w ≡ v)
same-slot a b d w v less more e =
    let line = same-line a b d w v less more e in
    (line, omega (arith, subst (λ n. n * d + w ≡ b * d + v) line e))

pub slot-of : (lines links line number : ℕ) (h : HeldMarks) → h.links ≡ links → length h.states ≡ lines * links → line < lines → number < links → slot_in h line number < length h.states
slot-of lines links line number h links_are count line_there number_there =
    subst (λ n. slot_in h line number < n) (sym count) (subst (λ d. line * d + number < lines * links) (sym links_are) (before-end line lines links number line_there number_there))

-- a number of a list is another
pub length-set : (xs : List ℕ) (j x : ℕ) → length (set xs j x) ≡ length xs
length-set [] j x = refl
length-set (y ∷ ys) zero x = refl
length-set (y ∷ ys) (suc j) x = ap suc (length-set ys j x)

-- one link is noted
module _ (i state now : ℕ) (h : HeldMarks) where
  abbrev by : Bool → HeldMarks
  by b = cond {A = HeldMarks} b h (record h { states = set h.states i state; moments = set h.moments i now })

  pub links-stay : (marked_at i state now h).links ≡ h.links
  links-stay = go (get_or h.states i 0 == state)
    where
      go : (b : Bool) → (by b).links ≡ h.links
      go true = refl
      go false = refl

  pub states-stay : length (marked_at i state now h).states ≡ length h.states
  states-stay = go (get_or h.states i 0 == state)
    where
      go : (b : Bool) → length (by b).states ≡ length h.states
      go true = refl
      go false = length-set h.states i state

  pub moments-stay : length (marked_at i state now h).moments ≡ length h.moments
  moments-stay = go (get_or h.states i 0 == state)
    where
      go : (b : Bool) → length (by b).moments ≡ length h.moments
      go true = refl
      go false = length-set h.moments i now

  -- no moment is later than one that is not before now
  pub past-stay : (latest : ℕ) → now ≤ latest → All (λ moment. moment ≤ latest) h.moments → All (λ moment. moment ≤ latest) (marked_at i state now h).moments
  past-stay latest later all = go (get_or h.states i 0 == state)
    where
      go : (b : Bool) → All (λ moment. moment ≤ latest) (by b).moments
      go true = all
      go false = All-set (λ moment. moment ≤ latest) h.moments i now later all

  -- a mark, by its slot
  abbrev mark_of : HeldMarks → ℕ → Mark
  mark_of g j = record { state = get_or g.states j 0; moment = get_or g.moments j 0 }

  here : i < length h.states → length h.moments ≡ length h.states → mark_of (marked_at i state now h) i ≡ seen now state (mark_of h i)
  here within same = go (get_or h.states i 0 == state)
    where
      go : (b : Bool) → mark_of (by b) i ≡ cond {A = Mark} b (mark_of h i) (record { state = state; moment = now })
      go true = refl
      go false =
          ap (λ s. record { state = s; moment = get_or (set h.moments i now) i 0 }) (get_or-set_same h.states i state 0 within)
          ∙ ap (λ m. record { state = state; moment = m }) (get_or-set_same h.moments i now 0 (subst (λ n. i < n) (sym same) within))

  elsewhere : (j : ℕ) → j ≢ i → mark_of (marked_at i state now h) j ≡ mark_of h j
  elsewhere j apart = go (get_or h.states i 0 == state)
    where
      go : (b : Bool) → mark_of (by b) j ≡ mark_of h j
      go true = refl
      go false =
          ap (λ s. record { state = s; moment = get_or (set h.moments i now) j 0 }) (get_or-set_other h.states i j state 0 apart)
          ∙ ap (λ m. record { state = get_or h.states j 0; moment = m }) (get_or-set_other h.moments i j now 0 apart)

-- that link, and each other one
slots-stay : (line number state now : ℕ) (h : HeldMarks) (other more : ℕ)
    → mark_in (marked_at (slot_in h line number) state now h) other more ≡ mark_of (slot_in h line number) state now h (marked_at (slot_in h line number) state now h) (slot_in h other more)
slots-stay line number state now h other more =
    ap (λ d. mark_of (slot_in h line number) state now h (marked_at (slot_in h line number) state now h) (other * d + more)) (links-stay (slot_in h line number) state now h)

pub at-slot : (line number state now : ℕ) (h : HeldMarks) → slot_in h line number < length h.states → length h.moments ≡ length h.states
    → mark_in (marked_at (slot_in h line number) state now h) line number ≡ seen now state (mark_in h line number)
at-slot line number state now h there as_many = slots-stay line number state now h line number ∙ here (slot_in h line number) state now h there as_many

pub off-slot : (line number state now : ℕ) (h : HeldMarks) (other more : ℕ) → number < h.links → more < h.links → ((other ≡ line) → (more ≡ number) → ⊥)
    → mark_in (marked_at (slot_in h line number) state now h) other more ≡ mark_in h other more
off-slot line number state now h other more few less apart =
    slots-stay line number state now h other more
    ∙ elsewhere (slot_in h line number) state now h (slot_in h other more) (λ e. let same = same-slot other line h.links more number less few e in apart same.0 same.1)

-- of a card of so many links
module _ (lines links line number state now : ℕ) (h : HeldMarks) (links_are : h.links ≡ links) (count : length h.states ≡ lines * links) (as_many : length h.moments ≡ length h.states)
    (line_there : line < lines) (number_there : number < links) where
  pub noted-here : mark_in (marked_at (slot_in h line number) state now h) line number ≡ seen now state (mark_in h line number)
  noted-here = at-slot line number state now h (slot-of lines links line number h links_are count line_there number_there) as_many

  pub noted-there : (other more : ℕ) → more < links → ((other ≡ line) → (more ≡ number) → ⊥) → mark_in (marked_at (slot_in h line number) state now h) other more ≡ mark_in h other more
  noted-there other more there apart =
      off-slot line number state now h other more (subst (λ d. number < d) (sym links_are) number_there) (subst (λ d. more < d) (sym links_are) there) apart

-- All links are noted, or are as they were.
pub record IsNoted (now : ℕ) (h g : HeldMarks) (old card : Card) (other more : ℕ) : Type 0 where
  pub is : (mark_in g other more ≡ seen now (standing more (line_at other card)) (mark_in h other more))
      ⊎ ((mark_in g other more ≡ mark_in h other more) × (standing more (line_at other card) ≡ standing more (line_at other old)))

module _ (lines links now : ℕ) (h g : HeldMarks) (old card : Card) (marks : Marks) (config : card.config ≡ old.config) (links_stay : g.links ≡ h.links) (states_stay : length g.states ≡ length h.states)
    (moments_stay : length g.moments ≡ length h.moments) (stood : AreMarks lines links h old marks) where
  its-mark : (other more : ℕ) → other < lines → more < links → IsNoted now h g old card other more → mark_in g other more ≡ noted now card marks other more
  its-mark other more line_there number_there each =
      elim each.is [
        | inl is ↦ is ∙ ap (seen now (standing more (line_at other card))) (stood.held other more line_there number_there)
        | inr is ↦ is.0 ∙ stood.held other more line_there number_there
            ∙ sym (seen-same now (standing more (line_at other card)) (marks other more) (stood.up_to_date other more line_there number_there ∙ sym is.1))
      ]

  pub all-noted : ((other more : ℕ) → other < lines → more < links → IsNoted now h g old card other more) → AreMarks lines links g card (noted now card marks)
  all-noted each = record {
    lines_are = ap (λ c. c.lines) config ∙ stood.lines_are;
    terminals_are = ap (λ c. 2 * c.terminals) config ∙ stood.terminals_are;
    links_are = links_stay ∙ stood.links_are;
    count = states_stay ∙ stood.count;
    as_many = moments_stay ∙ stood.as_many ∙ sym states_stay;
    up_to_date = λ line number line_there number_there. seen-state now (standing number (line_at line card)) (marks line number);
    held = λ line number line_there number_there. its-mark line number line_there number_there (each line number line_there number_there);
  }

-- Where all are as they were, nothing has to be noted.
pub nothing-noted : (lines links now : ℕ) (h : HeldMarks) (old card : Card) (marks : Marks) → card.config ≡ old.config
    → ((other more : ℕ) → other < lines → more < links → standing more (line_at other card) ≡ standing more (line_at other old)) → AreMarks lines links h old marks → AreMarks lines links h card (noted now card marks)
nothing-noted lines links now h old card marks config same stood =
    all-noted lines links now h h old card marks config refl refl refl stood (λ other more line_there number_there. record { is = inr (refl, same other more line_there number_there) })

-- All links of a line are noted in the states in which they stand.
pub line-noted : (lines links at now : ℕ) (h g : HeldMarks) (old card : Card) (marks : Marks) (states : List ℕ) → links ≤ 16 → ((number : ℕ) → number < 16 → get_or states number 0 ≡ standing number (line_at at card))
    → AreAllNoted at now states h g → IsSameBut lines links at IsAny old card → AreMarks lines links h old marks → at < lines → AreMarks lines links g card (noted now card marks)
line-noted lines links at now h g old card marks states few are all but stood there =
    all-noted lines links now h g old card marks but.config all.links all.count all.moments stood
    (λ other more line_there less. let ours : more < h.links = subst (λ n. more < n) (sym stood.links_are) less in elim (cases_eq other at) [
      | inl same ↦ subst (λ n. IsNoted now h g old card n more) (sym same) (record { is = inl (all.here more ours ∙ ap (λ s. seen now s (mark_in h at more)) (are more (omega (arith, few, less)))) })
      | inr apart ↦ record { is = inr (all.others other more ours apart, but.others other more line_there less (λ same _. apart same)) }
    ])

-- What is touched is some of all, or of a TEI.
pub of-any : (lines links line tei : ℕ) (old new : Card) → IsSameBut lines links line (IsTouched line tei old new) old new → IsSameBut lines links line IsAny old new
of-any lines links line tei old new but = record { config = but.config; others = λ other number there less not. but.others other number there less (λ same _. not same tt) }

pub of-tei : (lines links line tei : ℕ) (old new : Card) → tei ≢ 127 → IsSameBut lines links line (IsTouched line tei old new) old new → IsSameBut lines links line (IsOfTei line tei new) old new
of-tei lines links line tei old new own but = record { config = but.config; others = λ other number there less not. but.others other number there less (λ same of. not same (of.0 own)) }
