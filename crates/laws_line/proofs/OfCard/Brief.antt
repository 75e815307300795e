-- What laws of whole runs say in brief.
use Rattle.laws_line.proofs.Vocabulary.{arith, ⊎_elim, ◌≡◌, ◌≢◌, ℕ, List, Option, Some, None, refl, ap, ◌∙◌, get_or-set_other, Config, next, Line, link_number, link_count, link_at, Taken, taken, Card, line_at, IsAtLine, AreAtLines, moment_of, each_moment, has_lines, line_sound, fresh as fresh_link, IsOneEvent, IsOfPart, line_of_link as of_link, line_of_management as of_management}
use Rattle.laws_line.proofs.Vocabulary.{line_of_terminal as of_terminal, of_units}
use Rattle.laws_line.proofs.Vocabulary.{of_group, of_down, of_next, IsIdle, IsOwed, contents_of_link, CardEvent as Event, card_after as after, card_answer as answer, CardIsSound as IsSound, LinksStay, LeavesOthers, OthersStay, TellsCause, CausesAreTold}
use Rattle.model_line.specs.Event as line_event
use Rattle.model_line.specs.Machine as lines
use Rattle.model_line.specs.Sound as line
use Rattle.laws_line.proofs.Serving.{served}
use Rattle.laws_line.proofs.OfCard.Hearing.{heard-group, tells-cause}
use Rattle.laws_line.proofs.OfCard.OneEvent.{one-in}

-- Of the links of a line a call for the next frame changes one, or none.
Changed : Line → Line → ℕ → Type 0
Changed before after one = (other : ℕ) → other ≢ one → link_at other after ≡ link_at other before

module _ (c : Config) (l : Line) (s : line.IsSound c l) where
  owed-one : (then : Line) (frame : List ℕ) → IsOwed c (contents_of_link l) l then frame → (one : ℕ) × Changed l then one
  unfolding Changed
  owed-one then frame it = grind (arith, get_or-set_other)

  next-one : (one : ℕ) × Changed l (lines.after c next l) one
  unfolding Changed
  next-one = go (taken c l) (served c l s)
    where
      go : (o : Option Taken)
          → elim o as (λ o. Type 0) [ None ↦ IsIdle c l (lines.after c next l) | Some t ↦ IsOwed c (contents_of_link l) l (lines.after c next l) t.frame ]
          → (one : ℕ) × Changed l (lines.after c next l) one
      go o x = grind (arith, owed-one)

module _ (card : Card) (e : Event) (s : IsSound card) (here : IsAtLine card e) where
  abbrev c : Config
  c = card.config

  abbrev l : Line
  l = line_at e.line card

  abbrev then : Line
  then = line_at e.line (after e card)

  own : IsOneEvent c e.what l then (answer e card)
  own = (one-in card e s here).own

  called : e.what ≡ next → LinksStay (link_count c) l then
  unfolding Changed
  called is =
      let x = next-one c l (line_sound card e.line (has_lines card s) here) in
      record { one = x.0; others = λ other few away stays. ap (link_at other) (own.takes is).0 ∙ x.1 other away }

  by-part : e.what ≢ next → IsOfPart c l e.what (answer e card) → LinksStay (link_count c) l then
  by-part apart (of_link service tei place event on by) =
      record {
        one = link_number place service;
        others = λ other few away stays.
            ap (link_at other) (own.link service tei place event apart on by).line ∙ get_or-set_other l.links (link_number place service) other _ fresh_link away;
      }
  by-part apart (of_management event net by) = record { one = 0; others = λ other few away stays. (own.management event net by).stay other few stays }
  by-part apart (of_terminal event is by) = record { one = 0; others = λ other few away stays. (own.terminal event is by).stay other few stays }
  by-part apart (of_units unit granted) = record { one = 0; others = λ other few away stays. ap (link_at other) (own.units unit granted).0 }
  by-part apart (of_group parts service h to) = (record { one = 0; others = λ other few away stays. ap (link_at other) ((heard-group card e s here parts service h to).line) })
  by-part apart (of_down is) = record { one = 0; others = λ other few away stays. ap (link_at other) (own.down is).line }
  by-part apart (of_next is) = absurd (apart is)

  links-stay : LinksStay (link_count c) l then
  links-stay = go e.what refl
    where
      other : e.what ≢ next → LinksStay (link_count c) l then
      other apart = ⊎_elim (λ x. by-part apart x) (λ x. (record { one = 0; others = λ other few away stays. ap (link_at other) x.0 })) own.none

      go : (what : line_event.Event) → e.what ≡ what → LinksStay (link_count c) l then
      go what is = grind (arith, called, other)

  leaves-others : LeavesOthers (moment_of card e)
  leaves-others = record { lines = (one-in card e s here).others; links = links-stay }

pub others-stay : (card : Card) (events : List Event) → IsSound card → AreAtLines card events → OthersStay card events
others-stay card events s all = each_moment LeavesOthers leaves-others card events s all

pub causes-are-told : (card : Card) (events : List Event) → IsSound card → AreAtLines card events → CausesAreTold card events
causes-are-told card events s all = each_moment TellsCause tells-cause card events s all
