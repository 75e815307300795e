-- What is given of a link is due: the laws.
use Rattle.laws_trace.proofs.Vocabulary.{◌≡◌, ℕ, ◌<◌, true, false, cond, All, List, [], ◌∷◌, ◌++◌, map, filter, Option, Some, None, option_to_list, refl, sym, ap, ◌∙◌, subst, inl, inr, append-nil, Service, place_of-is, given-in-order, IsInOrder, All-head, ControlFrame, Terms, Link, Given, given_is_frame, Config, next, Answer, Line, link_of, place_in, terms, IsInRange, terms_in_range}
use Rattle.laws_trace.proofs.Vocabulary.{line_at, at}
use Rattle.laws_trace.proofs.Vocabulary.{IsSound, line_frame_of as frame_of, fresh, CardEvent as Event, card_answer as answer, after_all, AreAtLines, offers, GivenIsDue, DueIsGiven, is_frame_of, managing_is_on as is_on, View, Outgoing, outgoing_of, trace_frame_in as frame_in, IsFront, Always, is_ui, offer, link_after as after, given}
use Rattle.model_link.specs.Sound as link_sound
use Rattle.model_line.specs.Machine as lines
use Rattle.laws_trace.proofs.Addressed.{at-some-place}
use Rattle.laws_trace.proofs.LineAtEnd.{line-at-end, link-at-end, nothing-there, silent-there}
use Rattle.laws_trace.proofs.DataAsked.{only-offered}
use Rattle.laws_trace.proofs.FramesOfLink.{all-foreign, own-frame}
use Rattle.laws_trace.proofs.NoUi.{IsPlain}
use Rattle.laws_trace.proofs.OffersOfLink.{given-is-offered-so, nothing-offered}
use Rattle.laws_trace.proofs.OneLink.{frames_given, Goes, event-goes}
use Rattle.laws_trace.proofs.Outgoing.{view-is}
use Rattle.laws_trace.proofs.Plain.{own-plain}
use Rattle.laws_trace.proofs.SeenAs.{tei-seen}
use Rattle.laws_trace.proofs.TimersAreTimely.{config-now}
use Rattle.laws_trace.proofs.Facts.{some-of}

none-goes : (xs ys : List (List ℕ)) → xs ≡ [] → IsFront xs ys
none-goes xs ys none = record { rest = ys; whole_is = ap (λ xs. xs ++ ys) (sym none) }

all-goes : (xs ys : List (List ℕ)) → ys ≡ xs → IsFront xs ys
all-goes xs ys same = record { rest = []; whole_is = same ∙ sym (append-nil xs) }

module _ (c : Config) (events : List Event) (number : ℕ) (ranged : IsInRange c) (all : AreAtLines (fresh c) events) (within : number < c.lines) (service : Service) (tei : ℕ) where
  abbrev line : Line
  line = line_at number (after_all (fresh c) events)

  abbrev t : Terms
  t = terms c service tei

  abbrev own : Link
  own = link_of service tei line

  abbrev o : Outgoing
  o = outgoing_of c service tei number events

  abbrev a : Answer
  a = lines.answer c next line

  abbrev Due : List (List ℕ) → Type 0
  Due frames = IsFront (filter (is_frame_of c service tei) frames) (offers c service tei o)

  sound : IsSound c line
  sound = line-at-end c events number ranged all within

  module _ (place : ℕ) (on : place_in line tei ≡ Some place) where
    range : link_sound.IsInRange t
    range = terms_in_range c ranged service tei (sound.management.table.range place tei (place_of-is line.management.places tei place on).1)

    plain : (f : ControlFrame) → IsInOrder t own (after t offer own) f → is_ui f.control ≡ false
    plain f (inl oldest) =
        All-head IsPlain f (after t offer own).waiting (subst (All IsPlain) oldest.waited (own-plain c events number ranged all within service tei place on))
    plain f (inr (inl information)) = ap (λ (f : ControlFrame). is_ui f.control) information.is
    plain f (inr (inr acknowledgement)) = ap (λ (f : ControlFrame). is_ui f.control) acknowledgement.is

    own-due : (g : Option Given) → given t own ≡ g → Due (map (frame_of c t) (option_to_list g))
    own-due None none = none-goes [] (offers c service tei o) refl
    own-due (Some g) some =
        let its : is_frame_of c service tei (frame_of c t g) ≡ true =
        own-frame c service tei g (some-of (λ g. link_sound.IsGiven t g.frame g.contents) (given t own) g some (given_is_frame t range own (link-at-end c line ranged sound service tei place on)))
        (plain g.frame (some-of (λ g. IsInOrder t own (after t offer own) g.frame) (given t own) g some (given-in-order t own (link-at-end c line ranged sound service tei place on)))) in
        all-goes (filter (is_frame_of c service tei) (frame_of c t g ∷ [])) (offers c service tei o)
        (given-is-offered-so c events number ranged all within service tei place on g some ∙ sym (ap (λ b. cond b (frame_of c t g ∷ []) []) its))

  line-due : Due (frame_in (lines.answer c next line))
  line-due = go (event-goes c next line service tei sound)
    where
      go : Goes c service tei next line (lines.after c next line) a → Due (frame_in (lines.answer c next line))
      go (inl x) = none-goes (filter (is_frame_of c service tei) (frame_in (lines.answer c next line))) (offers c service tei o) (all-foreign c service tei (frame_in (lines.answer c next line)) x.begins)
      go (inr (inl x)) =
          subst Due (sym (x.begins ∙ ap (λ e. frames_given c t e own) (only-offered c a service tei x.event x.by))) (own-due x.place x.placed (given t own) refl)
      go (inr (inr x)) = absurd (cc x.by.0)

  pub now-due : Due (frame_in (answer (at number next) (after_all (fresh c) events)))
  unfolding lines.takes_slot
  now-due = subst (λ (d : Config). Due (frame_in (lines.answer d next line))) (sym (config-now c events number ranged all within service tei)) line-due

  placed : is_on tei o.view.teis ≡ true → (place : ℕ) × (place_in line tei ≡ Some place)
  placed on =
      at-some-place line tei
      (sym (tei-seen c events number ranged all within service tei) ∙ sym (ap (λ (v : View). is_on tei v.teis) (view-is c number ranged within service tei events)) ∙ on)

  pub none-due : frame_in (answer (at number next) (after_all (fresh c) events)) ≡ [] → is_on tei o.view.teis ≡ true → offers c service tei o ≡ []
  none-due none on =
      let there = placed on in
      nothing-offered c events number ranged all within service tei there.0 there.1 (silent-there c line sound (nothing-there c events number ranged all within none) service tei there.0 there.1)

pub given-is-due : Always GivenIsDue
given-is-due c events number ranged all within service tei = now-due c events number ranged all within service tei

pub due-is-given : Always DueIsGiven
due-is-given c events number ranged all within service tei none on = none-due c events number ranged all within service tei none on
