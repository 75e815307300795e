-- Whether a link owes an acknowledgement behind one event of its line.
use Rattle.laws_trace.proofs.Vocabulary.{arith, ◌≡◌, ℕ, ◌&&◌, ◌||◌, not, Bool, true, false, List, [], ◌∷◌, map, Option, Some, None, is_some, list_any, option_to_list, refl, sym, ap, ◌∙◌, subst, inl, inr, Service, place_of-is, as_heard, state_after, put, owed_behind, event-follows, given-in-order, IsInOrder, ControlFrame, Terms, Link, is_multiple_frame, Given, given_is_frame, Config}
use Rattle.laws_trace.proofs.Vocabulary.{next, Answer}
use Rattle.laws_trace.proofs.Vocabulary.{Line, has_tei, link_of, place_in, terms, IsInRange, terms_in_range, notes_of, is_data_of, IsBy, HaveTheirTimers, Event, line_after as after, answer, line_frame_of as frame_of, IsSound, is_frame_of, is_empty, trace_frame_in as frame_in, seen, is_ui, and-false, false_from_ne_true, link_told, link_after, given}
use Rattle.model_link.specs.Events as link
use Rattle.model_link.specs.Sound as link_sound
use Rattle.laws_link.proofs.OfTwo.Waiting.{nothing-given}
use Rattle.laws_line.proofs.Silence.{silent}
use Rattle.laws_trace.proofs.Addressed.{at-some-place}
use Rattle.laws_trace.proofs.CommandsCaused.{IsNoOther}
use Rattle.laws_trace.proofs.ControlsAtLine.{time_at, put_here, none-puts, put-is, none-due, numbered, own-timed, sound}
use Rattle.laws_trace.proofs.ControlsDue.{put_by}
use Rattle.laws_trace.proofs.ControlsOfLink as of_link
use Rattle.laws_trace.proofs.DeliveriesRun.{IsCount, data-noted, no-data}
use Rattle.laws_trace.proofs.DeliveriesWatched.{Standing}
use Rattle.laws_trace.proofs.FramesOfLink.{any-foreign, own-frame}
use Rattle.laws_trace.proofs.OneLink.{frames_given, HasOne, HasNone, Goes, event-goes}
use Rattle.laws_trace.proofs.OwedOfLink.{pends-then}
use Rattle.laws_trace.proofs.Standing.{behind}
use Rattle.laws_trace.proofs.StandingOfLink.{calm, IsStanding}
use Rattle.laws_trace.proofs.Facts.{some-of}

-- What stays owed, by what an observer sees.
abbrev pub Owed : Bool → Bool → List ControlFrame → Bool → Bool → Bool
Owed was now puts begins owes = (was && now && is_empty puts && not begins) && owes

never-owed : (was now : Bool) (puts : List ControlFrame) (begins : Bool) → false ≡ Owed was now puts begins false
never-owed was now puts begins = sym (and-false (was && now && is_empty puts && not begins))

never-begun : (was now : Bool) (puts : List ControlFrame) (owes : Bool) → false ≡ Owed was now puts true owes
never-begun was now puts owes = sym (ap (λ b. b && owes) (and-false (was && now && is_empty puts)))

none-noted : (c : Config) (l : Line) (service : Service) (tei : ℕ) → list_any (is_data_of service tei) (notes_of (answer c next l)) ≡ false
unfolding answer
none-noted c l service tei = refl

module _ (service : Service) (tei : ℕ) (c : Config) (ranged : IsInRange c) (e : Event) (l : Line) (s : IsSound c l) (timed : HaveTheirTimers l) (m : ℕ) (busy rejected : Bool)
    (count : IsCount (link_of service tei l) m) (stands : IsStanding (link_of service tei l) busy rejected) where
  abbrev a : Answer
  a = answer c e l

  abbrev new : Line
  new = after c e l

  abbrev own : Link
  own = link_of service tei l

  abbrev was : Standing
  was = calm m busy rejected

  abbrev now : Standing
  now = behind service tei c e l a m busy rejected

  abbrev Put : List ControlFrame
  Put = put_here service tei c was now (time_at service tei l e new) l (seen e a) new

  abbrev begins : Bool
  begins = list_any (is_frame_of c service tei) (frame_in a)

  abbrev told : Bool
  told = list_any (is_data_of service tei) (notes_of a)

  abbrev up : Link → Bool
  up k = is_multiple_frame k.state

  abbrev Pends : Type 0
  Pends =
      has_tei tei l ≡ true → has_tei tei new ≡ true
      → (link_of service tei new).pending ≡ Owed (up own) (up (link_of service tei new)) Put (is_empty own.waiting && begins) (own.pending || told)

  -- No event of the link.
  module _ (x : HasNone c service tei e l new a) where
    none-pends : Pends
    none-pends was-on is-on =
        ap (λ (k : Link). k.pending) (x.stays was-on is-on) ∙ (grind arith)
        ∙ ap (λ b. Owed (up own) (up own) [] b (own.pending || false)) (sym (and-false (is_empty own.waiting)))
        ∙ ap (λ b. Owed (up own) (up own) [] (is_empty own.waiting && b) (own.pending || false)) (sym (any-foreign c service tei (frame_in a) x.begins))
        ∙ ap (λ b. Owed (up own) (up own) [] (is_empty own.waiting && begins) (own.pending || b)) (sym (false_from_ne_true told (no-data c ranged l s e service tei m count x)))
        ∙ ap (λ puts. Owed (up own) (up own) puts (is_empty own.waiting && begins) (own.pending || told)) (sym (none-puts service tei c ranged e l s timed m busy rejected count stands x was-on is-on))
        ∙ ap (λ (k : Link). Owed (up own) (up k) Put (is_empty own.waiting && begins) (own.pending || told)) (sym (x.stays was-on is-on))

  -- An event of the link.
  module _ (x : HasOne c service tei e l new a) where
    abbrev t : Terms
    t = terms c service tei

    abbrev later : Link
    later = link_after (terms c service tei) x.event (link_of service tei l)

    abbrev Then : List ControlFrame → Bool → Bool → Type 0
    Then puts begins told = later.pending ≡ Owed (up own) (up later) puts (is_empty own.waiting && begins) (own.pending || told)

    so-pends : (puts : List ControlFrame) → Put ≡ puts → (some noted : Bool) → begins ≡ some → told ≡ noted → Then puts some noted
        → (link_of service tei new).pending ≡ Owed (up own) (up (link_of service tei new)) Put (is_empty own.waiting && begins) (own.pending || told)
    so-pends puts put-so some noted begun told-so h = grind arith

    quiet : IsNoOther x.event → frames_given c t x.event own ≡ [] → Pends
    quiet other none was-on is-on =
        let there = at-some-place new tei is-on in
        so-pends (put heard own (state_after t heard own)) (put-so there.0 there.1) false (is_some (link_told t x.event own).delivered)
        (ap (list_any (is_frame_of c service tei)) (x.begins ∙ none)) (data-noted c ranged l s e service tei m count x)
        (pends-then t x.event own other stands.pends_up
        ∙ ap (λ b. (b && (own.pending || is_some (link_told t x.event own).delivered))) (with-none (up own && up later && is_empty (put heard own (state_after t heard own))))
        ∙ ap (λ b. Owed (up own) (up later) (put heard own (state_after t heard own)) b (own.pending || is_some (link_told t x.event own).delivered)) (sym (and-false (is_empty own.waiting))))
      where
        heard : link.Event
        heard = as_heard (terms c service tei) x.event

        with-none : (b : Bool) → b ≡ (b && not false)
        with-none b = grind arith

        put-so : (there : ℕ) → place_in new tei ≡ Some there → Put ≡ put heard own (state_after t heard own)
        put-so there on =
            put-is service tei c ranged e l s timed m busy rejected count stands x there on
            ∙ sym (subst (λ to. put heard own (state_after t heard own) ≡ put_by t.n201 was now x.event own.state to) (sym (event-follows t x.event own).leaves.state)
            (of_link.put-is t own m busy rejected now.told.count now.busy now.rejected x.event other (own-timed service tei c ranged e l s timed m busy rejected count stands x)
            (numbered service tei c ranged e l s timed m busy rejected count stands x)))

    offered : x.event ≡ link.offer → e ≡ next → Pends
    offered offer is was-on is-on =
        let there = at-some-place new tei is-on in
        so-pends [] (none-put there.0 there.1) some-begins false refl no-told (left own.waiting refl)
      where
        some-begins : Bool
        some-begins = list_any (is_frame_of c service tei) (frame_in (answer c e l))

        no-told : told ≡ false
        no-told = ap (λ e. list_any (is_data_of service tei) (notes_of (answer c e l))) is ∙ none-noted c l service tei

        none-put : (there : ℕ) → place_in new tei ≡ Some there → Put ≡ []
        none-put there on = none-due service tei c ranged e l s timed m busy rejected count stands x offer there on

        pends-is : later.pending ≡ owed_behind own.waiting own.pending
        pends-is = ap (λ (k : Link). k.pending) (ap (λ e. link_after t e own) offer) ∙ (event-follows t link.offer own).leaves.pending

        frames-are : frame_in a ≡ map (frame_of c t) (option_to_list (given t own))
        frames-are = x.begins ∙ ap (λ e. frames_given c t e own) offer

        range : link_sound.IsInRange t
        range = terms_in_range c ranged service tei (s.management.table.range x.place tei (place_of-is l.management.places tei x.place x.placed).1)

        safe : link_sound.IsSound t own
        safe = sound service tei c ranged e l s timed m busy rejected count stands x

        -- none waits
        by-given : own.waiting ≡ [] → (o : Option Given) → given t own ≡ o → false ≡ Owed (up own) (up later) [] (some-begins) (own.pending || false)
        by-given none None nothing =
            let quiet_now : own.pending ≡ false = (silent t own safe (nothing-given t own nothing)).pending in
            never-owed (up own) (up later) [] some-begins ∙ ap (λ b. Owed (up own) (up later) [] some-begins (b || false)) (sym quiet_now)
        by-given none (Some g) some =
            never-begun (up own) (up later) [] (own.pending || false) ∙ ap (λ b. Owed (up own) (up later) [] b (own.pending || false)) (sym begins-so)
          where
            plain : IsInOrder t own (link_after t link.offer own) g.frame → is_ui g.frame.control ≡ false
            plain other = grind arith

            begins-so : some-begins ≡ true
            begins-so =
                ap (list_any (is_frame_of c service tei)) (frames-are ∙ ap (λ o. map (frame_of c t) (option_to_list o)) some)
                ∙ ap (λ b. b || false)
                (own-frame c service tei g (some-of (λ g. link_sound.IsGiven t g.frame g.contents) (given t own) g some (given_is_frame t range own safe))
                (plain (some-of (λ g. IsInOrder t own (link_after t link.offer own) g.frame) (given t own) g some (given-in-order t own safe))))

        left : (ws : List ControlFrame) → own.waiting ≡ ws → Then [] some-begins false
        left [] none =
            pends-is ∙ ap (λ ws. owed_behind ws own.pending) none ∙ by-given none (given t own) refl
            ∙ ap (λ ws. Owed (up own) (up later) [] (is_empty ws && some-begins) (own.pending || false)) (sym none)
        left (f ∷ fs) some = grind arith

    by-event : (event : link.Event) → x.event ≡ event → IsBy c e a service tei event → Pends
    by-event event is by = grind (arith, offered, quiet, IsNoOther, frames_given)

  pub event-pends : Pends
  event-pends = go (event-goes c e l service tei s)
    where
      go : Goes c service tei e l new a → Pends
      go (inl x) = none-pends x
      go (inr (inl x)) = by-event x x.event refl x.by
      go (inr (inr x)) = grind arith
