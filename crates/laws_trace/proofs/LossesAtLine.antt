-- How many of the control frames of a link that are due one event of its line loses.
use Rattle.laws_trace.proofs.Vocabulary.{◌≡◌, ℕ, ◌+◌, ◌-◌, Bool, false, true, List, length, refl, sym, ap, ◌∙◌, subst, arith, true≢false, inl, inr, Some, Service, as_heard, put, event-follows, ControlFrame, Terms, Link, Config, Answer, Line, has_tei, link_of, place_in, terms, IsInRange, lost_in, deactivates, IsBy, HaveTheirTimers, length-drop, Event, line_after as after, answer, IsSound}
use Rattle.laws_trace.proofs.Vocabulary.{is_empty}
use Rattle.laws_trace.proofs.Vocabulary.{seen, link_told, link_after}
use Rattle.model_link.specs.Events as link
use Rattle.model_link.specs.Sound as link_sound
use Rattle.laws_trace.proofs.Addressed.{at-some-place}
use Rattle.laws_trace.proofs.CommandsCaused.{IsNoOther}
use Rattle.laws_trace.proofs.ControlsAtLine.{time_at, put_here, none-puts, put-is, none-due, numbered, own-timed, sound}
use Rattle.laws_trace.proofs.ControlsDue.{put_by}
use Rattle.laws_trace.proofs.ControlsOfLink as of_link
use Rattle.laws_trace.proofs.DeliveriesRun.{IsCount}
use Rattle.laws_trace.proofs.DeliveriesWatched.{Standing}
use Rattle.laws_trace.proofs.LinkLed.{own-is}
use Rattle.laws_trace.proofs.OneLink.{HasOne, Goes, event-goes}
use Rattle.laws_trace.proofs.Standing.{behind}
use Rattle.laws_trace.proofs.StandingOfLink.{calm, IsStanding}

-- What an event of a link loses found no place.
link-loses : (t : Terms) (e : link.Event) (l : Link) → link_sound.IsSound t l
    → (link_told t e l).lost ≡ length l.waiting + length (put (as_heard t e) l (link_after t e l).state) - t.control
link-loses t e l s = grind (arith, event-follows, length-drop)

module _ (service : Service) (tei : ℕ) (c : Config) (ranged : IsInRange c) (e : Event) (l : Line) (s : IsSound c l) (timed : HaveTheirTimers l) (m : ℕ) (busy rejected : Bool)
    (count : IsCount (link_of service tei l) m) (stands : IsStanding (link_of service tei l) busy rejected) where
  abbrev a : Answer
  a = answer c e l

  abbrev new : Line
  new = after c e l

  abbrev own : Link
  own = link_of service tei l

  abbrev was : Standing
  was = calm m busy rejected

  abbrev now : Standing
  now = behind service tei c e l a m busy rejected

  abbrev Put : List ControlFrame
  Put = put_here service tei c was now (time_at service tei l e new) l (seen e a) new

  abbrev Exact : Type 0
  Exact = lost_in a ≡ length own.waiting + length Put - c.control

  -- An event of the link, but no offer.
  pub one-loses : (x : HasOne c service tei e l new a) → IsNoOther x.event → has_tei tei new ≡ true → Exact
  one-loses x other is-on =
      let there = at-some-place new tei is-on in
      x.lost ∙ link-loses t x.event own (sound service tei c ranged e l s timed m busy rejected count stands x)
      ∙ ap (λ fs. length own.waiting + length fs - c.control) (sym (put-so there.0 there.1))
    where
      t : Terms
      t = terms c service tei

      put-so : (there : ℕ) → place_in new tei ≡ Some there → Put ≡ put (as_heard t x.event) own (link_after t x.event own).state
      put-so there on =
          put-is service tei c ranged e l s timed m busy rejected count stands x there on
          ∙ sym (subst (λ to. put (as_heard t x.event) own to ≡ put_by t.n201 was now x.event own.state to) (sym (event-follows t x.event own).leaves.state)
          (of_link.put-is t own m busy rejected now.told.count now.busy now.rejected x.event other (own-timed service tei c ranged e l s timed m busy rejected count stands x)
          (numbered service tei c ranged e l s timed m busy rejected count stands x)))

  by-event : (x : HasOne c service tei e l new a) → (event : link.Event) → x.event ≡ event → IsBy c e a service tei event → has_tei tei new ≡ true → is_empty Put ≡ false → Exact
  by-event x link.offer is by on some =
      let there = at-some-place new tei on in
      (absurd (true≢false (sym (ap is_empty (none-due service tei c ranged e l s timed m busy rejected count stands x is there.0 there.1)) ∙ some)))
  by-event x link.cleared is by on some = absurd by
  by-event x other is by on some = one-loses x (subst IsNoOther (sym is) tt) on

  pub event-loses : has_tei tei l ≡ true → has_tei tei new ≡ true → deactivates service tei e ≡ false → is_empty Put ≡ false → Exact
  event-loses was-on is-on stays some = go (event-goes c e l service tei s)
    where
      go : Goes c service tei e l new a → Exact
      go (inl x) = (absurd (true≢false (sym (ap is_empty (none-puts service tei c ranged e l s timed m busy rejected count stands x was-on is-on)) ∙ some)))
      go (inr (inl x)) = by-event x x.event refl x.by is-on some
      go (inr (inr x)) = absurd (true≢false (sym (ap (deactivates service tei) x.by.0 ∙ own-is service tei) ∙ stays))
