-- What follows an event: what it leaves of a link, field by field, and what it tells. Numbers and contents are counted
-- elsewhere.
use Rattle.std.specs.Prelude.{◌≡◌, ℕ, List}
use Rattle.lapd_frame.specs.declared.notes.Note.{Note}
use Rattle.model_link.specs.declared.terms.Terms.{Terms}
use Rattle.model_link.specs.Deliveries.{restarts}
use Rattle.model_link.specs.Link.{Link}
use Rattle.model_link.specs.Events.{Event}
use Rattle.laws_link.specs.States.{as_heard, state_after, numbers_begin}
use Rattle.laws_link.specs.Waiting.{waiting_left, lost_by}
use Rattle.laws_link.specs.Flags.{peer_busy_left, own_busy_left, rejecting_left, pending_left, asked_left, owed_left, repeats_left}
use Rattle.laws_link.specs.Telling.{told_by}

pub record Leaves (t : Terms) (e : Event) (before after : Link) (ns : List Note) (lost : ℕ) : Type 0 where
  pub state : after.state ≡ state_after t e before
  pub waiting : after.waiting ≡ waiting_left t e before after.state
  pub tells : ns ≡ told_by t e before after.state
  pub lost_is : lost ≡ lost_by t e before after.state
  pub peer_busy : after.peer_busy ≡ peer_busy_left e before after.state
  pub own_busy : after.own_busy ≡ own_busy_left e before after.state
  pub rejecting : after.rejecting ≡ rejecting_left e before after.state
  pub pending : after.pending ≡ pending_left e before after.state
  pub asked : after.asked ≡ asked_left t e before after.state
  pub owed : after.owed ≡ owed_left t e before after.state
  pub repeats : after.repeats ≡ repeats_left t e before after.state

pub record Follows (t : Terms) (e : Event) (before after : Link) (ns : List Note) (lost : ℕ) : Type 0 where
  pub leaves : Leaves t (as_heard t e) before after ns lost
  pub numbers : restarts t e before ≡ numbers_begin (as_heard t e) before.state after.state
