-- What answers a poll, SABME or DISC, and each other control frame that is due, is heard within a number of pulls.
use Rattle.std.specs.Prelude.{◌≡◌, ℕ, ◌+◌, ◌≤◌, List, ◌++◌}
use Rattle.lapd_frame.specs.declared.services.Service.{Service}
use Rattle.model_line.specs.declared.config.Config.{Config}
use Rattle.laws_line.specs.Drains.{most_frames_before}
use Rattle.laws_line.specs.card.WaitingIsHeard.{AreHeardSince}
use Rattle.laws_trace.specs.AnswersAreGiven.{Stays, priority_added, texts}
use Rattle.laws_trace.specs.Outgoing.{outgoing_of}
use Rattle.model_card.specs.ports.Card.{fresh}
use Rattle.model_card.specs.ports.Event.{Event}
use Rattle.model_card.specs.ports.GoingOut.{octets_given}
use Rattle.model_card.specs.ports.Pulls.{most_pulls_behind, pulls_of}
use Rattle.model_card.specs.ports.Run.{after_all, meant_all}

-- Of what `later` means to the card of frames: the TEI stays on the line, and the link is not deactivated; and the pulls are as
-- many as the configuration says for as many calls as are enough (`QueueIsSent`), and one more, by which the closing flag has gone.
pub record IsPulled (c : Config) (line : ℕ) (service : Service) (tei : ℕ) (past later : List Event) : Type 0 where
  pub stays : Stays c line service tei (meant_all (fresh c) past) (meant_all (after_all (fresh c) past) later)
  pub enough : most_pulls_behind c.n201 (most_frames_before c + priority_added c line (meant_all (fresh c) past) (meant_all (after_all (fresh c) past) later) + 1)
      ≤ pulls_of line later

-- A receiver hears all that was in the queue, in order, in what these pulls gave. So it hears what answers a poll, as that is in
-- the queue once the poll has come (`AnswersAreSent`).
abbrev pub AllThatWaitsIsHeard : Config → List Event → ℕ → Type 0
AllThatWaitsIsHeard c events line =
    (past later : List Event) (service : Service) (tei : ℕ) →
    events ≡ past ++ later →
    IsPulled c line service tei past later →
    AreHeardSince c.n201 (octets_given c past line) (octets_given c events line) (texts c service tei (outgoing_of c service tei line (meant_all (fresh c) past)).waiting)
