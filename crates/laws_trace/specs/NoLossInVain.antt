-- Nothing is told as lost in vain.
use Rattle.std.specs.Prelude.{◌≡◌, ℕ, ◌+◌, ◌-◌, ◌&&◌, false, List, [], length, if◌then◌else◌}
use Rattle.lapd_frame.specs.declared.services.Service.{Service}
use Rattle.model_link.specs.declared.frames.ControlFrame.{ControlFrame}
use Rattle.model_line.specs.declared.config.Config.{Config}
use Rattle.model_line.specs.Event as line_event
use Rattle.laws_line.specs.Frames.{lost_in}
use Rattle.model_card.specs.Event.{Event}
use Rattle.laws_trace.specs.ControlFrames.{put_in}
use Rattle.laws_trace.specs.Managing.{is_on, due, managed_after}
use Rattle.laws_trace.specs.Observer.{view_of, view_behind, moment_of}
use Rattle.laws_trace.specs.Outgoing.{is_empty, outgoing_of}

-- The control frames of a link that an event of the line puts, while its TEI stays there.
abbrev pub puts_by : Config → ℕ → List Event → line_event.Event → Service → ℕ → List ControlFrame
puts_by c number events what service tei =
    let was = view_of c service tei number events in
    let now = view_behind c service tei number events what in
    if is_on tei now.teis && is_on tei was.teis then put_in c service tei was.link now.link (moment_of c events number what) else []

-- Of these so many are told as lost as find no place beside those that wait, as many as the configuration says; and where none
-- is put, as many frames as messages of TEI management are, since four are owed (profile).
pub record IsLossDue (c : Config) (events : List Event) (number : ℕ) (what : line_event.Event) (lost : ℕ) : Type 0 where
  pub of_link : (service : Service) (tei : ℕ) → let puts = puts_by c number events what service tei in
      is_empty puts ≡ false → lost ≡ length (outgoing_of c service tei number events).waiting + length puts - c.control
  pub of_messages : ((service : Service) (tei : ℕ) → puts_by c number events what service tei ≡ []) → lost ≡ (due c what (managed_after c number events)).lost

abbrev pub NoLossInVain : Config → List Event → ℕ → Type 0
NoLossInVain c events number = (what : line_event.Event) → IsLossDue c events number what (lost_in (moment_of c events number what).answer)
