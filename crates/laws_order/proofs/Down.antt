-- A link in states 4 to 6 stays there, whatever happens, as long as it hears I-frames, supervisory frames and unit data.
use Rattle.laws_order.proofs.Vocabulary.{arith, ◌≡◌, ◌&&◌, Bool, false, cond, ap, ◌∙◌, Control, Information, ReceiveReady, ReceiveNotReady, Reject, Ui, State, AwaitingEstablishment, Terms, received, Link, is_multiple_frame, by_request, event-follows, after}
use Rattle.model_link.specs.Events.{Event, frame, Request}

-- I-frames and supervisory frames; and what leaves such a link where it is.
abbrev pub Speaks : Control → Type 0
Speaks (Information ns nr p) = Unit {0}
Speaks (ReceiveReady nr pf) = Unit {0}
Speaks (ReceiveNotReady nr pf) = Unit {0}
Speaks (Reject nr pf) = Unit {0}
Speaks other = ⊥

abbrev pub Unheeded : Control → Type 0
Unheeded (Ui p) = Unit {0}
Unheeded (Information ns nr p) = Unit {0}
Unheeded (ReceiveReady nr pf) = Unit {0}
Unheeded (ReceiveNotReady nr pf) = Unit {0}
Unheeded (Reject nr pf) = Unit {0}
Unheeded other = ⊥

abbrev pub UnheededAt : Event → Type 0
UnheededAt (received (frame f)) = Unheeded f.control
UnheededAt other = Unit {0}

abbrev Stays : State → Type 0
Stays to = is_multiple_frame to ≡ false

faulty : (up b : Bool) (x : State) → up ≡ false → Stays x → Stays (cond (up && b) AwaitingEstablishment x)
faulty up b x down h = ap (λ a. is_multiple_frame (cond (a && b) AwaitingEstablishment x)) down ∙ h

asked : (here : State) → Stays here → (request : Request) → Stays (by_request here request)
asked here down request = grind arith

module _ (t : Terms) (l : Link) (down : Stays l.state) where
  pub stays-down : (e : Event) → UnheededAt e → Stays (after t e l).state
  stays-down e h = grind (arith, event-follows, faulty, asked)
