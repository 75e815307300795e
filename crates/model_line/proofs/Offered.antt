-- What a link gives to be sent is no longer than a frame may be.
use Rattle.model_line.proofs.Vocabulary.{◌≡◌, ℕ, ◌+◌, ◌≤◌, Bool, true, false, List, [], ◌∷◌, length, slice_get, Option, None, IfSome, refl, cond, arith, All, unwrap_or, All-head, slice_get_cases, spelling, own_side, ControlFrame, Terms, Link, fresh, address_at, given, given_of, course, offer, offer_among, may_send_information, is_awaiting_acknowledgement, give_information, with_one_sent}
use Rattle.model_line.proofs.Vocabulary.{send_information}
use Rattle.model_line.proofs.Vocabulary.{send_acknowledgement, IsWaitingFrame, Sent, ◌then◌, changed, pending_is, start, Config}
use Rattle.model_link.specs.Sound.{IsSound}
use Rattle.model_link.specs.Steps.{Course, begun}
use Rattle.model_link.specs.declared.timers.LinkTimer.TheVariants.{T200}
use Rattle.model_line.specs.Taken.{frame_of}

abbrev octets_sent : Config → Terms → Sent → List ℕ
octets_sent c t s =
    spelling (own_side c) (record { address = address_at t s.frame.command; control = s.frame.control; info = unwrap_or s.contents [] })

abbrev IsShort : Config → Terms → Sent → Type 0
IsShort c t s = length (octets_sent c t s) ≤ t.n201 + 4

-- the contents of an I-frame
contents_short : (t : Terms) (l : Link) → IsSound t l → length (unwrap_or (slice_get l.contents l.s) []) ≤ t.n201
contents_short t l s = grind (arith, slice_get_cases)

sent_short : (c : Config) (t : Terms) (l : Link) → IsSound t l → (ws : List ControlFrame) → All (IsWaitingFrame t) ws
    → IfSome (offer_among t ws (begun l)).sent (IsShort c t)
sent_short c t l s (f ∷ fs) frames = omega (arith, (All-head (IsWaitingFrame t) f fs frames).octets)
sent_short c t l s [] frames = go (may_send_information t l) l.pending
  where
    either : (b : Bool) (d : Course) → IfSome d.sent (IsShort c t) → IfSome (cond b d (start T200 d)).sent (IsShort c t)
    either b d h = grind arith

    go : (may pending : Bool) → IfSome (cond may (send_information (begun l)) (cond pending (send_acknowledgement (begun l)) (begun l))).sent (IsShort c t)
    go true pending =
        let given = (give_information then changed with_one_sent then pending_is false) (begun l) in
        either (is_awaiting_acknowledgement given.link) given (omega (arith, contents_short t l s))
    go false true = omega arith
    go false false = tt

-- what a link gives
pub given_short : (c : Config) (t : Terms) (l : Link) → IsSound t l → IfSome (given t l) (λ g. length (frame_of c t g) ≤ t.n201 + 4)
given_short c t l s = go (course t offer l).sent (sent_short c t l s l.waiting s.frames)
  where
    go : (o : Option Sent) → IfSome o (IsShort c t) → IfSome (given_of t l (course t offer l) o) (λ g. length (frame_of c t g) ≤ t.n201 + 4)
    go o h = grind arith

-- a link that begins has nothing to give
pub fresh_gives_nothing : (t : Terms) → given t fresh ≡ None
fresh_gives_nothing t = refl
