-- Worked values: what would be told where a premise is left out. Each computes.
use Rattle.std.specs.Prelude.{◌≡◌, ℕ, false, List, [], ◌∷◌, ◌++◌, refl}
use Rattle.std.specs.List.{list_any}
use Rattle.model_bits.specs.Stream.{frame}
use Rattle.lapd_frame.specs.declared.services.Service.TheVariants.{Call}
use Rattle.lapd_frame.specs.Reading.{reading, header_of, control_of, unnumbered_of, supervisory_of}
use Rattle.lapd_frame.specs.Senders.{exchanged, reading as read_by}
use Rattle.lapd_seq.specs.Circle.{distance_of, named}
use Rattle.lapd_seq.specs.Numbers.{seq}
use Rattle.model_teis.specs.network.Events as teis
use Rattle.model_line.specs.Event.{hears}
use Rattle.model_line.specs.Machine as lines
use Rattle.model_line.specs.Request.{Data}
use Rattle.model_card.specs.Event.{at}
use Rattle.model_card.specs.Run.{moments, after_all}
use Rattle.laws_trace.specs.Trace.{IsFront}
use Rattle.laws_wire.specs.Wire.{Wire, requests, sends, receives, doing_all}
use Rattle.laws_order.specs.AnySteps.{step, AnyStepAt, any_near, any_far, any_doing_all, seen_near, seen_far}
use Rattle.laws_order.specs.Order.{data_noted, data_granted, ends_by, kept_by, StaysEstablished}
use Rattle.laws_order.specs.Worked.{faces, near_known, far_known}

-- An I-frame that is on its way from an earlier establishment, with N(S) 0, is told as if it were of this one.
abbrev old_frame : List ℕ
old_frame = 0x00 ∷ 0x01 ∷ 0x00 ∷ 0x00 ∷ 0x99 ∷ []

abbrev with_old : Wire
with_old = record faces { near = record faces.near { way = old_frame ∷ [] } }

abbrev comes_late : List AnyStepAt
comes_late = any_far (step receives) ∷ []

told_of_old : data_noted Call 0 (seen_far comes_late with_old) ≡ (0x99 ∷ []) ∷ []
unfolding lines.after lines.answer lines.takes_slot exchanged read_by reading header_of control_of unnumbered_of supervisory_of teis.course teis.refusal seq distance_of named doing_all any_doing_all seen_near seen_far
told_of_old = refl

never_granted : kept_by (near_known []) (far_known []) ++ data_granted Call 0 (seen_near comes_late with_old) ≡ []
unfolding lines.after lines.answer lines.takes_slot exchanged read_by reading header_of control_of unnumbered_of supervisory_of teis.course teis.refusal seq distance_of named doing_all any_doing_all seen_near seen_far moments after_all
never_granted = refl

no_end : StaysEstablished Call 0 (seen_far comes_late with_old)
unfolding lines.after lines.answer lines.takes_slot exchanged read_by reading header_of control_of unnumbered_of supervisory_of teis.course teis.refusal seq distance_of named doing_all any_doing_all seen_near seen_far
no_end = refl

abbrev nothing : List (List ℕ)
nothing = []

not_a_front : IsFront ((0x99 ∷ []) ∷ []) nothing → ⊥
not_a_front x = cc x.whole_is

-- So the far end has received more than the near one keeps; then what the near end sends next is acknowledged, and not told.
abbrev ahead : Wire
ahead = any_doing_all comes_late with_old

abbrev skips : List AnyStepAt
skips =
    any_near (step (requests (Data Call 0 (5 ∷ [])))) ∷ any_near (step sends) ∷ any_far (step receives) ∷ any_far (step sends) ∷ any_near (step receives)
    ∷ any_near (step (requests (Data Call 0 (6 ∷ [])))) ∷ any_near (step sends) ∷ any_far (step receives) ∷ []

told_six : data_noted Call 0 (seen_far skips ahead) ≡ (6 ∷ []) ∷ []
unfolding lines.after lines.answer lines.takes_slot exchanged read_by reading header_of control_of unnumbered_of supervisory_of teis.course teis.refusal seq distance_of named doing_all any_doing_all seen_near seen_far
told_six = refl

granted_both : kept_by (near_known []) (far_known (at 0 (hears (frame old_frame)) ∷ [])) ++ data_granted Call 0 (seen_near skips ahead) ≡ (5 ∷ []) ∷ (6 ∷ []) ∷ []
unfolding lines.after lines.answer lines.takes_slot exchanged read_by reading header_of control_of unnumbered_of supervisory_of teis.course teis.refusal seq distance_of named doing_all any_doing_all seen_near seen_far moments after_all
granted_both = refl

both_last : list_any (ends_by Call 0) (seen_near skips ahead ++ seen_far skips ahead) ≡ false
unfolding lines.after lines.answer lines.takes_slot exchanged read_by reading header_of control_of unnumbered_of supervisory_of teis.course teis.refusal seq distance_of named doing_all any_doing_all seen_near seen_far
both_last = refl

five_left_out : IsFront {X = List ℕ} ((6 ∷ []) ∷ []) ((5 ∷ []) ∷ (6 ∷ []) ∷ []) → ⊥
five_left_out x = cc x.whole_is

-- A SABME that is on its way still, as where T200 expired before UA came, renews the establishment at the far end; and the near end, which
-- is told error C alone, takes what the far end sends next for more of the old one, and misses its first.
abbrev old_call : List ℕ
old_call = 0x00 ∷ 0x01 ∷ 0x7F ∷ []

abbrev with_call : Wire
with_call = record faces { near = record faces.near { way = old_call ∷ [] } }

abbrev renews : List AnyStepAt
renews =
    any_far (step (requests (Data Call 0 (7 ∷ [])))) ∷ any_far (step sends) ∷ any_near (step receives) ∷ any_far (step receives)
    ∷ any_far (step (requests (Data Call 0 (8 ∷ [])))) ∷ any_far (step (requests (Data Call 0 (9 ∷ []))))
    ∷ any_far (step sends) ∷ any_far (step sends) ∷ any_far (step sends) ∷ any_near (step receives) ∷ any_near (step receives) ∷ any_near (step receives) ∷ []

told_nine : data_noted Call 0 (seen_near renews with_call) ≡ (7 ∷ []) ∷ (9 ∷ []) ∷ []
unfolding lines.after lines.answer lines.takes_slot exchanged read_by reading header_of control_of unnumbered_of supervisory_of teis.course teis.refusal seq distance_of named doing_all any_doing_all seen_near seen_far
told_nine = refl

granted_all : kept_by (far_known []) (near_known []) ++ data_granted Call 0 (seen_far renews with_call) ≡ (7 ∷ []) ∷ (8 ∷ []) ∷ (9 ∷ []) ∷ []
unfolding lines.after lines.answer lines.takes_slot exchanged read_by reading header_of control_of unnumbered_of supervisory_of teis.course teis.refusal seq distance_of named doing_all any_doing_all seen_near seen_far moments after_all
granted_all = refl

near_lasts : StaysEstablished Call 0 (seen_near renews with_call)
unfolding lines.after lines.answer lines.takes_slot exchanged read_by reading header_of control_of unnumbered_of supervisory_of teis.course teis.refusal seq distance_of named doing_all any_doing_all seen_near seen_far
near_lasts = refl

eight_left_out : IsFront {X = List ℕ} ((7 ∷ []) ∷ (9 ∷ []) ∷ []) ((7 ∷ []) ∷ (8 ∷ []) ∷ (9 ∷ []) ∷ []) → ⊥
eight_left_out x = cc x.whole_is

-- Twice the same, another order, and what was granted but left out.
twice : IsFront {X = List ℕ} ((1 ∷ []) ∷ (1 ∷ []) ∷ []) ((1 ∷ []) ∷ (2 ∷ []) ∷ []) → ⊥
twice x = cc x.whole_is

left_out : IsFront {X = List ℕ} ((2 ∷ []) ∷ []) ((1 ∷ []) ∷ (2 ∷ []) ∷ []) → ⊥
left_out x = cc x.whole_is
