-- Worked values: long runs.
use Rattle.std.specs.Prelude.{◌≡◌, ℕ, ◌+◌, ◌*◌, ◌%◌, List, [], ◌∷◌, ◌++◌, length, replicate, zero, suc, refl}
use Rattle.laws_link.specs.WorkedWords.{seq, distance_of, named, Call, supervisory_of, unnumbered_of, control_of, header_of, reading, fresh, Event, Data, offer, after_all, may_send, price_of_all, usual_terms, packet, frame_comes, ask, pulls, out, notes, lost, up}
use Rattle.lapd_frame.specs.declared.notes.Note.TheVariants as tell

-- 129 I-frames numbered 0 to 127 and 0 again, each acknowledged before the next.
abbrev numbered_frames : ℕ → ℕ → List Event
numbered_frames zero n = []
numbered_frames (suc more) n = frame_comes (0x00 ∷ 0x81 ∷ (2 * (n % 128)) ∷ 0x00 ∷ 0x41 ∷ []) ∷ offer ∷ numbered_frames more (n + 1)

abbrev acknowledgements : ℕ → ℕ → List (List ℕ)
acknowledgements zero n = []
acknowledgements (suc more) n = (0x00 ∷ 0x81 ∷ 0x01 ∷ (2 * (n % 128)) ∷ []) ∷ acknowledgements more (n + 1)

all_numbers_out : out usual_terms (numbered_frames 129 0) up
    ≡ acknowledgements 129 1
unfolding seq distance_of named reading header_of control_of unnumbered_of supervisory_of after_all out notes lost price_of_all
all_numbers_out = refl

all_numbers_notes : notes usual_terms (numbered_frames 129 0) up
    ≡ replicate 129 (tell.Data Call 64)
unfolding seq distance_of named reading header_of control_of unnumbered_of supervisory_of after_all out notes lost price_of_all
all_numbers_notes = refl

all_numbers_counted : (after_all usual_terms (numbered_frames 129 0) up).r
    ≡ 129
unfolding seq distance_of named reading header_of control_of unnumbered_of supervisory_of after_all out notes lost price_of_all
all_numbers_counted = refl

-- Seven contents sent, and then fifty times REJ with N(R) 0, seven frames pulled after each: 357 I-frames.
abbrev seven_contents : List Event
seven_contents = replicate 7 (ask (Data (0x41 ∷ []))) ++ pulls 7

abbrev rejections : ℕ → List Event
rejections zero = []
rejections (suc more) = frame_comes (0x02 ∷ 0x81 ∷ 0x09 ∷ 0x00 ∷ []) ∷ pulls 7 ++ rejections more

rejected_fifty_times : length (out usual_terms (seven_contents ++ rejections 50) up)
    ≡ 357
unfolding seq distance_of named reading header_of control_of unnumbered_of supervisory_of after_all out notes lost price_of_all
rejected_fifty_times = refl

rejected_fifty_times_price : may_send usual_terms up + price_of_all usual_terms (seven_contents ++ rejections 50) up
    ≡ 457
unfolding seq distance_of named reading header_of control_of unnumbered_of supervisory_of after_all out notes lost price_of_all
rejected_fifty_times_price = refl

-- Fifty REJ commands with P=1 and N(R) 0, none of whose answers is pulled: 46 answers are lost.
fifty_polls : lost usual_terms (replicate 50 (frame_comes (0x00 ∷ 0x81 ∷ 0x09 ∷ 0x01 ∷ []))) up
    ≡ 46
unfolding seq distance_of named reading header_of control_of unnumbered_of supervisory_of after_all out notes lost price_of_all
fifty_polls = refl

fifty_polls_out : out usual_terms (replicate 50 (frame_comes (0x00 ∷ 0x81 ∷ 0x09 ∷ 0x01 ∷ [])) ++ pulls 5) up
    ≡ (0x00 ∷ 0x81 ∷ 0x01 ∷ 0x01 ∷ []) ∷ (0x00 ∷ 0x81 ∷ 0x01 ∷ 0x01 ∷ []) ∷ (0x00 ∷ 0x81 ∷ 0x01 ∷ 0x01 ∷ []) ∷ (0x00 ∷ 0x81 ∷ 0x01 ∷ 0x01 ∷ []) ∷ []
unfolding seq distance_of named reading header_of control_of unnumbered_of supervisory_of after_all out notes lost price_of_all
fifty_polls_out = refl

-- A packet link with k 3 sends three I-frames of seven.
packet_window : length (out packet (frame_comes (0x40 ∷ 0x81 ∷ 0x7F ∷ []) ∷ offer ∷ replicate 7 (ask (Data (0x41 ∷ []))) ++ pulls 9) fresh)
    ≡ 4
unfolding seq distance_of named reading header_of control_of unnumbered_of supervisory_of after_all out notes lost price_of_all
packet_window = refl

call_window : length (out usual_terms (replicate 8 (ask (Data (0x41 ∷ []))) ++ pulls 9) up)
    ≡ 7
unfolding seq distance_of named reading header_of control_of unnumbered_of supervisory_of after_all out notes lost price_of_all
call_window = refl
