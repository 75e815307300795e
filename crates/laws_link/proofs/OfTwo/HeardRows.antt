-- What each frame does to a link that stays in states 7 and 8.
use Rattle.laws_link.proofs.Vocabulary.{◌≡◌, ℕ, Bool, true, false, IsTrue, List, refl, sym, true≢false, Control, Information, ReceiveReady, ReceiveNotReady, Reject, State, Established, TimerRecovery, T200, T203, Terms, Link, is_multiple_frame, Course, begun, acknowledge, acknowledged_by_information_in_7, acknowledged_by_rnr_in_7, acknowledged_in_7, frame_in_7, acknowledged_in_8, frame_in_8, arith}
use Rattle.laws_link.proofs.Vocabulary.{with_counted, with_reject_received, frame_in, frame_step}
use Rattle.laws_link.proofs.OfTwo.Trains.{kind_of}
use Rattle.laws_link.proofs.OfTwo.Effects.{is_recovering, Kept, Heard, acknowledged-7, information-7, c-7, c-8, enquired-7, enquired-8, kept-by, backs-7, backs-8, informs}

abbrev IsUpIn : Course → Type 0
IsUpIn c = IsTrue (is_multiple_frame c.link.state)

rnr-7 : (c : Course) (n : ℕ) → Kept c.link (acknowledged_by_rnr_in_7 n c).link
rnr-7 c n = record { state = refl; s = refl; r = refl; rejecting = refl; waiting = refl }

acknowledged-8 : (c : Course) (n : ℕ) → Kept c.link (acknowledge n c).link
acknowledged-8 c n = record { state = refl; s = refl; r = refl; rejecting = refl; waiting = refl }

-- the link that has counted a REJ
abbrev counted : Link → Link
counted l = with_counted with_reject_received l

module _ (t : Terms) (l : Link) where
  as-it-was : (busy : Bool) → Kept l (c-7 t l busy true false).link
  as-it-was busy = record { state = refl; s = refl; r = refl; rejecting = refl; waiting = refl }

  heard-7 : l.state ≡ Established → (b : Bool) (octets : List ℕ) (control : Control) → IsUpIn (frame_in_7 t b octets control (begun l))
      → Heard (kind_of b control) false l (frame_in_7 t b octets control (begun l)).link
  heard-7 here b octets (Information ns nr false) up = informs t l ns nr octets acknowledged_by_information_in_7 information-7 up
  heard-7 here true octets (ReceiveReady nr true) up = enquired-7 t l false nr acknowledged_in_7 acknowledged-7 up
  heard-7 here true octets (ReceiveReady nr false) up = kept-by t l nr acknowledged_in_7 (c-7 t l false true false) (as-it-was false) acknowledged-7 up
  heard-7 here false octets (ReceiveReady nr true) up = kept-by t l nr acknowledged_in_7 (c-7 t l false false true) (as-it-was false) acknowledged-7 up
  heard-7 here false octets (ReceiveReady nr false) up = kept-by t l nr acknowledged_in_7 (c-7 t l false false false) (as-it-was false) acknowledged-7 up
  heard-7 here true octets (ReceiveNotReady nr true) up = enquired-7 t l true nr acknowledged_by_rnr_in_7 rnr-7 up
  heard-7 here true octets (ReceiveNotReady nr false) up = kept-by t l nr acknowledged_by_rnr_in_7 (c-7 t l true true false) (as-it-was true) rnr-7 up
  heard-7 here false octets (ReceiveNotReady nr true) up = kept-by t l nr acknowledged_by_rnr_in_7 (c-7 t l true false true) (as-it-was true) rnr-7 up
  heard-7 here false octets (ReceiveNotReady nr false) up = kept-by t l nr acknowledged_by_rnr_in_7 (c-7 t l true false false) (as-it-was true) rnr-7 up
  heard-7 here true octets (Reject nr pf) up = tt
  heard-7 here false octets (Reject nr true) up = tt
  heard-7 here false octets (Reject nr false) up = grind (arith, backs-7)
  heard-7 here b octets other up = tt

  heard-8 : (b : Bool) (octets : List ℕ) (control : Control) → IsUpIn (frame_in_8 t b octets control (begun l))
      → Heard (kind_of b control) true l (frame_in_8 t b octets control (begun l)).link
  heard-8 b octets (Information ns nr false) up = informs t l ns nr octets acknowledge acknowledged-8 up
  heard-8 true octets (ReceiveReady nr true) up = enquired-8 t l false nr (acknowledged_in_8 T203 false) acknowledged-8 up
  heard-8 true octets (ReceiveReady nr false) up = kept-by t l nr (acknowledged_in_8 T203 false) (c-8 t l false true false) (as-it-was false) acknowledged-8 up
  heard-8 false octets (ReceiveReady nr true) up = backs-8 t l false T203 nr up
  heard-8 false octets (ReceiveReady nr false) up = kept-by t l nr (acknowledged_in_8 T203 false) (c-8 t l false false false) (as-it-was false) acknowledged-8 up
  heard-8 true octets (ReceiveNotReady nr true) up = enquired-8 t l true nr (acknowledged_in_8 T200 false) acknowledged-8 up
  heard-8 true octets (ReceiveNotReady nr false) up = kept-by t l nr (acknowledged_in_8 T200 false) (c-8 t l true true false) (as-it-was true) acknowledged-8 up
  heard-8 false octets (ReceiveNotReady nr true) up = backs-8 t l true T200 nr up
  heard-8 false octets (ReceiveNotReady nr false) up = kept-by t l nr (acknowledged_in_8 T200 false) (c-8 t l true false false) (as-it-was true) acknowledged-8 up
  heard-8 true octets (Reject nr pf) up = tt
  heard-8 false octets (Reject nr true) up = tt
  heard-8 false octets (Reject nr false) up = kept-by t l nr (acknowledged_in_8 T203 false) (c-8 t (counted l) false false false) (record { state = refl; s = refl; r = refl; rejecting = refl; waiting = refl }) acknowledged-8 up
  heard-8 b octets other up = tt

  heard-in : (here : State) → l.state ≡ here → IsTrue (is_multiple_frame here) → (b : Bool) (octets : List ℕ) (control : Control)
      → IsUpIn (frame_in here t b octets control (begun l)) → Heard (kind_of b control) (is_recovering here) l (frame_in here t b octets control (begun l)).link
  heard-in Established e before b octets control up = heard-7 e b octets control up
  heard-in TimerRecovery e before b octets control up = heard-8 b octets control up
  heard-in other e before b octets control up = absurd (true≢false (sym before))

  pub heard : IsTrue (is_multiple_frame l.state) → (b : Bool) (octets : List ℕ) (control : Control)
      → IsUpIn (frame_step t b octets control (begun l)) → Heard (kind_of b control) (is_recovering l.state) l (frame_step t b octets control (begun l)).link
  heard before b octets control up = heard-in l.state refl before b octets control up
