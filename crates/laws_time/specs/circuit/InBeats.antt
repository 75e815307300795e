-- How many beats a call without noise takes, as long as no timer falls due in it; and with which timers none does.
use Rattle.std.specs.Prelude.{◌≡◌, ◌≤◌, ◌<◌, ℕ, ◌+◌, ◌-◌, ◌*◌, ◌/◌, false, List, [], ◌∷◌, ◌++◌, length, map, replicate, drop, All, ◌⊎◌, None, Some}
use Rattle.lapd_clock.specs.Timer.{AreInRange, T203}
use Rattle.lapd_clock.specs.Timers.{Expiry}
use Rattle.model_bits.specs.Stream as stream
use Rattle.model_bits.specs.StuffingLaws.{AreOctets}
use Rattle.model_line.specs.Request.{Request, Data}
use Rattle.model_timed.specs.Clock.{due}
use Rattle.model_card.specs.ports.Codec.{frames_among}
use Rattle.laws_wire.specs.Call.{CanCall, confirmed, indicated, data_told}
use Rattle.laws_wire.specs.Facing.{Face, most_turns}
use Rattle.laws_wire.specs.Wire.{Endpoint as FrameEndpoint}
use Rattle.laws_order.specs.circuit.Circuit.{port_of}
use Rattle.laws_order.specs.circuit.Beats.{enough_beats, longest}
use Rattle.laws_time.specs.circuit.Clocked.{TimedEndpoint, Clocked, Beat, plain, beat, after, clean}
use Rattle.laws_time.specs.circuit.LongEnough.{Line, IsTalk, asked, begins}
use Rattle.laws_time.specs.circuit.Answered.{IsClean}
use Rattle.laws_time.specs.circuit.Arriving.{calls}

-- Layer 3 of either end asks to send octets.
abbrev pub IsDataOf : Line → Request → Type 0
IsDataOf l (Data s t contents) = (s ≡ l.service) × (t ≡ l.tei) × AreOctets contents
IsDataOf l other = ⊥

abbrev pub AsksData : Line → Beat → Type 0
AsksData l b = All (IsDataOf l) b.near_asks × All (IsDataOf l) b.far_asks

-- No timer falls due at an end in a beat; and in none of these beats at either end.
abbrev pub IsUndue : ℕ → List Request → TimedEndpoint → Type 0
IsUndue moment rs s = due (asked moment rs s).clock ≡ None

unfoldable pub NoneFallsDue : ℕ → List Beat → Clocked → Type 0
NoneFallsDue rate [] w = Unit {0}
NoneFallsDue rate (b ∷ bs) w =
    IsUndue (w.beats / rate) b.near_asks w.near × IsUndue (w.beats / rate) b.far_asks w.far × NoneFallsDue rate bs (beat rate w b)

-- What was granted in the whole call; and each end was told one establishment, and then all data that the other was granted to send.
abbrev pub granted_in : Clocked → ℕ
granted_in w = length w.near.at.granted + length w.far.at.granted

pub record IsToldAll (l : Line) (w : Clocked) : Type 0 where
  pub near : w.near.at.told ≡ confirmed l.service l.tei ∷ map (data_told l.service l.tei) w.far.at.granted
  pub far : w.far.at.told ≡ indicated l.service l.tei ∷ map (data_told l.service l.tei) w.near.at.granted

-- A call without noise, in whose first beat layer 3 of the near end asks for the establishment. After the last request so many beats are
-- enough: (2 + 2 u) (2 L + D).
abbrev pub ACallTakesBeats : Type 0
ACallTakesBeats =
    (l : Line) (b : Beat) (bs : List Beat) (n : ℕ) → CanCall l.near l.near_line l.far l.far_line l.tei → All (AsksData l) (b ∷ bs) → All IsClean (b ∷ bs) →
    NoneFallsDue l.rate (calls l b ∷ bs ++ replicate n plain) (begins l) →
    let w = after l.rate (calls l b ∷ bs) (begins l) in enough_beats l.near.n201 l.way false (granted_in w) ≤ n → IsToldAll l (clean l.rate n w)

-- Each frame that was put on its line by an end has at most so many octets of information. (Address and control field have at most four.)
abbrev pub AreShort : ℕ → TimedEndpoint → Type 0
AreShort m s = All (λ octets. length octets ≤ m + 4) (frames_among (port_of s.at).items)

-- If the frames that went by then are so short, L is the longest of them, and one frame more is counted: (3 + 2 u) (2 L + D).
abbrev pub AShortCallTakesBeats : Type 0
AShortCallTakesBeats =
    (l : Line) (b : Beat) (bs : List Beat) (n m : ℕ) → CanCall l.near l.near_line l.far l.far_line l.tei → All (AsksData l) (b ∷ bs) → All IsClean (b ∷ bs) →
    NoneFallsDue l.rate (calls l b ∷ bs ++ replicate n plain) (begins l) →
    let w = after l.rate (calls l b ∷ bs) (begins l) in let last = clean l.rate n w in AreShort m last.near → AreShort m last.far →
    (3 + 2 * granted_in w) * (longest m + (longest m + l.way)) ≤ n → IsToldAll l last

-- An end as one of frames, with none in transit. It has nothing left if each frame that it put on its line was received whole, no
-- contents are unsent, and it owes no acknowledgement.
abbrev pub as_frames : TimedEndpoint → FrameEndpoint
as_frames s = record { card = s.at.card.card; line = s.at.line; way = []; granted = s.at.granted; told = s.at.told }

pub record HasNoneLeft (l : Line) (s other : TimedEndpoint) : Type 0 where
  pub received : map (λ octets. stream.frame octets) (frames_among (port_of s.at).items) ≡ stream.heard_in l.near.n201 (port_of other.at).received
  pub sent : most_turns l.service l.tei (as_frames s) ≡ 0

-- The link rests: at both ends `Card::state` tells 7 of it, neither side is busy, and nothing is left.
pub record IsAtRest (l : Line) (w : Clocked) : Type 0 where
  pub face : Face l.service l.tei (record { near = as_frames w.near; far = as_frames w.far })
  pub near : HasNoneLeft l w.near w.far
  pub far : HasNoneLeft l w.far w.near

-- Since then each end was told all data that the other was granted to send, and nothing else.
pub record IsToldSince (l : Line) (before now : Clocked) : Type 0 where
  pub near : now.near.at.told ≡ before.near.at.told ++ map (data_told l.service l.tei) (drop (length before.far.at.granted) now.far.at.granted)
  pub far : now.far.at.told ≡ before.far.at.told ++ map (data_told l.service l.tei) (drop (length before.near.at.granted) now.near.at.granted)

-- Without noise anything of the link was asked for, and timers fell due, up to a beat after which the link rests. From there on data alone is
-- asked for, and none falls due: after the last request 2 u (2 L + D) beats are enough, for what was granted since.
pub record Begins (l : Line) : Type 0 where
  pub call : CanCall l.near l.near_line l.far l.far_line l.tei
  pub some : 1 ≤ l.rate
  pub lengths : AreInRange l.lengths × AreInRange l.far_lengths

abbrev pub MessagesTakeBeats : Type 0
MessagesTakeBeats =
    (l : Line) (b : Beat) (before bs : List Beat) (n : ℕ) → Begins l → All (IsTalk l) (b ∷ before) → All (AsksData l) bs → All IsClean (b ∷ before) → All IsClean bs →
    let r = after l.rate (b ∷ before) (begins l) in IsAtRest l r → NoneFallsDue l.rate (bs ++ replicate n plain) r →
    let w = after l.rate bs r in let longest_frame = longest l.near.n201 in
    2 * (granted_in w - granted_in r) * (longest_frame + (longest_frame + l.way)) ≤ n → IsToldSince l r (clean l.rate n w)

-- The same with the longest frame that went by then, and one frame more.
abbrev pub ShortMessagesTakeBeats : Type 0
ShortMessagesTakeBeats =
    (l : Line) (b : Beat) (before bs : List Beat) (n m : ℕ) → Begins l → All (IsTalk l) (b ∷ before) → All (AsksData l) bs → All IsClean (b ∷ before) → All IsClean bs →
    let r = after l.rate (b ∷ before) (begins l) in IsAtRest l r → NoneFallsDue l.rate (bs ++ replicate n plain) r →
    let w = after l.rate bs r in let last = clean l.rate n w in AreShort m last.near → AreShort m last.far →
    (1 + 2 * (granted_in w - granted_in r)) * (longest m + (longest m + l.way)) ≤ n → IsToldSince l r last

-- Each frame that was put on its line by an end stands in what the other has received, in order, before anything else.
abbrev pub HasReceived : Line → TimedEndpoint → TimedEndpoint → Type 0
HasReceived l s other =
    (more : List stream.Event) × (stream.heard_in l.near.n201 (port_of other.at).received ≡ map (λ octets. stream.frame octets) (frames_among (port_of s.at).items) ++ more)

-- Without noise it is so L + D beats later, whatever is asked for and whichever timers fall due, if L is the longest of these frames.
abbrev pub FramesComeInBeats : Type 0
FramesComeInBeats =
    (l : Line) (b : Beat) (before bs : List Beat) (m : ℕ) → Begins l → All (IsTalk l) (b ∷ before) → All (IsTalk l) bs → All IsClean (b ∷ before) → All IsClean bs →
    longest m + l.way ≤ length bs → let w = after l.rate (b ∷ before) (begins l) in let u = after l.rate bs w in AreShort m w.near → AreShort m w.far →
    HasReceived l w.near u.far × HasReceived l w.far u.near

-- No noise, and layer 3 asks to send octets alone. T200 of each end runs for more than 3 L + 2 D octet times and a
-- millisecond, as moments are whole.
pub record IsCalm (l : Line) (bs : List Beat) : Type 0 where
  pub begins : Begins l
  pub data_alone : All (AsksData l) bs
  pub are_clean : All IsClean bs
  pub t200 : (3 * longest l.near.n201 + 2 * l.way + l.rate < l.lengths.t200 * l.rate) × (3 * longest l.near.n201 + 2 * l.way + l.rate < l.far_lengths.t200 * l.rate)

-- T203 of each end runs as long as such a call, and so many octet times more.
pub record RunsThrough (l : Line) (b : Beat) (bs : List Beat) (n : ℕ) : Type 0 where
  pub calm : IsCalm l (b ∷ bs)
  pub t203 : (length (b ∷ bs) + n ≤ l.lengths.t203 * l.rate) × (length (b ∷ bs) + n ≤ l.far_lengths.t203 * l.rate)

-- Then no timer falls due until then, and all is told in so many beats.
abbrev pub ACallComesInTime : Type 0
ACallComesInTime =
    (l : Line) (b : Beat) (bs : List Beat) (n : ℕ) → RunsThrough l b bs n → let w = after l.rate (calls l b ∷ bs) (begins l) in
    NoneFallsDue l.rate (calls l b ∷ bs ++ replicate n plain) (begins l) × (enough_beats l.near.n201 l.way false (granted_in w) ≤ n → IsToldAll l (clean l.rate n w))

-- What is the first that falls due at an end: it does so in the beat after these.
pub record FallsDueFirst (l : Line) (bs : List Beat) (from : Clocked) (c : Beat) (x : Expiry) : Type 0 where
  pub before : NoneFallsDue l.rate bs from
  pub now : let w = after l.rate bs from in let moment = w.beats / l.rate in
      (due (asked moment c.near_asks w.near).clock ≡ Some x) ⊎ (due (asked moment c.far_asks w.far).clock ≡ Some x)

-- However long T203 runs, that is T203.
abbrev pub T203FallsDueFirst : Type 0
T203FallsDueFirst = (l : Line) (b c : Beat) (bs : List Beat) (x : Expiry) → IsCalm l (b ∷ bs ++ c ∷ []) → FallsDueFirst l (calls l b ∷ bs) (begins l) c x → x.timer ≡ T203 l.service l.tei

-- The same from a link at rest.
pub record IsCalmSince (l : Line) (b : Beat) (before bs : List Beat) : Type 0 where
  pub calm : IsCalm l bs
  pub talk : All (IsTalk l) (b ∷ before)
  pub clean_before : All IsClean (b ∷ before)
  pub rest : IsAtRest l (after l.rate (b ∷ before) (begins l))

-- T203 runs at each end then. No timer that runs falls due until so many octet times after the last request.
pub record RunsOn (l : Line) (b : Beat) (before bs : List Beat) (n : ℕ) : Type 0 where
  pub calm : IsCalmSince l b before bs
  pub t203 : let r = after l.rate (b ∷ before) (begins l) in
      All (λ x. r.beats + (length bs + n) ≤ x.moment * l.rate) r.near.clock.running × All (λ x. r.beats + (length bs + n) ≤ x.moment * l.rate) r.far.clock.running

abbrev pub MessagesComeInTime : Type 0
MessagesComeInTime =
    (l : Line) (b : Beat) (before bs : List Beat) (n : ℕ) → RunsOn l b before bs n → let r = after l.rate (b ∷ before) (begins l) in
    let w = after l.rate bs r in let longest_frame = longest l.near.n201 in
    NoneFallsDue l.rate (bs ++ replicate n plain) r
    × (2 * (granted_in w - granted_in r) * (longest_frame + (longest_frame + l.way)) ≤ n → IsToldSince l r (clean l.rate n w))

abbrev pub T203FallsDueFirstSince : Type 0
T203FallsDueFirstSince =
    (l : Line) (b c : Beat) (before bs : List Beat) (x : Expiry) → IsCalmSince l b before (bs ++ c ∷ []) → let r = after l.rate (b ∷ before) (begins l) in
    FallsDueFirst l bs r c x → x.timer ≡ T203 l.service l.tei
