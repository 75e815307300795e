-- What a card of octets hears is what stands in the octets that come; and what stands in those of whole frames and of faults is
-- what `Came` of `model_line` says of them.
use Rattle.std.specs.Prelude.{◌≡◌, ◌≢◌, ◌⊎◌, ℕ, ◌≤◌, ◌<◌, ◌+◌, ◌-◌, ◌%◌, Bool, true, false, List, [], ◌∷◌, ◌++◌, length, take, slice_index, All, Option, option_to_list}
use Rattle.model_bits.specs.Bits.{bits, flag}
use Rattle.model_bits.specs.Check.{check}
use Rattle.model_bits.specs.Sent.{frame_text}
use Rattle.model_bits.specs.Stuffing.{stuffed}
use Rattle.model_bits.specs.StuffingLaws.{AreOctets}
use Rattle.model_bits.specs.Stream.{Event, frame, overlong, dropped, heard_in}
use Rattle.model_bits.specs.declared.heard.Cause.{Cause}
use Rattle.model_bits.specs.declared.heard.Cause.TheVariants as cause
use Rattle.model_line.specs.Came.{came, cause_of}
use Rattle.model_line.specs.declared.config.Config.{Config}
use Rattle.model_line.specs.declared.faults.Fault.{Fault}
use Rattle.model_card.specs.ports.Card.{fresh}
use Rattle.model_card.specs.ports.Codec.{heard_at, octets_come}
use Rattle.model_card.specs.ports.Event as octets
use Rattle.model_card.specs.ports.Run.{meant_all}
use Rattle.model_card.specs.ports.Whole.{IsIdle, line_octets, fault_octets}

-- After some octets, these octets are heard as exactly this event, and leave the line idle.
pub record AreHeardAs (n201 : ℕ) (before octets : List ℕ) (event : Event) : Type 0 where
  pub heard : heard_in n201 (before ++ octets) ≡ heard_in n201 before ++ event ∷ []
  pub idle : IsIdle (before ++ octets)

-- A frame stands in a text, and ends with its last octet: its octets and their check, stuffed, between two flags.
pub record StandsIn (text : List Bool) (octets : List ℕ) : Type 0 where
  pub before : List Bool
  pub after : List Bool
  pub is : text ≡ before ++ (flag ++ (frame_text octets ++ (flag ++ after)))
  pub late : length after < 8

-- Bits stand in a text between two flags, of which the second ends with its last octet; and so do octets.
pub record IsBetween (text part : List Bool) : Type 0 where
  pub before : List Bool
  pub after : List Bool
  pub is : text ≡ before ++ (flag ++ (part ++ (flag ++ after)))
  pub late : length after < 8

pub record AreBetween (octets stretch : List ℕ) : Type 0 where
  pub are : AreOctets stretch
  pub some : 0 < length stretch
  pub between : IsBetween (bits octets) (stuffed (bits stretch))

-- Six contiguous 1s stand nowhere in bits.
abbrev pub HasNoSix : List Bool → Type 0
HasNoSix part = (front back : List Bool) → part ≢ front ++ (true ∷ true ∷ true ∷ true ∷ true ∷ true ∷ back)

-- Bits stand there after a flag, and then seven contiguous 1s, which end with its last octet (clause 2.10).
pub record IsAborted (text part : List Bool) : Type 0 where
  pub before : List Bool
  pub after : List Bool
  pub is : text ≡ before ++ (flag ++ (part ++ (false ∷ true ∷ true ∷ true ∷ true ∷ true ∷ true ∷ true ∷ after)))
  pub late : length after < 8
  pub few : HasNoSix part

-- One that is heard as too long stands there, too, of which the first four octets are told; and so do some bits that are dropped,
-- between two flags or as an abort gives them up.
abbrev pub IsGivenUp : List Bool → Cause → Type 0
IsGivenUp text cause.Abort = (part : List Bool) × IsAborted text part
IsGivenUp text other = (part : List Bool) × (0 < length part) × HasNoSix part × IsBetween text part

abbrev pub IsThere : List Bool → Event → Type 0
IsThere text (frame octets) = StandsIn text octets
IsThere text (overlong head) = (octets : List ℕ) × (head ≡ take 4 octets) × StandsIn text octets
IsThere text (dropped why) = IsGivenUp text why

-- One more octet brings one event at most, and what is heard ends with it.
pub record Brings (n201 : ℕ) (octets : List ℕ) (value : ℕ) : Type 0 where
  pub event : Option Event
  pub is : heard_in n201 (octets ++ value ∷ []) ≡ heard_in n201 octets ++ option_to_list event
  pub there : All (IsThere (bits (octets ++ value ∷ []))) (option_to_list event)

-- Octets are too few for a frame with its check: fewer than five; or five, of which the third begins a control field of two. Or
-- they are enough (clause 2.9). They end in no check; and bits are those of no octets that a sender makes.
abbrev pub AreFew : List ℕ → Type 0
AreFew octets = (length octets < 5) ⊎ ((length octets ≡ 5) × (slice_index octets 2 % 4 ≢ 3))

abbrev pub AreEnough : List ℕ → Type 0
AreEnough octets = (5 < length octets) ⊎ ((length octets ≡ 5) × (slice_index octets 2 % 4 ≡ 3))

abbrev pub HaveNoCheck : List ℕ → Type 0
HaveNoCheck octets = (frame : List ℕ) → bits octets ≢ bits frame ++ check (bits frame)

pub record IsRagged (part : List Bool) : Type 0 where
  pub some : 0 < length part
  pub few : HasNoSix part
  pub unsent : (octets : List ℕ) → part ≢ stuffed (bits octets)

-- The last of some octets brings this, after what the others brought.
abbrev pub IsHeardNow : ℕ → List ℕ → Event → Type 0
IsHeardNow n201 octets event = heard_in n201 octets ≡ heard_in n201 (take (length octets - 1) octets) ++ event ∷ []

-- What whole octets are heard as, without their check: a frame, if they are enough for one, and as many as there is room for.
pub record AreWhole (n201 : ℕ) (octets : List ℕ) : Type 0 where
  pub short : (length octets < 3) ⊎ ((length octets ≡ 3) × (slice_index octets 2 % 4 ≢ 3)) → came n201 octets ≡ dropped cause.Short
  pub long : n201 + 4 < length octets → 4 ≤ length octets → came n201 octets ≡ overlong (take 4 octets)
  pub whole : (4 ≤ length octets) ⊎ ((length octets ≡ 3) × (slice_index octets 2 % 4 ≡ 3)) → length octets ≤ n201 + 4 → came n201 octets ≡ frame octets

pub record FramesAreHeard : Type 0 where
  -- A card, from its start on: after any events, what its card of frames has heard at a line is exactly what stands in all
  -- octets that came there, whatever else happened, there or at other lines. As it holds after each event of a list, each
  -- is heard with the octet that ends it.
  pub card : (c : Config) (events : List octets.Event) (number : ℕ) → number < c.lines →
      heard_at number (meant_all (fresh c) events) ≡ heard_in c.n201 (octets_come number events)
  -- What stands in octets: each frame that is heard does, where it ends, and what is dropped; and each frame that does is heard there,
  -- so once, whatever came before it; and on an idle line each frame and each fault that stands there is heard as itself and nothing else.
  pub there : (n201 : ℕ) (octets : List ℕ) (value : ℕ) → Brings n201 octets value
  pub all : (n201 : ℕ) (octets frame : List ℕ) → AreOctets frame → StandsIn (bits octets) frame
      → IsHeardNow n201 octets (came n201 frame)
  pub whole : (n201 : ℕ) (octets : List ℕ) → AreWhole n201 octets
  pub begins : IsIdle []
  pub frames : (n201 : ℕ) (before octets : List ℕ) → IsIdle before → AreOctets octets →
      AreHeardAs n201 before (line_octets octets) (came n201 octets)
  pub faults : (n201 : ℕ) (before : List ℕ) (fault : Fault) → IsIdle before →
      AreHeardAs n201 before (fault_octets fault) (dropped (cause_of fault))
  -- Whatever came before it, what else stands between two flags is dropped, and told why: octets that are too few; those that end in
  -- no check; and bits of which a sender makes no octets.
  pub short : (n201 : ℕ) (octets stretch : List ℕ) → AreBetween octets stretch → AreFew stretch → IsHeardNow n201 octets (dropped cause.Short)
  pub fcs : (n201 : ℕ) (octets stretch : List ℕ) → AreBetween octets stretch → AreEnough stretch → HaveNoCheck stretch → IsHeardNow n201 octets (dropped cause.Fcs)
  pub ragged : (n201 : ℕ) (octets : List ℕ) (part : List Bool) → IsBetween (bits octets) part → IsRagged part → IsHeardNow n201 octets (dropped cause.Ragged)
  -- So is what seven contiguous 1s give up.
  pub abort : (n201 : ℕ) (octets : List ℕ) (part : List Bool) → IsAborted (bits octets) part → IsHeardNow n201 octets (dropped cause.Abort)
