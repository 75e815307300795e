-- What a link gives to be sent.
use Rattle.std.specs.Prelude.{◌≡◌, ℕ, ◌%◌, Bool, false, List, slice_get, Option, None, Some, if◌then◌else◌}
use Rattle.std.specs.Option.{option_map_or}
use Rattle.lapd_seq.specs.declared.numbers.Seq.{Seq}
use Rattle.lapd_frame.specs.declared.controls.Control.{Control}
use Rattle.lapd_frame.specs.declared.controls.Control.TheVariants.{Information}
use Rattle.model_link.specs.declared.terms.Terms.{Terms}
use Rattle.model_link.specs.declared.frames.ControlFrame.{ControlFrame}
use Rattle.model_link.specs.Link.{Link}
use Rattle.model_link.specs.Events.{Event, offer}
use Rattle.model_link.specs.Machine.{given}
use Rattle.model_link.specs.Sound.{is_information}
use Rattle.model_link.specs.Told.{Given}

-- The N(S) of an I-frame.
abbrev pub number_sent : Control → Option Seq
number_sent (Information ns nr p) = Some ns
number_sent other = None

-- A frame carries contents number j of a list where it is an I-frame, its information is these contents, and N(S) is j
-- modulo 128 (Q.921 clauses 3.5.2.1 and 3.5.2.4). No other frame of a link carries contents.
pub record Carries (all : List (List ℕ)) (j : ℕ) (ns : Seq) (contents : Option (List ℕ)) : Type 0 where
  pub information : List ℕ
  pub is : contents ≡ Some information
  pub among : slice_get all j ≡ Some information
  pub number : ns.value ≡ j % 128

abbrev pub IsOffered : List (List ℕ) → ℕ → ControlFrame → Option (List ℕ) → Type 0
IsOffered all j f contents =
    elim (number_sent f.control) as (λ o. Type 0) [ None ↦ contents ≡ None | Some ns ↦ Carries all j ns contents ]

abbrev pub is_i_frame : Given → Bool
is_i_frame g = is_information g.frame.control

-- How many I-frames an event gives.
abbrev pub i_frames : Terms → Event → Link → ℕ
i_frames t offer l = if option_map_or is_i_frame (given t l) false then 1 else 0
i_frames t other l = 0
