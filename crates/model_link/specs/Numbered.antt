-- Numbered deliveries: what is delivered since an establishment are the contents of the first eligible I-frame with
-- N(S) 0, of the first after it with N(S) 1, and so on modulo 128 (clauses 3.5.2.4 to 3.5.2.6).
use Rattle.std.specs.Prelude.{◌≡◌, ◌≢◌, ℕ, ◌+◌, ◌%◌, List, [], ◌∷◌, ◌++◌, length, All, option_to_list, if◌then◌else◌}
use Rattle.model_link.specs.declared.terms.Terms.{Terms}
use Rattle.model_link.specs.Link.{Link}
use Rattle.model_link.specs.Events.{Event}
use Rattle.model_link.specs.Machine.{after, told}
use Rattle.model_link.specs.Deliveries.{Arrived, eligible, restarts}

-- Of the eligible frames, the first one is the next to be delivered: none before it has its number.
pub record IsNext (i : ℕ) (frames : List Arrived) (front : List Arrived) (next : Arrived) (back : List Arrived) : Type 0 where
  pub parts : frames ≡ front ++ next ∷ back
  pub before : All (λ f. f.ns.value ≢ i % 128) front
  pub number : next.ns.value ≡ i % 128

-- Deliveries from number i on. After the last one's frame, no eligible frame has the next number.
abbrev pub Numbered : ℕ → List Arrived → List (List ℕ) → Type 0
Numbered i frames [] = All (λ f. f.ns.value ≢ i % 128) frames
Numbered i frames (contents ∷ more) =
    (front : List Arrived) × (next : Arrived) × (back : List Arrived)
    × IsNext i frames front next back × (next.contents ≡ contents) × Numbered (i + 1) back more

-- The eligible frames that came since the establishment, and what was delivered since.
pub record History : Type 0 where
  pub frames : List Arrived
  pub deliveries : List (List ℕ)

abbrev pub nothing_yet : History
nothing_yet = record { frames = []; deliveries = [] }

abbrev pub with_event : Terms → Event → Link → History → History
with_event t e l w =
    if restarts t e l then nothing_yet
    else record { frames = w.frames ++ option_to_list (eligible t e l); deliveries = w.deliveries ++ option_to_list (told t e l).delivered }

unfoldable pub with_all : Terms → List Event → Link → History → History
with_all t [] l w = w
with_all t (e ∷ es) l w = with_all t es (after t e l) (with_event t e l w)

-- V(R) counts what was delivered.
pub record IsNumbered (w : History) (l : Link) : Type 0 where
  pub numbered : Numbered 0 w.frames w.deliveries
  pub counted : l.r ≡ length w.deliveries
