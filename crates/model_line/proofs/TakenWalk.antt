-- What holds of each frame that can be taken holds of the one that is.
use Rattle.model_line.proofs.Vocabulary.{◌≡◌, ℕ, zero, suc, ◌+◌, ◌≤◌, ◌<◌, List, [], ◌∷◌, take, drop, Option, Some, None, option_map, IfSome, arith, All, range_with_len, option_or, All-nil, All-cons, All-head, All-tail, All-drop, All-take, All-append, Given, Management, IsAt, Config, Line, Own, UnitData, link_count, service_at, place_at, terms, link_at, Taken, with_unit}
use Rattle.model_line.proofs.Vocabulary.{with_given_frame, link_taken, first_taken, round, taken, line_of, option_map_or, IsSound, given}
use Rattle.model_link.specs.Sound as link_sound
use Rattle.model_line.proofs.Outgoing.{GoesOut, without_message, message_walk}
use Rattle.model_line.proofs.SoundParts.{any_link}

range_below : (a n top : ℕ) → a + n ≤ top → All (λ x. x < top) (range_with_len a n)
range_below a zero top h = All-nil (λ x. x < top)
range_below a (suc n) top h = All-cons (λ x. x < top) a (range_with_len (a + 1) n) (omega (arith, h)) (range_below (a + 1) n top (omega (arith, h)))

-- the links in the order of their turns
pub round_below : (c : Config) (l : Line) → All (λ n. n < link_count c) (round c l)
round_below c l =
    let all = range_below 0 (link_count c) (link_count c) (omega arith) in
    let numbers = range_with_len 0 (link_count c) in
    All-append (λ n. n < link_count c) (drop l.turn numbers) (take l.turn numbers)
    (All-drop (λ n. n < link_count c) l.turn numbers all) (All-take (λ n. n < link_count c) l.turn numbers all)

mapped : {X Y : Type 0} (f : X → Y) (P : Y → Type 0) (o : Option X) → ((x : X) → o ≡ Some x → P (f x)) → IfSome (option_map f o) P
mapped f P o h = grind arith

pub either : (P : Taken → Type 0) (o rest : Option Taken) → IfSome o P → IfSome rest P → IfSome (option_or o rest) P
either P o rest h h' = grind arith

-- A message of TEI management, unit data, or a frame of a link that has a TEI.
module _ (c : Config) (l : Line) (s : IsSound c l) (P : Taken → Type 0)
    (message : (octets : List ℕ) (m : Management) (own : Own) → GoesOut c l octets m own → P (without_message l octets m own))
    (unit : (u : UnitData) (us : List UnitData) → l.units ≡ u ∷ us → P (with_unit c l u))
    (by_link : (n tei : ℕ) → n < link_count c → IsAt l.management.places (place_at n) tei → link_sound.IsSound (terms c (service_at n) tei) (link_at n l)
    → (g : Given) → given (terms c (service_at n) tei) (link_at n l) ≡ Some g → P (with_given_frame c l n (terms c (service_at n) tei) g)) where
  pub link_walk : (n : ℕ) → n < link_count c → IfSome (link_taken c l n) P
  link_walk n few = grind (arith, any_link, option_map, mapped)

  first_walk : (ns : List ℕ) → All (λ n. n < link_count c) ns → IfSome (first_taken c l ns) P
  first_walk [] all = tt
  first_walk (n ∷ ns) all =
      either P (link_taken c l n) (first_taken c l ns) (link_walk n (All-head (λ n. n < link_count c) n ns all))
      (first_walk ns (All-tail (λ n. n < link_count c) n ns all))

  pub taken_walk : IfSome (taken c l) P
  taken_walk = grind (arith, either, message_walk, first_walk, round_below)

-- So the line after it is as it was, or what was taken is gone.
pub next_walk : (c : Config) (l : Line) (P : Taken → Type 0) (Q : Option Taken → Line → Type 0) → IfSome (taken c l) P
    → Q None l → ((t : Taken) → P t → Q (Some t) t.line) → Q (taken c l) (option_map_or line_of (taken c l) l)
next_walk c l P Q h rests takes = grind arith
