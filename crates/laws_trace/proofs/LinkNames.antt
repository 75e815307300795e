-- The links of the frames that begin.
use Rattle.laws_trace.proofs.Vocabulary.{◌≡◌, ℕ, ◌/◌, Bool, cond, not, List, map, filter, slice_index, Some, arith, eqb-false, Call, Packet, sapi_of, Parts, Config, Line, service_at, place_at, tei_at, eqb-true, IsSound, reads, Seen, frames_begun, is_ui, own_side, Sender, exchanged}

-- All that are no UI are of a link, by the address, whether command or response. It is named by its service.
pub record LinkName : Type 0 where
  pub sapi : ℕ
  pub tei : ℕ

abbrev pub named_in : ℕ → List ℕ → LinkName
named_in own octets = record { sapi = exchanged own (slice_index octets 0 / 4); tei = slice_index octets 1 / 2 }

abbrev pub is_of_a_link : Sender → List ℕ → Bool
is_of_a_link sender octets = not (reads sender (λ (f : Parts). is_ui f.control) octets)

abbrev pub links_begun : Config → List Seen → List LinkName
links_begun c t = map (named_in c.sapi) (filter (is_of_a_link (own_side c)) (frames_begun t))

abbrev pub named : ℕ → ℕ → LinkName
named number tei = record { sapi = sapi_of (service_at number); tei = tei }

module _ (c : Config) where
  -- One link has one name.
  by-sapi : (b d : Bool) → sapi_of (cond b Call Packet) ≡ sapi_of (cond d Call Packet) → b ≡ d
  by-sapi b d e = grind arith

  pub same-number : (l : Line) → IsSound c l → (n m tei other : ℕ) → tei_at (place_at n) l ≡ Some tei → tei_at (place_at m) l ≡ Some other → named n tei ≡ named m other → n ≡ m
  same-number l s n m tei other on on' e = grind (arith, by-sapi, eqb-true, eqb-false)
