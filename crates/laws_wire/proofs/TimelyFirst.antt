-- The ends as an establishment leaves them, and what changes nothing at a station or on a wire.
use Rattle.laws_wire.proofs.Vocabulary.{◌≡◌, ℕ, ◌≤◌, false, List, [], length, None, refl, sym, ap, subst, inl, inr, arith, All-nil, Service, Terms, given, IsInRange, LinkEndpoint, joined-first, Config, LineTold, request, next, Request, IsReady, IsTaken, Endpoint, Wire, happens, loses, acting, IsAsked, requested, with_link}
use Rattle.model_link.specs.Link.{most_rc}
use Rattle.laws_wire.proofs.Calling.{end, called, sound-called}
use Rattle.laws_wire.proofs.Loose.{Loose}
use Rattle.laws_wire.proofs.Held.{Held, held-given}
use Rattle.laws_wire.proofs.Ringing.{answered, Tries}
use Rattle.laws_wire.proofs.Up.{stays}
pub use Rattle.laws_wire.proofs.Answered.{lost-none, takes-none}
use Rattle.laws_wire.proofs.Simulated.{asked_of}
use Rattle.laws_wire.proofs.TimelyUp.{held-request}

-- ---- the ends

module _ (t u : Terms) (rt : IsInRange t) (ru : IsInRange u) (same : t.n201 ≡ u.n201) (k : Tries) (few : k.repeats ≤ most_rc t) where
  abbrev pub near_end : LinkEndpoint
  near_end = end t (answered k []) []

  abbrev pub far_end : LinkEndpoint
  far_end = end u called []

  pub loose-first : Loose near_end far_end
  loose-first = grind (arith, few, joined-first, sound-called, answered)

  pub near-ready : IsReady near_end
  near-ready = record { ranges = rt; sound = grind (arith, few); state = refl; peer_busy = refl; own_busy = refl; waiting = refl; way = refl }

  pub far-ready : IsReady far_end
  far-ready = record { ranges = ru; sound = sound-called u ru; state = refl; peer_busy = refl; own_busy = refl; waiting = refl; way = refl }

  pub there-taken : IsTaken near_end far_end
  there-taken = record { received = refl; delivered = refl; owed = λ some. absurd (omega (arith, some)); sizes = All-nil (λ octets. length octets ≤ u.n201) }

  pub back-taken : IsTaken far_end near_end
  back-taken = record { received = refl; delivered = refl; owed = λ some. absurd (omega (arith, some)); sizes = All-nil (λ octets. length octets ≤ t.n201) }

-- ---- what changes nothing

pub loses-none : (w : Wire) → w.near.way ≡ [] → acting loses w ≡ w
loses-none w e = λ i. record w { near = lost-none w.near e i }

module _ (service : Service) (tei : ℕ) (k : Config) (place : ℕ) (past : List LineTold) (s : Endpoint) (n : LinkEndpoint) (h : Held k service tei place past s n) where
  -- nor is any given
  pub gives-nothing : given n.terms n.link ≡ None → Held k service tei place past (happens next s) n
  gives-nothing none =
      let same = stays n none in
      subst (Held k service tei place past (happens next s)) same (held-given service tei place past k s n h (ap (λ (x : LinkEndpoint). x.link.contents) same))

  -- a request that the link refuses
  pub asks-still : (r : Request) → IsAsked service tei r → with_link (requested (asked_of r) false) n ≡ n → Held k service tei place past (happens (request r) s) n
  asks-still r is same =
      elim (held-request service tei k place past s n h r is) [
        | inl none ↦ subst (λ s. Held k service tei place past s n) (sym none) h
        | inr x ↦ subst (Held k service tei place past (happens (request r) s)) same x
      ]
