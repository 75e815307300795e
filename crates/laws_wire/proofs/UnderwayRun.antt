-- A call from nothing, in which nothing is lost any more from some time on.
use Rattle.laws_wire.proofs.Vocabulary.{◌≡◌, ℕ, true, false, [], ◌∷◌, ◌⊎◌, inl, inr, Service, Config, Wire, turned, doing_all, IsStill, calling, confirmed, indicated, all_told, heard_in, runs_t200, near_asks, far_asks, ever, ArrivesUnderTraffic}
use Rattle.laws_wire.proofs.LossyRun.{setting}
use Rattle.laws_wire.proofs.TimelyRun.{are-up, on-time}
use Rattle.laws_wire.proofs.FirmUp.{AreUp, turned-up}
use Rattle.laws_wire.proofs.Underway.{SureUp, sure-runs, has-come}

module _ (service : Service) (tei : ℕ) (c d : Config) (p q : ℕ) where
  abbrev Up : Type 0 → Type 0 → Wire → Type 0
  Up A B w = SureUp service tei c d p q (confirmed service tei ∷ []) (indicated service tei ∷ []) A B w

  begins : (w : Wire) → AreUp service tei c d p q (confirmed service tei ∷ []) (indicated service tei ∷ []) w → Up ⊥ ⊥ w
  begins w h = record { n = h.n; m = h.m; up = h.up; there = λ no. absurd no; back = λ no. absurd no }

  abbrev Asked : Type 0 → Type 0
  Asked A = ⊥ ⊎ A

  comes : (A B : Type 0) (last : Wire) → Up (Asked A) (Asked B) last → IsStill last
      → (A ⊎ (runs_t200 service tei last.near ≡ false) → heard_in last.far ≡ all_told service tei (indicated service tei) last.near)
      × (B ⊎ (runs_t200 service tei last.far ≡ false) → heard_in last.near ≡ all_told service tei (confirmed service tei) last.far)
  comes A B last h still =
      let first = confirmed service tei ∷ [] in
      let second = indicated service tei ∷ [] in (
        λ o. has-come service tei c d p q first second last h.n h.m h.up still (elim o [ inl a ↦ inl (h.there (inr a)) | inr none ↦ inr none ]),
        λ o.
            has-come service tei d c q p second first (turned last) h.m h.n (turned-up service tei c d p q first second last h.n h.m h.up)
            (record { near = still.far; far = still.near; near_way = still.far_way; far_way = still.near_way }) (elim o [ inl b ↦ inl (h.back (inr b)) | inr none ↦ inr none ]),
      )

pub arrives-under-traffic : ArrivesUnderTraffic
arrives-under-traffic service c d line other tei before since (can, wide_c, wide_d, talk, timely, on) = λ still.
    let x = setting service c d line other tei can in
    let w = doing_all before (calling service tei c line d other) in
    let up = are-up service tei c d 0 0 x.face x.back x.near x.far w (on-time service c d line other tei before can talk timely) on.0 in
    let h = sure-runs service tei c d 0 0 x.face x.back wide_c wide_d ⊥ ⊥ since w on.1 on.2 on.3 (begins service tei c d 0 0 w up) in
    let both = comes service tei c d 0 0 (ever (near_asks service tei) since w ≡ true) (ever (far_asks service tei) since w ≡ true) (doing_all since w) h still in
    record { near = both.0; far = both.1 }
