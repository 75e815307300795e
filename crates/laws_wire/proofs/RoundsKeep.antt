-- What is so of two stations and of two ends, and stays so whichever station gives or takes, is so round after round.
use Rattle.laws_wire.proofs.Vocabulary.{ℕ, zero, suc, Ends, Wire, sends, receives, acting, turned, doing_all, round, rounds, link_receives, two_ends_doing, two_ends_at_near, link_sends, two_links_rounds, two_links_round}

abbrev turned_ends : Ends → Ends
turned_ends e = record { near = e.far; far = e.near }

abbrev pub Turns : (Wire → Ends → Type 0) → (Wire → Ends → Type 0) → Type 0
Turns A B = (w : Wire) (e : Ends) → A w e → B (turned w) (turned_ends e)

abbrev pub Gives : (Wire → Ends → Type 0) → Type 0
Gives A = (w : Wire) (e : Ends) → A w e → A (acting sends w) (two_ends_doing (two_ends_at_near link_sends) e)

abbrev pub Takes : (Wire → Ends → Type 0) → Type 0
Takes A = (w : Wire) (e : Ends) → A w e → A (acting receives w) (two_ends_doing (two_ends_at_near link_receives) e)

-- with the far station in the near one's place: B
module _ (A B : Wire → Ends → Type 0) (there : Turns A B) (back : Turns B A) (near-gives : Gives A) (far-gives : Gives B) (near-takes : Takes A) (far-takes : Takes B) where
  round-keeps : (w : Wire) (e : Ends) → A w e → A (doing_all round w) (two_links_round e)
  unfolding doing_all
  round-keeps w e h =
      let w1 = turned (acting sends w) in
      let e1 = turned_ends (two_ends_doing (two_ends_at_near link_sends) e) in
      let w2 = acting receives w1 in
      let e2 = two_ends_doing (two_ends_at_near link_receives) e1 in
      let h2 : B w2 e2 = far-takes w1 e1 (there (acting sends w) (turned_ends e1) (near-gives w e h)) in
      let w3 = acting sends w2 in
      let e3 = two_ends_doing (two_ends_at_near link_sends) e2 in
      near-takes (turned w3) (turned_ends e3) (back w3 e3 (far-gives w2 e2 h2))

  pub rounds-keep : (k : ℕ) (w : Wire) (e : Ends) → A w e → A (rounds k w) (two_links_rounds k e)
  unfolding rounds two_links_rounds
  rounds-keep zero w e h = h
  rounds-keep (suc k) w e h = rounds-keep k (doing_all round w) (two_links_round e) (round-keeps w e h)
