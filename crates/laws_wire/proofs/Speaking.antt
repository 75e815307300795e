-- What layer 3 is told by an event of a link.
use Rattle.laws_wire.proofs.Vocabulary.{◌≡◌, ℕ, ◌+◌, ◌≤◌, List, [], ◌∷◌, length, map, Some, sym, subst, eq-eqb, arith, All, slice_get, option_to_list, if◌then◌else◌, option_or, le-ltb, seq, named, Parts, Terms, Link, received, course, LinkEndpoint, unserved_cause, LineTold, named-number, fits-at, Informs, Lane, lane-low, lane-order, Steady, is-steady, unwrap_or, frame, Course, Direction}
use Rattle.laws_wire.proofs.Vocabulary.{tells_nothing, data_told}

-- what a course tells, but orders and what it gives up
abbrev pub heard_by : Course → LineTold
heard_by c = record { notes = c.notes; contents = option_or c.delivered c.unit; cause = unserved_cause c.unserved; orders = []; lost = c.lost; given_up = 0; given_up_16 = 0 }

abbrev pub said_by : Course → List LineTold
said_by c = if tells_nothing (heard_by c) then [] else heard_by c ∷ []

-- of what is delivered its layer 3 is told, and of nothing else
abbrev pub TellsData : Terms → Course → Type 0
TellsData t c = said_by c ≡ map (data_told t.service t.tei) (option_to_list c.delivered)

module _ (n m : LinkEndpoint) (hn : Steady n) (hm : Steady m) (there : Direction n m) (back : Direction m n) where
  names : (v : ℕ) → m.link.a ≤ v → v ≤ n.link.r → named m.link.a m.link.s (seq v) ≡ Some v
  names v low up = grind (arith, named-number, lane-order)

  abbrev Tells : Parts → Link → Type 0
  Tells f l = TellsData m.terms (course m.terms (received (frame f)) l)

  tells-i : (f : Parts) (fs : List Parts) (v : ℕ) → m.link.a ≤ v → (here : Informs n.terms n.link.contents m.link.r v f)
      → Lane n.terms n.link.contents (m.link.r + 1) n.link.s v n.link.r n.link.pending fs → Tells f m.link
  tells-i f fs v low here rest =
      let l = here.l in
      let octets = unwrap_or (slice_get l.contents l.s) [] in
      let up : v ≤ n.link.r = lane-low n.terms n.link.contents (m.link.r + 1) n.link.s v n.link.r n.link.pending fs rest in
      let named-v : named m.link.a m.link.s (seq l.r) ≡ Some v = subst (λ w. named m.link.a m.link.s (seq w) ≡ Some v) (sym here.means) (names v low up) in
      let fits = le-ltb m.terms.n201 (length octets) (fits-at m.terms.n201 l.contents l.s (subst (λ cs. All (λ octets. length octets ≤ m.terms.n201) cs) (sym here.contents) there.sizes)) in
      grind (arith, eq-eqb, is-steady)

  pub tells-data : (f : Parts) (fs : List Parts) → n.way ≡ f ∷ fs → Tells f m.link
  tells-data f fs e = go (subst (λ way. Lane n.terms n.link.contents m.link.r n.link.s m.link.a n.link.r n.link.pending way) e there.lane)
    where
      go : Lane n.terms n.link.contents m.link.r n.link.s m.link.a n.link.r n.link.pending (f ∷ fs) → Tells f m.link
      go o = grind (arith, tells-i, lane-low, names, is-steady)
