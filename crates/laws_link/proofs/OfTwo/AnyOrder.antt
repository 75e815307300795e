-- Two ends in state 7 with frames on both ways, none of which is lost: each turn lowers their weight, and in the end all has
-- arrived.
use Rattle.laws_link.proofs.Vocabulary.{◌≡◌, ℕ, suc, ◌+◌, ◌≤◌, Bool, true, false, ◌==◌, List, [], ◌∷◌, ◌++◌, length, take, drop, Some, refl, sym, ap, subst, ◌∙◌, ◌⊎◌, inl, inr, append-nil, eq-eqb, true≢false, arith, All, if◌then◌else◌, nat_lt, slice_get, unwrap_or, ltb-true, le-ltb, and_parts, seq, named, Parts, Terms, Link, frame, received, IsInRange, IsSound, Endpoint, with_link, with_sent}
use Rattle.laws_link.proofs.Vocabulary.{with_first_of, offer, sound-after, HasNothingToSend, load_of, load, weight_at, State, may_send_information}
use Rattle.laws_link.proofs.OfTwo.Plain.{plain, plain_end, with_information, with_acknowledgement, information_frame, acknowledgement_frame, gives-information, gives-acknowledgement}
use Rattle.laws_link.proofs.OfTwo.Halves.{named-number, fits-at, take-one}
use Rattle.laws_link.proofs.OfTwo.BusyMoves.{takes-one, takes-note, acked, noted}

-- On a way are I-frames from number r on, up to s, and acknowledgements; their N(R) rise from lo to hi, and the last of them is
-- hi where no acknowledgement is owed.
pub record Informs (t : Terms) (cs : List (List ℕ)) (r v : ℕ) (f : Parts) : Type 0 where
  pub l : Link
  pub is : f ≡ information_frame t l
  pub contents : l.contents ≡ cs
  pub number : l.s ≡ r
  pub means : l.r ≡ v

pub record Notes (t : Terms) (v : ℕ) (f : Parts) : Type 0 where
  pub l : Link
  pub is : f ≡ acknowledgement_frame t l
  pub means : l.r ≡ v

abbrev pub Lane : Terms → List (List ℕ) → ℕ → ℕ → ℕ → ℕ → Bool → List Parts → Type 0
Lane t cs r s lo hi owed [] = (r ≡ s) × (lo ≤ hi) × (owed ≡ false → lo ≡ hi)
Lane t cs r s lo hi owed (f ∷ fs) = (v : ℕ) × (lo ≤ v) × ((Informs t cs r v f × Lane t cs (r + 1) s v hi owed fs) ⊎ (Notes t v f × Lane t cs r s v hi owed fs))

pub lane-low : (t : Terms) (cs : List (List ℕ)) (r s lo hi : ℕ) (owed : Bool) (way : List Parts) → Lane t cs r s lo hi owed way → lo ≤ hi
lane-low t cs r s lo hi owed [] (at, low, told) = low
lane-low t cs r s lo hi owed (f ∷ fs) (v, low, inl (here, rest)) = let more = lane-low t cs (r + 1) s v hi owed fs rest in omega (arith, low, more)
lane-low t cs r s lo hi owed (f ∷ fs) (v, low, inr (here, rest)) = let more = lane-low t cs r s v hi owed fs rest in omega (arith, low, more)

pub lane-order : (t : Terms) (cs : List (List ℕ)) (r s lo hi : ℕ) (owed : Bool) (way : List Parts) → Lane t cs r s lo hi owed way → r ≤ s
lane-order t cs r s lo hi owed [] (at, low, told) = omega (arith, at)
lane-order t cs r s lo hi owed (f ∷ fs) (v, low, inl (here, rest)) = let more = lane-order t cs (r + 1) s v hi owed fs rest in omega (arith, more)
lane-order t cs r s lo hi owed (f ∷ fs) (v, low, inr (here, rest)) = lane-order t cs r s v hi owed fs rest

-- the sender's side grows by an I-frame, and by an acknowledgement; one more is owed
lane-information : (t : Terms) (cs : List (List ℕ)) (r s lo hi : ℕ) (owed : Bool) (way : List Parts) (l : Link) → l.contents ≡ cs → l.s ≡ s → l.r ≡ hi
    → Lane t cs r s lo hi owed way → Lane t cs r (s + 1) lo hi false (way ++ information_frame t l ∷ [])
lane-information t cs r s lo hi owed [] l ec es er (at, low, told) =
    (hi, low, inl (record { l = l; is = refl; contents = ec; number = es ∙ sym at; means = er }, (ap (λ i. i + 1) at, omega arith, λ e. refl)))
lane-information t cs r s lo hi owed (f ∷ fs) l ec es er (v, low, inl (here, rest)) = (v, low, inl (here, lane-information t cs (r + 1) s v hi owed fs l ec es er rest))
lane-information t cs r s lo hi owed (f ∷ fs) l ec es er (v, low, inr (here, rest)) = (v, low, inr (here, lane-information t cs r s v hi owed fs l ec es er rest))

lane-note : (t : Terms) (cs : List (List ℕ)) (r s lo hi : ℕ) (owed : Bool) (way : List Parts) (l : Link) → l.r ≡ hi
    → Lane t cs r s lo hi owed way → Lane t cs r s lo hi false (way ++ acknowledgement_frame t l ∷ [])
lane-note t cs r s lo hi owed [] l er (at, low, told) = (hi, low, inr (record { l = l; is = refl; means = er }, (at, omega arith, λ e. refl)))
lane-note t cs r s lo hi owed (f ∷ fs) l er (v, low, inl (here, rest)) = (v, low, inl (here, lane-note t cs (r + 1) s v hi owed fs l er rest))
lane-note t cs r s lo hi owed (f ∷ fs) l er (v, low, inr (here, rest)) = (v, low, inr (here, lane-note t cs r s v hi owed fs l er rest))

lane-owes : (t : Terms) (cs : List (List ℕ)) (r s lo hi hi' : ℕ) (owed : Bool) (way : List Parts) → hi ≤ hi' → Lane t cs r s lo hi owed way → Lane t cs r s lo hi' true way
lane-owes t cs r s lo hi hi' owed [] le (at, low, told) = (at, omega (arith, le, low), λ e. absurd (true≢false e))
lane-owes t cs r s lo hi hi' owed (f ∷ fs) le (v, low, inl (here, rest)) = (v, low, inl (here, lane-owes t cs (r + 1) s v hi hi' owed fs le rest))
lane-owes t cs r s lo hi hi' owed (f ∷ fs) le (v, low, inr (here, rest)) = (v, low, inr (here, lane-owes t cs r s v hi hi' owed fs le rest))

load-push : (fs : List Parts) (f : Parts) → load (fs ++ f ∷ []) ≡ load fs + load_of f.control
load-push [] f = omega arith
load-push (x ∷ fs) f = let more : load (fs ++ f ∷ []) ≡ load fs + load_of f.control = load-push fs f in omega arith

-- what becomes of the weights
abbrev owes : Bool → ℕ
owes b = if b then 2 else 0

lighter-n : (u w w' p : ℕ) → w' ≡ w + 1 → p ≡ 2 → (u + w' + 0) + 1 ≤ u + w + p
lighter-n u w w' p more two = omega (arith, more, two)

-- An end in state 7 with neither side busy and no control frame waiting; and one direction.
pub record Steady (n : Endpoint) : Type 0 where
  pub ranges : IsInRange n.terms
  pub sound : IsSound n.terms n.link
  pub state : n.link.state ≡ State.Established
  pub peer_busy : n.link.peer_busy ≡ false
  pub own_busy : n.link.own_busy ≡ false
  pub waiting : n.link.waiting ≡ []

pub record Direction (n m : Endpoint) : Type 0 where
  pub lane : Lane n.terms n.link.contents m.link.r n.link.s m.link.a n.link.r n.link.pending n.way
  pub delivered : m.delivered ≡ take m.link.r n.link.contents
  pub sizes : All (λ octets. length octets ≤ m.terms.n201) n.link.contents

abbrev with_way : List Parts → Endpoint → Endpoint
with_way fs y = record y { way = fs }

pub is-steady : (n : Endpoint) → Steady n → record n { way = [] } ≡ plain_end n
is-steady n h = grind arith

-- what an end gives is put behind what is on its way
sends-form : (n x : Endpoint) → Steady n → with_sent (plain_end n) ≡ x → with_sent n ≡ record n { link = x.link; way = n.way ++ x.way }
sends-form n x h e = ap (λ y. record n { link = y.link; way = n.way ++ y.way }) (ap with_sent (is-steady n h) ∙ e)

-- An end gives a frame.
pub record Gave (n m n' : Endpoint) : Type 0 where
  pub steady : Steady n'
  pub there : Direction n' m
  pub back : Direction m n'
  pub lighter : weight_at n' + 1 ≤ weight_at n
  pub kept : n'.link.contents ≡ n.link.contents

module _ (n m : Endpoint) (hn : Steady n) (there : Direction n m) (back : Direction m n) where
  noted-form : may_send_information n.terms (plain n.link) ≡ false → n.link.pending ≡ true
      → with_sent n ≡ record n { link = with_acknowledgement n.link; way = n.way ++ acknowledgement_frame n.terms n.link ∷ [] }
  noted-form e p = sends-form n (record n { link = with_acknowledgement n.link; way = acknowledgement_frame n.terms n.link ∷ [] }) hn (gives-acknowledgement false false n e p)

  noted-sound : may_send_information n.terms (plain n.link) ≡ false → n.link.pending ≡ true → IsSound n.terms (with_acknowledgement n.link)
  noted-sound e p = subst (λ (x : Endpoint). IsSound n.terms x.link) (noted-form e p) (sound-after n.terms hn.ranges offer n.link hn.sound)

  gave-note : n.link.pending ≡ true → IsSound n.terms (with_acknowledgement n.link)
      → Gave n m (record n { link = with_acknowledgement n.link; way = n.way ++ acknowledgement_frame n.terms n.link ∷ [] })
  gave-note p sound = grind (arith, load-push, lane-note, lighter-n)

  gives-by : (may owed : Bool) → may_send_information n.terms (plain n.link) ≡ may → n.link.pending ≡ owed → (HasNothingToSend n.terms n.link → ⊥) → Gave n m (with_sent n)
  gives-by true owed e p some = grind (arith, and_parts, nat_lt, ltb-true, with_information, information_frame, sends-form, gives-information, load-push, sound-after, lane-information)
  gives-by false true e p some = subst (Gave n m) (sym (noted-form e p)) (gave-note p (noted-sound e p))
  gives-by false false e p some = absurd (some (record { waiting = hn.waiting; information = (subst (λ x. may_send_information n.terms x.link ≡ false) (sym (is-steady n hn)) e); pending = p }))

  pub gives : (HasNothingToSend n.terms n.link → ⊥) → Gave n m (with_sent n)
  gives = gives-by (may_send_information n.terms (plain n.link)) n.link.pending refl refl

-- An end, m, receives the first frame of the other's way.
pub record Took (n m n' m' : Endpoint) : Type 0 where
  pub giver : Steady n'
  pub taker : Steady m'
  pub there : Direction n' m'
  pub back : Direction m' n'
  pub lighter : (weight_at n' + weight_at m') + 1 ≤ weight_at n + weight_at m
  pub kept_n : n'.link.contents ≡ n.link.contents
  pub kept_m : m'.link.contents ≡ m.link.contents

module _ (n m : Endpoint) (hn : Steady n) (hm : Steady m) (there : Direction n m) (back : Direction m n) where
  abbrev left : List Parts → Endpoint
  left fs = record n { way = fs }

  high : n.link.r ≤ m.link.s
  high = lane-order m.terms m.link.contents n.link.r m.link.s n.link.a m.link.r m.link.pending m.way back.lane

  names : (v : ℕ) → m.link.a ≤ v → v ≤ n.link.r → named m.link.a m.link.s (seq v) ≡ Some v
  names v low up = grind (arith, named-number, high)

  takes-i : (f : Parts) (fs : List Parts) → n.way ≡ f ∷ fs → (v : ℕ) → m.link.a ≤ v → (here : Informs n.terms n.link.contents m.link.r v f)
      → Lane n.terms n.link.contents (m.link.r + 1) n.link.s v n.link.r n.link.pending fs → Took n m (left fs) (with_link (received (frame f)) m)
  takes-i f fs e v low here rest =
      let l = here.l in
      let octets = unwrap_or (slice_get l.contents l.s) [] in
      let up : v ≤ n.link.r = lane-low n.terms n.link.contents (m.link.r + 1) n.link.s v n.link.r n.link.pending fs rest in
      let named-v : named m.link.a m.link.s (seq l.r) ≡ Some v = subst (λ w. named m.link.a m.link.s (seq w) ≡ Some v) (sym here.means) (names v low up) in
      let fits = le-ltb m.terms.n201 (length octets) (fits-at m.terms.n201 l.contents l.s (subst (λ cs. All (λ octets. length octets ≤ m.terms.n201) cs) (sym here.contents) there.sizes)) in
      let next : ((seq l.s).value == (seq m.link.r).value) ≡ true = eq-eqb (seq l.s).value (seq m.link.r).value (ap (λ i. (seq i).value) here.number) in
      let running = (acked m false n.terms l v fits named-v low).running in
      let m' : Endpoint = record m { link = record (plain m.link) { r = m.link.r + 1; rejecting = false; pending = true; a = v; running = running }; delivered = m.delivered ++ octets ∷ [] } in
      let form : with_link (received (frame f)) m ≡ m' =
      ap (λ g. with_link (received (frame g)) m) here.is
      ∙ ap (with_way m.way) (ap (with_link (received (frame (information_frame n.terms l)))) (is-steady m hm) ∙ takes-one m false n.terms l v fits named-v low next) in
      let s : IsSound m.terms m'.link = subst (λ x. IsSound m.terms x.link) form (sound-after m.terms hm.ranges (received (frame f)) m.link hm.sound) in
      let order : m.link.r + 1 ≤ n.link.s = lane-order n.terms n.link.contents (m.link.r + 1) n.link.s v n.link.r n.link.pending fs rest in
      let accepted : n.link.s ≤ length n.link.contents = hn.sound.accepted in
      let up-one : suc m.link.r ≡ m.link.r + 1 = omega arith in
      grind (arith, take-one, lane-owes)

  takes-n : (f : Parts) (fs : List Parts) → n.way ≡ f ∷ fs → (v : ℕ) → m.link.a ≤ v → (here : Notes n.terms v f)
      → Lane n.terms n.link.contents m.link.r n.link.s v n.link.r n.link.pending fs → Took n m (left fs) (with_link (received (frame f)) m)
  takes-n f fs e v low here rest =
      let l = here.l in
      let up : v ≤ n.link.r = lane-low n.terms n.link.contents m.link.r n.link.s v n.link.r n.link.pending fs rest in
      let named-v : named m.link.a m.link.s (seq l.r) ≡ Some v = subst (λ w. named m.link.a m.link.s (seq w) ≡ Some v) (sym here.means) (names v low up) in
      let running = (noted m false n.terms l v named-v low).running in
      let m' : Endpoint = record m { link = record (plain m.link) { a = v; running = running }; delivered = m.delivered ++ [] } in
      let form : with_link (received (frame f)) m ≡ m' =
      ap (λ g. with_link (received (frame g)) m) here.is
      ∙ ap (with_way m.way) (ap (with_link (received (frame (acknowledgement_frame n.terms l)))) (is-steady m hm) ∙ takes-note m false n.terms l v named-v low) in
      let s : IsSound m.terms m'.link = subst (λ x. IsSound m.terms x.link) form (sound-after m.terms hm.ranges (received (frame f)) m.link hm.sound) in
      grind (arith, append-nil)

  takes-from : (way : List Parts) → n.way ≡ way → Lane n.terms n.link.contents m.link.r n.link.s m.link.a n.link.r n.link.pending way → 1 ≤ length way
      → Took n m (left (drop 1 way)) (with_first_of way m)
  takes-from way e h some = grind (arith, takes-i, takes-n)

  pub takes-first : 1 ≤ length n.way → Took n m (record n { way = drop 1 n.way }) (with_first_of n.way m)
  takes-first some = takes-from n.way refl there.lane some
