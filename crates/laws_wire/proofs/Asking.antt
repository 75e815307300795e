-- Two ends in state 7: layer 3 of one asks to send more contents, and the request is granted.
use Rattle.laws_wire.proofs.Vocabulary.{◌≡◌, ℕ, zero, suc, ◌+◌, ◌<◌, ◌≤◌, Bool, false, List, [], ◌∷◌, ◌++◌, length, take, Option, Some, None, Refusal, refl, sym, ap, subst, ◌∙◌, inl, inr, append-nil, arith, length-append, slice_get, All-nil, All-cons, All-append, Parts, Terms, Link, requested, LinkEndpoint, with_link, sound-after, weight_at, Informs, Lane, lane-order, Steady, unwrap_or, refusal}
use Rattle.laws_wire.proofs.Vocabulary.{IsSound, Direction}
use Rattle.model_link.specs.Events.{Data}

-- contents at a place below what was there stay
pub get-front : (xs ys : List (List ℕ)) (i : ℕ) → i < length xs → slice_get (xs ++ ys) i ≡ slice_get xs i
get-front [] ys i h = absurd (omega (arith, h))
get-front (x ∷ xs) ys zero h = refl
get-front (x ∷ xs) ys (suc i) h = get-front xs ys i (omega (arith, h))

pub take-front : (xs ys : List (List ℕ)) (i : ℕ) → i ≤ length xs → take i (xs ++ ys) ≡ take i xs
take-front [] ys (suc i) h = absurd (omega (arith, h))
take-front (x ∷ xs) ys (suc i) h = ap (λ zs. x ∷ zs) (take-front xs ys i (omega (arith, h)))
take-front other ys zero h = refl

-- so what is on its way stays what it is
module _ (t : Terms) (cs more : List (List ℕ)) where
  informs-asked : (r v : ℕ) (f : Parts) → r < length cs → Informs t cs r v f → Informs t (cs ++ more) r v f
  informs-asked r v f low h =
      let l' : Link = record h.l { contents = cs ++ more } in
      let low' : h.l.s < length cs = subst (λ i. i < length cs) (sym h.number) low in
      let same : slice_get h.l.contents h.l.s ≡ slice_get (cs ++ more) h.l.s = ap (λ xs. slice_get xs h.l.s) h.contents ∙ sym (get-front cs more h.l.s low') in
      record { l = l'; is = h.is ∙ (λ i. record (Rattle.laws_link.proofs.OfTwo.Plain.information_frame t h.l) { info = unwrap_or (same i) [] }); contents = refl; number = h.number; means = h.means }

  pub lane-asked : (r s lo hi : ℕ) (owed : Bool) (way : List Parts) → s ≤ length cs → Lane t cs r s lo hi owed way → Lane t (cs ++ more) r s lo hi owed way
  lane-asked r s lo hi owed [] high h = h
  lane-asked r s lo hi owed (f ∷ fs) high (v, low, inl (here, rest)) = grind (arith, lane-asked (r + 1) s v hi owed fs high rest, lane-order, informs-asked)
  lane-asked r s lo hi owed (f ∷ fs) high (v, low, inr (here, rest)) = (v, low, inr (here, lane-asked r s v hi owed fs high rest))

-- An end that has more to send.
abbrev pub with_more : List ℕ → LinkEndpoint → LinkEndpoint
with_more octets n = record n { link = record n.link { contents = n.link.contents ++ octets ∷ [] } }

pub asked-form : (octets : List ℕ) (n : LinkEndpoint) → refusal n.terms n.link false (Data octets) ≡ None → with_link (requested (Data octets) false) n ≡ with_more octets n
asked-form octets n e = grind (arith, append-nil)

refused-form : (octets : List ℕ) (n : LinkEndpoint) (why : Refusal) → refusal n.terms n.link false (Data octets) ≡ Some why → with_link (requested (Data octets) false) n ≡ n
refused-form octets n why e = grind (arith, append-nil)

-- so it has more to send, or stays
pub asked-or : (octets : List ℕ) (n : LinkEndpoint) (P : LinkEndpoint → Type 0) → P n → P (with_more octets n) → P (with_link (requested (Data octets) false) n)
asked-or octets n P same more = go (refusal n.terms n.link false (Data octets)) refl
  where
    go : (o : Option Refusal) → refusal n.terms n.link false (Data octets) ≡ o → P (with_link (requested (Data octets) false) n)
    go None e = subst P (sym (asked-form octets n e)) more
    go (Some why) e = subst P (sym (refused-form octets n why e)) same

pub record Asked (octets : List ℕ) (n m n' : LinkEndpoint) : Type 0 where
  pub steady : Steady n'
  pub there : Direction n' m
  pub back : Direction m n'
  pub heavier : weight_at n' ≡ weight_at n + 4
  pub more : n'.link.contents ≡ n.link.contents ++ octets ∷ []

module _ (octets : List ℕ) (n m : LinkEndpoint) (hn : Steady n) (there : Direction n m) (back : Direction m n) (fits : length octets ≤ m.terms.n201)
    (e : refusal n.terms n.link false (Data octets) ≡ None) where
  pub asks-more : Asked octets n m (with_link (requested (Data octets) false) n)
  asks-more =
      let form = asked-form octets n e in
      let s : IsSound n.terms (with_more octets n).link = subst (λ x. IsSound n.terms x.link) form (sound-after n.terms hn.ranges (requested (Data octets) false) n.link hn.sound) in
      let cs = n.link.contents in
      let accepted : n.link.s ≤ length cs = hn.sound.accepted in
      let order : m.link.r ≤ n.link.s = lane-order n.terms cs m.link.r n.link.s m.link.a n.link.r n.link.pending n.way there.lane in
      let long : length (cs ++ octets ∷ []) ≡ length cs + 1 = length-append cs (octets ∷ []) in
      subst (Asked octets n m) (sym form) (record {
        steady = record { ranges = hn.ranges; sound = s; state = hn.state; peer_busy = hn.peer_busy; own_busy = hn.own_busy; waiting = hn.waiting };
        there = record {
          lane = lane-asked n.terms cs (octets ∷ []) m.link.r n.link.s m.link.a n.link.r n.link.pending n.way accepted there.lane;
          delivered = there.delivered ∙ sym (take-front cs (octets ∷ []) m.link.r (omega (arith, order, accepted)));
          sizes = All-append (λ octets. length octets ≤ m.terms.n201) cs (octets ∷ []) there.sizes (All-cons (λ octets. length octets ≤ m.terms.n201) octets [] fits (All-nil (λ octets. length octets ≤ m.terms.n201)));
        };
        back = record { lane = back.lane; delivered = back.delivered; sizes = back.sizes };
        heavier = omega (arith, accepted, long);
        more = refl;
      })
