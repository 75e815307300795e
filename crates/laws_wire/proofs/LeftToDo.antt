-- How many turns and losses there are at most where both ends are up, by what waits, what is on its way, and what is still to be told.
use Rattle.laws_wire.proofs.Vocabulary.{◌≡◌, ℕ, suc, ◌+◌, ◌-◌, ◌*◌, ◌≤◌, Bool, IsTrue, List, [], ◌∷◌, ◌++◌, length, map, take, sym, ap, subst, ◌∙◌, arith, length-map, length-take-le, Service, Parts, Control, Information, ControlFrame, Link, is_multiple_frame, LinkEndpoint, Config, LineTold, carried-high, Endpoint, Wire, confirmed, indicated, data_told, all_told, heard_in, most_frames, frames_left}
use Rattle.laws_wire.proofs.Vocabulary.{notes_left, most_left}
use Rattle.laws_wire.proofs.Acting.{sound}
use Rattle.laws_wire.proofs.Awaited.{link-is}
use Rattle.laws_wire.proofs.Held.{Held}
use Rattle.laws_wire.proofs.Loads.{answer_to, brings, load_waiting, load_way, owes, may_reject, back, load}
use Rattle.laws_wire.proofs.LossyPhases.{IsUp}
use Rattle.laws_wire.proofs.Weighing.{undelivered, weigh}

-- ---- a link

answer-most : (b : Bool) → answer_to b ≤ 2
answer-most b = grind arith

brings-most : (v : ℕ) (command : Bool) (control : Control) → brings v command control ≤ v + 2
brings-most v command (Information ns nr p) = let x = answer-most p in omega (arith, x)
brings-most v command control = grind (arith, answer-most)

grows : (v here rest n low : ℕ) → low ≤ 2 → here ≤ v + 2 → rest ≤ (v + 4) * n → low + here + rest ≤ (v + 4) * (n + 1)
grows v here rest n low few first more = let e : (v + 4) * (n + 1) ≡ (v + 4) * n + (v + 4) = (omega arith) in omega (arith, few, first, more, e)

as-suc : (v n x : ℕ) → x ≤ (v + 4) * (n + 1) → x ≤ (v + 4) * suc n
as-suc v n x h = subst (λ m. x ≤ (v + 4) * m) (omega arith) h

waiting-most : (v : ℕ) (fs : List ControlFrame) → load_waiting v fs ≤ (v + 4) * length fs
waiting-most v [] = omega arith
waiting-most v (f ∷ fs) =
    as-suc v (length fs) (load_waiting v (f ∷ fs))
    (grows v (brings v f.command f.control) (load_waiting v fs) (length fs) 2 (omega arith) (brings-most v f.command f.control) (waiting-most v fs))

way-most : (v : ℕ) (fs : List Parts) → load_way v fs ≤ (v + 4) * length fs
way-most v [] = omega arith
way-most v (f ∷ fs) =
    as-suc v (length fs) (load_way v (f ∷ fs))
    (grows v (brings v f.address.command f.control) (load_way v fs) (length fs) 1 (omega arith) (brings-most v f.address.command f.control) (way-most v fs))

load-most : (v k : ℕ) (l : Link) (r window : ℕ) → IsTrue (is_multiple_frame l.state) → l.a ≤ l.s → r ≤ l.a + window → window ≤ k
    → load v l ≤ (v + 4) * length l.waiting + 2 * ((length l.contents - r) + k) + (2 * v + 4)
load-most v k l r window up low high small = grind (arith, load_waiting, owes, may_reject, back, waiting-most)

-- ---- two ends

both : (k l f l' f' lw lf lw' lf' u u' : ℕ) → l ≤ (2 * k + 4) * lw + 2 * (u + k) + (2 * (2 * k) + 4) → f ≤ (2 * k + 4) * lf → l' ≤ (2 * k + 4) * lw' + 2 * (u' + k) + (2 * (2 * k) + 4)
    → f' ≤ (2 * k + 4) * lf' → (l + f) + (l' + f') + ((2 * k + 4) * u + (2 * k + 4) * u') ≤ 2 * most_frames k (4 + (lw + lf) + (lw' + lf')) (u + u')
both k l f l' f' lw lf lw' lf' u u' x y x' y' = omega (arith, x, y, x', y')

module _ (service : Service) (tei : ℕ) (c d : Config) (p q k : ℕ) (w : Wire) (h : IsUp service tei c d p q w) (wide : h.n.terms.k ≤ k) (wide' : h.m.terms.k ≤ k) where
  n : LinkEndpoint
  n = h.n

  m : LinkEndpoint
  m = h.m

  weighs : weigh (2 * k) h.n h.m ≤ 2 * most_frames k (4 + (length h.n.link.waiting + length h.n.way) + (length h.m.link.waiting + length h.m.way)) (undelivered h.n.link h.m.link + undelivered h.m.link h.n.link)
  weighs =
      let s = sound service tei p (confirmed service tei ∷ []) c w.near h.n h.near.held in
      let s' = sound service tei q (indicated service tei ∷ []) d w.far h.m h.far.held in
      both k (load (2 * k) h.n.link) (load_way (2 * k) h.n.way) (load (2 * k) h.m.link) (load_way (2 * k) h.m.way) (length h.n.link.waiting) (length h.n.way) (length h.m.link.waiting) (length h.m.way)
      (undelivered h.n.link h.m.link) (undelivered h.m.link h.n.link)
      (load-most (2 * k) k h.n.link h.m.link.r h.n.terms.k h.near.up s.ordered (carried-high _ _ _ _ h.near.joint.there.carried) wide) (way-most (2 * k) h.n.way)
      (load-most (2 * k) k h.m.link h.n.link.r h.m.terms.k h.far.up s'.ordered (carried-high _ _ _ _ h.near.joint.back.carried) wide') (way-most (2 * k) h.m.way)

  -- as an observer counts it
  frames-are : (e : Config) (place : ℕ) (past : List LineTold) (s : Endpoint) (x : LinkEndpoint) → Held e service tei place past s x → frames_left service tei s ≡ length x.link.waiting + length x.way
  frames-are e place past s x held = grind (arith, link-is, length-map)

  told-left : (first : LineTold) (r : ℕ) (granted delivered : List (List ℕ)) (heard : List LineTold) → r ≤ length granted → delivered ≡ take r granted
      → heard ≡ (first ∷ []) ++ map (data_told service tei) delivered → length (first ∷ map (data_told service tei) granted) - length heard ≡ length granted - r
  told-left first r granted delivered heard low is here = grind (arith, length-map, length-take-le)

  notes-are : notes_left service tei w ≡ undelivered h.n.link h.m.link + undelivered h.m.link h.n.link
  notes-are =
      add (length (all_told service tei (confirmed service tei) w.far) - length (heard_in w.near)) (length (all_told service tei (indicated service tei) w.near) - length (heard_in w.far))
      (undelivered h.n.link h.m.link) (undelivered h.m.link h.n.link)
      (ap (λ (g : List (List ℕ)). length (confirmed service tei ∷ map (data_told service tei) g) - length (heard_in w.near)) h.far.held.granted
      ∙ told-left (confirmed service tei) h.n.link.r h.m.link.contents h.n.delivered (heard_in w.near) h.near.joint.back.accepted h.near.joint.back.delivered h.near.held.heard)
      (ap (λ (g : List (List ℕ)). length (indicated service tei ∷ map (data_told service tei) g) - length (heard_in w.far)) h.near.held.granted
      ∙ told-left (indicated service tei) h.m.link.r h.n.link.contents h.m.delivered (heard_in w.far) h.near.joint.there.accepted h.near.joint.there.delivered h.far.held.heard)
    where
      add : (a b u u' : ℕ) → a ≡ u' → b ≡ u → a + b ≡ u + u'
      add a b u u' e f = omega (arith, e, f)

  pub weighs-left : weigh (2 * k) h.n h.m ≤ most_left service tei k w
  weighs-left =
      subst (λ b. weigh (2 * k) h.n h.m ≤ b)
      (λ i. 2 * most_frames k (4 + sym (frames-are c p (confirmed service tei ∷ []) w.near h.n h.near.held) i + sym (frames-are d q (indicated service tei ∷ []) w.far h.m h.far.held) i) (sym notes-are i))
      weighs
