-- What a received I-frame does to a link that stays in states 7 and 8, for the end that it faces.
use Rattle.model_link.proofs.Vocabulary.{arith, ◌≡◌, ℕ, ◌+◌, ◌≤◌, Bool, true, false, cond, IsTrue, List, length, Option, None, Some, refl, nat_lt, Seq, Terms, Link, is_multiple_frame, Course, begun, Step, by_number, rejecting_is, contents_in_7_8, failed, information_in_7_8, is_next, ErrorCode}
use Rattle.model_link.proofs.Leads.{Leads, number_leads}
use Rattle.model_link.proofs.Contents.{contents}
use Rattle.model_link.proofs.Counting.{Count, On}
use Rattle.model_link.proofs.Facing.{Stays, Up, UpBy, still, no-reports, answer_stays, reject_stays, number_up}

-- what is delivered
abbrev brought : Option (List ℕ) → Count
brought d r' d' zeroed = d' ≡ d

-- V(R) is r, and this is delivered, before the N(R) has its effect
record Halfway (l : Link) (r : ℕ) (d : Option (List ℕ)) (c : Course) : Type 0 where
  stays : Stays l (still l.s) l.a r c
  delivered : c.delivered ≡ d

-- V(R) is r, and this is delivered, in the end
pub record Took (l : Link) (nr : Seq) (r : ℕ) (d : Option (List ℕ)) (c : Course) : Type 0 where
  pub by : UpBy l nr r c
  pub delivered : IsTrue (is_multiple_frame c.link.state) → c.delivered ≡ d

module _ (t : Terms) (l : Link) where
  pub at-first : Stays l (still l.s) l.a l.r (begun l)
  at-first = record { same = refl; acknowledged = refl; sent = refl; received = refl; reports = no-reports l.r l.waiting }

  after-contents : (ns : Seq) (p : Bool) (octets : List ℕ)
      → Halfway l (cond l.own_busy l.r (cond (is_next ns l) (l.r + 1) l.r)) (cond l.own_busy None (cond (is_next ns l) (Some octets) None))
      (contents_in_7_8 t ns p octets (begun l))
  after-contents ns p octets =
      contents t l (Halfway l) (λ r d. record { leads = λ c h. record { stays = (answer_stays t).leads c h.stays; delivered = h.delivered } }) (λ r d. record { leads = λ c h. record { stays = h.stays; delivered = h.delivered } })
      (λ r d f. record { leads = λ c h. record { stays = (reject_stays t f).leads (rejecting_is true c) h.stays; delivered = h.delivered } }) (record { stays = at-first; delivered = refl })
      ns p octets
      (record { stays = record { same = refl; acknowledged = refl; sent = refl; received = refl; reports = no-reports (l.r + 1) l.waiting }; delivered = refl })

  -- the N(R) has its effect
  numbered : (nr : Seq) (r : ℕ) (d : Option (List ℕ)) (f : ℕ → Step) → ((Q : Count) (m : ℕ) → Leads (On Q) (f m) (On Q))
      → ((n : ℕ) → l.a ≤ n → Leads (Stays l (still l.s) l.a r) (f n) (Up l n r))
      → (c : Course) → Halfway l r d c → Took l nr r d (by_number t nr f c)
  numbered nr r d f x y c h =
      record {
        by = (number_up t l r nr f y).leads c h.stays;
        delivered = λ up. (number_leads t nr (record { leads = λ c h. h }) (x (brought d))).leads c h.delivered;
      }

  or-failed : (b : Bool) (nr : Seq) (r : ℕ) (d : Option (List ℕ)) (u v : Course) → (is_multiple_frame u.link.state ≡ false) → Took l nr r d v → Took l nr r d (cond b u v)
  or-failed b nr r d u v e y = grind arith

  pub information_took : (ns nr : Seq) (p : Bool) (octets : List ℕ) (f : ℕ → Step) → ((Q : Count) (m : ℕ) → Leads (On Q) (f m) (On Q))
      → ((r n : ℕ) → l.a ≤ n → Leads (Stays l (still l.s) l.a r) (f n) (Up l n r))
      → Took l nr (cond l.own_busy l.r (cond (is_next ns l) (l.r + 1) l.r)) (cond l.own_busy None (cond (is_next ns l) (Some octets) None))
      (information_in_7_8 t ns nr p octets f (begun l))
  information_took ns nr p octets f x y =
      or-failed (nat_lt t.n201 (length octets)) nr _ _ (failed t ErrorCode.O (begun l)) _ refl (numbered nr _ _ f x (y _) (contents_in_7_8 t ns p octets (begun l)) (after-contents ns p octets))
