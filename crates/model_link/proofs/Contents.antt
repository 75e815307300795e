-- What happens to the contents of an I-frame in state 7 or 8: a claim by V(R), and by what is delivered.
use Rattle.model_link.proofs.Vocabulary.{arith, ℕ, ◌+◌, Bool, true, false, cond, List, Option, None, Some, Seq, Terms, Link, Course, begun, ◌then◌, answer, count_received, deliver, pending_is, reject, rejecting_is}
use Rattle.model_link.specs.Link.{is_rejecting}
use Rattle.model_link.specs.MultipleFrame
use Rattle.model_link.proofs.Leads.{Leads, nothing_leads, depending_leads, bit_leads}

module _ (t : Terms) (l : Link) (Q : ℕ → Option (List ℕ) → Course → Type 0)
    (answers : (r : ℕ) (d : Option (List ℕ)) → Leads (Q r d) (answer t) (Q r d))
    (owes : (r : ℕ) (d : Option (List ℕ)) → Leads (Q r d) (pending_is true) (Q r d))
    (rejects : (r : ℕ) (d : Option (List ℕ)) (f : Bool) → Leads (Q r d) (rejecting_is true then reject t f) (Q r d))
    (begins : Q l.r None (begun l)) where
  -- with own busy on, only P is answered
  dropped : (p : Bool) → Leads (Q l.r None) (MultipleFrame.dropped t p) (Q l.r None)
  dropped p = bit_leads p (answers l.r None) nothing_leads

  -- either branch
  branch : (b : Bool) (r r' : ℕ) (d d' : Option (List ℕ)) (u v : Course) → Q r d u → Q r' d' v → Q (cond b r r') (cond b d d') (cond b u v)
  branch b r r' d d' u v x y = grind arith

  -- the contents are the next in sequence, or they are not
  pub contents : (ns : Seq) (p : Bool) (octets : List ℕ)
      → Q (l.r + 1) (Some octets) ((count_received then rejecting_is false then deliver t octets) (begun l))
      → Q (cond l.own_busy l.r (cond (MultipleFrame.is_next ns l) (l.r + 1) l.r)) (cond l.own_busy None (cond (MultipleFrame.is_next ns l) (Some octets) None))
      (MultipleFrame.contents_in_7_8 t ns p octets (begun l))
  contents ns p octets taken =
      branch l.own_busy _ _ _ _ _ _ ((dropped p).leads (begun l) begins)
      (branch (MultipleFrame.is_next ns l) _ _ _ _ _ _ ((bit_leads p (answers (l.r + 1) (Some octets)) (owes (l.r + 1) (Some octets))).leads _ taken)
      ((depending_leads is_rejecting (dropped p) (rejects l.r None p)).leads (begun l) begins))
