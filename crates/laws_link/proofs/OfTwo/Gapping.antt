-- The first I-frame out of sequence is answered by REJ, and a delivery ends the wait for what REJ asked for.
use Rattle.laws_link.proofs.Vocabulary.{◌≡◌, ℕ, Bool, false, List, Option, None, Some, ◌⊎◌, arith, Seq, Terms, Link, Course, begun, Step, ◌then◌, by_bit, Leads, ErrorCode, both_ways, by_number, error, re_establish}
use Rattle.model_link.specs.MultipleFrame

-- Nothing is delivered, or REJ is answered.
abbrev Ended : Course → Type 0
Ended c = (c.delivered ≡ None) ⊎ (c.link.rejecting ≡ false)

module _ (t : Terms) (l : Link) where
  by-number : (f : ℕ → Step) → ((n : ℕ) → Leads Ended (f n) Ended) → (c : Course) → Ended c → (o : Option ℕ)
      → Ended (elim o [ None ↦ (error t ErrorCode.J then re_establish t) c | Some n ↦ f n c ])
  by-number f x c h o = grind arith

  row : (ns nr : Seq) (p : Bool) (octets : List ℕ) (f : ℕ → Step) → ((n : ℕ) → Leads Ended (f n) Ended) → (b : Bool)
      → Ended (by_bit b (MultipleFrame.failed t ErrorCode.O) (MultipleFrame.contents_in_7_8 t ns p octets then by_number t nr f) (begun l))
  row ns nr p octets f x b = grind (arith, by-number, both_ways)
