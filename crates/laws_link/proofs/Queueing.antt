-- The contents of a link, its numbers, and what its notes tell of them: most words of the tables leave them.
use Rattle.laws_link.proofs.Vocabulary.{arith, ◌≡◌, ℕ, Bool, false, List, Option, refl, subst, sym, list_any-append, Note, Terms, Course, Leads, keeping_then, nothing_leads, depending_leads, bit_leads, read_leads, is_loss, tells_loss, leaves, deliver, note}

-- A claim on the contents, on V(A) and V(S), on whether the notes tell a loss, on whether the numbers began anew, on what
-- unit data is told, and on how many contents are given up.
abbrev pub Claim : Type 1
Claim = List (List ℕ) → ℕ → ℕ → Bool → Bool → Option (List ℕ) → ℕ → Type 0

abbrev pub On : Claim → Course → Type 0
On Q c = Q c.link.contents c.link.a c.link.s (tells_loss c.notes) c.zeroed c.unit c.given_up

module _ (Q : Claim) where
  pub note_keeps : (n : Note) → is_loss n ≡ false → Leads (On Q) (note n) (On Q)
  note_keeps n e = record { leads = λ c h. (subst (λ b. Q c.link.contents c.link.a c.link.s b c.zeroed c.unit c.given_up) (sym (grind (arith, list_any-append))) h) }

  pub deliver_keeps : (t : Terms) (octets : List ℕ) → Leads (On Q) (deliver t octets) (On Q)
  deliver_keeps t octets = record { leads = λ c h. (subst (λ b. Q c.link.contents c.link.a c.link.s b c.zeroed c.unit c.given_up) (sym (grind (arith, list_any-append))) h) }

pub ruleset words = (leaves, keeping_then, nothing_leads, depending_leads, bit_leads, read_leads, note_keeps, refl, deliver_keeps)
