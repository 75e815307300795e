-- Where a step leads: from what held before it to what holds after it.
use Rattle.model_link.proofs.Vocabulary.{arith, ◌≡◌, Bool, true, false, cond, Link, Course, Step, ◌then◌, nothing, depending_on, by_bit, ℕ, Seq, Terms, by_number, read_as, error, re_establish, ErrorCode}

pub record Leads (P : Course → Type 0) (f : Step) (Q : Course → Type 0) : Type 0 where
  pub leads : (c : Course) → P c → Q (f c)

-- one step after another, by what holds between them
pub then_leads : {P Q R : Course → Type 0} {f g : Step} → Leads P f Q → Leads Q g R → Leads P (f then g) R
then_leads {f} x y = record { leads = λ c h. y.leads (f c) (x.leads c h) }

-- a step that changes nothing of what holds, and then the rest
pub keeping_then : {P R : Course → Type 0} {f g : Step} → Leads P f P → Leads P g R → Leads P (f then g) R
keeping_then x y = then_leads x y

-- a step that leaves what is claimed
pub leaves : {P : Course → Type 0} {f : Step} → ((c : Course) → P c → P (f c)) → Leads P f P
leaves x = record { leads = x }

pub nothing_leads : {P : Course → Type 0} → Leads P nothing P
nothing_leads = record { leads = λ c h. h }

-- either branch
pub both_ways : (Q : Course → Type 0) (b : Bool) (u v : Course) → Q u → Q v → Q (cond b u v)
both_ways Q b u v x y = grind arith

pub depending_leads : {P Q : Course → Type 0} {f g : Step} (test : Link → Bool) → Leads P f Q → Leads P g Q → Leads P (depending_on test f g) Q
depending_leads {P} {Q} {f} {g} test x y = grind (arith, both_ways)

pub bit_leads : {P Q : Course → Type 0} {f g : Step} (b : Bool) → Leads P f Q → Leads P g Q → Leads P (by_bit b f g) Q
bit_leads {P} {Q} {f} {g} b x y = record { leads = λ c h. both_ways Q b (f c) (g c) (x.leads c h) (y.leads c h) }

-- either reading
pub read_leads : {P Q : Course → Type 0} {f g : Step} (t : Terms) → Leads P f Q → Leads P g Q → Leads P (read_as t f g) Q
read_leads {P} {Q} {f} {g} t x y = grind arith

-- either branch, with what the test tells
pub record Passed (P : Course → Type 0) (test : Link → Bool) (b : Bool) (c : Course) : Type 0 where
  pub holds : P c
  pub told : test c.link ≡ b

pub told_ways : (Q : Course → Type 0) (b : Bool) (u v : Course) → (b ≡ true → Q u) → (b ≡ false → Q v) → Q (cond b u v)
told_ways Q b u v x y = grind arith

pub tested_leads : {P Q : Course → Type 0} {f g : Step} (test : Link → Bool)
    → Leads (Passed P test true) f Q → Leads (Passed P test false) g Q → Leads P (depending_on test f g) Q
tested_leads {P} {Q} {f} {g} test x y = grind (arith, told_ways)

-- more known before, less wanted after
pub from_more : {P P' Q : Course → Type 0} {f : Step} → ((c : Course) → P' c → P c) → Leads P f Q → Leads P' f Q
from_more w x = record { leads = λ c h. x.leads c (w c h) }

pub to_less : {P Q Q' : Course → Type 0} {f : Step} → ((c : Course) → Q c → Q' c) → Leads P f Q → Leads P f Q'
to_less {f} w x = record { leads = λ c h. w (f c) (x.leads c h) }

-- by an N(R): an invalid one, or one that names a number
pub number_leads : {P Q : Course → Type 0} (t : Terms) (nr : Seq) {f : ℕ → Step}
    → Leads P (error t ErrorCode.J then re_establish t) Q → ((n : ℕ) → Leads P (f n) Q) → Leads P (by_number t nr f) Q
number_leads {P} {Q} t nr {f} x y = grind arith
