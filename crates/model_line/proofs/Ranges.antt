-- What the ranges of a configuration say.
use Rattle.model_line.proofs.Vocabulary.{◌≡◌, ℕ, ◌≤◌, Bool, true, not, cond, Option, Some, None, max, arith, and_parts, leb-true, Service, Config, Field, is_within, sapi_fault, terms, IsInRange}
use Rattle.model_link.specs.Sound as links

passed : (b : Bool) (f : Field) (o : Option Field) → cond (not b) (Some f) o ≡ None → (b ≡ true) × (o ≡ None)
passed b f o h = grind arith

pub record Within (low high n : ℕ) : Type 0 where
  pub least : low ≤ n
  pub most : n ≤ high

within : (low high n : ℕ) → is_within low high n ≡ true → Within low high n
within low high n e = grind (arith, and_parts, leb-true)

pub record Ranges (c : Config) : Type 0 where
  pub lines : Within 1 64 c.lines
  pub terminals : Within 1 8 c.terminals
  pub k : Within 1 127 c.k
  pub k16 : Within 1 127 c.k16
  pub queue : Within (max c.k c.k16) 127 c.queue
  pub unit_queue : Within 1 16 c.unit_queue
  pub control : Within 2 16 c.control
  pub slots : Within 1 8192 c.slots
  pub n201 : Within 8 260 c.n201
  pub n200 : Within 0 10 c.n200
  pub sapi : Within 1 62 c.sapi

pub ranges_of : (c : Config) → IsInRange c → Ranges c
unfolding sapi_fault
ranges_of c h = grind (arith, passed, within)

-- So the parameters of a link are in range.
pub terms_in_range : (c : Config) → IsInRange c → (service : Service) (tei : ℕ) → tei ≤ 126 → links.IsInRange (terms c service tei)
terms_in_range c h service tei o = grind (arith, ranges_of)
