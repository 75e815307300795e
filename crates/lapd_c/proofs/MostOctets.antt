-- How many octets an image has at most, of a configuration that is in range.
use Rattle.std.proofs.Common.{arith, ◌≡◌, ℕ, ◌+◌, ◌*◌, ◌≤◌, ◌<◌, Bool, true, false, cond, None, Option, Some, refl, subst, sym, ap, ◌∙◌}
use Rattle.std.proofs.Math.Nat.{mul-le-mul}
use Rattle.model_line.specs.Most.{most_clock, most_line, most_link, most_octets, most_teis}
use Rattle.model_line.proofs.Ranges.{ranges_of}
use Rattle.model_line.specs.Line.{is_terminal, link_count}
use Rattle.model_line.specs.Sound.{IsInRange}
use Rattle.model_line.specs.declared.config.Config.{Config}
use Rattle.std.specs.Prelude.{Err, IfOk, IfSome, Ok, Result, is_some}
use Rattle.lapd_c.specs.Config.{config_fault, config_in}
use Rattle.lapd_c.specs.Saves.{image_octets}
use Rattle.lapd_c.specs.declared.plain.config.PlainConfig.{PlainConfig}

-- a product of two numbers, by the most that they are
at-most : (m n a b : ℕ) → m ≤ a → n ≤ b → m * n ≤ a * b
at-most m n a b first second = mul-le-mul first second

either : (b : Bool) (x y n : ℕ) → x ≤ n → y ≤ n → cond b x y ≤ n
either true x y n first second = first
either false x y n first second = second

module _ (c : Config) (range : IsInRange c) where
  teis : most_teis c ≤ 52
  teis = either (is_terminal c) (7 + 5 * (c.terminals + 1)) 39 52 (omega (arith, (ranges_of c range).terminals.most)) (omega arith)

  links : link_count c * most_link c ≤ 16 * 67
  links = at-most (link_count c) (most_link c) 16 67 (omega (arith, (ranges_of c range).terminals.most)) (omega (arith, (ranges_of c range).control.most))

  line : most_line c ≤ 1784
  line = omega (arith, teis, links, (ranges_of c range).terminals.most, (ranges_of c range).unit_queue.most)

  clock : most_clock c ≤ 16920
  clock = grind (arith, at-most, ranges_of)

  pub few-octets : most_octets c true < 4000000
  few-octets =
      let lines = at-most c.lines (most_line c) 64 1784 (ranges_of c range).lines.most line in
      let contents = at-most c.slots (2 + c.n201) 8192 262 (ranges_of c range).slots.most (omega (arith, (ranges_of c range).n201.most)) in
      omega (arith, lines, contents, clock)

-- One that was read is in range, and this is told of it.
pub read-none : {A E : Type 0} (wrong : Option E) (r : Result A E) (a : A) → IfSome wrong (λ w. r ≡ Err w) → r ≡ Ok a → wrong ≡ None
read-none None r a err is = refl
read-none (Some w) r a err is = absurd (subst (λ x. IfOk x (λ _. ⊥)) (sym err ∙ is) tt)

pub most_of : (config : PlainConfig) → config_fault config ≡ None → image_octets config ≡ most_octets (config_in config) true
most_of config fits = ap (λ o. cond (is_some o) 0 (most_octets (config_in config) true)) fits
