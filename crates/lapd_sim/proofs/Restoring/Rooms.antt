-- How much room images of a card need.
use Rattle.std.proofs.Common.{arith, ℕ, ◌+◌, ◌*◌, ◌≤◌, ◌<◌, Bool, true, false, cond}
use Rattle.std.proofs.Math.Nat.{mul-le-mul}
use Rattle.model_line.specs.Most.{most_clock, most_line, most_link, most_octets, most_teis}
use Rattle.model_line.proofs.Ranges.{ranges_of}
use Rattle.model_line.specs.Line.{is_terminal, link_count}
use Rattle.model_line.specs.Sound.{IsInRange}
use Rattle.model_line.specs.declared.config.Config.{Config}

-- a product of two numbers, by the most that they are
at-most : (m n a b : ℕ) → m ≤ a → n ≤ b → m * n ≤ a * b
at-most m n a b first second = mul-le-mul first second

either : (b : Bool) (x y n : ℕ) → x ≤ n → y ≤ n → cond b x y ≤ n
either true x y n first second = first
either false x y n first second = second

module _ (c : Config) (range : IsInRange c) where
  teis : most_teis c ≤ 52
  teis = either (is_terminal c) (7 + 5 * (c.terminals + 1)) 39 52 (omega (arith, (ranges_of c range).terminals.most)) (omega arith)

  links : link_count c * most_link c ≤ 16 * 67
  links = at-most (link_count c) (most_link c) 16 67 (omega (arith, (ranges_of c range).terminals.most)) (omega (arith, (ranges_of c range).control.most))

  line : most_line c ≤ 1784
  line = omega (arith, teis, links, (ranges_of c range).terminals.most, (ranges_of c range).unit_queue.most)

  clock : most_clock c ≤ 16920
  clock =
      let moments = at-most c.lines (8 * (link_count c + 1)) 64 136 (ranges_of c range).lines.most (omega (arith, (ranges_of c range).terminals.most)) in
      let changes = at-most c.lines (8 * link_count c) 64 128 (ranges_of c range).lines.most (omega (arith, (ranges_of c range).terminals.most)) in
      omega (arith, moments, changes)

  pub few-octets : most_octets c true < 4000000
  few-octets =
      let lines = at-most c.lines (most_line c) 64 1784 (ranges_of c range).lines.most line in
      let contents = at-most c.slots (2 + c.n201) 8192 262 (ranges_of c range).slots.most (omega (arith, (ranges_of c range).n201.most)) in
      omega (arith, lines, contents, clock)
