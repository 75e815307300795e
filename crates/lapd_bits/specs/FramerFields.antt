-- A framer's fields as what it holds, and what is true of them. No clause of its surface names these.
use Rattle.std.specs.Prelude.{ℕ, nat_lt, List, length, take, ◌+◌, ◌*◌, ◌<◌, ◌≤◌, vec_len, Option, Some, None, if◌then◌else◌}
use Rattle.model_bits.specs.Framer.{Framing, still_held}
use Rattle.lapd_bits.specs.FramerText.{to_give}
use Rattle.lapd_bits.specs.Reading.{octets_behind}
use Rattle.model_bits.specs.declared.heads.Head.{Head}
use Rattle.lapd_bits.specs.declared.framer.Framer.TheInside.{Inside}

-- How the latest frame begins, of these first octets and so many; none where it has no octets, as no frame has.
abbrev pub begun_of : List ℕ → ℕ → Option Head
begun_of first size = if nat_lt 0 size then Some (record { octets = first; length = size }) else None

-- What a receiver makes of the latest frame's text: first its octets, without check, then what follows them.
abbrev pub octets_loaded : Inside → List ℕ
octets_loaded a = octets_behind a.lead a.end a.octets.items

abbrev pub framing_of : Inside → Framing
framing_of a =
    let left = to_give a.octets.items a.next a.end a.after in
    record { left = left; held = still_held left a.latest; begun = begun_of a.first a.latest; loaded = take a.latest (octets_loaded a); room = a.n201 }

pub record IsSound (a : Inside) : Type 0 where
  pub room : a.n201 ≤ 1024
  -- in fortieths: 48 for each octet of the longest frame and its check, 35 for the bits that were left, 1 for the flag
  pub space : 48 * a.n201 + 324 ≤ 40 * vec_len a.octets
  pub end : a.end ≤ vec_len a.octets
  pub next : a.next ≤ a.end
  pub latest : a.latest ≤ a.n201 + 4
  pub lead : a.lead < 8
  pub loaded : a.latest ≤ length (octets_loaded a)
  pub after : a.after.count < 8
