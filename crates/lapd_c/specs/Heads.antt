-- How a frame begins, as numbers.
use Rattle.std.specs.Prelude.{[], ◌∷◌, Option, Some, None}
use Rattle.model_bits.specs.declared.heads.Head.{Head}
use Rattle.lapd_c.specs.declared.plain.heads.PlainHead.{PlainHead}
use Rattle.lapd_c.specs.Reserved.{unused}

abbrev pub plain_head : Option Head → PlainHead
plain_head None = record { length = 0; octets = 0 ∷ 0 ∷ 0 ∷ 0 ∷ []; reserved = unused 2 }
plain_head (Some head) = record { length = head.length; octets = head.octets; reserved = unused 2 }
