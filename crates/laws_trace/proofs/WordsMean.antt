-- What the words mean that laws share with the machine: each computes.
use Rattle.laws_trace.proofs.Vocabulary.{◌≡◌, ℕ, ◌&&◌, not, flat_map, Option, is_some, le-ltb}
use Rattle.lapd_frame.specs.declared.addresses.Side.{Side}
use Rattle.model_line.specs.Line.{is_at}
use Rattle.laws_trace.specs.Managing.{manages}
use Rattle.model_line.specs.Event as line
use Rattle.model_card.specs.ports.Codec.{heard_by, octet_come}
use Rattle.model_card.specs.ports.Port as port
use Rattle.laws_trace.specs.Words.{WordsMeanThis, WordsOfOctetsMeanThis, heard_in, octet_in}
use Rattle.laws_trace.proofs.Vocabulary.{arith}

terminal-at : (side : Side) (seed : Option ℕ) → is_at side seed ≡ (not (manages side) && is_some seed)
terminal-at side seed = grind arith

pub words-mean-this : WordsMeanThis
words-mean-this = grind (arith, terminal-at, le-ltb)

octet-in : (what : port.Event) → octet_come what ≡ octet_in what
octet-in what = grind arith

heard-in : (what : line.Event) → heard_by what ≡ heard_in what
heard-in what = grind arith

pub words-of-octets-mean-this : WordsOfOctetsMeanThis
words-of-octets-mean-this = grind (arith, flat_map, octet-in, heard-in)
