-- By how much an aim raises what a line may still send.
use Rattle.model_line.proofs.Vocabulary.{◌≡◌, ℕ, refl, arith, Service, Link, event-rises, Config, may_send, fresh_line, link_count, terms, IsInRange, LinkEvent, rises_price, rises_may_send}
use Rattle.model_line.proofs.Checks.{none-counted}
use Rattle.model_line.proofs.Ranges.{terms_in_range}
use Rattle.model_line.proofs.Sums.{Rise, all_begin}

-- What a link may send, of whatever TEI.
abbrev pub may_send_of : Config → Service → Link → ℕ
may_send_of c service x = rises_may_send (terms c service 0) x

abbrev pub price_of : Config → Service → ℕ → LinkEvent → Link → ℕ
price_of c service tei e x = rises_price (terms c service tei) e x

pub sends : (c : Config) → IsInRange c → Rise c (may_send_of c) (price_of c)
sends c ranged = record {
  begins = λ service. refl;
  link = λ service tei few e x sound. let own = event-rises (terms c service tei) (terms_in_range c ranged service tei few) x sound e in omega (arith, own);
}

-- a line that begins has nothing to send
pub fresh_may_send : (c : Config) → may_send c (fresh_line c) ≡ 0
fresh_may_send c = omega (arith, none-counted c.terminals, all_begin c (may_send_of c) (λ service. refl) 0 (link_count c))
