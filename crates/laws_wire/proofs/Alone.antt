-- Where all frames that are left at a station are those of one link, nothing else waits there.
use Rattle.laws_line.specs.Served.{HasNoMessage}
use Rattle.laws_wire.proofs.Vocabulary.{◌≡◌, ◌≢◌, ℕ, zero, suc, ◌+◌, ◌<◌, ◌≤◌, [], length, Some, None, ap, arith, ⊎_elim, cases_eq, option_map_or, place_of-is, Service, fresh, given, none-waits, number_within, service_at-number, next, gave, Line, link_number, link_count, link_at, link_in, place_in, terms_at, nothing-to_send, Endpoint, answered, own_link, sum_by-cons, to_go_at_link}
use Rattle.std.specs.List.{range_with_len, sum_by}
use Rattle.laws_line.proofs.Exact.{exactly-none, to-nothing, empty}
use Rattle.laws_wire.proofs.Answered.{gives-taken}
use Rattle.laws_wire.specs.Facing.{line_of, frames_at, own_frames_at}
use Rattle.model_line.specs.Sound.{IsSound}

-- a sum is no less than one, or two, of what it adds
one-of : (f : ℕ → ℕ) (a k n : ℕ) → a ≤ n → n < a + k → f n ≤ sum_by f (range_with_len a k)
one-of f a zero n low high = absurd (omega (arith, low, high))
one-of f a (suc k) n low high = grind (arith, one-of f (a + 1) k n, sum_by-cons, cases_eq)

two-of : (f : ℕ → ℕ) (a k n j : ℕ) → j ≢ n → a ≤ n → n < a + k → a ≤ j → j < a + k → f n + f j ≤ sum_by f (range_with_len a k)
two-of f a zero n j apart low high low' high' = absurd (omega (arith, low, high))
two-of f a (suc k) n j apart low high low' high' =
    let sum = sum_by-cons f a (range_with_len (a + 1) k) in
    ⊎_elim
    (λ same.
    let is : f n ≡ f a = ap f same in
    let rest = one-of f (a + 1) k j (omega (arith, low', apart, same)) (omega (arith, high')) in
    omega (arith, is, rest, sum))
    (λ other.
    ⊎_elim
    (λ same.
    let is : f j ≡ f a = ap f same in
    let rest = one-of f (a + 1) k n (omega (arith, low, other)) (omega (arith, high)) in
    omega (arith, is, rest, sum))
    (λ more.
    omega (arith, (two-of f (a + 1) k n j apart (omega (arith, low, other)) (omega (arith, high)) (omega (arith, low', more)) (omega (arith, high'))), sum))
    (cases_eq j a))
    (cases_eq n a)

module _ (service : Service) (tei place : ℕ) (s : Endpoint) (sound : IsSound s.card.config (line_of s)) (placed : place_in (line_of s) tei ≡ Some place) where
  abbrev l : Line
  l = line_of s

  abbrev number : ℕ
  number = link_number place service

  abbrev each : ℕ → ℕ
  each = to_go_at_link s.card.config l

  pub link-is : own_link service tei s ≡ link_in l service place
  link-is = ap (λ o. option_map_or (link_in l service) o fresh) placed

  few : number < link_count s.card.config
  few = let within = (place_of-is l.management.places tei place placed).0 in number_within place s.card.config.terminals service (omega (arith, within, sound.places))

  own-to-go : each number ≡ length (own_link service tei s).waiting + own_frames_at service tei s
  own-to-go = grind (arith, link-is, service_at-number)

  own-part : each number ≤ sum_by each (range_with_len 0 (link_count s.card.config))
  own-part = one-of each 0 (link_count s.card.config) number (omega arith) (omega (arith, few))

  -- so it is where nothing is given and nothing on its way
  pub still-alone : answered next s ≡ gave None → s.way ≡ [] → frames_at s ≡ own_frames_at service tei s
  still-alone none way = grind (arith, gives-taken, exactly-none, none-waits, own-part, own-to-go)

  module _ (alone : frames_at s ≡ own_frames_at service tei s) where
    pub no-way : s.way ≡ []
    no-way = empty s.way (omega (arith, alone, own-part, own-to-go))

    pub no-messages : HasNoMessage l
    no-messages = record {
      management = empty l.management.waiting (omega (arith, alone, own-part, own-to-go));
      own = empty l.own.waiting (omega (arith, alone, own-part, own-to-go));
    }

    pub no-units : l.units ≡ []
    no-units = empty l.units (omega (arith, alone, own-part, own-to-go))

    pub none-waiting : (own_link service tei s).waiting ≡ []
    none-waiting = empty (own_link service tei s).waiting (omega (arith, alone, own-part, own-to-go))

    pub none-other : (j : ℕ) → j < link_count s.card.config → j ≢ number → given (terms_at s.card.config j l) (link_at j l) ≡ None
    none-other j low other =
        let both = two-of each 0 (link_count s.card.config) number j other (omega arith) (omega (arith, few)) (omega arith) (omega (arith, low)) in
        nothing-to_send (terms_at s.card.config j l) (link_at j l) (to-nothing (terms_at s.card.config j l) (link_at j l) (omega (arith, both, alone, own-to-go)))
