-- All items of a port but the last have been given, to the last bit; and each frame among them is long enough for one.
use Rattle.model_card.proofs.OfPorts.Vocabulary.{◌≡◌, ℕ, ◌+◌, ◌≤◌, ◌<◌, ◌⊎◌, inl, Bool, true, false, List, [], ◌∷◌, ◌++◌, length, Option, None, Some, IfSome, option_map, refl, cond, arith, length-append, ltb-true, length-drop, length-bits, All, All-nil, All-push, bits, Item, idle, frame, line_text, Config, Card, Port, given_in, is_due, item_of, meant, pull, with_item, with_octet, IsNotShort}
use Rattle.model_card.proofs.OfPorts.Vocabulary.{NextFrame, Taken, next_of, taken_not_short}
use Rattle.model_card.specs.Sound as cards
use Rattle.model_card.proofs.Steps.{has_lines, line_sound}
use Rattle.model_line.specs.Event as line
unfoldable use Rattle.model_line.specs.Machine.{answer as line_answer, takes_slot}
use Rattle.model_card.specs.ports.Port as port
use Rattle.model_card.proofs.OfPorts.Codec.{asked_at, said_is}
use Rattle.model_card.proofs.OfPorts.PortRuns.{IsKept}

-- ---- the last item

pub record HasLast (items : List Item) (given : List ℕ) : Type 0 where
  pub front : List Item
  pub last : Item
  pub items_are : items ≡ front ++ last ∷ []
  pub before : length (line_text front) ≤ length (bits given)

abbrev pub IsCut : List Item → List ℕ → Type 0
IsCut items given = (items ≡ []) ⊎ HasLast items given

-- an octet more has eight bits more
one_more : (given : List ℕ) (value : ℕ) → length (bits (given ++ value ∷ [])) ≡ length (bits given) + 8
one_more given value = omega (arith, length-bits (given ++ value ∷ []), length-bits given, length-append given (value ∷ []))

longer : (items : List Item) (given : List ℕ) (value : ℕ) → IsCut items given → IsCut items (given ++ value ∷ [])
longer items given value o = grind (arith, one_more)

-- where an item is due, an octet more than those given ends the items before it
ended : (p : Port) (value : ℕ) → is_due p ≡ true → length (line_text p.items) ≤ length (bits (p.given ++ value ∷ []))
ended p value due = grind (arith, ltb-true, length-drop, one_more)

cut_after : (n201 : ℕ) (e : port.Event) (p : Port) (ask : line.Event → line.Answer) → IsCut p.items p.given
    → let q = port.after e (option_map ask (port.meant n201 e p)) p in IsCut q.items q.given
cut_after n201 e p ask h = grind (arith, option_map, longer, ended)

-- ---- frames long enough

abbrev pub IsLongItem : Item → Type 0
IsLongItem idle = Unit {0}
IsLongItem (frame octets) = IsNotShort octets

item_long : (g : Option NextFrame) → IfSome g (λ next. IsNotShort next.octets) → IsLongItem (item_of g)
item_long g h = grind arith

long_after : (n201 : ℕ) (e : port.Event) (p : Port) (ask : line.Event → line.Answer) → IfSome (given_in (ask line.next)) (λ next. IsNotShort next.octets) → All IsLongItem p.items
    → All IsLongItem (port.after e (option_map ask (port.meant n201 e p)) p).items
long_after n201 pull p ask long h = go (is_due p)
  where
    go : (due : Bool) → All IsLongItem (with_octet (with_item (option_map ask (cond due (Some line.next) None)) p)).items
    go false = h
    go true = All-push IsLongItem p.items (item_of (given_in (ask line.next))) h (item_long (given_in (ask line.next)) long)
long_after n201 other p ask long h = h

taken_long : (o : Option Taken) → IfSome o (λ t. IsNotShort t.frame) → IfSome (option_map next_of o) (λ next. IsNotShort next.octets)
taken_long o h = grind arith

gives_long : (card : Card) (number : ℕ) → cards.IsSound card → number < card.config.lines → IfSome (given_in (asked_at card number line.next)) (λ next. IsNotShort next.octets)
unfolding line_answer takes_slot
gives_long card number s within = grind (arith, taken_long, taken_not_short, line_sound, has_lines)

-- ---- both

pub record IsOnItsWay (p : Port) : Type 0 where
  pub cut : IsCut p.items p.given
  pub long : All IsLongItem p.items

pub stays_on_its_way : (c : Config) → IsKept c IsOnItsWay
unfolding meant
stays_on_its_way c m e is s within h = grind (arith, asked_at, said_is, cut_after, long_after, gives_long)

pub begins_on_its_way : IsOnItsWay port.fresh_port
begins_on_its_way = record { cut = inl refl; long = All-nil IsLongItem }
