-- What a pull takes: the entities and the line without it.
use Rattle.lapd_line.proofs.Vocabulary.{arith, ◌≡◌, List, Option, Some, None, ◌∙◌, subst, option_or, Order, Owned, Store, Config, Line, Taken, LinkLayer, LayerStands, Loading, Took, Takes}

-- what one source gives, or else another
pub takes_or : {first second : Config → Line → Option Taken} {a b c : LinkLayer} {s t u : Store} {f g h : Loading} {orders : Option (List Order)}
    → Takes first a s f b t g None → Takes second b t g c u h orders
    → Takes (λ config m. option_or (first config m) (second config m)) a s f c u h orders
takes_or {first} {second} {a} {b} {c} {s} {t} {u} {f} {g} {h} {orders} none then = record {
  config = then.config ∙ none.config;
  limits = record { slots = then.limits.slots ∙ none.limits.slots; width = then.limits.width ∙ none.limits.width };
  room = then.room ∙ none.room;
  reference = then.reference ∙ none.reference;
  took = λ others m st. go others m (first a.config m) (none.took others m st);
}
  where
    again : (others : List Owned) (m : Line) → LayerStands b t others m → g ≡ f → Took (second a.config m) orders m c u others f h
    again others m st same = grind arith

    go : (others : List Owned) (m : Line) (o : Option Taken) → Took o None m b t others f g → Took (option_or o (second a.config m)) orders m c u others f h
    go others m o h = grind (arith, again)

pub takes_first : (second : Config → Line → Option Taken) {first : Config → Line → Option Taken} {a b : LinkLayer} {s t : Store} {f g : Loading} {orders : List Order}
    → Takes first a s f b t g (Some orders) → Takes (λ config m. option_or (first config m) (second config m)) a s f b t g (Some orders)
takes_first second {first} {a} {b} {s} {t} {f} {g} {orders} some = record {
  config = some.config;
  limits = some.limits;
  room = some.room;
  reference = some.reference;
  took = λ others m st. go others m (first a.config m) (some.took others m st);
}
  where
    go : (others : List Owned) (m : Line) (o : Option Taken) → Took o (Some orders) m b t others f g → Took (option_or o (second a.config m)) (Some orders) m b t others f g
    go others m o h = grind arith

-- the same of two sources that are the same for every past that stands
pub takes_as : {first second : Config → Line → Option Taken} {a b : LinkLayer} {s t : Store} {f g : Loading} {orders : Option (List Order)}
    → ((others : List Owned) (m : Line) → LayerStands a s others m → first a.config m ≡ second a.config m)
    → Takes first a s f b t g orders → Takes second a s f b t g orders
takes_as {first} {second} {a} {b} {s} {t} {f} {g} {orders} same h = record {
  config = h.config;
  limits = h.limits;
  room = h.room;
  reference = h.reference;
  took = λ others m st. subst (λ k. Took k orders m b t others f g) (same others m st) (h.took others m st);
}
