-- A port goes on with each event of its line.
use Rattle.model_card.proofs.OfPorts.Vocabulary.{arith, ◌≡◌, ℕ, false, List, [], ◌∷◌, ◌++◌, length, flat_map, Option, None, option_map, option_map_or, option_to_list, refl, ap, ◌∙◌, append-nil, append_assoc, ltb-false, Item, idle, frame, Port, octet, pull, told, answer_of, given_in, is_due, left_of, GoesOn, IsTextOf, frames_among, heard_by, octet_come, octet_pulled, octets_of, nothing}
use Rattle.model_bits.specs.Stream as stream
use Rattle.model_line.specs.Event as line
use Rattle.model_card.specs.ports.Port as port
use Rattle.model_card.proofs.OfPorts.Gains.{heard_with}
use Rattle.model_card.proofs.OfPorts.TextGoesOn.{IsReady, one_given, one_item}

-- A line that answers each event, and gives a frame where it is called for the next one alone.
pub record GivesAtNext (ask : line.Event → line.Answer) : Type 0 where
  pub hears : (e : stream.Event) → given_in (ask (line.hears e)) ≡ None
  pub expiry : (timer : _) → given_in (ask (line.expiry timer)) ≡ None
  pub request : (r : _) → given_in (ask (line.request r)) ≡ None

-- What is heard and given where an event means this, if it means something.
abbrev pub heard_in_meaning : Option line.Event → List stream.Event
heard_in_meaning o = flat_map heard_by (option_to_list o)

abbrev pub frame_given : (line.Event → line.Answer) → line.Event → List (List ℕ)
frame_given ask f = option_to_list (option_map octets_of (given_in (ask f)))

abbrev pub given_in_meaning : (line.Event → line.Answer) → Option line.Event → List (List ℕ)
given_in_meaning ask o = flat_map (frame_given ask) (option_to_list o)

-- one event
abbrev pub GoesOnBy : ℕ → port.Event → Port → (line.Event → line.Answer) → Type 0
GoesOnBy n201 e p ask =
    let o = port.meant n201 e p in
    let said = option_map ask o in
    GoesOn n201 p (port.after e said p) (octet_come e) (heard_in_meaning o) (octet_pulled (port.answer e said p)) (given_in_meaning ask o)

-- what is told gives no octet
quiet : (o : Option line.Answer) → octet_pulled (option_map_or answer_of o (told nothing)) ≡ []
quiet o = grind arith

pub stays : (n201 : ℕ) (p : Port) → GoesOn n201 p p [] [] [] []
stays n201 p = grind (arith, append-nil)

octet_goes_on : (n201 value : ℕ) (p : Port) (ask : line.Event → line.Answer) → GivesAtNext ask → GoesOnBy n201 (octet value) p ask
octet_goes_on n201 value p ask h = grind (arith, heard_with, append-nil, quiet, option_map, option_to_list)

pub ready_where : (p : Port) → IsTextOf p → is_due p ≡ false → IsReady p
ready_where p h e = record { text = h.text; enough = ltb-false (length (left_of p)) 8 e }

pub port_goes_on : (n201 : ℕ) (e : port.Event) (p : Port) (ask : line.Event → line.Answer) → GivesAtNext ask → GoesOnBy n201 e p ask
port_goes_on n201 (octet value) p ask h = octet_goes_on n201 value p ask h
port_goes_on n201 (port.expiry timer) p ask h = grind (arith, quiet, append-nil)
port_goes_on n201 (port.request r) p ask h = grind (arith, quiet, append-nil)
port_goes_on n201 pull p ask h = grind (arith, append-nil, one_given, ready_where, one_item)

-- ---- one after the other

pub frames_among-append : (xs ys : List Item) → frames_among (xs ++ ys) ≡ frames_among xs ++ frames_among ys
frames_among-append [] ys = refl
frames_among-append (idle ∷ xs) ys = frames_among-append xs ys
frames_among-append (frame octets ∷ xs) ys = ap (λ fs. octets ∷ fs) (frames_among-append xs ys)

-- two beginnings, one after the other
pub onward : {X : Type 0} (a b c xs ys : List X) → b ≡ a ++ xs → c ≡ b ++ ys → c ≡ a ++ (xs ++ ys)
onward a b c xs ys e f = f ∙ ap (λ l. l ++ ys) e ∙ append_assoc a xs ys

pub both_go_on : {n201 : ℕ} {a b c : Port} {os ps rs ts : List ℕ} {hs is : List stream.Event} {fs gs : List (List ℕ)}
    → GoesOn n201 a b os hs rs fs → GoesOn n201 b c ps is ts gs → GoesOn n201 a c (os ++ ps) (hs ++ is) (rs ++ ts) (fs ++ gs)
both_go_on {n201} {a} {b} {c} {os} {ps} {rs} {ts} {hs} {is} {fs} {gs} x y = record {
  received = onward a.received b.received c.received os ps x.received y.received;
  heard = onward (stream.heard_in n201 a.received) (stream.heard_in n201 b.received) (stream.heard_in n201 c.received) hs is x.heard y.heard;
  items = x.items ++ y.items;
  put = onward a.items b.items c.items x.items y.items x.put y.put;
  given = onward a.given b.given c.given rs ts x.given y.given;
  frames = frames_among-append x.items y.items ∙ ap (λ l. l ++ frames_among y.items) x.frames ∙ ap (λ l. fs ++ l) y.frames;
  text = λ h. y.text (x.text h);
}
