-- What is due is delivered, and is noted once.
use Rattle.laws_link.proofs.Vocabulary.{◌≡◌, ℕ, ◌≤◌, Bool, true, false, cond, ◌||◌, List, [], ◌∷◌, length, Option, Some, None, is_some, option_to_list, refl, sym, ap, ◌∙◌, arith, count_by, nat_lt, list_any, or_parts, sum_by-cons, sum_by_push, none-some, Seq, Control, Information, Ui, Note, State, Terms, information_of, MayEstablish, restarts, Link, is_data, is_unit, IsSound, Course, begun, Step}
use Rattle.laws_link.proofs.Vocabulary.{event-delivers, event-tells, contents_heard, unit_heard, within, data_due, IsNotedOnce, acknowledged_by_information_in_7, Event, course, frame_in, told, by_number, both_ways}
use Rattle.model_link.specs.MultipleFrame
use Rattle.laws_link.proofs.Restarts.{establishes}
use Rattle.laws_link.proofs.Delivered.{delivered-was-heard}
use Rattle.laws_link.proofs.Keeping.{event-unit}

-- What is delivered is what is due.
module _ (t : Terms) (l : Link) where
  establishing : (control : Control) (octets : List ℕ) → MayEstablish control → information_of control octets ≡ None
  establishing control octets may = grind arith

  none-due : (e : Event) → restarts t e l ≡ true → data_due t e l ≡ None
  none-due e begins = grind (arith, establishing, establishes)

  pub data-is : (e : Event) → (told t e l).delivered ≡ data_due t e l
  data-is e = grind (arith, event-delivers, none-due)

-- How often something is noted, by whether it is.
pub none-counted : (p : Note → Bool) (ns : List Note) → list_any p ns ≡ false → count_by p ns ≡ 0
none-counted p [] e = refl
none-counted p (n ∷ ns) e = grind (arith, or_parts, sum_by-cons, (none-counted p ns))

some-counted : (p : Note → Bool) (ns : List Note) → list_any p ns ≡ true → 1 ≤ count_by p ns
some-counted p [] e = absurd (cc)
some-counted p (n ∷ ns) e = go (p n) refl e (λ any. some-counted p ns any)
  where
    go : (b : Bool) → p n ≡ b → (b || list_any p ns) ≡ true → (list_any p ns ≡ true → 1 ≤ count_by p ns) → 1 ≤ count_by p (n ∷ ns)
    go true is any more =
        let one : cond {A = ℕ} (p n) 1 0 ≡ 1 = ap (λ b. cond {A = ℕ} b 1 0) is in
        omega (arith, one, sum_by-cons (λ n. cond (p n) 1 0) n ns)
    go false is any more = let rest = more any in omega (arith, rest, sum_by-cons (λ n. cond (p n) 1 0) n ns)

once : (p : Note → Bool) (ns : List Note) (o : Option (List ℕ)) → list_any p ns ≡ is_some o
    → ((contents : List ℕ) → o ≡ Some contents → count_by p ns ≤ 1) → count_by p ns ≡ length (option_to_list o)
once p ns None e few = none-counted p ns e
once p ns (Some contents) e few = let one = few contents refl in let some = some-counted p ns e in omega (arith, one, some)

pub within-is : (n : ℕ) (o : Option (List ℕ)) (contents : List ℕ) → within n o ≡ Some contents → o ≡ Some contents
within-is n o contents e = grind (arith, none-some)

-- An I-frame has one note of data at most, and a UI one of unit data.
module _ (t : Terms) (l : Link) where
  abbrev AtMostOne : Course → Type 0
  AtMostOne c = count_by is_data c.notes ≤ 1

  by-number : (nr : Seq) (f : ℕ → Step) → ((n : ℕ) (c : Course) → (f n c).notes ≡ c.notes) → (c : Course) → AtMostOne c → AtMostOne (by_number t nr f c)
  by-number nr f keeps c few = grind (arith, sum_by_push)

  contents : (ns : Seq) (p : Bool) (octets : List ℕ) → AtMostOne (MultipleFrame.contents_in_7_8 t ns p octets (begun l))
  contents ns p octets = grind (arith, both_ways)

  information : (ns nr : Seq) (p : Bool) (octets : List ℕ) (f : ℕ → Step) → ((n : ℕ) (c : Course) → (f n c).notes ≡ c.notes)
      → AtMostOne (MultipleFrame.information_in_7_8 t ns nr p octets f (begun l))
  information ns nr p octets f keeps = grind (arith, both_ways, nat_lt, by-number, contents)

  keeps-in-7 : (n : ℕ) (c : Course) → (acknowledged_by_information_in_7 n c).notes ≡ c.notes
  keeps-in-7 n c = grind (arith, both_ways)

  i-frame : (here : State) (b : Bool) (octets : List ℕ) (ns nr : Seq) (p : Bool) → AtMostOne (frame_in here t b octets (Information ns nr p) (begun l))
  i-frame here b octets ns nr p = grind (arith, information, keeps-in-7)

  data-few : (e : Event) (contents : List ℕ) → contents_heard e ≡ Some contents → AtMostOne (course t e l)
  data-few e contents h = grind (arith, contents, i-frame, none-some)

  abbrev OneUnit : Course → Type 0
  OneUnit c = count_by is_unit c.notes ≤ 1

  ui-frame : (here : State) (b : Bool) (octets : List ℕ) (p : Bool) → OneUnit (frame_in here t b octets (Ui p) (begun l))
  ui-frame here b octets p = grind (arith, both_ways, nat_lt)

  unit-few : (e : Event) (contents : List ℕ) → unit_heard e ≡ Some contents → OneUnit (course t e l)
  unit-few e contents h = grind (arith, ui-frame, none-some)

  pub noted-once : IsSound t l → (e : Event) → IsNotedOnce (told t e l)
  noted-once s e = record {
    contents = once is_data (told t e l).notes (told t e l).delivered (event-tells t e l).1
        (λ contents is. data-few e contents (delivered-was-heard t l e contents is));
    unit = once is_unit (told t e l).notes (told t e l).unit (event-tells t e l).3
        (λ contents is. unit-few e contents (within-is t.n201 (unit_heard e) contents (sym (event-unit t l s e) ∙ is)));
  }
