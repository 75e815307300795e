-- What is seen of an event with its answer, of the link of a service with a TEI.
use Rattle.laws_order.proofs.Vocabulary.{arith, ◌≡◌, ℕ, Bool, true, cond, List, [], append-nil, option_to_list, list_any, Refusal, Service, Config, request, next, Answer, refused, Line, notes_of, contents_in, is_data_of, is_granted, data_asked, frame_in, seen, frames_by, Request, data_noted, data_granted, ends_by_note, ends_by_request, ends_by, or-true}
use Rattle.model_line.specs.Event.{Event, told}
use Rattle.model_line.specs.Machine as lines

-- A call for the next frame, and nothing else, is answered with one.
abbrev pub Fits : Event → Answer → Type 0
Fits next (told t) = ⊥
Fits next (refused why) = ⊥
Fits other any = Unit {0}

pub fits : (c : Config) (e : Event) (l : Line) → Fits e (lines.answer c e l)
unfolding lines.answer
fits c e l = grind arith

pub same-frames : (a : Answer) → frames_by a ≡ frame_in a
same-frames a = grind arith

module _ (service : Service) (tei : ℕ) where
  abbrev pub noted_by : Answer → List (List ℕ)
  noted_by a = cond (list_any (is_data_of service tei) (notes_of a)) (option_to_list (contents_in a)) []

  pub noted-is : (e : Event) (a : Answer) → Fits e a → data_noted service tei (seen e a) ≡ noted_by a
  noted-is e a f = grind (arith, append-nil)

  abbrev pub asked_in : Event → Answer → List (List ℕ)
  asked_in (request r) a = cond (is_granted a) (data_asked service tei r) []
  asked_in other a = []

  pub granted-is : (e : Event) (a : Answer) → data_granted service tei (seen e a) ≡ asked_in e a
  granted-is e a = grind (arith, append-nil)

  abbrev Notes : Answer → Bool
  Notes a = list_any (ends_by_note service tei) (notes_of a)

  pub ends-is : (e : Event) (a : Answer) → Fits e a → Notes a ≡ true → list_any (ends_by service tei) (seen e a) ≡ true
  ends-is e a f h = grind (arith, or-true)

  pub request-ends : (r : Request) (a : Answer) → is_granted a ≡ true → ends_by_request service tei r ≡ true → list_any (ends_by service tei) (seen (request r) a) ≡ true
  request-ends r a g h = grind arith

  -- of a request that finds the pool full nothing is seen
  pub none-noted : (e : Event) (why : Refusal) → data_noted service tei (seen e (refused why)) ≡ []
  none-noted e why = grind arith

  pub none-granted : (e : Event) (why : Refusal) → data_granted service tei (seen e (refused why)) ≡ []
  none-granted e why = grind arith
