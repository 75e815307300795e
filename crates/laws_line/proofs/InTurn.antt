-- The first link of a round that has something to give is the one that is served.
use Rattle.laws_line.proofs.Vocabulary.{arith, ◌≡◌, ℕ, ◌+◌, List, [], ◌∷◌, ◌++◌, Option, Some, None, refl, ap, option_or, All-nil, All-cons, Config, Line, Taken, message_taken, unit_taken, link_taken, first_taken, round, All, LinksTakeTurns, option_map}

module _ (c : Config) (l : Line) where
  record First (ns : List ℕ) (t : Taken) : Type 0 where
    number : ℕ
    before : List ℕ
    behind : List ℕ
    place : ns ≡ before ++ number ∷ behind
    passed : All (λ other. link_taken c l other ≡ None) before
    given : link_taken c l number ≡ Some t

  later : (n : ℕ) (ns : List ℕ) (t : Taken) → link_taken c l n ≡ None → First ns t → First (n ∷ ns) t
  later n ns t none f = record {
    number = f.number;
    before = n ∷ f.before;
    behind = f.behind;
    place = ap (λ xs. n ∷ xs) f.place;
    passed = All-cons (λ other. link_taken c l other ≡ None) n f.before none f.passed;
    given = f.given;
  }

  at-once : (n : ℕ) (ns : List ℕ) (t : Taken) → link_taken c l n ≡ Some t → First (n ∷ ns) t
  at-once n ns t some = record {
    number = n;
    before = [];
    behind = ns;
    place = refl;
    passed = All-nil (λ other. link_taken c l other ≡ None);
    given = some;
  }

  first : (ns : List ℕ) (t : Taken) → first_taken c l ns ≡ Some t → First ns t
  first [] t e = cc
  first (n ∷ ns) t e = grind (arith, later, at-once, (first ns t))

  turned : (number : ℕ) (t : Taken) → link_taken c l number ≡ Some t → t.line.turn ≡ number + 1
  turned number t e = grind (arith, option_map)

  takes : (message unit links : Option Taken) (t : Taken) → message ≡ None → unit ≡ None → option_or message (option_or unit links) ≡ Some t → links ≡ Some t
  takes message unit links t m u e = grind arith

pub links_take_turns : LinksTakeTurns
links_take_turns c l t message unit e =
    let f = first c l (round c l) t (takes c l (message_taken c l) (unit_taken c l) (first_taken c l (round c l)) t message unit e) in
    (f.number, record { before = f.before; behind = f.behind; place = f.place; passed = f.passed; given = f.given; turn = turned c l f.number t f.given })
