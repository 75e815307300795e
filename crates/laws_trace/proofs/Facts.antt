-- Small facts that several files cite: of tests, of lists, of names and of states.
use Rattle.laws_trace.proofs.Vocabulary.{◌≡◌, ℕ, ◌==◌, ◌&&◌, ◌||◌, not, Bool, true, false, cond, List, [], Option, Some, IfSome, sym, subst, arith, eq-eqb, true≢false, Service, same_service, State, state_number, is_multiple_frame, moves, ControlFrame, is_up}

-- A test that fails does not hold.
pub never : {A : Type 0} → false ≡ true → A
never e = absurd (true≢false (sym e))

pub not-so : (b : Bool) → not b ≡ true → b ≡ false
not-so b is = grind arith

pub only : (b : Bool) → (b || false) ≡ true → b ≡ true
only b is = grind arith

-- What holds of what is there.
pub some-of : {X : Type 0} (P : X → Type 0) (o : Option X) (x : X) → o ≡ Some x → IfSome o P → P x
some-of P o x is h = subst (λ o. IfSome o P) is h

-- Nothing, either way.
pub either-none : {A : Type 0} (b : Bool) → cond {A = List A} b [] [] ≡ []
either-none b = grind arith

pub as-busy : (b : Bool) (frames : List ControlFrame) → cond (cond b (not b) b) frames [] ≡ []
as-busy b frames = grind arith

pub its-own : (service : Service) (tei : ℕ) → (same_service service service && tei == tei) ≡ true
its-own service tei = grind (arith, eq-eqb)

-- A link is in no state 1, is up in states 7 and 8, and moves to no state that it is in.
pub not-one : (x : State) → (state_number x == 1) ≡ false
not-one x = grind arith

pub number-up : (x : State) → is_up (state_number x) ≡ is_multiple_frame x
number-up x = grind arith

pub same-state : (state : State) → moves state state ≡ false
same-state state = grind arith
