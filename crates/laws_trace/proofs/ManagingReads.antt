-- What a terminal says, as the observer and TEI management tell it apart, and rows that differ by the reading.
use Rattle.laws_trace.proofs.Vocabulary.{◌≡◌, ℕ, ◌+◌, ◌*◌, ◌/◌, ◌%◌, ◌≤◌, ◌==◌, ◌&&◌, ◌||◌, Bool, true, false, cond, List, [], ◌∷◌, length, list_any, nat_le, Option, Some, None, refl, ap, ◌∙◌, arith, Message}
use Rattle.laws_trace.proofs.Vocabulary.{IdentityDenied, Config, eqb-true, Managed, owes, responded}
use Rattle.model_teis.specs.network.Rows as rows
use Rattle.lapd_frame.specs.Readings.{by_reading}
use Rattle.lapd_frame.specs.declared.readings.Reading.{Reading}
use Rattle.lapd_frame.specs.declared.readings.Reading.TheVariants.{Profile, AnnexB}
use Rattle.model_teis.specs.Information.{heard_by, looked_at}
use Rattle.model_teis.specs.network.Messages.{heard_in, heard_of_type, responses_in}
use Rattle.laws_trace.specs.Managing.{asks, by_type, ends, is_given, is_one, requested, verified}
use Rattle.std.proofs.lemmas.List.{take_all}
use Rattle.std.specs.Option.{option_and_then}

pub any-same : {X : Type 0} (f g : X → Bool) → ((x : X) → f x ≡ g x) → (xs : List X) → list_any f xs ≡ list_any g xs
any-same f g h [] = refl
any-same f g h (x ∷ xs) = ap (λ b. b || list_any f xs) (h x) ∙ ap (λ b. g x || b) (any-same f g h xs)

-- Fewer than five octets are no message, and name no Ai.
few-looked : (r : Reading) (info : List ℕ) → length info ≤ 4 → looked_at r info ≡ info
few-looked Profile info few = refl
few-looked AnnexB info few = take_all 5 info (omega (arith, few))

few-none : (info : List ℕ) → length info ≤ 4 → heard_by heard_of_type info ≡ None
few-none [] few = refl
few-none (a ∷ []) few = refl
few-none (a ∷ b ∷ []) few = refl
few-none (a ∷ b ∷ d ∷ []) few = refl
few-none (a ∷ b ∷ d ∷ e ∷ []) few = refl
few-none (a ∷ b ∷ d ∷ e ∷ f ∷ more) few = absurd (omega (arith, few))

pub few-heard : (r : Reading) (info : List ℕ) → length info ≤ 4 → heard_in r info ≡ None
few-heard r info few = ap (heard_by heard_of_type) (few-looked r info few) ∙ few-none info few

none-either : (b : Bool) → cond {A = Option (List ℕ)} b None None ≡ None
none-either true = refl
none-either false = refl

pub few-named : (info : List ℕ) → length info ≤ 4 → responses_in info ≡ None
few-named [] few = refl
few-named (a ∷ []) few = refl
few-named (a ∷ b ∷ []) few = refl
few-named (a ∷ b ∷ d ∷ []) few = refl
few-named (a ∷ b ∷ d ∷ e ∷ []) few = none-either (a == 0x0F && e == 5)
few-named (a ∷ b ∷ d ∷ e ∷ f ∷ more) few = absurd (omega (arith, few))

-- Five or more are read as the observer reads them.
never : {X : Type 0} (b : Bool) (x y : X) → y ≡ cond (b && false) x y
never true x y = refl
never false x y = refl

pub heard-is : (c : Config) (a high low type action : ℕ) (more : List ℕ)
    → heard_in c.reading (a ∷ high ∷ low ∷ type ∷ action ∷ more) ≡ cond (a == 0x0F && is_one c action more) (heard_of_type type (256 * high + low) (action / 2)) None
heard-is c a high low type action more = go c.reading more
  where
    go : (r : Reading) (more : List ℕ)
        → heard_in r (a ∷ high ∷ low ∷ type ∷ action ∷ more)
        ≡ cond (a == 0x0F && (by_reading r (ends more) true && action % 2 == 1)) (heard_of_type type (256 * high + low) (action / 2)) None
    go Profile [] = refl
    go Profile (x ∷ xs) = never (a == 0x0F) (heard_of_type type (256 * high + low) (action / 2)) None
    go AnnexB more = refl

pub by-both : {X Y : Type 0} (P : X → Y → Type 0) (b : Bool) (u v : X) (x y : Y) → P u x → P v y → P (cond b u v) (cond b x y)
by-both P b u v x y h k = grind arith

-- So it is in both readings.
pub in-both : {X Y : Type 0} (P : X → Y → Type 0) (q r : Reading) → q ≡ r → (u v : X) (x y : Y) → P u x → P v y → P (by_reading r u v) (by_reading q x y)
in-both P q r same u v x y h k = grind arith

-- What a terminal says with one Ai, by its type, and as TEI management tells it apart.
module _ (c : Config) where
  pub one-by-one : (type ri action : ℕ) (w : Managed)
      → by_type c w type ri action
      ≡ cond (type == 1 && action == 127) (by_reading c.reading (Some (asks c ri w)) (cond (list_any (is_given ri) w.owed) None (Some (asks c ri w))))
      (cond (type == 1 && nat_le 64 action && nat_le action 126) (by_reading c.reading None (Some (owes (IdentityDenied ri action) w)))
      (cond (type == 5) (option_and_then (responded action w) w.check) (cond (type == 7) (verified c action w) None)))
  one-by-one type ri action w = grind (arith, requested, nat_le, eqb-true)

pub given-same : (ri : ℕ) (messages : List Message) → list_any (is_given ri) messages ≡ list_any (rows.assigns_for ri) messages
given-same ri messages = any-same (is_given ri) (rows.assigns_for ri) (λ message. grind arith) messages
