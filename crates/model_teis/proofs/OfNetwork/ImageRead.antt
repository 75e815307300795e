-- TEI management of the network's side is read from an image: its parts and the whole, and what a message of either side is.
use Rattle.std.proofs.Common.{arith, ◌≡◌, ℕ, suc, ◌+◌, ◌*◌, ◌/◌, ◌%◌, ◌≤◌, ◌==◌, List, [], ◌∷◌, ◌++◌, length, Option, Some, None, refl, sym, ap, ◌∙◌, if◌then◌else◌}
use Rattle.std.specs.Prelude.{All, Bool, map}
use Rattle.model_bits.specs.Bits.{low_bits, number_of}
use Rattle.model_bits.proofs.BitLemmas.{low_bits-number_of, low_bits-number_of_n}
use Rattle.model_teis.specs.network.Machine.{Management}
use Rattle.model_teis.specs.declared.network.check.Check.{Check}
use Rattle.model_teis.specs.declared.network.check.Period.{Period}
use Rattle.model_teis.specs.declared.network.check.Period.TheVariants.{First, Second, Settling}
use Rattle.model_teis.specs.declared.network.remembered.Remembered.{Remembered}
use Rattle.model_teis.specs.Information.{information}
use Rattle.model_teis.specs.network.Messages.{information_of}
use Rattle.model_teis.specs.declared.network.messages.Message.{Message}
use Rattle.model_teis.specs.declared.network.messages.Message.TheVariants.{IdentityAssigned, IdentityDenied, IdentityCheckRequest, IdentityRemove}
use Rattle.model_teis.specs.Table.{IsAt, Places}
use Rattle.lapd_image.specs.Numbers.{number, list_of}
use Rattle.lapd_image.proofs.Reading.{heads, tails, split, Reads, number-read, list-read, all-unit}
use Rattle.model_teis.specs.TableImage.{place}
use Rattle.model_teis.specs.network.Image.{HasRi, remembered, period_number, check, management}

-- as many bits as make one number
pub bits-read : (xs ys : List Bool) → length xs ≡ length ys → number_of xs ≡ number_of ys → xs ≡ ys
bits-read xs ys l e =
    sym (low_bits-number_of_n (length ys) xs l) ∙ ap (λ n. low_bits (length ys) n) e ∙ low_bits-number_of ys

-- a place of the table, whose TEI is at most 126
pub place-read : (o p : Option ℕ) → ((tei : ℕ) → o ≡ Some tei → tei ≤ 126) → ((tei : ℕ) → p ≡ Some tei → tei ≤ 126) → place o ≡ place p → o ≡ p
place-read None None few also e = refl
place-read None (Some tei) few also e = let low : tei ≤ 126 = also tei refl in absurd (omega (arith, e, low))
place-read (Some tei) None few also e = let low : tei ≤ 126 = few tei refl in absurd (omega (arith, e, low))
place-read (Some tei) (Some other) few also e = ap (λ (n : ℕ). Some n) e

-- the table
pub places-read : (xs ys : Places) → ((i tei : ℕ) → IsAt xs i tei → tei ≤ 126) → ((i tei : ℕ) → IsAt ys i tei → tei ≤ 126) → map place xs ≡ map place ys → xs ≡ ys
places-read [] [] few also e = refl
places-read [] (y ∷ ys) few also e = let l = ap (λ (l : List ℕ). length l) e in absurd (omega (arith, l))
places-read (x ∷ xs) [] few also e = let l = ap (λ (l : List ℕ). length l) e in absurd (omega (arith, l))
places-read (x ∷ xs) (y ∷ ys) few also e =
    let one : x ≡ y = place-read x y (few 0) (also 0) (heads e) in
    let rest : xs ≡ ys = places-read xs ys (λ i. few (suc i)) (λ i. also (suc i)) (tails e) in
    λ i. one i ∷ rest i

-- an assignment that is remembered
pub remembered-read : Reads HasRi (λ (x y : Remembered). x ≡ y) remembered
remembered-read x y r s few also e =
    let ri : (x.ri ≡ y.ri) × (x.tei ∷ r ≡ y.tei ∷ s) = number-read 2 x.ri y.ri _ _ few also (split (number 2 x.ri) (x.tei ∷ []) (number 2 y.ri) (y.tei ∷ []) r s e) in
    let tei : x.tei ≡ y.tei = heads ri.1 in
    ((λ i. record { ri = ri.0 i; tei = tei i }), tails ri.1)

-- a period by its number
pub period-read : (p q : Period) → period_number p ≡ period_number q → p ≡ q
period-read First First e = refl
period-read First Second e = absurd (omega (arith, e))
period-read First Settling e = absurd (omega (arith, e))
period-read Second First e = absurd (omega (arith, e))
period-read Second Second e = refl
period-read Second Settling e = absurd (omega (arith, e))
period-read Settling First e = absurd (omega (arith, e))
period-read Settling Second e = absurd (omega (arith, e))
period-read Settling Settling e = refl

pub period-some : (p : Period) → 1 ≤ period_number p
period-some First = omega arith
period-some Second = omega arith
period-some Settling = omega arith

-- the check
pub check-read : Reads (λ (c : Option Check). Unit {0}) (λ (c d : Option Check). c ≡ d) check
check-read None None r s few also e = (refl, tails e)
check-read None (Some d) r s few also e = absurd (omega (arith, heads e, period-some d.period))
check-read (Some c) None r s few also e = absurd (omega (arith, heads e, period-some c.period))
check-read (Some c) (Some d) r s few also e =
    let e1 = tails e in
    let e2 = tails e1 in
    let e3 = tails e2 in
    let period : c.period ≡ d.period = period-read c.period d.period (heads e) in
    let tei : c.tei ≡ d.tei = heads e1 in
    let first : c.first ≡ d.first = heads e2 in
    let second : c.second ≡ d.second = heads e3 in
    ((λ i. Some (record { tei = tei i; period = period i; first = first i; second = second i })), tails e3)

-- the information field of a message
pub record AreOneMessage (ri type action ri' type' action' : ℕ) (r s : List ℕ) : Type 0 where
  pub of_ri : ri ≡ ri'
  pub of_type : type ≡ type'
  pub of_action : action ≡ action'
  pub others : r ≡ s

pub information-read : (ri type action ri' type' action' : ℕ) (r s : List ℕ) → information ri type action ++ r ≡ information ri' type' action' ++ s
    → AreOneMessage ri type action ri' type' action' r s
information-read ri type action ri' type' action' r s e =
    let e1 = tails e in
    let e2 = tails e1 in
    let e3 = tails e2 in
    let e4 = tails e3 in
    let high : ri / 256 ≡ ri' / 256 = heads e1 in
    let low : ri % 256 ≡ ri' % 256 = heads e2 in
    let last : 2 * action + 1 ≡ 2 * action' + 1 = heads e4 in
    record { of_ri = omega (arith, high, low); of_type = heads e3; of_action = omega (arith, last); others = tails e4 }

-- A message of either side is read by its type, its Ri and its action indicator.
module _ {M : Type 0} (field : M → List ℕ) (from : ℕ → ℕ → ℕ → M) where
  pub record IsSpelled (m : M) : Type 0 where
    pub ri : ℕ
    pub type : ℕ
    pub action : ℕ
    pub octets : field m ≡ information ri type action
    pub back : from ri type action ≡ m

  pub message-read : ((m : M) → IsSpelled m) → Reads (λ (m : M). Unit {0}) (λ (m n : M). m ≡ n) field
  message-read spelled m n r s few also e =
      let a : IsSpelled m = spelled m in
      let b : IsSpelled n = spelled n in
      let same : AreOneMessage a.ri a.type a.action b.ri b.type b.action r s = information-read a.ri a.type a.action b.ri b.type b.action r s
      (sym (ap (λ (l : List ℕ). l ++ r) a.octets) ∙ e ∙ ap (λ (l : List ℕ). l ++ s) b.octets) in
      (sym a.back ∙ (λ i. from (same.of_ri i) (same.of_type i) (same.of_action i)) ∙ b.back, same.others)

-- the network's
abbrev pub message_from : ℕ → ℕ → ℕ → Message
message_from ri type action =
    if type == 2 then IdentityAssigned ri action else if type == 3 then IdentityDenied ri action
    else if type == 4 then IdentityCheckRequest action else IdentityRemove action

pub message-spelled : (m : Message) → IsSpelled information_of message_from m
message-spelled (IdentityAssigned ri tei) = record { ri = ri; type = 2; action = tei; octets = refl; back = refl }
message-spelled (IdentityDenied ri tei) = record { ri = ri; type = 3; action = tei; octets = refl; back = refl }
message-spelled (IdentityCheckRequest tei) = record { ri = 0; type = 4; action = tei; octets = refl; back = refl }
message-spelled (IdentityRemove tei) = record { ri = 0; type = 6; action = tei; octets = refl; back = refl }

-- what the network's side has beside the table
pub management-read : (m n : Management) (r s : List ℕ) → m.reading ≡ n.reading → m.places ≡ n.places → length m.to_check ≡ length n.to_check
    → All HasRi m.remembered → All HasRi n.remembered → management m ++ r ≡ management n ++ s → (m ≡ n) × (r ≡ s)
management-read m n r s reading places count few also e =
    let memory : (m.remembered ≡ n.remembered) × _ = list-read HasRi remembered remembered-read m.remembered n.remembered _ _ few also (split (list_of remembered m.remembered) _ (list_of remembered n.remembered) _ r s e) in
    let checked : (m.check ≡ n.check) × _ = check-read m.check n.check _ _ tt tt (split (check m.check) _ (check n.check) _ r s memory.1) in
    let due : m.to_check ≡ n.to_check = bits-read m.to_check n.to_check count (heads checked.1) in
    let queue : (m.waiting ≡ n.waiting) × (r ≡ s) = list-read (λ (x : Message). Unit {0}) information_of (message-read information_of message_from message-spelled) m.waiting n.waiting r s (all-unit m.waiting) (all-unit n.waiting) (tails checked.1) in
    ((λ i. record { reading = reading i; places = places i; remembered = memory.0 i; check = checked.0 i; to_check = due i; waiting = queue.0 i }), queue.1)
