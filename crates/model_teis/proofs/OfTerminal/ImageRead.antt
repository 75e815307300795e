-- What a terminal has of TEI management beside the table is read from an image.
use Rattle.std.proofs.Common.{arith, ◌≡◌, ℕ, ◌<◌, ◌==◌, List, ◌++◌, Option, Some, None, refl, if◌then◌else◌}
use Rattle.std.specs.Prelude.{IfSome}
use Rattle.lapd_image.specs.Numbers.{number}
use Rattle.lapd_image.proofs.Reading.{heads, tails, split, Reads, number-read, list-read, all-unit}
use Rattle.model_teis.proofs.OfNetwork.ImageRead.{IsSpelled, message-read}
use Rattle.model_teis.specs.terminal.Image.{procedure, beside_table}
use Rattle.model_teis.specs.terminal.Machine.{Procedure, Asking, Verifying}
use Rattle.model_teis.specs.terminal.Messages.{Message, IdentityRequest, IdentityCheckResponse, IdentityVerify, information_of}

-- A message is read by its type, its Ri and its action indicator.
abbrev pub message_from : ℕ → ℕ → ℕ → Message
message_from ri type action =
    if type == 1 then IdentityRequest ri else if type == 5 then IdentityCheckResponse ri action
    else IdentityVerify action

pub message-spelled : (m : Message) → IsSpelled information_of message_from m
message-spelled (IdentityRequest ri) = record { ri = ri; type = 1; action = 127; octets = refl; back = refl }
message-spelled (IdentityCheckResponse ri tei) = record { ri = ri; type = 5; action = tei; octets = refl; back = refl }
message-spelled (IdentityVerify tei) = record { ri = 0; type = 7; action = tei; octets = refl; back = refl }

-- a procedure
abbrev pub HasNumber : Procedure → Type 0
HasNumber (Asking ri attempts) = ri < 65536
HasNumber (Verifying tei attempts) = Unit {0}

pub procedure-read : Reads (λ (p : Option Procedure). IfSome p HasNumber) (λ (p q : Option Procedure). p ≡ q) procedure
procedure-read None None r s few also e = (refl, tails e)
procedure-read None (Some (Asking ri n)) r s few also e = absurd (omega (arith, heads e))
procedure-read None (Some (Verifying tei n)) r s few also e = absurd (omega (arith, heads e))
procedure-read (Some (Asking ri n)) None r s few also e = absurd (omega (arith, heads e))
procedure-read (Some (Asking ri n)) (Some (Asking ri' n')) r s few also e =
    let attempts : n ≡ n' = heads (tails e) in
    let number : (ri ≡ ri') × (r ≡ s) = number-read 2 ri ri' r s few also (tails (tails e)) in
    ((λ i. Some (Asking (number.0 i) (attempts i))), number.1)
procedure-read (Some (Asking ri n)) (Some (Verifying tei m)) r s few also e = absurd (omega (arith, heads e))
procedure-read (Some (Verifying tei n)) None r s few also e = absurd (omega (arith, heads e))
procedure-read (Some (Verifying tei n)) (Some (Asking ri m)) r s few also e = absurd (omega (arith, heads e))
procedure-read (Some (Verifying tei n)) (Some (Verifying tei' n')) r s few also e =
    let attempts : n ≡ n' = heads (tails e) in
    let of_tei : tei ≡ tei' = heads (tails (tails e)) in
    ((λ i. Some (Verifying (of_tei i) (attempts i))), tails (tails (tails e)))

-- The whole: the next reference number, the procedure and the messages that wait.
pub record AreSameBeside (n m : ℕ) (p q : Option Procedure) (xs ys : List Message) (r s : List ℕ) : Type 0 where
  pub number : n ≡ m
  pub procedure : p ≡ q
  pub waiting : xs ≡ ys
  pub others : r ≡ s

pub beside-read : (n m : ℕ) (p q : Option Procedure) (xs ys : List Message) (r s : List ℕ) → n < 65536 → m < 65536 → IfSome p HasNumber → IfSome q HasNumber
    → beside_table n p xs ++ r ≡ beside_table m q ys ++ s → AreSameBeside n m p q xs ys r s
beside-read n m p q xs ys r s few also fits other e =
    let next : (n ≡ m) × _ = number-read 2 n m _ _ few also (split (number 2 n) _ (number 2 m) _ r s e) in
    let runs : (p ≡ q) × _ = procedure-read p q _ _ fits other (split (procedure p) _ (procedure q) _ r s next.1) in
    let queue : (xs ≡ ys) × (r ≡ s) = list-read (λ (x : Message). Unit {0}) information_of (message-read information_of message_from message-spelled) xs ys r s (all-unit xs) (all-unit ys) runs.1 in
    record { number = next.0; procedure = runs.0; waiting = queue.0; others = queue.1 }
