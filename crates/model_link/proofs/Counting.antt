-- What is delivered, and V(R): each word but three leaves them.
use Rattle.model_link.proofs.Vocabulary.{arith, ◌≡◌, ℕ, Bool, true, false, List, Option, None, ◌⊎◌, inl, inr, refl, Terms, Course}
use Rattle.model_link.proofs.Kept.{Kept}

-- A claim on V(R), on what is delivered, and on whether the numbers began anew.
abbrev pub Count : Type 1
Count = ℕ → Option (List ℕ) → Bool → Type 0

abbrev pub On : Count → Course → Type 0
On Q c = Q c.link.r c.delivered c.zeroed

-- V(R) is r, and contents are delivered or none; the numbers have begun anew; one or the other
pub record Counted (r : ℕ) (contents : Option (List ℕ)) (r' : ℕ) (contents' : Option (List ℕ)) (zeroed : Bool) : Type 0 where
  pub number : r' ≡ r
  pub delivered : contents' ≡ contents
  pub goes_on : zeroed ≡ false

abbrev pub counted : ℕ → Option (List ℕ) → Count
counted r contents r' contents' zeroed = Counted r contents r' contents' zeroed

pub record Restarted (r' : ℕ) (contents' : Option (List ℕ)) (zeroed : Bool) : Type 0 where
  pub number : r' ≡ 0
  pub delivered : contents' ≡ None
  pub begins : zeroed ≡ true

abbrev pub done : ℕ → Option (List ℕ) → Count
done r contents r' contents' zeroed = Counted r contents r' contents' zeroed ⊎ Restarted r' contents' zeroed

-- nothing is delivered but the contents of I-frames
pub undelivered : {r r' : ℕ} {contents : Option (List ℕ)} {zeroed : Bool} → done r None r' contents zeroed → contents ≡ None
undelivered o = grind arith

first : {r r' : ℕ} {contents : Option (List ℕ)} {zeroed : Bool} → Counted r None r' contents zeroed → done r None r' contents zeroed
first h = inl h

anew : {r r' : ℕ} {contents : Option (List ℕ)} {zeroed : Bool} → done r None r' contents zeroed → done r None 0 contents true
anew h = inr (record { number = refl; delivered = undelivered h; begins = refl })

none-taken : {r r' : ℕ} {contents : Option (List ℕ)} {zeroed : Bool} → ⊥ → done r None r' contents zeroed
none-taken may = absurd may

pub words : (t : Terms) (r : ℕ) → Kept t (Unit {0}) (Unit {0}) ⊥ (On (counted r None)) (λ p q c. On (done r None) c) (On (done r None))
words t r = search (first, anew, none-taken) depth 12 fits 4000
