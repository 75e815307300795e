-- Which assignments an event of the network's line makes, and what is so of the messages that say it.
use Rattle.std.specs.Prelude.{◌≡◌, ℕ, zero, suc, ◌==◌, ◌⊎◌, ⊤, not, true, false, List, [], ◌∷◌, ◌++◌, length, filter, flat_map, drop, refl}
use Rattle.std.specs.List.{list_any}
use Rattle.std.proofs.Common.{inl, inr, subst, sym, ap, ◌∙◌}
use Rattle.model_teis.specs.declared.network.messages.Message.{Message}
use Rattle.model_teis.specs.declared.network.messages.Message.TheVariants.{IdentityAssigned}
use Rattle.model_teis.specs.declared.network.remembered.Remembered.{Remembered}
use Rattle.laws_trace.specs.Managing.{Managed, is_on}
use Rattle.laws_order.specs.teis.Bus.{assigned_in, newly_owed, newly_made}
use Rattle.laws_order.specs.teis.Assignments.{IsIn}
use Rattle.laws_order.proofs.OfTeis.Lists.{in-filtered, in-filter}

-- The assignments of which messages say that they are made.
abbrev pub assigned : List Message → List Remembered
assigned ms = flat_map assigned_in ms

-- Each is one of these.
abbrev pub IsMade : List Remembered → Message → Type 0
IsMade held (IdentityAssigned ri tei) = IsIn (record { ri = ri; tei = tei }) held
IsMade held other = ⊤

abbrev pub AreMade : List Remembered → List Message → Type 0
AreMade held [] = ⊤
AreMade held (m ∷ ms) = IsMade held m × AreMade held ms

-- Messages come to be owed, after those that are. Each assignment of which they say is of a TEI on the line, that was made before or
-- was not on the line.
pub record Queue (w d : Managed) : Type 0 where
  pub new : List Message
  pub owed : d.owed ≡ w.owed ++ new
  pub made : (r : Remembered) → IsIn r (assigned new) → (is_on r.tei d ≡ true) × (IsIn r w.held ⊎ (is_on r.tei w ≡ false))

-- What is remembered is on the line, and was remembered before or is made anew; and one is, at most.
pub record Table (w d : Managed) : Type 0 where
  pub known : (r : Remembered) → IsIn r d.held → (is_on r.tei d ≡ true) × (IsIn r w.held ⊎ IsIn r (newly_made w d))
  pub alone : (r s : Remembered) → IsIn r (newly_made w d) → IsIn s (newly_made w d) → r ≡ s

pub record Changes (w d : Managed) : Type 0 where
  pub queue : Queue w d
  pub known : (r : Remembered) → IsIn r d.held → (is_on r.tei d ≡ true) × (IsIn r w.held ⊎ (IsIn r (assigned queue.new) × (is_on r.tei w ≡ false)))
  pub alone : (r s : Remembered) → IsIn r (assigned queue.new) → IsIn s (assigned queue.new) → r ≡ s
  pub begins : d.begins ≡ w.begins

pub dropped-front : {X : Type 0} (xs ys : List X) → drop (length xs) (xs ++ ys) ≡ ys
dropped-front [] ys = refl
dropped-front (x ∷ xs) ys = dropped-front xs ys

-- So much is made anew.
made-anew : (w d : Managed) (h : Changes w d) → newly_made w d ≡ filter (λ r. not (is_on r.tei w)) (assigned h.queue.new)
made-anew w d h = ap (λ ms. filter (λ r. not (is_on r.tei w)) (assigned (drop (length w.owed) ms))) h.queue.owed ∙ ap (λ ms. filter (λ r. not (is_on r.tei w)) (assigned ms)) (dropped-front w.owed h.queue.new)

pub table-of : (w d : Managed) → Changes w d → Table w d
table-of w d h = record { known = λ r is. ((h.known r is).0, from r (h.known r is).1); alone = λ r s is other. h.alone r s (in-new r is) (in-new s other) }
  where
    in-new : (r : Remembered) → IsIn r (newly_made w d) → IsIn r (assigned h.queue.new)
    in-new r is = (in-filtered (λ r. not (is_on r.tei w)) r (assigned h.queue.new) (subst (IsIn r) (made-anew w d h) is)).0

    from : (r : Remembered) → IsIn r w.held ⊎ (IsIn r (assigned h.queue.new) × (is_on r.tei w ≡ false)) → IsIn r w.held ⊎ IsIn r (newly_made w d)
    from r (inl was) = inl was
    from r (inr new) = inr (subst (IsIn r) (sym (made-anew w d h)) (in-filter (λ r. not (is_on r.tei w)) r (assigned h.queue.new) new.0 (ap not new.1)))

-- The same, where no message comes to be owed: as the line is down, or is called for its next frame.
pub same-table : (w d : Managed) → ((r : Remembered) → IsIn r w.held → is_on r.tei w ≡ true) → d.on ≡ w.on → d.held ≡ w.held → newly_owed w d ≡ [] → Table w d
same-table w d there on held none = record {
  known = λ r is. let was = subst (IsIn r) held is in (ap (λ on. list_any (λ x. x == r.tei) on) on ∙ there r was, inl was);
  alone = λ r s is other. absurd (subst (λ ms. IsIn r (filter (λ r. not (is_on r.tei w)) (assigned ms))) none is);
}

pub dropped-none : (k : ℕ) (ms : List Message) → ms ≡ [] → drop k ms ≡ []
dropped-none zero ms e = e
dropped-none (suc k) ms e = subst (λ l. drop (suc k) l ≡ []) (sym e) refl

pub dropped-all : {X : Type 0} (x : X) (xs : List X) → drop (length (x ∷ xs)) xs ≡ []
dropped-all x [] = refl
dropped-all x (y ∷ xs) = dropped-all y xs
