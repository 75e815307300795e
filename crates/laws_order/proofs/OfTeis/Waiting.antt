-- The assignments in frames that are to come to the terminal.
use Rattle.std.specs.Prelude.{◌≡◌, ℕ, ◌||◌, ⊤, ◌⊎◌, Bool, true, List, [], ◌∷◌, ◌++◌, map, nat_le, refl}
use Rattle.std.specs.List.{list_any}
use Rattle.std.proofs.Common.{inl, subst, sym, ap, ◌∙◌, true≢false, append_assoc}
use Rattle.model_teis.specs.declared.network.messages.Message.{Message}
use Rattle.model_teis.specs.declared.network.remembered.Remembered.{Remembered}
use Rattle.laws_trace.specs.Managing.{is_on, own_of, octets_of}
use Rattle.laws_trace.specs.ManagingTerminal.{teis_of}
use Rattle.laws_trace.specs.TeisAreManaged.{message_text}
use Rattle.laws_order.specs.teis.Bus.{Bus, Network, message_in, is_removal, removes}
use Rattle.laws_order.specs.teis.Assignments.{Terminal, CanMeet, IsIn}
use Rattle.laws_order.specs.teis.TwoTerminals.{is_older}
use Rattle.laws_order.proofs.OfTeis.Frames.{is_assigned, AreNone, message-read, removes-so, assigned-so}
use Rattle.laws_order.proofs.OfTeis.NewlyMade.{AreMade, IsMade}

-- What is known of the assignments: which were made, which hold, and of which the terminal has missed a removal.
pub record Known : Type 0 where
  pub made : List Remembered
  pub hold : List Remembered
  pub missed : List Remembered

abbrev pub known : Network → List Remembered → Known
known n missed = record { made = n.made; hold = n.hold; missed = missed }

module _ (b : Bus) where
  abbrev pub removal : ℕ → List ℕ → Bool
  removal tei octets = is_removal tei (message_in b.terminal octets)

  -- An assignment is accounted for, after which these frames come.
  pub record IsCovered (k : Known) (r : Remembered) (back : List (List ℕ)) : Type 0 where
    pub made : IsIn r k.made
    pub covered : IsIn r k.hold ⊎ ((list_any (removal r.tei) back ≡ true) ⊎ IsIn r k.missed)

  -- So is each that comes in one of the frames.
  abbrev pub AreCovered : Known → List (List ℕ) → List (List ℕ) → Type 0
  AreCovered k [] after = ⊤
  AreCovered k (x ∷ xs) after = ((r : Remembered) → is_assigned r (message_in b.terminal x) ≡ true → IsCovered k r (xs ++ after)) × AreCovered k xs after

  pub covered-so : (k l : Known) (xs after then_ : List (List ℕ)) → ((r : Remembered) (back : List (List ℕ)) → IsCovered k r (back ++ after) → IsCovered l r (back ++ then_))
      → AreCovered k xs after → AreCovered l xs then_
  covered-so k l [] after then_ step all = tt
  covered-so k l (x ∷ xs) after then_ step all = (λ r is. step r xs (all.0 r is), covered-so k l xs after then_ step all.1)

  pub covered-both : (k : Known) (xs ys after : List (List ℕ)) → AreCovered k xs (ys ++ after) → AreCovered k ys after → AreCovered k (xs ++ ys) after
  covered-both k [] ys after all rest = rest
  covered-both k (x ∷ xs) ys after all rest =
      (λ r is. subst (IsCovered k r) (sym (append_assoc xs ys after)) (all.0 r is), covered-both k xs ys after all.1 rest)

  pub none-covered : (k : Known) (xs after : List (List ℕ)) → AreNone b xs → AreCovered k xs after
  none-covered k [] after none = tt
  none-covered k (x ∷ xs) after none = (λ r is. absurd (true≢false (sym is ∙ ap (is_assigned r) none.0)), none-covered k xs after none.1)

  -- Messages that are owed.
  abbrev pub texts : List Message → List (List ℕ)
  texts ms = map (λ m. message_text b.network (octets_of m)) ms

  pub texts-both : (ms ns : List Message) → texts (ms ++ ns) ≡ texts ms ++ texts ns
  texts-both [] ns = refl
  texts-both (m ∷ ms) ns = ap (λ xs. message_text b.network (octets_of m) ∷ xs) (texts-both ms ns)

  module _ (can : CanMeet b) where
    removal-is : (tei : ℕ) (m : Message) → removal tei (message_text b.network (octets_of m)) ≡ removes tei m
    removal-is tei m = ap (is_removal tei) (message-read b can m) ∙ removes-so tei m

    pub removals-are : (tei : ℕ) (ms : List Message) → list_any (removal tei) (texts ms) ≡ list_any (removes tei) ms
    removals-are tei [] = refl
    removals-are tei (m ∷ ms) = ap (λ x. x || list_any (removal tei) (texts ms)) (removal-is tei m) ∙ ap (λ x. removes tei m || x) (removals-are tei ms)

    -- Each that is made is one that is held.
    pub made-covered : (k : Known) (held : List Remembered) → ((r : Remembered) → IsIn r held → IsIn r k.hold) → ((r : Remembered) → IsIn r k.hold → IsIn r k.made)
        → (ms : List Message) (after : List (List ℕ)) → AreMade held ms → AreCovered k (texts ms) after
    made-covered k held holds is_made [] after made = tt
    made-covered k held holds is_made (m ∷ ms) after made = (
      λ r is.
          let so = assigned-so r m (sym (ap (is_assigned r) (message-read b can m)) ∙ is) in
          let there : IsIn r held = subst (IsMade held) so made.0 in
          record { made = is_made r (holds r there); covered = inl (holds r there) },
      made-covered k held holds is_made ms after made.1,
    )

  -- All that holds at any time.
  pub record Holds (n : Network) (t : Terminal) (way : List (List ℕ)) (missed : List Remembered) : Type 0 where
    pub held : (r : Remembered) → IsIn r n.teis.held → IsIn r n.hold
    pub on : (r : Remembered) → IsIn r n.hold → is_on r.tei n.teis ≡ true
    pub made : (r : Remembered) → IsIn r n.hold → IsIn r n.made
    pub alone : (r s : Remembered) → IsIn r n.hold → IsIn s n.hold → r.tei ≡ s.tei → r ≡ s
    pub latest : (r s : Remembered) → IsIn r n.hold → IsIn s n.made → s.tei ≡ r.tei → (s ≡ r) ⊎ (is_older s r n.made ≡ true)
    pub own : t.teis.on ≡ teis_of (own_of b.terminal t.teis).places
    pub way_is : AreCovered (known n missed) way (texts n.teis.owed)
    pub owed_is : AreCovered (known n missed) (texts n.teis.owed) []
    pub given : (r : Remembered) → IsIn r t.given → (nat_le r.tei 126 ≡ true) × IsCovered (known n missed) r (way ++ texts n.teis.owed)
