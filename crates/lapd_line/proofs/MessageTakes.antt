-- A message of TEI management is taken, or none waits.
use Rattle.lapd_line.proofs.Vocabulary.{◌≡◌, ℕ, List, [], ◌∷◌, drop, slice_get, Option, Some, None, IfSome, option_or, option_map, refl, sym, ap, subst, ◌∙◌, none-some, Owned, Store, Side, Line, message_taken, unit_taken, first_taken, round, IsSound, TakesSoundly, taken_sound, LinkLayer, LayerStands, Loading, Loads, Took, Takes, room_in, reference_in, Managing, is_terminals}
use Rattle.lapd_line.proofs.Vocabulary.{management_of, places_of, offered_by, own_of, is_some, false, false≢true}
use Rattle.lapd_line.specs.Managing.{Gives, without_message}
use Rattle.lapd_line.specs.declared.managing.Managing.TheVariants as kind
use Rattle.lapd_line.proofs.LayerSteps.{stands_as}
use Rattle.lapd_line.proofs.ManagingSteps.{message_of_kind}

-- The table stays, and the kind.
same_places : (x : Managing) → (places_of (without_message x)) ≡ (places_of x)
same_places (kind.Network m) = refl
same_places (kind.Terminal t) = refl

same_kind : (x : Managing) → is_terminals (without_message x) ≡ is_terminals x
same_kind (kind.Network m) = refl
same_kind (kind.Terminal t) = refl

-- If none waits, none is taken.
none_less : {X Y : Type 0} (f : X → Y) (xs : List X) → option_map f (slice_get xs 0) ≡ None → drop 1 xs ≡ xs
none_less f [] none = refl
none_less f (x ∷ xs) none = absurd (none-some (f x) (sym none))

none_left : (side : Side) (x : Managing) → offered_by side x ≡ None → without_message x ≡ x
none_left side (kind.Network m) none = ap (λ ms. kind.Network (record m { waiting = ms })) (none_less _ m.waiting none)
none_left side (kind.Terminal t) none = ap (λ ms. kind.Terminal (record t { waiting = ms })) (none_less _ t.waiting none)

module _ (e : LinkLayer) (s : Store) (new : Managing) (f g : Loading) where
  abbrev without : Line → Line
  without m = record m { management = management_of e.config (without_message e.teis); own = own_of (without_message e.teis) }

  pub message_loaded : {octets : List ℕ} → Gives e.config.side (Some octets) e.teis new → room_in g ≡ room_in f → reference_in g ≡ reference_in f → Loads octets f g
      → Takes (λ c m. message_taken c m) e s f (record e { teis = new }) s g (Some [])
  message_loaded {octets} gave room reference loads = record {
    config = refl;
    limits = record { slots = refl; width = refl };
    room = room;
    reference = reference;
    took = λ others m st. subst (λ o. Took o (Some []) m (record e { teis = new }) s others f g) (sym (is m st)) (record { orders = refl; stands = stood others m st; loaded = loads });
  }
    where
      is : {others : List Owned} (m : Line) → LayerStands e s others m → message_taken e.config m ≡ Some (record { frame = octets; orders = []; line = without m })
      is m st = message_of_kind e.config e.teis m st.kind st.management st.own ∙ ap (option_map (λ os. record { frame = os; orders = []; line = without m })) (sym gave.offered)

      sound : {others : List Owned} (m : Line) → LayerStands e s others m → IsSound e.config (without m)
      sound m st =
          (subst (λ o. IfSome (option_or o (option_or (unit_taken e.config m) (first_taken e.config m (round e.config m)))) (TakesSoundly e.config m)) (is m st) (taken_sound e.config st.range m st.sound)).line

      stood : (others : List Owned) (m : Line) → LayerStands e s others m → LayerStands (record e { teis = new }) s others (without m)
      stood others m st =
          stands_as st new e.units s others (without m) (refl, refl, same_places e.teis ∙ sym (ap (λ t. t.places) st.management), refl) st.wide (sound m st)
          (ap (management_of e.config) (sym gave.after), ap own_of (sym gave.after), ap is_terminals gave.after ∙ same_kind e.teis ∙ st.kind) st.addressed st.held

  pub no_message_loaded : Gives e.config.side None e.teis new → Takes (λ c m. message_taken c m) e s f (record e { teis = new }) s f None
  no_message_loaded gave = subst (λ x. Takes (λ c m. message_taken c m) e s f (record e { teis = x }) s f None) (sym same) (record {
    config = refl;
    limits = record { slots = refl; width = refl };
    room = refl;
    reference = refl;
    took = λ others m st. subst (λ o. Took o None m e s others f f) (sym (is m st)) (st, refl);
  })
    where
      same : new ≡ e.teis
      same = gave.after ∙ none_left e.config.side e.teis (sym gave.offered)

      is : {others : List Owned} (m : Line) → LayerStands e s others m → message_taken e.config m ≡ None
      is m st =
          message_of_kind e.config e.teis m st.kind st.management st.own
          ∙ ap (option_map (λ os. record { frame = os; orders = []; line = record m { management = management_of e.config (without_message e.teis); own = own_of (without_message e.teis) } })) (sym gave.offered)

-- It is seen at once that none waits.
not_some : {X : Type 0} (x : Option X) → is_some x ≡ false → x ≡ None
not_some None none = refl
not_some (Some x) none = absurd (false≢true (sym none))

pub none_waits : (e : LinkLayer) (s : Store) (f : Loading) → is_some (offered_by e.config.side e.teis) ≡ false → Takes (λ c m. message_taken c m) e s f e s f None
none_waits e s f none = no_message_loaded e s e.teis f f (record { offered = sym is; after = sym (none_left e.config.side e.teis is) })
  where
    is : offered_by e.config.side e.teis ≡ None
    is = not_some (offered_by e.config.side e.teis) none
