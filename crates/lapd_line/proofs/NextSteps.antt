-- What a call for the next frame does to a line.
use Rattle.lapd_line.proofs.Vocabulary.{◌≡◌, ℕ, ◌+◌, ◌≤◌, false, List, [], ◌++◌, length, take, drop, take-append_seam, Option, Some, None, IfSome, is_some, option_map, refl, sym, ap, ◌∙◌, subst, arith, option_map_or, Counters, More, with_all, begun_shown, message_shown, Managing, first_type, listed, ShortList, Order, Owned, Store, Config, next, gave, after, answer, Taken, taken, next_of, line_of}
use Rattle.lapd_line.proofs.Vocabulary.{◌-◌, TakesSoundly, taken_sound, answer_shown, FrameLine, LinkLayer, IsNext, Loading, in_octets, Took, Takes, TakesNext, Leads, config_of, gave_in, length-append, drop-append-drop, has_next, LineStands, Begun}
use Rattle.model_line.specs.Event as line_event
use Rattle.model_line.specs.Line as machine
use Rattle.lapd_line.specs.Reports.{written}
use Rattle.lapd_line.specs.declared.next_frame.NextFrame.{NextFrame}
use Rattle.lapd_line.proofs.LineSteps.{recounted}
use Rattle.lapd_line.proofs.MessageSteps.{message_is, type_counted}

-- the entities have taken it
pub next_taken : {old : FrameLine} {s : Store} {e : LinkLayer} {t : Store} {f g : Loading} {orders : Option (List Order)}
    → Takes taken old.layer s f e t g orders → TakesNext old s f (record old { layer = e }) t g orders
unfolding after
next_taken {old} {s} {e} {t} {f} {g} {orders} h = record {
  config = h.config;
  limits = h.limits;
  room = h.room;
  reference = h.reference;
  stands = λ others m st. stands others m (taken (config_of old) m) orders (h.took others m st.layer);
  next = λ others m st. given others m (taken (config_of old) m) orders (h.took others m st.layer);
  uncounted = refl;
}
  where
    stands : (others : List Owned) (m : machine.Line) (o : Option Taken) (os : Option (List Order)) → Took o os m e t others f g → LineStands (record old { layer = e }) t others (option_map_or line_of o m)
    stands others m o os has = grind arith

    given : (others : List Owned) (m : machine.Line) (o : Option Taken) (os : Option (List Order)) → Took o os m e t others f g → IsNext (option_map next_of o) os f g
    given others m o os has = grind arith

-- where there is none, the line stays
pub none_next : (c : Config) (m : machine.Line) → taken c m ≡ None → after c next m ≡ m
unfolding after
none_next c m none = ap (λ o. option_map_or line_of o m) none

-- so the machine gives none,
pub none_given : (c : Config) (m : machine.Line) → option_map next_of (taken c m) ≡ None → answer c next m ≡ gave None
unfolding answer
none_given c m none = ap gave none

-- none waits, where the line says so
pub nothing_waits : (c : Config) (m : machine.Line) → false ≡ has_next c m → taken c m ≡ None
nothing_waits c m none = grind (arith, is_some)

module _ {old : FrameLine} {s : Store} {f : Loading} {mid : FrameLine} {t : Store} {g : Loading} {given : Option (List Order)} (h : TakesNext old s f mid t g given) where
  -- and the line goes on, where what this shows is counted
  pub next_leads : (k : Counters) (all : List More) → k ≡ with_all mid.counters all
      → ((others : List Owned) (m : machine.Line) → LineStands old s others m → answer_shown (config_of old).side (answer (config_of old) next m) ≡ all)
      → Leads next old s (record mid { counters = k }) t
  next_leads k all is are = record {
    config = h.config;
    limits = h.limits;
    stands = λ others m st. recounted mid k t others (after (config_of old) next m) (h.stands others m st);
    counted = λ others m st. is ∙ ap (λ x. with_all x all) h.uncounted ∙ ap (with_all old.counters) (sym (are others m st));
  }

  -- no frame was taken
  pub gave_none : given ≡ None → (others : List Owned) (m : machine.Line) → LineStands old s others m → (answer (config_of old) next m ≡ gave None) × (g ≡ f)
  gave_none none others m st = go (option_map next_of (taken (config_of old) m)) refl (subst (λ o. IsNext (option_map next_of (taken (config_of old) m)) o f g) none (h.next others m st))
    where
      go : (o : Option line_event.NextFrame) → option_map next_of (taken (config_of old) m) ≡ o → IsNext o None f g → (answer (config_of old) next m ≡ gave None) × (g ≡ f)
      go o is same = grind (arith, none_given)

  pub none_leads : given ≡ None → Leads next old s mid t
  none_leads none = next_leads mid.counters [] refl (λ others m st. ap (answer_shown (config_of old).side) (gave_none none others m st).0)

-- a frame was taken: these are its octets and orders
pub record Gave (c : Config) (x : Managing) (m : machine.Line) (orders : List Order) (f g : Loading) : Type 0 where
  pub frame : line_event.NextFrame
  pub is : answer c next m ≡ gave (Some frame)
  pub loaded : IsNext (Some frame) (Some orders) f g
  pub size : length frame.octets ≤ c.n201 + 4
  pub message : message_shown Begun frame.octets ≡ type_counted (first_type x)

pub gave_one : {old : FrameLine} {s : Store} {f : Loading} {mid : FrameLine} {t : Store} {g : Loading} {given : Option (List Order)} {orders : List Order} → TakesNext old s f mid t g given → given ≡ Some orders
    → (others : List Owned) (m : machine.Line) → LineStands old s others m → Gave (config_of old) old.layer.teis m orders f g
unfolding answer
gave_one {old} {f = f} {g = g} {orders = orders} h some others m st =
    go (taken (config_of old) m) refl (subst (λ o. IsNext (option_map next_of (taken (config_of old) m)) o f g) some (h.next others m st)) (taken_sound (config_of old) st.layer.range m st.layer.sound)
  where
    go : (o : Option Taken) → taken (config_of old) m ≡ o → IsNext (option_map next_of o) (Some orders) f g → IfSome o (TakesSoundly (config_of old) m)
        → Gave (config_of old) old.layer.teis m orders f g
    go None is gone whole = absurd gone
    go (Some k) is one whole = record { frame = next_of k; is = ap (λ o. gave (option_map next_of o)) is; loaded = one; size = whole.size; message = message_is (config_of old) old.layer.teis m st.layer.kind st.layer.management st.layer.own is }

-- what is shown of it
pub given_is : (c : Config) (m : machine.Line) (frame : line_event.NextFrame) (octets : List ℕ) → answer c next m ≡ gave (Some frame) → frame.octets ≡ octets
    → answer_shown c.side (answer c next m) ≡ begun_shown c.side octets
given_is c m frame octets is same = ap (answer_shown c.side) is ∙ ap (begun_shown c.side) same

-- ---- into octets

-- a caller's room has room for any frame
pub free_of : (n room : ℕ) → n + 4 ≤ room → 4 ≤ room
free_of n room h = omega arith

pub room_of : (n room : ℕ) → n + 4 ≤ room → n ≤ room - 4
room_of n room h = omega arith

-- no frame fits everywhere,
pub none_fits : (given : Option NextFrame) (out : List ℕ) → given ≡ None → written given ≤ length out
none_fits given out none = subst (λ x. written x ≤ length out) (sym none) (omega arith)

-- and leaves the octets as they were
pub octets_stay : {old mid : FrameLine} {s t : Store} {before octets : List ℕ} {n k place there : ℕ} {given : Option (List Order)} → TakesNext old s (in_octets before n place) mid t (in_octets octets k there) given → given ≡ None
    → (others : List Owned) × (m : machine.Line) × LineStands old s others m → octets ≡ before
octets_stay h none (others, m, st) = same_octets (gave_none h none others m st).1
  where
    same_octets : {a b : List ℕ} {n k p q : ℕ} → in_octets a n p ≡ in_octets b k q → a ≡ b
    same_octets h = cc

-- what stands in front
pub front : (xs rest out : List ℕ) (k : ℕ) → length xs ≡ k → out ≡ xs ++ rest → take k out ≡ xs
front xs rest out k size is = ap (λ n. take n out) (sym size) ∙ ap (take (length xs)) is ∙ take-append_seam xs rest

-- so many octets in front of these are the frame, and those behind them are as they were
pub record IsWritten (before octets : List ℕ) (k : ℕ) : Type 0 where
  pub fits : k ≤ length octets
  pub rest : drop k octets ≡ drop k before

written_in : (before octets frame : List ℕ) (k : ℕ) → k ≡ length frame → octets ≡ frame ++ drop k before → IsWritten before octets k
written_in before octets frame k count is = grind (arith, length-append, drop-append-drop)

module _ {old : FrameLine} {s : Store} {mid : FrameLine} {t : Store} {before octets : List ℕ} {n k place there : ℕ} {given : Option (List Order)} (orders : ShortList Order)
    (h : TakesNext old s (in_octets before n place) mid t (in_octets octets k there) given) (some : given ≡ Some (listed orders)) where
  pub is_written : (others : List Owned) × (m : machine.Line) × LineStands old s others m → IsWritten before octets k
  is_written (others, m, st) =
      let one = gave_one h some others m st in
      written_in before octets one.frame.octets k one.loaded.1.0 one.loaded.1.1

  pub octets_shown : (others : List Owned) (m : machine.Line) → LineStands old s others m
      → answer_shown (config_of old).side (answer (config_of old) next m) ≡ begun_shown (config_of old).side (take k octets)
  octets_shown others m st =
      let one = gave_one h some others m st in
      given_is (config_of old) m one.frame (take k octets) one.is (sym (front one.frame.octets (drop k before) octets k (sym one.loaded.1.0) one.loaded.1.1))

  -- and is what the machine gives
  pub gave_is : (others : List Owned) (m : machine.Line) → LineStands old s others m → gave_in octets (Some (record { length = k; orders = orders })) ≡ answer (config_of old) next m
  gave_is others m st =
      let one = gave_one h some others m st in
      let octets_are : take k octets ≡ one.frame.octets = front one.frame.octets (drop k before) octets k (sym one.loaded.1.0) one.loaded.1.1 in
      ap (λ x. gave (Some (record { octets = x; orders = listed orders }))) octets_are
      ∙ ap (λ x. gave (Some (record { octets = one.frame.octets; orders = x }))) one.loaded.0
      ∙ sym one.is

-- what holds of the octets behind a reference holds of what a caller finds there
pub ended : (P : List ℕ → Type 0) (now out : List ℕ) → P now → out ≡ now → P out
ended P now out h is = subst P (sym is) h
