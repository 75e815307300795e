-- A link that awaits its establishment, as often as SABME was repeated and whatever waits; and what comes of it.
use Rattle.laws_wire.proofs.Vocabulary.{arith, ◌≡◌, ℕ, ◌+◌, Bool, true, false, cond, List, [], ◌∷◌, ◌++◌, length, drop, None, Some, refl, sym, ap, subst, ◌∙◌, ◌⊎◌, inl, inr, append-nil, append_assoc, All, nat_lt, All-nil, All-cons, All-tail, All-append, Sabme, Parts, T203, ControlFrame, Terms, Link, fresh, may_repeat, frame_of, received, expired, course, begun, ◌then◌, with_sent, ◌≤◌}
use Rattle.laws_wire.proofs.Vocabulary.{le-ltb}
use Rattle.laws_wire.proofs.Vocabulary.{command}
use Rattle.laws_wire.proofs.Vocabulary.{frames_of, frames-append, Means, T200, frame, after, Course, code_G}
use Rattle.model_link.specs.declared.states.State.TheVariants as state
use Rattle.model_link.specs.Words
use Rattle.model_link.specs.Counts.{none_counted, with_control_sent, with_expiry, with_establishment}
use Rattle.model_link.specs.declared.counts.LinkCounts.{LinkCounts}
use Rattle.laws_wire.proofs.Calling.{sabme, end}
use Rattle.laws_wire.proofs.Fair.{HasError}

-- How often SABME was repeated, and what was counted.
pub record Tries : Type 0 where
  pub repeats : ℕ
  pub counts : LinkCounts

abbrev pub none_tried : Tries
none_tried = record { repeats = 0; counts = none_counted }

abbrev pub once_more : Tries → Tries
once_more k = record { repeats = k.repeats + 1; counts = with_expiry T200 k.counts }

abbrev pub ringing : Tries → List ControlFrame → Link
ringing k ws = record fresh { state = state.AwaitingEstablishment; asked = true; repeats = k.repeats; running = Some T200; waiting = ws; counts = k.counts }

abbrev pub answered : Tries → List ControlFrame → Link
answered k ws = record fresh { state = state.Established; asked = true; repeats = k.repeats; running = Some T203; waiting = ws; counts = with_establishment k.counts }

-- SABME, as it waits and as it goes
abbrev pub its_sabme : ControlFrame
its_sabme = command (Sabme true)

abbrev pub IsSabme : Terms → Parts → Type 0
IsSabme t f = f ≡ sabme t

-- A line that has nothing but SABME on it.
abbrev pub AreSabmes : Terms → List Parts → List ControlFrame → Type 0
AreSabmes t way ws = All (IsSabme t) (way ++ frames_of t ws)

pub record Rings (k : Tries) (ws : List ControlFrame) (c : Course) : Type 0 where
  pub repeats : Tries
  pub waiting : List ControlFrame
  pub becomes : c.link ≡ ringing repeats waiting
  pub more : (waiting ≡ ws) ⊎ (waiting ≡ ws ++ its_sabme ∷ [])
  pub notes : c.notes ≡ []
  pub delivered : c.delivered ≡ None
  pub unit : c.unit ≡ None

module _ (t : Terms) (k : Tries) (ws : List ControlFrame) where
  abbrev l : Link
  l = ringing k ws

  abbrev again : Bool → Course
  again room = record (begun (ringing (once_more k) (cond room (ws ++ its_sabme ∷ []) ws))) { started = Some T200; lost = cond {A = ℕ} room 0 1 }

  abbrev given_up : Course
  given_up = (Words.count (with_expiry T200) then Words.discard then Words.error t code_G then Words.release_indication t then Words.no_timer then Words.enter state.TeiAssigned) (begun l)

  pub t200-rings : HasError (course t (expired T200) l).notes ⊎ Rings k ws (course t (expired T200) l)
  t200-rings = subst (λ c. HasError c.notes ⊎ Rings k ws c) (sym refl) (go (may_repeat t l) (nat_lt (length ws) t.control))
    where
      go : (b room : Bool) → HasError (cond b (again room) given_up).notes ⊎ Rings k ws (cond b (again room) given_up)
      go false room = inl refl
      go true true = inr (record { repeats = once_more k; waiting = ws ++ its_sabme ∷ []; becomes = refl; more = inr refl; notes = refl; delivered = refl; unit = refl })
      go true false = inr (record { repeats = once_more k; waiting = ws; becomes = refl; more = inl refl; notes = refl; delivered = refl; unit = refl })

  pub t203-rings : Rings k ws (course t (expired T203) l)
  t203-rings = record { repeats = k; waiting = ws; becomes = refl; more = inl refl; notes = refl; delivered = refl; unit = refl }

  -- frames of a link that is up are not served
  pub record Ignores (f : Parts) : Type 0 where
    pub stays : after t (received (frame f)) l ≡ l
    pub notes : (course t (received (frame f)) l).notes ≡ []
    pub delivered : (course t (received (frame f)) l).delivered ≡ None
    pub unit : (course t (received (frame f)) l).unit ≡ None

  pub untouched : (f : Parts) (m : ℕ) → Means m f.control → after t (received (frame f)) l ≡ l
  untouched f m means = grind arith

  -- one of at most N201 octets tells nothing (by annex B more of them are an error)
  pub ignores : (f : Parts) (m : ℕ) → Means m f.control → length f.info ≤ t.n201 → Ignores f
  ignores f m means few = let fits = le-ltb t.n201 (length f.info) few in grind arith

-- where nothing waits, and there is room, SABME waits again
module _ (t : Terms) (k : Tries) (room : nat_lt 0 t.control ≡ true) where
  abbrev pub repeated : Course
  repeated = record (begun (ringing (once_more k) (its_sabme ∷ []))) { started = Some T200 }

  pub t200-repeats : may_repeat t (ringing k []) ≡ true → course t (expired T200) (ringing k []) ≡ repeated
  t200-repeats few = ap (λ b. cond b (again t k [] (nat_lt 0 t.control)) (given_up t k [])) few ∙ ap (again t k []) room

-- what waits goes to the way
pub record RingsOn (t : Terms) (k : Tries) (ws : List ControlFrame) (way : List Parts) : Type 0 where
  pub tries : Tries
  pub waiting : List ControlFrame
  pub went : List Parts
  pub is : with_sent (end t (ringing k ws) way) ≡ end t (ringing tries waiting) went
  pub line : went ++ frames_of t waiting ≡ way ++ frames_of t ws

pub gives-sabme : (t : Terms) (k : Tries) (ws : List ControlFrame) (way : List Parts) → RingsOn t k ws way
gives-sabme t k [] way = record { tries = k; waiting = []; went = way; is = λ i. end t (ringing k []) (append-nil way i); line = refl }
gives-sabme t k (f ∷ fs) way =
    record {
      tries = record { repeats = k.repeats; counts = with_control_sent f.control k.counts };
      waiting = fs;
      went = way ++ frame_of t f ∷ [];
      is = refl;
      line = append_assoc way (frame_of t f ∷ []) (frames_of t fs);
    }

-- one SABME more at the end of the line
pub one-sabme_more : (t : Terms) (way : List Parts) (ws ws' : List ControlFrame) → (ws' ≡ ws) ⊎ (ws' ≡ ws ++ its_sabme ∷ []) → AreSabmes t way ws → AreSabmes t way ws'
one-sabme_more t way ws ws' (inl same) h = subst (AreSabmes t way) (sym same) h
one-sabme_more t way ws ws' (inr more) h =
    subst (AreSabmes t way) (sym more)
    (subst (All (IsSabme t)) (append_assoc way (frames_of t ws) (sabme t ∷ []) ∙ sym (ap (λ fs. way ++ fs) (frames-append t ws (its_sabme ∷ []))))
    (All-append (IsSabme t) (way ++ frames_of t ws) (sabme t ∷ []) h (All-cons (IsSabme t) (sabme t) [] refl (All-nil (IsSabme t)))))

-- the first of them is lost, or taken
pub one-sabme_less : (t : Terms) (way : List Parts) (ws : List ControlFrame) → AreSabmes t way ws → AreSabmes t (drop 1 way) ws
one-sabme_less t [] ws h = h
one-sabme_less t (f ∷ fs) ws h = All-tail (IsSabme t) f (fs ++ frames_of t ws) h
