-- A message of TEI management that goes out, of whatever side.
use Rattle.model_line.proofs.Vocabulary.{◌≡◌, ℕ, ◌+◌, Bool, true, false, cond, List, [], length, drop, slice_get, Option, Some, None, option_map, IfSome, refl, sym, subst, arith, sound-after_offer, Management, Message, frame_of, Config, Line, Own, is_terminal, terminal_in, Taken, with_message, with_own_message, IsOfSide, IsSound, OwnMessage}
use Rattle.model_line.proofs.Vocabulary.{own_frame_of}
use Rattle.model_teis.specs.network.Events as teis
use Rattle.model_teis.specs.network.Machine.{checks_due}
use Rattle.model_teis.specs.network.Sound as tei
use Rattle.model_teis.specs.terminal.Events as terminals
use Rattle.model_teis.proofs.OfTerminal.SoundWords.{sound_rest}
use Rattle.model_line.specs.Taken.{message_taken}
use Rattle.lapd_frame.specs.declared.addresses.Side.{Side}

-- Its octets, and what is left: one message fewer, and all else as it was.
pub record GoesOut (c : Config) (l : Line) (octets : List ℕ) (m : Management) (own : Own) : Type 0 where
  pub sound : tei.IsSound m
  pub reading : m.reading ≡ c.reading
  pub owned : IsOfSide (is_terminal c) m own
  pub places : m.places ≡ l.management.places
  pub check : m.check ≡ l.management.check
  pub procedure : own.procedure ≡ l.own.procedure
  pub fewer : length m.waiting + length own.waiting + 1 ≡ length l.management.waiting + length l.own.waiting
  pub due : checks_due m ≡ checks_due l.management
  pub size : length octets ≡ 8

abbrev pub without_message : Line → List ℕ → Management → Own → Taken
without_message l octets m own = record { frame = octets; orders = []; line = record l { management = m; own = own } }

network_size : (side : Side) (message : Message) → length (frame_of side message) ≡ 8
network_size side message = grind arith

own_size : (message : OwnMessage) → length (own_frame_of message) ≡ 8
own_size message = grind arith

one_less : {X : Type 0} (xs : List X) (x : X) → slice_get xs 0 ≡ Some x → length (drop 1 xs) + 1 ≡ length xs
one_less xs x e = grind arith

module _ (c : Config) (l : Line) (s : IsSound c l) (P : Taken → Type 0)
    (message : (octets : List ℕ) (m : Management) (own : Own) → GoesOut c l octets m own → P (without_message l octets m own)) where
  of_network_side : is_terminal c ≡ false → (o : Option Message) → slice_get l.management.waiting 0 ≡ o → IfSome (option_map (with_message l) (option_map (frame_of c.side) o)) P
  of_network_side net None first = tt
  of_network_side net (Some one) first =
      message (frame_of c.side one) (teis.after_offer l.management) l.own
      (record {
        sound = sound-after_offer l.management s.management;
        reading = s.reading;
        owned = subst (λ b. IsOfSide b (teis.after_offer l.management) l.own) (sym net) (subst (λ b. IsOfSide b l.management l.own) net s.own);
        places = refl;
        check = refl;
        procedure = refl;
        fewer = omega (arith, one_less l.management.waiting one first);
        due = refl;
        size = network_size c.side one;
      })

  of_terminal_side : is_terminal c ≡ true → (o : Option OwnMessage) → slice_get l.own.waiting 0 ≡ o → IfSome (option_map (with_own_message l) (option_map own_frame_of o)) P
  of_terminal_side is None first = tt
  of_terminal_side is (Some one) first =
      let both = subst (λ b. IsOfSide b l.management l.own) is s.own in
      let own : Own = record l.own { waiting = drop 1 l.own.waiting } in
      message (own_frame_of one) l.management own
      (record {
        sound = s.management;
        reading = s.reading;
        owned = subst (λ b. IsOfSide b l.management own) (sym is) (sound_rest (terminal_in l) both.0, both.1);
        places = refl;
        check = refl;
        procedure = refl;
        fewer = omega (arith, one_less l.own.waiting one first);
        due = refl;
        size = own_size one;
      })

  pub message_walk : IfSome (message_taken c l) P
  message_walk = go (is_terminal c) refl
    where
      go : (b : Bool) → is_terminal c ≡ b → IfSome (cond b (option_map (with_own_message l) (terminals.offered (terminal_in l))) (option_map (with_message l) (teis.offered c.side l.management))) P
      go true is = of_terminal_side is (slice_get l.own.waiting 0) refl
      go false net = of_network_side net (slice_get l.management.waiting 0) refl
