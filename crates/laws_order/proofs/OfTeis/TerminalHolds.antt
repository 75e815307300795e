-- An event of the terminal's line, and a frame that is lost, leave each assignment accounted for.
use Rattle.std.specs.Prelude.{◌≡◌, ℕ, ◌==◌, ◌||◌, ◌⊎◌, true, false, List, [], ◌∷◌, ◌++◌, filter, flat_map, nat_le, refl}
use Rattle.std.specs.List.{list_any}
use Rattle.std.specs.Option.{unwrap_or}
use Rattle.std.proofs.Common.{inl, inr, subst, sym, ap, ◌∙◌, true≢false}
use Rattle.model_teis.specs.declared.network.remembered.Remembered.{Remembered}
use Rattle.model_line.specs.Came.{came}
use Rattle.model_line.specs.Event.{Event, hears}
use Rattle.laws_trace.specs.Managing.{Managed, is_on, due, own_of}
use Rattle.laws_trace.specs.ManagingTerminal as terminal
use Rattle.laws_trace.specs.ManagingTerminal.{OfTerminal, teis_of, by_message}
use Rattle.laws_order.specs.teis.Bus.{Bus, Network, message_in, is_heard, over_of}
use Rattle.laws_order.specs.teis.Assignments.{Terminal, CanMeet, IsIn, taken_by, taken, with_given}
use Rattle.laws_order.proofs.OfTeis.Frames.{assigned-few}
use Rattle.laws_order.proofs.OfTeis.Lists.{in-left, in-right, in-either, in-filter, in-filtered, or-cases, held-or-over}
use Rattle.laws_order.proofs.OfTeis.TerminalSteps.{takes, message-takes, removal-takes-off, frame-is, other-takes, then_own, due-so}
use Rattle.laws_order.proofs.OfTeis.Waiting.{known, removal, IsCovered, AreCovered, covered-so, texts, Holds}

module _ (b : Bus) (can : CanMeet b) (n : Network) (t : Terminal) where
  -- More is missed, and what holds was made since.
  grown : (missed ys : List Remembered) (r : Remembered) (back : List (List ℕ)) → IsCovered b (known n missed) r back → IsCovered b (known n (over_of n.hold (missed ++ ys))) r back
  grown missed ys r back c = record { made = c.made; covered = go c.covered }
    where
      Rest : Type 0
      Rest = IsIn r n.hold ⊎ ((list_any (removal b r.tei) back ≡ true) ⊎ IsIn r (over_of n.hold (missed ++ ys)))

      still : IsIn r n.hold ⊎ IsIn r (over_of n.hold (missed ++ ys)) → Rest
      still (inl is) = inl is
      still (inr is) = inr (inr is)

      go : IsIn r n.hold ⊎ ((list_any (removal b r.tei) back ≡ true) ⊎ IsIn r missed) → Rest
      go (inl is) = inl is
      go (inr (inl is)) = inr (inl is)
      go (inr (inr is)) = still (held-or-over r n.hold (missed ++ ys) (in-left r missed ys is))

  all-grown : (missed ys : List Remembered) (xs after : List (List ℕ)) → AreCovered b (known n missed) xs after → AreCovered b (known n (over_of n.hold (missed ++ ys))) xs after
  all-grown missed ys xs after all = covered-so b (known n missed) (known n (over_of n.hold (missed ++ ys))) xs after after (λ r back c. grown missed ys r (back ++ after) c) all

  pub grows : (way : List (List ℕ)) (missed ys : List Remembered) → Holds b n t way missed → Holds b n t way (over_of n.hold (missed ++ ys))
  grows way missed ys h = record {
    held = h.held;
    on = h.on;
    made = h.made;
    alone = h.alone;
    latest = h.latest;
    own = h.own;
    way_is = all-grown missed ys way (texts b n.teis.owed) h.way_is;
    owed_is = all-grown missed ys (texts b n.teis.owed) [] h.owed_is;
    given = λ r is. ((h.given r is).0, grown missed ys r (way ++ texts b n.teis.owed) (h.given r is).1);
  }

  -- The oldest frame in transit is lost.
  pub lost : (x : List ℕ) (more : List (List ℕ)) (missed : List Remembered) → Holds b n t (x ∷ more) missed
      → Holds b n t more (over_of n.hold (missed ++ filter (λ r. list_any (removal b r.tei) (x ∷ [])) n.made))
  lost x more missed h = record {
    held = h.held;
    on = h.on;
    made = h.made;
    alone = h.alone;
    latest = h.latest;
    own = h.own;
    way_is = all-grown missed misses more (texts b n.teis.owed) h.way_is.1;
    owed_is = all-grown missed misses (texts b n.teis.owed) [] h.owed_is;
    given = λ r is. ((h.given r is).0, without r (h.given r is).1);
  }
    where
      misses : List Remembered
      misses = filter (λ r. list_any (removal b r.tei) (x ∷ [])) n.made

      without : (r : Remembered) → IsCovered b (known n missed) r ((x ∷ more) ++ texts b n.teis.owed) → IsCovered b (known n (over_of n.hold (missed ++ misses))) r (more ++ texts b n.teis.owed)
      without r c = record { made = c.made; covered = go c.covered }
        where
          Rest : Type 0
          Rest = IsIn r n.hold ⊎ ((list_any (removal b r.tei) (more ++ texts b n.teis.owed) ≡ true) ⊎ IsIn r (over_of n.hold (missed ++ misses)))

          still : IsIn r n.hold ⊎ IsIn r (over_of n.hold (missed ++ misses)) → Rest
          still (inl is) = inl is
          still (inr is) = inr (inr is)

          missed-now : IsIn r (missed ++ misses) → Rest
          missed-now is = still (held-or-over r n.hold (missed ++ misses) is)

          either : (removal b r.tei x ≡ true) ⊎ (list_any (removal b r.tei) (more ++ texts b n.teis.owed) ≡ true) → Rest
          either (inl is) = missed-now (in-right r missed misses (in-filter (λ r. list_any (removal b r.tei) (x ∷ [])) r n.made c.made (ap (λ z. z || false) is)))
          either (inr is) = inr (inl is)

          go : IsIn r n.hold ⊎ ((list_any (removal b r.tei) ((x ∷ more) ++ texts b n.teis.owed) ≡ true) ⊎ IsIn r missed) → Rest
          go (inl is) = inl is
          go (inr (inl is)) = (either (or-cases (removal b r.tei x) (list_any (removal b r.tei) (more ++ texts b n.teis.owed)) is))
          go (inr (inr is)) = missed-now (in-left r missed misses is)

  -- An event of the terminal's line.
  module _ (e : Event) where
    abbrev w : Managed
    w = t.teis

    abbrev d : Managed
    d = due b.terminal e w

    abbrev pub terminal_now : Terminal
    terminal_now = with_given (λ tei. is_on tei d) b.terminal d d.notes t

    module _ (same_on : w.on ≡ teis_of (own_of b.terminal w).places) where
      abbrev u : OfTerminal
      u = then_own b.terminal can.own w same_on e

      own-now : d.on ≡ teis_of (own_of b.terminal d).places
      own-now = let due = due-so b.terminal can.own w same_on e in due.on ∙ ap teis_of (sym due.places)

      taken-is : taken b.terminal w d.notes ≡ takes (own_of b.terminal w) u
      taken-is = ap (flat_map (λ note. taken_by note (own_of b.terminal w).procedure)) (due-so b.terminal can.own w same_on e).notes

      given-now : (r : Remembered) → IsIn r terminal_now.given → (IsIn r t.given ⊎ IsIn r (takes (own_of b.terminal w) u)) × (is_on r.tei d ≡ true)
      given-now r is =
          let parts = in-filtered (λ r. is_on r.tei d) r (t.given ++ taken b.terminal w d.notes) is in
          (in-either r t.given (takes (own_of b.terminal w) u) (subst (λ xs. IsIn r (t.given ++ xs)) taken-is parts.0), parts.1)

    -- It hears nothing.
    pub no-frame : (way : List (List ℕ)) (missed : List Remembered) → is_heard e ≡ false → Holds b n t way missed → Holds b n terminal_now way missed
    no-frame way missed other h = record {
      held = h.held;
      on = h.on;
      made = h.made;
      alone = h.alone;
      latest = h.latest;
      own = own-now h.own;
      way_is = h.way_is;
      owed_is = h.owed_is;
      given = λ r is. go r (given-now h.own r is).0;
    }
      where
        go : (r : Remembered) → IsIn r t.given ⊎ IsIn r (takes (own_of b.terminal w) (u h.own)) → (nat_le r.tei 126 ≡ true) × IsCovered b (known n missed) r (way ++ texts b n.teis.owed)
        go r (inl is) = h.given r is
        go r (inr is) = absurd (subst (IsIn r) (other-takes (own_of b.terminal w) refl b.terminal e other) is)

  -- It hears the oldest frame in transit.
  pub comes : (x : List ℕ) (more : List (List ℕ)) (missed : List Remembered) → Holds b n t (x ∷ more) missed
      → Holds b n (terminal_now (hears (came b.terminal.n201 x))) more missed
  comes x more missed h = record {
    held = h.held;
    on = h.on;
    made = h.made;
    alone = h.alone;
    latest = h.latest;
    own = own-now e h.own;
    way_is = h.way_is.1;
    owed_is = h.owed_is;
    given = λ r is. go r (given-now e h.own r is).1 (given-now e h.own r is).0;
  }
    where
      e : Event
      e = hears (came b.terminal.n201 x)

      k : OfTerminal
      k = own_of b.terminal t.teis

      v : OfTerminal
      v = unwrap_or (by_message b.terminal (message_in b.terminal x) k) k

      u-is : u e h.own ≡ v
      u-is = ap (λ o. unwrap_or o k) (frame-is k refl b.terminal x)

      stays : (r : Remembered) → is_on r.tei (due b.terminal e t.teis) ≡ true → nat_le r.tei 126 ≡ true → IsCovered b (known n missed) r ((x ∷ more) ++ texts b n.teis.owed) → IsCovered b (known n missed) r (more ++ texts b n.teis.owed)
      stays r on few c = record { made = c.made; covered = each c.covered }
        where
          still-on : terminal.is_on r.tei v ≡ true
          still-on =
              ap (λ (o : OfTerminal). terminal.is_on r.tei o) (sym u-is)
              ∙ ap (λ xs. list_any (λ on. on == r.tei) xs) (sym (due-so b.terminal can.own t.teis h.own e).on) ∙ on

          either : (removal b r.tei x ≡ true) ⊎ (list_any (removal b r.tei) (more ++ texts b n.teis.owed) ≡ true) → list_any (removal b r.tei) (more ++ texts b n.teis.owed) ≡ true
          either (inl is) = absurd (true≢false (sym still-on ∙ removal-takes-off k refl b.terminal r.tei (message_in b.terminal x) few is))
          either (inr is) = is

          each : IsIn r n.hold ⊎ ((list_any (removal b r.tei) ((x ∷ more) ++ texts b n.teis.owed) ≡ true) ⊎ IsIn r missed)
              → IsIn r n.hold ⊎ ((list_any (removal b r.tei) (more ++ texts b n.teis.owed) ≡ true) ⊎ IsIn r missed)
          each (inl is) = inl is
          each (inr (inl is)) = inr (inl (either (or-cases (removal b r.tei x) (list_any (removal b r.tei) (more ++ texts b n.teis.owed)) is)))
          each (inr (inr is)) = inr (inr is)

      go : (r : Remembered) → is_on r.tei (due b.terminal e t.teis) ≡ true → IsIn r t.given ⊎ IsIn r (takes k (u e h.own)) → (nat_le r.tei 126 ≡ true) × IsCovered b (known n missed) r (more ++ texts b n.teis.owed)
      go r on (inl is) = let was = h.given r is in (was.0, stays r on was.0 was.1)
      go r on (inr is) =
          let so = message-takes k refl b.terminal (message_in b.terminal x) r (subst (λ o. IsIn r (takes k o)) u-is is) in
          (assigned-few r (message_in b.terminal x) so, h.way_is.0 r so)
