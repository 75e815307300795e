-- An event of the network's line leaves each assignment accounted for.
use Rattle.std.specs.Prelude.{◌≡◌, ℕ, ◌==◌, ◌&&◌, ◌||◌, ◌⊎◌, not, Bool, true, false, List, [], ◌∷◌, ◌++◌, length, filter, drop, refl}
use Rattle.std.specs.List.{list_any}
use Rattle.std.proofs.Common.{inl, inr, subst, sym, ap, ◌∙◌, true≢false, append_assoc, append-nil}
use Rattle.model_teis.specs.declared.network.messages.Message.{Message}
use Rattle.model_teis.specs.declared.network.messages.Message.TheVariants.{IdentityAssigned, IdentityDenied, IdentityCheckRequest, IdentityRemove}
use Rattle.model_teis.specs.declared.network.remembered.Remembered.{Remembered}
use Rattle.model_line.specs.Event.{Event, request}
use Rattle.model_line.specs.Request.{Down}
use Rattle.laws_trace.specs.Managing.{Managed, is_on, octets_of}
use Rattle.laws_trace.specs.TeisAreManaged.{message_text}
use Rattle.laws_order.specs.teis.Bus.{Bus, Network, newly_owed, newly_made, with_teis, gives_up, leaves_untold, removes, is_among, over_of}
use Rattle.laws_order.specs.teis.Assignments.{Terminal, CanMeet, IsIn}
use Rattle.laws_order.specs.teis.TwoTerminals.{is_older}
use Rattle.laws_order.proofs.OfTeis.Frames.{AreNone}
use Rattle.laws_order.proofs.OfTeis.Lists.{in-left, in-right, in-either, in-filter, in-filtered, any-left, any-right, any-either, or-left-so, or-right-so, is-there, held-or-over, older-kept, older-new}
use Rattle.laws_order.proofs.OfTeis.NewlyMade.{Table, Queue, AreMade, assigned, dropped-front}
use Rattle.laws_order.proofs.OfTeis.Waiting.{Known, known, removal, IsCovered, AreCovered, covered-so, covered-both, none-covered, texts, texts-both, removals-are, made-covered, Holds}

not-true : (b : Bool) → not b ≡ true → b ≡ false
not-true true is = absurd (true≢false (sym is))
not-true false is = refl

are-made : (held : List Remembered) (ms : List Message) → ((r : Remembered) → IsIn r (assigned ms) → IsIn r held) → AreMade held ms
are-made held [] holds = tt
are-made held (IdentityAssigned ri tei ∷ ms) holds = (holds (record { ri = ri; tei = tei }) (inl refl), are-made held ms (λ r is. holds r (inr is)))
are-made held (IdentityDenied ri tei ∷ ms) holds = (tt, are-made held ms holds)
are-made held (IdentityCheckRequest tei ∷ ms) holds = (tt, are-made held ms holds)
are-made held (IdentityRemove tei ∷ ms) holds = (tt, are-made held ms holds)

module _ (b : Bus) (can : CanMeet b) (n : Network) (t : Terminal) (way : List (List ℕ)) (missed : List Remembered) (h : Holds b n t way missed) (what : Event) (d : Managed) (fs : List (List ℕ)) (table : Table n.teis d) where
  abbrev w : Managed
  w = n.teis

  abbrev pub network_now : Network
  network_now = with_teis (λ tei. is_on tei d) d n

  abbrev misses_one : Remembered → Bool
  misses_one r = gives_up r.tei what w || leaves_untold r.tei w d

  abbrev pub missed_now : List Remembered
  missed_now = over_of network_now.hold (missed ++ filter misses_one n.made)

  abbrev old : Known
  old = known n missed

  abbrev new : Known
  new = known network_now missed_now

  -- the table
  held-now : (r : Remembered) → IsIn r d.held → IsIn r network_now.hold
  held-now r is = in-filter (λ r. is_on r.tei d) r (n.hold ++ newly_made w d) (there (table.known r is).1) (table.known r is).0
    where
      there : IsIn r w.held ⊎ IsIn r (newly_made w d) → IsIn r (n.hold ++ newly_made w d)
      there (inl was) = in-left r n.hold (newly_made w d) (h.held r was)
      there (inr new) = in-right r n.hold (newly_made w d) new

  on-now : (r : Remembered) → IsIn r network_now.hold → is_on r.tei d ≡ true
  on-now r is = (in-filtered (λ r. is_on r.tei d) r (n.hold ++ newly_made w d) is).1

  made-now : (r : Remembered) → IsIn r network_now.hold → IsIn r network_now.made
  made-now r is = go (in-either r n.hold (newly_made w d) (in-filtered (λ r. is_on r.tei d) r (n.hold ++ newly_made w d) is).0)
    where
      go : IsIn r n.hold ⊎ IsIn r (newly_made w d) → IsIn r (n.made ++ newly_made w d)
      go (inl was) = in-left r n.made (newly_made w d) (h.made r was)
      go (inr new) = in-right r n.made (newly_made w d) new

  abbrev made_anew : List Remembered
  made_anew = newly_made w d

  is-new : (r : Remembered) → IsIn r made_anew → is_on r.tei w ≡ false
  is-new r new = not-true (is_on r.tei w) (in-filtered (λ r. not (is_on r.tei w)) r (assigned (newly_owed w d)) new).1

  from : (r : Remembered) → IsIn r network_now.hold → IsIn r n.hold ⊎ IsIn r made_anew
  from r is = in-either r n.hold made_anew (in-filtered (λ r. is_on r.tei d) r (n.hold ++ made_anew) is).0

  -- What is made anew is of one TEI, which none had that held.
  one-new : (r s : Remembered) → IsIn r made_anew → IsIn s made_anew → r ≡ s
  one-new r s is other = table.alone r s is other

  not-held : (r s : Remembered) → IsIn r n.hold → IsIn s made_anew → s.tei ≡ r.tei → ⊥
  not-held r s was new same = true≢false (sym (h.on r was) ∙ ap (λ tei. is_on tei w) (sym same) ∙ is-new s new)

  alone-now : (r s : Remembered) → IsIn r network_now.hold → IsIn s network_now.hold → r.tei ≡ s.tei → r ≡ s
  alone-now r s is other same = go (from r is) (from s other)
    where
      go : IsIn r n.hold ⊎ IsIn r made_anew → IsIn s n.hold ⊎ IsIn s made_anew → r ≡ s
      go (inl was) (inl before) = h.alone r s was before same
      go (inl was) (inr new) = absurd (not-held r s was new (sym same))
      go (inr new) (inl before) = absurd (not-held s r before new same)
      go (inr new) (inr newer) = one-new r s new newer

  latest-now : (r s : Remembered) → IsIn r network_now.hold → IsIn s network_now.made → s.tei ≡ r.tei → (s ≡ r) ⊎ (is_older s r network_now.made ≡ true)
  latest-now r s is made same = go (from r is) (in-either s n.made made_anew made) (is_among s made_anew) refl
    where
      Or : Type 0
      Or = (s ≡ r) ⊎ (is_older s r network_now.made ≡ true)

      stays : is_among s made_anew ≡ false → (s ≡ r) ⊎ (is_older s r n.made ≡ true) → Or
      stays off (inl is) = inl is
      stays off (inr older) = inr (older-kept s r made_anew off n.made older)

      go : IsIn r n.hold ⊎ IsIn r made_anew → IsIn s n.made ⊎ IsIn s made_anew → (x : Bool) → is_among s made_anew ≡ x → Or
      go (inl was) (inr new) x so = absurd (not-held r s was new same)
      go (inl was) (inl before) true so = absurd (not-held r s was (is-there s made_anew so) same)
      go (inl was) (inl before) false so = stays so (h.latest r s was before same)
      go (inr new) (inr newer) x so = inl (one-new s r newer new)
      go (inr new) (inl before) true so = inl (one-new s r (is-there s made_anew so) new)
      go (inr new) (inl before) false so = inr (older-new s r made_anew so n.made before new)

  -- an assignment
  abbrev Else : Remembered → Type 0
  Else r = IsIn r network_now.hold ⊎ IsIn r missed_now

  abbrev Found : Remembered → List (List ℕ) → Type 0
  Found r back = IsIn r network_now.hold ⊎ ((list_any (removal b r.tei) back ≡ true) ⊎ IsIn r missed_now)

  else-found : (r : Remembered) (back : List (List ℕ)) → Else r → Found r back
  else-found r back (inl holds) = inl holds
  else-found r back (inr is) = inr (inr is)

  or-missed : (r : Remembered) → IsIn r (missed ++ filter misses_one n.made) → Else r
  or-missed r is = held-or-over r network_now.hold (missed ++ filter misses_one n.made) is

  misses-so : (r : Remembered) → IsIn r n.made → misses_one r ≡ true → Else r
  misses-so r made is = or-missed r (in-right r missed (filter misses_one n.made) (in-filter misses_one r n.made made is))

  step : (r : Remembered) (back then_ : List (List ℕ))
      → (list_any (removal b r.tei) back ≡ true → Found r then_)
      → (is_on r.tei w ≡ true → is_on r.tei d ≡ false → Found r then_)
      → IsCovered b old r back → IsCovered b new r then_
  step r back then_ comes lost c = record { made = in-left r n.made (newly_made w d) c.made; covered = go c.covered }
    where
      stands : (x : Bool) → is_on r.tei d ≡ x → IsIn r n.hold → Found r then_
      stands true on is = inl (in-filter (λ r. is_on r.tei d) r (n.hold ++ newly_made w d) (in-left r n.hold (newly_made w d) is) on)
      stands false off is = lost (h.on r is) off

      go : IsIn r n.hold ⊎ ((list_any (removal b r.tei) back ≡ true) ⊎ IsIn r missed) → Found r then_
      go (inl is) = stands (is_on r.tei d) refl is
      go (inr (inl is)) = comes is
      go (inr (inr is)) = else-found r then_ (or-missed r (in-left r missed (filter misses_one n.made) is))

  -- What follows of the frames.
  then-holds : AreCovered b new (way ++ fs) (texts b d.owed) → AreCovered b new (texts b d.owed) []
      → ((r : Remembered) → IsCovered b old r (way ++ texts b w.owed) → IsCovered b new r ((way ++ fs) ++ texts b d.owed))
      → Holds b network_now t (way ++ fs) missed_now
  then-holds ways owed givens = record {
    held = held-now;
    on = on-now;
    made = made-now;
    alone = alone-now;
    latest = latest-now;
    own = h.own;
    way_is = ways;
    owed_is = owed;
    given = λ r is. ((h.given r is).0, givens r (h.given r is).1);
  }

  -- Messages come to be owed.
  module _ (queue : Queue w d) (none : AreNone b fs) where
    abbrev T : List (List ℕ)
    T = texts b w.owed

    abbrev N : List (List ℕ)
    N = texts b queue.new

    owed-texts : texts b d.owed ≡ T ++ N
    owed-texts = ap (texts b) queue.owed ∙ texts-both b w.owed queue.new

    -- Each of which they say is made holds.
    in-hold : (r : Remembered) → IsIn r (assigned queue.new) → IsIn r network_now.hold
    in-hold r is = in-filter (λ r. is_on r.tei d) r (n.hold ++ newly_made w d) (there (queue.made r is).1) (queue.made r is).0
      where
        there : IsIn r w.held ⊎ (is_on r.tei w ≡ false) → IsIn r (n.hold ++ newly_made w d)
        there (inl was) = in-left r n.hold (newly_made w d) (h.held r was)
        there (inr off) =
            in-right r n.hold (newly_made w d) (subst (λ ms. IsIn r (filter (λ r. not (is_on r.tei w)) (assigned ms))) (sym (ap (drop (length w.owed)) queue.owed ∙ dropped-front w.owed queue.new))
            (in-filter (λ r. not (is_on r.tei w)) r (assigned queue.new) is (ap not off)))

    untold : (r : Remembered) → IsIn r n.made → is_on r.tei w ≡ true → is_on r.tei d ≡ false → (list_any (removal b r.tei) N ≡ true) ⊎ Else r
    untold r made on off = go (list_any (removes r.tei) queue.new) refl
      where
        go : (x : Bool) → list_any (removes r.tei) queue.new ≡ x → (list_any (removal b r.tei) N ≡ true) ⊎ Else r
        go true is = inl (removals-are b can r.tei queue.new ∙ is)
        go false is =
            inr (misses-so r made (or-right-so (gives_up r.tei what w) (leaves_untold r.tei w d)
            (ap (λ x. (x && not (is_on r.tei d)) && not (list_any (removes r.tei) (drop (length w.owed) d.owed))) on
            ∙ ap (λ x. not x && not (list_any (removes r.tei) (drop (length w.owed) d.owed))) off
            ∙ ap (λ ms. not (list_any (removes r.tei) (drop (length w.owed) ms))) queue.owed
            ∙ ap (λ ms. not (list_any (removes r.tei) ms)) (dropped-front w.owed queue.new)
            ∙ ap not is)))

    more : (r : Remembered) (back : List (List ℕ)) → IsCovered b old r (back ++ T) → IsCovered b new r (back ++ (fs ++ (T ++ N)))
    more r back c =
        step r (back ++ T) (back ++ (fs ++ (T ++ N)))
        (λ is. inr (inl (widened (any-either (removal b r.tei) back T is))))
        (λ on off. at-end (untold r c.made on off)) c
      where
        widened : (list_any (removal b r.tei) back ≡ true) ⊎ (list_any (removal b r.tei) T ≡ true) → list_any (removal b r.tei) (back ++ (fs ++ (T ++ N))) ≡ true
        widened (inl is) = any-left (removal b r.tei) back (fs ++ (T ++ N)) is
        widened (inr is) = any-right (removal b r.tei) back (fs ++ (T ++ N)) (any-right (removal b r.tei) fs (T ++ N) (any-left (removal b r.tei) T N is))

        at-end : (list_any (removal b r.tei) N ≡ true) ⊎ Else r → Found r (back ++ (fs ++ (T ++ N)))
        at-end (inl is) = inr (inl (any-right (removal b r.tei) back (fs ++ (T ++ N)) (any-right (removal b r.tei) fs (T ++ N) (any-right (removal b r.tei) T N is))))
        at-end (inr is) = else-found r (back ++ (fs ++ (T ++ N))) is

    more-owed : (r : Remembered) (back : List (List ℕ)) → IsCovered b old r (back ++ []) → IsCovered b new r (back ++ (N ++ []))
    more-owed r back c =
        step r (back ++ []) (back ++ (N ++ []))
        (λ is. inr (inl (any-left (removal b r.tei) back (N ++ []) (subst (λ xs. list_any (removal b r.tei) xs ≡ true) (append-nil back) is))))
        (λ on off. at-end (untold r c.made on off)) c
      where
        at-end : (list_any (removal b r.tei) N ≡ true) ⊎ Else r → Found r (back ++ (N ++ []))
        at-end (inl is) = inr (inl (any-right (removal b r.tei) back (N ++ []) (any-left (removal b r.tei) N [] is)))
        at-end (inr is) = else-found r (back ++ (N ++ [])) is

    pub kept : Holds b network_now t (way ++ fs) missed_now
    kept =
        then-holds
        (subst (AreCovered b new (way ++ fs)) (sym owed-texts)
        (covered-both b new way fs (T ++ N) (covered-so b old new way T (fs ++ (T ++ N)) more h.way_is) (none-covered b new fs (T ++ N) none)))
        (subst (λ xs. AreCovered b new xs []) (sym owed-texts)
        (covered-both b new T N [] (covered-so b old new T [] (N ++ []) more-owed h.owed_is)
        (made-covered b can new network_now.hold (λ r is. is) made-now queue.new [] (are-made network_now.hold queue.new in-hold))))
        (λ r c. subst (IsCovered b new r) (sym (append_assoc way fs (texts b d.owed) ∙ ap (λ xs. way ++ (fs ++ xs)) owed-texts)) (more r way c))

  -- The TEIs stay as they were.
  module _ (same : d.on ≡ w.on) where
    stays-on : (r : Remembered) → is_on r.tei w ≡ true → is_on r.tei d ≡ false → ⊥
    stays-on r on off = true≢false (sym (ap (λ xs. list_any (λ x. x == r.tei) xs) same ∙ on) ∙ off)

    -- The line is down: what was owed is given up.
    module _ (down : what ≡ request Down) (none_owed : d.owed ≡ []) (none : AreNone b fs) where
      less : (r : Remembered) (back : List (List ℕ)) → IsCovered b old r (back ++ texts b w.owed) → IsCovered b new r (back ++ (fs ++ []))
      less r back c =
          step r (back ++ texts b w.owed) (back ++ (fs ++ []))
          (λ is. narrowed (any-either (removal b r.tei) back (texts b w.owed) is))
          (λ on off. absurd (stays-on r on off)) c
        where
          narrowed : (list_any (removal b r.tei) back ≡ true) ⊎ (list_any (removal b r.tei) (texts b w.owed) ≡ true) → Found r (back ++ (fs ++ []))
          narrowed (inl is) = inr (inl (any-left (removal b r.tei) back (fs ++ []) is))
          narrowed (inr is) =
              else-found r (back ++ (fs ++ [])) (misses-so r c.made (or-left-so (gives_up r.tei what w) (leaves_untold r.tei w d)
              (ap (λ e. gives_up r.tei e w) down ∙ sym (removals-are b can r.tei w.owed) ∙ is)))

      pub given-up : Holds b network_now t (way ++ fs) missed_now
      given-up =
          then-holds
          (subst (λ ms. AreCovered b new (way ++ fs) (texts b ms)) (sym none_owed)
          (covered-both b new way fs [] (covered-so b old new way (texts b w.owed) (fs ++ []) less h.way_is) (none-covered b new fs [] none)))
          (subst (λ ms. AreCovered b new (texts b ms) []) (sym none_owed) tt)
          (λ r c. subst (IsCovered b new r) (sym (append_assoc way fs (texts b d.owed) ∙ ap (λ ms. way ++ (fs ++ texts b ms)) none_owed)) (less r way c))

    -- The line is called for its next frame.
    as-it-is : (r : Remembered) (back then_ : List (List ℕ)) → back ≡ then_ → IsCovered b old r back → IsCovered b new r then_
    as-it-is r back then_ is c =
        step r back then_ (λ found. inr (inl (subst (λ xs. list_any (removal b r.tei) xs ≡ true) is found))) (λ on off. absurd (stays-on r on off)) c

    pub called-none : w.owed ≡ [] → d.owed ≡ [] → AreNone b fs → Holds b network_now t (way ++ fs) missed_now
    called-none was now none =
        then-holds
        (subst (λ ms. AreCovered b new (way ++ fs) (texts b ms)) (sym now)
        (covered-both b new way fs [] (covered-so b old new way (texts b w.owed) (fs ++ []) wider h.way_is) (none-covered b new fs [] none)))
        (subst (λ ms. AreCovered b new (texts b ms) []) (sym now) tt)
        (λ r c. subst (IsCovered b new r) (sym (append_assoc way fs (texts b d.owed) ∙ ap (λ ms. way ++ (fs ++ texts b ms)) now)) (wider r way c))
      where
        wider : (r : Remembered) (back : List (List ℕ)) → IsCovered b old r (back ++ texts b w.owed) → IsCovered b new r (back ++ (fs ++ []))
        wider r back c =
            step r (back ++ texts b w.owed) (back ++ (fs ++ []))
            (λ found. inr (inl (any-left (removal b r.tei) back (fs ++ [])
            (subst (λ xs. list_any (removal b r.tei) xs ≡ true) (ap (λ ms. back ++ texts b ms) was ∙ append-nil back) found))))
            (λ on off. absurd (stays-on r on off)) c

    pub called-one : (m : Message) (more : List Message) → w.owed ≡ m ∷ more → d.owed ≡ more → fs ≡ message_text b.network (octets_of m) ∷ [] → Holds b network_now t (way ++ fs) missed_now
    called-one m more was now one =
        then-holds
        (covered-both b new way fs (texts b d.owed)
        (covered-so b old new way (texts b w.owed) (fs ++ texts b d.owed) (λ r back c. as-it-is r _ _ (ap (λ xs. back ++ xs) moves) c) h.way_is)
        (subst (λ xs. AreCovered b new xs (texts b d.owed)) (sym one) (λ r is. as-it-is r _ _ (append-nil (texts b more) ∙ ap (texts b) (sym now)) (waits.0 r is), tt)))
        (subst (λ ms. AreCovered b new (texts b ms) []) (sym now) (covered-so b old new (texts b more) [] [] (λ r back c. as-it-is r _ _ refl c) waits.1))
        (λ r c. as-it-is r _ _ (ap (λ xs. way ++ xs) moves ∙ sym (append_assoc way fs (texts b d.owed))) c)
      where
        moves : texts b w.owed ≡ fs ++ texts b d.owed
        moves = ap (texts b) was ∙ sym (ap (λ xs. xs ++ texts b d.owed) one ∙ ap (λ ms. message_text b.network (octets_of m) ∷ texts b ms) now)

        waits : AreCovered b old (texts b (m ∷ more)) []
        waits = subst (λ ms. AreCovered b old (texts b ms) []) was h.owed_is
