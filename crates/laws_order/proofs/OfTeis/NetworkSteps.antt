-- What an observer of the network's line knows of its assignments and of the messages that are owed, event by event.
use Rattle.std.specs.Prelude.{◌≡◌, ℕ, ◌+◌, ◌-◌, ◌*◌, ◌/◌, ◌%◌, ◌==◌, ◌&&◌, ◌||◌, ◌⊎◌, ⊤, not, Bool, true, false, cond, List, [], ◌∷◌, ◌++◌, length, filter, take, drop, Option, Some, None, nat_lt, nat_le, refl}
use Rattle.std.specs.List.{list_any, find, position, range_with_len}
use Rattle.std.specs.Option.{option_and_then, option_map_or, unwrap_or}
use Rattle.std.proofs.lemmas.Grind.{flat_map-append}
use Rattle.std.proofs.Common.{inl, inr, subst, sym, ap, ◌∙◌, true≢false, append-nil, append_assoc, eq-eqb, eqb-true}
use Rattle.lapd_frame.specs.Grammar.{Parts}
use Rattle.lapd_frame.specs.Readings.{by_reading}
use Rattle.lapd_frame.specs.declared.readings.Reading.{Reading}
use Rattle.lapd_frame.specs.declared.readings.Reading.TheVariants.{Profile, AnnexB}
use Rattle.lapd_frame.specs.declared.notes.Note.{Note}
use Rattle.lapd_frame.specs.declared.notes.Note.TheVariants.{Assigned, Doubled, Removed}
use Rattle.lapd_frame.specs.declared.timers.Order.TheVariants.{Stop}
use Rattle.lapd_frame.specs.declared.timers.Timer.TheVariants.{T200, T201, T202, T203}
use Rattle.model_teis.specs.declared.network.messages.Message.{Message}
use Rattle.model_teis.specs.declared.network.messages.Message.TheVariants.{IdentityAssigned, IdentityDenied, IdentityCheckRequest, IdentityRemove}
use Rattle.model_teis.specs.declared.network.remembered.Remembered.{Remembered}
use Rattle.model_line.specs.declared.config.Config.{Config}
use Rattle.model_line.specs.Event.{Event, hears, expiry, request, next}
use Rattle.model_line.specs.Request.{Request, Establish, Release, Data, Unit, Assign, Remove, Check, Disown, AskTei, VerifyTei, SetBusy, ClearBusy, Deactivate, Down}
use Rattle.laws_trace.specs.LinkFrames.{frame_of}
use Rattle.laws_trace.specs.Managing.{Managed, Checked, is_on, is_full, comes, owes, gives, asks, requested, is_given, free_tei, checks, is_asked, defers, verified, others, over, leaves, removes, responded, settling, is_one, named_by, several, ran_out, by_message, by_frame, by_request, by_event, manages, grants}
use Rattle.laws_trace.specs.ManagingTerminal.{is_message, teis_of}
use Rattle.laws_order.specs.teis.Bus.{assigned_in}
use Rattle.laws_order.specs.teis.Assignments.{IsIn}
use Rattle.laws_order.proofs.OfTeis.Lists.{in-dropped, in-either, in-found, in-filtered, found-passes, any-kept, or-right-so, or-left-so}
use Rattle.laws_order.proofs.OfTeis.NewlyMade.{assigned, Changes}

-- Any event except a line down and a call for the next frame.
abbrev pub IsOther : Event → Type 0
IsOther (request Down) = ⊥
IsOther next = ⊥
IsOther other = ⊤

-- Messages that assign nothing come to be owed, and all else of assignments stays.
record Adds (w d : Managed) : Type 0 where
  pub new : List Message
  pub owed : d.owed ≡ w.owed ++ new
  pub none : assigned new ≡ []
  pub on : d.on ≡ w.on
  pub held : d.held ≡ w.held
  pub begins : d.begins ≡ w.begins

adds-none : (w d : Managed) → d.owed ≡ w.owed → d.on ≡ w.on → d.held ≡ w.held → d.begins ≡ w.begins → Adds w d
adds-none w d owed on held begins = record { new = []; owed = owed ∙ sym (append-nil w.owed); none = refl; on = on; held = held; begins = begins }

adds-one : (m : Message) (w : Managed) → assigned (m ∷ []) ≡ [] → Adds w (owes m w)
adds-one m w none = go (is_full w)
  where
    go : (b : Bool) → Adds w (record w { owed = cond b w.owed (w.owed ++ m ∷ []); lost = cond b (w.lost + 1) w.lost })
    go true = adds-none w _ refl refl refl refl
    go false = record { new = m ∷ []; owed = refl; none = none; on = refl; held = refl; begins = refl }

assigned-both : (ms ns : List Message) → assigned (ms ++ ns) ≡ assigned ms ++ assigned ns
assigned-both ms ns = flat_map-append assigned_in ms ns

adds-then : (w u d : Managed) → Adds w u → Adds u d → Adds w d
adds-then w u d x y = record {
  new = x.new ++ y.new;
  owed = y.owed ∙ ap (λ ms. ms ++ y.new) x.owed ∙ append_assoc w.owed x.new y.new;
  none = assigned-both x.new y.new ∙ ap (λ rs. rs ++ assigned y.new) x.none ∙ y.none;
  on = y.on ∙ x.on;
  held = y.held ∙ x.held;
  begins = y.begins ∙ x.begins;
}

adds-checks : (tei : ℕ) (before : Option Bool) (w : Managed) → Adds w (checks tei before w)
adds-checks tei before w =
    let x = adds-one (IdentityCheckRequest tei) w refl in
    record { new = x.new; owed = x.owed; none = x.none; on = refl; held = refl; begins = refl }

adds-over : (w : Managed) → Adds w (over w)
adds-over w = go (find (λ tei. list_any (λ later. later == tei) w.later) (teis_of w.places))
  where
    go : (o : Option ℕ) → Adds w (option_map_or (λ tei. settling tei (record w { later = others tei w.later })) o (record w { check = None; orders = Stop T201 ∷ [] }))
    go None = adds-none w _ refl refl refl refl
    go (Some tei) = adds-none w _ refl refl refl refl

adds-defers : (tei : ℕ) (w : Managed) → Adds w (defers tei w)
adds-defers tei w = go (list_any (is_asked tei) w.owed)
  where
    go : (b : Bool) → Adds w (record (cond b w (owes (IdentityCheckRequest tei) w)) { later = tei ∷ w.later })
    go true = adds-none w _ refl refl refl refl
    go false = let x = adds-one (IdentityCheckRequest tei) w refl in record { new = x.new; owed = x.owed; none = x.none; on = refl; held = refl; begins = refl }

-- What is over of a TEI that leaves.
abbrev over_of_its : ℕ → Managed → Managed
over_of_its tei w = cond (option_map_or (λ (check : Checked). check.tei == tei) w.check false) (over w) w

adds-over_of : (tei : ℕ) (w : Managed) → Adds w (over_of_its tei w)
adds-over_of tei w = go (option_map_or (λ (check : Checked). check.tei == tei) w.check false)
  where
    go : (b : Bool) → Adds w (cond b (over w) w)
    go true = adds-over w
    go false = adds-none w w refl refl refl refl

module _ (w : Managed) (there : (r : Remembered) → IsIn r w.held → is_on r.tei w ≡ true) where
  no-new : (ms : List Message) → assigned ms ≡ [] → (r : Remembered) → IsIn r (assigned ms) → ⊥
  no-new ms none r is = subst (IsIn r) none is

  adds-so : (d : Managed) → Adds w d → Changes w d
  adds-so d x = record {
    queue = record { new = x.new; owed = x.owed; made = λ r is. absurd (no-new x.new x.none r is) };
    known = λ r is. let was = subst (IsIn r) x.held is in (ap (λ on. list_any (λ y. y == r.tei) on) x.on ∙ there r was, inl was);
    alone = λ r s is other. absurd (no-new x.new x.none r is);
    begins = x.begins;
  }

  nothing : Changes w w
  nothing = adds-so w (adds-none w w refl refl refl refl)

  -- one of which no other things are told
  noted : (d : Managed) (notes : List Note) → Changes w d → Changes w (record d { notes = notes })
  noted d notes h = record { queue = record { new = h.queue.new; owed = h.queue.owed; made = h.queue.made }; known = h.known; alone = h.alone; begins = h.begins }

  -- A message says that an assignment is made, if there is room.
  one-is : (x r : Remembered) → IsIn r (x ∷ []) → x ≡ r
  one-is x r (inl same) = same
  one-is x r (inr none) = absurd none

  again-so : (ri tei : ℕ) → IsIn (record { ri = ri; tei = tei }) w.held → Changes w (owes (IdentityAssigned ri tei) w)
  again-so ri tei held = go (is_full w)
    where
      one : Remembered
      one = record { ri = ri; tei = tei }

      go : (b : Bool) → Changes w (record w { owed = cond b w.owed (w.owed ++ IdentityAssigned ri tei ∷ []); lost = cond b (w.lost + 1) w.lost })
      go true = adds-so _ (adds-none w _ refl refl refl refl)
      go false = record {
        queue = record {
          new = IdentityAssigned ri tei ∷ [];
          owed = refl;
          made = λ r is. subst (λ x. (is_on x.tei w ≡ true) × (IsIn x w.held ⊎ (is_on x.tei w ≡ false))) (one-is one r is) (there one held, inl held);
        };
        known = λ r is. (there r is, inl is);
        alone = λ r s is other. sym (one-is one r is) ∙ one-is one s other;
        begins = refl;
      }

  abbrev joined : Config → ℕ → ℕ → Managed
  joined c ri tei =
      record (comes tei w) { held = by_reading c.reading (drop (length w.held - 3) (w.held ++ record { ri = ri; tei = tei } ∷ [])) w.held; notes = Assigned tei ∷ [] }

  comes-so : (c : Config) (ri tei : ℕ) → is_on tei w ≡ false → is_full w ≡ false → Changes w (owes (IdentityAssigned ri tei) (joined c ri tei))
  comes-so c ri tei off room = go (is_full w) room
    where
      one : Remembered
      one = record { ri = ri; tei = tei }

      on-too : (r : Remembered) → is_on r.tei w ≡ true → is_on r.tei (joined c ri tei) ≡ true
      on-too r on = or-right-so (tei == r.tei) (is_on r.tei w) on

      on-new : (r : Remembered) → one ≡ r → is_on r.tei (joined c ri tei) ≡ true
      on-new r same = or-left-so (tei == r.tei) (is_on r.tei w) (eq-eqb tei r.tei (ap (λ (r : Remembered). r.tei) same))

      off-new : (r : Remembered) → one ≡ r → is_on r.tei w ≡ false
      off-new r same = subst (λ x. is_on x.tei w ≡ false) same off

      Known : Remembered → Type 0
      Known r = (is_on r.tei (joined c ri tei) ≡ true) × (IsIn r w.held ⊎ (IsIn r (one ∷ []) × (is_on r.tei w ≡ false)))

      from : (r : Remembered) → IsIn r w.held ⊎ IsIn r (one ∷ []) → Known r
      from r (inl is) = (on-too r (there r is), inl is)
      from r (inr is) = (on-new r (one-is one r is), inr (is, off-new r (one-is one r is)))

      is-known : (reading : Reading) (r : Remembered) → IsIn r (by_reading reading (drop (length w.held - 3) (w.held ++ one ∷ [])) w.held) → Known r
      is-known Profile r is = from r (in-either r w.held (one ∷ []) (in-dropped (length w.held - 3) r (w.held ++ one ∷ []) is))
      is-known AnnexB r is = from r (inl is)

      go : (b : Bool) → b ≡ false → Changes w (record (joined c ri tei) { owed = cond b w.owed (w.owed ++ IdentityAssigned ri tei ∷ []); lost = cond b (w.lost + 1) w.lost })
      go true full = absurd (true≢false full)
      go false full = record {
        queue = record {
          new = IdentityAssigned ri tei ∷ [];
          owed = refl;
          made = λ r is. (on-new r (one-is one r is), inr (off-new r (one-is one r is)));
        };
        known = λ r is. is-known c.reading r is;
        alone = λ r s is other. sym (one-is one r is) ∙ one-is one s other;
        begins = refl;
      }

  not-so : (b : Bool) → not b ≡ true → b ≡ false
  not-so true h = absurd (true≢false (sym h))
  not-so false h = refl

  free-off : (c : Config) (tei : ℕ) → free_tei c w ≡ Some tei → (is_on tei w ≡ false) × (is_full w ≡ false)
  free-off c tei is = go (nat_lt (length w.on) c.terminals) (is_full w) refl is
    where
      go : (a b : Bool) → is_full w ≡ b → cond (a && not b) (find (λ tei. not (is_on tei w)) (range_with_len 64 63)) None ≡ Some tei → (is_on tei w ≡ false) × (is_full w ≡ false)
      go true false room found = (not-so (is_on tei w) (found-passes (λ tei. not (is_on tei w)) tei (range_with_len 64 63) found), room)
      go true true full found = absurd (cc found)
      go false b full found = absurd (cc found)

  asked-so : (c : Config) (ri : ℕ) → Changes w (asks c ri w)
  asked-so c ri = go (find (λ (r : Remembered). r.ri == ri) w.held) (free_tei c w) refl refl
    where
      go : (o : Option Remembered) (f : Option ℕ) → find (λ (r : Remembered). r.ri == ri) w.held ≡ o → free_tei c w ≡ f → Changes w (gives c ri o f w)
      go (Some r) f found free =
          let is = in-found (λ (r : Remembered). r.ri == ri) r w.held found in
          again-so ri r.tei (subst (λ n. IsIn (record { ri = n; tei = r.tei }) w.held) (eqb-true r.ri ri is.1) is.0)
      go None (Some tei) found free = comes-so c ri tei (free-off c tei free).0 (free-off c tei free).1
      go None None found free = adds-so _ (adds-one (IdentityDenied ri 127) w refl)

  -- A TEI leaves.
  other-on : (tei other : ℕ) → not (other == tei) ≡ true → is_on other w ≡ true → list_any (λ on. on == other) (filter (λ on. not (on == tei)) w.on) ≡ true
  other-on tei other away on =
      any-kept (λ on. on == other) (λ on. not (on == tei)) w.on
      (λ x is. ap (λ n. not (n == tei)) (eqb-true x other is) ∙ away) on

  left-so : (tei : ℕ) (u : Managed) → Adds w u → Changes w (leaves tei u)
  left-so tei u x =
      let y = adds-then w u (over_of_its tei u) x (adds-over_of tei u) in
      record {
        queue = record { new = y.new; owed = y.owed; made = λ r is. absurd (no-new y.new y.none r is) };
        known = λ r is.
            let was = in-filtered (λ (r : Remembered). not (r.tei == tei)) r w.held (subst (λ held. IsIn r (filter (λ (r : Remembered). not (r.tei == tei)) held)) x.held is) in
            (subst (λ all. list_any (λ on. on == r.tei) (filter (λ on. not (on == tei)) all) ≡ true) (sym x.on) (other-on tei r.tei was.1 (there r was.0)), inl was.0);
        alone = λ r s is other. absurd (no-new y.new y.none r is);
        begins = y.begins;
      }

  removed-so : (tei : ℕ) → Changes w (removes tei w)
  removed-so tei = left-so tei (owes (IdentityRemove tei) w) (adds-one (IdentityRemove tei) w refl)

  checks-so : (tei : ℕ) (before : Option Bool) → Changes w (checks tei before w)
  checks-so tei before = adds-so _ (adds-checks tei before w)

  either : (b : Bool) (x y : Managed) → Changes w x → Changes w y → Changes w (cond b x y)
  either true x y h j = h
  either false x y h j = j

  abbrev Serves : Option Managed → Type 0
  Serves o = Changes w (unwrap_or o w)

  either-served : (b : Bool) (x y : Option Managed) → Serves x → Serves y → Serves (cond b x y)
  either-served true x y h j = h
  either-served false x y h j = j

  served-as : (r : Reading) (x y : Option Managed) → Serves x → Serves y → Serves (by_reading r x y)
  served-as Profile x y h j = h
  served-as AnnexB x y h j = j

  responded-so : (tei : ℕ) (check : Checked) → Serves (responded tei w check)
  responded-so tei check =
      either-served (not (check.tei == tei)) _ _ nothing
      (either-served check.settles _ _ nothing
      (either-served check.answered _ _ (noted (removes tei w) (Doubled tei ∷ []) (removed-so tei)) (adds-so _ (adds-none w _ refl refl refl refl))))

  named-so : (teis : List ℕ) → Serves (named_by w teis)
  named-so teis = of w.check
    where
      of : (o : Option Checked) → Serves (option_and_then (λ (check : Checked). cond (list_any (λ octet. octet / 2 == check.tei) teis) (responded check.tei w check) None) o)
      of None = nothing
      of (Some check) = either-served (list_any (λ octet. octet / 2 == check.tei) teis) _ _ (responded-so check.tei check) nothing

  several-so : (octets : List ℕ) → Serves (several w octets)
  several-so octets = up-to (position (λ octet. octet % 2 == 1) octets)
    where
      up-to : (o : Option ℕ) → Serves (option_and_then (λ place. cond (nat_lt place 64) (named_by w (take (place + 1) octets)) None) o)
      up-to None = nothing
      up-to (Some place) = either-served (nat_lt place 64) _ _ (named-so (take (place + 1) octets)) nothing

  requested-so : (c : Config) (ri tei : ℕ) → Serves (requested c ri tei w)
  requested-so c ri tei =
      either-served (tei == 127) _ _
      (served-as c.reading _ _ (asked-so c ri) (either-served (list_any (is_given ri) w.owed) _ _ nothing (asked-so c ri)))
      (either-served (nat_le 64 tei && nat_le tei 126) _ _ (served-as c.reading _ _ nothing (adds-so _ (adds-one (IdentityDenied ri tei) w refl))) nothing)

  verified-so : (c : Config) (tei : ℕ) → Serves (verified c tei w)
  verified-so c tei = either-served (not (is_on tei w)) _ _ nothing (of w.check)
    where
      of : (o : Option Checked) → Serves (option_map_or (λ (check : Checked). cond (check.tei == tei) None (by_reading c.reading None (Some (defers tei w)))) o (Some (checks tei None w)))
      of None = checks-so tei None
      of (Some check) = either-served (check.tei == tei) _ _ nothing (served-as c.reading _ _ nothing (adds-so _ (adds-defers tei w)))

  message-so : (c : Config) (info : List ℕ) → Serves (by_message c w info)
  message-so c (entity ∷ high ∷ low ∷ type ∷ action ∷ more) =
      either-served (not (entity == 0x0F)) _ _ nothing
      (either-served (is_one c action more) _ _
      (either-served (type == 1) _ _ (requested-so c (256 * high + low) (action / 2))
      (either-served (type == 5) _ _ (answered w.check) (either-served (type == 7) _ _ (verified-so c (action / 2)) nothing)))
      (either-served (type == 5) _ _ (served-as c.reading _ _ nothing (several-so (action ∷ more))) nothing))
    where
      answered : (o : Option Checked) → Serves (option_and_then (responded (action / 2) w) o)
      answered None = nothing
      answered (Some check) = responded-so (action / 2) check
  message-so c [] = nothing
  message-so c (a ∷ []) = nothing
  message-so c (a ∷ b ∷ []) = nothing
  message-so c (a ∷ b ∷ d ∷ []) = nothing
  message-so c (a ∷ b ∷ d ∷ e ∷ []) = nothing

  frame-so : (c : Config) (o : Option Parts) → Changes w (option_map_or (by_frame c w) o w)
  frame-so c None = nothing
  frame-so c (Some f) = either (manages c.side && is_message c f) _ _ (message-so c f.info) nothing

  gone-so : (r : Reading) (tei : ℕ) → Changes w (record (by_reading r (leaves tei w) (removes tei w)) { notes = Removed tei ∷ [] })
  gone-so Profile tei = noted (leaves tei w) (Removed tei ∷ []) (left-so tei w (adds-none w w refl refl refl refl))
  gone-so AnnexB tei = noted (removes tei w) (Removed tei ∷ []) (removed-so tei)

  ran-out-so : (c : Config) (o : Option Checked) → Changes w (option_map_or (ran_out c w) o w)
  ran-out-so c None = nothing
  ran-out-so c (Some check) = either check.settles _ _ (checks-so check.tei None) (go check.before)
    where
      go : (o : Option Bool)
          → Changes w (option_map_or (λ before. cond (before || check.answered) (over w) (record (by_reading c.reading (leaves check.tei w) (removes check.tei w)) { notes = Removed check.tei ∷ [] })) o (checks check.tei (Some check.answered) w))
      go None = checks-so check.tei (Some check.answered)
      go (Some before) = either (before || check.answered) _ _ (adds-so _ (adds-over w)) (gone-so c.reading check.tei)

  -- what management asks for
  granted-so : (b : Bool) (u : Managed) → Changes w u → Changes w (grants b u w)
  granted-so true u h = record { queue = record { new = h.queue.new; owed = h.queue.owed; made = h.queue.made }; known = h.known; alone = h.alone; begins = h.begins }
  granted-so false u h = adds-so _ (adds-none w _ refl refl refl refl)

  put-so : (tei : ℕ) → Changes w (comes tei w)
  put-so tei = record {
    queue = record { new = []; owed = sym (append-nil w.owed); made = λ r is. absurd is };
    known = λ r is. (or-right-so (tei == r.tei) (is_on r.tei w) (there r is), inl is);
    alone = λ r s is other. absurd is;
    begins = refl;
  }

  disowned-so : (tei : ℕ) → Changes w (owes (IdentityRemove tei) w)
  disowned-so tei = adds-so _ (adds-one (IdentityRemove tei) w refl)

  request-so : (c : Config) (r : Request) → IsOther (request r) → Changes w (by_request c r w)
  request-so c Down is = absurd is
  request-so c (Assign tei) is = granted-so _ _ (put-so tei)
  request-so c (Remove tei) is = granted-so _ _ (removed-so tei)
  request-so c (Check tei) is = granted-so _ _ (checks-so tei None)
  request-so c (Disown tei) is = granted-so _ _ (disowned-so tei)
  request-so c AskTei is = granted-so false _ nothing
  request-so c (VerifyTei tei) is = granted-so false _ nothing
  request-so c (Establish service tei) is = nothing
  request-so c (Release service tei) is = nothing
  request-so c (Data service tei contents) is = nothing
  request-so c (Unit service tei contents) is = nothing
  request-so c (SetBusy service tei) is = nothing
  request-so c (ClearBusy service tei) is = nothing
  request-so c (Deactivate service tei) is = nothing

  pub event-so : (c : Config) (e : Event) → IsOther e → Changes w (by_event c e w)
  event-so c next is = absurd is
  event-so c (hears e) is = frame-so c (frame_of c e)
  event-so c (expiry T201) is = ran-out-so c w.check
  event-so c (expiry T202) is = nothing
  event-so c (expiry (T200 service tei)) is = nothing
  event-so c (expiry (T203 service tei)) is = nothing
  event-so c (request r) is = request-so c r is
