-- What an observer of the terminal's line knows of the TEIs that it was assigned, event by event.
use Rattle.std.specs.Prelude.{◌≡◌, ℕ, ◌+◌, ◌*◌, ◌/◌, ◌%◌, ◌==◌, ◌&&◌, ◌||◌, not, Bool, true, false, cond, List, [], ◌∷◌, ◌++◌, flat_map, take, Option, Some, None, nat_le, nat_lt, refl}
use Rattle.std.specs.List.{list_any}
use Rattle.std.specs.Option.{option_map_or, option_and_then, unwrap_or}
use Rattle.std.proofs.Common.{inl, inr, subst, sym, ap, ◌∙◌, arith, true≢false, eq-eqb, eqb-true}
use Rattle.std.proofs.lemmas.Bool.{and_parts}
use Rattle.lapd_frame.specs.Grammar.{Parts}
use Rattle.lapd_frame.specs.Readings.{by_reading}
use Rattle.lapd_frame.specs.declared.readings.Reading.{Reading}
use Rattle.lapd_frame.specs.declared.readings.Reading.TheVariants.{Profile, AnnexB}
use Rattle.lapd_frame.specs.declared.notes.Note.{Note}
use Rattle.lapd_frame.specs.declared.notes.Note.TheVariants.{Assigned, Denied, Unassigned}
use Rattle.lapd_frame.specs.declared.timers.Timer.TheVariants.{T200, T201, T202, T203}
use Rattle.model_teis.specs.declared.network.remembered.Remembered.{Remembered}
use Rattle.model_teis.specs.declared.terminal.procedure.Procedure.{Procedure}
use Rattle.model_teis.specs.declared.terminal.procedure.Procedure.TheVariants.{Asking, Verifying}
use Rattle.model_line.specs.declared.config.Config.{Config}
use Rattle.model_line.specs.Came.{came}
use Rattle.model_line.specs.Event.{Event, hears, expiry, request, next}
use Rattle.model_line.specs.Line.{is_terminal}
use Rattle.model_line.specs.Request.{Request, Establish, Release, Data, Unit, Assign, Remove, Check, Disown, AskTei, VerifyTei, SetBusy, ClearBusy, Deactivate, Down}
use Rattle.laws_trace.specs.LinkFrames.{frame_of}
use Rattle.laws_trace.specs.Managing as managing
use Rattle.laws_trace.specs.Managing.{Managed, due, at_terminal, of_terminal, own_of, nothing_due}
use Rattle.laws_trace.specs.ManagingTerminal.{OfTerminal, teis_of, without_tei, with_tei, is_on, is_free, is_message, named, verifies, over, asks, leaves, removed, verified, by_assigned, by_denied, by_check, by_remove, by_five, by_message, by_frame, by_request, by_event, ran_out, grants}
use Rattle.laws_trace.proofs.AskingSteps.{answers-same, verified-same}
use Rattle.laws_order.specs.teis.Bus.{message_in, is_removal, is_heard}
use Rattle.laws_order.specs.teis.Assignments.{IsIn, taken_by}
use Rattle.laws_order.proofs.OfTeis.Frames.{is_assigned, looked-assigned}

-- What is taken by what is told.
abbrev pub takes : OfTerminal → OfTerminal → List Remembered
takes t u = flat_map (λ note. taken_by note t.procedure) u.notes

abbrev Takes : OfTerminal → List ℕ → OfTerminal → Type 0
Takes t info u = (r : Remembered) → IsIn r (takes t u) → is_assigned r info ≡ true

module _ (t : OfTerminal) (quiet : t.notes ≡ []) where
  abbrev then_ : Option OfTerminal → OfTerminal
  then_ o = unwrap_or o t

  none-taken : (u : OfTerminal) → u.notes ≡ [] → takes t u ≡ []
  none-taken u is = ap (flat_map (λ note. taken_by note t.procedure)) is

  none-of : (ns : List Note) → ns ≡ [] → flat_map (λ note. taken_by note t.procedure) ns ≡ []
  none-of ns is = ap (flat_map (λ note. taken_by note t.procedure)) is

  nothing : (info : List ℕ) (u : OfTerminal) → takes t u ≡ [] → Takes t info u
  nothing info u none r is = absurd (subst (IsIn r) none is)

  stays : (info : List ℕ) → Takes t info t
  stays info = nothing info t (none-taken t quiet)

  abbrev lowest : Config → ℕ
  lowest c = by_reading c.reading 64 0

  abbrev may_come : Config → ℕ → Bool
  may_come c tei = nat_le (lowest c) tei && nat_le tei 126 && not (is_on tei t) && list_any is_free t.places

  module _ (c : Config) (entity high low last : ℕ) (whole : (entity == 0x0F && last % 2 == 1) ≡ true) where
    abbrev its_info : List ℕ
    its_info = entity ∷ high ∷ low ∷ 2 ∷ last ∷ []

    abbrev its_ri : ℕ
    its_ri = 256 * high + low

    abbrev its_tei : ℕ
    its_tei = last / 2

    assigned : (p : Option Procedure) → t.procedure ≡ p → Takes t its_info (then_ (by_assigned c its_ri its_tei p t))
    assigned None is = go (is_on its_tei t)
      where
        go : (x : Bool) → Takes t its_info (then_ (cond x (Some (verifies its_tei 1 t)) None))
        go true = nothing its_info (verifies its_tei 1 t) (none-taken (verifies its_tei 1 t) quiet)
        go false = stays its_info
    assigned (Some (Verifying on n)) is = stays its_info
    assigned (Some (Asking own n)) is = go (own == its_ri && may_come c its_tei) refl
      where
        fits : (own == its_ri && may_come c its_tei) ≡ true → is_assigned (record { ri = own; tei = its_tei }) its_info ≡ true
        fits h =
            let parts = and_parts (own == its_ri) (may_come c its_tei) h in
            let most = and_parts ((nat_le (lowest c) its_tei && nat_le its_tei 126) && not (is_on its_tei t)) (list_any is_free t.places) parts.1 in
            let within = (and_parts (nat_le (lowest c) its_tei) (nat_le its_tei 126) (and_parts (nat_le (lowest c) its_tei && nat_le its_tei 126) (not (is_on its_tei t)) most.0).0).1 in
            let same = eq-eqb its_ri own (sym (eqb-true own its_ri parts.0)) in
            ap (λ x. x && (256 * high + low == own && (last / 2 == its_tei && nat_le its_tei 126))) whole
            ∙ ap (λ x. x && (last / 2 == its_tei && nat_le its_tei 126)) same
            ∙ ap (λ x. x && nat_le its_tei 126) (eq-eqb (last / 2) its_tei refl) ∙ within

        go : (x : Bool) → (own == its_ri && may_come c its_tei) ≡ x → Takes t its_info (then_ (cond x (Some (record (over t) { places = with_tei its_tei t.places; notes = Assigned its_tei ∷ [] })) None))
        go false h r is_in = stays its_info r is_in
        go true h r is_in = taken-so (subst (λ p. IsIn r (taken_by (Assigned its_tei) p ++ [])) is is_in)
          where
            taken-so : IsIn r (record { ri = own; tei = its_tei } ∷ []) → is_assigned r its_info ≡ true
            taken-so (inl same) = subst (λ r. is_assigned r its_info ≡ true) same (fits h)
            taken-so (inr none) = absurd none

  denied : (info : List ℕ) (ri : ℕ) (p : Option Procedure) → Takes t info (then_ (by_denied ri p t))
  denied info ri None = stays info
  denied info ri (Some (Verifying on n)) = stays info
  denied info ri (Some (Asking own n)) = go (own == ri)
    where
      go : (x : Bool) → Takes t info (then_ (cond x (Some (record t { notes = Denied ∷ [] })) None))
      go true = nothing info (record t { notes = Denied ∷ [] }) refl
      go false = stays info

  checked : (info : List ℕ) (teis : List ℕ) → Takes t info (then_ (by_check teis t))
  checked info [] = stays info
  checked info (tei ∷ teis) =
      nothing info (then_ (by_check (tei ∷ teis) t)) (none-taken (then_ (by_check (tei ∷ teis) t)) ((answers-same (tei ∷ teis) t).notes ∙ quiet))

  removes : (info : List ℕ) (teis : List ℕ) → Takes t info (then_ (by_remove teis t))
  removes info [] = stays info
  removes info (tei ∷ []) = nothing info (then_ (by_remove (tei ∷ []) t)) refl
  removes info (tei ∷ other ∷ teis) = nothing info (then_ (by_remove (tei ∷ other ∷ teis) t)) refl

  either : (info : List ℕ) (x : Bool) (o p : Option OfTerminal) → (x ≡ true → Takes t info (then_ o)) → (x ≡ false → Takes t info (then_ p)) → Takes t info (then_ (cond x o p))
  either info true o p h j = h refl
  either info false o p h j = j refl

  whole-so : (x : Bool) → not x ≡ false → x ≡ true
  whole-so true h = refl
  whole-so false h = absurd (true≢false h)

  five-takes : (c : Config) (info : List ℕ) → Takes t info (then_ (by_five c info t))
  five-takes c (entity ∷ high ∷ low ∷ type ∷ last ∷ []) =
      let info = entity ∷ high ∷ low ∷ type ∷ last ∷ [] in
      either info (not (entity == 0x0F && last % 2 == 1)) _ _ (λ h. stays info)
      (λ h. either info (type == 2) _ _
      (λ two. subst (λ n. Takes t (entity ∷ high ∷ low ∷ n ∷ last ∷ []) (then_ (by_assigned c (256 * high + low) (last / 2) t.procedure t))) (sym (eqb-true type 2 two))
      (assigned c entity high low last (whole-so (entity == 0x0F && last % 2 == 1) h) t.procedure refl))
      (λ h. either info (type == 3 && last / 2 == 127) _ _ (λ h. denied info (256 * high + low) t.procedure)
      (λ h. either info (type == 4) _ _ (λ h. checked info (named (last / 2) t))
      (λ h. either info (type == 6) _ _ (λ h. removes info (named (last / 2) t)) (λ h. stays info)))))
  five-takes c [] = stays []
  five-takes c (a ∷ []) = stays (a ∷ [])
  five-takes c (a ∷ b ∷ []) = stays (a ∷ b ∷ [])
  five-takes c (a ∷ b ∷ d ∷ []) = stays (a ∷ b ∷ d ∷ [])
  five-takes c (a ∷ b ∷ d ∷ e ∷ []) = stays (a ∷ b ∷ d ∷ e ∷ [])
  five-takes c (a ∷ b ∷ d ∷ e ∷ f ∷ g ∷ more) = stays (a ∷ b ∷ d ∷ e ∷ f ∷ g ∷ more)

  pub message-takes : (c : Config) (info : List ℕ) → Takes t info (then_ (by_message c info t))
  message-takes c info r is = looked-assigned c.reading r info (five-takes c (by_reading c.reading info (take 5 info)) r is)

  -- A removal takes the TEI off.
  off : (tei : ℕ) (places : List (Option ℕ)) → list_any (λ on. on == tei) (teis_of (without_tei tei places)) ≡ false
  off tei [] = refl
  off tei (None ∷ places) = off tei places
  off tei (Some on ∷ places) = go (on == tei) refl (off tei places)
    where
      go : (x : Bool) → (on == tei) ≡ x → list_any (λ on. on == tei) (teis_of (without_tei tei places)) ≡ false
          → list_any (λ on. on == tei) (teis_of (cond x None (Some on) ∷ without_tei tei places)) ≡ false
      go true is rest = rest
      go false is rest = ap (λ x. x || list_any (λ on. on == tei) (teis_of (without_tei tei places))) is ∙ rest

  named-off : (tei : ℕ) → (tei == 127) ≡ false → is_on tei (then_ (by_remove (named tei t) t)) ≡ false
  named-off tei one = ap (λ x. is_on tei (then_ (by_remove (cond x (teis_of t.places) (cond (is_on tei t) (tei ∷ []) [])) t))) one ∙ go (is_on tei t) refl
    where
      go : (x : Bool) → is_on tei t ≡ x → is_on tei (then_ (by_remove (cond x (tei ∷ []) []) t)) ≡ false
      go true is = off tei (verified tei t).places
      go false is = is

  below : (tei : ℕ) → nat_le tei 126 ≡ true → (tei == 127) ≡ false
  below tei few = grind (arith, nat_le)

  -- both readings look at all five octets
  looks : (r : Reading) (a b d e f : ℕ) → by_reading r (a ∷ b ∷ d ∷ e ∷ f ∷ []) (take 5 (a ∷ b ∷ d ∷ e ∷ f ∷ [])) ≡ a ∷ b ∷ d ∷ e ∷ f ∷ []
  looks Profile a b d e f = refl
  looks AnnexB a b d e f = refl

  pub removal-takes-off : (c : Config) (tei : ℕ) (info : List ℕ) → nat_le tei 126 ≡ true → is_removal tei info ≡ true → is_on tei (then_ (by_message c info t)) ≡ false
  removal-takes-off c tei (entity ∷ high ∷ low ∷ type ∷ last ∷ []) few is =
      let g = and_parts (entity == 0x0F && type == 6) (last == 2 * tei + 1) is in
      let h = and_parts (entity == 0x0F) (type == 6) g.0 in
      let entity_is : entity ≡ 0x0F = eqb-true entity 0x0F h.0 in
      let type_is : type ≡ 6 = eqb-true type 6 h.1 in
      let last_is : last ≡ 2 * tei + 1 = eqb-true last (2 * tei + 1) g.1 in
      let half : last / 2 ≡ tei = omega (arith, last_is) in
      let odd : (last % 2 == 1) ≡ true = eq-eqb (last % 2) 1 (omega (arith, last_is)) in
      ap (λ info. is_on tei (then_ (by_five c info t))) (looks c.reading entity high low type last)
      ∙ ap (λ n. is_on tei (then_ (by_five c (n ∷ high ∷ low ∷ type ∷ last ∷ []) t))) entity_is
      ∙ ap (λ n. is_on tei (then_ (by_five c (0x0F ∷ high ∷ low ∷ n ∷ last ∷ []) t))) type_is
      ∙ ap (λ x. is_on tei (then_ (cond (not x) None (by_remove (named (last / 2) t) t)))) odd
      ∙ ap (λ n. is_on tei (then_ (by_remove (named n t) t))) half
      ∙ named-off tei (below tei few)
  removal-takes-off c tei [] few is = absurd (true≢false (sym is))
  removal-takes-off c tei (a ∷ []) few is = absurd (true≢false (sym is))
  removal-takes-off c tei (a ∷ b ∷ []) few is = absurd (true≢false (sym is))
  removal-takes-off c tei (a ∷ b ∷ d ∷ []) few is = absurd (true≢false (sym is))
  removal-takes-off c tei (a ∷ b ∷ d ∷ e ∷ []) few is = absurd (true≢false (sym is))
  removal-takes-off c tei (a ∷ b ∷ d ∷ e ∷ f ∷ g ∷ more) few is = absurd (true≢false (sym is))

  -- A frame is its message.
  pub frame-is : (c : Config) (octets : List ℕ) → by_event c (hears (came c.n201 octets)) t ≡ by_message c (message_in c octets) t
  frame-is c octets = go (frame_of c (came c.n201 octets))
    where
      none : (r : Reading) → None ≡ by_five c (by_reading r [] (take 5 [])) t
      none Profile = refl
      none AnnexB = refl

      go : (o : Option Parts) → option_and_then (by_frame c t) o ≡ by_message c (option_map_or (λ (f : Parts). cond (is_message c f && f.address.command) f.info []) o []) t
      go None = none c.reading
      go (Some f) = each (is_message c f && f.address.command)
        where
          each : (x : Bool) → cond x (by_message c f.info t) None ≡ by_message c (cond x f.info []) t
          each true = refl
          each false = none c.reading

  -- Nothing else takes one.
  ran-out-takes : (p : Option Procedure) → takes t (ran_out p t) ≡ []
  ran-out-takes None = none-taken t quiet
  ran-out-takes (Some (Asking ri n)) = go (nat_lt n 3)
    where
      go : (x : Bool) → takes t (cond x (asks (n + 1) t) (record (over t) { notes = Unassigned ∷ [] })) ≡ []
      go true = none-of t.notes quiet
      go false = refl
  ran-out-takes (Some (Verifying tei n)) = go (nat_lt n 2)
    where
      go : (x : Bool) → takes t (cond x (verifies tei (n + 1) t) (removed tei t)) ≡ []
      go true = none-of t.notes quiet
      go false = refl

  granted-takes : (x : Bool) (u : OfTerminal) → u.notes ≡ [] → takes t (then_ (grants x u t)) ≡ []
  granted-takes true u is = none-of u.notes is
  granted-takes false u is = none-of t.notes quiet

  request-takes : (r : Request) → takes t (then_ (by_request r t)) ≡ []
  request-takes AskTei = granted-takes _ (asks 1 t) quiet
  request-takes (VerifyTei tei) = granted-takes _ (verifies tei 1 t) quiet
  request-takes (Assign tei) = granted-takes _ (record t { places = with_tei tei t.places }) quiet
  request-takes (Remove tei) = granted-takes _ (leaves tei t) ((verified-same tei t).notes ∙ quiet)
  request-takes (Check tei) = granted-takes false t quiet
  request-takes (Disown tei) = granted-takes false t quiet
  request-takes Down = none-of t.notes quiet
  request-takes (Establish service tei) = none-taken t quiet
  request-takes (Release service tei) = none-taken t quiet
  request-takes (Data service tei contents) = none-taken t quiet
  request-takes (Unit service tei contents) = none-taken t quiet
  request-takes (SetBusy service tei) = none-taken t quiet
  request-takes (ClearBusy service tei) = none-taken t quiet
  request-takes (Deactivate service tei) = none-taken t quiet

  pub other-takes : (c : Config) (e : Event) → is_heard e ≡ false → takes t (then_ (by_event c e t)) ≡ []
  other-takes c (hears e) other = absurd (true≢false other)
  other-takes c (expiry T202) other = ran-out-takes t.procedure
  other-takes c (expiry T201) other = none-taken t quiet
  other-takes c (expiry (T200 service tei)) other = none-taken t quiet
  other-takes c (expiry (T203 service tei)) other = none-taken t quiet
  other-takes c (request r) other = request-takes r
  other-takes c next other = none-of t.notes quiet

-- What is due by an event, and what is known then.
module _ (c : Config) (is : is_terminal c ≡ true) (w : Managed) (same_on : w.on ≡ teis_of (own_of c w).places) (e : Event) where
  abbrev pub then_own : OfTerminal
  then_own = unwrap_or (by_event c e (own_of c w)) (own_of c w)

  pub record IsDue (d : Managed) : Type 0 where
    pub notes : d.notes ≡ then_own.notes
    pub on : d.on ≡ teis_of then_own.places
    pub places : (own_of c d).places ≡ then_own.places

  pub due-so : IsDue (due c e w)
  due-so = subst IsDue (sym (ap (λ x. cond x (at_terminal c e (nothing_due w)) (managing.by_event c e (nothing_due w))) is)) (go (by_event c e (own_of c w)) refl)
    where
      go : (o : Option OfTerminal) → by_event c e (own_of c w) ≡ o → IsDue (option_map_or (of_terminal (nothing_due w)) o (nothing_due w))
      go None so = let same = ap (λ o. unwrap_or o (own_of c w)) so in record {
        notes = sym (ap (λ (t : OfTerminal). t.notes) same);
        on = same_on ∙ sym (ap (λ (t : OfTerminal). teis_of t.places) same);
        places = sym (ap (λ (t : OfTerminal). t.places) same);
      }
      go (Some u) so = let same = ap (λ o. unwrap_or o (own_of c w)) so in record {
        notes = sym (ap (λ (t : OfTerminal). t.notes) same);
        on = sym (ap (λ (t : OfTerminal). teis_of t.places) same);
        places = sym (ap (λ (t : OfTerminal). t.places) same);
      }
