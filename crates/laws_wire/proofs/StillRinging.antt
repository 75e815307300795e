-- An end that rings: what it does, whatever the other does; and what it hears.
use Rattle.laws_wire.proofs.Vocabulary.{◌≡◌, ℕ, List, [], map, drop, sym, ap, subst, ◌∙◌, ◌⊎◌, inl, inr, All, option_to_list, Service, Timer, Parts, ControlFrame, Terms, LinkTimer, course, LinkEndpoint, with_link, with_sent, Config, terms, expiry, request, next, Course, Data, Endpoint, happens, without_first, expired, ◌≤◌, length}
use Rattle.laws_wire.proofs.Vocabulary.{◌∷◌, refl, spelling, fresh, IsInRange, LineTold, Wire, frame_comes, with_first_of, confirmed, indicated, NoteData, Means, own_side}
use Rattle.model_link.specs.Events as link
use Rattle.model_link.specs.declared.timers.LinkTimer.TheVariants as link_timer
use Rattle.laws_wire.proofs.Answered.{takes-granted}
use Rattle.laws_wire.proofs.Calling.{end, sabme, ua, answering, takes-sabme, told-of-sabme}
use Rattle.laws_wire.proofs.Fair.{HasError}
use Rattle.laws_wire.proofs.Held.{Held, TellsIt, Erred, now-erred, held-given, held-lost, held-first, held-taken, taken-told, taken-stands, expired-told, held-expired}
use Rattle.laws_wire.proofs.LossyPhases.{Aims, first-way}
use Rattle.laws_wire.proofs.Ringing.{ringing, answered, Ignores, ignores, IsSabme, AreSabmes, Rings, t200-rings, t203-rings, RingsOn, gives-sabme, one-sabme_more, one-sabme_less, Tries}
use Rattle.laws_wire.proofs.Spelled.{carried-short}
use Rattle.laws_wire.proofs.Standing.{StationStands}
use Rattle.laws_wire.proofs.Talking.{Face}
use Rattle.laws_wire.proofs.TimelyFirst.{asks-still}

module _ (service : Service) (tei : ℕ) (c : Config) (p : ℕ) where
  abbrev t : Terms
  t = terms c service tei

  pub record StillRings (s : Endpoint) : Type 0 where
    pub repeats : Tries
    pub waiting : List ControlFrame
    pub way : List Parts
    pub held : Held c service tei p [] s (end t (ringing repeats waiting) way)
    pub sabmes : AreSabmes t way waiting

  module _ (s : Endpoint) (k : Tries) (ws : List ControlFrame) (way : List Parts) (h : Held c service tei p [] s (end t (ringing k ws) way)) (sabmes : AreSabmes t way ws) where
    abbrev rung : LinkEndpoint
    rung = end t (ringing k ws) way

    pub rings-asks : (octets : List ℕ) → StillRings (happens (request (Data service tei octets)) s)
    rings-asks octets = record { repeats = k; waiting = ws; way = way; held = asks-still service tei c p [] s rung h (Data service tei octets) (refl, refl) refl; sabmes = sabmes }

    pub rings-expires : (timer : Timer) (its : LinkTimer) → Aims service tei timer its → StillRings (happens (expiry timer) s) ⊎ Erred (happens (expiry timer) s)
    rings-expires timer its aims = go (by its)
      where
        x : Course
        x = course t (expired its) (ringing k ws)

        s' : Endpoint
        s' = happens (expiry timer) s

        by : (timer : LinkTimer) → HasError (course t (expired timer) (ringing k ws)).notes ⊎ Rings k ws (course t (expired timer) (ringing k ws))
        by link_timer.T200 = t200-rings t k ws
        by link_timer.T203 = inr (t203-rings t k ws)

        go : HasError x.notes ⊎ Rings k ws x → StillRings s' ⊎ Erred s'
        go (inl error) = inr (now-erred s s' x (expired-told service tei p [] c s rung h timer its aims) error)
        go (inr r) =
            let tells : TellsIt service tei x = record { its_notes = r.notes ∙ ap (λ o. map (λ octets. Rattle.lapd_frame.specs.declared.notes.Note.TheVariants.Data service tei) (option_to_list o)) (sym r.delivered); no_unit = r.unit } in
            let kept : x.link.contents ≡ [] = ap (λ l. l.contents) r.becomes in
            let is : with_link (expired its) rung ≡ end t (ringing r.repeats r.waiting) way =
            (λ i. record rung { link = r.becomes i; delivered = ap option_to_list r.delivered i }) in
            inl (record {
              repeats = r.repeats;
              waiting = r.waiting;
              way = way;
              held = subst (Held c service tei p [] s') is (held-expired service tei p [] c s rung h timer its aims tells kept);
              sabmes = one-sabme_more t way ws r.waiting r.more sabmes;
            })

    pub rings-gives : StillRings (happens next s)
    rings-gives =
        let x : RingsOn t k ws way = gives-sabme t k ws way in
        let kept : (with_sent rung).link.contents ≡ rung.link.contents = ap (λ y. y.link.contents) x.is in
        record {
          repeats = x.tries;
          waiting = x.waiting;
          way = x.went;
          held = subst (Held c service tei p [] (happens next s)) x.is (held-given service tei p [] c s rung h kept);
          sabmes = subst (All (IsSabme t)) (sym x.line) sabmes;
        }

    pub rings-loses : StillRings (without_first s)
    rings-loses = record {
      repeats = k;
      waiting = ws;
      way = drop 1 way;
      held = held-lost service tei p [] c s rung h;
      sabmes = one-sabme_less t way ws sabmes;
    }

-- ---- what it hears, and how an end that is down takes its SABME

module _ (service : Service) (tei : ℕ) (c d : Config) (p q : ℕ) (face : Face c d) where
  -- frames of an end that is up
  module _ (w : Wire) (k : Tries) (ws : List ControlFrame) (way : List Parts) (near : Held c service tei p [] w.near (end (terms c service tei) (ringing k ws) way)) (past : List LineTold) (M : LinkEndpoint)
      (far : Held d service tei q past w.far M) where
    abbrev it : LinkEndpoint
    it = end (terms c service tei) (ringing k ws) way

    -- one that has an N(R), or is REJ, is not served
    pub ignores-frame : (f : Parts) (fs : List Parts) → M.way ≡ f ∷ fs → (number : ℕ) → Means number f.control → Held c service tei p [] (with_first_of w.far.way w.near) it
    ignores-frame f fs first number means =
        let its_way = first-way service tei d q past w.far M f fs first far in
        let few : length f.info ≤ c.n201 = subst (λ n. length f.info ≤ n) (sym face.n201) (carried-short (own_side d) d.n201 f number means its_way.1.carried) in
        let i : Ignores (terms c service tei) k ws f = ignores (terms c service tei) k ws f number means few in
        let s' = frame_comes (spelling (own_side d) f) w.near in
        let event = link.received (link.frame f) in
        let tells : TellsIt service tei (course (terms c service tei) event it.link) =
        record { its_notes = i.notes ∙ ap (λ o. map (λ octets. NoteData service tei) (option_to_list o)) (sym i.delivered); no_unit = i.unit } in
        let is : with_link event it ≡ it = (λ j. record it { link = i.stays j; delivered = ap option_to_list i.delivered j }) in
        let taken : Held c service tei p [] s' it =
        subst (Held c service tei p [] s') is (held-taken service tei p [] c w.near it near d face f its_way.1 tells (ap (λ l. l.contents) i.stays)) in
        subst (λ ways. Held c service tei p [] (with_first_of ways w.near) it) (sym its_way.0) taken

    -- UA: the establishment is told
    pub hears-ua : (s : Terms) (fs : List Parts) → M.way ≡ ua s ∷ fs → Held c service tei p (confirmed service tei ∷ []) (with_first_of w.far.way w.near) (end (terms c service tei) (answered k ws) way)
    hears-ua s fs first =
        let f = ua s in
        let its_way = first-way service tei d q past w.far M f fs first far in
        let s' = frame_comes (spelling (own_side d) f) w.near in
        let n = end (terms c service tei) (answered k ws) way in
        let told : Held c service tei p (confirmed service tei ∷ []) s' n =
        held-first service tei p [] c w.near it near (confirmed service tei) s' n (course (terms c service tei) (link.received (link.frame f)) it.link) refl refl refl
        (taken-stands service tei p [] c w.near it near d face f its_way.1) (takes-granted (spelling (own_side d) f) w.near) refl
        (taken-told service tei p [] c w.near it near d face f its_way.1) refl refl in
        subst (λ ways. Held c service tei p (confirmed service tei ∷ []) (with_first_of ways w.near) n) (sym its_way.0) told

  -- SABME of an end comes to one that is down: the establishment is told, and UA waits
  pub hears-sabme : IsInRange (terms c service tei) → (w : Wire) → Held c service tei p [] w.near (end (terms c service tei) fresh []) → (m : LinkEndpoint) → Held d service tei q [] w.far m
      → (s : Terms) (fs : List Parts) → m.way ≡ sabme s ∷ fs → Held c service tei p (indicated service tei ∷ []) (with_first_of w.far.way w.near) (end (terms c service tei) answering [])
  hears-sabme ranges w near m far s fs first =
      let t = terms c service tei in
      let down = end t fresh [] in
      let n = end t answering [] in
      let f = sabme s in
      let its_way = first-way service tei d q [] w.far m f fs first far in
      let s' = frame_comes (spelling (own_side d) f) w.near in
      let becomes : with_link (link.received (link.frame f)) down ≡ n = ap (λ y. end t y []) (takes-sabme t ranges s) in
      let told : Held c service tei p (indicated service tei ∷ []) s' n =
      held-first service tei p [] c w.near down near (indicated service tei) s' n (course t (link.received (link.frame f)) fresh) refl refl refl
      (subst (StationStands c service tei p s') becomes (taken-stands service tei p [] c w.near down near d face f its_way.1)) (takes-granted (spelling (own_side d) f) w.near) refl
      (taken-told service tei p [] c w.near down near d face f its_way.1) (told-of-sabme t ranges s) refl in
      subst (λ ways. Held c service tei p (indicated service tei ∷ []) (with_first_of ways w.near) n) (sym its_way.0) told
