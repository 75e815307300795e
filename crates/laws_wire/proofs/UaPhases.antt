-- The end that is called, once it took SABME: its UA is not to come, waits, or is on its way behind what went before.
use Rattle.std.specs.Prelude.{◌≤◌}
use Rattle.laws_wire.proofs.Vocabulary.{◌≡◌, ℕ, Bool, false, not, ◌||◌, IsTrue, List, [], ◌∷◌, ◌++◌, refl, sym, ap, subst, ◌∙◌, ◌⊎◌, inl, inr, append_assoc, append-nil, true≢false, arith, All, All-head, All-nil, Service, Parts, ControlFrame, LinkTimer, Terms, is_multiple_frame, has_outstanding, frame_of, frames_of, given, IsInRange, LinkEndpoint, with_sent, Config, LineTold}
use Rattle.laws_wire.proofs.Vocabulary.{next, terms, Rising, Sane, HasNo, offer-gave, Endpoint, Wire, happens, without_first, EndStep, requests, expires, sends, receives, loses, acting, turned, is_poll, is_final, IsTimelyOf, frame_given, with_link, two_ends_without_first, link_expires, TwoEndsStep, Ends, two_ends_acting, link_requests, link_sends, after}
use Rattle.laws_wire.proofs.Vocabulary.{IsFullTalkOf, gives_information, all-right, line_of, line-grows, rising-reports, offer-stays, rising-lower, flows-low}
use Rattle.model_link.specs.Events as link
use Rattle.laws_link.specs.two.Timely as two_links_timely
use Rattle.laws_wire.proofs.Acting.{ranges, sound}
use Rattle.laws_wire.proofs.Awaited.{closed}
use Rattle.laws_wire.proofs.Calling.{its_ua, ua, end}
use Rattle.laws_wire.proofs.Held.{Held, held-given, held-lost}
use Rattle.laws_wire.proofs.Loose.{Loose, loose-turned, loose-after}
use Rattle.laws_wire.proofs.LooseUp.{LooseUp}
use Rattle.model_link.specs.Offers.{with_waiting_rest}
use Rattle.laws_wire.proofs.Ringing.{ringing, answered, Tries}
use Rattle.laws_wire.proofs.StillRinging.{ignores-frame, hears-ua}
use Rattle.laws_wire.proofs.Talking.{Face}
use Rattle.laws_wire.proofs.UaCalled.{sane-after, Poised, PoisedOn, poised-on, loose-poised}
use Rattle.laws_wire.proofs.UaCalledAt.{offer-rejecting, same-flag, FreeAs, StirsAt, asked-at, expired-at, flagged-at}
use Rattle.laws_wire.proofs.UaLost.{behind, IsNoPoll, none-asked, taken-none, first_near}

module _ (service : Service) (tei : ℕ) (c d : Config) (p q : ℕ) (face : Face c d) (back : Face d c) (rt : IsInRange (terms c service tei)) (ru : IsInRange (terms d service tei)) (past : List LineTold) where
  abbrev t : Terms
  t = terms c service tei

  abbrev u : Terms
  u = terms d service tei

  abbrev Its : Endpoint → LinkEndpoint → Type 0
  Its s M = Held d service tei q past s M

  -- no UA is to come; the bit says whether an I-frame went
  pub record IsAway (b : Bool) (s : Endpoint) : Type 0 where
    pub M : LinkEndpoint
    pub held : Its s M
    pub up : IsTrue (is_multiple_frame M.link.state)
    pub a : M.link.a ≡ 0
    pub r : M.link.r ≡ 0
    pub rejecting : M.link.rejecting ≡ false
    pub delivered : M.delivered ≡ []
    pub sane : Sane M.link
    pub rising : Rising 0 M.link.r (line_of M)
    pub flag : b ≡ has_outstanding M.link

  -- UA waits
  pub record IsWaiting (b : Bool) (s : Endpoint) : Type 0 where
    pub M : LinkEndpoint
    pub old : List ControlFrame
    pub post : List ControlFrame
    pub held : Its s M
    pub waits : M.link.waiting ≡ (old ++ its_ua ∷ []) ++ post
    pub delivered : M.delivered ≡ []
    pub rising : Rising 0 0 (M.way ++ frames_of u old)
    pub poised : Poised u M.link post
    pub flag : b ≡ has_outstanding M.link

  -- it is on its way
  pub record Comes (b : Bool) (w : Wire) : Type 0 where
    pub repeats : Tries
    pub near : Held c service tei p [] w.near (end t (ringing repeats []) [])
    pub m : LinkEndpoint
    pub stale : List Parts
    pub far : Its w.far (behind (stale ++ ua u ∷ []) m)
    pub rising : Rising 0 0 stale
    pub loose : Loose (end t (answered repeats []) []) m
    pub rejecting : m.link.rejecting ≡ false
    pub flag : b ≡ has_outstanding m.link

  -- ---- where no UA is to come

  module _ (b : Bool) (v : Wire) (h : IsAway b v.near) where
    abbrev M : LinkEndpoint
    M = h.M

    away-stirs : (e : link.Event) (s' : Endpoint) → StirsAt service tei d q past v M h.held h.up h.sane e s' → IsAway b s'
    away-stirs e s' x =
        let longer : Rising 0 M.link.r (line_of M ++ frames_of M.terms x.stirs.reports.news) = rising-reports M.terms 0 M.link.r (line_of M) x.stirs.reports.news x.stirs.reports.are h.rising in
        record {
          M = record M { link = x.left };
          held = x.held;
          up = x.stirs.up;
          a = x.stirs.a ∙ h.a;
          r = x.stirs.r ∙ h.r;
          rejecting = x.stirs.rejecting ∙ h.rejecting;
          delivered = h.delivered;
          sane = x.stirs.sane;
          rising =
              subst (λ r. Rising 0 r (M.way ++ frames_of M.terms x.left.waiting)) (sym x.stirs.r)
              (subst (Rising 0 M.link.r) (sym (line-grows M.terms M.way M.link.waiting x.left.waiting M.link.r x.stirs.reports)) longer);
          flag = same-flag b M.link x.left x.stirs.s x.stirs.a h.flag;
        }

    pub away-loses : IsAway b (without_first v.near)
    away-loses = record {
      M = two_ends_without_first M;
      held = held-lost service tei q past d v.near M h.held;
      up = h.up;
      a = h.a;
      r = h.r;
      rejecting = h.rejecting;
      delivered = h.delivered;
      sane = h.sane;
      rising = grind (arith, rising-lower);
      flag = h.flag;
    }

    pub away-gives : IsAway (b || gives_information v.near) (happens next v.near)
    away-gives =
        let g = offer-gave M.terms (ranges service tei q past d v.near M h.held) M.link (sound service tei q past d v.near M h.held) M.link.waiting refl in
        record {
          M = with_sent M;
          held = held-given service tei q past d v.near M h.held g.same;
          up = offer-stays M.terms M.link h.up;
          a = g.acknowledged ∙ h.a;
          r = g.received ∙ h.r;
          rejecting = offer-rejecting M.terms M.link ∙ h.rejecting;
          delivered = h.delivered;
          sane = sane-after M.terms link.offer M.link h.sane;
          rising =
              subst (λ r. Rising 0 r (line_of (with_sent M))) (sym g.received)
              (subst (Rising 0 M.link.r) (sym (g.line M.way)) (g.rising 0 (line_of M) h.rising));
          flag = flagged-at service tei d q past v M h.held b h.flag;
        }

    pub away-acts : (act : EndStep) → (act ≡ receives → ⊥) → (act ≡ sends → ⊥) → IsFullTalkOf service tei act → IsTimelyOf act v → IsAway b (acting act v).near
    away-acts (requests r) untaken not is x = asked-at service tei d q past v M h.held h.up h.sane (IsAway b) h (λ rq s' mild y. away-stirs (link.requested rq false) s' y) r is
    away-acts (expires timer) untaken not is x =
        expired-at service tei d q past v M h.held h.up h.sane (IsAway b) (λ its s' can free y. away-stirs (link.expired its) s' y) timer is x
    away-acts sends untaken not is x = absurd (not refl)
    away-acts receives untaken not is x = absurd (untaken refl)
    away-acts loses untaken not is x = away-loses

  -- ---- where UA waits

  module _ (b : Bool) (v : Wire) (h : IsWaiting b v.near) where
    abbrev M' : LinkEndpoint
    M' = h.M

    abbrev first : List ControlFrame
    first = h.old ++ its_ua ∷ []

    waiting-stirs : (e : link.Event) (s' : Endpoint) → StirsAt service tei d q past v M' h.held h.poised.up h.poised.sane e s' → IsWaiting b s'
    waiting-stirs e s' x =
        let on : PoisedOn u x.left first =
        poised-on u M'.link x.left first h.post (HasNo is_poll M') h.waits h.poised x.stirs
        (λ free. none-asked u h.post (all-right IsNoPoll first h.post (subst (All IsNoPoll) h.waits free.waiting))) in
        grind (arith, same-flag)

    pub waiting-loses : IsWaiting b (without_first v.near)
    waiting-loses = record {
      M = two_ends_without_first M';
      old = h.old;
      post = h.post;
      held = held-lost service tei q past d v.near M' h.held;
      waits = h.waits;
      delivered = h.delivered;
      rising = grind (arith, rising-lower);
      poised = h.poised;
      flag = h.flag;
    }

    pub waiting-acts : (act : EndStep) → (act ≡ receives → ⊥) → (act ≡ sends → ⊥) → IsFullTalkOf service tei act → IsTimelyOf act v → IsWaiting b (acting act v).near
    waiting-acts (requests r) untaken not is x =
        asked-at service tei d q past v M' h.held h.poised.up h.poised.sane (IsWaiting b) h (λ rq s' mild y. waiting-stirs (link.requested rq false) s' y) r is
    waiting-acts (expires timer) untaken not is x =
        expired-at service tei d q past v M' h.held h.poised.up h.poised.sane (IsWaiting b) (λ its s' can free y. waiting-stirs (link.expired its) s' y) timer is x
    waiting-acts act untaken o is x = grind (arith, waiting-loses)

    -- a response with F=1 is open
    pub is-awaited : HasNo is_final M' → ⊥
    is-awaited free =
        let all : All (λ (f : ControlFrame). is_final f.command f.control ≡ false) (h.old ++ its_ua ∷ h.post) =
        subst (All (λ (f : ControlFrame). is_final f.command f.control ≡ false)) (h.waits ∙ append_assoc h.old (its_ua ∷ []) h.post) free.waiting in
        let here = all-right (λ (f : ControlFrame). is_final f.command f.control ≡ false) h.old (its_ua ∷ h.post) all in
        true≢false (All-head (λ (f : ControlFrame). is_final f.command f.control ≡ false) its_ua h.post here)

    -- the end as it is
    abbrev laid : List ControlFrame → LinkEndpoint
    laid ws = record { terms = u; link = record M'.link { waiting = ws }; way = M'.way; delivered = [] }

    is-laid : (ws : List ControlFrame) → M'.link.waiting ≡ ws → M' ≡ laid ws
    is-laid ws e = λ i. record { terms = h.held.stands.terms i; link = record M'.link { waiting = e i }; way = M'.way; delivered = h.delivered i }

    module _ (f : ControlFrame) (fs : List ControlFrame) (e : M'.link.waiting ≡ f ∷ fs) where
      abbrev went : LinkEndpoint
      went = record { terms = u; link = with_waiting_rest f fs M'.link; way = M'.way ++ frame_of u f ∷ []; delivered = [] }

      pub rest-held : Its (happens next v.near) went
      rest-held = held-given service tei q past d v.near (laid (f ∷ fs)) (subst (Its v.near) (is-laid (f ∷ fs) e) h.held) refl

      -- it is a frame of before
      pub rest-waiting : (others : List ControlFrame) → h.old ≡ f ∷ others → fs ≡ (others ++ its_ua ∷ []) ++ h.post → IsWaiting (b || gives_information v.near) (happens next v.near)
      rest-waiting others is rest = record {
        M = went;
        old = others;
        post = h.post;
        held = rest-held;
        waits = rest;
        delivered = refl;
        rising = subst (Rising 0 0) (ap (λ fs. M'.way ++ frames_of u fs) is ∙ sym (append_assoc M'.way (frame_of u f ∷ []) (frames_of u others))) h.rising;
        poised = grind (arith, sane-after);
        flag = (flagged-at service tei d q past v M' h.held b h.flag ∙ ap (λ (x : LinkEndpoint). has_outstanding (after x.terms link.offer x.link)) (is-laid (f ∷ fs) e));
      }

    -- it is UA
    module _ (repeats : Tries) (w : Wire) (near : Held c service tei p [] w.near (end t (ringing repeats []) [])) (same : w.far ≡ happens next v.near) where
      ua-goes : M'.link.waiting ≡ its_ua ∷ h.post → h.old ≡ [] → Comes (b || gives_information v.near) w
      ua-goes e none =
          let m = end u (record M'.link { waiting = h.post }) [] in
          let its = rest-held its_ua h.post e in
          let far : Its (happens next v.near) (behind (M'.way ++ ua u ∷ []) m) =
          subst (Its (happens next v.near)) (λ i. record m { way = sym (append-nil (M'.way ++ ua u ∷ [])) i }) its in
          record {
            repeats = repeats;
            near = near;
            m = m;
            stale = M'.way;
            far = subst (λ s. Its s (behind (M'.way ++ ua u ∷ []) m)) (sym same) far;
            rising = subst (Rising 0 0) (ap (λ fs. M'.way ++ frames_of u fs) none ∙ append-nil M'.way) h.rising;
            loose =
                loose-poised t u rt ru face.n201 repeats (sound service tei p [] c w.near (end t (ringing repeats []) []) near).repeats m.link h.post refl (sound service tei q past d (happens next v.near) (went its_ua h.post e) its)
                (grind (arith, sane-after));
            rejecting = h.poised.rejecting;
            flag = (flagged-at service tei d q past v M' h.held b h.flag ∙ ap (λ (x : LinkEndpoint). has_outstanding (after x.terms link.offer x.link)) (is-laid (its_ua ∷ h.post) e));
          }

      pub waiting-gives : IsWaiting (b || gives_information v.near) w.far ⊎ Comes (b || gives_information v.near) w
      waiting-gives = go h.old refl
        where
          go : (old : List ControlFrame) → h.old ≡ old → IsWaiting (b || gives_information v.near) w.far ⊎ Comes (b || gives_information v.near) w
          go [] e = inr (ua-goes (h.waits ∙ ap (λ old. (old ++ its_ua ∷ []) ++ h.post) e) e)
          go (f ∷ fs) e =
              inl (subst (IsWaiting (b || gives_information v.near)) (sym same)
              (rest-waiting f ((fs ++ its_ua ∷ []) ++ h.post) (h.waits ∙ ap (λ old. (old ++ its_ua ∷ []) ++ h.post) e) fs e refl))

  -- ---- where UA is on its way

  module _ (b : Bool) (w : Wire) (h : Comes b w) where
    abbrev n : LinkEndpoint
    n = end t (answered h.repeats []) []

    abbrev before : List Parts
    before = h.stale ++ ua u ∷ []

    abbrev whole : LinkEndpoint
    whole = behind before h.m

    up-there : IsTrue (is_multiple_frame whole.link.state)
    up-there = h.loose.joined.far_up

    with-far : (w' : Wire) → Held c service tei p [] w'.near (end t (ringing h.repeats []) []) → (m : LinkEndpoint) (b' : Bool) → Its w'.far (behind before m) → Loose n m → m.link.rejecting ≡ false → b' ≡ has_outstanding m.link → Comes b' w'
    with-far w' near m b' far loose rejecting flag = record { repeats = h.repeats; near = near; m = m; stale = h.stale; far = far; rising = h.rising; loose = loose; rejecting = rejecting; flag = flag }

    comes-stirs : (act : TwoEndsStep) (e : link.Event) → (two_ends_acting act (record { near = h.m; far = n })) ≡ (record { near = with_link e h.m; far = n })
        → two_links_timely.IsTimelyStep act h.m n → (s' : Endpoint) → StirsAt service tei d q past (turned w) whole h.far up-there h.loose.far_sane e s' → Comes b (record w { far = s' })
    comes-stirs act e is timely s' x =
        let m' = record h.m { link = x.left } in
        let becomes : with_link e h.m ≡ m' = (λ i. record h.m { link = (x.becomes i).link; delivered = (x.becomes i).delivered }) in
        let loose = loose-turned (with_link e h.m) n (subst (λ (y : Ends). Loose y.near y.far) is (loose-after h.m n (loose-turned n h.m h.loose) act timely)) in
        with-far (record w { far = s' }) h.near m' b x.held (subst (Loose n) becomes loose) (x.stirs.rejecting ∙ h.rejecting) (same-flag b h.m.link x.left x.stirs.s x.stirs.a h.flag)

    timely-there : (its : LinkTimer) → FreeAs service tei d q past (turned w) whole h.far up-there h.loose.far_sane its → two_links_timely.IsTimely its h.m n
    timely-there its free state running =
        let asked = free state running in
        closed h.m n (record {
          commands = record { waiting = asked.waiting; way = all-right (λ (f : Parts). is_poll f.address.command f.control ≡ false) before h.m.way asked.way };
          responses = record { waiting = All-nil (λ (f : ControlFrame). is_final f.command f.control ≡ false); way = All-nil (λ (f : Parts). is_final f.address.command f.control ≡ false) };
        })

    pub comes-acts : (act : EndStep) → (act ≡ receives → ⊥) → (act ≡ sends → ⊥) → (act ≡ loses → ⊥) → IsFullTalkOf service tei act → IsTimelyOf act (turned w)
        → Comes b (turned (acting act (turned w)))
    comes-acts (requests r) untaken not nor is x =
        asked-at service tei d q past (turned w) whole h.far up-there h.loose.far_sane (λ s. Comes b (record w { far = s })) h
        (λ rq s' mild y. comes-stirs (link_requests rq false) (link.requested rq false) refl mild s' y) r is
    comes-acts (expires timer) untaken not nor is x =
        expired-at service tei d q past (turned w) whole h.far up-there h.loose.far_sane (λ s. Comes b (record w { far = s }))
        (λ its s' can free y. comes-stirs (link_expires its) (link.expired its) refl (can, timely-there its free) s' y) timer is x
    comes-acts act untaken o nor is x = grind arith

    pub comes-gives : Comes (b || gives_information w.far) (turned (acting sends (turned w)))
    comes-gives =
        let kept = (offer-gave h.m.terms h.loose.joined.far_ranges h.m.link h.loose.joined.far_sound h.m.link.waiting refl).same in
        let given = frame_given h.m.terms (given h.m.terms h.m.link) in
        let is : with_sent whole ≡ behind before (with_sent h.m) = (λ i. record (with_sent h.m) { way = append_assoc before h.m.way given i }) in
        with-far (record w { far = happens next w.far }) h.near (with_sent h.m) (b || gives_information w.far)
        (subst (Its (happens next w.far)) is (held-given service tei q past d w.far whole h.far kept))
        (loose-turned (with_sent h.m) n (loose-after h.m n (loose-turned n h.m h.loose) link_sends tt)) (offer-rejecting h.m.terms h.m.link ∙ h.rejecting)
        (flagged-at service tei d q past (turned w) whole h.far b h.flag)

    -- a response with F=1 is open
    pub comes-awaited : HasNo is_final whole → ⊥
    comes-awaited free =
        let all = subst (All (λ (f : Parts). is_final f.address.command f.control ≡ false)) (append_assoc h.stale (ua u ∷ []) h.m.way) free.way in
        let here = all-right (λ (f : Parts). is_final f.address.command f.control ≡ false) h.stale (ua u ∷ h.m.way) all in
        true≢false (All-head (λ (f : Parts). is_final f.address.command f.control ≡ false) (ua u) h.m.way here)

    pub comes-none : h.m.delivered ≡ []
    comes-none = h.loose.joined.there.delivered ∙ taken-none h.m.link.r [] refl (flows-low n h.m h.loose.there)

    -- the first on its way is lost: it was there before UA, or UA is not to come
    pub comes-loses : Comes b (turned (acting loses (turned w))) ⊎ IsAway b (without_first w.far)
    comes-loses = go h.stale h.rising (held-lost service tei q past d w.far whole h.far)
      where
        go : (stale : List Parts) → Rising 0 0 stale → Its (without_first w.far) (two_ends_without_first (behind (stale ++ ua u ∷ []) h.m))
            → Comes b (turned (acting loses (turned w))) ⊎ IsAway b (without_first w.far)
        go (f ∷ fs) rising far = inl (record {
          repeats = h.repeats;
          near = h.near;
          m = h.m;
          stale = fs;
          far = far;
          rising = grind (arith, rising-lower);
          loose = h.loose;
          rejecting = h.rejecting;
          flag = h.flag;
        })
        go [] rising far = inr (record {
          M = h.m;
          held = far;
          up = up-there;
          a = none-acknowledged;
          r = none-taken;
          rejecting = h.rejecting;
          delivered = comes-none;
          sane = h.loose.far_sane;
          rising = none-rising;
          flag = h.flag;
        })
          where
            low : h.m.link.r ≤ 0
            low = flows-low n h.m h.loose.there

            none-taken : h.m.link.r ≡ 0
            none-taken = omega (arith, low)

            none-acknowledged : h.m.link.a ≡ 0
            none-acknowledged = grind (arith, h.loose)

            none-rising : Rising 0 h.m.link.r (line_of h.m)
            none-rising = grind (arith, h.loose)

    -- the near end takes what was before UA, or UA
    ignores-first : (f : Parts) (fs : List Parts) → h.stale ≡ f ∷ fs → Rising 0 0 (f ∷ fs) → Comes b (acting receives w)
    ignores-first f fs e rising =
        let far : Its w.far (behind ((f ∷ fs) ++ ua u ∷ []) h.m) = subst (λ stale. Its w.far (behind (stale ++ ua u ∷ []) h.m)) e h.far in
        let lost : Its (without_first w.far) (behind (fs ++ ua u ∷ []) h.m) = held-lost service tei q past d w.far (behind ((f ∷ fs) ++ ua u ∷ []) h.m) far in
        let near = ignores-frame service tei c d p q face w h.repeats [] [] h.near past (behind ((f ∷ fs) ++ ua u ∷ []) h.m) far f ((fs ++ ua u ∷ []) ++ h.m.way) refl rising.0 rising.2 in
        record { repeats = h.repeats; near = near; m = h.m; stale = fs; far = lost; rising = rising-lower rising.0 0 0 fs (omega arith) rising.3; loose = h.loose; rejecting = h.rejecting; flag = h.flag }

    confirms : h.stale ≡ [] → LooseUp service tei c d p q (first_near service tei c d p q face back rt ru) past (acting receives w)
    confirms e =
        let f = ua u in
        let far : Its w.far (behind (f ∷ []) h.m) = subst (λ stale. Its w.far (behind (stale ++ f ∷ []) h.m)) e h.far in
        record {
          n = n;
          m = h.m;
          near = hears-ua service tei c d p q face w h.repeats [] [] h.near past (behind (f ∷ []) h.m) far u h.m.way refl;
          far = held-lost service tei q past d w.far (behind (f ∷ []) h.m) far;
          loose = h.loose;
        }

    pub comes-takes : Comes b (acting receives w) ⊎ LooseUp service tei c d p q (first_near service tei c d p q face back rt ru) past (acting receives w)
    comes-takes = go h.stale refl
      where
        go : (stale : List Parts) → h.stale ≡ stale → Comes b (acting receives w) ⊎ LooseUp service tei c d p q (first_near service tei c d p q face back rt ru) past (acting receives w)
        go [] e = inr (confirms e)
        go (f ∷ fs) e = inl (ignores-first f fs e (subst (Rising 0 0) e h.rising))
