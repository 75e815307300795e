-- Two ends whose links are up, by what is on the line from each to the other: first what is on its way, and then what waits.
use Rattle.laws_wire.proofs.Vocabulary.{◌≡◌, ℕ, Bool, cond, IsTrue, List, [], ◌∷◌, ◌++◌, length, drop, None, refl, sym, ap, ◌∙◌, append_assoc, append-nil, arith, option_to_list, front_rest, Parts, State, Established, LinkTimer, ControlFrame, Terms, received, expired, offer, Link, is_multiple_frame, course, IsInRange, begun, LinkEndpoint, with_link, with_sent, event-delivers, frames_of}
use Rattle.laws_wire.proofs.Vocabulary.{frames-append, sender-goes, receiver-goes, sender-loses, receiver-loses, Reports, Up, no-reports, any_number, still, timer_7_up, t200_8_up, at-first, sender-hears, receiver-hears, Means, Rising, Gave, offer-gave, frame-taken, none-delivered, frame, after, IsSound, Course}
use Rattle.model_link.specs.Machine
use Rattle.model_link.specs.Counts.{with_expiry}
use Rattle.model_link.specs.Words.{with_counted}
use Rattle.model_link.specs.declared.counts.LinkCounts.{LinkCounts}
use Rattle.model_link.proofs.Direction.{Direction, line_of}

-- An end with this on its line.
abbrev pub bare : Link → Link
bare l = record l { waiting = [] }

abbrev pub shown : LinkEndpoint → List Parts → LinkEndpoint
shown n line = record n { link = bare n.link; way = line }

pub record Joint (n m : LinkEndpoint) (near far : List Parts) : Type 0 where
  pub there : Direction (shown n near) (shown m far)
  pub back : Direction (shown m far) (shown n near)

-- by the line alone
relined : (x y : LinkEndpoint) (near far : List Parts) → line_of x ≡ near → line_of y ≡ far → Direction x y → Direction (shown x near) (shown y far)
relined x y near far e e' h = grind (arith, append-nil)

-- what waits more
abbrev pub since : List ControlFrame → List ControlFrame → List ControlFrame
since ws ws' = drop (length ws) ws'

reports-since : (r : ℕ) (ws ws' : List ControlFrame) → Reports r ws ws' → Reports r [] (since ws ws')
reports-since r ws ws' h = record { news = h.news; more = front_rest ws' ws h.news h.more; are = h.are }

-- so the line grows by it
pub line-on : (t : Terms) (way first line : List Parts) (ws ws' news : List ControlFrame) → way ++ frames_of t ws ≡ first ++ line → ws' ≡ ws ++ news
    → way ++ frames_of t ws' ≡ first ++ (line ++ frames_of t news)
line-on t way first line ws ws' news e more = grind (arith, frames_of, frames-append, append_assoc)

-- the first on a line is lost
pub loses-first : (n m : LinkEndpoint) (f : Parts) (near far : List Parts) → Joint n m (f ∷ near) far → Joint n m near far
loses-first n m f near far h = assumption (sender-loses (shown n (f ∷ near)) (shown m far) h.there, receiver-loses (shown m far) (shown n (f ∷ near)) h.back)

-- A link goes on by itself: more contents may be accepted, and reports may wait.
pub record Goes (l l' : Link) (more : List (List ℕ)) : Type 0 where
  pub same : l'.contents ≡ l.contents ++ more
  pub still : l'.a ≡ l.a
  pub received : l'.r ≡ l.r
  pub reports : Reports l.r l.waiting l'.waiting

pub waits-more : (l l' : Link) (more : List (List ℕ)) → Goes l l' more → l'.waiting ≡ l.waiting ++ since l.waiting l'.waiting
waits-more l l' more g = g.reports.more ∙ ap (λ xs. l.waiting ++ xs) (sym (front_rest l'.waiting l.waiting g.reports.news g.reports.more))

pub goes-on : (n m : LinkEndpoint) (l' : Link) (more : List (List ℕ)) (near far : List Parts) → Goes n.link l' more → Joint n m near far
    → Joint (record n { link = l' }) m (near ++ frames_of n.terms (since n.link.waiting l'.waiting)) far
goes-on n m l' more near far g h =
    let news = since n.link.waiting l'.waiting in
    let line = near ++ frames_of n.terms news in
    let reports = reports-since n.link.r n.link.waiting l'.waiting g.reports in
    let y : Link = record l' { waiting = news } in
    record {
      there =
          relined (record (shown n near) { link = y }) (shown m far) line far refl (append-nil far)
          (sender-goes (shown n near) (shown m far) y more n.link.r g.same g.still reports h.there);
      back =
          relined (shown m far) (record (shown n near) { link = y }) far line (append-nil far) refl
          (receiver-goes (shown m far) (shown n near) y g.received reports h.back);
    }

-- an event that delivers nothing changes the link alone
pub only-link : (n : LinkEndpoint) (e : Rattle.model_link.specs.Events.Event) → (course n.terms e n.link).delivered ≡ None → with_link e n ≡ record n { link = after n.terms e n.link }
only-link n e none = grind (arith, append-nil)

pub accepts : (octets : List ℕ) (l : Link) → Goes l (record l { contents = l.contents ++ octets ∷ [] }) (octets ∷ [])
accepts octets l = record { same = refl; still = refl; received = refl; reports = no-reports l.r l.waiting }

-- a timer
module _ (t : Terms) (l : Link) where
  pub stays : Goes l l []
  stays = record { same = sym (append-nil l.contents); still = refl; received = refl; reports = no-reports l.r l.waiting }

  pub by-up : (c : Course) → Up l l.a l.r c → IsTrue (is_multiple_frame c.link.state) → Goes l c.link []
  by-up c h up = let x = h.stay up in record { same = x.same ∙ sym (append-nil l.contents); still = x.acknowledged; received = x.received; reports = x.reports }

  expired-goes : (here : State) → IsTrue (is_multiple_frame here) → (timer : LinkTimer) → IsTrue (is_multiple_frame (Machine.expired_in here timer t (begun l)).link.state)
      → Goes l (Machine.expired_in here timer t (begun l)).link []
  expired-goes Established before timer up = by-up _ ((timer_7_up t l {S = still l.s} timer).leads (begun l) (at-first t l)) up
  expired-goes here before timer up = grind (arith, by-up, t200_8_up, at-first, stays)

  either : (b : Bool) (u v : Course) → (IsTrue (is_multiple_frame u.link.state) → Goes l u.link []) → (IsTrue (is_multiple_frame v.link.state) → Goes l v.link [])
      → IsTrue (is_multiple_frame (cond b u v).link.state) → Goes l (cond b u v).link []
  either b u v x y up = grind arith

-- what is counted doesn't matter
recounted : (change : LinkCounts → LinkCounts) (l l' : Link) → Goes (with_counted change l) l' [] → Goes l l' []
recounted change l l' h = record { same = h.same; still = h.still; received = h.received; reports = h.reports }

module _ (t : Terms) (l : Link) where
  pub timer-goes : IsTrue (is_multiple_frame l.state) → (timer : LinkTimer) → IsTrue (is_multiple_frame (after t (expired timer) l).state) → Goes l (after t (expired timer) l) []
  timer-goes before timer up =
      either t l (Machine.is_running timer l) _ _
      (λ x. recounted (with_expiry timer) l _ (expired-goes t (with_counted (with_expiry timer) l) l.state before timer x)) (λ x. stays t l) up

  pub timer-delivers : (timer : LinkTimer) → (course t (expired timer) l).delivered ≡ None
  timer-delivers timer = none-delivered t l (course t (expired timer) l) (event-delivers t l (expired timer))

-- an end gives
pub record GivesOn (n m : LinkEndpoint) (first near far : List Parts) : Type 0 where
  pub news : List Parts
  pub line : line_of (with_sent n) ≡ first ++ (near ++ news)
  pub joint : Joint (with_sent n) m (near ++ news) far
  pub contents : (with_sent n).link.contents ≡ n.link.contents

pub gives-on : (n m : LinkEndpoint) (first near far : List Parts) → IsInRange n.terms → IsSound n.terms n.link → line_of n ≡ first ++ near → Joint n m near far → GivesOn n m first near far
gives-on n m first near far ranges sound e h =
    let c = course n.terms offer n.link in
    let g : Gave n.terms n.link c = offer-gave n.terms ranges n.link sound n.link.waiting refl in
    grind (arith, append-nil, append_assoc)

-- what the first on a line is
pub record IsMeant (f : Parts) : Type 0 where
  pub number : ℕ
  pub means : Means number f.control

pub first-means : (n m : LinkEndpoint) (f : Parts) (near far : List Parts) → Joint n m near (f ∷ far) → IsMeant f
first-means n m f near far h = let x : Rising n.link.a m.link.r (f ∷ (far ++ [])) = h.there.rising in record { number = x.0; means = x.2 }

-- an end hears it
pub record HearsOn (n m : LinkEndpoint) (f : Parts) (near far : List Parts) : Type 0 where
  pub waits : (with_link (received (frame f)) n).link.waiting ≡ n.link.waiting ++ since n.link.waiting (with_link (received (frame f)) n).link.waiting
  pub joint : Joint (with_link (received (frame f)) n) m (near ++ frames_of n.terms (since n.link.waiting (with_link (received (frame f)) n).link.waiting)) far
  pub contents : (with_link (received (frame f)) n).link.contents ≡ n.link.contents

pub hears-on : (n m : LinkEndpoint) (f : Parts) (near far : List Parts) → IsInRange n.terms → IsInRange m.terms → IsSound n.terms n.link → IsTrue (is_multiple_frame n.link.state)
    → IsTrue (is_multiple_frame (after n.terms (received (frame f)) n.link).state) → Joint n m near (f ∷ far) → HearsOn n m f near far
hears-on n m f near far ranges far-ranges sound before up h =
    let c = course n.terms (received (frame f)) n.link in
    let ds = n.delivered ++ option_to_list c.delivered in
    let ws = n.link.waiting in
    let news = since ws c.link.waiting in
    let line = near ++ frames_of n.terms news in
    let y : Link = record c.link { waiting = news } in
    let is = first-means n m f near far h in
    let this = frame-taken n.terms n.link before f.address.command f.info is.number f.control is.means in
    let stay = (this.took.by.stay up).2 in
    record {
      waits = (stay.reports.more ∙ ap (λ xs. ws ++ xs) (sym (front_rest c.link.waiting ws stay.reports.news stay.reports.more)));
      joint = record {
        there =
            relined (record (shown n near) { link = y; delivered = ds }) (record (shown m (f ∷ far)) { way = far }) line far refl (append-nil far)
            (sender-hears (shown n near) (shown m (f ∷ far)) f far y ds any_number ranges (grind arith) refl
            (λ p means.
            let other = frame-taken n.terms n.link before f.address.command f.info p f.control means in
            let by = other.took.by.stay up in
            let x = by.2 in
            (other.r, by.0, by.1, record { same = x.same; acknowledged = x.acknowledged; sent = x.sent; received = x.received; reports = reports-since other.r ws c.link.waiting x.reports }))
            h.there);
        back =
            relined (record (shown m (f ∷ far)) { way = far }) (record (shown n near) { link = y; delivered = ds }) far line (append-nil far) refl
            (receiver-hears (shown n near) (shown m (f ∷ far)) f far y ds this.r this.delivered far-ranges refl this.advance stay.received
            (reports-since this.r ws c.link.waiting stay.reports) (ap (λ o. n.delivered ++ option_to_list o) (this.took.delivered up)) h.back);
      };
      contents = stay.same;
    }
