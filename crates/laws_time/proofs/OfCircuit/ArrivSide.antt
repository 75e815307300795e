-- An end of the clocked circuit and its station: which errors are told as T200 expires, and which frames are under way.
use Rattle.laws_time.proofs.Vocabulary.{All, All-cons, All-head, All-nil, All-tail, Bool, Carries, Config, Control, ControlFrame, Course, ErrorCode, FrameEndpoint as Endpoint, HasNo, IsCarried, IsInRange, IsWaitingFrame, LineTold, Link, LinkEndpoint, LinkIsSound, List, MayRepeat, None, Note, OctetEndpoint, Option, Parts}
use Rattle.laws_time.proofs.Vocabulary.{Request, Service, Some, StationStands, StreamEvent as Event, T200, TellNoError, Terms, TimedEndpoint, [], ap, append-nil, append_cancel_left, arith, as_endpoint, asks, course, error_in, expired, expires-said, expiry, fall_due, false, flat_map, flat_map-append, fold, framed, frames_among, gained, happens}
use Rattle.laws_time.proofs.Vocabulary.{heard_by, heard_in, is_error, is_used_up, length, length-append, link-sound, list_any, list_any-append, map, none-heard, one-heard, or-none, or_parts, own_side, parts_of, port_of, reading, refl, said_by, spelling, subst, sym, terms, true, without_first, ℕ, ◌*◌, ◌++◌, ◌+◌, ◌<◌, ◌∙◌}
use Rattle.laws_time.proofs.Vocabulary.{◌∷◌, ◌≡◌, ◌≤◌}
use Rattle.lapd_frame.specs.declared.timers.Timer.TheVariants as timers
use Rattle.model_card.specs.ports.Port as port
use Rattle.laws_wire.specs.Wire.{answered, told_by}
use Rattle.laws_time.specs.circuit.LongEnough.{is_of}
use Rattle.laws_time.proofs.OfCircuit.ArrivAs.{station}
use Rattle.laws_time.proofs.OfCircuit.ArrivWay.{Going, past-flags}
use Rattle.laws_time.proofs.OfCircuit.Words.{Ends, IsOwn, Sends, bare, falls-keep, fine, fold-keeps, given-short, last-is, out, ring, text, text-kind, text_length}
use Rattle.laws_time.proofs.OfCircuit.Sender.{WaitIn}

abbrev pub codes : List LineTold → List ErrorCode
codes ts = flat_map error_in (flat_map (λ (t : LineTold). t.notes) ts)

abbrev pub IsFair : List LineTold → Type 0
IsFair ts = list_any is_used_up (codes ts) ≡ false

pub codes-append : (ts us : List LineTold) → codes (ts ++ us) ≡ codes ts ++ codes us
codes-append ts us = grind (arith, flat_map-append)

pub fair-parts : (ts us : List LineTold) → IsFair (ts ++ us) → IsFair ts × IsFair us
fair-parts ts us is = grind (arith, or_parts, list_any, is_used_up, list_any-append, codes-append)

-- A link whose T200 expires.
t200-used : (t : Terms) (l : Link) → list_any is_used_up (flat_map error_in (course t (expired T200) l).notes) ≡ false → list_any is_error (course t (expired T200) l).notes ≡ false
t200-used t l fair = grind arith

said-fair : (c : Course) → IsFair (said_by c) → list_any is_used_up (flat_map error_in c.notes) ≡ false
said-fair c fair = by c.notes refl
  where
    by : (ns : List Note) → c.notes ≡ ns → list_any is_used_up (flat_map error_in ns) ≡ false
    by [] e = refl
    by (n ∷ ns) e = grind (arith, heard_by, append-nil)

none-said : (c : Course) → list_any is_error c.notes ≡ false → TellNoError (said_by c)
none-said c none = grind (arith, heard_by)

module _ (service : Service) (tei place : ℕ) (c : Config) (s : Endpoint) (n : LinkEndpoint) (h : StationStands c service tei place s n) where
  stands-fair : StationStands s.card.config service tei place (record s { told = [] }) n
  stands-fair = grind arith

  said : told_by (answered (expiry (timers.T200 service tei)) s) ≡ said_by (course n.terms (expired T200) n.link)
  said = expires-said service tei place (record s { told = [] }) n stands-fair (timers.T200 service tei) T200 (λ l. refl)

  -- So no error is told there, where N200 is not used up.
  pub fair-may : IsFair (told_by (answered (expiry (timers.T200 service tei)) s)) → MayRepeat service tei s
  fair-may fair = grind (arith, said, none-said, course, t200-used, said-fair)

-- ---- no frame of a kind is under way from an end that gave all of that kind: neither on its way, nor waiting

-- Those behind the first of some are among them.
all-behind : (P : List ℕ → Type 0) (fs : List (List ℕ)) (xs : List Event) (gs : List (List ℕ)) → framed fs ≡ xs ++ framed gs → All P fs → All P gs
all-behind P fs [] gs is all = subst (All P) (same fs gs is) all
  where
    same : (fs gs : List (List ℕ)) → framed fs ≡ framed gs → fs ≡ gs
    same [] [] is = refl
    same [] (g ∷ gs) is = absurd (cc is)
    same (f ∷ fs) [] is = absurd (cc is)
    same (f ∷ fs) (g ∷ gs) is = let one : f ≡ g = cc is in let more = same fs gs (cc is) in λ i. one i ∷ more i
all-behind P [] (x ∷ xs) gs is all = absurd (cc is)
all-behind P (f ∷ fs) (x ∷ xs) gs is all = all-behind P fs xs gs (cc is) (All-tail P f fs all)

module _ (c : Config) (service : Service) (tei : ℕ) (ranged : IsInRange c) where
  -- ---- the frames on its way, as parts

  abbrev Own : List ℕ → Type 0
  Own octets = IsOwn c service tei 0 ranged octets

  pub parts : (fs : List (List ℕ)) → All (IsOwn c service tei 0 ranged) fs → List Parts
  parts [] all = []
  parts (o ∷ os) all = (All-head (IsOwn c service tei 0 ranged) o os all).0 ∷ parts os (All-tail (IsOwn c service tei 0 ranged) o os all)

  parts-spelled : (fs : List (List ℕ)) (all : All (IsOwn c service tei 0 ranged) fs) → fs ≡ map (spelling (own_side c)) (parts fs all)
  unfolding parts
  parts-spelled [] all = refl
  parts-spelled (o ∷ os) all =
      let first = All-head (IsOwn c service tei 0 ranged) o os all in
      let more = parts-spelled os (All-tail (IsOwn c service tei 0 ranged) o os all) in λ i. first.1 i ∷ more i

  parts-carried : (fs : List (List ℕ)) (all : All (IsOwn c service tei 0 ranged) fs) → All (IsCarried c service tei) (parts fs all)
  unfolding parts
  parts-carried [] all = All-nil (IsCarried c service tei)
  parts-carried (o ∷ os) all =
      let first = All-head (IsOwn c service tei 0 ranged) o os all in
      All-cons (IsCarried c service tei) first.0 (parts os (All-tail (IsOwn c service tei 0 ranged) o os all)) first.2 (parts-carried os (All-tail (IsOwn c service tei 0 ranged) o os all))

  module _ (s : OctetEndpoint) (h : Ends c service tei 0 ranged s) (way : List ℕ) (there : List (List ℕ)) (goes : Going c.n201 (port_of s) way there) where
    pub are-own : All (IsOwn c service tei 0 ranged) there
    are-own = all-behind Own (frames_among (port_of s).items) (heard_in c.n201 goes.before) there goes.flow.are h.frames

    pub stands : (ts : List LineTold) → StationStands c service tei 0 (station there ts s) (record (bare c service tei 0 ranged h.its) { way = parts there are-own })
    stands ts = record {
      config = h.stands.config;
      sound = h.stands.sound;
      within = h.stands.within;
      speaks = h.stands.speaks;
      terms = refl;
      way = parts-spelled there are-own;
      carried = parts-carried there are-own;
    }

    -- All of a kind was given before what is in transit.
    module _ (kind : Bool → Control → Bool) (most : ℕ) (ok : Sends c.n201 (is_of kind c) most (port_of s) (ring c service tei 0 ranged h.its)) (late : goes.many + most < length goes.before) where
      abbrev IsNot : List ℕ → Type 0
      IsNot o = is_of kind c o ≡ false

      come : (x : List ℕ) × Carries c.n201 (port_of s) way x there × (most < length x)
      come = past-flags c.n201 (port_of s) way there goes (fine c service tei 0 ranged s h).sound most late

      given-long : most + 1 ≤ length (port_of s).given
      given-long = let all = ap length come.1.given ∙ length-append come.0 way in let long = come.2 in omega (arith, all, long)

      text-long : 8 * (most + 1) ≤ text_length (port_of s).items
      text-long = let short = given-short c.n201 (port_of s) (fine c service tei 0 ranged s h) in let long = given-long in omega (arith, short, long)

      is-not : (o : List ℕ) → (is_of kind c o ≡ true → ⊥) → is_of kind c o ≡ false
      is-not o nay = grind arith

      -- those that are given in part, or not at all
      on-line : (fs : List (List ℕ)) → (out c.n201 (port_of s) (fine c service tei 0 ranged s h)).on_its_way ≡ fs → length fs ≤ 1 → All (λ o. is_of kind c o ≡ false) fs
      on-line [] is few = All-nil IsNot
      on-line (f ∷ []) is few =
          let last = last-is c.n201 (port_of s) (fine c service tei 0 ranged s h) f is (fine c service tei 0 ranged s h).on.cut in
          All-cons IsNot f [] (is-not f (λ its. let bound = ok.last last.0 f last.1 its in let long = text-long in omega (arith, bound, long))) (All-nil IsNot)
      on-line (f ∷ g ∷ fs) is few = absurd (omega (arith, few))

      way-then : (v : ℕ) (rest before : List ℕ) (fs : List (List ℕ)) → Carries c.n201 (port_of s) (v ∷ rest) before fs → most < length before
          → ((fs : List (List ℕ)) → Carries c.n201 (port_of s) rest (before ++ v ∷ []) fs → most < length (before ++ v ∷ []) → (All (λ o. is_of kind c o ≡ false) fs)) → All (λ o. is_of kind c o ≡ false) fs
      way-then v rest before fs carries past then = go (gained c.n201 before v) refl
        where
          longer : most < length (before ++ v ∷ [])
          longer = let more = length-append before (v ∷ []) in omega (arith, more, past)

          go : (g : Option Event) → gained c.n201 before v ≡ g → All (λ o. is_of kind c o ≡ false) fs
          go None none = then fs (none-heard c.n201 (port_of s) (v ∷ rest) before fs carries v rest refl none) longer
          go (Some e) some =
              let f = fine c service tei 0 ranged s h in let x = one-heard c.n201 (port_of s) (v ∷ rest) before fs carries f.sound f.on v rest e refl some in
              subst (All IsNot) (sym x.frames_are) (All-cons IsNot x.first x.rest
              (is-not x.first (λ its. let early = ok.done before v rest x.first carries.given (some ∙ ap (λ e. Some e) x.event) its in omega (arith, early, past))) (then x.rest x.carries longer))

      none-of-way : (rest before : List ℕ) (fs : List (List ℕ)) → Carries c.n201 (port_of s) rest before fs → most < length before → All (λ o. is_of kind c o ≡ false) fs
      none-of-way [] before fs carries past =
          let f = fine c service tei 0 ranged s h in let o = out c.n201 (port_of s) f in let given : (port_of s).given ≡ before = carries.given ∙ append-nil before in
          let same : framed o.on_its_way ≡ framed fs = grind (arith, append_cancel_left, heard_in, framed) in all-behind IsNot o.on_its_way [] fs same (on-line o.on_its_way refl o.one)
      none-of-way (v ∷ rest) before fs carries past = way-then v rest before fs carries past (λ fs carries longer. none-of-way rest (before ++ v ∷ []) fs carries longer)

      -- and those that wait
      sound : LinkIsSound (terms c service tei) h.its
      sound = link-sound service tei 0 (as_endpoint [] s) (bare c service tei 0 ranged h.its)
          (subst (λ d. StationStands d service tei 0 (as_endpoint [] s) (bare c service tei 0 ranged h.its)) (sym h.stands.config) h.stands)

      abbrev Not : ControlFrame → Type 0
      Not f = kind f.command f.control ≡ false

      none-waits : (a : ℕ) (ws : List ControlFrame) → 8 * (most + 1) ≤ a → WaitIn c.n201 (is_of kind c) most a (map (text c service tei) ws) → All (IsWaitingFrame (terms c service tei)) ws
          → All (λ f. kind f.command f.control ≡ false) ws
      unfolding WaitIn
      none-waits a [] long w all = All-nil Not
      none-waits a (f ∷ ws) long w all =
          All-cons Not f ws (by (kind f.command f.control) refl) (none-waits (a + 72) ws (omega (arith, long)) w.1 (All-tail (IsWaitingFrame (terms c service tei)) f ws all))
        where
          by : (b : Bool) → kind f.command f.control ≡ b → b ≡ false
          by true e = let bound = w.0 (text-kind c service tei 0 ranged kind f (All-head (IsWaitingFrame (terms c service tei)) f ws all) ∙ e) in absurd (omega (arith, bound, long))
          by false e = refl

      none-parts : (fs : List (List ℕ)) (all : All (IsOwn c service tei 0 ranged) fs) → All (λ o. is_of kind c o ≡ false) fs → All (λ (f : Parts). kind f.address.command f.control ≡ false) (parts fs all)
      unfolding parts
      none-parts [] all none = All-nil (λ (f : Parts). kind f.address.command f.control ≡ false)
      none-parts (o ∷ os) all none =
          let first = All-head Own o os all in
          All-cons (λ (f : Parts). kind f.address.command f.control ≡ false) first.0 (parts os (All-tail Own o os all)) (sym (or-none (kind first.0.address.command first.0.control))
          ∙ sym (ap (λ r. list_any (λ (f : Parts). kind f.address.command f.control) (parts_of r)) (ap (reading (own_side c)) first.1 ∙ first.2.carried.read)) ∙ All-head IsNot o os none)
          (none-parts os (All-tail Own o os all) (All-tail IsNot o os none))

      pub has-none : HasNo kind (record (bare c service tei 0 ranged h.its) { way = parts there are-own })
      has-none = record {
        waiting = none-waits (text_length (port_of s).items) h.its.waiting text-long ok.wait sound.frames;
        way = none-parts there are-own (none-of-way way come.0 there come.1 come.2);
      }

-- What is told later leaves what was told.
pub fair-happens : (e : port.Event) (a : TimedEndpoint) → IsFair (happens e a).at.told → IsFair a.at.told
fair-happens e a fair = (fair-parts a.at.told _ fair).0

pub fair-asks : (rs : List Request) (a : TimedEndpoint) → IsFair (fold asks a rs).at.told → IsFair a.at.told
fair-asks rs a = fold-keeps asks (λ r. Unit {0}) (λ u. IsFair u.at.told → IsFair a.at.told) (λ r u is was fair. was (fair-happens (port.request r) u fair)) rs (λ k d lt. tt) a (λ fair. fair)

pub fair-falls : (k : ℕ) (a : TimedEndpoint) → IsFair (fall_due k a).at.told → IsFair a.at.told
fair-falls k a =
    falls-keep (λ u. IsFair u.at.told → IsFair a.at.told) (λ x u is was fair. was (fair-happens (port.expiry x.timer) (record u { clock = without_first u.clock }) fair)) k a (λ fair. fair)
