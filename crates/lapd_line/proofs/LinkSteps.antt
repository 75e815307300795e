-- What a call on one link does to all of them: it is taken out of the list, and put back.
use Rattle.lapd_line.proofs.Vocabulary.{◌≡◌, ℕ, ◌<◌, ◌≤◌, List, length, get_or, set, option_map, Result, OnOk, None, Some, refl, sym, ap, subst, ◌∙◌, arith, Option, Bool, length-map, length-set, get_or_default, map-set_same, slice_get-map, slice_get-get_or, same_Some, Owned, Store, SameLimits, FocusPair, focus_pair, Link, Offer, BareReport, terms_of, told_with, Terms, offer, Config}
use Rattle.lapd_line.proofs.Vocabulary.{LinkFits, LinksStand, HasTerms, machine_at, link_pairs, terms_in, IsGiven, Offers, Refuses, Refusal, GoesOn, LinkStands, TellsOf, gives, get_or-set_same, Service, terms, map-set}
use Rattle.lapd_link.specs.{TeiAssigned}
use Rattle.std.proofs.Common.{Vec, Global}
use Rattle.std.proofs.lemmas.List.{set-get_or}
use Rattle.std.specs.Vec.{with_item}
use Rattle.std.specs.formers.vec.Vec.{holding_along}
use Rattle.model_link.specs.Events.{Event, Request}
use Rattle.model_link.specs.Requests.{refusal}
use Rattle.model_link.specs.Link as machine
use Rattle.model_link.specs.Machine.{after, given, told}
use Rattle.lapd_line.proofs.Vocabulary.{HasMessage, IfSome, IsFrame, IsUsed, frame_of, given_by}
use Rattle.lapd_line.proofs.LinkEvents.{Serves}

-- the link at a place, the machine for it, and what the shelf holds beside what it owns; and the way back
pub record Taken (c : Config) (links : List Link) (s : Store) (others : List Owned) (ms : List machine.Link) (number : ℕ) (x : Link) : Type 0 where
  pub rest : List Owned
  pub stands : LinkStands x s rest (machine_at ms number)
  pub queue : (terms_of x).queue ≡ c.queue
  pub control : (terms_of x).control ≡ c.control
  pub put_back : (t : Store) (y : Link) (l : machine.Link) → SameLimits s t → (terms_of y).n201 ≤ c.n201 → (terms_of y).queue ≡ c.queue → (terms_of y).control ≡ c.control
      → LinkStands y t rest l → LinksStand c (set links number y) t others (set ms number l)
  pub back : (t : Store) (y : Link) (l : machine.Link) → SameLimits s t → terms_of y ≡ terms_of x → LinkStands y t rest l
      → LinksStand c (set links number y) t others (set ms number l)

pub take_link : (c : Config) (links : List Link) (s : Store) (others : List Owned) (ms : List machine.Link) (number : ℕ) (x : Link) → number < length links → x ≡ get_or links number x → LinksStand c links s others ms → Taken c links s others ms number x
take_link c links s others ms number x within is st =
    record {
      rest = f.rest;
      stands = record { fits = f.holds.fits; wide = omega (arith, f.holds.narrow, st.wide); kept = record { lengths = f.holds.lengths; held = f.held } };
      queue = f.holds.queue;
      control = f.holds.control;
      put_back = put;
      back = λ t y l limits same st'.
          put t y l limits (subst (λ u. u.n201 ≤ c.n201) (sym same) f.holds.narrow) (ap (λ u. u.queue) same ∙ f.holds.queue) (ap (λ u. u.control) same ∙ f.holds.control) st';
    }
  where
    m : machine.Link
    m = machine_at ms number

    f : FocusPair link_pairs (LinkFits c) s links ms number x m others
    f = focus_pair link_pairs (LinkFits c) s links ms number x m others within (omega (arith, within, st.same)) is (get_or_default ms number machine.fresh m (omega (arith, within, st.same))) st.fits st.held

    put : (t : Store) (y : Link) (l : machine.Link) → SameLimits s t → (terms_of y).n201 ≤ c.n201 → (terms_of y).queue ≡ c.queue → (terms_of y).control ≡ c.control → LinkStands y t f.rest l → LinksStand c (set links number y) t others (set ms number l)
    put t y l limits narrow queue control st' =
        let fits : LinkFits c (y, l) = record { fits = st'.fits; lengths = st'.kept.lengths; narrow = narrow; queue = queue; control = control } in
        let both = f.back t y l fits st'.kept.held in
        record {
          wide = subst (λ n. c.n201 ≤ n) (sym limits.width) st.wide;
          same = length-set links number y ∙ st.same ∙ sym (length-set ms number l);
          fits = both.0;
          held = both.1;
        }

-- a link has the parameters that it has
pub terms_at : (links : List Link) (number : ℕ) (x : Link) (terms : Terms) → number < length links → x ≡ get_or links number x → HasTerms links number terms → terms_of x ≡ terms
terms_at links number x terms within is has =
    same_Some (terms_of x) terms (ap (λ y. Some (terms_of y)) is ∙ sym (slice_get-map terms_of links number ∙ ap (option_map terms_of) (slice_get-get_or links number x within)) ∙ has)

-- a place of the list is one of its vector
pub in_vec : (v : Vec Link Global) {number : ℕ} → number < length v.items → number < v.len
in_vec v h = omega (arith, h, v.ok.0)

-- what is put back as it was changes nothing
pub item_kept : (v : Vec Link Global) (number : ℕ) (x : Link) → x ≡ get_or v.items number x → with_item v number x ≡ v
item_kept v number x is = holding_along v (set v.items number x) v.items (ap (set v.items number) is ∙ set-get_or v.items number x) (with_item v number x).ok v.ok

-- a list is known by another name
pub at_place : {items links : List Link} (number : ℕ) {x : Link} → items ≡ links → x ≡ get_or items number x → x ≡ get_or links number x
at_place number {x} same is = subst (λ l. x ≡ get_or l number x) same is

pub terms_stay : (links : List Link) (number : ℕ) (x y : Link) → x ≡ get_or links number x → terms_of y ≡ terms_of x → terms_in (set links number y) ≡ terms_in links
terms_stay links number x y is same = map-set_same terms_of links number y x (same ∙ ap terms_of is)

-- What a link did at an event.
pub record Did (e : Event) (info : List ℕ) (x : Link) (s : Store) (y : Link) (t : Store) (answer : BareReport) : Type 0 where
  pub stands : (others : List Owned) (m : machine.Link) → LinkStands x s others m → LinkStands y t others (after (terms_of x) e m)
  pub told : (others : List Owned) (m : machine.Link) → LinkStands x s others m → told_with info answer ≡ told (terms_of x) e m
  pub cause : (others : List Owned) (m : machine.Link) → LinkStands x s others m → answer.cause ≡ None
  pub terms : terms_of y ≡ terms_of x
  pub limits : SameLimits s t

-- It was looked whether it has a frame.
abbrev pub IsLooked : Link → Bool → Type 0
IsLooked y looked = (s : Store) (others : List Owned) (m : machine.Link) → LinkStands y s others m → looked ≡ gives m (terms_of y)

-- one that begins has its parameters
pub opened_terms : (links : List Link) (number : ℕ) (y : Link) {t : Terms} → terms_of y ≡ t → terms_in (set links number y) ≡ set (terms_in links) number t
opened_terms links number y is = map-set terms_of links number y ∙ ap (set (terms_in links) number) is

-- A link may begin with these parameters.
pub record MayOpen (x : Link) (t : Terms) : Type 0 where
  pub queue : t.queue ≡ (terms_of x).queue
  pub control : t.control ≡ (terms_of x).control
  pub down : (s : Store) × (others : List Owned) × (m : machine.Link) × LinkStands x s others m × (m.state ≡ TeiAssigned)

-- The link at a place is changed.
module _ {links : List Link} {number : ℕ} {x : Link} (within : number < length links) (at : x ≡ get_or links number x) where
  pub part : (c : Config) {s : Store} (others : List Owned) (ms : List machine.Link) → LinksStand c links s others ms → Taken c links s others ms number x
  part c {s} others ms st = take_link c links s others ms number x within at st

  -- it stands, beside what others own
  pub part_stands : {s : Store} → (c : Config) × (others : List Owned) × (ms : List machine.Link) × LinksStand c links s others ms → (others : List Owned) × (m : machine.Link) × LinkStands x s others m
  part_stands (c, others, ms, st) = let f = part c others ms st in (f.rest, machine_at ms number, f.stands)

  -- what is so of it, whatever stands beside it, is so of the machine at its place
  pub of_part : (P : Terms → machine.Link → Type 0) {s : Store} → ((others : List Owned) (m : machine.Link) → LinkStands x s others m → P (terms_of x) m)
      → (c : Config) (terms : Terms) (others : List Owned) (ms : List machine.Link) → HasTerms links number terms → LinksStand c links s others ms → P terms (machine_at ms number)
  of_part P holds c terms others ms has st =
      let f = part c others ms st in
      subst (λ u. P u (machine_at ms number)) (terms_at links number x terms within at has) (holds f.rest (machine_at ms number) f.stands)

  pub refuses : {s : Store} (full : Bool) (r : Request) {why : Option Refusal} → ((others : List Owned) (m : machine.Link) → LinkStands x s others m → refusal (terms_of x) m full r ≡ why)
      → Refuses number full r links s why
  refuses full r {why} = of_part (λ u m. refusal u m full r ≡ why)

  goes_on : (e : Event) {s t : Store} {y : Link} → ((others : List Owned) (m : machine.Link) → LinkStands x s others m → LinkStands y t others (after (terms_of x) e m))
      → terms_of y ≡ terms_of x → SameLimits s t → GoesOn number e links s (set links number y) t
  goes_on e {t = t} {y} stands same limits = λ c terms others ms has st.
      let f = part c others ms st in
      subst (λ u. LinksStand c (set links number y) t others (set ms number (after u e (machine_at ms number)))) (terms_at links number x terms within at has)
      (f.back t y _ limits same (stands f.rest (machine_at ms number) f.stands))

  pub serves : {y : Link} {s t : Store} {e : Event} {info : List ℕ} {answer : BareReport} → Did e info x s y t answer
      → (c : Config) × (others : List Owned) × (ms : List machine.Link) × LinksStand c links s others ms
      → Serves number e info links s (set links number y) t answer
  serves {y} {e = e} {info} {answer} did standing = record {
    terms = terms_stay links number x y at did.terms;
    limits = did.limits;
    goes_on = goes_on e did.stands did.terms did.limits;
    told = of_part (λ u m. told_with info answer ≡ told u e m) did.told;
    cause = let (others, m, st) = part_stands standing in did.cause others m st;
  }

  -- what it has to give
  pub offers : {y : Link} {o : Option Offer}
      → ((s : Store) (others : List Owned) (m : machine.Link) → LinkStands x s others m → LinkStands y s others (after (terms_of x) offer m))
      → ((s : Store) (others : List Owned) (m : machine.Link) → LinkStands x s others m → given_by s o ≡ given (terms_of x) m)
      → ((s : Store) (others : List Owned) (m : machine.Link) → LinkStands x s others m → IfSome o (λ a. IsFrame (frame_of (terms_of x) a.frame)))
      → ((s : Store) (others : List Owned) (m : machine.Link) → LinkStands x s others m → IfSome o (λ a. IfSome a.contents (HasMessage s (terms_of x).n201)))
      → ((s : Store) (others : List Owned) (m : machine.Link) → LinkStands x s others m → IfSome o (λ a. IfSome a.contents (λ slot. IsUsed s slot)))
      → terms_of y ≡ terms_of x → Offers number links (set links number y) o
  offers {y} {o} stands gives frame slot used same = record {
    terms = terms_stay links number x y at same;
    goes_on = λ s. goes_on offer (stands s) same (record { slots = refl; width = refl });
    given = λ c terms s. of_part (λ u m. IsGiven s u m o) (λ others m st. record { given = gives s others m st; frame = frame s others m st; slot = slot s others m st; used = used s others m st }) c terms;
  }

  -- whether it has a frame
  pub tells : {looked : Bool} → IsLooked x looked → TellsOf number links looked
  tells {looked} h = λ c terms s. of_part (λ u m. looked ≡ gives m u) (h s) c terms

  -- a TEI comes to it: it may begin, and begins
  pub may_open : {c : Config} {s : Store} {others : List Owned} {ms : List machine.Link} {t : Terms} {service : Service} {tei : ℕ} → LinksStand c links s others ms → machine_at ms number ≡ machine.fresh → t ≡ terms c service tei → MayOpen x t
  may_open {c} {s} {others} {ms} stands fresh is =
      let f = part c others ms stands in
      record {
        queue = ap (λ t. t.queue) is ∙ sym f.queue;
        control = ap (λ t. t.control) is ∙ sym f.control;
        down = (s, f.rest, machine_at ms number, f.stands, ap (λ l. l.state) fresh);
      }

  pub opened_stands : {y : Link} {t : Terms} (c : Config) (service : Service) (tei : ℕ) → t ≡ terms c service tei → terms_of y ≡ t
      → ((s : Store) (others : List Owned) (m : machine.Link) → t.n201 ≤ s.width → LinkStands x s others m → LinkStands y s others machine.fresh)
      → (s : Store) (others : List Owned) (ms : List machine.Link) → LinksStand c links s others ms → LinksStand c (set links number y) s others (set ms number machine.fresh)
  opened_stands {y} {t} c service tei is same fresh = λ s others ms st.
      let f = part c others ms st in
      let all : terms_of y ≡ terms c service tei = same ∙ is in
      f.put_back s y machine.fresh (record { slots = refl; width = refl }) (subst (λ t. t.n201 ≤ c.n201) (sym all) (omega arith)) (ap (λ t. t.queue) all) (ap (λ t. t.control) all)
      (fresh s f.rest (machine_at ms number) (subst (λ t. t.n201 ≤ s.width) (sym is) st.wide) f.stands)

-- it is in its place after the change
pub put_in : (links : List Link) (number : ℕ) (y : Link) → number < length links → (number < length (set links number y)) × (y ≡ get_or (set links number y) number y)
put_in links number y within = (omega (arith, within, length-set links number y), sym (get_or-set_same links number y y within))

pub tells_now : (links : List Link) {number : ℕ} {y : Link} {looked : Bool} → number < length links → IsLooked y looked → TellsOf number (set links number y) looked
tells_now links {number} {y} within h = let (there, is) = put_in links number y within in tells there is h

-- as many links as before, where their parameters are the same
pub same_many : (new old : List Link) → terms_in new ≡ terms_in old → length new ≡ length old
same_many new old same = sym (length-map new terms_of) ∙ ap (λ l. length l) same ∙ length-map old terms_of

-- what holds of a result, by what holds of another
pub on_ok : {A E P Q : Type 0} (r : Result A E) → (P → Q) → OnOk r P → OnOk r Q
on_ok r f h = grind arith
